-- The examples of legal lists.
use Rattle.std.proofs.Common.{◌≡◌, ◌≢◌, ℕ, zero, suc, true, false, true≢false, List, [], ◌∷◌, ◌++◌, get_or, Option, Some, None, refl, sym, ◌∙◌, ap, subst, arith}
use Rattle.std.proofs.lemmas.Bool.Decides.{nat_tests}
use Rattle.scc_base.specs.Calls.{DataCall, Bar, Message}
use Rattle.scc_proto.specs.Legality.{Outgoing, Standing, CallStep, in_group, call_at, Makes, OwnStep, IsLegal, no_slots}
use Rattle.scc_proto.specs.LegalExamples.{one_group, lists_of, slot_of_first, four_bytes, send_of_message, receive_of_message, posting}
use Rattle.scc_proto.proofs.Legality.StepLaws.{own_step, step_told, first_call, itself}
use Rattle.scc_proto.proofs.Legality.LegalLaws.{legal_grown, legal_at_start}
use Rattle.scc_proto.proofs.Legality.LegalMessages.{legal_messages, legal_barriers}
use Rattle.scc_proto.proofs.Messages.Growth.{grows_by_post, grows_by_take, grows_by_pair, grows_by_barrier}

-- a family of lists with no list but those of ranks 0 and 1
elsewhere : (a b : List DataCall) (k : ℕ) → k ≢ 0 → k ≢ 1 → [] ≡ lists_of a b [] k
elsewhere a b zero first second = absurd (first refl)
elsewhere a b (suc zero) first second = absurd (second refl)
elsewhere a b (suc (suc zero)) first second = refl
elsewhere a b (suc (suc (suc k))) first second = refl

other_slots : (o : Option Outgoing) (k : ℕ) → k ≢ 0 → slot_of_first o k ≡ None
other_slots o zero first = absurd (first refl)
other_slots o (suc k) first = refl

pub sent_and_received : IsLegal 3 one_group (lists_of (send_of_message (four_bytes 1) ∷ []) (receive_of_message 0 (four_bytes 1) ∷ []) []) no_slots
sent_and_received =
    legal_grown 3 one_group (λ k. []) _ no_slots no_slots (legal_at_start 3 one_group)
    (grows_by_pair 3 one_group (λ k. []) _ no_slots no_slots 0 (four_bytes 1) (λ is. absurd (omega (arith, is))) refl refl refl
    (λ k first second. sym (elsewhere (send_of_message (four_bytes 1) ∷ []) (receive_of_message 0 (four_bytes 1) ∷ []) k first second))
    (λ k. refl))

abbrev one_posted : ℕ → List DataCall
one_posted = lists_of (posting (four_bytes 1) ∷ []) [] []

abbrev one_slot : ℕ → Option Outgoing
one_slot = slot_of_first (Some (four_bytes 1))

only_first : (a : List DataCall) (k : ℕ) → k ≢ 0 → lists_of a [] [] k ≡ []
only_first a zero first = absurd (first refl)
only_first a (suc zero) first = refl
only_first a (suc (suc zero)) first = refl
only_first a (suc (suc (suc k))) first = refl

pub posted : IsLegal 3 one_group one_posted one_slot
posted =
    legal_grown 3 one_group (λ k. []) one_posted no_slots one_slot (legal_at_start 3 one_group)
    (grows_by_post 3 one_group (λ k. []) one_posted no_slots one_slot 0 (four_bytes 1) refl refl
    (only_first (posting (four_bytes 1) ∷ [])) refl (other_slots (Some (four_bytes 1))))

abbrev barrier_passed : ℕ → List DataCall
barrier_passed = lists_of (posting (four_bytes 1) ∷ Bar 0 ∷ []) (Bar 0 ∷ []) (Bar 0 ∷ [])

all_passed : (k : ℕ) → in_group 3 one_group 0 0 k ≡ true → barrier_passed k ≡ one_posted k ++ Bar 0 ∷ []
all_passed zero within = refl
all_passed (suc zero) within = refl
all_passed (suc (suc zero)) within = refl
all_passed (suc (suc (suc k))) within = absurd (grind (arith, nat_tests))

no_other : (k : ℕ) → in_group 3 one_group 0 0 k ≡ false → barrier_passed k ≡ one_posted k
no_other zero without = absurd (true≢false without)
no_other (suc zero) without = absurd (true≢false without)
no_other (suc (suc zero)) without = absurd (true≢false without)
no_other (suc (suc (suc k))) without = refl

abbrev all_received : ℕ → List DataCall
all_received = lists_of (posting (four_bytes 1) ∷ Bar 0 ∷ []) (Bar 0 ∷ receive_of_message 0 (four_bytes 1) ∷ []) (Bar 0 ∷ [])

but_the_receiver : (k : ℕ) → k ≢ 1 → all_received k ≡ barrier_passed k
but_the_receiver zero other = refl
but_the_receiver (suc zero) other = absurd (other refl)
but_the_receiver (suc (suc zero)) other = refl
but_the_receiver (suc (suc (suc k))) other = refl

pub posted_and_received : IsLegal 3 one_group all_received no_slots
posted_and_received =
    legal_grown 3 one_group barrier_passed all_received one_slot no_slots
    (legal_grown 3 one_group one_posted barrier_passed one_slot one_slot posted
    (grows_by_barrier 3 one_group one_posted barrier_passed one_slot one_slot 0 0
    (record { below = omega arith; zeroth = refl }) all_passed no_other (λ k. refl)))
    (grows_by_take 3 one_group barrier_passed all_received one_slot no_slots 0 (four_bytes 1) refl refl but_the_receiver refl
    (λ k other. sym (other_slots (Some (four_bytes 1)) k other)))

-- a receive cannot be the first call where no slot is full
no_receive : (a from : ℕ) (m : Outgoing) (rest : List DataCall) (s t : Standing) → s.calls a ≡ receive_of_message from m ∷ rest → s.slots from ≡ None → OwnStep 3 one_group a s t → ⊥
no_receive a from m rest s t is empty (step, owner, makes) =
    let first = first_call 3 one_group step a s t owner makes in
    let called : call_at step a ≡ receive_of_message from m = cc in
    let the_step : step ≡ own_step a (receive_of_message from m) = sym (step_told step a owner) ∙ ap (own_step a) called in
    let made : Makes 3 one_group (own_step a (receive_of_message from m)) s t = subst (λ (x : CallStep). Makes 3 one_group x s t) the_step makes in
    let full = (made.slots.changed from (itself from)).0 in
    cc

abbrev crossed : ℕ → List DataCall
crossed = lists_of (receive_of_message 1 (four_bytes 0) ∷ send_of_message (four_bytes 1) ∷ []) (receive_of_message 0 (four_bytes 1) ∷ send_of_message (four_bytes 0) ∷ []) []

no_first : (a : ℕ) (t : Standing) → OwnStep 3 one_group a (record { calls = crossed; slots = no_slots }) t → ⊥
no_first zero t own = no_receive 0 1 (four_bytes 0) (send_of_message (four_bytes 1) ∷ []) _ t refl refl own
no_first (suc zero) t own = no_receive 1 0 (four_bytes 1) (send_of_message (four_bytes 0) ∷ []) _ t refl refl own
no_first (suc (suc zero)) t own = let first = first_call 3 one_group own.0 2 _ t own.1 own.2 in cc
no_first (suc (suc (suc k))) t own = let first = first_call 3 one_group own.0 (suc (suc (suc k))) _ t own.1 own.2 in cc

pub both_receive_first : (slots : ℕ → Option Outgoing) → IsLegal 3 one_group crossed slots → ⊥
both_receive_first slots (zero, end) = let none = end.calls 0 in cc
both_receive_first slots (suc n, (a, t, lowest, own, rest)) = no_first a t own

pub barrier_of_two : (slots : ℕ → Option Outgoing) → IsLegal 3 one_group (lists_of (Bar 0 ∷ []) (Bar 0 ∷ []) []) slots → ⊥
barrier_of_two slots legal =
    let level : 1 ≡ 0 = legal_barriers 3 one_group _ slots legal 0 0 2 (omega arith) (omega arith) refl in omega (arith, level)

abbrev fourth_byte : List Message → ℕ
fourth_byte [] = 0
fourth_byte (m ∷ rest) = get_or m.bytes 3 0

pub other_bytes : (slots : ℕ → Option Outgoing) → IsLegal 3 one_group (lists_of (send_of_message (four_bytes 1) ∷ []) (receive_of_message 0 (record (four_bytes 1) { bytes = 1 ∷ 2 ∷ 3 ∷ 5 ∷ [] }) ∷ []) []) slots → ⊥
other_bytes slots legal =
    let same : 4 ≡ 5 = ap fourth_byte (legal_messages 3 one_group _ slots legal 0 1) in omega (arith, same)
