-- What legal lists say of the messages of a pair of ranks, and of the barriers of a group.
use Rattle.std.proofs.Common.{◌≡◌, ℕ, zero, suc, ◌+◌, ◌<◌, ◌==◌, Bool, true, false, if◌then◌else◌, List, [], ◌∷◌, ◌++◌, Option, Some, refl, sym, ◌∙◌, ap, ap₂, subst, append_assoc, append-nil, arith}
use Rattle.std.proofs.lemmas.Bool.Decides.{nat_tests}
use Rattle.scc_base.specs.Calls.{DataCall, Send, Recv, Bar, Message}
use Rattle.scc_base.specs.Changes.{both}
use Rattle.scc_base.specs.Runs.{Runs}
use Rattle.scc_proto.specs.Messages.{sent_messages, received_messages, barriers_of}
use Rattle.scc_proto.specs.Legality.{Outgoing, Standing, CallStep, Posting, Taking, Pairing, Meeting, in_group, Makes, OwnStep, IsUsedUp, IsLegal, no_slots, slot_message}
use Rattle.scc_proto.proofs.Legality.LegalLaws.{legal_in_some_order}

-- a conditional head is a conditional list before the rest
gain : {A : Type 0} (b : Bool) (x : A) (l : List A) → (if b then x ∷ l else l) ≡ (if b then x ∷ [] else []) ++ l
gain true x l = refl
gain false x l = refl

by_test : {A : Type 0} (b : Bool) → (b ≡ true → A) → (b ≡ false → A) → A
by_test true yes_it not_it = yes_it refl
by_test false yes_it not_it = not_it refl

-- what a step hands over from rank i to rank r
abbrev delivered : ℕ → ℕ → CallStep → List Message
delivered i r (Posting from m) = []
delivered i r (Taking from m) = if i == from then slot_message r (Some m) else []
delivered i r (Pairing from m) = if i == from then slot_message r (Some m) else []
delivered i r (Meeting comm root) = []

-- what rank i has still to hand over to rank r
abbrev owed : ℕ → ℕ → Standing → List Message
owed i r s = slot_message r (s.slots i) ++ sent_messages r (s.calls i)

owed_same : (i r : ℕ) (s t : Standing) → s.slots i ≡ t.slots i → sent_messages r (s.calls i) ≡ sent_messages r (t.calls i) → owed i r s ≡ owed i r t
owed_same i r s t slots calls = ap₂ (λ (o : Option Outgoing) (l : List Message). slot_message r o ++ l) slots calls

module _ (nue : ℕ) (keys : ℕ → ℕ → ℕ) where
  owed_by_post : (i r from : ℕ) (m : Outgoing) (s t : Standing) → Makes nue keys (Posting from m) s t → owed i r s ≡ owed i r t
  owed_by_post i r from m s t makes = by_test (i == from)
      (λ at.
      let calls = makes.calls.changed i at in
      let (before, after) = makes.slots.changed i at in
      ap₂ (λ (o : Option Outgoing) (l : List DataCall). slot_message r o ++ sent_messages r l) before calls
      ∙ gain (m.to == r) (record { head = m.head; bytes = m.bytes }) (sent_messages r (t.calls i))
      ∙ ap (λ (o : Option Outgoing). slot_message r o ++ sent_messages r (t.calls i)) (sym after))
      (λ other. owed_same i r s t (makes.slots.others i other) (ap (sent_messages r) (makes.calls.others i other)))

  owed_by_take : (i r from : ℕ) (m : Outgoing) (s t : Standing) → Makes nue keys (Taking from m) s t → owed i r s ≡ delivered i r (Taking from m) ++ owed i r t
  owed_by_take i r from m s t makes = by_test (i == from)
      (λ at.
      let (before, after) = makes.slots.changed i at in
      ap₂ (λ (o : Option Outgoing) (l : List Message). slot_message r o ++ l) before sends
      ∙ ap₂ (λ (l : List Message) (o : Option Outgoing). l ++ (slot_message r o ++ sent_messages r (t.calls i))) (sym (ap (λ (b : Bool). if b then slot_message r (Some m) else []) at)) (sym after))
      (λ other.
      owed_same i r s t (makes.slots.others i other) sends
      ∙ ap (λ (b : Bool). (if b then slot_message r (Some m) else []) ++ owed i r t) (sym other))
    where
      sends : sent_messages r (s.calls i) ≡ sent_messages r (t.calls i)
      sends = by_test (i == m.to) (λ at. ap (sent_messages r) (makes.calls.changed i at)) (λ other. ap (sent_messages r) (makes.calls.others i other))

  owed_by_pair : (i r from : ℕ) (m : Outgoing) (s t : Standing) → Makes nue keys (Pairing from m) s t → owed i r s ≡ delivered i r (Pairing from m) ++ owed i r t
  owed_by_pair i r from m s t makes = by_test (i == from)
      (λ at.
      let (before, after) = makes.slots.changed i at in
      let within : both from m.to i ≡ true = grind (arith, nat_tests) in
      let calls : s.calls i ≡ Send m.to m.head m.bytes ∷ t.calls i = makes.calls.changed i within ∙ ap (λ (b : Bool). (if b then Send m.to m.head m.bytes else Recv from m.head m.bytes) ∷ t.calls i) at in
      ap₂ (λ (o : Option Outgoing) (l : List DataCall). slot_message r o ++ sent_messages r l) before calls
      ∙ gain (m.to == r) (record { head = m.head; bytes = m.bytes }) (sent_messages r (t.calls i))
      ∙ ap₂ (λ (l : List Message) (o : Option Outgoing). l ++ (slot_message r o ++ sent_messages r (t.calls i))) (sym (ap (λ (b : Bool). if b then slot_message r (Some m) else []) at)) (sym after))
      (λ other.
      owed_same i r s t (makes.slots.others i other) (sends other)
      ∙ ap (λ (b : Bool). (if b then slot_message r (Some m) else []) ++ owed i r t) (sym other))
    where
      sends : (i == from) ≡ false → sent_messages r (s.calls i) ≡ sent_messages r (t.calls i)
      sends other = by_test (both from m.to i)
          (λ within. ap (sent_messages r) (makes.calls.changed i within ∙ ap (λ (b : Bool). (if b then Send m.to m.head m.bytes else Recv from m.head m.bytes) ∷ t.calls i) other))
          (λ without. ap (sent_messages r) (makes.calls.others i without))

  owed_by_step : (i r : ℕ) (step : CallStep) (s t : Standing) → Makes nue keys step s t → owed i r s ≡ delivered i r step ++ owed i r t
  owed_by_step i r (Posting from m) s t makes = owed_by_post i r from m s t makes
  owed_by_step i r (Taking from m) s t makes = owed_by_take i r from m s t makes
  owed_by_step i r (Pairing from m) s t makes = owed_by_pair i r from m s t makes
  owed_by_step i r (Meeting comm root) s t makes =
      owed_same i r s t (makes.slots.others i refl)
      (by_test (in_group nue keys comm root i) (λ at. ap (sent_messages r) (makes.calls.changed i at)) (λ other. ap (sent_messages r) (makes.calls.others i other)))

  -- what a receiver gains
  handed : (i r from : ℕ) (m : Outgoing) → (r == m.to) ≡ true → (l : List DataCall) → received_messages i (Recv from m.head m.bytes ∷ l) ≡ (if i == from then slot_message r (Some m) else []) ++ received_messages i l
  handed i r from m at l =
      gain (from == i) (record { head = m.head; bytes = m.bytes }) (received_messages i l)
      ∙ ap₂ (λ (b c : Bool). (if b then (if c then record { head = m.head; bytes = m.bytes } ∷ [] else []) else []) ++ received_messages i l) turned here
    where
      turned : (from == i) ≡ (i == from)
      turned = grind (arith, nat_tests)

      here : true ≡ (m.to == r)
      here = grind (arith, nat_tests)

  kept : (i r from : ℕ) (m : Outgoing) → (r == m.to) ≡ false → (l : List DataCall) → received_messages i l ≡ (if i == from then slot_message r (Some m) else []) ++ received_messages i l
  kept i r from m other l = nothing (i == from) ∙ ap (λ (c : Bool). (if i == from then (if c then record { head = m.head; bytes = m.bytes } ∷ [] else []) else []) ++ received_messages i l) there
    where
      there : false ≡ (m.to == r)
      there = grind (arith, nat_tests)

      nothing : (b : Bool) → received_messages i l ≡ (if b then [] else []) ++ received_messages i l
      nothing true = refl
      nothing false = refl

  got_by_step : (i r : ℕ) (step : CallStep) (s t : Standing) → Makes nue keys step s t → received_messages i (s.calls r) ≡ delivered i r step ++ received_messages i (t.calls r)
  got_by_step i r (Posting from m) s t makes = by_test (r == from)
      (λ at. ap (received_messages i) (makes.calls.changed r at)) (λ other. ap (received_messages i) (makes.calls.others r other))
  got_by_step i r (Taking from m) s t makes = by_test (r == m.to)
      (λ at. ap (received_messages i) (makes.calls.changed r at) ∙ handed i r from m at (t.calls r))
      (λ other. ap (received_messages i) (makes.calls.others r other) ∙ kept i r from m other (t.calls r))
  got_by_step i r (Pairing from m) s t makes = by_test (r == m.to)
      (λ at.
      let within : both from m.to r ≡ true = grind (arith, nat_tests) in
      let apart = makes.proper in
      let receives : (r == from) ≡ false = grind (arith, nat_tests) in
      ap (received_messages i) (makes.calls.changed r within ∙ ap (λ (b : Bool). (if b then Send m.to m.head m.bytes else Recv from m.head m.bytes) ∷ t.calls r) receives)
      ∙ handed i r from m at (t.calls r))
      (λ other. same other ∙ kept i r from m other (t.calls r))
    where
      same : (r == m.to) ≡ false → received_messages i (s.calls r) ≡ received_messages i (t.calls r)
      same other = by_test (r == from)
          (λ at.
          let within : both from m.to r ≡ true = grind (arith, nat_tests) in
          ap (received_messages i) (makes.calls.changed r within ∙ ap (λ (b : Bool). (if b then Send m.to m.head m.bytes else Recv from m.head m.bytes) ∷ t.calls r) at))
          (λ elsewhere.
          let without : both from m.to r ≡ false = grind (arith, nat_tests) in
          ap (received_messages i) (makes.calls.others r without))
  got_by_step i r (Meeting comm root) s t makes = by_test (in_group nue keys comm root r)
      (λ at. ap (received_messages i) (makes.calls.changed r at)) (λ other. ap (received_messages i) (makes.calls.others r other))

  run_messages : (left : ℕ → Option Outgoing) (i r n : ℕ) (s : Standing) → Runs (OwnStep nue keys) (IsUsedUp left) n s → owed i r s ≡ received_messages i (s.calls r) ++ slot_message r (left i)
  run_messages left i r zero s end =
      ap₂ (λ (o : Option Outgoing) (l : List DataCall). slot_message r o ++ sent_messages r l) (end.slots i) (end.calls i)
      ∙ append-nil (slot_message r (left i))
      ∙ ap (λ (l : List DataCall). received_messages i l ++ slot_message r (left i)) (sym (end.calls r))
  run_messages left i r (suc n) s (a, t, (step, owner, makes), rest) =
      owed_by_step i r step s t makes
      ∙ ap (λ (l : List Message). delivered i r step ++ l) (run_messages left i r n t rest)
      ∙ sym (append_assoc (delivered i r step) (received_messages i (t.calls r)) (slot_message r (left i)))
      ∙ ap (λ (l : List Message). l ++ slot_message r (left i)) (sym (got_by_step i r step s t makes))

  -- what was received of a rank is what it sent and posted, but for the message in its slot
  pub legal_messages : (calls : ℕ → List DataCall) (slots : ℕ → Option Outgoing) → IsLegal nue keys calls slots → (i r : ℕ) → sent_messages r (calls i) ≡ received_messages i (calls r) ++ slot_message r (slots i)
  legal_messages calls slots legal i r =
      let (n, run) = legal_in_some_order nue keys calls slots legal in run_messages slots i r n (record { calls = calls; slots = no_slots }) run

  -- the barriers of a communicator that a step makes a rank finish
  abbrev counted : ℕ → ℕ → CallStep → ℕ
  counted comm a (Meeting c root) = if in_group nue keys c root a then (if c == comm then 1 else 0) else 0
  counted comm a (Posting from m) = 0
  counted comm a (Taking from m) = 0
  counted comm a (Pairing from m) = 0

  one_barrier : (c comm : ℕ) (l : List DataCall) → barriers_of comm (Bar c ∷ l) ≡ (if c == comm then 1 else 0) + barriers_of comm l
  one_barrier c comm l = counts (c == comm)
    where
      counts : (b : Bool) → (if b then suc (barriers_of comm l) else barriers_of comm l) ≡ (if b then 1 else 0) + barriers_of comm l
      counts true = omega arith
      counts false = omega arith

  pair_counts : (comm from : ℕ) (m : Outgoing) (l : List DataCall) (b : Bool) → barriers_of comm ((if b then Send m.to m.head m.bytes else Recv from m.head m.bytes) ∷ l) ≡ barriers_of comm l
  pair_counts comm from m l true = refl
  pair_counts comm from m l false = refl

  counted_by_step : (comm a : ℕ) (step : CallStep) (s t : Standing) → Makes nue keys step s t → barriers_of comm (s.calls a) ≡ counted comm a step + barriers_of comm (t.calls a)
  counted_by_step comm a (Posting from m) s t makes = by_test (a == from)
      (λ at. ap (barriers_of comm) (makes.calls.changed a at) ∙ none) (λ other. ap (barriers_of comm) (makes.calls.others a other) ∙ none)
    where
      none : barriers_of comm (t.calls a) ≡ 0 + barriers_of comm (t.calls a)
      none = omega arith
  counted_by_step comm a (Taking from m) s t makes = by_test (a == m.to)
      (λ at. ap (barriers_of comm) (makes.calls.changed a at) ∙ none) (λ other. ap (barriers_of comm) (makes.calls.others a other) ∙ none)
    where
      none : barriers_of comm (t.calls a) ≡ 0 + barriers_of comm (t.calls a)
      none = omega arith
  counted_by_step comm a (Pairing from m) s t makes = by_test (both from m.to a)
      (λ at. ap (barriers_of comm) (makes.calls.changed a at) ∙ pair_counts comm from m (t.calls a) (a == from) ∙ none)
      (λ other. ap (barriers_of comm) (makes.calls.others a other) ∙ none)
    where
      none : barriers_of comm (t.calls a) ≡ 0 + barriers_of comm (t.calls a)
      none = omega arith
  counted_by_step comm a (Meeting c root) s t makes = by_test (in_group nue keys c root a)
      (λ at.
      ap (barriers_of comm) (makes.calls.changed a at)
      ∙ one_barrier c comm (t.calls a)
      ∙ ap (λ (b : Bool). (if b then (if c == comm then 1 else 0) else 0) + barriers_of comm (t.calls a)) (sym at))
      (λ other.
      ap (barriers_of comm) (makes.calls.others a other)
      ∙ none
      ∙ ap (λ (b : Bool). (if b then (if c == comm then 1 else 0) else 0) + barriers_of comm (t.calls a)) (sym other))
    where
      none : barriers_of comm (t.calls a) ≡ 0 + barriers_of comm (t.calls a)
      none = omega arith

  counted_alike : (comm a b : ℕ) → a < nue → b < nue → keys comm a ≡ keys comm b → (step : CallStep) → counted comm a step ≡ counted comm b step
  counted_alike comm a b low_a low_b same (Posting from m) = refl
  counted_alike comm a b low_a low_b same (Taking from m) = refl
  counted_alike comm a b low_a low_b same (Pairing from m) = refl
  counted_alike comm a b low_a low_b same (Meeting c root) = by_test (c == comm)
      (λ is. let this : c ≡ comm = grind (arith, nat_tests) in ap {B = ℕ} (λ (x : Bool). if x then (if c == comm then 1 else 0) else 0) (inside this))
      (λ other. nothing (in_group nue keys c root a) other ∙ sym (nothing (in_group nue keys c root b) other))
    where
      here : in_group nue keys comm root a ≡ in_group nue keys comm root b
      here = grind (arith, nat_tests)

      inside : c ≡ comm → in_group nue keys c root a ≡ in_group nue keys c root b
      inside this = subst (λ (x : ℕ). in_group nue keys x root a ≡ in_group nue keys x root b) (sym this) here

      nothing : (x : Bool) → (c == comm) ≡ false → ◌≡◌ {A = ℕ} (if x then (if c == comm then 1 else 0) else 0) 0
      nothing true other = ap {B = ℕ} (λ (y : Bool). if y then 1 else 0) other
      nothing false other = refl

  run_level : (left : ℕ → Option Outgoing) (comm a b : ℕ) → a < nue → b < nue → keys comm a ≡ keys comm b → (n : ℕ) (s : Standing) → Runs (OwnStep nue keys) (IsUsedUp left) n s → barriers_of comm (s.calls a) ≡ barriers_of comm (s.calls b)
  run_level left comm a b low_a low_b same zero s end = ap (barriers_of comm) (end.calls a) ∙ sym (ap (barriers_of comm) (end.calls b))
  run_level left comm a b low_a low_b same (suc n) s (owner, t, (step, owned, makes), rest) =
      counted_by_step comm a step s t makes
      ∙ ap₂ (λ (x y : ℕ). x + y) (counted_alike comm a b low_a low_b same step) (run_level left comm a b low_a low_b same n t rest)
      ∙ sym (counted_by_step comm b step s t makes)

  -- members of one group have finished as many barriers of its communicator
  pub legal_barriers : (calls : ℕ → List DataCall) (slots : ℕ → Option Outgoing) → IsLegal nue keys calls slots → (comm a b : ℕ) → a < nue → b < nue → keys comm a ≡ keys comm b → barriers_of comm (calls a) ≡ barriers_of comm (calls b)
  legal_barriers calls slots legal comm a b low_a low_b same =
      let (n, run) = legal_in_some_order nue keys calls slots legal in run_level slots comm a b low_a low_b same n (record { calls = calls; slots = no_slots }) run
