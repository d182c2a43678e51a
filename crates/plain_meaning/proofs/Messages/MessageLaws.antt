-- The messages of a pair of ranks arrive as they were sent.
use Rattle.std.proofs.Common.{◌≡◌, ◌≢◌, ℕ, zero, suc, ◌<◌, ◌≤◌, ◌==◌, Bool, true, false, if◌then◌else◌, ◌&&◌, List, [], ◌∷◌, ◌++◌, length, set, Option, Some, None, refl, sym, ap, ◌∙◌, subst, arith, slice_get, slice_index_or, ◌⊎◌, inl, inr, ⊎_elim, replicate}
use Rattle.std.specs.List.{filter, range_with_len}
use Rattle.std.specs.Option.{option_map, option_map_or}
use Rattle.std.proofs.lemmas.Bool.{cases_eq, cases_lt, eqb-true, eq-eqb}
use Rattle.std.proofs.lemmas.Grind.{flat_map-append}
use Rattle.std.proofs.lemmas.List.{append-nil, get_or-set_same, get_or-set_other, get_or_past, length-replicate}
use Rattle.std.proofs.lemmas.List.Elements.{filter-append}
use Rattle.std.proofs.lemmas.List.FromFn.{length-map-range_with_len}
use Rattle.std.proofs.lemmas.Option.{slice_get-map, slice_get_past}
use Rattle.scc_base.specs.Calls.{DataCall, Message}
use Rattle.scc_base.specs.Calls.DataCall.{Send, Recv, Post, Bar}
use Rattle.scc_base.specs.Groups.{is_with}
use Rattle.scc_base.specs.Heads.{MessageHead}
use Rattle.scc_base.specs.Runs.{EndsAt, Runs}
use Rattle.scc_base.proofs.Confluence.{other_end}
use Rattle.groups.proofs.StepLemmas.{get_front}
use Rattle.script_rules.specs.Script.{Script}
use Rattle.script_machine.specs.declared.posts.Posted.{Posted}
use Rattle.script_machine.specs.Local.{Local, local_next, local_start}
use Rattle.plain_meaning.specs.Meaning.{IsPlainStep, State, keys_of, next_of, plain_end, next_with_calls, start_of, steps_left}
use Rattle.plain_meaning.specs.Messages.{AreDelivered, AreReceivedAsSent, is_of, received_by, received_from, sent_by, sent_to, waiting_for}
use Rattle.script_machine.specs.Next.{Next, is_at_barrier, past_barrier}
use Rattle.script_machine.specs.Next.Next.{Ends, Goes, Posts, Sends, Recvs, Bars}
use Rattle.plain_meaning.specs.Step.{Configuration, next_at, slot_at, all_at_barrier, by_rank, past_if, same_head}
use Rattle.plain_meaning.proofs.Orders.EndLaws.{reached}
use Rattle.plain_meaning.proofs.Orders.OrderLaws.{different, get_set}
use Rattle.plain_meaning.proofs.Runs.PlainLaws.{plain_end_still}
use Rattle.plain_meaning.proofs.Runs.RunLaws.{get-by_rank, length-step, stands_there, there}
use Rattle.script_machine.proofs.Choices as choices
use Rattle.plain_meaning.proofs.Runs.StepLaws as steps
use Rattle.plain_meaning.proofs.Runs.StepLaws.Takes.{Alone, Left, Met, Fetched, RefusedPost, RefusedSend, Passed}

-- one call more
pub sent_more : (b : ℕ) (calls : List DataCall) (call : DataCall) → sent_to b (calls ++ call ∷ []) ≡ sent_to b calls ++ sent_by b call
sent_more b calls call = flat_map-append (sent_by b) calls (call ∷ []) ∙ ap (λ (l : List Message). sent_to b calls ++ l) (append-nil (sent_by b call))

pub received_more : (a : ℕ) (calls : List DataCall) (call : DataCall) → received_from a (calls ++ call ∷ []) ≡ received_from a calls ++ received_by a call
received_more a calls call = flat_map-append (received_by a) calls (call ∷ []) ∙ ap (λ (l : List Message). received_from a calls ++ l) (append-nil (received_by a call))

-- what ranks have done, and what stands in their slots, fit
abbrev Fit : (ℕ → List DataCall) → (ℕ → Option Posted) → Type 0
Fit M P = (a b : ℕ) → sent_to b (M a) ≡ received_from a (M b) ++ waiting_for b (P a)

-- a call more of one rank
record Longer (M N : ℕ → List DataCall) (i : ℕ) (call : DataCall) : Type 0 where
  here : N i ≡ M i ++ call ∷ []
  others : (k : ℕ) → k ≢ i → N k ≡ M k

-- one slot is written
record Written (P Q : ℕ → Option Posted) (i : ℕ) (m : Option Posted) : Type 0 where
  there : Q i ≡ m
  others : (k : ℕ) → k ≢ i → Q k ≡ P k

module _ (M N : ℕ → List DataCall) (i : ℕ) (call : DataCall) (more : Longer M N i call) where
  sent_same : ((b : ℕ) → sent_by b call ≡ []) → (a b : ℕ) → sent_to b (N a) ≡ sent_to b (M a)
  sent_same none a b =
      ⊎_elim
      (λ (is : a ≡ i). subst (λ (x : ℕ). sent_to b (N x) ≡ sent_to b (M x)) (sym is)
      (ap (sent_to b) more.here ∙ sent_more b (M i) call ∙ ap (λ (l : List Message). sent_to b (M i) ++ l) (none b) ∙ append-nil (sent_to b (M i))))
      (λ (apart : a ≢ i). ap (sent_to b) (more.others a apart))
      (cases_eq a i)

  received_same : (a b : ℕ) → received_by a call ≡ [] → received_from a (N b) ≡ received_from a (M b)
  received_same a b none =
      ⊎_elim
      (λ (is : b ≡ i). subst (λ (x : ℕ). received_from a (N x) ≡ received_from a (M x)) (sym is)
      (ap (received_from a) more.here ∙ received_more a (M i) call ∙ ap (λ (l : List Message). received_from a (M i) ++ l) none ∙ append-nil (received_from a (M i))))
      (λ (apart : b ≢ i). ap (received_from a) (more.others b apart))
      (cases_eq b i)

  -- rank i's message comes into its empty slot
  put : (P Q : ℕ → Option Posted) (m : Posted) → P i ≡ None → Written P Q i (Some m) → ((b : ℕ) → sent_by b call ≡ waiting_for b (Some m)) → ((a : ℕ) → received_by a call ≡ []) → Fit M P → Fit N Q
  put P Q m empty full sends gets fit a b =
      ⊎_elim
      (λ (is : a ≡ i). subst (λ (x : ℕ). sent_to b (N x) ≡ received_from x (N b) ++ waiting_for b (Q x)) (sym is) at_i)
      (λ (apart : a ≢ i). ap (sent_to b) (more.others a apart) ∙ fit a b
      ∙ ap (λ (l : List Message). l ++ waiting_for b (P a)) (sym (received_same a b (gets a)))
      ∙ ap (λ (o : Option Posted). received_from a (N b) ++ waiting_for b o) (sym (full.others a apart)))
      (cases_eq a i)
    where
      at_i : sent_to b (N i) ≡ received_from i (N b) ++ waiting_for b (Q i)
      at_i =
          ap (sent_to b) more.here ∙ sent_more b (M i) call
          ∙ ap (λ (l : List Message). l ++ sent_by b call) (fit i b ∙ ap (λ (o : Option Posted). received_from i (M b) ++ waiting_for b o) empty ∙ append-nil (received_from i (M b)))
          ∙ ap (λ (l : List Message). received_from i (M b) ++ l) (sends b ∙ ap (waiting_for b) (sym full.there))
          ∙ ap (λ (l : List Message). l ++ waiting_for b (Q i)) (sym (received_same i b (gets i)))

  -- rank i takes the message in the slot of rank j
  get : (P Q : ℕ → Option Posted) (j : ℕ) (m : Posted) → P j ≡ Some m → m.to ≡ i → Written P Q j None → ((b : ℕ) → sent_by b call ≡ []) → ((a : ℕ) → a ≢ j → received_by a call ≡ []) → received_by j call ≡ waiting_for i (Some m) → Fit M P → Fit N Q
  get P Q j m full mine empty sends other gets fit a b =
      sent_same sends a b
      ∙ ⊎_elim
      (λ (is : a ≡ j). subst (λ (x : ℕ). sent_to b (M x) ≡ received_from x (N b) ++ waiting_for b (Q x)) (sym is) at_j)
      (λ (apart : a ≢ j). fit a b
      ∙ ap (λ (l : List Message). l ++ waiting_for b (P a)) (sym (received_same a b (other a apart)))
      ∙ ap (λ (o : Option Posted). received_from a (N b) ++ waiting_for b o) (sym (empty.others a apart)))
      (cases_eq a j)
    where
      at_both : sent_to i (M j) ≡ received_from j (N i)
      at_both =
          fit j i
          ∙ ap (λ (o : Option Posted). received_from j (M i) ++ waiting_for i o) full
          ∙ ap (λ (l : List Message). received_from j (M i) ++ l) (sym gets)
          ∙ sym (ap (received_from j) more.here ∙ received_more j (M i) call)

      elsewhere : b ≢ i → sent_to b (M j) ≡ received_from j (N b)
      elsewhere apart =
          let none : waiting_for b (Some m) ≡ [] = choices.other (m.to == b) (record { head = m.head; bytes = m.bytes } ∷ []) [] (different m.to b (λ e. apart (sym e ∙ mine))) in
          fit j b
          ∙ ap (λ (o : Option Posted). received_from j (M b) ++ waiting_for b o) full
          ∙ ap (λ (l : List Message). received_from j (M b) ++ l) none
          ∙ append-nil (received_from j (M b))
          ∙ sym (ap (received_from j) (more.others b apart))

      at_j : sent_to b (M j) ≡ received_from j (N b) ++ waiting_for b (Q j)
      at_j =
          ⊎_elim
          (λ (is : b ≡ i). subst (λ (x : ℕ). sent_to x (M j) ≡ received_from j (N x)) (sym is) at_both)
          elsewhere
          (cases_eq b i)
          ∙ sym (append-nil (received_from j (N b)))
          ∙ ap (λ (o : Option Posted). received_from j (N b) ++ waiting_for b o) (sym empty.there)

-- nothing is sent or received
fit_same : (M N : ℕ → List DataCall) (P Q : ℕ → Option Posted) → ((k b : ℕ) → sent_to b (N k) ≡ sent_to b (M k)) → ((k a : ℕ) → received_from a (N k) ≡ received_from a (M k)) → ((k : ℕ) → Q k ≡ P k) → Fit M P → Fit N Q
fit_same M N P Q sends gets slots fit a b =
    sends a b ∙ fit a b ∙ ap (λ (l : List Message). l ++ waiting_for b (P a)) (sym (gets b a))
    ∙ ap (λ (o : Option Posted). received_from a (N b) ++ waiting_for b o) (sym (slots a))

-- what the ranks of a configuration have done
abbrev calls_in : List State → ℕ → List DataCall
calls_in us k = option_map_or (λ u. u.matched) (slice_get us k) []

-- whatever comes next, the calls that it makes stand behind those done
abbrev pub Logs : List DataCall → Next State → Type 0
Logs calls Ends = Unit {0}
Logs calls (Goes after) = after.matched ≡ calls
Logs calls (Posts message after) = after.matched ≡ calls ++ Post message.to message.head message.bytes ∷ []
Logs calls (Sends to head bytes after) = after.matched ≡ calls ++ Send to head bytes ∷ []
Logs calls (Recvs from head take refuse) = ((bytes : List ℕ) → (take bytes).matched ≡ calls ++ Recv from head bytes ∷ []) × ((sent : MessageHead) → (refuse sent).matched ≡ calls)
Logs calls (Bars comm after) = after.matched ≡ calls ++ Bar comm ∷ []

pub logs : (calls : List DataCall) (n : Next Local) → Logs calls (next_with_calls calls n)
logs calls Ends = tt
logs calls (Goes after) = refl
logs calls (Posts message after) = refl
logs calls (Sends to head bytes after) = refl
logs calls (Recvs from head take refuse) = (λ bytes. refl, λ sent. refl)
logs calls (Bars comm after) = refl

-- what stands at a rank, and the calls that it has done
standing : (c : Configuration State) (i : ℕ) (n : Next State) → next_at next_of c i ≡ n → (n ≡ Ends → ⊥) → (u : State) × (slice_get c.cells i ≡ Some u) × Logs u.matched n
standing c i n stands is_some =
    ⊎_elim
    (λ (ends : n ≡ Ends). absurd (is_some ends))
    (λ (here : (u : State) × (slice_get c.cells i ≡ Some u) × (next_of u ≡ n)).
    (here.0, here.1, subst (Logs here.0.matched) here.2 (logs here.0.matched (local_next here.0.local))))
    (there next_of (slice_get c.cells i) n stands)

-- a rank's state is written
pub cell_there : (us : List State) (i : ℕ) (v w : State) → slice_get us i ≡ Some w → slice_get (set us i v) i ≡ Some v
cell_there us i v w here = get_set us i v i ∙ ap (option_map (λ u. if i == i then v else u)) here ∙ ap Some (choices.chosen (i == i) v w (eq-eqb i i refl))

pub cell_other : (us : List State) (i : ℕ) (v : State) (k : ℕ) → k ≢ i → slice_get (set us i v) k ≡ slice_get us k
cell_other us i v k apart = get_set us i v k ∙ same (slice_get us k)
  where
    same : (o : Option State) → option_map (λ u. if k == i then v else u) o ≡ o
    same None = refl
    same (Some u) = ap Some (choices.other (k == i) v u (different k i apart))

cell_more : (us : List State) (i : ℕ) (v w : State) (call : DataCall) → slice_get us i ≡ Some w → v.matched ≡ w.matched ++ call ∷ [] → Longer (calls_in us) (calls_in (set us i v)) i call
cell_more us i v w call here more = record {
  here = ap (λ (o : Option State). option_map_or (λ u. u.matched) o []) (cell_there us i v w here) ∙ more
      ∙ ap (λ (o : Option State). option_map_or (λ u. u.matched) o [] ++ call ∷ []) (sym here);
  others = λ k apart. ap (λ (o : Option State). option_map_or (λ u. u.matched) o []) (cell_other us i v k apart);
}

cell_same : (us : List State) (i : ℕ) (v w : State) → slice_get us i ≡ Some w → v.matched ≡ w.matched → (k : ℕ) → calls_in (set us i v) k ≡ calls_in us k
cell_same us i v w here same k =
    ⊎_elim
    (λ (is : k ≡ i). subst (λ (x : ℕ). calls_in (set us i v) x ≡ calls_in us x) (sym is)
    (ap (λ (o : Option State). option_map_or (λ u. u.matched) o []) (cell_there us i v w here) ∙ same
    ∙ ap (λ (o : Option State). option_map_or (λ u. u.matched) o []) (sym here)))
    (λ (apart : k ≢ i). ap (λ (o : Option State). option_map_or (λ u. u.matched) o []) (cell_other us i v k apart))
    (cases_eq k i)

slot_written : (ss : List (Option Posted)) (i : ℕ) (m : Option Posted) → i < length ss → Written (λ k. slice_index_or ss k None) (λ k. slice_index_or (set ss i m) k None) i m
slot_written ss i m within = record {
  there = get_or-set_same ss i m None within;
  others = λ k apart. get_or-set_other ss i k m None apart;
}

within_cells : (us : List State) (i : ℕ) (u : State) → slice_get us i ≡ Some u → i < length us
within_cells us i u here =
    ⊎_elim (λ (low : i < length us). low) (λ (past : length us ≤ i). absurd (let none = slice_get_past us i past in cc)) (cases_lt i (length us))

-- equal heads
pub same_heads : (sent asked : MessageHead) → same_head sent asked ≡ true → sent ≡ asked
same_heads sent asked same =
    let parts = choices.both_true ((sent.kind == asked.kind) && (sent.comm == asked.comm)) (sent.len == asked.len) same in
    let front = choices.both_true (sent.kind == asked.kind) (sent.comm == asked.comm) parts.0 in
    let kind : sent.kind ≡ asked.kind = eqb-true sent.kind asked.kind front.0 in
    let comm : sent.comm ≡ asked.comm = eqb-true sent.comm asked.comm front.1 in
    let len : sent.len ≡ asked.len = eqb-true sent.len asked.len parts.1 in
    λ i. record { kind = kind i; comm = comm i; len = len i }

-- the members of a group go past a barrier: nothing is sent or received
module _ (c : Configuration State) (comm : ℕ) (test : ℕ → Bool) (all : all_at_barrier next_of comm test c.cells ≡ true) where
  past_calls : (n : Next State) (u : State) → Logs u.matched n → is_at_barrier comm n ≡ true → (past_barrier n u).matched ≡ u.matched ++ Bar comm ∷ []
  past_calls Ends u log is = absurd (cc)
  past_calls (Goes after) u log is = absurd (cc)
  past_calls (Posts message after) u log is = absurd (cc)
  past_calls (Sends to head bytes after) u log is = absurd (cc)
  past_calls (Recvs from head take refuse) u log is = absurd (cc)
  past_calls (Bars other after) u log is = log ∙ ap (λ (x : ℕ). u.matched ++ Bar x ∷ []) (eqb-true other comm is)

  past_cell : (k : ℕ) (o : Option State) → slice_get c.cells k ≡ o → (f : List DataCall → List Message) → ((calls : List DataCall) → f (calls ++ Bar comm ∷ []) ≡ f calls) → f (option_map_or (λ u. u.matched) (option_map (past_if next_of (test k)) o) []) ≡ f (option_map_or (λ u. u.matched) o [])
  past_cell k None at f same = refl
  past_cell k (Some u) at f same = by (test k) refl
    where
      by : (b : Bool) → test k ≡ b → f (past_if next_of b u).matched ≡ f u.matched
      by true member = ap f (past_calls (next_of u) u (logs u.matched (local_next u.local)) (stands_there next_of comm test c.cells k u all member at)) ∙ same u.matched
      by false member = refl

  past_same : (f : List DataCall → List Message) → ((calls : List DataCall) → f (calls ++ Bar comm ∷ []) ≡ f calls) → (k : ℕ) → f (calls_in (by_rank (λ rank. past_if next_of (test rank)) c.cells) k) ≡ f (calls_in c.cells k)
  past_same f same k =
      ap (λ (o : Option State). f (option_map_or (λ u. u.matched) o [])) (get-by_rank (λ rank. past_if next_of (test rank)) c.cells k)
      ∙ past_cell k (slice_get c.cells k) refl f same

abbrev FitsIn : Configuration State → Type 0
FitsIn c = Fit (calls_in c.cells) (slot_at c)

-- nobody sends and receives at once
apart_next : (c : Configuration State) (i j : ℕ) (head asked : MessageHead) (bytes : List ℕ) (after : State) (take : List ℕ → State) (refuse : MessageHead → State) → next_at next_of c i ≡ Sends j head bytes after → next_at next_of c j ≡ Recvs i asked take refuse → j ≢ i
apart_next c i j head asked bytes after take refuse stands meets e =
    let both : Recvs i asked take refuse ≡ Sends j head bytes after = sym meets ∙ ap (next_at next_of c) e ∙ stands in cc

fits_step : (keys : ℕ → ℕ → ℕ) (c d : Configuration State) (i : ℕ) → length c.slots ≡ length c.cells → steps.Takes keys next_of c i d → FitsIn c → FitsIn d
fits_step keys c d i even (Alone after stands made) fit =
    let here = standing c i (Goes after) stands (λ e. cc) in
    let same = cell_same c.cells i after here.0 here.1 here.2 in
    subst FitsIn (sym made) (fit_same (calls_in c.cells) (calls_in (set c.cells i after)) (slot_at c) (slot_at c) (λ k b. ap (sent_to b) (same k)) (λ k a. ap (received_from a) (same k)) (λ k. refl) fit)
fits_step keys c d i even (Left message after stands slot made) fit =
    let here = standing c i (Posts message after) stands (λ e. cc) in
    let low = within_cells c.cells i here.0 here.1 in
    subst FitsIn (sym made)
    (put (calls_in c.cells) (calls_in (set c.cells i after)) i (Post message.to message.head message.bytes) (cell_more c.cells i after here.0 _ here.1 here.2)
    (slot_at c) (λ k. slice_index_or (set c.slots i (Some message)) k None) message slot (slot_written c.slots i (Some message) (omega (arith, even, low))) (λ b. refl) (λ a. refl) fit)
fits_step keys c d i even (Met j head bytes after asked take refuse stands slot meets same made) fit =
    let here = standing c i (Sends j head bytes after) stands (λ e. cc) in
    let peer = standing c j (Recvs i asked take refuse) meets (λ e. cc) in
    let apart : j ≢ i = apart_next c i j head asked bytes after take refuse stands meets in
    let low = within_cells c.cells i here.0 here.1 in
    let m : Posted = record { to = j; head = head; bytes = bytes; line = 0 } in
    let full : ℕ → Option Posted = λ k. slice_index_or (set c.slots i (Some m)) k None in
    let into = slot_written c.slots i (Some m) (omega (arith, even, low)) in
    let left : slice_get (set c.cells i after) j ≡ Some peer.0 = cell_other c.cells i after j apart ∙ peer.1 in
    let between : Fit (calls_in (set c.cells i after)) full =
    put (calls_in c.cells) (calls_in (set c.cells i after)) i (Send j head bytes) (cell_more c.cells i after here.0 _ here.1 here.2)
    (slot_at c) full m slot into (λ b. refl) (λ a. refl) fit in
    let out : Written full (slot_at c) i None = record { there = slot; others = λ k odd. sym (into.others k odd) } in
    subst FitsIn (sym made)
    (get (calls_in (set c.cells i after)) (calls_in (set (set c.cells i after) j (take bytes))) j (Recv i asked bytes) (cell_more (set c.cells i after) j (take bytes) peer.0 _ left (peer.2.0 bytes))
    full (slot_at c) i m into.there refl out (λ b. refl)
    (λ a odd. choices.other (i == a) (record { head = asked; bytes = bytes } ∷ []) [] (different i a (λ e. odd (sym e))))
    (choices.chosen (i == i) _ [] (eq-eqb i i refl) ∙ ap (λ (h : MessageHead). record { head = h; bytes = bytes } ∷ []) (sym (same_heads head asked same)) ∙ sym (choices.chosen (j == j) _ [] (eq-eqb j j refl)))
    between)
fits_step keys c d i even (Fetched j asked take refuse message stands slot mine same made) fit =
    let here = standing c i (Recvs j asked take refuse) stands (λ e. cc) in
    let low : j < length c.slots = slot_within (cases_lt j (length c.slots)) in
    subst FitsIn (sym made)
    (get (calls_in c.cells) (calls_in (set c.cells i (take message.bytes))) i (Recv j asked message.bytes) (cell_more c.cells i (take message.bytes) here.0 _ here.1 (here.2.0 message.bytes))
    (slot_at c) (λ k. slice_index_or (set c.slots j None) k None) j message slot mine (slot_written c.slots j None low) (λ b. refl)
    (λ a odd. choices.other (j == a) (record { head = asked; bytes = message.bytes } ∷ []) [] (different j a (λ e. odd (sym e))))
    (choices.chosen (j == j) _ [] (eq-eqb j j refl) ∙ ap (λ (h : MessageHead). record { head = h; bytes = message.bytes } ∷ []) (sym (same_heads message.head asked same)) ∙ sym (choices.chosen (message.to == i) _ [] (eq-eqb message.to i mine)))
    fit)
  where
    slot_within : (j < length c.slots) ⊎ (length c.slots ≤ j) → j < length c.slots
    slot_within (inl low) = low
    slot_within (inr past) = absurd (let none : slot_at c j ≡ None = get_or_past c.slots j None past in cc)
fits_step keys c d i even (RefusedPost j asked take refuse message stands slot mine same made) fit =
    let here = standing c i (Recvs j asked take refuse) stands (λ e. cc) in
    let is = cell_same c.cells i (refuse message.head) here.0 here.1 (here.2.1 message.head) in
    subst FitsIn (sym made) (fit_same (calls_in c.cells) (calls_in (set c.cells i (refuse message.head))) (slot_at c) (slot_at c) (λ k b. ap (sent_to b) (is k)) (λ k a. ap (received_from a) (is k)) (λ k. refl) fit)
fits_step keys c d i even (RefusedSend j asked take refuse sent bytes after stands slot meets same made) fit =
    let here = standing c i (Recvs j asked take refuse) stands (λ e. cc) in
    let is = cell_same c.cells i (refuse sent) here.0 here.1 (here.2.1 sent) in
    subst FitsIn (sym made) (fit_same (calls_in c.cells) (calls_in (set c.cells i (refuse sent))) (slot_at c) (slot_at c) (λ k b. ap (sent_to b) (is k)) (λ k a. ap (received_from a) (is k)) (λ k. refl) fit)
fits_step keys c d i even (Passed comm after stands root all made) fit =
    let past = past_same c comm (is_with (keys comm) i) all in
    subst FitsIn (sym made) (fit_same (calls_in c.cells) (calls_in (by_rank (λ rank. past_if next_of (is_with (keys comm) i rank)) c.cells)) (slot_at c) (slot_at c)
    (λ k b. past (sent_to b) (λ calls. sent_more b calls (Bar comm) ∙ append-nil (sent_to b calls)) k)
    (λ k a. past (received_from a) (λ calls. received_more a calls (Bar comm) ∙ append-nil (received_from a calls)) k) (λ k. refl) fit)

fits_runs : (keys : ℕ → ℕ → ℕ) (n : ℕ) (c d : Configuration State) → Runs (IsPlainStep keys) (λ e. e ≡ d) n c → length c.slots ≡ length c.cells → FitsIn c → FitsIn d
fits_runs keys zero c d same even fit = subst FitsIn same fit
fits_runs keys (suc n) c d (a, t, step, rest) even fit =
    let kept = length-step keys next_of c t a step in
    fits_runs keys n t d rest (kept.1 ∙ even ∙ sym kept.0) (fits_step keys c t a even (steps.seen keys next_of c t a step) fit)

-- at the start nothing is done, and nothing stands in a slot
pub empty_slot : (n k : ℕ) → slice_index_or {A = Option Posted} (replicate n None) k None ≡ None
empty_slot zero k = refl
empty_slot (suc n) zero = refl
empty_slot (suc n) (suc k) = empty_slot n k

start_calls : (script : Script) (k : ℕ) → calls_in (start_of script).cells k ≡ []
start_calls script k =
    ap (λ (o : Option State). option_map_or (λ u. u.matched) o []) (slice_get-map (λ (rank : ℕ). record { local = local_start script rank; matched = [] }) (range_with_len 0 script.nue) k)
    ∙ by (slice_get (range_with_len 0 script.nue) k)
  where
    by : (o : Option ℕ) → option_map_or (λ (u : State). u.matched) (option_map (λ (rank : ℕ). record { local = local_start script rank; matched = [] }) o) [] ≡ []
    by None = refl
    by (Some rank) = refl

start_fits : (script : Script) → FitsIn (start_of script)
start_fits script a b =
    ap (sent_to b) (start_calls script a)
    ∙ ap (λ (o : Option Posted). waiting_for b o) (sym (empty_slot script.nue a))
    ∙ ap (λ (calls : List DataCall). received_from a calls ++ waiting_for b (slot_at (start_of script) a)) (sym (start_calls script b))

start_even : (script : Script) → length (start_of script).slots ≡ length (start_of script).cells
start_even script =
    length-replicate script.nue None
    ∙ sym (length-map-range_with_len (λ (rank : ℕ). record { local = local_start script rank; matched = [] }) 0 script.nue)

-- wherever steps lead from the start
pub delivered : (script : Script) (n : ℕ) (c : Configuration State) → Runs (IsPlainStep (keys_of script)) (λ e. e ≡ c) n (start_of script) → AreDelivered c
delivered script n c run i j u v at_i at_j =
    let fit = fits_runs (keys_of script) n (start_of script) c run (start_even script) (start_fits script) in
    ap (λ (o : Option State). sent_to j (option_map_or (λ u. u.matched) o [])) (sym at_i)
    ∙ fit i j
    ∙ ap (λ (o : Option State). received_from i (option_map_or (λ u. u.matched) o []) ++ waiting_for j (slot_at c i)) at_j

pub received_as_sent : (c : Configuration State) → AreDelivered c → AreReceivedAsSent c
received_as_sent c delivered kind comm n i j u v message at_i at_j got =
    let all = delivered i j u v at_i at_j in
    ap (λ (l : List Message). slice_get (filter (is_of kind comm) l) n) all
    ∙ ap (λ (l : List Message). slice_get l n) (filter-append (is_of kind comm) (received_from i v.matched) (waiting_for j (slot_at c i)))
    ∙ get_front (filter (is_of kind comm) (received_from i v.matched)) (filter (is_of kind comm) (waiting_for j (slot_at c i))) n message got

-- each rank of the script has its state
cells_runs : (keys : ℕ → ℕ → ℕ) (n : ℕ) (c d : Configuration State) → Runs (IsPlainStep keys) (λ e. e ≡ d) n c → length d.cells ≡ length c.cells
cells_runs keys zero c d same = ap (λ (x : Configuration State). length x.cells) (sym same)
cells_runs keys (suc n) c d (a, t, step, rest) = cells_runs keys n t d rest ∙ (length-step keys next_of c t a step).0

pub cells_kept : (script : Script) (n : ℕ) (c : Configuration State) → Runs (IsPlainStep (keys_of script)) (λ e. e ≡ c) n (start_of script) → length c.cells ≡ script.nue
cells_kept script n c run =
    cells_runs (keys_of script) n (start_of script) c run
    ∙ length-map-range_with_len (λ (rank : ℕ). record { local = local_start script rank; matched = [] }) 0 script.nue

-- steps lead to the plain end
pub to_plain_end : (script : Script) → (n : ℕ) × Runs (IsPlainStep (keys_of script)) (λ e. e ≡ plain_end script) n (start_of script)
to_plain_end script =
    let (n, run) = reached (keys_of script) next_of (steps_left (start_of script)) (start_of script) (plain_end_still script) in
    (n, other_end (IsPlainStep (keys_of script)) (EndsAt (IsPlainStep (keys_of script)) (plain_end script)) (λ e. e ≡ plain_end script) (λ s end. end.0) n (start_of script) run)
