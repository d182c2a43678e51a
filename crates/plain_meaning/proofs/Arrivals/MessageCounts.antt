-- How many messages of a kind in a communicator acts make, to a rank or from one.
use Rattle.std.proofs.Common.{◌≡◌, ◌≢◌, ℕ, ◌+◌, ◌≤◌, ◌==◌, Bool, true, false, if◌then◌else◌, ◌&&◌, List, [], ◌∷◌, ◌++◌, length, map, Option, Some, None, refl, sym, ap, ◌∙◌, arith, length-append, inl, inr, ⊎_elim}
use Rattle.std.specs.List.{filter}
use Rattle.std.proofs.lemmas.Bool.{cases_eq, eq-eqb}
use Rattle.std.proofs.lemmas.List.{append-nil}
use Rattle.scc_base.specs.Calls.{DataCall, Message}
use Rattle.scc_base.specs.Calls.DataCall.{Send, Recv, Post, Bar}
use Rattle.scc_base.specs.Heads.{MessageHead}
use Rattle.script_machine.specs.declared.prims.Operands.{Operands}
use Rattle.script_machine.specs.declared.prims.Source.{Source}
use Rattle.plain_meaning.specs.Collectives.{gone_by, gone_through}
use Rattle.script_machine.specs.Local.{asked_head, message_posted, next_by_act, source_bytes, head_with_length}
use Rattle.plain_meaning.specs.Meaning.{State, next_of, next_with_calls}
use Rattle.plain_meaning.specs.Messages.{is_of, received_by, sent_by}
use Rattle.script_machine.specs.Next.{Next}
use Rattle.script_machine.specs.Program.{Act, Prim}
use Rattle.plain_meaning.proofs.Collectives.CollectiveGroups.{AreApart, Each, gathers}
use Rattle.plain_meaning.proofs.Collectives.CollectivePaths.{Facing, IsIn, chosen, chosen_append, faced}
use Rattle.plain_meaning.proofs.Orders.OrderLaws.{different}
use Rattle.plain_meaning.proofs.OwnWays.ProgramLaws.{past_act}
use Rattle.script_machine.proofs.Choices as choices

-- a count of what a rank has done, and what each act adds to it
pub record Counts (measure : State → ℕ) (adds : Act → ℕ) : Type 0 where
  pub by_act : (bytes : List ℕ) (u : State) (line : ℕ) (a : Act) → measure (gone_by bytes u (next_with_calls u.matched (next_by_act u.local line a))) ≡ measure u + adds a

-- what acts add together
abbrev pub total_of : (Act → ℕ) → List Act → ℕ
total_of adds [] = 0
total_of adds (a ∷ acts) = adds a + total_of adds acts

pub total_both : (adds : Act → ℕ) (acts more : List Act) → total_of adds (acts ++ more) ≡ total_of adds acts + total_of adds more
total_both adds [] more = omega arith
total_both adds (a ∷ acts) more = let rest = total_both adds acts more in omega (arith, rest)

module _ (measure : State → ℕ) (adds : Act → ℕ) (counts : Counts measure adds) (line : ℕ) (tail : List Act) (rest : List Prim) where
  pub one_counted : (a : Act) (acts : List Act) (bytes : List ℕ) (u : State) → Facing line (a ∷ acts) rest u → measure (gone_by bytes u (next_of u)) ≡ measure u + adds a
  one_counted a acts bytes u facing = ap (λ (n : Next State). measure (gone_by bytes u n)) (faced line rest acts u a facing) ∙ counts.by_act bytes u line a

  -- a rank that does all of these acts
  pub all_counted : (acts : List Act) (path : List (List ℕ)) (u : State) → length path ≡ length acts → Facing line (acts ++ tail) rest u → measure (gone_through path u) ≡ measure u + total_of adds acts
  all_counted [] [] u even facing = omega arith
  all_counted [] (bytes ∷ path) u even facing = absurd (omega (arith, even))
  all_counted (a ∷ acts) [] u even facing = absurd (omega (arith, even))
  all_counted (a ∷ acts) (bytes ∷ path) u even facing =
      let one = one_counted a (acts ++ tail) bytes u facing in
      let more = all_counted acts path (gone_by bytes u (next_of u)) (omega (arith, even)) (past_act line rest a (acts ++ tail) bytes u facing) in
      omega (arith, one, more)

  -- and one that does some of them
  pub some_counted : (acts : List Act) (path : List (List ℕ)) (u : State) → length path ≤ length acts → Facing line (acts ++ tail) rest u → measure (gone_through path u) ≤ measure u + total_of adds acts
  some_counted acts [] u low facing = omega arith
  some_counted [] (bytes ∷ path) u low facing = absurd (omega (arith, low))
  some_counted (a ∷ acts) (bytes ∷ path) u low facing =
      let one = one_counted a (acts ++ tail) bytes u facing in
      let more = some_counted acts path (gone_by bytes u (next_of u)) (omega (arith, low)) (past_act line rest a (acts ++ tail) bytes u facing) in
      omega (arith, one, more)

-- the messages of a kind in a communicator that a rank has sent to another, and received from another
abbrev pub sent_so_far : ℕ → ℕ → ℕ → State → ℕ
sent_so_far kind comm to u = length (chosen (is_of kind comm) (sent_by to) u.matched)

abbrev pub got_so_far : ℕ → ℕ → ℕ → State → ℕ
got_so_far kind comm from u = length (chosen (is_of kind comm) (received_by from) u.matched)

-- a head of a kind in a communicator
abbrev pub has_kind : ℕ → ℕ → MessageHead → Bool
has_kind kind comm head = (head.kind == kind) && (head.comm == comm)

abbrev pub one_if : Bool → ℕ
one_if true = 1
one_if false = 0

-- how many of these messages an act sends, and receives
abbrev pub sent_in : ℕ → ℕ → ℕ → Act → ℕ
sent_in kind comm to (Act.Send peer head source) = one_if (has_kind kind comm head && (peer == to))
sent_in kind comm to _ = 0

abbrev pub got_in : ℕ → ℕ → ℕ → Act → ℕ
got_in kind comm from (Act.Recv peer reg head) = one_if (has_kind kind comm head && (peer == from))
got_in kind comm from (Act.Gather peer head sized) = one_if (has_kind kind comm head && (peer == from))
got_in kind comm from _ = 0

-- a call more
one_more : (test : Message → Bool) (part : DataCall → List Message) (calls : List DataCall) (call : DataCall) (n : ℕ) → length (filter test (part call)) ≡ n → length (chosen test part (calls ++ call ∷ [])) ≡ length (chosen test part calls) + n
one_more test part calls call n adds =
    ap length (chosen_append test part calls (call ∷ []))
    ∙ length-append (chosen test part calls) (filter test (part call ++ []))
    ∙ ap (λ (k : ℕ). length (chosen test part calls) + k) (ap (λ (l : List Message). length (filter test l)) (append-nil (part call)) ∙ adds)

-- that makes one message, if it is for the rank in question
one_chosen : (test : Message → Bool) (m : Message) (passes here : Bool) → test m ≡ passes → length (filter test (if here then m ∷ [] else [])) ≡ one_if (passes && here)
one_chosen test m true true is = ap length (choices.chosen (test m) (m ∷ []) [] is)
one_chosen test m false true is = ap length (choices.other (test m) (m ∷ []) [] is)
one_chosen test m true false is = refl
one_chosen test m false false is = refl

module _ (kind comm to : ℕ) (apart : (0 == kind) ≡ false) where
  pub sends_counted : Counts (sent_so_far kind comm to) (sent_in kind comm to)
  sends_counted = record { by_act = by }
    where
      by : (bytes : List ℕ) (u : State) (line : ℕ) (a : Act) → sent_so_far kind comm to (gone_by bytes u (next_with_calls u.matched (next_by_act u.local line a))) ≡ sent_so_far kind comm to u + sent_in kind comm to a
      by bytes u line (Act.Send peer head source) =
          let sent : Message = record { head = head_with_length head (length (source_bytes u.local source)); bytes = source_bytes u.local source } in
          one_more (is_of kind comm) (sent_by to) u.matched (Send peer sent.head sent.bytes) _ (one_chosen (is_of kind comm) sent (has_kind kind comm head) (peer == to) refl)
      by bytes u line (Act.Post peer reg) =
          let posted = message_posted u.local line peer reg in
          one_more (is_of kind comm) (sent_by to) u.matched (Post peer posted.head posted.bytes) 0
          (one_chosen (is_of kind comm) (record { head = posted.head; bytes = posted.bytes }) false (peer == to) (ap (λ (b : Bool). b && (0 == comm)) apart))
      by bytes u line (Act.Recv peer reg head) = one_more (is_of kind comm) (sent_by to) u.matched (Recv peer head bytes) 0 refl
      by bytes u line (Act.Gather peer head sized) = one_more (is_of kind comm) (sent_by to) u.matched (Recv peer (asked_head u.local head sized) bytes) 0 refl
      by bytes u line (Act.Bar other) = one_more (is_of kind comm) (sent_by to) u.matched (Bar other) 0 refl
      by bytes u line _ = omega arith

module _ (kind comm from : ℕ) where
  pub receipts_counted : Counts (got_so_far kind comm from) (got_in kind comm from)
  receipts_counted = record { by_act = by }
    where
      gathered : (bytes : List ℕ) (u : State) (peer : ℕ) (head : MessageHead) (sized : Option ℕ) → got_so_far kind comm from (record { local = u.local; matched = u.matched ++ Recv peer (asked_head u.local head sized) bytes ∷ [] }) ≡ got_so_far kind comm from u + one_if (has_kind kind comm head && (peer == from))
      gathered bytes u peer head None =
          one_more (is_of kind comm) (received_by from) u.matched (Recv peer head bytes) _ (one_chosen (is_of kind comm) (record { head = head; bytes = bytes }) (has_kind kind comm head) (peer == from) refl)
      gathered bytes u peer head (Some reg) =
          one_more (is_of kind comm) (received_by from) u.matched (Recv peer (asked_head u.local head (Some reg)) bytes) _ (one_chosen (is_of kind comm) (record { head = asked_head u.local head (Some reg); bytes = bytes }) (has_kind kind comm head) (peer == from) refl)

      by : (bytes : List ℕ) (u : State) (line : ℕ) (a : Act) → got_so_far kind comm from (gone_by bytes u (next_with_calls u.matched (next_by_act u.local line a))) ≡ got_so_far kind comm from u + got_in kind comm from a
      by bytes u line (Act.Send peer head source) =
          one_more (is_of kind comm) (received_by from) u.matched (Send peer (head_with_length head (length (source_bytes u.local source))) (source_bytes u.local source)) 0 refl
      by bytes u line (Act.Post peer reg) = let posted = message_posted u.local line peer reg in one_more (is_of kind comm) (received_by from) u.matched (Post peer posted.head posted.bytes) 0 refl
      by bytes u line (Act.Recv peer reg head) =
          one_more (is_of kind comm) (received_by from) u.matched (Recv peer head bytes) _ (one_chosen (is_of kind comm) (record { head = head; bytes = bytes }) (has_kind kind comm head) (peer == from) refl)
      by bytes u line (Act.Gather peer head sized) = gathered bytes u peer head sized
      by bytes u line (Act.Bar other) = one_more (is_of kind comm) (received_by from) u.matched (Bar other) 0 refl
      by bytes u line _ = omega arith

pub none_if : (passes here : Bool) → here ≡ false → one_if (passes && here) ≡ 0
none_if true here is = ap one_if is
none_if false here is = refl

pub most_if : (b : Bool) → one_if b ≤ 1
most_if true = omega arith
most_if false = omega arith

-- sends to each of a list
module _ (kind comm to : ℕ) (head : MessageHead) (source : Source) where
  -- of another kind
  pub sends_other : has_kind kind comm head ≡ false → (list : List ℕ) → total_of (sent_in kind comm to) (map (λ x. Act.Send x head source) list) ≡ 0
  sends_other other [] = refl
  sends_other other (x ∷ list) =
      let one : one_if (has_kind kind comm head && (x == to)) ≡ 0 = ap (λ (b : Bool). one_if (b && (x == to))) other in
      let more = sends_other other list in
      omega (arith, one, more)

  pub sends_apart : (x : ℕ) → x ≡ to → (list : List ℕ) → Each (λ y. x ≢ y) list → total_of (sent_in kind comm to) (map (λ x. Act.Send x head source) list) ≡ 0
  sends_apart x is [] apart = refl
  sends_apart x is (y ∷ list) apart =
      let one = none_if (has_kind kind comm head) (y == to) (different y to (λ e. apart.0 (is ∙ sym e))) in
      let more = sends_apart x is list apart.1 in
      omega (arith, one, more)

  -- at most one is for the rank in question
  pub sends_once : (list : List ℕ) → AreApart list → total_of (sent_in kind comm to) (map (λ x. Act.Send x head source) list) ≤ 1
  sends_once [] apart = omega arith
  sends_once (x ∷ list) apart =
      ⊎_elim
      (λ (is : x ≡ to).
      let one = most_if (has_kind kind comm head && (x == to)) in
      let more = sends_apart x is list apart.0 in
      omega (arith, one, more))
      (λ (odd : x ≢ to).
      let one = none_if (has_kind kind comm head) (x == to) (different x to odd) in
      let more = sends_once list apart.1 in
      omega (arith, one, more))
      (cases_eq x to)

-- a receive from each of a list, and a fold
module _ (kind comm : ℕ) (o : Operands) (head : MessageHead) where
  pub gathers_send_none : (to : ℕ) (list : List ℕ) → total_of (sent_in kind comm to) (gathers o head list) ≡ 0
  gathers_send_none to [] = refl
  gathers_send_none to (x ∷ list) = let more = gathers_send_none to list in omega (arith, more)

  pub gathers_get_each : (from : ℕ) → has_kind kind comm head ≡ true → (list : List ℕ) → IsIn from list → 1 ≤ total_of (got_in kind comm from) (gathers o head list)
  gathers_get_each from mine [] within = absurd within
  gathers_get_each from mine (x ∷ list) (inl is) =
      let one : one_if (has_kind kind comm head && (x == from)) ≡ 1 = ap one_if (choices.and_of (has_kind kind comm head) (x == from) mine (eq-eqb x from is)) in
      omega (arith, one)
  gathers_get_each from mine (x ∷ list) (inr within) = let more = gathers_get_each from mine list within in omega (arith, more)
