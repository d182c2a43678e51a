-- What a rank comes to by itself, primitive by primitive.
use Rattle.std.proofs.Common.{◌≡◌, ◌≢◌, ℕ, ◌==◌, Bool, true, ◌&&◌, List, [], ◌∷◌, ◌++◌, length, map, drop, Some, refl, sym, ap, ◌∙◌, arith, slice_get, ◌⊎◌, inl, inr, ⊎_elim, append_assoc}
use Rattle.std.specs.List.{filter, flat_map}
use Rattle.std.proofs.lemmas.Bool.{cases_eq, eq-eqb}
use Rattle.std.proofs.lemmas.Grind.{flat_map-append}
use Rattle.std.proofs.lemmas.List.{append-nil}
use Rattle.std.proofs.lemmas.List.Elements.{filter-append}
use Rattle.std.proofs.lemmas.Option.{same_Some, slice_get_past}
use Rattle.scc_base.specs.Calls.{DataCall, Message}
use Rattle.scc_base.specs.Calls.DataCall.{Send}
use Rattle.scc_base.specs.Heads.{MessageHead}
use Rattle.groups.proofs.StepLemmas.{get_front, get_after}
use Rattle.script_machine.specs.declared.prims.Source.{Source}
use Rattle.script_machine.specs.declared.prims.Source.TheVariants as source_of
use Rattle.script_machine.specs.declared.prims.Standing.TheVariants as standing
use Rattle.plain_meaning.specs.Collectives.{gone_by, gone_through}
use Rattle.script_machine.specs.Local.{gone_on, local_next, next_by_act, next_by_prim, prim_by_standing, source_bytes, head_with_length}
use Rattle.plain_meaning.specs.Meaning.{State, next_of, next_with_calls}
use Rattle.plain_meaning.specs.Messages.{is_of, sent_by}
use Rattle.script_machine.specs.Next.{Next}
use Rattle.script_machine.specs.Next.Next.{Ends, Goes, Posts, Sends, Recvs, Bars}
use Rattle.script_machine.specs.Program.{Act, Prim}
use Rattle.plain_meaning.proofs.Messages.MessageLaws.{Logs, logs}
use Rattle.plain_meaning.proofs.Orders.OrderLaws.{different}
use Rattle.script_machine.proofs.Choices as choices

-- the messages of a kind in a communicator among those that calls make
abbrev pub chosen : (Message → Bool) → (DataCall → List Message) → List DataCall → List Message
chosen test part calls = filter test (flat_map part calls)

pub chosen_append : (test : Message → Bool) (part : DataCall → List Message) (calls more : List DataCall) → chosen test part (calls ++ more) ≡ chosen test part calls ++ chosen test part more
chosen_append test part calls more = ap (filter test) (flat_map-append part calls more) ∙ filter-append test (flat_map part calls) (flat_map part more)

-- a call that makes none
pub chosen_none : (test : Message → Bool) (part : DataCall → List Message) (calls : List DataCall) (call : DataCall) → part call ≡ [] → chosen test part (calls ++ call ∷ []) ≡ chosen test part calls
chosen_none test part calls call none =
    chosen_append test part calls (call ∷ [])
    ∙ ap (λ (l : List Message). chosen test part calls ++ filter test (l ++ [])) none
    ∙ append-nil (chosen test part calls)

-- a call that makes one
pub chosen_one : (test : Message → Bool) (part : DataCall → List Message) (calls : List DataCall) (call : DataCall) (m : Message) → part call ≡ m ∷ [] → test m ≡ true → chosen test part (calls ++ call ∷ []) ≡ chosen test part calls ++ m ∷ []
chosen_one test part calls call m one passes =
    chosen_append test part calls (call ∷ [])
    ∙ ap (λ (l : List Message). chosen test part calls ++ filter test (l ++ [])) one
    ∙ ap (λ (l : List Message). chosen test part calls ++ l) (choices.chosen (test m) (m ∷ []) [] passes)

-- the entry behind a list
pub get_last : (l : List Message) (m : Message) → slice_get (l ++ m ∷ []) (length l) ≡ Some m
get_last l m = get_after l (m ∷ []) (length l) 0 m (omega arith) refl

-- what a rank has done is never undone
pub grows_by : (bytes : List ℕ) (u : State) (n : Next State) → Logs u.matched n → (more : List DataCall) × ((gone_by bytes u n).matched ≡ u.matched ++ more)
grows_by bytes u Ends log = ([], sym (append-nil u.matched))
grows_by bytes u (Goes after) log = ([], log ∙ sym (append-nil u.matched))
grows_by bytes u (Posts message after) log = (_, log)
grows_by bytes u (Sends to head sent after) log = (_, log)
grows_by bytes u (Recvs from head take refuse) log = (_, log.0 bytes)
grows_by bytes u (Bars comm after) log = (_, log)

pub grows : (path : List (List ℕ)) (u : State) → (more : List DataCall) × ((gone_through path u).matched ≡ u.matched ++ more)
grows [] u = ([], sym (append-nil u.matched))
grows (bytes ∷ path) u =
    let (one, first) = grows_by bytes u (next_of u) (logs u.matched (local_next u.local)) in
    let (more, rest) = grows path (gone_by bytes u (next_of u)) in
    (one ++ more, rest ∙ ap (λ (l : List DataCall). l ++ more) first ∙ append_assoc u.matched one more)

pub keeps : (test : Message → Bool) (part : DataCall → List Message) (path : List (List ℕ)) (u : State) (n : ℕ) (m : Message) → slice_get (chosen test part u.matched) n ≡ Some m → slice_get (chosen test part (gone_through path u).matched) n ≡ Some m
keeps test part path u n m there =
    let (more, is) = grows path u in
    ap (λ (l : List DataCall). slice_get (chosen test part l) n) is
    ∙ ap (λ (l : List Message). slice_get l n) (chosen_append test part u.matched more)
    ∙ get_front (chosen test part u.matched) (chosen test part more) n m there

pub through_both : (one two : List (List ℕ)) (u : State) → gone_through (one ++ two) u ≡ gone_through two (gone_through one u)
through_both [] two u = refl
through_both (bytes ∷ one) two u = through_both one two (gone_by bytes u (next_of u))

-- a running rank with these acts in front of it
pub record Facing (line : ℕ) (acts : List Act) (rest : List Prim) (u : State) : Type 0 where
  pub running : u.local.standing ≡ standing.Running
  pub left : u.local.left ≡ map (λ a. record { line = line; act = a }) acts ++ rest

module _ (line : ℕ) (rest : List Prim) (acts : List Act) (u : State) where
  pub faced : (a : Act) → Facing line (a ∷ acts) rest u → next_of u ≡ next_with_calls u.matched (next_by_act u.local line a)
  unfolding local_next
  faced a facing =
      ap (next_with_calls u.matched) (ap (next_by_prim u.local)
      (ap (λ s. prim_by_standing s u.local.left) facing.running ∙ ap (λ (l : List Prim). slice_get l 0) facing.left))

  -- past the first of them
  pub past : (a : Act) → Facing line (a ∷ acts) rest u → (v : State) → v.local.standing ≡ u.local.standing → v.local.left ≡ drop 1 u.local.left → Facing line acts rest v
  past a facing v same next = record { running = same ∙ facing.running; left = next ∙ ap (λ (l : List Prim). drop 1 l) facing.left }

  pub by_send : (bytes : List ℕ) (to : ℕ) (head : MessageHead) (source : Source) → Facing line (Act.Send to head source ∷ acts) rest u
      → gone_by bytes u (next_of u) ≡ record { local = gone_on u.local; matched = u.matched ++ Send to (head_with_length head (length (source_bytes u.local source))) (source_bytes u.local source) ∷ [] }
  by_send bytes to head source facing = ap (gone_by bytes u) (faced (Act.Send to head source) facing)

-- whether a rank is in a list
abbrev pub IsIn : ℕ → List ℕ → Type 0
IsIn i [] = ⊥
IsIn i (x ∷ xs) = (x ≡ i) ⊎ IsIn i xs

-- the first message to a rank that sends to each of a list make is the source's bytes, with their length
pub first_sent : (kind comm line i : ℕ) (head : MessageHead) (source : Source) (X : List ℕ) (tail : List Act) (rest : List Prim)
    (list : List ℕ) (u : State) (path : List (List ℕ)) (m : Message)
    → ((head.kind == kind) && (head.comm == comm)) ≡ true
    → Facing line (map (λ to. Act.Send to head source) list ++ tail) rest u → source_bytes u.local source ≡ X → IsIn i list
    → slice_get (chosen (is_of kind comm) (sent_by i) (gone_through path u).matched) (length (chosen (is_of kind comm) (sent_by i) u.matched)) ≡ Some m
    → m ≡ record { head = head_with_length head (length X); bytes = X }
first_sent kind comm line i head source X tail rest [] u path m mine facing held within found = absurd within
first_sent kind comm line i head source X tail rest (to ∷ list) u [] m mine facing held within found =
    let none = slice_get_past (chosen (is_of kind comm) (sent_by i) u.matched) (length (chosen (is_of kind comm) (sent_by i) u.matched)) (omega arith) in absurd (cc)
first_sent kind comm line i head source X tail rest (to ∷ list) u (bytes ∷ path) m mine facing held within found =
    ⊎_elim here (λ (apart : to ≢ i). there apart (λ w faces holds inside get. first_sent kind comm line i head source X tail rest list w path m mine faces holds inside get)) (cases_eq to i)
  where
    sent : Message
    sent = record { head = head_with_length head (length (source_bytes u.local source)); bytes = source_bytes u.local source }

    v : State
    v = record { local = gone_on u.local; matched = u.matched ++ Send to (head_with_length head (length (source_bytes u.local source))) (source_bytes u.local source) ∷ [] }

    moved : gone_by bytes u (next_of u) ≡ v
    moved = by_send line rest (map (λ to. Act.Send to head source) list ++ tail) u bytes to head source facing

    found_on : slice_get (chosen (is_of kind comm) (sent_by i) (gone_through path v).matched) (length (chosen (is_of kind comm) (sent_by i) u.matched)) ≡ Some m
    found_on = ap (λ (w : State). slice_get (chosen (is_of kind comm) (sent_by i) (gone_through path w).matched) (length (chosen (is_of kind comm) (sent_by i) u.matched))) (sym moved) ∙ found

    here : to ≡ i → m ≡ record { head = head_with_length head (length X); bytes = X }
    here is =
        let more = chosen_one (is_of kind comm) (sent_by i) u.matched (Send to sent.head sent.bytes) sent (choices.chosen (to == i) (sent ∷ []) [] (eq-eqb to i is)) mine in
        let stood : slice_get (chosen (is_of kind comm) (sent_by i) v.matched) (length (chosen (is_of kind comm) (sent_by i) u.matched)) ≡ Some sent =
        ap (λ (l : List Message). slice_get l (length (chosen (is_of kind comm) (sent_by i) u.matched))) more ∙ get_last (chosen (is_of kind comm) (sent_by i) u.matched) sent in
        let kept = keeps (is_of kind comm) (sent_by i) path v (length (chosen (is_of kind comm) (sent_by i) u.matched)) sent stood in
        let same : sent ≡ m = same_Some sent m (sym kept ∙ found_on) in
        sym same ∙ ap (λ (bs : List ℕ). record { head = head_with_length head (length bs); bytes = bs }) held

    there : to ≢ i
        → ((w : State) → Facing line (map (λ t. Act.Send t head source) list ++ tail) rest w → source_bytes w.local source ≡ X → IsIn i list
        → slice_get (chosen (is_of kind comm) (sent_by i) (gone_through path w).matched) (length (chosen (is_of kind comm) (sent_by i) w.matched)) ≡ Some m → m ≡ record { head = head_with_length head (length X); bytes = X })
        → m ≡ record { head = head_with_length head (length X); bytes = X }
    there apart again =
        let none : sent_by i (Send to sent.head sent.bytes) ≡ [] = choices.other (to == i) (sent ∷ []) [] (different to i apart) in
        let same = chosen_none (is_of kind comm) (sent_by i) u.matched (Send to sent.head sent.bytes) none in
        again v
        (past line rest (map (λ to. Act.Send to head source) list ++ tail) u (Act.Send to head source) facing v refl refl)
        (held_on source held)
        (rest_in within)
        (ap (λ (l : List Message). slice_get (chosen (is_of kind comm) (sent_by i) (gone_through path v).matched) (length l)) same ∙ found_on)
      where
        held_on : (s : Source) → source_bytes u.local s ≡ X → source_bytes (gone_on u.local) s ≡ X
        held_on (source_of.Own reg) is = is
        held_on source_of.Accumulator is = is

        rest_in : (to ≡ i) ⊎ IsIn i list → IsIn i list
        rest_in (inl is) = absurd (apart is)
        rest_in (inr on) = on
