-- What the laws of who came to a collective call stand on: the state of each rank, and what a rank has received.
use Rattle.std.proofs.Common.{◌≡◌, ℕ, zero, suc, ◌+◌, ◌*◌, ◌<◌, ◌≤◌, ◌==◌, true, false, List, [], ◌∷◌, ◌++◌, length, Option, Some, None, refl, sym, ap, ◌∙◌, subst, arith, slice_get, length-append, inl, inr}
use Rattle.std.specs.Prelude.{slice_index}
use Rattle.std.proofs.lemmas.Bool.{ltb-true}
use Rattle.std.proofs.lemmas.Option.{get_or_from_slice_get}
use Rattle.scc_base.specs.Calls.{DataCall, Message}
use Rattle.scc_base.specs.Heads.{MessageHead}
use Rattle.scc_base.specs.Setups.{SetupView, members_of, place_of, setup_key, size_of}
use Rattle.scc_base.proofs.GroupFacts.{member_at_place, place_found}
use Rattle.groups.specs.declared.collectives.Coll.TheVariants as coll
use Rattle.script_rules.specs.Script.{Script}
use Rattle.script_rules.specs.declared.script.Stmt.{Stmt}
use Rattle.script_rules.specs.declared.script.Stmt.TheVariants as stmt
use Rattle.script_machine.specs.declared.prims.Operands.{Operands}
use Rattle.plain_meaning.specs.Collectives.{IsOther, gone_through}
use Rattle.plain_meaning.specs.Meaning.{State}
use Rattle.plain_meaning.specs.Messages.{is_of, received_by}
use Rattle.script_machine.specs.Program.{Act, Prim, can_call}
use Rattle.script_machine.specs.Program.Act.{Begin}
use Rattle.plain_meaning.specs.Step.{Configuration}
use Rattle.plain_meaning.proofs.Collectives.CollectiveGroups.{gathers}
use Rattle.plain_meaning.proofs.Collectives.CollectivePaths.{Facing, IsIn, chosen, chosen_append, grows, through_both}
use Rattle.plain_meaning.proofs.Arrivals.MessageCounts.{all_counted, gathers_get_each, gathers_send_none, got_in, got_so_far, has_kind, receipts_counted, sends_counted, sent_in, sent_so_far, some_counted}
use Rattle.plain_meaning.proofs.Collectives.ReductionPaths.{gathers_length, split_at}
use Rattle.plain_meaning.proofs.Arrivals.StatementSends.{IsCallOf, IsReduceOf, MakesOne}
use Rattle.script_machine.proofs.Choices as choices

-- each rank of the script has a state
pub cell_at : (script : Script) (c : Configuration State) (rank : ℕ) → length c.cells ≡ script.nue → rank < script.nue → (u : State) × (slice_get c.cells rank ≡ Some u)
cell_at script c rank even below = by (slice_get c.cells rank) refl
  where
    by : (o : Option State) → slice_get c.cells rank ≡ o → (u : State) × (slice_get c.cells rank ≡ Some u)
    by (Some u) is = (u, is)
    by None is = absurd (in_list c.cells rank (omega (arith, even, below)) is)
      where
        in_list : (us : List State) (k : ℕ) → k < length us → slice_get us k ≡ None → ⊥
        in_list [] k low none = absurd (omega (arith, low))
        in_list (u ∷ us) zero low none = cc
        in_list (u ∷ us) (suc k) low none = in_list us k (omega (arith, low)) none

-- a message that stands in a list
pub message_at : (l : List Message) (n : ℕ) → n < length l → slice_get l n ≡ None → ⊥
message_at [] n low none = absurd (omega (arith, low))
message_at (m ∷ l) zero low none = cc
message_at (m ∷ l) (suc n) low none = message_at l n (omega (arith, low)) none

-- what a rank has received is never undone
pub still_got : (kind comm from : ℕ) (path : List (List ℕ)) (u : State) → got_so_far kind comm from u ≤ got_so_far kind comm from (gone_through path u)
still_got kind comm from path u =
    let (more, is) = grows path u in
    let even : got_so_far kind comm from (gone_through path u) ≡ got_so_far kind comm from u + length (chosen (is_of kind comm) (received_by from) more) =
    ap (λ (l : List DataCall). length (chosen (is_of kind comm) (received_by from) l)) is
    ∙ ap length (chosen_append (is_of kind comm) (received_by from) u.matched more)
    ∙ length-append (chosen (is_of kind comm) (received_by from) u.matched) (chosen (is_of kind comm) (received_by from) more) in
    omega (arith, even)

-- who has folded has a message from each of the others
module _ (kind comm line src : ℕ) (o : Operands) (head : MessageHead) (tail : List Act) (rest : List Prim) (list : List ℕ) (u : State)
    (facing : Facing line (Begin src ∷ gathers o head list ++ tail) rest u) where
  pub gets_each : (from : ℕ) (path : List (List ℕ)) → has_kind kind comm head ≡ true → IsIn from list → suc (2 * length list) ≤ length path → got_so_far kind comm from u < got_so_far kind comm from (gone_through path u)
  gets_each from path mine within low =
      let (mid, end, whole, even) = split_at (suc (2 * length list)) path low in
      let long = gathers_length o head list in
      let all = all_counted (got_so_far kind comm from) (got_in kind comm from) (receipts_counted kind comm from) line tail rest (Begin src ∷ gathers o head list) mid u (omega (arith, long, even)) facing in
      let some = gathers_get_each kind comm o head from mine list within in
      let kept = still_got kind comm from end (gone_through mid u) in
      let is : got_so_far kind comm from (gone_through path u) ≡ got_so_far kind comm from (gone_through end (gone_through mid u)) =
      ap (λ (p : List (List ℕ)). got_so_far kind comm from (gone_through p u)) whole ∙ ap (got_so_far kind comm from) (through_both mid end u) in
      omega (arith, all, some, kept, is)

  -- and who has not sends nothing
  pub sends_none : (to : ℕ) (path : List (List ℕ)) → (0 == kind) ≡ false → length path ≤ suc (2 * length list) → sent_so_far kind comm to (gone_through path u) ≤ sent_so_far kind comm to u
  sends_none to path apart low =
      let long = gathers_length o head list in
      let most = some_counted (sent_so_far kind comm to) (sent_in kind comm to) (sends_counted kind comm to apart) line tail rest (Begin src ∷ gathers o head list) path u (omega (arith, long, low)) facing in
      let none = gathers_send_none kind comm o head to list in
      omega (arith, most, none)

-- the place of the root that a call names
pub root_place_is : (s : SetupView) (comm place root rank : ℕ) → place < size_of s comm rank → slice_index (members_of s comm rank) place ≡ root → place_of s comm root ≡ place
root_place_is s comm place root rank low at =
    let (x, below, grouped, placed) = place_found s.nue (setup_key s comm) rank place low in
    let there : slice_get (members_of s comm rank) place ≡ Some x = ap (slice_get (members_of s comm rank)) (sym placed) ∙ member_at_place s.nue (setup_key s comm) rank x grouped below in
    let is : x ≡ root = sym (get_or_from_slice_get (members_of s comm rank) place x 0 there) ∙ at in
    subst (λ (r : ℕ). place_of s comm r ≡ place) is placed

-- the root that a call names is in the group
pub root_below : (s : SetupView) (comm place rank : ℕ) → can_call s rank (coll.Reduce comm place 0) ≡ true → place < size_of s comm rank
root_below s comm place rank callable = let parts = choices.both_true _ _ callable in ltb-true place (size_of s comm rank) parts.1

-- a reduction of one of the others is one to the root in question
pub reduce_is : (s : SetupView) (comm place root rank : ℕ) → IsOther s comm place root rank → (statement : Stmt) → IsReduceOf s rank comm root statement → IsCallOf s rank (stmt.Reduce comm place) (coll.Reduce comm place 0) statement
reduce_is s comm place root rank other statement r =
    subst (λ (p : ℕ). IsCallOf s rank (stmt.Reduce comm p) (coll.Reduce comm p 0) statement) same (record { op = r.op; ty = r.ty; dst = r.dst; src = r.src; is = r.is; callable = r.callable })
  where
    same : r.place ≡ place
    same = sym (root_place_is s comm r.place root rank (root_below s comm r.place rank r.callable) r.at) ∙ other.placed.placed

pub makes_such : (n : ℕ) (A B : Type 0) → (A → B) → MakesOne n A → MakesOne n B
makes_such n A B on (inl none) = inl none
makes_such n A B on (inr one) = inr (one.0, on one.1)
