-- What a broadcast gives, and how sends and receives of collective calls go.
use Rattle.std.proofs.Common.{◌≡◌, ℕ, ◌==◌, true, ◌&&◌, List, [], ◌∷◌, ◌++◌, length, map, Option, Some, None, refl, sym, ap, ◌∙◌, subst, arith, slice_get, slice_set}
use Rattle.std.proofs.lemmas.Bool.{eq-eqb}
use Rattle.std.proofs.lemmas.List.{append-nil}
use Rattle.scc_base.specs.Calls.{DataCall, Message}
use Rattle.scc_base.specs.Calls.DataCall.{Recv}
use Rattle.scc_base.specs.Heads.{MessageHead, kind_number}
use Rattle.scc_base.specs.Setups.{SetupView, place_of}
use Rattle.scc_base.specs.declared.kinds.Kind.{Kind}
use Rattle.scc_base.specs.declared.kinds.Kind.TheVariants as kind_of
use Rattle.groups.specs.Collectives.{head_of_kind, others_of}
use Rattle.groups.specs.declared.collectives.Coll.TheVariants as coll
use Rattle.groups.specs.declared.operations.Op.TheVariants as op
use Rattle.groups.specs.declared.operations.Ty.TheVariants as ty
use Rattle.script_rules.specs.Script.{Script}
use Rattle.script_rules.specs.declared.script.Stmt.{Stmt}
use Rattle.script_rules.specs.declared.script.Stmt.TheVariants as stmt
use Rattle.script_machine.specs.declared.prims.Operands.{Operands}
use Rattle.script_machine.specs.declared.prims.Source.{Source}
use Rattle.script_machine.specs.declared.prims.Source.TheVariants as source_of
use Rattle.plain_meaning.specs.Collectives.{AreBroadcast, HasDone, IsOther, StandsAtStatement, gone_by, gone_through}
use Rattle.script_machine.specs.Local.{Local, asked_head, gone_on_gathering, gone_on_with, register_at}
use Rattle.plain_meaning.specs.Meaning.{State, next_of}
use Rattle.plain_meaning.specs.Messages.{AreDelivered, is_of, received_by, sent_by}
use Rattle.script_machine.specs.Program.{Act, Prim, acts_of, can_call, parts_of, setup_of}
use Rattle.script_machine.specs.Program.Act.{Send, Gather, Accept}
use Rattle.plain_meaning.specs.Step.{Configuration}
use Rattle.plain_meaning.proofs.Collectives.CollectiveFits.{AreFit}
use Rattle.plain_meaning.proofs.Collectives.CollectiveGroups.{bcast_parts, is_in_others, other_has, root_has}
use Rattle.plain_meaning.proofs.Collectives.CollectivePaths.{Facing, by_send, chosen, chosen_one, faced, first_sent, get_last, keeps, past}
use Rattle.plain_meaning.proofs.Messages.MessageLaws.{received_as_sent}
use Rattle.script_machine.proofs.Choices as choices

-- a rank at a statement faces what the statement makes
pub faces : (script : Script) (rank : ℕ) (statement : Stmt) (u : State) (stood : StandsAtStatement script rank statement u) (acts : List Act) → acts_of (setup_of script) rank statement ≡ acts → Facing stood.item.line acts stood.rest u
faces script rank statement u stood acts is = record {
  running = stood.running;
  left = stood.next ∙ ap (λ (l : List Act). map (λ a. record { line = stood.item.line; act = a }) l ++ stood.rest) is;
}

-- a message of this kind in this communicator
pub own_kind : (kind : Kind) (comm len : ℕ) → (((head_of_kind kind comm len).kind == kind_number kind) && ((head_of_kind kind comm len).comm == comm)) ≡ true
own_kind kind comm len = choices.and_of (kind_number kind == kind_number kind) (comm == comm) (eq-eqb (kind_number kind) (kind_number kind) refl) (eq-eqb comm comm refl)

pub asked_kind : (u : Local) (head : MessageHead) (sized : Option ℕ) (kind comm : ℕ) → ((head.kind == kind) && (head.comm == comm)) ≡ true → (((asked_head u head sized).kind == kind) && ((asked_head u head sized).comm == comm)) ≡ true
asked_kind u head None kind comm mine = mine
asked_kind u head (Some reg) kind comm mine = mine

-- past a send to each of a list, nothing has changed but the calls done
pub record Unchanged (line : ℕ) (tail : List Act) (rest : List Prim) (u w : State) : Type 0 where
  pub facing : Facing line tail rest w
  pub registers : w.local.registers ≡ u.local.registers
  pub accumulator : w.local.accumulator ≡ u.local.accumulator

pub past_sends : (line : ℕ) (head : MessageHead) (source : Source) (tail : List Act) (rest : List Prim) (list : List ℕ) (u : State) (path : List (List ℕ)) → length path ≡ length list → Facing line (map (λ to. Send to head source) list ++ tail) rest u → Unchanged line tail rest u (gone_through path u)
past_sends line head source tail rest [] u [] even facing = record { facing = facing; registers = refl; accumulator = refl }
past_sends line head source tail rest [] u (bytes ∷ path) even facing = absurd (omega (arith, even))
past_sends line head source tail rest (to ∷ list) u [] even facing = absurd (omega (arith, even))
past_sends line head source tail rest (to ∷ list) u (bytes ∷ path) even facing =
    let moved = by_send line rest (map (λ t. Send t head source) list ++ tail) u bytes to head source facing in
    let on = past line rest (map (λ t. Send t head source) list ++ tail) u (Send to head source) facing _ refl refl in
    let more = past_sends line head source tail rest list _ path (omega (arith, even)) on in
    subst (λ (v : State). Unchanged line tail rest u (gone_through path v)) (sym moved)
    (record { facing = more.facing; registers = more.registers; accumulator = more.accumulator })

-- a receive, and the bytes received put into a register
pub accepts : (kind comm line from dst : ℕ) (head : MessageHead) (sized : Option ℕ) (rest : List Prim) (u : State) (taken : List (List ℕ))
    → ((head.kind == kind) && (head.comm == comm)) ≡ true → length taken ≡ 2 → Facing line (Gather from head sized ∷ Accept dst ∷ []) rest u
    → (m : Message) × ((gone_through taken u).local.registers ≡ slice_set u.local.registers dst m.bytes)
    × ((later : List (List ℕ)) → slice_get (chosen (is_of kind comm) (received_by from) (gone_through later (gone_through taken u)).matched) (length (chosen (is_of kind comm) (received_by from) u.matched)) ≡ Some m)
accepts kind comm line from dst head sized rest u [] mine two facing = absurd (omega (arith, two))
accepts kind comm line from dst head sized rest u (one ∷ []) mine two facing = absurd (omega (arith, two))
accepts kind comm line from dst head sized rest u (one ∷ more ∷ path ∷ paths) mine two facing = absurd (omega (arith, two))
accepts kind comm line from dst head sized rest u (one ∷ last ∷ []) mine two facing = (m, ap (λ (x : State). x.local.registers) both, found)
  where
    m : Message
    m = record { head = asked_head u.local head sized; bytes = one }

    v : State
    v = record { local = gone_on_gathering u.local one; matched = u.matched ++ Recv from (asked_head u.local head sized) one ∷ [] }

    w : State
    w = record { local = gone_on_with (gone_on_gathering u.local one) dst one; matched = u.matched ++ Recv from (asked_head u.local head sized) one ∷ [] }

    first : gone_by one u (next_of u) ≡ v
    first = ap (gone_by one u) (faced line rest (Accept dst ∷ []) u (Gather from head sized) facing)

    second : gone_by last v (next_of v) ≡ w
    second = ap (gone_by last v) (faced line rest [] v (Accept dst) (past line rest (Accept dst ∷ []) u (Gather from head sized) facing v refl refl))

    both : gone_through (one ∷ last ∷ []) u ≡ w
    both = ap (λ (x : State). gone_by last x (next_of x)) first ∙ second

    there : slice_get (chosen (is_of kind comm) (received_by from) w.matched) (length (chosen (is_of kind comm) (received_by from) u.matched)) ≡ Some m
    there =
        ap (λ (l : List Message). slice_get l (length (chosen (is_of kind comm) (received_by from) u.matched)))
        (chosen_one (is_of kind comm) (received_by from) u.matched (Recv from (asked_head u.local head sized) one) m (choices.chosen (from == from) (m ∷ []) [] (eq-eqb from from refl)) (asked_kind u.local head sized kind comm mine))
        ∙ get_last (chosen (is_of kind comm) (received_by from) u.matched) m

    found : (later : List (List ℕ)) → slice_get (chosen (is_of kind comm) (received_by from) (gone_through later (gone_through (one ∷ last ∷ []) u)).matched) (length (chosen (is_of kind comm) (received_by from) u.matched)) ≡ Some m
    found later =
        ap (λ (x : State). slice_get (chosen (is_of kind comm) (received_by from) (gone_through later x).matched) (length (chosen (is_of kind comm) (received_by from) u.matched))) both
        ∙ keeps (is_of kind comm) (received_by from) later w (length (chosen (is_of kind comm) (received_by from) u.matched)) m there

-- what a broadcast makes for the root, and for each of the others
abbrev pub bcast_operands : ℕ → Operands
bcast_operands reg = record { op = op.Sum; ty = ty.Int; dst = reg; src = reg; sized = None }

pub bcast_at_root : (s : SetupView) (comm place reg len root : ℕ) → can_call s root (coll.Bcast comm place len) ≡ true → place_of s comm root ≡ place
    → acts_of s root (stmt.Bcast comm place reg len) ≡ map (λ to. Send to (head_of_kind kind_of.Bcast comm len) (source_of.Own reg)) (others_of s comm root place)
bcast_at_root s comm place reg len root callable at =
    ap (parts_of (bcast_operands reg)) (root_has s (coll.Bcast comm place len) root callable at)
    ∙ bcast_parts (bcast_operands reg) (head_of_kind kind_of.Bcast comm len) (others_of s comm root place)

bcast_at_other : (s : SetupView) (comm place reg len root rank : ℕ) → can_call s rank (coll.Bcast comm place len) ≡ true → IsOther s comm place root rank
    → acts_of s rank (stmt.Bcast comm place reg len) ≡ Gather root (head_of_kind kind_of.Bcast comm len) None ∷ Accept reg ∷ []
bcast_at_other s comm place reg len root rank callable is = ap (parts_of (bcast_operands reg)) (other_has s (coll.Bcast comm place len) root rank callable is)

-- what came to one of the others that has done a broadcast
pub bcast_accepts : (script : Script) (comm place size dst root rank : ℕ) (v before after : State) → IsOther (setup_of script) comm place root rank → can_call (setup_of script) rank (coll.Bcast comm place size) ≡ true
    → HasDone script rank (stmt.Bcast comm place dst size) v before after
    → (m : Message) × (after.local.registers ≡ slice_set before.local.registers dst m.bytes)
    × (slice_get (chosen (is_of (kind_number kind_of.Bcast) comm) (received_by root) v.matched) (length (chosen (is_of (kind_number kind_of.Bcast) comm) (received_by root) before.matched)) ≡ Some m)
bcast_accepts script comm place size dst root rank v before after other can_rank done =
    let (m, registers, found) = accepts K comm done.stood.item.line root dst (head_of_kind kind_of.Bcast comm size) None done.stood.rest before done.taken (own_kind kind_of.Bcast comm size) (done.each ∙ ap length at_other)
    (faces script rank (stmt.Bcast comm place dst size) before done.stood _ at_other) in (
      m,
      ap (λ (x : State). x.local.registers) done.came ∙ registers,
      ap (λ (l : List DataCall). slice_get (chosen (is_of K comm) (received_by root) l) (length (chosen (is_of K comm) (received_by root) before.matched))) done.since
          ∙ ap (λ (x : State). slice_get (chosen (is_of K comm) (received_by root) (gone_through done.later x).matched) (length (chosen (is_of K comm) (received_by root) before.matched))) done.came
          ∙ found done.later,
    )
  where
    K : ℕ
    K = kind_number kind_of.Bcast

    at_other : acts_of (setup_of script) rank (stmt.Bcast comm place dst size) ≡ Gather root (head_of_kind kind_of.Bcast comm size) None ∷ Accept dst ∷ []
    at_other = bcast_at_other (setup_of script) comm place dst size root rank can_rank other

pub broadcast : (script : Script) (c : Configuration State) → AreDelivered c → AreFit script c → AreBroadcast script c
broadcast script c delivered fit comm place len size reg dst root rank u v begun before after at_root at_rank other came done same =
    accepted.1 ∙ ap (λ (bytes : List ℕ). slice_set before.local.registers dst bytes) given
  where
    can_root : can_call (setup_of script) root (coll.Bcast comm place len) ≡ true
    can_root = fit.casts root u begun comm place reg len at_root came.stood

    can_rank : can_call (setup_of script) rank (coll.Bcast comm place size) ≡ true
    can_rank = fit.casts rank v before comm place dst size at_rank done.stood

    s : SetupView
    s = setup_of script

    K : ℕ
    K = kind_number kind_of.Bcast

    accepted : (m : Message) × (after.local.registers ≡ slice_set before.local.registers dst m.bytes)
        × (slice_get (chosen (is_of K comm) (received_by root) v.matched) (length (chosen (is_of K comm) (received_by root) before.matched)) ≡ Some m)
    accepted = bcast_accepts script comm place size dst root rank v before after other can_rank done

    sent : slice_get (chosen (is_of K comm) (sent_by rank) (gone_through came.later begun).matched) (length (chosen (is_of K comm) (sent_by rank) begun.matched)) ≡ Some accepted.0
    sent =
        ap (λ (l : List DataCall). slice_get (chosen (is_of K comm) (sent_by rank) l) (length (chosen (is_of K comm) (sent_by rank) begun.matched))) (sym came.since)
        ∙ ap (slice_get (chosen (is_of K comm) (sent_by rank) u.matched)) same
        ∙ received_as_sent c delivered K comm (length (chosen (is_of K comm) (received_by root) before.matched)) root rank u v accepted.0 at_root at_rank accepted.2

    given : accepted.0.bytes ≡ register_at begun.local reg
    given =
        ap (λ (x : Message). x.bytes) (first_sent K comm came.stood.item.line rank (head_of_kind kind_of.Bcast comm len) (source_of.Own reg) (register_at begun.local reg) [] came.stood.rest (others_of s comm root place) begun came.later accepted.0 (own_kind kind_of.Bcast comm len)
        (faces script root (stmt.Bcast comm place reg len) begun came.stood _ (bcast_at_root s comm place reg len root can_root other.placed.placed ∙ sym (append-nil (map (λ to. Send to (head_of_kind kind_of.Bcast comm len) (source_of.Own reg)) (others_of s comm root place)))))
        refl (is_in_others s comm place root rank other) sent)
