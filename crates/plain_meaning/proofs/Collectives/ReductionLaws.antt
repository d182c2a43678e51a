-- What a reduction gives, and a reduction to all.
use Rattle.std.proofs.Common.{◌≡◌, ℕ, suc, ◌+◌, ◌*◌, ◌%◌, ◌<◌, ◌≤◌, ◌==◌, Bool, true, ◌&&◌, List, [], ◌∷◌, ◌++◌, length, map, Some, refl, sym, ap, ◌∙◌, subst, arith, slice_get, slice_set, length-append, append_assoc, inl, ⊎_elim}
use Rattle.std.proofs.lemmas.Bool.{cases_lt, ltb-true}
use Rattle.std.proofs.lemmas.List.{length-map, map-append}
use Rattle.std.proofs.lemmas.Option.{slice_get_past}
use Rattle.scc_base.specs.Calls.{DataCall, Message}
use Rattle.scc_base.specs.Calls.DataCall.{Recv}
use Rattle.scc_base.specs.Heads.{MessageHead, kind_number}
use Rattle.scc_base.specs.Setups.{SetupView, place_of}
use Rattle.scc_base.specs.declared.kinds.Kind.{Kind}
use Rattle.scc_base.specs.declared.kinds.Kind.TheVariants as kind_of
use Rattle.groups.specs.Collectives.{fold_each, head_of_kind, others_of, send_each}
use Rattle.groups.specs.Folds.{bytes_in, fold_of}
use Rattle.groups.specs.declared.collectives.Coll.{Coll}
use Rattle.groups.specs.declared.collectives.Coll.TheVariants as coll
use Rattle.groups.specs.declared.collectives.Step.TheVariants as step
use Rattle.groups.specs.declared.operations.Op.{Op}
use Rattle.groups.specs.declared.operations.Ty.{Ty}
use Rattle.script_rules.specs.Script.{Script}
use Rattle.script_rules.specs.declared.script.Stmt.{Stmt}
use Rattle.script_rules.specs.declared.script.Stmt.TheVariants as stmt
use Rattle.script_machine.specs.declared.prims.Operands.{Operands}
use Rattle.script_machine.specs.declared.prims.Source.TheVariants as source_of
use Rattle.plain_meaning.specs.Collectives.{AreReduced, AreReducedToAll, AreToldAll, CameTo, GivesPart, HasDone, IsOther, gone_by, gone_through}
use Rattle.script_machine.specs.Local.{asked_head, fold_if_fits, gone_on, gone_on_folding, gone_on_gathering, register_at, head_with_length}
use Rattle.plain_meaning.specs.Meaning.{State, next_of}
use Rattle.plain_meaning.specs.Messages.{AreDelivered, is_of, received_by, sent_by}
use Rattle.script_machine.specs.Program.{Act, Prim, acts_of, can_call, part_of, parts_of, setup_of}
use Rattle.script_machine.specs.Program.Act.{Send, Gather, Begin, Fold, Accept, Finish}
use Rattle.plain_meaning.specs.Step.{Configuration}
use Rattle.plain_meaning.proofs.Collectives.BroadcastLaws.{Unchanged, accepts, faces, own_kind, past_sends}
use Rattle.plain_meaning.proofs.Collectives.CollectiveFits.{AreFit, came_to}
use Rattle.plain_meaning.proofs.Collectives.CollectiveGroups.{AreApart, Each, each_on, folds_parts, gathers, is_in_others, other_has, others_apart, others_each, root_has, sends_parts}
use Rattle.plain_meaning.proofs.Collectives.CollectivePaths.{Facing, by_send, chosen, chosen_none, faced, first_sent, past, through_both}
use Rattle.plain_meaning.proofs.Messages.MessageLaws.{received_as_sent}
use Rattle.plain_meaning.proofs.Collectives.ReductionPaths.{AreQuiet, Comes, Counted, Folded, fold_operands, gathers_length, gathers_quiet, past_folds, split_at}
use Rattle.script_machine.proofs.Choices as choices

-- nothing is sent on the way through quiet acts
pub quiet_path : (test : Message → Bool) (i line : ℕ) (tail : List Act) (rest : List Prim) (acts : List Act) (u : State) (path : List (List ℕ))
    → AreQuiet acts → length path ≤ length acts → Facing line (acts ++ tail) rest u → chosen test (sent_by i) (gone_through path u).matched ≡ chosen test (sent_by i) u.matched
quiet_path test i line tail rest acts u [] quiet low facing = refl
quiet_path test i line tail rest [] u (bytes ∷ path) quiet low facing = absurd (omega (arith, low))
quiet_path test i line tail rest (Begin reg ∷ acts) u (bytes ∷ path) quiet low facing =
    let moved = ap (gone_by bytes u) (faced line rest (acts ++ tail) u (Begin reg) facing) in
    ap (λ (v : State). chosen test (sent_by i) (gone_through path v).matched) moved
    ∙ quiet_path test i line tail rest acts _ path quiet.1 (omega (arith, low)) (past line rest (acts ++ tail) u (Begin reg) facing (record { local = gone_on_folding u.local (register_at u.local reg); matched = u.matched }) refl refl)
quiet_path test i line tail rest (Fold op ty ∷ acts) u (bytes ∷ path) quiet low facing =
    let moved = ap (gone_by bytes u) (faced line rest (acts ++ tail) u (Fold op ty) facing) in
    ap (λ (v : State). chosen test (sent_by i) (gone_through path v).matched) moved
    ∙ quiet_path test i line tail rest acts _ path quiet.1 (omega (arith, low)) (past line rest (acts ++ tail) u (Fold op ty) facing (record { local = gone_on_folding u.local (fold_if_fits op ty u.local.accumulator u.local.received); matched = u.matched }) refl refl)
quiet_path test i line tail rest (Gather from head sized ∷ acts) u (bytes ∷ path) quiet low facing =
    let moved = ap (gone_by bytes u) (faced line rest (acts ++ tail) u (Gather from head sized) facing) in
    ap (λ (v : State). chosen test (sent_by i) (gone_through path v).matched) moved
    ∙ quiet_path test i line tail rest acts _ path quiet.1 (omega (arith, low)) (past line rest (acts ++ tail) u (Gather from head sized) facing (record { local = gone_on_gathering u.local bytes; matched = u.matched ++ Recv from (asked_head u.local head sized) bytes ∷ [] }) refl refl)
    ∙ chosen_none test (sent_by i) u.matched (Recv from (asked_head u.local head sized) bytes) refl
quiet_path test i line tail rest (_ ∷ acts) u (bytes ∷ path) quiet low facing = absurd quiet.0

-- past the beginning and all the folds
module _ (kind comm line dst src : ℕ) (op : Op) (ty : Ty) (head : MessageHead) (tail : List Act) (rest : List Prim) (X : ℕ → List ℕ) (final begun : State) (list : List ℕ)
    (mine : ((head.kind == kind) && (head.comm == comm)) ≡ true) where
  -- the rest of the way, from where all is folded
  pub record AllFolded (path : List (List ℕ)) : Type 0 where
    pub mid : List (List ℕ)
    pub end : List (List ℕ)
    pub middle : length mid ≡ suc (2 * length list)
    pub whole : path ≡ mid ++ end
    pub folded : Folded line tail rest (fold_of op ty (register_at begun.local src) (map X list)) begun (gone_through mid begun)

  all_folded : (path later : List (List ℕ)) → suc (2 * length list) ≤ length path → final.matched ≡ (gone_through later (gone_through path begun)).matched
      → AreApart list → Each (Comes kind comm final (λ j. length (chosen (is_of kind comm) (received_by j) begun.matched)) X) list
      → length (register_at begun.local src) % bytes_in ty ≡ 0
      → Facing line (Begin src ∷ gathers (fold_operands op ty dst src) head list ++ tail) rest begun → AllFolded path
  all_folded [] later low since apart comes width facing = absurd (omega (arith, low))
  all_folded (bytes ∷ path) later low since apart comes width facing =
      let (mid, end, is, even) = split_at (2 * length list) path (omega (arith, low)) in
      let way : gone_through path v ≡ gone_through end (gone_through mid v) = ap (λ (p : List (List ℕ)). gone_through p v) is ∙ through_both mid end v in
      let f = past_folds kind comm line dst src op ty head tail rest (λ j. length (chosen (is_of kind comm) (received_by j) begun.matched)) X final mine list v mid (end ++ later) even
      (since ∙ ap (λ (x : State). (gone_through later (gone_through path x)).matched) moved ∙ ap (λ (x : State). (gone_through later x).matched) way
      ∙ ap (λ (x : State). x.matched) (sym (through_both end later (gone_through mid v))))
      apart (each_on (λ k. Unit {0}) (Counted kind comm v (λ j. length (chosen (is_of kind comm) (received_by j) begun.matched))) (λ k one. refl) list (nothing list)) comes refl width
      (past line rest (gathers (fold_operands op ty dst src) head list ++ tail) begun (Begin src) facing v refl refl) in
      record {
        mid = bytes ∷ mid;
        end = end;
        middle = ap suc even;
        whole = ap (λ (p : List (List ℕ)). bytes ∷ p) is;
        folded = subst (λ (x : State). Folded line tail rest (fold_of op ty (register_at begun.local src) (map X list)) begun (gone_through mid x)) (sym moved)
            (record { facing = f.facing; registers = f.registers; accumulator = f.accumulator });
      }
    where
      v : State
      v = record { local = gone_on_folding begun.local (register_at begun.local src); matched = begun.matched }

      moved : gone_by bytes begun (next_of begun) ≡ v
      moved = ap (gone_by bytes begun) (faced line rest (gathers (fold_operands op ty dst src) head list ++ tail) begun (Begin src) facing)

      nothing : (xs : List ℕ) → Each (λ k. Unit {0}) xs
      nothing [] = tt
      nothing (x ∷ xs) = (tt, nothing xs)

-- the last act puts the accumulator into a register
finishes : (line dst : ℕ) (rest : List Prim) (u : State) (path : List (List ℕ)) → length path ≡ 1 → Facing line (Finish dst ∷ []) rest u → (gone_through path u).local.registers ≡ slice_set u.local.registers dst u.local.accumulator
finishes line dst rest u [] one facing = absurd (omega (arith, one))
finishes line dst rest u (bytes ∷ more ∷ path) one facing = absurd (omega (arith, one))
finishes line dst rest u (bytes ∷ []) one facing = ap (λ (x : State). x.local.registers) (ap (gone_by bytes u) (faced line rest [] u (Finish dst) facing))

-- what one of the others gives comes to the root, at its number
module _ (script : Script) (c : Configuration State) (delivered : AreDelivered c) (call : Op → Ty → ℕ → ℕ → Stmt) (coll : Coll) (kind : Kind) (comm place root : ℕ) (u begun : State) (at_root : slice_get c.cells root ≡ Some u)
    (tail : ℕ → ℕ → List Act)
    (gives : (rank : ℕ) (op : Op) (ty : Ty) (dst src : ℕ) → can_call (setup_of script) rank coll ≡ true → IsOther (setup_of script) comm place root rank → acts_of (setup_of script) rank (call op ty dst src) ≡ Send root (head_of_kind kind comm 0) (source_of.Own src) ∷ tail dst src)
    (may : (rank : ℕ) (op : Op) (ty : Ty) (dst src : ℕ) (now before : State) → slice_get c.cells rank ≡ Some now → CameTo script rank (call op ty dst src) now before → can_call (setup_of script) rank coll ≡ true) where
  pub comes_in : (rank : ℕ) (bytes : ℕ → List ℕ) → IsOther (setup_of script) comm place root rank → GivesPart script c call kind comm root begun rank (bytes rank)
      → Comes (kind_number kind) comm u (λ j. length (chosen (is_of (kind_number kind) comm) (received_by j) begun.matched)) bytes rank
  comes_in rank bytes is_other g m got =
      let acts = gives rank g.op g.ty g.dst g.src (may rank g.op g.ty g.dst g.src g.now g.before g.there g.came) is_other in
      let sent = received_as_sent c delivered (kind_number kind) comm (length (chosen (is_of (kind_number kind) comm) (received_by rank) begun.matched)) rank root g.now u m g.there at_root got in
      let found : slice_get (chosen (is_of (kind_number kind) comm) (sent_by root) (gone_through g.came.later g.before).matched) (length (chosen (is_of (kind_number kind) comm) (sent_by root) g.before.matched)) ≡ Some m =
      ap (λ (l : List DataCall). slice_get (chosen (is_of (kind_number kind) comm) (sent_by root) l) (length (chosen (is_of (kind_number kind) comm) (sent_by root) g.before.matched))) (sym g.came.since)
      ∙ ap (slice_get (chosen (is_of (kind_number kind) comm) (sent_by root) g.now.matched)) g.same ∙ sent in
      let is = first_sent (kind_number kind) comm g.came.stood.item.line root (head_of_kind kind comm 0) (source_of.Own g.src) (register_at g.before.local g.src) (tail g.dst g.src) g.came.stood.rest (root ∷ []) g.before g.came.later m
      (own_kind kind comm 0) (faces script rank (call g.op g.ty g.dst g.src) g.before g.came.stood _ acts) refl (inl refl) found in
      (ap (λ (x : Message). x.bytes) is ∙ g.given, ap (λ (x : Message). x.head.len) is ∙ ap length g.given)

-- what a reduction makes for the root, and for each of the others
pub reduce_at_root : (s : SetupView) (comm place root dst src : ℕ) (op : Op) (ty : Ty) → can_call s root (coll.Reduce comm place 0) ≡ true → place_of s comm root ≡ place
    → acts_of s root (stmt.Reduce comm place op ty dst src) ≡ Begin src ∷ gathers (fold_operands op ty dst src) (head_of_kind kind_of.Reduce comm 0) (others_of s comm root place) ++ Finish dst ∷ []
reduce_at_root s comm place root dst src op ty callable at =
    ap (parts_of (fold_operands op ty dst src)) (root_has s (coll.Reduce comm place 0) root callable at)
    ∙ ap (λ (l : List Act). Begin src ∷ l) (folds_parts (fold_operands op ty dst src) true (head_of_kind kind_of.Reduce comm 0) (others_of s comm root place) (step.Finish ∷ []))

pub reduce_at_other : (s : SetupView) (comm place root rank dst src : ℕ) (op : Op) (ty : Ty) → can_call s rank (coll.Reduce comm place 0) ≡ true → IsOther s comm place root rank
    → acts_of s rank (stmt.Reduce comm place op ty dst src) ≡ Send root (head_of_kind kind_of.Reduce comm 0) (source_of.Own src) ∷ []
reduce_at_other s comm place root rank dst src op ty callable is = ap (parts_of (fold_operands op ty dst src)) (other_has s (coll.Reduce comm place 0) root rank callable is)

-- a reduction to all: the sends to the others, and the end, behind the folds
abbrev pub down_sends : ℕ → ℕ → List ℕ → List Act
down_sends comm dst list = map (λ to. Send to (head_of_kind kind_of.AllDown comm 0) source_of.Accumulator) list ++ Finish dst ∷ []

-- what the root makes then
pub all_down_parts : (comm dst src : ℕ) (op : Op) (ty : Ty) (others : List ℕ)
    → map (part_of (fold_operands op ty dst src) true) (fold_each (head_of_kind kind_of.AllUp comm 0) others ++ send_each (head_of_kind kind_of.AllDown comm 0) others ++ step.Finish ∷ [])
    ≡ gathers (fold_operands op ty dst src) (head_of_kind kind_of.AllUp comm 0) others ++ down_sends comm dst others
all_down_parts comm dst src op ty others =
    let o = fold_operands op ty dst src in
    ap (map (part_of o true)) (append_assoc (fold_each (head_of_kind kind_of.AllUp comm 0) others) (send_each (head_of_kind kind_of.AllDown comm 0) others) (step.Finish ∷ []))
    ∙ folds_parts o true (head_of_kind kind_of.AllUp comm 0) others (send_each (head_of_kind kind_of.AllDown comm 0) others ++ step.Finish ∷ [])
    ∙ ap (λ (l : List Act). gathers o (head_of_kind kind_of.AllUp comm 0) others ++ l)
    (map-append (part_of o true) (send_each (head_of_kind kind_of.AllDown comm 0) others) (step.Finish ∷ [])
    ∙ ap (λ (l : List Act). l ++ Finish dst ∷ []) (sends_parts o true (head_of_kind kind_of.AllDown comm 0) others))

pub allreduce_at_root : (s : SetupView) (comm root dst src : ℕ) (op : Op) (ty : Ty) → can_call s root (coll.Allreduce comm 0) ≡ true → place_of s comm root ≡ 0
    → acts_of s root (stmt.Allreduce comm op ty dst src) ≡ Begin src ∷ gathers (fold_operands op ty dst src) (head_of_kind kind_of.AllUp comm 0) (others_of s comm root 0) ++ down_sends comm dst (others_of s comm root 0)
allreduce_at_root s comm root dst src op ty callable at =
    ap (parts_of (fold_operands op ty dst src)) (root_has s (coll.Allreduce comm 0) root callable at)
    ∙ ap (λ (l : List Act). Begin src ∷ l) (all_down_parts comm dst src op ty (others_of s comm root 0))

pub allreduce_at_other : (s : SetupView) (comm root rank dst src : ℕ) (op : Op) (ty : Ty) → can_call s rank (coll.Allreduce comm 0) ≡ true → IsOther s comm 0 root rank
    → acts_of s rank (stmt.Allreduce comm op ty dst src) ≡ Send root (head_of_kind kind_of.AllUp comm 0) (source_of.Own src) ∷ Gather root (head_of_kind kind_of.AllDown comm 0) (Some src) ∷ Accept dst ∷ []
allreduce_at_other s comm root rank dst src op ty callable is = ap (parts_of (fold_operands op ty dst src)) (other_has s (coll.Allreduce comm 0) root rank callable is)

-- a rank that runs is one of the ranks
pub below_of : (s : SetupView) (c : Coll) (root : ℕ) → can_call s root c ≡ true → root < s.nue
below_of s c root callable =
    let one = choices.both_true _ _ callable in
    let two = choices.both_true _ _ one.0 in
    ltb-true root s.nue two.1

pub reduced : (script : Script) (c : Configuration State) → AreDelivered c → AreFit script c → AreReduced script c
reduced script c delivered fit comm place dst src root op ty u begun after bytes at_root at done gives =
    ap (λ (x : State). x.local.registers) (done.came ∙ ap (λ (p : List (List ℕ)). gone_through p begun) f.whole ∙ through_both f.mid f.end begun)
    ∙ finishes done.stood.item.line dst done.stood.rest (gone_through f.mid begun) f.end last f.folded.facing
    ∙ ap (λ (rs : List (List ℕ)). slice_set rs dst (gone_through f.mid begun).local.accumulator) f.folded.registers
    ∙ ap (λ (total : List ℕ). slice_set begun.local.registers dst total) f.folded.accumulator
  where
    s : SetupView
    s = setup_of script

    callable : can_call (setup_of script) root (coll.Reduce comm place 0) ≡ true
    callable = fit.reduces root u begun comm place dst src op ty at_root done.stood

    width : length (register_at begun.local src) % bytes_in ty ≡ 0
    width = fit.width root u begun comm place dst src op ty at_root (came_to script root (stmt.Reduce comm place op ty dst src) u begun after done)

    others : List ℕ
    others = others_of s comm root place

    acts : acts_of s root (stmt.Reduce comm place op ty dst src) ≡ Begin src ∷ gathers (fold_operands op ty dst src) (head_of_kind kind_of.Reduce comm 0) others ++ Finish dst ∷ []
    acts = reduce_at_root s comm place root dst src op ty callable at

    count : length done.taken ≡ suc (2 * length others + 1)
    count = done.each ∙ ap length acts
        ∙ ap suc (length-append (gathers (fold_operands op ty dst src) (head_of_kind kind_of.Reduce comm 0) others) (Finish dst ∷ [])
        ∙ ap (λ (n : ℕ). n + 1) (gathers_length (fold_operands op ty dst src) (head_of_kind kind_of.Reduce comm 0) others))

    comes : Each (Comes (kind_number kind_of.Reduce) comm u (λ j. length (chosen (is_of (kind_number kind_of.Reduce) comm) (received_by j) begun.matched)) bytes) others
    comes = each_on (IsOther s comm place root) (Comes (kind_number kind_of.Reduce) comm u (λ j. length (chosen (is_of (kind_number kind_of.Reduce) comm) (received_by j) begun.matched)) bytes)
        (λ rank is. comes_in script c delivered (stmt.Reduce comm place) (coll.Reduce comm place 0) kind_of.Reduce comm place root u begun at_root (λ d r. [])
        (λ j o t d r can other. reduce_at_other s comm place root j d r o t can other)
        (λ j o t d r now before there came. fit.reduces j now before comm place d r o t there came.stood) rank bytes is (gives rank is))
        others (others_each s comm place root (below_of s (coll.Reduce comm place 0) root callable) at)

    f : AllFolded (kind_number kind_of.Reduce) comm done.stood.item.line dst src op ty (head_of_kind kind_of.Reduce comm 0) (Finish dst ∷ []) done.stood.rest bytes u begun others (own_kind kind_of.Reduce comm 0) done.taken
    f = all_folded (kind_number kind_of.Reduce) comm done.stood.item.line dst src op ty (head_of_kind kind_of.Reduce comm 0) (Finish dst ∷ []) done.stood.rest bytes u begun others (own_kind kind_of.Reduce comm 0)
        done.taken done.later (omega (arith, count)) (done.since ∙ ap (λ (x : State). (gone_through done.later x).matched) done.came)
        (others_apart s comm place root) comes width (faces script root (stmt.Reduce comm place op ty dst src) begun done.stood _ acts)

    last : length f.end ≡ 1
    last = let both = ap length f.whole ∙ length-append f.mid f.end in omega (arith, both, count, f.middle)

-- a reduction to all: where all is folded at member 0, and what is sent then
module _ (script : Script) (c : Configuration State) (delivered : AreDelivered c) (fit : AreFit script c) (comm dst src root : ℕ) (op : Op) (ty : Ty) (u begun : State) (bytes : ℕ → List ℕ)
    (at_root : slice_get c.cells root ≡ Some u) (at : place_of (setup_of script) comm root ≡ 0) (callable : can_call (setup_of script) root (coll.Allreduce comm 0) ≡ true)
    (width : length (register_at begun.local src) % bytes_in ty ≡ 0)
    (gives : (rank : ℕ) → IsOther (setup_of script) comm 0 root rank → GivesPart script c (stmt.Allreduce comm) kind_of.AllUp comm root begun rank (bytes rank)) where
  comes_up : Each (Comes (kind_number kind_of.AllUp) comm u (λ j. length (chosen (is_of (kind_number kind_of.AllUp) comm) (received_by j) begun.matched)) bytes) (others_of (setup_of script) comm root 0)
  comes_up = each_on (IsOther (setup_of script) comm 0 root) (Comes (kind_number kind_of.AllUp) comm u (λ j. length (chosen (is_of (kind_number kind_of.AllUp) comm) (received_by j) begun.matched)) bytes)
      (λ rank is. comes_in script c delivered (stmt.Allreduce comm) (coll.Allreduce comm 0) kind_of.AllUp comm 0 root u begun at_root (λ d r. Gather root (head_of_kind kind_of.AllDown comm 0) (Some r) ∷ Accept d ∷ [])
      (λ j o t d r can other. allreduce_at_other (setup_of script) comm root j d r o t can other)
      (λ j o t d r now before there came. fit.reduces_to_all j now before comm d r o t there came.stood) rank bytes is (gives rank is))
      (others_of (setup_of script) comm root 0) (others_each (setup_of script) comm 0 root (below_of (setup_of script) (coll.Allreduce comm 0) root callable) at)

  pub reduced_to_all : (after : State) → HasDone script root (stmt.Allreduce comm op ty dst src) u begun after → after.local.registers ≡ slice_set begun.local.registers dst (fold_of op ty (register_at begun.local src) (map bytes (others_of (setup_of script) comm root 0)))
  reduced_to_all after done =
      ap (λ (x : State). x.local.registers) (done.came ∙ ap (λ (p : List (List ℕ)). gone_through p begun) f.whole ∙ through_both f.mid f.end begun
      ∙ ap (λ (p : List (List ℕ)). gone_through p (gone_through f.mid begun)) parts.2 ∙ through_both parts.0 parts.1 (gone_through f.mid begun))
      ∙ finishes done.stood.item.line dst done.stood.rest (gone_through parts.0 (gone_through f.mid begun)) parts.1 last sent.facing
      ∙ ap (λ (rs : List (List ℕ)). slice_set rs dst (gone_through parts.0 (gone_through f.mid begun)).local.accumulator) (sent.registers ∙ f.folded.registers)
      ∙ ap (λ (t : List ℕ). slice_set begun.local.registers dst t) (sent.accumulator ∙ f.folded.accumulator)
    where
      s : SetupView
      s = setup_of script

      others : List ℕ
      others = others_of s comm root 0

      o : Operands
      o = fold_operands op ty dst src

      acts : acts_of s root (stmt.Allreduce comm op ty dst src) ≡ Begin src ∷ gathers o (head_of_kind kind_of.AllUp comm 0) others ++ down_sends comm dst others
      acts = allreduce_at_root s comm root dst src op ty callable at

      count : length done.taken ≡ suc (2 * length others + (length others + 1))
      count = done.each ∙ ap length acts
          ∙ ap suc (length-append (gathers o (head_of_kind kind_of.AllUp comm 0) others) (down_sends comm dst others)
          ∙ ap (λ (n : ℕ). n + length (down_sends comm dst others)) (gathers_length o (head_of_kind kind_of.AllUp comm 0) others)
          ∙ ap (λ (n : ℕ). 2 * length others + n) (length-append (map (λ to. Send to (head_of_kind kind_of.AllDown comm 0) source_of.Accumulator) others) (Finish dst ∷ [])
          ∙ ap (λ (n : ℕ). n + 1) (length-map others (λ (to : ℕ). Send to (head_of_kind kind_of.AllDown comm 0) source_of.Accumulator))))

      f : AllFolded (kind_number kind_of.AllUp) comm done.stood.item.line dst src op ty (head_of_kind kind_of.AllUp comm 0) (down_sends comm dst others) done.stood.rest bytes u begun others (own_kind kind_of.AllUp comm 0) done.taken
      f = all_folded (kind_number kind_of.AllUp) comm done.stood.item.line dst src op ty (head_of_kind kind_of.AllUp comm 0) (down_sends comm dst others) done.stood.rest bytes u begun others (own_kind kind_of.AllUp comm 0)
          done.taken done.later (omega (arith, count)) (done.since ∙ ap (λ (x : State). (gone_through done.later x).matched) done.came)
          (others_apart s comm 0 root) comes_up width (faces script root (stmt.Allreduce comm op ty dst src) begun done.stood _ acts)

      rest_count : length f.end ≡ length others + 1
      rest_count = let both = ap length f.whole ∙ length-append f.mid f.end in omega (arith, both, count, f.middle)

      parts : (a : List (List ℕ)) × (b : List (List ℕ)) × (f.end ≡ a ++ b) × (length a ≡ length others)
      parts = split_at (length others) f.end (omega (arith, rest_count))

      sent : Unchanged done.stood.item.line (Finish dst ∷ []) done.stood.rest (gone_through f.mid begun) (gone_through parts.0 (gone_through f.mid begun))
      sent = past_sends done.stood.item.line (head_of_kind kind_of.AllDown comm 0) source_of.Accumulator (Finish dst ∷ []) done.stood.rest others (gone_through f.mid begun) parts.0 parts.3 f.folded.facing

      last : length parts.1 ≡ 1
      last = let both = ap length parts.2 ∙ length-append parts.0 parts.1 in omega (arith, both, rest_count, parts.3)

  -- the message that tells one of the others is the fold
  pub tells : (came : CameTo script root (stmt.Allreduce comm op ty dst src) u begun) (rank : ℕ) → IsOther (setup_of script) comm 0 root rank → (m : Message)
      → slice_get (chosen (is_of (kind_number kind_of.AllDown) comm) (sent_by rank) u.matched) (length (chosen (is_of (kind_number kind_of.AllDown) comm) (sent_by rank) begun.matched)) ≡ Some m
      → m.bytes ≡ fold_of op ty (register_at begun.local src) (map bytes (others_of (setup_of script) comm root 0))
  tells came rank other m found = ⊎_elim short long (cases_lt (length came.later) (suc (2 * length others)))
    where
      s : SetupView
      s = setup_of script

      others : List ℕ
      others = others_of s comm root 0

      o : Operands
      o = fold_operands op ty dst src

      D : ℕ
      D = kind_number kind_of.AllDown

      facing : Facing came.stood.item.line (Begin src ∷ gathers o (head_of_kind kind_of.AllUp comm 0) others ++ down_sends comm dst others) came.stood.rest begun
      facing = faces script root (stmt.Allreduce comm op ty dst src) begun came.stood _ (allreduce_at_root s comm root dst src op ty callable at)

      quiet : (path : List (List ℕ)) → length path ≤ suc (2 * length others) → chosen (is_of D comm) (sent_by rank) (gone_through path begun).matched ≡ chosen (is_of D comm) (sent_by rank) begun.matched
      quiet path low =
          let long = gathers_length o (head_of_kind kind_of.AllUp comm 0) others in
          quiet_path (is_of D comm) rank came.stood.item.line (down_sends comm dst others) came.stood.rest (Begin src ∷ gathers o (head_of_kind kind_of.AllUp comm 0) others) begun path
          (tt, gathers_quiet o (head_of_kind kind_of.AllUp comm 0) others) (omega (arith, low, long)) facing

      short : length came.later < suc (2 * length others) → m.bytes ≡ fold_of op ty (register_at begun.local src) (map bytes (others_of (setup_of script) comm root 0))
      short low =
          let same : chosen (is_of D comm) (sent_by rank) u.matched ≡ chosen (is_of D comm) (sent_by rank) begun.matched =
          ap (chosen (is_of D comm) (sent_by rank)) came.since ∙ quiet came.later (omega (arith, low)) in
          let none = slice_get_past (chosen (is_of D comm) (sent_by rank) begun.matched) (length (chosen (is_of D comm) (sent_by rank) begun.matched)) (omega arith) in
          let is : slice_get (chosen (is_of D comm) (sent_by rank) begun.matched) (length (chosen (is_of D comm) (sent_by rank) begun.matched)) ≡ Some m =
          ap (λ (l : List Message). slice_get l (length (chosen (is_of D comm) (sent_by rank) begun.matched))) (sym same) ∙ found in
          absurd (cc)

      long : suc (2 * length others) ≤ length came.later → m.bytes ≡ fold_of op ty (register_at begun.local src) (map bytes (others_of (setup_of script) comm root 0))
      long low =
          let f = all_folded (kind_number kind_of.AllUp) comm came.stood.item.line dst src op ty (head_of_kind kind_of.AllUp comm 0) (down_sends comm dst others) came.stood.rest bytes u begun others (own_kind kind_of.AllUp comm 0)
          came.later [] low came.since (others_apart s comm 0 root) comes_up width facing in
          let way : u.matched ≡ (gone_through f.end (gone_through f.mid begun)).matched =
          came.since ∙ ap (λ (p : List (List ℕ)). (gone_through p begun).matched) f.whole ∙ ap (λ (x : State). x.matched) (through_both f.mid f.end begun) in
          let same = quiet f.mid (omega (arith, f.middle)) in
          ap (λ (x : Message). x.bytes)
          (first_sent D comm came.stood.item.line rank (head_of_kind kind_of.AllDown comm 0) source_of.Accumulator _ (Finish dst ∷ []) came.stood.rest others (gone_through f.mid begun) f.end m (own_kind kind_of.AllDown comm 0)
          f.folded.facing f.folded.accumulator (is_in_others s comm 0 root rank other)
          (ap (λ (l : List Message). slice_get (chosen (is_of D comm) (sent_by rank) (gone_through f.end (gone_through f.mid begun)).matched) (length l)) same
          ∙ ap (λ (l : List DataCall). slice_get (chosen (is_of D comm) (sent_by rank) l) (length (chosen (is_of D comm) (sent_by rank) begun.matched))) (sym way)
          ∙ found))

pub all_reduced : (script : Script) (c : Configuration State) → AreDelivered c → AreFit script c → AreReducedToAll script c
all_reduced script c delivered fit comm dst src root op ty u begun after bytes at_root at done gives =
    reduced_to_all script c delivered fit comm dst src root op ty u begun bytes at_root at
    (fit.reduces_to_all root u begun comm dst src op ty at_root done.stood)
    (fit.width_to_all root u begun comm dst src op ty at_root (came_to script root (stmt.Allreduce comm op ty dst src) u begun after done)) gives after done

-- what came to one of the others that has done a reduction to all
module _ (script : Script) (comm root rank to from : ℕ) (named : Op) (width : Ty) (v before after : State) (other : IsOther (setup_of script) comm 0 root rank)
    (callable : can_call (setup_of script) rank (coll.Allreduce comm 0) ≡ true) (done : HasDone script rank (stmt.Allreduce comm named width to from) v before after) where
  pub told_accepts : (m : Message) × (after.local.registers ≡ slice_set before.local.registers to m.bytes)
      × (slice_get (chosen (is_of (kind_number kind_of.AllDown) comm) (received_by root) v.matched) (length (chosen (is_of (kind_number kind_of.AllDown) comm) (received_by root) before.matched)) ≡ Some m)
  told_accepts = (got.0, ap (λ (x : State). x.local.registers) way ∙ got.1, found)
    where
      D : ℕ
      D = kind_number kind_of.AllDown

      acts : acts_of (setup_of script) rank (stmt.Allreduce comm named width to from) ≡ Send root (head_of_kind kind_of.AllUp comm 0) (source_of.Own from) ∷ Gather root (head_of_kind kind_of.AllDown comm 0) (Some from) ∷ Accept to ∷ []
      acts = allreduce_at_other (setup_of script) comm root rank to from named width callable other

      facing : Facing done.stood.item.line (Send root (head_of_kind kind_of.AllUp comm 0) (source_of.Own from) ∷ Gather root (head_of_kind kind_of.AllDown comm 0) (Some from) ∷ Accept to ∷ []) done.stood.rest before
      facing = faces script rank (stmt.Allreduce comm named width to from) before done.stood _ acts

      x : State
      x = record { local = gone_on before.local; matched = before.matched ++ DataCall.Send root (head_with_length (head_of_kind kind_of.AllUp comm 0) (length (register_at before.local from))) (register_at before.local from) ∷ [] }

      parts : (a : List (List ℕ)) × (b : List (List ℕ)) × (done.taken ≡ a ++ b) × (length a ≡ 1)
      parts = split_at 1 done.taken (omega (arith, done.each ∙ ap length acts))

      sent : (path : List (List ℕ)) → length path ≡ 1 → gone_through path before ≡ x
      sent [] one = absurd (omega (arith, one))
      sent (bytes ∷ more ∷ path) one = absurd (omega (arith, one))
      sent (bytes ∷ []) one = by_send done.stood.item.line done.stood.rest (Gather root (head_of_kind kind_of.AllDown comm 0) (Some from) ∷ Accept to ∷ []) before bytes root (head_of_kind kind_of.AllUp comm 0) (source_of.Own from) facing

      way : after ≡ gone_through parts.1 x
      way =
          done.came ∙ ap (λ (p : List (List ℕ)). gone_through p before) parts.2 ∙ through_both parts.0 parts.1 before
          ∙ ap (gone_through parts.1) (sent parts.0 parts.3)

      two : length parts.1 ≡ 2
      two = let all = sym (done.each ∙ ap length acts) ∙ ap length parts.2 ∙ length-append parts.0 parts.1 in omega (arith, all, parts.3)

      got : (m : Message) × ((gone_through parts.1 x).local.registers ≡ slice_set before.local.registers to m.bytes)
          × ((later : List (List ℕ)) → slice_get (chosen (is_of D comm) (received_by root) (gone_through later (gone_through parts.1 x)).matched) (length (chosen (is_of D comm) (received_by root) x.matched)) ≡ Some m)
      got = accepts D comm done.stood.item.line root to (head_of_kind kind_of.AllDown comm 0) (Some from) done.stood.rest x parts.1 (own_kind kind_of.AllDown comm 0) two
          (past done.stood.item.line done.stood.rest (Gather root (head_of_kind kind_of.AllDown comm 0) (Some from) ∷ Accept to ∷ []) before (Send root (head_of_kind kind_of.AllUp comm 0) (source_of.Own from)) facing x refl refl)

      found : slice_get (chosen (is_of D comm) (received_by root) v.matched) (length (chosen (is_of D comm) (received_by root) before.matched)) ≡ Some got.0
      found =
          ap (λ (l : List DataCall). slice_get (chosen (is_of D comm) (received_by root) l) (length (chosen (is_of D comm) (received_by root) before.matched))) (done.since ∙ ap (λ (y : State). (gone_through done.later y).matched) way)
          ∙ ap (λ (l : List Message). slice_get (chosen (is_of D comm) (received_by root) (gone_through done.later (gone_through parts.1 x)).matched) (length l))
          (sym (chosen_none (is_of D comm) (received_by root) before.matched (DataCall.Send root (head_with_length (head_of_kind kind_of.AllUp comm 0) (length (register_at before.local from))) (register_at before.local from)) refl))
          ∙ got.2 done.later

pub all_told : (script : Script) (c : Configuration State) → AreDelivered c → AreFit script c → AreToldAll script c
all_told script c delivered fit comm dst src root to from rank op named ty width u v begun before after bytes at_root at_rank other came gives done same =
    got.1 ∙ ap (λ (l : List ℕ). slice_set before.local.registers to l) given
  where
    D : ℕ
    D = kind_number kind_of.AllDown

    got : (m : Message) × (after.local.registers ≡ slice_set before.local.registers to m.bytes)
        × (slice_get (chosen (is_of D comm) (received_by root) v.matched) (length (chosen (is_of D comm) (received_by root) before.matched)) ≡ Some m)
    got = told_accepts script comm root rank to from named width v before after other (fit.reduces_to_all rank v before comm to from named width at_rank done.stood) done

    given : got.0.bytes ≡ fold_of op ty (register_at begun.local src) (map bytes (others_of (setup_of script) comm root 0))
    given =
        tells script c delivered fit comm dst src root op ty u begun bytes at_root other.placed.placed (fit.reduces_to_all root u begun comm dst src op ty at_root came.stood)
        (fit.width_to_all root u begun comm dst src op ty at_root came) gives came rank other got.0
        (ap (slice_get (chosen (is_of D comm) (sent_by rank) u.matched)) same
        ∙ received_as_sent c delivered D comm (length (chosen (is_of D comm) (received_by root) before.matched)) root rank u v got.0 at_root at_rank got.2)
