-- What a statement without a fault has not.
use Rattle.std.proofs.Common.{◌≡◌, ℕ, Bool, true, false, ◌&&◌, ◌||◌, ◌==◌, not, ap, cond, List, [], ◌∷◌, Option, Some, None, length, refl, subst}
use Rattle.std.specs.List.{find}
use Rattle.std.specs.Option.{option_map_or}
use Rattle.std.specs.Prelude.{is_none, is_some, nat_lt}
use Rattle.script_rules.specs.declared.effect.Effect.{Effect}
use Rattle.script_rules.specs.declared.effect.Target.{Target}
use Rattle.script_rules.specs.declared.effect.Use.{Use}
use Rattle.script_rules.specs.declared.effect.Uses.{Uses}
use Rattle.script_rules.specs.declared.effect.Uses.TheVariants as uses
use Rattle.script_rules.specs.declared.fault.FaultKind.{FaultKind}
use Rattle.script_rules.specs.declared.fault.FaultKind.TheVariants as kind
use Rattle.script_rules.specs.declared.script.Stmt.{Stmt}
use Rattle.script_rules.specs.declared.tally.Setting.{Setting}
use Rattle.script_rules.specs.Checks.{counts_at, has_no_parent, has_split, is_past_group, is_stray, is_too_deep, is_too_long, is_unfit, is_unknown, length_at, misfits, open_of, refuses, resizes, run_of, set_by, set_if, turns_in, turns_too_often}
use Rattle.script_rules.specs.Effects.{comm_needed, effect_of, some_use}
use Rattle.script_rules.specs.Limits.{most_names}
use Rattle.script_reader.specs.Progress.{ReadingSoFar, fault_table, first_fault, has_fault, is_refused, past}
use Rattle.script_rules.specs.Script.{peer_of}
use Rattle.script_rules.specs.Tally.{reads}
use Rattle.script_rules.proofs.CheckLemmas.{false-left, false-right, neither, nobody}

-- kinds of which the test fails
abbrev AreAbsent : (FaultKind → Bool) → List FaultKind → Type 0
AreAbsent test [] = Unit {0}
AreAbsent test (kind ∷ kinds) = (test kind ≡ false) × AreAbsent test kinds

-- where the search for a fault finds none, no kind of the list is one
none-first : (test : FaultKind → Bool) (kind : FaultKind) (b : Bool) (rest : Option FaultKind) → test kind ≡ b → cond b (Some kind) rest ≡ None → (test kind ≡ false) × (rest ≡ None)
none-first test kind true rest is none = absurd cc
none-first test kind false rest is none = (is, none)

none-here : (test : FaultKind → Bool) (kind : FaultKind) (rest : List FaultKind) → find test (kind ∷ rest) ≡ None → (test kind ≡ false) × (find test rest ≡ None)
none-here test kind rest none = none-first test kind (test kind) (find test rest) refl none

none-at-all : (test : FaultKind → Bool) (kinds : List FaultKind) → find test kinds ≡ None → AreAbsent test kinds
none-at-all test [] none = tt
none-at-all test (kind ∷ kinds) none =
    let here = none-here test kind kinds none in
    (here.0, none-at-all test kinds here.1)

-- a statement without a fault, by the tests of the fault table
pub record IsSound (p : ReadingSoFar) (e : Effect) : Type 0 where
  pub rooted : is_refused kind.RankRange p e ≡ false
  pub other : is_refused kind.SelfMessage p e ≡ false
  pub unknown : is_unknown p.version (run_of p.nue (past p)) e.group ≡ false
  pub parented : has_no_parent (run_of p.nue (past p)) e.group ≡ false
  pub split : is_refused kind.NotSplit p e ≡ false
  pub set : is_refused kind.Unset p e ≡ false
  pub shaped : is_refused kind.Shape p e ≡ false
  pub inside : is_stray (open_of (past p)) e.nesting ≡ false
  pub flat : is_too_deep (open_of (past p)) e.nesting ≡ false
  pub turning : turns_too_often (turns_in (open_of (past p))) e.nesting ≡ false
  pub worked : is_refused kind.TooManyOps p e ≡ false
  pub short : is_too_long e ≡ false
  pub printed : is_refused kind.TooLong p e ≡ false
  pub few : nat_lt most_names (length p.names) ≡ false

-- each kind is found in the table, whatever its place there
each-absent : (p : ReadingSoFar) (e : Effect) → AreAbsent (has_fault p e) fault_table → IsSound p e
each-absent p e absent =
    record {
      rooted = assumption;
      other = assumption;
      unknown = assumption;
      parented = false-left (has_no_parent (run_of p.nue (past p)) e.group) (is_refused kind.NotSplit p e) (assumption);
      split = false-right (has_no_parent (run_of p.nue (past p)) e.group) (is_refused kind.NotSplit p e) (assumption);
      set = assumption;
      shaped = assumption;
      inside = assumption;
      flat = assumption;
      turning = false-left (turns_too_often (turns_in (open_of (past p))) e.nesting) (is_refused kind.TooManyOps p e) (assumption);
      worked = false-right (turns_too_often (turns_in (open_of (past p))) e.nesting) (is_refused kind.TooManyOps p e) (assumption);
      short = false-left (is_too_long e) (is_refused kind.TooLong p e) (assumption);
      printed = false-right (is_too_long e) (is_refused kind.TooLong p e) (assumption);
      few = assumption;
    }

pub no-fault : (p : ReadingSoFar) (e : Effect) → first_fault p e ≡ None → IsSound p e
no-fault p e none = each-absent p e (none-at-all (has_fault p e) fault_table none)

-- where an effect is that of a statement
pub sound-at : (p : ReadingSoFar) (e : Effect) (s : Stmt) → e ≡ effect_of s → first_fault p e ≡ None → IsSound p (effect_of s)
sound-at p e s is none = no-fault p (effect_of s) (subst (λ (e : Effect). first_fault p e ≡ None) is none)

no-value : {A : Type 0} (o : Option A) (test : A → Bool) → is_some o ≡ false → option_map_or test o false ≡ false
no-value None test none = refl
no-value (Some x) test none = cc

no-setting : {A : Type 0} (o : Option A) (f : A → Option Setting) → is_some o ≡ false → option_map_or f o None ≡ None
no-setting None f none = refl
no-setting (Some x) f none = absurd (cc)

no-use : (used : Uses) (test : Use → Bool) → reads used ≡ false → some_use test used ≡ false
no-use uses.Nothing test none = refl
no-use (uses.One first) test none = cc
no-use (uses.Two first second) test none = cc

and-left : (a b : Bool) → a ≡ false → (a && b) ≡ false
and-left true b h = cc
and-left false b h = refl

-- a statement without a root has none past a group
pub without-root : (p : ReadingSoFar) (e : Effect) → is_some e.root ≡ false → is_refused kind.RankRange p e ≡ false
without-root p e none =
    nobody p.nue p.section (refuses kind.RankRange p.nue (past p) e)
    (λ rank. no-value e.root (is_past_group (run_of p.nue (past p)) (comm_needed e.group) rank) none)

-- a statement without a peer is no message to oneself
pub without-peer : (p : ReadingSoFar) (e : Effect) → is_some e.peer ≡ false → is_refused kind.SelfMessage p e ≡ false
without-peer p e none =
    nobody p.nue p.section (refuses kind.SelfMessage p.nue (past p) e) (λ rank. no-value e.peer (λ peer. peer_of p.nue peer rank == rank) none)

-- a statement of the world needs no split
pub of-world : (p : ReadingSoFar) (e : Effect) → not (comm_needed e.group == 0) ≡ false → is_refused kind.NotSplit p e ≡ false
of-world p e none =
    nobody p.nue p.section (refuses kind.NotSplit p.nue (past p) e)
    (λ rank. and-left (not (comm_needed e.group == 0)) (not (has_split (past p) rank (comm_needed e.group))) none)

-- a statement that reads no register reads none that is not set
pub without-read : (p : ReadingSoFar) (e : Effect) → reads e.uses ≡ false → is_refused kind.Unset p e ≡ false
without-read p e none =
    nobody p.nue p.section (refuses kind.Unset p.nue (past p) e)
    (λ rank. no-use e.uses (λ used. counts_at (run_of p.nue (past p)) e rank used.at && is_none (length_at p.nue (past p) rank used.reg)) none)

-- nor one of another length than it needs, where it sets none either
pub without-register : (p : ReadingSoFar) (e : Effect) → (reads e.uses || is_some e.sets) ≡ false → is_refused kind.Shape p e ≡ false
without-register p e none = nobody p.nue p.section (refuses kind.Shape p.nue (past p) e) (λ rank. shaped rank)
  where
    shaped : (rank : ℕ) → refuses kind.Shape p.nue (past p) e rank ≡ false
    shaped rank =
        let run = run_of p.nue (past p) in
        let had = length_at p.nue (past p) rank in
        let unread = false-left (reads e.uses) (is_some e.sets) none in
        let unset = no-setting e.sets (λ (target : Target). set_if had target (counts_at run e rank target.at)) (false-right (reads e.uses) (is_some e.sets) none) in
        neither (resizes had (set_by run had e rank)) (misfits run had e rank) (ap (resizes had) unset)
        (no-use e.uses (λ used. counts_at run e rank used.at && is_unfit had used.reg used.fit) unread)

-- a statement without a fault has none for a rank of its section
pub passed-all : (p : ReadingSoFar) (e : Effect) → IsSound p e → (kind : FaultKind) → is_refused kind p e ≡ false
passed-all p e sound kind.RankRange = sound.rooted
passed-all p e sound kind.SelfMessage = sound.other
passed-all p e sound kind.NotSplit = sound.split
passed-all p e sound kind.Unset = sound.set
passed-all p e sound kind.Shape = sound.shaped
passed-all p e sound kind.TooManyOps = sound.worked
passed-all p e sound kind.TooLong = sound.printed
passed-all p e sound kind.NotText = nobody p.nue p.section (λ rank. false) (λ rank. refl)
passed-all p e sound kind.UnknownStatement = nobody p.nue p.section (λ rank. false) (λ rank. refl)
passed-all p e sound kind.WrongCount = nobody p.nue p.section (λ rank. false) (λ rank. refl)
passed-all p e sound kind.BadNumber = nobody p.nue p.section (λ rank. false) (λ rank. refl)
passed-all p e sound kind.BadHex = nobody p.nue p.section (λ rank. false) (λ rank. refl)
passed-all p e sound kind.BadName = nobody p.nue p.section (λ rank. false) (λ rank. refl)
passed-all p e sound kind.UnknownComm = nobody p.nue p.section (λ rank. false) (λ rank. refl)
passed-all p e sound kind.NoSection = nobody p.nue p.section (λ rank. false) (λ rank. refl)
passed-all p e sound kind.UnclosedRepeat = nobody p.nue p.section (λ rank. false) (λ rank. refl)
passed-all p e sound kind.StrayEnd = nobody p.nue p.section (λ rank. false) (λ rank. refl)
passed-all p e sound kind.TooDeep = nobody p.nue p.section (λ rank. false) (λ rank. refl)
passed-all p e sound kind.TooManyNames = nobody p.nue p.section (λ rank. false) (λ rank. refl)
