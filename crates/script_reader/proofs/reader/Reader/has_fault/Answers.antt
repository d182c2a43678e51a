use Rattle.std.proofs.Common.{◌≡◌, ◌||◌, ◌==◌, ℕ, Bool, List, not, ◌∙◌, ap, false, length, refl, subst, sym}
use Rattle.std.specs.Prelude.{is_some, nat_lt}
use Rattle.scc_base.specs.Setups.{SetupView}
use Rattle.script_rules.specs.declared.effect.Effect.{Effect}
use Rattle.script_rules.specs.declared.fault.FaultKind.{FaultKind}
use Rattle.script_rules.specs.declared.fault.FaultKind.TheVariants as kind
use Rattle.script_rules.specs.declared.repeats.Open.{Open}
use Rattle.script_rules.specs.Checks.{has_no_parent, is_stray, is_too_deep, is_unknown, open_of, run_of, turns_in, turns_too_often}
use Rattle.script_rules.specs.Limits.{most_names}
use Rattle.script_reader.specs.Progress.{ReadingSoFar, has_fault, is_refused, past}
use Rattle.script_rules.specs.Tally.{reads}
use Rattle.script_rules.proofs.CheckLemmas.{neither}
use Rattle.script_reader.proofs.FaultLemmas.{of-world, without-peer, without-read, without-register, without-root}
use Rattle.script_reader.proofs.reader.Reader.has_fault.Goals as goal
use Rattle.script_reader.proofs.reader.Reader.has_fault.Goals.{After-as_slice-repeats, then-reads-2, else-reads-2}

-- where the ranks are asked, what they answer is the fault
asked : (p : ReadingSoFar) (e : Effect) (given here : FaultKind) (b : Bool) → given ≡ here → b ≡ is_refused given p e → is_refused here p e ≡ has_fault p e here → b ≡ has_fault p e given
asked p e given here b is answer same = answer ∙ ap (λ (k : FaultKind). is_refused k p e) is ∙ same ∙ sym (ap (has_fault p e) is)

-- what was read, by what is kept
abbrev viewed : After-as_slice-repeats → ReadingSoFar
viewed c =
    let inside = c.self.inside in
    record { version = inside.version; nue = inside.nue; opening = inside.opening; items = inside.items.items; names = inside.names.items; section = inside.section }

-- no rank is asked where the statement has nothing to ask of
pub returns-else-is_some : goal.returns-else-is_some
returns-else-is_some c =
    c.if-is_some.false
    ∙ sym (ap (has_fault c.args.self.now c.args.effect.now) c.in-RankRange.is ∙ without-root c.args.self.now c.args.effect.now (sym c.is_some.ensures ∙ c.if-is_some.false))

pub returns-else-is_some-2 : goal.returns-else-is_some-2
returns-else-is_some-2 c =
    c.if-is_some-2.false
    ∙ sym (ap (has_fault c.args.self.now c.args.effect.now) c.in-SelfMessage.is ∙ without-peer c.args.self.now c.args.effect.now (sym c.is_some-in-SelfMessage.ensures ∙ c.if-is_some-2.false))

pub returns-else-reads : goal.returns-else-reads
returns-else-reads c =
    c.if-reads.false
    ∙ sym (ap (has_fault c.args.self.now c.args.effect.now) c.in-Unset.is ∙ without-read c.args.self.now c.args.effect.now (sym c.reads.ensures ∙ c.if-reads.false))

pub returns-else-is_some-3 : goal.returns-else-is_some-3
returns-else-is_some-3 c =
    let p = c.args.self.now in
    let e = c.args.effect.now in
    let none : (reads e.uses || is_some e.sets) ≡ false =
    elim c.if-reads-2.branch [
      | then-reads-2 w ↦ ap (λ b. b || is_some e.sets) (sym c.reads-in-Shape.ensures ∙ w.if-reads-2.true) ∙ sym w.if-reads-2.true ∙ sym w.value-is ∙ c.if-is_some-3.false
      | else-reads-2 w ↦ neither (reads e.uses) (is_some e.sets) (sym c.reads-in-Shape.ensures ∙ w.if-reads-2.false) (sym w.is_some-else-reads-2.ensures ∙ sym w.value-is ∙ c.if-is_some-3.false)
    ] in
    c.if-is_some-3.false ∙ sym (ap (has_fault p e) c.in-Shape.is ∙ without-register p e none)

pub returns-else-needed-ne0 : goal.returns-else-needed-ne0
returns-else-needed-ne0 c =
    let p = c.args.self.now in
    let e = c.args.effect.now in
    let parented : has_no_parent (run_of p.nue (past p)) e.group ≡ false =
    subst (λ (p : ReadingSoFar). has_no_parent (run_of p.nue (past p)) e.group ≡ false) c.self.view_is
    (sym (ap (λ (run : SetupView). has_no_parent run e.group) c.self.invariant.run_is) ∙ sym c.has_no_parent.ensures ∙ c.if-has_no_parent.false) in
    let world = of-world p e (ap (λ (n : ℕ). not (n == 0)) (sym c.needed.ensures ∙ c.if-needed-ne0.false)) in
    ap (λ (n : ℕ). not (n == 0)) c.if-needed-ne0.false ∙ sym (ap (has_fault p e) c.in-NotSplit.is ∙ neither (has_no_parent (run_of p.nue (past p)) e.group) _ parented world)

-- what is kept of the statements, by what was read
groups : (c : After-as_slice-repeats) (test : ReadingSoFar → SetupView → Bool) → test (viewed c) c.self.inside.run ≡ test c.args.self.now (run_of c.args.self.now.nue (past c.args.self.now))
groups c test = ap (test (viewed c)) c.self.invariant.run_is ∙ ap (λ (p : ReadingSoFar). test p (run_of p.nue (past p))) c.self.view_is

repeats : (c : After-as_slice-repeats) → c.as_slice-repeats.result.now ≡ open_of (past c.args.self.now)
repeats c = c.as_slice-repeats.ensures.value ∙ c.self.invariant.repeats_are ∙ ap (λ (p : ReadingSoFar). open_of (past p)) c.self.view_is

pub returns-then-is_some : goal.returns-then-is_some
returns-then-is_some c = asked c.args.self.now c.args.effect.now c.args.kind kind.RankRange c.is_refused.result c.in-RankRange.is c.is_refused.ensures refl

pub returns-then-is_some-2 : goal.returns-then-is_some-2
returns-then-is_some-2 c = asked c.args.self.now c.args.effect.now c.args.kind kind.SelfMessage c.is_refused-then-is_some-2.result c.in-SelfMessage.is c.is_refused-then-is_some-2.ensures refl

pub returns-then-reads : goal.returns-then-reads
returns-then-reads c = asked c.args.self.now c.args.effect.now c.args.kind kind.Unset c.is_refused-then-reads.result c.in-Unset.is c.is_refused-then-reads.ensures refl

pub returns-then-is_some-3 : goal.returns-then-is_some-3
returns-then-is_some-3 c = asked c.args.self.now c.args.effect.now c.args.kind kind.Shape c.is_refused-then-is_some-3.result c.in-Shape.is c.is_refused-then-is_some-3.ensures refl

pub returns-in-UnknownComm : goal.returns-in-UnknownComm
returns-in-UnknownComm c =
    let p = c.args.self.now in
    let e = c.args.effect.now in
    c.is_unknown.ensures
    ∙ groups (goal.at.returns-in-UnknownComm c).After-as_slice-repeats (λ p run. is_unknown p.version run e.group)
    ∙ sym (ap (has_fault p e) c.in-UnknownComm.is)

pub returns-then-has_no_parent : goal.returns-then-has_no_parent
returns-then-has_no_parent c =
    let p = c.args.self.now in
    let e = c.args.effect.now in
    let parented = sym c.if-has_no_parent.true ∙ c.has_no_parent.ensures ∙ groups (goal.at.returns-then-has_no_parent c).After-as_slice-repeats (λ _ run. has_no_parent run e.group) in
    c.if-has_no_parent.true ∙ ap (λ (b : Bool). b || is_refused kind.NotSplit p e) parented ∙ sym (ap (has_fault p e) c.in-NotSplit.is)

pub returns-then-needed-ne0 : goal.returns-then-needed-ne0
returns-then-needed-ne0 c =
    let p = c.args.self.now in
    let e = c.args.effect.now in
    let parented = sym c.if-has_no_parent.false ∙ c.has_no_parent.ensures ∙ groups (goal.at.returns-then-needed-ne0 c).After-as_slice-repeats (λ _ run. has_no_parent run e.group) in
    asked p e c.args.kind kind.NotSplit c.is_refused-then-needed-ne0.result c.in-NotSplit.is c.is_refused-then-needed-ne0.ensures
    (ap (λ (b : Bool). b || is_refused kind.NotSplit p e) parented)

pub returns-in-StrayEnd : goal.returns-in-StrayEnd
returns-in-StrayEnd c =
    let e = c.args.effect.now in
    c.is_stray.ensures ∙ ap (λ (opened : List Open). is_stray opened e.nesting) (repeats (goal.at.returns-in-StrayEnd c).After-as_slice-repeats) ∙ sym (ap (has_fault c.args.self.now e) c.in-StrayEnd.is)

pub returns-in-TooDeep : goal.returns-in-TooDeep
returns-in-TooDeep c =
    let e = c.args.effect.now in
    c.is_too_deep.ensures ∙ ap (λ (opened : List Open). is_too_deep opened e.nesting) (repeats (goal.at.returns-in-TooDeep c).After-as_slice-repeats) ∙ sym (ap (has_fault c.args.self.now e) c.in-TooDeep.is)

pub returns-then-turns_too_often : goal.returns-then-turns_too_often
returns-then-turns_too_often c =
    let p = c.args.self.now in
    let e = c.args.effect.now in
    let often = sym c.if-turns_too_often.true
    ∙ c.turns_too_often.ensures
    ∙ ap (λ (turns : ℕ). turns_too_often turns e.nesting) (c.turns_in.ensures ∙ ap turns_in (repeats (goal.at.returns-then-turns_too_often c).After-as_slice-repeats)) in
    c.if-turns_too_often.true ∙ ap (λ (b : Bool). b || is_refused kind.TooManyOps p e) often ∙ sym (ap (has_fault p e) c.in-TooManyOps.is)

pub returns-else-turns_too_often : goal.returns-else-turns_too_often
returns-else-turns_too_often c =
    let p = c.args.self.now in
    let e = c.args.effect.now in
    let often = sym c.if-turns_too_often.false
    ∙ c.turns_too_often.ensures
    ∙ ap (λ (turns : ℕ). turns_too_often turns e.nesting) (c.turns_in.ensures ∙ ap turns_in (repeats (goal.at.returns-else-turns_too_often c).After-as_slice-repeats)) in
    asked p e c.args.kind kind.TooManyOps c.is_refused-else-turns_too_often.result c.in-TooManyOps.is c.is_refused-else-turns_too_often.ensures
    (ap (λ (b : Bool). b || is_refused kind.TooManyOps p e) often)

pub returns-then-is_too_long : goal.returns-then-is_too_long
returns-then-is_too_long c =
    let p = c.args.self.now in
    let e = c.args.effect.now in
    c.if-is_too_long.true ∙ ap (λ (b : Bool). b || is_refused kind.TooLong p e) (sym c.if-is_too_long.true ∙ c.is_too_long.ensures) ∙ sym (ap (has_fault p e) c.in-TooLong.is)

pub returns-else-is_too_long : goal.returns-else-is_too_long
returns-else-is_too_long c =
    let p = c.args.self.now in
    let e = c.args.effect.now in
    asked p e c.args.kind kind.TooLong c.is_refused-else-is_too_long.result c.in-TooLong.is c.is_refused-else-is_too_long.ensures
    (ap (λ (b : Bool). b || is_refused kind.TooLong p e) (sym c.if-is_too_long.false ∙ c.is_too_long.ensures))

pub returns-in-TooManyNames : goal.returns-in-TooManyNames
returns-in-TooManyNames c =
    ap (nat_lt most_names) (c.len.ensures ∙ c.self.inside.names.ok.0 ∙ ap (λ (p : ReadingSoFar). length p.names) c.self.view_is)
    ∙ sym (ap (has_fault c.args.self.now c.args.effect.now) c.in-TooManyNames.is)
