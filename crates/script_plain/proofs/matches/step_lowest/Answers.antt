use Rattle.std.proofs.Common.{◌∙◌, ◌<◌, ◌++◌, ℕ, List, ap, arith, length, subst, sym}
use Rattle.scc_base.specs.Setups.{setup_key}
use Rattle.script_plain.specs.declared.matches.Match.{Match}
use Rattle.script_plain.specs.Code.{BringsAt, config}
use Rattle.script_plain.specs.Facing.{AreAside, facing_at}
use Rattle.script_machine.specs.Local.{Local, local_next, statement_line}
use Rattle.script_plain.specs.Matches.{step_brought}
use Rattle.plain_meaning.specs.Step.{Configuration, lowest_step}
use Rattle.script_plain.proofs.FacingLaws.{none_lowest, still_on, took_lowest}
use Rattle.script_plain.proofs.matches.step_lowest.Goals as goal

pub returns-then-branch-clause-brings : goal.returns-then-branch-clause-brings
returns-then-branch-clause-brings c =
    let keys = setup_key c.args.setup.now in
    let i = c.loop-number.number in
    let old = config c.loop-number.ues c.loop-number.slots in
    let new = config c.step_by.new.ues c.step_by.new.slots in
    let same = c.loop-number.invariant.same in
    let step = subst (λ (k : ℕ). BringsAt keys c.in_ok-step_by.field-0 k old new c.loop-number.matches c.step_by.new.matches) c.of-rank.ensures.gives c.in_ok-step_by.ensures in
    let within : i < length old.cells = omega (arith, c.loop-number-test.true, c.loop-number.auto.number-end, c.nue-number-end.ensures.gives, c.requires.run.ranks, ap (λ (x : Configuration Local). length x.cells) same) in
    let taken = took_lowest keys c.in_ok-step_by.field-0 old new i c.loop-number.matches c.step_by.new.matches c.if-branch.true step c.loop-number.invariant.still within in (
      ap (lowest_step keys local_next) (sym same) ∙ taken.0,
      taken.1 ∙ ap (λ (l : List Match). l ++ step_brought keys local_next statement_line old) c.loop-number.invariant.none_more
          ∙ ap (λ (x : Configuration Local). c.args.matches.now ++ step_brought keys local_next statement_line x) same,
    )

pub returns-then-branch-clause-still : goal.returns-then-branch-clause-still
returns-then-branch-clause-still c =
    let keys = setup_key c.args.setup.now in
    let i = c.loop-number.number in
    let old = config c.loop-number.ues c.loop-number.slots in
    let new = config c.step_by.new.ues c.step_by.new.slots in
    let step = subst (λ (k : ℕ). BringsAt keys c.in_ok-step_by.field-0 k old new c.loop-number.matches c.step_by.new.matches) c.of-rank.ensures.gives c.in_ok-step_by.ensures in
    still_on keys c.in_ok-step_by.field-0 old new i c.still_to.result c.facing_at-facing.result c.loop-number.matches c.step_by.new.matches c.if-branch.true step
    (c.facing_at-facing.ensures ∙ ap (facing_at c.loop-number.ues) c.of-rank.ensures.gives) c.loop-number.invariant.still
    (omega (arith, c.still_to.ensures.within, c.of-rank.ensures.gives))
    (subst (λ (k : ℕ). AreAside c.step_by.new.ues k c.facing_at-facing.result c.still_to.result) c.of-rank.ensures.gives c.still_to.ensures.aside)

pub returns-clause-brings : goal.returns-clause-brings
returns-clause-brings c =
    let keys = setup_key c.args.setup.now in
    let old = config c.loop-number.ues c.loop-number.slots in
    let same = c.loop-number.invariant.same in
    let none = none_lowest keys old c.loop-number.number (omega (arith, c.loop-number-test.false, c.loop-number.auto.number-end, c.nue-number-end.ensures.gives, c.requires.run.ranks, ap (λ (x : Configuration Local). length x.cells) same)) c.loop-number.invariant.still in
    (ap (lowest_step keys local_next) (sym same) ∙ none, same, c.loop-number.invariant.none_more)
