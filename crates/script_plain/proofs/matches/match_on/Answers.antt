use Rattle.std.proofs.Common.{◌≡◌, ◌∙◌, ℕ, Bool, true, false, Option, None, IfSome, ap, refl, subst, sum_by, sym}
use Rattle.std.specs.Prelude.{is_some}
use Rattle.scc_base.specs.Setups.{setup_key}
use Rattle.script_plain.proofs.FacingLaws.{none_came}
use Rattle.script_plain.proofs.MatchLaws.{comes_to_rest, goes_on, was_stepped}
use Rattle.plain_meaning.proofs.Runs.PlainLaws.{local_lowers}
use Rattle.plain_meaning.proofs.Runs.RunLaws.{falls_lowest, sound}
use Rattle.script_plain.proofs.WayLaws.{further, run_ended}
use Rattle.script_plain.specs.Code.{BringsLowest, config}
use Rattle.script_plain.specs.Facing.{IsStillTo}
use Rattle.script_machine.specs.Local.{Local, most_steps_left, local_next}
use Rattle.plain_meaning.specs.Step.{Configuration, lowest_step}
use Rattle.script_plain.proofs.matches.match_on.Goals as goal

pub loop-matches-smaller : goal.loop-matches-smaller
loop-matches-smaller c =
    let keys = setup_key c.args.setup.now in
    let old = config c.loop-matches.ues c.loop-matches.slots in
    let new = config c.step_lowest.new.ues c.step_lowest.new.slots in
    falls_lowest keys local_next most_steps_left local_lowers old new
    (was_stepped keys (is_some c.in_ok-next.field-0) old new c.loop-matches.matches c.step_lowest.new.matches (ap is_some c.in-Some.is) c.in_ok-next.ensures.brings)

pub loop-matches-preserved : goal.loop-matches-preserved
loop-matches-preserved c =
    let keys = setup_key c.args.setup.now in
    let old = config c.loop-matches.ues c.loop-matches.slots in
    let new = config c.step_lowest.new.ues c.step_lowest.new.slots in
    let moved = is_some c.in_ok-next.field-0 in
    let step = was_stepped keys moved old new c.loop-matches.matches c.step_lowest.new.matches (ap is_some c.in-Some.is) c.in_ok-next.ensures.brings in
    let owned = sound keys local_next old new step in
    record {
      run = record {
        ranks = c.step_lowest.auto.ues ∙ c.loop-matches.invariant.run.ranks;
        slotted = c.step_lowest.auto.slots ∙ c.loop-matches.invariant.run.slotted;
        sixteen = c.loop-matches.invariant.run.sixteen;
      };
      still = subst (λ (o : Option ℕ). IfSome o (λ n. IsStillTo keys n new)) c.in-Some.is c.in_ok-next.ensures.still;
      so_far = goes_on keys moved old new c.loop-matches.matches c.step_lowest.new.matches (ap is_some c.in-Some.is) c.in_ok-next.ensures.brings
          ∙ c.loop-matches.invariant.so_far;
      same_end = (further keys false true owned.0 old old new refl refl owned.1).same_end ∙ c.loop-matches.invariant.same_end;
    }

pub returns-clause-matches : goal.returns-clause-matches
returns-clause-matches c =
    let keys = setup_key c.args.setup.now in
    let old = config c.loop-matches.ues c.loop-matches.slots in
    let new = config c.step_lowest.new.ues c.step_lowest.new.slots in
    comes_to_rest keys (is_some c.in_ok-next.field-0) old new c.loop-matches.matches c.step_lowest.new.matches (none_came c.in_ok-next.field-0 c.in_default.not-Some) c.in_ok-next.ensures.brings
    ∙ c.loop-matches.invariant.so_far

pub returns-clause-end : goal.returns-clause-end
returns-clause-end c =
    let keys = setup_key c.args.setup.now in
    let old = config c.loop-matches.ues c.loop-matches.slots in
    let new = config c.step_lowest.new.ues c.step_lowest.new.slots in
    let rested = subst (λ (b : Bool). BringsLowest keys b old new c.loop-matches.matches c.step_lowest.new.matches) (none_came c.in_ok-next.field-0 c.in_default.not-Some) c.in_ok-next.ensures.brings in
    rested.1 ∙ run_ended keys old (sum_by most_steps_left c.loop-matches.ues) rested.0 ∙ c.loop-matches.invariant.same_end

pub returns-clause-still : goal.returns-clause-still
returns-clause-still c =
    let keys = setup_key c.args.setup.now in
    let old = config c.loop-matches.ues c.loop-matches.slots in
    let new = config c.step_lowest.new.ues c.step_lowest.new.slots in
    let rested = subst (λ (b : Bool). BringsLowest keys b old new c.loop-matches.matches c.step_lowest.new.matches) (none_came c.in_ok-next.field-0 c.in_default.not-Some) c.in_ok-next.ensures.brings in
    subst (λ (x : Configuration Local). lowest_step keys local_next x ≡ None) (sym rested.1) rested.0
