use Rattle.std.proofs.Common.{◌∙◌, sum_by}
use Rattle.scc_base.specs.Setups.{setup_key}
use Rattle.script_plain.proofs.WayLaws.{run_ended, swept_none, swept_some}
use Rattle.script_plain.specs.Code.{config}
use Rattle.script_machine.specs.Local.{most_steps_left}
use Rattle.script_plain.proofs.steps.run_on.Goals as goal

pub loop-smaller : goal.loop-smaller
loop-smaller c =
    (swept_some (setup_key c.args.setup.now) c.in_ok-sweep.field-0 c.args.setup.now.nue (config c.loop.ues c.loop.slots) (config c.sweep.new.ues c.sweep.new.slots)
    c.if-branch.true c.in_ok-sweep.ensures).less

pub loop-preserved : goal.loop-preserved
loop-preserved c =
    let way = swept_some (setup_key c.args.setup.now) c.in_ok-sweep.field-0 c.args.setup.now.nue (config c.loop.ues c.loop.slots) (config c.sweep.new.ues c.sweep.new.slots) c.if-branch.true c.in_ok-sweep.ensures in
    record {
      run = record {
        ranks = c.sweep.auto.ues ∙ c.loop.invariant.run.ranks;
        slotted = c.sweep.auto.slots ∙ c.loop.invariant.run.slotted;
        sixteen = c.loop.invariant.run.sixteen;
      };
      same_end = way.same_end ∙ c.loop.invariant.same_end;
    }

pub returns-clause-end : goal.returns-clause-end
returns-clause-end c =
    let keys = setup_key c.args.setup.now in
    let old = config c.loop.ues c.loop.slots in
    let ended = swept_none keys c.in_ok-sweep.field-0 c.args.setup.now.nue old (config c.sweep.new.ues c.sweep.new.slots) c.loop.invariant.run.ranks c.if-branch.false c.in_ok-sweep.ensures in
    ended.0 ∙ run_ended keys old (sum_by most_steps_left c.loop.ues) ended.1 ∙ c.loop.invariant.same_end

pub returns-clause-still : goal.returns-clause-still
returns-clause-still c =
    (swept_none (setup_key c.args.setup.now) c.in_ok-sweep.field-0 c.args.setup.now.nue (config c.loop.ues c.loop.slots) (config c.sweep.new.ues c.sweep.new.slots)
    c.loop.invariant.run.ranks c.if-branch.false c.in_ok-sweep.ensures).2
