use Rattle.std.proofs.Common.{◌∙◌}
use Rattle.scc_base.specs.Setups.{setup_key}
use Rattle.script_plain.proofs.WayLaws.{further, rests, step_less}
use Rattle.script_plain.specs.Code.{config}
use Rattle.script_plain.proofs.steps.go_on.Goals as goal

pub loop-moved-smaller : goal.loop-moved-smaller
loop-moved-smaller c =
    step_less (setup_key c.args.setup.now) c.in_ok-step_at.field-0 c.args.rank (config c.loop-moved.ues c.loop-moved.slots) (config c.step_at.new.ues c.step_at.new.slots)
    c.if-branch.true c.in_ok-step_at.ensures

pub loop-moved-preserved : goal.loop-moved-preserved
loop-moved-preserved c =
    record {
      run = record {
        ranks = c.step_at.auto.ues ∙ c.loop-moved.invariant.run.ranks;
        slotted = c.step_at.auto.slots ∙ c.loop-moved.invariant.run.slotted;
        sixteen = c.loop-moved.invariant.run.sixteen;
      };
      so_far = further (setup_key c.args.setup.now) c.loop-moved.moved c.in_ok-step_at.field-0 c.args.rank (config c.args.ues.now c.args.slots.now) (config c.loop-moved.ues c.loop-moved.slots) (config c.step_at.new.ues c.step_at.new.slots) c.loop-moved.invariant.so_far c.if-branch.true c.in_ok-step_at.ensures;
    }

pub returns : goal.returns
returns c =
    rests (setup_key c.args.setup.now) c.loop-moved.moved c.in_ok-step_at.field-0 c.args.rank (config c.args.ues.now c.args.slots.now) (config c.loop-moved.ues c.loop-moved.slots) (config c.step_at.new.ues c.step_at.new.slots) c.loop-moved.invariant.so_far c.if-branch.false c.in_ok-step_at.ensures
