use Rattle.std.proofs.Common.{◌∙◌, ap, arith}
use Rattle.scc_base.specs.Setups.{setup_key}
use Rattle.script_plain.specs.Code.{config}
use Rattle.script_machine.specs.Local.{local_next}
use Rattle.plain_meaning.specs.Meaning.{ends_at}
use Rattle.plain_meaning.proofs.Runs.RunLaws.{none_going}
use Rattle.script_plain.proofs.steps.run_to_end.Goals as goal

pub end_all-requires : goal.end_all-requires
end_all-requires c =
    record {
      still = λ i u here. none_going (setup_key c.args.setup.now) local_next (config c.run_on.new.ues c.run_on.new.slots) i u c.in_ok-run_on.ensures.still here;
      slots = omega (arith, c.run_on.auto.ues, c.run_on.auto.slots, c.requires.run.ranks, c.requires.run.slotted);
    }

pub returns : goal.returns
returns c = c.in_ok-end.ensures ∙ ap ends_at c.in_ok-run_on.ensures.end
