use Rattle.std.proofs.Common.{◌∙◌, ap, length}
use Rattle.plain_meaning.specs.Meaning.{ends_at, plain_end, seen_of}
use Rattle.plain_meaning.proofs.Messages.RestLaws.{ends_length}
use Rattle.plain_meaning.proofs.Runs.PlainLaws.{length-plain_end}
use Rattle.script_plain.proofs.StartLaws.{run_from_start}
use Rattle.script_plain.proofs.steps.run_scripts.Goals as goal

pub run_to_end-requires : goal.run_to_end-requires
run_to_end-requires c =
    record {
      run = record {
        ranks = ap length c.deref_mut.ensures.value ∙ c.in_ok-ues.ensures.run.ranks;
        slotted = ap length c.deref_mut-2.ensures.value ∙ c.in_ok-ues.ensures.run.slotted;
        sixteen = c.in_ok-ues.ensures.run.sixteen;
      };
    }

pub returns-clause-end : goal.returns-clause-end
returns-clause-end c =
    c.in_ok-end.ensures
    ∙ ap ends_at (run_from_start c.args.scripts.now _ c.deref_mut.result.now c.deref_mut-2.result.now c.setup_of-setup.ensures.communicators
    (c.deref_mut.ensures.value ∙ c.in_ok-ues.ensures.cells) (c.deref_mut-2.ensures.value ∙ c.in_ok-ues.ensures.slots))

pub returns-clause-ranks : goal.returns-clause-ranks
returns-clause-ranks c = ap length (returns-clause-end c) ∙ ends_length (seen_of (plain_end c.args.scripts.now)) ∙ length-plain_end c.args.scripts.now
