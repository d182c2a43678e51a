use Rattle.std.proofs.Common.{◌∙◌, ℕ, suc, None, ap, length, replicate, sym}
use Rattle.std.proofs.lemmas.List.{length-replicate}
use Rattle.std.proofs.lemmas.List.FromFn.{length-map-range_with_len}
use Rattle.script_rules.specs.Script.{first_split}
use Rattle.plain_meaning.proofs.Runs.PlainLaws.{length-start_of}
use Rattle.script_plain.proofs.steps.begin.Goals as goal

pub returns-clause-run : goal.returns-clause-run
returns-clause-run c =
    let script = c.args.scripts.now in
    record {
      ranks = ap length c.in_ok-ues.ensures ∙ length-start_of script ∙ sym c.requires.ranks;
      slotted = ap length c.in_ok-slots.ensures ∙ length-replicate c.nue.result None ∙ c.nue.ensures.same ∙ sym c.requires.ranks;
      sixteen = ap length c.requires.communicators ∙ ap suc (length-map-range_with_len (first_split script.items) 1 15);
    }

pub returns-clause-cells : goal.returns-clause-cells
returns-clause-cells c = c.in_ok-ues.ensures

pub returns-clause-slots : goal.returns-clause-slots
returns-clause-slots c = c.in_ok-slots.ensures ∙ ap (λ (n : ℕ). replicate n None) c.nue.ensures.same
