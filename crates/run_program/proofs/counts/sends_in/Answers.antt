use Rattle.std.proofs.Common.{◌≡◌, ◌<◌, ◌+◌, ◌-◌, ◌^◌, ℕ, ap, arith, min, sum_by, sym, ◌∙◌}
use Rattle.chip_run.specs.declared.members.Member.{Member}
use Rattle.rcce_ue.specs.Ues.{UeView, capped_count}
use Rattle.script_gen.specs.Outcome.{sends_of_call}
use Rattle.plain_meaning.specs.Meaning.{State}
use Rattle.run_program.proofs.SentLemmas.{all_cells, sends_more}
use Rattle.run_program.proofs.counts.sends_in.Goals as goal

pub loop-number-preserved : goal.loop-number-preserved
loop-number-preserved c =
    let low : c.loop-number.number < c.args.scripts.now.nue = omega (arith, c.loop-number-test.true, c.nue-number-end.ensures.same) in
    let own : c.sent.result ≡ c.index-crew-number.result.worker.sent = c.sent.ensures.gives ∙ ap (λ (m : Member UeView). m.worker.sent) (sym c.index-crew-number.is) in
    sends_more c.args.scripts.now c.args.crew.now c.requires c.loop-number.number low c.index-crew-number.result c.index-crew-number.is c.loop-number.sends c.saturating_add-sends.result
    c.loop-number.invariant (c.saturating_add-sends.ensures ∙ ap (λ (n : ℕ). min (c.loop-number.sends + n) (2 ^ 64 - 1)) own)

pub returns : goal.returns
returns c = c.loop-number.invariant ∙ ap capped_count (all_cells c.args.scripts.now (λ (u : State). sum_by sends_of_call u.matched) c.loop-number.number (omega arith))
