use Rattle.std.proofs.Common.{◌≡◌, ◌<◌, ◌+◌, ◌-◌, ◌^◌, ℕ, ap, arith, min, sum_by, sym, ◌∙◌}
use Rattle.chip_run.specs.declared.members.Member.{Member}
use Rattle.rcce_ue.specs.Ues.{UeView, capped_count}
use Rattle.script_gen.specs.Outcome.{sent_bytes_of}
use Rattle.plain_meaning.specs.Meaning.{State}
use Rattle.run_program.proofs.SentLemmas.{all_cells, bytes_more}
use Rattle.run_program.proofs.counts.sent_bytes_in.Goals as goal

pub loop-number-preserved : goal.loop-number-preserved
loop-number-preserved c =
    let low : c.loop-number.number < c.args.scripts.now.nue = omega (arith, c.loop-number-test.true, c.nue-number-end.ensures.same) in
    let own : c.sent_bytes.result ≡ c.index-crew-number.result.worker.sent_bytes = c.sent_bytes.ensures.gives ∙ ap (λ (m : Member UeView). m.worker.sent_bytes) (sym c.index-crew-number.is) in
    bytes_more c.args.scripts.now c.args.crew.now c.requires c.loop-number.number low c.index-crew-number.result c.index-crew-number.is c.loop-number.sent c.saturating_add-sent.result
    c.loop-number.invariant (c.saturating_add-sent.ensures ∙ ap (λ (n : ℕ). min (c.loop-number.sent + n) (2 ^ 64 - 1)) own)

pub returns : goal.returns
returns c = c.loop-number.invariant ∙ ap capped_count (all_cells c.args.scripts.now (λ (u : State). sum_by sent_bytes_of u.matched) c.loop-number.number (omega arith))
