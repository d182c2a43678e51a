use Rattle.std.proofs.Common.{◌≡◌, ◌∙◌, ◌<◌, List, Option, Some, ap, arith, length, subst, sym, ℕ}
use Rattle.rcce_io.specs.Sending.{Sends}
use Rattle.script_rules.specs.Script.{Script}
use Rattle.plain_meaning.specs.Meaning.{plain_ends}
use Rattle.script_gen.specs.Outcome.{printed_sum, script_line}
use Rattle.chip_run.proofs.ServedLaws.{some_worker}
use Rattle.run_program.specs.Reports.{Shown}
use Rattle.run_program.specs.Runs.{IsMadeOf}
use Rattle.rcce_run.proofs.FinishedLaws.{plain_count}
use Rattle.run_program.proofs.SentLemmas.{made_line}
use Rattle.run_program.proofs.run.Run.write_line.Goals as goal

pub printed_in-sum-requires : goal.printed_in-sum-requires
printed_in-sum-requires g c = record { ranked = plain_count c.args.self.now.script ∙ ap (λ (s : Shown). s.script.nue) (sym c.self.view_is) }

pub returns : goal.returns
returns g c =
    let inside = c.self.inside in
    let script = inside.scripts.now in
    let same : script ≡ c.args.self.now.script = ap (λ (s : Shown). s.script) c.self.view_is in
    let seed = ap (λ (s : Shown). s.seed) c.self.view_is ∙ c.requires in
    let made : IsMadeOf script (Some c.args.seed) = subst (λ (o : Option ℕ). IsMadeOf script o) seed c.self.invariant.3 in
    let sent = c.self.invariant.1 in
    let some : 0 < length inside.crew.items = omega (arith, sent.count, c.acceptance_law.ensures.whole.some) in
    let total : c.printed_in-sum.result ≡ printed_sum (plain_ends script) = c.printed_in-sum.ensures ∙ ap (λ (s : Script). printed_sum (plain_ends s)) (sym same) in
    let line = made_line script c.args.seed inside.crew.items sent (some_worker inside.crew.items some) c.acceptance_law.ensures.whole.most made
    c.nue.result c.sends_in-sends.result c.sent_bytes_in-bytes.result c.printed_in-sum.result c.nue.ensures.same c.sends_in-sends.ensures c.sent_bytes_in-bytes.ensures total in
    subst (λ (text : List ℕ). Sends text (g.S.Sink.seen c.args.sink.now) (g.S.Sink.seen c.write_counts.new.sink) c.write_counts.result) (line ∙ ap (λ (s : Script). script_line c.args.seed s) same) c.write_counts.ensures
