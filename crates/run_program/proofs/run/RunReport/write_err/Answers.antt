use Rattle.std.proofs.Common.{ap, sym, subst, List, ℕ, ◌∙◌}
use Rattle.rcce_io.specs.Sending.{Sends}
use Rattle.run_program.specs.Reports.{Shown}
use Rattle.rcce_run.proofs.FinishedLaws.{plain_count}
use Rattle.run_program.proofs.RunLemmas.{ran_err}
use Rattle.run_program.proofs.run.RunReport.write_err.Goals as goal

pub write_unfinished-requires : goal.write_unfinished-requires
write_unfinished-requires g c = record { ranked = plain_count c.args.self.now.script ∙ ap (λ (s : Shown). s.script.nue) (sym c.self.view_is) }

pub returns : goal.returns
returns g c =
    subst (λ (text : List ℕ). Sends text (g.S.Sink.seen c.args.sink.now) (g.S.Sink.seen c.write_unfinished.new.sink) c.write_unfinished.result) (sym (ran_err c.args.self.now.script c.args.self.now.seed)) c.write_unfinished.ensures
