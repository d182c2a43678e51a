use Rattle.std.proofs.Common.{ap, sym, subst, Option, List, ℕ, ◌∙◌}
use Rattle.rcce_io.specs.Sending.{Sends}
use Rattle.plain_meaning.specs.Meaning.{plain_ends}
use Rattle.run_program.specs.Reports.{Shown, lines_by_rank, printed_text, ran_by}
use Rattle.rcce_run.proofs.FinishedLaws.{plain_count}
use Rattle.run_program.proofs.run.RunReport.write_out.Goals as goal

pub write_line-requires : goal.write_line-requires
write_line-requires g c = sym (ap (λ (s : Shown). s.seed) c.self.view_is) ∙ c.in-Some.is

pub returns-in-Some : goal.returns-in-Some
returns-in-Some g c =
    let seed = sym (ap (λ (s : Shown). s.seed) c.self.view_is) ∙ c.in-Some.is in
    subst (λ (o : Option ℕ). Sends (ran_by c.args.self.now.script o).out (g.S.Sink.seen c.args.sink.now) (g.S.Sink.seen c.write_line.new.sink) c.write_line.result) (sym seed) c.write_line.ensures

pub write_printed-requires : goal.write_printed-requires
write_printed-requires g c = record { ranked = plain_count c.args.self.now.script ∙ ap (λ (s : Shown). s.script.nue) (sym c.self.view_is) }

pub returns-in-None : goal.returns-in-None
returns-in-None g c =
    let none = sym (ap (λ (s : Shown). s.seed) c.self.view_is) ∙ c.in-None.is in
    subst (λ (o : Option ℕ). Sends (ran_by c.args.self.now.script o).out (g.S.Sink.seen c.args.sink.now) (g.S.Sink.seen c.write_printed.new.sink) c.write_printed.result) (sym none)
    (subst (λ (names : List (List ℕ)). Sends (lines_by_rank (printed_text names) 0 (plain_ends c.args.self.now.script)) (g.S.Sink.seen c.args.sink.now) (g.S.Sink.seen c.write_printed.new.sink) c.write_printed.result)
    (ap (λ (s : Shown). s.script.names) c.self.view_is) c.write_printed.ensures)
