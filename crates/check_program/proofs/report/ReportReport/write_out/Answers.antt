use Rattle.std.proofs.Common.{map}
use Rattle.rcce_io.specs.Sending.{joined_texts}
use Rattle.rcce_io.proofs.SendingLemmas.{cut_then, sends_after, sends_err}
use Rattle.check_program.specs.Texts.{found_line, match_line}
use Rattle.check_program.proofs.report.ReportReport.write_out.Goals as goal

pub returns-in_err-write_matches : goal.returns-in_err-write_matches
returns-in_err-write_matches g c =
    sends_err _ _ _ _ c.from_residual.ensures.0 (
    cut_then (g.S.Sink.seen c.args.sink.now) (g.S.Sink.seen c.write_matches.new.sink) (joined_texts (map match_line c.args.self.now.matches)) (joined_texts (map found_line c.args.self.now.found.items)) c.in_err-write_matches.ensures)

pub returns : goal.returns
returns g c =
    sends_after (g.S.Sink.seen c.args.sink.now) (g.S.Sink.seen c.write_matches.new.sink) (g.S.Sink.seen c.write_texts.new.sink) (joined_texts (map match_line c.args.self.now.matches)) (joined_texts (map found_line c.args.self.now.found.items)) c.write_texts.result
    c.in_ok-write_matches.ensures (rw c.as_slice.ensures.value at c.write_texts.ensures)
