use Rattle.std.proofs.Common.{sym, subst}
use Rattle.rcce_audit.specs.declared.verdicts.Verdict.{Verdict}
use Rattle.rcce_io.specs.Sending.{Sends}
use Rattle.audit_program.specs.Program.{verdict_ran}
use Rattle.audit_program.proofs.report.JudgedReport.write_out.Goals as goal

pub returns-in-No : goal.returns-in-No
returns-in-No g c =
    let sent = rw c.number.ensures.gives at c.write_texts.ensures in
    subst (λ (v : Verdict). Sends (verdict_ran v).out (g.S.Sink.seen c.args.sink.now) (g.S.Sink.seen c.write_texts.new.sink) c.write_texts.result) (sym c.in-No.is) sent
