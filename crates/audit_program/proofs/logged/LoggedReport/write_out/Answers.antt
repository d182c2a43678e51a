use Rattle.std.proofs.Common.{List, ℕ, ap, subst}
use Rattle.rcce_io.specs.Sending.{Sends}
use Rattle.rcce_audit.specs.Texts.{log_text}
use Rattle.audit_program.proofs.logged.LoggedReport.write_out.Goals as goal

pub returns : goal.returns
returns g c =
    subst (λ (text : List ℕ). Sends text (g.S.Sink.seen c.args.sink.now) (g.S.Sink.seen c.write_to.new.sink) c.write_to.result) (ap log_text c.held_log.ensures) c.write_to.ensures
