use Rattle.std.proofs.Common.{codes}
use Rattle.audit_program.specs.Program.{log_bytes_plan}
use Rattle.audit_program.proofs.launcher.judge_file.Goals as goal

pub returns-in-Ok : goal.returns-in-Ok
returns-in-Ok g c = λ judge is.
    c.in-Ok.ensures.reads (codes "rcceaudit") (log_bytes_plan judge c.args.file.now) _ _ (rw c.as_slice.ensures at (c.judge_bytes.ensures judge (g.F.Files.seen c.read_file.new.files) is))

pub returns-in-Err : goal.returns-in-Err
returns-in-Err g c = λ judge is. c.in-Err.ensures.reads (codes "rcceaudit") (log_bytes_plan judge c.args.file.now)
