use Rattle.std.proofs.Common.{codes}
use Rattle.outcomes.proofs.ReadingLemmas.{lacks_memory}
use Rattle.rcce_audit.specs.Grammar.{log_of}
use Rattle.audit_program.specs.Program.{log_bytes_plan}
use Rattle.audit_program.proofs.PlanLemmas.{comes_judged, comes_refused}
use Rattle.audit_program.proofs.launcher.judge_bytes.Goals as goal

pub returns-in-Ok : goal.returns-in-Ok
returns-in-Ok c = λ judge files is.
    comes_judged judge (codes "rcceaudit") c.args.file.now c.args.bytes.now c.in-Ok.log c.audit.result files is c.in-Ok.ensures c.audit.ensures.verdict

pub returns-in-Err-Fault : goal.returns-in-Err-Fault
returns-in-Err-Fault c = λ judge files is.
    comes_refused judge (codes "rcceaudit") c.args.file.now (log_of c.args.bytes.now) c.in-Err-Fault.fault c.name.result.now files (rw c.in-Err-Fault.field-0-is at c.in-Err-Fault.ensures) c.name.ensures

pub returns-in-Err-Memory : goal.returns-in-Err-Memory
returns-in-Err-Memory c = λ judge files is. lacks_memory (codes "rcceaudit") (log_bytes_plan judge c.args.file.now c.args.bytes.now) files
