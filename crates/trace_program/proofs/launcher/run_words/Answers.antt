use Rattle.std.proofs.Common.{codes, map, string_bytes}
use Rattle.rcce_words.proofs.ScriptLemmas.{meant_by}
use Rattle.trace_program.specs.Jobs.{job_view}
use Rattle.trace_program.specs.Program.{trace_command, trace_file_plan}
use Rattle.trace_program.proofs.launcher.run_words.Goals as goal

pub returns-in-Some : goal.returns-in-Some
returns-in-Some g c =
    meant_by (codes "rccetrace") trace_file_plan (job_view c.in-Some.job) (trace_command (map string_bytes c.args.words.now)) _ _ _ c.in-Some.ensures c.run_file.ensures
