use Rattle.std.proofs.Common.{codes, map, string_bytes}
use Rattle.rcce_words.specs.ScriptWords.{job_command, script_command}
use Rattle.rcce_words.proofs.ScriptLemmas.{meant_by}
use Rattle.check_program.specs.Program.{command_plan}
use Rattle.check_program.proofs.launcher.run_words.Goals as goal

pub returns-in-Some : goal.returns-in-Some
returns-in-Some g c =
    meant_by (codes "rccecheck") command_plan (job_command c.in-Some.job) (script_command (map string_bytes c.args.words.now)) _ _ _ c.in-Some.ensures.gives c.run_file.ensures
