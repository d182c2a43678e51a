use Rattle.std.proofs.Common.{codes, map, string_bytes}
use Rattle.rcce_words.proofs.ScriptLemmas.{meant_by}
use Rattle.mesh_program.specs.Jobs.{placed_job}
use Rattle.mesh_program.specs.Program.{mesh_command_of, mesh_command_plan}
use Rattle.mesh_program.proofs.launcher.run_words.Goals as goal

pub returns-in-Some : goal.returns-in-Some
returns-in-Some g c =
    meant_by (codes "rccemesh") mesh_command_plan (placed_job c.in-Some.job) (mesh_command_of (map string_bytes c.args.words.now)) _ _ _ c.in-Some.ensures.gives c.run_file.ensures
