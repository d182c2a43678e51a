-- The command of a job.
use Rattle.rcce_words.specs.ScriptWords.{job_command}
use Rattle.mesh_program.specs.declared.command.Job.{Job}
use Rattle.mesh_program.specs.Program.{Placed}

-- the command of a job, with the core of each rank
abbrev pub placed_job : Job → Placed
placed_job job = record { command = job_command job.asked; at = job.at }
