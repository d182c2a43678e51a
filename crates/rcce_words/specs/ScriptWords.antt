-- The words that ask for a script, by a number of units of execution and the name of its file (this project's profile of
-- `rccecheck`, `rccemesh` and `rcceaudit`).
use Rattle.std.specs.Prelude.{ℕ, ◌&&◌, not, if◌then◌else◌, List, [], ◌∷◌, codes, Option, Some, None, option_map, Result, Ok, Err}
use Rattle.std.specs.Str.{bytes_eq}
use Rattle.outcomes.specs.Numbers.{is_option, ue_count_of}
use Rattle.outcomes.specs.Plans.{Plan}
use Rattle.rcce_words.specs.declared.script_words.ScriptJob.{ScriptJob}

-- a number of units of execution, and the name of a script's file
pub record Command : Type 0 where
  pub nue : ℕ
  pub script : List ℕ

-- the words `-nue N SCRIPT`, and no others
abbrev pub script_command : List (List ℕ) → Option Command
script_command (option ∷ number ∷ script ∷ []) =
    if bytes_eq option (codes "-nue") && not (is_option script)
    then option_map (λ nue. record { nue = nue; script = script }) (ue_count_of number) else None
script_command _ = None

-- the command of a job
abbrev pub job_command : ScriptJob → Command
job_command job = record { nue = job.nue; script = job.script.now }

-- words that are no command are refused, and a command has its plan
abbrev pub plan_of : {C : Type 0} → (C → Plan) → Option C → Result Plan (List ℕ)
plan_of plan None = Err (codes "words refused")
plan_of plan (Some command) = Ok (plan command)
