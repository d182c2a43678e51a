-- What `rccecheck` does on its words (this project's profile).
use Rattle.std.specs.Prelude.{ℕ, List, [], codes}
use Rattle.script_rules.specs.Script.{Script}
use Rattle.script_plain.specs.declared.matches.Match.{Match}
use Rattle.plain_meaning.specs.Ends.{Ended, all_finished}
use Rattle.script_plain.specs.Matches.{plain_matches}
use Rattle.plain_meaning.specs.Meaning.{keys_of, plain_ends}
use Rattle.outcomes.specs.Outcomes.{Ran}
use Rattle.outcomes.specs.Plans.{Plan, Program}
use Rattle.outcomes.specs.Plans.Plan.{Runs}
use Rattle.rcce_words.specs.ScriptFiles.{script_plan}
use Rattle.rcce_words.specs.ScriptWords.{Command, plan_of, script_command}
use Rattle.check_program.specs.Texts.{check_text}
use Rattle.check_program.specs.Waiting.{all_found}

-- what a script comes to: whether each rank finishes, and the lines
abbrev pub check_ran_of : (ℕ → ℕ → ℕ) → List Match → List Ended → Ran
check_ran_of keys matches ends = record { finished = all_finished ends; out = check_text matches (all_found keys ends); err = [] }

-- a script is run by its plain meaning
abbrev pub check_run_plan : Script → Plan
check_run_plan script = Runs (check_ran_of (keys_of script) (plain_matches script) (plain_ends script))

-- the script's file
abbrev pub command_plan : Command → Plan
command_plan command = script_plan check_run_plan command.script command.nue

-- the program, by its name and what it does on its words: `-nue N SCRIPT`, and no others
abbrev pub rccecheck : Program
rccecheck = record { name = codes "rccecheck"; plan = λ words. plan_of command_plan (script_command words) }
