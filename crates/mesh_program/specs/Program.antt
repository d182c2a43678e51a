-- What `rccemesh` does on its words (this project's profile).
use Rattle.std.specs.Prelude.{ℕ, Bool, if◌then◌else◌, List, [], ◌∷◌, codes, Option, None, option_map, option_and_then}
use Rattle.std.specs.Str.{bytes_eq}
use Rattle.script_rules.specs.Script.{Script}
use Rattle.plain_meaning.specs.Ends.{all_finished}
use Rattle.script_plain.specs.Matches.{plain_matches}
use Rattle.plain_meaning.specs.Meaning.{plain_ends}
use Rattle.mesh_load.specs.Mesh.{Link, lines_over_link}
use Rattle.outcomes.specs.Outcomes.{Ran}
use Rattle.outcomes.specs.Plans.{Plan, Program}
use Rattle.outcomes.specs.Plans.Plan.{Runs}
use Rattle.rcce_words.specs.ScriptFiles.{script_plan}
use Rattle.rcce_words.specs.ScriptWords.{Command, plan_of, script_command}
use Rattle.scc_base.specs.Worlds.{own_cores}
use Rattle.mesh_program.specs.Cores.{listed_cores}
use Rattle.mesh_program.specs.Texts.{mesh_text}

-- a number of units of execution and the name of a script's file, and the core of each rank
pub record Placed : Type 0 where
  pub command : Command
  pub at : List ℕ

-- a command, with the cores for its ranks
abbrev pub placed_on : Command → List ℕ → Placed
placed_on command at = record { command = command; at = at }

-- a command on the cores of its ranks' own numbers
abbrev pub on_own : Command → Placed
on_own command = placed_on command own_cores

-- a command on the cores of a list, where it has as many as there are ranks
abbrev pub on_listed : List ℕ → Command → Option Placed
on_listed cores command = option_map (placed_on command) (listed_cores command.nue cores)

-- the words `-nue N SCRIPT` or `-nue N -at LIST SCRIPT`, and no others
abbrev pub mesh_command_of : List (List ℕ) → Option Placed
mesh_command_of (option ∷ number ∷ script ∷ []) = option_map on_own (script_command (option ∷ number ∷ script ∷ []))
mesh_command_of (option ∷ number ∷ at ∷ cores ∷ script ∷ []) =
    if bytes_eq at (codes "-at") then option_and_then (on_listed cores) (script_command (option ∷ number ∷ script ∷ [])) else None
mesh_command_of _ = None

-- these lines, and a word on err where a rank has not finished
abbrev pub mesh_ran_by : Bool → List ℕ → Ran
mesh_ran_by finished text = record { finished = finished; out = text; err = if finished then [] else codes "rccemesh: not finished\n" }

-- a line for each link that carries any
abbrev pub mesh_ran_of : Bool → (Link → ℕ) → Ran
mesh_ran_of finished on = mesh_ran_by finished (mesh_text on)

-- a script is run by its plain meaning
abbrev pub mesh_run_plan : List ℕ → Script → Plan
mesh_run_plan at script = Runs (mesh_ran_of (all_finished (plain_ends script)) (lines_over_link at (plain_matches script)))

-- the script's file
abbrev pub mesh_command_plan : Placed → Plan
mesh_command_plan placed = script_plan (mesh_run_plan placed.at) placed.command.script placed.command.nue

-- the program, by its name and what it does on its words
abbrev pub rccemesh : Program
rccemesh = record { name = codes "rccemesh"; plan = λ words. plan_of mesh_command_plan (mesh_command_of words) }
