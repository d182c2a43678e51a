-- The crew of a run at its end.
use Rattle.std.specs.Prelude.{◌≡◌, ℕ, ◌*◌, ◌<◌, ◌≤◌, Option, None, Some, List, length, slice_get, slice_index_or, sum_by}
use Rattle.script_rules.specs.Script.{Script}
use Rattle.plain_meaning.specs.Ends.{ended_at}
use Rattle.script_machine.specs.Local.{most_steps_left, local_start}
use Rattle.plain_meaning.specs.Meaning.{State, plain_end, plain_ends}
use Rattle.script_gen.specs.Outcome.{sends_of_call, sent_bytes_of}
use Rattle.script_gen.specs.Scripts.{gen_script_of}
use Rattle.rcce_ue.specs.Ues.{UeView, capped_count}
use Rattle.chip_run.specs.declared.members.Member.{Member}
use Rattle.rcce_run.specs.Crews.{EndsAs}
use Rattle.rcce_run.specs.UeRuns.{ShowsEnd}
use Rattle.chip_run.specs.declared.ends.RunEnd.{RunEnd}
use Rattle.scc_mesh.specs.Scenes.{ChipView}
use Rattle.run_program.specs.History.{Asked, HasRun}
use Rattle.scc_base.specs.Heads.{most_message}

-- each rank has come to what the plain meaning of the script leaves of it
pub record HaveEnded (script : Script) (crew : List (Member UeView)) : Type 0 where
  pub count : length crew ≡ script.nue
  pub each : (rank : ℕ) (d : Member UeView) → rank < script.nue
      → ShowsEnd (ended_at (plain_ends script) rank) (slice_index_or crew rank d).worker

-- A unit of execution has counted what its rank sent in the plain meaning of the script: no more messages than the rank takes
-- steps, each of at most 65,536 bytes.
pub record CountsPlain (script : Script) (rank : ℕ) (ue : UeView) : Type 0 where
  pub state : State
  pub there : slice_get (plain_end script).cells rank ≡ Some state
  pub sent : ue.sent ≡ capped_count (sum_by sends_of_call state.matched)
  pub bytes : ue.sent_bytes ≡ capped_count (sum_by sent_bytes_of state.matched)
  pub few : sum_by sends_of_call state.matched ≤ most_steps_left (local_start script rank)
  pub short : sum_by sent_bytes_of state.matched ≤ most_message * sum_by sends_of_call state.matched

-- each unit of execution has counted what its rank sent
pub record HaveSent (script : Script) (crew : List (Member UeView)) : Type 0 where
  pub count : length crew ≡ script.nue
  pub each : (rank : ℕ) (d : Member UeView) → rank < script.nue → CountsPlain script rank (slice_index_or crew rank d).worker

-- a script that is made of a number is the one of this number
abbrev pub IsMadeOf : Script → Option ℕ → Type 0
IsMadeOf script None = Unit {0}
IsMadeOf script (Some seed) = script ≡ gen_script_of script.nue seed

-- a run over the chip that is over
pub record IsOver (asked : Asked) (chip : ChipView) (crew : List (Member UeView)) (end : RunEnd) : Type 0 where
  pub ended : HaveEnded asked.script crew
  pub sent : HaveSent asked.script crew
  pub answer : EndsAs end asked.script
  pub history : HasRun asked chip
