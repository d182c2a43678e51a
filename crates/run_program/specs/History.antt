-- What a run leaves on the chip (this project's profile).
use Rattle.std.specs.Prelude.{◌≡◌, ℕ, ◌<◌, List, Option, Some, None}
use Rattle.scc_base.specs.Calls.{DataCall}
use Rattle.scc_base.specs.Setups.{SetupView}
use Rattle.scc_proto.specs.Passed.{open_call}
use Rattle.scc_mesh.specs.Scenes.{ChipView, IsNew, IsWhole, about_in, records_in}
use Rattle.script_rules.specs.Script.{Script}
use Rattle.rcce_ue.specs.Ues.{UeView}
use Rattle.chip_run.specs.declared.members.Member.{Member}
use Rattle.chip_run.specs.declared.runs.Mode.{Mode}
use Rattle.chip_run.specs.declared.runs.Mode.TheVariants as mode
use Rattle.chip_run.specs.Runs.{InOrder}
use Rattle.chip_run.specs.Waiting.{NoneDrafts}
use Rattle.rcce_run.specs.UeRuns.{AreFresh, HasPlainCalls, WaitsOpen, ue_members}
use Rattle.rcce_words.specs.declared.command.Job.{Job}
use Rattle.run_program.specs.Evictors.{HaveEvictors}

-- a run on a chip: the job that asks for it, its setup, the script that its ranks run, and the number that the script was made
-- of, if it was
pub record Asked : Type 0 where
  pub job : Job
  pub setup : SetupView
  pub script : Script
  pub seed : Option ℕ

-- how a run is made: in threads, or with a seed on one thread in the order that the seed names
abbrev pub mode_by : Option ℕ → Mode
mode_by None = mode.Threads
mode_by (Some seed) = mode.Serial seed

-- The turns of a run left this chip. The run began on a chip just opened, with members before their first turn, whose cores
-- answered as the evictors of the job's seed do. With a seed for one thread, the ranks that the seed names took turns; without
-- one there were rounds in threads, in which each member took a row of turns, in whatever order. Behind each round there was a
-- sweep of all ranks in their order.
pub record WasRun (asked : Asked) (chip : ChipView) : Type 0 where
  pub first : ChipView
  pub crew : List (Member UeView)
  pub later : List (Member UeView)
  pub new : IsNew asked.setup first
  pub fresh : AreFresh asked.script asked.setup asked.setup.nue crew
  pub evictors : HaveEvictors asked.job.evict crew
  pub order : InOrder ue_members (mode_by asked.job.serial) first crew chip later

-- The chip history of a run: all ranks are at home on a chip of the run's setup. The finished calls of each rank's record are
-- those that the plain meaning did for it, in order and with their bytes. A call is open in a record only where the plain
-- meaning leaves the rank waiting in this call. (A rank that waits for its posted message at its end has none.) A rank with no
-- call open has no message in draft. The turns that the job asks for left the chip so.
pub record HasRun (asked : Asked) (chip : ChipView) : Type 0 where
  pub setup : about_in chip ≡ asked.setup
  pub whole : IsWhole chip
  pub finished : (rank : ℕ) → rank < asked.script.nue → HasPlainCalls asked.script rank (records_in chip rank)
  pub opened : (rank : ℕ) (call : DataCall) → rank < asked.script.nue → open_call (about_in chip) (records_in chip rank) ≡ Some call
      → WaitsOpen asked.script rank call
  pub no_draft : NoneDrafts (about_in chip) (records_in chip)
  pub turns : WasRun asked chip
