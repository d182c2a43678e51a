-- What a run leaves on the chip (this project's profile).
use Rattle.std.specs.Prelude.{◌≡◌, ℕ, ◌<◌, List, Some, None}
use Rattle.scc_proto.specs.Passed.{open_call}
use Rattle.scc_proto.specs.Stages.{Idle}
use Rattle.scc_mesh.specs.Scenes.{ChipView, IsWhole, about_in, records_in}
use Rattle.coll_more.specs.Ops.{data_calls}
use Rattle.outcomes.specs.Coming.{ByTest}
use Rattle.outcomes.specs.Outcomes.{Outcome}
use Rattle.outcomes.specs.Statuses.{is_quiet}
use Rattle.coll_program.specs.Jobs.{got_by, coll_setup_of, src_of}
use Rattle.coll_program.specs.Program.{coll_job_of}
use Rattle.coll_program.specs.declared.command.Job.{Job}

-- The chip history of a run: all ranks are at home on a chip of the run's setup. The finished calls of each rank are exactly
-- those of its table, in order and with their bytes; no call is open, and no message is in draft.
pub record HasRunCollective (job : Job) (chip : ChipView) : Type 0 where
  pub setup : about_in chip ≡ coll_setup_of job.nue
  pub whole : IsWhole chip
  pub calls : (rank : ℕ) → rank < job.nue
      → (records_in chip rank).calls ≡ data_calls job.more rank job.nue job.len (src_of job rank) (got_by job rank)
  pub none_open : (rank : ℕ) → rank < job.nue → open_call (about_in chip) (records_in chip rank) ≡ None
  pub idle : (rank : ℕ) → rank < job.nue → (records_in chip rank).stage ≡ Idle

-- What is on the chip where a call came to this outcome: nothing where nothing has run, else the history of the job that the
-- words ask for.
abbrev pub CollChipTells : List (List ℕ) → ChipView → Outcome → Type 0
CollChipTells words chip o =
    ByTest (is_quiet o.status) (chip ≡ None) ((job : Job) × (coll_job_of words ≡ Some job) × HasRunCollective job chip)
