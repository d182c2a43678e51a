-- The UEs of a run, and the end of a script that they stand at.
use Rattle.std.specs.Prelude.{◌≡◌, ◌≢◌, ℕ, ◌<◌, List, length, Option, slice_index_or}
use Rattle.scc_base.specs.Setups.{SetupView}
use Rattle.scc_proto.specs.Stages.{Record}
use Rattle.script_rules.specs.Script.{Script}
use Rattle.script_machine.specs.declared.ends.UeEnd.TheVariants as ue_end
use Rattle.script_machine.specs.declared.posts.Posted.{Posted}
use Rattle.plain_meaning.specs.Ends.{ended_at}
use Rattle.script_machine.specs.Local.{Local}
use Rattle.plain_meaning.specs.Meaning.{plain_end, plain_ends}
use Rattle.rcce_ue.specs.Ues.{UeView}
use Rattle.chip_run.specs.declared.ends.RunEnd.{RunEnd}
use Rattle.chip_run.specs.declared.ends.RunEnd.TheVariants as run_end
use Rattle.rcce_run.specs.Scripts.{IsOpenCall}
use Rattle.rcce_run.specs.Sweep.{HoldsStates, slots_by}
use Rattle.rcce_run.specs.Ues.{state_of}

-- all of a crew run this script, where each has this UE
abbrev pub AllRun : {A : Type 0} → (A → UeView) → Script → List A → Type 0
AllRun {A} ue script crew = (k : ℕ) (d : A) → k < length crew → (ue (slice_index_or crew k d)).machine.script ≡ script

-- what the ranks hold
abbrev pub crew_locals : {A : Type 0} → (A → UeView) → List A → A → ℕ → Local
crew_locals ue crew d k = (ue (slice_index_or crew k d)).machine.local

-- the ranks stand at the plain end of a script: what they hold, with the finished calls of their records, and the messages
-- in the slots are those of the plain end, and an open call is the one that stands next
pub record IsAtEnd (script : Script) (s : SetupView) (records : ℕ → Record) (locals : ℕ → Local) : Type 0 where
  pub lasts : ℕ → Option Posted
  pub ends : HoldsStates script.nue (plain_end script) (λ k. state_of (locals k) (records k)) (slots_by s records lasts)
  pub opened : IsOpenCall s records (λ k. state_of (locals k) (records k))

-- how a run ended is how the plain meaning ends: all ranks have finished in it, or one has not
abbrev pub EndsAs : RunEnd → Script → Type 0
EndsAs run_end.Finished script = (k : ℕ) → k < script.nue → (ended_at (plain_ends script) k).end ≡ ue_end.Finished
EndsAs run_end.Stuck script = (k : ℕ) × (k < script.nue) × ((ended_at (plain_ends script) k).end ≢ ue_end.Finished)
