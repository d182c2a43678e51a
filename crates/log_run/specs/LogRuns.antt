-- A run of UEs whose calls are kept: where it begins, and what it leaves (this project's profile).
use Rattle.std.specs.Prelude.{◌≡◌, ◌≢◌, ℕ, ◌<◌, All, List, [], length, Option, Some, None, slice_get, slice_index_or}
use Rattle.groups.specs.Peers.{IsPeer}
use Rattle.scc_base.specs.Calls.{DataCall, Send, Recv, Post, Bar, HasItsBytes}
use Rattle.scc_base.specs.Communicators.{rule_of}
use Rattle.scc_base.specs.Heads.{IsHead, IsPostHead}
use Rattle.scc_base.specs.declared.communicators.CommRule.TheVariants.{Absent}
use Rattle.scc_base.specs.Setups.{SetupView, setup_key}
use Rattle.scc_proto.specs.Legality.{IsLegal}
use Rattle.scc_proto.specs.Passed.{open_call, slot_of}
use Rattle.scc_mesh.specs.Scenes.{ChipView, IsWhole, about_in, events_in, records_in}
use Rattle.call_tap.specs.declared.taps.Tap.{Tap}
use Rattle.call_tap.specs.Kept.{AreKept, HasTapRoom}
use Rattle.script_rules.specs.Script.{Script, rules_of}
use Rattle.script_rules.specs.Settled as settled
use Rattle.plain_meaning.specs.Meaning.{State, plain_end}
use Rattle.rcce_ue.specs.Ues.{UeView}
use Rattle.chip_run.specs.declared.ends.RunEnd.{RunEnd}
use Rattle.rcce_run.specs.Crews.{EndsAs}
use Rattle.chip_run.specs.Waiting.{NoneDrafts}
use Rattle.rcce_run.specs.UeRuns.{IsFreshUe, WaitsOpen}
use Rattle.rcce_ue.specs.Workers.{ue_behaviour}
use Rattle.chip_run.specs.Behaves.{Behaviour}
use Rattle.log_run.specs.declared.loggers.Logger.{Logger}
use Rattle.log_run.specs.Loggers.{IsTapped, loggers_of}

-- a UE before its first turn, with a tap that has read nothing
pub record IsFreshLogger (script : Script) (s : SetupView) (rank : ℕ) (logger : Logger UeView) : Type 0 where
  pub fresh : IsFreshUe script s rank logger.worker
  pub tapped : IsTapped logger.tap s rank []

-- the UE of a logger
abbrev pub ue_of : Logger UeView → UeView
ue_of logger = logger.worker

-- how loggers with UEs conduct themselves in a run
abbrev pub ue_loggers : Behaviour (Logger UeView)
ue_loggers = loggers_of ue_behaviour

-- the tap is in its place, and keeps these calls
abbrev pub KeepsCalls : Option Tap → List DataCall → Type 0
KeepsCalls None calls = ⊥
KeepsCalls (Some tap) calls = AreKept tap.kept calls

-- the finished calls of all ranks are legal: they can be used up, each send with its receive, each post with its receive or
-- as what its slot holds, and each barrier with those of its group
abbrev pub AreLegalCalls : ChipView → Type 0
AreLegalCalls chip =
    IsLegal (about_in chip).nue (setup_key (about_in chip)) (λ k. (records_in chip k).calls) (slot_of (about_in chip) (records_in chip))

-- the calls that the plain meaning of a script has done for a rank, with their bytes and in order
abbrev pub done_at : Option State → List DataCall
done_at None = []
done_at (Some state) = state.matched

-- the calls that the plain meaning of a script has done for a rank, with their bytes and in order
abbrev pub plain_calls : Script → ℕ → List DataCall
plain_calls script rank = done_at (slice_get (plain_end script).cells rank)

-- a call that a rank of a script can make: a message with another rank of the run, with a head that a message may have and as
-- many bytes as it says; a post of one chunk at most; a barrier of a communicator that is there
abbrev pub IsOwnCall : Script → ℕ → DataCall → Type 0
IsOwnCall script rank (Send to head bytes) = IsPeer script.nue rank to × IsHead head × (length bytes ≡ head.len)
IsOwnCall script rank (Recv from head bytes) = IsPeer script.nue rank from × IsHead head × (length bytes ≡ head.len)
IsOwnCall script rank (Post to head bytes) = IsPeer script.nue rank to × IsPostHead head × (length bytes ≡ head.len)
IsOwnCall script rank (Bar comm) = (comm < 16) × (rule_of (rules_of script.items) comm ≢ Absent)

-- calls that a rank of a script can make, for which a tap has room
pub record AreOwnCalls (script : Script) (rank : ℕ) (calls : List DataCall) : Type 0 where
  pub own : All (IsOwnCall script rank) calls
  pub room : HasTapRoom calls

-- What a run of a script leaves on a chip of this setup: the finished calls of each rank are those that the plain meaning
-- did for it, with their bytes and in order, and they are legal. A call is open in a record only where the plain meaning
-- leaves the rank waiting in this call, and a rank with no call open has no message in draft. All ranks are at home.
pub record HasRunLogged (script : Script) (s : SetupView) (chip : ChipView) : Type 0 where
  pub setup : about_in chip ≡ s
  pub whole : IsWhole chip
  pub finished : (rank : ℕ) → (records_in chip rank).calls ≡ plain_calls script rank
  pub own : (rank : ℕ) → rank < script.nue → AreOwnCalls script rank (plain_calls script rank)
  pub legal : AreLegalCalls chip
  pub opened : (rank : ℕ) (call : DataCall) → rank < script.nue → open_call (about_in chip) (records_in chip rank) ≡ Some call
      → WaitsOpen script rank call
  pub no_draft : NoneDrafts (about_in chip) (records_in chip)

-- before the run: one logger for each rank
pub record AreFreshLoggers (script : Script) (setup : SetupView) (crew : List (Logger UeView)) : Type 0 where
  pub count : length crew ≡ setup.nue
  pub each : (rank : ℕ) (d : Logger UeView) → rank < length crew → IsFreshLogger script setup rank (slice_index_or crew rank d)

-- a chip that is open without events, all its ranks at home, and such loggers of this script, which was read, with the chip's
-- setup
pub record IsFreshLogCrew (script : Script) (chip : ChipView) (crew : List (Logger UeView)) : Type 0 where
  pub read : settled.IsWholeScript script.nue script.items
  pub whole : IsWhole chip
  pub empty : (r : ℕ) → r < (about_in chip).nue → events_in chip r ≡ []
  pub loggers : AreFreshLoggers script (about_in chip) crew

-- behind a run each tap keeps the calls that the plain meaning did for its rank
pub record HaveKept (script : Script) (crew : List (Logger UeView)) : Type 0 where
  pub count : length crew ≡ script.nue
  pub each : (rank : ℕ) (d : Logger UeView) → rank < script.nue → KeepsCalls (slice_index_or crew rank d).tap (plain_calls script rank)
  pub long : (rank : ℕ) → rank < script.nue → All HasItsBytes (plain_calls script rank)

-- a run that is over
pub record IsLogRunOver (script : Script) (s : SetupView) (chip : ChipView) (crew : List (Logger UeView)) (end : RunEnd) : Type 0 where
  pub kept : HaveKept script crew
  pub answer : EndsAs end script
  pub history : HasRunLogged script s chip
