-- What a run leaves that began with fresh loggers and in the end rests.
use Rattle.std.proofs.Common.{◌≡◌, ℕ, ◌<◌, ◌≤◌, true, List, [], length, slice_index_or, Some, sym, subst}
use Rattle.scc_base.specs.Calls.{DataCall}
use Rattle.scc_base.specs.Setups.{IsSetup, setup_key}
use Rattle.scc_proto.specs.Agreement.{Agrees}
use Rattle.scc_proto.specs.Legality.{IsLegal}
use Rattle.scc_proto.specs.Passed.{open_call, passed_calls, slot_of}
use Rattle.scc_proto.specs.Words.{Memory}
use Rattle.scc_mesh.specs.Scenes.{ChipView, about_in, events_in, records_in}
use Rattle.script_rules.specs.Script.{Script}
use Rattle.script_machine.specs.CallLists.{calls_of}
use Rattle.call_tap.specs.Kept.{HasTapRoom}
use Rattle.call_tap.specs.Planned.{has_room_for}
use Rattle.rcce_ue.specs.Ues.{UeView}
use Rattle.chip_run.specs.declared.ends.RunEnd.{RunEnd}
use Rattle.chip_run.specs.Crews.{AllRest, CrewStands, RunEndedAs}
use Rattle.chip_run.proofs.ServedLaws.{some_worker}
use Rattle.rcce_run.specs.Crews.{AllRun, EndsAs}
use Rattle.rcce_run.specs.UeRuns.{WaitsOpen}
use Rattle.rcce_run.proofs.RunEnds.{ends_as, still_run}
use Rattle.log_run.specs.declared.loggers.Logger.{Logger}
use Rattle.log_run.specs.LogRuns.{AreLegalCalls, IsFreshLogCrew, KeepsCalls, plain_calls, ue_loggers, ue_of}
use Rattle.log_run.proofs.FreshLaws.{fresh_runs, fresh_some}
use Rattle.log_run.proofs.LogEnds.{first_at, kept_at, legal, loggers_run, plain_at, ranks_are, room_at, waits_open}
use Rattle.log_run.proofs.PathLaws.{AreFirst}

module _ (script : Script) (chip now : ChipView) (crew later : List (Logger UeView)) (fresh : IsFreshLogCrew script chip crew) (valid : IsSetup (about_in chip))
    (stands : CrewStands ue_loggers chip crew now later) (memory : Memory) (agrees : Agrees (about_in now) memory (records_in now)) (rested : AllRest ue_loggers now later (length later)) where
  all : AllRun ue_of script later
  all = still_run ue_loggers ue_of loggers_run script chip now crew later stands.goes (fresh_runs script chip crew fresh)

  some : 0 < length later
  some = subst (λ (n : ℕ). 0 < n) (sym stands.goes.count) (fresh_some script chip crew fresh valid)

  first : Logger UeView
  first = some_worker later some

  rests : AllRest ue_loggers now later (about_in now).nue
  rests = subst (λ (n : ℕ). AllRest ue_loggers now later n) stands.is_crew.each rested

  pub run_ends : (end : RunEnd) → RunEndedAs ue_loggers end now later → EndsAs end script
  run_ends end ends = ends_as ue_loggers ue_of loggers_run script now later memory agrees stands.is_crew all some first rests end ends

  pub run_opened : (k : ℕ) (call : DataCall) → k < script.nue → open_call (about_in now) (records_in now k) ≡ Some call → WaitsOpen script k call
  run_opened k call low is_open = waits_open script now later memory agrees stands.is_crew all some first rests k call low is_open

  pub run_kept : (k : ℕ) (d : Logger UeView) → k < script.nue → has_room_for (calls_of script k) ≡ true → KeepsCalls (slice_index_or later k d).tap (records_in now k).calls
  run_kept k d low planned =
      kept_at script now later memory agrees stands.is_crew all some d fresh.read (ranks_are script now later memory agrees stands.is_crew all some d) k low planned

  pub run_first : (k : ℕ) → k < script.nue → AreFirst script k (records_in now k).calls
  run_first k low =
      first_at script now later memory agrees stands.is_crew all some first fresh.read (ranks_are script now later memory agrees stands.is_crew all some first) k low

  pub run_room : (k : ℕ) → k < script.nue → has_room_for (calls_of script k) ≡ true → HasTapRoom (records_in now k).calls
  run_room k low planned =
      room_at script now later memory agrees stands.is_crew all some first fresh.read (ranks_are script now later memory agrees stands.is_crew all some first) k low planned

  module _ (beyond : (r : ℕ) → (about_in now).nue ≤ r → events_in now r ≡ []) where
    pub run_calls : (k : ℕ) → (records_in now k).calls ≡ plain_calls script k
    run_calls k = plain_at script now later memory agrees stands.is_crew all some first rests beyond k

    pub run_legal : IsLegal (about_in now).nue (setup_key (about_in now)) (passed_calls (about_in now) (records_in now)) (slot_of (about_in now) (records_in now)) → AreLegalCalls now
    run_legal passed = legal script now later memory agrees stands.is_crew all some first rests beyond passed
