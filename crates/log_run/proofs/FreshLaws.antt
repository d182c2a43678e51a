-- Where a run of UEs whose calls are kept begins.
use Rattle.std.proofs.Common.{◌≡◌, ℕ, ◌+◌, ◌<◌, true, List, [], ◌∷◌, ◌++◌, length, slice_index_or, Option, Some, sym, ap, ◌∙◌, subst, arith}
use Rattle.std.specs.Prelude.{All}
use Rattle.scc_base.specs.Calls.{DataCall, HasItsBytes}
use Rattle.scc_base.specs.Setups.{IsSetup, SetupView}
use Rattle.scc_mesh.specs.Scenes.{ChipView, IsNew, about_in, events_in, records_in}
use Rattle.scc_proto.specs.Passed.{open_call}
use Rattle.script_rules.specs.Script.{Script}
use Rattle.script_rules.specs.Settled.{IsWholeScript}
use Rattle.script_machine.specs.Machine.{MachineView}
use Rattle.script_machine.specs.CallLists.{calls_of}
use Rattle.rcce_ue.specs.Ues.{UeView}
use Rattle.chip_run.specs.declared.ends.RunEnd.{RunEnd}
use Rattle.chip_run.specs.Crews.{IsCrew}
use Rattle.rcce_run.specs.Crews.{AllRun, EndsAs}
use Rattle.chip_run.specs.Waiting.{NoneDrafts}
use Rattle.rcce_run.specs.UeRuns.{IsSameChip, WaitsOpen}
use Rattle.chip_run.proofs.CrewGrowth.{each_more}
use Rattle.rcce_ue.proofs.WorkerTurns.{ue_stands}
use Rattle.call_tap.specs.declared.taps.Tap.{Tap}
use Rattle.call_tap.specs.Kept.{AreKept, HasTapRoom}
use Rattle.call_tap.specs.Planned.{has_room_for}
use Rattle.log_run.specs.declared.loggers.Logger.{Logger}
use Rattle.log_run.specs.Loggers.{IsTapped}
use Rattle.log_run.specs.LogRuns.{AreFreshLoggers, AreLegalCalls, HaveKept, IsFreshLogger, IsFreshLogCrew, IsLogRunOver, IsOwnCall, KeepsCalls, plain_calls, ue_loggers, ue_of}
use Rattle.log_run.specs.Sizes.{has_room_for_all}
use Rattle.log_run.proofs.RoomLaws.{each_room}

-- fresh loggers are a crew, which runs their script
pub fresh_is_crew : (script : Script) (chip : ChipView) (crew : List (Logger UeView)) → IsFreshLogCrew script chip crew → IsCrew ue_loggers chip crew
fresh_is_crew script chip crew fresh = record {
  whole = fresh.whole;
  each = fresh.loggers.count;
  ties = λ k d low.
      let none : events_in chip k ≡ [] = fresh.empty k (subst (λ (n : ℕ). k < n) fresh.loggers.count low) in
      record {
        ties = ue_stands (slice_index_or crew k d).worker (about_in chip) k (events_in chip k)
            (λ sight setup rank events. (fresh.loggers.each k d low).fresh.tied sight setup rank (events ∙ none));
        tapped = subst (λ (es : List _). IsTapped (slice_index_or crew k d).tap (about_in chip) k es) (sym none) (fresh.loggers.each k d low).tapped;
      };
}

pub fresh_runs : (script : Script) (chip : ChipView) (crew : List (Logger UeView)) → IsFreshLogCrew script chip crew → AllRun ue_of script crew
fresh_runs script chip crew fresh k d low = ap (λ (m : MachineView). m.script) (fresh.loggers.each k d low).fresh.machine

pub fresh_some : (script : Script) (chip : ChipView) (crew : List (Logger UeView)) → IsFreshLogCrew script chip crew → IsSetup (about_in chip) → 0 < length crew
fresh_some script chip crew fresh valid =
    let each = fresh.loggers.count in
    let some = valid.some_ranks in
    omega (arith, each, some)

-- loggers that are fresh for a new chip
pub fresh_crew : (script : Script) (s : SetupView) (chip : ChipView) (crew : List (Logger UeView)) → IsWholeScript script.nue script.items → IsNew s chip → AreFreshLoggers script s crew → IsFreshLogCrew script chip crew
fresh_crew script s chip crew read new fresh = record {
  read = read;
  whole = new.whole;
  empty = λ r low. new.empty r;
  loggers = subst (λ (x : SetupView). AreFreshLoggers script x crew) (sym new.about) fresh;
}

-- one logger more
pub fresh_more : (script : Script) (s : SetupView) (n : ℕ) (crew : List (Logger UeView)) (logger : Logger UeView) → length crew ≡ n
    → ((rank : ℕ) (d : Logger UeView) → rank < n → IsFreshLogger script s rank (slice_index_or crew rank d)) → IsFreshLogger script s n logger
    → (rank : ℕ) (d : Logger UeView) → rank < n + 1 → IsFreshLogger script s rank (slice_index_or (crew ++ logger ∷ []) rank d)
fresh_more script s n crew logger count each last = each_more (IsFreshLogger script s) n crew logger count each last

-- ---- the end

module _ (script view : Script) (same : script ≡ view) (crew : List (Logger UeView)) (kept : HaveKept script crew) where
  pub crew_count : length crew ≡ view.nue
  crew_count = kept.count ∙ ap (λ (x : Script). x.nue) same

  -- the tap of a rank keeps the calls that the plain meaning did for it
  pub logger_keeps : (rank number : ℕ) (logger : Logger UeView) → number ≡ rank → rank < view.nue → logger ≡ slice_index_or crew number logger → KeepsCalls logger.tap (plain_calls view rank)
  logger_keeps rank number logger named below is =
      let low : number < script.nue = omega (arith, kept.count, crew_count, named, below) in
      let here : KeepsCalls logger.tap (plain_calls script number) = subst (λ (l : Logger UeView). KeepsCalls l.tap (plain_calls script number)) (sym is) (kept.each number logger low) in
      subst (λ (x : Script). KeepsCalls logger.tap (plain_calls x rank)) same (subst (λ (r : ℕ). KeepsCalls logger.tap (plain_calls script r)) named here)

  pub calls_long : (rank : ℕ) → rank < view.nue → All HasItsBytes (plain_calls view rank)
  calls_long rank below =
      let low : rank < script.nue = omega (arith, kept.count, crew_count, below) in
      subst (λ (x : Script). All HasItsBytes (plain_calls x rank)) same (kept.long rank low)

-- a tap that keeps calls, in its place
pub kept_there : (place : Option Tap) (tap : Tap) (done : List DataCall) → place ≡ Some tap → KeepsCalls place done → AreKept tap.kept done
kept_there place tap done is keeps = subst (λ (t : Option Tap). KeepsCalls t done) is keeps

-- a run that is over
pub over : (script : Script) (s : SetupView) (chip now : ChipView) (crew later : List (Logger UeView)) (end : RunEnd) → s.nue ≡ script.nue → has_room_for_all script ≡ true → IsNew s chip → length crew ≡ s.nue
    → IsSameChip chip now → length later ≡ length crew → EndsAs end script → ((k : ℕ) → (records_in now k).calls ≡ plain_calls script k) → AreLegalCalls now
    → ((k : ℕ) (call : DataCall) → k < script.nue → open_call (about_in now) (records_in now k) ≡ Some call → WaitsOpen script k call) → NoneDrafts (about_in now) (records_in now)
    → ((k : ℕ) (d : Logger UeView) → k < script.nue → has_room_for (calls_of script k) ≡ true → KeepsCalls (slice_index_or later k d).tap (records_in now k).calls)
    → ((k : ℕ) → k < script.nue → All HasItsBytes (records_in now k).calls) → ((k : ℕ) → k < script.nue → All (IsOwnCall script k) (records_in now k).calls)
    → ((k : ℕ) → k < script.nue → has_room_for (calls_of script k) ≡ true → HasTapRoom (records_in now k).calls) → IsLogRunOver script s now later end
over script s chip now crew later end ranks room new each stands count answer calls legal opened no_draft kept long own few = record {
  kept = record {
    count = count ∙ each ∙ ranks;
    each = λ k d low. subst (λ (done : List DataCall). KeepsCalls (slice_index_or later k d).tap done) (calls k) (kept k d low (each_room script room k low));
    long = λ k low. subst (λ (done : List DataCall). All HasItsBytes done) (calls k) (long k low);
  };
  answer = answer;
  history = record {
    setup = stands.about ∙ new.about;
    whole = stands.whole;
    finished = calls;
    own = λ k low. record {
      own = subst (λ (done : List DataCall). All (IsOwnCall script k) done) (calls k) (own k low);
      room = subst (λ (done : List DataCall). HasTapRoom done) (calls k) (few k low (each_room script room k low));
    };
    legal = legal;
    opened = opened;
    no_draft = no_draft;
  };
}
