-- What a run of UEs whose calls are kept leaves.
use Rattle.std.proofs.Common.{◌≡◌, ⊎_elim, ℕ, ◌<◌, ◌≤◌, true, List, [], ◌++◌, append-nil, length, slice_get, slice_index_or, Option, Some, None, option_and_then, refl, sym, ◌∙◌, ap, subst}
use Rattle.std.proofs.lemmas.Bool.{cases_lt}
use Rattle.scc_base.specs.Calls.{DataCall}
use Rattle.scc_base.specs.Calls as calls
use Rattle.scc_base.specs.Setups.{SetupView, setup_key}
use Rattle.scc_base.specs.declared.events.Event.{Event}
use Rattle.scc_proto.specs.Agreement.{Agrees}
use Rattle.scc_proto.specs.Legality.{IsLegal}
use Rattle.scc_proto.specs.Passed.{open_call, passed_calls, passed_open, slot_of}
use Rattle.scc_proto.specs.Records.{record_of}
use Rattle.scc_proto.specs.Stages.{Record, blank}
use Rattle.scc_proto.specs.Words.{Memory}
use Rattle.scc_proto.proofs.PortLaws.{record_of-nil}
use Rattle.scc_mesh.specs.Scenes.{ChipView, about_in, events_in, records_in}
use Rattle.script_rules.specs.Script.{Script}
use Rattle.script_rules.specs.Settled.{IsWholeScript}
use Rattle.script_machine.specs.CallLists.{calls_of}
use Rattle.plain_meaning.specs.Collectives.{start_of_rank}
use Rattle.plain_meaning.specs.Ends.{Ended}
use Rattle.script_machine.specs.Local.{Local, local_next}
use Rattle.plain_meaning.specs.Meaning.{State, next_of, plain_end, next_with_calls}
use Rattle.script_machine.specs.Next.{Next, call_next}
use Rattle.script_machine.specs.Next.Next.{Ends, Goes, Posts, Sends, Recvs, Bars}
use Rattle.call_tap.specs.declared.taps.Tap.{Tap}
use Rattle.call_tap.specs.Kept.{HasTapRoom}
use Rattle.call_tap.specs.Planned.{has_room_for}
use Rattle.call_tap.proofs.PlannedLaws.{planned_room}
use Rattle.call_tap.proofs.TapLaws.{kept_calls}
use Rattle.rcce_ue.specs.Ues.{UeView}
use Rattle.chip_run.specs.Crews.{AllRest, IsCrew}
use Rattle.rcce_run.specs.Crews.{AllRun, IsAtEnd, crew_locals}
use Rattle.rcce_run.specs.UeRuns.{WaitsOpen}
use Rattle.rcce_run.specs.Sweep.{IsStateOfRecord, slots_by}
use Rattle.rcce_run.specs.Ues.{FitsRecord, state_of}
use Rattle.rcce_run.proofs.Holding.{at_below, at_past}
use Rattle.rcce_run.proofs.PlainEnds.{call_waits, plain_ended_at}
use Rattle.rcce_run.proofs.RunEnds.{RunsUes, at_end, fit, is_swept}
use Rattle.rcce_run.proofs.Still.{none_passed}
use Rattle.log_run.specs.declared.loggers.Logger.{Logger}
use Rattle.log_run.specs.Loggers.{IsTapped}
use Rattle.log_run.specs.LogRuns.{AreLegalCalls, KeepsCalls, done_at, plain_calls, ue_loggers, ue_of}
use Rattle.log_run.proofs.PathLaws.{AreFirst, are_first}

recorded_call : (done : List DataCall) (n : Next Local) → call_next (next_with_calls done n) ≡ call_next n
recorded_call done Ends = refl
recorded_call done (Goes after) = refl
recorded_call done (Posts message after) = refl
recorded_call done (Sends to head bytes after) = refl
recorded_call done (Recvs from head take refuse) = refl
recorded_call done (Bars comm after) = refl

-- loggers run their UEs
pub loggers_run : RunsUes ue_loggers ue_of
loggers_run = record {
  shows = λ s rank x. refl;
  stands = λ x s rank events logging. logging.ties;
  moved = λ x y moves. moves.script;
  stayed = λ x y stays. stays.script;
}

-- a tap in its place keeps what it has read, where it has room
tap_keeps : (tap : Option Tap) (s : SetupView) (rank : ℕ) (events : List Event) → IsTapped tap s rank events → HasTapRoom (record_of s rank events).calls → KeepsCalls tap (record_of s rank events).calls
tap_keeps None s rank events tapped room = tapped
tap_keeps (Some tap) s rank events tapped room = kept_calls tap s rank events tapped room

module _ (script : Script) (chip : ChipView) (crew : List (Logger UeView)) (memory : Memory) (agrees : Agrees (about_in chip) memory (records_in chip)) (is_crew : IsCrew ue_loggers chip crew)
    (all_run : AllRun ue_of script crew) (some : 0 < length crew) (d : Logger UeView) where
  abbrev s : SetupView
  s = about_in chip

  abbrev records : ℕ → Record
  records = records_in chip

  abbrev locals : ℕ → Local
  locals = crew_locals ue_of crew d

  within : (k : ℕ) → k < s.nue → k < length crew
  within k low = subst (λ (n : ℕ). k < n) (sym is_crew.each) low

  fit_at : (k : ℕ) → k < s.nue → FitsRecord (ue_of (slice_index_or crew k d)) s k (events_in chip k)
  fit_at k low = fit ue_loggers ue_of loggers_run script chip crew memory agrees is_crew all_run some d k low

  -- the finished calls of a rank are the first of those that its program names
  module _ (read : IsWholeScript script.nue script.items) (ranks : s.nue ≡ script.nue) where
    pub first_at : (k : ℕ) → k < script.nue → AreFirst script k (records k).calls
    first_at k low =
        let below : k < s.nue = subst (λ (n : ℕ). k < n) (sym ranks) low in
        let fits = fit_at k below in
        are_first script k read low s (records k) (state_of (locals k) (records k)) fits.last
        (subst (λ (x : Script). IsStateOfRecord next_of s k (start_of_rank x k) (records k) (state_of (locals k) (records k)) fits.last) (all_run k d (within k below)) fits.stood)

    -- there is room for them, where there is for the program's
    pub room_at : (k : ℕ) → k < script.nue → has_room_for (calls_of script k) ≡ true → HasTapRoom (records k).calls
    room_at k low planned =
        let first = first_at k low in
        planned_room (calls_of script k) first.rest (records k).calls planned first.planned first.long

    -- and its tap keeps them
    pub kept_at : (k : ℕ) → k < script.nue → has_room_for (calls_of script k) ≡ true → KeepsCalls (slice_index_or crew k d).tap (records k).calls
    kept_at k low planned =
        let below : k < s.nue = subst (λ (n : ℕ). k < n) (sym ranks) low in
        tap_keeps (slice_index_or crew k d).tap s k (events_in chip k) (is_crew.ties k d (within k below)).tapped (room_at k low planned)

  pub ranks_are : s.nue ≡ script.nue
  ranks_are =
      let low : 0 < s.nue = subst (λ (n : ℕ). 0 < n) is_crew.each some in
      (fit_at 0 low).ranks ∙ ap (λ (x : Script). x.nue) (all_run 0 d some)

  module _ (rests : AllRest ue_loggers chip crew s.nue) where
    ended : IsAtEnd script s records locals
    ended = at_end ue_loggers ue_of loggers_run script chip crew memory agrees is_crew all_run some d rests

    abbrev states : ℕ → State
    states k = state_of (locals k) (records k)

    cell_at : (k : ℕ) → k < script.nue → slice_get (plain_end script).cells k ≡ Some (states k)
    cell_at k less = ended.ends.cells_at k ∙ at_below script.nue k (states k) less

    -- an open call is the one at which the plain meaning leaves the rank waiting
    pub waits_open : (k : ℕ) (call : DataCall) → k < script.nue → open_call s (records k) ≡ Some call → WaitsOpen script k call
    waits_open k call less open_there =
        let low : k < s.nue = subst (λ (n : ℕ). k < n) (sym ranks_are) less in
        let next_is : call_next (next_of (states k)) ≡ Some (calls.call_of call) = ended.opened k low call open_there in
        let (line, waits) = call_waits (locals k) (slots_by s records ended.lasts k) (calls.call_of call) (sym (recorded_call (records k).calls (local_next (locals k))) ∙ next_is) in
        record {
          stands = ap (option_and_then (λ (u : State). call_next (next_of u))) (cell_at k less) ∙ next_is;
          line = line;
          waits = ap (λ (e : Ended). e.end) (plain_ended_at script states (slots_by s records ended.lasts) ended.ends k less) ∙ waits;
        }

    -- nothing open is passed, so the finished calls are legal
    module _ (beyond : (r : ℕ) → s.nue ≤ r → events_in chip r ≡ []) where
      past_passed : (k : ℕ) → s.nue ≤ k → passed_calls s records k ≡ (records k).calls
      past_passed k past =
          let none : records k ≡ blank = ap (record_of s k) (beyond k past) ∙ record_of-nil s k in
          ap (λ (rec : Record). (records k).calls ++ passed_open s k rec.stage records) none ∙ append-nil (records k).calls

      all_passed : (k : ℕ) → passed_calls s records k ≡ (records k).calls
      all_passed k =
          ⊎_elim
          (λ (low : k < s.nue). none_passed next_of s memory records (start_of_rank script) _ _
          (is_swept ue_loggers ue_of loggers_run script chip crew memory agrees is_crew all_run some d rests).swept k low)
          (λ (past : s.nue ≤ k). past_passed k past)
          (cases_lt k s.nue)

      -- the calls of each record are those of the plain meaning
      pub plain_at : (k : ℕ) → (records k).calls ≡ plain_calls script k
      plain_at k =
          ⊎_elim
          (λ (less : k < script.nue). sym (ap done_at (cell_at k less)))
          (λ (past : script.nue ≤ k).
          let none : records k ≡ blank = ap (record_of s k) (beyond k (subst (λ (n : ℕ). n ≤ k) (sym ranks_are) past)) ∙ record_of-nil s k in
          ap (λ (rec : Record). rec.calls) none ∙ sym (ap done_at (ended.ends.cells_at k ∙ at_past script.nue k (states k) past)))
          (cases_lt k script.nue)

      pub legal : IsLegal s.nue (setup_key s) (passed_calls s records) (slot_of s records) → AreLegalCalls chip
      legal passed = subst (λ (f : ℕ → List DataCall). IsLegal s.nue (setup_key s) f (slot_of s records)) (λ i k. all_passed k i) passed
