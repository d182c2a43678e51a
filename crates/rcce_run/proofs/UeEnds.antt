-- What a run of UEs leaves: where all of them rest, each shows the end of its rank in the plain meaning.
use Rattle.std.proofs.Common.{◌≡◌, ◌⊎◌, inl, inr, ℕ, ◌+◌, ◌<◌, ◌≤◌, Bool, true, false, List, [], length, if◌then◌else◌, slice_get, slice_index_or, Option, Some, None, is_none, option_map, option_and_then, refl, sym, ◌∙◌, ap, subst, arith}
use Rattle.std.specs.List.{enumerate_from}
use Rattle.std.proofs.lemmas.Bool.{cases_lt}
use Rattle.std.proofs.lemmas.List.FromFn.{get_or-enumerate_from, length-enumerate_from}
use Rattle.std.proofs.lemmas.Option.{slice_get-get_or, slice_get-map, slice_get_past}
use Rattle.scc_base.specs.Calls.{DataCall}
use Rattle.scc_base.specs.Calls as calls
use Rattle.scc_base.specs.Setups.{IsSetup, SetupView}
use Rattle.scc_proto.specs.Agreement.{Agrees}
use Rattle.scc_proto.specs.Passed.{open_call}
use Rattle.scc_proto.specs.Ports.{record_in}
use Rattle.scc_proto.specs.Stages.{InFlight, Record}
use Rattle.scc_proto.specs.Views.{view_of}
use Rattle.scc_proto.specs.Words.{Memory}
use Rattle.scc_mesh.specs.Scenes.{ChipView, about_in, events_in, records_in}
use Rattle.script_rules.specs.Script.{Script}
use Rattle.script_rules.specs.Settled.{IsWholeScript}
use Rattle.script_machine.specs.declared.posts.Posted.{Posted}
use Rattle.plain_meaning.specs.Collectives.{CollectivesHold, start_of_rank}
use Rattle.plain_meaning.specs.Ends.{Ended, end_of_rank, ended_at}
use Rattle.script_machine.specs.Local.{Local, local_next}
use Rattle.script_machine.specs.Machine.{MachineView}
use Rattle.plain_meaning.specs.Meaning.{State, next_of, plain_end, plain_ends, next_with_calls}
use Rattle.script_machine.specs.Moves.{is_stopped}
use Rattle.script_machine.specs.Next.{Next, call_next, is_going}
use Rattle.script_machine.specs.Next.Next.{Ends, Goes, Posts, Sends, Recvs, Bars}
use Rattle.plain_meaning.proofs.Collectives.CollectiveLaws.{plain_end_collectives}
use Rattle.plain_meaning.proofs.Orders.OrderLaws.{list_same}
use Rattle.send_recv.specs.Ops.{SlotAt}
use Rattle.rcce_ue.specs.Standing.{Tied}
use Rattle.rcce_ue.specs.Ues.{UeView, in_slot}
use Rattle.chip_run.specs.declared.members.Member.{Member}
use Rattle.chip_run.specs.Crews.{AllRest, IsCrew}
use Rattle.chip_run.specs.Turns.{RestsAt}
use Rattle.chip_run.proofs.WaitsLike.{slot_like}
use Rattle.rcce_run.specs.Crews.{AllRun}
use Rattle.rcce_run.specs.UeRuns.{HasPlainCalls, IsFreshCrew, ShowsEnd, WaitsOpen, shown_states, state_shown, ue_members, member_ue}
use Rattle.rcce_run.specs.Scripts.{IsSwept}
use Rattle.chip_run.specs.Waiting.{SlotWaits}
use Rattle.rcce_run.specs.Sweep.{HoldsStates, IsStateOfRecord, slots_by}
use Rattle.rcce_ue.specs.Workers.{slot_awaited, ue_seen}
use Rattle.rcce_ue.proofs.WorkerTurns.{ue_stands}
use Rattle.rcce_run.specs.Ues.{state_of}
use Rattle.rcce_run.proofs.Holding.{at_below, at_past}
use Rattle.rcce_run.proofs.OpenCalls.{open_is_next}
use Rattle.rcce_run.proofs.PlainEnds.{call_waits, end_same, plain_ended_at}
use Rattle.rcce_run.proofs.RunEnds.{RunsUes, is_swept, none_in_flight, over_ends}
use Rattle.rcce_run.proofs.ScriptSweep.{script_empty, script_ends, script_waits}
use Rattle.rcce_run.proofs.ShownStates.{any_slots}
use Rattle.rcce_run.proofs.UeFits.{some_sight, tied_stood}
use Rattle.rcce_run.proofs.UeWants.{waits_at_end, waits_pauses}

-- ---- the start

-- fresh UEs are a crew, which runs their script
pub fresh_crew : (script : Script) (chip : ChipView) (crew : List (Member UeView)) → IsFreshCrew script chip crew → IsCrew ue_members chip crew
fresh_crew script chip crew fresh = record {
  whole = fresh.whole;
  each = fresh.members.count;
  ties = λ k d low.
      let below : k < (about_in chip).nue = subst (λ (n : ℕ). k < n) fresh.members.count low in
      let member = fresh.members.each k d below in
      record {
        ties = ue_stands (slice_index_or crew k d).worker (about_in chip) k (events_in chip k)
            (λ sight setup rank events. member.fresh.tied sight setup rank (events ∙ fresh.empty k below));
        empty = member.home;
      };
}

pub fresh_run : (script : Script) (chip : ChipView) (crew : List (Member UeView)) → IsFreshCrew script chip crew → AllRun member_ue script crew
fresh_run script chip crew fresh k d low = ap (λ (m : MachineView). m.script) (fresh.members.each k d (subst (λ (n : ℕ). k < n) fresh.members.count low)).fresh.machine

pub fresh_some : (script : Script) (chip : ChipView) (crew : List (Member UeView)) → IsFreshCrew script chip crew → IsSetup (about_in chip) → 0 < length crew
fresh_some script chip crew fresh valid =
    let each = fresh.members.count in
    let some = valid.some_ranks in
    omega (arith, each, some)

-- members run their UEs
pub members_run : RunsUes ue_members member_ue
members_run = record {
  shows = λ s rank x. refl;
  stands = λ x s rank events home. home.ties;
  moved = λ x y moves. moves.script;
  stayed = λ x y stays. stays.script;
}

-- ---- the end

in_slot_none : {X : Type 0} (slot : SlotAt) (message : Option X) → slot.to ≡ None → in_slot slot message ≡ None
in_slot_none slot message none = ap (λ (o : Option ℕ). if is_none o then None else message) none

in_slot_full : {X : Type 0} (slot : SlotAt) (message : Option X) (j : ℕ) → slot.to ≡ Some j → in_slot slot message ≡ message
in_slot_full slot message j full = ap (λ (o : Option ℕ). if is_none o then None else message) full

recorded_call : (done : List DataCall) (n : Next Local) → call_next (next_with_calls done n) ≡ call_next n
recorded_call done Ends = refl
recorded_call done (Goes after) = refl
recorded_call done (Posts message after) = refl
recorded_call done (Sends to head bytes after) = refl
recorded_call done (Recvs from head take refuse) = refl
recorded_call done (Bars comm after) = refl

module _ (script : Script) (chip : ChipView) (crew : List (Member UeView)) (memory : Memory) (agrees : Agrees (about_in chip) memory (records_in chip)) (is_crew : IsCrew ue_members chip crew)
    (all_run : AllRun member_ue script crew) (some : 0 < length crew) (d : Member UeView) (rests : AllRest ue_members chip crew (about_in chip).nue) where
  abbrev s : SetupView
  s = about_in chip

  abbrev records : ℕ → Record
  records = records_in chip

  abbrev ue_at : ℕ → UeView
  ue_at k = (slice_index_or crew k d).worker

  abbrev locals : ℕ → Local
  locals k = (ue_at k).machine.local

  abbrev states : ℕ → State
  states k = state_of (locals k) (records k)

  within : (k : ℕ) → k < s.nue → k < length crew
  within k low = subst (λ (n : ℕ). k < n) (sym is_crew.each) low

  abbrev tied_at : (k : ℕ) → k < s.nue → Tied (ue_at k) (some_sight s k (events_in chip k))
  tied_at k low = (is_crew.ties k d (within k low)).ties.tied (some_sight s k (events_in chip k)) refl refl refl

  -- the message that each rank posted last
  abbrev last_by : (k : ℕ) → (k < s.nue) ⊎ (s.nue ≤ k) → Option Posted
  last_by k (inl low) = (tied_at k low).last
  last_by k (inr past) = None

  abbrev lasts : ℕ → Option Posted
  lasts k = last_by k (cases_lt k s.nue)

  stood_by : (k : ℕ) (o : (k < s.nue) ⊎ (s.nue ≤ k)) → k < s.nue → IsStateOfRecord next_of s k (start_of_rank script k) (records k) (states k) (last_by k o)
  stood_by k (inl below) low =
      subst (λ (x : Script). IsStateOfRecord next_of s k (start_of_rank x k) (records k) (states k) (tied_at k below).last) (all_run k d (within k low))
      (tied_stood (ue_at k) s k (events_in chip k) (tied_at k below))
  stood_by k (inr past) low = absurd (omega (arith, low, past))

  sw : IsSwept script s memory records states lasts
  sw =
      let found = is_swept ue_members member_ue members_run script chip crew memory agrees is_crew all_run some d rests in
      record { ranks = found.ranks; comms = found.comms; swept = record { agrees = agrees; stands = λ k low. stood_by k (cases_lt k s.nue) low; failed = found.swept.failed } }

  holds : HoldsStates script.nue (plain_end script) states (slots_by s records lasts)
  holds = script_ends script s memory records states lasts sw

  at_plain : (k : ℕ) → k < script.nue → ended_at (plain_ends script) k ≡ end_of_rank (slots_by s records lasts k) (locals k)
  at_plain k low = plain_ended_at script states (slots_by s records lasts) holds k low

  below : (k : ℕ) → k < script.nue → k < s.nue
  below k low = subst (λ (n : ℕ). k < n) (sym sw.ranks) low

  -- a rank that rests stands at no statement of its own
  stays : (k : ℕ) (b : Bool) → RestsAt b s records k (ue_seen (ue_at k)) → is_going (local_next (locals k)) ≡ false
  stays k true at = ap is_going (over_ends (ue_at k) (records k) at.over)
  stays k false (inl at) = ap is_going (over_ends (ue_at k) (records k) at.over)
  stays k false (inr waits) =
      waits_pauses s (view_of s waits.memory) k (waits.records k) (slot_awaited (ue_at k)) (local_next (locals k)) waits.waits

  module _ (k : ℕ) (low : k < s.nue) (tied : Tied (ue_at k) (some_sight s k (events_in chip k))) (same : lasts k ≡ tied.last) where
    slot_is : (ue_at k).slot.to ≡ option_map (λ (post : InFlight). post.to) (records k).post
    unfolding record_in
    slot_is = tied.slot_is.to

    -- where nothing is left, the UE's slot is that of the plain end
    slot_same : (b : Bool) → RestsAt b s records k (ue_seen (ue_at k)) → local_next (locals k) ≡ Ends → is_stopped (locals k) ≡ false → in_slot (ue_at k).slot tied.last ≡ slots_by s records lasts k
    slot_same true at ends running =
        let empty = none_in_flight (ue_at k) (records k) slot_is at in
        in_slot_none (ue_at k).slot tied.last (slot_is ∙ ap (option_map (λ (post : InFlight). post.to)) empty) ∙ sym (script_empty script s memory records states lasts sw k empty)
    slot_same false (inl at) ends running = absurd (let stopped = at.stopped in cc (stopped, running))
    slot_same false (inr waits) ends running =
        let slot : SlotWaits (view_of s memory) k (records k) = slot_like s waits.memory memory waits.records records waits.agrees agrees waits.alike k low
        (waits_at_end s (view_of s waits.memory) k (waits.records k) (slot_awaited (ue_at k)) (local_next (locals k)) ends waits.waits) in
        let (message, last, there) = script_waits script s memory records states lasts sw k low slot in
        in_slot_full (ue_at k).slot tied.last slot.post.to (slot_is ∙ ap (option_map (λ (post : InFlight). post.to)) slot.is_posted) ∙ sym same ∙ last ∙ sym there

    shows_by : k < script.nue → (b : Bool) → RestsAt b s records k (ue_seen (ue_at k)) → ShowsEnd (ended_at (plain_ends script) k) (ue_at k)
    shows_by less b at = record {
      pausing = stays k b at;
      last = tied.last;
      posted = tied.posted_is;
      end = end_same (locals k) (in_slot (ue_at k).slot tied.last) (slots_by s records lasts k) (λ ends running. slot_same b at ends running) ∙ ap (λ (e : Ended). e.end) (sym (at_plain k less));
      printed = ap (λ (e : Ended). e.printed) (sym (at_plain k less));
    }

  shown_by : (k : ℕ) → k < script.nue → (o : (k < s.nue) ⊎ (s.nue ≤ k)) → cases_lt k s.nue ≡ o → ShowsEnd (ended_at (plain_ends script) k) (ue_at k)
  shown_by k less (inl low) is = let (b, at) = rests k d low in shows_by k low (tied_at k low) (ap (last_by k) is) less b at
  shown_by k less (inr past) is = absurd (let low = below k less in omega (arith, low, past))

  -- each UE shows what its rank leaves behind in the plain meaning
  pub shows_ends : (k : ℕ) → k < script.nue → ShowsEnd (ended_at (plain_ends script) k) (ue_at k)
  shows_ends k less = shown_by k less (cases_lt k s.nue) refl

  cell_at : (k : ℕ) → k < script.nue → slice_get (plain_end script).cells k ≡ Some (states k)
  cell_at k less = holds.cells_at k ∙ at_below script.nue k (states k) less

  -- the calls of each record are those of the plain meaning
  pub has_calls : (k : ℕ) → k < script.nue → HasPlainCalls script k (records k)
  has_calls k less = ap (option_map (λ (u : State). u.matched)) (cell_at k less)

  -- an open call is the one at which the plain meaning leaves the rank waiting
  pub waits_open : (k : ℕ) (call : DataCall) → k < script.nue → open_call s (records k) ≡ Some call → WaitsOpen script k call
  waits_open k call less open_there =
      let next_is : call_next (next_of (states k)) ≡ Some (calls.call_of call) = open_is_next next_of s memory records (start_of_rank script) states lasts sw.swept k (below k less) call open_there in
      let (line, waits) = call_waits (locals k) (slots_by s records lasts k) (calls.call_of call) (sym (recorded_call (records k).calls (local_next (locals k))) ∙ next_is) in
      record {
        stands = ap (option_and_then (λ (u : State). call_next (next_of u))) (cell_at k less) ∙ next_is;
        line = line;
        waits = ap (λ (e : Ended). e.end) (at_plain k less) ∙ waits;
      }

  -- what the UEs show are the states of the plain end
  abbrev numbered : List (ℕ × Member UeView)
  numbered = enumerate_from 0 crew

  shown_at : (k : ℕ) → (k < length crew) ⊎ (length crew ≤ k) → slice_get (shown_states chip crew []).cells k ≡ slice_get (plain_end script).cells k
  shown_at k (inl low) =
      let first : 0 + k ≡ k = omega arith in
      slice_get-map (state_shown chip) numbered k
      ∙ ap (option_map (state_shown chip)) (slice_get-get_or numbered k (k, d) (subst (λ (n : ℕ). k < n) (sym (length-enumerate_from 0 crew)) low) ∙ ap Some (get_or-enumerate_from 0 crew k (k, d) low))
      ∙ ap (λ (j : ℕ). Some (state_of (locals k) (records j))) first
      ∙ sym (cell_at k (subst (λ (n : ℕ). k < n) (is_crew.each ∙ sw.ranks) low))
  shown_at k (inr past) =
      slice_get-map (state_shown chip) numbered k
      ∙ ap (option_map (state_shown chip)) (slice_get_past numbered k (subst (λ (n : ℕ). n ≤ k) (sym (length-enumerate_from 0 crew)) past))
      ∙ sym (holds.cells_at k ∙ at_past script.nue k (states k) (subst (λ (n : ℕ). n ≤ k) (is_crew.each ∙ sw.ranks) past))

  whole : IsWholeScript script.nue script.items
  whole = subst (λ (x : Script). IsWholeScript x.nue x.items) (all_run 0 d some) (tied_at 0 (subst (λ (n : ℕ). 0 < n) is_crew.each some)).begun.whole

  -- so collective calls have given in them what they give
  pub collectives_hold : (slots : List (Option Posted)) → CollectivesHold script (shown_states chip crew slots)
  collectives_hold slots =
      subst (λ (cells : List State). CollectivesHold script (record { cells = cells; slots = slots }))
      (list_same (plain_end script).cells (shown_states chip crew []).cells (λ k. sym (shown_at k (cases_lt k (length crew)))))
      (any_slots script (plain_end script).cells (plain_end script).slots slots (plain_end_collectives script whole))
