-- A run of UEs that all rest stands at the plain end, and tells whether all ranks have finished there.
use Rattle.std.proofs.Common.{◌≡◌, ◌≢◌, ◌⊎◌, inl, inr, ℕ, ◌<◌, ◌≤◌, Bool, true, false, List, length, slice_index_or, Option, Some, None, if◌then◌else◌, option_map, refl, sym, ◌∙◌, ap, subst, arith}
use Rattle.std.proofs.lemmas.Bool.{cases_lt}
use Rattle.scc_base.specs.Setups.{SetupView}
use Rattle.scc_base.specs.declared.events.Event.{Event}
use Rattle.scc_proto.specs.Agreement.{Agrees}
use Rattle.scc_proto.specs.Stages.{InFlight, Record}
use Rattle.scc_proto.specs.Views.{view_of}
use Rattle.scc_proto.specs.Words.{Memory}
use Rattle.scc_mesh.specs.Scenes.{ChipView, about_in, events_in, records_in}
use Rattle.script_rules.specs.Script.{Script, rules_of}
use Rattle.script_machine.specs.declared.posts.Posted.{Posted}
use Rattle.plain_meaning.specs.Collectives.{start_of_rank}
use Rattle.script_machine.specs.declared.ends.UeEnd.TheVariants as ue_end
use Rattle.plain_meaning.specs.Ends.{ended_at}
use Rattle.script_machine.specs.Local.{Local, end_of, local_next}
use Rattle.plain_meaning.specs.Meaning.{State, next_of, plain_ends, next_with_calls}
use Rattle.script_machine.specs.Next.{Next}
use Rattle.script_machine.specs.Next.Next.{Ends}
use Rattle.rcce_ue.specs.Standing.{Tied}
use Rattle.rcce_ue.specs.Ues.{UeView}
use Rattle.chip_run.specs.declared.ends.RunEnd.{RunEnd}
use Rattle.chip_run.specs.declared.ends.RunEnd.TheVariants as run_end
use Rattle.chip_run.specs.Behaves.{Behaviour, WorkerView}
use Rattle.chip_run.specs.Crews.{AllRest, RunEndedAs, CrewGoesOn, IsCrew}
use Rattle.chip_run.specs.Turns.{HasFinished, WantsNothing, RestsAt}
use Rattle.chip_run.specs.Waiting.{SlotWaits}
use Rattle.chip_run.proofs.LaterLaws.{later_keeps}
use Rattle.chip_run.proofs.WaitsLike.{slot_like, waits_like}
use Rattle.rcce_run.specs.Crews.{AllRun, EndsAs, IsAtEnd, crew_locals}
use Rattle.rcce_run.specs.Scripts.{IsSwept}
use Rattle.rcce_run.specs.Sweep.{IsStateOfRecord, Failed, slots_by}
use Rattle.rcce_ue.specs.Workers.{UeStands, slot_awaited, ue_seen, ue_want, want_at_end}
use Rattle.rcce_run.specs.Ues.{FitsRecord, state_of}
use Rattle.rcce_run.proofs.UeFits.{some_sight, tied_fits, tied_slot}
use Rattle.rcce_run.proofs.OpenCalls.{open_is_next}
use Rattle.rcce_run.proofs.PlainEnds.{finished_end, plain_end_at, stopped_end, waiting_end}
use Rattle.rcce_run.proofs.ScriptSweep.{script_empty, script_ends, script_waits}
use Rattle.rcce_run.proofs.UeWants.{none_awaited, nothing_ends, waits_at_end, waits_pauses, waits_failed}

-- workers that conduct themselves as their UEs do
pub record RunsUes {A : Type 0} (c : Behaviour A) (ue : A → UeView) : Type 0 where
  pub shows : (s : SetupView) (rank : ℕ) (x : A) → c.seen s rank x ≡ ue_seen (ue x)
  pub stands : (x : A) (s : SetupView) (rank : ℕ) (events : List Event) → c.tied x s rank events → UeStands (ue x) s rank events
  pub moved : (x y : A) → c.moves x y → (ue y).machine.script ≡ (ue x).machine.script
  pub stayed : (x y : A) → c.stays x y → (ue y).machine.script ≡ (ue x).machine.script

-- they run the same script as before
pub still_run : {A : Type 0} (c : Behaviour A) (ue : A → UeView) → RunsUes c ue → (script : Script) (chip now : ChipView) (crew later : List A) → CrewGoesOn c chip crew now later → AllRun ue script crew → AllRun ue script later
still_run {A} c ue runs script chip now crew later goes all k d low =
    let within : k < length crew = subst (λ (n : ℕ). k < n) goes.count low in
    later_keeps c (λ (x : A). (ue x).machine.script) runs.moved runs.stayed (slice_index_or crew k d) (slice_index_or later k d) (goes.each k d within) ∙ all k d within

-- a UE that is over has nothing left
pub over_ends : (u : UeView) (rec : Record) → WantsNothing rec (ue_seen u) → local_next u.machine.local ≡ Ends
over_ends u rec over = nothing_ends (want_at_end (slot_awaited u)) (local_next u.machine.local) over.ends

none_posted : (o : Option InFlight) → option_map (λ (post : InFlight). post.to) o ≡ None → o ≡ None
none_posted None is = refl
none_posted (Some post) is = absurd (cc (is))

-- nothing of a UE that has finished is on its way
pub none_in_flight : (u : UeView) (rec : Record) → u.slot.to ≡ option_map (λ (post : InFlight). post.to) rec.post → HasFinished rec (ue_seen u) → rec.post ≡ None
none_in_flight u rec slot_is at =
    let awaited : slot_awaited u ≡ None = none_awaited (slot_awaited u) (local_next u.machine.local) (over_ends u rec at.over) at.over.ends in
    none_posted rec.post (sym slot_is ∙ sym (ap (λ (b : Bool). if b then None else u.slot.to) at.running) ∙ awaited)

module _ {A : Type 0} (c : Behaviour A) (ue : A → UeView) (runs : RunsUes c ue) (script : Script) (chip : ChipView) (crew : List A) (memory : Memory)
    (agrees : Agrees (about_in chip) memory (records_in chip)) (is_crew : IsCrew c chip crew) (all_run : AllRun ue script crew) (some : 0 < length crew) (d : A) where
  abbrev s : SetupView
  s = about_in chip

  abbrev records : ℕ → Record
  records = records_in chip

  abbrev ue_at : ℕ → UeView
  ue_at k = ue (slice_index_or crew k d)

  abbrev states : ℕ → State
  states k = state_of (crew_locals ue crew d k) (records k)

  within : (k : ℕ) → k < s.nue → k < length crew
  within k low = subst (λ (n : ℕ). k < n) (sym is_crew.each) low

  abbrev tied_at : (k : ℕ) → k < s.nue → Tied (ue_at k) (some_sight s k (events_in chip k))
  tied_at k low = (runs.stands (slice_index_or crew k d) s k (events_in chip k) (is_crew.ties k d (within k low))).tied (some_sight s k (events_in chip k)) refl refl refl

  pub fit : (k : ℕ) → k < s.nue → FitsRecord (ue_at k) s k (events_in chip k)
  fit k low = tied_fits (ue_at k) s k (events_in chip k) (tied_at k low)

  abbrev last_by : (k : ℕ) → (k < s.nue) ⊎ (s.nue ≤ k) → Option Posted
  last_by k (inl low) = (fit k low).last
  last_by k (inr past) = None

  abbrev lasts : ℕ → Option Posted
  lasts k = last_by k (cases_lt k s.nue)

  stood_by : (k : ℕ) (o : (k < s.nue) ⊎ (s.nue ≤ k)) → k < s.nue → IsStateOfRecord next_of s k (start_of_rank script k) (records k) (states k) (last_by k o)
  stood_by k (inl below) low =
      subst (λ (x : Script). IsStateOfRecord next_of s k (start_of_rank x k) (records k) (states k) (fit k below).last) (all_run k d (within k low)) (fit k below).stood
  stood_by k (inr past) low = absurd (omega (arith, low, past))

  -- what a UE wants and has
  pub rests_as : (b : Bool) (k : ℕ) → RestsAt b s records k (c.seen s k (slice_index_or crew k d)) → RestsAt b s records k (ue_seen (ue_at k))
  rests_as b k rests = subst (λ (w : WorkerView). RestsAt b s records k w) (runs.shows s k (slice_index_or crew k d)) rests

  over_failed : (k : ℕ) → WantsNothing (records k) (ue_seen (ue_at k)) → Failed s (view_of s memory) k (records k) (next_of (states k))
  over_failed k over =
      subst (λ (n : Next Local). Failed s (view_of s memory) k (records k) (next_with_calls (records k).calls n)) (sym (over_ends (ue_at k) (records k) over)) over.idle

  failed_by : (b : Bool) (k : ℕ) → k < s.nue → RestsAt b s records k (ue_seen (ue_at k)) → Failed s (view_of s memory) k (records k) (next_of (states k))
  failed_by true k low rests = over_failed k rests.over
  failed_by false k low (inl rests) = over_failed k rests.over
  failed_by false k low (inr waits) =
      waits_failed s (view_of s memory) k (records k) (records k).calls (slot_awaited (ue_at k)) (local_next (ue_at k).machine.local)
      (waits_like s waits.memory memory waits.records records waits.agrees agrees waits.alike k low (ue_want (ue_at k)) waits.waits)

  module _ (rests : AllRest c chip crew s.nue) where
    pub is_swept : IsSwept script s memory records states lasts
    is_swept = record {
      ranks = (fit 0 low).ranks ∙ ap (λ (x : Script). x.nue) (all_run 0 d some);
      comms = (fit 0 low).comms ∙ ap (λ (x : Script). rules_of x.items) (all_run 0 d some);
      swept = record {
        agrees = agrees;
        stands = λ k below. stood_by k (cases_lt k s.nue) below;
        failed = λ k below. let (b, at) = rests k d below in failed_by b k below (rests_as b k at);
      };
    }
      where
        low : 0 < s.nue
        low = subst (λ (n : ℕ). 0 < n) is_crew.each some

    pub at_end : IsAtEnd script s records (crew_locals ue crew d)
    at_end = record {
      lasts = lasts;
      ends = script_ends script s memory records states lasts is_swept;
      opened = open_is_next next_of s memory records (start_of_rank script) states lasts is_swept.swept;
    }

    end_at : (k : ℕ) → k < script.nue → (ended_at (plain_ends script) k).end ≡ end_of (slots_by s records lasts k) (crew_locals ue crew d k)
    end_at k low = plain_end_at script states (slots_by s records lasts) (script_ends script s memory records states lasts is_swept) k low

    rank_below : (k : ℕ) → k < script.nue → k < s.nue
    rank_below k low = subst (λ (n : ℕ). k < n) (sym is_swept.ranks) low

    all_finished : ((k : ℕ) → k < s.nue → RestsAt true s records k (ue_seen (ue_at k))) → EndsAs run_end.Finished script
    all_finished finished k low =
        let at = finished k (rank_below k low) in
        let empty = none_in_flight (ue_at k) (records k) (tied_slot (ue_at k) s k (events_in chip k) (tied_at k (rank_below k low))) at in
        end_at k low ∙ finished_end (crew_locals ue crew d k) (slots_by s records lasts k) at.running (over_ends (ue_at k) (records k) at.over) (script_empty script s memory records states lasts is_swept k empty)

    not_finished : (k : ℕ) → k < s.nue → RestsAt false s records k (ue_seen (ue_at k)) → end_of (slots_by s records lasts k) (crew_locals ue crew d k) ≢ ue_end.Finished
    not_finished k low (inl stopped) = stopped_end (crew_locals ue crew d k) (slots_by s records lasts k) stopped.stopped
    not_finished k low (inr waits) =
        let slot_to : Option ℕ = slot_awaited (ue_at k) in
        waiting_end (crew_locals ue crew d k) (slots_by s records lasts k)
        (waits_pauses s (view_of s waits.memory) k (waits.records k) slot_to (local_next (crew_locals ue crew d k)) waits.waits)
        (λ ends.
        let there : SlotWaits (view_of s waits.memory) k (waits.records k) = waits_at_end s (view_of s waits.memory) k (waits.records k) slot_to (local_next (crew_locals ue crew d k)) ends waits.waits in
        let slot = slot_like s waits.memory memory waits.records records waits.agrees agrees waits.alike k low there in
        let (message, last, full) = script_waits script s memory records states lasts is_swept k low slot in
        (message, full))

    one_unfinished : (k : ℕ) → k < s.nue → RestsAt false s records k (ue_seen (ue_at k)) → EndsAs run_end.Stuck script
    one_unfinished k low rests_there =
        let below : k < script.nue = subst (λ (n : ℕ). k < n) is_swept.ranks low in
        (k, below, λ end. not_finished k low rests_there (sym (end_at k below) ∙ end))

  -- where the run ended so, all ranks have finished in the plain meaning, or one has not
  pub ends_as : AllRest c chip crew s.nue → (end : RunEnd) → RunEndedAs c end chip crew → EndsAs end script
  ends_as rests run_end.Finished all = all_finished rests (λ k low. rests_as true k (all k d (within k low)))
  ends_as rests run_end.Stuck (all, one) = one_unfinished rests one.one (subst (λ (n : ℕ). one.one < n) is_crew.each one.below) (rests_as false one.one (one.rests d))
