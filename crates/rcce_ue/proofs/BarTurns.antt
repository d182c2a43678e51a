-- A turn of a UE that stands at a barrier.
use Rattle.std.proofs.Common.{◌≡◌, ℕ, ◌+◌, ◌-◌, ◌<◌, ◌&&◌, ◌||◌, not, Bool, true, false, cond, List, [], ◌∷◌, ◌++◌, Option, Some, None, refl, sym, ap, ◌∙◌, subst, arith, inl, inr}
use Rattle.std.specs.List.{list_all, list_any}
use Rattle.std.proofs.lemmas.List.{append_cancel_left}
use Rattle.scc_base.specs.Calls.{DataCall}
use Rattle.scc_base.specs.Calls.DataCall.{Bar}
use Rattle.scc_base.specs.Places.{WordAt, line_of_word}
use Rattle.scc_base.specs.Setups.{SetupView, place_of, size_of}
use Rattle.scc_base.specs.declared.events.Event.{Event}
use Rattle.scc_base.specs.declared.events.Spot.{Spot}
use Rattle.scc_base.specs.declared.events.Spot.TheVariants.{Flag}
use Rattle.scc_base.specs.declared.events.Turn.{Turn}
use Rattle.scc_base.specs.declared.events.Turn.TheVariants as turn
use Rattle.scc_base.specs.declared.layouts.Layout.{Layout}
use Rattle.scc_proto.specs.Drafts.{is_draft}
use Rattle.scc_proto.specs.Ports.{Did, Seat, Sight, record_in}
use Rattle.scc_proto.specs.Resting.{is_resting}
use Rattle.scc_proto.specs.Stages.{InFlight, Record}
use Rattle.scc_proto.proofs.PortLaws.{events_did, seat_kept}
use Rattle.put_get.specs.Accesses.{loads_of}
use Rattle.put_get.specs.Cores.{Private}
use Rattle.put_get.specs.Transfers.{load_count}
use Rattle.sync_flags.specs.Flags.{flag_value}
use Rattle.sync_flags.specs.Looks.{LooksAt}
use Rattle.sync_flags.specs.Tries.{AtWord, NoTry, Failed, Fruitful, Tried, spot_of}
use Rattle.send_recv.specs.Ops.{slot_left}
use Rattle.send_recv.specs.Sending.{SlotStands}
use Rattle.send_recv.specs.Tries as tries
use Rattle.send_recv.specs.Turns.{IsAtRest, IsSamePost, Last, LastHeld, NoLoad, OnlyTries, StoresFromBuffer, is_no_draft}
use Rattle.send_recv.proofs.Starts.{slot_stays}
use Rattle.barrier.specs.Flags.{value_at}
use Rattle.barrier.specs.Stages.{BarAt, BarStands, IsAtStage, barrier_aim_at, bar_call, is_bar_finished, left_by, meeting}
use Rattle.barrier.specs.Turns.{BarTurned, Does}
use Rattle.barrier.specs.declared.stages.BarStage.{BarStage}
use Rattle.barrier.specs.declared.stages.BarStage.TheVariants as stage
use Rattle.plain_meaning.specs.Collectives.{start_of_rank}
use Rattle.script_machine.specs.Local.{Local, local_next}
use Rattle.script_machine.specs.Moves.{is_stopped, after_pass}
use Rattle.script_machine.specs.Next.{Next}
use Rattle.script_machine.specs.Next.Next.{Bars}
use Rattle.rcce_ue.specs.Left.{ue_left, next_bound, rest_of}
use Rattle.rcce_ue.specs.Standing.{IsBarOf, IsFree, Tied, keeping}
use Rattle.rcce_ue.specs.Turns.{After, IsUeStill, Turns}
use Rattle.rcce_ue.specs.Ues.{UeView, at_next_call}
use Rattle.rcce_ue.specs.declared.calls.Open.TheVariants.{Meeting}
use Rattle.rcce_ue.proofs.CountLemmas.{bytes_same, sends_same}
use Rattle.rcce_ue.proofs.EnterLemmas.{entered_left, entered_tied, holds_none}
use Rattle.rcce_ue.proofs.KeepLemmas.{begun_at, after_by, hands_kept, is_calling, kept_tied, moved_within, not_at_end, not_ended, not_going, no_try, not_over, turned_by, unless_below, unless_one}
use Rattle.rcce_ue.proofs.MeasureLemmas.{falls}
use Rattle.rcce_ue.proofs.PathLemmas.{goes_on, stood_met}

-- a call stands next
calls_next : (op : BarAt) (n : Next Local) → IsBarOf op n → is_calling n ≡ true
calls_next op (Bars comm after) of = refl
calls_next op _ of = absurd of

open_of : (op : BarAt) (n : Next Local) → IsBarOf op n → is_bar_finished op.stage ≡ false
open_of op (Bars comm after) of = of.1
open_of op _ of = absurd of

still_of : (op now : BarAt) (n : Next Local) → now.comm ≡ op.comm → is_bar_finished now.stage ≡ false → IsBarOf op n → IsBarOf now n
still_of op now (Bars comm after) same on of = (same ∙ of.0, on)
still_of op now _ same on of = absurd of

-- ---- the events of a turn

same_events : (s t : Sight) (a b : List Event) → Did s a t → Did s b t → a ≡ b
same_events s t a b one two = append_cancel_left s.events a b (sym (events_did s a t one) ∙ events_did s b t two)

looked_held : (s t : Sight) (c d : Private) (events : List Event) (place : WordAt) (found : ℕ) → Did s events t → LooksAt s c place found t d → LastHeld events c.evictions d
looked_held s t c d events place found did looks =
    Last [] (line_of_word place) looks.words [] (same_events s t events (loads_of (line_of_word place) looks.words) did looks.looks.did) refl looks.looks.held

held_by : (seat : Seat) (comm : ℕ) (at : BarStage) (value : ℕ) (s t : Sight) (c d : Private) (events : List Event) → is_bar_finished at ≡ false → Did s events t → Does seat comm at value s c t d → LastHeld events c.evictions d
held_by seat comm stage.Flip value s t c d events on did does = NoLoad (ap load_count (same_events s t events _ did does.did))
held_by seat comm (stage.Gather seen) value s t c d events on did does = looked_held s t c d events _ does.0 did does.1
held_by seat comm (stage.Release released) value s t c d events on did does = NoLoad (ap load_count (same_events s t events _ did does.did))
held_by seat comm stage.Await value s t c d events on did does = looked_held s t c d events _ does.0 did does.1
held_by seat comm stage.Finished value s t c d events on did does = absurd (cc)

-- a turn that waits has looked
looked_rests : (s t : Sight) (c d : Private) (events : List Event) (place : WordAt) (found : ℕ) → Did s events t → LooksAt s c place found t d → list_all is_resting events ≡ true
looked_rests s t c d events place found did looks = ap (list_all is_resting) (same_events s t events (loads_of (line_of_word place) looks.words) did looks.looks.did)

rests_by : (seat : Seat) (comm : ℕ) (at : BarStage) (value : ℕ) (s t : Sight) (c d : Private) (events : List Event) (spot : Spot) → Did s events t → Does seat comm at value s c t d
    → Tried (barrier_aim_at seat comm at value) events (Some spot) → list_all is_resting events ≡ true
rests_by seat comm stage.Flip value s t c d events spot did does tried = absurd (no_try events spot tried)
rests_by seat comm (stage.Gather seen) value s t c d events spot did does tried = looked_rests s t c d events _ does.0 did does.1
rests_by seat comm (stage.Release released) value s t c d events spot did does tried = absurd (no_try events spot tried)
rests_by seat comm stage.Await value s t c d events spot did does tried = looked_rests s t c d events _ does.0 did does.1
rests_by seat comm stage.Finished value s t c d events spot did does tried = absurd (no_try events spot tried)

-- and has done nothing else
spot_here : (place : WordAt) (value : ℕ) (events : List Event) (spot : Spot) → Tried (Some (AtWord place value)) events (Some spot) → Flag place 0 ≡ spot
spot_here place value events spot (NoTry none waits) = absurd (cc)
spot_here place value events spot (Failed at is one failed waits) =
    let aim : AtWord place value ≡ at = cc in
    let there : spot ≡ spot_of at = cc in
    sym (there ∙ ap spot_of (sym aim))
spot_here place value events spot (Fruitful at is one failed waits) = absurd (cc)

looked_only : (layout : Layout) (s t : Sight) (c d : Private) (events : List Event) (place : WordAt) (value found : ℕ) (spot : Spot) → Did s events t → LooksAt s c place found t d
    → Tried (Some (AtWord place value)) events (Some spot) → OnlyTries (tries.aim_at layout (Some spot)) events
looked_only layout s t c d events place value found spot did looks tried =
    subst (λ (at : Spot). OnlyTries (tries.aim_at layout (Some at)) events) (spot_here place value events spot tried)
    (looks.words, same_events s t events (loads_of (line_of_word place) looks.words) did looks.looks.did)

only_by : (seat : Seat) (comm : ℕ) (at : BarStage) (value : ℕ) (s t : Sight) (c d : Private) (events : List Event) (spot : Spot) → Did s events t → Does seat comm at value s c t d
    → Tried (barrier_aim_at seat comm at value) events (Some spot) → OnlyTries (tries.aim_at seat.setup.layout (Some spot)) events
only_by seat comm stage.Flip value s t c d events spot did does tried = absurd (no_try events spot tried)
only_by seat comm (stage.Gather seen) value s t c d events spot did does tried = looked_only seat.setup.layout s t c d events _ value does.0 spot did does.1 tried
only_by seat comm (stage.Release released) value s t c d events spot did does tried = absurd (no_try events spot tried)
only_by seat comm stage.Await value s t c d events spot did does tried = looked_only seat.setup.layout s t c d events _ value does.0 spot did does.1 tried
only_by seat comm stage.Finished value s t c d events spot did does tried = absurd (no_try events spot tried)

-- no word of a message is stored
drafted_more : (first some all : Bool) → (first || some) ≡ false → (some ≡ false → all ≡ true) → (not first && all) ≡ true
drafted_more true some all none rest = absurd (cc)
drafted_more false some all none rest = rest none

none_drafted : (s : SetupView) (events : List Event) → list_any (is_draft s) events ≡ false → list_all (is_no_draft s) events ≡ true
none_drafted s [] none = refl
none_drafted s (e ∷ events) none = drafted_more (is_draft s e) (list_any (is_draft s) events) (list_all (is_no_draft s) events) none (λ rest. none_drafted s events rest)

from_buffer : (s : SetupView) (c : Private) (events : List Event) → list_any (is_draft s) events ≡ false → StoresFromBuffer s c events
from_buffer s c events none = record { front = []; rest = events; is = refl; none_or_all = inl refl; no_draft = none_drafted s events none }

-- ---- the record

same_post : (old new : Option InFlight) → new ≡ old → IsSamePost old new
same_post None new same = same
same_post (Some post) new same = (post.is_answered, same, λ h. h)

at_rest : (rec new : Record) → new ≡ rec → IsAtRest rec new
at_rest rec new same = record {
  stage = ap (λ (r : Record). r.stage) same;
  post = same_post rec.post new.post (ap (λ (r : Record). r.post) same);
  rest = record { flips = ap (λ (r : Record). r.flips) same; hold = ap (λ (r : Record). r.held) same; heap = ap (λ (r : Record). r.heap) same };
  calls = ap (λ (r : Record). r.calls) same;
}

met_call : (op : BarAt) (comm : ℕ) → op.comm ≡ comm → is_bar_finished op.stage ≡ false → bar_call op ≡ Bar comm ∷ []
met_call op comm at on = λ i. cond (on i) [] (Bar (at i) ∷ [])

-- how many turns are left of a barrier, by the setup and the rank
abbrev lefts : SetupView → ℕ → BarAt → ℕ
lefts x rank at = left_by (size_of x at.comm rank) (place_of x at.comm rank) at.stage

module _ (ue : UeView) (s t : Sight) (op : BarAt) (tied : Tied (record ue { op = Meeting op }) s) where
  of_next : IsBarOf op (local_next ue.machine.local)
  of_next = tied.stands.1

  at_call : is_calling (local_next ue.machine.local) ≡ true
  at_call = calls_next op (local_next ue.machine.local) of_next

  on : is_stopped ue.machine.local ≡ false
  on = goes_on ue.machine.local (not_at_end (local_next ue.machine.local) at_call)

  module _ (d : Private) (now : BarAt) (values : List Bool) (stands : BarStands t d now values) where
    abbrev Turned : Turn → Type 0
    Turned answer = BarTurned (meeting s ue.core op ue.parity) (meeting t d now values) answer

    abbrev pub later_bar : UeView
    later_bar = record ue { core = d; parity = values; op = Meeting now }

    module _ (answer : Turn) (r : Turned answer) where
      seat : t.seat ≡ s.seat
      seat = seat_kept s r.events t r.did

      slot_here : SlotStands t.seat (record_in t) ue.slot
      slot_here = subst (λ (x : Seat). SlotStands x (record_in t) ue.slot) (sym seat)
          (slot_stays s.seat (record_in s) (record_in t) ue.slot (same_post (record_in s).post (record_in t).post r.rest.post) tied.slot_is)

      drafts_here : StoresFromBuffer s.seat.setup ue.core r.events
      drafts_here = from_buffer s.seat.setup ue.core r.events r.no_draft

      held_here : LastHeld r.events ue.core.evictions d
      held_here = held_by s.seat op.comm op.stage (flag_value (value_at values op.comm)) s t ue.core d r.events (open_of op (local_next ue.machine.local) of_next) r.did r.does

      kept : is_bar_finished now.stage ≡ false → (record_in t).calls ≡ (record_in s).calls → Tied later_bar t
      kept open_still calls =
          kept_tied (record ue { op = Meeting op }) s t tied seat on calls r.rest.registers d ue.slot values (Meeting now) ue.inbox slot_here (inr refl) stands.parity tied.room
          (stands, still_of op now (local_next ue.machine.local) r.same open_still of_next)

    pub bar_moved : Turned turn.Moved → Turns (record ue { op = Meeting op }) s later_bar t turn.Moved
    bar_moved r = record {
      tied = kept turn.Moved r r.means.3 r.means.1;
      turned = turned_by (record ue { op = Meeting op }) s later_bar t turn.Moved r.events r.did r.does (refl, refl, refl) r.tried (λ spot same. absurd (cc)) tt
          (moved_within (record ue { op = Meeting op }) later_bar s t on (not_ended (local_next ue.machine.local) at_call) refl (unless_one (is_stopped ue.machine.local) _ _ on one)) r.rest.heap (drafts_here turn.Moved r) (held_here turn.Moved r);
    }
      where
        one : (slot_left ue.slot + 1 + lefts ue.machine.setup ue.machine.rank op) + (rest_of ue.machine.setup ue.machine.rank ue.machine.local - (1 + next_bound ue.machine.setup ue.machine.rank (local_next ue.machine.local)))
            ≡ (slot_left ue.slot + 1 + lefts ue.machine.setup ue.machine.rank now) + (rest_of ue.machine.setup ue.machine.rank ue.machine.local - (1 + next_bound ue.machine.setup ue.machine.rank (local_next ue.machine.local))) + 1
        one =
            let there = subst (λ (x : SetupView). lefts x s.seat.rank op ≡ lefts x s.seat.rank now + 1) tied.setup_is r.means.0 in
            let fewer = subst (λ (rank : ℕ). lefts ue.machine.setup rank op ≡ lefts ue.machine.setup rank now + 1) tied.rank_is there in
            omega (arith, fewer)

    pub bar_waited : (spot : Spot) → Turned (turn.Waiting spot) → Turns (record ue { op = Meeting op }) s later_bar t (turn.Waiting spot)
    bar_waited spot r =
        let still : IsUeStill (record ue { op = Meeting op }) later_bar = (λ i. record ue { core = d; parity = values; op = Meeting (r.means.0 i) }) in
        record {
          tied = kept (turn.Waiting spot) r (ap (λ (x : BarAt). is_bar_finished x.stage) r.means.0 ∙ open_of op (local_next ue.machine.local) of_next) (ap (λ (x : Record). x.calls) r.means.1);
          turned = turned_by (record ue { op = Meeting op }) s later_bar t (turn.Waiting spot) r.events r.did r.does (refl, refl, refl) r.tried (λ at same. rests_by s.seat op.comm op.stage (flag_value (value_at values op.comm)) s t ue.core d r.events spot r.did r.does r.tried) (only_by s.seat op.comm op.stage (flag_value (value_at values op.comm)) s t ue.core d r.events spot r.did r.does r.tried)
              (still, ap ue_left still, at_rest (record_in s) (record_in t) r.means.1, not_over (record ue { op = Meeting op }) on (not_ended (local_next ue.machine.local) at_call), not_going (local_next ue.machine.local) at_call) r.rest.heap (drafts_here (turn.Waiting spot) r) (held_here (turn.Waiting spot) r);
        }

    -- the UE after the turn that ends the barrier
    abbrev pub done_bar : Next Local → UeView
    done_bar n = at_next_call (record ue { machine = record ue.machine { local = after_pass n ue.machine.local }; core = d; parity = values })

    module _ (r : Turned turn.Done) where
      free : IsFree t (keeping d ue.slot values)
      free =
          let at = subst (λ (x : BarStage). IsAtStage t.seat (record_in t) now.comm x) r.means.0 stands.at in
          record {
            messages = record {
              between = record { stage = at; empty = stands.empty };
              hands = holds_none t.seat.setup.layout (record_in t).held (hands_kept (record_in s) (record_in t) r.rest.registers tied.hands);
              slot_stands = slot_here turn.Done r;
            };
            parity = stands.parity;
          }

      done_by : (n : Next Local) → local_next ue.machine.local ≡ n → Turns (record ue { op = Meeting op }) s (done_bar n) t turn.Moved
      done_by (Bars comm v) is =
          let of = subst (IsBarOf op) is of_next in
          let calls : (record_in t).calls ≡ (record_in s).calls ++ Bar comm ∷ [] =
          r.means.1 ∙ ap (λ (list : List DataCall). (record_in s).calls ++ list) (met_call op comm of.0 of.1) in
          record {
            tied = entered_tied (record ue { machine = record ue.machine { local = v }; core = d; parity = values }) t tied.last (begun_at ue.machine v tied.begun)
                (ap (λ (x : Seat). x.setup) (seat turn.Done r) ∙ tied.setup_is) (ap (λ (x : Seat). x.rank) (seat turn.Done r) ∙ tied.rank_is)
                (stood_met (start_of_rank ue.machine.script ue.machine.rank) (record_in s) ue.machine.local tied.last (record_in t) tied.stood on comm v is calls)
                free (hands_kept (record_in s) (record_in t) r.rest.registers tied.hands) tied.room tied.posted_is tied.target
                (sends_same (record_in s).calls (record_in t).calls _ ue.sent calls refl tied.sent_is)
                (bytes_same (record_in s).calls (record_in t).calls _ ue.sent_bytes calls refl tied.bytes_are);
            turned = turned_by (record ue { op = Meeting op }) s (done_bar (Bars comm v)) t turn.Moved r.events r.did r.does (refl, refl, refl) r.tried (λ spot same. absurd (cc)) tt (
              let most = entered_left (record ue { machine = record ue.machine { local = v }; core = d; parity = values }) (begun_at ue.machine v tied.begun) in
                  let rest = falls ue.machine.setup ue.machine.rank ue.machine.local (Bars comm v) is in
                  let bound = ap (next_bound ue.machine.setup ue.machine.rank) is in
                  let less : slot_left ue.slot + rest_of ue.machine.setup ue.machine.rank v < ue_left (record ue { op = Meeting op }) =
                  unless_below (is_stopped ue.machine.local) _ _ on (omega (arith, rest, bound)) in
                  omega (arith, most, less),
              not_over (record ue { op = Meeting op }) on (not_ended (local_next ue.machine.local) at_call),
              After (after_by ue.machine.local v (Bars comm v) is refl) refl,
            ) r.rest.heap (drafts_here turn.Done r) (held_here turn.Done r);
          }
      done_by _ is = absurd (subst (IsBarOf op) is of_next)

      pub bar_done : Turns (record ue { op = Meeting op }) s (done_bar (local_next ue.machine.local)) t turn.Moved
      bar_done = done_by (local_next ue.machine.local) refl
