-- A turn of a UE that stands at no call: a statement of its own, the slot behind the end, or nothing.
use Rattle.std.proofs.Common.{◌≡◌, ℕ, ◌+◌, ◌<◌, ◌&&◌, ◌||◌, not, Bool, true, false, cond, List, [], Option, Some, None, refl, sym, ap, ◌∙◌, subst, arith, inl, inr}
use Rattle.std.specs.Prelude.{is_none}
use Rattle.scc_base.specs.declared.events.Event.{Event}
use Rattle.scc_base.specs.declared.events.Spot.{Spot}
use Rattle.scc_base.specs.declared.events.Turn.{Turn}
use Rattle.scc_base.specs.declared.events.Turn.TheVariants as turn
use Rattle.scc_base.specs.declared.layouts.Layout.{Layout}
use Rattle.scc_base.specs.declared.layouts.Layout.TheVariants.{LineFlags, BitFlags}
use Rattle.scc_base.specs.Setups.{host_of}
use Rattle.scc_proto.specs.Ports.{Sight, record_in}
use Rattle.scc_proto.proofs.PortLaws.{did_nothing, seat_kept}
use Rattle.put_get.specs.Cores.{Private}
use Rattle.sync_flags.specs.Tries.{Aim, NoTry, Tried}
use Rattle.sync_flags.specs.Turns.{waits_at}
use Rattle.send_recv.specs.Ops.{SlotAt, slot_left, slot_left_by}
use Rattle.send_recv.specs.Sending.{IsSameOrEmpty, SlotDoes, SlotStands, SlotTurned, slot_spot_by}
use Rattle.send_recv.specs.Steps.{moves_on}
use Rattle.send_recv.specs.Tries.{aim_at}
use Rattle.send_recv.specs.Turns.{NoLoad}
use Rattle.send_recv.specs.Ranks.{holding_slot}
use Rattle.plain_meaning.specs.Collectives.{start_of_rank}
use Rattle.script_machine.specs.Local.{Local, local_next}
use Rattle.script_machine.specs.Moves.{is_ended, is_stopped, went}
use Rattle.script_machine.specs.Next.{Next, is_going}
use Rattle.script_machine.specs.Next.Next.{Ends, Goes, Posts, Sends, Recvs, Bars}
use Rattle.script_machine.proofs.StoppedLaws.{stopped_ends}
use Rattle.rcce_ue.specs.Left.{ue_left, rest_of}
use Rattle.rcce_ue.specs.Standing.{IsFree, IsNoCall, Tied, keeping}
use Rattle.rcce_ue.specs.Turns.{AloneDoes, After, IsUeStill, Turns, Within, slot_aim}
use Rattle.rcce_ue.specs.Ues.{UeView, at_next_call}
use Rattle.rcce_ue.specs.declared.calls.Open.TheVariants.{Nothing}
use Rattle.rcce_ue.proofs.EnterLemmas.{entered_left, entered_tied, holds_none}
use Rattle.rcce_ue.proofs.KeepLemmas.{begun_at, after_by, kept_tied, no_try, not_over, parity_kept, turned_by, unless_below, unless_falls, unless_one}
use Rattle.rcce_ue.proofs.MeasureLemmas.{falls}
use Rattle.rcce_ue.proofs.PathLemmas.{goes_on, stood_went}
use Rattle.rcce_ue.proofs.RecvTurns.{none_stored}

-- where no call stands next and nothing of the rank's own, nothing stands next
ends_here : (n : Next Local) → IsNoCall n → is_going n ≡ false → n ≡ Ends
ends_here Ends none idle = refl
ends_here (Goes after) none idle = absurd (cc)
ends_here (Posts message after) none idle = absurd none
ends_here (Sends to head bytes after) none idle = absurd none
ends_here (Recvs from head take_in refuse) none idle = absurd none
ends_here (Bars comm after) none idle = absurd none

-- the aim of a turn that tries for nothing, and of one that tries for the slot
aim_none : (a b : Bool) (aim : Option Aim) → b ≡ false → cond (not a && b) aim None ≡ None
aim_none true b aim is = refl
aim_none false true aim is = absurd (cc)
aim_none false false aim is = refl

aim_stopped : (a b : Bool) (aim : Option Aim) → a ≡ true → cond (not a && b) aim None ≡ None
aim_stopped true b aim is = refl
aim_stopped false b aim is = absurd (cc)

aim_of_slot : (a b : Bool) (aim : Option Aim) → a ≡ false → b ≡ true → cond (not a && b) aim None ≡ aim
aim_of_slot true b aim one two = absurd (cc)
aim_of_slot false true aim one two = refl
aim_of_slot false false aim one two = absurd (cc)

-- an empty slot tries for nothing
no_spot : (layout : Layout) (own : ℕ) (seen : Bool) → slot_spot_by layout own None seen ≡ None
no_spot LineFlags own true = refl
no_spot LineFlags own false = refl
no_spot BitFlags own true = refl
no_spot BitFlags own false = refl

slot_tries : (layout : Layout) (own : ℕ) (to : Option ℕ) (seen : Bool) (events : List Event) (spot : Spot) → Tried (aim_at layout (slot_spot_by layout own to seen)) events (Some spot) → is_none to ≡ false
slot_tries layout own None seen events spot tried = absurd (no_try events spot (subst (λ (o : Option Spot). Tried (aim_at layout o) events (Some spot)) (no_spot layout own seen) tried))
slot_tries layout own (Some to) seen events spot tried = refl

slot_full : (to : Option ℕ) (seen : Bool) (n : ℕ) → slot_left_by to seen ≡ n + 1 → is_none to ≡ false
slot_full None seen n is = absurd (omega (arith, is))
slot_full (Some to) seen n is = refl

over_full : (a b c : Bool) → a ≡ false → c ≡ false → (a || (b && c)) ≡ false
over_full true b c one two = absurd (cc)
over_full false true c one two = two
over_full false false c one two = refl

over_both : (a b c : Bool) → b ≡ true → c ≡ true → (a || (b && c)) ≡ true
over_both true b c one two = refl
over_both false true c one two = two
over_both false false c one two = absurd (cc)

over_first : (a b : Bool) → a ≡ true → (a || b) ≡ true
over_first true b is = refl
over_first false b is = absurd (cc)

-- what a turn does at no call
module _ (ue : UeView) (s : Sight) (done : Bool) where
  does_nothing : (a b : Bool) → b ≡ false → AloneDoes ue s (not a && b) done s ue.core
  does_nothing true b is = (refl, refl)
  does_nothing false true is = absurd (cc)
  does_nothing false false is = (refl, refl)

  does_stopped : (a b : Bool) → a ≡ true → AloneDoes ue s (not a && b) done s ue.core
  does_stopped true b is = (refl, refl)
  does_stopped false b is = absurd (cc)

  does_slot : (t : Sight) (d : Private) (a b : Bool) → a ≡ false → b ≡ true → SlotDoes (holding_slot s ue.core ue.slot) done t d → AloneDoes ue s (not a && b) done t d
  does_slot t d true b one two does = absurd (cc)
  does_slot t d false true one two does = does
  does_slot t d false false one two does = absurd (cc)

module _ (ue : UeView) (s : Sight) (tied : Tied (record ue { op = Nothing }) s) where
  pub free : IsFree s (keeping ue.core ue.slot ue.parity)
  free = record {
    messages = record { between = tied.stands.0; hands = holds_none s.seat.setup.layout (record_in s).held tied.hands; slot_stands = tied.slot_is };
    parity = tied.parity_is;
  }

  -- the UE after a statement of its own
  abbrev pub gone_ue : Next Local → UeView
  gone_ue n = at_next_call (record ue { machine = record ue.machine { local = went n ue.machine.local } })

  goes_by : (n : Next Local) → local_next ue.machine.local ≡ n → is_going n ≡ true → Turns (record ue { op = Nothing }) s (gone_ue n) s turn.Moved
  goes_by Ends is going = absurd (cc)
  goes_by (Goes v) is going =
      let on : is_stopped ue.machine.local ≡ false = goes_on ue.machine.local (λ same. let both : Goes v ≡ Ends = sym is ∙ same in absurd (cc)) in
      let open_still : is_ended (local_next ue.machine.local) ≡ false = ap (λ (n : Next Local). is_ended n) is in
      record {
        tied = entered_tied (record ue { machine = record ue.machine { local = v } }) s tied.last (begun_at ue.machine v tied.begun) tied.setup_is tied.rank_is
            (stood_went (start_of_rank ue.machine.script ue.machine.rank) (record_in s) ue.machine.local tied.last (record_in s) tied.stood on v is refl)
            free tied.hands tied.room tied.posted_is tied.target tied.sent_is tied.bytes_are;
        turned = turned_by (record ue { op = Nothing }) s (gone_ue (Goes v)) s turn.Moved [] (did_nothing s) (does_nothing (record ue { op = Nothing }) s true (is_stopped ue.machine.local) (is_ended (local_next ue.machine.local)) open_still) (refl, refl, refl) (NoTry (aim_none (is_stopped ue.machine.local) (is_ended (local_next ue.machine.local)) _ open_still) refl) (λ spot same. absurd (cc)) tt (
          let most = entered_left (record ue { machine = record ue.machine { local = v } }) (begun_at ue.machine v tied.begun) in
              let rest = falls ue.machine.setup ue.machine.rank ue.machine.local (Goes v) is in
              let less : slot_left ue.slot + rest_of ue.machine.setup ue.machine.rank v < ue_left (record ue { op = Nothing }) =
              unless_below (is_stopped ue.machine.local) _ _ on (omega (arith, rest)) in
              omega (arith, most, less),
          not_over (record ue { op = Nothing }) on open_still,
          After (after_by ue.machine.local v (Goes v) is refl) refl,
        ) refl (none_stored s.seat.setup ue.core [] refl) (NoLoad refl);
      }
  goes_by (Posts message v) is going = absurd (cc)
  goes_by (Sends to head bytes v) is going = absurd (cc)
  goes_by (Recvs from head take_in refuse) is going = absurd (cc)
  goes_by (Bars comm v) is going = absurd (cc)

  pub alone_goes : is_going (local_next ue.machine.local) ≡ true → Turns (record ue { op = Nothing }) s (gone_ue (local_next ue.machine.local)) s turn.Moved
  alone_goes going = goes_by (local_next ue.machine.local) refl going

  -- a UE that a mismatch stopped
  pub stopped_done : is_stopped ue.machine.local ≡ true → Turns (record ue { op = Nothing }) s (record ue { op = Nothing }) s turn.Done
  stopped_done stopped = record {
    tied = tied;
    turned = turned_by (record ue { op = Nothing }) s (record ue { op = Nothing }) s turn.Done [] (did_nothing s) (does_stopped (record ue { op = Nothing }) s true (is_stopped ue.machine.local) (is_ended (local_next ue.machine.local)) stopped) (refl, refl, refl) (NoTry (aim_stopped (is_stopped ue.machine.local) (is_ended (local_next ue.machine.local)) _ stopped) refl) (λ spot same. absurd (cc)) tt
        (refl, refl, over_first (is_stopped ue.machine.local) _ stopped, ap (λ (n : Next Local). is_going n) (stopped_ends ue.machine.local stopped)) refl (none_stored s.seat.setup ue.core [] refl) (NoLoad refl);
  }

  -- a UE of which at most its slot is left
  module _ (idle : is_going (local_next ue.machine.local) ≡ false) (on : is_stopped ue.machine.local ≡ false) where
    ended : is_ended (local_next ue.machine.local) ≡ true
    ended = ap (λ (n : Next Local). is_ended n) (ends_here (local_next ue.machine.local) tied.stands.1 idle)

    module _ (t : Sight) (d : Private) (now : SlotAt) (slot : SlotStands t.seat (record_in t) now) where
      abbrev pub slot_ue : UeView
      slot_ue = record ue { core = d; slot = now; op = Nothing }

      module _ (answer : Turn) (r : SlotTurned (holding_slot s ue.core ue.slot) (holding_slot t d now) answer) where
        tried_slot : Tried (slot_aim s.seat ue.machine.local ue.slot) r.events (waits_at answer)
        tried_slot = subst (λ (aim : Option Aim). Tried aim r.events (waits_at answer)) (sym (aim_of_slot (is_stopped ue.machine.local) (is_ended (local_next ue.machine.local)) _ on ended)) r.tried

        slot_did : AloneDoes (record ue { op = Nothing }) s (not (is_stopped ue.machine.local) && is_ended (local_next ue.machine.local)) (moves_on answer) t d
        slot_did = does_slot (record ue { op = Nothing }) s (moves_on answer) t d (is_stopped ue.machine.local) (is_ended (local_next ue.machine.local)) on ended r.does

        kept : IsSameOrEmpty ue.slot now → Tied slot_ue t
        kept same =
            kept_tied (record ue { op = Nothing }) s t tied (seat_kept s r.events t r.did) on r.calls r.rest.hold d now ue.parity Nothing ue.inbox slot same
            (parity_kept (record_in s) (record_in t) ue.parity r.rest.flips tied.parity_is) tied.room (record { stage = r.stage ∙ tied.stands.0.stage; empty = r.buffer }, tied.stands.1)

      pub slot_moved : SlotTurned (holding_slot s ue.core ue.slot) (holding_slot t d now) turn.Moved → Turns (record ue { op = Nothing }) s slot_ue t turn.Moved
      slot_moved r =
          let fewer = r.means.0 in
          record {
            tied = kept turn.Moved r r.means.1;
            turned = turned_by (record ue { op = Nothing }) s slot_ue t turn.Moved r.events r.did (slot_did turn.Moved r) (refl, refl, refl) (tried_slot turn.Moved r) r.rests r.only (
              unless_falls (is_stopped ue.machine.local) _ _ on (omega (arith, fewer)),
              over_full (is_stopped ue.machine.local) (is_ended (local_next ue.machine.local)) (is_none ue.slot.to) on (slot_full ue.slot.to ue.slot.seen (slot_left now) fewer),
              Within refl (unless_one (is_stopped ue.machine.local) _ _ on (omega (arith, fewer))),
            ) r.rest.heap (none_stored s.seat.setup ue.core r.events r.no_drafts) r.held;
          }

      pub slot_waited : (spot : Spot) → SlotTurned (holding_slot s ue.core ue.slot) (holding_slot t d now) (turn.Waiting spot) → Turns (record ue { op = Nothing }) s slot_ue t (turn.Waiting spot)
      slot_waited spot r =
          let still : IsUeStill (record ue { op = Nothing }) slot_ue = (λ i. record ue { core = d; slot = r.means i; op = Nothing }) in
          record {
            tied = kept (turn.Waiting spot) r (inr (ap (λ (x : SlotAt). x.to) r.means));
            turned = turned_by (record ue { op = Nothing }) s slot_ue t (turn.Waiting spot) r.events r.did (slot_did (turn.Waiting spot) r) (refl, refl, refl) (tried_slot (turn.Waiting spot) r) r.rests r.only (
              still,
              ap ue_left still,
              record { stage = r.stage; post = r.post (ap (λ (x : SlotAt). x.to) r.means); rest = r.rest; calls = r.calls },
              over_full (is_stopped ue.machine.local) (is_ended (local_next ue.machine.local)) (is_none ue.slot.to) on
                  (slot_tries s.seat.setup.layout (host_of s.seat.setup.hosts s.seat.rank) ue.slot.to ue.slot.seen r.events spot r.tried),
              idle,
            ) r.rest.heap (none_stored s.seat.setup ue.core r.events r.no_drafts) r.held;
          }

      pub slot_done : SlotTurned (holding_slot s ue.core ue.slot) (holding_slot t d now) turn.Done → Turns (record ue { op = Nothing }) s slot_ue t turn.Done
      slot_done r =
          let nothing = r.nothing refl in
          record {
            tied = kept turn.Done r (inl (ap (λ (x : SlotAt). x.to) r.means.1 ∙ r.means.0));
            turned = turned_by (record ue { op = Nothing }) s slot_ue t turn.Done r.events r.did (slot_did turn.Done r) (refl, refl, refl) (tried_slot turn.Done r) r.rests r.only (
              (λ i. record ue { core = nothing.1 i; slot = r.means.1 i; op = Nothing }),
              nothing.0,
              over_both (is_stopped ue.machine.local) (is_ended (local_next ue.machine.local)) (is_none ue.slot.to) ended (ap (λ (o : Option ℕ). is_none o) r.means.0),
              idle,
            ) r.rest.heap (none_stored s.seat.setup ue.core r.events r.no_drafts) r.held;
          }

      -- a turn of the slot, whatever it answers
      pub slot_turns : (answer : Turn) → SlotTurned (holding_slot s ue.core ue.slot) (holding_slot t d now) answer → Turns (record ue { op = Nothing }) s slot_ue t answer
      slot_turns turn.Moved r = slot_moved r
      slot_turns (turn.Waiting spot) r = slot_waited spot r
      slot_turns turn.Done r = slot_done r
