-- A turn of a UE is a turn of a worker.
use Rattle.std.proofs.Common.{◌≡◌, ◌⊎◌, inl, inr, ⊎_elim, ℕ, ◌%◌, ◌&&◌, ◌||◌, not, if◌then◌else◌, Bool, true, false, List, [], ◌∷◌, ◌++◌, Option, Some, None, is_none, option_map, refl, sym, ap, ◌∙◌, subst, take, length, arith, length-append}
use base.Stored.{gnil}
use Rattle.scc_base.specs.Heads.{MessageHead}
use Rattle.scc_base.specs.Setups.{SetupView}
use Rattle.scc_base.specs.declared.events.Event.{Event}
use Rattle.scc_base.specs.declared.events.Spot.{Spot}
use Rattle.scc_base.specs.declared.events.Turn.{Turn}
use Rattle.scc_base.specs.declared.events.Turn.TheVariants as turn
use Rattle.scc_proto.specs.Like.{Like}
use Rattle.scc_proto.specs.Ports.{Seat, Sight, record_in}
use Rattle.scc_proto.specs.Stages.{Idle, InFlight, Record}
use Rattle.scc_proto.specs.Views.{view_of}
use Rattle.scc_proto.specs.Words.{Memory}
use Rattle.scc_proto.proofs.Tests.{both_first, both_second}
use Rattle.put_get.specs.Accesses.{WereSteps}
use Rattle.put_get.specs.Cores.{MadeSteps}
use Rattle.sync_flags.specs.Tries.{Aim}
use Rattle.sync_flags.specs.Turns.{waits_at}
use Rattle.send_recv.specs.Ops.{RecvAt, SendAt}
use Rattle.barrier.specs.Flags.{IsParityOf}
use Rattle.barrier.specs.Stages.{BarAt}
use Rattle.script_machine.specs.Local.{Local, local_next}
use Rattle.script_machine.specs.Moves.{bytes_out, is_ended, is_stopped, length_asked}
use Rattle.script_machine.specs.Next.{Next}
use Rattle.script_machine.specs.Next.Next.{Ends, Goes, Posts, Sends, Recvs, Bars}
use Rattle.script_machine.proofs.StoppedLaws.{stopped_ends}
use Rattle.rcce_ue.specs.Standing.{IsBarOf, IsRecvOf, IsSendOf, OpStands, Tied}
use Rattle.rcce_ue.specs.Batches.{MovedOn, MovedOnce, UeMoves}
use Rattle.rcce_ue.specs.Turns.{UeTurned, aim_by, ue_aim}
use Rattle.rcce_ue.specs.Ues.{UeView}
use Rattle.rcce_ue.specs.declared.calls.Open.{Open}
use Rattle.rcce_ue.specs.declared.calls.Open.TheVariants.{Nothing, Sending, Receiving, Meeting}
use Rattle.rcce_ue.proofs.OtherPort.{tied_there}
use Rattle.chip_run.specs.Waiting.{BarWaits, RaiseWaits, SlotWaits, TakeWaits}
use Rattle.chip_run.specs.Turns.{HasMoved, HasWaited, InARow, IsDone, MoreMoved, OneMoved, OneTurn, TookBatch, TurnMeans, Turned, TurnsMoved}
use Rattle.chip_run.specs.Waiting.{Waits}
use Rattle.chip_run.specs.Wants.{Want}
use Rattle.chip_run.proofs.Looks.{waits_same}
use Rattle.rcce_ue.specs.Workers.{UeStands, slot_awaited, ue_behaviour, ue_seen, ue_want, want_at_end, want_next}
use Rattle.rcce_ue.proofs.BarLooks.{bar_waits}
use Rattle.waiting_laws.specs.Looks.{LookFailed}
use Rattle.waiting_laws.proofs.Messages.{recv_waits, send_waits, slot_waits}
use Rattle.waiting_laws.proofs.Waited.{rest_alike, turn_waited}

-- ---- what a UE waits for

-- by the send or the post that stands next
sends_wait : (s : SetupView) (memory : Memory) (me : ℕ) (rec : Record) (at_end : Want) (op : SendAt) (n : Next Local) → IsSendOf op n
    → SlotWaits (view_of s memory) me rec ⊎ ((op.posted ≡ false) × RaiseWaits s (view_of s memory) me op.to op.head rec) → Waits s (view_of s memory) me rec (want_next at_end n)
sends_wait s memory me rec at_end op Ends of_next waits = absurd of_next
sends_wait s memory me rec at_end op (Goes after) of_next waits = absurd of_next
sends_wait s memory me rec at_end op (Posts message after) of_next (inl slot) = slot
sends_wait s memory me rec at_end op (Posts message after) of_next (inr (own, raise)) = absurd (let posted = of_next.2 in cc (own, posted))
sends_wait s memory me rec at_end op (Sends to head bytes after) of_next (inl slot) = inl slot
sends_wait s memory me rec at_end op (Sends to head bytes after) of_next (inr (own, raise)) =
    inr (subst (λ (h : MessageHead). RaiseWaits s (view_of s memory) me to h rec) of_next.1 (subst (λ (k : ℕ). RaiseWaits s (view_of s memory) me k op.head rec) of_next.0 raise))
sends_wait s memory me rec at_end op (Recvs from head take_in refuse) of_next waits = absurd of_next
sends_wait s memory me rec at_end op (Bars comm after) of_next waits = absurd of_next

receives_wait : (s : SetupView) (memory : Memory) (me : ℕ) (rec : Record) (at_end : Want) (op : RecvAt) (n : Next Local) → IsRecvOf op n → TakeWaits s (view_of s memory) me op.from rec
    → Waits s (view_of s memory) me rec (want_next at_end n)
receives_wait s memory me rec at_end op Ends of_next waits = absurd of_next
receives_wait s memory me rec at_end op (Goes after) of_next waits = absurd of_next
receives_wait s memory me rec at_end op (Posts message after) of_next waits = absurd of_next
receives_wait s memory me rec at_end op (Sends to head bytes after) of_next waits = absurd of_next
receives_wait s memory me rec at_end op (Recvs from head take_in refuse) of_next waits = subst (λ (k : ℕ). TakeWaits s (view_of s memory) me k rec) of_next.0 waits
receives_wait s memory me rec at_end op (Bars comm after) of_next waits = absurd of_next

meets_wait : (s : SetupView) (memory : Memory) (me : ℕ) (rec : Record) (at_end : Want) (op : BarAt) (n : Next Local) → IsBarOf op n → BarWaits s (view_of s memory) me op.comm rec
    → Waits s (view_of s memory) me rec (want_next at_end n)
meets_wait s memory me rec at_end op Ends of_next waits = absurd of_next
meets_wait s memory me rec at_end op (Goes after) of_next waits = absurd of_next
meets_wait s memory me rec at_end op (Posts message after) of_next waits = absurd of_next
meets_wait s memory me rec at_end op (Sends to head bytes after) of_next waits = absurd of_next
meets_wait s memory me rec at_end op (Recvs from head take_in refuse) of_next waits = absurd of_next
meets_wait s memory me rec at_end op (Bars comm after) of_next waits = subst (λ (k : ℕ). BarWaits s (view_of s memory) me k rec) of_next.0 waits

-- where nothing is left
ended_is : (n : Next Local) → is_ended n ≡ true → n ≡ Ends
ended_is Ends is = refl
ended_is (Goes after) is = absurd (cc (is))
ended_is (Posts message after) is = absurd (cc (is))
ended_is (Sends to head bytes after) is = absurd (cc (is))
ended_is (Recvs from head take_in refuse) is = absurd (cc (is))
ended_is (Bars comm after) is = absurd (cc (is))

ends_wait : (s : SetupView) (memory : Memory) (me : ℕ) (rec : Record) (stopped : Bool) (slot : Option ℕ) (to : ℕ) (n : Next Local) → stopped ≡ false → slot ≡ Some to → n ≡ Ends → SlotWaits (view_of s memory) me rec
    → Waits s (view_of s memory) me rec (want_next (want_at_end (if stopped then None else slot)) n)
ends_wait s memory me rec stopped slot to n running full ends waits =
    let is : Want.Slot ≡ want_next (want_at_end (if stopped then None else slot)) n =
    λ i. want_next (want_at_end (if sym running i then None else sym full i)) (sym ends i) in
    subst (λ (w : Want). Waits s (view_of s memory) me rec w) is waits

not_of : (b : Bool) → not b ≡ true → b ≡ false
not_of true is = absurd (cc (is))
not_of false is = refl

none_either : (b : Bool) (o : Option ℕ) → o ≡ None → (if b then None else o) ≡ None
none_either true o none = refl
none_either false o none = none

if_some : (b : Bool) (o : Option Aim) (aim : Aim) → (if b then o else None) ≡ Some aim → (b ≡ true) × (o ≡ Some aim)
if_some true o aim is = (refl, is)
if_some false o aim is = absurd (cc (is))

-- ---- a turn that waits

module _ (stepped : List Event → Event → Type 0) (x : UeView) (s t : Sight) (now : UeView) (spot : Spot) (tied : Tied x s) (later : Tied now t) (turned : UeTurned x s now t (turn.Waiting spot))
    (steps : WereSteps stepped s.events turned.events) where
  alike : Like (record_in s) (record_in t)
  alike = rest_alike (record_in s) (record_in t) turned.means.2

  parity : IsParityOf (record_in s) now.parity
  parity comm low = later.parity_is comm low ∙ ap (λ (n : ℕ). n % 2) (sym (alike.flips comm))

  module _ (memory : Memory) (records : ℕ → Record) (aim : Aim) (look : LookFailed s.seat memory records (record_in s) aim) where
    abbrev Here : Record → Type 0
    Here rec = Waits s.seat.setup (view_of s.seat.setup memory) s.seat.rank rec (ue_want x)

    same : Here (record_in s) → Here (records s.seat.rank)
    same waits = waits_same s.seat.setup (view_of s.seat.setup memory) s.seat.rank (record_in s) (records s.seat.rank) look.like (ue_want x) waits

    abbrev at_end : Want
    at_end = want_at_end (slot_awaited x)

    waits_by : (op : Open) → OpStands s x.core x.slot x.parity x.inbox op (local_next x.machine.local) → aim_by s.seat x.machine.local x.slot now.parity op ≡ Some aim → Here (records s.seat.rank)
    waits_by Nothing (between, none) is =
        let (over, aims) = if_some (not (is_stopped x.machine.local) && is_ended (local_next x.machine.local)) _ aim is in
        let ends : local_next x.machine.local ≡ Ends = ended_is (local_next x.machine.local) (both_second (not (is_stopped x.machine.local)) (is_ended (local_next x.machine.local)) over) in
        let running : is_stopped x.machine.local ≡ false = not_of (is_stopped x.machine.local) (both_first (not (is_stopped x.machine.local)) (is_ended (local_next x.machine.local)) over) in
        let slot : SlotWaits (view_of s.seat.setup memory) s.seat.rank (record_in s) = slot_waits s.seat memory records look.agrees (record_in s) look.like x.slot aim tied.slot_is between.stage aims look.tells in
        same (ends_wait s.seat.setup memory s.seat.rank (record_in s) (is_stopped x.machine.local) x.slot.to slot.post.to (local_next x.machine.local) running
        (tied.slot_is.to ∙ ap (option_map (λ (post : InFlight). post.to)) slot.is_posted) ends slot)
    waits_by (Sending op) (stands, of_next) is =
        ⊎_elim
        (λ (slot : SlotWaits (view_of s.seat.setup memory) s.seat.rank (record_in s)).
        same (sends_wait s.seat.setup memory s.seat.rank (record_in s) at_end op (local_next x.machine.local) of_next (inl slot)))
        (λ (raise : (op.posted ≡ false) × RaiseWaits s.seat.setup (view_of s.seat.setup memory) s.seat.rank op.to op.head (records s.seat.rank)).
        sends_wait s.seat.setup memory s.seat.rank (records s.seat.rank) at_end op (local_next x.machine.local) of_next (inr raise))
        (send_waits s.seat memory records look.agrees (record_in s) look.like x.core op x.slot (bytes_out (local_next x.machine.local)) aim look.tells stands is)
    waits_by (Receiving op) (stands, of_next) is =
        receives_wait s.seat.setup memory s.seat.rank (records s.seat.rank) at_end op (local_next x.machine.local) of_next
        (recv_waits s.seat memory records look.agrees (record_in s) look.like x.core op (take (length_asked (local_next x.machine.local)) x.inbox) aim look.tells stands is)
    waits_by (Meeting op) (stands, of_next) is =
        meets_wait s.seat.setup memory s.seat.rank (records s.seat.rank) at_end op (local_next x.machine.local) of_next
        (bar_waits s.seat memory records (record_in s) look.like op.comm now.parity aim look.tells stands.below stands.present parity op.stage stands.at is)

    waits_here : ue_aim s.seat x now.parity ≡ Some aim → Here (records s.seat.rank)
    waits_here is = waits_by x.op tied.stands is

  pub has_waited : HasWaited ue_behaviour stepped s.seat.setup s.seat.rank s.events turned.events x now
  has_waited =
      turn_waited stepped (ue_aim s.seat x now.parity) s t turned.events spot turned.did steps turned.tried (turned.rests spot refl) turned.means.2 ue_behaviour x now (ue_want x) refl
      (record { script = turned.program.0; local = ap (λ (y : UeView). y.machine.local) turned.means.0 })
      (λ i. record {
        want = ap ue_want turned.means.0 i;
        left = turned.means.1 i;
        is_stopped = ap (λ (y : UeView). is_stopped y.machine.local) turned.means.0 i;
      })
      (λ memory records aim look is. waits_here memory records aim look is)

-- ---- a turn of a UE that is over

no_more : (xs ys : List Event) → xs ≡ xs ++ ys → ys ≡ []
no_more xs [] is = refl
no_more xs (e ∷ es) is = absurd (let long : length xs ≡ length (xs ++ e ∷ es) = ap length is in omega (arith, long, length-append xs (e ∷ es)))

is_none_of : {A : Type 0} (o : Option A) → is_none o ≡ true → o ≡ None
is_none_of None is = refl
is_none_of (Some y) is = absurd (cc (is))

-- nothing is open where nothing stands next
idle_by : (x : UeView) (s : Sight) (op : Open) (n : Next Local) → n ≡ Ends → OpStands s x.core x.slot x.parity x.inbox op n → (record_in s).stage ≡ Idle
idle_by x s Nothing n ends stands = stands.0.stage
idle_by x s (Sending op) n ends stands = absurd (subst (λ (y : Next Local). IsSendOf op y) ends stands.1)
idle_by x s (Receiving op) n ends stands = absurd (subst (λ (y : Next Local). IsRecvOf op y) ends stands.1)
idle_by x s (Meeting op) n ends stands = absurd (subst (λ (y : Next Local). IsBarOf op y) ends stands.1)

over_by : (stopped ended empty : Bool) → (stopped || (ended && empty)) ≡ true → (stopped ≡ true) ⊎ ((ended ≡ true) × (empty ≡ true))
over_by true ended empty is = inl refl
over_by false true true is = inr (refl, refl)
over_by false true false is = absurd (cc (is))
over_by false false empty is = absurd (cc (is))

module _ (x : UeView) (s t : Sight) (now : UeView) (tied : Tied x s) (turned : UeTurned x s now t turn.Done) where
  over : (is_stopped x.machine.local ≡ true) ⊎ ((is_ended (local_next x.machine.local) ≡ true) × (is_none x.slot.to ≡ true))
  over = over_by (is_stopped x.machine.local) (is_ended (local_next x.machine.local)) (is_none x.slot.to) turned.means.2

  ends : local_next x.machine.local ≡ Ends
  ends = ⊎_elim
      (λ (stopped : is_stopped x.machine.local ≡ true). stopped_ends x.machine.local stopped)
      (λ (both : (is_ended (local_next x.machine.local) ≡ true) × (is_none x.slot.to ≡ true)). ended_is (local_next x.machine.local) both.0)
      over

  -- it wants nothing
  wants_nothing : ue_want x ≡ Want.Nothing
  wants_nothing =
      let no_slot : slot_awaited x ≡ None = ⊎_elim
      (λ (stopped : is_stopped x.machine.local ≡ true). ap (λ (b : Bool). if b then None else x.slot.to) stopped)
      (λ (both : (is_ended (local_next x.machine.local) ≡ true) × (is_none x.slot.to ≡ true)).
      none_either (is_stopped x.machine.local) x.slot.to (is_none_of x.slot.to both.1))
      over in
      λ i. want_next (want_at_end (no_slot i)) (ends i)

  pub is_done : IsDone ue_behaviour s.seat.setup s.seat.rank s.events turned.events x now
  unfolding record_in
  is_done = record {
    stays = record { script = turned.program.0; local = ap (λ (y : UeView). y.machine.local) turned.means.0 };
    seen = ap ue_seen turned.means.0;
    nothing = no_more s.events turned.events (ap (λ (y : Sight). y.events) (sym turned.means.1 ∙ turned.did.continues));
    over = record { ends = wants_nothing; idle = idle_by x s x.op (local_next x.machine.local) ends tied.stands };
  }

-- ---- the turn

-- a turn that moved
has_moved : (x : UeView) (s t : Sight) (now : UeView) → UeTurned x s now t turn.Moved → HasMoved ue_behaviour s.seat.setup s.seat.rank x now
has_moved x s t now turned = record { moves = record { script = turned.program.0; went = turned.means.2 }; less = turned.means.0 }

means_by : (stepped : List Event → Event → Type 0) (x : UeView) (s t : Sight) (now : UeView) (answer : Turn) (tied : Tied x s) (later : Tied now t) (turned : UeTurned x s now t answer)
    → ((spot : Spot) → waits_at answer ≡ Some spot → WereSteps stepped s.events turned.events) → TurnMeans ue_behaviour stepped s.seat.setup s.seat.rank s.events turned.events x now answer
means_by stepped x s t now turn.Moved tied later turned steps = has_moved x s t now turned
means_by stepped x s t now (turn.Waiting spot) tied later turned steps = has_waited stepped x s t now spot tied later turned (steps spot refl)
means_by stepped x s t now turn.Done tied later turned steps = is_done x s t now tied turned

-- a turn of a UE is one of a worker
pub ue_turned : (stepped : Seat → List Event → Event → Type 0) (x : UeView) (s t : Sight) (now : UeView) (answer : Turn) → Tied x s → Tied now t → UeTurned x s now t answer
    → ((spot : Spot) → waits_at answer ≡ Some spot → MadeSteps stepped s t) → Turned ue_behaviour (stepped s.seat) x s now t answer
ue_turned stepped x s t now answer tied later turned steps = record {
  events = turned.events;
  did = turned.did;
  means = means_by (stepped s.seat) x s t now answer tied later turned (λ spot is. steps spot is turned.events turned.did);
}

-- and so are turns in a row
moved_on : (stepped : List Event → Event → Type 0) (x : UeView) (s t : Sight) (now : UeView) → UeTurned x s now t turn.Moved → Turned ue_behaviour stepped x s now t turn.Moved
moved_on stepped x s t now turned = record { events = turned.events; did = turned.did; means = has_moved x s t now turned }

ue_moves : (stepped : List Event → Event → Type 0) (x : UeView) (s t : Sight) (now : UeView) → UeMoves x s now t → TurnsMoved ue_behaviour stepped x s now t
ue_moves stepped x s t now (MovedOnce _ _ turned) = OneMoved now t (moved_on stepped x s t now turned)
ue_moves stepped x s t now (MovedOn mid _ m _ before there turned) =
    MoreMoved mid now m t (ue_moves stepped x s m mid before) (moved_on stepped mid m t now turned)

-- turns in a row that moved
pub ue_in_a_row : (stepped : List Event → Event → Type 0) (x : UeView) (s t : Sight) (now : UeView) → UeMoves x s now t → TookBatch ue_behaviour stepped x s now t turn.Moved
ue_in_a_row stepped x s t now moves = InARow (ue_moves stepped x s t now moves) refl

-- one turn, of a UE that stands as it stood
pub ue_once : (stepped : Seat → List Event → Event → Type 0) (x mid now : UeView) (s m t : Sight) (answer : Turn) → mid ≡ x → m ≡ s → Tied mid m → Tied now t → UeTurned mid m now t answer
    → ((spot : Spot) → waits_at answer ≡ Some spot → MadeSteps stepped m t) → TookBatch ue_behaviour (stepped s.seat) x s now t answer
ue_once stepped x mid now s m t answer same there tied later turned steps =
    subst (λ (y : Sight). TookBatch ue_behaviour (stepped y.seat) x y now t answer) there
    (subst (λ (y : UeView). TookBatch ue_behaviour (stepped m.seat) y m now t answer) same (OneTurn (ue_turned stepped mid m t now answer tied later turned steps)))

-- where a UE fits every port at which its rank has these events, it stands there
pub ue_stands : (x : UeView) (s : SetupView) (rank : ℕ) (events : List Event) → ((sight : Sight) → sight.seat.setup ≡ s → sight.seat.rank ≡ rank → sight.events ≡ events → Tied x sight) → UeStands x s rank events
unfolding record_in
ue_stands x s rank events tied = record {
  tied = tied;
  hands = (tied (record { seat = record { setup = s; rank = rank; mark = gnil; rest = gnil; hold = 0 }; events = events }) refl refl refl).hands;
}

-- where a UE fits one port it fits every port at which its rank has these events
pub stands_there : (now : UeView) (t : Sight) → Tied now t → UeStands now t.seat.setup t.seat.rank t.events
stands_there now t tied = ue_stands now t.seat.setup t.seat.rank t.events
    (λ sight setup rank events.
    subst (Tied now)
    (λ i. record {
      seat = record { setup = sym setup i; rank = sym rank i; mark = sight.seat.mark; rest = sight.seat.rest; hold = sight.seat.hold };
      events = sym events i;
    })
    (tied_there t sight.seat.mark sight.seat.rest sight.seat.hold now tied))
