-- Turns of a UE in a row that make no try.
use Rattle.std.proofs.Common.{◌≡◌, ◌<◌, Bool, true, false, List, Option, Some, None, is_none, refl, sym, ◌∙◌, subst, arith}
use Rattle.scc_base.specs.declared.events.Event.{Event}
use Rattle.scc_base.specs.declared.events.Spot.{Spot}
use Rattle.scc_base.specs.declared.events.Turn.{Turn}
use Rattle.scc_base.specs.declared.events.Turn.TheVariants as turn
use Rattle.scc_base.specs.declared.layouts.Layout.{Layout}
use Rattle.scc_proto.specs.Ports.{Seat, Sight}
use Rattle.send_recv.specs.Ops.{SlotAt}
use Rattle.send_recv.specs.Receiving.{recv_spot}
use Rattle.send_recv.specs.Sending.{send_spot}
use Rattle.send_recv.specs.Tries.{aim_at}
use Rattle.sync_flags.specs.Tries.{Aim, Tried, NoTry, Failed, Fruitful}
use Rattle.sync_flags.specs.Turns.{waits_at}
use Rattle.script_machine.specs.Local.{Local, local_next}
use Rattle.rcce_ue.specs.Left.{ue_left}
use Rattle.rcce_ue.specs.Standing.{OpStands, Tied}
use Rattle.rcce_ue.specs.Batches.{UeMoves, MovedOnce, MovedOn, makes_no_try}
use Rattle.rcce_ue.specs.Turns.{UeTurned, aim_by, is_over, ue_aim}
use Rattle.rcce_ue.specs.Ues.{UeView}
use Rattle.rcce_ue.specs.declared.calls.Open.{Open}
use Rattle.rcce_ue.specs.declared.calls.Open.TheVariants.{Nothing, Sending, Receiving, Meeting}
use Rattle.rcce_ue.proofs.KeepLemmas.{not_at_end, not_ended, not_over}
use Rattle.rcce_ue.proofs.PathLemmas.{goes_on}
use Rattle.rcce_ue.proofs.RecvTurns as receive
use Rattle.rcce_ue.proofs.SendTurns as send

-- a turn that makes no try does not wait
no_wait : (aim : Option Aim) (events : List Event) (waits : Option Spot) → aim ≡ None → Tried aim events waits → waits ≡ None
no_wait aim events waits none (NoTry is same) = same
no_wait aim events waits none (Failed at is one all same) = let both : None ≡ Some at = sym none ∙ is in absurd (cc)
no_wait aim events waits none (Fruitful at is one all same) = same

none_aim : (layout : Layout) (spot : Option Spot) → is_none spot ≡ true → aim_at layout spot ≡ None
none_aim layout None is = refl
none_aim layout (Some spot) is = absurd (cc)

aim_none : (seat : Seat) (u : Local) (slot : SlotAt) (parity : List Bool) (op : Open) → makes_no_try seat slot op ≡ true → aim_by seat u slot parity op ≡ None
aim_none seat u slot parity Nothing sure = absurd (cc)
aim_none seat u slot parity (Sending op) sure = none_aim seat.setup.layout (send_spot seat op slot) sure
aim_none seat u slot parity (Receiving op) sure = none_aim seat.setup.layout (recv_spot seat op) sure
aim_none seat u slot parity (Meeting op) sure = absurd (cc)

-- a UE that is in the midst of a message is not over
midst : (ue : UeView) (s : Sight) (slot : SlotAt) (op : Open) → makes_no_try s.seat slot op ≡ true → OpStands s ue.core ue.slot ue.parity ue.inbox op (local_next ue.machine.local) → is_over ue ≡ false
midst ue s slot Nothing sure stands = absurd (cc)
midst ue s slot (Sending op) sure stands =
    let call = send.calls_next op (local_next ue.machine.local) stands.1 in
    not_over ue (goes_on ue.machine.local (not_at_end (local_next ue.machine.local) call)) (not_ended (local_next ue.machine.local) call)
midst ue s slot (Receiving op) sure stands =
    let call = receive.calls_next op (local_next ue.machine.local) stands.1 in
    not_over ue (goes_on ue.machine.local (not_at_end (local_next ue.machine.local) call)) (not_ended (local_next ue.machine.local) call)
midst ue s slot (Meeting op) sure stands = absurd (cc)

-- so a turn of a message that makes no try moves
sure_moves : (ue : UeView) (s : Sight) (now : UeView) (t : Sight) (answer : Turn) → Tied ue s → makes_no_try s.seat ue.slot ue.op ≡ true → UeTurned ue s now t answer → answer ≡ turn.Moved
sure_moves ue s now t turn.Moved tied sure turned = refl
sure_moves ue s now t (turn.Waiting spot) tied sure turned =
    let none : waits_at (turn.Waiting spot) ≡ None =
    no_wait (ue_aim s.seat ue now.parity) turned.events (waits_at (turn.Waiting spot)) (aim_none s.seat ue.machine.local ue.slot now.parity ue.op sure) turned.tried in
    absurd (cc)
sure_moves ue s now t turn.Done tied sure turned =
    let both : false ≡ true = sym (midst ue s ue.slot ue.op sure tied.stands) ∙ turned.means.2 in
    absurd (cc)

-- turns in a row behind others
pub moves_then : (ue mid : UeView) (s m : Sight) → UeMoves ue s mid m → Tied mid m → (now : UeView) (t : Sight) → UeMoves mid m now t → UeMoves ue s now t
moves_then ue mid s m before tied now t (MovedOnce _ _ turned) = MovedOn mid now m t before tied turned
moves_then ue mid s m before tied now t (MovedOn half _ h _ first there turned) = MovedOn half now h t (moves_then ue mid s m before tied half h first) there turned

-- fewer turns are left behind each
pub moves_fall : (ue : UeView) (s : Sight) (now : UeView) (t : Sight) → UeMoves ue s now t → ue_left now < ue_left ue
moves_fall ue s now t (MovedOnce _ _ turned) = turned.means.0
moves_fall ue s now t (MovedOn mid _ m _ before there turned) =
    let first = moves_fall ue s mid m before in
    let last = turned.means.0 in
    omega (arith, first, last)

-- a turn that makes no try, of a UE that stands as it stood
sure_turned : (cur mid now : UeView) (s m t : Sight) (answer : Turn) → mid ≡ cur → m ≡ s → Tied cur s → makes_no_try s.seat cur.slot cur.op ≡ true → UeTurned mid m now t answer → UeTurned cur s now t turn.Moved
sure_turned cur mid now s m t answer same there tied sure turned =
    let here : UeTurned cur s now t answer = subst (λ (x : UeView). UeTurned x s now t answer) same (subst (λ (y : Sight). UeTurned mid y now t answer) there turned) in
    subst (λ (a : Turn). UeTurned cur s now t a) (sure_moves cur s now t answer tied sure here) here

pub sure_on : (first cur mid now : UeView) (start s m t : Sight) (answer : Turn) → mid ≡ cur → m ≡ s → Tied cur s → makes_no_try s.seat cur.slot cur.op ≡ true → UeTurned mid m now t answer
    → UeMoves first start cur s → UeMoves first start now t
sure_on first cur mid now start s m t answer same there tied sure turned before =
    MovedOn cur now s t before tied (sure_turned cur mid now s m t answer same there tied sure turned)

pub sure_falls : (cur mid now : UeView) (s m t : Sight) (answer : Turn) → mid ≡ cur → m ≡ s → Tied cur s → makes_no_try s.seat cur.slot cur.op ≡ true → UeTurned mid m now t answer → ue_left now < ue_left cur
sure_falls cur mid now s m t answer same there tied sure turned = (sure_turned cur mid now s m t answer same there tied sure turned).means.0

-- one turn that moved, of a UE that stands as it stood
pub moved_once : (cur mid now : UeView) (s m t : Sight) (answer : Turn) → mid ≡ cur → m ≡ s → UeTurned mid m now t answer → answer ≡ turn.Moved → UeMoves cur s now t
moved_once cur mid now s m t answer same there turned moved =
    MovedOnce now t
    (subst (λ (x : UeView). UeTurned x s now t turn.Moved) same (subst (λ (y : Sight). UeTurned mid y now t turn.Moved) there (subst (λ (a : Turn). UeTurned mid m now t a) moved turned)))
