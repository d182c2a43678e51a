-- UEs as the workers of a run (RCCE specification 2.0: UE; the run is this project's profile).
use Rattle.std.specs.Prelude.{◌≡◌, ℕ, if◌then◌else◌, List, Option, Some, None}
use Rattle.scc_base.specs.Setups.{SetupView}
use Rattle.scc_base.specs.declared.events.Event.{Event}
use Rattle.scc_proto.specs.Ports.{Sight}
use Rattle.script_machine.specs.Local.{local_next}
use Rattle.script_machine.specs.Moves.{is_stopped}
use Rattle.script_machine.specs.Next.{Next}
use Rattle.script_machine.specs.Next.Next.{Ends, Goes, Posts, Sends, Recvs, Bars}
use Rattle.chip_run.specs.Behaves.{Behaviour, WorkerView}
use Rattle.chip_run.specs.Turns.{RankHoldsNone}
use Rattle.chip_run.specs.Wants.{Want}
use Rattle.rcce_ue.specs.Left.{ue_left}
use Rattle.rcce_ue.specs.Standing.{Tied}
use Rattle.rcce_ue.specs.Turns.{WentOn}
use Rattle.rcce_ue.specs.Ues.{UeView}

-- what a rank wants by what stands next there, where it wants this at its end
abbrev pub want_next : {U : Type 0} → Want → Next U → Want
want_next at_end Ends = at_end
want_next at_end (Goes after) = Want.Own
want_next at_end (Posts message after) = Want.Slot
want_next at_end (Sends to head bytes after) = Want.Send to head
want_next at_end (Recvs from head take refuse) = Want.Recv from
want_next at_end (Bars comm after) = Want.Bar comm

-- what a rank wants at its end: its slot empty, where the message that it posted last is still to be taken
abbrev pub want_at_end : Option ℕ → Want
want_at_end None = Want.Nothing
want_at_end (Some to) = Want.Slot

-- the target of the message in the slot of a UE, for which it waits at its end; one that was stopped waits for none
abbrev pub slot_awaited : UeView → Option ℕ
slot_awaited ue = if is_stopped ue.machine.local then None else ue.slot.to

-- what a UE wants
abbrev pub ue_want : UeView → Want
ue_want ue = want_next (want_at_end (slot_awaited ue)) (local_next ue.machine.local)

-- what a run sees of a UE
abbrev pub ue_seen : UeView → WorkerView
ue_seen ue = record { want = ue_want ue; left = ue_left ue; is_stopped = is_stopped ue.machine.local }

-- a turn of a UE that moved: it went one step on, in the same script
pub record UeMoved (old new : UeView) : Type 0 where
  pub script : new.machine.script ≡ old.machine.script
  pub went : WentOn old new

-- a turn of a UE that did not move: what its rank holds is as it was, in the same script
pub record UeStayed (old new : UeView) : Type 0 where
  pub script : new.machine.script ≡ old.machine.script
  pub local : new.machine.local ≡ old.machine.local

-- a UE stands where these events of its rank stand
pub record UeStands (ue : UeView) (s : SetupView) (rank : ℕ) (events : List Event) : Type 0 where
  -- at whatever port shows them
  pub tied : (sight : Sight) → sight.seat.setup ≡ s → sight.seat.rank ≡ rank → sight.events ≡ events → Tied ue sight
  -- and its rank holds no register between turns
  pub hands : RankHoldsNone s rank events

-- how UEs conduct themselves in a run
abbrev pub ue_behaviour : Behaviour UeView
ue_behaviour = record { seen = λ s rank ue. ue_seen ue; tied = UeStands; moves = UeMoved; stays = UeStayed }
