-- The state of a UE agrees with its events, whatever port shows them.
use Rattle.std.proofs.Common.{List}
use base.Stored.{gnil}
use Rattle.scc_base.specs.declared.events.Event.{Event}
use Rattle.scc_base.specs.declared.events.Turn.{Turn}
use Rattle.scc_proto.specs.Ports.{Did, Sight}
use Rattle.rcce_ue.specs.Standing.{Tied}
use Rattle.rcce_ue.specs.Turns.{UeTurned}
use Rattle.rcce_ue.specs.Ues.{UeView}
use Rattle.rcce_ue.proofs.OtherPort.{tied_there}
use Rattle.chip_teams.specs.Teams.{sight_alone}

pub tied_port : (s : Sight) (ue : UeView) → Tied ue (sight_alone s.seat.setup s.seat.rank s.events) → Tied ue s
tied_port s ue tied = tied_there (sight_alone s.seat.setup s.seat.rank s.events) s.seat.mark s.seat.rest s.seat.hold ue tied

pub tied_alone : (s : Sight) (ue : UeView) → Tied ue s → Tied ue (sight_alone s.seat.setup s.seat.rank s.events)
tied_alone s ue tied = tied_there s gnil gnil 0 ue tied

-- a turn made some events
pub did_events : {ue now : UeView} {s t : Sight} {answer : Turn} → UeTurned ue s now t answer → (events : List Event) × Did s events t
did_events turned = (turned.events, turned.did)
