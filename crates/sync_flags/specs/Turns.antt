-- What the operations of a rank, messages and barriers, have in common.
use Rattle.std.specs.Prelude.{◌≡◌, ℕ, Option, Some, None}
use base.Stored.{Gv}
use Rattle.scc_base.specs.declared.events.Spot.{Spot}
use Rattle.scc_base.specs.declared.events.Turn.{Turn}
use Rattle.scc_base.specs.declared.events.Turn.TheVariants.{Waiting}
use Rattle.scc_proto.specs.IdlePorts.{IsIdle}
use Rattle.scc_proto.specs.Ports.{Sight}
use Rattle.put_get.specs.Cores.{Private}

-- the rank is between two calls: none is open in its record, and no line waits in its write-combining buffer
pub record IsBetweenCalls (s : Sight) (c : Private) : Type 0 where
  pub stage : IsIdle s
  pub empty : c.out ≡ None

-- the same rank of the same setup, with the same events, at another port
abbrev pub at_port : Sight → (mark rest : Gv) → (hold : ℕ) → Sight
at_port s mark rest hold = record { seat = record s.seat { mark = mark; rest = rest; hold = hold }; events = s.events }

-- the spot at which a turn waits, by its answer, if it waits
abbrev pub waits_at : Turn → Option Spot
waits_at (Waiting spot) = Some spot
waits_at turn = None
