-- A rank that makes collective calls.
use Rattle.std.specs.Prelude.{ℕ, List, Option, Some, None}
use Rattle.scc_proto.specs.Ports.{Sight}
use Rattle.put_get.specs.Cores.{Private}
use Rattle.send_recv.specs.Calling.{IsBetweenMessages}
use Rattle.send_recv.specs.Ops.{SlotAt}
use Rattle.coll_more.specs.Ops.{MoreAt, taking_part}
use Rattle.coll_more.specs.Standing.{Stands}

-- the call of a rank: an unfinished collective call, or none
abbrev pub IsAtOp : Sight → Private → SlotAt → (src dst : List ℕ) → Option MoreAt → Type 0
IsAtOp s core slot src dst (Some op) = Stands (taking_part s core op slot src dst)
IsAtOp s core slot src dst None = IsBetweenMessages s core slot
