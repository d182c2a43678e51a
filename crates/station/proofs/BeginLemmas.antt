-- A collective call over a communicator begins, with an op that is spelled in another way.
use Rattle.std.proofs.Common.{◌≡◌, ℕ, List, Option, sym, subst}
use Rattle.scc_proto.specs.Ports.{Sight}
use Rattle.groups.specs.Collectives.{IsCallable}
use Rattle.groups.specs.declared.collectives.Coll.{Coll}
use Rattle.station.specs.Groups.{AreFit, IsInGroup, in_group_call, new_group, start_at}
use Rattle.station.specs.Stations.{NoCallOpen, StationAt}
use Rattle.station.specs.Steps.{Held}
use Rattle.station.specs.declared.steps.Folding.{Folding}
use Rattle.station.specs.declared.steps.GroupOp.{GroupOp}
use Rattle.station.proofs.GroupLemmas.{group_begins}

pub begins_as : (s : Sight) (a : StationAt) (coll : Coll) (folding : Option Folding) (input : List ℕ) (held : Held) (op : GroupOp) → op ≡ new_group coll folding
    → NoCallOpen s a → IsCallable s.seat.setup s.seat.rank coll → AreFit coll folding input held → IsInGroup (start_at s held) (in_group_call s a op input held)
begins_as s a coll folding input held op is free may fit =
    subst (λ (x : GroupOp). IsInGroup (start_at s held) (in_group_call s a x input held)) (sym is) (group_begins s a coll folding input held free may fit)
