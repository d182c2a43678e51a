-- A rank that enters barriers.
use Rattle.std.specs.Prelude.{◌≡◌, ℕ, Bool, List}
use Rattle.scc_proto.specs.Ports.{Sight}
use Rattle.put_get.specs.Cores.{Private}
use Rattle.barrier.specs.Stages.{BarAt, BarStands}

-- the state of this communicator's barrier agrees with the events of its rank
pub record IsBarrierReady (s : Sight) (core : Private) (comm : ℕ) (op : BarAt) (values : List Bool) : Type 0 where
  pub stands : BarStands s core op values
  pub same : op.comm ≡ comm
