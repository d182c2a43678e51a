-- A rank that may write a flag of the heap.
use Rattle.std.specs.Prelude.{ℕ, IfSome}
use Rattle.scc_base.specs.Places.{FlagPlace}
use Rattle.scc_base.specs.Setups.{host_of}
use Rattle.scc_proto.specs.Ports.{Sight, record_in}
use Rattle.tas_lock.specs.Holds.{IsNotHolding}

-- if the flag is a bit, the rank does not hold the register of the rank that has the flag
abbrev pub MayTake : Sight → ℕ → FlagPlace → Type 0
MayTake s r f = IfSome f.bit (λ b. IsNotHolding (record_in s) (host_of s.seat.setup.hosts r))
