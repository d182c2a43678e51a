-- Ports between the calls of their rank.
use Rattle.std.specs.Prelude.{◌≡◌}
use Rattle.scc_proto.specs.Stages.{Idle}
use Rattle.scc_proto.specs.Ports.{Sight, record_in}

-- no call is open in the record of the rank
abbrev pub IsIdle : Sight → Type 0
IsIdle sight = (record_in sight).stage ≡ Idle
