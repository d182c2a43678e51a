-- What holds of a rank's record whatever the port.
use Rattle.std.proofs.Common.{◌≡◌, ℕ, List, [], None, refl, ◌∙◌, ap}
use base.Stored.{Gv}
use Rattle.scc_base.specs.declared.events.Event.{Event}
use Rattle.scc_proto.specs.Stages.{Record, blank}
use Rattle.scc_proto.specs.Records.{record_of}
use Rattle.scc_proto.specs.Ports.{Sight, record_in}
use Rattle.scc_proto.proofs.PortLaws.{record_of-nil}
use Rattle.put_get.specs.Cores.{Private}
use Rattle.sync_flags.specs.Turns.{IsBetweenCalls, at_port}

-- the record is that of the rank's events, at any port
pub record_at_port : (s : Sight) (mark rest : Gv) (hold : ℕ) → record_in (at_port s mark rest hold) ≡ record_in s
unfolding record_in
record_at_port s mark rest hold = refl

-- before the first event it is blank
pub record_at_start : (s : Sight) → s.events ≡ [] → record_in s ≡ blank
unfolding record_in
record_at_start s none = ap (λ (es : List Event). record_of s.seat.setup s.seat.rank es) none ∙ record_of-nil s.seat.setup s.seat.rank

-- a rank between two calls is so at each of its ports
pub between_there : (s : Sight) (mark rest : Gv) (hold : ℕ) (c : Private) → IsBetweenCalls s c → IsBetweenCalls (at_port s mark rest hold) c
between_there s mark rest hold c between =
    record { stage = ap (λ (x : Record). x.stage) (record_at_port s mark rest hold) ∙ between.stage; empty = between.empty }

-- before its first event a rank is between two calls
pub between_at_start : (s : Sight) (c : Private) → s.events ≡ [] → c.out ≡ None → IsBetweenCalls s c
between_at_start s c fresh empty = record { stage = ap (λ (x : Record). x.stage) (record_at_start s fresh); empty = empty }
