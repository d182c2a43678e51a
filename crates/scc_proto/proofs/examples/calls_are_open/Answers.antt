use Rattle.std.proofs.Common.{refl}
use Rattle.scc_base.specs.Communicators.{key_of}
use Rattle.scc_proto.specs.Records.{act_of, record_of}
use Rattle.scc_proto.specs.Messages.{has_all, bytes_from, is_zero_from}
use Rattle.scc_proto.proofs.examples.calls_are_open.Goals as goal

pub returns : goal.returns
unfolding act_of record_of has_all is_zero_from bytes_from key_of
returns c = record { receive = refl; not_received = refl; not_sent = refl; barrier = refl; between = refl; sent_on = refl; drafted = refl; not_met = refl }
