use Rattle.std.proofs.Common.{refl}
use Rattle.scc_base.specs.Communicators.{key_of}
use Rattle.scc_proto.specs.Records.{act_of}
use Rattle.scc_proto.specs.Messages.{has_all, bytes_from, is_zero_from}
use Rattle.scc_proto.proofs.refusals.ready_is_seen.Goals as goal

pub returns : goal.returns
unfolding act_of has_all is_zero_from bytes_from key_of
returns c = record { lower = refl; clear = refl; of_other = refl; other = refl; chunk = refl; header = refl; raise = refl; seen_chunk = refl; seen_header = refl; seen_raise = refl; drafted = refl; nothing = refl }
