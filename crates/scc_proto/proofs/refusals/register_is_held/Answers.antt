use Rattle.std.proofs.Common.{refl}
use Rattle.scc_base.specs.Communicators.{key_of}
use Rattle.scc_proto.specs.Records.{act_of}
use Rattle.scc_proto.specs.Messages.{has_all, bytes_from, is_zero_from}
use Rattle.scc_proto.proofs.refusals.register_is_held.Goals as goal

pub returns : goal.returns
unfolding act_of has_all is_zero_from bytes_from key_of
returns c = record { twice = refl; failed_twice = refl; free = refl; freed = refl; failed = refl; other = refl }
