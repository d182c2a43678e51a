use Rattle.std.proofs.Common.{refl}
use Rattle.scc_base.specs.Communicators.{key_of}
use Rattle.scc_proto.specs.Records.{act_of}
use Rattle.scc_proto.specs.Messages.{has_all, bytes_from, is_zero_from}
use Rattle.scc_proto.proofs.refusals.flags_have_owners.Goals as goal

pub returns : goal.returns
unfolding act_of has_all is_zero_from bytes_from key_of
returns c = record { raise_other = refl; raise_value = refl; raise_zero = refl; raise_own = refl; lower_other = refl; lower_value = refl; lower_one = refl; answer_other = refl; answer_value = refl; answer_zero = refl; end_other = refl; end_value = refl; end_one = refl }
