use Rattle.std.proofs.Common.{refl}
use Rattle.scc_base.specs.Communicators.{key_of}
use Rattle.scc_proto.specs.Records.{act_of}
use Rattle.scc_proto.specs.Messages.{has_all, bytes_from, is_zero_from}
use Rattle.scc_proto.proofs.refusals.barrier_stands_alone.Goals as goal

pub returns : goal.returns
unfolding act_of has_all is_zero_from bytes_from key_of
returns c = record { in_header = refl; in_draft = refl; in_send = refl; in_answer = refl; in_sends = refl; in_take = refl; between = refl; draft = refl; header = refl; take = refl }
