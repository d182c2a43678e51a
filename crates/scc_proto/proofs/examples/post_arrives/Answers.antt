use Rattle.std.proofs.Common.{rules, refl}
use Rattle.scc_base.specs.Communicators.{key_of}
use Rattle.scc_proto.specs.Records.{act_of, record_of}
use Rattle.scc_proto.specs.Messages.{has_all, bytes_from, is_zero_from}
use Rattle.scc_proto.proofs.examples.post_arrives.Goals as goal

pub returns : goal.returns
unfolding act_of record_of has_all is_zero_from bytes_from key_of
returns c = record { is_run = search rules; permitted = search rules; posted = refl; in_flight = refl; received = refl; taken = refl }
