use Rattle.std.proofs.Common.{refl}
use Rattle.scc_base.specs.Communicators.{key_of}
use Rattle.scc_proto.specs.Records.{act_of}
use Rattle.scc_proto.specs.Messages.{has_all, bytes_from, is_zero_from}
use Rattle.scc_proto.proofs.refusals.bits_are_held.Goals as goal

pub returns : goal.returns
unfolding act_of has_all is_zero_from bytes_from key_of
returns c = record { no_register = refl; failed = refl; not_loaded = refl; before = refl; freed = refl; let_go = refl; other_core = refl; ready_for_sent = refl; ready_no_register = refl; sent_for_ready = refl }
