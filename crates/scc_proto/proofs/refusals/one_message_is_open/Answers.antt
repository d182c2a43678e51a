use Rattle.std.proofs.Common.{refl}
use Rattle.scc_base.specs.Communicators.{key_of}
use Rattle.scc_proto.specs.Records.{act_of}
use Rattle.scc_proto.specs.Messages.{has_all, bytes_from, is_zero_from}
use Rattle.scc_proto.proofs.refusals.one_message_is_open.Goals as goal

pub returns : goal.returns
unfolding act_of has_all is_zero_from bytes_from key_of
returns c = record { take_in_draft = refl; take_in_header = refl; take_in_send = refl; take_in_answer = refl; take_in_sends = refl; take_in_take = refl; take_again = refl; draft_in_take = refl; header_in_take = refl; draft_between = refl; header_between = refl }
