use Rattle.std.proofs.Common.{refl}
use Rattle.scc_proto.specs.Messages.{has_all, bytes_from, is_zero_from}
use Rattle.scc_proto.proofs.permits.post_stands_aside.Goals as goal

pub returns : goal.returns
unfolding has_all is_zero_from bytes_from
returns c = record { flip = refl; take = refl; lower_in_barrier = refl; lower_in_take = refl; answer_in_post = refl; next = refl }
