use Rattle.std.proofs.Common.{refl}
use Rattle.scc_proto.specs.Messages.{has_all, bytes_from, is_zero_from}
use Rattle.scc_proto.proofs.permits.heads_are_free.Goals as goal

pub returns : goal.returns
unfolding has_all is_zero_from bytes_from
returns c = record { plain = refl; bcast = refl; reduce = refl; all_up = refl; all_down = refl; longest = refl; longest_post = refl; empty = refl; empty_post = refl }
