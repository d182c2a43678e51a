use Rattle.std.proofs.Common.{refl}
use Rattle.scc_proto.specs.Messages.{has_all, bytes_from, is_zero_from}
use Rattle.scc_proto.proofs.permits.heads_are_read.Goals as goal

pub returns : goal.returns
unfolding has_all is_zero_from bytes_from
returns c = record { all_down = refl; longest = refl; unordered = refl; later = refl }
