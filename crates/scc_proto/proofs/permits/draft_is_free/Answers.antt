use Rattle.std.proofs.Common.{refl}
use Rattle.scc_proto.specs.Messages.{has_all, bytes_from, is_zero_from}
use Rattle.scc_proto.proofs.permits.draft_is_free.Goals as goal

pub returns : goal.returns
unfolding has_all is_zero_from bytes_from
returns c = record { chunk = refl; header = refl; unordered = refl; second = refl }
