use Rattle.std.proofs.Common.{refl}
use Rattle.scc_base.specs.Layouts.{most_chunk_words}
use Rattle.rank_monitor.proofs.NotedLaws.{slots_none}
use Rattle.rank_monitor.proofs.chunks.NotedChunk.clear.Goals as goal

pub returns : goal.returns
returns c = record { none = record { words = slots_none most_chunk_words; some = refl } }
