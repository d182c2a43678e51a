use Rattle.std.proofs.Common.{◌≡◌, true}
use Rattle.scc_proto.specs.Messages.{Notes, has_all}
use Rattle.rank_monitor.specs.Noted.{IsChunkOf}
use Rattle.rank_monitor.proofs.chunks.NotedChunk.has_all.Given as goal

abbrev pub invariant-loop-at : goal.invariant-loop-at
invariant-loop-at l = (notes : Notes) → IsChunkOf l.self notes → has_all notes l.at ≡ true
