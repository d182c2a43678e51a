use Rattle.std.proofs.Common.{◌≡◌, ◌+◌}
use Rattle.scc_proto.specs.Messages.{Notes, is_zero_from}
use Rattle.rank_monitor.specs.Noted.{IsChunkOf}
use Rattle.rank_monitor.proofs.chunks.NotedChunk.is_zero_from.Given as goal

abbrev pub invariant-loop-left : goal.invariant-loop-left
invariant-loop-left l = record {
  rest : (notes : Notes) → IsChunkOf l.self notes → is_zero_from notes l.start l.count ≡ is_zero_from notes l.at l.left;
  within : l.at + l.left ≡ l.start + l.count;
}

abbrev pub decreases-loop-left : goal.decreases-loop-left
decreases-loop-left l = l.left
