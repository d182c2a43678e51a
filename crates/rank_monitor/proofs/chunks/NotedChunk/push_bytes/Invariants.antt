use Rattle.std.proofs.Common.{◌≡◌, ◌+◌, ◌-◌, ◌≤◌, ◌++◌, length, vec_capacity}
use Rattle.scc_proto.specs.Messages.{Notes, bytes_from}
use Rattle.rank_monitor.specs.Noted.{IsChunkOf}
use Rattle.rank_monitor.proofs.chunks.NotedChunk.push_bytes.Given as goal

abbrev pub invariant-loop-at : goal.invariant-loop-at
invariant-loop-at l = record {
  room : vec_capacity l.bytes ≡ vec_capacity l.initial.bytes;
  within : l.at ≤ l.count;
  rest : (notes : Notes) → IsChunkOf l.self notes → length l.initial.bytes.items + l.count ≤ 65536
      → l.bytes.items ++ bytes_from notes l.at (l.count - l.at) ≡ l.initial.bytes.items ++ bytes_from notes 0 l.count;
}

abbrev pub decreases-loop-at : goal.decreases-loop-at
decreases-loop-at l = l.count - l.at
