use Rattle.std.proofs.Common.{◌≡◌, ◌+◌, ◌-◌, ◌++◌, ◌∷◌, [], List, ℕ, suc, ◌∙◌, ap, arith}
use Rattle.scc_proto.specs.Messages.{bytes_from}
use Rattle.rank_monitor.proofs.ChunkLaws.{byte_more, bytes_done, bytes_room}
use Rattle.rank_monitor.proofs.chunks.NotedChunk.push_bytes.Goals as goal

pub returns-then-len-ge-MOST-clause-items : goal.returns-then-len-ge-MOST-clause-items
returns-then-len-ge-MOST-clause-items c = λ notes is le.
    let old = c.args.bytes.now.items in
    let room = bytes_room notes c.loop-at.bytes.items old c.loop-at.at (c.args.count - c.loop-at.at) c.args.count (c.loop-at.invariant.rest notes is (omega (arith, le))) in
    absurd (omega (arith, le, room, c.loop-at-test.true, c.if-len-ge-MOST.true, c.len.ensures))

pub loop-at-preserved : goal.loop-at-preserved
loop-at-preserved c = record {
  room = c.push_reserved.ensures.capacity ∙ c.loop-at.invariant.room;
  within = omega (arith, c.loop-at-test.true);
  rest = λ notes is le.
      let some : c.args.count - c.loop-at.at ≡ suc (c.args.count - (c.loop-at.at + 1)) = omega (arith, c.loop-at-test.true) in
      ap (λ (l : List ℕ). l ++ bytes_from notes (c.loop-at.at + 1) (c.args.count - (c.loop-at.at + 1))) (c.push_reserved.ensures.items ∙ ap (λ (b : ℕ). c.loop-at.bytes.items ++ b ∷ []) (c.byte.ensures.gives notes is))
      ∙ byte_more notes c.loop-at.bytes.items _ c.loop-at.at (c.args.count - c.loop-at.at) (c.args.count - (c.loop-at.at + 1)) some (c.loop-at.invariant.rest notes is (omega (arith, le)));
}

pub returns-clause-items : goal.returns-clause-items
returns-clause-items c = λ notes is le.
    bytes_done notes c.loop-at.bytes.items _ c.loop-at.at (c.args.count - c.loop-at.at) (omega (arith, c.loop-at-test.false)) (c.loop-at.invariant.rest notes is (omega (arith, le)))
