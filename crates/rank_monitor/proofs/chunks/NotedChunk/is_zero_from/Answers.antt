use Rattle.std.proofs.Common.{◌≡◌, ◌≢◌, ◌-◌, suc, sym, ◌∙◌, arith}
use Rattle.scc_proto.specs.Messages.{byte_at}
use Rattle.rank_monitor.proofs.ChunkLaws.{zero_more, zero_none, zero_not}
use Rattle.rank_monitor.proofs.chunks.NotedChunk.is_zero_from.Goals as goal

pub returns-then-byte-ne0 : goal.returns-then-byte-ne0
returns-then-byte-ne0 c = record {
  tells = λ notes is.
      let some : c.loop-left.left ≡ suc (c.loop-left.left - 1) = omega (arith, c.loop-left-test.true) in
      let other : byte_at notes c.loop-left.at ≢ 0 = λ none. absurd (c.if-byte-ne0.true (c.byte.ensures.gives notes is ∙ none)) in
      sym (c.loop-left.invariant.rest notes is ∙ zero_not notes c.loop-left.at c.loop-left.left (c.loop-left.left - 1) some other);
}

pub loop-left-preserved : goal.loop-left-preserved
loop-left-preserved c = record {
  rest = λ notes is.
      let some : c.loop-left.left ≡ suc (c.loop-left.left - 1) = omega (arith, c.loop-left-test.true) in
      c.loop-left.invariant.rest notes is ∙ zero_more notes c.loop-left.at c.loop-left.left (c.loop-left.left - 1) some (sym (c.byte.ensures.gives notes is) ∙ c.if-byte-ne0.false);
  within = omega (arith, c.loop-left.invariant.within, c.loop-left-test.true);
}

pub returns : goal.returns
returns c = record { tells = λ notes is. sym (c.loop-left.invariant.rest notes is ∙ zero_none notes c.loop-left.at c.loop-left.left (omega (arith, c.loop-left-test.false))) }
