use Rattle.std.proofs.Common.{not, sym, ◌∙◌, ap, arith}
use Rattle.rank_monitor.proofs.NotedLaws.{has_more, has_none, lacks, none_is}
use Rattle.rank_monitor.proofs.chunks.NotedChunk.has_all.Goals as goal

pub loop-at-init : goal.loop-at-init
loop-at-init c = λ notes is. has_none notes

pub returns-then-is_none : goal.returns-then-is_none
returns-then-is_none c = record {
  tells = λ notes is. sym (lacks notes c.args.count c.loop-at.at c.loop-at-test.true (sym (is.words c.loop-at.at (omega (arith, c.loop-at-test.true, c.requires.within))) ∙ none_is _ (c.is_none.ensures ∙ ap not c.if-is_none.true)));
}

pub loop-at-preserved : goal.loop-at-preserved
loop-at-preserved c = λ notes is. has_more notes c.loop-at.at _ (c.loop-at.invariant notes is) (is.words c.loop-at.at (omega (arith, c.loop-at-test.true, c.requires.within))) (c.is_none.ensures ∙ ap not c.if-is_none.false)
