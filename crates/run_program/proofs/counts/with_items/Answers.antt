use Rattle.plain_meaning.specs.Ends.{ended_at}
use Rattle.run_program.proofs.SentLemmas.{items_more}
use Rattle.run_program.proofs.counts.with_items.Goals as goal

pub loop-i-preserved : goal.loop-i-preserved
loop-i-preserved g c =
    items_more (ended_at (g.T.Endings.ended c.args.run.now) c.args.rank).printed c.loop-i.i c.item-item.result c.bytes.result.now c.args.so_far c.loop-i.total c.with_bytes-total.result
    c.item-item.ensures c.bytes.ensures c.loop-i.invariant c.with_bytes-total.ensures
