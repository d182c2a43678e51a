use Rattle.std.proofs.Common.{refl}
use Rattle.scc_proto.specs.Moves.{look_ready}
use Rattle.rank_monitor.specs.Steps.{look_of}
use Rattle.rank_monitor.proofs.works.Work.look_ready.Goals as goal

pub returns-clause-moves : goal.returns-clause-moves
returns-clause-moves c = λ rec f may.
    let first = c.answer_chunk.ensures.stands rec f in
    let then = c.answer_post.ensures.stands (record rec { stage = look_ready (look_of c.args.look.now) rec.stage }) first in
    record { stands = record { keeps = then.keeps; post = then.post; said = then.said; flags = then.flags }; adds = refl }
