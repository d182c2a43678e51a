use Rattle.std.proofs.Common.{refl}
use Rattle.rank_monitor.proofs.works.Work.look_sent.Goals as goal

pub returns-clause-moves : goal.returns-clause-moves
returns-clause-moves c = λ rec f may.
    record { stands = record { keeps = f.keeps; post = f.post; said = c.see.ensures.sees rec.notes f.said; flags = f.flags }; adds = refl }
