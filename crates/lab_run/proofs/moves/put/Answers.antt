use Rattle.lab_plain.specs.Scenes.{after_flushing, line_stored}
use Rattle.lab_run.proofs.TurnLaws.{on_ok, turned_then}
use Rattle.lab_run.proofs.moves.put.Goals as goal

pub returns : goal.returns
returns c =
    let s = c.args.chip.now in
    record {
      turned = on_ok c.store_line.result
          (λ then. turned_then (after_flushing s.rank) (λ r. line_stored r c.args.at c.args.words.now) c.args.core.now c.flush.new.core c.store_line.new.core s c.flush.new.chip c.store_line.new.chip
          c.args.said.now.items c.flush.new.said.items c.store_line.new.said.items c.in_ok-flush.ensures.turned then) c.store_line.ensures.turned;
    }
