use Rattle.lab_run.proofs.MoveLaws.{flushed_turn, may_flush}
use Rattle.lab_run.proofs.moves.flush.Goals as goal

pub flush-requires : goal.flush-requires
flush-requires c = record { permitted = may_flush c.args.core.now c.args.chip.now c.requires.ready }

pub returns : goal.returns
returns c = record {
  turned = flushed_turn c.args.core.now c.flush.new.self c.args.chip.now c.flush.new.port c.args.said.now.items c.say_flush.new.said.items c.requires.ready c.flush.ensures.flushes c.in_ok-say_flush.ensures;
}
