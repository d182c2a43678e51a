use Rattle.plain_meaning.specs.Meaning.{keys_of, plain_ends}
use Rattle.plain_meaning.proofs.Messages.HeldUpLaws.{explained}
use Rattle.check_program.proofs.WaitingLaws.{answer_peer, many}
use Rattle.check_program.proofs.waiting.waits_for.Goals as goal

pub returns-clause-waits : goal.returns-clause-waits
returns-clause-waits c =
    (answer_peer (keys_of c.args.scripts.now) c.args.end.now (plain_ends c.args.scripts.now) c.args.scripts.now.nue c.args.rank c.wait_of.result c.requires.ended (many c.args.scripts.now c.args.end.now c.requires.ended)
    (explained c.args.scripts.now c.acceptance_law.ensures.whole c.args.rank c.requires.below) c.wait_of.ensures).0

pub returns-clause-other : goal.returns-clause-other
returns-clause-other c =
    (answer_peer (keys_of c.args.scripts.now) c.args.end.now (plain_ends c.args.scripts.now) c.args.scripts.now.nue c.args.rank c.wait_of.result c.requires.ended (many c.args.scripts.now c.args.end.now c.requires.ended)
    (explained c.args.scripts.now c.acceptance_law.ensures.whole c.args.rank c.requires.below) c.wait_of.ensures).1

pub wait_of-requires-clause-ranks : goal.wait_of-requires-clause-ranks
wait_of-requires-clause-ranks c = many c.args.scripts.now c.args.end.now c.requires.ended
