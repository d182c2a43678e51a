use Rattle.coll_program.specs.Jobs.{handed_byte}
use Rattle.coll_program.proofs.TeamLemmas.{byte_more}
use Rattle.coll_program.proofs.team.src_of.Goals as goal

pub loop-i-preserved : goal.loop-i-preserved
loop-i-preserved c =
    byte_more (handed_byte c.args.job.now.more c.args.rank c.args.job.now.len) c.loop-i.i c.byte_of.result c.loop-i.src.items c.push.new.self.items c.loop-i.invariant c.in_ok-push.ensures.items c.byte_of.ensures.gives
