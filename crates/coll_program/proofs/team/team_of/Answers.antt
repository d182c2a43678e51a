use Rattle.std.proofs.Common.{length, sym, ◌∙◌}
use Rattle.coll_program.proofs.TeamLemmas.{rank_more, src_long}
use Rattle.coll_program.proofs.team.team_of.Goals as goal

pub join-requires-clause-src : goal.join-requires-clause-src
join-requires-clause-src c =
    src_long c.args.job.now c.of.result c.in_ok-src.src.items (length c.loop-number.team.items) c.in_ok-src.ensures.gives (c.of.ensures.gives ∙ sym c.loop-number.invariant.each)

pub loop-number-preserved : goal.loop-number-preserved
loop-number-preserved c =
    rank_more c.args.job.now c.loop-number.number c.of.result c.loop-number.team.items c.join.new.team.items c.in_ok-src.src.items c.loop-number.invariant c.in_ok-join.ensures.joined c.in_ok-src.ensures.gives c.of.ensures.gives
