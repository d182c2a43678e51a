use Rattle.std.proofs.Common.{arith, ◌<◌}
use Rattle.scc_base.proofs.SetupLemmas.{size_answer}
use Rattle.scc_base.specs.contracts.setups.Setup.{the_view}
use Rattle.scc_base.proofs.setups.Setup.group_size.Goals as goal

pub returns : goal.returns
returns c =
    let low : c.args.r < 48 = omega (arith, c.number.ensures.gives, c.number.ensures.below) in
    record {
      gives = size_answer (the_view c.self.inside) c.args.self.now c.self.view_is c.self.inside.groups c.self.invariant.0 c.self.invariant.1 c.args.comm c.args.r
          c.number.result c.count_members.result c.requires.comm_below c.number.ensures.gives low c.count_members.ensures.counts;
    }
