use Rattle.std.proofs.Common.{◌*◌, ◌<◌, arith, length}
use Rattle.scc_base.specs.declared.kinds.Kind.TheVariants as kind
use Rattle.groups.specs.Collectives.{others_of, head_of_kind}
use Rattle.groups.proofs.StepLemmas.{others_length, reduce_finish}
use Rattle.groups.proofs.expansion.reduce_step.Goals as goal

pub returns-else-k-others : goal.returns-else-k-others
returns-else-k-others c =
    let list = others_of c.args.setup.now c.args.comm c.args.r c.args.root in
    let count = others_length c.args.setup.now c.args.comm c.args.r c.args.root c.requires.root_below in
    let low : 2 * length list < c.args.k = omega (arith, count, c.group_size.ensures.gives) in
    record { gives = reduce_finish (head_of_kind kind.Reduce c.args.comm c.args.len) list c.args.k low c.requires.step_below }
