use Rattle.std.proofs.Common.{rules}
use Rattle.std.proofs.lemmas.Option.{get_or_from_slice_get}
use Rattle.scc_base.specs.Setups.{members_of}
use Rattle.groups.proofs.expansion.step.Goals as goal

pub returns-else-place-root : goal.returns-else-place-root
returns-else-place-root c =
    let root = get_or_from_slice_get (members_of c.args.setup.now c.comm-else-place-root.result c.args.r) c.root-else-place-root.result c.member_at.result 0 c.member_at.ensures.gives in
    search (rules, root)
