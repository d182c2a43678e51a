use Rattle.std.proofs.Common.{◌≡◌, arith, subst, sym, slice_get, Some}
use Rattle.scc_base.specs.Heads.{MessageHead}
use Rattle.scc_base.specs.declared.kinds.Kind.TheVariants as kind
use Rattle.groups.specs.Collectives.{others_of, head_of_kind, root_steps}
use Rattle.groups.specs.declared.collectives.Coll.TheVariants.{Bcast}
use Rattle.groups.specs.declared.collectives.Step.TheVariants.{Send}
use Rattle.groups.proofs.StepLemmas.{others_length, sends_length, get_send}
use Rattle.groups.proofs.expansion.bcast_step.Goals as goal

pub prove-unreachable-requires : goal.prove-unreachable-requires
prove-unreachable-requires c =
    let count = others_length c.args.setup.now c.args.comm c.args.r c.args.root c.requires.root_below in
    let sends = sends_length (head_of_kind kind.Bcast c.args.comm c.args.len) (others_of c.args.setup.now c.args.comm c.args.r c.args.root) in
    omega (arith, count, sends, c.requires.step_below, c.group_size.ensures.gives, c.if-prove.true)

pub returns : goal.returns
returns c =
    let list = others_of c.args.setup.now c.args.comm c.args.r c.args.root in
    let P : MessageHead → Type 0 = λ h. slice_get (root_steps (Bcast c.args.comm c.args.root c.args.len) list) c.args.k ≡ Some (Send c.other_at.result h) in
    record {
      gives = subst P (sym c.coll_head.ensures.gives) (get_send (head_of_kind kind.Bcast c.args.comm c.args.len) list c.args.k c.other_at.result c.other_at.ensures.gives);
    }
