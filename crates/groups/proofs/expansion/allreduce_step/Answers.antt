use Rattle.std.proofs.Common.{◌≡◌, ◌+◌, ◌*◌, ◌-◌, ◌<◌, arith, length, subst, sym, slice_get, Some}
use Rattle.scc_base.specs.Heads.{MessageHead}
use Rattle.scc_base.specs.declared.kinds.Kind.TheVariants as kind
use Rattle.groups.specs.Collectives.{others_of, head_of_kind, root_steps}
use Rattle.groups.specs.declared.collectives.Coll.TheVariants.{Allreduce}
use Rattle.groups.specs.declared.collectives.Step.TheVariants.{Send}
use Rattle.groups.proofs.StepLemmas.{others_length, allreduce_send, allreduce_finish}
use Rattle.groups.proofs.expansion.allreduce_step.Goals as goal

pub returns-then-k-others-2 : goal.returns-then-k-others-2
returns-then-k-others-2 c =
    let list = others_of c.args.setup.now c.args.comm c.args.r 0 in
    let up = head_of_kind kind.AllUp c.args.comm c.args.len in
    let down = head_of_kind kind.AllDown c.args.comm c.args.len in
    let count = others_length c.args.setup.now c.args.comm c.args.r 0 c.requires.root_below in
    let place : c.args.k ≡ 2 * length list + 1 + (c.args.k - 1 - 2 * c.from-others.result) = omega (arith, count, c.group_size.ensures.gives) in
    let P : MessageHead → Type 0 = λ h. slice_get (root_steps (Allreduce c.args.comm c.args.len) list) c.args.k ≡ Some (Send c.other_at.result h) in
    record {
      gives = subst P (sym c.coll_head-then-k-others-2.ensures.gives)
          (allreduce_send up down list c.args.k (c.args.k - 1 - 2 * c.from-others.result) c.other_at.result place c.other_at.ensures.gives);
    }

pub returns-else-k-others-2 : goal.returns-else-k-others-2
returns-else-k-others-2 c =
    let list = others_of c.args.setup.now c.args.comm c.args.r 0 in
    let up = head_of_kind kind.AllUp c.args.comm c.args.len in
    let down = head_of_kind kind.AllDown c.args.comm c.args.len in
    let count = others_length c.args.setup.now c.args.comm c.args.r 0 c.requires.root_below in
    let low : 3 * length list < c.args.k = omega (arith, count, c.group_size.ensures.gives) in
    record { gives = allreduce_finish up down list c.args.k low c.requires.step_below }
