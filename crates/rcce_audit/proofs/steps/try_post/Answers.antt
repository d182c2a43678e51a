use Rattle.std.proofs.Common.{◌<◌, refl, arith, length}
use Rattle.scc_proto.specs.Legality.{Outgoing}
use Rattle.rcce_audit.specs.Views.{data_lists}
use Rattle.rcce_audit.proofs.StepLemmas.{post_at}
use Rattle.rcce_audit.proofs.steps.try_post.Goals as goal

pub returns : goal.returns
returns c = λ head bytes front.
    let m : Outgoing = record { to = c.args.to; head = head; bytes = bytes } in
    let below : c.args.rank < length c.args.progress.now.posted = omega arith in
    let to_below : c.args.to < length c.args.progress.now.awake = omega arith in
    post_at c.args.setup.now (data_lists c.args.lists.now) c.args.rank c.number-place.result c.number.result m c.args.progress.now _ c.advance.new.progress c.number-place.ensures.gives c.number.ensures.gives front
    (c.is_slot_empty.ensures.0 c.if-not-is_slot_empty.false) refl refl refl below to_below c.advance.ensures
