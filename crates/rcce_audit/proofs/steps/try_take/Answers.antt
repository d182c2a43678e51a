use Rattle.std.proofs.Common.{◌<◌, refl, arith, length}
use Rattle.scc_proto.specs.Legality.{Outgoing}
use Rattle.rcce_audit.specs.Views.{data_lists}
use Rattle.rcce_audit.proofs.StepLemmas.{take_at}
use Rattle.rcce_audit.proofs.steps.try_take.Goals as goal

pub returns : goal.returns
returns c =
    let m : Outgoing = record { to = c.args.rank; head = c.args.head; bytes = c.args.bytes.now } in
    let below : c.args.from < length c.args.progress.now.posted = omega arith in
    let awake_below : c.args.from < length c.args.progress.now.awake = omega arith in
    take_at c.args.setup.now (data_lists c.args.lists.now) c.args.rank c.number.result c.args.from c.number-sender.result m c.args.progress.now _ c.advance.new.progress c.number.ensures.gives c.number-sender.ensures.gives refl c.requires.front
    (c.is_posted.ensures.0 c.if-not-is_posted.false) refl refl refl below awake_below c.advance.ensures
