use Rattle.std.proofs.Common.{◌∙◌, ap, length, refl, subst, sym}
use Rattle.std.proofs.lemmas.Option.{slice_get_read}
use Rattle.scc_base.specs.Setups.{setup_key}
use Rattle.script_plain.specs.Code.{HasLength, HasSent, HasTaken, IsAtReceive, IsAtSend}
use Rattle.script_machine.specs.Local.{Local, local_next}
use Rattle.script_machine.specs.Moves.{length_asked}
use Rattle.script_plain.proofs.CodeSteps.StandLaws.{delivered, delivered_long, receiver_stands, sender_stands, sender_there}
use Rattle.script_plain.proofs.steps.deliver.Goals as goal

pub bounds-ues-from : goal.bounds-ues-from
bounds-ues-from c = sender_there (setup_key c.args.setup.now) c.args.ues.now c.args.slots.now c.args.from c.args.to c.requires

pub send-requires : goal.send-requires
send-requires c =
    let keys = setup_key c.args.setup.now in
    let ues = c.args.ues.now in
    let slots = c.args.slots.now in
    let here = slice_get_read ues (length ues) c.args.from c.index-ues-from.result refl (sender_there keys ues slots c.args.from c.args.to c.requires) c.index-ues-from.is in
    subst (λ (u : Local). IsAtSend (local_next u)) c.index-ues-from.is (sender_stands keys ues slots c.args.from c.args.to c.index-ues-from.result c.requires here)

pub receive-requires-clause-at_receive : goal.receive-requires-clause-at_receive
receive-requires-clause-at_receive c =
    subst (λ (u : Local). IsAtReceive (local_next u)) c.index-ues-to.is
    (receiver_stands (setup_key c.args.setup.now) c.args.ues.now c.args.slots.now c.args.from c.args.to c.send.new.self c.index-ues-to.result c.requires c.index-ues-to.is)

pub receive-requires-clause-long : goal.receive-requires-clause-long
receive-requires-clause-long c =
    let keys = setup_key c.args.setup.now in
    let ues = c.args.ues.now in
    let slots = c.args.slots.now in
    let here = slice_get_read ues (length ues) c.args.from c.index-ues-from.result refl (sender_there keys ues slots c.args.from c.args.to c.requires) c.index-ues-from.is in
    let long = subst (λ (u : Local). HasLength (local_next u) c.in_ok-bytes.bytes) (sym c.index-ues-from.is) c.in_ok-bytes.ensures.long in
    delivered_long keys ues slots c.args.from c.args.to c.index-ues-from.result c.send.new.self c.index-ues-to.result c.in_ok-bytes.bytes c.requires here long c.index-ues-to.is
    ∙ ap (λ (u : Local). length_asked (local_next u)) c.index-ues-to.is

pub returns : goal.returns
returns c =
    let keys = setup_key c.args.setup.now in
    let ues = c.args.ues.now in
    let slots = c.args.slots.now in
    let here = slice_get_read ues (length ues) c.args.from c.index-ues-from.result refl (sender_there keys ues slots c.args.from c.args.to c.requires) c.index-ues-from.is in
    let sent = subst (λ (u : Local). HasSent (local_next u) c.in_ok-bytes.bytes c.send.new.self) (sym c.index-ues-from.is) c.in_ok-bytes.ensures.same in
    let taken = subst (λ (u : Local). HasTaken (local_next u) c.in_ok-bytes.bytes c.receive.new.self) (sym c.index-ues-to.is) c.receive.ensures in
    delivered keys ues slots c.args.from c.args.to c.index-ues-from.result c.send.new.self c.index-ues-to.result c.receive.new.self c.in_ok-bytes.bytes c.requires here sent c.index-ues-to.is taken
