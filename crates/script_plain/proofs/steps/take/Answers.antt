use Rattle.std.proofs.Common.{◌∙◌, ◌<◌, ℕ, List, Option, Some, ap, length, refl, set, subst, sym}
use Rattle.std.proofs.lemmas.Option.{slice_get_read}
use Rattle.scc_base.specs.Setups.{setup_key}
use Rattle.script_plain.specs.Code.{HasTaken, IsAtReceive, config}
use Rattle.script_machine.specs.Local.{Local, local_next}
use Rattle.script_machine.specs.Moves.{length_asked}
use Rattle.script_machine.specs.declared.posts.Posted.{Posted}
use Rattle.script_plain.proofs.CodeSteps.CodeLaws.{fetched, fetcher_there, fetches, slot_here}
use Rattle.script_plain.proofs.CodeSteps.StandLaws.{fetcher_stands, slot_within}
use Rattle.script_plain.proofs.CodeSteps.UeLaws.{fetched_long}
use Rattle.script_plain.proofs.steps.take.Goals as goal

pub bounds-slots-from : goal.bounds-slots-from
bounds-slots-from c =
    let fetch = fetches c.args.ues.now c.args.slots.now c.args.to c.args.from (setup_key c.args.setup.now) c.requires in
    slot_within c.args.slots.now c.args.from fetch.message fetch.slot

pub bounds-ues-to : goal.bounds-ues-to
bounds-ues-to c =
    fetcher_there c.args.ues.now c.args.slots.now c.args.to c.args.from (fetches c.args.ues.now c.args.slots.now c.args.to c.args.from (setup_key c.args.setup.now) c.requires)

pub receive-requires-clause-at_receive : goal.receive-requires-clause-at_receive
receive-requires-clause-at_receive c =
    let keys = setup_key c.args.setup.now in
    let ues = c.args.ues.now in
    let slots = c.args.slots.now in
    let within : c.args.to < length ues = fetcher_there ues slots c.args.to c.args.from (fetches ues slots c.args.to c.args.from keys c.requires) in
    let here = slice_get_read ues (length ues) c.args.to c.index-ues-to.result refl within c.index-ues-to.is in
    subst (λ (u : Local). IsAtReceive (local_next u)) c.index-ues-to.is (fetcher_stands keys ues slots c.args.to c.args.from c.index-ues-to.result c.requires here)

pub receive-requires-clause-long : goal.receive-requires-clause-long
receive-requires-clause-long c =
    let keys = setup_key c.args.setup.now in
    let ues = c.args.ues.now in
    let slots = c.args.slots.now in
    let fetch = fetches ues slots c.args.to c.args.from keys c.requires in
    let read = slot_here slots c.args.from fetch.message c.index-slots-from.result fetch.slot c.index-slots-from.is in
    let slot = fetch.slot ∙ sym read ∙ c.index-slots-from.is ∙ sym c.take.ensures.value ∙ c.in-Some.is in
    let within : c.args.to < length ues = fetcher_there ues slots c.args.to c.args.from fetch in
    let here = slice_get_read ues (length ues) c.args.to c.index-ues-to.result refl within c.index-ues-to.is in
    ap length c.bytes.ensures.same ∙ fetched_long keys ues slots c.args.to c.args.from c.index-ues-to.result c.in-Some.message c.requires here slot c.bytes.ensures.even
    ∙ ap (λ (u : Local). length_asked (local_next u)) c.index-ues-to.is

pub returns : goal.returns
returns c =
    let keys = setup_key c.args.setup.now in
    let ues = c.args.ues.now in
    let slots = c.args.slots.now in
    let fetch = fetches ues slots c.args.to c.args.from keys c.requires in
    let read = slot_here slots c.args.from fetch.message c.index-slots-from.result fetch.slot c.index-slots-from.is in
    let slot = fetch.slot ∙ sym read ∙ c.index-slots-from.is ∙ sym c.take.ensures.value ∙ c.in-Some.is in
    let within : c.args.to < length ues = fetcher_there ues slots c.args.to c.args.from fetch in
    let here = slice_get_read ues (length ues) c.args.to c.index-ues-to.result refl within c.index-ues-to.is in
    let taken = subst (λ (b : List ℕ). HasTaken (local_next c.index-ues-to.result) b c.receive.new.self) c.bytes.ensures.same
    (subst (λ (u : Local). HasTaken (local_next u) c.bytes.result.now c.receive.new.self) (sym c.index-ues-to.is) c.receive.ensures) in
    fetched keys ues slots c.args.to c.args.from c.index-ues-to.result c.receive.new.self c.in-Some.message c.requires here slot taken
    ∙ ap (λ (o : Option Posted). Some (config (set ues c.args.to c.receive.new.self) (set slots c.args.from o))) (sym c.take.ensures.after)
