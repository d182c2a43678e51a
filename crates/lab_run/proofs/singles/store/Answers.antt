use Rattle.std.proofs.Common.{◌++◌, ◌∷◌, [], ◌∙◌, subst, sym}
use Rattle.scc_base.specs.Places.{WordAt, line_of_word}
use Rattle.lab_reader.specs.Places.{IsInHeap}
use Rattle.lab_plain.specs.declared.said.Said.TheVariants.{StoresWord}
use Rattle.lab_plain.specs.Scenes.{after_store}
use Rattle.lab_run.specs.Turns.{CoreTurned}
use Rattle.lab_run.proofs.SingleLaws.{may_store, stored_turn}
use Rattle.lab_run.proofs.singles.store.Goals as goal

pub store-requires : goal.store-requires
store-requires c =
    let heap : IsInHeap (line_of_word c.place-place.result) = subst (λ (p : WordAt). IsInHeap (line_of_word p)) (sym c.place-place.ensures.gives) c.number-word.ensures.valid.0 in
    record { permitted = may_store c.args.core.now c.args.chip.now c.place-place.result c.args.value c.requires.ready heap }

pub returns : goal.returns
returns c =
    let core = c.args.core.now in
    let s = c.args.chip.now in
    let t = c.store.new.self in
    let place = c.place-place.result in
    let is = c.place-place.ensures.gives in
    let heap : IsInHeap (line_of_word place) = subst (λ (p : WordAt). IsInHeap (line_of_word p)) (sym is) c.number-word.ensures.valid.0 in
    let said = c.args.said.now.items in
    record {
      turned = subst (λ (p : WordAt). CoreTurned (after_store s.rank p c.args.value) core s said core t c.push.new.self.items) is
          (stored_turn core s t place c.args.value said c.push.new.self.items c.requires.ready heap c.store.ensures.did
          (c.in_ok-push.ensures.items ∙ (λ i. said ++ StoresWord (c.own-me.ensures i) place c.args.value ∷ [])));
    }
