use Rattle.std.proofs.Common.{◌++◌, ◌∷◌, [], ◌∙◌, ap, subst, sym}
use Rattle.std.proofs.lemmas.List.{append_assoc}
use Rattle.scc_base.specs.Places.{WordAt, line_of_word}
use Rattle.scc_proto.specs.Words.{word_at}
use Rattle.lab_reader.specs.Places.{IsInHeap}
use Rattle.lab_plain.specs.declared.said.Said.TheVariants.{Answers, LoadsWord}
use Rattle.lab_plain.specs.declared.said.Source.TheVariants.{Words}
use Rattle.lab_plain.specs.Scenes.{after_load}
use Rattle.lab_run.specs.Turns.{CoreTurned, memory_in}
use Rattle.lab_run.proofs.SingleLaws.{read_alone, word_loaded}
use Rattle.lab_run.proofs.singles.load.Goals as goal

pub returns-clause-turned : goal.returns-clause-turned
returns-clause-turned c =
    let core = c.args.core.now in
    let s = c.args.chip.now in
    let t = c.load-value.new.self in
    let place = c.place-place.result in
    let is = c.place-place.ensures.gives in
    let heap : IsInHeap (line_of_word place) = subst (λ (p : WordAt). IsInHeap (line_of_word p)) (sym is) c.number-word.ensures.valid.0 in
    let v = c.load-value.result in
    let said = c.args.said.now.items in
    subst (λ (p : WordAt). CoreTurned (after_load s.rank p) core s said core t c.answer.new.said.items) is
    (read_alone core s t place v said c.answer.new.said.items c.requires.ready heap c.load-value.ensures.did (word_loaded s t place v c.load-value.ensures.did c.tells.ensures.run)
    (c.in_ok-answer.ensures ∙ (λ i. c.in_ok-push.ensures.items i ++ Answers (sym is i) v Words ∷ [])
    ∙ (λ i. said ++ LoadsWord (c.own-me.ensures i) place v ∷ [] ++ Answers place v Words ∷ [])
    ∙ append_assoc said (LoadsWord s.rank place v ∷ []) (Answers place v Words ∷ [])))

pub returns-clause-answers : goal.returns-clause-answers
returns-clause-answers c =
    word_loaded c.args.chip.now c.load-value.new.self c.place-place.result c.load-value.result c.load-value.ensures.did c.tells.ensures.run
    ∙ ap (λ (p : WordAt). word_at (memory_in c.args.chip.now) p) c.place-place.ensures.gives
