use Rattle.std.proofs.Common.{◌∙◌, ◌++◌, ◌∷◌, [], ap, map, subst, sym}
use Rattle.lab_reader.specs.declared.steps.Action.{Action}
use Rattle.lab_plain.specs.declared.said.Said.TheVariants.{Begins}
use Rattle.lab_plain.specs.Meaning.{Done, action_done, with_line_begun, core_done, free_made, holder_of, take_made}
use Rattle.lab_run.specs.Benches.{StandsOnBench, bench_stand}
use Rattle.lab_run.specs.Stands.{holds_of}
use Rattle.lab_run.proofs.BenchLaws.{begun_bench, begun_stand, core_is, if_ok}
use Rattle.lab_run.proofs.ToldLaws.{begun_told}
use Rattle.lab_run.proofs.bench.Bench.make.Goals as goal

pub take-requires-clause-stands : goal.take-requires-clause-stands
take-requires-clause-stands c = record {
  bench = begun_bench c.args.self.now.chip c.turn_to.new.self c.of.result (map holds_of c.args.self.now.cores.items) c.args.self.now.holders c.turn_to.ensures.turns c.requires.stands.bench;
  told = begun_told c.args.self.now.chip c.turn_to.new.self c.of.result c.args.step.now.line c.args.step.now.text c.args.self.now.said.items c.push.new.self.items c.turn_to.ensures.turns
      (c.in_ok-push.ensures.items ∙ (λ i. c.args.self.now.said.items ++ Begins c.args.step.now.line ((c.in_ok-text.ensures ∙ c.as_slice.ensures) i) ∷ [])) c.requires.stands.told;
}

pub free-requires-clause-stands : goal.free-requires-clause-stands
free-requires-clause-stands c = record {
  bench = begun_bench c.args.self.now.chip c.turn_to.new.self c.of.result (map holds_of c.args.self.now.cores.items) c.args.self.now.holders c.turn_to.ensures.turns c.requires.stands.bench;
  told = begun_told c.args.self.now.chip c.turn_to.new.self c.of.result c.args.step.now.line c.args.step.now.text c.args.self.now.said.items c.push.new.self.items c.turn_to.ensures.turns
      (c.in_ok-push.ensures.items ∙ (λ i. c.args.self.now.said.items ++ Begins c.args.step.now.line ((c.in_ok-text.ensures ∙ c.as_slice.ensures) i) ∷ [])) c.requires.stands.told;
}

pub act-requires-clause-stands : goal.act-requires-clause-stands
act-requires-clause-stands c = record {
  bench = begun_bench c.args.self.now.chip c.turn_to.new.self c.of.result (map holds_of c.args.self.now.cores.items) c.args.self.now.holders c.turn_to.ensures.turns c.requires.stands.bench;
  told = begun_told c.args.self.now.chip c.turn_to.new.self c.of.result c.args.step.now.line c.args.step.now.text c.args.self.now.said.items c.push.new.self.items c.turn_to.ensures.turns
      (c.in_ok-push.ensures.items ∙ (λ i. c.args.self.now.said.items ++ Begins c.args.step.now.line ((c.in_ok-text.ensures ∙ c.as_slice.ensures) i) ∷ [])) c.requires.stands.told;
}

pub returns-in-Take : goal.returns-in-Take
returns-in-Take c =
    let b = c.args.self.now in
    let step = c.args.step.now in
    let prints = c.in_ok-push.ensures.items ∙ (λ i. b.said.items ++ Begins step.line ((c.in_ok-text.ensures ∙ c.as_slice.ensures) i) ∷ []) in
    let same = begun_stand b.chip c.turn_to.new.self c.of.result b.cores.items b.holders b.said.items c.push.new.self.items step c.turn_to.ensures.turns prints in
    let register = c.in-Take.register in
    let expect = c.in-Take.expect in
    if_ok c.take.result
    (λ stop made.
    subst (λ (d : Done). StandsOnBench d stop c.take.new.self)
    ((λ i. take_made step.line step.core register expect (same i) (holder_of (same i).holders register))
    ∙ ap (λ (act : Action). action_done step.line step.core act (with_line_begun step (bench_stand b))) (sym c.in-Take.is)) made) c.take.ensures

pub returns-in-Free : goal.returns-in-Free
returns-in-Free c =
    let b = c.args.self.now in
    let step = c.args.step.now in
    let prints = c.in_ok-push.ensures.items ∙ (λ i. b.said.items ++ Begins step.line ((c.in_ok-text.ensures ∙ c.as_slice.ensures) i) ∷ []) in
    let same = begun_stand b.chip c.turn_to.new.self c.of.result b.cores.items b.holders b.said.items c.push.new.self.items step c.turn_to.ensures.turns prints in
    let register = c.in-Free.register in
    if_ok c.free.result
    (λ stop made.
    subst (λ (d : Done). StandsOnBench d stop c.free.new.self)
    ((λ i. free_made step.line step.core register (same i) (holder_of (same i).holders register))
    ∙ ap (λ (act : Action). action_done step.line step.core act (with_line_begun step (bench_stand b))) (sym c.in-Free.is)) made) c.free.ensures

pub returns-in-WriteWord : goal.returns-in-WriteWord
returns-in-WriteWord c =
    let b = c.args.self.now in
    let step = c.args.step.now in
    let prints = c.in_ok-push.ensures.items ∙ (λ i. b.said.items ++ Begins step.line ((c.in_ok-text.ensures ∙ c.as_slice.ensures) i) ∷ []) in
    let same = begun_stand b.chip c.turn_to.new.self c.of.result b.cores.items b.holders b.said.items c.push.new.self.items step c.turn_to.ensures.turns prints in
    if_ok c.act.result
    (λ stop made.
    subst (λ (d : Done). StandsOnBench d stop c.act.new.self)
    ((λ i. core_done step.line step.core step.action (same i)) ∙ core_is step.line step.core (with_line_begun step (bench_stand b)) step.action c.in-WriteWord.is) made) c.act.ensures
