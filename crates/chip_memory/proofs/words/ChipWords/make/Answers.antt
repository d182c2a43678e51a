use Rattle.std.proofs.Common.{List, ◌∷◌, ◌++◌, [], ◌∙◌, ap, subst, sym}
use Rattle.scc_proto.specs.Words.{RankEvent}
use Rattle.chip_memory.specs.Steps.{AreWordsOf}
use Rattle.chip_memory.proofs.WordLaws.{words_more}
use Rattle.chip_memory.proofs.words.ChipWords.make.Goals as goal

pub invariant_of-self : goal.invariant_of-self
invariant_of-self c =
    let w = c.self.inside in
    subst (λ (run : List RankEvent). AreWordsOf run c.write.new.numbers.items) (sym (c.and-self-inside.ensures ∙ ap (λ (m : RankEvent). w.made.items ++ m ∷ []) c.new.ensures.gives))
    (words_more w.made.items w.numbers.items c.write.new.numbers.items (record { rank = c.args.rank; event = c.args.event.now }) c.self.invariant c.write.ensures.count c.write.ensures.makes)
