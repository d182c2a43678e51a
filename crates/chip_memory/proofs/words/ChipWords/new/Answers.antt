use Rattle.std.proofs.Common.{List, subst, sym}
use Rattle.scc_proto.specs.Words.{RankEvent}
use Rattle.chip_memory.specs.Steps.{AreWordsOf}
use Rattle.chip_memory.proofs.WordLaws.{words_at_first}
use Rattle.chip_memory.proofs.words.ChipWords.new.Goals as goal

pub invariant_of-result : goal.invariant_of-result
invariant_of-result c =
    let zeros = c.in_ok-numbers.ensures.zeros in
    subst (λ (run : List RankEvent). AreWordsOf run c.in_ok-numbers.numbers.items) (sym c.new.ensures) (words_at_first c.in_ok-numbers.numbers.items zeros.0 zeros.1)
