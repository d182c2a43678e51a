use Rattle.std.proofs.Common.{List, ◌∙◌, ap}
use Rattle.scc_proto.specs.Histories.{memory_from}
use Rattle.scc_proto.specs.Words.{Memory, RankEvent, zeros}
use Rattle.chip_memory.specs.Steps.{stands_by}
use Rattle.chip_memory.proofs.WordLaws.{found_at}
use Rattle.chip_memory.proofs.words.ChipWords.stands_at.Goals as goal

pub returns-clause-gives : goal.returns-clause-gives
returns-clause-gives c =
    let w = c.self.inside in
    let n = c.number_of in
    found_at w.numbers.items c.self.invariant.count c.args.access c.args.place n.ensures.there n.result n.ensures.gives c.index.result.now c.index.ensures
    ∙ ap (λ (m : Memory). stands_by c.args.access c.args.place m) c.self.invariant.words
    ∙ ap (λ (run : List RankEvent). stands_by c.args.access c.args.place (memory_from zeros run)) c.self.view_is
