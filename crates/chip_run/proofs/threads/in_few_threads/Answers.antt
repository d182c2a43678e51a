use Rattle.std.proofs.Common.{ℕ, subst, arith}
use Rattle.chip_run.proofs.ServedLaws.{some_worker}
use Rattle.chip_run.proofs.threads.in_few_threads.Goals as goal

pub returns-clause-began : goal.returns-clause-began
returns-clause-began g c = λ i low.
    let d = some_worker c.args.crew.now (omega (arith, low)) in
    let part = (c.for_each_chunk_mut.ensures.by_index i d low).1 in
    let at = part.start_plus_offset in
    let inside = part.offset_in_chunk in
    let most = part.argument_is.at_most_size in (part.start, omega (arith, at), omega (arith, at, inside, most), (part.call part.offset d inside).2)

pub returns-clause-passed : goal.returns-clause-passed
returns-clause-passed g c = λ i low.
    let d = some_worker c.args.crew.now (omega (arith, low)) in
    let part = (c.for_each_chunk_mut.ensures.by_index i d low).1 in
    subst (λ (n : ℕ). g.G.Gate.passed c.args.gate.now n) part.start_plus_offset (part.call part.offset d part.offset_in_chunk).3
