use Rattle.std.proofs.Common.{ℕ, ◌+◌, ◌%◌, ◌≤◌, arith, rules}
use Rattle.std.proofs.lemmas.List.FromFn.{length-map-range_with_len}
use Rattle.script_machine.proofs.statements.single_of.Goals as goal

pub returns-in-Fill-clause-short : goal.returns-in-Fill-clause-short
returns-in-Fill-clause-short c =
    let all = length-map-range_with_len (λ (i : ℕ). (c.in-Fill.start + i) % 251) 0 c.in-Fill.len in
    let sized : c.in-Fill.len ≤ 65536 = rw c.in-Fill.is at c.requires.sized in
    omega (arith, all, sized)

-- Names the goal, so that the prover rejects a wrong body at once, without a search.
pub returns-in-Split-clause-same : goal.returns-in-Split-clause-same
returns-in-Split-clause-same c = search rules
