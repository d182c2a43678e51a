use Rattle.std.proofs.Common.{◌≡◌, ◌∙◌, ℕ, [], ap, arith, replicate}
use Rattle.rcce_audit.specs.Grammar.{no_calls}
use Rattle.rcce_audit.proofs.lists.no_calls.Goals as goal

pub returns-clause-gives : goal.returns-clause-gives
unfolding no_calls
returns-clause-gives c = let full : c.loop-rank._rank ≡ 48 = omega arith in c.loop-rank.invariant.lists ∙ ap (λ (n : ℕ). replicate n []) full
