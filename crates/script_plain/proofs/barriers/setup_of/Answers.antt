use Rattle.std.proofs.Common.{arith, sym, ◌∙◌}
use Rattle.script_plain.proofs.barriers.setup_of.Goals as goal

-- each rank is on a core of its own
pub setup-requires : goal.setup-requires
setup-requires c =
    record {
      apart = λ r q low below same.
          let here = c.loop-number.invariant r (omega (arith, low, below, c.loop-number-test.false, c.nue-number-end.ensures.same)) in
          let there = c.loop-number.invariant q (omega (arith, below, c.loop-number-test.false, c.nue-number-end.ensures.same)) in
          absurd (omega (arith, low, sym here ∙ same ∙ there));
    }
