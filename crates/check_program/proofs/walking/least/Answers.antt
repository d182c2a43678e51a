use Rattle.std.proofs.Common.{◌≡◌, ◌∙◌, ◌-◌, ◌+◌, min, sym, arith}
use Rattle.plain_meaning.specs.Meaning.{keys_of}
use Rattle.check_program.specs.Waiting.{waits_for}
use Rattle.check_program.proofs.WaitingLaws.{least_on}
use Rattle.check_program.proofs.walking.least.Goals as goal
use Rattle.check_program.proofs.walking.least.Goals.{then-number, else-number}

pub loop-preserved : goal.loop-preserved
loop-preserved c =
    let nue = c.args.scripts.now.nue in
    let made : c.if-number.least ≡ min c.loop.least c.in-Some.next = elim c.if-number.branch [
      | then-number w ↦ omega (arith, w.least-is, w.if-number.true, c.number.ensures.gives, c.number-in-Some.ensures.gives)
      | else-number w ↦ omega (arith, w.least-is, w.if-number.false, c.number.ensures.gives, c.number-in-Some.ensures.gives)
    ] in
    record {
      same = least_on (waits_for (keys_of c.args.scripts.now) c.args.ends.now) (nue - c.loop.counter) (nue - (c.loop.counter + 1)) c.loop.at c.in-Some.next c.loop.least c.if-number.least
          (omega (arith, c.loop-test.true, c.nue-end.ensures.same)) (sym c.in-Some.ensures.gives) c.loop.invariant.low made
          ∙ c.loop.invariant.same;
      low = omega (arith, made);
      below = c.in-Some.ensures.other.below;
    }
