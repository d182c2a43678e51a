use Rattle.std.proofs.Common.{◌∙◌, ◌-◌, ◌+◌, sym, arith}
use Rattle.plain_meaning.specs.Meaning.{keys_of}
use Rattle.check_program.specs.Waiting.{waits_for}
use Rattle.check_program.proofs.WaitingLaws.{walked_on}
use Rattle.check_program.proofs.walking.walk.Goals as goal

pub loop-preserved : goal.loop-preserved
loop-preserved c =
    let nue = c.args.scripts.now.nue in
    record {
      same = sym (walked_on (waits_for (keys_of c.args.scripts.now) c.args.ends.now) (nue - c.loop.counter) (nue - (c.loop.counter + 1)) c.loop.at c.in-Some.next
          (omega (arith, c.loop-test.true, c.nue-end.ensures.same)) (sym c.in-Some.ensures.gives))
          ∙ c.loop.invariant.same;
      below = c.in-Some.ensures.other.below;
    }
