use Rattle.std.proofs.Common.{◌≡◌, ◌<◌, ℕ, Bool, false, length, arith}
use Rattle.scc_base.specs.Setups.{setup_key}
use Rattle.check_program.specs.Waiting.{is_absent_from, lowest_absent}
use Rattle.check_program.proofs.WaitingLaws.{not_absent, not_member, still_first}
use Rattle.check_program.proofs.waiting.lowest_absent.Goals as goal
use Rattle.check_program.proofs.waiting.lowest_absent.Goals.{else-is_with-via-then-is_with+else-not-is_at_barrier, else-is_with-via-else-is_with}

pub loop-number-preserved : goal.loop-number-preserved
loop-number-preserved c =
    let keys = setup_key c.args.setup.now in
    let ends = c.args.end.now in
    let test : ℕ → Bool = is_absent_from keys ends c.args.comm c.args.rank in
    let within : c.loop-number.number < length ends = omega (arith, c.loop-number-test.true, c.requires.ranks, c.nue-number-end.ensures.gives) in
    let fails : test c.loop-number.number ≡ false = elim c.else-is_with.branch [
      | else-is_with-via-then-is_with+else-not-is_at_barrier w ↦
          not_absent keys ends c.args.comm c.args.rank c.loop-number.number c.of-other.result c.of-other.ensures.gives w.is_at_barrier.result w.is_at_barrier.ensures w.if-not-is_at_barrier.false
      | else-is_with-via-else-is_with w ↦
          not_member keys ends c.args.comm c.args.rank c.loop-number.number c.of-other.result c.of-other.ensures.gives c.is_with.result c.is_with.ensures w.if-is_with.false
    ] in
    still_first test (length ends) c.loop-number.number (lowest_absent keys ends c.args.comm c.args.rank) within fails c.loop-number.invariant
