use Rattle.std.proofs.Common.{◌≡◌, ◌+◌, ◌-◌, arith, refl}
use Rattle.std.specs.Int.{w64}
use Rattle.std.proofs.lemmas.Int.{to_z-of_z}
use Rattle.std.proofs.lemmas.List.{drop-set}
use Rattle.run_program.proofs.values.put_value.Goals as goal

pub returns-clause-written : goal.returns-clause-written
returns-clause-written c =
    let s = c.put_signed-start in
    let e : s.result - 1 + 1 ≡ s.result = omega arith in
    let back = to_z-of_z w64 c.args.value c.ranges.value in
    rw (drop-set s.new.text (s.result - 1) 32 (omega arith), e, s.ensures.written, back) refl
