use Rattle.std.proofs.Common.{◌≡◌, ◌∙◌, ℕ, ap, arith, replicate, sym}
use Rattle.std.specs.Prelude.{option_map}
use Rattle.mesh_program.proofs.CoreLaws.{finished, started, stepped, too_many, twice}
use Rattle.mesh_program.proofs.cores.listed_cores.Goals as goal

pub loop-number-init : goal.loop-number-init
loop-number-init c = started c.args.word.now (replicate 48 c.of-at.result) (ap (λ (x : ℕ). replicate 48 x) c.of-at.ensures.gives)

pub returns-then-is_taken : goal.returns-then-is_taken
returns-then-is_taken c =
    let so_far = rw c.in_ok-rest.was at c.loop-number.invariant in
    sym (twice c.args.word.now c.args.nue c.loop-number.number c.loop-number.at c.in_ok-rest.field-0.now c.cut_word-cut.result.first.now (option_map (λ rest. rest.now) c.cut_word-cut.result.rest) c.in_ok-core.core
    so_far c.cut_word-cut.ensures (sym c.in_ok-core.ensures) (sym c.is_taken.ensures ∙ c.if-is_taken.true))

pub loop-number-preserved : goal.loop-number-preserved
loop-number-preserved c =
    let so_far = rw c.in_ok-rest.was at c.loop-number.invariant in
    stepped c.args.word.now c.loop-number.number c.loop-number.at c.in_ok-rest.field-0.now c.cut_word-cut.result.first.now (option_map (λ rest. rest.now) c.cut_word-cut.result.rest) c.in_ok-core.core
    so_far c.cut_word-cut.ensures (sym c.in_ok-core.ensures) (sym c.is_taken.ensures ∙ c.if-is_taken.false) (omega (arith, c.loop-number-test.true, c.requires))

pub returns-in-Some : goal.returns-in-Some
returns-in-Some c =
    let so_far = rw c.in-Some.is at c.loop-number.invariant in
    let all : c.loop-number.number ≡ c.args.nue = omega (arith, c.loop-number-test.false, c.loop-number.auto.number-end) in
    sym (too_many c.args.word.now c.args.nue c.loop-number.at c.in-Some.field-0.now (rw all at so_far))

pub returns-in-None : goal.returns-in-None
returns-in-None c =
    let so_far = rw c.in-None.is at c.loop-number.invariant in
    let all : c.loop-number.number ≡ c.args.nue = omega (arith, c.loop-number-test.false, c.loop-number.auto.number-end) in
    sym (finished c.args.word.now c.args.nue c.loop-number.at c.requires (rw all at so_far))
