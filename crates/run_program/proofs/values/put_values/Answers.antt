use Rattle.std.proofs.Common.{◌≡◌, ℤ, ℕ, ◌-◌, ◌++◌, List, codes, drop, length, ap, sym, ◌∙◌, arith}
use Rattle.std.specs.Fmt.{signed_decimal}
use Rattle.std.specs.Int.{w64}
use Rattle.std.proofs.lemmas.Int.{to_z-of_z}
use Rattle.groups.specs.Folds.{typed_value_at}
use Rattle.run_program.specs.Texts.{values_text_from}
use Rattle.run_program.proofs.ValueLemmas.{values-back, values-none}
use Rattle.run_program.proofs.values.put_values.Goals as goal

pub loop-i-init : goal.loop-i-init
loop-i-init c = record {
  low = omega arith;
  high = omega arith;
  room = omega arith;
  within = omega arith;
  written = values-none c.args.ty c.args.bytes.now c.args.to (length c.args.text.now) c.args.text.now (omega arith);
}

pub loop-i-preserved : goal.loop-i-preserved
loop-i-preserved c =
    let i = c.loop-i.i in
    let ty = c.args.ty in
    let bytes = c.args.bytes.now in
    let rest = drop c.loop-i.at c.loop-i.text in
    let value = to_z-of_z w64 c.value_at.result (record { sfits = c.value_at.type_inv }) ∙ c.value_at.ensures in
    record {
      low = omega arith;
      high = omega arith;
      room = omega arith;
      within = omega arith;
      written = c.put_value-at.ensures.written
          ∙ ap (λ (v : ℤ). codes " " ++ (signed_decimal v ++ rest)) value
          ∙ ap (λ (t : List ℕ). codes " " ++ (signed_decimal (typed_value_at ty bytes (i - 1)) ++ t)) c.loop-i.invariant.written
          ∙ sym (values-back ty bytes i (i - 1) (c.args.to - i) (c.args.to - (i - 1)) (omega arith) (omega arith));
    }

pub returns-clause-written : goal.returns-clause-written
returns-clause-written c =
    let from : c.loop-i.i ≡ c.args.from = omega arith in
    c.loop-i.invariant.written ∙ ap (λ (n : ℕ). values_text_from c.args.ty c.args.bytes.now n (c.args.to - n)) from
