use Rattle.std.proofs.Common.{◌≡◌, ◌*◌, ◌+◌, ◌-◌, arith, refl, ◌∙◌}
use Rattle.std.specs.Int.{w64}
use Rattle.std.proofs.lemmas.Int.{to_z-of_z}
use Rattle.groups.specs.Folds.{bytes_in}
use Rattle.run_program.proofs.ValueLemmas.{value_here}
use Rattle.run_program.proofs.values.value_at.Goals as goal

pub returns : goal.returns
returns c =
    let w = c.width-width.result in
    let i = c.args.i in
    let at : i * w ≡ i * bytes_in c.args.ty = rw c.width-width.ensures.gives refl in
    let wide : i * w + w - i * w ≡ bytes_in c.args.ty = omega (arith, c.width-width.ensures.gives) in
    to_z-of_z w64 c.value_in.result (record { sfits = c.value_in.type_inv })
    ∙ c.value_in.ensures ∙ value_here c.args.ty c.args.bytes.now i (i * w) (i * w + w - i * w) at wide
