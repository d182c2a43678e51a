use Rattle.std.proofs.Common.{◌≡◌, true, nat_lt, List, [], ◌∷◌, length, slice_index_or, ap, sym}
use Rattle.script_machine.specs.declared.course.Open.{Open}
use Rattle.script_machine.proofs.nestings.flat_passes.Goals as goal

-- the first of some open repeats
front_open : (repeats : List Open) (o : Open) → true ≡ nat_lt 0 (length repeats) → o ≡ slice_index_or repeats 0 o → (around : List Open) × (repeats ≡ o ∷ around)
front_open [] o some first = absurd (cc)
front_open (p ∷ around) o some first = (around, ap (λ (q : Open). q ∷ around) (sym first))

pub returns : goal.returns
returns c = λ some.
    let o = c.in-Some.open.now in
    let front = front_open c.args.repeats.now.items o c.in-Some.ensures.item.0 c.in-Some.ensures.lookup in
    record { start = o.start; around = front.0; front = front.1; flat = c.is_flat.ensures c.if-not-is_flat.false }
