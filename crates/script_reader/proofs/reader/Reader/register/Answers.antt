use Rattle.std.proofs.Common.{◌≡◌, ◌∙◌, ◌<◌, ◌≤◌, ◌+◌, ◌++◌, ◌∷◌, ℕ, [], Bool, List, ap, arith, cond, length, length-append, subst, sym}
use Rattle.std.proofs.lemmas.Bool.{eq-eqb, ne_eqb}
use Rattle.script_reader.specs.Progress.{ReadingSoFar, register_of, with_name}
use Rattle.script_reader.specs.Kept.{IsKept}
use Rattle.script_reader.proofs.ReaderLemmas.{kept-names}
use Rattle.script_reader.proofs.reader.Reader.register.Goals.{Joined-place-len, then-place-len+in_ok-push, else-place-len}
use Rattle.script_reader.proofs.reader.Reader.register.Goals as goal

-- the names after a new name, and after a known one
new-name : (p : ReadingSoFar) (name : List ℕ) (names : List (List ℕ)) → register_of p.names name ≡ length p.names → names ≡ p.names ++ name ∷ [] → names ≡ with_name p.names name
new-name p name names new is = is ∙ sym (ap (λ (b : Bool). cond b (p.names ++ name ∷ []) p.names) (eq-eqb (register_of p.names name) (length p.names) new))

old-name : (p : ReadingSoFar) (name : List ℕ) → (register_of p.names name ≡ length p.names → ⊥) → p.names ≡ with_name p.names name
old-name p name old = sym (ap (λ (b : Bool). cond b (p.names ++ name ∷ []) p.names) (ne_eqb (register_of p.names name) (length p.names) old))

one-more : (at old new : ℕ) → at ≡ old → new ≡ old + 1 → (at < new) × (old ≤ new) × (new ≤ old + 1)
one-more at old new is more = (omega (arith, is, more), omega (arith, more), omega (arith, more))

as-many : (at old new : ℕ) → (at ≡ old → ⊥) → at ≤ old → new ≡ old → (at < new) × (old ≤ new) × (new ≤ old + 1)
as-many at old new is within same = (omega (arith, is, within, same), omega (arith, same), omega (arith, same))

-- the place by the names that were there
place : (c : Joined-place-len) → c.place_of-place.result ≡ register_of c.args.self.now.names c.args.name
place c = c.place_of-place.ensures.place ∙ ap (λ (names : List (List ℕ)). register_of names c.args.name) (c.deref.ensures.value ∙ ap (λ (p : ReadingSoFar). p.names) c.self.view_is)

pub returns-clause-gives : goal.returns-clause-gives
returns-clause-gives c = place c

-- how many names there were
many : (c : Joined-place-len) → c.len.result ≡ length c.args.self.now.names
many c = c.len.ensures ∙ c.self.inside.names.ok.0 ∙ ap (λ (p : ReadingSoFar). length p.names) c.self.view_is

pub returns-clause-named : goal.returns-clause-named
returns-clause-named c =
    let p = c.args.self.now in
    elim c.if-place-len.branch [
      | then-place-len+in_ok-push w ↦
          w.self-is
          ∙ ap (λ (p : ReadingSoFar). record p { names = w.push.new.self.items }) c.self.view_is
          ∙ ap (λ (names : List (List ℕ)). record p { names = names })
          (new-name p c.args.name w.push.new.self.items (sym (place c) ∙ w.if-place-len.true ∙ many c) (w.in_ok-push.ensures.items ∙ ap (λ (p : ReadingSoFar). p.names ++ c.args.name ∷ []) c.self.view_is))
      | else-place-len w ↦
          w.self-is ∙ ap (λ (names : List (List ℕ)). record p { names = names }) (old-name p c.args.name (λ is. w.if-place-len.false (place c ∙ is ∙ sym (many c))))
    ]

-- at a new name there is one more, and at a known one its place is below their number
counts : (c : Joined-place-len) → (c.place_of-place.result < length c.if-place-len.self.names) × (length c.args.self.now.names ≤ length c.if-place-len.self.names) × (length c.if-place-len.self.names ≤ length c.args.self.now.names + 1)
counts c =
    elim c.if-place-len.branch [
      | then-place-len+in_ok-push w ↦
          one-more c.place_of-place.result (length c.args.self.now.names) (length c.if-place-len.self.names) (w.if-place-len.true ∙ many c)
          (ap (λ (p : ReadingSoFar). length p.names) w.self-is ∙ ap length w.in_ok-push.ensures.items ∙ length-append c.self.inside.names.items (c.args.name ∷ []) ∙ ap (λ (p : ReadingSoFar). length p.names + 1) c.self.view_is)
      | else-place-len w ↦
          as-many c.place_of-place.result (length c.args.self.now.names) (length c.if-place-len.self.names) (λ is. w.if-place-len.false (is ∙ sym (many c)))
          (subst (λ (names : List (List ℕ)). c.place_of-place.result ≤ length names) (c.deref.ensures.value ∙ ap (λ (p : ReadingSoFar). p.names) c.self.view_is) c.place_of-place.ensures.within)
          (ap (λ (p : ReadingSoFar). length p.names) w.self-is)
    ]

pub returns-clause-within : goal.returns-clause-within
returns-clause-within c = (counts c).0

pub returns-clause-kept : goal.returns-clause-kept
returns-clause-kept c = (counts c).1

pub returns-clause-more : goal.returns-clause-more
returns-clause-more c = (counts c).2

pub invariant_of-self : goal.invariant_of-self
invariant_of-self c =
    let inside = c.self.inside in
    kept-names inside.version inside.nue inside.items.items inside.names.items c.push.new.self.items inside.run inside.repeats.items inside.tallies.items
    (omega (arith, ap length c.in_ok-push.ensures.items, length-append inside.names.items (c.args.name ∷ []))) c.self.invariant

pub invariant_of-self-in_err-push : goal.invariant_of-self-in_err-push
invariant_of-self-in_err-push c =
    let inside = c.self.inside in
    subst (λ (names : List (List ℕ)). IsKept inside.version inside.nue inside.items.items names inside.run inside.repeats.items inside.tallies.items) (sym c.in_err-push.ensures.items) c.self.invariant
