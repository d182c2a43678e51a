-- Steps of a reading, one after another.
use Rattle.std.proofs.Common.{◌≡◌, Option, Some, None, sym, ◌∙◌, ap}
use Rattle.rcce_audit.specs.Words.{◌>>=◌}

module _ {A B : Type 0} (o p : Option A) (next : A → Option B) (gives : p ≡ o) where
  -- where the first step gives nothing the whole does not
  pub stops : p ≡ None → (o >>= next) ≡ None
  stops none = ap (λ (q : Option A). q >>= next) (sym gives ∙ none)

  -- where it gives a value the second follows
  pub goes : (x : A) → p ≡ Some x → (o >>= next) ≡ next x
  goes x some = ap (λ (q : Option A). q >>= next) (sym gives ∙ some)
