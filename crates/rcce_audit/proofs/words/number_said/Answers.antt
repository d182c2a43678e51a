use Rattle.std.proofs.Common.{Option, List, ℕ, sym, ◌∙◌, ap}
use Rattle.std.proofs.lemmas.Bool.{cond-false}
use Rattle.std.specs.Str.{bytes_eq}
use Rattle.rcce_audit.specs.Words.{◌>>=◌, exact_spelling}
use Rattle.rcce_audit.proofs.words.number_said.Goals as goal

-- Names the goal, so that the prover rejects a wrong body at once, without a search.
pub returns-else-eq : goal.returns-else-eq
returns-else-eq c =
    sym (ap (λ (o : Option ℕ). o >>= exact_spelling c.args.word.now) (sym c.number.ensures ∙ c.in-Some.is)
    ∙ cond-false _ _ _ (ap (λ (t : List ℕ). bytes_eq t c.args.word.now) (sym (c.as_bytes.ensures.value ∙ c.format.ensures.text)) ∙ (sym c.eq.ensures ∙ c.if-eq.false)))
