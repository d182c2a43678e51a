use Rattle.std.proofs.Common.{◌≡◌, ◌<◌, ◌∙◌, ℕ, List, [], ◌∷◌, None, arith, length, map, refl}
use Rattle.std.proofs.lemmas.List.{length-map}
use Rattle.lab_reader.specs.Said.{read_after, read_afterwards}
use Rattle.lab_reader.proofs.said.read_after.Goals as goal

short : (own : ℕ) (at : List ℕ) (words : List (List ℕ)) → length words < 2 → read_afterwards own at None words ≡ read_after own at words
short own at [] few = refl
short own at (word ∷ []) few = refl
short own at (word ∷ line ∷ words) few = absurd (omega (arith, few))

pub returns-in_default : goal.returns-in_default
returns-in_default c =
    c.read_afterwards.ensures ∙ short c.args.own c.args.at.now (map (λ word. word.now) c.args.words.now) (omega (arith, c.in_default.len_below, length-map c.args.words.now (λ word. word.now)))
