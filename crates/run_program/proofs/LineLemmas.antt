-- The parts of a printed register's line.
use Rattle.std.proofs.Common.{◌≡◌, ℕ, List, ◌++◌, codes, decimal, ap, ◌∙◌, append_assoc}
use Rattle.run_program.specs.Texts.{item_front}

-- the front of a line, and what comes behind it
pub front-then : (rank : ℕ) (name rest : List ℕ) →
    item_front rank name ++ rest ≡ codes "ue " ++ (decimal rank ++ (codes " " ++ (name ++ (codes " " ++ rest))))
front-then rank name rest =
    ap (λ (t : List ℕ). codes "ue " ++ t) (append_assoc (decimal rank ++ codes " ") (name ++ codes " ") rest
    ∙ append_assoc (decimal rank) (codes " ") ((name ++ codes " ") ++ rest)
    ∙ ap (λ (t : List ℕ). decimal rank ++ (codes " " ++ t)) (append_assoc name (codes " ") rest))
