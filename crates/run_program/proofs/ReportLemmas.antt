-- Lines of units of execution, by rank.
use Rattle.std.proofs.Common.{◌≡◌, ℕ, ◌+◌, ◌<◌, List, [], ◌∷◌, ◌++◌, length, take, drop, get_or, sym, ap, ◌∙◌, append_assoc, add-zero, arith}
use Rattle.std.proofs.lemmas.List.{take-append-drop, take_more, append-nil, length-take}
use Rattle.script_machine.specs.declared.ends.UeEnd.{UeEnd}
use Rattle.plain_meaning.specs.Ends.{Ended, ended_at, nothing_ended}
use Rattle.run_program.specs.Reports.{lines_by_rank, end_text, unfinished_text}

-- the lines of two lists, the second of which goes on in the ranks
lines_by_rank-append : (text : ℕ → Ended → List ℕ) (rank : ℕ) (a b : List Ended) →
    lines_by_rank text rank (a ++ b) ≡ lines_by_rank text rank a ++ lines_by_rank text (rank + length a) b
lines_by_rank-append text rank [] b = ap (λ r. lines_by_rank text r b) (sym (add-zero rank))
lines_by_rank-append text rank (ue ∷ a) b =
    let next : rank + 1 + length a ≡ rank + length (ue ∷ a) = omega arith in
    ap (λ t. text rank ue ++ t) (lines_by_rank-append text (rank + 1) a b)
    ∙ sym (append_assoc (text rank ue) (lines_by_rank text (rank + 1) a) (lines_by_rank text (rank + 1 + length a) b))
    ∙ ap (λ r. (text rank ue ++ lines_by_rank text (rank + 1) a) ++ lines_by_rank text r b) next

-- the lines of the first ranks, and of the next one
pub lines_by_rank-more : (text : ℕ → Ended → List ℕ) (ues : List Ended) (i : ℕ) (d : Ended) → i < length ues →
    lines_by_rank text 0 (take (i + 1) ues) ≡ lines_by_rank text 0 (take i ues) ++ text i (get_or ues i d)
lines_by_rank-more text ues i d within =
    let at : 0 + length (take i ues) ≡ i = omega (arith, length-take i ues) in
    ap (lines_by_rank text 0) (take_more ues i d within) ∙ lines_by_rank-append text 0 (take i ues) (get_or ues i d ∷ [])
    ∙ ap (λ t. lines_by_rank text 0 (take i ues) ++ t) (append-nil _) ∙ ap (λ r. lines_by_rank text 0 (take i ues) ++ text r (get_or ues i d)) at

-- and of the ranks behind it
pub lines_by_rank-parts : (text : ℕ → Ended → List ℕ) (ues : List Ended) (i : ℕ) (d : Ended) → i < length ues →
    lines_by_rank text 0 ues ≡ lines_by_rank text 0 (take i ues) ++ (text i (get_or ues i d) ++ lines_by_rank text (0 + length (take (i + 1) ues)) (drop (i + 1) ues))
lines_by_rank-parts text ues i d within =
    ap (lines_by_rank text 0) (sym (take-append-drop (i + 1) ues)) ∙ lines_by_rank-append text 0 (take (i + 1) ues) (drop (i + 1) ues)
    ∙ ap (λ t. t ++ lines_by_rank text (0 + length (take (i + 1) ues)) (drop (i + 1) ues)) (lines_by_rank-more text ues i d within)
    ∙ append_assoc (lines_by_rank text 0 (take i ues)) (text i (get_or ues i d)) _

-- the line of an end that a rank came to
end_text-at : (ues : List Ended) (number rank : ℕ) (end : UeEnd) → end ≡ (ended_at ues rank).end → rank ≡ number →
    unfinished_text number (ended_at ues number) ≡ end_text rank end
end_text-at ues number rank end ended same =
    sym (ap (end_text rank) ended ∙ ap (λ r. end_text r (ended_at ues r).end) same)

-- the lines of the first ends, and of the next one
pub unfinished-more : (ues : List Ended) (number rank : ℕ) (end : UeEnd) → number < length ues → end ≡ (ended_at ues rank).end → rank ≡ number →
    lines_by_rank unfinished_text 0 (take (number + 1) ues) ≡ lines_by_rank unfinished_text 0 (take number ues) ++ end_text rank end
unfinished-more ues number rank end within ended same =
    lines_by_rank-more unfinished_text ues number nothing_ended within
    ∙ ap (λ t. lines_by_rank unfinished_text 0 (take number ues) ++ t) (end_text-at ues number rank end ended same)

-- and of the ends behind it
pub unfinished-parts : (ues : List Ended) (number rank : ℕ) (end : UeEnd) → number < length ues → end ≡ (ended_at ues rank).end → rank ≡ number →
    lines_by_rank unfinished_text 0 ues ≡ lines_by_rank unfinished_text 0 (take number ues) ++ (end_text rank end ++ lines_by_rank unfinished_text (0 + length (take (number + 1) ues)) (drop (number + 1) ues))
unfinished-parts ues number rank end within ended same =
    lines_by_rank-parts unfinished_text ues number nothing_ended within
    ∙ ap (λ t. lines_by_rank unfinished_text 0 (take number ues) ++ (t ++ lines_by_rank unfinished_text (0 + length (take (number + 1) ues)) (drop (number + 1) ues))) (end_text-at ues number rank end ended same)
