use Rattle.std.proofs.Common.{◌≡◌, ℕ, ◌-◌, ◌==◌, ◌<◌, Bool, true, if◌then◌else◌, List, length, map, Option, slice_get, get_or, sym, ◌∙◌, ap}
use Rattle.std.proofs.lemmas.List.{get_or-map, length-map}
use Rattle.std.proofs.lemmas.Option.{slice_get_read}
use Rattle.texts.specs.Cuts.{line_count, lines_before}
use Rattle.texts.proofs.cuts.line_count.Goals as goal

-- where the last line has no bytes, those before it are counted
none_after : {A : Type 0} (of : A → List ℕ) (lines : List A) (n : ℕ) (last : A) → n ≡ length lines - 1 → n < length lines → last ≡ get_or lines n last → (length (of last) == 0) ≡ true → n ≡ line_count (map of lines)
none_after of lines n last at inside is empty =
    let all = map of lines in
    let many = length-map lines of in
    let here : n ≡ length all - 1 = at ∙ ap (λ (m : ℕ). m - 1) (sym many) in
    let read = slice_get_read all (length lines) n (of last) (sym many) inside (ap of is ∙ sym (get_or-map of lines n last (of last) inside)) in
    here ∙ sym (ap (λ (o : Option (List ℕ)). lines_before all (length all - 1) o) (ap (λ (k : ℕ). slice_get all k) (sym here) ∙ read) ∙ ap (λ (b : Bool). if b then length all - 1 else length all) empty)

-- Names the goal, so that the prover rejects a wrong body at once, without a search.
pub returns-then-is_empty-clause-same : goal.returns-then-is_empty-clause-same
returns-then-is_empty-clause-same c =
    let last = c.in-Some.ensures.lookup in
    none_after (λ line. line.now) c.args.lines.now c.saturating_sub-others.result c.in-Some.last.now c.saturating_sub-others.ensures last.3.0 last.1 (sym c.is_empty.ensures ∙ c.if-is_empty.true)
