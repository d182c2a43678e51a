use Rattle.std.proofs.Common.{ℕ, List, length, slice_index, ◌∙◌, ap}
use Rattle.scc_mesh.proofs.TableLaws.{kept_at_start}
use Rattle.scc_mesh.proofs.space.Space.new.Goals as goal

pub of_words-requires : goal.of_words-requires
of_words-requires c =
    let made = c.in_ok-words.ensures.zeros in
    let same = c.as_slice.ensures.value in
    kept_at_start c.args.setup c.as_slice.result.now (λ k. ap (λ (l : List ℕ). slice_index l k) same ∙ made.1 k) c.nue-nue.ensures.valid (ap (λ (l : List ℕ). length l) same ∙ made.0)

pub invariant_of-space : goal.invariant_of-space
invariant_of-space c =
    let made = c.in_ok-table.ensures in
    (made.5, made.0 ∙ ap (λ (l : List ℕ). length l) c.as_slice.ensures.value ∙ c.in_ok-words.ensures.zeros.0)
