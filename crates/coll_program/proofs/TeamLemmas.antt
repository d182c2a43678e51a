-- The ranks of a job and the bytes that they hand in.
use Rattle.std.proofs.Common.{◌≡◌, ℕ, ◌+◌, ◌<◌, List, [], ◌∷◌, ◌++◌, length, map, slice_index_or, sym, ◌∙◌, ap, subst, arith, length-append}
use Rattle.std.specs.List.{range_with_len}
use Rattle.std.proofs.lemmas.List.{length-map, map-append}
use Rattle.std.proofs.lemmas.List.FromFn.{length-range_with_len}
use Rattle.chip_run.proofs.OrderLaws.{range_more}
use Rattle.coll_more.specs.Tables.{src_len_of}
use Rattle.coll_run.specs.Teams.{HasJoined, MemberView}
use Rattle.coll_run.proofs.JoinLemmas.{each_joined}
use Rattle.coll_program.specs.Jobs.{handed_byte, src_of}
use Rattle.coll_program.specs.Runs.{AreRanksOf}
use Rattle.coll_program.specs.declared.command.Job.{Job}

-- ---- what a rank hands in

-- one byte more
pub byte_more : (f : ℕ → ℕ) (n b : ℕ) (items later : List ℕ) → items ≡ map f (range_with_len 0 n) → later ≡ items ++ b ∷ [] → b ≡ f n → later ≡ map f (range_with_len 0 (n + 1))
byte_more f n b items later so_far is byte =
    is
    ∙ (λ i. so_far i ++ byte i ∷ [])
    ∙ sym (map-append f (range_with_len 0 n) (n ∷ []))
    ∙ ap (map f) (sym (range_more 0 n n (omega arith)))

pub src_long : (job : Job) (rank : ℕ) (src : List ℕ) (count : ℕ) → src ≡ src_of job rank → rank ≡ count → length src ≡ src_len_of job.more count job.nue job.len
src_long job rank src count is same =
    ap length is
    ∙ length-map (range_with_len 0 (src_len_of job.more rank job.nue job.len)) (handed_byte job.more rank job.len)
    ∙ length-range_with_len 0 (src_len_of job.more rank job.nue job.len)
    ∙ ap (λ (r : ℕ). src_len_of job.more r job.nue job.len) same

-- ---- the ranks of a job

pub rank_more : (job : Job) (count rank : ℕ) (team later : List MemberView) (src : List ℕ) → AreRanksOf job count team → HasJoined job.more job.len job.nue team src later → src ≡ src_of job rank → rank ≡ count
    → AreRanksOf job (count + 1) later
rank_more job count rank team later src are has is same = record {
  each = (let long = length-append team (has.joined ∷ []) in let all = ap length has.is in let each = are.each in omega (arith, long, all, each));
  fresh = has.fresh;
  src = λ k d low.
      subst (λ (l : List MemberView). (slice_index_or l k d).src ≡ src_of job k) (sym has.is)
      (each_joined (λ j m. m.src ≡ src_of job j) team has.joined are.src
      (has.src_is ∙ is ∙ ap (src_of job) (same ∙ sym are.each)) k d (subst (λ (l : List MemberView). k < length l) has.is low));
}
