-- A run with a witness goes on by a round and a sweep.
use Rattle.std.proofs.Common.{◌≡◌, ℕ, ◌+◌, ◌*◌, suc, zero, List, [], ◌++◌, length, refl, sym, ◌∙◌, ap, subst, arith}
use Rattle.std.specs.List.{range_with_len}
use Rattle.rand_pcg.specs.Lcg.{Lcg}
use Rattle.rand_pcg.specs.Pcg.{pcg32}
use Rattle.scc_proto.specs.Words.{RankEvent}
use Rattle.scc_mesh.specs.Scenes.{ChipView}
use Rattle.chip_run.specs.Orders.{TurnsOf, generator_after, drawn_in, named_ranks, ranks_by}
use Rattle.chip_run.specs.Behaves.{Behaviour}
use Rattle.chip_run.proofs.OrderLaws.{turns_then}
use Rattle.trace_run.specs.Runs.{RoundsHeard}
use Rattle.trace_run.specs.Seen.{StillWanted, ToldAll}
use Rattle.trace_run.proofs.SeenLaws.{told_still}

module _ (nue : ℕ) (g : Lcg) where
  none_ranks : ranks_by pcg32 nue 0 g ≡ []
  unfolding ranks_by
  none_ranks = refl

  more_ranks : (n : ℕ) → ranks_by pcg32 nue (n + 1) g ≡ ranks_by pcg32 nue n g ++ (named_ranks pcg32 nue (1000 * nue) (drawn_in pcg32 nue n g) ++ range_with_len 0 nue)
  unfolding ranks_by
  more_ranks n = let e : n + 1 ≡ suc n = omega arith in ap (λ (k : ℕ). ranks_by pcg32 nue k g) e

  none_in : drawn_in pcg32 nue 0 g ≡ g
  unfolding drawn_in
  none_in = refl

  more_drawn : (n : ℕ) → drawn_in pcg32 nue (n + 1) g ≡ generator_after pcg32 (1000 * nue) (drawn_in pcg32 nue n g)
  unfolding drawn_in
  more_drawn n = let e : n + 1 ≡ suc n = omega arith in ap (λ (k : ℕ). drawn_in pcg32 nue k g) e

module _ {A : Type 0} (c : Behaviour A) (first : Lcg) where
  -- what was wanted at the start of each round still was later
  pub heard_more : (wanted after : List RankEvent → Type 0) (n : ℕ) (chip now : ChipView) (crew later : List A) → StillWanted wanted after
      → RoundsHeard c wanted first n chip crew now later → RoundsHeard c after first n chip crew now later
  heard_more wanted after zero chip now crew later more same = same
  heard_more wanted after (suc n) chip now crew later more (mid, some, before, told, turns) =
      (mid, some, heard_more wanted after n chip mid crew some more before, told_still wanted after mid more told, turns)

  -- one round more
  pub heard_next : (wanted after : List RankEvent → Type 0) (n : ℕ) (chip mid last : ChipView) (crew some later : List A) → StillWanted wanted after
      → RoundsHeard c wanted first n chip crew mid some → ∥ ToldAll after mid ∥₁
      → TurnsOf c (named_ranks pcg32 (length crew) (1000 * length crew) (drawn_in pcg32 (length crew) n first) ++ range_with_len 0 (length crew)) mid some last later
      → RoundsHeard c after first (suc n) chip crew last later
  heard_next wanted after n chip mid last crew some later more before told turns = (mid, some, heard_more wanted after n chip mid crew some more before, told, turns)

-- the generator and the turns after so many rounds, before each of which the witness wanted to be told more
pub record AtRound {A : Type 0} (c : Behaviour A) (wanted : List RankEvent → Type 0) (first : Lcg) (n : ℕ) (picks : Lcg) (chip : ChipView) (crew : List A) (now : ChipView) (later : List A) : Type 0 where
  pub drew : picks ≡ drawn_in pcg32 (length crew) n first
  pub turns : TurnsOf c (ranks_by pcg32 (length crew) n first) chip crew now later
  pub heard : RoundsHeard c wanted first n chip crew now later

pub at_first : {A : Type 0} (c : Behaviour A) (wanted : List RankEvent → Type 0) (first picks : Lcg) (chip : ChipView) (crew : List A) → picks ≡ first → AtRound c wanted first 0 picks chip crew chip crew
at_first c wanted first picks chip crew is = record {
  drew = is ∙ sym (none_in (length crew) first);
  turns = subst (λ (l : List ℕ). TurnsOf c l chip crew chip crew) (sym (none_ranks (length crew) first)) (refl, refl);
  heard = (refl, refl);
}

-- the same, with one round more than n
pub record AtNext {A : Type 0} (c : Behaviour A) (wanted : List RankEvent → Type 0) (first : Lcg) (n : ℕ) (picks : Lcg) (chip : ChipView) (crew : List A) (now : ChipView) (later : List A) : Type 0 where
  pub at : AtRound c wanted first (n + 1) picks chip crew now later
  pub heard : RoundsHeard c wanted first (suc n) chip crew now later

pub at_next : {A : Type 0} (c : Behaviour A) (wanted after : List RankEvent → Type 0) (first old new : Lcg) (n : ℕ) (chip mid half last : ChipView) (crew some more later : List A)
    → AtRound c wanted first n old chip crew mid some → StillWanted wanted after → ∥ ToldAll after mid ∥₁
    → length some ≡ length crew → length more ≡ length some → new ≡ generator_after pcg32 (1000 * length some) old → TurnsOf c (named_ranks pcg32 (length some) (1000 * length some) old) mid some half more
    → TurnsOf c (range_with_len 0 (length more)) half more last later → AtNext c after first n new chip crew last later
at_next c wanted after first old new n chip mid half last crew some more later at keeps told many same drew round sweep =
    let size = length crew in
    let turns =
    turns_then c (named_ranks pcg32 size (1000 * size) (drawn_in pcg32 size n first)) (range_with_len 0 size) mid half last some more later
    (subst (λ (g : Lcg). TurnsOf c (named_ranks pcg32 size (1000 * size) g) mid some half more) at.drew
    (subst (λ (k : ℕ). TurnsOf c (named_ranks pcg32 k (1000 * k) old) mid some half more) many round))
    (subst (λ (k : ℕ). TurnsOf c (range_with_len 0 k) half more last later) (same ∙ many) sweep) in
    let heard = heard_next c first wanted after n chip mid last crew some later keeps at.heard told turns in
    let e : suc n ≡ n + 1 = omega arith in
    record {
      at = record {
        drew = drew ∙ ap (λ (k : ℕ). generator_after pcg32 (1000 * k) old) many ∙ ap (λ (g : Lcg). generator_after pcg32 (1000 * size) g) at.drew ∙ sym (more_drawn size first n);
        turns = subst (λ (l : List ℕ). TurnsOf c l chip crew last later) (sym (more_ranks size first n))
            (turns_then c (ranks_by pcg32 size n first) (named_ranks pcg32 size (1000 * size) (drawn_in pcg32 size n first) ++ range_with_len 0 size) chip mid last crew some later at.turns turns);
        heard = subst (λ (k : ℕ). RoundsHeard c after first k chip crew last later) e heard;
      };
      heard = heard;
    }
