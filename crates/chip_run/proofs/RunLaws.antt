-- A run goes on by a round and a sweep.
use Rattle.std.proofs.Common.{◌≡◌, ℕ, suc, ◌+◌, ◌*◌, List, [], ◌++◌, length, refl, sym, ◌∙◌, ap, subst, arith}
use Rattle.std.specs.List.{range_with_len}
use Rattle.rand_pcg.specs.Lcg.{Lcg}
use Rattle.rand_pcg.specs.Pcg.{pcg32}
use Rattle.scc_mesh.specs.Scenes.{ChipView}
use Rattle.chip_run.specs.declared.runs.Mode.{Mode}
use Rattle.chip_run.specs.declared.runs.Mode.TheVariants as mode
use Rattle.chip_run.specs.declared.runs.Rounds.{Rounds}
use Rattle.chip_run.specs.declared.runs.Rounds.TheVariants as rounds
use Rattle.chip_run.specs.Orders.{TurnsOf, generator_after, drawn_in, named_ranks, ranks_by}
use Rattle.chip_run.specs.Marks.{ThreadsAfter, AsksNext, MarkFacts, threads_of}
use Rattle.chip_run.specs.Runs.{InOrder, IsInThreads, NextRound, RoundsTo, SlicesTo, TookSlices, rounds_of}
use Rattle.chip_run.specs.Behaves.{Behaviour}
use Rattle.chip_run.proofs.OrderLaws.{turns_then}

module _ {G : Type 0} (step : G → ℕ × G) (nue : ℕ) where
  none_ranks : (g : G) → ranks_by step nue 0 g ≡ []
  unfolding ranks_by
  none_ranks g = refl

  more_ranks : (n : ℕ) (g : G) → ranks_by step nue (n + 1) g ≡ ranks_by step nue n g ++ (named_ranks step nue (1000 * nue) (drawn_in step nue n g) ++ range_with_len 0 nue)
  unfolding ranks_by
  more_ranks n g = let e : n + 1 ≡ suc n = omega arith in ap (λ (k : ℕ). ranks_by step nue k g) e

  none_in : (g : G) → drawn_in step nue 0 g ≡ g
  unfolding drawn_in
  none_in g = refl

  more_drawn : (n : ℕ) (g : G) → drawn_in step nue (n + 1) g ≡ generator_after step (1000 * nue) (drawn_in step nue n g)
  unfolding drawn_in
  more_drawn n g = let e : n + 1 ≡ suc n = omega arith in ap (λ (k : ℕ). drawn_in step nue k g) e

module _ {A : Type 0} (c : Behaviour A) where
  pub no_rounds : (way : Rounds) (chip : ChipView) (crew : List A) → RoundsTo c way 0 way chip crew chip crew
  no_rounds rounds.InThreads chip crew = (refl, (refl, refl))
  no_rounds (rounds.Picked picks) chip crew = (
    sym (ap (λ (g : Lcg). rounds.Picked g) (none_in pcg32 (length crew) picks)),
    subst (λ (l : List ℕ). TurnsOf c l chip crew chip crew) (sym (none_ranks pcg32 (length crew) picks)) (refl, refl),
  )

  -- a round on one thread, and the sweep behind it
  picked_round : (n : ℕ) (picks now : Lcg) (new : Rounds) (chip mid half last : ChipView) (crew some more later : List A)
      → now ≡ drawn_in pcg32 (length crew) n picks → TurnsOf c (ranks_by pcg32 (length crew) n picks) chip crew mid some
      → length some ≡ length crew → length more ≡ length some
      → new ≡ rounds.Picked (generator_after pcg32 (1000 * length some) now) → TurnsOf c (named_ranks pcg32 (length some) (1000 * length some) now) mid some half more
      → TurnsOf c (range_with_len 0 (length more)) half more last later
      → (new ≡ rounds.Picked (drawn_in pcg32 (length crew) (n + 1) picks)) × TurnsOf c (ranks_by pcg32 (length crew) (n + 1) picks) chip crew last later
  picked_round n picks now new chip mid half last crew some more later at before many same goes round sweep =
      let size = length crew in (
        goes ∙ ap (λ (k : ℕ). rounds.Picked (generator_after pcg32 (1000 * k) now)) many ∙ ap (λ (g : Lcg). rounds.Picked (generator_after pcg32 (1000 * size) g)) at
            ∙ ap (λ (g : Lcg). rounds.Picked g) (sym (more_drawn pcg32 size n picks)),
        subst (λ (l : List ℕ). TurnsOf c l chip crew last later) (sym (more_ranks pcg32 size n picks))
            (turns_then c (ranks_by pcg32 size n picks) (named_ranks pcg32 size (1000 * size) (drawn_in pcg32 size n picks) ++ range_with_len 0 size) chip mid last crew some later before
            (turns_then c (named_ranks pcg32 size (1000 * size) (drawn_in pcg32 size n picks)) (range_with_len 0 size) mid half last some more later
            (subst (λ (g : Lcg). TurnsOf c (named_ranks pcg32 size (1000 * size) g) mid some half more) at
            (subst (λ (k : ℕ). TurnsOf c (named_ranks pcg32 k (1000 * k) now) mid some half more) many round))
            (subst (λ (k : ℕ). TurnsOf c (range_with_len 0 k) half more last later) (same ∙ many) sweep))),
      )

  -- a round in threads, and the sweep behind it
  slices_on : (n : ℕ) (chip mid half last : ChipView) (crew some more later : List A) → SlicesTo c n chip crew mid some → TookSlices c mid some half more
      → TurnsOf c (range_with_len 0 (length more)) half more last later → SlicesTo c (suc n) chip crew last later
  slices_on n chip mid half last crew some more later before took sweep = (mid, some, half, more, before, took, sweep)

  pub rounds_on : (way old new : Rounds) (n : ℕ) (chip mid half last : ChipView) (crew some more later : List A) → RoundsTo c way n old chip crew mid some → NextRound c old new mid some half more
      → length some ≡ length crew → length more ≡ length some → TurnsOf c (range_with_len 0 (length more)) half more last later → RoundsTo c way (n + 1) new chip crew last later
  rounds_on rounds.InThreads old new n chip mid half last crew some more later (at, before) goes many same sweep =
      let (is, took) : NextRound c rounds.InThreads new mid some half more = subst (λ (w : Rounds). NextRound c w new mid some half more) at goes in
      let next : suc n ≡ n + 1 = omega arith in
      (is, subst (λ (k : ℕ). SlicesTo c k chip crew last later) next (slices_on n chip mid half last crew some more later before took sweep))
  rounds_on (rounds.Picked picks) old new n chip mid half last crew some more later (at, before) goes many same sweep =
      let now = drawn_in pcg32 (length crew) n picks in
      let (is, round) : NextRound c (rounds.Picked now) new mid some half more = subst (λ (w : Rounds). NextRound c w new mid some half more) at goes in
      picked_round n picks now new chip mid half last crew some more later refl before many same is round sweep

  pub ran_in_order : (way : Mode) (n : ℕ) (new : Rounds) (chip last : ChipView) (crew later : List A) → RoundsTo c (rounds_of way) n new chip crew last later → InOrder c way chip crew last later
  ran_in_order mode.Threads n new chip last crew later (at, slices) = (n, slices)
  ran_in_order (mode.Serial seed) n new chip last crew later (at, turns) = (n, turns)

  -- rounds that begin in threads stay in threads
  pub threads_yet : (way new : Rounds) (n : ℕ) (chip last : ChipView) (crew later : List A) → RoundsTo c way n new chip crew last later → IsInThreads way → IsInThreads new
  threads_yet rounds.InThreads new n chip last crew later (at, slices) so = subst IsInThreads (sym at) so
  threads_yet (rounds.Picked picks) new n chip last crew later (at, turns) so = absurd so

-- one more round, and how many threads the next one asks for
pub asks_on : (m : MarkFacts) (ranks now n before threads : ℕ) → now ≡ ranks → ThreadsAfter m ranks n before → AsksNext m (threads_of now before) threads → ThreadsAfter m ranks (n + 1) threads
asks_on m ranks now n before threads same so asks =
    let next : suc n ≡ n + 1 = omega arith in
    subst (λ (k : ℕ). ThreadsAfter m ranks k threads) next (before, so, subst (λ (r : ℕ). AsksNext m (threads_of r before) threads) same asks)
