-- Turns in an order go on by more turns.
use Rattle.std.specs.List.{range_with_len}
use Rattle.std.proofs.Common.{◌≡◌, ℕ, zero, suc, ◌+◌, ◌%◌, List, [], ◌∷◌, ◌++◌, length, refl, sym, ◌∙◌, ap, subst, arith}
use Rattle.scc_mesh.specs.Scenes.{ChipView}
use Rattle.chip_run.specs.declared.rests.Rest.{Rest}
use Rattle.chip_run.specs.Crews.{CrewStands, IsCrew, OneTurn}
use Rattle.chip_run.specs.Orders.{TurnsOf, generator_after, named_ranks, sweeps_of}
use Rattle.chip_run.specs.Behaves.{Behaviour}
use Rattle.chip_run.proofs.CrewLaws.{stands_both, stands_first, stands_on}

module _ {G : Type 0} (step : G → ℕ × G) (nue : ℕ) where
  pub drawn_more : (m n : ℕ) (g : G) → generator_after step (m + n) g ≡ generator_after step n (generator_after step m g)
  unfolding generator_after
  drawn_more zero n g = let e : zero + n ≡ n = omega arith in ap (λ (k : ℕ). generator_after step k g) e
  drawn_more (suc m) n g = let e : suc m + n ≡ suc (m + n) = omega arith in ap (λ (k : ℕ). generator_after step k g) e ∙ drawn_more m n (step g).1

  pub named_more : (m n : ℕ) (g : G) → named_ranks step nue (m + n) g ≡ named_ranks step nue m g ++ named_ranks step nue n (generator_after step m g)
  unfolding generator_after named_ranks
  named_more zero n g = let e : zero + n ≡ n = omega arith in ap (λ (k : ℕ). named_ranks step nue k g) e
  named_more (suc m) n g =
      let e : suc m + n ≡ suc (m + n) = omega arith in
      ap (λ (k : ℕ). named_ranks step nue k g) e ∙ ap (λ (l : List ℕ). (step g).0 % nue ∷ l) (named_more m n (step g).1)

  pub drawn_one : (g : G) → generator_after step 1 g ≡ (step g).1
  unfolding generator_after
  drawn_one g = refl

  pub named_one : (g : G) → named_ranks step nue 1 g ≡ (step g).0 % nue ∷ []
  unfolding named_ranks
  named_one g = refl

  pub none_drawn : (g : G) → generator_after step 0 g ≡ g
  unfolding generator_after
  none_drawn g = refl

module _ {A : Type 0} (c : Behaviour A) where
  pub turns_then : (one two : List ℕ) (chip mid now : ChipView) (crew some later : List A) → TurnsOf c one chip crew mid some → TurnsOf c two mid some now later
      → TurnsOf c (one ++ two) chip crew now later
  turns_then [] two chip mid now crew some later (same, members) rest =
      subst (λ (y : ChipView). TurnsOf c two y crew now later) same (subst (λ (l : List A). TurnsOf c two mid l now later) members rest)
  turns_then (at ∷ one) two chip mid now crew some later (next, members, came, turn, rest) more =
      (next, members, came, turn, turns_then one two next mid now members some later rest more)

  pub one_turn : (at : ℕ) (chip now : ChipView) (crew later : List A) (came : Rest) → OneTurn c chip crew at now later came → TurnsOf c (at ∷ []) chip crew now later
  one_turn at chip now crew later came turn = (now, later, came, turn, (refl, refl))

  pub turns_stand : (ranks : List ℕ) (chip now : ChipView) (crew later : List A) → IsCrew c chip crew → TurnsOf c ranks chip crew now later → CrewStands c chip crew now later
  turns_stand [] chip now crew later is_crew (same, members) =
      subst (λ (y : ChipView). CrewStands c chip crew y later) (sym same)
      (subst (λ (l : List A). CrewStands c chip crew chip l) (sym members) (stands_first c chip crew is_crew))
  turns_stand (at ∷ ranks) chip now crew later is_crew (next, members, came, turn, rest) =
      let first = stands_on c chip chip next crew crew members at came (stands_first c chip crew is_crew) turn in
      stands_both c chip next now crew members later first (turns_stand ranks next now members later first.is_crew rest)

  -- one sweep more
  pub sweep_then : (n : ℕ) (chip mid now : ChipView) (crew some later : List A) → length some ≡ length crew → TurnsOf c (sweeps_of n (length crew)) chip crew mid some
      → TurnsOf c (range_with_len 0 (length some)) mid some now later → (m : ℕ) × TurnsOf c (sweeps_of m (length crew)) chip crew now later
  sweep_then n chip mid now crew some later count before sweep = (
    suc n,
    turns_then (sweeps_of n (length crew)) (range_with_len 0 (length crew)) chip mid now crew some later before
        (subst (λ (k : ℕ). TurnsOf c (range_with_len 0 k) mid some now later) count sweep),
  )

-- all ranks below one more
pub range_more : (a n j : ℕ) → a + n ≡ j → range_with_len a (n + 1) ≡ range_with_len a n ++ j ∷ []
range_more a zero j is = ap (λ (k : ℕ). k ∷ []) (omega (arith, is))
range_more a (suc n) j is =
    let e : suc n + 1 ≡ suc (n + 1) = omega arith in
    ap (λ (k : ℕ). range_with_len a k) e ∙ ap (λ (l : List ℕ). a ∷ l) (range_more (a + 1) n j (omega (arith, is)))

-- one turn more, in rank order
pub turns_next : {A : Type 0} (c : Behaviour A) (at : ℕ) (chip mid now : ChipView) (crew some later : List A) (came : Rest) → TurnsOf c (range_with_len 0 at) chip crew mid some
    → OneTurn c mid some at now later came → TurnsOf c (range_with_len 0 (at + 1)) chip crew now later
turns_next c at chip mid now crew some later came turns turn =
    subst (λ (l : List ℕ). TurnsOf c l chip crew now later) (sym (range_more 0 at at (omega arith)))
    (turns_then c (range_with_len 0 at) (at ∷ []) chip mid now crew some later turns (one_turn c at mid now some later came turn))

module _ {A G : Type 0} (c : Behaviour A) (step : G → ℕ × G) (nue : ℕ) where
  pub none_picked : (g : G) (chip : ChipView) (crew : List A) → TurnsOf c (named_ranks step nue 0 g) chip crew chip crew
  unfolding named_ranks
  none_picked g chip crew = (refl, refl)

  -- one turn more, of the rank that the next word names
  pub picked_on : (n at word : ℕ) (first now next : G) (chip mid last : ChipView) (crew some later : List A) (came : Rest) → TurnsOf c (named_ranks step nue n first) chip crew mid some
      → now ≡ generator_after step n first → (word, next) ≡ step now → at ≡ word % nue → OneTurn c mid some at last later came → TurnsOf c (named_ranks step nue (n + 1) first) chip crew last later
  picked_on n at word first now next chip mid last crew some later came turns is drew here turn =
      let named_is : at ≡ (step (generator_after step n first)).0 % nue = here ∙ ap (λ (p : ℕ × G). p.0 % nue) drew ∙ ap (λ (g : G). (step g).0 % nue) is in
      subst (λ (l : List ℕ). TurnsOf c l chip crew last later) (sym (named_more step nue n 1 first ∙ ap (λ (l : List ℕ). named_ranks step nue n first ++ l) (named_one step nue (generator_after step n first))))
      (turns_then c (named_ranks step nue n first) ((step (generator_after step n first)).0 % nue ∷ []) chip mid last crew some later turns
      (subst (λ (k : ℕ). TurnsOf c (k ∷ []) mid some last later) named_is (one_turn c at mid last some later came turn)))

  pub drawn_on : (n word : ℕ) (first now next : G) → now ≡ generator_after step n first → (word, next) ≡ step now → next ≡ generator_after step (n + 1) first
  drawn_on n word first now next is drew = ap (λ (p : ℕ × G). p.1) drew ∙ ap (λ (g : G). (step g).1) is ∙ sym (drawn_more step nue n 1 first ∙ drawn_one step nue (generator_after step n first))
