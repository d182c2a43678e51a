-- A worker after some turns, and what all turns keep.
use Rattle.std.proofs.Common.{◌≡◌, refl, ◌∙◌}
use Rattle.chip_run.specs.Behaves.{Behaviour, Later, NoTurn, Moving, Staying}

module _ {A : Type 0} (c : Behaviour A) where
  -- and after some more
  pub later_both : (old mid new : A) → Later c old mid → Later c mid new → Later c old new
  later_both old mid _ one NoTurn = one
  later_both old mid _ one (Moving k new two moves) = Moving k new (later_both old mid k one two) moves
  later_both old mid _ one (Staying k new two stays) = Staying k new (later_both old mid k one two) stays

  -- what each turn keeps, all keep
  pub later_keeps : {B : Type 0} (of : A → B) → ((x y : A) → c.moves x y → of y ≡ of x) → ((x y : A) → c.stays x y → of y ≡ of x) → (old new : A) → Later c old new → of new ≡ of old
  later_keeps of moved stayed old _ NoTurn = refl
  later_keeps of moved stayed old _ (Moving mid new before moves) = moved mid new moves ∙ later_keeps of moved stayed old mid before
  later_keeps of moved stayed old _ (Staying mid new before stays) = stayed mid new stays ∙ later_keeps of moved stayed old mid before
