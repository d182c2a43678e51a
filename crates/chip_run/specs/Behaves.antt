-- What a run knows of its workers (this project's profile).
use Rattle.std.specs.Prelude.{ℕ, Bool, List}
use Rattle.scc_base.specs.Setups.{SetupView}
use Rattle.scc_base.specs.declared.events.Event.{Event}
use Rattle.chip_run.specs.Wants.{Want}

-- What a run sees of a worker: what its rank wants next, how many turns that do not wait are left to it, and whether a
-- mismatch stopped it.
pub record WorkerView : Type 0 where
  pub want : Want
  pub left : ℕ
  pub is_stopped : Bool

-- How the workers of one kind conduct themselves.
pub record Behaviour (A : Type 0) : Type 1 where
  -- what is seen of a worker at a rank of a setup
  pub seen : SetupView → ℕ → A → WorkerView
  -- a worker stands where these events of its rank of this setup stand
  pub tied : A → SetupView → ℕ → List Event → Type 0
  -- a turn that moves may lead from the one to the other
  pub moves : A → A → Type 0
  -- a turn that does not move may lead from the one to the other
  pub stays : A → A → Type 0

-- A worker after some turns.
pub data Later {A : Type 0} (c : Behaviour A) (old : A) : A → Type 0 where
  NoTurn : Later c old old
  Moving : (mid new : A) → Later c old mid → c.moves mid new → Later c old new
  Staying : (mid new : A) → Later c old mid → c.stays mid new → Later c old new
