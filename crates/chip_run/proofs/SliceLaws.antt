-- A row of turns goes on by a turn, and where it ends.
use Rattle.std.proofs.Common.{◌≡◌, ◌⊎◌, inl, inr, ℕ, zero, suc, ◌+◌, ◌-◌, ◌*◌, ◌<◌, ◌≤◌, List, [], ◌∷◌, ◌++◌, drop, refl, sym, ◌∙◌, ap, subst, arith}
use Rattle.std.proofs.lemmas.Bool.{cases_lt}
use Rattle.scc_base.specs.Setups.{SetupView}
use Rattle.scc_base.specs.declared.events.Event.{Event}
use Rattle.scc_base.specs.declared.events.Turn.{Turn}
use Rattle.scc_base.specs.declared.events.Turn.TheVariants as turn
use Rattle.scc_proto.specs.Ports.{Seat, Sight}
use Rattle.scc_proto.proofs.PortLaws.{did_both, did_nothing, seat_kept}
use Rattle.chip_run.specs.Away.{EndsSlice, IsSlice, SomeTurns, slice_left, failed_by, waited_in}
use Rattle.chip_run.specs.Behaves.{Behaviour, Later, NoTurn, Moving, Staying, WorkerView}
use Rattle.chip_run.specs.Turns.{Turned, TurnMeans, TurnsMoved, OneMoved, MoreMoved, TookBatch, OneTurn, InARow}

-- ---- where a row ends

-- behind no answer a row is not at its end
pub none_yet : EndsSlice 1000 [] → ⊥
none_yet (inl over) = absurd (cc (over))
none_yet (inr many) = absurd (omega (arith, many))

-- how a row stands while turns are taken: it is at its end, or fewer than a thousand turns in a row were vain
pub data IsGoing (answers : List Turn) (failed : ℕ) : Type 0 where
  Stops : failed ≡ 1000 → EndsSlice 1000 answers → IsGoing answers failed
  Goes : failed < 1000 → failed ≡ waited_in answers → (EndsSlice 1000 answers → ⊥) → IsGoing answers failed

pub record SliceSoFar (answers : List Turn) (failed : ℕ) : Type 0 where
  pub none : (n : ℕ) → EndsSlice 1000 (drop (suc n) answers) → ⊥
  pub going : IsGoing answers failed

pub so_far_first : SliceSoFar [] 0
so_far_first = record { none = λ n ends. none_yet ends; going = Goes (omega arith) refl none_yet }

-- before a turn no row is at its end behind any of the answers
none_before : (answers : List Turn) (failed : ℕ) → failed < 1000 → SliceSoFar answers failed → (n : ℕ) → EndsSlice 1000 (drop n answers) → ⊥
none_before answers failed low so zero = by so.going
  where
    by : IsGoing answers failed → EndsSlice 1000 answers → ⊥
    by (Stops many ends) = absurd (omega (arith, low, many))
    by (Goes few is none) = none
none_before answers failed low so (suc n) = so.none n

waited_before : (answers : List Turn) (failed : ℕ) → failed < 1000 → IsGoing answers failed → failed ≡ waited_in answers
waited_before answers failed low (Stops many ends) = absurd (omega (arith, low, many))
waited_before answers failed low (Goes few is none) = is

going_by : (answers : List Turn) (failed : ℕ) (answer : Turn) → failed < 1000 → failed ≡ waited_in answers → IsGoing (answer ∷ answers) (failed_by 1000 answer failed)
going_by answers failed turn.Moved low is = Goes (omega arith) refl none
  where
    none : EndsSlice 1000 (turn.Moved ∷ answers) → ⊥
    none (inl over) = absurd (cc (over))
    none (inr many) = absurd (omega (arith, many))
going_by answers failed (turn.Waiting spot) low is = by (cases_lt (failed + 1) 1000)
  where
    more : failed + 1 ≡ suc (waited_in answers)
    more = omega (arith, is)

    none : failed + 1 < 1000 → EndsSlice 1000 (turn.Waiting spot ∷ answers) → ⊥
    none few (inl over) = absurd (cc (over))
    none few (inr many) = absurd (omega (arith, few, more, many))

    by : (failed + 1 < 1000) ⊎ (1000 ≤ failed + 1) → IsGoing (turn.Waiting spot ∷ answers) (failed + 1)
    by (inl few) = Goes few more (none few)
    by (inr many) = Stops (omega (arith, low, many)) (inr (omega (arith, low, many, more)))
going_by answers failed turn.Done low is = Stops refl (inl refl)

-- one more answer
pub so_far_on : (answers : List Turn) (failed later : ℕ) (answer : Turn) → failed < 1000 → later ≡ failed_by 1000 answer failed → SliceSoFar answers failed → SliceSoFar (answer ∷ answers) later
so_far_on answers failed later answer low is so = record {
  none = none_before answers failed low so;
  going = subst (IsGoing (answer ∷ answers)) (sym is) (going_by answers failed answer low (waited_before answers failed low so.going));
}

-- where the turns stop a row is at its end
pub slice_is : (answers : List Turn) (failed : ℕ) → 1000 ≤ failed → SliceSoFar answers failed → IsSlice 1000 answers
slice_is answers failed past so = record { ends = by so.going; first = so.none }
  where
    by : IsGoing answers failed → EndsSlice 1000 answers
    by (Stops many ends) = ends
    by (Goes few is none) = absurd (omega (arith, past, few))

-- how a row stands behind some turns
pub record SliceOn {A : Type 0} (c : Behaviour A) (stepped : List Event → Event → Type 0) (old : A) (s : Sight) (new : A) (t : Sight) (failed : ℕ) : Type 0 where
  pub answers : List Turn
  pub turns : SomeTurns c stepped answers old s new t
  pub so_far : SliceSoFar answers failed

-- ---- the turns

module _ {A : Type 0} (c : Behaviour A) where
  pub turns_first : (stepped : List Event → Event → Type 0) (w : A) (s : Sight) → SomeTurns c stepped [] w s w s
  turns_first stepped w s = record { events = []; did = did_nothing s; later = NoTurn; left = omega arith; took = (refl, refl) }

  left_after : (stepped : List Event → Event → Type 0) (s : SetupView) (rank : ℕ) (own events : List Event) (old new : A) (answer : Turn) → TurnMeans c stepped s rank own events old new answer
      → (c.seen s rank new).left ≤ (c.seen s rank old).left
  left_after stepped s rank own events old new turn.Moved means = let less = means.less in omega (arith, less)
  left_after stepped s rank own events old new (turn.Waiting spot) means = let same = ap (λ (w : WorkerView). w.left) means.seen in omega (arith, same)
  left_after stepped s rank own events old new turn.Done means = let same = ap (λ (w : WorkerView). w.left) means.seen in omega (arith, same)

  pub later_on : (stepped : List Event → Event → Type 0) (s : SetupView) (rank : ℕ) (own events : List Event) (first old new : A) (answer : Turn) → Later c first old → TurnMeans c stepped s rank own events old new answer → Later c first new
  later_on stepped s rank own events first old new turn.Moved before means = Moving old new before means.moves
  later_on stepped s rank own events first old new (turn.Waiting spot) before means = Staying old new before means.stays
  later_on stepped s rank own events first old new turn.Done before means = Staying old new before means.stays

  pub turns_on : (stepped : Seat → List Event → Event → Type 0) (answers : List Turn) (old mid new : A) (s m t : Sight) (answer : Turn)
      → SomeTurns c (stepped s.seat) answers old s mid m → Turned c (stepped m.seat) mid m new t answer → SomeTurns c (stepped s.seat) (answer ∷ answers) old s new t
  turns_on stepped answers old mid new s m t answer slice turned =
      let same = seat_kept s slice.events m slice.did in
      let here : Turned c (stepped s.seat) mid m new t answer = subst (λ (x : Seat). Turned c (stepped x) mid m new t answer) same turned in
      let less : (c.seen s.seat.setup s.seat.rank new).left ≤ (c.seen s.seat.setup s.seat.rank mid).left =
      subst (λ (x : Seat). (c.seen x.setup x.rank new).left ≤ (c.seen x.setup x.rank mid).left) same
      (left_after (stepped m.seat) m.seat.setup m.seat.rank m.events turned.events mid new answer turned.means) in
      record {
        events = slice.events ++ turned.events;
        did = did_both s slice.events m turned.events t slice.did turned.did;
        later = later_on (stepped m.seat) m.seat.setup m.seat.rank m.events turned.events old mid new answer slice.later turned.means;
        left = let one = slice.left in omega (arith, one, less);
        took = (mid, m, slice.took, here);
      }

  -- ---- a stretch

  -- a turn that moved says nothing of steps
  any_step : (x y : List Event → Event → Type 0) (old new : A) (s t : Sight) → Turned c x old s new t turn.Moved → Turned c y old s new t turn.Moved
  any_step x y old new s t turned = record { events = turned.events; did = turned.did; means = turned.means }

  slice_moved : (stepped : Seat → List Event → Event → Type 0) (x : List Event → Event → Type 0) (answers : List Turn) (failed : ℕ) (old mid : A) (s m : Sight) (new : A) (t : Sight) → failed < 1000
      → SomeTurns c (stepped s.seat) answers old s mid m → SliceSoFar answers failed → TurnsMoved c x mid m new t → SliceOn c (stepped s.seat) old s new t 0
  slice_moved stepped x answers failed old mid s m new t low slice so (OneMoved _ _ turned) = record {
    answers = turn.Moved ∷ answers;
    turns = turns_on stepped answers old mid new s m t turn.Moved slice (any_step x (stepped m.seat) mid new m t turned);
    so_far = so_far_on answers failed 0 turn.Moved low refl so;
  }
  slice_moved stepped x answers failed old mid s m new t low slice so (MoreMoved k _ n _ before turned) =
      let b = slice_moved stepped x answers failed old mid s m k n low slice so before in
      record {
        answers = turn.Moved ∷ b.answers;
        turns = turns_on stepped b.answers old k new s n t turn.Moved b.turns (any_step x (stepped n.seat) k new n t turned);
        so_far = so_far_on b.answers 0 0 turn.Moved (omega arith) refl b.so_far;
      }

  pub slice_goes : (stepped : Seat → List Event → Event → Type 0) (answers : List Turn) (failed later : ℕ) (old mid new : A) (s m t : Sight) (answer : Turn) → failed < 1000 → later ≡ failed_by 1000 answer failed
      → SomeTurns c (stepped s.seat) answers old s mid m → SliceSoFar answers failed → TookBatch c (stepped m.seat) mid m new t answer → SliceOn c (stepped s.seat) old s new t later
  slice_goes stepped answers failed later old mid new s m t answer low is slice so (OneTurn turned) = record {
    answers = answer ∷ answers;
    turns = turns_on stepped answers old mid new s m t answer slice turned;
    so_far = so_far_on answers failed later answer low is so;
  }
  slice_goes stepped answers failed later old mid new s m t answer low is slice so (InARow moved goes) =
      subst (λ (n : ℕ). SliceOn c (stepped s.seat) old s new t n) (sym (is ∙ ap (λ (a : Turn). failed_by 1000 a failed) goes)) (slice_moved stepped (stepped m.seat) answers failed old mid s m new t low slice so moved)

falls_moved : (left less failed : ℕ) → less < left → failed < 1000 → 1000 * less + (1000 - 0) < 1000 * left + (1000 - failed)
falls_moved left less failed one two = omega (arith, one, two)

falls_waits : (left less failed : ℕ) → less ≡ left → failed < 1000 → 1000 * less + (1000 - (failed + 1)) < 1000 * left + (1000 - failed)
falls_waits left less failed one two = omega (arith, one, two)

falls_done : (left less failed : ℕ) → less ≡ left → failed < 1000 → 1000 * less + (1000 - 1000) < 1000 * left + (1000 - failed)
falls_done left less failed one two = omega (arith, one, two)

falls_in_a_row : (left less failed : ℕ) (answer : Turn) → answer ≡ turn.Moved → less < left → failed < 1000 → 1000 * less + (1000 - failed_by 1000 answer failed) < 1000 * left + (1000 - failed)
falls_in_a_row left less failed answer is fewer low =
    subst (λ (x : Turn). 1000 * less + (1000 - failed_by 1000 x failed) < 1000 * left + (1000 - failed)) (sym is) (falls_moved left less failed fewer low)

module _ {A : Type 0} (c : Behaviour A) where
  -- fewer turns are left behind it
  all_less : (stepped : List Event → Event → Type 0) (old : A) (s : Sight) (new : A) (t : Sight) → TurnsMoved c stepped old s new t
      → (m : Seat) → m ≡ s.seat → (t.seat ≡ s.seat) × ((c.seen m.setup m.rank new).left < (c.seen m.setup m.rank old).left)
  all_less stepped old s new t (OneMoved _ _ turned) m is =
      (seat_kept s turned.events t turned.did, subst (λ (x : Seat). (c.seen x.setup x.rank new).left < (c.seen x.setup x.rank old).left) (sym is) turned.means.less)
  all_less stepped old s new t (MoreMoved mid _ n _ before turned) m is =
      let (same, one) = all_less stepped old s mid n before m is in
      let two : (c.seen m.setup m.rank new).left < (c.seen m.setup m.rank mid).left =
      subst (λ (x : Seat). (c.seen x.setup x.rank new).left < (c.seen x.setup x.rank mid).left) (same ∙ sym is) turned.means.less in
      (seat_kept n turned.events t turned.did ∙ same, omega (arith, one, two))

  falls_by : (stepped : List Event → Event → Type 0) (s : SetupView) (rank : ℕ) (own events : List Event) (old new : A) (answer : Turn) (failed : ℕ) → failed < 1000
      → TurnMeans c stepped s rank own events old new answer → slice_left 1000 (c.seen s rank new).left (failed_by 1000 answer failed) < slice_left 1000 (c.seen s rank old).left failed
  falls_by stepped s rank own events old new turn.Moved failed low means = falls_moved (c.seen s rank old).left (c.seen s rank new).left failed means.less low
  falls_by stepped s rank own events old new (turn.Waiting spot) failed low means = falls_waits (c.seen s rank old).left (c.seen s rank new).left failed (ap (λ (w : WorkerView). w.left) means.seen) low
  falls_by stepped s rank own events old new turn.Done failed low means = falls_done (c.seen s rank old).left (c.seen s rank new).left failed (ap (λ (w : WorkerView). w.left) means.seen) low

  falls_there : (stepped : List Event → Event → Type 0) (old new : A) (m t : Sight) (answer : Turn) (failed later : ℕ) → failed < 1000 → later ≡ failed_by 1000 answer failed
      → TookBatch c stepped old m new t answer → slice_left 1000 (c.seen m.seat.setup m.seat.rank new).left later < slice_left 1000 (c.seen m.seat.setup m.seat.rank old).left failed
  falls_there stepped old new m t answer failed later low is (OneTurn turned) =
      subst (λ (n : ℕ). slice_left 1000 (c.seen m.seat.setup m.seat.rank new).left n < slice_left 1000 (c.seen m.seat.setup m.seat.rank old).left failed) (sym is)
      (falls_by stepped m.seat.setup m.seat.rank m.events turned.events old new answer failed low turned.means)
  falls_there stepped old new m t answer failed later low is (InARow moved goes) =
      subst (λ (n : ℕ). slice_left 1000 (c.seen m.seat.setup m.seat.rank new).left n < slice_left 1000 (c.seen m.seat.setup m.seat.rank old).left failed) (sym is)
      (falls_in_a_row (c.seen m.seat.setup m.seat.rank old).left (c.seen m.seat.setup m.seat.rank new).left failed answer goes (all_less stepped old m new t moved m.seat refl).1 low)

  -- the seat is that of the row's start
  pub slice_falls : (stepped : List Event → Event → Type 0) (old new : A) (first : Seat) (m t : Sight) (answer : Turn) (failed later : ℕ) → m.seat ≡ first → failed < 1000 → later ≡ failed_by 1000 answer failed
      → TookBatch c stepped old m new t answer → slice_left 1000 (c.seen first.setup first.rank new).left later < slice_left 1000 (c.seen first.setup first.rank old).left failed
  slice_falls stepped old new first m t answer failed later same low is took_batch =
      subst (λ (x : Seat). slice_left 1000 (c.seen x.setup x.rank new).left later < slice_left 1000 (c.seen x.setup x.rank old).left failed) same
      (falls_there stepped old new m t answer failed later low is took_batch)
