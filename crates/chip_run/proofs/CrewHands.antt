-- A worker of a crew at home takes a turn. Between turns no rank of the crew holds a test-and-set register.
use Rattle.std.proofs.Common.{◌≡◌, ℕ, ◌<◌, List, length, slice_index_or, slice_set, refl, sym, subst}
use Rattle.scc_base.specs.Setups.{SetupView}
use Rattle.scc_base.specs.declared.events.Event.{Event}
use Rattle.scc_mesh.specs.Scenes.{ChipView, about_in, events_in, records_in}
use Rattle.chip_run.specs.Behaves.{Behaviour}
use Rattle.chip_run.specs.Crews.{IsCrew, OneTurn}
use Rattle.chip_run.specs.Turns.{RankHoldsNone, NoneElseHolds, TurnedAtHome}
use Rattle.chip_run.specs.declared.rests.Rest.{Rest}
use Rattle.chip_run.proofs.ServedLaws.{one_entry}

pub crew_free : {A : Type 0} (c : Behaviour A) (hands : (x : A) (s : SetupView) (r : ℕ) (events : List Event) → c.tied x s r events → RankHoldsNone s r events)
    (chip : ChipView) (crew : List A) (d : A) (me : ℕ) → IsCrew c chip crew → NoneElseHolds (about_in chip) (records_in chip) me
crew_free c hands chip crew d me is k core low ne =
    hands (slice_index_or crew k d) (about_in chip) k (events_in chip k) (is.ties k d (subst (λ (n : ℕ). k < n) (sym is.each) low)) core

-- by the number of its rank: it is tied to its rank's events, and one of the crew took its turn
module _ {A : Type 0} (c : Behaviour A) (chip : ChipView) (crew : List A) (at rank : ℕ) (d : A) (is_crew : IsCrew c chip crew) (within : at < length crew) (is : rank ≡ at) where
  pub ties_here : c.tied (slice_index_or crew at d) (about_in chip) rank (events_in chip rank)
  ties_here = subst (λ (r : ℕ). c.tied (slice_index_or crew at d) (about_in chip) r (events_in chip r)) (sym is) (is_crew.ties at d within)

  pub one_turned : (w : A) (now : ChipView) (came : Rest) → TurnedAtHome c chip rank (slice_index_or crew at d) now w came → OneTurn c chip crew at now (slice_set crew at w) came
  one_turned w now came took = record {
    within = within;
    old = slice_index_or crew at d;
    new = w;
    here = one_entry crew at d (slice_index_or crew at d) within;
    is = refl;
    turned = subst (λ (r : ℕ). TurnedAtHome c chip r (slice_index_or crew at d) now w came) is took;
  }
