-- The ports of a new chip are at rest.
use Rattle.std.proofs.Common.{◌≡◌, ◌≢◌, ℕ, List, [], None, Some, refl, sym, ◌∙◌, ap, subst}
use Rattle.std.specs.declared.result.Result.{Result}
use Rattle.std.specs.declared.result.Result.TheVariants.{Ok, Err}
use Rattle.std.specs.Prelude.{OnOk, OnErr}
use Rattle.scc_base.specs.Setups.{SetupView, IsSetup}
use Rattle.scc_base.specs.declared.events.Event.{Event}
use Rattle.scc_proto.specs.Stages.{Record}
use Rattle.scc_proto.specs.Records.{record_of}
use Rattle.scc_proto.specs.Ports.{Sight, record_in}
use Rattle.scc_proto.proofs.PortLaws.{record_of-nil}
use Rattle.scc_mesh.specs.SeatViews.{SeatView, list_or_none, without}
use Rattle.scc_mesh.specs.AwayRanks.{Ticket}
use Rattle.scc_mesh.specs.Scenes.{ChipView, about_in, home_in, events_in, with_home, sight_away}
use Rattle.scc_mesh.proofs.ViewLemmas.{known_there}
use Rattle.scc_rows.specs.Rests.{IsNewPair, IsPortAtRest, IsWithout}

none_rests : (s : Sight) → IsSetup s.seat.setup → s.seat.setup.nue ≡ 2 → s.events ≡ [] → IsPortAtRest s
unfolding record_in
none_rests s valid two none = record {
  valid = valid;
  two = two;
  idle = ap (λ (es : List Event). (record_of s.seat.setup s.seat.rank es).stage) none ∙ ap (λ (x : Record). x.stage) (record_of-nil s.seat.setup s.seat.rank);
}

pub away_rests : (chip : ChipView) (s : SetupView) (ticket : Ticket) → IsNewPair chip → s ≡ about_in chip → ticket.events ≡ [] → IsPortAtRest (sight_away s ticket)
away_rests chip s ticket pair about none = none_rests (sight_away s ticket)
    (subst (λ (x : SetupView). IsSetup x) (sym about) pair.valid) (ap (λ (x : SetupView). x.nue) about ∙ pair.two) none

pub away_without : (s : SetupView) (ticket : Ticket) (core : ℕ) → ticket.events ≡ [] → IsWithout (sight_away s ticket) core
unfolding record_in
away_without s ticket core none =
    ap (λ (es : List Event). (record_of s ticket.rank es).held core) none ∙ ap (λ (x : Record). x.held core) (record_of-nil s ticket.rank)

-- handing a rank out changes neither the setup nor the events of another rank
pub about_with : (chip : ChipView) (home : SeatView) → about_in (with_home chip home) ≡ about_in chip
about_with None home = refl
about_with (Some scene) home = refl

pub about_chain : (chip first second : ChipView) (r q : ℕ) (s : SetupView) → first ≡ with_home chip (without (home_in chip) r) → second ≡ with_home first (without (home_in first) q)
    → s ≡ about_in second → s ≡ about_in chip
about_chain chip first second r q s one two about =
    about ∙ ap about_in two ∙ about_with first (without (home_in first) q) ∙ ap about_in one ∙ about_with chip (without (home_in chip) r)

one_not_zero : ◌≢◌ {A = ℕ} 1 0
one_not_zero e = cc (e)

pub second_list : (chip : ChipView) (r q : ℕ) → r ≡ 0 → q ≡ 1 → IsNewPair chip → events_in (with_home chip (without (home_in chip) r)) q ≡ []
second_list None r q zero one pair = pair.new.empty q
second_list (Some scene) r q zero one pair = ap list_or_none (known_there scene.home r None q (λ e. one_not_zero (sym one ∙ e ∙ zero))) ∙ pair.new.empty q

-- a call that is rejected leaves the port as it was
pub either_rests : {T E P : Type 0} (r : Result T E) (s t : Sight) → OnErr r (t ≡ s) → OnOk r P → (P → IsPortAtRest t) → IsPortAtRest s → IsPortAtRest t
either_rests (Ok x) s t refused done rests rest = rests done
either_rests (Err x) s t refused done rests rest = subst (λ (x : Sight). IsPortAtRest x) (sym refused) rest
