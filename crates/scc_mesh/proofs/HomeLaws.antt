-- What a chip with its ranks at home knows.
use Rattle.std.proofs.Common.{◌≡◌, ℕ, ◌<◌, ◌≤◌, Bool, true, false, nat_lt, List, [], Option, Some, None, refl, sym, ◌∙◌, ap, subst, arith}
use Rattle.std.proofs.lemmas.Bool.Decides.{nat_tests}
use Rattle.scc_base.specs.Setups.{SetupView}
use Rattle.scc_base.specs.declared.events.Event.{Event}
use Rattle.scc_proto.specs.Records.{record_of}
use Rattle.scc_proto.specs.Soundness.{IsSound}
use Rattle.scc_proto.specs.Ports.{IsSoundPort, record_in}
use Rattle.scc_proto.proofs.Tests.{both_first, both_second}
use Rattle.scc_proto.proofs.Agreement.SoundLaw.{sound_law}
use Rattle.scc_mesh.specs.SeatViews.{SeatView, events_of_rank, list_or_none, list_at, IsKnown, newcomer}
use Rattle.scc_mesh.specs.Keeping.{records_by, Together}
use Rattle.scc_mesh.specs.Scenes.{ChipView, Scene, about_in, events_in, IsWhole, IsNew, KnowsHome, AgreesAtHome, is_port_of, sight_in}
use Rattle.scc_mesh.specs.Scenes as scenes
use Rattle.scc_mesh.proofs.ViewLemmas.{list_past, newcomer_here, newcomer_list}

module _ (scene : Scene) (whole : IsWhole (Some scene)) (knows : KnowsHome (Some scene)) where
  same_list : (r : ℕ) → knows.0.lists r ≡ list_at scene.home r
  same_list r = by (nat_lt r scene.about.nue) refl
    where
      by : (b : Bool) → nat_lt r scene.about.nue ≡ b → knows.0.lists r ≡ list_at scene.home r
      by true t = let below : r < scene.about.nue = grind (arith, nat_tests) in knows.0.list r (list_at scene.home r) (whole.home r below)
      by false f =
          let out : scene.about.nue ≤ r = grind (arith, nat_tests) in
          knows.0.together.beyond r out ∙ sym (list_past scene.home r (omega (arith, out, knows.1)))

  scene_agrees : AgreesAtHome (Some scene)
  scene_agrees = record {
    memory = knows.0.memory;
    together = subst (λ (l : ℕ → List Event). Together scene.about knows.0.memory l) (λ i r. same_list r i) knows.0.together;
  }

pub agrees_at_home : (chip : ChipView) → IsWhole chip → KnowsHome chip → AgreesAtHome chip
agrees_at_home None whole knows = absurd (cc (whole.opened))
agrees_at_home (Some scene) whole knows = scene_agrees scene whole knows

-- ranks that are not of the run have made no event
pub none_beyond : (chip : ChipView) → KnowsHome chip → (r : ℕ) → (about_in chip).nue ≤ r → events_in chip r ≡ []
none_beyond None knows r out = refl
none_beyond (Some scene) knows r out = list_past scene.home r (omega (arith, out, knows.1))

pub known_if : (x : Option (List Event)) → scenes.is_at_home x ≡ true → x ≡ Some (list_or_none x)
known_if None t = absurd (cc (t))
known_if (Some events) t = refl

lt_tells : (a b : ℕ) → nat_lt a b ≡ true → a < b
lt_tells a b t = grind (arith, nat_tests)

pub port_is_sound : (chip : ChipView) (r hold : ℕ) → is_port_of chip r ≡ true → KnowsHome chip → IsSoundPort (sight_in chip r hold)
unfolding record_in
port_is_sound None r hold t knows = absurd (cc (t))
port_is_sound (Some scene) r hold t knows =
    let here = known_if (events_of_rank scene.home r) (both_first (scenes.is_at_home (events_of_rank scene.home r)) (nat_lt r scene.about.nue) t) in
    let below : r < scene.about.nue = lt_tells r scene.about.nue (both_second (scenes.is_at_home (events_of_rank scene.home r)) (nat_lt r scene.about.nue) t) in
    let list = knows.0.list r (list_at scene.home r) here in
    subst (λ (l : List Event). IsSound scene.about r (record_of scene.about r l)) list
    (sound_law scene.about knows.0.memory (records_by scene.about knows.0.lists) knows.0.together.agree r below)

-- a chip of which the ranks are at home and have made no event
pub new_chip : (s : SetupView) (scene : Scene) → scene.about ≡ s → scene.home ≡ newcomer s → IsNew s (Some scene)
new_chip s scene about home = record {
  about = about;
  whole = record { opened = refl; home = λ r lt. subst (λ (v : SeatView). IsKnown v r) (sym home) (newcomer_here s r (subst (λ (x : SetupView). r < x.nue) about lt)) };
  empty = λ r. ap (λ (v : SeatView). list_at v r) home ∙ newcomer_list s r;
}
