-- A team after a turn of one rank.
use Rattle.std.proofs.Common.{◌≡◌, ◌≢◌, ℕ, ◌<◌, ◌≤◌, List, length, slice_set, slice_index_or, sym, ◌∙◌, ap, subst, arith}
use Rattle.std.proofs.lemmas.List.{length-set, get_or-set_same, get_or-set_other}
use Rattle.scc_base.specs.Setups.{SetupView}
use Rattle.scc_base.specs.declared.events.Event.{Event}
use Rattle.scc_proto.proofs.Tests.{same_or_other}
use Rattle.scc_mesh.specs.Scenes.{ChipView, about_in, events_in}
use Rattle.scc_mesh.specs.Turns.{AfterTurn}
use Rattle.scc_mesh.proofs.TurnLaws.{turn_leaves}
use Rattle.chip_teams.specs.Teams.{IsTeam}

-- ---- the team

pub team_goes_on : {A : Type 0} {stands : A → SetupView → ℕ → List Event → Type 0} {chip now : ChipView} {players : List A} → IsTeam stands chip players
    → (i : ℕ) (player : A) → i < length players → AfterTurn (stands player) chip i now → IsTeam stands now (slice_set players i player)
team_goes_on {A} {stands} {chip} {now} {players} team i player lt a =
    let fits = team.fits in
    let below : i < (about_in chip).nue = omega (arith, lt, fits) in
    let left = turn_leaves chip now i a.events team.whole below a.is in
    let about = left.about in
    let long : length (slice_set players i player) ≡ length players = length-set players i player in
    let other = left.others in
    record {
      whole = left.whole;
      fits = subst (λ (s : SetupView). length (slice_set players i player) ≤ s.nue) (sym about) (omega (arith, long, fits));
      each = λ r one within is. same_or_other (stands one (about_in now) r (events_in now r)) r i
          (λ t q.
          let this : one ≡ player = is ∙ ap (λ (k : ℕ). slice_index_or (slice_set players i player) k one) q ∙ get_or-set_same players i player one lt in
          subst (λ (x : A). stands x (about_in now) r (events_in now r)) (sym this)
          (subst (λ (k : ℕ). stands player (about_in now) k (events_in now k)) (sym q) a.here))
          (λ t q.
          let inside : r < length players = omega (arith, long, within) in
          subst (λ (s : SetupView). stands one s r (events_in now r)) (sym about)
          (subst (λ (es : List Event). stands one (about_in chip) r es) (sym (other r q))
          (team.each r one inside (is ∙ get_or-set_other players i r player one q))));
      empty = λ r le.
          let past : length players ≤ r = omega (arith, long, le) in
          let apart : r ≢ i = omega (arith, past, lt) in
          other r apart ∙ team.empty r past;
    }

-- the same for a rank that the code computed from the place
pub team_turned : {A : Type 0} {stands : A → SetupView → ℕ → List Event → Type 0} {chip now : ChipView} {players : List A} → IsTeam stands chip players
    → (i r : ℕ) (player : A) → r ≡ i → i < length players → AfterTurn (stands player) chip r now → IsTeam stands now (slice_set players i player)
team_turned {A} {stands} {chip} {now} {players} team i r player same lt a =
    team_goes_on team i player lt (subst (λ (k : ℕ). AfterTurn (stands player) chip k now) same a)
