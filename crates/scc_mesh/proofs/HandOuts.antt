-- All ranks are handed out in order, and taken home in order: then all are at home.
use Rattle.std.proofs.Common.{◌≡◌, ◌≢◌, ◌⊎◌, inl, inr, ℕ, zero, suc, ◌+◌, ◌<◌, ◌≤◌, List, length, slice_set, Some, None, refl, sym, ◌∙◌, ap, subst, arith}
use Rattle.std.proofs.lemmas.Bool.{cases_eq}
use Rattle.std.proofs.lemmas.List.{length-set}
use Rattle.atomic_table.specs.Seated.{table_id_coded}
use Rattle.scc_base.specs.declared.events.Event.{Event}
use Rattle.scc_proto.specs.Ports.{Seat}
use Rattle.scc_mesh.specs.AwayRanks.{Away}
use Rattle.scc_mesh.specs.SeatViews.{SeatView, list_or_none, list_at, IsKnown, without}
use Rattle.scc_mesh.specs.Scenes.{ChipView, IsWhole, IsHomeFrom, IsHomeBelow, about_in, home_in, events_in, with_home, sight_away}
use Rattle.scc_mesh.proofs.ViewLemmas.{is_known, known_within, known_here, known_there}

room_for : (home : SeatView) (nue : ℕ) → ((r : ℕ) → r < nue → IsKnown home r) → nue ≤ length home
room_for home zero all = omega arith
room_for home (suc n) all = let within = known_within home n (list_at home n) (all n (omega arith)) in omega (arith, within)

-- before the first is handed out
pub all_at_home : (chip : ChipView) → IsWhole chip → IsHomeFrom chip 0
all_at_home chip whole = record {
  opened = whole.opened;
  room = room_for (home_in chip) (about_in chip).nue whole.home;
  home = λ r from below. whole.home r below;
}

-- one more is handed out
pub one_handed_out : (chip : ChipView) (n : ℕ) → IsHomeFrom chip n → IsHomeFrom (with_home chip (without (home_in chip) n)) (n + 1)
one_handed_out None n before = absurd (cc (before.opened))
one_handed_out (Some scene) n before = record {
  opened = refl;
  room = subst (λ k. scene.about.nue ≤ k) (sym (length-set scene.home n None)) before.room;
  home = λ r from below.
      let ne : r ≢ n = λ e. absurd (omega (arith, from, e)) in
      let here = before.home r (omega (arith, from)) below in
      let same = known_there scene.home n None r ne in
      is_known (without scene.home n) r (list_at scene.home r) (same ∙ here);
}

-- before the first comes home
pub none_at_home : (chip : ChipView) (n : ℕ) → IsHomeFrom chip n → IsHomeBelow chip 0
none_at_home chip n before = record { opened = before.opened; room = before.room; home = λ r below. absurd (omega (arith, below)) }

-- one more comes home
pub one_came_home : (chip : ChipView) (n : ℕ) (events : List Event) → IsHomeBelow chip n → n < (about_in chip).nue
    → IsHomeBelow (with_home chip (slice_set (home_in chip) n (Some events))) (n + 1)
one_came_home None n events before below = absurd (cc (before.opened))
one_came_home (Some scene) n events before below = record {
  opened = refl;
  room = subst (λ k. scene.about.nue ≤ k) (sym (length-set scene.home n (Some events))) before.room;
  home = λ r under. by r under (cases_eq r n);
}
  where
    by : (r : ℕ) → r < n + 1 → (r ≡ n) ⊎ (r ≡ n → ⊥) → IsKnown (slice_set scene.home n (Some events)) r
    by r under (inl e) =
        let room = before.room in
        let within : n < length scene.home = omega (arith, room, below) in
        subst (λ q. IsKnown (slice_set scene.home n (Some events)) q) (sym e)
        (is_known (slice_set scene.home n (Some events)) n events (known_here scene.home n (Some events) within))
    by r under (inr ne) =
        let less : r < n = omega (arith, under, ne) in
        is_known (slice_set scene.home n (Some events)) r (list_at scene.home r) (known_there scene.home n (Some events) r ne ∙ before.home r less)

-- all have come home
pub all_came_home : (chip : ChipView) (n : ℕ) → IsHomeBelow chip n → (about_in chip).nue ≤ n → IsWhole chip
all_came_home chip n before all = record { opened = before.opened; home = λ r below. before.home r (omega (arith, below, all)) }

-- a rank was handed out
pub after_spread : (chip new : ChipView) (n r : ℕ) → r ≡ n → new ≡ with_home chip (without (home_in chip) r) → IsHomeFrom chip n → IsHomeFrom new (n + 1)
after_spread chip new n r is made before =
    subst (λ (x : ChipView). IsHomeFrom x (n + 1)) (sym (made ∙ ap (λ q. with_home chip (without (home_in chip) q)) is)) (one_handed_out chip n before)

-- a rank was taken home
pub after_gather : (chip new : ChipView) (n r : ℕ) (events : List Event) → r ≡ n → new ≡ with_home chip (slice_set (home_in chip) r (Some events)) → IsHomeBelow chip n
    → n < (about_in chip).nue → IsHomeBelow new (n + 1)
after_gather chip new n r events is made before below =
    subst (λ (x : ChipView). IsHomeBelow x (n + 1)) (sym (made ∙ ap (λ q. with_home chip (slice_set (home_in chip) q (Some events))) is)) (one_came_home chip n events before below)

-- the others keep their events where a rank is handed out
pub others_keep : (chip new : ChipView) (r q : ℕ) → q ≢ r → new ≡ with_home chip (without (home_in chip) r) → events_in new q ≡ events_in chip q
others_keep chip new r q ne made = ap (λ (x : ChipView). events_in x q) made ∙ kept chip
  where
    kept : (c : ChipView) → events_in (with_home c (without (home_in c) r)) q ≡ events_in c q
    kept None = refl
    kept (Some scene) = ap list_or_none (known_there scene.home r None q ne)

-- a port of a rank that is away keeps the rank's token
pub same_ticket : (old new : Away) → (sight_away new.about new.ticket).seat ≡ (sight_away old.about old.ticket).seat
    → (new.ticket.table ≡ old.ticket.table) × (new.ticket.rank ≡ old.ticket.rank)
same_ticket old new same = (table_id_coded.inj new.ticket.table old.ticket.table (ap (λ (x : Seat). x.mark) same), ap (λ (x : Seat). x.rank) same)
