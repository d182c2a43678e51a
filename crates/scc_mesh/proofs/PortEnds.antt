-- What a chip or a token is once a port has made its events.
use Rattle.std.proofs.Common.{◌≡◌, ℕ, true, nat_lt, List, ◌++◌, slice_set, Option, Some, None, sym, ◌∙◌, ap}
use Rattle.std.proofs.lemmas.List.{set-get_or}
use Rattle.atomic_table.specs.Seated.{table_id_coded}
use Rattle.scc_base.specs.Setups.{SetupView}
use Rattle.scc_base.specs.declared.events.Event.{Event}
use Rattle.scc_proto.specs.Ports.{Sight, Did}
use Rattle.scc_proto.proofs.Tests.{both_first}
use Rattle.scc_mesh.specs.SeatViews.{SeatView, events_of_rank, list_at, without}
use Rattle.scc_mesh.specs.AwayRanks.{Ticket}
use Rattle.scc_mesh.specs.Scenes.{ChipView, Scene, IsOpen, is_at_home, is_port_of, home_in, events_in, with_home, view_coded, sight_in, sight_away}
use Rattle.scc_mesh.proofs.ViewLemmas.{set_twice}
use Rattle.scc_mesh.proofs.HomeLaws.{known_if}

-- a rank that is away has its list, continued by the port's events
module _ (s t : SetupView) (old new : Ticket) (events : List Event) (did : Did (sight_away s old) events (sight_away t new)) where
  pub same_setup : t ≡ s
  same_setup = ap (λ (x : Sight). x.seat.setup) did.continues

  pub ticket_ends : new ≡ record old { events = old.events ++ events }
  ticket_ends =
      let table = table_id_coded.inj new.table old.table (ap (λ (x : Sight). x.seat.mark) did.continues) in
      λ i. record { table = table i; rank = (did.continues i).seat.rank; events = (did.continues i).events }

-- and so has a rank at home, where no other rank's list has changed
module _ (old new : Scene) (r hold later : ℕ) (events : List Event) (port : is_port_of (Some new) r ≡ true) (did : Did (sight_in (Some old) r hold) events (sight_in (Some new) r later)) where
  new_known : events_of_rank new.home r ≡ Some (list_at new.home r)
  new_known = known_if (events_of_rank new.home r) (both_first (is_at_home (events_of_rank new.home r)) (nat_lt r new.about.nue) port)

  same_others : without new.home r ≡ without old.home r
  same_others = view_coded.inj (without new.home r) (without old.home r) (ap (λ (x : Sight). x.seat.rest) did.continues)

  home_ends : new.home ≡ slice_set old.home r (Some (list_at old.home r ++ events))
  home_ends = sym (set-get_or new.home r None)
      ∙ sym (set_twice new.home r None (events_of_rank new.home r))
      ∙ ap (λ (v : SeatView). slice_set v r (events_of_rank new.home r)) same_others
      ∙ set_twice old.home r None (events_of_rank new.home r)
      ∙ ap (λ (x : Option (List Event)). slice_set old.home r x) (new_known ∙ (λ i. Some ((did.continues i).events)))

  scene_ends : new ≡ record old { home = slice_set old.home r (Some (list_at old.home r ++ events)) }
  scene_ends =
      let table = table_id_coded.inj new.table old.table (ap (λ (x : Sight). x.seat.mark) did.continues) in
      λ i. record { about = (did.continues i).seat.setup; table = table i; home = home_ends i }

pub chip_ends : (old new : ChipView) (r hold later : ℕ) (events : List Event) → IsOpen old → is_port_of new r ≡ true → Did (sight_in old r hold) events (sight_in new r later)
    → new ≡ with_home old (slice_set (home_in old) r (Some (events_in old r ++ events)))
chip_ends None new r hold later events opened port did = absurd (cc (opened))
chip_ends (Some scene) None r hold later events opened port did = absurd (cc (port))
chip_ends (Some scene) (Some late) r hold later events opened port did = λ i. Some (scene_ends scene late r hold later events port did i)
