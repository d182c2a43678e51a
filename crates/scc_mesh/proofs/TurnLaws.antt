-- What a turn of one rank leaves on a chip, and what is left to a rank that is away.
use Rattle.std.proofs.Common.{◌≡◌, ◌≢◌, ℕ, ◌<◌, true, List, ◌++◌, Some, None, refl, sym, ◌∙◌, ap, subst, slice_set}
use Rattle.scc_base.specs.Setups.{SetupView}
use Rattle.scc_base.specs.declared.events.Event.{Event}
use Rattle.scc_proto.specs.Ports.{Sight, Did}
use Rattle.scc_proto.proofs.Tests.{same_or_other}
use Rattle.scc_mesh.specs.SeatViews.{list_or_none}
use Rattle.scc_mesh.specs.AwayRanks.{Ticket, Away}
use Rattle.scc_mesh.specs.Scenes.{ChipView, IsOpen, IsHome, IsWhole, about_in, table_in, home_in, events_in, with_home, is_port_of, sight_in, sight_away}
use Rattle.scc_mesh.specs.Turns.{AfterTurn, AfterTurnAway, IsTurned}
use Rattle.scc_mesh.proofs.ViewLemmas.{known_within, known_here, known_there, is_known}
use Rattle.scc_mesh.proofs.PortEnds.{chip_ends, same_setup, ticket_ends}

-- ---- a rank at home

-- a port that was lent a chip has gone on by its events
pub after_turn : (stands : SetupView → ℕ → List Event → Type 0) (chip old now : ChipView) (r before later hold name : ℕ) → old ≡ chip → before ≡ r → IsOpen chip
    → is_port_of now later ≡ true → (events : List Event) × Did (sight_in old before hold) events (sight_in now later name) → stands (about_in now) later (events_in now later)
    → AfterTurn stands chip r now
after_turn stands chip old now r before later hold name same from opened port did st =
    let rank : later ≡ before = ap (λ (x : Sight). x.seat.rank) did.1.continues in
    let here : Did (sight_in chip r hold) did.0 (sight_in now r name)
    = subst (λ (k : ℕ). Did (sight_in chip k hold) did.0 (sight_in now k name)) from
    (subst (λ (k : ℕ). Did (sight_in chip before hold) did.0 (sight_in now k name)) rank
    (subst (λ (c : ChipView). Did (sight_in c before hold) did.0 (sight_in now later name)) same did.1)) in
    record {
      events = did.0;
      is = chip_ends chip now r hold name did.0 opened (subst (λ (k : ℕ). is_port_of now k ≡ true) (rank ∙ from) port) here;
      here = subst (λ (k : ℕ). stands (about_in now) k (events_in now k)) (rank ∙ from) st;
    }

-- the name of the chip that a port holds is kept
pub name_kept : (old now : ChipView) (before later hold name : ℕ) → (events : List Event) × Did (sight_in old before hold) events (sight_in now later name) → name ≡ hold
name_kept old now before later hold name did = ap (λ (x : Sight). x.seat.hold) did.1.continues

-- the chip at the end of the borrow is the port's
pub turn_end : (stands : SetupView → ℕ → List Event → Type 0) (chip : ChipView) (r : ℕ) (end now : ChipView) → end ≡ now → AfterTurn stands chip r now → AfterTurn stands chip r end
turn_end stands chip r end now e a = subst (λ (x : ChipView). AfterTurn stands chip r x) (sym e) a

-- ---- a chip of which one list is longer

about_longer : (chip : ChipView) (i : ℕ) (events : List Event) → about_in (with_home chip (slice_set (home_in chip) i (Some events))) ≡ about_in chip
about_longer None i events = refl
about_longer (Some scene) i events = refl

table_longer : (chip : ChipView) (i : ℕ) (events : List Event) → table_in (with_home chip (slice_set (home_in chip) i (Some events))) ≡ table_in chip
table_longer None i events = refl
table_longer (Some scene) i events = refl

home_longer : (chip : ChipView) (i : ℕ) (events : List Event) → IsHome chip i → (r : ℕ) → IsHome chip r → IsHome (with_home chip (slice_set (home_in chip) i (Some events))) r
home_longer None i events here r home = absurd (cc (here))
home_longer (Some scene) i events here r home = same_or_other (IsHome (Some (record scene { home = slice_set scene.home i (Some events) })) r) r i
    (λ t q. subst (λ (k : ℕ). IsHome (Some (record scene { home = slice_set scene.home i (Some events) })) k) (sym q)
    (is_known (slice_set scene.home i (Some events)) i events (known_here scene.home i (Some events) (known_within scene.home i (events_in (Some scene) i) here))))
    (λ t q. let same = known_there scene.home i (Some events) r q in same ∙ home ∙ (λ j. Some (list_or_none (sym same j))))

others_longer : (chip : ChipView) (i : ℕ) (events : List Event) (r : ℕ) → r ≢ i → events_in (with_home chip (slice_set (home_in chip) i (Some events))) r ≡ events_in chip r
others_longer None i events r other = refl
others_longer (Some scene) i events r other = ap list_or_none (known_there scene.home i (Some events) r other)

whole_longer : (chip : ChipView) (i : ℕ) (events : List Event) → IsWhole chip → i < (about_in chip).nue → IsWhole (with_home chip (slice_set (home_in chip) i (Some events)))
whole_longer None i events whole lt = absurd (cc (whole.opened))
whole_longer (Some scene) i events whole lt = record { opened = refl; home = λ r below. home_longer (Some scene) i events (whole.home i lt) r (whole.home r below) }

-- what some events more of one rank leave
pub turn_leaves : (chip now : ChipView) (r : ℕ) (events : List Event) → IsWhole chip → r < (about_in chip).nue → now ≡ with_home chip (slice_set (home_in chip) r (Some (events_in chip r ++ events)))
    → IsTurned chip r now
turn_leaves chip now r events whole lt is =
    let all : List Event = events_in chip r ++ events in record {
      about = ap about_in is ∙ about_longer chip r all;
      table = ap table_in is ∙ table_longer chip r all;
      whole = subst (λ (c : ChipView). IsWhole c) (sym is) (whole_longer chip r all whole lt);
      others = λ q other. ap (λ (c : ChipView). events_in c q) is ∙ others_longer chip r all q other;
    }

-- ---- a rank that is away

-- a token stands where its port's events stand
pub stands_there : (stands : SetupView → ℕ → List Event → Type 0) (s : SetupView) (token : Ticket) (port : Away) → port ≡ record { about = s; ticket = token }
    → stands s token.rank token.events → stands port.about port.ticket.rank port.ticket.events
stands_there stands s token port is st = subst (λ (p : Away). stands p.about p.ticket.rank p.ticket.events) (sym is) st

-- a token that its port gave back has gone on by the port's events
pub came_back : (stands : SetupView → ℕ → List Event → Type 0) (s : SetupView) (token back : Ticket) (port end : Away) → port ≡ record { about = s; ticket = token }
    → (events : List Event) × Did (sight_away port.about port.ticket) events (sight_away end.about end.ticket) → stands end.about end.ticket.rank end.ticket.events → back ≡ end.ticket
    → AfterTurnAway stands s token back
came_back stands s token back port end is did st back_is =
    let about : end.about ≡ s = same_setup port.about end.about port.ticket end.ticket did.0 did.1 ∙ ap (λ (p : Away). p.about) is in
    let ends = ticket_ends port.about end.about port.ticket end.ticket did.0 did.1 in record {
      events = did.0;
      is = back_is ∙ ends ∙ ap (λ (p : Away). record p.ticket { events = p.ticket.events ++ did.0 }) is;
      here = subst (λ (x : SetupView). stands x back.rank back.events) about (subst (λ (t : Ticket). stands end.about t.rank t.events) (sym back_is) st);
    }
