-- What a witness has seen, behind one event more, and from a chip to a port and back.
use Rattle.std.proofs.Common.{◌≡◌, ◌≢◌, ℕ, ◌<◌, ◌==◌, None, Bool, true, false, if◌then◌else◌, List, [], ◌∷◌, ◌++◌, append-nil, refl, sym, ◌∙◌, ap, subst}
use Rattle.std.proofs.Math.Logic.{∥∥₁_elim, ∥∥₁_map, ∥∥₁_prop}
use Rattle.scc_base.specs.Setups.{SetupView}
use Rattle.scc_base.specs.declared.events.Event.{Event}
use Rattle.scc_proto.specs.Histories.{events_of}
use Rattle.scc_proto.specs.Ports.{Seat, Sight, Did}
use Rattle.scc_proto.specs.Words.{RankEvent}
use Rattle.scc_proto.proofs.Tests.{same_or_other}
use Rattle.scc_mesh.specs.Scenes.{ChipView, about_in, events_in, home_in, sight_in, view_coded}
use Rattle.chip_run.specs.Behaves.{Behaviour}
use Rattle.scc_mesh.specs.SeatViews.{SeatView, list_at, list_or_none, without}
use Rattle.scc_mesh.proofs.ViewLemmas.{known_there}
use Rattle.trace_run.specs.Seen.{HasSeen, HasSeenAll, StillWanted, ToldAll, ToldAt}

-- ---- the events of one rank

-- the events of a rank among two lists, one behind the other
pub events_more : (r : ℕ) (a b : List RankEvent) → events_of r (a ++ b) ≡ events_of r a ++ events_of r b
events_more r [] b = refl
events_more r (e ∷ a) b = by (events_more r a b) (e.rank == r)
  where
    by : events_of r (a ++ b) ≡ events_of r a ++ events_of r b → (t : Bool)
        → (if t then e.event ∷ events_of r (a ++ b) else events_of r (a ++ b)) ≡ (if t then e.event ∷ events_of r a else events_of r a) ++ events_of r b
    by rest true = ap (λ (l : List Event). e.event ∷ l) rest
    by rest false = rest

abbrev one : ℕ → Event → List RankEvent
one r e = record { rank = r; event = e } ∷ []

one_own : (r q : ℕ) (e : Event) → (r == q) ≡ true → events_of q (one r e) ≡ e ∷ []
one_own r q e same = ap (λ (b : Bool). if b then e ∷ [] else []) same

one_other : (r q : ℕ) (e : Event) → (r == q) ≡ false → events_of q (one r e) ≡ []
one_other r q e other = ap (λ (b : Bool). if b then e ∷ [] else []) other

pub own_more : (r q : ℕ) (e : Event) (run : List RankEvent) → r ≡ q → events_of q (run ++ one r e) ≡ events_of q run ++ e ∷ []
own_more r q e run same = same_or_other (events_of q (run ++ one r e) ≡ events_of q run ++ e ∷ []) r q
    (λ t is. events_more q run (one r e) ∙ ap (λ (l : List Event). events_of q run ++ l) (one_own r q e t))
    (λ t ne. absurd (ne same))

pub other_more : (r q : ℕ) (e : Event) (run : List RankEvent) → q ≢ r → events_of q (run ++ one r e) ≡ events_of q run
other_more r q e run other = same_or_other (events_of q (run ++ one r e) ≡ events_of q run) r q
    (λ t is. absurd (other (sym is)))
    (λ t ne. events_more q run (one r e) ∙ ap (λ (l : List Event). events_of q run ++ l) (one_other r q e t) ∙ append-nil (events_of q run))

-- ---- one event more at a port

told_at : (told after : List RankEvent → Type 0) (seat : Seat) (r : ℕ) (events : List Event) (e : Event) → r ≡ seat.rank
    → ((run : List RankEvent) → told run → after (run ++ one r e)) → ToldAt told (record { seat = seat; events = events })
    → ToldAt after (record { seat = seat; events = events ++ e ∷ [] })
told_at told after seat r events e is notes seen = record {
  run = seen.run ++ one r e;
  noted = notes seen.run seen.noted;
  own = own_more r seat.rank e seen.run is ∙ ap (λ (l : List Event). l ++ e ∷ []) seen.own;
  resting = seen.resting;
  rest = seen.rest;
  others = λ q ne. other_more r q e seen.run (λ own. ne (own ∙ is)) ∙ seen.others q ne;
}

-- a witness who was told the event of a port, written so or otherwise, has seen what the port shows then
pub seen_more : (u v : SetupView) (told after : List RankEvent → Type 0) (s t : Sight) (r : ℕ) (e made : Event) → made ≡ e → r ≡ s.seat.rank → Did s (e ∷ []) t → v ≡ u
    → ((run : List RankEvent) → told run → after (run ++ record { rank = r; event = made } ∷ [])) → HasSeen u told s → HasSeen v after t
seen_more u v told after s t r e made written is did same notes seen =
    let notes_it : (run : List RankEvent) → told run → after (run ++ one r e) = subst (λ (x : Event). (run : List RankEvent) → told run → after (run ++ one r x)) written notes in
    record {
      setup_is = same ∙ seen.setup_is ∙ sym (ap (λ (x : Sight). x.seat.setup) did.continues);
      seen = ∥∥₁_map seen.seen (λ at. subst (λ (x : Sight). ToldAt after x) (sym did.continues) (told_at told after s.seat r s.events e is notes_it at));
    }

-- the rank of a port is one of the witness's setup
pub below_seen : (u : SetupView) (told : List RankEvent → Type 0) (s : Sight) (r : ℕ) → HasSeen u told s → r < s.seat.setup.nue → r < u.nue
below_seen u told s r seen below = subst (λ (x : SetupView). r < x.nue) (sym seen.setup_is) below

-- ---- from a chip to a port and back

-- the lists that a port has of the other ranks are those of the chip
list_without : (home : SeatView) (r q : ℕ) → q ≢ r → list_at (without home r) q ≡ list_at home q
list_without home r q ne = ap list_or_none (known_there home r None q ne)

lent_at : (told : List RankEvent → Type 0) (chip : ChipView) (at hold : ℕ) → ToldAll told chip → ToldAt told (sight_in chip at hold)
lent_at told chip at hold all = record {
  run = all.run;
  noted = all.noted;
  own = all.each at;
  resting = without (home_in chip) at;
  rest = refl;
  others = λ q ne. all.each q ∙ sym (list_without (home_in chip) at q ne);
}

back_all : (told : List RankEvent → Type 0) (now : ChipView) (at hold : ℕ) → ToldAt told (sight_in now at hold) → ToldAll told now
back_all told now at hold there =
    let rests : without (home_in now) at ≡ there.resting = view_coded.inj (without (home_in now) at) there.resting there.rest in
    record {
      run = there.run;
      noted = there.noted;
      each = λ q. same_or_other (events_of q there.run ≡ events_in now q) q at
          (λ t is. subst (λ (k : ℕ). events_of k there.run ≡ events_in now k) (sym is) there.own)
          (λ t ne. there.others q ne ∙ ap (λ (v : SeatView). list_at v q) (sym rests) ∙ list_without (home_in now) at q ne);
    }

-- a port that was lent the chip
pub seen_lent : (u : SetupView) (told : List RankEvent → Type 0) (chip old : ChipView) (at hold : ℕ) → old ≡ chip → HasSeenAll u told chip → HasSeen u told (sight_in old at hold)
seen_lent u told chip old at hold same seen =
    subst (λ (y : ChipView). HasSeen u told (sight_in y at hold)) (sym same)
    (record { setup_is = seen.setup_is; seen = ∥∥₁_map seen.seen (lent_at told chip at hold) })

-- and gives it back
pub seen_back : (u : SetupView) (told : List RankEvent → Type 0) (now end : ChipView) (at hold : ℕ) → end ≡ now → HasSeen u told (sight_in now at hold) → HasSeenAll u told end
seen_back u told now end at hold same seen =
    subst (λ (y : ChipView). HasSeenAll u told y) (sym same)
    (record { setup_is = seen.setup_is; seen = ∥∥₁_map seen.seen (back_all told now at hold) })

-- a worker that is tied to its rank's events on a chip is so at a port that was lent the chip
pub tied_lent : {A : Type 0} (c : Behaviour A) (chip old : ChipView) (r at : ℕ) (w : A) → old ≡ chip → at ≡ r → c.tied w (about_in chip) r (events_in chip r)
    → c.tied w (about_in old) at (events_in old at)
tied_lent c chip old r at w same here ties =
    subst (λ (y : ChipView). c.tied w (about_in y) at (events_in y at)) (sym same)
    (subst (λ (k : ℕ). c.tied w (about_in chip) k (events_in chip k)) (sym here) ties)

-- ---- after which events a witness wanted to be told more

pub still_first : (before : List RankEvent → Type 0) → StillWanted before before
still_first before = ∣ (λ run was. was) ∣₁

pub still_on : (before mid after : List RankEvent → Type 0) → StillWanted before mid → ((run : List RankEvent) → mid run → after run) → StillWanted before after
still_on before mid after one two = ∥∥₁_map one (λ f run was. two run (f run was))

pub still_both : (before mid after : List RankEvent → Type 0) → StillWanted before mid → StillWanted mid after → StillWanted before after
still_both before mid after one two = ∥∥₁_elim two ∥∥₁_prop (λ f. still_on before mid after one f)

-- a witness that wanted to be told more after the events of a chip still is said to have
pub told_still : (before after : List RankEvent → Type 0) (chip : ChipView) → StillWanted before after → ∥ ToldAll before chip ∥₁ → ∥ ToldAll after chip ∥₁
told_still before after chip still told =
    ∥∥₁_elim still ∥∥₁_prop (λ f. ∥∥₁_map told (λ all. record { run = all.run; noted = f all.run all.noted; each = all.each }))

-- one that listens wants more after all that it was told
pub told_wanted : (noted wanted : List RankEvent → Type 0) (chip : ChipView) → ((run : List RankEvent) → noted run → wanted run) → ∥ ToldAll noted chip ∥₁ → ∥ ToldAll wanted chip ∥₁
told_wanted noted wanted chip f told = ∥∥₁_map told (λ all. record { run = all.run; noted = f all.run all.noted; each = all.each })
