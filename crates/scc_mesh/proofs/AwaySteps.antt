-- Seats that stand for one rank alone, and their steps.
use Rattle.std.proofs.Common.{◌≡◌, ℕ, ◌<◌, List, [], ◌∷◌, ◌++◌, slice_set, Some, length, refl, sym, ◌∙◌, ap, subst, arith}
use Rattle.std.proofs.lemmas.List.{length-set}
use Rattle.atomic_table.specs.Table.{Me}
use Rattle.atomic_table.specs.Seated.{TableId}
use Rattle.scc_base.specs.Setups.{SetupView}
use Rattle.scc_base.specs.declared.events.Event.{Event}
use Rattle.scc_proto.specs.Records.{IsPermitted, record_of}
use Rattle.scc_proto.specs.Soundness.{IsSound}
use Rattle.scc_proto.specs.Ports.{Did, MayMake, IsSoundPort, record_in, and_then}
use Rattle.scc_mesh.specs.SeatViews.{SeatView, events_of_rank, list_or_none, list_at, IsKnown, IsLoneSeat, lone_view, joined_seats}
use Rattle.scc_mesh.specs.Keeping.{Knows, Made}
use Rattle.scc_mesh.specs.AwayRanks.{Ticket, Away, IsSoundAway, MadeAway}
use Rattle.scc_mesh.specs.Scenes.{WasSeatStep, sight_away}
use Rattle.scc_mesh.proofs.ViewLemmas.{alone_here, alone_set, joined_alone, joined_here}
use Rattle.scc_proto.proofs.Agreement.SoundLaw.{sound_law}
use Rattle.scc_mesh.specs.Keeping.{records_by}

module _ {S : Type 0} where
  pub lone_known : (r : ℕ) (me : Me S SeatView) → IsLoneSeat r me → IsKnown me.0 r
  lone_known r me lone = ap (λ (m : Me S SeatView). events_of_rank m.0 r) lone ∙ alone_here r (Some (list_at me.0 r))

  -- a seat that was just handed out
  pub lone_new : (r : ℕ) (v : SeatView) (me : Me S SeatView) → IsKnown v r → me ≡ (lone_view r (events_of_rank v r), []) → IsLoneSeat r me
  lone_new r v me here is =
      let list : list_at me.0 r ≡ list_at v r = ap (λ (m : Me S SeatView). list_at m.0 r) is ∙ ap list_or_none (alone_here r (events_of_rank v r)) in
      is ∙ (λ i. (lone_view r (here i), [])) ∙ (λ i. (lone_view r (Some (sym list i)), []))

  pub new_list : (r : ℕ) (v : SeatView) (me : Me S SeatView) → me ≡ (lone_view r (events_of_rank v r), []) → list_at me.0 r ≡ list_at v r
  new_list r v me is = ap (λ (m : Me S SeatView). list_at m.0 r) is ∙ ap list_or_none (alone_here r (events_of_rank v r))

  module _ (s : SetupView) (r : ℕ) (old new : Me S SeatView) (e : Event) (lone : IsLoneSeat r old) (made : Made s r old.0 e new.0) (held : new.1 ≡ old.1) where
    pub lone_after : IsLoneSeat r new
    lone_after =
        let events : List Event = list_at old.0 r ++ e ∷ [] in
        let changed : new.0 ≡ lone_view r (Some (list_at old.0 r ++ e ∷ [])) = made.view ∙ ap (λ (m : Me S SeatView). slice_set m.0 r (Some (list_at old.0 r ++ e ∷ []))) lone ∙ alone_set r (Some (list_at old.0 r)) (Some (list_at old.0 r ++ e ∷ [])) in
        let view : new.0 ≡ lone_view r (Some (list_at new.0 r)) = changed ∙ (λ i. lone_view r (Some (sym made.list i))) in
        let none : new.1 ≡ [] = held ∙ ap (λ (m : Me S SeatView). m.1) lone in
        λ i. (view i, none i)

    pub made_away : (table : TableId) → MadeAway s (record { table = table; rank = r; events = list_at old.0 r }) e (record { table = table; rank = r; events = list_at new.0 r })
    made_away table = record {
      next = λ i. record { table = table; rank = r; events = made.list i };
      step = record {
        memory = made.step.memory;
        lists = made.step.lists;
        own = made.step.own;
        others = λ q events ne is. absurd (cc (is));
        before = made.step.before;
        step = made.step.step;
        after = made.step.after;
      };
      honest = made.honest;
      sound = (made.knows.below r (list_at new.0 r) made.known, made.sound);
    }

  pub knows_away : (s : SetupView) (r : ℕ) (me : Me S SeatView) (table : TableId) → IsLoneSeat r me → Knows s me.0 → IsSoundAway s (record { table = table; rank = r; events = list_at me.0 r })
  knows_away s r me table lone knows =
      let here = lone_known r me lone in
      let below = knows.below r (list_at me.0 r) here in (
        below,
        subst (λ (l : List Event). IsSound s r (record_of s r l)) (knows.list r (list_at me.0 r) here)
            (sound_law s knows.memory (records_by s knows.lists) knows.together.agree r below),
      )

-- ---- a port of a rank that is away

module _ (s : SetupView) (old new : Ticket) (e : Event) (made : MadeAway s old e new) where
  away_continues : sight_away s new ≡ and_then (sight_away s old) (e ∷ [])
  away_continues = ap (λ (t : Ticket). sight_away s t) made.next

  pub away_did : MayMake (sight_away s old).seat (record_in (sight_away s old)) e → Did (sight_away s old) (e ∷ []) (sight_away s new)
  unfolding record_in
  away_did may = record { continues = away_continues; made = (record { permitted = may; honest = made.honest }, tt) }

  pub away_sound : IsSoundPort (sight_away s new)
  unfolding record_in
  away_sound = made.sound.1

  pub away_step : WasSeatStep (sight_away s old).seat old.events e
  away_step = record { resting = []; rest = refl; step = made.step }

pub may_away : (s : SetupView) (ticket : Ticket) (e : Event) → MayMake (sight_away s ticket).seat (record_in (sight_away s ticket)) e → IsPermitted s ticket.rank (record_of s ticket.rank ticket.events) e
unfolding record_in
may_away s ticket e may = may

pub sound_away : (s : SetupView) (ticket : Ticket) → IsSoundAway s ticket → IsSoundPort (sight_away s ticket)
unfolding record_in
sound_away s ticket sound = sound.1

-- ---- the same for a port over its words

module _ (token : Ticket) (s : SetupView) (port : Away) (e : Event) (view_is : record { about = s; ticket = token } ≡ port) where
  pub may_there : MayMake (sight_away port.about port.ticket).seat (record_in (sight_away port.about port.ticket)) e → IsPermitted s token.rank (record_of s token.rank token.events) e
  may_there may = may_away s token e (subst (λ (p : Away). MayMake (sight_away p.about p.ticket).seat (record_in (sight_away p.about p.ticket)) e) (sym view_is) may)

  module _ (new : Ticket) (made : MadeAway s token e new) where
    pub did_there : MayMake (sight_away port.about port.ticket).seat (record_in (sight_away port.about port.ticket)) e
        → Did (sight_away port.about port.ticket) (e ∷ []) (sight_away s new)
    did_there may = subst (λ (p : Away). MayMake (sight_away p.about p.ticket).seat (record_in (sight_away p.about p.ticket)) e → Did (sight_away p.about p.ticket) (e ∷ []) (sight_away s new)) view_is
        (away_did s token new e made) may

    pub step_there : WasSeatStep (sight_away port.about port.ticket).seat port.ticket.events e
    step_there = subst (λ (p : Away). WasSeatStep (sight_away p.about p.ticket).seat p.ticket.events e) view_is (away_step s token new e made)

    pub sound_there : IsSoundPort (sight_away s new)
    sound_there = away_sound s token new e made

-- ---- a rank comes home

module _ (s : SetupView) (home : SeatView) (r : ℕ) (events : List Event) (now : SeatView) (is : now ≡ joined_seats home (lone_view r (Some events))) (knows : Knows s now) (ranks : length home ≡ s.nue) where
  within_home : r < length home
  within_home =
      let here : events_of_rank now r ≡ Some events = ap (λ (v : SeatView). events_of_rank v r) is ∙ joined_here home r events in
      let below = knows.below r events here in
      omega (arith, below, ranks)

  pub gathered : now ≡ slice_set home r (Some events)
  gathered = is ∙ joined_alone home r events within_home

  pub gathered_ranks : length now ≡ s.nue
  gathered_ranks = ap (λ (v : SeatView). length v) gathered ∙ length-set home r (Some events) ∙ ranks

  pub gathered_below : r < s.nue
  gathered_below = let lt = within_home in omega (arith, lt, ranks)

  pub gathered_known : events_of_rank now r ≡ Some events
  gathered_known = ap (λ (v : SeatView). events_of_rank v r) is ∙ joined_here home r events
