-- What a worker went through, its member went through, whatever stands beside the worker.
use Rattle.std.proofs.Common.{◌≡◌, ℕ, ◌<◌, List, [], ◌∷◌, length, slice_index_or, slice_set, ap, subst, sym}
use Rattle.scc_base.specs.Setups.{SetupView}
use Rattle.scc_base.specs.declared.events.Event.{Event}
use Rattle.scc_base.specs.declared.events.Turn.{Turn}
use Rattle.scc_base.specs.declared.events.Turn.TheVariants as turn
use Rattle.scc_mesh.specs.Scenes.{ChipView, about_in, records_in}
use Rattle.scc_proto.specs.Ports.{Sight}
use Rattle.chip_run.specs.declared.members.Member.{Member}
use Rattle.chip_run.specs.Away.{IsSlice, TookSlice, TookTurns, behaviour_of_members}
use Rattle.chip_run.specs.Behaves.{Behaviour, Later, NoTurn}
use Rattle.chip_run.specs.Crews.{IsCrew, OneTurn}
use Rattle.chip_run.specs.Turns.{TurnCameTo, RankHoldsNone, NoneElseHolds, TurnMeans, Turned, TurnedAtHome}
use Rattle.chip_run.specs.declared.rests.Rest.{Rest}
use Rattle.chip_run.specs.declared.rests.Rest.TheVariants as rest
use Rattle.chip_run.proofs.CrewHands.{crew_free, one_turned, ties_here}
use Rattle.chip_run.proofs.SliceLaws.{later_on, none_yet}

module _ {A : Type 0} (c : Behaviour A) where
  means_member : (stepped : List Event → Event → Type 0) (s : SetupView) (rank : ℕ) (own events : List Event) (old new : Member A) (answer : Turn)
      → TurnMeans c stepped s rank own events old.worker new.worker answer → TurnMeans (behaviour_of_members c) stepped s rank own events old new answer
  means_member stepped s rank own events old new turn.Moved means = record { moves = means.moves; less = means.less }
  means_member stepped s rank own events old new (turn.Waiting spot) means =
      record { stays = means.stays; seen = means.seen; rests = means.rests; alike = means.alike; look = means.look }
  means_member stepped s rank own events old new turn.Done means =
      record { stays = means.stays; seen = means.seen; nothing = means.nothing; over = means.over }

  pub turned_member : (stepped : List Event → Event → Type 0) (old : Member A) (s : Sight) (new : Member A) (t : Sight) (answer : Turn) → Turned c stepped old.worker s new.worker t answer
      → Turned (behaviour_of_members c) stepped old s new t answer
  turned_member stepped old s new t answer turned =
      record { events = turned.events; did = turned.did; means = means_member stepped s.seat.setup s.seat.rank s.events turned.events old new answer turned.means }

  later_member : (stepped : List Event → Event → Type 0) (answers : List Turn) (old : Member A) (s : Sight) (new : Member A) (t : Sight) → TookTurns (behaviour_of_members c) stepped answers old s new t → Later (behaviour_of_members c) old new
  later_member stepped [] old s new t (same, sight) = subst (Later (behaviour_of_members c) old) (sym same) NoTurn
  later_member stepped (answer ∷ before) old s new t (mid, m, took, turned) =
      later_on (behaviour_of_members c) stepped m.seat.setup m.seat.rank m.events turned.events old mid new answer (later_member stepped before old s mid m took) turned.means

module _ {A : Type 0} (c : Behaviour A) (like : Member A) where
  -- this member with another worker
  abbrev of : A → Member A
  of w = record like { worker = w }

  took_member : (stepped : List Event → Event → Type 0) (answers : List Turn) (old : A) (s : Sight) (new : A) (t : Sight) → TookTurns c stepped answers old s new t
      → TookTurns (behaviour_of_members c) stepped answers (of old) s (of new) t
  took_member stepped [] old s new t (same, sight) = (ap of same, sight)
  took_member stepped (answer ∷ before) old s new t (mid, m, took, turned) =
      (of mid, m, took_member stepped before old s mid m took, turned_member c stepped (of mid) m (of new) t answer turned)

module _ {A : Type 0} (c : Behaviour A) where
  took_by : (stepped : List Event → Event → Type 0) (answers : List Turn) → IsSlice 1000 answers → (old : Member A) (s : Sight) (new : Member A) (t : Sight) → TookTurns c stepped answers old.worker s new.worker t
      → TookTurns (behaviour_of_members c) stepped answers old s new t
  took_by stepped [] slice old s new t took = absurd (none_yet slice.ends)
  took_by stepped (answer ∷ before) slice old s new t (mid, m, took, turned) =
      (of c old mid, m, took_member c old stepped before old.worker s mid m took, turned_member c stepped (of c old mid) m new t answer turned)

  -- a member took the row of turns that its worker took
  pub member_took : (s : SetupView) (rank : ℕ) (old new : Member A) → TookSlice c s rank old.worker new.worker → TookSlice (behaviour_of_members c) s rank old new
  member_took s rank old new took =
      let turns = took.slice.turns in
      let all = took_by _ took.slice.answers took.slice.is_slice old took.first new took.last turns.took in
      record {
        first = took.first;
        last = took.last;
        setup_is = took.setup_is;
        rank_is = took.rank_is;
        slice = record {
          answers = took.slice.answers;
          is_slice = took.slice.is_slice;
          turns = record { events = turns.events; did = turns.did; later = later_member c _ took.slice.answers old took.first new took.last all; left = turns.left; took = all };
        };
      }

  came_member : (came : Rest) (chip : ChipView) (r : ℕ) (now : ChipView) (old new : Member A) → TurnCameTo c came chip r now old.worker new.worker → TurnCameTo (behaviour_of_members c) came chip r now old new
  came_member rest.Moved chip r now old new comes = record { moves = comes.moves; less = comes.less }
  came_member rest.Finished chip r now old new comes = record { stays = comes.stays; seen = comes.seen; alike = comes.alike; rests = comes.rests }
  came_member rest.Unfinished chip r now old new comes = record { stays = comes.stays; seen = comes.seen; alike = comes.alike; rests = comes.rests }

  -- between turns no rank of its crew holds a register
  pub members_free : ((x : A) (s : SetupView) (r : ℕ) (events : List Event) → c.tied x s r events → RankHoldsNone s r events)
      → (chip : ChipView) (crew : List (Member A)) (d : Member A) (me : ℕ) → IsCrew (behaviour_of_members c) chip crew → NoneElseHolds (about_in chip) (records_in chip) me
  members_free hands = crew_free (behaviour_of_members c) (λ m s r events home. hands m.worker s r events home.ties)

  -- a member took the turn that its worker took
  pub one_member : (chip : ChipView) (crew : List (Member A)) (at rank : ℕ) (d : Member A) (w : A) (now : ChipView) (came : Rest) → IsCrew (behaviour_of_members c) chip crew → at < length crew → rank ≡ at
      → TurnedAtHome c chip rank (slice_index_or crew at d).worker now w came → OneTurn (behaviour_of_members c) chip crew at now (slice_set crew at (record (slice_index_or crew at d) { worker = w })) came
  one_member chip crew at rank d w now came is_crew within is took =
      let m : Member A = slice_index_or crew at d in
      let new : Member A = record m { worker = w } in
      one_turned (behaviour_of_members c) chip crew at rank d is_crew within is new now came
      (record {
        turned = took.turned;
        ties = record { ties = took.ties; empty = (ties_here (behaviour_of_members c) chip crew at rank d is_crew within is).empty };
        comes = came_member came chip rank now m new took.comes;
      })
