-- What a seat of the table knows: for each rank that it stands for, the list of its events.
use Rattle.std.specs.Prelude.{◌≡◌, ℕ, List, [], ◌∷◌, ◌++◌, Option, Some, None, replicate, slice_index_or, slice_set}
use Rattle.atomic_table.specs.Table.{Me}
use Rattle.scc_base.specs.Setups.{SetupView}
use Rattle.scc_base.specs.declared.events.Event.{Event}

-- by rank; None where the seat does not stand for the rank, and so beyond the end
abbrev pub SeatView : Type 0
SeatView = List (Option (List Event))

-- the events of a rank as the seat knows them: none told where the seat does not stand for the rank
abbrev pub events_of_rank : SeatView → ℕ → Option (List Event)
events_of_rank v r = slice_index_or v r None

-- the events of a list that may be absent: none where it is
abbrev pub list_or_none : Option (List Event) → List Event
list_or_none None = []
list_or_none (Some events) = events

-- the events of a rank, the oldest first
abbrev pub list_at : SeatView → ℕ → List Event
list_at v r = list_or_none (events_of_rank v r)

-- the seat stands for the rank
abbrev pub IsKnown : SeatView → ℕ → Type 0
IsKnown v r = events_of_rank v r ≡ Some (list_at v r)

-- with one event more of a rank
abbrev pub with_event : SeatView → ℕ → Event → SeatView
with_event v r e = slice_set v r (Some (list_at v r ++ e ∷ []))

-- the first seat stands for all ranks, of which none has made an event
unfoldable pub newcomer : SetupView → SeatView
newcomer s = replicate s.nue (Some [])

-- the seat without a rank
abbrev pub without : SeatView → ℕ → SeatView
without v r = slice_set v r None

-- a seat that stands for one rank at most

-- what a seat knows that stands for one rank at most
unfoldable pub lone_view : ℕ → Option (List Event) → SeatView
lone_view r events = replicate r None ++ events ∷ []

-- the list of the second where it has one
abbrev pub other_first : Option (List Event) → Option (List Event) → Option (List Event)
other_first one None = one
other_first one (Some events) = Some events

-- two seats in one
abbrev pub joined_seats : SeatView → SeatView → SeatView
joined_seats [] w = w
joined_seats (x ∷ v) [] = x ∷ v
joined_seats (x ∷ v) (y ∷ w) = other_first x y ∷ joined_seats v w

-- the seat stands for this rank alone, and holds nothing
abbrev pub IsLoneSeat : {S : Type 0} → ℕ → Me S SeatView → Type 0
IsLoneSeat r me = me ≡ (lone_view r (Some (list_at me.0 r)), [])
