-- What a turn of one rank leaves, at home and away, and what a look of a rank at home tells of the chip.
use Rattle.std.specs.Prelude.{◌≡◌, ◌≢◌, ℕ, List, [], ◌∷◌, ◌++◌, Some, slice_set}
use Rattle.scc_base.specs.Places.{WordAt}
use Rattle.scc_base.specs.Events.{load_of}
use Rattle.scc_base.specs.Setups.{SetupView}
use Rattle.scc_base.specs.declared.events.Event.{Event}
use Rattle.scc_proto.specs.Tables.{table_with}
use Rattle.scc_proto.specs.Words.{Memory, word_at}
use Rattle.scc_proto.specs.Agreement.{Agrees}
use Rattle.scc_mesh.specs.Keeping.{WasStep, records_by}
use Rattle.scc_mesh.specs.AwayRanks.{Ticket}
use Rattle.scc_mesh.specs.Scenes.{ChipView, IsWhole, about_in, table_in, home_in, events_in, records_in, with_home}

-- a rank at home has made some events more, and something stands where they stand
pub record AfterTurn (stands : SetupView → ℕ → List Event → Type 0) (chip : ChipView) (r : ℕ) (now : ChipView) : Type 0 where
  pub events : List Event
  pub is : now ≡ with_home chip (slice_set (home_in chip) r (Some (events_in chip r ++ events)))
  pub here : stands (about_in now) r (events_in now r)

-- a rank that is away has made some events more, and something stands where they stand
pub record AfterTurnAway (stands : SetupView → ℕ → List Event → Type 0) (s : SetupView) (old new : Ticket) : Type 0 where
  pub events : List Event
  pub is : new ≡ record old { events = old.events ++ events }
  pub here : stands s new.rank new.events

-- a whole chip on which one rank may have made events: it is the same chip, whole, with the same lists of the others
pub record IsTurned (chip : ChipView) (r : ℕ) (now : ChipView) : Type 0 where
  pub about : about_in now ≡ about_in chip
  pub table : table_in now ≡ table_in chip
  pub whole : IsWhole now
  pub others : (q : ℕ) → q ≢ r → events_in now q ≡ events_in chip q

-- an event of a rank at home was a step, made after these events of its own and the others' as they are
pub record Saw (chip : ChipView) (r : ℕ) (events : List Event) (e : Event) : Type 0 where
  pub step : WasStep (about_in chip) (home_in chip) r events e

-- right after a load of a rank at home: some memory agrees with the records of the events until then, and has the value
pub record AgreesThen (chip : ChipView) (r : ℕ) (events : List Event) (place : WordAt) (value : ℕ) : Type 0 where
  pub memory : Memory
  pub agree : Agrees (about_in chip) memory
      (records_by (about_in chip) (table_with (events_in chip) r (events ++ load_of place value ∷ [])))
  pub word : word_at memory place ≡ value

-- some memory agrees with the chip's records as they are, and has the value
pub record AgreesNow (chip : ChipView) (place : WordAt) (value : ℕ) : Type 0 where
  pub memory : Memory
  pub agree : Agrees (about_in chip) memory (records_in chip)
  pub word : word_at memory place ≡ value
