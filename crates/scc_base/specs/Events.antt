-- Events: accesses to one shared word each.
use Rattle.std.specs.Prelude.{◌≡◌, ℕ, ◌<◌, ◌^◌, ◌⊎◌, Bool, if◌then◌else◌}
use Rattle.scc_base.specs.Places.{WordAt, IsPlace, register_place}
use Rattle.scc_base.specs.declared.events.Access.{Access}
use Rattle.scc_base.specs.declared.events.Access.TheVariants.{Load, Store, Take, Free}
use Rattle.scc_base.specs.declared.events.Event.{Event}

-- a load, with the value answered
abbrev pub load_of : WordAt → ℕ → Event
load_of place value = record { access = Load; place = place; value = value }

-- a store, with the value stored
abbrev pub store_of : WordAt → ℕ → Event
store_of place value = record { access = Store; place = place; value = value }

-- a read of a core's register, which took it or found it taken
abbrev pub take_of : ℕ → Bool → Event
take_of core taken = record { access = Take; place = register_place core; value = if taken then 1 else 0 }

-- a write of a core's register, which frees it
abbrev pub free_of : ℕ → Event
free_of core = record { access = Free; place = register_place core; value = 0 }

-- an event that the chip can make: at a place of the chip, with a word's value; a register's event is at
-- the register's place, a take has value 1 or 0, a free 0
abbrev pub IsAccess : Access → WordAt → ℕ → Type 0
IsAccess Load place value = IsPlace place × (value < 2 ^ 64)
IsAccess Store place value = IsPlace place × (value < 2 ^ 64)
IsAccess Take place value = (place.core < 48) × (place ≡ register_place place.core) × ((value ≡ 0) ⊎ (value ≡ 1))
IsAccess Free place value = (place.core < 48) × (place ≡ register_place place.core) × (value ≡ 0)

-- an event that a core may make: its place is one that the chip has, and a take or a free has its value
abbrev pub IsEvent : Event → Type 0
IsEvent e = IsAccess e.access e.place e.value
