-- What a try is, over the events of one call, and when a call has tried in vain often enough (this project's
-- profile). A line that is held makes no event, so a try at a flag is always a fresh load.
use Rattle.std.specs.Prelude.{◌≡◌, ℕ, suc, ◌≤◌, Bool, true, false, not, ◌&&◌, ◌||◌, ◌==◌, if◌then◌else◌, List, [], ◌∷◌, ◌++◌, Option, Some, None}
use Rattle.scc_base.specs.Places.{WordAt}
use Rattle.scc_base.specs.declared.events.Access.{Access}
use Rattle.scc_base.specs.declared.events.Access.TheVariants.{Store, Take, Free}
use Rattle.scc_base.specs.declared.events.Event.{Event}
use Rattle.scc_base.specs.declared.events.Spot.{Spot}
use Rattle.scc_base.specs.declared.events.Spot.TheVariants.{Flag, Register}
use Rattle.scc_proto.specs.Words.{is_at}
use Rattle.put_get.specs.Transfers.{is_load}
use Rattle.sync_flags.specs.Flags.{is_set_in, spot_of_flag}

-- what a call tries for: that a flag is found as wanted, that a word has this value (a flag of a barrier, which is
-- flipped), or that a core's register is taken
pub data Aim : Type 0 where
  AtFlag : (place : WordAt) → (bit : Option ℕ) → (want : Bool) → Aim
  AtWord : (place : WordAt) → (value : ℕ) → Aim
  AtRegister : (core : ℕ) → Aim

-- where a call waits that has tried in vain
abbrev pub spot_of : Aim → Spot
spot_of (AtFlag place bit want) = spot_of_flag place bit
spot_of (AtWord place value) = Flag place 0
spot_of (AtRegister core) = Register core

-- whether an access is a take
abbrev pub is_take : Access → Bool
is_take Take = true
is_take access = false

-- a store or a free
abbrev pub is_write : Access → Bool
is_write Store = true
is_write Free = true
is_write access = false

-- after this event a bit flag is being changed: a register was taken, and was not freed since
abbrev pub is_changing : Bool → Access → ℕ → Bool
is_changing before Take value = before || (value == 1)
is_changing before Free value = false
is_changing before access value = before

-- a try at a flag or a word is a load of the word that is not made in the midst of a bit flag's change; a try at
-- a register is a take of it
abbrev pub is_try : Bool → Aim → Event → Bool
is_try changing (AtFlag place bit want) e = not changing && (is_load e.access && is_at place e.place.core e.place.line e.place.word)
is_try changing (AtWord place value) e = not changing && (is_load e.access && is_at place e.place.core e.place.line e.place.word)
is_try changing (AtRegister core) e = is_take e.access && (e.place.core == core)

-- the flag is not as wanted
abbrev pub is_unwanted : Bool → Bool → Bool
is_unwanted true found = not found
is_unwanted false found = found

-- a try is vain where the flag is not as wanted, where the word has another value, or where the register was
-- found taken
abbrev pub has_failed : Aim → Event → Bool
has_failed (AtFlag place bit want) e = is_unwanted want (is_set_in bit e.value)
has_failed (AtWord place value) e = not (e.value == value)
has_failed (AtRegister core) e = e.value == 0

-- how many tries there were, with those among more events behind the first n
abbrev pub tries_from : Aim → Bool → ℕ → List Event → ℕ
tries_from aim changing n [] = n
tries_from aim changing n (e ∷ es) =
    tries_from aim (is_changing changing e.access e.value) (if is_try changing aim e then suc n else n) es

-- how many tries there were in a call
abbrev pub tries_at : Aim → List Event → ℕ
tries_at aim events = tries_from aim false 0 events

-- how many of the tries were vain, in a row up to the event: a try that is not vain ends the row, and so does
-- a store or a free
abbrev pub failed_after : Aim → Bool → ℕ → Event → ℕ
failed_after aim changing n e =
    if is_try changing aim e then (if has_failed aim e then suc n else 0) else (if is_write e.access then 0 else n)

-- how many tries were vain in a row at the end of more events, where n were so before them
abbrev pub failed_from : Aim → Bool → ℕ → List Event → ℕ
failed_from aim changing n [] = n
failed_from aim changing n (e ∷ es) = failed_from aim (is_changing changing e.access e.value) (failed_after aim changing n e) es

-- how many tries at the end of a call were vain, with no store and no free after the first of them
abbrev pub failed_tries : Aim → List Event → ℕ
failed_tries aim events = failed_from aim false 0 events

-- the last tries of a call, this many, were vain, and it made no store and no free after the first of them
abbrev pub TryFailed : Aim → ℕ → List Event → Type 0
TryFailed aim polls events = polls ≤ failed_tries aim events

-- ---- the same in other words

-- after these events a bit flag is being changed
abbrev pub changing_after : Bool → List Event → Bool
changing_after before [] = before
changing_after before (e ∷ es) = changing_after (is_changing before e.access e.value) es

-- each try among the events was vain
abbrev pub all_failed : Aim → Bool → List Event → Bool
all_failed aim changing [] = true
all_failed aim changing (e ∷ es) =
    (not (is_try changing aim e) || has_failed aim e) && all_failed aim (is_changing changing e.access e.value) es

-- one of the events is a store or a free
abbrev pub has_write : List Event → Bool
has_write [] = false
has_write (e ∷ es) = is_write e.access || has_write es

-- the events of a call end with a part that has at least this many tries, all of them vain, and no store and no
-- free
pub record EndsFailed (aim : Aim) (polls : ℕ) (events : List Event) : Type 0 where
  pub before : List Event
  pub last : List Event
  pub parts : events ≡ before ++ last
  pub enough : polls ≤ tries_from aim (changing_after false before) 0 last
  pub failed : all_failed aim (changing_after false before) last ≡ true
  pub no_write : has_write last ≡ false

-- ---- the tries of one turn

-- a turn of an operation makes one try at its aim, where it has one, and waits at the aim's spot exactly where that
-- try was vain
pub data Tried (aim : Option Aim) (events : List Event) (waits : Option Spot) : Type 0 where
  NoTry : aim ≡ None → waits ≡ None → Tried aim events waits
  Failed : (at : Aim) → aim ≡ Some at → tries_at at events ≡ 1 → all_failed at false events ≡ true → waits ≡ Some (spot_of at)
      → Tried aim events waits
  Fruitful : (at : Aim) → aim ≡ Some at → tries_at at events ≡ 1 → all_failed at false events ≡ false → waits ≡ None
      → Tried aim events waits
