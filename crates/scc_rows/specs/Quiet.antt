-- Events that belong to no message and no barrier: accesses to registers, and to words of the heap's lines.
use Rattle.std.specs.Prelude.{◌≡◌, ℕ, Bool, true, ◌&&◌, nat_le, List, [], ◌∷◌, None}
use Rattle.scc_base.specs.Places.{first_heap, WordAt}
use Rattle.scc_base.specs.declared.events.Access.{Access}
use Rattle.scc_base.specs.declared.events.Access.TheVariants.{Load, Store, Take, Free}
use Rattle.scc_base.specs.declared.events.Event.{Event}
use Rattle.scc_base.specs.declared.signals.Signal.{Signal}
use Rattle.scc_proto.specs.Stages.{Idle, Record}
use Rattle.scc_proto.specs.Records.{flags_noted}

-- whether an access is to a register, or to a word of the heap's lines
abbrev pub is_quiet_access : Access → WordAt → Bool
is_quiet_access Load place = nat_le first_heap place.line
is_quiet_access Store place = nat_le first_heap place.line
is_quiet_access Take place = true
is_quiet_access Free place = true

-- each event is an access to a register, or to a word of the heap's lines
abbrev pub are_quiet : List Event → Bool
are_quiet [] = true
are_quiet (e ∷ es) = is_quiet_access e.access e.place && are_quiet es

-- the record of such events: no call is unfinished, no rank was seen, and no flag word was noted
pub record IsQuietRecord (rec : Record) : Type 0 where
  pub stage : rec.stage ≡ Idle
  pub post : rec.post ≡ None
  pub notes : (j : ℕ) → rec.notes j ≡ None
  pub flags : (signal : Signal) (core : ℕ) → flags_noted signal rec core ≡ None
