-- What a reading returns: a value, a fault with its line, or out of memory (this project's profile).
use Rattle.std.specs.Prelude.{◌≡◌, ℕ, Result, Ok, Err}
use Rattle.script_rules.specs.declared.fault.FaultKind.{FaultKind}
use Rattle.script_reader.specs.declared.fault.LineStop.{LineStop}
use Rattle.script_reader.specs.declared.fault.LineStop.TheVariants as line_stop
use Rattle.script_reader.specs.declared.fault.ReadFault.{ReadFault}
use Rattle.script_reader.specs.declared.fault.ReadStop.{ReadStop}
use Rattle.script_reader.specs.declared.fault.ReadStop.TheVariants as stop

-- one step of a reading after another: the second runs on the value of the first, and a fault ends the reading
infixl 10 ◌>>=◌
abbrev pub ◌>>=◌ : {A B E : Type 0} → Result A E → (A → Result B E) → Result B E
Ok x >>= next = next x
Err e >>= next = Err e

-- a reading returns what the grammar does, a value (seen through a view) or a fault; it may run out of memory at any point
abbrev pub Gives : {A X : Type 0} → (X → A) → Result X ReadStop → Result A ReadFault → Type 0
Gives view (Ok x) meant = meant ≡ Ok (view x)
Gives view (Err (stop.Fault fault)) meant = meant ≡ Err fault
Gives view (Err stop.Memory) meant = Unit {0}

-- a reading inside a line returns what the grammar does, a value or the kind of a fault. The line's number is added later.
abbrev pub LineGives : {A X : Type 0} → (X → A) → Result X LineStop → Result A FaultKind → Type 0
LineGives view (Ok x) meant = meant ≡ Ok (view x)
LineGives view (Err (line_stop.Kind kind)) meant = meant ≡ Err kind
LineGives view (Err line_stop.Memory) meant = Unit {0}

-- the end of a reading that stops in this line, with the line's number if it is a fault
abbrev pub stop_of : ℕ → LineStop → ReadStop
stop_of number (line_stop.Kind kind) = stop.Fault (record { line = number; kind = kind })
stop_of number line_stop.Memory = stop.Memory
