-- The faults of a lab, and what a reading returns (this project's profile).
use Rattle.std.specs.Prelude.{◌≡◌, ℕ, List, codes, Result, Ok, Err}
use Rattle.lab_reader.specs.declared.faults.LabKind.{LabKind}
use Rattle.lab_reader.specs.declared.faults.LabKind.TheVariants as kind
use Rattle.lab_reader.specs.declared.faults.LabFault.{LabFault}
use Rattle.lab_reader.specs.declared.faults.LabStop.{LabStop}
use Rattle.lab_reader.specs.declared.faults.LabStop.TheVariants as stop

-- the name of a kind of fault
abbrev pub lab_kind_name : LabKind → List ℕ
lab_kind_name kind.TooLong = codes "TooLong"
lab_kind_name kind.NotText = codes "NotText"
lab_kind_name kind.BadCore = codes "BadCore"
lab_kind_name kind.BadStep = codes "BadStep"

-- a reading returns what the grammar says, seen through a view: its value or its fault; it may also run out of memory
abbrev pub LabGives : {A X : Type 0} → (X → A) → Result X LabStop → Result A LabFault → Type 0
LabGives view (Ok x) said = said ≡ Ok (view x)
LabGives view (Err (stop.Fault fault)) said = said ≡ Err fault
LabGives view (Err stop.Memory) said = Unit {0}
