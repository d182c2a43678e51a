-- The names of the kinds of faults, in texts (this project's profile).
use Rattle.std.specs.Prelude.{ℕ, List, codes}
use Rattle.rcce_audit.specs.declared.faults.LogKind.{LogKind}
use Rattle.rcce_audit.specs.declared.faults.LogKind.TheVariants as kind

-- the name of a kind of fault
abbrev pub fault_name : LogKind → List ℕ
fault_name kind.TooLong = codes "TooLong"
fault_name kind.BadHead = codes "BadHead"
fault_name kind.BadComm = codes "BadComm"
fault_name kind.BadCall = codes "BadCall"
