-- The names of the kinds of faults of a script.
use Rattle.std.specs.Prelude.{ℕ, List, codes}
use Rattle.script_rules.specs.declared.fault.FaultKind.{FaultKind}
use Rattle.script_rules.specs.declared.fault.FaultKind.TheVariants as kind

-- the name of a kind of fault, in texts (this project's profile)
abbrev pub kind_name : FaultKind → List ℕ
kind_name kind.NotText = codes "NotText"
kind_name kind.UnknownStatement = codes "UnknownStatement"
kind_name kind.WrongCount = codes "WrongCount"
kind_name kind.BadNumber = codes "BadNumber"
kind_name kind.BadHex = codes "BadHex"
kind_name kind.BadName = codes "BadName"
kind_name kind.RankRange = codes "RankRange"
kind_name kind.SelfMessage = codes "SelfMessage"
kind_name kind.UnknownComm = codes "UnknownComm"
kind_name kind.NotSplit = codes "NotSplit"
kind_name kind.Unset = codes "Unset"
kind_name kind.Shape = codes "Shape"
kind_name kind.NoSection = codes "NoSection"
kind_name kind.UnclosedRepeat = codes "UnclosedRepeat"
kind_name kind.StrayEnd = codes "StrayEnd"
kind_name kind.TooDeep = codes "TooDeep"
kind_name kind.TooManyOps = codes "TooManyOps"
kind_name kind.TooLong = codes "TooLong"
kind_name kind.TooManyNames = codes "TooManyNames"
