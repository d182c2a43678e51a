-- The statuses with which a program ends (this project's profile).
use Rattle.std.specs.Prelude.{ℕ, Bool, true, false}
use Rattle.outcomes.specs.declared.status.Status.{Status}
use Rattle.outcomes.specs.declared.status.Status.TheVariants as status

-- the number with which the process ends
abbrev pub status_number : Status → ℕ
status_number status.Finished = 0
status_number status.Words = 1
status_number status.Script = 2
status_number status.Stuck = 3
status_number status.Memory = 4
status_number status.Files = 5
status_number status.Write = 6

-- a status at which no text stands on out: nothing has run
abbrev pub is_quiet : Status → Bool
is_quiet status.Finished = false
is_quiet status.Words = true
is_quiet status.Script = true
is_quiet status.Stuck = false
is_quiet status.Memory = true
is_quiet status.Files = true
is_quiet status.Write = false
