-- What is known of the system's files. This project's profile.
use Rattle.std.specs.Prelude.{ℕ, Bool, false}

-- whether a file is open, and the count of faults
pub record HostState : Type 0 where
  pub is_open : Bool
  pub faults : ℕ

-- at first: no file is open, and no fault was counted
abbrev pub nothing_open : HostState
nothing_open = record { is_open = false; faults = 0 }
