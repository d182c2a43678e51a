-- The limits of a script (this project's profile).
use Rattle.std.specs.Prelude.{ℕ}

-- how many operations a rank may have, and how often a statement may run
abbrev pub most_operations : ℕ
most_operations = 100000

-- how many bytes of registers a rank may print
abbrev pub most_printed : ℕ
most_printed = 1048576

-- how many names of registers a file may have
abbrev pub most_names : ℕ
most_names = 64

-- how many repeats may be open at once
abbrev pub most_open : ℕ
most_open = 8
