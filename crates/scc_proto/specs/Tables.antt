-- Tables by number and by signal, changed at one place.
use Rattle.std.specs.Prelude.{ℕ, ◌==◌, ◌&&◌, if◌then◌else◌}
use Rattle.scc_base.specs.declared.signals.Signal.{Signal}
use Rattle.scc_base.specs.declared.signals.Signal.TheVariants.{Sent, Ready}

-- a table with another value at one number
abbrev pub table_with : {A : Type 0} → (ℕ → A) → ℕ → A → ℕ → A
table_with table i x = λ k. if k == i then x else table k

-- a table by two numbers with another value at one pair of them
abbrev pub put_two : {A : Type 0} → (ℕ → ℕ → A) → ℕ → ℕ → A → ℕ → ℕ → A
put_two table i j x = λ k l. if (k == i) && (l == j) then x else table k l

-- a table by signal with another value at one signal
abbrev pub put_signal : {A : Type 0} → (Signal → A) → Signal → A → Signal → A
put_signal table Sent x Sent = x
put_signal table Sent x Ready = table Ready
put_signal table Ready x Sent = table Sent
put_signal table Ready x Ready = x
