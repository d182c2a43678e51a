-- Barriers that a rank has entered and finished (RCCE specification 2.0: nobody leaves a barrier before all members of
-- the group have entered it).
use Rattle.std.specs.Prelude.{◌≡◌, ℕ, ◌+◌, ◌≤◌, ◌==◌, Bool, false, if◌then◌else◌, Some, slice_get}
use Rattle.std.specs.List.{count_by}
use Rattle.scc_base.specs.Calls.{DataCall}
use Rattle.scc_base.specs.Calls.DataCall.{Send, Recv, Post, Bar}
use Rattle.plain_meaning.specs.Meaning.{State, next_of}
use Rattle.script_machine.specs.Next.{is_at_barrier}
use Rattle.plain_meaning.specs.Step.{Configuration}

-- a call is a barrier of this communicator
abbrev pub is_barrier : ℕ → DataCall → Bool
is_barrier comm (Send to head bytes) = false
is_barrier comm (Recv from head bytes) = false
is_barrier comm (Post to head bytes) = false
is_barrier comm (Bar asked) = asked == comm

-- how many barriers of a communicator a rank has finished
abbrev pub finished_barriers : ℕ → State → ℕ
finished_barriers comm u = count_by (is_barrier comm) u.matched

-- how many barriers of a communicator a rank has entered: those that it has finished, and one more if it waits in one
abbrev pub entered_barriers : ℕ → State → ℕ
entered_barriers comm u = finished_barriers comm u + (if is_at_barrier comm (next_of u) then 1 else 0)

-- no rank has finished more barriers of a communicator than each member of its group has entered
abbrev pub AreMet : (ℕ → ℕ → ℕ) → Configuration State → Type 0
AreMet keys c =
    (comm i j : ℕ) (u v : State) → slice_get c.cells i ≡ Some u → slice_get c.cells j ≡ Some v → keys comm i ≡ keys comm j
    → finished_barriers comm u ≤ entered_barriers comm v
