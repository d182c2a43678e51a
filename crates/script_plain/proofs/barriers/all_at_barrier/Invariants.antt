use Rattle.std.proofs.Common.{◌≡◌, ℕ, ◌<◌, true, Some, slice_get}
use Rattle.scc_base.specs.Groups.{is_with}
use Rattle.scc_base.specs.Setups.{setup_key}
use Rattle.script_machine.specs.Local.{Local, local_next}
use Rattle.script_machine.specs.Next.{is_at_barrier}
use Rattle.script_plain.proofs.barriers.all_at_barrier.Given as goal

-- the members so far stand at the barrier
abbrev pub invariant-loop-number : goal.invariant-loop-number
invariant-loop-number l =
    (k : ℕ) (u : Local) → k < l.number → is_with (setup_key l.setup l.comm) l.rank k ≡ true → slice_get l.ues k ≡ Some u → is_at_barrier l.comm (local_next u) ≡ true
