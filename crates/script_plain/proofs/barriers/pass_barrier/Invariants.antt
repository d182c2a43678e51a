use Rattle.std.proofs.Common.{◌≡◌, ◌&&◌, nat_lt}
use Rattle.scc_base.specs.Groups.{is_with}
use Rattle.scc_base.specs.Setups.{setup_key}
use Rattle.script_machine.specs.Local.{local_next}
use Rattle.plain_meaning.specs.Step.{by_rank, past_if}
use Rattle.script_plain.proofs.barriers.pass_barrier.Given as goal

-- the members so far are past the barrier
abbrev pub invariant-loop-number : goal.invariant-loop-number
invariant-loop-number l =
    l.ues ≡ by_rank (λ r. past_if local_next (nat_lt r l.number && is_with (setup_key l.setup l.comm) l.rank r)) l.initial.ues
