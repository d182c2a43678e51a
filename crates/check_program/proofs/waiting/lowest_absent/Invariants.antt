use Rattle.std.proofs.Common.{◌≡◌, ◌-◌, length}
use Rattle.scc_base.specs.Setups.{setup_key}
use Rattle.check_program.specs.Waiting.{first_from, is_absent_from, lowest_absent}
use Rattle.check_program.proofs.waiting.lowest_absent.Given as goal

-- none below `number` is absent
abbrev pub invariant-loop-number : goal.invariant-loop-number
invariant-loop-number l =
    first_from (is_absent_from (setup_key l.setup) l.end l.comm l.rank) (length l.end - l.number) l.number ≡ lowest_absent (setup_key l.setup) l.end l.comm l.rank
