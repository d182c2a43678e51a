use Rattle.std.proofs.Common.{◌≡◌, ◌+◌, ◌≤◌}
use Rattle.scc_base.specs.Communicators.{rule_of}
use Rattle.scc_base.specs.Groups.{count_below}
use Rattle.trace_program.specs.Lists.{is_split}
use Rattle.trace_program.proofs.judging.first_event_line.Given as goal

-- the splits so far are counted
abbrev pub invariant-loop-comm : goal.invariant-loop-comm
invariant-loop-comm l = record {
  counts : l.line ≡ 2 + count_below (λ comm. is_split (rule_of l.setup.comms comm)) l.comm;
  few : l.line ≤ 2 + l.comm;
}
