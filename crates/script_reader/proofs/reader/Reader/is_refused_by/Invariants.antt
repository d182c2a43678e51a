use Rattle.std.proofs.Common.{◌≡◌, ◌&&◌, false}
use Rattle.script_rules.specs.Checks.{refuses, some_below}
use Rattle.script_reader.specs.Progress.{past}
use Rattle.script_rules.specs.Script.{has_rank}
use Rattle.script_reader.proofs.reader.Reader.is_refused_by.Given as goal

-- no rank so far is refused
abbrev pub invariant-loop-rank : goal.invariant-loop-rank
invariant-loop-rank l = some_below l.rank (λ rank. has_rank l.who rank && refuses l.kind l.self.nue (past l.self) l.effect rank) ≡ false
