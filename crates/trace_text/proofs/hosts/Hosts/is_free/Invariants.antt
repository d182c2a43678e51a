use Rattle.std.proofs.Common.{◌≡◌, true}
use Rattle.std.specs.Prelude.{is_none}
use Rattle.scc_proto.specs.Words.{rank_below}
use Rattle.trace_text.proofs.hosts.Hosts.is_free.Given as goal

-- none of the ranks so far is on the core
abbrev pub invariant-loop-rank : goal.invariant-loop-rank
invariant-loop-rank l = is_none (rank_below l.rank l.self.cores l.core) ≡ true
