use Rattle.std.proofs.Common.{ℕ, ap, replicate}
use Rattle.trace_text.specs.Grammar.{HostTable, no_hosts}
use Rattle.trace_text.proofs.hosts.Hosts.new.Goals as goal

abbrev table_of : ℕ → HostTable
table_of n = record { count = 0; hosts = replicate 48 n }

pub returns : goal.returns
unfolding no_hosts
returns c = ap table_of c.of.ensures.gives
