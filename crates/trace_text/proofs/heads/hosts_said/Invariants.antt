use Rattle.std.proofs.Common.{◌≡◌, drop, map}
use Rattle.trace_text.specs.Grammar.{hosts_said, no_hosts}
use Rattle.trace_text.specs.Heads.{table_view}
use Rattle.trace_text.proofs.heads.hosts_said.Given as goal

-- the words that are left, behind the cores so far, say what all of them say
abbrev pub invariant-loop-word : goal.invariant-loop-word
invariant-loop-word l =
    hosts_said (table_view l.hosts) (map (λ word. word.now) (drop l.word-index l.words)) ≡ hosts_said (record { count = 0; hosts = no_hosts }) (map (λ word. word.now) l.words)
