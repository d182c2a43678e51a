use Rattle.std.proofs.Common.{◌≡◌, ℕ, true, subst, sym}
use Rattle.scc_proto.specs.Words.{are_peers}
use Rattle.scc_rows.proofs.messages.talking.Goals as goal

pub team_of_two-requires-clause-first : goal.team_of_two-requires-clause-first
team_of_two-requires-clause-first g c = λ s r peers. c.in_ok-first.ensures.ready s r (subst (λ (j : ℕ). are_peers s r j ≡ true) (sym c.of.ensures.gives) peers)

pub team_of_two-requires-clause-second : goal.team_of_two-requires-clause-second
team_of_two-requires-clause-second g c = λ s r peers. c.in_ok-second.ensures.ready s r (subst (λ (j : ℕ). are_peers s r j ≡ true) (sym c.of-2.ensures.gives) peers)
