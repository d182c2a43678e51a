use Rattle.trace_run.proofs.turns.turn_at_home.Given as goal

abbrev pub ghosts-own_turn : goal.ghosts-own_turn
ghosts-own_turn g a = record { wanted = g.N.Witness.wanted_after a.witness }
