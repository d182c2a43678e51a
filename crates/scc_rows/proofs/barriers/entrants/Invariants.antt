use Rattle.std.proofs.Common.{◌≡◌}
use Rattle.scc_mesh.specs.Scenes.{about_in}
use Rattle.scc_rows.proofs.barriers.entrants.Given as goal

abbrev pub invariant-loop : goal.invariant-loop
invariant-loop g l = l.team.about ≡ about_in l.fn.chip
