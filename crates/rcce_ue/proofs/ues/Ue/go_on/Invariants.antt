use Rattle.scc_proto.specs.Ports.{Sight}
use Rattle.rcce_ue.specs.Left.{ue_left}
use Rattle.rcce_ue.specs.Standing.{Tied}
use Rattle.rcce_ue.specs.Batches.{UeMoves}
use Rattle.rcce_ue.specs.Ues.{UeView}
use Rattle.rcce_ue.proofs.ues.Ue.go_on.Given as goal

abbrev pub invariant-turns : goal.invariant-turns
invariant-turns g l = record {
  tied : Tied l.self (g.P.Port.sight l.port);
  moves : (first : UeView) (s : Sight) → UeMoves first s l.fn.self (g.P.Port.sight l.fn.port) → UeMoves first s l.self (g.P.Port.sight l.port);
}

abbrev pub decreases-turns : goal.decreases-turns
decreases-turns g l = ue_left l.self
