use Rattle.std.proofs.Common.{◌≡◌, ℕ, Option, length}
use Rattle.scc_proto.specs.Messages.{Notes}
use Rattle.rank_monitor.specs.Standing.{KeepsSaid}
use Rattle.rank_monitor.specs.Steps.{look_of}
use Rattle.rank_monitor.proofs.PartLaws.{seen_below}
use Rattle.rank_monitor.proofs.receives.see.Given as goal

abbrev pub invariant-loop-at : goal.invariant-loop-at
invariant-loop-at l = record {
  places : length l.said ≡ 48;
  seen : (notes : ℕ → Option Notes) → KeepsSaid l.initial.said notes → KeepsSaid l.said (seen_below l.at (look_of l.look) notes);
}
