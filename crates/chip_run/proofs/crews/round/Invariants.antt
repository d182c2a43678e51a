use Rattle.std.specs.Prelude.{◌≡◌, length}
use Rattle.rand_pcg.specs.Pcg.{pcg32}
use Rattle.chip_run.specs.Away.{behaviour_of_members}
use Rattle.chip_run.specs.Orders.{TurnsOf, generator_after, named_ranks}
use Rattle.chip_run.proofs.crews.round.Given as goal

abbrev pub invariant-loop-turn : goal.invariant-loop-turn
invariant-loop-turn g l = record {
  picks : l.picks ≡ generator_after pcg32 l.turn l.fn.picks;
  order : TurnsOf (behaviour_of_members g.W.Worker.behaviour) (named_ranks pcg32 (length l.fn.crew) l.turn l.fn.picks) l.fn.chip l.fn.crew l.chip l.crew;
}
