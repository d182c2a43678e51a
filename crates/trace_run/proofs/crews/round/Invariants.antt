use Rattle.std.specs.Prelude.{◌≡◌, length}
use Rattle.rand_pcg.specs.Pcg.{pcg32}
use Rattle.chip_run.specs.Orders.{TurnsOf, generator_after, named_ranks}
use Rattle.trace_run.specs.Seen.{HasSeenAll, StillWanted}
use Rattle.trace_run.proofs.crews.round.Given as goal

abbrev pub invariant-loop-turn : goal.invariant-loop-turn
invariant-loop-turn g l = record {
  picks : l.picks ≡ generator_after pcg32 l.turn l.fn.picks;
  order : TurnsOf g.W.Worker.behaviour (named_ranks pcg32 (length l.fn.crew) l.turn l.fn.picks) l.fn.chip l.fn.crew l.chip l.crew;
  seen : HasSeenAll (g.N.Witness.setup l.witness) (g.N.Witness.noted l.witness) l.chip;
  wanted : StillWanted (g.N.Witness.wanted_after l.fn.witness) (g.N.Witness.wanted_after l.witness);
}
