use Rattle.std.proofs.Common.{refl}
use Rattle.lab_run.proofs.bench.Bench.into_run.Goals as goal

pub returns : goal.returns
returns c = record {
  printed = refl;
  why = refl;
  left = record {
    accesses = c.requires.stands.told;
    steps = c.tells.ensures.run;
    permitted = c.tells.ensures.permitted;
    setup = c.requires.stands.bench.setup;
    words = refl;
    cores = refl;
  };
}
