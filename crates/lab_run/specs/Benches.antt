-- How a bench represents a state of a lab.
use Rattle.std.specs.Prelude.{◌≡◌, map, Option}
use Rattle.lab_plain.specs.declared.said.Stopped.{Stopped}
use Rattle.lab_plain.specs.Meaning.{Done, Stand, lab_start}
use Rattle.chip_memory.specs.Chips.{all_events}
use Rattle.lab_run.specs.declared.bench.Bench.{Bench}
use Rattle.lab_run.specs.Accesses.{accesses_of}
use Rattle.lab_run.specs.Stands.{IsBench, holds_of, stand_of}

-- the state of a bench: the shared words, what the cores hold, which core has each register, and what was printed
abbrev pub bench_stand : Bench → Stand
bench_stand b = stand_of b.chip b.cores.items b.holders b.said.items

-- a bench between two steps: the printed accesses are those that the chip has made
pub record BenchStands (b : Bench) : Type 0 where
  pub bench : IsBench b.chip (map holds_of b.cores.items) b.holders
  pub told : all_events b.chip ≡ accesses_of b.said.items

-- a bench before the first step
pub record IsNewBench (b : Bench) : Type 0 where
  pub stand : bench_stand b ≡ lab_start
  pub stands : BenchStands b

-- a bench after a step: its state and the reason to stop, if any, are those of the lab's meaning
pub record StandsOnBench (done : Done) (stopped : Option Stopped) (b : Bench) : Type 0 where
  pub stand : bench_stand b ≡ done.stand
  pub stop : stopped ≡ done.stop
  pub stands : BenchStands b
