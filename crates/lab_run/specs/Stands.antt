-- How the cores of a lab represent a state of the lab.
use Rattle.std.specs.Prelude.{◌≡◌, ℕ, ◌<◌, if◌then◌else◌, List, length, map, replicate, Option, is_some}
use Rattle.scc_proto.specs.Stages.{Idle, Record, blank}
use Rattle.scc_proto.specs.Histories.{IsPermittedRun, records_of}
use Rattle.scc_proto.specs.Words.{IsRun, zeros}
use Rattle.put_get.specs.Cores.{Private}
use Rattle.put_get.specs.HeapStores.{AwaitsHeap}
use Rattle.chip_memory.specs.Chips.{TurnChipView, all_events}
use Rattle.lab_plain.specs.declared.said.Said.{Said}
use Rattle.lab_plain.specs.Meaning.{Done, CoreHolds, Stand, core_at, holder_of, holds_nothing, is_holder}
use Rattle.lab_run.specs.Accesses.{accesses_of}
use Rattle.lab_run.specs.Turns.{IsLabSetup, memory_in}
use Rattle.lab_run.specs.declared.run.LabLeft.{LabLeft}
use Rattle.lab_run.specs.declared.run.LabRun.{LabRun}

-- what a core holds: its cached lines and its buffered line
abbrev pub holds_of : Private → CoreHolds
holds_of core = record { lines = core.lines; out = core.out }

-- the state of a lab: the words of the chip, what the cores hold, which core has each register, and what was printed
abbrev pub stand_of : TurnChipView → List Private → List (Option ℕ) → List Said → Stand
stand_of chip cores holders said = record { memory = memory_in chip; cores = map holds_of cores; holders = holders; said = said }

-- 48 cores that hold nothing
pub record AreNew (cores : List Private) : Type 0 where
  pub nothing : map holds_of cores ≡ replicate 48 holds_nothing

-- the record of a rank, from all events of the chip
abbrev pub record_at : TurnChipView → ℕ → Record
record_at chip r = records_of chip.setup (all_events chip) r

-- the value of a register: 1 if some core has it, else 0
abbrev pub held_word : Option ℕ → ℕ
held_word holder = if is_some holder then 1 else 0

-- A lab's chip between two steps. No rank has an unfinished call, and each write-combining buffer holds a heap line or none. A rank holds
-- exactly the registers that its core has, and a register is 1 if and only if some core has it.
pub record IsBench (chip : TurnChipView) (cores : List CoreHolds) (holders : List (Option ℕ)) : Type 0 where
  pub setup : IsLabSetup chip.setup
  pub ranks : length cores ≡ 48
  pub places : length holders ≡ 48
  pub idle : (r : ℕ) → r < 48 → (record_at chip r).stage ≡ Idle
  pub awaits : (r : ℕ) → r < 48 → AwaitsHeap chip.setup (core_at cores r).out
  pub held : (r k : ℕ) → r < 48 → k < 48 → is_some ((record_at chip r).held k) ≡ is_holder r (holder_of holders k)
  pub registers : (k : ℕ) → k < 48 → (memory_in chip).register k ≡ held_word (holder_of holders k)

-- A chip and its cores after a lab. The chip made the printed accesses, each once and in this order, and no others. Each was a step of the
-- words that the accesses before it left, and its rank's record permitted it. The words, cached lines and buffered lines are those at the
-- lab's end.
pub record IsLeftBy (done : Done) (left : LabLeft) : Type 0 where
  pub accesses : all_events left.chip ≡ accesses_of done.stand.said
  pub steps : IsRun zeros (all_events left.chip)
  pub permitted : IsPermittedRun left.chip.setup (λ r. blank) (all_events left.chip)
  pub setup : IsLabSetup left.chip.setup
  pub words : memory_in left.chip ≡ done.stand.memory
  pub cores : map holds_of left.cores.items ≡ done.stand.cores

-- the result of a run is that of the lab's meaning, and its chip and its cores made it
pub record HasDoneLab (done : Done) (run : LabRun) : Type 0 where
  pub printed : run.said.items ≡ done.stand.said
  pub why : run.stopped ≡ done.stop
  pub left : IsLeftBy done run.left
