-- How a core at work over the chip represents a scene of the lab's meaning.
use Rattle.std.specs.Prelude.{◌≡◌, ℕ, ◌<◌, List, ◌++◌}
use Rattle.scc_base.specs.Setups.{SetupView, IsSetup, host_of}
use Rattle.scc_base.specs.Worlds.{world_alone}
use Rattle.scc_base.specs.declared.layouts.Layout.TheVariants.{LineFlags}
use Rattle.scc_proto.specs.Stages.{Idle}
use Rattle.scc_proto.specs.Words.{Memory, zeros}
use Rattle.scc_proto.specs.Histories.{memory_from}
use Rattle.scc_proto.specs.Ports.{record_in}
use Rattle.put_get.specs.Cores.{Private}
use Rattle.put_get.specs.HeapStores.{AwaitsHeap}
use Rattle.chip_memory.specs.Chips.{TurnChipView, all_events, turn_sight}
use Rattle.lab_plain.specs.declared.said.Said.{Said}
use Rattle.lab_plain.specs.Scenes.{CoreScene}
use Rattle.lab_run.specs.Accesses.{accesses_of}

-- the shared words after all events of a chip
unfoldable pub memory_in : TurnChipView → Memory
memory_in chip = memory_from zeros (all_events chip)

-- one core at work over the chip, and what was printed
abbrev pub scene_of : Private → TurnChipView → List Said → CoreScene
scene_of core chip said = record { memory = memory_in chip; lines = core.lines; out = core.out; said = said }

-- the setup of a lab: 48 ranks with line flags, rank r on core r, and only the world communicator
pub record IsLabSetup (s : SetupView) : Type 0 where
  pub valid : IsSetup s
  pub ranks : s.nue ≡ 48
  pub layout : s.layout ≡ LineFlags
  pub hosts : (r : ℕ) → r < 48 → host_of s.hosts r ≡ r
  pub comms : s.comms ≡ world_alone

-- a core may go on: its rank has no unfinished call, and its write-combining buffer holds a heap line or none
pub record MayGoOn (core : Private) (chip : TurnChipView) : Type 0 where
  pub setup : IsLabSetup chip.setup
  pub below : chip.rank < 48
  pub idle : (record_in (turn_sight chip)).stage ≡ Idle
  pub awaits : AwaitsHeap chip.setup core.out

-- The rank that runs made only heap accesses. It is the same turn of the same chip. The rank's record has the same stage and holds the same
-- registers, and no register changed.
pub record MadeHeapAccesses (old new : TurnChipView) : Type 0 where
  pub turn : new ≡ record old { own = new.own }
  pub stage : (record_in (turn_sight new)).stage ≡ (record_in (turn_sight old)).stage
  pub held : (record_in (turn_sight new)).held ≡ (record_in (turn_sight old)).held
  pub registers : (memory_in new).register ≡ (memory_in old).register

-- More was printed, and the chip made exactly the accesses that were printed, each once and in order.
pub record IsTold (s : TurnChipView) (said : List Said) (t : TurnChipView) (told : List Said) : Type 0 where
  pub more : List Said
  pub prints : told ≡ said ++ more
  pub makes : all_events t ≡ all_events s ++ accesses_of more

-- A core's action changed the shared words, what it holds and what was printed as a function says, and the core may go on. The printed
-- accesses are the chip's. Seven parameters: the function, and what a scene is made of (the core, the chip, the accesses printed), before
-- and after.
pub record CoreTurned (op : CoreScene → CoreScene) (c : Private) (s : TurnChipView) (said : List Said) (d : Private) (t : TurnChipView)
    (told : List Said) : Type 0 where
  pub scene : scene_of d t told ≡ op (scene_of c s said)
  pub ready : MayGoOn d t
  pub kept : MadeHeapAccesses s t
  pub tells : IsTold s said t told
