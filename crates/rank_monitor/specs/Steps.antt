-- What the steps of a monitor mean.
use Rattle.std.specs.Prelude.{ℕ, ◌<◌, Bool, ◌&&◌, ◌==◌, not, nat_lt}
use Rattle.std.specs.Int.{bit_at}
use Rattle.scc_proto.specs.Moves.{Move, DraftHeader, DraftChunk, RaiseSignal, LookSignal, ReadHeader, ReadChunk, LowerSignal, FlipGather, LookGather, WriteRelease, LookRelease, StoreHeap, NoMove, Misplaced}
use Rattle.scc_proto.specs.Records.{look_at}
use Rattle.rank_monitor.specs.declared.changes.Change.{Change}
use Rattle.rank_monitor.specs.declared.changes.Change.TheVariants as change
use Rattle.rank_monitor.specs.declared.looks.Look.{Look}
use Rattle.rank_monitor.specs.declared.looks.Look.TheVariants as look
use Rattle.rank_monitor.specs.declared.steps.Step.{Step}
use Rattle.rank_monitor.specs.declared.steps.Step.TheVariants as step
use Rattle.scc_base.specs.Layouts.{most_chunk_words}

-- whether a look saw the flag of a rank set
abbrev pub look_of : Look → ℕ → Bool
look_of (look.Line from value) = look_at from value
look_of (look.Bits me nue value) = λ j. (nat_lt me nue && (nat_lt j nue && not (me == j))) && (bit_at value j == 1)

-- the move that a step is
abbrev pub move_of : Step → Move
move_of (step.DraftHeader word value) = DraftHeader word value
move_of (step.DraftChunk word value) = DraftChunk word value
move_of (step.RaiseSignal signal to) = RaiseSignal signal to
move_of (step.LookSignal signal seen) = LookSignal signal (look_of seen)
move_of (step.ReadHeader from word value) = ReadHeader from word value
move_of (step.ReadChunk from word value) = ReadChunk from word value
move_of (step.LowerSignal signal by) = LowerSignal signal by
move_of (step.FlipGather comm value last) = FlipGather comm value last
move_of (step.LookGather comm from place value) = LookGather comm from place value
move_of (step.WriteRelease comm to place value last) = WriteRelease comm to place value last
move_of (step.LookRelease comm value) = LookRelease comm value
move_of (step.StoreHeap place value) = StoreHeap place value
move_of step.Nothing = NoMove
move_of step.Misplaced = Misplaced

-- the numbers are those of words of a header line or of a chunk buffer, and of communicators
abbrev pub IsStepWithin : Step → Type 0
IsStepWithin (step.DraftHeader word value) = word < 4
IsStepWithin (step.DraftChunk word value) = word < most_chunk_words
IsStepWithin (step.ReadHeader from word value) = word < 4
IsStepWithin (step.ReadChunk from word value) = word < most_chunk_words
IsStepWithin (step.FlipGather comm value last) = comm < 16
IsStepWithin (step.LookGather comm from place value) = comm < 16
IsStepWithin (step.WriteRelease comm to place value last) = comm < 16
IsStepWithin (step.LookRelease comm value) = comm < 16
IsStepWithin other = Unit {0}

-- the move that a change of a word of bit flags is
abbrev pub change_by : (lower raise : ℕ → Move) → Change → Move
change_by lower raise (change.Lowered from) = lower from
change_by lower raise (change.Raised to) = raise to
change_by lower raise change.Misplaced = Misplaced
