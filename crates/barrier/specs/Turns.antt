-- What one turn of a barrier does and comes to (this project's profile of RCCE's barrier).
use Rattle.std.specs.Prelude.{◌≡◌, ℕ, suc, ◌+◌, false, List, ◌++◌}
use Rattle.std.specs.List.{list_any}
use Rattle.scc_base.specs.declared.events.Event.{Event}
use Rattle.scc_base.specs.declared.events.Turn.{Turn}
use Rattle.scc_base.specs.declared.events.Turn.TheVariants as turn
use Rattle.scc_proto.specs.Tables.{table_with}
use Rattle.scc_proto.specs.Stages.{Record}
use Rattle.scc_proto.specs.Drafts.{is_draft}
use Rattle.scc_proto.specs.Ports.{Seat, Sight, Did, record_in}
use Rattle.put_get.specs.Cores.{Private}
use Rattle.sync_flags.specs.Flags.{flag_value}
use Rattle.sync_flags.specs.Tries.{Tried}
use Rattle.sync_flags.specs.Looks.{LooksAt}
use Rattle.sync_flags.specs.Writes.{StoresWord}
use Rattle.sync_flags.specs.Turns.{waits_at}
use Rattle.barrier.specs.declared.stages.BarStage.{BarStage}
use Rattle.barrier.specs.declared.stages.BarStage.TheVariants.{Flip, Gather, Release, Await, Finished}
use Rattle.barrier.specs.Flags.{value_at, member_at, gather_word, release_word}
use Rattle.barrier.specs.Stages.{Member, is_bar_finished, is_gather, bar_left, barrier_aim_at, bar_call}

-- what each stage does: it writes one flag, looks at one, or does nothing. Eight parameters: of the stage its place (the
-- seat, the communicator), itself and the value that this barrier writes; of the rank its sight and its core, before the
-- turn and after it.
abbrev pub Does : Seat → ℕ → BarStage → (value : ℕ) → Sight → Private → Sight → Private → Type 0
Does seat comm Flip value s c t d = StoresWord s c (gather_word seat comm seat.rank) value t d
Does seat comm (Gather seen) value s c t d =
    (found : ℕ) × LooksAt s c (gather_word seat comm (member_at seat.setup comm seat.rank (seen + 1))) found t d
Does seat comm (Release released) value s c t d =
    StoresWord s c (release_word seat comm (member_at seat.setup comm seat.rank (released + 1))) value t d
Does seat comm Await value s c t d = (found : ℕ) × LooksAt s c (release_word seat comm seat.rank) found t d
Does seat comm Finished value s c t d = (t ≡ s) × (d ≡ c)

-- how often the own gather flags were flipped, by a turn or by a whole barrier from this stage on
abbrev pub flips_by : ℕ → BarStage → (ℕ → ℕ) → ℕ → ℕ
flips_by comm Flip flips = table_with flips comm (suc (flips comm))
flips_by comm stage flips = flips

-- what no turn of a barrier changes of a record
pub record KeepsAllButBarriers (rec new : Record) : Type 0 where
  pub post : new.post ≡ rec.post
  pub notes : new.notes ≡ rec.notes
  pub registers : new.held ≡ rec.held
  pub heap : new.heap ≡ rec.heap

-- what each answer means for the barrier and the record
abbrev pub BarMeans : Member → Member → Turn → Type 0
BarMeans old now turn.Moved =
    (bar_left old.sight.seat old.op ≡ bar_left old.sight.seat now.op + 1) × ((record_in now.sight).calls ≡ (record_in old.sight).calls)
    × (is_bar_finished old.op.stage ≡ false) × (is_bar_finished now.op.stage ≡ false)
BarMeans old now (turn.Waiting spot) = (now.op ≡ old.op) × (record_in now.sight ≡ record_in old.sight)
BarMeans old now turn.Done = (now.op.stage ≡ Finished) × ((record_in now.sight).calls ≡ (record_in old.sight).calls ++ bar_call old.op)
    × (is_gather old.op.stage ≡ false)

-- one turn of a barrier
pub record BarTurned (old now : Member) (answer : Turn) : Type 0 where
  pub events : List Event
  pub did : Did old.sight events now.sight
  pub does : Does old.sight.seat old.op.comm old.op.stage (flag_value (value_at now.parity old.op.comm)) old.sight old.core
      now.sight now.core
  -- it waits exactly where its one look was vain
  pub tried : Tried (barrier_aim_at old.sight.seat old.op.comm old.op.stage (flag_value (value_at now.parity old.op.comm))) events
      (waits_at answer)
  pub same : now.op.comm ≡ old.op.comm
  pub means : BarMeans old now answer
  pub flips : (record_in now.sight).flips ≡ flips_by old.op.comm old.op.stage (record_in old.sight).flips
  pub rest : KeepsAllButBarriers (record_in old.sight) (record_in now.sight)
  -- no header or chunk word is stored
  pub no_draft : list_any (is_draft old.sight.seat.setup) events ≡ false
