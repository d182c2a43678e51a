-- Stores into the heap of the message passing buffers, by a rank that has drafted nothing, takes no chunk and is in
-- no barrier (this project's profile).
use Rattle.std.specs.Prelude.{◌≡◌, ℕ, ◌<◌, ◌≤◌, true, List, Option, Some, IfSome}
use Rattle.scc_base.specs.Places.{first_heap, LineAt, WordAt, line_of_word}
use Rattle.scc_base.specs.Setups.{SetupView, IsSetup, host_of}
use Rattle.scc_base.specs.declared.events.Event.{Event}
use Rattle.scc_proto.specs.Stages.{Record}
use Rattle.scc_proto.specs.Permission.{leaves_heap}
use Rattle.scc_proto.specs.Ports.{Seat, MayMakeAll, record_on}
use Rattle.write_combine.specs.declared.combiner.Out.{Out}
use Rattle.write_combine.specs.Combining.{handed_out, held_after, whole_line}
use Rattle.put_get.specs.Accesses.{stores_of}
use Rattle.put_get.specs.Transfers.{put_stores}

-- a heap line at the core of one of the ranks
pub record IsHeapLine (setup : SetupView) (line : LineAt) : Type 0 where
  pub owner : ℕ
  pub below : owner < setup.nue
  pub core : line.core ≡ host_of setup.hosts owner
  pub heap : first_heap ≤ line.line

-- what a write-combining buffer holds is a heap line, if it holds one
abbrev pub AwaitsHeap : SetupView → Option Out → Type 0
AwaitsHeap setup out = IfSome out (λ o. IsHeapLine setup o.line)

-- events that a record permits one after the other, after which it is at the same stage, so that others of them may
-- follow
pub record LeavesStage (seat : Seat) (rec : Record) (events : List Event) : Type 0 where
  pub permitted : MayMakeAll seat rec events
  pub stage : (record_on seat rec events).stage ≡ rec.stage

-- wherever a record leaves the heap to its rank: a put into the heap is permitted; so is each write, of a word or of
-- a line, while the buffer holds a heap line or none, and so is a flush; and after a write to a heap line the buffer
-- holds a heap line
pub record HeapLaw : Type 0 where
  pub put : (seat : Seat) (rec : Record) (r line : ℕ) (src : List (List ℕ)) → IsSetup seat.setup → leaves_heap rec.stage ≡ true
      → r < seat.setup.nue → first_heap ≤ line → LeavesStage seat rec (put_stores (host_of seat.setup.hosts r) line src)
  pub write : (seat : Seat) (rec : Record) (out : Option Out) (line : LineAt) → IsSetup seat.setup → leaves_heap rec.stage ≡ true
      → AwaitsHeap seat.setup out → LeavesStage seat rec (stores_of (handed_out out line))
  pub flush : (seat : Seat) (rec : Record) (out : Option Out) → IsSetup seat.setup → leaves_heap rec.stage ≡ true
      → AwaitsHeap seat.setup out → LeavesStage seat rec (stores_of out)
  pub word_held : (setup : SetupView) (out : Option Out) (p : WordAt) (v : ℕ) → AwaitsHeap setup out → IsHeapLine setup (line_of_word p)
      → AwaitsHeap setup (Some (held_after out p v))
  pub line_held : (setup : SetupView) (line : LineAt) (words : List ℕ) → IsHeapLine setup line
      → AwaitsHeap setup (Some (whole_line line words))
