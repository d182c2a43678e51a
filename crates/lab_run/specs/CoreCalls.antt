-- The calls of put and get's core, as steps of a lab's core (RCCE specification 2.0: put and get; this project's profile).
use Rattle.std.specs.Prelude.{◌≡◌, ℕ, List, [], ◌∷◌, length, Option, None}
use Rattle.scc_base.specs.Places.{LineAt, WordAt}
use Rattle.scc_base.specs.declared.events.Event.{Event}
use Rattle.scc_proto.specs.Words.{Memory, IsStep, memory_after}
use Rattle.scc_proto.specs.Ports.{Sight, Did}
use Rattle.line_cache.specs.Lines.{IsCache}
use Rattle.put_get.specs.Cores.{Private, ReadsWord, Writes, Flushes}
use Rattle.put_get.specs.Transfers.{Gets, Puts}
use Rattle.chip_memory.specs.Chips.{of_rank_all}
use Rattle.lab_plain.specs.declared.said.Said.{Said}
use Rattle.lab_plain.specs.Scenes.{CoreScene, after_all, after_flushing, after_invalidate, answer}
use Rattle.lab_plain.specs.Scenes.{line_got, line_in, line_put, word_read, word_written}
use Rattle.lab_run.specs.Accesses.{accesses_of}

-- a core and the port through which it accesses the shared words
pub record CoreAt : Type 0 where
  pub port : Sight
  pub core : Private

-- each event is a step of the shared words that the events before it left
abbrev pub AreSteps : Memory → List Event → Type 0
AreSteps memory [] = Unit {0}
AreSteps memory (e ∷ es) = IsStep memory e × AreSteps (memory_after memory e) es

-- what the port made between these two states were steps of these words
abbrev pub WereStepsOf : Memory → CoreAt → CoreAt → Type 0
WereStepsOf memory old new = (events : List Event) → Did old.port events new.port → AreSteps memory events

-- a core over the shared words, and what was printed
abbrev pub scene_over : Memory → CoreAt → List Said → CoreScene
scene_over memory at said = record { memory = memory; lines = at.core.lines; out = at.core.out; said = said }

-- A call of a core equals this function on its scene. Its events are the printed accesses. The shared words, its cached lines and its
-- buffered line are those that the function leaves.
pub record IsCall (op : CoreScene → CoreScene) (me : ℕ) (memory : Memory) (old new : CoreAt) : Type 0 where
  pub events : List Event
  pub did : Did old.port events new.port
  pub said : List Said
  pub accesses : accesses_of said ≡ of_rank_all me events
  pub scene : op (scene_over memory old []) ≡ scene_over (after_all memory events) new said

-- A core read a word, and evicted one line or none. If a lab names that line, its core does the same and returns the same value.
pub record IsWordRead (me : ℕ) (memory : Memory) (old new : CoreAt) (p : WordAt) (v : ℕ) : Type 0 where
  pub evict : Option LineAt
  pub call : IsCall (word_read me p evict) me memory old new
  pub same : v ≡ answer p (scene_over memory old [])

-- A core got a line without an eviction. A lab's core does the same, and both return the shared words.
pub record IsLineGot (me : ℕ) (memory : Memory) (old new : CoreAt) (line : LineAt) (words : List ℕ) : Type 0 where
  pub call : IsCall (line_got me line) me memory old new
  pub same : words ≡ line_in memory line

-- Each call of put and get's core, by its relation and over any port, is a step of a lab's core. Reads, puts and gets need an empty buffer;
-- reads and gets also need a port whose events were steps of the shared words.
pub record CoreCallsLaw : Type 0 where
  pub write : (me : ℕ) (memory : Memory) (old new : CoreAt) (p : WordAt) (v : ℕ) → Writes old.port old.core p v new.port new.core
      → IsCall (word_written me p v) me memory old new
  pub flush : (me : ℕ) (memory : Memory) (old new : CoreAt) → Flushes old.port old.core new.port new.core
      → IsCall (after_flushing me) me memory old new
  pub invalidate : (me : ℕ) (memory : Memory) (old new : CoreAt) → new.port ≡ old.port → new.core ≡ record old.core { lines = [] }
      → IsCall after_invalidate me memory old new
  pub read : (me : ℕ) (memory : Memory) (old new : CoreAt) (p : WordAt) (v : ℕ) → WereStepsOf memory old new → IsCache old.core.lines
      → old.core.out ≡ None → ReadsWord old.port old.core p v new.port new.core → IsWordRead me memory old new p v
  pub put : (me : ℕ) (memory : Memory) (old new : CoreAt) (line : LineAt) (words : List ℕ) → old.core.out ≡ None
      → Puts old.port old.core line.core line.line (words ∷ []) new.port new.core → IsCall (line_put me line words) me memory old new
  pub get : (me : ℕ) (memory : Memory) (old new : CoreAt) (line : LineAt) (words : List ℕ) → WereStepsOf memory old new
      → old.core.out ≡ None → length words ≡ 4 → new.core.evictions ≡ old.core.evictions
      → Gets old.port old.core line.core line.line (words ∷ []) new.port new.core → IsLineGot me memory old new line words
