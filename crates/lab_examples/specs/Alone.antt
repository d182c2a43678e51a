-- What one core does if its write-combining buffer is empty between its calls, and what shared words alone would do (RCCE specification
-- 2.0: put and get; this project's profile).
use Rattle.std.specs.Prelude.{◌≡◌, ℕ, ◌<◌, List, [], ◌∷◌, ◌++◌, Option, None}
use Rattle.scc_base.specs.Places.{LineAt, WordAt}
use Rattle.scc_base.specs.Events.{store_of}
use Rattle.scc_proto.specs.Words.{Memory, memory_after, word_at}
use Rattle.write_combine.specs.Combining.{whole_line}
use Rattle.put_get.specs.Accesses.{stores_of_line}
use Rattle.lab_plain.specs.Scenes.{CoreScene, after_all, after_flushing, after_invalidate, answer, line_got, line_in, line_put, word_read, word_written}

-- a call of a core: a write that is flushed at once, a put, a read with the line to evict at a fill, a get, or CL1INVMB
pub data LoneCall : Type 0 where
  FlushedWrite : WordAt → ℕ → LoneCall
  LinePut : LineAt → List ℕ → LoneCall
  WordRead : WordAt → Option LineAt → LoneCall
  LineGet : LineAt → LoneCall
  Invalidation : LoneCall

-- a core after one call
abbrev pub scene_after_call : ℕ → LoneCall → CoreScene → CoreScene
scene_after_call me (FlushedWrite p v) s = after_flushing me (word_written me p v s)
scene_after_call me (LinePut line words) s = line_put me line words s
scene_after_call me (WordRead p evict) s = word_read me p evict s
scene_after_call me (LineGet line) s = line_got me line s
scene_after_call me Invalidation s = after_invalidate s

-- what a call returns
abbrev pub call_answer : ℕ → LoneCall → CoreScene → List ℕ
call_answer me (FlushedWrite p v) s = []
call_answer me (LinePut line words) s = []
call_answer me (WordRead p evict) s = answer p s ∷ []
call_answer me (LineGet line) s = line_in (after_flushing me s).memory line
call_answer me Invalidation s = []

-- the shared words after a call, if there were no cache and no buffer
abbrev pub words_after_call : LoneCall → Memory → Memory
words_after_call (FlushedWrite p v) memory = memory_after memory (store_of p v)
words_after_call (LinePut line words) memory = after_all memory (stores_of_line (whole_line line words))
words_after_call (WordRead p evict) memory = memory
words_after_call (LineGet line) memory = memory
words_after_call Invalidation memory = memory

-- what a call would return without a cache and a buffer
abbrev pub words_answer : LoneCall → Memory → List ℕ
words_answer (FlushedWrite p v) memory = []
words_answer (LinePut line words) memory = []
words_answer (WordRead p evict) memory = word_at memory p ∷ []
words_answer (LineGet line) memory = line_in memory line
words_answer Invalidation memory = []

-- a core after several calls, one after the other
abbrev pub scene_after_calls : ℕ → List LoneCall → CoreScene → CoreScene
scene_after_calls me [] s = s
scene_after_calls me (call ∷ calls) s = scene_after_calls me calls (scene_after_call me call s)

-- what several calls return, one after the other
abbrev pub call_answers : ℕ → List LoneCall → CoreScene → List ℕ
call_answers me [] s = []
call_answers me (call ∷ calls) s = call_answer me call s ++ call_answers me calls (scene_after_call me call s)

-- the shared words after several calls, if there were no cache and no buffer
abbrev pub words_after_calls : List LoneCall → Memory → Memory
words_after_calls [] memory = memory
words_after_calls (call ∷ calls) memory = words_after_calls calls (words_after_call call memory)

-- what several calls would return without a cache and a buffer
abbrev pub words_answers : List LoneCall → Memory → List ℕ
words_answers [] memory = []
words_answers (call ∷ calls) memory = words_answer call memory ++ words_answers calls (words_after_call call memory)

-- a call for a word names one of the four words of a line
abbrev pub IsCallOfWord : LoneCall → Type 0
IsCallOfWord (FlushedWrite p v) = p.word < 4
IsCallOfWord (LinePut line words) = Unit {0}
IsCallOfWord (WordRead p evict) = p.word < 4
IsCallOfWord (LineGet line) = Unit {0}
IsCallOfWord Invalidation = Unit {0}

-- each call for a word names one of the four words of a line
abbrev pub AreCallsOfWords : List LoneCall → Type 0
AreCallsOfWords [] = Unit {0}
AreCallsOfWords (call ∷ calls) = IsCallOfWord call × AreCallsOfWords calls

-- a core with an empty cache and an empty buffer
abbrev pub blank_scene : Memory → CoreScene
blank_scene memory = record { memory = memory; lines = []; out = None; said = [] }

-- A core alone reads the shared words, and leaves them as if it had no cache and no buffer, whatever it caches and evicts.
pub record LoneLaw : Type 0 where
  pub answers : (me : ℕ) (calls : List LoneCall) (memory : Memory) → AreCallsOfWords calls
      → call_answers me calls (blank_scene memory) ≡ words_answers calls memory
  pub words : (me : ℕ) (calls : List LoneCall) (memory : Memory) → AreCallsOfWords calls
      → (scene_after_calls me calls (blank_scene memory)).memory ≡ words_after_calls calls memory
