-- What one core does to the shared words and to what it holds: its list of cached lines and its one buffered line (SCC External
-- Architecture Specification). The order of its stores and loads is this project's profile.
use Rattle.std.specs.Prelude.{ℕ, zero, suc, Bool, not, ◌&&◌, if◌then◌else◌, List, [], ◌∷◌, ◌++◌, filter, map, slice_index, slice_index_or, true, false, Option, Some, None, is_some}
use Rattle.std.specs.Option.{unwrap_or}
use Rattle.scc_base.specs.Places.{LineAt, WordAt, line_of_word, word_of_line, same_line}
use Rattle.scc_base.specs.Events.{store_of}
use Rattle.scc_base.specs.declared.events.Event.{Event}
use Rattle.scc_proto.specs.Words.{Memory, memory_after, word_at}
use Rattle.line_cache.specs.declared.cache.Entry.{Entry}
use Rattle.line_cache.specs.Lines.{cached_words, with_filled_line, lines_with_word, line_noted}
use Rattle.write_combine.specs.declared.combiner.Out.{Out}
use Rattle.write_combine.specs.Combining.{handed_out, held_after}
use Rattle.put_get.specs.Accesses.{stores_of, stores_of_line, whole_line}
use Rattle.lab_plain.specs.declared.said.Said.{Said}
use Rattle.lab_plain.specs.declared.said.Said.TheVariants as said
use Rattle.lab_plain.specs.declared.said.Source.{Source}
use Rattle.lab_plain.specs.declared.said.Source.TheVariants as source

-- one core at work: the shared words, its cached lines, the line in its write-combining buffer, and what was printed
pub record CoreScene : Type 0 where
  pub memory : Memory
  pub lines : List Entry
  pub out : Option Out
  pub said : List Said

-- the shared words after these accesses
abbrev pub after_all : Memory → List Event → Memory
after_all memory [] = memory
after_all memory (e ∷ es) = after_all (memory_after memory e) es

-- the four shared words of a line
abbrev pub line_in : Memory → LineAt → List ℕ
line_in memory line =
    word_at memory (word_of_line line 0) ∷ word_at memory (word_of_line line 1) ∷ word_at memory (word_of_line line 2)
    ∷ word_at memory (word_of_line line 3) ∷ []

-- what is printed when a line leaves the write-combining buffer
abbrev pub say_stores : ℕ → Option Out → List Said
say_stores me None = []
say_stores me (Some o) = said.Stores me o.line o.words o.mask ∷ []

-- a core after a flush: the written words of its buffer are stored
abbrev pub after_flushing : ℕ → CoreScene → CoreScene
after_flushing me s = record {
  memory = after_all s.memory (stores_of s.out);
  lines = s.lines;
  out = None;
  said = s.said ++ say_stores me s.out;
}

-- a core after a write of a word: another line in the buffer is stored first; the word goes into the buffer, and into the cache if its line
-- is cached
abbrev pub word_written : ℕ → WordAt → ℕ → CoreScene → CoreScene
word_written me p v s = record {
  memory = after_all s.memory (stores_of (handed_out s.out (line_of_word p)));
  lines = lines_with_word s.lines p v;
  out = Some (held_after s.out p v);
  said = s.said ++ say_stores me (handed_out s.out (line_of_word p));
}

-- a core after a write of a line: four writes of words, word 0 first
abbrev pub line_written : ℕ → LineAt → List ℕ → CoreScene → CoreScene
line_written me line words s =
    word_written me (word_of_line line 3) (slice_index words 3)
    (word_written me (word_of_line line 2) (slice_index words 2)
    (word_written me (word_of_line line 1) (slice_index words 1)
    (word_written me (word_of_line line 0) (slice_index words 0) s)))

-- a core after a store of a whole line; the buffer stays as it is
abbrev pub line_stored : ℕ → LineAt → List ℕ → CoreScene → CoreScene
line_stored me line words s = record {
  memory = after_all s.memory (stores_of_line (whole_line line words));
  lines = line_noted s.lines line words;
  out = s.out;
  said = s.said ++ said.Stores me line words (true ∷ true ∷ true ∷ true ∷ []) ∷ [];
}

-- a core after a put of a line: a flush, then a store of the whole line
abbrev pub line_put : ℕ → LineAt → List ℕ → CoreScene → CoreScene
line_put me line words s = line_stored me line words (after_flushing me s)

-- the value of a word in the write-combining buffer, if it was written there
abbrev pub waiting_word : Option Out → WordAt → Option ℕ
waiting_word None p = None
waiting_word (Some o) p =
    if same_line o.line (line_of_word p) && slice_index_or o.mask p.word false then Some (slice_index o.words p.word) else None

-- a core after a read was answered: the answer is printed
abbrev pub after_answer : WordAt → ℕ → Source → CoreScene → CoreScene
after_answer p v from s = record s { said = s.said ++ said.Answers p v from ∷ [] }

-- the cached lines without this one
abbrev pub without_line : LineAt → List Entry → List Entry
without_line line es = filter (λ (e : Entry). not (same_line e.line line)) es

-- the cached lines without the one that the evictor names, if it names one
abbrev pub lines_after_evictor : Option LineAt → List Entry → List Entry
lines_after_evictor None es = es
lines_after_evictor (Some line) es = without_line line es

-- whether the line that the evictor names is cached, and so leaves
abbrev pub is_evicted : Option LineAt → List Entry → Bool
is_evicted None es = false
is_evicted (Some line) es = is_some (cached_words es line)

-- what is printed of the line that was named to leave, if it left
abbrev pub say_left : Option LineAt → Bool → List Said
say_left None left = []
say_left (Some line) left = if left then said.Evicted line ∷ [] else []

-- what is printed of the line that the evictor names: that it left, if it was cached
abbrev pub say_evicted : Option LineAt → List Entry → List Said
say_evicted evict es = say_left evict (is_evicted evict es)

-- a core after a read of a word whose line is not cached: its four words are loaded, the line comes in, and the evictor's line leaves
abbrev pub word_loaded : ℕ → WordAt → Option LineAt → CoreScene → CoreScene
word_loaded me p evict s =
    let line = line_of_word p in
    let words = line_in s.memory line in
    let came = with_filled_line s.lines line words in
    record {
      memory = s.memory;
      lines = lines_after_evictor evict came;
      out = s.out;
      said = s.said ++ said.Loads me line words ∷ said.Answers p (slice_index words p.word) source.Words ∷ say_evicted evict came;
    }

-- a core after a read of a word that is not in the buffer, by the cached words of its line, if any
abbrev pub word_fetched : ℕ → WordAt → Option LineAt → CoreScene → Option (List ℕ) → CoreScene
word_fetched me p evict s (Some words) = after_answer p (slice_index words p.word) source.Cache s
word_fetched me p evict s None = word_loaded me p evict s

-- a core after a read of a word, by its value in the buffer, if any
abbrev pub word_read_by : ℕ → WordAt → Option LineAt → CoreScene → Option ℕ → CoreScene
word_read_by me p evict s (Some v) = after_answer p v source.BufferLine s
word_read_by me p evict s None = word_fetched me p evict s (cached_words s.lines (line_of_word p))

-- a core after a read of a word
abbrev pub word_read : ℕ → WordAt → Option LineAt → CoreScene → CoreScene
word_read me p evict s = word_read_by me p evict s (waiting_word s.out p)

-- the answer of a read: the word in the buffer, or else in the cache, or else the shared word
abbrev pub answer : WordAt → CoreScene → ℕ
answer p s =
    unwrap_or (waiting_word s.out p)
    (slice_index (unwrap_or (cached_words s.lines (line_of_word p)) (line_in s.memory (line_of_word p))) p.word)

-- a core before the read of word n of a line; a read of a line is four reads of words, word 0 first
abbrev pub before_word : ℕ → LineAt → Option LineAt → CoreScene → ℕ → CoreScene
before_word me line evict s zero = s
before_word me line evict s (suc n) = word_read me (word_of_line line n) evict (before_word me line evict s n)

-- a core after a read of a line
abbrev pub line_read : ℕ → LineAt → Option LineAt → CoreScene → CoreScene
line_read me line evict s = before_word me line evict s 4

-- the four words that a read of a line answers
abbrev pub line_answer : ℕ → LineAt → Option LineAt → CoreScene → List ℕ
line_answer me line evict s =
    answer (word_of_line line 0) (before_word me line evict s 0) ∷ answer (word_of_line line 1) (before_word me line evict s 1)
    ∷ answer (word_of_line line 2) (before_word me line evict s 2) ∷ answer (word_of_line line 3) (before_word me line evict s 3) ∷ []

-- what a get prints for a line with these words
abbrev pub say_got : ℕ → LineAt → List ℕ → List Said
say_got me line words =
    said.Loads me line words ∷ said.Answers (word_of_line line 0) (slice_index words 0) source.Words
    ∷ said.Answers (word_of_line line 1) (slice_index words 1) source.Words
    ∷ said.Answers (word_of_line line 2) (slice_index words 2) source.Words
    ∷ said.Answers (word_of_line line 3) (slice_index words 3) source.Words ∷ []

-- a core after it loads a line into an empty cache
abbrev pub line_loaded : ℕ → LineAt → CoreScene → CoreScene
line_loaded me line s = record {
  memory = s.memory;
  lines = with_filled_line [] line (line_in s.memory line);
  out = s.out;
  said = s.said ++ say_got me line (line_in s.memory line);
}

-- a core after a get of a line: it flushes, drops its cached lines, and loads the line
abbrev pub line_got : ℕ → LineAt → CoreScene → CoreScene
line_got me line s = line_loaded me line (after_flushing me s)

-- a core after a load of a word by one access; the cache and the write-combining buffer are neither asked nor changed
abbrev pub after_load : ℕ → WordAt → CoreScene → CoreScene
after_load me p s =
    record s { said = s.said ++ said.LoadsWord me p (word_at s.memory p) ∷ said.Answers p (word_at s.memory p) source.Words ∷ [] }

-- a core after a store of a word by one access; the cache and the write-combining buffer do not see it
abbrev pub after_store : ℕ → WordAt → ℕ → CoreScene → CoreScene
after_store me p v s = record s { memory = memory_after s.memory (store_of p v); said = s.said ++ said.StoresWord me p v ∷ [] }

-- a core after CL1INVMB, which drops all cached lines
abbrev pub after_invalidate : CoreScene → CoreScene
after_invalidate s = record s { lines = [] }

-- what is printed of a core's cached lines
abbrev pub say_lines : ℕ → List Entry → List Said
say_lines me [] = said.CachesNothing me ∷ []
say_lines me (e ∷ es) = map (λ (x : Entry). said.Caches me x.line x.words) (e ∷ es)

-- what is printed of a core's write-combining buffer
abbrev pub say_buffer : ℕ → Option Out → List Said
say_buffer me None = said.BuffersNothing me ∷ []
say_buffer me (Some o) = said.Buffers me o.line o.words o.mask ∷ []

-- a core after it printed what it holds
abbrev pub after_print : ℕ → CoreScene → CoreScene
after_print me s = record s { said = s.said ++ say_lines me s.lines ++ say_buffer me s.out }
