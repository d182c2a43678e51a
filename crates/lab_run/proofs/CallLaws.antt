-- The calls of put and get's core, as steps of a lab's core.
use Rattle.std.proofs.Common.{◌≡◌, ℕ, zero, suc, ◌<◌, ◌≤◌, Bool, true, unwrap_or, List, [], ◌∷◌, ◌++◌, if◌then◌else◌, length, slice_index, Option, None, Some, refl, sym, ◌∙◌, ap, subst, arith}
use Rattle.std.proofs.lemmas.List.{append-nil}
use Rattle.scc_base.specs.Places.{LineAt, WordAt, line_of_word}
use Rattle.scc_base.specs.declared.events.Event.{Event}
use Rattle.scc_proto.specs.Words.{Memory}
use Rattle.scc_proto.specs.Ports.{Sight, Did}
use Rattle.scc_proto.proofs.PortLaws.{did_nothing}
use Rattle.line_cache.specs.declared.cache.Entry.{Entry}
use Rattle.line_cache.specs.Lines.{IsCache, IsPlaceOf, with_filled_line, cached_words, line_noted}
use Rattle.write_combine.specs.declared.combiner.Out.{Out}
use Rattle.write_combine.specs.Combining.{handed_out}
use Rattle.put_get.specs.Accesses.{loads_of, stores_of, stores_of_line, whole_line}
use Rattle.put_get.specs.Cores.{Private, Kept, Dropped, Fetch, Held, Loaded, ReadsLine, ReadsWord, Writes, Flushes}
use Rattle.put_get.specs.Transfers.{Gets, Puts}
use Rattle.put_get.proofs.FillLemmas.{fills_evictions}
use Rattle.chip_memory.specs.Chips.{of_rank_all}
use Rattle.lab_plain.specs.declared.said.Said.{Said}
use Rattle.lab_plain.specs.declared.said.Said.TheVariants.{Answers, Loads, Stores}
use Rattle.lab_plain.specs.declared.said.Source.TheVariants.{Cache, Words}
use Rattle.lab_plain.specs.Scenes.{after_all, after_flushing, after_invalidate, answer, is_evicted, lines_after_evictor, line_in, line_loaded, line_put, line_stored, say_evicted, say_got, say_stores, waiting_word, word_fetched, word_read, word_read_by, word_written}
use Rattle.lab_run.specs.CoreCalls.{AreSteps, CoreAt, IsCall, IsLineGot, IsWordRead, WereStepsOf, scene_over}
use Rattle.lab_run.proofs.EvictLaws.{cache_filled, leaves_some, line_self}
use Rattle.lab_run.proofs.HeapEvents.{four_words}
use Rattle.lab_run.proofs.MoveLaws.{one_line}
use Rattle.lab_run.proofs.ToldLaws.{left_told, stores_told}

-- ---- writes

pub write_call : (me : ℕ) (memory : Memory) (old new : CoreAt) (p : WordAt) (v : ℕ) → Writes old.port old.core p v new.port new.core → IsCall (word_written me p v) me memory old new
write_call me memory old new p v writes =
    let out = handed_out old.core.out (line_of_word p) in
    record {
      events = stores_of out;
      did = writes.did;
      said = say_stores me out;
      accesses = stores_told me out;
      scene = λ i. scene_over (after_all memory (stores_of out)) (record { port = new.port; core = sym writes.is i }) (say_stores me out);
    }

pub flush_call : (me : ℕ) (memory : Memory) (old new : CoreAt) → Flushes old.port old.core new.port new.core → IsCall (after_flushing me) me memory old new
flush_call me memory old new flushes =
    let out = old.core.out in
    record {
      events = stores_of out;
      did = flushes.did;
      said = say_stores me out;
      accesses = stores_told me out;
      scene = λ i. scene_over (after_all memory (stores_of out)) (record { port = new.port; core = sym flushes.is i }) (say_stores me out);
    }

still : (old new : Sight) → new ≡ old → Did old [] new
still old new same = subst (λ (t : Sight). Did old [] t) (sym same) (did_nothing old)

pub invalidate_call : (me : ℕ) (memory : Memory) (old new : CoreAt) → new.port ≡ old.port → new.core ≡ record old.core { lines = [] } → IsCall after_invalidate me memory old new
invalidate_call me memory old new same is = record {
  events = [];
  did = still old.port new.port same;
  said = [];
  accesses = refl;
  scene = λ i. scene_over memory (record { port = new.port; core = sym is i }) [];
}

pub put_call : (me : ℕ) (memory : Memory) (old new : CoreAt) (line : LineAt) (words : List ℕ) → old.core.out ≡ None → Puts old.port old.core line.core line.line (words ∷ []) new.port new.core
    → IsCall (line_put me line words) me memory old new
put_call me memory old new line words empty puts =
    let stores = stores_of_line (whole_line line words) in
    let said : List Said = Stores me line words (true ∷ true ∷ true ∷ true ∷ []) ∷ [] in
    let lines : new.core.lines ≡ line_noted old.core.lines line words = ap (λ (x : Private). x.lines) puts.is in
    let out : new.core.out ≡ None = ap (λ (x : Private). x.out) puts.is ∙ empty in
    record {
      events = stores;
      did = subst (λ (es : List Event). Did old.port es new.port) (one_line line.core line.line words) puts.did;
      said = said;
      accesses = append-nil (of_rank_all me stores);
      scene = ap (λ (o : Option Out). line_stored me line words (record { memory = after_all memory (stores_of o); lines = old.core.lines; out = None; said = [] ++ say_stores me o })) empty
          ∙ (λ i. record { memory = after_all memory stores; lines = sym lines i; out = sym out i; said = said });
    }

-- ---- reads

-- the words of a loaded line are the shared ones
loaded_words : (memory : Memory) (line : LineAt) (words : List ℕ) → AreSteps memory (loads_of line words) → length words ≡ 4 → words ≡ line_in memory line
loaded_words memory line words steps long = four_words words long ∙ (λ i. sym steps.0 i ∷ sym steps.1.0 i ∷ sym steps.1.1.0 i ∷ sym steps.1.1.1.0 i ∷ [])

-- a line came in, and the named line left, if one was named
loaded_call : (me : ℕ) (memory : Memory) (old new : CoreAt) (p : WordAt) (words : List ℕ) (evict : Option LineAt) → old.core.out ≡ None → cached_words old.core.lines (line_of_word p) ≡ None
    → Did old.port (loads_of (line_of_word p) words) new.port → words ≡ line_in memory (line_of_word p)
    → new.core.lines ≡ lines_after_evictor evict (with_filled_line old.core.lines (line_of_word p) (line_in memory (line_of_word p))) → new.core.out ≡ old.core.out → IsCall (word_read me p evict) me memory old new
loaded_call me memory old new p words evict empty none did same lines out =
    let line = line_of_word p in
    let came = with_filled_line old.core.lines line (line_in memory line) in
    let scene = scene_over memory old [] in
    let said : List Said = Loads me line (line_in memory line) ∷ Answers p (slice_index (line_in memory line) p.word) Words ∷ say_evicted evict came in
    record {
      events = loads_of line words;
      did = did;
      said = said;
      accesses = (λ i. of_rank_all me (loads_of line (line_in memory line)) ++ left_told evict (is_evicted evict came) i) ∙ (λ i. of_rank_all me (loads_of line (sym same i)));
      scene = ap (λ (o : Option Out). word_read_by me p evict scene (waiting_word o p)) empty ∙ ap (word_fetched me p evict scene) none
          ∙ (λ i. record { memory = memory; lines = sym lines i; out = sym out i; said = said });
    }

-- the line of an entry
line_there : (es : List Entry) (at : ℕ) → at < length es → (line : LineAt) × IsPlaceOf es line (Some at)
line_there [] at below = absurd (omega (arith, below))
line_there (e ∷ es) zero below = (e.line, (refl, below))
line_there (e ∷ es) (suc at) below = let rest = line_there es at (omega (arith, below)) in (rest.0, (rest.1.0, below))

loaded_answer : (memory : Memory) (old : CoreAt) (p : WordAt) (words : List ℕ) → old.core.out ≡ None → cached_words old.core.lines (line_of_word p) ≡ None → words ≡ line_in memory (line_of_word p)
    → slice_index words p.word ≡ answer p (scene_over memory old [])
loaded_answer memory old p words empty none same =
    ap (λ (l : List ℕ). slice_index l p.word) same
    ∙ sym (λ i. unwrap_or (waiting_word (empty i) p) (slice_index (unwrap_or (none i) (line_in memory (line_of_word p))) p.word))

fetch_read : (me : ℕ) (memory : Memory) (old new : CoreAt) (p : WordAt) (words : List ℕ) → WereStepsOf memory old new → IsCache old.core.lines → old.core.out ≡ None
    → Fetch old.port old.core (line_of_word p) words new.port new.core → IsWordRead me memory old new p (slice_index words p.word)
fetch_read me memory old new p words steps cache empty (Held found same is) =
    let scene = scene_over memory old [] in
    let said : List Said = Answers p (slice_index words p.word) Cache ∷ [] in
    record {
      evict = None;
      call = record {
        events = [];
        did = still old.port new.port same;
        said = said;
        accesses = refl;
        scene = ap (λ (o : Option Out). word_read_by me p None scene (waiting_word o p)) empty ∙ ap (word_fetched me p None scene) found
            ∙ (λ i. scene_over memory (record { port = new.port; core = sym is i }) said);
      };
      same = sym (λ i. unwrap_or (waiting_word (empty i) p) (slice_index (unwrap_or (found i) (line_in memory (line_of_word p))) p.word));
    }
fetch_read me memory old new p words steps cache empty (Loaded none long did (Kept given is)) =
    let same = loaded_words memory (line_of_word p) words (steps (loads_of (line_of_word p) words) did) long in
    record {
      evict = None;
      call = loaded_call me memory old new p words None empty none did same (ap (λ (x : Private). x.lines) is ∙ ap (with_filled_line old.core.lines (line_of_word p)) same) (ap (λ (x : Private). x.out) is);
      same = loaded_answer memory old p words empty none same;
    }
fetch_read me memory old new p words steps cache empty (Loaded none long did (Dropped at below given is)) =
    let line = line_of_word p in
    let same = loaded_words memory line words (steps (loads_of line words) did) long in
    let there = line_there (with_filled_line old.core.lines line words) at below in
    let gone = leaves_some (Some there.0) (with_filled_line old.core.lines line words) at (cache_filled old.core.lines line words cache none).distinct there.1 in
    record {
      evict = Some there.0;
      call = loaded_call me memory old new p words (Some there.0) empty none did same
          (ap (λ (x : Private). x.lines) is ∙ gone.lines ∙ ap (λ (l : List ℕ). lines_after_evictor (Some there.0) (with_filled_line old.core.lines line l)) same) (ap (λ (x : Private). x.out) is);
      same = loaded_answer memory old p words empty none same;
    }

pub read_call : (me : ℕ) (memory : Memory) (old new : CoreAt) (p : WordAt) (v : ℕ) → WereStepsOf memory old new → IsCache old.core.lines → old.core.out ≡ None → ReadsWord old.port old.core p v new.port new.core
    → IsWordRead me memory old new p v
read_call me memory old new p v steps cache empty reads = subst (λ (x : ℕ). IsWordRead me memory old new p x) (sym reads.is) (fetch_read me memory old new p reads.words steps cache empty reads.fetch)

-- ---- a get

no_words : {P : Type 0} (o : Option (List ℕ)) (words : List ℕ) → o ≡ None → o ≡ Some words → P
no_words o words none some = absurd (cc (none, some))

fetch_evictions : (s t : Sight) (c d : Private) (line : LineAt) (words : List ℕ) → Fetch s c line words t d → c.evictions ≤ d.evictions
fetch_evictions s t c d line words (Held found same is) = let e : d.evictions ≡ c.evictions = ap (λ (x : Private). x.evictions) is in omega (arith, e)
fetch_evictions s t c d line words (Loaded none long did fills) = fills_evictions fills

-- a line was loaded into an empty cache, and no line left
record FreshLine (s : Sight) (c : Private) (line : LineAt) (words : List ℕ) (t : Sight) (d : Private) : Type 0 where
  long : length words ≡ 4
  did : Did s (loads_of line words) t
  lines : d.lines ≡ with_filled_line [] line words
  out : d.out ≡ c.out

fresh_line : (s t : Sight) (c d : Private) (line : LineAt) (words : List ℕ) → c.lines ≡ [] → d.evictions ≡ c.evictions → Fetch s c line words t d → FreshLine s c line words t d
fresh_line s t c d line words none same (Held found port is) = no_words (cached_words c.lines line) words (ap (λ (l : List Entry). cached_words l line) none) found
fresh_line s t c d line words none same (Loaded new long did (Kept given is)) = record {
  long = long;
  did = did;
  lines = ap (λ (x : Private). x.lines) is ∙ ap (λ (l : List Entry). with_filled_line l line words) none;
  out = ap (λ (x : Private). x.out) is;
}
fresh_line s t c d line words none same (Loaded new long did (Dropped at below given is)) =
    let more : d.evictions ≡ suc c.evictions = ap (λ (x : Private). x.evictions) is in absurd (omega (arith, more, same))

-- the line is read again
record SameLine (s : Sight) (c : Private) (line : LineAt) (words kept : List ℕ) (t : Sight) (d : Private) : Type 0 where
  words_are : words ≡ kept
  port : t ≡ s
  core : d ≡ c

same_line_read : (s t : Sight) (c d : Private) (line : LineAt) (words kept : List ℕ) → c.lines ≡ with_filled_line [] line kept → Fetch s c line words t d → SameLine s c line words kept t d
same_line_read s t c d line words kept lines fetch = by fetch
  where
    there : cached_words c.lines line ≡ Some kept
    there = ap (λ (l : List Entry). cached_words l line) lines ∙ ap (λ (b : Bool). if b then Some kept else None) (line_self line)

    by : Fetch s c line words t d → SameLine s c line words kept t d
    by (Held found port is) = record { words_are = ap (λ (o : Option (List ℕ)). unwrap_or o words) (sym found ∙ there); port = port; core = is }
    by (Loaded none long did fills) = no_words (cached_words c.lines line) kept none there

-- the words of a line that was read in this way
module _ (s : Sight) (c : Private) (line : LineAt) (words : List ℕ) (t : Sight) (d : Private) (empty : c.lines ≡ []) (long : length words ≡ 4) (same : d.evictions ≡ c.evictions) (reads : ReadsLine s c line words t d) where
  first : FreshLine s c line reads.word0.words reads.s1 reads.c1
  first = fresh_line s reads.s1 c reads.c1 line reads.word0.words empty few reads.word0.fetch
    where
      e0 : c.evictions ≤ reads.c1.evictions
      e0 = fetch_evictions s reads.s1 c reads.c1 line reads.word0.words reads.word0.fetch

      e1 : reads.c1.evictions ≤ reads.c2.evictions
      e1 = fetch_evictions reads.s1 reads.s2 reads.c1 reads.c2 line reads.word1.words reads.word1.fetch

      e2 : reads.c2.evictions ≤ reads.c3.evictions
      e2 = fetch_evictions reads.s2 reads.s3 reads.c2 reads.c3 line reads.word2.words reads.word2.fetch

      e3 : reads.c3.evictions ≤ d.evictions
      e3 = fetch_evictions reads.s3 t reads.c3 d line reads.word3.words reads.word3.fetch

      few : reads.c1.evictions ≡ c.evictions
      few = omega (arith, e0, e1, e2, e3, same)

  second : SameLine reads.s1 reads.c1 line reads.word1.words reads.word0.words reads.s2 reads.c2
  second = same_line_read reads.s1 reads.s2 reads.c1 reads.c2 line reads.word1.words reads.word0.words first.lines reads.word1.fetch

  third : SameLine reads.s2 reads.c2 line reads.word2.words reads.word0.words reads.s3 reads.c3
  third = same_line_read reads.s2 reads.s3 reads.c2 reads.c3 line reads.word2.words reads.word0.words (ap (λ (x : Private). x.lines) second.core ∙ first.lines) reads.word2.fetch

  fourth : SameLine reads.s3 reads.c3 line reads.word3.words reads.word0.words t d
  fourth = same_line_read reads.s3 t reads.c3 d line reads.word3.words reads.word0.words (ap (λ (x : Private). x.lines) (third.core ∙ second.core) ∙ first.lines) reads.word3.fetch

  words_same : words ≡ reads.word0.words
  words_same = four_words words long
      ∙ (λ i. reads.word0.is i ∷ (reads.word1.is ∙ ap (λ (l : List ℕ). slice_index l 1) second.words_are) i ∷ (reads.word2.is ∙ ap (λ (l : List ℕ). slice_index l 2) third.words_are) i
      ∷ (reads.word3.is ∙ ap (λ (l : List ℕ). slice_index l 3) fourth.words_are) i ∷ [])
      ∙ sym (four_words reads.word0.words first.long)

  line_read_once : FreshLine s c line words t d
  line_read_once = record {
    long = long;
    did = subst (λ (l : List ℕ). Did s (loads_of line l) t) (sym words_same) (subst (λ (x : Sight). Did s (loads_of line reads.word0.words) x) (sym (fourth.port ∙ third.port ∙ second.port)) first.did);
    lines = ap (λ (x : Private). x.lines) (fourth.core ∙ third.core ∙ second.core) ∙ first.lines ∙ ap (with_filled_line [] line) (sym words_same);
    out = ap (λ (x : Private). x.out) (fourth.core ∙ third.core ∙ second.core) ∙ first.out;
  }

pub get_call : (me : ℕ) (memory : Memory) (old new : CoreAt) (line : LineAt) (words : List ℕ) → WereStepsOf memory old new → old.core.out ≡ None → length words ≡ 4 → new.core.evictions ≡ old.core.evictions
    → Gets old.port old.core line.core line.line (words ∷ []) new.port new.core → IsLineGot me memory old new line words
get_call me memory old new line words steps empty long same gets =
    let reads = gets.reads in
    let core : new.core ≡ reads.1 = reads.3.1 in
    let once = line_read_once old.port (record old.core { lines = [] }) line words reads.0 reads.1 refl long (ap (λ (x : Private). x.evictions) (sym core) ∙ same) reads.2 in
    let did : Did old.port (loads_of line words) new.port = subst (λ (x : Sight). Did old.port (loads_of line words) x) (sym reads.3.0) once.did in
    let are = loaded_words memory line words (steps (loads_of line words) did) long in
    let said : List Said = say_got me line (line_in memory line) in
    let lines : new.core.lines ≡ with_filled_line [] line (line_in memory line) = ap (λ (x : Private). x.lines) core ∙ once.lines ∙ ap (with_filled_line [] line) are in
    let out : new.core.out ≡ None = ap (λ (x : Private). x.out) core ∙ once.out ∙ empty in
    record {
      call = record {
        events = loads_of line words;
        did = did;
        said = said;
        accesses = λ i. of_rank_all me (loads_of line (sym are i));
        scene = ap (λ (o : Option Out). line_loaded me line (record { memory = after_all memory (stores_of o); lines = old.core.lines; out = None; said = [] ++ say_stores me o })) empty
            ∙ (λ i. record { memory = memory; lines = sym lines i; out = sym out i; said = said });
      };
      same = are;
    }
