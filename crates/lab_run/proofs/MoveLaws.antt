-- The calls of a core, as changes of its scene.
use Rattle.std.proofs.Common.{◌≡◌, ℕ, Bool, true, false, if◌then◌else◌, unwrap_or, List, [], ◌∷◌, ◌++◌, slice_index, Option, None, Some, refl, sym, ◌∙◌, ap, subst}
use Rattle.std.proofs.lemmas.List.{append-nil, append_assoc}
use Rattle.scc_base.specs.Places.{LineAt, WordAt, line_of_word, same_line}
use Rattle.scc_base.specs.Setups.{SetupView, host_of}
use Rattle.scc_base.specs.declared.events.Event.{Event}
use Rattle.scc_proto.specs.Permission.{leaves_heap}
use Rattle.scc_proto.specs.Words.{IsRun, zeros}
use Rattle.scc_proto.specs.Ports.{Did, MayMakeAll, record_in}
use Rattle.line_cache.specs.declared.cache.Entry.{Entry}
use Rattle.line_cache.specs.Lines.{IsCache, with_filled_line, cached_words, line_noted}
use Rattle.line_cache.specs.Eviction.{answers_of}
use Rattle.write_combine.specs.declared.combiner.Out.{Out}
use Rattle.write_combine.specs.Combining.{handed_out}
use Rattle.put_get.specs.Accesses.{loads_of, stores_of, stores_of_line, whole_line}
use Rattle.put_get.specs.Cores.{Private, Fetch, Held, Loaded, Flushes, Writes}
use Rattle.put_get.specs.HeapStores.{AwaitsHeap}
use Rattle.put_get.specs.Transfers.{Puts, line_at, put_lines, put_stores}
use Rattle.put_get.proofs.HeapLemmas.{word_awaits}
use Rattle.chip_memory.proofs.ChipLaws.{chip_did}
use Rattle.chip_memory.specs.Chips.{TurnChipView, all_events, of_rank_all, turn_sight}
use Rattle.lab_reader.specs.Places.{IsInHeap}
use Rattle.lab_plain.specs.declared.said.Said.{Said}
use Rattle.lab_plain.specs.declared.said.Said.TheVariants.{Answers, Loads, Stores}
use Rattle.lab_plain.specs.declared.said.Source.{Source}
use Rattle.lab_plain.specs.declared.said.Source.TheVariants.{BufferLine, Cache, Words}
use Rattle.lab_plain.specs.Scenes.{after_answer, waiting_word, word_fetched, word_read, word_read_by, after_invalidate, after_print, say_buffer, say_lines, after_flushing, is_evicted, say_evicted, say_left, word_loaded, lines_after_evictor, line_in, line_stored, say_got, say_stores, line_got, line_loaded, CoreScene, word_written}
use Rattle.lab_run.specs.Evicting.{IsPlaceIn, named_answer}
use Rattle.lab_run.specs.Turns.{MadeHeapAccesses, IsLabSetup, MayGoOn, IsTold, CoreTurned, memory_in, scene_of}
use Rattle.lab_run.proofs.EvictLaws.{Leaves, filled_left}
use Rattle.lab_run.proofs.HeapEvents.{all_did, line_heap, loads_heap, out_heap, quiet, went, words_loaded}
use Rattle.lab_run.proofs.ToldLaws.{left_told, print_told, stores_told, told_both, told_by, told_more, told_none}
use Rattle.lab_run.proofs.TurnLaws.{in_heap, kept_both, kept_none, rank_kept, ready_after}

-- ---- what is permitted

pub may_flush : (c : Private) (s : TurnChipView) → MayGoOn c s → MayMakeAll (turn_sight s).seat (record_in (turn_sight s)) (stores_of c.out)
may_flush c s ready = (quiet (turn_sight s).seat ready.setup.valid (record_in (turn_sight s)) (stores_of c.out) (ap leaves_heap ready.idle) (out_heap s.setup c.out ready.awaits)).may

handed_awaits : (s : SetupView) (out : Option Out) (line : LineAt) → AwaitsHeap s out → AwaitsHeap s (handed_out out line)
handed_awaits s None line awaits = tt
handed_awaits s (Some o) line awaits = by (same_line o.line line)
  where
    by : (b : Bool) → AwaitsHeap s (if b then None else Some o)
    by true = tt
    by false = awaits

pub may_write : (c : Private) (s : TurnChipView) (line : LineAt) → MayGoOn c s → MayMakeAll (turn_sight s).seat (record_in (turn_sight s)) (stores_of (handed_out c.out line))
may_write c s line ready =
    (quiet (turn_sight s).seat ready.setup.valid (record_in (turn_sight s)) (stores_of (handed_out c.out line)) (ap leaves_heap ready.idle) (out_heap s.setup (handed_out c.out line) (handed_awaits s.setup c.out line ready.awaits))).may

pub one_line : (core line : ℕ) (words : List ℕ) → put_stores core line (words ∷ []) ≡ stores_of_line (whole_line (line_at core line) words)
one_line core line words = append-nil (stores_of_line (whole_line (line_at core line) words))

pub may_put : (c : Private) (s : TurnChipView) (line : LineAt) (words : List ℕ) (core first : ℕ) → MayGoOn c s → IsInHeap line → core ≡ line.core → first ≡ line.line
    → MayMakeAll (turn_sight s).seat (record_in (turn_sight s)) (put_stores core first (words ∷ []))
may_put c s line words core first ready heap at_core at_line =
    subst (λ (es : List Event). MayMakeAll (turn_sight s).seat (record_in (turn_sight s)) es) (sym ((λ i. put_stores (at_core i) (at_line i) (words ∷ [])) ∙ one_line line.core line.line words))
    (quiet (turn_sight s).seat ready.setup.valid (record_in (turn_sight s)) (stores_of_line (whole_line line words)) (ap leaves_heap ready.idle) (line_heap s.setup (whole_line line words) (in_heap s.setup line ready.setup heap))).may

-- the core of a line is that of its rank
pub core_of : (s : TurnChipView) (line : LineAt) (r : ℕ) → IsLabSetup s.setup → IsInHeap line → r ≡ line.core → host_of s.setup.hosts r ≡ line.core
core_of s line r lab heap is = ap (host_of s.setup.hosts) is ∙ lab.hosts line.core heap.core_below

-- ---- stores

pub flushed_turn : (c d : Private) (s t : TurnChipView) (said told : List Said) → MayGoOn c s → Flushes (turn_sight s) c (turn_sight t) d → told ≡ said ++ say_stores s.rank c.out
    → CoreTurned (after_flushing s.rank) c s said d t told
flushed_turn c d s t said told ready flushes prints =
    let w = went s t (stores_of c.out) ready.setup.valid ready.idle (out_heap s.setup c.out ready.awaits) flushes.did in
    record {
      scene = λ i. record { memory = w.memory i; lines = (flushes.is i).lines; out = (flushes.is i).out; said = prints i };
      ready = ready_after c d s t ready w.kept (subst (λ (x : Private). AwaitsHeap s.setup x.out) (sym flushes.is) tt);
      kept = w.kept;
      tells = told_by s t (stores_of c.out) said (say_stores s.rank c.out) told flushes.did prints (stores_told s.rank c.out);
    }

pub written_turn : (c d : Private) (s t : TurnChipView) (p : WordAt) (v : ℕ) (said told : List Said) → MayGoOn c s → IsInHeap (line_of_word p) → Writes (turn_sight s) c p v (turn_sight t) d
    → told ≡ said ++ say_stores s.rank (handed_out c.out (line_of_word p)) → CoreTurned (word_written s.rank p v) c s said d t told
written_turn c d s t p v said told ready heap writes prints =
    let w = went s t (stores_of (handed_out c.out (line_of_word p))) ready.setup.valid ready.idle (out_heap s.setup (handed_out c.out (line_of_word p)) (handed_awaits s.setup c.out (line_of_word p) ready.awaits)) writes.did in
    record {
      scene = λ i. record { memory = w.memory i; lines = (writes.is i).lines; out = (writes.is i).out; said = prints i };
      ready = ready_after c d s t ready w.kept (subst (λ (x : Private). AwaitsHeap s.setup x.out) (sym writes.is) (word_awaits s.setup c.out p v ready.awaits (in_heap s.setup (line_of_word p) ready.setup heap)));
      kept = w.kept;
      tells = told_by s t (stores_of (handed_out c.out (line_of_word p))) said (say_stores s.rank (handed_out c.out (line_of_word p))) told writes.did prints
          (stores_told s.rank (handed_out c.out (line_of_word p)));
    }

pub put_turn : (c d : Private) (s t : TurnChipView) (line : LineAt) (words : List ℕ) (core first : ℕ) (said told : List Said) → MayGoOn c s → IsInHeap line → core ≡ line.core → first ≡ line.line
    → Puts (turn_sight s) c core first (words ∷ []) (turn_sight t) d
    → told ≡ said ++ Stores s.rank line words (true ∷ true ∷ true ∷ true ∷ []) ∷ [] → CoreTurned (line_stored s.rank line words) c s said d t told
put_turn c d s t line words core first said told ready heap at_core at_line puts prints =
    let same : put_stores core first (words ∷ []) ≡ stores_of_line (whole_line line words) = (λ i. put_stores (at_core i) (at_line i) (words ∷ [])) ∙ one_line line.core line.line words in
    let did : Did (turn_sight s) (stores_of_line (whole_line line words)) (turn_sight t) = subst (λ (es : List Event). Did (turn_sight s) es (turn_sight t)) same puts.did in
    let is : d ≡ record c { lines = line_noted c.lines line words } = puts.is ∙ (λ i. record c { lines = put_lines c.lines (at_core i) (at_line i) (words ∷ []) }) in
    let w = went s t (stores_of_line (whole_line line words)) ready.setup.valid ready.idle (line_heap s.setup (whole_line line words) (in_heap s.setup line ready.setup heap)) did in
    record {
      scene = λ i. record { memory = w.memory i; lines = (is i).lines; out = (is i).out; said = prints i };
      ready = ready_after c d s t ready w.kept (subst (λ (x : Private). AwaitsHeap s.setup x.out) (sym is) ready.awaits);
      kept = w.kept;
      tells = told_by s t (stores_of_line (whole_line line words)) said (Stores s.rank line words (true ∷ true ∷ true ∷ true ∷ []) ∷ []) told did prints
          (append-nil (of_rank_all s.rank (stores_of_line (whole_line line words))));
    }

-- ---- loads

-- a line that was not cached was fetched
pub record LoadedLine (evict : Option LineAt) (at : Option ℕ) (c : Private) (s : TurnChipView) (line : LineAt) (words : List ℕ) (d : Private) (t : TurnChipView) : Type 0 where
  pub same : words ≡ line_in (memory_in s) line
  pub leaves : Leaves evict (with_filled_line c.lines line (line_in (memory_in s) line)) at d.lines
  pub memory : memory_in t ≡ memory_in s
  pub makes : all_events t ≡ all_events s ++ of_rank_all s.rank (loads_of line words)
  pub out : d.out ≡ c.out
  pub ready : MayGoOn d t
  pub kept : MadeHeapAccesses s t

no_words : {P : Type 0} (o : Option (List ℕ)) (words : List ℕ) → o ≡ None → o ≡ Some words → P
no_words o words none some = absurd (cc (none, some))

-- (the core was given an evictor that names one place)
pub loaded_line : (evict : Option LineAt) (at : Option ℕ) (c e d : Private) (s t : TurnChipView) (line : LineAt) (words : List ℕ) → MayGoOn c s → IsInHeap line → IsCache c.lines → cached_words c.lines line ≡ None
    → ((came : List ℕ) → IsPlaceIn evict (with_filled_line c.lines line came) at)
    → e ≡ record c { evictions = 0; asked = None; answers = answers_of (named_answer (record { at = at; count = 0 })) }
    → Fetch (turn_sight s) e line words (turn_sight t) d → IsRun zeros (all_events t) → LoadedLine evict at c s line words d t
loaded_line evict at c e d s t line words ready heap cache new place given (Held found same is) run =
    no_words (cached_words c.lines line) words new (sym (ap (λ (x : Private). cached_words x.lines line) given) ∙ found)
loaded_line evict at c e d s t line words ready heap cache new place given (Loaded none long did fills) run =
    let line_heap = in_heap s.setup line ready.setup heap in
    let w = went s t (loads_of line words) ready.setup.valid ready.idle (loads_heap s.setup line words line_heap) did in
    let is = words_loaded s t line words did run long in
    let lines : e.lines ≡ c.lines = ap (λ (x : Private). x.lines) given in
    let left = filled_left evict at e line words d (subst (λ (l : List Entry). IsCache l) (sym lines) cache) (ap (λ (l : List Entry). cached_words l line) lines ∙ new)
    (subst (λ (l : List Entry). IsPlaceIn evict (with_filled_line l line words) at) (sym lines) (place words)) (ap (λ (x : Private). x.answers) given) fills in
    let out : d.out ≡ c.out = left.1 ∙ ap (λ (x : Private). x.out) given in
    record {
      same = is;
      leaves = subst (λ (l : List Entry). Leaves evict l at d.lines) (λ i. with_filled_line (lines i) line (is i)) left.0;
      memory = w.memory;
      makes = all_did s t (loads_of line words) did;
      out = out;
      ready = ready_after c d s t ready w.kept (subst (λ (o : Option Out). AwaitsHeap s.setup o) (sym out) ready.awaits);
      kept = w.kept;
    }

-- a fetch of a cached line makes no access
pub fetched_there : (c d : Private) (s t : TurnChipView) (line : LineAt) (words kept : List ℕ) → cached_words c.lines line ≡ Some kept → Fetch (turn_sight s) c line words (turn_sight t) d
    → (words ≡ kept) × (t ≡ s) × (d ≡ c)
fetched_there c d s t line words kept found (Held now same is) = (some_one kept words (sym now ∙ found), sight_one s t same, is)
  where
    some_one : (a b : List ℕ) → Some b ≡ Some a → b ≡ a
    some_one a b is = ap (λ (o : Option (List ℕ)). unwrap_or o a) is

    sight_one : (a b : TurnChipView) → turn_sight b ≡ turn_sight a → b ≡ a
    sight_one a b same = chip_did a b [] (record { continues = same ∙ (λ i. record (turn_sight a) { events = sym (append-nil (turn_sight a).events) i }); made = tt }) ∙ (λ i. record a { own = append-nil a.own i })
fetched_there c d s t line words kept found (Loaded none long did fills) = no_words (cached_words c.lines line) kept none found

-- ---- a get

-- a line was loaded into an empty cache, after a flush
pub got_turn : (c m d : Private) (s q t : TurnChipView) (said told end : List Said) (line : LineAt) (words : List ℕ) → CoreTurned (after_flushing s.rank) c s said m q told
    → words ≡ line_in (memory_in q) line → d.lines ≡ with_filled_line [] line (line_in (memory_in q) line) → memory_in t ≡ memory_in q → d.out ≡ None → MayGoOn d t → MadeHeapAccesses q t
    → all_events t ≡ all_events q ++ of_rank_all q.rank (loads_of line words)
    → end ≡ told ++ say_got q.rank line words → CoreTurned (line_got s.rank line) c s said d t end
got_turn c m d s q t said told end line words first same lines memory out ready kept makes prints =
    let empty : m.out ≡ None = ap (λ (x : CoreScene). x.out) first.scene in
    let rank = rank_kept s q first.kept in
    let loaded : scene_of d t end ≡ line_loaded s.rank line (scene_of m q told)
    = λ i. record { memory = memory i; lines = lines i; out = (out ∙ sym empty) i; said = (prints ∙ (λ j. told ++ say_got (rank j) line (same j))) i } in
    record {
      scene = loaded ∙ ap (line_loaded s.rank line) first.scene;
      ready = ready;
      kept = kept_both s q t first.kept kept;
      tells = told_both s q t said told end first.tells (record { more = say_got q.rank line words; prints = prints; makes = makes });
    }

-- ---- a read of a word whose line is not cached

said_three : (said : List Said) (a b : Said) (rest : List Said) → said ++ a ∷ [] ++ b ∷ [] ++ rest ≡ said ++ (a ∷ b ∷ rest)
said_three said a b rest = append_assoc (said ++ a ∷ []) (b ∷ []) rest ∙ append_assoc said (a ∷ []) (b ∷ rest)

pub loaded_turn : (evict : Option LineAt) (c d : Private) (s t : TurnChipView) (p : WordAt) (line : LineAt) (words : List ℕ) (left : Bool) (said end : List Said) → line ≡ line_of_word p
    → words ≡ line_in (memory_in s) line → left ≡ is_evicted evict (with_filled_line c.lines line (line_in (memory_in s) line)) → d.lines ≡ lines_after_evictor evict (with_filled_line c.lines line (line_in (memory_in s) line))
    → memory_in t ≡ memory_in s → d.out ≡ c.out → MayGoOn d t → MadeHeapAccesses s t
    → all_events t ≡ all_events s ++ of_rank_all s.rank (loads_of line words)
    → end ≡ said ++ Loads t.rank line words ∷ [] ++ Answers p (slice_index words p.word) Words ∷ [] ++ say_left evict left
    → CoreTurned (word_loaded s.rank p evict) c s said d t end
loaded_turn evict c d s t p line words left said end at same gone lines memory out ready kept makes prints =
    let rank = rank_kept s t kept in
    let told : end ≡ said ++ (Loads s.rank (line_of_word p) (line_in (memory_in s) (line_of_word p)) ∷ Answers p (slice_index (line_in (memory_in s) (line_of_word p)) p.word) Words
    ∷ say_evicted evict (with_filled_line c.lines (line_of_word p) (line_in (memory_in s) (line_of_word p))))
    = prints ∙ said_three said (Loads t.rank line words) (Answers p (slice_index words p.word) Words) (say_left evict left)
    ∙ (λ i. said ++ (Loads (rank i) line (same i) ∷ Answers p (slice_index (same i) p.word) Words ∷ say_left evict (gone i)))
    ∙ (λ i. said ++ (Loads s.rank (at i) (line_in (memory_in s) (at i)) ∷ Answers p (slice_index (line_in (memory_in s) (at i)) p.word) Words ∷ say_evicted evict (with_filled_line c.lines (at i) (line_in (memory_in s) (at i))))) in
    let there = line_in (memory_in s) (line_of_word p) in
    let came = lines ∙ (λ i. lines_after_evictor evict (with_filled_line c.lines (at i) (line_in (memory_in s) (at i)))) in
    record {
      scene = λ i. record { memory = memory i; lines = came i; out = out i; said = told i };
      ready = ready;
      kept = kept;
      tells = record {
        more = Loads s.rank (line_of_word p) there ∷ Answers p (slice_index there p.word) Words ∷ say_evicted evict (with_filled_line c.lines (line_of_word p) there);
        prints = told;
        makes = makes ∙ (λ i. all_events s ++ of_rank_all s.rank (loads_of line (same i))) ∙ (λ i. all_events s ++ of_rank_all s.rank (loads_of (at i) (line_in (memory_in s) (at i))))
            ∙ (λ i. all_events s ++ (of_rank_all s.rank (loads_of (line_of_word p) there) ++ sym (left_told evict (is_evicted evict (with_filled_line c.lines (line_of_word p) there))) i));
      };
    }

-- a read of what the core holds makes no access and only prints its answer
pub answered_turn : (c : Private) (s : TurnChipView) (p : WordAt) (v : ℕ) (from : Source) (said end : List Said) → MayGoOn c s → end ≡ said ++ Answers p v from ∷ [] → CoreTurned (after_answer p v from) c s said c s end
answered_turn c s p v from said end ready prints = record { scene = λ i. record { memory = memory_in s; lines = c.lines; out = c.out; said = prints i }; ready = ready; kept = kept_none s; tells = told_more s said (Answers p v from ∷ []) end prints refl }

-- ---- what holds nothing of the shared words

pub invalidated_turn : (c d : Private) (s : TurnChipView) (said : List Said) → MayGoOn c s → d ≡ record c { lines = [] } → CoreTurned after_invalidate c s said d s said
invalidated_turn c d s said ready is = record {
  scene = λ i. record { memory = memory_in s; lines = (is i).lines; out = (is i).out; said = said };
  ready = ready_after c d s s ready (kept_none s) (subst (λ (x : Private). AwaitsHeap s.setup x.out) (sym is) ready.awaits);
  kept = kept_none s;
  tells = told_none s said;
}

pub printed_turn : (me : ℕ) (c : Private) (s : TurnChipView) (said end : List Said) → MayGoOn c s → end ≡ said ++ say_lines me c.lines ++ say_buffer me c.out → CoreTurned (after_print me) c s said c s end
printed_turn me c s said end ready prints = record {
  scene = λ i. record { memory = memory_in s; lines = c.lines; out = c.out; said = prints i };
  ready = ready;
  kept = kept_none s;
  tells = told_more s said (say_lines me c.lines ++ say_buffer me c.out) end (prints ∙ append_assoc said (say_lines me c.lines) (say_buffer me c.out)) (print_told me c.lines c.out);
}

pub nothing_turn : (c : Private) (s : TurnChipView) (said : List Said) → MayGoOn c s → CoreTurned (λ x. x) c s said c s said
nothing_turn c s said ready = record { scene = refl; ready = ready; kept = kept_none s; tells = told_none s said }

-- ---- reads of what the core holds

-- a read of a word whose line is cached
pub cached_turn : (c d : Private) (s t : TurnChipView) (p : WordAt) (evict : Option LineAt) (words kept : List ℕ) (said end : List Said) → MayGoOn c s → cached_words c.lines (line_of_word p) ≡ Some kept
    → Fetch (turn_sight s) c (line_of_word p) words (turn_sight t) d → end ≡ said ++ Answers p (slice_index words p.word) Cache ∷ []
    → CoreTurned (λ x. word_fetched s.rank p evict x (cached_words x.lines (line_of_word p))) c s said d t end
cached_turn c d s t p evict words kept said end ready found fetch prints =
    let f = fetched_there c d s t (line_of_word p) words kept found fetch in
    record {
      scene = (λ i. scene_of (f.2 i) (f.1 i) ((prints ∙ (λ j. said ++ Answers p (slice_index (f.0 j) p.word) Cache ∷ [])) i)) ∙ sym (ap (word_fetched s.rank p evict (scene_of c s said)) found);
      ready = subst (λ (x : TurnChipView). MayGoOn d x) (sym f.1) (subst (λ (x : Private). MayGoOn x s) (sym f.2) ready);
      kept = subst (λ (x : TurnChipView). MadeHeapAccesses s x) (sym f.1) (kept_none s);
      tells = subst (λ (x : TurnChipView). IsTold s said x end) (sym f.1) (told_more s said (Answers p (slice_index words p.word) Cache ∷ []) end prints refl);
    }

-- the value that such a read returns
pub cached_answer : (c d : Private) (s t : TurnChipView) (p : WordAt) (words kept other : List ℕ) → cached_words c.lines (line_of_word p) ≡ Some kept → Fetch (turn_sight s) c (line_of_word p) words (turn_sight t) d
    → slice_index words p.word ≡ slice_index (unwrap_or (cached_words c.lines (line_of_word p)) other) p.word
cached_answer c d s t p words kept other found fetch =
    ap (λ (l : List ℕ). slice_index l p.word) (fetched_there c d s t (line_of_word p) words kept found fetch).0 ∙ sym (ap (λ (o : Option (List ℕ)). slice_index (unwrap_or o other) p.word) found)

-- a read of a word that is in the buffer
pub buffered_turn : (c : Private) (s : TurnChipView) (p : WordAt) (evict : Option LineAt) (v : ℕ) (said end : List Said) → MayGoOn c s → Some v ≡ waiting_word c.out p
    → end ≡ said ++ Answers p v BufferLine ∷ [] → CoreTurned (word_read s.rank p evict) c s said c s end
buffered_turn c s p evict v said end ready waits prints = record {
  scene = (λ i. scene_of c s (prints i)) ∙ ap (word_read_by s.rank p evict (scene_of c s said)) waits;
  ready = ready;
  kept = kept_none s;
  tells = told_more s said (Answers p v BufferLine ∷ []) end prints refl;
}

-- a read of a word that is not in the buffer
pub unbuffered_turn : (c d : Private) (s t : TurnChipView) (p : WordAt) (evict : Option LineAt) (said end : List Said) → None ≡ waiting_word c.out p
    → CoreTurned (λ x. word_fetched s.rank p evict x (cached_words x.lines (line_of_word p))) c s said d t end → CoreTurned (word_read s.rank p evict) c s said d t end
unbuffered_turn c d s t p evict said end waits turned = record {
  scene = turned.scene ∙ ap (word_read_by s.rank p evict (scene_of c s said)) waits;
  ready = turned.ready;
  kept = turned.kept;
  tells = turned.tells;
}
