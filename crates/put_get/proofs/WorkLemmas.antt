-- How many loads reads cost, whatever is evicted, and that what they give was loaded.
use Rattle.std.proofs.Common.{◌≡◌, ℕ, zero, suc, ◌+◌, ◌*◌, ◌<◌, ◌≤◌, true, cond, ◌&&◌, ◌==◌, List, [], ◌∷◌, ◌++◌, None, is_some, length, refl, sym, ◌∙◌, ap, subst, append_assoc, arith, length-append, slice_index}
use Rattle.std.specs.List.{list_any}
use Rattle.std.proofs.lemmas.Bool.{or_left, or_right, and_from, eq-eqb, cond_both}
use Rattle.std.proofs.lemmas.List.Folds.{list_any-append}
use Rattle.std.proofs.lemmas.List.Sums.{sum_by-append}
use Rattle.scc_base.specs.Places.{LineAt, WordAt, word_of_line}
use Rattle.scc_base.specs.Events.{load_of}
use Rattle.scc_base.specs.declared.events.Event.{Event}
use Rattle.scc_proto.specs.Ports.{Sight, Did}
use Rattle.scc_proto.proofs.PortLaws.{did_nothing, did_both}
use Rattle.line_cache.specs.Lines.{cached_words}
use Rattle.put_get.specs.Accesses.{loads_of}
use Rattle.put_get.specs.Cores.{Private, Fills, Kept, Dropped, Fetch, Held, Loaded, ReadsLine}
use Rattle.put_get.specs.Transfers.{line_at, is_load, load_count, same_word, is_load_of, IsLoaded, IsLineLoaded, AreLoaded, ReadsLines, Gets}
use Rattle.put_get.proofs.FillLemmas.{fills_out}
use Rattle.put_get.proofs.EntryLemmas.{EachEntry, each_held, each_fills, each_weaker, held-filled}

-- what was loaded stays so with more events
pub loaded_more : (es fs : List Event) (p : WordAt) (v : ℕ) → IsLoaded es p v → IsLoaded (es ++ fs) p v
loaded_more es fs p v h =
    list_any-append (is_load_of p v) es fs ∙ or_left (list_any (is_load_of p v) es) (list_any (is_load_of p v) fs) h

loaded_last : (es fs : List Event) (p : WordAt) (v : ℕ) → IsLoaded fs p v → IsLoaded (es ++ fs) p v
loaded_last es fs p v h =
    list_any-append (is_load_of p v) es fs ∙ or_right (list_any (is_load_of p v) es) (list_any (is_load_of p v) fs) h

pub line_loaded_more : (es fs : List Event) (line : LineAt) (words : List ℕ) → IsLineLoaded es line words → IsLineLoaded (es ++ fs) line words
line_loaded_more es fs line words h = λ k below. loaded_more es fs (word_of_line line k) (slice_index words k) (h k below)

is_load_of-same : (p : WordAt) (v : ℕ) → is_load_of p v (load_of p v) ≡ true
is_load_of-same p v =
    and_from (same_word p p) (v == v)
    (and_from (p.core == p.core && p.line == p.line) (p.word == p.word)
    (and_from (p.core == p.core) (p.line == p.line) (eq-eqb p.core p.core refl) (eq-eqb p.line p.line refl))
    (eq-eqb p.word p.word refl))
    (eq-eqb v v refl)

loaded_head : (p : WordAt) (v : ℕ) (es : List Event) → IsLoaded (load_of p v ∷ es) p v
loaded_head p v es = or_left (is_load_of p v (load_of p v)) (list_any (is_load_of p v) es) (is_load_of-same p v)

loaded_tail : (e : Event) (p : WordAt) (v : ℕ) (es : List Event) → IsLoaded es p v → IsLoaded (e ∷ es) p v
loaded_tail e p v es h = or_right (is_load_of p v e) (list_any (is_load_of p v) es) h

-- each word of a line is loaded by the loads of the line
four_loaded : (p0 p1 p2 p3 : WordAt) (v0 v1 v2 v3 : ℕ) → let es = load_of p0 v0 ∷ load_of p1 v1 ∷ load_of p2 v2 ∷ load_of p3 v3 ∷ [] in
    IsLoaded es p0 v0 × IsLoaded es p1 v1 × IsLoaded es p2 v2 × IsLoaded es p3 v3
four_loaded p0 p1 p2 p3 v0 v1 v2 v3 =
    let a = load_of p0 v0 in
    let b = load_of p1 v1 in
    let c = load_of p2 v2 in
    let d = load_of p3 v3 in (
      loaded_head p0 v0 (b ∷ c ∷ d ∷ []),
      loaded_tail a p1 v1 (b ∷ c ∷ d ∷ []) (loaded_head p1 v1 (c ∷ d ∷ [])),
      loaded_tail a p2 v2 (b ∷ c ∷ d ∷ []) (loaded_tail b p2 v2 (c ∷ d ∷ []) (loaded_head p2 v2 (d ∷ []))),
      loaded_tail a p3 v3 (b ∷ c ∷ d ∷ []) (loaded_tail b p3 v3 (c ∷ d ∷ []) (loaded_tail c p3 v3 (d ∷ []) (loaded_head p3 v3 []))),
    )

loads_loaded : (line : LineAt) (words : List ℕ) → IsLineLoaded (loads_of line words) line words
loads_loaded line words k h = by k h
    (four_loaded (word_of_line line 0) (word_of_line line 1) (word_of_line line 2) (word_of_line line 3)
    (slice_index words 0) (slice_index words 1) (slice_index words 2) (slice_index words 3))
  where
    by : (k : ℕ) → k < 4 → let es = loads_of line words in
        IsLoaded es (word_of_line line 0) (slice_index words 0) × IsLoaded es (word_of_line line 1) (slice_index words 1)
        × IsLoaded es (word_of_line line 2) (slice_index words 2) × IsLoaded es (word_of_line line 3) (slice_index words 3)
        → IsLoaded es (word_of_line line k) (slice_index words k)
    by zero h four = four.0
    by (suc zero) h four = four.1
    by (suc (suc zero)) h four = four.2
    by (suc (suc (suc zero))) h four = four.3
    by (suc (suc (suc (suc k)))) h four = absurd (omega arith)

pub load_count-append : (a b : List Event) → load_count (a ++ b) ≡ load_count a + load_count b
load_count-append a b = sum_by-append (λ (e : Event). cond (is_load e.access) 1 0) a b

-- 1 where the line is held
abbrev pub stands : Private → LineAt → ℕ
stands c line = cond (is_some (cached_words c.lines line)) 1 0

-- each entry holds what these events loaded
abbrev pub AllLoaded : List Event → Private → Type 0
AllLoaded events c = EachEntry (IsLineLoaded events) c.lines

-- fetches of one line, one after the other: each eviction pays for four loads, and so does the line that
-- stands in the cache at the end
pub record Spends (s : Sight) (c : Private) (line : LineAt) (t : Sight) (d : Private) : Type 0 where
  pub events : List Event
  pub did : Did s events t
  pub only_loads : load_count events ≡ length events
  pub cost : length events + 4 * stands c line + 4 * c.evictions ≤ 4 * d.evictions + 4 * stands d line
  pub out : d.out ≡ c.out
  pub each : (known : List Event) → AllLoaded known c → AllLoaded (known ++ events) d

-- one fetch, and its words
pub record Fetches (s : Sight) (c : Private) (line : LineAt) (words : List ℕ) (t : Sight) (d : Private) : Type 0 where
  pub spends : Spends s c line t d
  pub words_loaded : (known : List Event) → AllLoaded known c → IsLineLoaded (known ++ spends.events) line words

fills_cost : {c d : Private} {line : LineAt} {words : List ℕ} → cached_words c.lines line ≡ None → Fills c line words d
    → 4 + 4 * stands c line + 4 * c.evictions ≤ 4 * d.evictions + 4 * stands d line
fills_cost {c} {d} {line} {words} h (Kept given e) =
    let before : stands c line ≡ 0 = ap (λ o. cond (is_some o) 1 0) h in
    let after : stands d line ≡ 1 =
    ap (λ (x : Private). stands x line) e ∙ ap (λ o. cond (is_some o) 1 0) (held-filled c.lines line words h) in
    let same : d.evictions ≡ c.evictions = ap (λ (x : Private). x.evictions) e in
    omega arith
fills_cost {c} {d} {line} {words} h (Dropped at k given e) =
    let before : stands c line ≡ 0 = ap (λ o. cond (is_some o) 1 0) h in
    let more : d.evictions ≡ suc c.evictions = ap (λ (x : Private). x.evictions) e in
    omega arith

each_known : (known events : List Event) (c : Private) → AllLoaded known c → AllLoaded (known ++ events) c
each_known known events c a =
    each_weaker (IsLineLoaded known) (IsLineLoaded (known ++ events)) c.lines (λ line words. line_loaded_more known events line words) a

pub fetches : {s t : Sight} {c d : Private} {line : LineAt} {words : List ℕ} → Fetch s c line words t d → Fetches s c line words t d
fetches {s} {t} {c} {d} {line} {words} (Held h e f) =
    subst (λ (x : Sight). Fetches s c line words x d) (sym e)
    (subst (λ (x : Private). Fetches s c line words s x) (sym f)
    (record {
      spends = record {
        events = [];
        did = did_nothing s;
        only_loads = refl;
        cost = omega arith;
        out = refl;
        each = λ known a. each_known known [] c a;
      };
      words_loaded = λ known a. line_loaded_more known [] line words (each_held (IsLineLoaded known) c.lines line words a h);
    }))
fetches {s} {t} {c} {d} {line} {words} (Loaded h len did fills) =
    let last = λ (known : List Event) (k : ℕ) (below : k < 4).
    loaded_last known (loads_of line words) (word_of_line line k) (slice_index words k) (loads_loaded line words k below) in
    record {
      spends = record {
        events = loads_of line words;
        did = did;
        only_loads = refl;
        cost = fills_cost h fills;
        out = fills_out fills;
        each = λ known a. each_fills (IsLineLoaded (known ++ loads_of line words)) fills (each_known known (loads_of line words) c a) (last known);
      };
      words_loaded = λ known a. last known;
    }

pub spends_both : {s m t : Sight} {c e d : Private} {line : LineAt} → (a : Spends s c line m e) (b : Spends m e line t d)
    → (x : Spends s c line t d) × (x.events ≡ a.events ++ b.events)
spends_both {s} {m} {t} {c} {e} {d} {line} a b =
    let x = a.cost in
    let y = b.cost in
    let len : length (a.events ++ b.events) ≡ length a.events + length b.events = length-append a.events b.events in
    let count : load_count (a.events ++ b.events) ≡ load_count a.events + load_count b.events = load_count-append a.events b.events in
    let p = a.only_loads in
    let q = b.only_loads in (
      record {
        events = a.events ++ b.events;
        did = did_both s a.events m b.events t a.did b.did;
        only_loads = omega arith;
        cost = omega arith;
        out = b.out ∙ a.out;
        each = λ known l. subst (λ es. AllLoaded es d) (append_assoc known a.events b.events) (b.each (known ++ a.events) (a.each known l));
      },
      refl,
    )

-- a line was read
pub record SpendsLine (s : Sight) (c : Private) (line : LineAt) (words : List ℕ) (t : Sight) (d : Private) : Type 0 where
  pub spends : Spends s c line t d
  pub words_loaded : (known : List Event) → AllLoaded known c → IsLineLoaded (known ++ spends.events) line words

-- the words that four reads gave, each at its own place
four_words : (es : List Event) (line : LineAt) (words : List ℕ) → IsLoaded es (word_of_line line 0) (slice_index words 0)
    → IsLoaded es (word_of_line line 1) (slice_index words 1) → IsLoaded es (word_of_line line 2) (slice_index words 2)
    → IsLoaded es (word_of_line line 3) (slice_index words 3) → IsLineLoaded es line words
four_words es line words a b c d zero h = a
four_words es line words a b c d (suc zero) h = b
four_words es line words a b c d (suc (suc zero)) h = c
four_words es line words a b c d (suc (suc (suc zero))) h = d
four_words es line words a b c d (suc (suc (suc (suc k)))) h = absurd (omega arith)

-- the word that one read gave
word_loaded : {s t : Sight} {c d : Private} {line : LineAt} {got : List ℕ} (known : List Event) (k v : ℕ) → k < 4 → v ≡ slice_index got k
    → (f : Fetches s c line got t d) → AllLoaded known c → IsLoaded (known ++ f.spends.events) (word_of_line line k) v
word_loaded {line = line} known k v below is f a =
    subst (λ x. IsLoaded (known ++ f.spends.events) (word_of_line line k) x) (sym is) (f.words_loaded known a k below)

regroup : (k a b c d : List Event) → (((k ++ a) ++ b) ++ c) ++ d ≡ k ++ (((a ++ b) ++ c) ++ d)
regroup k a b c d = simp append_assoc

pub spends_line : {s t : Sight} {c d : Private} {line : LineAt} {words : List ℕ} → ReadsLine s c line words t d → SpendsLine s c line words t d
spends_line {s} {t} {c} {d} {line} {words} r =
    let f0 : Fetches s c line r.word0.words r.s1 r.c1 = fetches r.word0.fetch in
    let f1 : Fetches r.s1 r.c1 line r.word1.words r.s2 r.c2 = fetches r.word1.fetch in
    let f2 : Fetches r.s2 r.c2 line r.word2.words r.s3 r.c3 = fetches r.word2.fetch in
    let f3 : Fetches r.s3 r.c3 line r.word3.words t d = fetches r.word3.fetch in
    let e0 = f0.spends.events in
    let e1 = f1.spends.events in
    let e2 = f2.spends.events in
    let e3 = f3.spends.events in
    let two = spends_both f0.spends f1.spends in
    let three = spends_both two.0 f2.spends in
    let four = spends_both three.0 f3.spends in
    let is : four.0.events ≡ ((e0 ++ e1) ++ e2) ++ e3 =
    four.1 ∙ ap (λ es. es ++ e3) (three.1 ∙ ap (λ es. es ++ e2) two.1) in
    record {
      spends = four.0;
      words_loaded = λ known a.
          let a1 = f0.spends.each known a in
          let a2 = f1.spends.each (known ++ e0) a1 in
          let a3 = f2.spends.each ((known ++ e0) ++ e1) a2 in
          let k1 = known ++ e0 in
          let k2 = k1 ++ e1 in
          let k3 = k2 ++ e2 in
          let w0 : IsLoaded k1 (word_of_line line 0) (slice_index words 0) = word_loaded known 0 (slice_index words 0) (omega arith) r.word0.is f0 a in
          let w1 : IsLoaded k2 (word_of_line line 1) (slice_index words 1) = word_loaded k1 1 (slice_index words 1) (omega arith) r.word1.is f1 a1 in
          let w2 : IsLoaded k3 (word_of_line line 2) (slice_index words 2) = word_loaded k2 2 (slice_index words 2) (omega arith) r.word2.is f2 a2 in
          let w3 : IsLoaded (k3 ++ e3) (word_of_line line 3) (slice_index words 3) = word_loaded k3 3 (slice_index words 3) (omega arith) r.word3.is f3 a3 in
          let p0 = word_of_line line 0 in
          let p1 = word_of_line line 1 in
          let p2 = word_of_line line 2 in
          let v0 = slice_index words 0 in
          let v1 = slice_index words 1 in
          let v2 = slice_index words 2 in
          subst (λ es. IsLineLoaded es line words) (regroup known e0 e1 e2 e3 ∙ ap (λ es. known ++ es) (sym is))
          (four_words (k3 ++ e3) line words
          (loaded_more k3 e3 p0 v0 (loaded_more k2 e2 p0 v0 (loaded_more k1 e1 p0 v0 w0)))
          (loaded_more k3 e3 p1 v1 (loaded_more k2 e2 p1 v1 w1)) (loaded_more k3 e3 p2 v2 w2) w3);
    }

-- lines were read, one after the other
pub record SpendsLines (s : Sight) (c : Private) (core line : ℕ) (dst : List (List ℕ)) (t : Sight) (d : Private) : Type 0 where
  pub events : List Event
  pub did : Did s events t
  pub only_loads : load_count events ≡ length events
  pub work : length events + 4 * c.evictions ≤ 4 * d.evictions + 4 * length dst
  pub out : d.out ≡ c.out
  pub loaded : (known : List Event) → AllLoaded known c → AreLoaded (known ++ events) core line dst

pub stands_once : (c : Private) (line : LineAt) → stands c line ≤ 1
stands_once c line = cond_both (is_some (cached_words c.lines line)) 1 0 (λ n. n ≤ 1) (λ t. omega arith) (λ f. omega arith)

pub spends_lines : (dst : List (List ℕ)) (s : Sight) (c : Private) (core line : ℕ) (t : Sight) (d : Private) → ReadsLines s c core line dst t d
    → SpendsLines s c core line dst t d
spends_lines [] s c core line t d r = record {
  events = [];
  did = subst (Did s []) (sym r.0) (did_nothing s);
  only_loads = refl;
  work = let e : d.evictions ≡ c.evictions = ap (λ (x : Private). x.evictions) r.1 in omega arith;
  out = ap (λ (x : Private). x.out) r.1;
  loaded = λ known a. tt;
}
spends_lines (words ∷ rest) s c core line t d r =
    let one = spends_line r.2 in
    let later = spends_lines rest r.0 r.1 core (line + 1) t d r.3 in
    let a = one.spends.events in
    let b = later.events in
    let x = one.spends.cost in
    let y = later.work in
    let z = stands_once r.1 (line_at core line) in
    let len : length (a ++ b) ≡ length a + length b = length-append a b in
    let count : load_count (a ++ b) ≡ load_count a + load_count b = load_count-append a b in
    let p = one.spends.only_loads in
    let q = later.only_loads in
    record {
      events = a ++ b;
      did = did_both s a r.0 b t one.spends.did later.did;
      only_loads = omega arith;
      work = omega arith;
      out = later.out ∙ one.spends.out;
      loaded = λ known l. (
        subst (λ es. IsLineLoaded es (line_at core line) words) (append_assoc known a b)
            (line_loaded_more (known ++ a) b (line_at core line) words (one.words_loaded known l)),
        subst (λ es. AreLoaded es core (line + 1) rest) (append_assoc known a b) (later.loaded (known ++ a) (one.spends.each known l)),
      );
    }

-- what a get comes to
pub gets_from_reads : (s : Sight) (c : Private) (core line : ℕ) (dst : List (List ℕ)) (t : Sight) (d : Private) → ReadsLines s (record c { lines = [] }) core line dst t d
    → Gets s c core line dst t d
gets_from_reads s c core line dst t d r =
    let all = spends_lines dst s (record c { lines = [] }) core line t d r in
    record {
      reads = r;
      events = all.events;
      did = all.did;
      loaded = all.loaded [] tt;
      only_loads = all.only_loads;
      work = all.work;
      out = all.out;
    }
