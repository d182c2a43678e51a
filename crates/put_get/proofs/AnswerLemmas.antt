-- Each entry of a cache holds what the core knows since its last invalidation.
use Rattle.std.proofs.Common.{◌≡◌, ◌≢◌, ℕ, zero, suc, ◌<◌, true, ◌&&◌, ◌==◌, List, [], ◌∷◌, ◌++◌, length, set, refl, sym, ◌∙◌, ap, subst, ◌⊎◌, inl, inr, arith, slice_index, get_or-set_other, get_or-set_same}
use Rattle.std.specs.List.{list_any}
use Rattle.std.proofs.lemmas.Bool.{or_left, or_right, and_from, cond_both, cases_eq, eq-eqb}
use Rattle.std.proofs.lemmas.List.{length-set}
use Rattle.std.proofs.lemmas.List.Folds.{list_any-append}
use Rattle.scc_base.specs.Places.{LineAt, WordAt, word_of_line, line_of_word, same_line}
use Rattle.scc_base.specs.Events.{load_of, store_of}
use Rattle.scc_base.specs.declared.events.Event.{Event}
use Rattle.scc_proto.specs.Ports.{Sight, Did}
use Rattle.line_cache.specs.declared.cache.Entry.{Entry}
use Rattle.line_cache.specs.Lines.{lines_with_word}
use Rattle.put_get.specs.Accesses.{loads_of}
use Rattle.put_get.specs.Cores.{Private, Fetch, Held, Loaded}
use Rattle.put_get.specs.Transfers.{same_word, load_count}
use Rattle.put_get.specs.Answers.{tells, IsValueKnown, Since, Invalidated, HasRead, HasWritten, HasFlushed, AnswersLaw, LineCostLaw}
use Rattle.put_get.proofs.StepLemmas.{events_once}
use Rattle.put_get.proofs.EntryLemmas.{EachEntry, each_held, each_fills, each_weaker, same_line-true}
use Rattle.put_get.proofs.WorkLemmas.{spends_line, stands_once}

-- four words, each of them known
pub record IsLineKnown (known : List Event) (line : LineAt) (words : List ℕ) : Type 0 where
  pub four : length words ≡ 4
  pub each : (k : ℕ) → k < 4 → IsValueKnown known (word_of_line line k) (slice_index words k)

abbrev pub AllKnown : List Event → Private → Type 0
AllKnown known c = EachEntry (IsLineKnown known) c.lines

pub known_more : (es fs : List Event) (p : WordAt) (v : ℕ) → IsValueKnown es p v → IsValueKnown (es ++ fs) p v
known_more es fs p v h =
    list_any-append (tells p v) es fs ∙ or_left (list_any (tells p v) es) (list_any (tells p v) fs) h

known_last : (es fs : List Event) (p : WordAt) (v : ℕ) → IsValueKnown fs p v → IsValueKnown (es ++ fs) p v
known_last es fs p v h =
    list_any-append (tells p v) es fs ∙ or_right (list_any (tells p v) es) (list_any (tells p v) fs) h

same_word-refl : (p : WordAt) → same_word p p ≡ true
same_word-refl p =
    and_from (p.core == p.core && p.line == p.line) (p.word == p.word)
    (and_from (p.core == p.core) (p.line == p.line) (eq-eqb p.core p.core refl) (eq-eqb p.line p.line refl))
    (eq-eqb p.word p.word refl)

tells-load : (p : WordAt) (v : ℕ) → tells p v (load_of p v) ≡ true
tells-load p v = and_from (same_word p p) (v == v) (same_word-refl p) (eq-eqb v v refl)

tells-store : (p : WordAt) (v : ℕ) → tells p v (store_of p v) ≡ true
tells-store p v = and_from (same_word p p) (v == v) (same_word-refl p) (eq-eqb v v refl)

known_head : (p : WordAt) (v : ℕ) (e : Event) (es : List Event) → tells p v e ≡ true → IsValueKnown (e ∷ es) p v
known_head p v e es h = or_left (tells p v e) (list_any (tells p v) es) h

known_tail : (p : WordAt) (v : ℕ) (e : Event) (es : List Event) → IsValueKnown es p v → IsValueKnown (e ∷ es) p v
known_tail p v e es h = or_right (tells p v e) (list_any (tells p v) es) h

loads_known : (line : LineAt) (words : List ℕ) (k : ℕ) → k < 4 → IsValueKnown (loads_of line words) (word_of_line line k) (slice_index words k)
loads_known line words zero h =
    let p = word_of_line line 0 in
    let v = slice_index words 0 in
    let b = load_of (word_of_line line 1) (slice_index words 1) in
    let c = load_of (word_of_line line 2) (slice_index words 2) in
    let d = load_of (word_of_line line 3) (slice_index words 3) in
    known_head p v (load_of p v) (b ∷ c ∷ d ∷ []) (tells-load p v)
loads_known line words (suc zero) h =
    let p = word_of_line line 1 in
    let v = slice_index words 1 in
    let a = load_of (word_of_line line 0) (slice_index words 0) in
    let c = load_of (word_of_line line 2) (slice_index words 2) in
    let d = load_of (word_of_line line 3) (slice_index words 3) in
    known_tail p v a (load_of p v ∷ c ∷ d ∷ []) (known_head p v (load_of p v) (c ∷ d ∷ []) (tells-load p v))
loads_known line words (suc (suc zero)) h =
    let p = word_of_line line 2 in
    let v = slice_index words 2 in
    let a = load_of (word_of_line line 0) (slice_index words 0) in
    let b = load_of (word_of_line line 1) (slice_index words 1) in
    let d = load_of (word_of_line line 3) (slice_index words 3) in
    known_tail p v a (b ∷ load_of p v ∷ d ∷ [])
    (known_tail p v b (load_of p v ∷ d ∷ []) (known_head p v (load_of p v) (d ∷ []) (tells-load p v)))
loads_known line words (suc (suc (suc zero))) h =
    let p = word_of_line line 3 in
    let v = slice_index words 3 in
    let a = load_of (word_of_line line 0) (slice_index words 0) in
    let b = load_of (word_of_line line 1) (slice_index words 1) in
    let c = load_of (word_of_line line 2) (slice_index words 2) in
    known_tail p v a (b ∷ c ∷ load_of p v ∷ [])
    (known_tail p v b (c ∷ load_of p v ∷ []) (known_tail p v c (load_of p v ∷ []) (known_head p v (load_of p v) [] (tells-load p v))))
loads_known line words (suc (suc (suc (suc k)))) h = absurd (omega arith)

line_known_more : (es fs : List Event) (line : LineAt) (words : List ℕ) → IsLineKnown es line words → IsLineKnown (es ++ fs) line words
line_known_more es fs line words a = record {
  four = a.four;
  each = λ k h. known_more es fs (word_of_line line k) (slice_index words k) (a.each k h);
}

all_known_more : (es fs : List Event) (c : Private) → AllKnown es c → AllKnown (es ++ fs) c
all_known_more es fs c a = each_weaker (IsLineKnown es) (IsLineKnown (es ++ fs)) c.lines (line_known_more es fs) a

-- a read leaves each entry known, and its answer
pub fetch_known : (known es : List Event) {s t : Sight} {c d : Private} {line : LineAt} {words : List ℕ} → AllKnown known c
    → Fetch s c line words t d → Did s es t → AllKnown (known ++ es) d × IsLineKnown (known ++ es) line words
fetch_known known es {s} {t} {c} {d} {line} {words} a (Held h e f) did = (
  subst (AllKnown (known ++ es)) (sym f) (all_known_more known es c a),
  line_known_more known es line words (each_held (IsLineKnown known) c.lines line words a h),
)
fetch_known known es {s} {t} {c} {d} {line} {words} a (Loaded h len loads fills) did =
    let is : loads_of line words ≡ es = events_once s t (loads_of line words) es loads did in
    let last : IsLineKnown (known ++ loads_of line words) line words = record {
      four = len;
      each = λ k below. known_last known (loads_of line words) (word_of_line line k) (slice_index words k) (loads_known line words k below);
    } in (
      subst (λ xs. AllKnown (known ++ xs) d) is
          (each_fills (IsLineKnown (known ++ loads_of line words)) fills (all_known_more known (loads_of line words) c a) last),
      subst (λ xs. IsLineKnown (known ++ xs) line words) is last,
    )

word_written : (known : List Event) (p : WordAt) (v : ℕ) (words : List ℕ) → p.word < 4 → IsLineKnown known (line_of_word p) words
    → IsLineKnown (known ++ store_of p v ∷ []) (line_of_word p) (set words p.word v)
word_written known p v words below a =
    let four = a.four in
    let len : length (set words p.word v) ≡ 4 = length-set words p.word v ∙ four in
    record { four = len; each = λ k h. by k h (cases_eq k p.word) }
  where
    by : (k : ℕ) → k < 4 → (k ≡ p.word) ⊎ (k ≡ p.word → ⊥)
        → IsValueKnown (known ++ store_of p v ∷ []) (word_of_line (line_of_word p) k) (slice_index (set words p.word v) k)
    by k h (inl e) =
        let four = a.four in
        let within : p.word < length words = omega arith in
        let same : slice_index (set words p.word v) p.word ≡ v = rw get_or-set_same refl in
        subst (λ j. IsValueKnown (known ++ store_of p v ∷ []) (word_of_line (line_of_word p) j) (slice_index (set words p.word v) j)) (sym e)
        (subst (λ x. IsValueKnown (known ++ store_of p v ∷ []) p x) (sym same)
        (known_last known (store_of p v ∷ []) p v (known_head p v (store_of p v) [] (tells-store p v))))
    by k h (inr ne) =
        let other : k ≢ p.word = ne in
        let same : slice_index (set words p.word v) k ≡ slice_index words k = rw get_or-set_other refl in
        subst (λ x. IsValueKnown (known ++ store_of p v ∷ []) (word_of_line (line_of_word p) k) x) (sym same)
        (known_more known (store_of p v ∷ []) (word_of_line (line_of_word p) k) (slice_index words k) (a.each k h))

noted_known : (known : List Event) (p : WordAt) (v : ℕ) (es : List Entry) → p.word < 4 → EachEntry (IsLineKnown known) es
    → EachEntry (IsLineKnown (known ++ store_of p v ∷ [])) (lines_with_word es p v)
noted_known known p v [] below a = tt
noted_known known p v (e ∷ es) below a = (
  cond_both (same_line e.line (line_of_word p)) (record { line = e.line; words = set e.words p.word v }) e
      (λ x. IsLineKnown (known ++ store_of p v ∷ []) x.line x.words)
      (λ t. let same = same_line-true e.line (line_of_word p) t in
      subst (λ l. IsLineKnown (known ++ store_of p v ∷ []) l (set e.words p.word v)) (sym same)
      (word_written known p v e.words below (subst (λ l. IsLineKnown known l e.words) same a.0)))
      (λ f. line_known_more known (store_of p v ∷ []) e.line e.words a.0),
  noted_known known p v es below a.1,
)

pub since_known : (known : List Event) (c : Private) → Since known c → AllKnown known c
since_known known c (Invalidated x e) = subst (EachEntry (IsLineKnown [])) (sym e) tt
since_known known c (HasRead before b since s t d p v es reads did) =
    (fetch_known before es (since_known before b since) reads.fetch did).0
since_known known c (HasWritten before b since s t d p v below writes) =
    subst (AllKnown (before ++ store_of p v ∷ [])) (sym writes.is) (noted_known before p v b.lines below (since_known before b since))
since_known known c (HasFlushed before b since s t d flushes) =
    subst (AllKnown before) (sym flushes.is) (since_known before b since)

pub answers : AnswersLaw
answers known es c d s t p v since below reads did =
    let line = (fetch_known known es (since_known known c since) reads.fetch did).1 in
    subst (λ x. IsValueKnown (known ++ es) p x) (sym reads.is) (line.each p.word below)

pub line_cost : LineCostLaw
line_cost es c d s t line words reads did =
    let spent = (spends_line reads).spends in
    let is : spent.events ≡ es = events_once s t spent.events es spent.did did in
    let loads : load_count es ≡ length spent.events = ap load_count (sym is) ∙ spent.only_loads in
    let cost = spent.cost in
    let once = stands_once d line in
    omega arith
