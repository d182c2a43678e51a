-- What a fill leaves of a core, whatever the evictor answered.
use Rattle.std.proofs.Common.{◌≡◌, ℕ, suc, ◌≤◌, List, None, Some, ◌∙◌, ap, arith}
use Rattle.scc_base.specs.Places.{LineAt, WordAt}
use Rattle.scc_proto.specs.Ports.{Sight}
use Rattle.line_cache.specs.Lines.{cached_words}
use Rattle.put_get.specs.Cores.{Private, Fills, Kept, Dropped, Fetch, Held, Loaded, ReadsWord}
use Rattle.put_get.proofs.EntryLemmas.{held-filled}

-- the write-combining buffer is left alone
pub fills_out : {c d : Private} {line : LineAt} {words : List ℕ} → Fills c line words d → d.out ≡ c.out
fills_out (Kept given e) = ap (λ (x : Private). x.out) e
fills_out (Dropped at low given e) = ap (λ (x : Private). x.out) e

-- the count of evictions does not fall
pub fills_evictions : {c d : Private} {line : LineAt} {words : List ℕ} → Fills c line words d → c.evictions ≤ d.evictions
fills_evictions {c} {d} (Kept given e) = let same : d.evictions ≡ c.evictions = ap (λ (x : Private). x.evictions) e in omega (arith, same)
fills_evictions {c} {d} (Dropped at low given e) = let more : d.evictions ≡ suc c.evictions = ap (λ (x : Private). x.evictions) e in omega (arith, more)

-- the line stands in the cache where none was evicted
pub fills_held : {c d : Private} {line : LineAt} {words : List ℕ} → Fills c line words d → cached_words c.lines line ≡ None → d.evictions ≡ c.evictions
    → cached_words d.lines line ≡ Some words
fills_held {c} {d} {line} {words} (Kept given e) none same = ap (λ (x : Private). cached_words x.lines line) e ∙ held-filled c.lines line words none
fills_held {c} {d} {line} {words} (Dropped at low given e) none same =
    let more : d.evictions ≡ suc c.evictions = ap (λ (x : Private). x.evictions) e in absurd (omega (arith, more, same))

pub fetch_out : {s t : Sight} {c d : Private} {line : LineAt} {words : List ℕ} → Fetch s c line words t d → d.out ≡ c.out
fetch_out (Held h e f) = ap (λ (x : Private). x.out) f
fetch_out (Loaded h len did fills) = fills_out fills

pub word_out : {s t : Sight} {c d : Private} {p : WordAt} {v : ℕ} → ReadsWord s c p v t d → c.out ≡ None → d.out ≡ None
word_out reads none = fetch_out reads.fetch ∙ none
