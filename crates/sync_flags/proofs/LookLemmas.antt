-- LooksAtLine: a read from an empty cache is a look, and looks in a row.
use Rattle.std.proofs.Common.{◌≡◌, ℕ, ◌+◌, Bool, true, false, List, [], ◌∷◌, ◌++◌, Option, None, Some, slice_index, refl, sym, ◌∙◌, ap, subst, length-append}
use mathlib.Core.Bool.{beq}
use Rattle.scc_base.specs.Places.{WordAt, LineAt, line_of_word}
use Rattle.scc_proto.specs.Ports.{Sight, Did}
use Rattle.scc_proto.proofs.PortLaws.{did_nothing, did_both}
use Rattle.line_cache.specs.Lines.{cached_words}
use Rattle.put_get.proofs.FillLemmas.{fills_held}
use Rattle.put_get.specs.Accesses.{loads_of}
use Rattle.put_get.specs.Cores.{Private, Fills, Fetch, Held, Loaded, ReadsWord}
use Rattle.sync_flags.specs.Flags.{is_set_in}
use Rattle.sync_flags.specs.Tries.{is_unwanted}
use Rattle.sync_flags.specs.Looks.{LooksAtLine, LooksAt, ReadsFlag, LooksAll, looks_of, HaveFailed, LooksFailed}

-- nothing is held in an empty cache, so a fetch loads
pub fetch_looks : {s t : Sight} {c1 d : Private} {line : LineAt} {words : List ℕ} → Fetch s c1 line words t d → (c : Private)
    → c1 ≡ record c { lines = [] } → LooksAtLine s c line words t d
fetch_looks {line = line} {words = words} (Held h e f) c empty = let none : None ≡ Some words = sym (ap (λ (x : Private). cached_words x.lines line) empty) ∙ h in absurd (cc)
fetch_looks {d = d} {line = line} {words = words} (Loaded h len did fills) c empty =
    let now = subst (λ (x : Private). Fills x line words d) empty fills in
    record { did = did; fills = now; held = fills_held now refl }

pub word_looks : {s t : Sight} {c1 d : Private} {p : WordAt} {v : ℕ} → ReadsWord s c1 p v t d → (c : Private) → c1 ≡ record c { lines = [] } → LooksAt s c p v t d
word_looks r c empty = record { words = r.words; looks = fetch_looks r.fetch c empty; is = r.is }

pub flag_looks : {s t : Sight} {c d : Private} {p : WordAt} {v : ℕ} → LooksAt s c p v t d → (place : WordAt) (bit : Option ℕ) (found : Bool)
    → p ≡ place → found ≡ is_set_in bit v → ReadsFlag s c place bit found t d
flag_looks {s} {t} {c} {d} r place bit found at is =
    subst (λ (x : WordAt). ReadsFlag s c x bit found t d) at
    (record { words = r.words; looks = r.looks; is = is ∙ ap (λ (x : ℕ). is_set_in bit x) r.is })

pub reads_there : {s t : Sight} {c d : Private} {p : WordAt} {b : Option ℕ} {found : Bool} → ReadsFlag s c p b found t d → (place : WordAt) (bit : Option ℕ)
    → p ≡ place → b ≡ bit → ReadsFlag s c place bit found t d
reads_there {s} {t} {c} {d} {p} {found = found} r place bit at is =
    subst (λ (x : WordAt). ReadsFlag s c x bit found t d) at (subst (λ (o : Option ℕ). ReadsFlag s c p o found t d) is r)

pub looks_did : (s : Sight) (c : Private) (line : LineAt) (looks : List (List ℕ)) (t : Sight) (d : Private) → LooksAll s c line looks t d
    → Did s (looks_of line looks) t
looks_did s c line [] t d all = subst (λ (x : Sight). Did s [] x) (sym all.0) (did_nothing s)
looks_did s c line (words ∷ rest) t d all =
    did_both s (loads_of line words) all.0 (looks_of line rest) t all.2.did (looks_did all.0 all.1 line rest t d all.3)

-- one look more
pub looks_more : (s : Sight) (c : Private) (line : LineAt) (looks : List (List ℕ)) (m : Sight) (b : Private) (words : List ℕ) (t : Sight) (d : Private)
    → LooksAll s c line looks m b → LooksAtLine m b line words t d → LooksAll s c line (looks ++ words ∷ []) t d
looks_more s c line [] m b words t d all one =
    (t, d, subst (λ (x : Private). LooksAtLine s x line words t d) all.1 (subst (λ (x : Sight). LooksAtLine x b line words t d) all.0 one), (refl, refl))
looks_more s c line (first ∷ rest) m b words t d all one = (all.0, all.1, all.2, looks_more all.0 all.1 line rest m b words t d all.3 one)

pub failed_more : (place : WordAt) (bit : Option ℕ) (want : Bool) (looks : List (List ℕ)) (words : List ℕ) → HaveFailed place bit want looks
    → is_unwanted want (is_set_in bit (slice_index words place.word)) ≡ true → HaveFailed place bit want (looks ++ words ∷ [])
failed_more place bit want [] words all one = (one, tt)
failed_more place bit want (first ∷ rest) words all one = (all.0, failed_more place bit want rest words all.1 one)

pub unwanted : (want found : Bool) → beq found want ≡ false → is_unwanted want found ≡ true
unwanted true true other = absurd (cc)
unwanted true false other = refl
unwanted false true other = refl
unwanted false false other = absurd (cc)

pub same_by_beq : (a b : Bool) → beq a b ≡ true → a ≡ b
same_by_beq true true e = refl
same_by_beq true false e = absurd (cc)
same_by_beq false true e = absurd (cc)
same_by_beq false false e = refl

pub wanted : (want : Bool) → is_unwanted want want ≡ false
wanted true = refl
wanted false = refl

pub none_yet : (s : Sight) (c : Private) (place : WordAt) (bit : Option ℕ) (want : Bool) → LooksFailed s c place bit want 0 s c
none_yet s c place bit want = record { looks = []; count = refl; failed = tt; looked = (refl, refl) }

pub one_more : {s m t : Sight} {c b d : Private} {place : WordAt} {bit : Option ℕ} {want found : Bool} {n : ℕ} → LooksFailed s c place bit want n m b
    → ReadsFlag m b place bit found t d → beq found want ≡ false → LooksFailed s c place bit want (n + 1) t d
one_more {s} {m} {t} {c} {b} {d} {place} {bit} {want} {found} {n} so_far look other = record {
  looks = so_far.looks ++ look.words ∷ [];
  count = length-append so_far.looks (look.words ∷ []) ∙ ap (λ (k : ℕ). k + 1) so_far.count;
  failed = failed_more place bit want so_far.looks look.words so_far.failed (ap (λ (x : Bool). is_unwanted want x) (sym look.is) ∙ unwanted want found other);
  looked = looks_more s c (line_of_word place) so_far.looks m b look.words t d so_far.looked look.looks;
}
