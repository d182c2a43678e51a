-- Noted words, and what they say of a buffer.
use Rattle.std.proofs.Common.{◌≡◌, ◌≢◌, ℕ, zero, suc, ◌+◌, ◌*◌, ◌/◌, ◌%◌, ◌^◌, ◌<◌, ◌≤◌, Bool, true, [], ◌∷◌, length, Option, Some, None, is_some, unwrap_or, refl, sym, ◌∙◌, ap, arith}
use Rattle.std.proofs.lemmas.Bool.Decides.{nat_tests}
use Rattle.scc_base.specs.Heads.{MessageHead}
use Rattle.scc_proto.specs.Messages.{Notes, noted_word, note_word, StandsIn, has_all, byte_at, bytes_from, head_of, Progress, chunk_bytes, chunk_words}
use Rattle.scc_proto.specs.Pairs.{HeaderStands}
use Rattle.scc_proto.proofs.Tests.{same_or_other, both_first, both_second}

pub is_some_some : {A : Type 0} (o : Option A) → is_some o ≡ true → (x : A) × (o ≡ Some x)
is_some_some None t = absurd (cc)
is_some_some (Some x) t = (x, refl)

pub noted_here : (k v : ℕ) (notes : Notes) → noted_word (note_word k v notes) k ≡ Some v
noted_here k v notes = grind (arith, nat_tests)

pub noted_there : (k v : ℕ) (notes : Notes) (i : ℕ) → i ≢ k → noted_word (note_word k v notes) i ≡ noted_word notes i
noted_there k v notes i ne = grind (arith, nat_tests)

pub none_stands : (buffer : ℕ → ℕ) → StandsIn [] buffer
none_stands buffer k v is = absurd (cc)

-- one more word that stands
pub note_stands : (k v : ℕ) (notes : Notes) (buffer : ℕ → ℕ) → StandsIn notes buffer → buffer k ≡ v → StandsIn (note_word k v notes) buffer
note_stands k v notes buffer stands is i x noted_is = same_or_other (buffer i ≡ x) i k
    (λ t e. let a : Some v ≡ Some x = sym (noted_here k v notes) ∙ ap (λ y. noted_word (note_word k v notes) y) (sym e) ∙ noted_is in ap buffer e ∙ is ∙ cc (a))
    (λ t ne. stands i x (sym (noted_there k v notes i ne) ∙ noted_is))

-- one more word, stored
pub note_stored : (k v : ℕ) (notes : Notes) (buffer new : ℕ → ℕ) → StandsIn notes buffer → new k ≡ v → ((i : ℕ) → i ≢ k → new i ≡ buffer i) → StandsIn (note_word k v notes) new
note_stored k v notes buffer new stands here there i x noted_is = same_or_other (new i ≡ x) i k
    (λ t e. let a : Some v ≡ Some x = sym (noted_here k v notes) ∙ ap (λ y. noted_word (note_word k v notes) y) (sym e) ∙ noted_is in ap new e ∙ here ∙ cc (a))
    (λ t ne. there i ne ∙ stands i x (sym (noted_there k v notes i ne) ∙ noted_is))

pub has_all-at : (notes : Notes) (n : ℕ) → has_all notes n ≡ true → (k : ℕ) → k < n → (v : ℕ) × (noted_word notes k ≡ Some v)
unfolding has_all
has_all-at notes zero t k lt = absurd (omega arith)
has_all-at notes (suc n) t k lt = same_or_other ((v : ℕ) × (noted_word notes k ≡ Some v)) k n
    (λ u e. let w = is_some_some (noted_word notes n) (both_first (is_some (noted_word notes n)) (has_all notes n) t) in (w.0, ap (λ x. noted_word notes x) e ∙ w.1))
    (λ u ne. has_all-at notes n (both_second (is_some (noted_word notes n)) (has_all notes n) t) k (omega (arith, lt, ne)))

pub has_all-from : (notes : Notes) (n : ℕ) → ((k : ℕ) → k < n → is_some (noted_word notes k) ≡ true) → has_all notes n ≡ true
unfolding has_all
has_all-from notes zero all = refl
has_all-from notes (suc n) all = let a : is_some (noted_word notes n) ≡ true = all n (omega arith) in let b = has_all-from notes n (λ k lt. all k (omega arith)) in grind (arith, a, b)

-- the head that three noted words say is the one that stands in the line
pub head_is : (header : Notes) (head : MessageHead) (is_post : Bool) (buffer : ℕ → ℕ) → has_all header 3 ≡ true → StandsIn header buffer → HeaderStands head is_post buffer → head_of header ≡ head
head_is header head is_post buffer all stands line =
    let a = has_all-at header 3 all 0 (omega arith) in
    let b = has_all-at header 3 all 1 (omega arith) in
    let c = has_all-at header 3 all 2 (omega arith) in
    let kind : unwrap_or (noted_word header 0) 0 ≡ head.kind = ap (λ (o : Option ℕ). unwrap_or o 0) a.1 ∙ sym (stands 0 a.0 a.1) ∙ line 0 (omega arith) in
    let comm : unwrap_or (noted_word header 1) 0 ≡ head.comm = ap (λ (o : Option ℕ). unwrap_or o 0) b.1 ∙ sym (stands 1 b.0 b.1) ∙ line 1 (omega arith) in
    let len : unwrap_or (noted_word header 2) 0 ≡ head.len = ap (λ (o : Option ℕ). unwrap_or o 0) c.1 ∙ sym (stands 2 c.0 c.1) ∙ line 2 (omega arith) in
    λ i. record { kind = kind i; comm = comm i; len = len i }

-- two notes of one buffer say the same bytes where they have all words
pub bytes_same : (one other : Notes) (buffer : ℕ → ℕ) (words : ℕ) → has_all one words ≡ true → has_all other words ≡ true → StandsIn one buffer → StandsIn other buffer
    → (start n : ℕ) → start + n ≤ 8 * words → bytes_from one start n ≡ bytes_from other start n
unfolding bytes_from
bytes_same one other buffer words a b s t start zero le = refl
bytes_same one other buffer words a b s t start (suc n) le =
    let lt : start / 8 < words = omega arith in
    let x = has_all-at one words a (start / 8) lt in
    let y = has_all-at other words b (start / 8) lt in
    let e : noted_word one (start / 8) ≡ noted_word other (start / 8) = x.1 ∙ ap (λ (v : ℕ). Some v) (sym (s (start / 8) x.0 x.1) ∙ t (start / 8) y.0 y.1) ∙ sym y.1 in
    let h : byte_at one start ≡ byte_at other start = ap (λ (o : Option ℕ). unwrap_or o 0 / 256 ^ (start % 8) % 256) e in
    let r = bytes_same one other buffer words a b s t (suc start) n (omega arith) in
    λ i. h i ∷ r i

pub length-bytes_from : (notes : Notes) (start n : ℕ) → length (bytes_from notes start n) ≡ n
unfolding bytes_from
length-bytes_from notes start zero = refl
length-bytes_from notes start (suc n) = ap suc (length-bytes_from notes (suc start) n)

-- the bytes of a chunk are within its words
pub chunk_within : (size : ℕ) (message : Progress) → 0 + chunk_bytes size message ≤ 8 * chunk_words size message
chunk_within size message = within (chunk_bytes size message)
  where
    within : (m : ℕ) → 0 + m ≤ 8 * (4 * ((m + 31) / 32))
    within m = omega arith
