-- The table's words as the chip's memory: at the start, and after each kind of access.
use Rattle.std.proofs.Common.{◌≡◌, ◌≢◌, ◌⊎◌, inl, inr, ℕ, ◌<◌, Bool, true, false, ◌==◌, if◌then◌else◌, nat_lt, List, length, slice_index, slice_set, refl, sym, ◌∙◌, ap, subst, arith}
use Rattle.std.proofs.lemmas.Bool.Decides.{nat_tests}
use Rattle.std.proofs.lemmas.Grind.{get_or-set_at}
use Rattle.std.proofs.lemmas.List.{set-get_or, get_or-set_other}
use Rattle.scc_base.specs.Numbers.{word_number, register_number}
use Rattle.scc_base.specs.Places.{WordAt, IsPlace}
use Rattle.scc_base.specs.Events.{store_of, take_of, free_of}
use Rattle.scc_proto.specs.Words.{Memory, zeros, word_at, is_at, IsStep, memory_after, SameWords}
use Rattle.scc_proto.specs.Memories.{is_word, memory_of}

in_range : (core line word : ℕ) → core < 48 → line < 256 → word < 4 → is_word core line word ≡ true
in_range core line word a b c = grind (arith, nat_tests)

core_below : (core line word : ℕ) → is_word core line word ≡ true → core < 48
core_below core line word t = grind (arith, nat_tests)

line_below : (core line word : ℕ) → is_word core line word ≡ true → line < 256
line_below core line word t = grind (arith, nat_tests)

word_below : (core line word : ℕ) → is_word core line word ≡ true → word < 4
word_below core line word t = grind (arith, nat_tests)

if_zero : (b : Bool) (n : ℕ) → n ≡ 0 → 0 ≡ (if b then n else 0)
if_zero true n is = sym is
if_zero false n is = refl

pub words_at_start : (words : List ℕ) → ((k : ℕ) → slice_index words k ≡ 0) → SameWords zeros (memory_of words)
unfolding memory_of
words_at_start words clear = record {
  words = λ core line word. if_zero (is_word core line word) (slice_index words (word_number core line word)) (clear (word_number core line word));
  registers = λ core. if_zero (nat_lt core 48) (slice_index words (register_number core)) (clear (register_number core));
}

pub word_is : (words : List ℕ) (place : WordAt) → IsPlace place → word_at (memory_of words) place ≡ slice_index words (word_number place.core place.line place.word)
unfolding memory_of
word_is words place is = ap (λ b. if b then slice_index words (word_number place.core place.line place.word) else 0) (in_range place.core place.line place.word is.core_below is.line_below is.word_below)

lt_yes : (a b : ℕ) → a < b → nat_lt a b ≡ true
lt_yes a b h = grind (arith, nat_tests)

pub register_is : (words : List ℕ) (core : ℕ) → core < 48 → (memory_of words).register core ≡ slice_index words (register_number core)
unfolding memory_of
register_is words core lt = ap (λ b. if b then slice_index words (register_number core) else 0) (lt_yes core 48 lt)

pub same_words : (m n : Memory) → m ≡ n → SameWords m n
same_words m n is = record { words = λ core line word i. (is i).word core line word; registers = λ core i. (is i).register core }

-- a word keeps its number
pub words_kept : (words : List ℕ) (i : ℕ) (n : ℕ) → slice_index words i ≡ n → SameWords (memory_of words) (memory_of (slice_set words i n))
words_kept words i n is = same_words (memory_of words) (memory_of (slice_set words i n)) (λ j. memory_of (sym (ap (λ x. slice_set words i x) (sym is) ∙ set-get_or words i 0) j))

-- the new number at one place, and the old one elsewhere
choose : (b c : Bool) (v old new : ℕ) → (b ≡ true → (c ≡ true) × (new ≡ v)) → (b ≡ false → c ≡ true → new ≡ old) → (if b then v else (if c then old else 0)) ≡ (if c then new else 0)
choose true c v old new hit miss = sym (hit refl).1 ∙ ap (λ x. if x then new else 0) (sym (hit refl).0)
choose false true v old new hit miss = sym (miss refl refl)
choose false false v old new hit miss = refl

keep : (c : Bool) (old new : ℕ) → (c ≡ true → new ≡ old) → (if c then old else 0) ≡ (if c then new else 0)
keep true old new same = sym (same refl)
keep false old new same = refl

at_core : (place : WordAt) (core line word : ℕ) → is_at place core line word ≡ true → core ≡ place.core
at_core place core line word t = grind (arith, nat_tests)

at_line : (place : WordAt) (core line word : ℕ) → is_at place core line word ≡ true → line ≡ place.line
at_line place core line word t = grind (arith, nat_tests)

at_word : (place : WordAt) (core line word : ℕ) → is_at place core line word ≡ true → word ≡ place.word
at_word place core line word t = grind (arith, nat_tests)

is_there : (place : WordAt) (core line word : ℕ) → core ≡ place.core → line ≡ place.line → word ≡ place.word → is_at place core line word ≡ true
is_there place core line word a b c = grind (arith, nat_tests)

module _ (words : List ℕ) (place : WordAt) (v : ℕ) (is : IsPlace place) (long : length words ≡ 49200) where
  module _ (core line word : ℕ) where
    other_number : is_at place core line word ≡ false → is_word core line word ≡ true → word_number core line word ≢ word_number place.core place.line place.word
    other_number away inside same =
        let a = core_below core line word inside in
        let b = line_below core line word inside in
        let c = word_below core line word inside in
        let d = is.line_below in
        let e = is.word_below in
        let core_is : core ≡ place.core = omega (arith, same, b, c, d, e) in
        let line_is : line ≡ place.line = omega (arith, same, core_is, c, e) in
        let word_is : word ≡ place.word = omega (arith, same, core_is, line_is) in
        absurd (cc (away, is_there place core line word core_is line_is word_is))

    here : is_at place core line word ≡ true → (is_word core line word ≡ true) × (slice_index (slice_set words (word_number place.core place.line place.word) v) (word_number core line word) ≡ v)
    here t =
        let a = at_core place core line word t in
        let b = at_line place core line word t in
        let c = at_word place core line word t in (
          in_range core line word (omega (arith, a, is.core_below)) (omega (arith, b, is.line_below)) (omega (arith, c, is.word_below)),
          get_or-set_at words (word_number place.core place.line place.word) (word_number core line word) v 0 (omega (arith, a, b, c)) (omega (arith, long, is.core_below, is.line_below, is.word_below)),
        )

    there : is_at place core line word ≡ false → is_word core line word ≡ true → slice_index (slice_set words (word_number place.core place.line place.word) v) (word_number core line word) ≡ slice_index words (word_number core line word)
    there away inside = get_or-set_other words (word_number place.core place.line place.word) (word_number core line word) v 0 (other_number away inside)

  pub word_stored : SameWords (memory_after (memory_of words) (store_of place v)) (memory_of (slice_set words (word_number place.core place.line place.word) v))
  unfolding memory_of
  word_stored = record {
    words = λ core line word. choose (is_at place core line word) (is_word core line word) v (slice_index words (word_number core line word))
        (slice_index (slice_set words (word_number place.core place.line place.word) v) (word_number core line word)) (here core line word) (there core line word);
    registers = λ core. keep (nat_lt core 48) (slice_index words (register_number core)) (slice_index (slice_set words (word_number place.core place.line place.word) v) (register_number core))
        (λ t. get_or-set_other words (word_number place.core place.line place.word) (register_number core) v 0 (λ same. absurd (omega (arith, same, is.core_below, is.line_below, is.word_below))));
  }

module _ (words : List ℕ) (core v : ℕ) (below : core < 48) (long : length words ≡ 49200) where
  register_here : (k : ℕ) → (k == core) ≡ true → (nat_lt k 48 ≡ true) × (slice_index (slice_set words (register_number core) v) (register_number k) ≡ v)
  register_here k t =
      let same : k ≡ core = grind (arith, nat_tests) in
      (lt_yes k 48 (omega (arith, same, below)), get_or-set_at words (register_number core) (register_number k) v 0 (omega (arith, same)) (omega (arith, long, below)))

  register_there : (k : ℕ) → (k == core) ≡ false → nat_lt k 48 ≡ true → slice_index (slice_set words (register_number core) v) (register_number k) ≡ slice_index words (register_number k)
  register_there k f t =
      let other : k ≢ core = grind (arith, nat_tests) in
      get_or-set_other words (register_number core) (register_number k) v 0 (λ same. other (omega (arith, same)))

  -- the memory with another number in the register
  pub register_set : SameWords (record { word = (memory_of words).word; register = λ k. if k == core then v else (memory_of words).register k }) (memory_of (slice_set words (register_number core) v))
  unfolding memory_of
  register_set = record {
    words = λ c line word. keep (is_word c line word) (slice_index words (word_number c line word)) (slice_index (slice_set words (register_number core) v) (word_number c line word))
        (λ t. get_or-set_other words (register_number core) (word_number c line word) v 0
        (λ same. absurd (omega (arith, same, core_below c line word t, line_below c line word t, word_below c line word t))));
    registers = λ k. choose (k == core) (nat_lt k 48) v (slice_index words (register_number k)) (slice_index (slice_set words (register_number core) v) (register_number k)) (register_here k) (register_there k);
  }

module _ (words : List ℕ) (core : ℕ) (below : core < 48) (long : length words ≡ 49200) where
  pub register_freed : SameWords (memory_after (memory_of words) (free_of core)) (memory_of (slice_set words (register_number core) 0))
  register_freed = register_set words core 0 below long

  -- what a swap of 1 into a register is
  pub record IsTaken (n : ℕ) : Type 0 where
    pub step : IsStep (memory_of words) (take_of core (n == 0))
    pub same : SameWords (memory_after (memory_of words) (take_of core (n == 0))) (memory_of (slice_set words (register_number core) 1))

  taken_free : slice_index words (register_number core) ≡ 0 → IsTaken 0
  taken_free is = record { step = inl (refl, register_is words core below ∙ is); same = register_set words core 1 below long }

  taken_held : slice_index words (register_number core) ≡ 1 → IsTaken 1
  taken_held is = record { step = inr (refl, register_is words core below ∙ is); same = words_kept words (register_number core) 1 is }

  pub register_taken : (n : ℕ) → slice_index words (register_number core) ≡ n → (n ≡ 0) ⊎ (n ≡ 1) → IsTaken n
  register_taken n is (inl free) = subst IsTaken (sym free) (taken_free (is ∙ free))
  register_taken n is (inr held) = subst IsTaken (sym held) (taken_held (is ∙ held))
