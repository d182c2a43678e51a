-- The words of a chip in a list: what an access finds, and what an event leaves.
use Rattle.std.proofs.Common.{◌≡◌, ℕ, ◌<◌, ◌==◌, false, List, [], ◌∷◌, ◌++◌, if◌then◌else◌, length, get_or, slice_index, slice_set, sym, ◌∙◌, ap, subst, arith}
use Rattle.std.proofs.lemmas.List.{get_or_read_under}
use Rattle.scc_base.specs.Numbers.{word_number, register_number}
use Rattle.scc_base.specs.Places.{WordAt, IsPlace}
use Rattle.scc_base.specs.declared.events.Access.{Access}
use Rattle.scc_base.specs.declared.events.Access.TheVariants.{Load, Store, Take, Free}
use Rattle.scc_base.specs.declared.events.Event.{Event}
use Rattle.scc_base.specs.Events.{store_of}
use Rattle.scc_proto.specs.Memories.{memory_of}
use Rattle.scc_proto.specs.Tables.{table_with}
use Rattle.scc_proto.specs.Words.{Memory, RankEvent, SameWords, memory_after, memory_by, word_at, zeros}
use Rattle.scc_proto.proofs.Messages.ChunkRecords.{memory_from-append}
use Rattle.scc_proto.proofs.Words.MemoryLemmas.{words_at_start, word_is, register_is, word_stored, register_set}
use Rattle.chip_memory.specs.Steps.{AreWordsOf, IsOnChip, number_of_access, stands_by}

-- memories with the same words are one
one_memory : (m n : Memory) → SameWords m n → m ≡ n
one_memory m n same = λ i. record { word = λ core line word. same.words core line word i; register = λ core. same.registers core i }

pub words_at_first : (words : List ℕ) → length words ≡ 49200 → ((k : ℕ) → slice_index words k ≡ 0) → AreWordsOf [] words
words_at_first words long clear = record { count = long; words = sym (one_memory zeros (memory_of words) (words_at_start words clear)) }

-- the memory with another value in a core's register
abbrev with_register : Memory → ℕ → ℕ → Memory
with_register memory core value = record memory { register = table_with memory.register core value }

module _ (words : List ℕ) (long : length words ≡ 49200) where
  word_found : (place : WordAt) → IsPlace place → slice_index words (word_number place.core place.line place.word) ≡ word_at (memory_of words) place
  word_found place is = sym (word_is words place is)

  -- what an access finds is what is at its number
  at_number : (a : Access) (place : WordAt) → IsOnChip a place → slice_index words (number_of_access a place) ≡ stands_by a place (memory_of words)
  at_number Load place there = word_found place there
  at_number Store place there = word_found place there
  at_number Take place there = sym (register_is words place.core there)
  at_number Free place there = sym (register_is words place.core there)

  within : (a : Access) (place : WordAt) → IsOnChip a place → number_of_access a place < length words
  within Load place there = omega (arith, long, there.core_below, there.line_below, there.word_below)
  within Store place there = omega (arith, long, there.core_below, there.line_below, there.word_below)
  within Take place there = omega (arith, long, there)
  within Free place there = omega (arith, long, there)

  pub found_at : (a : Access) (place : WordAt) → IsOnChip a place → (n : ℕ) → n ≡ number_of_access a place → (value : ℕ) → value ≡ get_or words n value → value ≡ stands_by a place (memory_of words)
  found_at a place there n number value read =
      get_or_read_under words (number_of_access a place) (length words) value 0 (subst (λ (k : ℕ). value ≡ get_or words k value) number read) (within a place there) refl_length ∙ at_number a place there
    where
      refl_length : length words ≡ length words
      refl_length = λ i. length words

  stored_at : (place : WordAt) → IsPlace place → (value : ℕ) → memory_of (slice_set words (word_number place.core place.line place.word) value) ≡ memory_after (memory_of words) (store_of place value)
  stored_at place is value =
      sym (one_memory (memory_after (memory_of words) (store_of place value)) (memory_of (slice_set words (word_number place.core place.line place.word) value)) (word_stored words place value is long))

  register_put : (core : ℕ) → core < 48 → (value : ℕ) → memory_of (slice_set words (register_number core) value) ≡ with_register (memory_of words) core value
  register_put core below value =
      sym (one_memory (with_register (memory_of words) core value) (memory_of (slice_set words (register_number core) value)) (register_set words core value below long))

  module _ (e : Event) (there : IsOnChip e.access e.place) (n : ℕ) (number : n ≡ number_of_access e.access e.place) where
    pub load_makes : e.access ≡ Load → memory_of words ≡ memory_after (memory_of words) e
    load_makes is = sym (ap (λ (a : Access). memory_by a e.place e.value (memory_of words)) is)

    pub store_makes : e.access ≡ Store → memory_of (slice_set words n e.value) ≡ memory_after (memory_of words) e
    store_makes is =
        ap (λ (k : ℕ). memory_of (slice_set words k e.value)) (number ∙ ap (λ (a : Access). number_of_access a e.place) is)
        ∙ stored_at e.place (subst (λ (a : Access). IsOnChip a e.place) is there) e.value
        ∙ sym (ap (λ (a : Access). memory_by a e.place e.value (memory_of words)) is)

    pub take_makes : e.access ≡ Take → e.value ≡ 1 → memory_of (slice_set words n 1) ≡ memory_after (memory_of words) e
    take_makes is one =
        ap (λ (k : ℕ). memory_of (slice_set words k 1)) (number ∙ ap (λ (a : Access). number_of_access a e.place) is)
        ∙ register_put e.place.core (subst (λ (a : Access). IsOnChip a e.place) is there) 1
        ∙ sym (ap (λ (a : Access). memory_by a e.place e.value (memory_of words)) is ∙ ap (λ (v : ℕ). memory_by Take e.place v (memory_of words)) one)

    pub take_keeps : e.access ≡ Take → (e.value == 1) ≡ false → memory_of words ≡ memory_after (memory_of words) e
    take_keeps is other =
        sym (ap (λ (a : Access). memory_by a e.place e.value (memory_of words)) is
        ∙ (λ i. record (memory_of words) { register = if other i then table_with (memory_of words).register e.place.core 1 else (memory_of words).register }))

    pub free_makes : e.access ≡ Free → memory_of (slice_set words n 0) ≡ memory_after (memory_of words) e
    free_makes is =
        ap (λ (k : ℕ). memory_of (slice_set words k 0)) (number ∙ ap (λ (a : Access). number_of_access a e.place) is)
        ∙ register_put e.place.core (subst (λ (a : Access). IsOnChip a e.place) is there) 0
        ∙ sym (ap (λ (a : Access). memory_by a e.place e.value (memory_of words)) is)

-- one event more
pub words_more : (run : List RankEvent) (words now : List ℕ) (e : RankEvent) → AreWordsOf run words → length now ≡ 49200 → memory_of now ≡ memory_after (memory_of words) e.event → AreWordsOf (run ++ e ∷ []) now
words_more run words now e are long makes = record {
  count = long;
  words = makes ∙ ap (λ (m : Memory). memory_after m e.event) are.words ∙ sym (memory_from-append zeros run (e ∷ []));
}
