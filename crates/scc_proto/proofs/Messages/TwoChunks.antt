-- A message of two chunks, with line flags and with bit flags: its events are a run of the memory, permitted to both ranks, and
-- the message arrives.
use Rattle.std.proofs.Common.{◌≡◌, ◌≢◌, ℕ, zero, suc, ◌+◌, ◌/◌, ◌%◌, ◌^◌, ◌<◌, Bool, true, false, ◌&&◌, ◌==◌, if◌then◌else◌, List, [], ◌∷◌, ◌++◌, refl, sym, ◌∙◌, ap, subst, arith, rules}
use Rattle.std.specs.Prelude.{nat_lt}
use Rattle.scc_base.specs.Calls.{Send, Recv}
use Rattle.scc_base.specs.Layouts.{first_chunk, chunk_size}
use Rattle.scc_base.specs.Events.{load_of, store_of}
use Rattle.scc_base.specs.declared.layouts.Layout.{Layout}
use Rattle.scc_base.specs.declared.layouts.Layout.TheVariants.{LineFlags, BitFlags}
use Rattle.scc_base.specs.declared.events.Event.{Event}
use Rattle.scc_proto.specs.Stages.{Record, blank}
use Rattle.scc_proto.specs.Words.{Memory, zeros, is_at, memory_after, RankEvent, IsRun}
use Rattle.scc_proto.specs.Records.{record_of}
use Rattle.scc_proto.specs.Histories.{events_of, records_of, memory_from, IsPermittedRun}
use Rattle.scc_proto.specs.Ports.{MayMakeAll, record_in}
use Rattle.scc_proto.specs.Examples.{two_ranks_by, for_numbers, drafts_word, loads_word, drafts_head, begins_first, raises_ready, goes_second, two_chunks_by, bytes_of_words}
use Rattle.scc_proto.proofs.Tests.{same_or_other, eqb_same, eqb_other}
use Rattle.scc_proto.proofs.PortLaws.{record_in-and_then}
use Rattle.scc_proto.proofs.Layouts.Roles.{lt_is, lt_no}
use Rattle.scc_proto.proofs.Messages.ChunkRecords.{events_of-append, events_of-own, events_of-other, memory_from-append, run-append, AreEvents, are-append, are_each, permitted_run, Goes, goes_then, notes_up, words_in, bytes_are, word_place, in_chunk, seat_of, drafting, drafts, drafts_line, head, raised_events, offering, raises, drafted_byte, loaded_byte, sent_events, has_sent, sends_second, sent_calls, begun_events, taking, begins_taking, loads_all, between, answers, second_events, has_received, receives_second, received_calls}

-- ---- the memory

never : (b : Bool) → (b && false) ≡ false
never true = refl
never false = refl

both_differ : (a b c d : ℕ) → (a ≡ b → c ≡ d → ⊥) → ((a == b) && (c == d)) ≡ false
both_differ a b c d ne = same_or_other (((a == b) && (c == d)) ≡ false) a b
    (λ t is. (λ i. t i && (c == d)) ∙ eqb_other c d (ne is))
    (λ t no. λ i. t i && (c == d))

at_its_place : (layout : Layout) (k : ℕ) → is_at (word_place layout k) 0 (first_chunk layout + k / 4) (k % 4) ≡ true
at_its_place layout k = λ i. eqb_same (first_chunk layout + k / 4) i && eqb_same (k % 4) i

at_another : (layout : Layout) (n k : ℕ) → k ≢ n → is_at (word_place layout n) 0 (first_chunk layout + k / 4) (k % 4) ≡ false
at_another layout n k ne = both_differ (first_chunk layout + k / 4) (first_chunk layout + n / 4) (k % 4) (n % 4) (λ a b. ne (omega (arith, a, b)))

below_chunk : (layout : Layout) (n core line w : ℕ) → line < first_chunk layout → is_at (word_place layout n) core line w ≡ false
below_chunk layout n core line w lt =
    let other = eqb_other line (first_chunk layout + n / 4) (λ is. omega (arith, lt, is)) in
    (λ i. (core == 0) && (other i && (w == n % 4))) ∙ never (core == 0)

-- the words that were stored stand, and the lines before the chunk buffer and the registers are as they were
record Drafted (layout : Layout) (word : ℕ → ℕ) (memory late : Memory) (n : ℕ) : Type 0 where
  pub here : (k : ℕ) → k < n → late.word 0 (first_chunk layout + k / 4) (k % 4) ≡ word k
  pub frame : (core line w : ℕ) → line < first_chunk layout → late.word core line w ≡ memory.word core line w
  pub registers : (core : ℕ) → late.register core ≡ memory.register core

one_more : (layout : Layout) (word : ℕ → ℕ) (memory mid : Memory) (n : ℕ) → Drafted layout word memory mid n → Drafted layout word memory (memory_after mid (store_of (word_place layout n) (word n))) (suc n)
one_more layout word memory mid n before = record { here = here; frame = frame; registers = before.registers }
  where
    here : (k : ℕ) → k < suc n → (if is_at (word_place layout n) 0 (first_chunk layout + k / 4) (k % 4) then word n else mid.word 0 (first_chunk layout + k / 4) (k % 4)) ≡ word k
    here k lt = same_or_other ((if is_at (word_place layout n) 0 (first_chunk layout + k / 4) (k % 4) then word n else mid.word 0 (first_chunk layout + k / 4) (k % 4)) ≡ word k) k n
        (λ t is.
        let hit = ap (λ x. is_at (word_place layout n) 0 (first_chunk layout + x / 4) (x % 4)) is ∙ at_its_place layout n in
        (λ i. if hit i then word n else mid.word 0 (first_chunk layout + k / 4) (k % 4)) ∙ ap word (sym is))
        (λ t ne.
        let miss = at_another layout n k ne in
        (λ i. if miss i then word n else mid.word 0 (first_chunk layout + k / 4) (k % 4)) ∙ before.here k (omega (arith, lt, ne)))

    frame : (core line w : ℕ) → line < first_chunk layout → (if is_at (word_place layout n) core line w then word n else mid.word core line w) ≡ memory.word core line w
    frame core line w lt =
        let miss = below_chunk layout n core line w lt in
        (λ i. if miss i then word n else mid.word core line w) ∙ before.frame core line w lt

drafted : (layout : Layout) (word : ℕ → ℕ) (memory : Memory) (n : ℕ) → Drafted layout word memory (memory_from memory (for_numbers (drafts_word layout word) n)) n
unfolding for_numbers
drafted layout word memory zero = record { here = λ k lt. absurd (omega (arith, lt)); frame = λ core line w lt. refl; registers = λ core. refl }
drafted layout word memory (suc n) =
    let mid = memory_from memory (for_numbers (drafts_word layout word) n) in
    subst (λ (m : Memory). Drafted layout word memory m (suc n)) (sym (memory_from-append memory (for_numbers (drafts_word layout word) n) (drafts_word layout word n ∷ [])))
    (one_more layout word memory mid n (drafted layout word memory n))

drafted_steps : (layout : Layout) (word : ℕ → ℕ) (memory : Memory) (n : ℕ) → IsRun memory (for_numbers (drafts_word layout word) n)
unfolding for_numbers
drafted_steps layout word memory zero = tt
drafted_steps layout word memory (suc n) = run-append memory (for_numbers (drafts_word layout word) n) (drafts_word layout word n ∷ []) (drafted_steps layout word memory n) (tt, tt)

-- loads of words that stand change nothing
loaded_steps : (layout : Layout) (word : ℕ → ℕ) (memory : Memory) (n : ℕ) → ((k : ℕ) → k < n → memory.word 0 (first_chunk layout + k / 4) (k % 4) ≡ word k)
    → IsRun memory (for_numbers (loads_word layout word) n) × (memory_from memory (for_numbers (loads_word layout word) n) ≡ memory)
unfolding for_numbers
loaded_steps layout word memory zero stands = (tt, refl)
loaded_steps layout word memory (suc n) stands =
    let before = loaded_steps layout word memory n (λ k lt. stands k (omega (arith, lt))) in
    let read = subst (λ (m : Memory). m.word 0 (first_chunk layout + n / 4) (n % 4) ≡ word n) (sym before.1) (stands n (omega arith)) in (
      run-append memory (for_numbers (loads_word layout word) n) (loads_word layout word n ∷ []) before.0 (read, tt),
      memory_from-append memory (for_numbers (loads_word layout word) n) (loads_word layout word n ∷ []) ∙ before.1,
    )

abbrev head_memory : Layout → Memory
head_memory layout = memory_from zeros (drafts_head layout)

abbrev drafted_memory : Layout → (ℕ → ℕ) → Memory
drafted_memory layout word = memory_from (head_memory layout) (for_numbers (drafts_word layout word) (words_in layout))

-- the memory with the first chunk drafted, whose lines before the chunk buffer and registers compute
abbrev chunk_memory : Layout → (ℕ → ℕ) → Memory
chunk_memory layout word = record {
  word = λ core line w. if nat_lt line (first_chunk layout) then (head_memory layout).word core line w else (drafted_memory layout word).word core line w;
  register = (head_memory layout).register;
}

chunk_stands : (layout : Layout) (word : ℕ → ℕ) → drafted_memory layout word ≡ chunk_memory layout word
chunk_stands layout word = λ i. record { word = λ core line w. words core line w i; register = λ core. d.registers core i }
  where
    d : Drafted layout word (head_memory layout) (drafted_memory layout word) (words_in layout)
    d = drafted layout word (head_memory layout) (words_in layout)

    words : (core line w : ℕ) → (drafted_memory layout word).word core line w ≡ (chunk_memory layout word).word core line w
    words core line w = by (nat_lt line (first_chunk layout)) refl
      where
        by : (b : Bool) → nat_lt line (first_chunk layout) ≡ b → (drafted_memory layout word).word core line w ≡ (if b then (head_memory layout).word core line w else (drafted_memory layout word).word core line w)
        by true low = d.frame core line w (lt_is line (first_chunk layout) low)
        by false high = refl

abbrev begun_memory : Layout → (ℕ → ℕ) → Memory
begun_memory layout word = memory_from (chunk_memory layout word) (begins_first layout)

begins_steps : (layout : Layout) (word : ℕ → ℕ) → IsRun (chunk_memory layout word) (begins_first layout)
begins_steps LineFlags word = search rules
begins_steps BitFlags word = search rules

goes_steps : (layout : Layout) (word : ℕ → ℕ) → IsRun (begun_memory layout word) (raises_ready layout ++ goes_second layout)
goes_steps LineFlags word = search rules
goes_steps BitFlags word = search rules

chunk_here : (layout : Layout) (word : ℕ → ℕ) (k : ℕ) → k < words_in layout → (chunk_memory layout word).word 0 (first_chunk layout + k / 4) (k % 4) ≡ word k
chunk_here layout word k lt =
    let high = lt_no (first_chunk layout + k / 4) (first_chunk layout) (omega arith) in
    let late = drafted_memory layout word in
    (λ i. if high i then (head_memory layout).word 0 (first_chunk layout + k / 4) (k % 4) else late.word 0 (first_chunk layout + k / 4) (k % 4))
    ∙ (drafted layout word (head_memory layout) (words_in layout)).here k lt

-- the first chunk stands while rank 1 loads it
chunk_begun : (layout : Layout) (word : ℕ → ℕ) (k : ℕ) → k < words_in layout → (begun_memory layout word).word 0 (first_chunk layout + k / 4) (k % 4) ≡ word k
chunk_begun LineFlags word k lt = chunk_here LineFlags word k lt
chunk_begun BitFlags word k lt = chunk_here BitFlags word k lt

pub chunks_run : (layout : Layout) (word : ℕ → ℕ) → IsRun zeros (two_chunks_by layout word)
chunks_run layout word =
    let drafted_words = for_numbers (drafts_word layout word) (words_in layout) in
    let loaded_words = for_numbers (loads_word layout word) (words_in layout) in
    let last = raises_ready layout ++ goes_second layout in
    let loads_are = loaded_steps layout word (begun_memory layout word) (words_in layout) (chunk_begun layout word) in
    run-append zeros (drafts_head layout) (drafted_words ++ (begins_first layout ++ (loaded_words ++ last))) (tt, (tt, (tt, (tt, tt))))
    (run-append (head_memory layout) drafted_words (begins_first layout ++ (loaded_words ++ last)) (drafted_steps layout word (head_memory layout) (words_in layout))
    (subst (λ (m : Memory). IsRun m (begins_first layout ++ (loaded_words ++ last))) (sym (chunk_stands layout word))
    (run-append (chunk_memory layout word) (begins_first layout) (loaded_words ++ last) (begins_steps layout word)
    (run-append (begun_memory layout word) loaded_words last loads_are.0 (subst (λ (m : Memory). IsRun m last) (sym loads_are.1) (goes_steps layout word))))))

-- ---- the lists of both ranks

abbrev own_drafts : Layout → (ℕ → ℕ) → List Event
own_drafts layout word = for_numbers (λ k. store_of (word_place layout k) (word k)) (words_in layout)

abbrev own_loads : Layout → (ℕ → ℕ) → List Event
own_loads layout word = for_numbers (λ k. load_of (word_place layout k) (word k)) (words_in layout)

abbrev events_0 : Layout → (ℕ → ℕ) → List Event
events_0 layout word = events_of 0 (drafts_head layout) ++ (own_drafts layout word ++ (raised_events layout ++ sent_events layout))

abbrev events_1 : Layout → (ℕ → ℕ) → List Event
events_1 layout word = begun_events layout ++ (own_loads layout word ++ (events_of 1 (raises_ready layout) ++ second_events layout))

parts : (r : ℕ) (a b c d e f : List RankEvent) → events_of r (a ++ (b ++ (c ++ (d ++ (e ++ f))))) ≡ events_of r a ++ (events_of r b ++ (events_of r c ++ (events_of r d ++ (events_of r e ++ events_of r f))))
parts r a b c d e f = events_of-append r a (b ++ (c ++ (d ++ (e ++ f))))
    ∙ ap (λ (l : List Event). events_of r a ++ l) (events_of-append r b (c ++ (d ++ (e ++ f)))
    ∙ ap (λ (l : List Event). events_of r b ++ l) (events_of-append r c (d ++ (e ++ f))
    ∙ ap (λ (l : List Event). events_of r c ++ l) (events_of-append r d (e ++ f)
    ∙ ap (λ (l : List Event). events_of r d ++ l) (events_of-append r e f))))

parts_of : (r : ℕ) (layout : Layout) (word : ℕ → ℕ) → events_of r (two_chunks_by layout word) ≡ events_of r (drafts_head layout) ++ (events_of r (for_numbers (drafts_word layout word) (words_in layout))
    ++ (events_of r (begins_first layout) ++ (events_of r (for_numbers (loads_word layout word) (words_in layout)) ++ (events_of r (raises_ready layout) ++ events_of r (goes_second layout)))))
parts_of r layout word = parts r (drafts_head layout) (for_numbers (drafts_word layout word) (words_in layout)) (begins_first layout) (for_numbers (loads_word layout word) (words_in layout)) (raises_ready layout) (goes_second layout)

listed_0 : (layout : Layout) (word : ℕ → ℕ) → events_of 0 (two_chunks_by layout word) ≡ events_0 layout word
listed_0 layout word =
    let drafted = events_of-own 0 (drafts_word layout word) (λ k. refl) (words_in layout) in
    let none = events_of-other 0 (loads_word layout word) (λ k. refl) (words_in layout) in
    parts_of 0 layout word ∙ (λ i. events_of 0 (drafts_head layout) ++ (drafted i ++ (raised_events layout ++ (none i ++ sent_events layout))))

listed_1 : (layout : Layout) (word : ℕ → ℕ) → events_of 1 (two_chunks_by layout word) ≡ events_1 layout word
listed_1 layout word =
    let none = events_of-other 1 (drafts_word layout word) (λ k. refl) (words_in layout) in
    let loads_listed = events_of-own 1 (loads_word layout word) (λ k. refl) (words_in layout) in
    parts_of 1 layout word ∙ (λ i. none i ++ (begun_events layout ++ (loads_listed i ++ (events_of 1 (raises_ready layout) ++ second_events layout))))

goes_0 : (layout : Layout) (word : ℕ → ℕ) → Goes (seat_of layout 0) blank (events_0 layout word) (has_sent layout (notes_up word (words_in layout)))
goes_0 layout word =
    let seat = seat_of layout 0 in
    let chunk = notes_up word (words_in layout) in
    goes_then seat blank (events_of 0 (drafts_head layout)) (drafting layout []) (own_drafts layout word ++ (raised_events layout ++ sent_events layout)) (has_sent layout chunk) (drafts_line layout)
    (goes_then seat (drafting layout []) (own_drafts layout word) (drafting layout chunk) (raised_events layout ++ sent_events layout) (has_sent layout chunk) (drafts layout word (words_in layout) (omega arith))
    (goes_then seat (drafting layout chunk) (raised_events layout) (offering layout chunk) (sent_events layout) (has_sent layout chunk) (raises layout word) (sends_second layout chunk)))

goes_1 : (layout : Layout) (word : ℕ → ℕ) → Goes (seat_of layout 1) blank (events_1 layout word) (has_received layout (notes_up word (words_in layout)))
goes_1 layout word =
    let seat = seat_of layout 1 in
    let chunk = notes_up word (words_in layout) in
    let answer = events_of 1 (raises_ready layout) in
    goes_then seat blank (begun_events layout) (taking layout []) (own_loads layout word ++ (answer ++ second_events layout)) (has_received layout chunk) (begins_taking layout)
    (goes_then seat (taking layout []) (own_loads layout word) (taking layout chunk) (answer ++ second_events layout) (has_received layout chunk) (loads_all layout word (words_in layout) (omega arith))
    (goes_then seat (taking layout chunk) answer (between layout chunk) (second_events layout) (has_received layout chunk) (answers layout word) (receives_second layout chunk)))

record_is : (layout : Layout) (r : ℕ) (es : List Event) (late : Record) → Goes (seat_of layout r) blank es late → record_of (two_ranks_by layout) r es ≡ late
unfolding record_in record_of
record_is layout r es late goes = record_in-and_then (record { seat = seat_of layout r; events = [] }) es ∙ goes.becomes

pub chunks_sent : (layout : Layout) (word : ℕ → ℕ) → (records_of (two_ranks_by layout) (two_chunks_by layout word) 0).calls ≡ Send 1 (head layout) (bytes_of_words word (chunk_size layout) ++ 7 ∷ []) ∷ []
chunks_sent layout word = ap (λ (l : List Event). (record_of (two_ranks_by layout) 0 l).calls) (listed_0 layout word)
    ∙ ap (λ (rec : Record). rec.calls) (record_is layout 0 (events_0 layout word) (has_sent layout (notes_up word (words_in layout))) (goes_0 layout word))
    ∙ sent_calls layout (notes_up word (words_in layout))
    ∙ (λ i. Send 1 (head layout) (bytes_are layout word i ++ drafted_byte i) ∷ [])

pub chunks_received : (layout : Layout) (word : ℕ → ℕ) → (records_of (two_ranks_by layout) (two_chunks_by layout word) 1).calls ≡ Recv 0 (head layout) (bytes_of_words word (chunk_size layout) ++ 7 ∷ []) ∷ []
chunks_received layout word = ap (λ (l : List Event). (record_of (two_ranks_by layout) 1 l).calls) (listed_1 layout word)
    ∙ ap (λ (rec : Record). rec.calls) (record_is layout 1 (events_1 layout word) (has_received layout (notes_up word (words_in layout))) (goes_1 layout word))
    ∙ received_calls layout (notes_up word (words_in layout))
    ∙ (λ i. Recv 0 (head layout) (bytes_are layout word i ++ loaded_byte i) ∷ [])

head_events : (layout : Layout) → AreEvents 2 (drafts_head layout)
head_events LineFlags = search rules
head_events BitFlags = search rules

first_events : (layout : Layout) → AreEvents 2 (begins_first layout)
first_events LineFlags = search rules
first_events BitFlags = search rules

last_events : (layout : Layout) → AreEvents 2 (raises_ready layout ++ goes_second layout)
last_events LineFlags = search rules
last_events BitFlags = search rules

pub chunks_permitted : (layout : Layout) (word : ℕ → ℕ) → ((k : ℕ) → word k < 2 ^ 64) → IsPermittedRun (two_ranks_by layout) (λ r. blank) (two_chunks_by layout word)
chunks_permitted layout word fits = permitted_run (two_ranks_by layout) (two_chunks_by layout word) (λ r. blank) are each
  where
    are : AreEvents 2 (two_chunks_by layout word)
    are =
        let drafted_words = for_numbers (drafts_word layout word) (words_in layout) in
        let loaded_words = for_numbers (loads_word layout word) (words_in layout) in
        let last = raises_ready layout ++ goes_second layout in
        are-append 2 (drafts_head layout) (drafted_words ++ (begins_first layout ++ (loaded_words ++ last))) (head_events layout)
        (are-append 2 drafted_words (begins_first layout ++ (loaded_words ++ last)) (are_each 2 (drafts_word layout word) (words_in layout) (λ k lt. (omega arith, (in_chunk layout k lt, fits k))))
        (are-append 2 (begins_first layout) (loaded_words ++ last) (first_events layout)
        (are-append 2 loaded_words last (are_each 2 (loads_word layout word) (words_in layout) (λ k lt. (omega arith, (in_chunk layout k lt, fits k)))) (last_events layout))))

    each : (r : ℕ) → r < 2 → MayMakeAll (seat_of layout r) blank (events_of r (two_chunks_by layout word))
    each zero below = subst (λ (l : List Event). MayMakeAll (seat_of layout 0) blank l) (sym (listed_0 layout word)) (goes_0 layout word).may
    each (suc zero) below = subst (λ (l : List Event). MayMakeAll (seat_of layout 1) blank l) (sym (listed_1 layout word)) (goes_1 layout word).may
    each (suc (suc r)) below = absurd (omega (arith, below))
