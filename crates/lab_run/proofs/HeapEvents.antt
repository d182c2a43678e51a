-- Accesses to heap words by a rank with no unfinished call are permitted; they change neither its stage, nor what it holds, nor a register.
use Rattle.std.proofs.Common.{◌≡◌, ℕ, Bool, true, false, if◌then◌else◌, List, [], ◌∷◌, ◌++◌, length, slice_index, slice_index_or, Option, None, Some, refl, sym, ◌∙◌, ap, subst, arith}
use Rattle.std.proofs.lemmas.List.{append_assoc, map-append}
use Rattle.scc_base.specs.Places.{LineAt, WordAt, line_of_word, word_of_line}
use Rattle.scc_base.specs.Events.{load_of, store_of}
use Rattle.scc_base.specs.Setups.{SetupView, IsSetup}
use Rattle.scc_base.specs.declared.events.Access.{Access}
use Rattle.scc_base.specs.declared.events.Access.TheVariants.{Load, Store, Take, Free}
use Rattle.scc_base.specs.declared.events.Event.{Event}
use Rattle.scc_proto.specs.Stages.{Idle, Record}
use Rattle.scc_proto.specs.Permission.{leaves_heap}
use Rattle.scc_proto.specs.Words.{Memory, zeros, IsRun, RankEvent, memory_by}
use Rattle.scc_proto.specs.Histories.{memory_from}
use Rattle.scc_proto.specs.Ports.{Seat, Did, MayMake, MayMakeAll, record_in, record_next, record_on}
use Rattle.scc_proto.proofs.PortLaws.{record_did}
use Rattle.scc_proto.proofs.Layouts.PlaceMoves.{heap_loaded, heap_stored}
use Rattle.write_combine.specs.declared.combiner.Out.{Out}
use Rattle.put_get.specs.Accesses.{loads_of, store_of_word, stores_of_line, stores_of}
use Rattle.put_get.specs.HeapStores.{IsHeapLine, AwaitsHeap}
use Rattle.chip_memory.specs.Chips.{TurnChipView, all_events, of_rank_all, of_rank, turn_sight}
use Rattle.scc_proto.proofs.Messages.ChunkRecords.{memory_from-append}
use Rattle.chip_memory.proofs.ChipLaws.{chip_did}
use Rattle.chip_memory.proofs.ListLaws.{run_left}
use Rattle.lab_plain.specs.Scenes.{after_all, line_in}
use Rattle.lab_run.specs.Turns.{memory_in, MadeHeapAccesses}

abbrev IsHeapAccess : SetupView → Access → WordAt → Type 0
IsHeapAccess s Load place = IsHeapLine s (line_of_word place)
IsHeapAccess s Store place = IsHeapLine s (line_of_word place)
IsHeapAccess s Take place = ⊥
IsHeapAccess s Free place = ⊥

-- each of these events accesses a heap word
abbrev pub AreHeap : SetupView → List Event → Type 0
AreHeap s [] = Unit {0}
AreHeap s (e ∷ es) = IsHeapAccess s e.access e.place × AreHeap s es

heap_both : (s : SetupView) (a b : List Event) → AreHeap s a → AreHeap s b → AreHeap s (a ++ b)
heap_both s [] b first second = second
heap_both s (e ∷ a) b first second = (first.0, heap_both s a b first.1 second)

-- the stage and the held registers are unchanged
pub record Rests (old new : Record) : Type 0 where
  pub stage : new.stage ≡ old.stage
  pub held : new.held ≡ old.held

pub record Quiet (seat : Seat) (rec : Record) (events : List Event) : Type 0 where
  pub may : MayMakeAll seat rec events
  pub rests : Rests rec (record_on seat rec events)

record QuietOne (seat : Seat) (rec : Record) (e : Event) : Type 0 where
  may : MayMake seat rec e
  rests : Rests rec (record_next seat rec e)

module _ (seat : Seat) (valid : IsSetup seat.setup) where
  quiet_by : (access : Access) (rec : Record) (place : WordAt) (value : ℕ) → leaves_heap rec.stage ≡ true → IsHeapAccess seat.setup access place
      → QuietOne seat rec (record { access = access; place = place; value = value })
  quiet_by Load rec place value leaves heap =
      let makes = heap_loaded seat rec valid heap.owner place.line place.word value heap.below heap.heap in
      subst (λ (core : ℕ). QuietOne seat rec (load_of (record { core = core; line = place.line; word = place.word }) value)) (sym heap.core)
      (record { may = makes.may; rests = record { stage = ap (λ (x : Record). x.stage) makes.becomes; held = ap (λ (x : Record). x.held) makes.becomes } })
  quiet_by Store rec place value leaves heap =
      let makes = heap_stored seat rec valid heap.owner place.line place.word value heap.below heap.heap leaves in
      subst (λ (core : ℕ). QuietOne seat rec (store_of (record { core = core; line = place.line; word = place.word }) value)) (sym heap.core)
      (record { may = makes.may; rests = record { stage = ap (λ (x : Record). x.stage) makes.becomes; held = ap (λ (x : Record). x.held) makes.becomes } })
  quiet_by Take rec place value leaves heap = absurd heap
  quiet_by Free rec place value leaves heap = absurd heap

  pub quiet : (rec : Record) (events : List Event) → leaves_heap rec.stage ≡ true → AreHeap seat.setup events → Quiet seat rec events
  quiet rec [] leaves heap = record { may = tt; rests = record { stage = refl; held = refl } }
  quiet rec (e ∷ es) leaves heap =
      let one = quiet_by e.access rec e.place e.value leaves heap.0 in
      let rest = quiet (record_next seat rec e) es (ap leaves_heap one.rests.stage ∙ leaves) heap.1 in
      record { may = (one.may, rest.may); rests = record { stage = rest.rests.stage ∙ one.rests.stage; held = rest.rests.held ∙ one.rests.held } }

-- ---- the shared words

registers_by : (s : SetupView) (access : Access) (place : WordAt) (value : ℕ) (memory : Memory) → IsHeapAccess s access place → (memory_by access place value memory).register ≡ memory.register
registers_by s Load place value memory heap = refl
registers_by s Store place value memory heap = refl
registers_by s Take place value memory heap = absurd heap
registers_by s Free place value memory heap = absurd heap

registers_kept : (s : SetupView) (events : List Event) (memory : Memory) → AreHeap s events → (after_all memory events).register ≡ memory.register
registers_kept s [] memory heap = refl
registers_kept s (e ∷ es) memory heap = registers_kept s es (memory_by e.access e.place e.value memory) heap.1 ∙ registers_by s e.access e.place e.value memory heap.0

after_run : (r : ℕ) (events : List Event) (memory : Memory) → memory_from memory (of_rank_all r events) ≡ after_all memory events
after_run r [] memory = refl
after_run r (e ∷ es) memory = after_run r es (memory_by e.access e.place e.value memory)

-- a chip after more events of the rank that runs
all_more : (chip : TurnChipView) (events : List Event) → all_events (record chip { own = chip.own ++ events }) ≡ all_events chip ++ of_rank_all chip.rank events
all_more chip events = ap (λ (l : List RankEvent). chip.before ++ l) (map-append (of_rank chip.rank) chip.own events) ∙ sym (append_assoc chip.before (of_rank_all chip.rank chip.own) (of_rank_all chip.rank events))

pub all_did : (old new : TurnChipView) (events : List Event) → Did (turn_sight old) events (turn_sight new) → all_events new ≡ all_events old ++ of_rank_all old.rank events
all_did old new events did = ap all_events (chip_did old new events did) ∙ all_more old events

pub memory_did : (old new : TurnChipView) (events : List Event) → Did (turn_sight old) events (turn_sight new) → memory_in new ≡ after_all (memory_in old) events
unfolding memory_in
memory_did old new events did =
    ap (memory_from zeros) (all_did old new events did) ∙ memory_from-append zeros (all_events old) (of_rank_all old.rank events) ∙ after_run old.rank events (memory_from zeros (all_events old))

pub record Went (old new : TurnChipView) (events : List Event) : Type 0 where
  pub kept : MadeHeapAccesses old new
  pub memory : memory_in new ≡ after_all (memory_in old) events

-- the rank that runs has no unfinished call and made heap accesses
pub went : (old new : TurnChipView) (events : List Event) → IsSetup old.setup → (record_in (turn_sight old)).stage ≡ Idle → AreHeap old.setup events → Did (turn_sight old) events (turn_sight new)
    → Went old new events
went old new events valid idle heap did =
    let is = chip_did old new events did in
    let rests = (quiet (turn_sight old).seat valid (record_in (turn_sight old)) events (ap leaves_heap idle) heap).rests in
    let rec = record_did (turn_sight old) events (turn_sight new) did in
    let memory = memory_did old new events did in
    record {
      kept = record {
        turn = is ∙ (λ i. record old { own = sym (ap (λ (c : TurnChipView). c.own) is) i });
        stage = ap (λ (x : Record). x.stage) rec ∙ rests.stage;
        held = ap (λ (x : Record). x.held) rec ∙ rests.held;
        registers = ap (λ (m : Memory). m.register) memory ∙ registers_kept old.setup events (memory_in old) heap;
      };
      memory = memory;
    }

-- ---- lines

word_heap : (s : SetupView) (o : Out) (k : ℕ) → IsHeapLine s o.line → AreHeap s (store_of_word o k)
word_heap s o k heap = by (slice_index_or o.mask k false)
  where
    by : (b : Bool) → AreHeap s (if b then store_of (word_of_line o.line k) (slice_index o.words k) ∷ [] else [])
    by true = (heap, tt)
    by false = tt

pub line_heap : (s : SetupView) (o : Out) → IsHeapLine s o.line → AreHeap s (stores_of_line o)
line_heap s o heap =
    heap_both s (store_of_word o 3) _ (word_heap s o 3 heap) (heap_both s (store_of_word o 2) _ (word_heap s o 2 heap)
    (heap_both s (store_of_word o 1) _ (word_heap s o 1 heap) (word_heap s o 0 heap)))

pub out_heap : (s : SetupView) (out : Option Out) → AwaitsHeap s out → AreHeap s (stores_of out)
out_heap s None awaits = tt
out_heap s (Some o) awaits = line_heap s o awaits

pub loads_heap : (s : SetupView) (line : LineAt) (words : List ℕ) → IsHeapLine s line → AreHeap s (loads_of line words)
loads_heap s line words heap = (heap, (heap, (heap, (heap, tt))))

pub four_words : (words : List ℕ) → length words ≡ 4 → words ≡ slice_index words 0 ∷ slice_index words 1 ∷ slice_index words 2 ∷ slice_index words 3 ∷ []
four_words [] long = absurd (omega (arith, long))
four_words (a ∷ []) long = absurd (omega (arith, long))
four_words (a ∷ b ∷ []) long = absurd (omega (arith, long))
four_words (a ∷ b ∷ c ∷ []) long = absurd (omega (arith, long))
four_words (a ∷ b ∷ c ∷ d ∷ []) long = refl
four_words (a ∷ b ∷ c ∷ d ∷ e ∷ rest) long = absurd (omega (arith, long))

-- the loaded words of a line are the shared ones
pub words_loaded : (old new : TurnChipView) (line : LineAt) (words : List ℕ) → Did (turn_sight old) (loads_of line words) (turn_sight new) → IsRun zeros (all_events new) → length words ≡ 4
    → words ≡ line_in (memory_in old) line
unfolding memory_in
words_loaded old new line words did run long =
    let steps = run_left zeros (all_events old) (of_rank_all old.rank (loads_of line words)) (subst (λ (l : List RankEvent). IsRun zeros l) (all_did old new (loads_of line words) did) run) in
    four_words words long ∙ (λ i. sym steps.0 i ∷ sym steps.1.0 i ∷ sym steps.1.1.0 i ∷ sym steps.1.1.1.0 i ∷ [])
