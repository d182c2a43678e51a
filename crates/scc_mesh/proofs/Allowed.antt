-- What a step on the chip's table owes to it.
use Rattle.std.proofs.Common.{◌≡◌, ◌⊎◌, inl, inr, ℕ, ◌<◌, ◌^◌, Bool, true, false, ◌==◌, if◌then◌else◌, List, length, slice_index, slice_set, refl, sym, ◌∙◌, ap, subst}
use Rattle.std.proofs.lemmas.List.{length-set, set-get_or}
use Rattle.atomic_table.specs.Table.{Me, keeps, Allows}
use Rattle.scc_base.specs.Numbers.{word_number, register_number}
use Rattle.scc_base.specs.Places.{WordAt, IsPlace}
use Rattle.scc_base.specs.Events.{IsEvent, load_of, store_of, take_of, free_of}
use Rattle.scc_base.specs.Setups.{SetupView}
use Rattle.scc_base.specs.declared.events.Access.{Access}
use Rattle.scc_base.specs.declared.events.Access.TheVariants.{Load, Store, Take, Free}
use Rattle.scc_base.specs.declared.events.Event.{Event}
use Rattle.scc_proto.specs.Words.{IsStep, memory_after, SameWords}
use Rattle.scc_proto.specs.Records.{IsPermitted, record_of}
use Rattle.scc_proto.specs.Registers.{Holder, Nobody, HeldBy}
use Rattle.scc_proto.specs.Memories.{memory_of}
use Rattle.scc_mesh.specs.SeatViews.{SeatView, list_at, IsKnown, with_event}
use Rattle.scc_mesh.specs.Keeping.{records_by, Together, Kept, KeepsRule, Made, Looked, MayAccess, event_found}
use Rattle.scc_proto.proofs.Words.MemoryLemmas.{word_is, register_is, words_kept, word_stored, register_freed, register_taken}
use Rattle.scc_mesh.proofs.TableLaws.{step_keeps, step_tells, look_tells, look_keeps}

-- the words after a change of one are those of a permitted event
pub record IsMade (s : SetupView) (r : ℕ) (events : List Event) (words now : List ℕ) (e : Event) : Type 0 where
  pub event : IsEvent e
  pub step : IsStep (memory_of words) e
  pub may : IsPermitted s r (record_of s r events) e
  pub same : SameWords (memory_after (memory_of words) e) (memory_of now)

-- a change of the word i by f is this event, by the number found
abbrev pub Makes : SetupView → ℕ → List Event → (ℕ → Event) → ℕ → (ℕ → ℕ) → Type 0
Makes s r events event i f = (words : List ℕ) (lists : ℕ → List Event) → length words ≡ 49200 → Together s (memory_of words) lists → slice_index words i < 18446744073709551616
    → IsMade s r events words (slice_set words i (f (slice_index words i))) (event (slice_index words i))

pub makes_load : (s : SetupView) (r : ℕ) (events : List Event) (place : WordAt) → IsPlace place → Makes s r events (load_of place) (word_number place.core place.line place.word) (λ n. n)
makes_load s r events place is words lists long together lt = record {
  event = (is, lt);
  step = word_is words place is;
  may = refl;
  same = words_kept words (word_number place.core place.line place.word) (slice_index words (word_number place.core place.line place.word)) refl;
}

pub makes_store : (s : SetupView) (r : ℕ) (events : List Event) (place : WordAt) (value : ℕ) → IsPlace place → value < 2 ^ 64 → IsPermitted s r (record_of s r events) (store_of place value)
    → Makes s r events (λ n. store_of place value) (word_number place.core place.line place.word) (λ n. value)
makes_store s r events place value is fits may words lists long together lt = record { event = (is, fits); step = tt; may = may; same = word_stored words place value is long }

abbrev IsBit : ℕ → Type 0
IsBit n = (n ≡ 0) ⊎ (n ≡ 1)

pub makes_take : (s : SetupView) (r : ℕ) (events : List Event) (core : ℕ) → core < 48 → IsPermitted s r (record_of s r events) (take_of core false)
    → Makes s r events (λ n. take_of core (n == 0)) (register_number core) (λ n. 1)
makes_take s r events core below may words lists long together lt =
    let n = slice_index words (register_number core) in
    let taken = register_taken words core below long n refl (number_found (together.agree.registers core).holder) in
    record { event = (below, refl, bit (n == 0)); step = taken.step; may = may; same = taken.same }
  where
    bit : (b : Bool) → IsBit (if b then 1 else 0)
    bit true = inr refl
    bit false = inl refl

    number_found : Holder s.nue ((memory_of words).register core) core (records_by s lists) → (slice_index words (register_number core) ≡ 0) ⊎ (slice_index words (register_number core) ≡ 1)
    number_found (Nobody zero none) = inl (sym (register_is words core below) ∙ zero)
    number_found (HeldBy holder lt one holds others) = inr (sym (register_is words core below) ∙ one)

pub makes_free : (s : SetupView) (r : ℕ) (events : List Event) (core : ℕ) → core < 48 → IsPermitted s r (record_of s r events) (free_of core)
    → Makes s r events (λ n. free_of core) (register_number core) (λ n. 0)
makes_free s r events core below may words lists long together lt = record { event = (below, refl, refl); step = tt; may = may; same = register_freed words core below long }

module _ {S : Type 0} (s : SetupView) (slots id : ℕ) (me : Me S SeatView) where
  -- `told` is what the play is told of the number found
  pub allowed_event : (about : SetupView) (rank r : ℕ) (picked event : ℕ → Event) (told f : ℕ → ℕ) (word i : ℕ) → about ≡ s → rank ≡ r → ((n : ℕ) → picked (told n) ≡ event n) → word ≡ i
      → IsKnown me.0 r → Makes s r (list_at me.0 r) event i f
      → Allows (KeepsRule s) slots id me word f (λ n now. Made about rank me.0 (picked (told n)) now.0 × (now.1 ≡ me.1))
  allowed_event about rank r picked event told f word i about_is rank_is event_is word_is here makes =
      subst (λ x. Allows (KeepsRule s) slots id me x f (λ n now. Made about rank me.0 (picked (told n)) now.0 × (now.1 ≡ me.1))) (sym word_is) at_word
    where
      at_word : Allows (KeepsRule s) slots id me i f (λ n now. Made about rank me.0 (picked (told n)) now.0 × (now.1 ≡ me.1))
      at_word table kept homes at_id lt =
          let words = table.words in
          let n = slice_index words i in
          let now = slice_set words i (f n) in
          let made = makes words kept.lists kept.count kept.together lt in
          let long : length now ≡ 49200 = length-set words i (f n) ∙ kept.count in
          let keep = step_keeps s words now table.views kept id me.0 at_id r here (event n) made.event made.step made.may long made.same in
          let tell = step_tells s words now table.views kept id me.0 at_id r here (event n) made.event made.step made.may long made.same in
          let w = with_event me.0 r (event n) in
          let told_so : Made about rank me.0 (picked (told n)) w = subst (λ (x : SetupView). Made x rank me.0 (picked (told n)) w) (sym about_is)
          (subst (λ x. Made s x me.0 (picked (told n)) w) (sym rank_is) (subst (λ (x : Event). Made s r me.0 x w) (sym (event_is n)) tell)) in
          (w, keeps, tt, keep, (told_so, refl))

  pub allowed_look : (about : SetupView) → about ≡ s → Allows (KeepsRule s) slots id me 0 (λ n. n) (λ n now. Looked about me.0 now.0 × (now.1 ≡ me.1))
  allowed_look about about_is table kept homes at_id lt =
      let keep : Kept s table.words (slice_set table.views id me.0) = look_keeps s table.words table.views kept id me.0 at_id in
      let kept_now : Kept s (slice_set table.words 0 (slice_index table.words 0)) (slice_set table.views id me.0) = subst (λ (x : List ℕ). Kept s x (slice_set table.views id me.0)) (sym (set-get_or table.words 0 0)) keep in
      (me.0, keeps, tt, kept_now, (subst (λ (x : SetupView). Looked x me.0 me.0) (sym about_is) (record { view = refl; knows = look_tells s table.words table.views kept id me.0 at_id }), refl))

-- what a play of these aims made, in the words of the caller
pub made_so : {about now : SetupView} {rank r : ℕ} {picked event : ℕ → Event} {old new : SeatView} (n : ℕ) → (about ≡ now) × (rank ≡ r) × (picked ≡ event)
    → Made about rank old (picked n) new → Made now r old (event n) new
made_so {now = now} {rank = rank} {r = r} {picked = picked} {old = old} {new = new} n aim made =
    subst (λ (x : Event). Made now r old x new) (λ i. aim.2 i n)
    (subst (λ (x : ℕ). Made now x old (picked n) new) aim.1 (subst (λ (x : SetupView). Made x rank old (picked n) new) aim.0 made))

-- ---- an access, by its kind

module _ {S : Type 0} (s now : SetupView) (key : s ≡ now) (slots id : ℕ) (me : Me S SeatView) (about : SetupView) (rank r : ℕ) (picked : ℕ → Event) (access : Access) (place : WordAt) (value : ℕ)
    (aim : (about ≡ now) × (rank ≡ r) × (picked ≡ (λ n. event_found access place value n))) (here : IsKnown me.0 r) (may : MayAccess now r (list_at me.0 r) access place value) where
  picks : (kind : Access) → access ≡ kind → (n : ℕ) → picked n ≡ event_found kind place value n
  picks kind is n = (λ i. aim.2 i n) ∙ ap (λ (a : Access). event_found a place value n) is

  may_as : (kind : Access) → access ≡ kind → MayAccess s r (list_at me.0 r) kind place value
  may_as kind is = subst (λ (a : Access). MayAccess s r (list_at me.0 r) a place value) is (subst (λ (x : SetupView). MayAccess x r (list_at me.0 r) access place value) (sym key) may)

  about_is : about ≡ s
  about_is = aim.0 ∙ sym key

  pub allowed_load : access ≡ Load → IsPlace place → (word : ℕ) → word ≡ word_number place.core place.line place.word
      → Allows (KeepsRule s) slots id me word (λ n. n) (λ n now. Made about rank me.0 (picked n) now.0 × (now.1 ≡ me.1))
  allowed_load is valid word at = allowed_event s slots id me about rank r picked (load_of place) (λ n. n) (λ n. n) word (word_number place.core place.line place.word)
      about_is aim.1 (picks Load is) at here (makes_load s r (list_at me.0 r) place valid)

  pub allowed_store : access ≡ Store → IsPlace place → value < 2 ^ 64 → (word : ℕ) → word ≡ word_number place.core place.line place.word
      → Allows (KeepsRule s) slots id me word (λ n. value) (λ n now. Made about rank me.0 (picked value) now.0 × (now.1 ≡ me.1))
  allowed_store is valid fits word at = allowed_event s slots id me about rank r picked (λ n. store_of place value) (λ n. value) (λ n. value) word (word_number place.core place.line place.word)
      about_is aim.1 (λ n. picks Store is value) at here (makes_store s r (list_at me.0 r) place value valid fits (may_as Store is))

  pub allowed_take : access ≡ Take → place.core < 48 → (word : ℕ) → word ≡ register_number place.core
      → Allows (KeepsRule s) slots id me word (λ n. 1) (λ n now. Made about rank me.0 (picked n) now.0 × (now.1 ≡ me.1))
  allowed_take is valid word at = allowed_event s slots id me about rank r picked (λ n. take_of place.core (n == 0)) (λ n. n) (λ n. 1) word (register_number place.core)
      about_is aim.1 (picks Take is) at here (makes_take s r (list_at me.0 r) place.core valid (may_as Take is))

  pub allowed_free : access ≡ Free → place.core < 48 → (word : ℕ) → word ≡ register_number place.core
      → Allows (KeepsRule s) slots id me word (λ n. 0) (λ n now. Made about rank me.0 (picked 0) now.0 × (now.1 ≡ me.1))
  allowed_free is valid word at = allowed_event s slots id me about rank r picked (λ n. free_of place.core) (λ n. 0) (λ n. 0) word (register_number place.core)
      about_is aim.1 (λ n. picks Free is 0) at here (makes_free s r (list_at me.0 r) place.core valid (may_as Free is))
