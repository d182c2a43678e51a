-- A rank that has only taken and freed registers, and accessed words of the heap, has a quiet record; so each
-- of its loads is honest, and its record is sound.
use Rattle.std.proofs.Common.{◌≡◌, ⊎_elim, inl, inr, ℕ, Bool, true, false, ◌&&◌, ◌==◌, if◌then◌else◌, nat_lt, nat_le, List, [], ◌∷◌, ◌++◌, Option, Some, None, is_some, is_none, option_and_then, refl, sym, ◌∙◌, ap, subst, arith}
use Rattle.std.specs.Prelude.{◌⊎◌}
use Rattle.std.proofs.lemmas.Bool.Decides.{nat_tests}
use Rattle.scc_base.specs.Places.{first_heap, WordAt}
use Rattle.scc_base.specs.Layouts.{first_gather, first_chunk}
use Rattle.scc_base.specs.Setups.{SetupView}
use Rattle.scc_base.specs.declared.layouts.Layout.{Layout}
use Rattle.scc_base.specs.declared.layouts.Layout.TheVariants.{LineFlags, BitFlags}
use Rattle.scc_base.specs.declared.events.Access.{Access}
use Rattle.scc_base.specs.declared.events.Access.TheVariants.{Load, Store, Take, Free}
use Rattle.scc_base.specs.declared.events.Event.{Event}
use Rattle.scc_base.specs.declared.signals.Signal.{Signal}
use Rattle.scc_base.specs.declared.signals.Signal.TheVariants.{Sent, Ready}
use Rattle.scc_proto.specs.Tables.{table_with}
use Rattle.scc_proto.specs.Stages.{FlagWords, Record, blank}
use Rattle.scc_proto.specs.Moves.{StoreHeap, NoMove, after}
use Rattle.scc_proto.specs.Permission.{permits}
use Rattle.scc_proto.specs.Words.{Role, HeapWord, IdleWord, role_of, role_where, rank_on}
use Rattle.scc_proto.specs.Records.{Moving, Holding, flags_in, act_of, act_by, after_act, load_act, store_act, permits_act, permits_by, chunk_of, record_after, record_from, record_of}
use Rattle.scc_proto.specs.Ports.{Sight, IsSoundPort, record_in}
use Rattle.tas_lock.specs.Holds.{IsNotHolding}
use Rattle.scc_rows.specs.Quiet.{is_quiet_access, are_quiet, IsQuietRecord}

both : (a b : Bool) → (a && b) ≡ true → (a ≡ true) × (b ≡ true)
both true b t = (refl, t)
both false b t = absurd (cc)

-- ---- what a heap line's word is for

not_first : (line : ℕ) → nat_le 225 line ≡ true → (line == 0) ≡ false
not_first line h = grind (arith, nat_tests)

above_flags : (layout : Layout) (line : ℕ) → nat_le 225 line ≡ true → nat_lt line (first_gather layout) ≡ false
above_flags LineFlags line h = grind (arith, nat_tests)
above_flags BitFlags line h = grind (arith, nat_tests)

above_barriers : (layout : Layout) (line : ℕ) → nat_le 225 line ≡ true → nat_lt line (first_chunk layout) ≡ false
above_barriers LineFlags line h = grind (arith, nat_tests)
above_barriers BitFlags line h = grind (arith, nat_tests)

above_chunks : (line : ℕ) → nat_le 225 line ≡ true → nat_lt line 225 ≡ false
above_chunks line h = grind (arith, nat_tests)

four_tests : {A : Type 0} (a b c d : Bool) (v w x y z : A) → a ≡ false → b ≡ false → c ≡ false → d ≡ false
    → (if a then v else (if b then w else (if c then x else (if d then y else z)))) ≡ z
four_tests a b c d v w x y z p q r t = λ i. if p i then v else (if q i then w else (if r i then x else (if t i then y else z)))

heap_or_idle : (s : SetupView) (o : Option ℕ) (line word : ℕ) → nat_le 225 line ≡ true
    → (role_where s o line word ≡ HeapWord) ⊎ (role_where s o line word ≡ IdleWord)
heap_or_idle s None line word h = inr refl
heap_or_idle s (Some owner) line word h =
    inl (four_tests (line == 0) (nat_lt line (first_gather s.layout)) (nat_lt line (first_chunk s.layout)) (nat_lt line first_heap) _ _ _ _ HeapWord
    (not_first line h) (above_flags s.layout line h) (above_barriers s.layout line h) (above_chunks line h))

by_role : (s : SetupView) (place : WordAt) (P : Role → Type 0) → nat_le 225 place.line ≡ true → P HeapWord → P IdleWord → P (role_of s place)
by_role s place P h heap idle = ⊎_elim
    (λ (e : role_of s place ≡ HeapWord). subst P (sym e) heap)
    (λ (e : role_of s place ≡ IdleWord). subst P (sym e) idle)
    (heap_or_idle s (rank_on s place.core) place.line place.word h)

-- ---- the record after such an event

either : (b : Bool) (late rec : Record) → IsQuietRecord late → IsQuietRecord rec → IsQuietRecord (if b then late else rec)
either true late rec x y = x
either false late rec x y = y

none_put : (field : FlagWords → Option ℕ) (held : ℕ → Option FlagWords) (core k : ℕ) (o : Option FlagWords) → option_and_then field o ≡ None
    → option_and_then field (held k) ≡ None → option_and_then field (table_with held core o k) ≡ None
none_put field held core k o here there = by (k == core)
  where
    by : (b : Bool) → option_and_then field (if b then o else held k) ≡ None
    by true = here
    by false = there

held_quiet : (rec : Record) (core : ℕ) (o : Option FlagWords) → ((signal : Signal) → option_and_then (λ (flags : FlagWords). flags_in signal flags) o ≡ None)
    → IsQuietRecord rec → IsQuietRecord (record rec { held = table_with rec.held core o })
held_quiet rec core o none q = record {
  stage = q.stage;
  post = q.post;
  notes = q.notes;
  flags = λ signal k. none_put (λ (flags : FlagWords). flags_in signal flags) rec.held core k o (none signal) (q.flags signal k);
}

-- a register that was just taken has no word noted under it
none_noted : (signal : Signal) → option_and_then (λ (flags : FlagWords). flags_in signal flags) (Some (record { sent = None; ready = None })) ≡ None
none_noted Sent = refl
none_noted Ready = refl

no_move : (size : ℕ) (rec : Record) → IsQuietRecord rec → IsQuietRecord (after size NoMove rec)
no_move size rec q = record { stage = q.stage; post = q.post; notes = q.notes; flags = q.flags }

heap_move : (size : ℕ) (place : WordAt) (value : ℕ) (rec : Record) → IsQuietRecord rec → IsQuietRecord (after size (StoreHeap place value) rec)
heap_move size place value rec q = record { stage = q.stage; post = q.post; notes = q.notes; flags = q.flags }

take_quiet : (size core : ℕ) (rec : Record) → IsQuietRecord rec → IsQuietRecord (record rec { held = table_with rec.held core (Some (record { sent = None; ready = None })) })
take_quiet size core rec q = held_quiet rec core (Some (record { sent = None; ready = None })) none_noted q

quiet_by : (s : SetupView) (me : ℕ) (rec : Record) (access : Access) (place : WordAt) (value : ℕ) → is_quiet_access access place ≡ true → IsQuietRecord rec
    → IsQuietRecord (if permits_by s me rec access place value then after_act (chunk_of s) (act_by s me rec access place value) rec else rec)
quiet_by s me rec Load place value h q =
    by_role s place (λ (role : Role). IsQuietRecord (after_act (chunk_of s) (load_act s me rec place value role) rec)) h
    (no_move (chunk_of s) rec q) (no_move (chunk_of s) rec q)
quiet_by s me rec Store place value h q =
    by_role s place (λ (role : Role). IsQuietRecord (if permits_act (chunk_of s) (store_act s me rec place value role) rec
    then after_act (chunk_of s) (store_act s me rec place value role) rec else rec)) h
    (either (permits (chunk_of s) (StoreHeap place value) rec) (after (chunk_of s) (StoreHeap place value) rec) rec (heap_move (chunk_of s) place value rec q) q)
    q
quiet_by s me rec Take place value h q = either (is_none (rec.held place.core)) _ rec (taken (value == 1)) q
  where
    taken : (b : Bool) → IsQuietRecord (after_act (chunk_of s) (if b then Holding place.core else Moving NoMove) rec)
    taken true = take_quiet (chunk_of s) place.core rec q
    taken false = no_move (chunk_of s) rec q
quiet_by s me rec Free place value h q = either (is_some (rec.held place.core)) _ rec (held_quiet rec place.core None (λ signal. refl) q) q

quiet_after : (s : SetupView) (me : ℕ) (rec : Record) (e : Event) → is_quiet_access e.access e.place ≡ true → IsQuietRecord rec → IsQuietRecord (record_after s me rec e)
unfolding act_of
quiet_after s me rec e h q = quiet_by s me rec e.access e.place e.value h q

quiet_from : (s : SetupView) (me : ℕ) (rec : Record) (events : List Event) → are_quiet events ≡ true → IsQuietRecord rec → IsQuietRecord (record_from s me rec events)
quiet_from s me rec [] h q = q
quiet_from s me rec (e ∷ es) h q =
    let each = both (is_quiet_access e.access e.place) (are_quiet es) h in
    quiet_from s me (record_after s me rec e) es each.1 (quiet_after s me rec e each.0 q)

blank_quiet : IsQuietRecord blank
blank_quiet = record { stage = refl; post = refl; notes = λ j. refl; flags = λ signal core. refl }

pub quiet_record : (sight : Sight) → are_quiet sight.events ≡ true → IsQuietRecord (record_in sight)
unfolding record_in record_of
quiet_record sight h = quiet_from sight.seat.setup sight.seat.rank blank sight.events h blank_quiet

-- ---- what a port with such events promises

pub quiet_sound : (sight : Sight) → are_quiet sight.events ≡ true → IsSoundPort sight
quiet_sound sight h = let q = quiet_record sight h in record {
  heads = λ j header e. absurd (clash (q.notes j) e);
  sent_clear = λ j word peers e drafting. absurd (clash (q.flags Sent _) e);
  ready_clear = λ j word e taking. absurd (clash (q.flags Ready _) e);
  sent_set = λ j word header e seen. absurd (clash (q.flags Sent _) e);
  ready_set = λ j word e answered. absurd (clash (q.flags Ready _) e);
}
  where
    clash : {A : Type 0} {o : Option A} {x : A} → o ≡ None → o ≡ Some x → ⊥
    clash none some = absurd (cc)

pub quiet_push : (events : List Event) (e : Event) → are_quiet events ≡ true → is_quiet_access e.access e.place ≡ true → are_quiet (events ++ e ∷ []) ≡ true
quiet_push [] e h one = λ i. one i && true
quiet_push (first ∷ rest) e h one =
    let each = both (is_quiet_access first.access first.place) (are_quiet rest) h in
    λ i. each.0 i && quiet_push rest e each.1 one i

-- a list to which an event was pushed, or for which there was no memory
pub quiet_pushed : (events new : List Event) (ok : Bool) (e : Event) → new ≡ (if ok then events ++ e ∷ [] else events) → are_quiet events ≡ true
    → is_quiet_access e.access e.place ≡ true → are_quiet new ≡ true
quiet_pushed events new true e is h one = ap (λ (es : List Event). are_quiet es) is ∙ quiet_push events e h one
quiet_pushed events new false e is h one = ap (λ (es : List Event). are_quiet es) is ∙ h

-- before the first event no register is held
pub nothing_held : (sight : Sight) → sight.events ≡ [] → (core : ℕ) → IsNotHolding (record_in sight) core
unfolding record_in record_of
nothing_held sight e core = ap (λ (es : List Event). is_none ((record_from sight.seat.setup sight.seat.rank blank es).held core)) e
