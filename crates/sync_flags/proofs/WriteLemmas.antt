-- Writes of flags: one store, and a bit's change under its register.
use Rattle.std.proofs.Common.{◌≡◌, ℕ, zero, suc, ◌+◌, ◌≤◌, ◌↔◌, Bool, true, false, if◌then◌else◌, List, [], ◌∷◌, ◌++◌, Option, None, Some, Result, Ok, Err, IsErr, IfSome, is_some, slice_index, refl, sym, ◌∙◌, ap, subst, append_assoc, append-nil, arith}
use Rattle.scc_base.specs.Places.{WordAt, line_of_word}
use Rattle.scc_base.specs.Events.{store_of, take_of, free_of}
use Rattle.scc_base.specs.declared.events.Event.{Event}
use Rattle.scc_base.specs.declared.events.Stalled.{Stalled}
use Rattle.scc_proto.specs.Stages.{FlagWords, Record}
use Rattle.scc_proto.specs.Soundness.{IsSound}
use Rattle.scc_proto.specs.Ports.{Seat, Sight, Did, MayMake, MayMakeAll, WasMade, IsSoundPort, record_in, record_on, record_next}
use Rattle.scc_proto.proofs.PortLaws.{did_both, record_did, record_did_one, seat_kept}
use Rattle.scc_proto.proofs.Tests.{eqb_same, put_here}
use Rattle.write_combine.specs.declared.combiner.Out.{Out}
use Rattle.put_get.specs.Accesses.{loads_of, stores_of}
use Rattle.line_cache.specs.Lines.{lines_with_word}
use Rattle.put_get.specs.Cores.{Private, WritesThrough}
use Rattle.put_get.proofs.StepLemmas.{events_once}
use Rattle.tas_lock.specs.Holds.{IsHolding, IsNotHolding, after_try}
use Rattle.tas_lock.proofs.HoldLemmas.{next_tried}
use Rattle.sync_flags.specs.Flags.{with_bit}
use Rattle.sync_flags.specs.Tries.{AtRegister, failed_from, failed_tries, TryFailed}
use Rattle.sync_flags.specs.Looks.{LooksAt}
use Rattle.sync_flags.specs.Writes.{failed_takes, change_events, WasLoaded, MayStoreBit, MayStoreHere, MayWrite, StoresWord, TakesWithin, ChangesBit, TriesChange, RegisterTaken, BitChanged, WritesBit, GivesUp, WritesFlag}
use Rattle.sync_flags.proofs.HeldLemmas.{holds_load, holds_store}
use Rattle.sync_flags.proofs.WaitLemmas.{no_stall, stall}

-- ---- one word

-- an empty buffer hands out nothing before the word
pub may_through : (seat : Seat) (rec : Record) (out : Option Out) (p : WordAt) (v : ℕ) → out ≡ None → MayMake seat rec (store_of p v)
    → MayMakeAll seat rec (stores_of out ++ store_of p v ∷ [])
may_through seat rec out p v empty may = subst (λ (o : Option Out). MayMakeAll seat rec (stores_of o ++ store_of p v ∷ [])) (sym empty) (may, tt)

pub through_stores : {s t : Sight} {c d : Private} {p : WordAt} {v : ℕ} → WritesThrough s c p v t d → c.out ≡ None → StoresWord s c p v t d
through_stores {s} {t} {c} {d} {p} {v} w empty = record {
  did = subst (λ (o : Option Out). Did s (stores_of o ++ store_of p v ∷ []) t) empty w.did;
  is = w.is ∙ (λ i. record c { lines = lines_with_word c.lines p v; out = sym empty i });
}

pub through_empties : {s t : Sight} {c d : Private} {p : WordAt} {v : ℕ} → WritesThrough s c p v t d → d.out ≡ None
through_empties w = ap (λ (x : Private). x.out) w.is

-- ---- a bit under its register

-- the loads of a look were made, and the record is sound after them
was_loaded : {s m : Sight} {c d : Private} {p : WordAt} {v : ℕ} → (r : LooksAt s c p v m d) → IsSoundPort m
    → WasLoaded s.seat (record_in s) (loads_of (line_of_word p) r.words)
was_loaded {s} {m} {c} {d} {p} r sound =
    let loads = loads_of (line_of_word p) r.words in
    record {
      made = r.looks.did.made;
      sound = subst (λ (rec : Record). IsSound s.seat.setup s.seat.rank rec) (record_did s loads m r.looks.did)
          (subst (λ (y : Seat). IsSound y.setup y.rank (record_in m)) (seat_kept s loads m r.looks.did) sound);
    }

pub may_change : {s m : Sight} {c d : Private} {p : WordAt} {v : ℕ} → LooksAt s c p v m d → (b : ℕ) (set : Bool) (x : ℕ)
    → MayStoreHere s p b set → IsSoundPort m → x ≡ with_bit b set v → MayMake m.seat (record_in m) (store_of p x)
unfolding MayStoreHere
may_change {s} {m} {c} {d} {p} {v} r b set x may sound is =
    let loads = loads_of (line_of_word p) r.words in
    let value : with_bit b set (slice_index r.words p.word) ≡ x = ap (λ (w : ℕ). with_bit b set w) (sym r.is) ∙ sym is in
    let here : MayMake s.seat (record_on s.seat (record_in s) loads) (store_of p (with_bit b set (slice_index r.words p.word)))
    = may r.words (was_loaded r sound) in
    subst (λ (y : Seat). MayMake y (record_in m) (store_of p x)) (sym (seat_kept s loads m r.looks.did))
    (subst (λ (rec : Record). MayMake s.seat rec (store_of p x)) (sym (record_did s loads m r.looks.did))
    (subst (λ (w : ℕ). MayMake s.seat (record_on s.seat (record_in s) loads) (store_of p w)) value here))

pub bit_changed : {s m t : Sight} {c d1 d : Private} {p : WordAt} {v x : ℕ} → LooksAt s c p v m d1 → StoresWord m d1 p x t d → (b : ℕ) (set : Bool)
    → x ≡ with_bit b set v → IsSoundPort m → ChangesBit s c p b set t d
bit_changed {s} {m} {t} {c} {d1} {d} {p} {v} {x} r stores b set is sound =
    let looks = r.looks in
    let value : x ≡ with_bit b set (slice_index r.words p.word) = is ∙ ap (λ (w : ℕ). with_bit b set w) r.is in
    let stored = subst (λ (w : ℕ). StoresWord m d1 p w t d) value stores in
    record {
      words = r.words;
      did = did_both s (loads_of (line_of_word p) r.words) m (store_of p (with_bit b set (slice_index r.words p.word)) ∷ []) t looks.did stored.did;
      was_loaded = was_loaded r sound;
      loaded = d1;
      fills = looks.fills;
      is = stored.is;
    }

-- the registers that were held before are held after the change
pub change_holds : {s t : Sight} {c d : Private} {p : WordAt} {b : ℕ} {set : Bool} → ChangesBit s c p b set t d → (k : ℕ) → IsHolding (record_in s) k
    → IsHolding (record_in t) k
change_holds {s} {t} {c} {d} {p} {b} {set} ch k h =
    subst (λ (rec : Record). IsHolding rec k)
    (sym (record_did s (loads_of (line_of_word p) ch.words ++ store_of p (with_bit b set (slice_index ch.words p.word)) ∷ []) t ch.did))
    (holds_store s.seat _ p (with_bit b set (slice_index ch.words p.word)) k
    (holds_load s.seat _ _ (slice_index ch.words 3) k
    (holds_load s.seat _ _ (slice_index ch.words 2) k
    (holds_load s.seat _ _ (slice_index ch.words 1) k
    (holds_load s.seat (record_in s) _ (slice_index ch.words 0) k h)))))

take_made : (seat : Seat) (rec : Record) (core : ℕ) → IsNotHolding rec core → WasMade seat rec (take_of core true)
take_made seat rec core free = record { permitted = free; honest = λ value e. absurd (cc) }

-- under the register that was taken the change is permitted
pub may_under : (s t : Sight) (p : WordAt) (b : ℕ) (set : Bool) → t.seat ≡ s.seat → record_in t ≡ after_try p.core true (record_in s)
    → MayWrite s.seat (record_in s) p (Some b) set → MayStoreHere t p b set
unfolding MayStoreHere
may_under s t p b set seat holds may =
    let take = take_of p.core true in
    let late : record_in t ≡ record_next s.seat (record_in s) take = holds ∙ sym (next_tried s.seat (record_in s) p.core true may.0) in
    let here : MayStoreBit s.seat (record_next s.seat (record_in s) take) [] p b set
    = λ words loaded. may.1 words (record { made = (take_made s.seat (record_in s) p.core may.0, loaded.made); sound = loaded.sound }) in
    subst (λ (y : Seat). MayStoreBit y (record_in t) [] p b set) (sym seat)
    (subst (λ (rec : Record). MayStoreBit s.seat rec [] p b set) (sym late) here)

-- the register that was taken is held
pub held_here : (rec : Record) (core held : ℕ) → held ≡ core → IsHolding (after_try core true rec) held
held_here rec core held same = subst (λ (k : ℕ). IsHolding (after_try core true rec) k) (sym same)
    (ap (λ (o : Option FlagWords). is_some o) (put_here rec.held core (Some (record { sent = None; ready = None }))))

-- a register that was not held, and was found taken, is not held
pub still_free : (rec new : Record) (core at : ℕ) → new ≡ after_try at false rec → IsNotHolding rec core → IsNotHolding new core
still_free rec new core at same free = subst (λ (x : Record). IsNotHolding x core) (sym same) free

-- the register that was held is freed
pub freed_at : (rec : Record) (core at held : ℕ) → held ≡ at → at ≡ core → IsNotHolding rec held → IsNotHolding rec core
freed_at rec core at held names is free = subst (λ (k : ℕ). IsNotHolding rec k) (names ∙ is) free

-- a fact of a flag that is a bit
pub no_bit : (P : Type 0) (bit : Option ℕ) → bit ≡ None → IfSome bit (λ b. P)
no_bit P None e = tt
no_bit P (Some b) e = absurd (cc)

pub each_bit : (P : Type 0) (bit : Option ℕ) → P → IfSome bit (λ b. P)
each_bit P None x = tt
each_bit P (Some b) x = x

pub of_bit : (P : Type 0) (bit : Option ℕ) (b : ℕ) → bit ≡ Some b → IfSome bit (λ b. P) → P
of_bit P None b e x = absurd (cc)
of_bit P (Some k) b e x = x

-- a write of a flag leaves the seat
pub written_seat : (s t : Sight) (c d : Private) (p : WordAt) (bit : Option ℕ) (set : Bool) (polls : ℕ) (result : Result Unit Stalled) → WritesFlag s c p bit set polls t d result → t.seat ≡ s.seat
written_seat s t c d p None set polls (Ok done) w = seat_kept s _ t w.did
written_seat s t c d p None set polls (Err stalled) w = absurd w
written_seat s t c d p (Some b) set polls (Ok done) w = seat_kept s _ t w.did
written_seat s t c d p (Some b) set polls (Err stalled) w = seat_kept s _ t w.0.did

-- one vain take more
takes_more : (core k : ℕ) → failed_takes core (suc k) ≡ failed_takes core k ++ take_of core false ∷ []
takes_more core zero = refl
takes_more core (suc k) = ap (λ (es : List Event). take_of core false ∷ es) (takes_more core k)

pub failed_take_more : (s m t : Sight) (core k : ℕ) → Did s (failed_takes core k) m → Did m (take_of core false ∷ []) t → Did s (failed_takes core (k + 1)) t
failed_take_more s m t core k first one =
    let next : suc k ≡ k + 1 = omega arith in
    subst (λ (es : List Event). Did s es t) (sym (takes_more core k) ∙ ap (λ (n : ℕ). failed_takes core n) next)
    (did_both s (failed_takes core k) m (take_of core false ∷ []) t first one)

-- the seat is kept while a register is taken
pub takes_seat : (s t : Sight) (core polls held : ℕ) → TakesWithin s core polls t (Some held) → t.seat ≡ s.seat
takes_seat s t core polls held takes = seat_kept s (failed_takes core takes.1.0 ++ take_of core true ∷ []) t takes.1.2

pub bit_written : {s m n t : Sight} {c d : Private} {p : WordAt} {b : ℕ} {set : Bool} → ChangesBit m c p b set n d → (polls core held : ℕ)
    → core ≡ p.core → TakesWithin s core polls m (Some held) → Did n (free_of held ∷ []) t → WritesBit s c p b set polls t d
bit_written {s} {m} {n} {t} {c} {d} {p} {b} {set} ch polls core held at takes frees =
    let took = subst (λ (k : ℕ). Did s (failed_takes k takes.1.0 ++ take_of k true ∷ []) m) at takes.1.2 in
    let freed = subst (λ (k : ℕ). Did n (free_of k ∷ []) t) (takes.0 ∙ at) frees in
    let change = loads_of (line_of_word p) ch.words ++ store_of p (with_bit b set (slice_index ch.words p.word)) ∷ [] in
    record {
      failed = takes.1.0;
      few = takes.1.1;
      words = ch.words;
      did = subst (λ (es : List Event). Did s es t) (append_assoc (failed_takes p.core takes.1.0) (take_of p.core true ∷ []) (change ++ free_of p.core ∷ []))
          (did_both s (failed_takes p.core takes.1.0 ++ take_of p.core true ∷ []) m (change ++ free_of p.core ∷ []) t took
          (did_both m change n (free_of p.core ∷ []) t ch.did freed));
      loaded = ch.loaded;
      fills = ch.fills;
      is = ch.is;
    }

-- one try
pub bit_missed : {s t : Sight} {c : Private} {p : WordAt} {b : ℕ} {set : Bool} → (core : ℕ) → core ≡ p.core → Did s (take_of core false ∷ []) t
    → TriesChange s c p b set false t c
bit_missed {s} {t} core at takes = RegisterTaken refl (subst (λ (k : ℕ). Did s (take_of k false ∷ []) t) at takes) refl

pub bit_tried : {s m n t : Sight} {c d : Private} {p : WordAt} {b : ℕ} {set : Bool} → ChangesBit m c p b set n d → (core held : ℕ)
    → core ≡ p.core → Did s (take_of core true ∷ []) m → held ≡ core → Did n (free_of held ∷ []) t → TriesChange s c p b set true t d
bit_tried {s} {m} {n} {t} {c} {d} {p} {b} {set} ch core held at takes names frees =
    let take = take_of p.core true in
    let loads = loads_of (line_of_word p) ch.words in
    let change = loads ++ store_of p (with_bit b set (slice_index ch.words p.word)) ∷ [] in
    let took = subst (λ (k : ℕ). Did s (take_of k true ∷ []) m) at takes in
    let freed = subst (λ (k : ℕ). Did n (free_of k ∷ []) t) (names ∙ at) frees in
    let loaded : WasLoaded s.seat (record_next s.seat (record_in s) take) loads
    = subst (λ (rec : Record). WasLoaded s.seat rec loads) (record_did_one s take m took)
    (subst (λ (y : Seat). WasLoaded y (record_in m) loads) (seat_kept s (take ∷ []) m took) ch.was_loaded) in
    BitChanged refl ch.words (record { made = (took.made.0, loaded.made); sound = loaded.sound })
    (did_both s (take ∷ []) m (change ++ free_of p.core ∷ []) t took (did_both m change n (free_of p.core ∷ []) t ch.did freed))
    ch.loaded ch.fills ch.is

-- ---- where a write has tried in vain

add_more : (n m : ℕ) → suc n + m ≡ n + suc m
add_more n m = omega arith

takes_count : (core n k : ℕ) (es : List Event) → failed_from (AtRegister core) false n (failed_takes core k ++ es) ≡ failed_from (AtRegister core) false (n + k) es
takes_count core n zero es = let none : n ≡ n + 0 = omega arith in ap (λ (m : ℕ). failed_from (AtRegister core) false m es) none
takes_count core n (suc k) es =
    (λ i. failed_from (AtRegister core) false (if eqb_same core i then suc n else n) (failed_takes core k ++ es))
    ∙ takes_count core (suc n) k es ∙ ap (λ (m : ℕ). failed_from (AtRegister core) false m es) (add_more n k)

pub word_no_stall : {s t : Sight} {c d : Private} {p : WordAt} {v : ℕ} → StoresWord s c p v t d → (core : ℕ) (events : List Event) → Did s events t
    → failed_tries (AtRegister core) events ≡ 0
word_no_stall {s} {t} {c} {d} {p} {v} w core events did =
    ap (λ (es : List Event). failed_tries (AtRegister core) es) (events_once s t events (store_of p v ∷ []) did w.did)

written_ends : {s t : Sight} {c d : Private} {p : WordAt} {b : ℕ} {set : Bool} {polls : ℕ} → WritesBit s c p b set polls t d → (events : List Event)
    → Did s events t → failed_tries (AtRegister p.core) events ≡ 0
written_ends {s} {t} {c} {d} {p} {b} {set} w events did =
    ap (λ (es : List Event). failed_tries (AtRegister p.core) es)
    (events_once s t events (failed_takes p.core w.failed ++ change_events p b set w.words) did w.did)
    ∙ takes_count p.core 0 w.failed (change_events p b set w.words)

gave_up : {s t : Sight} {c d : Private} {p : WordAt} {polls : ℕ} → GivesUp s c p polls t d → (events : List Event) → Did s events t
    → failed_tries (AtRegister p.core) events ≡ polls
gave_up {s} {t} {c} {d} {p} {polls} w events did =
    ap (λ (es : List Event). failed_tries (AtRegister p.core) es)
    (events_once s t events (failed_takes p.core polls) did w.did ∙ sym (append-nil (failed_takes p.core polls)))
    ∙ takes_count p.core 0 polls [] ∙ plus_none polls
  where
    plus_none : (n : ℕ) → 0 + n ≡ n
    plus_none n = omega arith

pub bit_stalls : (s t : Sight) (c d : Private) (p : WordAt) (b : ℕ) (set : Bool) (polls : ℕ) (result : Result Unit Stalled)
    → WritesFlag s c p (Some b) set polls t d result → 1 ≤ polls → (events : List Event) → Did s events t
    → IsErr result ↔ TryFailed (AtRegister p.core) polls events
bit_stalls s t c d p b set polls (Ok done) w some events did = no_stall done (AtRegister p.core) polls events some (written_ends w events did)
bit_stalls s t c d p b set polls (Err stalled) w some events did = stall stalled (AtRegister p.core) polls events (gave_up w.0 events did)
