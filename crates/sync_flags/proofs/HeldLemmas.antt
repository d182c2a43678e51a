-- Loads and stores leave the registers that a rank holds.
use Rattle.std.proofs.Common.{◌≡◌, ℕ, Bool, true, false, ◌==◌, if◌then◌else◌, Option, Some, None, is_some, option_map, refl, sym, ◌∙◌, ap}
use Rattle.scc_base.specs.Places.{WordAt}
use Rattle.scc_base.specs.Setups.{SetupView}
use Rattle.scc_base.specs.Events.{load_of, store_of}
use Rattle.scc_proto.specs.Tables.{table_with}
use Rattle.scc_proto.specs.Stages.{FlagWords, Record}
use Rattle.scc_proto.specs.Words.{Role, HeaderWord, ChunkWord, SignalFlag, SignalFlags, GatherFlag, ReleaseFlag, HeapWord, IdleWord, role_of}
use Rattle.scc_proto.specs.Records.{EventAct, Moving, NotingSignal, ChangingSignal, Holding, Freeing, act_of, load_act, store_act, after_act, permits_act, chunk_of, note_flags, forget_flags}
use Rattle.scc_proto.specs.Ports.{Seat, record_next}
use Rattle.scc_proto.proofs.Tests.{same_by_eqb}
use Rattle.tas_lock.specs.Holds.{IsHolding}

is_freeing : EventAct → Bool
is_freeing (Freeing core) = true
is_freeing (Moving move) = false
is_freeing (NotingSignal signal core value) = false
is_freeing (ChangingSignal signal core move) = false
is_freeing (Holding core) = false

some_mapped : (change : FlagWords → FlagWords) (o : Option FlagWords) → is_some o ≡ true → is_some (option_map change o) ≡ true
some_mapped change None h = h
some_mapped change (Some x) h = refl

put_some : (held : ℕ → Option FlagWords) (core k : ℕ) (o : Option FlagWords) → (core ≡ k → is_some o ≡ true) → is_some (held k) ≡ true
    → is_some (table_with held core o k) ≡ true
put_some held core k o here there = by (k == core) refl
  where
    by : (b : Bool) → (k == core) ≡ b → is_some (if k == core then o else held k) ≡ true
    by true e = (λ i. is_some (if e i then o else held k)) ∙ here (sym (same_by_eqb k core e))
    by false e = (λ i. is_some (if e i then o else held k)) ∙ there

changed_some : (change : FlagWords → FlagWords) (held : ℕ → Option FlagWords) (core k : ℕ) → is_some (held k) ≡ true
    → is_some (table_with held core (option_map change (held core)) k) ≡ true
changed_some change held core k h =
    put_some held core k (option_map change (held core)) (λ e. some_mapped change (held core) (ap (λ (x : ℕ). is_some (held x)) e ∙ h)) h

holds_after : (size : ℕ) (a : EventAct) (rec : Record) (k : ℕ) → is_freeing a ≡ false → IsHolding rec k → IsHolding (after_act size a rec) k
unfolding is_freeing
holds_after size (Moving move) rec k quiet h = h
holds_after size (NotingSignal signal core value) rec k quiet h = changed_some (note_flags signal value) rec.held core k h
holds_after size (ChangingSignal signal core move) rec k quiet h = changed_some (forget_flags signal) rec.held core k h
holds_after size (Holding core) rec k quiet h = put_some rec.held core k (Some (record { sent = None; ready = None })) (λ e. refl) h
holds_after size (Freeing core) rec k quiet h = absurd (cc)

either_quiet : (b : Bool) (x y : EventAct) → is_freeing x ≡ false → is_freeing y ≡ false → is_freeing (if b then x else y) ≡ false
either_quiet true x y p q = p
either_quiet false x y p q = q

load_quiet : (s : SetupView) (me : ℕ) (rec : Record) (place : WordAt) (value : ℕ) (role : Role) → is_freeing (load_act s me rec place value role) ≡ false
unfolding is_freeing
load_quiet s me rec place value (SignalFlags signal at) = either_quiet (is_some (rec.held place.core)) _ _ refl refl
load_quiet s me rec place value (HeaderWord owner k) = refl
load_quiet s me rec place value (ChunkWord owner k) = refl
load_quiet s me rec place value (SignalFlag signal by at) = refl
load_quiet s me rec place value (GatherFlag comm owner) = refl
load_quiet s me rec place value (ReleaseFlag comm owner) = refl
load_quiet s me rec place value HeapWord = refl
load_quiet s me rec place value IdleWord = refl

store_quiet : (s : SetupView) (me : ℕ) (rec : Record) (place : WordAt) (value : ℕ) (role : Role) → is_freeing (store_act s me rec place value role) ≡ false
unfolding is_freeing
store_quiet s me rec place value (SignalFlags signal at) = refl
store_quiet s me rec place value (HeaderWord owner k) = refl
store_quiet s me rec place value (ChunkWord owner k) = refl
store_quiet s me rec place value (SignalFlag signal by at) = refl
store_quiet s me rec place value (GatherFlag comm owner) = refl
store_quiet s me rec place value (ReleaseFlag comm owner) = refl
store_quiet s me rec place value HeapWord = refl
store_quiet s me rec place value IdleWord = refl

pub holds_load : (seat : Seat) (rec : Record) (place : WordAt) (value k : ℕ) → IsHolding rec k → IsHolding (record_next seat rec (load_of place value)) k
unfolding record_next act_of
holds_load seat rec place value k h =
    holds_after (chunk_of seat.setup) (load_act seat.setup seat.rank rec place value (role_of seat.setup place)) rec k
    (load_quiet seat.setup seat.rank rec place value (role_of seat.setup place)) h

pub holds_store : (seat : Seat) (rec : Record) (place : WordAt) (value k : ℕ) → IsHolding rec k → IsHolding (record_next seat rec (store_of place value)) k
unfolding record_next act_of
holds_store seat rec place value k h =
    let act = store_act seat.setup seat.rank rec place value (role_of seat.setup place) in
    either (permits_act (chunk_of seat.setup) act rec) (after_act (chunk_of seat.setup) act rec)
    (holds_after (chunk_of seat.setup) act rec k (store_quiet seat.setup seat.rank rec place value (role_of seat.setup place)) h)
  where
    either : (b : Bool) (later : Record) → IsHolding later k → IsHolding (if b then later else rec) k
    either true later x = x
    either false later x = h
