-- What calls over the heap do to the record of a rank: what it stored there, and nothing else.
use Rattle.std.proofs.Common.{◌≡◌, ℕ, zero, suc, ◌+◌, ◌<◌, ◌≤◌, Bool, true, false, if◌then◌else◌, List, [], ◌∷◌, ◌++◌, slice_index, slice_index_or, Option, Some, None, Result, Ok, Err, OnErr, OnOk, is_none, is_some, refl, sym, ap, ◌∙◌, subst, arith}
use Rattle.scc_base.specs.Places.{FlagPlace, first_heap, WordAt}
use Rattle.scc_base.specs.Setups.{IsSetup, host_of}
use Rattle.scc_base.specs.Events.{free_of, load_of, store_of}
use Rattle.scc_base.specs.declared.events.Event.{Event}
use Rattle.scc_base.specs.declared.events.Stalled as base
use Rattle.scc_proto.specs.Tables.{table_with}
use Rattle.scc_proto.specs.Stages.{FlagWords, Record}
use Rattle.scc_proto.specs.Permission.{leaves_heap}
use Rattle.scc_proto.specs.Ports.{Did, Seat, Sight, record_in, record_next, record_on}
use Rattle.scc_proto.proofs.PortLaws.{record_did, record_on-append, seat_kept}
use Rattle.scc_proto.proofs.Layouts.PlaceMoves.{heap_loaded, heap_stored}
use Rattle.scc_proto.proofs.Tests.{put_here, put_there, same_or_other}
use Rattle.write_combine.specs.declared.combiner.Out.{Out}
use Rattle.write_combine.specs.Combining.{whole_line}
use Rattle.put_get.specs.Accesses.{loads_of, store_of_word, stores_of_line}
use Rattle.put_get.specs.Cores.{Fetch, Held, Loaded, Private, ReadsLine}
use Rattle.put_get.specs.declared.transfers.RangeFault.{RangeFault}
use Rattle.put_get.specs.Transfers.{Gets, Puts, ReadsLines, line_at, put_stores}
use Rattle.tas_lock.specs.Holds.{IsHolding, IsNotHolding, record_after_release, after_try}
use Rattle.tas_lock.proofs.HoldLemmas.{next_freed, next_tried}
use Rattle.sync_flags.specs.Flags.{flag_of, flag_value, with_bit}
use Rattle.sync_flags.specs.Looks.{LooksAll, ReadsFlag, WaitsFor}
use Rattle.sync_flags.specs.Writes.{WritesFlag, change_events, failed_takes}
use Rattle.station.specs.Stations.{HoldsNoRegister}

-- a record that differs from another in its heap at most
pub record HeapAlone (rec new : Record) : Type 0 where
  pub stage : new.stage ≡ rec.stage
  pub post : new.post ≡ rec.post
  pub flips : new.flips ≡ rec.flips
  pub calls : new.calls ≡ rec.calls
  pub held : (core : ℕ) → new.held core ≡ rec.held core

nothing : (rec : Record) → HeapAlone rec rec
nothing rec = record { stage = refl; post = refl; flips = refl; calls = refl; held = λ core. refl }

one_and_then : {rec mid new : Record} → HeapAlone rec mid → HeapAlone mid new → HeapAlone rec new
one_and_then a b = record {
  stage = b.stage ∙ a.stage;
  post = b.post ∙ a.post;
  flips = b.flips ∙ a.flips;
  calls = b.calls ∙ a.calls;
  held = λ core. b.held core ∙ a.held core;
}

same_record : {rec new : Record} → new ≡ rec → HeapAlone rec new
same_record {rec} same = subst (λ (x : Record). HeapAlone rec x) (sym same) (nothing rec)

after_both : (seat : Seat) (rec : Record) (a b : List Event) → HeapAlone rec (record_on seat rec a) → HeapAlone (record_on seat rec a) (record_on seat (record_on seat rec a) b)
    → HeapAlone rec (record_on seat rec (a ++ b))
after_both seat rec a b first second = subst (λ (x : Record). HeapAlone rec x) (sym (record_on-append seat rec a b)) (one_and_then first second)

-- the rank of a seat may use the heap at a rank of the run
module _ (seat : Seat) (valid : IsSetup seat.setup) (r : ℕ) (lt : r < seat.setup.nue) where
  abbrev place_of : ℕ → ℕ → WordAt
  place_of line word = record { core = host_of seat.setup.hosts r; line = line; word = word }

  abbrev line_of : ℕ → List ℕ → Out
  line_of line words = whole_line (line_at (host_of seat.setup.hosts r) line) words

  store_alone : (rec : Record) (line word value : ℕ) → first_heap ≤ line → leaves_heap rec.stage ≡ true → HeapAlone rec (record_next seat rec (store_of (place_of line word) value))
  store_alone rec line word value high leaves =
      let becomes = (heap_stored seat rec valid r line word value lt high leaves).becomes in
      record {
        stage = ap (λ (x : Record). x.stage) becomes;
        post = ap (λ (x : Record). x.post) becomes;
        flips = ap (λ (x : Record). x.flips) becomes;
        calls = ap (λ (x : Record). x.calls) becomes;
        held = λ core. ap (λ (x : Record). x.held core) becomes;
      }

  still_leaves : {rec new : Record} → HeapAlone rec new → leaves_heap rec.stage ≡ true → leaves_heap new.stage ≡ true
  still_leaves alone leaves = ap leaves_heap alone.stage ∙ leaves

  word_alone : (rec : Record) (line : ℕ) (words : List ℕ) (k : ℕ) → first_heap ≤ line → leaves_heap rec.stage ≡ true
      → HeapAlone rec (record_on seat rec (store_of_word (line_of line words) k))
  word_alone rec line words k high leaves = by (slice_index_or (line_of line words).mask k false)
    where
      by : (b : Bool) → HeapAlone rec (record_on seat rec (if b then store_of (place_of line k) (slice_index (line_of line words).words k) ∷ [] else []))
      by true = store_alone rec line k (slice_index (line_of line words).words k) high leaves
      by false = nothing rec

  line_alone : (rec : Record) (line : ℕ) (words : List ℕ) → first_heap ≤ line → leaves_heap rec.stage ≡ true
      → HeapAlone rec (record_on seat rec (stores_of_line (line_of line words)))
  line_alone rec line words high leaves =
      let o : Out = line_of line words in
      let r1 : Record = record_on seat rec (store_of_word o 3) in
      let r2 : Record = record_on seat r1 (store_of_word o 2) in
      let r3 : Record = record_on seat r2 (store_of_word o 1) in
      let a : HeapAlone rec r1 = word_alone rec line words 3 high leaves in
      let leaves1 : leaves_heap r1.stage ≡ true = still_leaves a leaves in
      let b : HeapAlone r1 r2 = word_alone r1 line words 2 high leaves1 in
      let leaves2 : leaves_heap r2.stage ≡ true = still_leaves b leaves1 in
      let c : HeapAlone r2 r3 = word_alone r2 line words 1 high leaves2 in
      let d = word_alone r3 line words 0 high (still_leaves c leaves2) in
      after_both seat rec (store_of_word o 3) (store_of_word o 2 ++ (store_of_word o 1 ++ store_of_word o 0)) a
      (after_both seat r1 (store_of_word o 2) (store_of_word o 1 ++ store_of_word o 0) b (after_both seat r2 (store_of_word o 1) (store_of_word o 0) c d))

  -- the stores of a put
  put_alone : (src : List (List ℕ)) (rec : Record) (line : ℕ) → first_heap ≤ line → leaves_heap rec.stage ≡ true
      → HeapAlone rec (record_on seat rec (put_stores (host_of seat.setup.hosts r) line src))
  put_alone [] rec line high leaves = nothing rec
  put_alone (words ∷ src) rec line high leaves =
      let stores : List Event = stores_of_line (line_of line words) in
      let first = line_alone rec line words high leaves in
      after_both seat rec stores (put_stores (host_of seat.setup.hosts r) (line + 1) src) first
      (put_alone src (record_on seat rec stores) (line + 1) (omega (arith, high)) (still_leaves first leaves))

  -- the loads of a line of the heap
  loads_nothing : (rec : Record) (line : ℕ) (words : List ℕ) → first_heap ≤ line → record_on seat rec (loads_of (line_at (host_of seat.setup.hosts r) line) words) ≡ rec
  loads_nothing rec line words high =
      let e1 = load_of (place_of line 1) (slice_index words 1) in
      let e2 = load_of (place_of line 2) (slice_index words 2) in
      let e3 = load_of (place_of line 3) (slice_index words 3) in
      ap (λ (x : Record). record_next seat (record_next seat (record_next seat x e1) e2) e3) (heap_loaded seat rec valid r line 0 (slice_index words 0) lt high).becomes
      ∙ ap (λ (x : Record). record_next seat (record_next seat x e2) e3) (heap_loaded seat rec valid r line 1 (slice_index words 1) lt high).becomes
      ∙ ap (λ (x : Record). record_next seat x e3) (heap_loaded seat rec valid r line 2 (slice_index words 2) lt high).becomes
      ∙ (heap_loaded seat rec valid r line 3 (slice_index words 3) lt high).becomes

  -- the seat and the record are as before
  record IsAsBefore (s t : Sight) : Type 0 where
    seat_is : t.seat ≡ seat
    same : record_in t ≡ record_in s

  same_sight : {s t : Sight} → t ≡ s → s.seat ≡ seat → IsAsBefore s t
  same_sight same at = record { seat_is = ap (λ (x : Sight). x.seat) same ∙ at; same = ap (λ (x : Sight). record_in x) same }

  as_before_both : {s m t : Sight} → IsAsBefore s m → IsAsBefore m t → IsAsBefore s t
  as_before_both a b = record { seat_is = b.seat_is; same = b.same ∙ a.same }

  loaded : {s t : Sight} (line : ℕ) (words : List ℕ) → first_heap ≤ line → s.seat ≡ seat → Did s (loads_of (line_at (host_of seat.setup.hosts r) line) words) t → IsAsBefore s t
  loaded {s} {t} line words high at did =
      let loads : List Event = loads_of (line_at (host_of seat.setup.hosts r) line) words in
      record {
        seat_is = seat_kept s loads t did ∙ at;
        same = record_did s loads t did ∙ ap (λ (x : Seat). record_on x (record_in s) loads) at ∙ loads_nothing (record_in s) line words high;
      }

  fetched : {s t : Sight} {c d : Private} (line : ℕ) (words : List ℕ) → first_heap ≤ line → s.seat ≡ seat → Fetch s c (line_at (host_of seat.setup.hosts r) line) words t d → IsAsBefore s t
  fetched line words high at (Held held same core) = same_sight same at
  fetched line words high at (Loaded none long did fills) = loaded line words high at did

  line_read : {s t : Sight} {c d : Private} (line : ℕ) (words : List ℕ) → first_heap ≤ line → s.seat ≡ seat → ReadsLine s c (line_at (host_of seat.setup.hosts r) line) words t d → IsAsBefore s t
  line_read line words high at reads =
      let a = fetched line reads.word0.words high at reads.word0.fetch in
      let b = fetched line reads.word1.words high a.seat_is reads.word1.fetch in
      let c = fetched line reads.word2.words high b.seat_is reads.word2.fetch in
      as_before_both a (as_before_both b (as_before_both c (fetched line reads.word3.words high c.seat_is reads.word3.fetch)))

  lines_read : (dst : List (List ℕ)) {s t : Sight} (c d : Private) (line : ℕ) → first_heap ≤ line → s.seat ≡ seat → ReadsLines s c (host_of seat.setup.hosts r) line dst t d → IsAsBefore s t
  lines_read [] c d line high at reads = same_sight reads.0 at
  lines_read (words ∷ dst) c d line high at reads =
      let first = line_read line words high at reads.2 in
      as_before_both first (lines_read dst reads.1 d (line + 1) (omega (arith, high)) first.seat_is reads.3)

  looks_read : (looks : List (List ℕ)) {s t : Sight} (c d : Private) (line : ℕ) → first_heap ≤ line → s.seat ≡ seat → LooksAll s c (line_at (host_of seat.setup.hosts r) line) looks t d → IsAsBefore s t
  looks_read [] c d line high at all = same_sight all.0 at
  looks_read (words ∷ looks) c d line high at all =
      let first = loaded line words high at all.2.did in
      as_before_both first (looks_read looks all.1 d line high first.seat_is all.3)

  -- ---- a flag that is a bit

  free_of_none : (rec : Record) (core : ℕ) → HoldsNoRegister rec → IsNotHolding rec core
  free_of_none rec core none = ap (λ (o : Option FlagWords). is_none o) (none core)

  failed_nothing : (n : ℕ) (rec : Record) (core : ℕ) → IsNotHolding rec core → record_on seat rec (failed_takes core n) ≡ rec
  failed_nothing zero rec core free = refl
  failed_nothing (suc n) rec core free = ap (λ (x : Record). record_on seat x (failed_takes core n)) (next_tried seat rec core false free) ∙ failed_nothing n rec core free

  bit_alone : (rec : Record) (line word b : ℕ) (set : Bool) (words : List ℕ) → first_heap ≤ line → leaves_heap rec.stage ≡ true → HoldsNoRegister rec
      → HeapAlone rec (record_on seat rec (change_events (place_of line word) b set words))
  bit_alone rec line word b set words high leaves none =
      let core : ℕ = host_of seat.setup.hosts r in
      let value : ℕ = with_bit b set (slice_index words word) in
      let free : IsNotHolding rec core = ap (λ (o : Option FlagWords). is_none o) (none core) in
      let held : Record = after_try core true rec in
      let tail : List Event = store_of (place_of line word) value ∷ free_of core ∷ [] in
      let loads : List Event = loads_of (line_at core line) words in
      let stored : Record = record_next seat held (store_of (place_of line word) value) in
      let alone : HeapAlone held stored = store_alone held line word value high leaves in
      let holding : IsHolding stored core = ap (λ (o : Option FlagWords). is_some o) (alone.held core ∙ put_here rec.held core (Some (record { sent = None; ready = None }))) in
      let is : record_on seat rec (change_events (place_of line word) b set words) ≡ record_after_release core stored
      = ap (λ (x : Record). record_on seat x (loads ++ tail)) (next_tried seat rec core true free) ∙ record_on-append seat held loads tail
      ∙ ap (λ (x : Record). record_on seat x tail) (loads_nothing held line words high) ∙ next_freed seat stored core holding in
      subst (λ (x : Record). HeapAlone rec x) (sym is)
      (record {
        stage = alone.stage;
        post = alone.post;
        flips = alone.flips;
        calls = alone.calls;
        held = λ k. same_or_other (table_with stored.held core None k ≡ rec.held k) k core
            (λ test same. ap (λ (x : ℕ). table_with stored.held core None x) same ∙ put_here stored.held core None ∙ sym (none core) ∙ ap (λ (x : ℕ). rec.held x) (sym same))
            (λ test other. put_there stored.held core None k other ∙ alone.held k ∙ put_there rec.held core (Some (record { sent = None; ready = None })) k other);
      })

  -- ---- calls

  -- a call over the heap changed no more of a record than its heap
  pub record IsHeapCall (s t : Sight) (d : Private) : Type 0 where
    pub seat_is : t.seat ≡ seat
    pub alone : HeapAlone (record_in s) (record_in t)
    pub empty : d.out ≡ None

  as_heap_call : {s t : Sight} {d : Private} → IsAsBefore s t → d.out ≡ None → IsHeapCall s t d
  as_heap_call before empty = record { seat_is = before.seat_is; alone = same_record before.same; empty = empty }

  did_alone : {s t : Sight} {events : List Event} → s.seat ≡ seat → Did s events t → HeapAlone (record_in s) (record_on seat (record_in s) events) → HeapAlone (record_in s) (record_in t)
  did_alone {s} {t} {events} at did alone =
      subst (λ (x : Record). HeapAlone (record_in s) x) (sym (record_did s events t did ∙ ap (λ (x : Seat). record_on x (record_in s) events) at)) alone

  module _ (s t : Sight) (c d : Private) (at : s.seat ≡ seat) (leaves : leaves_heap (record_in s).stage ≡ true) (none : HoldsNoRegister (record_in s)) where
    pub put_call : (result : Result Unit RangeFault) (line : ℕ) (src : List (List ℕ)) → first_heap ≤ line → c.out ≡ None → OnErr result (t ≡ s) → OnErr result (d ≡ c)
        → OnOk result (Puts s c (host_of seat.setup.hosts r) line src t d) → IsHeapCall s t d
    put_call (Ok done) line src high empty same core puts = record {
      seat_is = seat_kept s (put_stores (host_of seat.setup.hosts r) line src) t puts.did ∙ at;
      alone = did_alone at puts.did (put_alone src (record_in s) line high leaves);
      empty = ap (λ (x : Private). x.out) puts.is ∙ empty;
    }
    put_call (Err fault) line src high empty same core puts = as_heap_call (same_sight same at) (ap (λ (x : Private). x.out) core ∙ empty)

    pub get_call : (result : Result Unit RangeFault) (line : ℕ) (dst : List (List ℕ)) → first_heap ≤ line → c.out ≡ None → OnErr result (t ≡ s) → OnErr result (d ≡ c)
        → OnOk result (Gets s c (host_of seat.setup.hosts r) line dst t d) → IsHeapCall s t d
    get_call (Ok done) line dst high empty same core gets = as_heap_call (lines_read dst (record c { lines = [] }) d line high at gets.reads) (gets.out ∙ empty)
    get_call (Err fault) line dst high empty same core gets = as_heap_call (same_sight same at) (ap (λ (x : Private). x.out) core ∙ empty)

    module _ (f : FlagPlace) (high : first_heap ≤ f.line) (empty : d.out ≡ None) where
      pub read_call : (found : Bool) → ReadsFlag s c (flag_of seat.setup r f) f.bit found t d → IsHeapCall s t d
      read_call found reads = as_heap_call (loaded f.line reads.words high at reads.looks.did) empty

      pub wait_call : (want : Bool) (polls : ℕ) (result : Result Unit base.Stalled) → WaitsFor s c (flag_of seat.setup r f) f.bit want polls t d result → IsHeapCall s t d
      wait_call want polls (Ok done) finds =
          let failed = looks_read finds.looks.looks c finds.core f.line high at finds.looks.looked in
          as_heap_call (as_before_both failed (loaded f.line finds.reads.words high failed.seat_is finds.reads.looks.did)) empty
      wait_call want polls (Err stalled) failed = as_heap_call (looks_read failed.0.looks c d f.line high at failed.0.looked) empty

      pub set_call : (set : Bool) (polls : ℕ) (bit : Option ℕ) (result : Result Unit base.Stalled) → WritesFlag s c (flag_of seat.setup r f) bit set polls t d result → IsHeapCall s t d
      set_call set polls None (Ok done) writes = record {
        seat_is = seat_kept s (store_of (flag_of seat.setup r f) (flag_value set) ∷ []) t writes.did ∙ at;
        alone = did_alone at writes.did (store_alone (record_in s) f.line f.word (flag_value set) high leaves);
        empty = empty;
      }
      set_call set polls None (Err stalled) writes = absurd writes
      set_call set polls (Some b) (Ok done) writes =
          let core : ℕ = host_of seat.setup.hosts r in
          let failed : List Event = failed_takes core writes.failed in
          let change : List Event = change_events (flag_of seat.setup r f) b set writes.words in
          let tried = failed_nothing writes.failed (record_in s) core (free_of_none (record_in s) core none) in
          record {
            seat_is = seat_kept s (failed ++ change) t writes.did ∙ at;
            alone = did_alone at writes.did (subst (λ (x : Record). HeapAlone (record_in s) x)
                (sym (record_on-append seat (record_in s) failed change ∙ ap (λ (x : Record). record_on seat x change) tried))
                (bit_alone (record_in s) f.line f.word b set writes.words high leaves none));
            empty = empty;
          }
      set_call set polls (Some b) (Err stalled) writes =
          let core : ℕ = host_of seat.setup.hosts r in
          record {
            seat_is = seat_kept s (failed_takes core polls) t writes.0.did ∙ at;
            alone = did_alone at writes.0.did (same_record (failed_nothing polls (record_in s) core (free_of_none (record_in s) core none)));
            empty = empty;
          }
