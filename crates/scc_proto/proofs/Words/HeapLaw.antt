-- The heap stores of a record are those of its events, and a loaded heap word was stored or is 0.
use Rattle.std.proofs.Common.{◌≡◌, ◌⊎◌, inl, inr, ⊎_elim, ℕ, zero, suc, ◌<◌, Bool, true, false, not, ◌&&◌, ◌==◌, if◌then◌else◌, List, [], ◌∷◌, Option, Some, None, is_some, Contains, refl, ap, subst, arith}
use Rattle.std.proofs.lemmas.List.Elements.{Contains-append_cases, Contains-append_right}
use Rattle.scc_base.specs.Places.{WordAt}
use Rattle.scc_base.specs.Events.{IsEvent, load_of, store_of}
use Rattle.scc_base.specs.Setups.{SetupView, place_of}
use Rattle.scc_base.specs.declared.events.Access.{Access}
use Rattle.scc_base.specs.declared.events.Access.TheVariants.{Load, Store, Take, Free}
use Rattle.scc_base.specs.declared.events.Event.{Event}
use Rattle.scc_proto.specs.Stages.{HeapStore, Record, blank}
use Rattle.scc_proto.specs.Moves.{Move, DraftHeader, DraftChunk, RaiseSignal, LookSignal, LowerSignal, FlipGather, LookGather, WriteRelease, LookRelease, NoMove, Misplaced, heap_after}
use Rattle.scc_proto.specs.Words.{Memory, IsStep, Role, HeaderWord, ChunkWord, SignalFlag, SignalFlags, GatherFlag, ReleaseFlag, HeapWord, IdleWord, role_of}
use Rattle.scc_proto.specs.Records.{chunk_of, last_of, leads, look_at, look_at_bits, load_by, lowered_below, raises_bit, move_at, change_at, flags_noted, store_by, EventAct, Moving, NotingSignal, Holding, load_act, store_act, act_by, act_of, after_act, is_permitted, record_after, record_from, record_of}
use Rattle.scc_proto.specs.Agreement.{WordAgrees, WasStored, Agrees}

-- a move that stores nothing in the heap
abbrev Quiet : Move → Type 0
Quiet move = (heap : List HeapStore) → heap_after move heap ≡ heap

quiet_if : (b : Bool) (x y : Move) → Quiet x → Quiet y → Quiet (if b then x else y)
quiet_if true x y p q = p
quiet_if false x y p q = q

module _ (s : SetupView) (me : ℕ) where
  load_quiet : (value : ℕ) (role : Role) → Quiet (load_by s me value role)
  load_quiet value (HeaderWord owner k) = λ heap. refl
  load_quiet value (ChunkWord owner k) = λ heap. refl
  load_quiet value (SignalFlag signal by at) = quiet_if (at == me) (LookSignal signal (look_at by value)) NoMove (λ heap. refl) (λ heap. refl)
  load_quiet value (SignalFlags signal at) = quiet_if (at == me) (LookSignal signal (look_at_bits s me value)) NoMove (λ heap. refl) (λ heap. refl)
  load_quiet value (GatherFlag comm owner) = quiet_if (leads s comm me owner) (LookGather comm owner (place_of s comm owner) value) NoMove (λ heap. refl) (λ heap. refl)
  load_quiet value (ReleaseFlag comm owner) = quiet_if ((owner == me) && not (leads s comm me me)) (LookRelease comm value) NoMove (λ heap. refl) (λ heap. refl)
  load_quiet value HeapWord = λ heap. refl
  load_quiet value IdleWord = λ heap. refl

  at_quiet : (move : ℕ → Move) (o : Option ℕ) → ((j : ℕ) → Quiet (move j)) → Quiet (move_at move o)
  at_quiet move None quiet = λ heap. refl
  at_quiet move (Some j) quiet = quiet j

  change_quiet : (lower raise : ℕ → Move) (owner new : ℕ) (o : Option ℕ) → ((j : ℕ) → Quiet (lower j)) → ((j : ℕ) → Quiet (raise j)) → Quiet (change_at lower raise s me owner new o)
  change_quiet lower raise owner new None a b = λ heap. refl
  change_quiet lower raise owner new (Some old) a b = quiet_if (owner == me) (move_at lower (lowered_below me old new s.nue)) _ (at_quiet lower (lowered_below me old new s.nue) a)
      (quiet_if (raises_bit me old new) (raise owner) Misplaced (b owner) (λ heap. refl))

  -- a store that is a move changes the heap stores by itself alone
  store_heap : (rec : Record) (place : WordAt) (value : ℕ) (role : Role) (heap : List HeapStore) (x : HeapStore) → Contains (heap_after (store_by s me rec place value role) heap) x
      → Contains heap x ⊎ (record { place = place; value = value } ≡ x)
  store_heap rec place value role heap x has = by role has
    where
      same : (move : Move) → Quiet move → Contains (heap_after move heap) x → Contains heap x ⊎ (record { place = place; value = value } ≡ x)
      same move quiet has = inl (subst (λ (h : List HeapStore). Contains h x) (quiet heap) has)

      one : Contains (record { place = place; value = value } ∷ []) x → record { place = place; value = value } ≡ x
      one (zero, lt, is) = is
      one (suc k, lt, is) = absurd (omega (arith, lt))

      by : (role : Role) → Contains (heap_after (store_by s me rec place value role) heap) x → Contains heap x ⊎ (record { place = place; value = value } ≡ x)
      by (HeaderWord owner k) has = same _ (quiet_if (owner == me) (DraftHeader k value) Misplaced (λ h. refl) (λ h. refl)) has
      by (ChunkWord owner k) has = same _ (quiet_if (owner == me) (DraftChunk k value) Misplaced (λ h. refl) (λ h. refl)) has
      by (SignalFlag signal rank at) has = same _ (quiet_if ((rank == me) && (value == 1)) (RaiseSignal signal at) _ (λ h. refl) (quiet_if ((at == me) && (value == 0)) (LowerSignal signal rank) Misplaced (λ h. refl) (λ h. refl))) has
      by (SignalFlags signal at) has = same _ (change_quiet (LowerSignal signal) (RaiseSignal signal) at value (flags_noted signal rec place.core) (λ j h. refl) (λ j h. refl)) has
      by (GatherFlag comm owner) has = same _ (quiet_if (owner == me) (FlipGather comm value (last_of s comm me)) Misplaced (λ h. refl) (λ h. refl)) has
      by (ReleaseFlag comm owner) has = same _ (quiet_if (leads s comm me owner) (WriteRelease comm owner (place_of s comm owner) value (last_of s comm me)) Misplaced (λ h. refl) (λ h. refl)) has
      by HeapWord has = ⊎_elim (λ (c : Contains heap x). inl c) (λ (c : Contains (record { place = place; value = value } ∷ []) x). inr (one c)) (Contains-append_cases heap (record { place = place; value = value } ∷ []) x has)
      by IdleWord has = inl has

  load_heap : (rec : Record) (place : WordAt) (value : ℕ) (role : Role) (x : HeapStore) → Contains (after_act (chunk_of s) (load_act s me rec place value role) rec).heap x → Contains rec.heap x
  load_heap rec place value role x has = by role has
    where
      moving : (move : Move) → Quiet move → Contains (heap_after move rec.heap) x → Contains rec.heap x
      moving move quiet has = subst (λ (h : List HeapStore). Contains h x) (quiet rec.heap) has

      noting : (b : Bool) (one other : EventAct) → (after_act (chunk_of s) one rec).heap ≡ rec.heap → (after_act (chunk_of s) other rec).heap ≡ rec.heap → (after_act (chunk_of s) (if b then one else other) rec).heap ≡ rec.heap
      noting true one other p q = p
      noting false one other p q = q

      by : (role : Role) → Contains (after_act (chunk_of s) (load_act s me rec place value role) rec).heap x → Contains rec.heap x
      by (HeaderWord owner k) has = has
      by (ChunkWord owner k) has = has
      by (SignalFlag signal rank at) has = moving (load_by s me value (SignalFlag signal rank at)) (load_quiet value (SignalFlag signal rank at)) has
      by (SignalFlags signal at) has = subst (λ (h : List HeapStore). Contains h x)
          (noting (is_some (rec.held place.core)) (NotingSignal signal place.core value) (Moving (load_by s me value (SignalFlags signal at))) refl (load_quiet value (SignalFlags signal at) rec.heap)) has
      by (GatherFlag comm owner) has = moving (load_by s me value (GatherFlag comm owner)) (load_quiet value (GatherFlag comm owner)) has
      by (ReleaseFlag comm owner) has = moving (load_by s me value (ReleaseFlag comm owner)) (load_quiet value (ReleaseFlag comm owner)) has
      by HeapWord has = has
      by IdleWord has = has

  store_act_heap : (rec : Record) (place : WordAt) (value : ℕ) (role : Role) → (after_act (chunk_of s) (store_act s me rec place value role) rec).heap ≡ heap_after (store_by s me rec place value role) rec.heap
  store_act_heap rec place value (HeaderWord owner k) = refl
  store_act_heap rec place value (ChunkWord owner k) = refl
  store_act_heap rec place value (SignalFlag signal by at) = refl
  store_act_heap rec place value (SignalFlags signal at) = refl
  store_act_heap rec place value (GatherFlag comm owner) = refl
  store_act_heap rec place value (ReleaseFlag comm owner) = refl
  store_act_heap rec place value HeapWord = refl
  store_act_heap rec place value IdleWord = refl

  -- one event adds a heap store only where it is that store
  heap_by : (rec : Record) (access : Access) (place : WordAt) (value : ℕ) (x : HeapStore) → Contains (after_act (chunk_of s) (act_by s me rec access place value) rec).heap x
      → Contains rec.heap x ⊎ (record { access = access; place = place; value = value } ≡ store_of x.place x.value)
  heap_by rec Load place value x has = inl (load_heap rec place value (role_of s place) x has)
  heap_by rec Store place value x has =
      ⊎_elim (λ (c : Contains rec.heap x). inl c) (λ (e : record { place = place; value = value } ≡ x). inr (ap (λ (y : HeapStore). store_of y.place y.value) e))
      (store_heap rec place value (role_of s place) rec.heap x (subst (λ (h : List HeapStore). Contains h x) (store_act_heap rec place value (role_of s place)) has))
  heap_by rec Take place value x has = inl (taken (value == 1) has)
    where
      taken : (b : Bool) → Contains (after_act (chunk_of s) (if b then Holding place.core else Moving NoMove) rec).heap x → Contains rec.heap x
      taken true has = has
      taken false has = has
  heap_by rec Free place value x has = inl has

  heap_next : (rec : Record) (e : Event) (x : HeapStore) → Contains (record_after s me rec e).heap x → Contains rec.heap x ⊎ (e ≡ store_of x.place x.value)
  unfolding act_of
  heap_next rec e x has = by (is_permitted s me rec e) has
    where
      by : (b : Bool) → Contains (if b then after_act (chunk_of s) (act_by s me rec e.access e.place e.value) rec else rec).heap x → Contains rec.heap x ⊎ (e ≡ store_of x.place x.value)
      by true has = heap_by rec e.access e.place e.value x has
      by false has = inl has

  heap_from : (rec : Record) (events : List Event) (x : HeapStore) → Contains (record_from s me rec events).heap x → Contains rec.heap x ⊎ Contains events (store_of x.place x.value)
  heap_from rec [] x has = inl has
  heap_from rec (e ∷ events) x has =
      ⊎_elim (λ (old : Contains (record_after s me rec e).heap x).
      ⊎_elim (λ (c : Contains rec.heap x). inl c) (λ (is : e ≡ store_of x.place x.value). inr (0, omega arith, is)) (heap_next rec e x old))
      (λ (later : Contains events (store_of x.place x.value)). inr (Contains-append_right (e ∷ []) events (store_of x.place x.value) later))
      (heap_from (record_after s me rec e) events x has)

-- a heap store of the record is an event of the list
pub heap_listed : (s : SetupView) (me : ℕ) (events : List Event) (x : HeapStore) → Contains (record_of s me events).heap x → Contains events (store_of x.place x.value)
unfolding record_of
heap_listed s me events x has = ⊎_elim (λ (c : Contains [] x). absurd (none c)) (λ (l : Contains events (store_of x.place x.value)). l) (heap_from s me blank events x has)
  where
    none : Contains [] x → ⊥
    none (k, lt, is) = omega (arith, lt)

-- a value loaded from a heap word is 0, or some rank's list has it as stored there
pub heap_loaded : (s : SetupView) (memory : Memory) (lists : ℕ → List Event) → Agrees s memory (λ r. record_of s r (lists r)) → (place : WordAt) (value : ℕ)
    → IsEvent (load_of place value) → IsStep memory (load_of place value) → role_of s place ≡ HeapWord
    → (value ≡ 0) ⊎ ((r : ℕ) × (r < s.nue) × Contains (lists r) (store_of place value))
heap_loaded s memory lists agrees place value is step heap =
    let word : WordAgrees s place value (λ r. record_of s r (lists r)) HeapWord =
    subst (λ (x : Role). WordAgrees s place value (λ r. record_of s r (lists r)) x) heap
    (subst (λ v. WordAgrees s place v (λ r. record_of s r (lists r)) (role_of s place)) step (agrees.words place is.0)) in
    ⊎_elim (λ (z : value ≡ 0). inl z) (λ (w : WasStored s.nue (λ r. record_of s r (lists r)) place value). inr (w.by, w.below, heap_listed s w.by (lists w.by) (record { place = place; value = value }) w.stored)) word
