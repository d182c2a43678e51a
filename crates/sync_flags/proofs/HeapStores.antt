-- A flag in the heap may be written by a rank that has drafted nothing, takes no chunk and is in no barrier.
use Rattle.std.proofs.Common.{◌≡◌, ℕ, ◌<◌, ◌≤◌, Bool, true, [], ◌∷◌, Some, slice_index, sym, ◌∙◌, ap, subst}
use Rattle.scc_base.specs.Places.{FlagPlace, line_of_word, word_of_line}
use Rattle.scc_base.specs.Setups.{IsSetup, host_of}
use Rattle.scc_base.specs.Events.{load_of, store_of, take_of}
use Rattle.scc_proto.specs.Stages.{Record}
use Rattle.scc_proto.specs.Permission.{leaves_heap}
use Rattle.scc_proto.specs.Ports.{Seat, MayMake, record_on, record_next}
use Rattle.scc_proto.proofs.Layouts.PlaceMoves.{heap_loaded, heap_stored}
use Rattle.put_get.specs.Accesses.{loads_of}
use Rattle.tas_lock.specs.Holds.{IsNotHolding, after_try}
use Rattle.tas_lock.proofs.HoldLemmas.{next_tried}
use Rattle.sync_flags.specs.Flags.{flag_of, with_bit}
use Rattle.sync_flags.specs.Writes.{MayWrite}

pub heap_store_may : (seat : Seat) (rec : Record) (r : ℕ) (f : FlagPlace) (value : ℕ) → IsSetup seat.setup → r < seat.setup.nue → 225 ≤ f.line
    → leaves_heap rec.stage ≡ true → MayMake seat rec (store_of (flag_of seat.setup r f) value)
heap_store_may seat rec r f value valid lt high leaves = (heap_stored seat rec valid r f.line f.word value lt high leaves).may

-- the loads of a heap line change nothing of a record
loads_nothing : (seat : Seat) (rec : Record) (r : ℕ) (f : FlagPlace) → IsSetup seat.setup → r < seat.setup.nue → 225 ≤ f.line → (k0 k1 k2 k3 : ℕ)
    → record_on seat rec (load_of (word_of_line (line_of_word (flag_of seat.setup r f)) 0) k0 ∷ load_of (word_of_line (line_of_word (flag_of seat.setup r f)) 1) k1
    ∷ load_of (word_of_line (line_of_word (flag_of seat.setup r f)) 2) k2 ∷ load_of (word_of_line (line_of_word (flag_of seat.setup r f)) 3) k3 ∷ []) ≡ rec
loads_nothing seat rec r f valid lt high k0 k1 k2 k3 =
    let line = line_of_word (flag_of seat.setup r f) in
    let e1 = load_of (word_of_line line 1) k1 in
    let e2 = load_of (word_of_line line 2) k2 in
    let e3 = load_of (word_of_line line 3) k3 in
    ap (λ (x : Record). record_next seat (record_next seat (record_next seat x e1) e2) e3) (heap_loaded seat rec valid r f.line 0 k0 lt high).becomes
    ∙ ap (λ (x : Record). record_next seat (record_next seat x e2) e3) (heap_loaded seat rec valid r f.line 1 k1 lt high).becomes
    ∙ ap (λ (x : Record). record_next seat x e3) (heap_loaded seat rec valid r f.line 2 k2 lt high).becomes
    ∙ (heap_loaded seat rec valid r f.line 3 k3 lt high).becomes

pub heap_bit_may : (seat : Seat) (rec : Record) (r : ℕ) (f : FlagPlace) (b : ℕ) (set : Bool) → IsSetup seat.setup → r < seat.setup.nue → 225 ≤ f.line
    → leaves_heap rec.stage ≡ true → IsNotHolding rec (host_of seat.setup.hosts r) → MayWrite seat rec (flag_of seat.setup r f) (Some b) set
heap_bit_may seat rec r f b set valid lt high leaves free =
    let place = flag_of seat.setup r f in
    let m = after_try place.core true rec in (
      free,
      λ words loaded.
          let loads = loads_of (line_of_word place) words in
          let is : record_on seat rec (take_of place.core true ∷ loads) ≡ m
          = ap (λ (x : Record). record_on seat x loads) (next_tried seat rec place.core true free)
          ∙ loads_nothing seat m r f valid lt high (slice_index words 0) (slice_index words 1) (slice_index words 2) (slice_index words 3) in
          subst (λ (x : Record). MayMake seat x (store_of place (with_bit b set (slice_index words place.word)))) (sym is)
          (heap_store_may seat m r f (with_bit b set (slice_index words place.word)) valid lt high leaves),
    )
