-- A rank that has only locked and accessed the heap so far may write a flag of the heap.
use Rattle.std.proofs.Common.{◌≡◌, ℕ, ◌<◌, ◌≤◌, Bool, true, Option, Some, None, IfSome, sym, ap, subst}
use Rattle.scc_base.specs.Places.{FlagPlace}
use Rattle.scc_base.specs.Setups.{IsSetup, host_of}
use Rattle.scc_proto.specs.Permission.{leaves_heap}
use Rattle.scc_proto.specs.Ports.{Seat, Sight, record_in}
use Rattle.tas_lock.specs.Holds.{IsNotHolding}
use Rattle.sync_flags.specs.Flags.{flag_of, flag_value}
use Rattle.sync_flags.specs.Writes.{MayWrite}
use Rattle.sync_flags.proofs.HeapStores.{heap_store_may, heap_bit_may}
use Rattle.sync_flags.proofs.WriteLemmas.{of_bit}
use Rattle.scc_rows.specs.Quiet.{are_quiet}
use Rattle.scc_rows.proofs.QuietLemmas.{quiet_record}

quiet_leaves : (sight : Sight) → are_quiet sight.events ≡ true → leaves_heap (record_in sight).stage ≡ true
quiet_leaves sight quiet = ap leaves_heap (quiet_record sight quiet).stage

pub heap_word_writes : (sight : Sight) (r : ℕ) (f : FlagPlace) (set : Bool) → f.bit ≡ None → are_quiet sight.events ≡ true → IsSetup sight.seat.setup
    → r < sight.seat.setup.nue → 225 ≤ f.line → MayWrite sight.seat (record_in sight) (flag_of sight.seat.setup r f) f.bit set
heap_word_writes sight r f set word quiet valid lt high =
    subst (λ (bit : Option ℕ). MayWrite sight.seat (record_in sight) (flag_of sight.seat.setup r f) bit set) (sym word)
    (heap_store_may sight.seat (record_in sight) r f (flag_value set) valid lt high (quiet_leaves sight quiet))

pub heap_bit_writes : (sight : Sight) (r : ℕ) (f : FlagPlace) (b : ℕ) (set : Bool) → f.bit ≡ Some b → are_quiet sight.events ≡ true
    → IsNotHolding (record_in sight) (host_of sight.seat.setup.hosts r) → IsSetup sight.seat.setup → r < sight.seat.setup.nue → 225 ≤ f.line
    → MayWrite sight.seat (record_in sight) (flag_of sight.seat.setup r f) f.bit set
heap_bit_writes sight r f b set is quiet free valid lt high =
    subst (λ (bit : Option ℕ). MayWrite sight.seat (record_in sight) (flag_of sight.seat.setup r f) bit set) (sym is)
    (heap_bit_may sight.seat (record_in sight) r f b set valid lt high (quiet_leaves sight quiet) free)

-- after a bit's write another bit may be written, of the same word or another
pub second_bit_writes : (s t : Sight) (r : ℕ) (f k : FlagPlace) (b e : ℕ) (set : Bool) → t.seat ≡ s.seat → f.bit ≡ Some b
    → IfSome f.bit (λ x. IsNotHolding (record_in t) (host_of s.seat.setup.hosts r)) → k.bit ≡ Some e → are_quiet t.events ≡ true → IsSetup s.seat.setup
    → r < s.seat.setup.nue → 225 ≤ k.line → MayWrite t.seat (record_in t) (flag_of t.seat.setup r k) k.bit set
second_bit_writes s t r f k b e set seat is_f freed is_k quiet valid lt high =
    let free : IsNotHolding (record_in t) (host_of t.seat.setup.hosts r)
    = subst (λ (x : Seat). IsNotHolding (record_in t) (host_of x.setup.hosts r)) (sym seat) (of_bit _ f.bit b is_f freed) in
    heap_bit_writes t r k e set is_k quiet free (subst (λ (x : Seat). IsSetup x.setup) (sym seat) valid)
    (subst (λ (x : Seat). r < x.setup.nue) (sym seat) lt) high
