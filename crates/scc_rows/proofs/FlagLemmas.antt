-- Writes of heap flags leave a port at rest.
use Rattle.std.proofs.Common.{◌≡◌, ℕ, zero, suc, ◌<◌, ◌≤◌, Bool, true, false, if◌then◌else◌, List, ◌++◌, Option, None, Some, Result, Ok, Err, IfSome, is_some, is_none, refl, sym, ◌∙◌, ap, subst}
use Rattle.scc_base.specs.Places.{FlagPlace}
use Rattle.scc_base.specs.Setups.{IsSetup, host_of}
use Rattle.scc_base.specs.Events.{store_of, take_of, free_of}
use Rattle.scc_base.specs.declared.events.Stalled.{Stalled}
use Rattle.scc_proto.specs.Stages.{Idle, Record}
use Rattle.scc_proto.specs.Permission.{leaves_heap}
use Rattle.scc_proto.specs.Records.{act_of}
use Rattle.scc_proto.specs.Ports.{Seat, Sight, record_in, record_next, record_on}
use Rattle.scc_proto.proofs.PortLaws.{record_on-append}
use Rattle.scc_proto.proofs.Layouts.PlaceMoves.{heap_stored}
use Rattle.put_get.specs.Cores.{Private}
use Rattle.tas_lock.specs.Holds.{IsNotHolding}
use Rattle.sync_flags.specs.Flags.{flag_of, flag_value}
use Rattle.sync_flags.specs.Writes.{MayWrite, WritesFlag, failed_takes, change_events}
use Rattle.sync_flags.proofs.HeapStores.{heap_store_may, heap_bit_may}
use Rattle.sync_flags.proofs.WriteLemmas.{written_seat}
use Rattle.scc_rows.specs.Rests.{IsPortAtRest}
use Rattle.scc_rows.specs.Writers.{MayTake}
use Rattle.scc_rows.proofs.RestLemmas.{load_keeps, did_keeps, store_rests}

either_rec : (b : Bool) (x y : Record) → x.stage ≡ Idle → y.stage ≡ Idle → (if b then x else y).stage ≡ Idle
either_rec true x y one other = one
either_rec false x y one other = other

module _ (seat : Seat) (rec : Record) (core : ℕ) (idle : rec.stage ≡ Idle) where
  take_keeps : (taken : Bool) → (record_next seat rec (take_of core taken)).stage ≡ Idle
  unfolding record_next act_of
  take_keeps true = either_rec (is_none (rec.held core)) _ rec idle idle
  take_keeps false = either_rec (is_none (rec.held core)) _ rec idle idle

  free_keeps : (record_next seat rec (free_of core)).stage ≡ Idle
  unfolding record_next act_of
  free_keeps = either_rec (is_some (rec.held core)) _ rec idle idle

failed_keep : (seat : Seat) (rec : Record) (core n : ℕ) → rec.stage ≡ Idle → (record_on seat rec (failed_takes core n)).stage ≡ Idle
failed_keep seat rec core zero idle = idle
failed_keep seat rec core (suc n) idle = failed_keep seat (record_next seat rec (take_of core false)) core n (take_keeps seat rec core idle false)

module _ (seat : Seat) (valid : IsSetup seat.setup) (r : ℕ) (lt : r < seat.setup.nue) (f : FlagPlace) (high : 225 ≤ f.line) where
  store_keeps : (rec : Record) (value : ℕ) → rec.stage ≡ Idle → (record_next seat rec (store_of (flag_of seat.setup r f) value)).stage ≡ Idle
  store_keeps rec value idle = ap (λ (x : Record). x.stage) (heap_stored seat rec valid r f.line f.word value lt high (ap leaves_heap idle)).becomes ∙ idle

  change_keeps : (rec : Record) (b : ℕ) (set : Bool) (words : List ℕ) → rec.stage ≡ Idle → (record_on seat rec (change_events (flag_of seat.setup r f) b set words)).stage ≡ Idle
  change_keeps rec b set words idle =
      free_keeps seat _ (host_of seat.setup.hosts r) (store_keeps _ _
      (load_keeps seat _ _ _ (load_keeps seat _ _ _ (load_keeps seat _ _ _ (load_keeps seat _ _ _ (take_keeps seat rec (host_of seat.setup.hosts r) idle true))))))

  tries_keep : (rec : Record) (n b : ℕ) (set : Bool) (words : List ℕ) → rec.stage ≡ Idle
      → (record_on seat rec (failed_takes (host_of seat.setup.hosts r) n ++ change_events (flag_of seat.setup r f) b set words)).stage ≡ Idle
  tries_keep rec n b set words idle =
      ap (λ (x : Record). x.stage) (record_on-append seat rec (failed_takes (host_of seat.setup.hosts r) n) (change_events (flag_of seat.setup r f) b set words))
      ∙ change_keeps (record_on seat rec (failed_takes (host_of seat.setup.hosts r) n)) b set words (failed_keep seat rec (host_of seat.setup.hosts r) n idle)

pub flag_rests : (s t : Sight) (c d : Private) (r : ℕ) (f : FlagPlace) (set : Bool) (polls : ℕ) (result : Result Unit Stalled) → WritesFlag s c (flag_of s.seat.setup r f) f.bit set polls t d result
    → IsPortAtRest s → r < 2 → 225 ≤ f.line → IsPortAtRest t
flag_rests s t c d r f set polls result writes rest lt high = by f.bit result writes
  where
    below : r < s.seat.setup.nue
    below = subst (λ n. r < n) (sym rest.two) lt

    by : (bit : Option ℕ) (x : Result Unit Stalled) → WritesFlag s c (flag_of s.seat.setup r f) bit set polls t d x → IsPortAtRest t
    by None (Ok done) w = store_rests s (flag_of s.seat.setup r f) r (flag_value set) t w.did rest lt refl high
    by None (Err stalled) w = absurd w
    by (Some b) (Ok done) w = did_keeps s _ t w.did rest (tries_keep s.seat rest.valid r below f high (record_in s) w.failed b set w.words rest.idle)
    by (Some b) (Err stalled) w = did_keeps s _ t w.0.did rest (failed_keep s.seat (record_in s) (host_of s.seat.setup.hosts r) polls rest.idle)

pub may_write_flag : (s : Sight) (r : ℕ) (f : FlagPlace) (set : Bool) → IsPortAtRest s → r < 2 → 225 ≤ f.line → MayTake s r f → MayWrite s.seat (record_in s) (flag_of s.seat.setup r f) f.bit set
may_write_flag s r f set rest lt high free = by f.bit free
  where
    below : r < s.seat.setup.nue
    below = subst (λ n. r < n) (sym rest.two) lt

    by : (bit : Option ℕ) → IfSome bit (λ b. IsNotHolding (record_in s) (host_of s.seat.setup.hosts r)) → MayWrite s.seat (record_in s) (flag_of s.seat.setup r f) bit set
    by None none = heap_store_may s.seat (record_in s) r f (flag_value set) rest.valid below high (ap leaves_heap rest.idle)
    by (Some b) none = heap_bit_may s.seat (record_in s) r f b set rest.valid below high (ap leaves_heap rest.idle) none

-- after a write of the flag the rank no longer holds its register
pub still_free : (s t : Sight) (c d : Private) (r : ℕ) (f : FlagPlace) (set : Bool) (polls : ℕ) (result : Result Unit Stalled) → WritesFlag s c (flag_of s.seat.setup r f) f.bit set polls t d result
    → IfSome f.bit (λ b. IsNotHolding (record_in t) (host_of s.seat.setup.hosts r)) → MayTake t r f
still_free s t c d r f set polls result writes freed =
    let seat = written_seat s t c d (flag_of s.seat.setup r f) f.bit set polls result writes in
    subst (λ (x : Seat). IfSome f.bit (λ b. IsNotHolding (record_in t) (host_of x.setup.hosts r))) (sym seat) freed
