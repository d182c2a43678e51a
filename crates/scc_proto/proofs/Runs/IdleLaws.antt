-- Ports of ranks that are in no call: heap words may be stored and loaded, and they are in no call after it.
use Rattle.std.proofs.Common.{◌≡◌, ℕ, ◌<◌, ◌≤◌, List, [], ◌∷◌, None, sym, ◌∙◌, ap, subst}
use Rattle.scc_base.specs.Events.{store_of}
use Rattle.scc_base.specs.Places.{first_heap, WordAt}
use Rattle.scc_base.specs.Setups.{IsSetup}
use Rattle.scc_base.specs.declared.events.Event.{Event}
use Rattle.scc_proto.specs.Stages.{Record}
use Rattle.scc_proto.specs.Moves.{StoreHeap, after}
use Rattle.scc_proto.specs.Permission.{leaves_heap}
use Rattle.scc_proto.specs.Records.{chunk_of, record_of}
use Rattle.scc_proto.specs.Ports.{Sight, Did, MayMake, record_in}
use Rattle.scc_proto.specs.IdlePorts.{IsIdle}
use Rattle.scc_proto.proofs.PortLaws.{record_of-nil, record_did_one}
use Rattle.scc_proto.proofs.Layouts.PlaceMoves.{Makes, heap_stored}
use Rattle.scc_proto.proofs.Layouts.Roles.{own_word}

-- before the first event
pub idle_at_start : (sight : Sight) → sight.events ≡ [] → IsIdle sight
unfolding record_in
idle_at_start sight none = ap (λ (l : List Event). (record_of sight.seat.setup sight.seat.rank l).stage) none
    ∙ ap (λ (rec : Record). rec.stage) (record_of-nil sight.seat.setup sight.seat.rank)

pub nothing_held : (sight : Sight) → sight.events ≡ [] → (core : ℕ) → (record_in sight).held core ≡ None
unfolding record_in
nothing_held sight none core = ap (λ (l : List Event). (record_of sight.seat.setup sight.seat.rank l).held core) none
    ∙ ap (λ (rec : Record). rec.held core) (record_of-nil sight.seat.setup sight.seat.rank)

-- a word of a heap line at the core of a rank
module _ (sight : Sight) (r line word value : ℕ) (valid : IsSetup sight.seat.setup) (below : r < sight.seat.setup.nue) (high : first_heap ≤ line) (idle : IsIdle sight)
    (place : WordAt) (is : place ≡ own_word sight.seat.setup r line word) where
  stored : Makes sight.seat (record_in sight) (store_of (own_word sight.seat.setup r line word) value)
      (after (chunk_of sight.seat.setup) (StoreHeap (own_word sight.seat.setup r line word) value) (record_in sight))
  stored = heap_stored sight.seat (record_in sight) valid r line word value below high (ap leaves_heap idle)

  pub idle_may_store : MayMake sight.seat (record_in sight) (store_of place value)
  idle_may_store = subst (λ (p : WordAt). MayMake sight.seat (record_in sight) (store_of p value)) (sym is) stored.may

  pub idle_after_store : (new : Sight) → Did sight (store_of place value ∷ []) new → IsIdle new
  idle_after_store new did =
      let done = subst (λ (p : WordAt). Did sight (store_of p value ∷ []) new) is did in
      ap (λ (rec : Record). rec.stage) (record_did_one sight _ new done ∙ stored.becomes) ∙ idle
