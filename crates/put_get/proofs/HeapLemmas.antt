-- Stores of heap words leave a record's stage, so that one after the other is permitted.
use Rattle.std.proofs.Common.{◌≡◌, ℕ, ◌+◌, ◌<◌, ◌≤◌, Bool, true, false, if◌then◌else◌, slice_index_or, List, [], ◌∷◌, ◌++◌, Option, Some, None, slice_index, sym, refl, ◌∙◌, ap, subst, arith}
use Rattle.scc_base.specs.Places.{first_heap, LineAt, WordAt, line_of_word, same_line}
use Rattle.scc_base.specs.Setups.{SetupView, IsSetup, host_of}
use Rattle.scc_base.specs.Events.{store_of}
use Rattle.scc_base.specs.declared.events.Event.{Event}
use Rattle.scc_proto.specs.Stages.{Record}
use Rattle.scc_proto.specs.Permission.{leaves_heap}
use Rattle.scc_proto.specs.Ports.{Seat, record_on}
use Rattle.scc_proto.proofs.PortLaws.{may-append, record_on-append}
use Rattle.scc_proto.proofs.Layouts.PlaceMoves.{heap_stored}
use Rattle.write_combine.specs.declared.combiner.Out.{Out}
use Rattle.write_combine.specs.Combining.{handed_out, held_after, with_word, one_word}
use Rattle.put_get.specs.Accesses.{store_of_word, stores_of_line, stores_of, whole_line}
use Rattle.put_get.specs.Transfers.{line_at, put_stores}
use Rattle.put_get.specs.HeapStores.{IsHeapLine, AwaitsHeap, LeavesStage, HeapLaw}

leaves_none : (seat : Seat) (rec : Record) → LeavesStage seat rec []
leaves_none seat rec = record { permitted = tt; stage = refl }

leaves_both : (seat : Seat) (rec : Record) (a b : List Event) → LeavesStage seat rec a → LeavesStage seat (record_on seat rec a) b
    → LeavesStage seat rec (a ++ b)
leaves_both seat rec a b first second = record {
  permitted = may-append seat rec a b first.permitted second.permitted;
  stage = ap (λ (x : Record). x.stage) (record_on-append seat rec a b) ∙ second.stage ∙ first.stage;
}

-- the heap is left to the rank still
heap_still : (seat : Seat) (rec : Record) (a : List Event) → LeavesStage seat rec a → leaves_heap rec.stage ≡ true
    → leaves_heap (record_on seat rec a).stage ≡ true
heap_still seat rec a first leaves = ap leaves_heap first.stage ∙ leaves

module _ (seat : Seat) (valid : IsSetup seat.setup) where
  -- one store of a heap word
  pub store_leaves : (rec : Record) (p : WordAt) (value : ℕ) → leaves_heap rec.stage ≡ true → IsHeapLine seat.setup (line_of_word p)
      → LeavesStage seat rec (store_of p value ∷ [])
  store_leaves rec p value leaves heap =
      let makes = heap_stored seat rec valid heap.owner p.line p.word value heap.below heap.heap leaves in
      subst (λ (core : ℕ). LeavesStage seat rec (store_of (record { core = core; line = p.line; word = p.word }) value ∷ [])) (sym heap.core)
      (record { permitted = (makes.may, tt); stage = ap (λ (x : Record). x.stage) makes.becomes })

  word_leaves : (rec : Record) (o : Out) (k : ℕ) → leaves_heap rec.stage ≡ true → IsHeapLine seat.setup o.line → LeavesStage seat rec (store_of_word o k)
  word_leaves rec o k leaves heap = by (slice_index_or o.mask k false)
    where
      place : WordAt
      place = record { core = o.line.core; line = o.line.line; word = k }

      by : (b : Bool) → LeavesStage seat rec (if b then store_of place (slice_index o.words k) ∷ [] else [])
      by true = store_leaves rec place (slice_index o.words k) leaves heap
      by false = leaves_none seat rec

  pub line_leaves : (rec : Record) (o : Out) → leaves_heap rec.stage ≡ true → IsHeapLine seat.setup o.line → LeavesStage seat rec (stores_of_line o)
  line_leaves rec o leaves heap =
      let a = word_leaves rec o 3 leaves heap in
      let leaves1 = heap_still seat rec _ a leaves in
      let b = word_leaves _ o 2 leaves1 heap in
      let leaves2 = heap_still seat _ _ b leaves1 in
      let c = word_leaves _ o 1 leaves2 heap in
      let d = word_leaves _ o 0 (heap_still seat _ _ c leaves2) heap in
      leaves_both seat rec _ _ a (leaves_both seat _ _ _ b (leaves_both seat _ _ _ c d))

  pub flush_leaves : (rec : Record) (out : Option Out) → leaves_heap rec.stage ≡ true → AwaitsHeap seat.setup out → LeavesStage seat rec (stores_of out)
  flush_leaves rec None leaves heap = leaves_none seat rec
  flush_leaves rec (Some o) leaves heap = line_leaves rec o leaves heap

  pub put_leaves : (src : List (List ℕ)) (rec : Record) (r line : ℕ) → leaves_heap rec.stage ≡ true → r < seat.setup.nue → first_heap ≤ line
      → LeavesStage seat rec (put_stores (host_of seat.setup.hosts r) line src)
  put_leaves [] rec r line leaves below heap = leaves_none seat rec
  put_leaves (words ∷ src) rec r line leaves below heap =
      let at = line_at (host_of seat.setup.hosts r) line in
      let first = line_leaves rec (whole_line at words) leaves (record { owner = r; below = below; core = refl; heap = heap }) in
      leaves_both seat rec _ _ first (put_leaves src _ r (line + 1) (heap_still seat rec _ first leaves) below (omega (arith, heap)))

handed_heap : (setup : SetupView) (out : Option Out) (line : LineAt) → AwaitsHeap setup out → AwaitsHeap setup (handed_out out line)
handed_heap setup None line heap = tt
handed_heap setup (Some o) line heap = by (same_line o.line line)
  where
    by : (b : Bool) → AwaitsHeap setup (if b then None else Some o)
    by true = tt
    by false = heap

-- what a write of a word hands out
pub write_leaves : (seat : Seat) → IsSetup seat.setup → (rec : Record) (out : Option Out) (line : LineAt) → leaves_heap rec.stage ≡ true
    → AwaitsHeap seat.setup out → LeavesStage seat rec (stores_of (handed_out out line))
write_leaves seat valid rec out line leaves heap =
    flush_leaves seat valid rec (handed_out out line) leaves (handed_heap seat.setup out line heap)

pub word_awaits : (setup : SetupView) (out : Option Out) (p : WordAt) (v : ℕ) → AwaitsHeap setup out → IsHeapLine setup (line_of_word p)
    → AwaitsHeap setup (Some (held_after out p v))
word_awaits setup None p v awaits heap = heap
word_awaits setup (Some o) p v awaits heap = by (same_line o.line (line_of_word p))
  where
    by : (b : Bool) → AwaitsHeap setup (Some (if b then with_word o p.word v else one_word p v))
    by true = awaits
    by false = heap

pub law : HeapLaw
law = record {
  put = λ seat rec r line src valid leaves below heap. put_leaves seat valid src rec r line leaves below heap;
  write = λ seat rec out line valid leaves heap. write_leaves seat valid rec out line leaves heap;
  flush = λ seat rec out valid leaves heap. flush_leaves seat valid rec out leaves heap;
  word_held = word_awaits;
  line_held = λ setup line words heap. heap;
}
