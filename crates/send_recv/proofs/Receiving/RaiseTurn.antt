-- The turn of a receive that raises `ready`: the chunk's bytes join the message, and after the last chunk the
-- receive is finished.
use Rattle.std.proofs.Common.{◌≡◌, ◌≢◌, ℕ, zero, suc, ◌+◌, ◌-◌, ◌*◌, ◌<◌, ◌≤◌, Bool, true, false, ◌==◌, ◌&&◌, nat_le, List, [], ◌∷◌, ◌++◌, length, take, drop, refl, sym, ◌∙◌, ap, subst, arith, slice_index}
use Rattle.std.proofs.Common.{length-drop}
use Rattle.std.proofs.Math.Seq.{take-add}
use Rattle.std.proofs.lemmas.List.{get_or-drop, take_all}
use Rattle.scc_base.specs.Calls.{Recv}
use Rattle.scc_base.specs.Layouts.{chunk_size}
use Rattle.scc_base.specs.Setups.{IsSetup}
use Rattle.scc_base.specs.declared.layouts.Layout.{Layout}
use Rattle.scc_base.specs.declared.layouts.Layout.TheVariants.{LineFlags, BitFlags}
use Rattle.scc_base.specs.declared.signals.Signal.TheVariants.{Ready}
use Rattle.scc_proto.specs.Messages.{Notes, byte_at, bytes_from, is_last, with_chunk}
use Rattle.scc_proto.specs.Stages.{Stage, Idle, Between, Record}
use Rattle.scc_proto.specs.Moves.{RaiseSignal, raise_ready, calls_received, finished_if, after}
use Rattle.scc_proto.specs.Permission.{permits, has_taken}
use Rattle.scc_proto.specs.Soundness.{is_taking_from}
use Rattle.scc_proto.specs.Records.{chunk_of}
use Rattle.scc_proto.specs.Ports.{Seat, Sight, record_in}
use Rattle.scc_proto.proofs.Tests.{eqb_same, eqb_other}
use Rattle.scc_proto.proofs.Layouts.Roles.{if_yes, if_no, le_is, le_not}
use Rattle.put_get.specs.Cores.{Private}
use Rattle.send_recv.specs.declared.stages.RecvStage.{RecvStage}
use Rattle.send_recv.specs.declared.stages.RecvStage.TheVariants.{Look, Raise}
use Rattle.send_recv.specs.Chunks.{chunk_count, chunk_start, chunk_len, chunk_lines_of, lines_from, is_last_chunk}
use Rattle.send_recv.specs.Flags.{Changes, MayChange}
use Rattle.send_recv.specs.Ops.{RecvAt}
use Rattle.send_recv.specs.Receiving.{IsAtRecvStage, IsReceiving, RecvStands, IsRead, IsTakingLines, between, progress_at, lines_now, flag_lines}
use Rattle.send_recv.specs.Steps.{core_of, signal_flag}
use Rattle.send_recv.proofs.Looks.FlagMoves.{MovesFlag, may_change, flag_moved, signal_raises, ready_is_clear}

-- what a receive that is to raise `ready` has of the record
pub record IsRaising (size : ℕ) (rec : Record) (op : RecvAt) (bytes : List ℕ) : Type 0 where
  pub chunk : Notes
  pub taking : IsTakingLines size rec op bytes chunk (lines_now size op)

pub is_raising : (seat : Seat) (rec : Record) (c : Private) (op : RecvAt) (bytes : List ℕ) → IsReceiving seat rec c op bytes → op.stage ≡ Raise → IsRaising (chunk_of seat.setup) rec op bytes
is_raising seat rec c op bytes r raise =
    let at : IsAtRecvStage seat rec c op bytes Raise = subst (λ (st : RecvStage). IsAtRecvStage seat rec c op bytes st) raise r.at in
    record { chunk = at.0; taking = at.1 }

pub raise_permitted : (size : ℕ) (rec : Record) (op : RecvAt) (bytes : List ℕ) → IsRaising size rec op bytes → permits size (RaiseSignal Ready op.from) rec ≡ true
raise_permitted size rec op bytes r = ap (λ (st : Stage). has_taken size op.from st) r.taking.stage ∙ (λ i. eqb_same op.from i && r.taking.read.loaded i)

pub raise_takes : (size : ℕ) (rec : Record) (op : RecvAt) (bytes : List ℕ) → IsRaising size rec op bytes → is_taking_from op.from rec.stage ≡ true
raise_takes size rec op bytes r = ap (λ (st : Stage). is_taking_from op.from st) r.taking.stage ∙ eqb_same op.from

-- raising the flag is this move
raises_ready : (s : Sight) (c : Private) (op : RecvAt) (bytes : List ℕ) → IsSetup s.seat.setup → RecvStands s c op bytes → op.stage ≡ Raise
    → MovesFlag s.seat.setup.layout s.seat (record_in s) op.from Ready s.seat.rank true (RaiseSignal Ready op.from)
raises_ready s c op bytes valid r raise =
    let l = is_raising s.seat (record_in s) c op bytes r raise in
    signal_raises s.seat.setup.layout s Ready op.from refl valid r.peers (ready_is_clear s op.from (raise_takes (chunk_of s.seat.setup) (record_in s) op bytes l)) (raise_permitted (chunk_of s.seat.setup) (record_in s) op bytes l)

-- the flag may be raised
pub may_raise_turn : (s : Sight) (c : Private) (op : RecvAt) (bytes : List ℕ) → IsSetup s.seat.setup → RecvStands s c op bytes → op.stage ≡ Raise
    → MayChange s c (core_of s.seat op.from) (signal_flag s.seat Ready s.seat.rank) true
may_raise_turn s c op bytes valid r raise = may_change s c op.from Ready s.seat.rank true (RaiseSignal Ready op.from) valid r.hands r.empty (raises_ready s c op bytes valid r raise)

-- and then the record is
pub ready_is_raised : (s t : Sight) (c d : Private) (op : RecvAt) (bytes : List ℕ) → IsSetup s.seat.setup → RecvStands s c op bytes → op.stage ≡ Raise
    → Changes s c (core_of s.seat op.from) (signal_flag s.seat Ready s.seat.rank) true true t d → record_in t ≡ after (chunk_of s.seat.setup) (RaiseSignal Ready op.from) (record_in s)
ready_is_raised s t c d op bytes valid r raise changes =
    flag_moved s t c d op.from Ready s.seat.rank true (RaiseSignal Ready op.from) valid r.hands r.empty (raises_ready s c op bytes valid r raise) changes

-- ---- the bytes of the chunk

-- the noted bytes are these of a list
pub bytes_are : (notes : Notes) (xs : List ℕ) (o n : ℕ) → n ≤ length xs → ((b : ℕ) → b < n → slice_index xs b ≡ byte_at notes (o + b)) → take n xs ≡ bytes_from notes o n
unfolding bytes_from
bytes_are notes xs o zero le same = refl
bytes_are notes [] o (suc n) le same = absurd (omega (arith, le))
bytes_are notes (x ∷ xs) o (suc n) le same =
    let first : x ≡ byte_at notes o = same zero (omega arith) ∙ ap (λ k. byte_at notes k) (let e : o + 0 ≡ o = omega arith in e) in
    let rest : take n xs ≡ bytes_from notes (suc o) n = bytes_are notes xs (suc o) n (omega (arith, le))
    (λ b low. same (suc b) (omega (arith, low)) ∙ ap (λ k. byte_at notes k) (let e : o + suc b ≡ suc o + b = omega arith in e)) in
    λ i. first i ∷ rest i

-- ---- numbers, at each of the two sizes

pub started : (layout : Layout) (len chunk : ℕ) → chunk < chunk_count (chunk_size layout) len → chunk_start (chunk_size layout) chunk ≤ len
started LineFlags len chunk low = omega (arith, low)
started BitFlags len chunk low = omega (arith, low)

pub next_start : (layout : Layout) (chunk : ℕ) → chunk_start (chunk_size layout) (chunk + 1) ≡ chunk_start (chunk_size layout) chunk + chunk_size layout
next_start LineFlags chunk = omega arith
next_start BitFlags chunk = omega arith

pub next_below : (layout : Layout) (len chunk : ℕ) → chunk_start (chunk_size layout) (chunk + 1) < len → chunk + 1 < chunk_count (chunk_size layout) len
next_below LineFlags len chunk more = omega (arith, more)
next_below BitFlags len chunk more = omega (arith, more)

pub next_left : (layout : Layout) (len chunk : ℕ) → chunk_start (chunk_size layout) (chunk + 1) < len
    → (lines_from (chunk_size layout) len chunk - chunk_lines_of (chunk_size layout) len chunk) + 3 * (chunk_count (chunk_size layout) len - chunk) - 2
    ≡ (lines_from (chunk_size layout) len (chunk + 1) + 3 * (chunk_count (chunk_size layout) len - (chunk + 1))) + 1
next_left LineFlags len chunk more = omega (arith, more)
next_left BitFlags len chunk more = omega (arith, more)

pub next_gain : (layout : Layout) (len chunk : ℕ) → chunk_start (chunk_size layout) (chunk + 1) < len
    → flag_lines layout ≤ ((lines_from (chunk_size layout) len chunk - chunk_lines_of (chunk_size layout) len chunk) + 2 * flag_lines layout * (chunk_count (chunk_size layout) len - chunk) - flag_lines layout)
    - (lines_from (chunk_size layout) len (chunk + 1) + 2 * flag_lines layout * (chunk_count (chunk_size layout) len - (chunk + 1)))
next_gain LineFlags len chunk more = omega arith
next_gain BitFlags len chunk more = omega (arith, more)

pub next_few : (layout : Layout) (len chunk : ℕ) → chunk_start (chunk_size layout) (chunk + 1) < len
    → 0 + lines_from (chunk_size layout) len (chunk + 1) + 2 * flag_lines layout * (chunk_count (chunk_size layout) len - (chunk + 1))
    ≤ (lines_from (chunk_size layout) len chunk - chunk_lines_of (chunk_size layout) len chunk) + 2 * flag_lines layout * (chunk_count (chunk_size layout) len - chunk) - flag_lines layout
next_few LineFlags len chunk more = omega (arith, more)
next_few BitFlags len chunk more = omega (arith, more)

pub last_gain : (layout : Layout) (more rest : ℕ) → 1 ≤ more → flag_lines layout ≤ (rest + 2 * flag_lines layout * more - flag_lines layout) - 0
last_gain LineFlags more rest some = omega arith
last_gain BitFlags more rest some = omega (arith, some)

-- ---- the message with the chunk

joined : (layout : Layout) (op : RecvAt) (bytes : List ℕ) (notes : Notes) → length bytes ≡ op.head.len → op.chunk < chunk_count (chunk_size layout) op.head.len → IsRead (chunk_size layout) op bytes notes (lines_now (chunk_size layout) op)
    → take (chunk_start (chunk_size layout) op.chunk) bytes ++ bytes_from notes 0 (chunk_len (chunk_size layout) op.head.len op.chunk)
    ≡ take (chunk_start (chunk_size layout) op.chunk + chunk_len (chunk_size layout) op.head.len op.chunk) bytes
joined layout op bytes notes long below read =
    let start = chunk_start (chunk_size layout) op.chunk in
    let n = chunk_len (chunk_size layout) op.head.len op.chunk in
    let fits = started layout op.head.len op.chunk below in
    let left : length (drop start bytes) ≡ length bytes - start = length-drop start bytes in
    let le : n ≤ length (drop start bytes) = omega (arith, left, long, fits) in
    sym (take-add start n bytes
    ∙ ap (λ ys. take start bytes ++ ys) (bytes_are notes (drop start bytes) 0 n le
    (λ b low. get_or-drop start bytes b 0 ∙ read.bytes_stand b (omega (arith, low)) ∙ ap (λ k. byte_at notes k) (let e : b ≡ 0 + b = omega arith in e))))

-- the last chunk makes the message whole
pub whole : (layout : Layout) (op : RecvAt) (bytes : List ℕ) (notes : Notes) → length bytes ≡ op.head.len → op.chunk < chunk_count (chunk_size layout) op.head.len → IsRead (chunk_size layout) op bytes notes (lines_now (chunk_size layout) op)
    → op.head.len ≤ chunk_start (chunk_size layout) (op.chunk + 1) → take (chunk_start (chunk_size layout) op.chunk) bytes ++ bytes_from notes 0 (chunk_len (chunk_size layout) op.head.len op.chunk) ≡ bytes
whole layout op bytes notes long below read last =
    let next = next_start layout op.chunk in
    let fits = started layout op.head.len op.chunk below in
    joined layout op bytes notes long below read ∙ take_all (chunk_start (chunk_size layout) op.chunk + chunk_len (chunk_size layout) op.head.len op.chunk) bytes (omega (arith, long, last, next, fits))

-- any other makes it one chunk longer
pub longer : (layout : Layout) (op : RecvAt) (bytes : List ℕ) (notes : Notes) → length bytes ≡ op.head.len → op.chunk < chunk_count (chunk_size layout) op.head.len → IsRead (chunk_size layout) op bytes notes (lines_now (chunk_size layout) op)
    → chunk_start (chunk_size layout) (op.chunk + 1) < op.head.len → take (chunk_start (chunk_size layout) op.chunk) bytes ++ bytes_from notes 0 (chunk_len (chunk_size layout) op.head.len op.chunk) ≡ take (chunk_start (chunk_size layout) (op.chunk + 1)) bytes
longer layout op bytes notes long below read more =
    let next = next_start layout op.chunk in
    let e : chunk_start (chunk_size layout) op.chunk + chunk_len (chunk_size layout) op.head.len op.chunk ≡ chunk_start (chunk_size layout) (op.chunk + 1) = omega (arith, more, next) in
    joined layout op bytes notes long below read ∙ ap (λ n. take n bytes) e

-- ---- the record after the raise

pub last_is : (size : ℕ) (op : RecvAt) (bytes : List ℕ) (b : Bool) → is_last_chunk size op.head.len op.chunk ≡ b → is_last size (progress_at size op.head op.chunk bytes) ≡ b
last_is size op bytes b h = ap (λ n. nat_le op.head.len (size * n)) (let e : suc op.chunk ≡ op.chunk + 1 = omega arith in e) ∙ h

pub raised_calls : (layout : Layout) (rec new : Record) (op : RecvAt) (bytes : List ℕ) (l : IsRaising (chunk_size layout) rec op bytes) → length bytes ≡ op.head.len → op.chunk < chunk_count (chunk_size layout) op.head.len
    → is_last_chunk (chunk_size layout) op.head.len op.chunk ≡ true → new ≡ after (chunk_size layout) (RaiseSignal Ready op.from) rec → (new.stage ≡ Idle) × (new.calls ≡ rec.calls ++ Recv op.from op.head bytes ∷ [])
raised_calls layout rec new op bytes l long below last is =
    let size = chunk_size layout in
    let message = progress_at size op.head op.chunk bytes in
    let t = last_is size op bytes true last in (
      ap (λ (r : Record). r.stage) is ∙ ap (λ (st : Stage). raise_ready size st) l.taking.stage ∙ if_yes (is_last size message) Idle (Between op.from (with_chunk size message l.chunk)) t,
      ap (λ (r : Record). r.calls) is ∙ ap (λ (st : Stage). calls_received size st rec.calls) l.taking.stage
          ∙ ap (λ b. finished_if b (Recv op.from op.head (take (chunk_start size op.chunk) bytes ++ bytes_from l.chunk 0 (chunk_len size op.head.len op.chunk))) rec.calls) t
          ∙ ap (λ bs. rec.calls ++ Recv op.from op.head bs ∷ []) (whole layout op bytes l.chunk long below l.taking.read (le_is op.head.len (size * (op.chunk + 1)) last)),
    )

pub raised_stage : (layout : Layout) (rec new : Record) (op : RecvAt) (bytes : List ℕ) (l : IsRaising (chunk_size layout) rec op bytes) → length bytes ≡ op.head.len → op.chunk < chunk_count (chunk_size layout) op.head.len
    → is_last_chunk (chunk_size layout) op.head.len op.chunk ≡ false → new ≡ after (chunk_size layout) (RaiseSignal Ready op.from) rec
    → (new.stage ≡ between (chunk_size layout) (record op { chunk = op.chunk + 1; stage = Look }) bytes) × (new.calls ≡ rec.calls)
raised_stage layout rec new op bytes l long below more is =
    let size = chunk_size layout in
    let message = progress_at size op.head op.chunk bytes in
    let f = last_is size op bytes false more in
    let bytes_is = longer layout op bytes l.chunk long below l.taking.read (le_not op.head.len (size * (op.chunk + 1)) more) in
    let one : suc op.chunk ≡ op.chunk + 1 = omega arith in
    let ne : op.chunk + 1 ≢ 0 = omega arith in (
      ap (λ (r : Record). r.stage) is ∙ ap (λ (st : Stage). raise_ready size st) l.taking.stage ∙ if_no (is_last size message) Idle (Between op.from (with_chunk size message l.chunk)) f
          ∙ (λ i. Between op.from (record { head = op.head; chunks = one i; bytes = bytes_is i }))
          ∙ sym (if_no (op.chunk + 1 == 0) Idle (Between op.from (progress_at size op.head (op.chunk + 1) bytes)) (eqb_other (op.chunk + 1) 0 ne)),
      ap (λ (r : Record). r.calls) is ∙ ap (λ (st : Stage). calls_received size st rec.calls) l.taking.stage
          ∙ ap (λ b. finished_if b (Recv op.from op.head (take (chunk_start size op.chunk) bytes ++ bytes_from l.chunk 0 (chunk_len size op.head.len op.chunk))) rec.calls) f,
    )
