-- Loads, and stores of heap words, leave a port at rest.
use Rattle.std.proofs.Common.{◌≡◌, ℕ, ◌+◌, ◌<◌, ◌≤◌, Bool, true, false, ◌==◌, ◌&&◌, not, if◌then◌else◌, List, [], ◌∷◌, Option, is_some, sym, ◌∙◌, ap, subst}
use Rattle.scc_base.specs.Places.{LineAt, WordAt, line_of_word}
use Rattle.scc_base.specs.Setups.{IsSetup, host_of, place_of}
use Rattle.scc_base.specs.Events.{load_of, store_of}
use Rattle.scc_base.specs.declared.events.Event.{Event}
use Rattle.scc_base.specs.declared.signals.Signal.{Signal}
use Rattle.scc_base.specs.declared.signals.Signal.TheVariants.{Sent, Ready}
use Rattle.scc_proto.specs.Stages.{Stage, Idle, Record}
use Rattle.scc_proto.specs.Moves.{Move, LookSignal, LookGather, LookRelease, NoMove, stage_after, read_chunk, look_ready}
use Rattle.scc_proto.specs.Permission.{leaves_heap}
use Rattle.scc_proto.specs.Words.{Role, HeaderWord, ChunkWord, SignalFlag, SignalFlags, GatherFlag, ReleaseFlag, HeapWord, IdleWord, role_of}
use Rattle.scc_proto.specs.Records.{EventAct, Moving, NotingSignal, act_of, after_act, load_act, load_by, leads, look_at, look_at_bits, chunk_of}
use Rattle.scc_proto.specs.Ports.{Seat, Sight, Did, MayMakeAll, record_in, record_next, record_on}
use Rattle.scc_proto.proofs.PortLaws.{record_did, seat_kept}
use Rattle.write_combine.specs.declared.combiner.Out.{Out}
use Rattle.write_combine.specs.Combining.{handed_out}
use Rattle.put_get.specs.Accesses.{loads_of, stores_of}
use Rattle.put_get.specs.Cores.{Private, Fetch, Held, Loaded, ReadsWord, ReadsLine, Writes, Flushes}
use Rattle.put_get.specs.Transfers.{line_at, put_stores, Puts, Gets, ReadsLines}
use Rattle.put_get.specs.HeapStores.{IsHeapLine, AwaitsHeap, LeavesStage}
use Rattle.put_get.proofs.HeapLemmas.{law, store_leaves}
use Rattle.scc_rows.specs.Rests.{IsPortAtRest}

either : (size : ℕ) (rec : Record) (b : Bool) (m n : Move) → stage_after size m rec ≡ Idle → stage_after size n rec ≡ Idle → stage_after size (if b then m else n) rec ≡ Idle
either size rec true m n x y = x
either size rec false m n x y = y

either_act : (size : ℕ) (rec : Record) (b : Bool) (m n : EventAct) → (after_act size m rec).stage ≡ Idle → (after_act size n rec).stage ≡ Idle → (after_act size (if b then m else n) rec).stage ≡ Idle
either_act size rec true m n x y = x
either_act size rec false m n x y = y

-- a look at a signal's flags leaves a rank idle
idle_looks : (size : ℕ) (rec : Record) (signal : Signal) (is_set : ℕ → Bool) → rec.stage ≡ Idle → stage_after size (LookSignal signal is_set) rec ≡ Idle
idle_looks size rec Sent is_set idle = idle
idle_looks size rec Ready is_set idle = ap (λ (st : Stage). look_ready is_set st) idle

module _ (seat : Seat) (rec : Record) (place : WordAt) (value : ℕ) (idle : rec.stage ≡ Idle) where
  by_role : (role : Role) → (after_act (chunk_of seat.setup) (load_act seat.setup seat.rank rec place value role) rec).stage ≡ Idle
  by_role (HeaderWord owner k) = idle
  by_role (ChunkWord owner k) = ap (λ (st : Stage). read_chunk owner k value st) idle
  by_role (SignalFlag signal by at) =
      either (chunk_of seat.setup) rec (at == seat.rank) (LookSignal signal (look_at by value)) NoMove (idle_looks (chunk_of seat.setup) rec signal (look_at by value) idle) idle
  by_role (SignalFlags signal at) = either_act (chunk_of seat.setup) rec (is_some (rec.held place.core)) (NotingSignal signal place.core value) (Moving (load_by seat.setup seat.rank value (SignalFlags signal at))) idle
      (either (chunk_of seat.setup) rec (at == seat.rank) (LookSignal signal (look_at_bits seat.setup seat.rank value)) NoMove
      (idle_looks (chunk_of seat.setup) rec signal (look_at_bits seat.setup seat.rank value) idle) idle)
  by_role (GatherFlag comm owner) = either (chunk_of seat.setup) rec (leads seat.setup comm seat.rank owner) (LookGather comm owner (place_of seat.setup comm owner) value) NoMove
      (ap (λ (st : Stage). stage_after (chunk_of seat.setup) (LookGather comm owner (place_of seat.setup comm owner) value) (record rec { stage = st })) idle) idle
  by_role (ReleaseFlag comm owner) = either (chunk_of seat.setup) rec ((owner == seat.rank) && not (leads seat.setup comm seat.rank seat.rank)) (LookRelease comm value) NoMove
      (ap (λ (st : Stage). stage_after (chunk_of seat.setup) (LookRelease comm value) (record rec { stage = st })) idle) idle
  by_role HeapWord = idle
  by_role IdleWord = idle

  pub load_keeps : (record_next seat rec (load_of place value)).stage ≡ Idle
  unfolding record_next act_of
  load_keeps = by_role (role_of seat.setup place)

-- events leave a port at rest if its stage stays idle
pub did_keeps : (s : Sight) (es : List Event) (t : Sight) → Did s es t → IsPortAtRest s → (record_on s.seat (record_in s) es).stage ≡ Idle → IsPortAtRest t
did_keeps s es t did rest idle = record {
  valid = subst (λ (x : Seat). IsSetup x.setup) (sym (seat_kept s es t did)) rest.valid;
  two = ap (λ (x : Seat). x.setup.nue) (seat_kept s es t did) ∙ rest.two;
  idle = ap (λ (x : Record). x.stage) (record_did s es t did) ∙ idle;
}

line_loaded : (s : Sight) (line : LineAt) (words : List ℕ) (t : Sight) → Did s (loads_of line words) t → IsPortAtRest s → IsPortAtRest t
line_loaded s line words t did rest =
    did_keeps s (loads_of line words) t did rest
    (load_keeps s.seat _ _ _ (load_keeps s.seat _ _ _ (load_keeps s.seat _ _ _ (load_keeps s.seat (record_in s) _ _ rest.idle))))

fetch_rests : (s : Sight) (c : Private) (line : LineAt) (words : List ℕ) (t : Sight) (d : Private) → Fetch s c line words t d → IsPortAtRest s → IsPortAtRest t
fetch_rests s c line words t d (Held h e f) rest = subst (λ (x : Sight). IsPortAtRest x) (sym e) rest
fetch_rests s c line words t d (Loaded h len did fills) rest = line_loaded s line words t did rest

pub word_rests : (s : Sight) (c : Private) (p : WordAt) (v : ℕ) (t : Sight) (d : Private) → ReadsWord s c p v t d → IsPortAtRest s → IsPortAtRest t
word_rests s c p v t d reads rest = fetch_rests s c _ reads.words t d reads.fetch rest

line_rests : (s : Sight) (c : Private) (line : LineAt) (words : List ℕ) (t : Sight) (d : Private) → ReadsLine s c line words t d → IsPortAtRest s → IsPortAtRest t
line_rests s c line words t d reads rest =
    word_rests reads.s3 reads.c3 _ _ t d reads.word3
    (word_rests reads.s2 reads.c2 _ _ reads.s3 reads.c3 reads.word2
    (word_rests reads.s1 reads.c1 _ _ reads.s2 reads.c2 reads.word1
    (word_rests s c _ _ reads.s1 reads.c1 reads.word0 rest)))

lines_rest : (s : Sight) (c : Private) (core line : ℕ) (dst : List (List ℕ)) (t : Sight) (d : Private) → ReadsLines s c core line dst t d → IsPortAtRest s → IsPortAtRest t
lines_rest s c core line [] t d reads rest = subst (λ (x : Sight). IsPortAtRest x) (sym reads.0) rest
lines_rest s c core line (words ∷ dst) t d reads rest =
    let (s1, c1, first, others) = reads in
    lines_rest s1 c1 core (line + 1) dst t d others (line_rests s c (line_at core line) words s1 c1 first rest)

pub gets_rest : (s : Sight) (c : Private) (core line : ℕ) (dst : List (List ℕ)) (t : Sight) (d : Private) → Gets s c core line dst t d → IsPortAtRest s → IsPortAtRest t
gets_rest s c core line dst t d gets rest = lines_rest s _ core line dst t d gets.reads rest

-- ---- stores into the heap

module _ (s : Sight) (rest : IsPortAtRest s) where
  leaves : leaves_heap (record_in s).stage ≡ true
  leaves = ap leaves_heap rest.idle

  below : (r : ℕ) → r < 2 → r < s.seat.setup.nue
  below r lt = subst (λ n. r < n) (sym rest.two) lt

  -- events that leave the stage leave the port at rest
  stage_kept : (es : List Event) (t : Sight) → Did s es t → LeavesStage s.seat (record_in s) es → IsPortAtRest t
  stage_kept es t did kept = did_keeps s es t did rest (kept.stage ∙ rest.idle)

  heap_line : (line : LineAt) (r : ℕ) → r < 2 → line.core ≡ host_of s.seat.setup.hosts r → 225 ≤ line.line → IsHeapLine s.seat.setup line
  heap_line line r lt on high = record { owner = r; below = below r lt; core = on; heap = high }

  put_kept : (r line : ℕ) (src : List (List ℕ)) → r < 2 → 225 ≤ line → LeavesStage s.seat (record_in s) (put_stores (host_of s.seat.setup.hosts r) line src)
  put_kept r line src lt high = law.put s.seat (record_in s) r line src rest.valid leaves (below r lt) high

  write_kept : (out : Option Out) (line : LineAt) → AwaitsHeap s.seat.setup out → LeavesStage s.seat (record_in s) (stores_of (handed_out out line))
  write_kept out line awaits = law.write s.seat (record_in s) out line rest.valid leaves awaits

  flush_kept : (out : Option Out) → AwaitsHeap s.seat.setup out → LeavesStage s.seat (record_in s) (stores_of out)
  flush_kept out awaits = law.flush s.seat (record_in s) out rest.valid leaves awaits

pub may_put : (s : Sight) (r line : ℕ) (src : List (List ℕ)) → IsPortAtRest s → r < 2 → 225 ≤ line
    → MayMakeAll s.seat (record_in s) (put_stores (host_of s.seat.setup.hosts r) line src)
may_put s r line src rest lt high = (put_kept s rest r line src lt high).permitted

pub put_rests : (s : Sight) (c : Private) (r line : ℕ) (src : List (List ℕ)) (t : Sight) (d : Private)
    → Puts s c (host_of s.seat.setup.hosts r) line src t d → IsPortAtRest s → r < 2 → 225 ≤ line → IsPortAtRest t
put_rests s c r line src t d puts rest lt high = stage_kept s rest _ t puts.did (put_kept s rest r line src lt high)

pub may_hand_out : (s : Sight) (out : Option Out) (line : LineAt) → IsPortAtRest s → AwaitsHeap s.seat.setup out
    → MayMakeAll s.seat (record_in s) (stores_of (handed_out out line))
may_hand_out s out line rest awaits = (write_kept s rest out line awaits).permitted

pub may_flush : (s : Sight) (out : Option Out) → IsPortAtRest s → AwaitsHeap s.seat.setup out → MayMakeAll s.seat (record_in s) (stores_of out)
may_flush s out rest awaits = (flush_kept s rest out awaits).permitted

pub write_rests : (s : Sight) (c : Private) (p : WordAt) (v : ℕ) (t : Sight) (d : Private) → Writes s c p v t d → IsPortAtRest s
    → AwaitsHeap s.seat.setup c.out → IsPortAtRest t
write_rests s c p v t d writes rest awaits = stage_kept s rest _ t writes.did (write_kept s rest c.out (line_of_word p) awaits)

pub write_awaits : (s : Sight) (c : Private) (p : WordAt) (v r : ℕ) (t : Sight) (d : Private) → Writes s c p v t d → IsPortAtRest s
    → AwaitsHeap s.seat.setup c.out → r < 2 → p.core ≡ host_of s.seat.setup.hosts r → 225 ≤ p.line → AwaitsHeap t.seat.setup d.out
write_awaits s c p v r t d writes rest awaits lt on high =
    subst (λ (x : Seat). AwaitsHeap x.setup d.out) (sym (seat_kept s _ t writes.did))
    (subst (λ (x : Option Out). AwaitsHeap s.seat.setup x) (sym (ap (λ (x : Private). x.out) writes.is))
    (law.word_held s.seat.setup c.out p v awaits (heap_line s rest (line_of_word p) r lt on high)))

pub flush_rests : (s : Sight) (c : Private) (t : Sight) (d : Private) → Flushes s c t d → IsPortAtRest s → AwaitsHeap s.seat.setup c.out → IsPortAtRest t
flush_rests s c t d flushes rest awaits = stage_kept s rest _ t flushes.did (flush_kept s rest c.out awaits)

pub store_rests : (s : Sight) (p : WordAt) (r value : ℕ) (t : Sight) → Did s (store_of p value ∷ []) t → IsPortAtRest s → r < 2
    → p.core ≡ host_of s.seat.setup.hosts r → 225 ≤ p.line → IsPortAtRest t
store_rests s p r value t did rest lt on high =
    stage_kept s rest _ t did (store_leaves s.seat rest.valid (record_in s) p value (leaves s rest) (heap_line s rest (line_of_word p) r lt on high))
