-- The turn of a receive that looks whether a chunk was sent.
use Rattle.std.proofs.Common.{◌≡◌, ℕ, ◌+◌, ◌-◌, ◌*◌, ◌<◌, ◌≤◌, Bool, true, false, ◌==◌, if◌then◌else◌, List, [], Option, Some, None, option_map, refl, sym, ◌∙◌, ap, subst, arith}
use Rattle.std.proofs.lemmas.Bool.Decides.{nat_tests}
use Rattle.scc_base.specs.Places.{flag_word, line_of_word}
use Rattle.scc_base.specs.Layouts.{signal_at}
use Rattle.scc_base.specs.declared.signals.Signal.TheVariants.{Sent, Ready}
use Rattle.scc_base.specs.Heads.{MessageHead, IsHead}
use Rattle.scc_base.specs.Setups.{IsSetup}
use Rattle.scc_base.specs.declared.layouts.Layout.{Layout}
use Rattle.scc_base.specs.declared.layouts.Layout.TheVariants.{LineFlags, BitFlags}
use Rattle.scc_proto.specs.Messages.{Notes}
use Rattle.scc_proto.specs.Stages.{Stage, Idle, Between, InFlight, FlagWords, Record}
use Rattle.scc_proto.specs.Moves.{look_ready, post_answered}
use Rattle.scc_proto.specs.Words.{are_peers}
use Rattle.scc_proto.specs.Records.{chunk_of}
use Rattle.scc_proto.specs.Ports.{Seat, Sight, record_in}
use Rattle.scc_proto.proofs.PortLaws.{seat_kept}
use Rattle.put_get.specs.Accesses.{loads_of}
use Rattle.put_get.specs.Cores.{Private}
use Rattle.put_get.specs.Transfers.{load_count}
use Rattle.send_recv.specs.declared.stages.RecvStage.{RecvStage}
use Rattle.send_recv.specs.declared.stages.RecvStage.TheVariants.{Look, Header, Lower}
use Rattle.send_recv.specs.declared.answers.RecvTurn.{RecvTurn}
use Rattle.send_recv.specs.declared.answers.RecvTurn.TheVariants.{Moved, Waiting}
use Rattle.send_recv.specs.Chunks.{chunk_count, chunk_start, chunk_len, lines_from}
use Rattle.send_recv.specs.Flags.{Looks}
use Rattle.send_recv.specs.Ops.{RecvAt, is_received}
use Rattle.send_recv.specs.Receiving.{IsAtRecvStage, IsReceiving, RecvStands, RecvDoes, RecvTurned, between, progress_at, spot_by, recv_spot, recv_left, recv_left_by, lines_now, lines_left, lines_left_by, flag_lines, is_look, filled_to, filled_by}
use Rattle.send_recv.specs.Steps.{own_core, core_of, signal_flag, flag_spot, after_look, recv_or_waits}
use Rattle.send_recv.specs.Turns.{HoldsNone, IsSamePost, KeepsAllButMessages}
use Rattle.send_recv.specs.Ranks.{Receiver, receiving}
use Rattle.send_recv.proofs.Looks.LookLemmas.{IsLooked, looks_at}
use Rattle.send_recv.proofs.Looks.TryLemmas.{look_tried, signal_aims, look_elsewhere, le_self, signal_low, look_held}
use Rattle.put_get.proofs.FillLemmas.{fills_out, fills_evictions}

-- a turn of a receive, and where it stands afterwards
pub record Turns (s : Sight) (c : Private) (op : RecvAt) (bytes : List ℕ) (t : Sight) (d : Private) (now : RecvAt) (after : List ℕ) (answer : RecvTurn) : Type 0 where
  pub stands : RecvStands t d now after
  pub turned : RecvTurned (receiving s c op bytes) (receiving t d now after) answer

-- ---- what a look leaves of a record

answered_stays : (q : Bool) (b : Bool) → b ≡ true → (if q then true else b) ≡ true
answered_stays true b h = refl
answered_stays false b h = h

same_post : (q : ℕ → Bool) (post : Option InFlight) → IsSamePost post (option_map (post_answered q) post)
same_post q None = refl
same_post q (Some post) = (if q post.to then true else post.is_answered, refl, answered_stays (q post.to) post.is_answered)

pub looked_post : (size : ℕ) (rec new : Record) → IsLooked size rec new → IsSamePost rec.post new.post
looked_post size rec new l = subst (λ (p : Option InFlight). IsSamePost rec.post p) (sym (ap (λ (r : Record). r.post) l.is)) (same_post (l.seen Ready) rec.post)

pub looked_rest : (size : ℕ) (rec new : Record) → IsLooked size rec new → KeepsAllButMessages rec new
looked_rest size rec new l = record {
  flips = ap (λ (r : Record). r.flips) l.is;
  hold = ap (λ (r : Record). r.held) l.is;
  heap = ap (λ (r : Record). r.heap) l.is;
}

pub looked_calls : (size : ℕ) (rec new : Record) → IsLooked size rec new → new.calls ≡ rec.calls
looked_calls size rec new l = ap (λ (r : Record). r.calls) l.is

between_stays : (q : ℕ → Bool) (b : Bool) (from : ℕ) (rest : Stage) → look_ready q rest ≡ rest → look_ready q (if b then Idle else rest) ≡ (if b then Idle else rest)
between_stays q true from rest h = refl
between_stays q false from rest h = h

pub looked_stage : (size : ℕ) (rec new : Record) (op : RecvAt) (bytes : List ℕ) → IsLooked size rec new → rec.stage ≡ between size op bytes → new.stage ≡ between size op bytes
looked_stage size rec new op bytes l is = ap (λ (r : Record). r.stage) l.is ∙ ap (λ (st : Stage). look_ready (l.seen Ready) st) is
    ∙ between_stays (l.seen Ready) (op.chunk == 0) op.from (Between op.from (progress_at size op.head op.chunk bytes)) refl

seen_notes : (b : Bool) (rest : Option Notes) → b ≡ true → (if b then Some [] else rest) ≡ Some []
seen_notes true rest h = refl
seen_notes false rest h = absurd (cc)

looked_notes : (size : ℕ) (rec new : Record) (j : ℕ) (l : IsLooked size rec new) → l.seen Sent j ≡ true → new.notes j ≡ Some []
looked_notes size rec new j l set = ap (λ (r : Record). r.notes j) l.is ∙ seen_notes (l.seen Sent j) (rec.notes j) set

pub holds_kept : (layout : Layout) (rec new : Record) → new.held ≡ rec.held → HoldsNone layout rec → HoldsNone layout new
holds_kept LineFlags rec new same h = tt
holds_kept BitFlags rec new same h = λ core. ap (λ (f : ℕ → Option FlagWords). f core) same ∙ h core

spot_look : (layout : Layout) (own other from : ℕ) → spot_by layout own other from Look ≡ Some (flag_spot own (signal_at layout Sent from))
spot_look LineFlags own other from = refl
spot_look BitFlags own other from = refl

-- the spot of a look
pub at_look : (seat : Seat) (op : RecvAt) → op.stage ≡ Look → recv_spot seat op ≡ Some (flag_spot (own_core seat) (signal_flag seat Sent op.from))
at_look seat op look =
    ap (λ (st : RecvStage). spot_by seat.setup.layout (own_core seat) (core_of seat op.from) op.from st) look ∙ spot_look seat.setup.layout (own_core seat) (core_of seat op.from) op.from

-- ---- the turn

-- what a turn did, where its stage is known
pub recv_does : (old : Receiver) (stage : RecvStage) (done : Bool) (t : Sight) (d : Private) → old.op.stage ≡ stage → RecvDoes old stage done t d → RecvDoes old old.op.stage done t d
recv_does old stage done t d is does = subst (λ (st : RecvStage). RecvDoes old st done t d) (sym is) does

-- what the stages of a receive that follow a look without a message word in between need
pub stands_after : (seat : Seat) (rec new : Record) (c d : Private) (op now : RecvAt) (bytes : List ℕ) → IsReceiving seat rec c op bytes → now.from ≡ op.from → now.head ≡ op.head → now.chunk ≡ op.chunk
    → d.out ≡ None → new.held ≡ rec.held → IsAtRecvStage seat new d now bytes now.stage → IsReceiving seat new d now bytes
stands_after seat rec new c d op now bytes r from head chunk empty hold at = record {
  peers = ap (λ j. are_peers seat.setup seat.rank j) from ∙ r.peers;
  head = subst (λ h. IsHead h) (sym head) r.head;
  long = r.long ∙ ap (λ (h : MessageHead). h.len) (sym head);
  empty = empty;
  hands = holds_kept seat.setup.layout rec new hold r.hands;
  in_hand = subst (λ k. k < chunk_count (chunk_of seat.setup) now.head.len) (sym chunk) (subst (λ (h : MessageHead). op.chunk < chunk_count (chunk_of seat.setup) h.len) (sym head) r.in_hand);
  at = at;
}

look_work : (events a b x : ℕ) (is : Bool) → events ≡ 4 → is ≡ true → a ≤ b → events + 4 * a ≤ 4 * b + 4 * (x + (if is then 1 else 0))
look_work events a b x true four look le = omega (arith, four, le)
look_work events a b x false four look le = absurd (cc)

-- the look found nothing
look_waits : (s t : Sight) (c d : Private) (op : RecvAt) (bytes : List ℕ) → IsSetup s.seat.setup → RecvStands s c op bytes → op.stage ≡ Look
    → Looks s c (own_core s.seat) (signal_flag s.seat Sent op.from) false t d
    → Turns s c op bytes t d op bytes (Waiting (flag_spot (own_core s.seat) (signal_flag s.seat Sent op.from)))
look_waits s t c d op bytes valid r look looks =
    let size = chunk_of s.seat.setup in
    let l = looks_at Sent s t c d op.from false valid r.peers r.hands looks in
    let at : (record_in s).stage ≡ between size op bytes = subst (λ (st : RecvStage). IsAtRecvStage s.seat (record_in s) c op bytes st) look r.at in
    let stage : (record_in t).stage ≡ between size op bytes = looked_stage size (record_in s) (record_in t) op bytes l.looked at in
    let rest = looked_rest size (record_in s) (record_in t) l.looked in
    let post = looked_post size (record_in s) (record_in t) l.looked in
    let calls = looked_calls size (record_in s) (record_in t) l.looked in
    record {
      stands = subst (λ (x : Seat). IsReceiving x (record_in t) d op bytes) (sym (seat_kept s _ t looks.looks.did))
          (stands_after s.seat (record_in s) (record_in t) c d op op bytes r refl refl refl (fills_out looks.looks.fills ∙ r.empty) rest.hold
          (subst (λ (st : RecvStage). IsAtRecvStage s.seat (record_in t) d op bytes st) (sym look) stage));
      turned = record {
        events = loads_of (line_of_word (flag_word (own_core s.seat) (signal_flag s.seat Sent op.from))) looks.words;
        did = looks.looks.did;
        does = recv_does (receiving s c op bytes) Look false t d look looks;
        tried = look_tried s.seat.setup.layout (own_core s.seat) (signal_flag s.seat Sent op.from) looks.words false (recv_spot s.seat op) (signal_low s.seat.setup.layout Sent op.from) looks.is
            (at_look s.seat op look) (signal_aims s.seat.setup.layout Sent (own_core s.seat) op.from);
        freed = refl;
        elsewhere = λ at other ne. look_elsewhere s.seat op (own_core s.seat) looks.words at (at_look s.seat op look) other ne;
        fuller = le_self _;
        fewer = le_self _;
        rests = λ spot e. refl;
        only = (looks.words, refl);
        no_drafts = refl;
        same = (refl, refl);
        means = (refl, refl, record { stage = stage ∙ sym at; post = post; rest = rest; calls = calls });
        rest = rest;
        post = post;
        before = λ k low. refl;
        afterwards = λ k high. refl;
        held = look_held c d _ looks.words looks.looks.fills;
        work = look_work (load_count (loads_of (line_of_word (flag_word (own_core s.seat) (signal_flag s.seat Sent op.from))) looks.words)) c.evictions d.evictions _ (is_look op.stage)
            refl (ap is_look look) (fills_evictions looks.looks.fills);
      };
    }

-- what stands after a look that found the flag set
seen_at : (seat : Seat) (new : Record) (d : Private) (op : RecvAt) (bytes : List ℕ) (b : Bool) → (op.chunk == 0) ≡ b → new.stage ≡ between (chunk_of seat.setup) op bytes → new.notes op.from ≡ Some []
    → IsAtRecvStage seat new d (record op { stage = if b then Header else Lower }) bytes (if b then Header else Lower)
seen_at seat new d op bytes true first stage notes =
    (grind (arith, nat_tests, first), stage ∙ ap (λ b. if b then Idle else Between op.from (progress_at (chunk_of seat.setup) op.head op.chunk bytes)) first, [], notes)
seen_at seat new d op bytes false first stage notes = (stage, [], notes, λ zero_is. absurd (grind (arith, nat_tests, first, zero_is)))

pub seen_left : (size : ℕ) (op : RecvAt) (b : Bool) → (op.chunk == 0) ≡ b → op.stage ≡ Look → op.chunk < chunk_count size op.head.len
    → recv_left size op ≡ recv_left size (record op { stage = if b then Header else Lower }) + 1
seen_left size op true first look below = ap (λ (st : RecvStage). recv_left_by (chunk_count size op.head.len - op.chunk) (lines_from size op.head.len op.chunk) (lines_now size op) (op.chunk == 0) st) look
    ∙ ap (λ b. (if b then 1 else 0) + lines_from size op.head.len op.chunk + 3 * (chunk_count size op.head.len - op.chunk)) first ∙ omega arith
seen_left size op false first look below = ap (λ (st : RecvStage). recv_left_by (chunk_count size op.head.len - op.chunk) (lines_from size op.head.len op.chunk) (lines_now size op) (op.chunk == 0) st) look
    ∙ ap (λ b. (if b then 1 else 0) + lines_from size op.head.len op.chunk + 3 * (chunk_count size op.head.len - op.chunk)) first ∙ omega (arith, below)

-- after the look the buffer is filled as far, and no more lines are left
seen_fuller : (size : ℕ) (op : RecvAt) (b : Bool) → op.stage ≡ Look → filled_to size op ≤ filled_to size (record op { stage = if b then Header else Lower })
seen_fuller size op true look = let e = ap (λ (st : RecvStage). filled_by (chunk_start size op.chunk) op.head.len st (chunk_len size op.head.len op.chunk)) look in omega (arith, e)
seen_fuller size op false look = let e = ap (λ (st : RecvStage). filled_by (chunk_start size op.chunk) op.head.len st (chunk_len size op.head.len op.chunk)) look in omega (arith, e)

seen_fewer : (layout : Layout) (size : ℕ) (op : RecvAt) (b : Bool) → (op.chunk == 0) ≡ b → op.stage ≡ Look → lines_left layout size (record op { stage = if b then Header else Lower }) ≤ lines_left layout size op
seen_fewer layout size op true first look =
    let e = ap (λ (st : RecvStage). lines_left_by (flag_lines layout) (chunk_count size op.head.len - op.chunk) (lines_from size op.head.len op.chunk) (lines_now size op) (op.chunk == 0) st) look
    ∙ ap (λ (z : Bool). (if z then 1 else 0) + lines_from size op.head.len op.chunk + 2 * flag_lines layout * (chunk_count size op.head.len - op.chunk)) first in
    subst (λ n. 1 + lines_from size op.head.len op.chunk + 2 * flag_lines layout * (chunk_count size op.head.len - op.chunk) ≤ n) (sym e) (le_self _)
seen_fewer layout size op false first look =
    let e = ap (λ (st : RecvStage). lines_left_by (flag_lines layout) (chunk_count size op.head.len - op.chunk) (lines_from size op.head.len op.chunk) (lines_now size op) (op.chunk == 0) st) look
    ∙ ap (λ (z : Bool). (if z then 1 else 0) + lines_from size op.head.len op.chunk + 2 * flag_lines layout * (chunk_count size op.head.len - op.chunk)) first in
    subst (λ n. lines_from size op.head.len op.chunk + 2 * flag_lines layout * (chunk_count size op.head.len - op.chunk) ≤ n) (sym e)
    (none_more (lines_from size op.head.len op.chunk) (2 * flag_lines layout * (chunk_count size op.head.len - op.chunk)))
  where
    none_more : (x f : ℕ) → x + f ≤ 0 + x + f
    none_more x f = omega arith

-- the look found the flag set
not_finished : (st : RecvStage) → st ≡ Look → is_received st ≡ false
not_finished st look = ap is_received look

seen_open : (b : Bool) → is_received (if b then Header else Lower) ≡ false
seen_open true = refl
seen_open false = refl

look_finds : (s t : Sight) (c d : Private) (op : RecvAt) (bytes : List ℕ) (b : Bool) → (op.chunk == 0) ≡ b → IsSetup s.seat.setup → RecvStands s c op bytes → op.stage ≡ Look
    → Looks s c (own_core s.seat) (signal_flag s.seat Sent op.from) true t d
    → Turns s c op bytes t d (record op { stage = if b then Header else Lower }) bytes Moved
look_finds s t c d op bytes b first valid r look looks =
    let size = chunk_of s.seat.setup in
    let now : RecvAt = record op { stage = if b then Header else Lower } in
    let l = looks_at Sent s t c d op.from true valid r.peers r.hands looks in
    let at : (record_in s).stage ≡ between size op bytes = subst (λ (st : RecvStage). IsAtRecvStage s.seat (record_in s) c op bytes st) look r.at in
    let stage : (record_in t).stage ≡ between size op bytes = looked_stage size (record_in s) (record_in t) op bytes l.looked at in
    let rest = looked_rest size (record_in s) (record_in t) l.looked in
    let post = looked_post size (record_in s) (record_in t) l.looked in
    let calls = looked_calls size (record_in s) (record_in t) l.looked in
    let notes = looked_notes size (record_in s) (record_in t) op.from l.looked l.tells in
    record {
      stands = subst (λ (x : Seat). IsReceiving x (record_in t) d now bytes) (sym (seat_kept s _ t looks.looks.did))
          (stands_after s.seat (record_in s) (record_in t) c d op now bytes r refl refl refl (fills_out looks.looks.fills ∙ r.empty) rest.hold
          (seen_at s.seat (record_in t) d op bytes b first stage notes));
      turned = record {
        events = loads_of (line_of_word (flag_word (own_core s.seat) (signal_flag s.seat Sent op.from))) looks.words;
        did = looks.looks.did;
        does = recv_does (receiving s c op bytes) Look true t d look looks;
        tried = look_tried s.seat.setup.layout (own_core s.seat) (signal_flag s.seat Sent op.from) looks.words true (recv_spot s.seat op) (signal_low s.seat.setup.layout Sent op.from) looks.is
            (at_look s.seat op look) (signal_aims s.seat.setup.layout Sent (own_core s.seat) op.from);
        freed = refl;
        elsewhere = λ at other ne. look_elsewhere s.seat op (own_core s.seat) looks.words at (at_look s.seat op look) other ne;
        fuller = seen_fuller size op b look;
        fewer = seen_fewer s.seat.setup.layout size op b first look;
        rests = λ spot e. absurd (cc);
        only = tt;
        no_drafts = refl;
        same = (refl, refl);
        means = (seen_left size op b first look r.in_hand, calls, not_finished op.stage look, seen_open b);
        rest = rest;
        post = post;
        before = λ k low. refl;
        afterwards = λ k high. refl;
        held = look_held c d _ looks.words looks.looks.fills;
        work = look_work (load_count (loads_of (line_of_word (flag_word (own_core s.seat) (signal_flag s.seat Sent op.from))) looks.words)) c.evictions d.evictions _ (is_look op.stage)
            refl (ap is_look look) (fills_evictions looks.looks.fills);
      };
    }

-- the turn that looks, by what the look found
pub look_turn : (found : Bool) (s t : Sight) (c d : Private) (op : RecvAt) (bytes : List ℕ) → IsSetup s.seat.setup → RecvStands s c op bytes → op.stage ≡ Look
    → Looks s c (own_core s.seat) (signal_flag s.seat Sent op.from) found t d
    → Turns s c op bytes t d (after_look found op) bytes (recv_or_waits found (flag_spot (own_core s.seat) (signal_flag s.seat Sent op.from)))
look_turn true s t c d op bytes valid r look looks = look_finds s t c d op bytes (op.chunk == 0) refl valid r look looks
look_turn false s t c d op bytes valid r look looks = look_waits s t c d op bytes valid r look looks
