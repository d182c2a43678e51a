-- The turn of a receive that reads the sender's header line.
use Rattle.std.proofs.Common.{◌≡◌, ◌≢◌, inl, ℕ, zero, suc, ◌+◌, ◌-◌, ◌*◌, ◌<◌, ◌≤◌, true, false, ◌==◌, ◌&&◌, if◌then◌else◌, List, [], Option, Some, None, is_some, unwrap_or, refl, sym, ◌∙◌, ap, subst, arith, slice_index}
use Rattle.std.proofs.lemmas.Bool.Decides.{nat_tests}
use Rattle.scc_base.specs.Heads.{MessageHead, IsHead}
use Rattle.scc_base.specs.Places.{LineAt}
use Rattle.scc_base.specs.Setups.{IsSetup, host_of}
use Rattle.scc_base.specs.declared.events.Event.{Event}
use Rattle.scc_base.specs.declared.events.Spot.{Spot}
use Rattle.scc_base.specs.declared.layouts.Layout.{Layout}
use Rattle.scc_base.specs.declared.layouts.Layout.TheVariants.{LineFlags, BitFlags}
use Rattle.scc_proto.specs.Tables.{table_with}
use Rattle.scc_proto.specs.Messages.{Notes, noted_word, has_all, head_of, is_head}
use Rattle.scc_proto.specs.Stages.{Stage, Idle, Between, InFlight, Record}
use Rattle.scc_proto.specs.Words.{are_peers}
use Rattle.scc_proto.specs.Soundness.{AreOfHead}
use Rattle.scc_proto.specs.Records.{chunk_of}
use Rattle.scc_proto.specs.Ports.{Seat, Sight, IsSoundPort, record_in}
use Rattle.scc_proto.proofs.Tests.{put_here, put_there, same_or_other, peers_are}
use Rattle.scc_proto.proofs.Words.NoteFacts.{has_all-from}
use Rattle.scc_proto.proofs.Layouts.Roles.{if_yes}
use Rattle.put_get.specs.Cores.{Private, ReadsLine}
use Rattle.put_get.specs.Transfers.{line_at, load_count}
use Rattle.send_recv.specs.declared.stages.RecvStage.{RecvStage}
use Rattle.send_recv.specs.declared.stages.RecvStage.TheVariants.{Header, Lower}
use Rattle.send_recv.specs.declared.answers.RecvTurn.{RecvTurn}
use Rattle.send_recv.specs.declared.answers.RecvTurn.TheVariants.{Moved, Mismatch}
use Rattle.send_recv.specs.Chunks.{chunk_count, chunk_start, chunk_len, lines_from}
use Rattle.send_recv.specs.Ops.{RecvAt, is_received}
use Rattle.send_recv.specs.Receiving.{IsAtRecvStage, IsReceiving, RecvStands, SaysHead, between, progress_at, spot_by, recv_spot, IsRecvSpot, recv_left, recv_left_by, lines_now, lines_left, lines_left_by, flag_lines, is_look, filled_to, filled_by}
use Rattle.send_recv.specs.Steps.{with_empty_cache, own_core, core_of, head_in_line, is_same_head, HeadRead, Same, Differs}
use Rattle.sync_flags.specs.Tries.{NoTry, tries_at}
use Rattle.send_recv.specs.Tries.{aim_of, aim_at}
use Rattle.send_recv.specs.Turns.{IsSamePost, KeepsAllButMessages}
use Rattle.send_recv.proofs.Lines.NotedReads.{HasWords, line_notes}
use Rattle.send_recv.proofs.Lines.Sources.{with_header, header_source, IsNotedHeader, header_condition}
use Rattle.send_recv.proofs.Lines.LineReads.{NoTries, reads_whole, read_elsewhere}
use Rattle.send_recv.proofs.Looks.TryLemmas.{le_self}
use Rattle.send_recv.specs.Ranks.{receiving}
use Rattle.send_recv.proofs.Receiving.LookTurn.{recv_does, Turns, stands_after}

-- what is there may be put
pub put_self : {A : Type 0} (table : ℕ → A) (i : ℕ) (x : A) → table i ≡ x → table ≡ table_with table i x
put_self table i x is = λ p k. at k p
  where
    at : (k : ℕ) → table k ≡ table_with table i x k
    at k = same_or_other (table k ≡ table_with table i x k) k i
        (λ t e. subst (λ j. table j ≡ table_with table i x j) (sym e) (is ∙ sym (put_here table i x)))
        (λ t ne. sym (put_there table i x k ne))

pub post_itself : (post : Option InFlight) → IsSamePost post post
post_itself None = refl
post_itself (Some post) = (post.is_answered, refl, λ a. a)

pub post_kept : (old new : Option InFlight) → new ≡ old → IsSamePost old new
post_kept old new e = subst (λ (p : Option InFlight). IsSamePost old p) (sym e) (post_itself old)

-- a head that passes the test is one that a message may have
pub is_head_is : (head : MessageHead) → is_head head ≡ true → IsHead head
is_head_is head h = record {
  kind_below = grind (arith, nat_tests, h);
  comm_below = grind (arith, nat_tests, h);
  len_within = grind (arith, nat_tests, h);
  plain_in_world = λ zero_is. grind (arith, nat_tests, h, zero_is);
}

-- the words of a header line that was read from a rank that was seen are a valid head's
pub words_head : (m : Notes) (words : List ℕ) → HasWords m 0 words → AreOfHead m → is_head (head_in_line words) ≡ true
words_head m words has of =
    let k0 = of.words 0 (slice_index words 0) (omega arith) (has 0 (omega arith)) in
    let k1 = of.words 1 (slice_index words 1) (omega arith) (has 1 (omega arith)) in
    let k2 = of.words 2 (slice_index words 2) (omega arith) (has 2 (omega arith)) in
    ap (λ (h : MessageHead). is_head h) (λ i. record { kind = k0 i; comm = k1 i; len = k2 i }) ∙ of.valid

some_noted : (m : Notes) (words : List ℕ) → HasWords m 0 words → (k : ℕ) → k < 3 → is_some (noted_word m k) ≡ true
some_noted m words has zero below = ap (λ (o : Option ℕ). is_some o) (has 0 (omega arith))
some_noted m words has (suc zero) below = ap (λ (o : Option ℕ). is_some o) (has 1 (omega arith))
some_noted m words has (suc (suc zero)) below = ap (λ (o : Option ℕ). is_some o) (has 2 (omega arith))
some_noted m words has (suc (suc (suc k))) below = absurd (omega (arith, below))

words_say : (m : Notes) (words : List ℕ) → HasWords m 0 words → AreOfHead m → SaysHead m (head_in_line words)
words_say m words has of =
    let same : head_of m ≡ head_in_line words = λ i. record {
      kind = unwrap_or (has 0 (omega arith) i) 0;
      comm = unwrap_or (has 1 (omega arith) i) 0;
      len = unwrap_or (has 2 (omega arith) i) 0;
    } in
    let all : has_all m 3 ≡ true = has_all-from m 3 (some_noted m words has) in
    let valid : is_head (head_of m) ≡ true = ap (λ (h : MessageHead). is_head h) same ∙ words_head m words has of in
    ((λ i. all i && is_head (head_of m)) ∙ valid, same)

-- ---- the record after the header line was read

pub record HeaderRead (s : Sight) (op : RecvAt) (words : List ℕ) (t : Sight) : Type 0 where
  pub header : Notes
  pub seat_is : t.seat ≡ s.seat
  pub record_is : record_in t ≡ with_header (record_in s) op.from header
  pub has : HasWords header 0 words

pub header_read : (s t : Sight) (c d : Private) (op : RecvAt) (words : List ℕ) (header : Notes) → IsSetup s.seat.setup → op.from < s.seat.setup.nue → (record_in s).notes op.from ≡ Some header
    → ReadsLine s (with_empty_cache c) (line_at (core_of s.seat op.from) 0) words t d → HeaderRead s op words t
header_read s t c d op words header valid below seen reads =
    let line = line_at (core_of s.seat op.from) 0 in
    let is : record_in s ≡ with_header (record_in s) op.from header = ap (λ (f : ℕ → Option Notes). record (record_in s) { notes = f }) (put_self (record_in s).notes op.from (Some header) seen) in
    let r = line_notes s t (with_empty_cache c) d s.seat line 0 (with_header (record_in s) op.from) (IsNotedHeader line) words header
    (header_source s.seat (record_in s) op.from valid below) (header_condition line) refl is tt reads in
    record { header = r.notes; seat_is = r.seat_is; record_is = r.record_is; has = r.has }

pub header_notes : (s t : Sight) (op : RecvAt) (words : List ℕ) (h : HeaderRead s op words t) → (record_in t).notes op.from ≡ Some h.header
header_notes s t op words h = ap (λ (r : Record). r.notes op.from) h.record_is ∙ put_here (record_in s).notes op.from (Some h.header)

-- ---- the turn

spot_header : (layout : Layout) (own other from : ℕ) → spot_by layout own other from Header ≡ None
spot_header LineFlags own other from = refl
spot_header BitFlags own other from = refl

at_header : (seat : Seat) (op : RecvAt) → op.stage ≡ Header → recv_spot seat op ≡ None
at_header seat op header =
    ap (λ (st : RecvStage). spot_by seat.setup.layout (own_core seat) (core_of seat op.from) op.from st) header ∙ spot_header seat.setup.layout (own_core seat) (core_of seat op.from) op.from

-- a rank that is a peer is one of 48
pub peer_below : (seat : Seat) (j : ℕ) → IsSetup seat.setup → are_peers seat.setup seat.rank j ≡ true → j < 48
peer_below seat j valid peers =
    let p = peers_are seat.setup seat.rank j peers in
    let within = valid.ranks_within in
    let other = p.other in
    omega (arith, within, other)

head_elsewhere : (seat : Seat) (op : RecvAt) (es : List Event) (at : Spot) → IsSetup seat.setup → are_peers seat.setup seat.rank op.from ≡ true → NoTries (line_at (core_of seat op.from) 0) es
    → IsRecvSpot seat op at → tries_at (aim_of seat.setup.layout at) es ≡ 0
head_elsewhere seat op es at valid peers tries spot = read_elsewhere seat op (line_at (core_of seat op.from) 0) es at (peer_below seat op.from valid peers) (inl refl) tries spot

head_fuller : (size : ℕ) (op : RecvAt) → op.stage ≡ Header → filled_to size op ≤ filled_to size (record op { stage = Lower })
head_fuller size op header = let e = ap (λ (st : RecvStage). filled_by (chunk_start size op.chunk) op.head.len st (chunk_len size op.head.len op.chunk)) header in omega (arith, e)

head_fewer : (layout : Layout) (size : ℕ) (op : RecvAt) → op.stage ≡ Header → lines_left layout size (record op { stage = Lower }) ≤ lines_left layout size op
head_fewer layout size op header =
    let e : lines_left layout size op ≡ 1 + lines_from size op.head.len op.chunk + 2 * flag_lines layout * (chunk_count size op.head.len - op.chunk)
    = ap (λ (st : RecvStage). lines_left_by (flag_lines layout) (chunk_count size op.head.len - op.chunk) (lines_from size op.head.len op.chunk) (lines_now size op) (op.chunk == 0) st) header in
    subst (λ n. lines_from size op.head.len op.chunk + 2 * flag_lines layout * (chunk_count size op.head.len - op.chunk) ≤ n) (sym e)
    (one_more (lines_from size op.head.len op.chunk) (2 * flag_lines layout * (chunk_count size op.head.len - op.chunk)))
  where
    one_more : (x f : ℕ) → x + f ≤ 1 + x + f
    one_more x f = omega arith

first_between : (size : ℕ) (op : RecvAt) (bytes : List ℕ) (stage : Stage) → op.chunk ≡ 0 → stage ≡ Idle → stage ≡ between size op bytes
first_between size op bytes stage zero_is idle = idle ∙ sym (if_yes (op.chunk == 0) Idle (Between op.from (progress_at size op.head op.chunk bytes)) (ap (λ k. k == 0) zero_is))

head_left : (size : ℕ) (op : RecvAt) → op.stage ≡ Header → op.chunk < chunk_count size op.head.len → recv_left size op ≡ recv_left size (record op { stage = Lower }) + 1
head_left size op at below = ap (λ (st : RecvStage). recv_left_by (chunk_count size op.head.len - op.chunk) (lines_from size op.head.len op.chunk) (lines_now size op) (op.chunk == 0) st) at ∙ omega (arith, below)

head_work : (layout : Layout) (size : ℕ) (op : RecvAt) (events a b : ℕ) → op.stage ≡ Header → events + 4 * a ≤ 4 * b + 4 * 1
    → events + 4 * a ≤ 4 * b + 4 * ((lines_left layout size op - lines_left layout size (record op { stage = Lower })) + (if is_look op.stage then 1 else 0))
head_work layout size op events a b at le =
    let x = lines_from size op.head.len op.chunk + 2 * flag_lines layout * (chunk_count size op.head.len - op.chunk) in
    let e : lines_left layout size op ≡ 1 + lines_from size op.head.len op.chunk + 2 * flag_lines layout * (chunk_count size op.head.len - op.chunk)
    = ap (λ (st : RecvStage). lines_left_by (flag_lines layout) (chunk_count size op.head.len - op.chunk) (lines_from size op.head.len op.chunk) (lines_now size op) (op.chunk == 0) st) at in
    more events a b (lines_left layout size op) x (if is_look op.stage then 1 else 0) le (omega (arith, e))
  where
    more : (events a b y x z : ℕ) → events + 4 * a ≤ 4 * b + 4 * 1 → y ≡ x + 1 → events + 4 * a ≤ 4 * b + 4 * ((y - x) + z)
    more events a b y x z le e = omega (arith, le, e)

pub head_turn : (s t : Sight) (c d : Private) (op now : RecvAt) (bytes words : List ℕ) (answer : RecvTurn) → IsSetup s.seat.setup → RecvStands s c op bytes → op.stage ≡ Header → IsSoundPort t
    → ReadsLine s (with_empty_cache c) (line_at (core_of s.seat op.from) 0) words t d → HeadRead words op now answer → Turns s c op bytes t d now bytes answer
head_turn s t c d op now bytes words answer valid r header sound reads (Same e now_is ans) =
    let size = chunk_of s.seat.setup in
    let at : IsAtRecvStage s.seat (record_in s) c op bytes Header = subst (λ (st : RecvStage). IsAtRecvStage s.seat (record_in s) c op bytes st) header r.at in
    let p = peers_are s.seat.setup s.seat.rank op.from r.peers in
    let h = header_read s t c d op words at.2 valid p.other at.3 reads in
    let notes = header_notes s t op words h in
    let says = words_say h.header words h.has (sound.heads op.from h.header notes) in
    let ev = reads_whole s t (with_empty_cache c) d (line_at (core_of s.seat op.from) 0) words reads in
    let stage : (record_in t).stage ≡ Idle = ap (λ (x : Record). x.stage) h.record_is ∙ at.1 in
    let next : RecvAt = record op { stage = Lower } in
    let rest : KeepsAllButMessages (record_in s) (record_in t) = record {
      flips = ap (λ (x : Record). x.flips) h.record_is;
      hold = ap (λ (x : Record). x.held) h.record_is;
      heap = ap (λ (x : Record). x.heap) h.record_is;
    } in
    let turns : Turns s c op bytes t d next bytes Moved = record {
      stands = subst (λ (x : Seat). IsReceiving x (record_in t) d next bytes) (sym h.seat_is)
          (stands_after s.seat (record_in s) (record_in t) c d op next bytes r refl refl refl (ev.out ∙ r.empty) rest.hold
          (first_between size op bytes (record_in t).stage at.0 stage, h.header, notes, λ zero_is. (says.0, says.1 ∙ e)));
      turned = record {
        events = ev.events;
        did = ev.did;
        does = recv_does (receiving s c op bytes) Header true t d header (words, reads);
        tried = NoTry (ap (λ (o : Option Spot). aim_at s.seat.setup.layout o) (at_header s.seat op header)) refl;
        freed = ev.tries.freed;
        elsewhere = λ at spot ne. head_elsewhere s.seat op ev.events at valid r.peers ev.tries spot;
        fuller = head_fuller size op header;
        fewer = head_fewer s.seat.setup.layout size op header;
        rests = λ spot w. absurd (cc);
        only = tt;
        no_drafts = ev.no_drafts s.seat.setup;
        same = (refl, refl);
        means = (head_left size op header r.in_hand, ap (λ (x : Record). x.calls) h.record_is, ap is_received header, refl);
        rest = rest;
        post = post_kept (record_in s).post (record_in t).post (ap (λ (x : Record). x.post) h.record_is);
        before = λ k low. refl;
        afterwards = λ k high. refl;
        held = ev.held;
        work = head_work s.seat.setup.layout size op (load_count ev.events) c.evictions d.evictions header ev.work;
      };
    } in
    subst (λ (a : RecvTurn). Turns s c op bytes t d now bytes a) (sym ans) (subst (λ (n : RecvAt). Turns s c op bytes t d n bytes Moved) (sym now_is) turns)
head_turn s t c d op now bytes words answer valid r header sound reads (Differs ne now_is ans) =
    let size = chunk_of s.seat.setup in
    let at : IsAtRecvStage s.seat (record_in s) c op bytes Header = subst (λ (st : RecvStage). IsAtRecvStage s.seat (record_in s) c op bytes st) header r.at in
    let p = peers_are s.seat.setup s.seat.rank op.from r.peers in
    let h = header_read s t c d op words at.2 valid p.other at.3 reads in
    let notes = header_notes s t op words h in
    let says = words_say h.header words h.has (sound.heads op.from h.header notes) in
    let ev = reads_whole s t (with_empty_cache c) d (line_at (core_of s.seat op.from) 0) words reads in
    let same : (record_in t).stage ≡ (record_in s).stage = ap (λ (x : Record). x.stage) h.record_is in
    let calls : (record_in t).calls ≡ (record_in s).calls = ap (λ (x : Record). x.calls) h.record_is in
    let post = post_kept (record_in s).post (record_in t).post (ap (λ (x : Record). x.post) h.record_is) in
    let rest : KeepsAllButMessages (record_in s) (record_in t) = record {
      flips = ap (λ (x : Record). x.flips) h.record_is;
      hold = ap (λ (x : Record). x.held) h.record_is;
      heap = ap (λ (x : Record). x.heap) h.record_is;
    } in
    let le = ev.work in
    let turns : Turns s c op bytes t d op bytes (Mismatch (head_in_line words)) = record {
      stands = subst (λ (x : Seat). IsReceiving x (record_in t) d op bytes) (sym h.seat_is)
          (stands_after s.seat (record_in s) (record_in t) c d op op bytes r refl refl refl (ev.out ∙ r.empty) rest.hold
          (subst (λ (st : RecvStage). IsAtRecvStage s.seat (record_in t) d op bytes st) (sym header) (at.0, same ∙ at.1, h.header, notes)));
      turned = record {
        events = ev.events;
        did = ev.did;
        does = recv_does (receiving s c op bytes) Header true t d header (words, reads);
        tried = NoTry (ap (λ (o : Option Spot). aim_at s.seat.setup.layout o) (at_header s.seat op header)) refl;
        freed = ev.tries.freed;
        elsewhere = λ at spot ne. head_elsewhere s.seat op ev.events at valid r.peers ev.tries spot;
        fuller = le_self _;
        fewer = le_self _;
        rests = λ spot w. absurd (cc);
        only = tt;
        no_drafts = ev.no_drafts s.seat.setup;
        same = (refl, refl);
        means = (refl, refl, header, record { stage = same; post = post; rest = rest; calls = calls }, ne, h.header, notes, says);
        rest = rest;
        post = post;
        before = λ k low. refl;
        afterwards = λ k high. refl;
        held = ev.held;
        work = omega (arith, le);
      };
    } in
    subst (λ (a : RecvTurn). Turns s c op bytes t d now bytes a) (sym ans) (subst (λ (n : RecvAt). Turns s c op bytes t d n bytes (Mismatch (head_in_line words))) (sym now_is) turns)

-- ---- from the calls

-- a line of a rank's buffer was read, with nothing cached
pub read_at : (s t : Sight) (c c1 d : Private) (j i : ℕ) (core : ℕ) (line : LineAt) (words : List ℕ) → c1 ≡ record c { lines = [] } → line ≡ record { core = core; line = i } → core ≡ host_of s.seat.setup.hosts j
    → ReadsLine s c1 line words t d → ReadsLine s (with_empty_cache c) (line_at (core_of s.seat j) i) words t d
read_at s t c c1 d j i core line words empty is at reads =
    subst (λ (l : LineAt). ReadsLine s (with_empty_cache c) l words t d) (is ∙ (λ p. record { core = at p; line = i })) (subst (λ (x : Private). ReadsLine s x line words t d) empty reads)

-- the header line of a rank that was seen says a valid head
pub head_is_valid : (s t : Sight) (c c1 : Private) (op : RecvAt) (d : Private) (core : ℕ) (line : LineAt) (words : List ℕ) (header : Notes) → IsSetup s.seat.setup → are_peers s.seat.setup s.seat.rank op.from ≡ true
    → (record_in s).notes op.from ≡ Some header → IsSoundPort t → c1 ≡ record c { lines = [] } → line ≡ record { core = core; line = 0 } → core ≡ host_of s.seat.setup.hosts op.from
    → ReadsLine s c1 line words t d → IsHead (head_in_line words)
head_is_valid s t c c1 op d core line words header valid peers seen sound empty is at reads =
    let p = peers_are s.seat.setup s.seat.rank op.from peers in
    let h = header_read s t c d op words header valid p.other seen (read_at s t c c1 d op.from 0 core line words empty is at reads) in
    is_head_is (head_in_line words) (words_head h.header words h.has (sound.heads op.from h.header (header_notes s t op words h)))

pub same_head_is : (a b : MessageHead) → is_same_head a b ≡ true → a ≡ b
same_head_is a b t =
    let k : a.kind ≡ b.kind = grind (arith, nat_tests, t) in
    let m : a.comm ≡ b.comm = grind (arith, nat_tests, t) in
    let l : a.len ≡ b.len = grind (arith, nat_tests, t) in
    λ i. record { kind = k i; comm = m i; len = l i }

pub same_head_not : (a b : MessageHead) → is_same_head a b ≡ false → a ≢ b
same_head_not a b t = λ e.
    let k : a.kind ≡ b.kind = ap (λ (h : MessageHead). h.kind) e in
    let m : a.comm ≡ b.comm = ap (λ (h : MessageHead). h.comm) e in
    let l : a.len ≡ b.len = ap (λ (h : MessageHead). h.len) e in
    absurd (grind (arith, nat_tests, t, k, m, l))
