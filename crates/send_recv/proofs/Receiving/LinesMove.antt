-- The turn of a receive that reads a line, as a turn.
use Rattle.std.proofs.Common.{◌≡◌, inr, ⊎_elim, ℕ, ◌+◌, ◌-◌, ◌*◌, ◌<◌, ◌≤◌, min, Bool, true, false, ◌==◌, if◌then◌else◌, nat_lt, List, Option, None, length, refl, sym, ◌∙◌, ap, subst, arith, slice_index}
use Rattle.std.proofs.lemmas.Bool.{cases_lt}
use Rattle.std.proofs.lemmas.List.{get_or_past}
use Rattle.scc_base.specs.Layouts.{first_chunk, chunk_lines}
use Rattle.scc_base.specs.Setups.{IsSetup, host_of}
use Rattle.scc_base.specs.declared.events.Spot.{Spot}
use Rattle.scc_base.specs.declared.layouts.Layout.{Layout}
use Rattle.scc_base.specs.declared.layouts.Layout.TheVariants.{LineFlags, BitFlags}
use Rattle.scc_proto.specs.Messages.{Notes}
use Rattle.scc_proto.specs.Stages.{Record}
use Rattle.scc_proto.specs.Records.{chunk_of}
use Rattle.scc_proto.specs.Ports.{Seat, Sight, record_in}
use Rattle.scc_proto.proofs.PortLaws.{seat_kept}
use Rattle.scc_proto.proofs.Tests.{peers_are}
use Rattle.scc_proto.proofs.Layouts.Roles.{lt_is, lt_not}
use Rattle.put_get.specs.Cores.{Private, ReadsLine}
use Rattle.put_get.specs.Transfers.{line_at, load_count}
use Rattle.send_recv.specs.declared.stages.RecvStage.{RecvStage}
use Rattle.send_recv.specs.declared.stages.RecvStage.TheVariants.{Lines, Raise}
use Rattle.send_recv.specs.declared.answers.RecvTurn.TheVariants.{Moved}
use Rattle.send_recv.specs.Bytes.{byte_of_line}
use Rattle.send_recv.specs.Chunks.{chunk_count, chunk_start, chunk_len, chunk_lines_of, lines_from}
use Rattle.send_recv.specs.Ops.{RecvAt, is_received}
use Rattle.send_recv.specs.Receiving.{IsAtRecvStage, IsReceiving, RecvStands, AreNoted, IsTakingLines, lines_now, spot_by, recv_left, recv_left_by, lines_left, lines_left_by, flag_lines, is_look, filled_to, filled_by}
use Rattle.send_recv.specs.Steps.{with_empty_cache, own_core, core_of, before_line, after_line}
use Rattle.sync_flags.specs.Tries.{NoTry}
use Rattle.send_recv.specs.Tries.{aim_at}
use Rattle.send_recv.specs.Turns.{KeepsAllButMessages, LastHeld}
use Rattle.send_recv.proofs.Lines.LineReads.{reads_whole, read_elsewhere}
use Rattle.send_recv.specs.Ranks.{receiving}
use Rattle.send_recv.proofs.Receiving.LookTurn.{recv_does, Turns, holds_kept}
use Rattle.send_recv.proofs.Receiving.HeadTurn.{peer_below, post_kept}
use Rattle.send_recv.proofs.Receiving.LinesTurn.{taken_line}

abbrev next_stage : Bool → ℕ → RecvStage
next_stage b i = if b then Lines (i + 1) else Raise

spot_lines : (layout : Layout) (own other from i : ℕ) → spot_by layout own other from (Lines i) ≡ None
spot_lines LineFlags own other from i = refl
spot_lines BitFlags own other from i = refl

cleared_same : (b : Bool) (c : Private) → (if b then with_empty_cache c else c).evictions ≡ c.evictions
cleared_same true c = refl
cleared_same false c = refl

cleared_out : (b : Bool) (c : Private) → (if b then with_empty_cache c else c).out ≡ c.out
cleared_out true c = refl
cleared_out false c = refl

now_within : (size len chunk : ℕ) → chunk_lines_of size len chunk ≤ lines_from size len chunk
now_within size len chunk = omega arith

-- the next line, or the end of the chunk, is one turn nearer
line_left : (b : Bool) (size : ℕ) (op : RecvAt) (i : ℕ) → nat_lt (i + 1) (lines_now size op) ≡ b → op.stage ≡ Lines i → i < lines_now size op → op.chunk < chunk_count size op.head.len
    → recv_left size op ≡ recv_left size (record op { stage = next_stage b i }) + 1
line_left true size op i next at low below =
    let few = now_within size op.head.len op.chunk in
    ap (λ (st : RecvStage). recv_left_by (chunk_count size op.head.len - op.chunk) (lines_from size op.head.len op.chunk) (lines_now size op) (op.chunk == 0) st) at ∙ omega (arith, few, low, below)
line_left false size op i next at low below =
    let few = now_within size op.head.len op.chunk in
    let high = lt_not (i + 1) (lines_now size op) next in
    ap (λ (st : RecvStage). recv_left_by (chunk_count size op.head.len - op.chunk) (lines_from size op.head.len op.chunk) (lines_now size op) (op.chunk == 0) st) at ∙ omega (arith, few, low, below, high)

gain : (layout : Layout) (more lines i : ℕ) → 1 ≤ more → i < lines
    → 1 ≤ ((lines - i) + 2 * flag_lines layout * more - flag_lines layout) - ((lines - (i + 1)) + 2 * flag_lines layout * more - flag_lines layout)
gain LineFlags more lines i some low = omega (arith, some, low)
gain BitFlags more lines i some low = omega (arith, some, low)

line_gain : (b : Bool) (layout : Layout) (size : ℕ) (op : RecvAt) (i : ℕ) → nat_lt (i + 1) (lines_now size op) ≡ b → op.stage ≡ Lines i → i < lines_now size op → op.chunk < chunk_count size op.head.len
    → 1 ≤ lines_left layout size op - lines_left layout size (record op { stage = next_stage b i })
line_gain true layout size op i next at low below =
    let few = now_within size op.head.len op.chunk in
    let e : lines_left layout size op ≡ (lines_from size op.head.len op.chunk - i) + 2 * flag_lines layout * (chunk_count size op.head.len - op.chunk) - flag_lines layout
    = ap (λ (st : RecvStage). lines_left_by (flag_lines layout) (chunk_count size op.head.len - op.chunk) (lines_from size op.head.len op.chunk) (lines_now size op) (op.chunk == 0) st) at in
    subst (λ x. 1 ≤ x - lines_left layout size (record op { stage = Lines (i + 1) })) (sym e)
    (gain layout (chunk_count size op.head.len - op.chunk) (lines_from size op.head.len op.chunk) i (omega (arith, below)) (omega (arith, few, low)))
line_gain false layout size op i next at low below =
    let few = now_within size op.head.len op.chunk in
    let high = lt_not (i + 1) (lines_now size op) next in
    let last : lines_now size op ≡ i + 1 = omega (arith, low, high) in
    let e : lines_left layout size op ≡ (lines_from size op.head.len op.chunk - i) + 2 * flag_lines layout * (chunk_count size op.head.len - op.chunk) - flag_lines layout
    = ap (λ (st : RecvStage). lines_left_by (flag_lines layout) (chunk_count size op.head.len - op.chunk) (lines_from size op.head.len op.chunk) (lines_now size op) (op.chunk == 0) st) at in
    subst (λ x. 1 ≤ x - lines_left layout size (record op { stage = Raise })) (sym e)
    (subst (λ n. 1 ≤ ((lines_from size op.head.len op.chunk - i) + 2 * flag_lines layout * (chunk_count size op.head.len - op.chunk) - flag_lines layout)
    - ((lines_from size op.head.len op.chunk - n) + 2 * flag_lines layout * (chunk_count size op.head.len - op.chunk) - flag_lines layout)) (sym last)
    (gain layout (chunk_count size op.head.len - op.chunk) (lines_from size op.head.len op.chunk) i (omega (arith, below)) (omega (arith, few, low))))

more_work : (events a b y x z : ℕ) → events + 4 * a ≤ 4 * b + 4 * 1 → 1 ≤ y - x → events + 4 * a ≤ 4 * b + 4 * ((y - x) + z)
more_work events a b y x z le one = omega (arith, le, one)

-- where the buffer is filled to after the line
filled_next : (b : Bool) (size : ℕ) (op : RecvAt) (i k : ℕ) → nat_lt (i + 1) (lines_now size op) ≡ b → filled_to size (record op { stage = next_stage b i }) ≤ k
    → chunk_start size op.chunk + min (32 * (i + 1)) (chunk_len size op.head.len op.chunk) ≤ k
filled_next true size op i k next le = le
filled_next false size op i k next le = let high = lt_not (i + 1) (lines_now size op) next in omega (arith, le, high)

-- past that the line wrote nothing: it lies past the line, or past the message
past_line : (w len chunk i k : ℕ) → i < chunk_lines_of (32 * w) len chunk → chunk_start (32 * w) chunk + min (32 * (i + 1)) (chunk_len (32 * w) len chunk) ≤ k → k < chunk_start (32 * w) chunk + 32 * i + 32 → len ≤ k
past_line w len chunk i k low le small = omega (arith, low, le, small)

from_first : (first i : ℕ) → first ≤ first + i
from_first first i = omega arith

line_fuller : (b : Bool) (size : ℕ) (op : RecvAt) (i : ℕ) → op.stage ≡ Lines i → filled_to size op ≤ filled_to size (record op { stage = next_stage b i })
line_fuller true size op i at = let e = ap (λ (st : RecvStage). filled_by (chunk_start size op.chunk) op.head.len st (chunk_len size op.head.len op.chunk)) at in omega (arith, e)
line_fuller false size op i at = let e = ap (λ (st : RecvStage). filled_by (chunk_start size op.chunk) op.head.len st (chunk_len size op.head.len op.chunk)) at in omega (arith, e)

less : (x i f g : ℕ) → (x - (i + 1)) + f - g ≤ (x - i) + f - g
less x i f g = omega arith

line_fewer : (b : Bool) (layout : Layout) (size : ℕ) (op : RecvAt) (i : ℕ) → nat_lt (i + 1) (lines_now size op) ≡ b → op.stage ≡ Lines i → i < lines_now size op
    → lines_left layout size (record op { stage = next_stage b i }) ≤ lines_left layout size op
line_fewer true layout size op i next at low =
    subst (λ x. lines_left layout size (record op { stage = Lines (i + 1) }) ≤ x)
    (sym (ap (λ (st : RecvStage). lines_left_by (flag_lines layout) (chunk_count size op.head.len - op.chunk) (lines_from size op.head.len op.chunk) (lines_now size op) (op.chunk == 0) st) at))
    (less (lines_from size op.head.len op.chunk) i (2 * flag_lines layout * (chunk_count size op.head.len - op.chunk)) (flag_lines layout))
line_fewer false layout size op i next at low =
    let high = lt_not (i + 1) (lines_now size op) next in
    let last : lines_now size op ≡ i + 1 = omega (arith, low, high) in
    subst (λ x. lines_left layout size (record op { stage = Raise }) ≤ x)
    (sym (ap (λ (st : RecvStage). lines_left_by (flag_lines layout) (chunk_count size op.head.len - op.chunk) (lines_from size op.head.len op.chunk) (lines_now size op) (op.chunk == 0) st) at))
    (subst (λ n. (lines_from size op.head.len op.chunk - n) + 2 * flag_lines layout * (chunk_count size op.head.len - op.chunk) - flag_lines layout
    ≤ (lines_from size op.head.len op.chunk - i) + 2 * flag_lines layout * (chunk_count size op.head.len - op.chunk) - flag_lines layout) (sym last)
    (less (lines_from size op.head.len op.chunk) i (2 * flag_lines layout * (chunk_count size op.head.len - op.chunk)) (flag_lines layout)))

open_next : (b : Bool) (i : ℕ) → is_received (next_stage b i) ≡ false
open_next true i = refl
open_next false i = refl

at_next : (b : Bool) (seat : Seat) (rec : Record) (d : Private) (op : RecvAt) (after : List ℕ) (i : ℕ) (m : Notes) → nat_lt (i + 1) (lines_now (chunk_of seat.setup) op) ≡ b → i < lines_now (chunk_of seat.setup) op
    → IsTakingLines (chunk_of seat.setup) rec op after m (i + 1) → AreNoted seat.setup.layout (host_of seat.setup.hosts op.from) m d.lines
    → IsAtRecvStage seat rec d (record op { stage = next_stage b i }) after (next_stage b i)
at_next true seat rec d op after i m next low taking noted = (lt_is (i + 1) (lines_now (chunk_of seat.setup) op) next, m, record { stage = taking.stage; read = record { loaded = taking.read.loaded; bytes_stand = taking.read.bytes_stand } }, λ ne. noted)
at_next false seat rec d op after i m next low taking noted =
    let high = lt_not (i + 1) (lines_now (chunk_of seat.setup) op) next in
    let last : i + 1 ≡ lines_now (chunk_of seat.setup) op = omega (arith, low, high) in (
      m,
      subst (λ n. IsTakingLines (chunk_of seat.setup) rec (record op { stage = Raise }) after m n) last
          (record { stage = taking.stage; read = record { loaded = taking.read.loaded; bytes_stand = taking.read.bytes_stand } }),
    )

lines_by : (b : Bool) (s t : Sight) (c d : Private) (op : RecvAt) (i : ℕ) (bytes after words : List ℕ) → nat_lt (i + 1) (lines_now (chunk_of s.seat.setup) op) ≡ b
    → IsSetup s.seat.setup → RecvStands s c op bytes → op.stage ≡ Lines i
    → ReadsLine s (before_line i c) (line_at (core_of s.seat op.from) (first_chunk s.seat.setup.layout + i)) words t d → length after ≡ length bytes
    → ((k : ℕ) → k < 32 → chunk_start (chunk_of s.seat.setup) op.chunk + 32 * i + k < length bytes → slice_index after (chunk_start (chunk_of s.seat.setup) op.chunk + 32 * i + k) ≡ byte_of_line words k)
    → ((k : ℕ) → k < chunk_start (chunk_of s.seat.setup) op.chunk + 32 * i → slice_index after k ≡ slice_index bytes k)
    → ((k : ℕ) → chunk_start (chunk_of s.seat.setup) op.chunk + 32 * i + 32 ≤ k → slice_index after k ≡ slice_index bytes k)
    → Turns s c op bytes t d (record op { stage = next_stage b i }) after Moved
lines_by b s t c d op i bytes after words next valid r stage reads same put before afterwards =
    let size = chunk_of s.seat.setup in
    let layout = s.seat.setup.layout in
    let at : IsAtRecvStage s.seat (record_in s) c op bytes (Lines i) = subst (λ (st : RecvStage). IsAtRecvStage s.seat (record_in s) c op bytes st) stage r.at in
    let low = at.0 in
    let p = peers_are s.seat.setup s.seat.rank op.from r.peers in
    let taken = taken_line s t c d op bytes after words i at.1 valid p.other r.long low at.2 at.3 reads same put before in
    let is = taken.3 in
    let ev = reads_whole s t (before_line i c) d (line_at (core_of s.seat op.from) (first_chunk layout + i)) words reads in
    let now : RecvAt = record op { stage = next_stage b i } in
    let kept : (before_line i c).evictions ≡ c.evictions = cleared_same (i == 0) c in
    let rest : KeepsAllButMessages (record_in s) (record_in t) = record {
      flips = ap (λ (x : Record). x.flips) is;
      hold = ap (λ (x : Record). x.held) is;
      heap = ap (λ (x : Record). x.heap) is;
    } in
    let work : load_count ev.events + 4 * c.evictions ≤ 4 * d.evictions + 4 * 1 = subst (λ n. load_count ev.events + 4 * n ≤ 4 * d.evictions + 4 * 1) kept ev.work in
    let filled : filled_to size op ≡ chunk_start size op.chunk + min (32 * i) (chunk_len size op.head.len op.chunk)
    = ap (λ (st : RecvStage). filled_by (chunk_start size op.chunk) op.head.len st (chunk_len size op.head.len op.chunk)) stage in
    record {
      stands = subst (λ (x : Seat). IsReceiving x (record_in t) d now after) (sym (seat_kept s ev.events t ev.did)) (record {
        peers = r.peers;
        head = r.head;
        long = same ∙ r.long;
        empty = ev.out ∙ cleared_out (i == 0) c ∙ r.empty;
        hands = holds_kept layout (record_in s) (record_in t) rest.hold r.hands;
        in_hand = r.in_hand;
        at = at_next b s.seat (record_in t) d op after i taken.0 next low taken.1 taken.2;
      });
      turned = record {
        events = ev.events;
        did = ev.did;
        does = recv_does (receiving s c op bytes) (Lines i) true t d stage (words, reads);
        tried = NoTry (ap (λ (st : RecvStage). aim_at layout (spot_by layout (own_core s.seat) (core_of s.seat op.from) op.from st)) stage
            ∙ ap (λ (o : Option Spot). aim_at layout o) (spot_lines layout (own_core s.seat) (core_of s.seat op.from) op.from i)) refl;
        freed = ev.tries.freed;
        elsewhere = λ at spot ne. read_elsewhere s.seat op (line_at (core_of s.seat op.from) (first_chunk layout + i)) ev.events at (peer_below s.seat op.from valid r.peers) (inr (from_first (first_chunk layout) i)) ev.tries spot;
        fuller = line_fuller b size op i stage;
        fewer = line_fewer b layout size op i next stage low;
        rests = λ spot w. absurd (cc);
        only = tt;
        no_drafts = ev.no_drafts s.seat.setup;
        same = (refl, refl);
        means = (line_left b size op i next stage low r.in_hand, ap (λ (x : Record). x.calls) is, ap is_received stage, open_next b i);
        rest = rest;
        post = post_kept (record_in s).post (record_in t).post (ap (λ (x : Record). x.post) is);
        before = λ k small. before k (omega (arith, filled, small));
        afterwards = λ k high. ⊎_elim
            (λ (inside : k < chunk_start size op.chunk + 32 * i + 32).
            let end : op.head.len ≤ k = past_line (chunk_lines layout) op.head.len op.chunk i k low (filled_next b size op i k next high) inside in
            let long = r.long in
            get_or_past after k 0 (omega (arith, end, long, same)) ∙ sym (get_or_past bytes k 0 (omega (arith, end, long))))
            (λ (past : chunk_start size op.chunk + 32 * i + 32 ≤ k). afterwards k past)
            (cases_lt k (chunk_start size op.chunk + 32 * i + 32));
        held = subst (λ n. LastHeld ev.events n d) kept ev.held;
        work = more_work (load_count ev.events) c.evictions d.evictions (lines_left layout size op) (lines_left layout size now) (if is_look op.stage then 1 else 0) work
            (line_gain b layout size op i next stage low r.in_hand);
      };
    }

pub lines_turn : (s t : Sight) (c d : Private) (op : RecvAt) (i : ℕ) (bytes after words : List ℕ) → IsSetup s.seat.setup → RecvStands s c op bytes → op.stage ≡ Lines i
    → ReadsLine s (before_line i c) (line_at (core_of s.seat op.from) (first_chunk s.seat.setup.layout + i)) words t d → length after ≡ length bytes
    → ((k : ℕ) → k < 32 → chunk_start (chunk_of s.seat.setup) op.chunk + 32 * i + k < length bytes → slice_index after (chunk_start (chunk_of s.seat.setup) op.chunk + 32 * i + k) ≡ byte_of_line words k)
    → ((k : ℕ) → k < chunk_start (chunk_of s.seat.setup) op.chunk + 32 * i → slice_index after k ≡ slice_index bytes k)
    → ((k : ℕ) → chunk_start (chunk_of s.seat.setup) op.chunk + 32 * i + 32 ≤ k → slice_index after k ≡ slice_index bytes k)
    → Turns s c op bytes t d (after_line (chunk_of s.seat.setup) i op) after Moved
lines_turn s t c d op i bytes after words valid r stage reads same put before afterwards =
    lines_by (nat_lt (i + 1) (lines_now (chunk_of s.seat.setup) op)) s t c d op i bytes after words refl valid r stage reads same put before afterwards
