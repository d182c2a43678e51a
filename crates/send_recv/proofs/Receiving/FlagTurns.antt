-- The two turns of a receive that change a flag: it takes the chunk, and it tells the sender so.
use Rattle.std.proofs.Common.{◌≡◌, ◌≢◌, ℕ, ◌+◌, ◌-◌, ◌*◌, ◌<◌, ◌≤◌, Bool, true, false, ◌==◌, if◌then◌else◌, List, [], Option, Some, None, unwrap_or, take, refl, sym, ◌∙◌, ap, subst, arith}
use Rattle.scc_base.specs.Setups.{IsSetup}
use Rattle.scc_base.specs.declared.events.Event.{Event}
use Rattle.scc_base.specs.declared.events.Spot.{Spot}
use Rattle.scc_base.specs.declared.events.Spot.TheVariants.{Register}
use Rattle.scc_base.specs.declared.layouts.Layout.{Layout}
use Rattle.scc_base.specs.declared.layouts.Layout.TheVariants.{LineFlags, BitFlags}
use Rattle.scc_base.specs.declared.signals.Signal.TheVariants.{Sent}
use Rattle.scc_proto.specs.Messages.{Notes, head_of, has_all}
use Rattle.scc_proto.specs.Stages.{Stage, Idle, Between, Taking, Record}
use Rattle.scc_proto.specs.Moves.{LowerSignal, lower_sent, after}
use Rattle.scc_proto.specs.Permission.{permits, may_take, says_head}
use Rattle.scc_proto.specs.Records.{chunk_of}
use Rattle.scc_proto.specs.Ports.{Seat, Sight, record_in}
use Rattle.scc_proto.proofs.Tests.{eqb_same, peers_swap}
use Rattle.scc_proto.proofs.PortLaws.{seat_kept}
use Rattle.scc_proto.proofs.Layouts.Roles.{eq_is, eq_not}
use Rattle.put_get.specs.Cores.{Private}
use Rattle.put_get.specs.Transfers.{load_count}
use Rattle.send_recv.specs.declared.stages.RecvStage.{RecvStage}
use Rattle.send_recv.specs.declared.stages.RecvStage.TheVariants.{Lower, Lines, Raise}
use Rattle.send_recv.specs.declared.answers.RecvTurn.TheVariants.{Moved}
use Rattle.send_recv.specs.Chunks.{chunk_count, chunk_start, chunk_len, lines_from}
use Rattle.send_recv.specs.Flags.{Changes, MayChange}
use Rattle.send_recv.specs.Ops.{RecvAt, is_received}
use Rattle.send_recv.specs.Receiving.{IsAtRecvStage, IsReceiving, RecvStands, IsRead, SaysHead, between, progress_at, lines_now, spot_by, recv_spot, recv_left, recv_left_by, lines_left, lines_left_by, flag_lines, is_look, filled_to, filled_by}
use Rattle.send_recv.specs.Steps.{own_core, core_of, signal_flag}
use Rattle.sync_flags.specs.Tries.{AtRegister, tries_at, all_failed, Tried, NoTry, Fruitful}
use Rattle.send_recv.specs.Tries.{aim_of, aim_at}
use Rattle.send_recv.specs.Turns.{KeepsAllButMessages}
use Rattle.send_recv.specs.Ranks.{receiving}
use Rattle.send_recv.proofs.Receiving.LookTurn.{recv_does, Turns, stands_after}
use Rattle.send_recv.proofs.Receiving.HeadTurn.{post_kept}
use Rattle.send_recv.proofs.Looks.FlagMoves.{MovesFlag, may_change, flag_moved, signal_lowers, sent_turns}
use Rattle.send_recv.proofs.Looks.ChangeFacts.{change_facts}
use Rattle.send_recv.proofs.Lines.DraftNone.{signal_is_flag, change_drafts_none}

-- ---- taking the chunk

-- what a receive that is to lower `sent` has of the record
pub record IsLowering (size : ℕ) (rec : Record) (op : RecvAt) (bytes : List ℕ) : Type 0 where
  pub header : Notes
  pub stage : rec.stage ≡ between size op bytes
  pub seen : rec.notes op.from ≡ Some header
  pub says : op.chunk ≡ 0 → SaysHead header op.head

pub is_lowering : (seat : Seat) (rec : Record) (c : Private) (op : RecvAt) (bytes : List ℕ) → IsReceiving seat rec c op bytes → op.stage ≡ Lower → IsLowering (chunk_of seat.setup) rec op bytes
is_lowering seat rec c op bytes r lower =
    let at : IsAtRecvStage seat rec c op bytes Lower = subst (λ (st : RecvStage). IsAtRecvStage seat rec c op bytes st) lower r.at in
    record { header = at.1; stage = at.0; seen = at.2; says = at.3 }

take_by : (b : Bool) (from : ℕ) (header : Notes) (later : Stage) → (b ≡ true → says_head header ≡ true) → may_take from (Some header) later ≡ true → may_take from (Some header) (if b then Idle else later) ≡ true
take_by true from header later says may = says refl
take_by false from header later says may = may

pub lower_permitted : (size : ℕ) (rec : Record) (op : RecvAt) (bytes : List ℕ) → IsLowering size rec op bytes → permits size (LowerSignal Sent op.from) rec ≡ true
lower_permitted size rec op bytes l =
    ap (λ (o : Option Notes). may_take op.from o rec.stage) l.seen
    ∙ ap (λ (st : Stage). may_take op.from (Some l.header) st) l.stage
    ∙ take_by (op.chunk == 0) op.from l.header (Between op.from (progress_at size op.head op.chunk bytes))
    (λ t. (l.says (eq_zero op.chunk t)).0) (eqb_same op.from)
  where
    eq_zero : (n : ℕ) → (n == 0) ≡ true → n ≡ 0
    eq_zero n t = eq_is n 0 t

-- lowering the flag is this move
lowers_sent : (s : Sight) (c : Private) (op : RecvAt) (bytes : List ℕ) → IsSetup s.seat.setup → RecvStands s c op bytes → op.stage ≡ Lower
    → MovesFlag s.seat.setup.layout s.seat (record_in s) s.seat.rank Sent op.from false (LowerSignal Sent op.from)
lowers_sent s c op bytes valid r lower =
    let l = is_lowering s.seat (record_in s) c op bytes r lower in
    signal_lowers s.seat.setup.layout s Sent op.from refl valid r.peers (sent_turns s op.from l.header l.seen) (lower_permitted (chunk_of s.seat.setup) (record_in s) op bytes l)

-- the flag may be lowered
pub may_lower_turn : (s : Sight) (c : Private) (op : RecvAt) (bytes : List ℕ) → IsSetup s.seat.setup → RecvStands s c op bytes → op.stage ≡ Lower → MayChange s c (own_core s.seat) (signal_flag s.seat Sent op.from) false
may_lower_turn s c op bytes valid r lower = may_change s c s.seat.rank Sent op.from false (LowerSignal Sent op.from) valid r.hands r.empty (lowers_sent s c op bytes valid r lower)

-- the stage after the lowering
begins : (size : ℕ) (op : RecvAt) (bytes : List ℕ) (header : Notes) (b : Bool) → (op.chunk == 0) ≡ b → (op.chunk ≡ 0 → SaysHead header op.head)
    → lower_sent op.from header (if b then Idle else Between op.from (progress_at size op.head op.chunk bytes)) ≡ Taking op.from (progress_at size op.head op.chunk bytes) []
begins size op bytes header true first says =
    let zero_is : op.chunk ≡ 0 = eq_is op.chunk 0 first in
    let head : head_of header ≡ op.head = (says zero_is).1 in
    let none : size * op.chunk ≡ 0 = ap (λ n. size * n) zero_is ∙ omega arith in
    let front : [] ≡ take (chunk_start size op.chunk) bytes = sym (ap (λ n. take n bytes) none) in
    λ i. Taking op.from (record { head = head i; chunks = sym zero_is i; bytes = front i }) []
begins size op bytes header false first says = refl

pub lowered_stage : (size : ℕ) (rec new : Record) (op : RecvAt) (bytes : List ℕ) → IsLowering size rec op bytes → new ≡ after size (LowerSignal Sent op.from) rec → new.stage ≡ Taking op.from (progress_at size op.head op.chunk bytes) []
lowered_stage size rec new op bytes l is =
    ap (λ (r : Record). r.stage) is
    ∙ ap (λ (o : Option Notes). lower_sent op.from (unwrap_or o []) rec.stage) l.seen
    ∙ ap (λ (st : Stage). lower_sent op.from l.header st) l.stage
    ∙ begins size op bytes l.header (op.chunk == 0) refl l.says

-- nothing is read of the chunk yet
none_read : (size : ℕ) (op : RecvAt) (bytes : List ℕ) → IsRead size op bytes [] 0
unfolding has_all
none_read size op bytes = record { loaded = refl; bytes_stand = λ b low. absurd (omega (arith, low)) }

abbrev taken_stage : Bool → RecvStage
taken_stage b = if b then Raise else Lines 0

taken_at : (b : Bool) (seat : Seat) (rec : Record) (d : Private) (op : RecvAt) (bytes : List ℕ) → (lines_now (chunk_of seat.setup) op == 0) ≡ b
    → rec.stage ≡ Taking op.from (progress_at (chunk_of seat.setup) op.head op.chunk bytes) [] → IsAtRecvStage seat rec d (record op { stage = taken_stage b }) bytes (taken_stage b)
taken_at true seat rec d op bytes none stage =
    let zero_is : lines_now (chunk_of seat.setup) op ≡ 0 = eq_is (lines_now (chunk_of seat.setup) op) 0 none in
    let now : RecvAt = record op { stage = Raise } in
    ([], record { stage = stage; read = subst (λ n. IsRead (chunk_of seat.setup) now bytes [] n) (sym zero_is) (none_read (chunk_of seat.setup) now bytes) })
taken_at false seat rec d op bytes some stage =
    let ne : lines_now (chunk_of seat.setup) op ≢ 0 = eq_not (lines_now (chunk_of seat.setup) op) 0 some in
    (omega (arith, ne), [], record { stage = stage; read = none_read (chunk_of seat.setup) (record op { stage = Lines 0 }) bytes }, λ n. absurd (n refl))

taken_left : (b : Bool) (size : ℕ) (op : RecvAt) → (lines_now size op == 0) ≡ b → op.stage ≡ Lower → op.chunk < chunk_count size op.head.len → recv_left size op ≡ recv_left size (record op { stage = taken_stage b }) + 1
taken_left true size op none lower below =
    let zero_is : lines_now size op ≡ 0 = eq_is (lines_now size op) 0 none in
    ap (λ (st : RecvStage). recv_left_by (chunk_count size op.head.len - op.chunk) (lines_from size op.head.len op.chunk) (lines_now size op) (op.chunk == 0) st) lower ∙ omega (arith, zero_is, below)
taken_left false size op some lower below =
    ap (λ (st : RecvStage). recv_left_by (chunk_count size op.head.len - op.chunk) (lines_from size op.head.len op.chunk) (lines_now size op) (op.chunk == 0) st) lower ∙ omega (arith, below)

open_taken : (b : Bool) → is_received (taken_stage b) ≡ false
open_taken true = refl
open_taken false = refl

-- with bit flags the line read under the register is one of those that were left
taken_gain : (b : Bool) (layout : Layout) (size : ℕ) (op : RecvAt) → (lines_now size op == 0) ≡ b → op.stage ≡ Lower → op.chunk < chunk_count size op.head.len
    → flag_lines layout ≤ lines_left layout size op - lines_left layout size (record op { stage = taken_stage b })
taken_gain true LineFlags size op none lower below = omega arith
taken_gain false LineFlags size op some lower below = omega arith
taken_gain true BitFlags size op none lower below =
    let zero_is : lines_now size op ≡ 0 = eq_is (lines_now size op) 0 none in
    let e = ap (λ (st : RecvStage). lines_left_by 1 (chunk_count size op.head.len - op.chunk) (lines_from size op.head.len op.chunk) (lines_now size op) (op.chunk == 0) st) lower in
    omega (arith, e, zero_is, below)
taken_gain false BitFlags size op some lower below =
    let e = ap (λ (st : RecvStage). lines_left_by 1 (chunk_count size op.head.len - op.chunk) (lines_from size op.head.len op.chunk) (lines_now size op) (op.chunk == 0) st) lower in
    omega (arith, e, below)

pub gain_work : (events a b x y z f : ℕ) → events + 4 * a ≤ 4 * b + 4 * f → f ≤ y - x → events + 4 * a ≤ 4 * b + 4 * ((y - x) + z)
gain_work events a b x y z f le gain = omega (arith, le, gain)

-- the try of a turn that changes a flag and goes on
pub went_on : (layout : Layout) (spot : Option Spot) (core : ℕ) (events : List Event) → (layout ≡ LineFlags → spot ≡ None) → (layout ≡ BitFlags → spot ≡ Some (Register core))
    → (layout ≡ BitFlags → tries_at (AtRegister core) events ≡ 1) → (layout ≡ BitFlags → all_failed (AtRegister core) false events ≡ false) → Tried (aim_at layout spot) events None
went_on LineFlags spot core events none some tries failed = NoTry (ap (λ (o : Option Spot). aim_at LineFlags o) (none refl)) refl
went_on BitFlags spot core events none some tries failed = Fruitful (AtRegister core) (ap (λ (o : Option Spot). aim_at BitFlags o) (some refl)) (tries refl) (failed refl) refl

-- no other spot of the receive is tried at
pub change_elsewhere : (layout : Layout) (spot : Option Spot) (core : ℕ) (events : List Event) → (layout ≡ BitFlags → spot ≡ Some (Register core))
    → ((at : Spot) → (layout ≡ BitFlags → at ≢ Register core) → tries_at (aim_of layout at) events ≡ 0) → (at : Spot) → spot ≢ Some at → tries_at (aim_of layout at) events ≡ 0
change_elsewhere layout spot core events some elsewhere at ne = elsewhere at (λ bits e. ne (some bits ∙ ap (λ x. Some x) (sym e)))

-- the buffer is filled as far as before, and no more lines are left
taken_fuller : (b : Bool) (size : ℕ) (op : RecvAt) → (lines_now size op == 0) ≡ b → op.stage ≡ Lower → filled_to size op ≤ filled_to size (record op { stage = taken_stage b })
taken_fuller true size op none lower = let e = ap (λ (st : RecvStage). filled_by (chunk_start size op.chunk) op.head.len st (chunk_len size op.head.len op.chunk)) lower in omega (arith, e)
taken_fuller false size op some lower = let e = ap (λ (st : RecvStage). filled_by (chunk_start size op.chunk) op.head.len st (chunk_len size op.head.len op.chunk)) lower in omega (arith, e)

taken_fewer : (b : Bool) (layout : Layout) (size : ℕ) (op : RecvAt) → op.stage ≡ Lower → lines_left layout size (record op { stage = taken_stage b }) ≤ lines_left layout size op
taken_fewer b layout size op lower = subst (λ x. lines_left layout size (record op { stage = taken_stage b }) ≤ x)
    (sym (ap (λ (st : RecvStage). lines_left_by (flag_lines layout) (chunk_count size op.head.len - op.chunk) (lines_from size op.head.len op.chunk) (lines_now size op) (op.chunk == 0) st) lower))
    (by b (lines_from size op.head.len op.chunk) (2 * flag_lines layout * (chunk_count size op.head.len - op.chunk)))
  where
    less : (x n f g : ℕ) → (x - n) + f - g ≤ x + f
    less x n f g = omega arith

    by : (b : Bool) (x f : ℕ) → lines_left_by (flag_lines layout) (chunk_count size op.head.len - op.chunk) (lines_from size op.head.len op.chunk) (lines_now size op) (op.chunk == 0) (taken_stage b)
        ≤ lines_from size op.head.len op.chunk + 2 * flag_lines layout * (chunk_count size op.head.len - op.chunk)
    by true x f = less (lines_from size op.head.len op.chunk) (lines_now size op) (2 * flag_lines layout * (chunk_count size op.head.len - op.chunk)) (flag_lines layout)
    by false x f = less (lines_from size op.head.len op.chunk) 0 (2 * flag_lines layout * (chunk_count size op.head.len - op.chunk)) (flag_lines layout)

spot_lower_lines : (layout : Layout) (own other from : ℕ) → layout ≡ LineFlags → spot_by layout own other from Lower ≡ None
spot_lower_lines LineFlags own other from e = refl
spot_lower_lines BitFlags own other from e = absurd (cc)

pub spot_lower_bits : (layout : Layout) (own other from : ℕ) → layout ≡ BitFlags → spot_by layout own other from Lower ≡ Some (Register own)
spot_lower_bits LineFlags own other from e = absurd (cc)
spot_lower_bits BitFlags own other from e = refl

-- the spot of the lowering
pub at_lower : (seat : Seat) (op : RecvAt) → op.stage ≡ Lower → seat.setup.layout ≡ BitFlags → recv_spot seat op ≡ Some (Register (own_core seat))
at_lower seat op lower e = ap (λ (st : RecvStage). spot_by seat.setup.layout (own_core seat) (core_of seat op.from) op.from st) lower ∙ spot_lower_bits seat.setup.layout (own_core seat) (core_of seat op.from) op.from e

pub lower_goes : (b : Bool) (s t : Sight) (c d : Private) (op : RecvAt) (bytes : List ℕ) → (lines_now (chunk_of s.seat.setup) op == 0) ≡ b → IsSetup s.seat.setup → RecvStands s c op bytes → op.stage ≡ Lower
    → Changes s c (own_core s.seat) (signal_flag s.seat Sent op.from) false true t d → Turns s c op bytes t d (record op { stage = taken_stage b }) bytes Moved
lower_goes b s t c d op bytes lines valid r lower changes =
    let size = chunk_of s.seat.setup in
    let layout = s.seat.setup.layout in
    let now : RecvAt = record op { stage = taken_stage b } in
    let l = is_lowering s.seat (record_in s) c op bytes r lower in
    let is = flag_moved s t c d s.seat.rank Sent op.from false (LowerSignal Sent op.from) valid r.hands r.empty (lowers_sent s c op bytes valid r lower) changes in
    let facts = change_facts layout s t c d (own_core s.seat) Sent op.from false true r.empty changes in
    let rest : KeepsAllButMessages (record_in s) (record_in t) = record {
      flips = ap (λ (x : Record). x.flips) is;
      hold = ap (λ (x : Record). x.held) is;
      heap = ap (λ (x : Record). x.heap) is;
    } in
    record {
      stands = subst (λ (x : Seat). IsReceiving x (record_in t) d now bytes) (sym (seat_kept s facts.events t facts.did))
          (stands_after s.seat (record_in s) (record_in t) c d op now bytes r refl refl refl facts.out rest.hold
          (taken_at b s.seat (record_in t) d op bytes lines (lowered_stage size (record_in s) (record_in t) op bytes l is)));
      turned = record {
        events = facts.events;
        did = facts.did;
        does = recv_does (receiving s c op bytes) Lower true t d lower changes;
        tried = went_on layout (recv_spot s.seat op) (own_core s.seat) facts.events
            (λ e. ap (λ (st : RecvStage). spot_by layout (own_core s.seat) (core_of s.seat op.from) op.from st) lower ∙ spot_lower_lines layout (own_core s.seat) (core_of s.seat op.from) op.from e)
            (at_lower s.seat op lower) facts.tries facts.failed;
        freed = facts.freed;
        elsewhere = λ at spot ne. change_elsewhere layout (recv_spot s.seat op) (own_core s.seat) facts.events (at_lower s.seat op lower) facts.elsewhere at ne;
        fuller = taken_fuller b size op lines lower;
        fewer = taken_fewer b layout size op lower;
        rests = λ spot w. absurd (cc);
        only = tt;
        no_drafts = change_drafts_none s t c d (own_core s.seat) (signal_flag s.seat Sent op.from) false true r.empty (signal_is_flag s.seat valid Sent op.from s.seat.rank (peers_swap s.seat.setup s.seat.rank op.from r.peers)) changes facts.events facts.did;
        same = (refl, refl);
        means = (taken_left b size op lines lower r.in_hand, ap (λ (x : Record). x.calls) is, ap is_received lower, open_taken b);
        rest = rest;
        post = post_kept (record_in s).post (record_in t).post (ap (λ (x : Record). x.post) is);
        before = λ k low. refl;
        afterwards = λ k high. refl;
        held = facts.held;
        work = gain_work (load_count facts.events) c.evictions d.evictions (lines_left layout size now) (lines_left layout size op) (if is_look op.stage then 1 else 0) (flag_lines layout) facts.work
            (taken_gain b layout size op lines lower r.in_hand);
      };
    }
