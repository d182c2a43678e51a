-- A receive that goes on after its first turns: what it comes to, from its start on.
use Rattle.std.proofs.Common.{◌≡◌, ℕ, ◌+◌, ◌*◌, ◌≤◌, Bool, false, List, [], ◌++◌, Option, Some, None, Result, Ok, Err, IsErr, IsErrAnd, length, refl, sym, ◌∙◌, ap, subst, arith, slice_index}
use Rattle.scc_base.specs.Heads.{MessageHead}
use Rattle.scc_base.specs.declared.events.Event.{Event}
use Rattle.scc_base.specs.declared.events.Spot.{Spot}
use Rattle.scc_proto.specs.Records.{chunk_of}
use Rattle.scc_proto.specs.Ports.{Seat, Sight, Did, record_in}
use Rattle.scc_proto.proofs.PortLaws.{did_nothing, did_both, seat_kept}
use Rattle.put_get.specs.Cores.{Private}
use Rattle.put_get.specs.Transfers.{load_count}
use Rattle.put_get.proofs.WorkLemmas.{load_count-append}
use Rattle.sync_flags.specs.Tries.{Aim, tries_at, failed_from, failed_tries, Tried}
use Rattle.sync_flags.proofs.RowLemmas.{went_on}
use Rattle.send_recv.specs.declared.answers.RecvTurn.{RecvTurn}
use Rattle.send_recv.specs.declared.answers.RecvTurn.TheVariants as turn
use Rattle.send_recv.specs.declared.calls.RecvStop.{RecvStop}
use Rattle.send_recv.specs.declared.calls.RecvStop.TheVariants.{Stalled, Mismatch}
use Rattle.send_recv.specs.declared.stages.RecvStage.TheVariants.{Look, Header}
use Rattle.send_recv.specs.Ops.{RecvAt, new_receive}
use Rattle.send_recv.specs.Receiving.{RecvStands, RecvTurned, IsRecvSpot, recv_spot, recv_waits, lines_left, filled_to}
use Rattle.send_recv.specs.Calling.{sent_aim, HasNotStalled, Received, RecvStalled, RecvDiffers, RecvStops, FoundFirst, TestEnds}
use Rattle.scc_base.specs.Layouts.{signal_at}
use Rattle.scc_base.specs.declared.signals.Signal.TheVariants.{Sent}
use Rattle.send_recv.specs.Steps.{own_core, flag_spot}
use Rattle.send_recv.specs.Tries.{aim_of, aim_at}
use Rattle.send_recv.specs.Ranks.{receiving, with_bytes}
use Rattle.send_recv.proofs.Receiving.LookTurn.{at_look}
use Rattle.send_recv.proofs.Loops.RecvLoop.{Underway, underway_none, underway_moved, underway_ends, none_moved, row_on, tries_both, spot_now, lists_agree, rest_both, post_both}

-- the turns so far left no vain try at any spot of the receive
pub record Begun (s : Sight) (c : Private) (op : RecvAt) (bytes : List ℕ) (m : Sight) (b : Private) (cur : RecvAt) (mid : List ℕ) : Type 0 where
  pub way : Underway s c op bytes 0 m b cur mid
  pub none : (at : Spot) → IsRecvSpot s.seat op at → failed_tries (aim_of s.seat.setup.layout at) way.row.events ≡ 0
  pub long : length bytes ≡ op.head.len

-- so the tries at its end are those of what comes after
row_after : {s m : Sight} {c b : Private} {op cur : RecvAt} {bytes mid : List ℕ} (g : Begun s c op bytes m b cur mid) → (at : Spot) → IsRecvSpot s.seat op at → (es : List Event)
    → failed_tries (aim_of s.seat.setup.layout at) (g.way.row.events ++ es) ≡ failed_tries (aim_of s.seat.setup.layout at) es
row_after {s} g at spot es =
    row_on (aim_of s.seat.setup.layout at) g.way.row.events es g.way.row.freed ∙ ap (λ (n : ℕ). failed_from (aim_of s.seat.setup.layout at) false n es) (g.none at spot)

not_stalled_after : {s m : Sight} {c b : Private} {op cur : RecvAt} {bytes mid : List ℕ} (polls : ℕ) (g : Begun s c op bytes m b cur mid) → (es : List Event)
    → HasNotStalled m.seat cur polls es → HasNotStalled s.seat op polls (g.way.row.events ++ es)
not_stalled_after {s} {m} {op = op} {cur = cur} polls g es not at spot tried =
    let same : m.seat ≡ s.seat = seat_kept s g.way.row.events m g.way.row.did in
    subst (λ (x : Seat). HasNotStalled x cur polls es) same not at (spot_now s.seat op cur at g.way.from spot) (subst (λ (n : ℕ). polls ≤ n) (row_after g at spot es) tried)

sums : (a e c b d lc l0 t0 t1 : ℕ) → a + 4 * c + 4 * lc ≤ 4 * b + 4 * (l0 + t0) → e + 4 * b ≤ 4 * (t1 + lc) + 4 * d → (a + e) + 4 * c ≤ 4 * ((t0 + t1) + l0) + 4 * d
sums a e c b d lc l0 t0 t1 before more = omega (arith, before, more)

pub then_received : {s m t : Sight} {c b d : Private} {op cur : RecvAt} {bytes mid after : List ℕ} {polls : ℕ} → Begun s c op bytes m b cur mid
    → Received (receiving m b cur mid) polls (with_bytes t d after) → Received (receiving s c op bytes) polls (with_bytes t d after)
then_received {s} {m} {t} {c} {b} {d} {op} {cur} {bytes} {mid} {after} {polls} g r =
    let u = g.way in
    let same : m.seat ≡ s.seat = seat_kept s u.row.events m u.row.did in
    let work : load_count r.events + 4 * b.evictions ≤ 4 * (tries_at (sent_aim s.seat op) r.events + lines_left s.seat.setup.layout (chunk_of s.seat.setup) cur) + 4 * d.evictions
    = subst (λ (a : Aim). load_count r.events + 4 * b.evictions ≤ 4 * (tries_at a r.events + lines_left s.seat.setup.layout (chunk_of s.seat.setup) cur) + 4 * d.evictions) (aim_from s.seat cur op u.from)
    (subst (λ (x : Seat). load_count r.events + 4 * b.evictions ≤ 4 * (tries_at (sent_aim x cur) r.events + lines_left x.setup.layout (chunk_of x.setup) cur) + 4 * d.evictions) same r.work) in
    let all = sums (load_count u.row.events) (load_count r.events) c.evictions b.evictions d.evictions (lines_left s.seat.setup.layout (chunk_of s.seat.setup) cur)
    (lines_left s.seat.setup.layout (chunk_of s.seat.setup) op) (tries_at (sent_aim s.seat op) u.row.events) (tries_at (sent_aim s.seat op) r.events) u.work work in
    record {
      events = u.row.events ++ r.events;
      did = did_both s u.row.events m r.events t u.row.did r.did;
      calls = r.calls ∙ (λ i. u.calls i ++ u.call_left after i);
      stage = r.stage;
      empty = r.empty;
      rest = rest_both (record_in s) (record_in m) (record_in t) u.rest r.rest;
      post = post_both (record_in s).post (record_in m).post (record_in t).post u.post r.post;
      no_stall = not_stalled_after polls g r.events r.no_stall;
      work = subst (λ (k : ℕ). load_count (u.row.events ++ r.events) + 4 * c.evictions ≤ 4 * (k + lines_left s.seat.setup.layout (chunk_of s.seat.setup) op) + 4 * d.evictions)
          (sym (tries_both (sent_aim s.seat op) u.row.events r.events u.row.freed))
          (subst (λ (k : ℕ). k + 4 * c.evictions ≤ 4 * ((tries_at (sent_aim s.seat op) u.row.events + tries_at (sent_aim s.seat op) r.events) + lines_left s.seat.setup.layout (chunk_of s.seat.setup) op) + 4 * d.evictions)
          (sym (load_count-append u.row.events r.events)) all);
    }
  where
    aim_from : (seat : Seat) (x y : RecvAt) → x.from ≡ y.from → sent_aim seat x ≡ sent_aim seat y
    aim_from seat x y e = ap (λ (f : ℕ). aim_of seat.setup.layout (flag_spot (own_core seat) (signal_at seat.setup.layout Sent f))) e

pub then_stalled : {s m t : Sight} {c b d : Private} {op cur now : RecvAt} {bytes mid after : List ℕ} {polls : ℕ} {spot : Spot} → Begun s c op bytes m b cur mid
    → RecvStalled (receiving m b cur mid) polls (receiving t d now after) spot → RecvStalled (receiving s c op bytes) polls (receiving t d now after) spot
then_stalled {s} {m} {t} {c} {b} {d} {op} {cur} {now} {bytes} {mid} {after} {polls} {spot} g r =
    let u = g.way in
    let same : m.seat ≡ s.seat = seat_kept s u.row.events m u.row.did in
    let at : recv_spot s.seat now ≡ Some spot = subst (λ (x : Seat). recv_spot x now ≡ Some spot) same r.at in
    let own : IsRecvSpot s.seat op spot = spot_now s.seat now op spot (sym (r.same.0 ∙ u.from)) (now.stage, at) in
    let full = subst (λ (x : Seat). filled_to (chunk_of x.setup) cur ≤ filled_to (chunk_of x.setup) now) same r.fuller in
    let before = u.fuller in
    record {
      events = u.row.events ++ r.events;
      did = did_both s u.row.events m r.events t u.row.did r.did;
      tried = subst (λ (n : ℕ). polls ≤ n) (sym (row_after g spot own r.events)) (subst (λ (x : Seat). polls ≤ failed_tries (aim_of x.setup.layout spot) r.events) same r.tried);
      at = at;
      stands = r.stands;
      same = (r.same.0 ∙ u.from, r.same.1 ∙ u.head);
      calls = r.calls ∙ u.calls;
      call_left = λ x. r.call_left x ∙ u.call_left x;
      fuller = omega (arith, before, full);
      afterwards = λ k le. subst (λ (x : Seat). (j : ℕ) → filled_to (chunk_of x.setup) now ≤ j → slice_index after j ≡ slice_index mid j) same r.afterwards k le ∙ u.afterwards k (omega (arith, full, le));
      rest = rest_both (record_in s) (record_in m) (record_in t) u.rest r.rest;
      post = post_both (record_in s).post (record_in m).post (record_in t).post u.post r.post;
    }

pub then_differs : {s m t : Sight} {c b d : Private} {op cur : RecvAt} {bytes mid after : List ℕ} {polls : ℕ} {sent asked : MessageHead} → Begun s c op bytes m b cur mid
    → RecvDiffers (receiving m b cur mid) polls (with_bytes t d after) sent asked → RecvDiffers (receiving s c op bytes) polls (with_bytes t d after) sent asked
then_differs {s} {m} {t} {c} {b} {d} {op} {cur} {bytes} {mid} {after} {polls} {sent} {asked} g r =
    let u = g.way in
    let same : m.seat ≡ s.seat = seat_kept s u.row.events m u.row.did in
    let none : filled_to (chunk_of s.seat.setup) cur ≡ 0 = subst (λ (x : Seat). filled_to (chunk_of x.setup) cur ≡ 0) same r.none_filled in
    let before = u.fuller in
    let unread : mid ≡ bytes = lists_agree mid bytes (u.stands.long ∙ ap (λ (h : MessageHead). h.len) u.head ∙ sym g.long) (λ k. u.afterwards k (omega (arith, none))) in
    record {
      events = u.row.events ++ r.events;
      did = did_both s u.row.events m r.events t u.row.did r.did;
      is_asked = r.is_asked ∙ u.head;
      other = r.other;
      header = r.header;
      noted = subst (λ (f : ℕ). (record_in t).notes f ≡ Some r.header) u.from r.noted;
      says = r.says;
      none_filled = omega (arith, none, before);
      unchanged = r.unchanged ∙ unread;
      untaken = r.untaken;
      calls = r.calls ∙ u.calls;
      empty = r.empty;
      rest = rest_both (record_in s) (record_in m) (record_in t) u.rest r.rest;
      post = post_both (record_in s).post (record_in m).post (record_in t).post u.post r.post;
      no_stall = not_stalled_after polls g r.events r.no_stall;
    }

pub then_stops : {s m : Sight} {c b : Private} {op cur : RecvAt} {bytes mid : List ℕ} (t : Sight) (d : Private) (after : List ℕ) (polls : ℕ) (stop : RecvStop) → Begun s c op bytes m b cur mid
    → RecvStops (receiving m b cur mid) polls (with_bytes t d after) stop → RecvStops (receiving s c op bytes) polls (with_bytes t d after) stop
then_stops t d after polls (Stalled now spot count) g r = (r.0, then_stalled g r.1)
then_stops t d after polls (Mismatch sent asked) g r = then_differs g r

-- ---- the first look

at_start : (seat : Seat) (op : RecvAt) → op ≡ new_receive op.from op.head → aim_at seat.setup.layout (recv_spot seat op) ≡ Some (sent_aim seat op)
at_start seat op start = ap (λ (o : Option Spot). aim_at seat.setup.layout o) (at_look seat op (ap (λ (o : RecvAt). o.stage) start))

pub begun : {s m : Sight} {c b : Private} {op cur : RecvAt} {bytes mid : List ℕ} → RecvStands s c op bytes → RecvStands m b cur mid → RecvTurned (receiving s c op bytes) (receiving m b cur mid) turn.Moved
    → Begun s c op bytes m b cur mid
begun st mid v = record { way = underway_moved (underway_none st) mid v; none = none_moved (underway_none st) mid v; long = st.long }

pub found_first : {s m t : Sight} {c b : Private} {op cur : RecvAt} {bytes mid : List ℕ} {answer : RecvTurn} → op ≡ new_receive op.from op.head → RecvTurned (receiving s c op bytes) (receiving m b cur mid) answer → recv_waits answer ≡ None
    → (later : List Event) → Did m later t → FoundFirst (sent_aim s.seat op) s t
found_first {s} {m} {t} {op = op} {answer = answer} start v goes later did =
    let w = went_on (subst (λ (o : Option Spot). Tried (aim_at s.seat.setup.layout (recv_spot s.seat op)) v.events o) goes v.tried) (sent_aim s.seat op) (at_start s.seat op start) in
    record { first = v.events; rest = later; did = did_both s v.events m later t v.did did; one = w.0; found = w.1 }

-- ---- the test as a whole

stop_made : (s t : Sight) (c d : Private) (op : RecvAt) (bytes after : List ℕ) (polls : ℕ) (stop : RecvStop) → RecvStops (receiving s c op bytes) polls (with_bytes t d after) stop → (events : List Event) × Did s events t
stop_made s t c d op bytes after polls (Stalled now spot count) r = (r.1.events, r.1.did)
stop_made s t c d op bytes after polls (Mismatch sent asked) r = (r.events, r.did)

-- it received, or stopped, after a first look that found the flag set
pub tested_on : {s m : Sight} {c b : Private} {op cur : RecvAt} {bytes mid : List ℕ} (t : Sight) (d : Private) (after : List ℕ) (polls : ℕ) → op ≡ new_receive op.from op.head
    → RecvStands s c op bytes → RecvStands m b cur mid → RecvTurned (receiving s c op bytes) (receiving m b cur mid) turn.Moved → Received (receiving m b cur mid) polls (with_bytes t d after)
    → FoundFirst (sent_aim s.seat op) s t × Received (receiving s c op bytes) polls (with_bytes t d after)
tested_on t d after polls start st mid v r = (found_first start v refl r.events r.did, then_received (begun st mid v) r)

pub tested_stop : {s m : Sight} {c b : Private} {op cur : RecvAt} {bytes mid : List ℕ} (t : Sight) (d : Private) (after : List ℕ) (polls : ℕ) (stop : RecvStop) → op ≡ new_receive op.from op.head
    → RecvStands s c op bytes → RecvStands m b cur mid → RecvTurned (receiving s c op bytes) (receiving m b cur mid) turn.Moved → RecvStops (receiving m b cur mid) polls (with_bytes t d after) stop
    → FoundFirst (sent_aim s.seat op) s t × RecvStops (receiving s c op bytes) polls (with_bytes t d after) stop
tested_stop {m = m} {b = b} {cur = cur} {mid = mids} t d after polls stop start st mid v r =
    let made = stop_made m t b d cur mids after polls stop r in
    (found_first start v refl made.0 made.1, then_stops t d after polls stop (begun st mid v) r)

pub tested_done : {s m : Sight} {c b : Private} {op cur : RecvAt} {bytes mid : List ℕ} (polls : ℕ) → 1 ≤ polls → op ≡ new_receive op.from op.head
    → RecvStands s c op bytes → RecvStands m b cur mid → RecvTurned (receiving s c op bytes) (receiving m b cur mid) turn.Done → FoundFirst (sent_aim s.seat op) s m × Received (receiving s c op bytes) polls (with_bytes m b mid)
tested_done {m = m} polls some start st mid v = (found_first start v refl [] (did_nothing m), underway_ends polls some (underway_none st) mid v)

-- an error that is passed on
pub passed_on : (s : Sight) (c : Private) (op : RecvAt) (bytes : List ℕ) (polls : ℕ) (t : Sight) (d : Private) (after : List ℕ) (stop : RecvStop) (r : Result Bool RecvStop)
    → IsErr r × IsErrAnd r (λ x. x ≡ stop) → FoundFirst (sent_aim s.seat op) s t × RecvStops (receiving s c op bytes) polls (with_bytes t d after) stop → TestEnds (receiving s c op bytes) polls (with_bytes t d after) r
passed_on s c op bytes polls t d after stop (Ok found) failed ends = absurd (let f = failed.0 in cc)
passed_on s c op bytes polls t d after stop (Err other) failed ends =
    subst (λ (x : RecvStop). FoundFirst (sent_aim s.seat op) s t × RecvStops (receiving s c op bytes) polls (with_bytes t d after) x) (sym failed.1) ends

-- another head is found behind the first look only
pub no_mismatch : (op : RecvAt) → op ≡ new_receive op.from op.head → op.stage ≡ Header → ⊥
no_mismatch op start header = let look : op.stage ≡ Look = ap (λ (o : RecvAt). o.stage) start in cc (look, header)
