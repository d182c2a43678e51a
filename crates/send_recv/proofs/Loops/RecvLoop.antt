-- A receive as a whole call: what its turns have come to so far, and what ends it.
use Rattle.std.proofs.Common.{◌≡◌, ◌≢◌, ℕ, zero, suc, ◌+◌, ◌-◌, ◌*◌, ◌≤◌, Bool, true, false, ◌||◌, ◌&&◌, if◌then◌else◌, List, [], ◌∷◌, ◌++◌, Option, Some, None, length, take, refl, sym, ◌∙◌, ap, subst, arith, slice_index}
use Rattle.std.specs.List.{list_all}
use Rattle.scc_base.specs.Calls.{Recv}
use Rattle.scc_base.specs.Heads.{MessageHead}
use Rattle.scc_base.specs.Layouts.{signal_at}
use Rattle.scc_base.specs.declared.signals.Signal.TheVariants.{Sent}
use Rattle.scc_base.specs.declared.events.Access.{Access}
use Rattle.scc_base.specs.declared.events.Access.TheVariants.{Load, Store, Take, Free}
use Rattle.scc_base.specs.declared.events.Event.{Event}
use Rattle.scc_base.specs.declared.events.Spot.{Spot}
use Rattle.scc_base.specs.declared.layouts.Layout.{Layout}
use Rattle.scc_proto.specs.Resting.{is_resting_by, is_resting}
use Rattle.scc_proto.specs.Stages.{InFlight, Record}
use Rattle.scc_proto.specs.Records.{chunk_of}
use Rattle.scc_proto.specs.Ports.{Seat, Sight, record_in}
use Rattle.scc_proto.proofs.PortLaws.{did_both, seat_kept}
use Rattle.put_get.specs.Cores.{Private}
use Rattle.put_get.specs.Transfers.{load_count}
use Rattle.put_get.proofs.WorkLemmas.{load_count-append}
use Rattle.sync_flags.specs.Tries.{Aim, is_write, tries_from, tries_at, failed_from, failed_tries, changing_after, has_write, spot_of, Tried, NoTry, Failed, Fruitful}
use Rattle.sync_flags.proofs.FailedLemmas.{failed-append}
use Rattle.sync_flags.proofs.RowLemmas.{tries-append, tries_add, none_tried, none_left, some_aim, waited, went_on}
use Rattle.sync_flags.proofs.LoopLemmas.{Row, row_none, row_moved, row_waited}
use Rattle.send_recv.specs.declared.stages.RecvStage.{RecvStage}
use Rattle.send_recv.specs.declared.stages.RecvStage.TheVariants.{Look, Header, Lower, Lines, Raise, Finished}
use Rattle.send_recv.specs.declared.answers.RecvTurn.{RecvTurn}
use Rattle.send_recv.specs.declared.answers.RecvTurn.TheVariants as turn
use Rattle.send_recv.specs.Chunks.{chunk_start, chunk_len}
use Rattle.send_recv.specs.Ops.{RecvAt, is_received}
use Rattle.send_recv.specs.Receiving.{IsAtRecvStage, RecvStands, RecvTurned, IsRecvSpot, spot_by, recv_spot, recv_waits, recv_call, recv_left, lines_left, is_look, extra_line, filled_to, filled_by}
use Rattle.send_recv.specs.Calling.{sent_aim, HasNotStalled, Received, RecvStalled, RecvDiffers}
use Rattle.send_recv.specs.Steps.{own_core, core_of, flag_spot}
use Rattle.send_recv.specs.Tries.{aim_of, aim_at}
use Rattle.send_recv.specs.Turns.{IsSamePost, KeepsAllButMessages, IsAtRest, LoadsLines}
use Rattle.send_recv.specs.Ranks.{receiving, with_bytes}
use Rattle.send_recv.proofs.Receiving.LookTurn.{at_look}
use Rattle.send_recv.proofs.Receiving.LinesTurn.{take_agree}
use Rattle.send_recv.proofs.Receiving.HeadTurn.{post_itself}
use Rattle.send_recv.proofs.Looks.TryLemmas.{spot_cases, signal_aimed, le_self}

-- ---- what stays

pub post_both : (a b c : Option InFlight) → IsSamePost a b → IsSamePost b c → IsSamePost a c
post_both None b c x y = subst (λ (o : Option InFlight). IsSamePost o c) x y
post_both (Some post) b c x y =
    let z : IsSamePost (Some (record post { is_answered = x.0 })) c = subst (λ (o : Option InFlight). IsSamePost o c) x.1 y in
    (z.0, z.1, λ h. z.2 (x.2 h))

pub rest_both : (a b c : Record) → KeepsAllButMessages a b → KeepsAllButMessages b c → KeepsAllButMessages a c
rest_both a b c x y = record { flips = y.flips ∙ x.flips; hold = y.hold ∙ x.hold; heap = y.heap ∙ x.heap }

pub rest_itself : (a : Record) → KeepsAllButMessages a a
rest_itself a = record { flips = refl; hold = refl; heap = refl }

-- ---- tries

-- loads and vain takes store and free nothing
both_are : (a b : Bool) → (a && b) ≡ true → (a ≡ true) × (b ≡ true)
both_are true b t = (refl, t)
both_are false b t = absurd (cc)

resting_by : (access : Access) (value : ℕ) → is_resting_by access value ≡ true → is_write access ≡ false
resting_by Load value t = refl
resting_by Store value t = absurd (cc)
resting_by Take value t = refl
resting_by Free value t = absurd (cc)

pub resting_quiet : (es : List Event) → list_all is_resting es ≡ true → has_write es ≡ false
resting_quiet [] t = refl
resting_quiet (e ∷ es) t =
    let b = both_are (is_resting e) (list_all is_resting es) t in
    let first = resting_by e.access e.value b.0 in
    let rest = resting_quiet es b.1 in
    λ i. first i || rest i

stable_zero : (n : ℕ) → ((n ≢ 0) → ⊥) → n ≡ 0
stable_zero zero f = refl
stable_zero (suc n) f = absurd (f (λ e. absurd (cc)))

-- a spot of which an aim is known
pub record Aimed (layout : Layout) (spot : Option Spot) (aim : Aim) : Type 0 where
  pub at : Spot
  pub is : spot ≡ Some at
  pub aim_is : aim_of layout at ≡ aim

pub aimed : (layout : Layout) (spot : Option Spot) (aim : Aim) → aim_at layout spot ≡ Some aim → Aimed layout spot aim
aimed layout None aim e = absurd (cc)
aimed layout (Some at) aim e = record { at = at; is = refl; aim_is = cc }

-- no register is held between two parts, so rows go on from one to the other
pub row_on : (aim : Aim) (a b : List Event) → changing_after false a ≡ false → failed_tries aim (a ++ b) ≡ failed_from aim false (failed_tries aim a) b
row_on aim a b freed = failed-append aim false 0 a b ∙ ap (λ (c : Bool). failed_from aim c (failed_tries aim a) b) freed

pub still_none : (aim : Aim) (a b : List Event) → changing_after false a ≡ false → failed_tries aim a ≡ 0 → tries_at aim b ≡ 0 → failed_tries aim (a ++ b) ≡ 0
still_none aim a b freed before none = row_on aim a b freed ∙ ap (λ (n : ℕ). failed_from aim false n b) before ∙ (none_tried aim false b none).1

pub tries_both : (aim : Aim) (a b : List Event) → changing_after false a ≡ false → tries_at aim (a ++ b) ≡ tries_at aim a + tries_at aim b
tries_both aim a b freed = tries-append aim false 0 a b ∙ ap (λ (c : Bool). tries_from aim c (tries_at aim a) b) freed ∙ tries_add aim false (tries_at aim a) b

-- a turn that has an aim has made one try
pub tried_once : {aim : Option Aim} {events : List Event} {waits : Option Spot} → Tried aim events waits → (at : Aim) → aim ≡ Some at → tries_at at events ≡ 1
tried_once (NoTry none w) at is = absurd (cc)
tried_once {events = events} (Failed other is one failed w) at here = ap (λ (x : Aim). tries_at x events) (some_aim at other (sym here ∙ is)) ∙ one
tried_once {events = events} (Fruitful other is one failed w) at here = ap (λ (x : Aim). tries_at x events) (some_aim at other (sym here ∙ is)) ∙ one

-- ---- the turns so far

pub record Underway (s : Sight) (c : Private) (op : RecvAt) (bytes : List ℕ) (failed : ℕ) (t : Sight) (d : Private) (now : RecvAt) (after : List ℕ) : Type 0 where
  -- so many vain tries are at the end, at the spot where the op stands, and none at another
  pub row : Row (aim_at s.seat.setup.layout (recv_spot s.seat now)) failed s t
  pub elsewhere : (at : Spot) → IsRecvSpot s.seat op at → recv_spot s.seat now ≢ Some at → failed_tries (aim_of s.seat.setup.layout at) row.events ≡ 0
  pub stands : RecvStands t d now after
  pub from : now.from ≡ op.from
  pub head : now.head ≡ op.head
  pub calls : (record_in t).calls ≡ (record_in s).calls
  pub call_left : (x : List ℕ) → recv_call now x ≡ recv_call op x
  pub fuller : filled_to (chunk_of s.seat.setup) op ≤ filled_to (chunk_of s.seat.setup) now
  pub afterwards : (k : ℕ) → filled_to (chunk_of s.seat.setup) now ≤ k → slice_index after k ≡ slice_index bytes k
  pub rest : KeepsAllButMessages (record_in s) (record_in t)
  pub post : IsSamePost (record_in s).post (record_in t).post
  pub work : load_count row.events + 4 * c.evictions + 4 * lines_left s.seat.setup.layout (chunk_of s.seat.setup) now
      ≤ 4 * d.evictions + 4 * (lines_left s.seat.setup.layout (chunk_of s.seat.setup) op + tries_at (sent_aim s.seat op) row.events)

start_work : (a n : ℕ) → 0 + 4 * a + 4 * n ≤ 4 * a + 4 * (n + 0)
start_work a n = omega arith

pub underway_none : {s : Sight} {c : Private} {op : RecvAt} {bytes : List ℕ} → RecvStands s c op bytes → Underway s c op bytes 0 s c op bytes
unfolding row_none
underway_none {s} {c} {op} {bytes} st = record {
  row = row_none;
  elsewhere = λ at is ne. refl;
  stands = st;
  from = refl;
  head = refl;
  calls = refl;
  call_left = λ x. refl;
  fuller = le_self _;
  afterwards = λ k le. refl;
  rest = rest_itself (record_in s);
  post = post_itself (record_in s).post;
  work = start_work c.evictions (lines_left s.seat.setup.layout (chunk_of s.seat.setup) op);
}

-- a spot of the receive is one of the op as it stands
pub spot_now : (seat : Seat) (op now : RecvAt) (at : Spot) → now.from ≡ op.from → IsRecvSpot seat op at → IsRecvSpot seat now at
spot_now seat op now at from spot = (spot.0, ap (λ (f : ℕ). spot_by seat.setup.layout (own_core seat) (core_of seat f) f spot.0) from ∙ spot.1)

-- what a turn says, at the seat of the call's start
record Turn (seat : Seat) (m : Sight) (b : Private) (cur : RecvAt) (mid : List ℕ) (t : Sight) (d : Private) (now : RecvAt) (after : List ℕ) (answer : RecvTurn) (events : List Event) : Type 0 where
  tried : Tried (aim_at seat.setup.layout (recv_spot seat cur)) events (recv_waits answer)
  elsewhere : (at : Spot) → IsRecvSpot seat cur at → recv_spot seat cur ≢ Some at → tries_at (aim_of seat.setup.layout at) events ≡ 0
  afterwards : (k : ℕ) → filled_to (chunk_of seat.setup) now ≤ k → slice_index after k ≡ slice_index mid k
  fuller : filled_to (chunk_of seat.setup) cur ≤ filled_to (chunk_of seat.setup) now
  fewer : lines_left seat.setup.layout (chunk_of seat.setup) now ≤ lines_left seat.setup.layout (chunk_of seat.setup) cur
  work : LoadsLines events b d ((lines_left seat.setup.layout (chunk_of seat.setup) cur - lines_left seat.setup.layout (chunk_of seat.setup) now) + extra_line cur.stage answer)

turn_says : {m t : Sight} {b d : Private} {cur now : RecvAt} {mid after : List ℕ} {answer : RecvTurn} (seat : Seat) → m.seat ≡ seat → (u : RecvTurned (receiving m b cur mid) (receiving t d now after) answer)
    → Turn seat m b cur mid t d now after answer u.events
turn_says {m} {t} {b} {d} {cur} {now} {mid} {after} {answer} seat same u =
    subst (λ (x : Seat). Turn x m b cur mid t d now after answer u.events) same
    (record { tried = u.tried; elsewhere = u.elsewhere; afterwards = u.afterwards; fuller = u.fuller; fewer = u.fewer; work = u.work })

-- a turn that does not wait leaves no vain try at any spot of the receive
pub none_failed : {s m t : Sight} {c b d : Private} {op cur now : RecvAt} {bytes mid after : List ℕ} {failed : ℕ} {answer : RecvTurn} (u : Underway s c op bytes failed m b cur mid)
    → (v : RecvTurned (receiving m b cur mid) (receiving t d now after) answer) → recv_waits answer ≡ None → (at : Spot) → IsRecvSpot s.seat op at
    → failed_tries (aim_of s.seat.setup.layout at) (u.row.events ++ v.events) ≡ 0
none_failed {s} {m} {t} {c} {b} {d} {op} {cur} {now} {bytes} {mid} {after} {failed} {answer} u v goes at spot =
    let same : m.seat ≡ s.seat = seat_kept s u.row.events m u.row.did in
    let says = turn_says s.seat same v in
    let aim = aim_of s.seat.setup.layout at in
    let tried : Tried (aim_at s.seat.setup.layout (recv_spot s.seat cur)) v.events None = subst (λ (o : Option Spot). Tried (aim_at s.seat.setup.layout (recv_spot s.seat cur)) v.events o) goes says.tried in
    stable_zero (failed_tries aim (u.row.events ++ v.events)) (λ some.
    some (still_none aim u.row.events v.events u.row.freed
    (u.elsewhere at spot (λ here. some (ended tried here)))
    (says.elsewhere at (spot_now s.seat op cur at u.from spot) (λ here. some (ended tried here)))))
  where
    ended : Tried (aim_at s.seat.setup.layout (recv_spot s.seat cur)) v.events None → recv_spot s.seat cur ≡ Some at → failed_tries (aim_of s.seat.setup.layout at) (u.row.events ++ v.events) ≡ 0
    ended tried here =
        let w = went_on tried (aim_of s.seat.setup.layout at) (ap (λ (o : Option Spot). aim_at s.seat.setup.layout o) here) in
        none_left (aim_of s.seat.setup.layout at) u.row.events v.events u.row.freed w.0 w.1

-- ---- the work

look_counted : (b : Bool) (seat : Seat) (cur : RecvAt) (events : List Event) (waits : Option Spot) → is_look cur.stage ≡ b → Tried (aim_at seat.setup.layout (recv_spot seat cur)) events waits
    → (if b then 1 else 0) ≤ tries_at (sent_aim seat cur) events
look_counted false seat cur events waits is tried = omega arith
look_counted true seat cur events waits is tried = by (is_the_look cur.stage is) tried
  where
    is_the_look : (st : RecvStage) → is_look st ≡ true → st ≡ Look
    is_the_look Look e = refl
    is_the_look Header e = absurd (cc)
    is_the_look Lower e = absurd (cc)
    is_the_look (Lines i) e = absurd (cc)
    is_the_look Raise e = absurd (cc)
    is_the_look Finished e = absurd (cc)

    by : cur.stage ≡ Look → Tried (aim_at seat.setup.layout (recv_spot seat cur)) events waits → 1 ≤ tries_at (sent_aim seat cur) events
    by look t = let one = tried_once t (sent_aim seat cur) (ap (λ (o : Option Spot). aim_at seat.setup.layout o) (at_look seat cur look)) in omega (arith, one)

tally : (a e c b d lc ln l0 x t0 t1 : ℕ) → a + 4 * c + 4 * lc ≤ 4 * b + 4 * (l0 + t0) → e + 4 * b ≤ 4 * d + 4 * ((lc - ln) + x) → x ≤ t1 → ln ≤ lc
    → (a + e) + 4 * c + 4 * ln ≤ 4 * d + 4 * (l0 + (t0 + t1))
tally a e c b d lc ln l0 x t0 t1 before more few fewer = omega (arith, before, more, few, fewer)

pub work_on : {s m t : Sight} {c b d : Private} {op cur now : RecvAt} {bytes mid after : List ℕ} {failed : ℕ} {answer : RecvTurn} (u : Underway s c op bytes failed m b cur mid)
    → (v : RecvTurned (receiving m b cur mid) (receiving t d now after) answer) → extra_line cur.stage answer ≡ (if is_look cur.stage then 1 else 0)
    → load_count (u.row.events ++ v.events) + 4 * c.evictions + 4 * lines_left s.seat.setup.layout (chunk_of s.seat.setup) now
    ≤ 4 * d.evictions + 4 * (lines_left s.seat.setup.layout (chunk_of s.seat.setup) op + tries_at (sent_aim s.seat op) (u.row.events ++ v.events))
work_on {s} {m} {t} {c} {b} {d} {op} {cur} {now} {bytes} {mid} {after} {failed} {answer} u v extra =
    let same : m.seat ≡ s.seat = seat_kept s u.row.events m u.row.did in
    let says = turn_says s.seat same v in
    let looked = look_counted (is_look cur.stage) s.seat cur v.events (recv_waits answer) refl says.tried in
    let few : extra_line cur.stage answer ≤ tries_at (sent_aim s.seat op) v.events
    = subst (λ (n : ℕ). n ≤ tries_at (sent_aim s.seat op) v.events) (sym extra)
    (subst (λ (f : ℕ). (if is_look cur.stage then 1 else 0) ≤ tries_at (aim_of s.seat.setup.layout (flag_spot (own_core s.seat) (signal_at s.seat.setup.layout Sent f))) v.events) u.from looked) in
    let sum = tally (load_count u.row.events) (load_count v.events) c.evictions b.evictions d.evictions
    (lines_left s.seat.setup.layout (chunk_of s.seat.setup) cur) (lines_left s.seat.setup.layout (chunk_of s.seat.setup) now) (lines_left s.seat.setup.layout (chunk_of s.seat.setup) op)
    (extra_line cur.stage answer) (tries_at (sent_aim s.seat op) u.row.events) (tries_at (sent_aim s.seat op) v.events) u.work says.work few says.fewer in
    subst (λ (k : ℕ). load_count (u.row.events ++ v.events) + 4 * c.evictions + 4 * lines_left s.seat.setup.layout (chunk_of s.seat.setup) now
    ≤ 4 * d.evictions + 4 * (lines_left s.seat.setup.layout (chunk_of s.seat.setup) op + k)) (sym (tries_both (sent_aim s.seat op) u.row.events v.events u.row.freed))
    (subst (λ (k : ℕ). k + 4 * c.evictions + 4 * lines_left s.seat.setup.layout (chunk_of s.seat.setup) now
    ≤ 4 * d.evictions + 4 * (lines_left s.seat.setup.layout (chunk_of s.seat.setup) op + (tries_at (sent_aim s.seat op) u.row.events + tries_at (sent_aim s.seat op) v.events)))
    (sym (load_count-append u.row.events v.events)) sum)

-- ---- the steps

calls_open : (op : RecvAt) (x : List ℕ) → is_received op.stage ≡ false → recv_call op x ≡ Recv op.from op.head x ∷ []
calls_open op x e = ap (λ (b : Bool). if b then [] else Recv op.from op.head x ∷ []) e

pub underway_moved : {s m t : Sight} {c b d : Private} {op cur now : RecvAt} {bytes mid after : List ℕ} {failed : ℕ} → Underway s c op bytes failed m b cur mid
    → RecvStands t d now after → RecvTurned (receiving m b cur mid) (receiving t d now after) turn.Moved → Underway s c op bytes 0 t d now after
unfolding row_moved
underway_moved {s} {m} {t} {c} {b} {d} {op} {cur} {now} {bytes} {mid} {after} u st v =
    let same : m.seat ≡ s.seat = seat_kept s u.row.events m u.row.did in
    let says = turn_says s.seat same v in
    record {
      row = row_moved u.row v.did v.freed;
      elsewhere = λ at spot ne. none_failed u v refl at spot;
      stands = st;
      from = v.same.0 ∙ u.from;
      head = v.same.1 ∙ u.head;
      calls = v.means.1 ∙ u.calls;
      call_left = λ x. calls_open now x v.means.3 ∙ (λ i. Recv (v.same.0 i) (v.same.1 i) x ∷ []) ∙ sym (calls_open cur x v.means.2) ∙ u.call_left x;
      fuller = let before = u.fuller in let full = says.fuller in omega (arith, before, full);
      afterwards = λ k le. let full = says.fuller in says.afterwards k le ∙ u.afterwards k (omega (arith, full, le));
      rest = rest_both (record_in s) (record_in m) (record_in t) u.rest v.rest;
      post = post_both (record_in s).post (record_in m).post (record_in t).post u.post v.post;
      work = work_on u v refl;
    }

pub none_moved : {s m t : Sight} {c b d : Private} {op cur now : RecvAt} {bytes mid after : List ℕ} {failed : ℕ} (u : Underway s c op bytes failed m b cur mid)
    → (st : RecvStands t d now after) (v : RecvTurned (receiving m b cur mid) (receiving t d now after) turn.Moved) → (at : Spot) → IsRecvSpot s.seat op at
    → failed_tries (aim_of s.seat.setup.layout at) (underway_moved u st v).row.events ≡ 0
unfolding underway_moved row_moved
none_moved u st v at spot = none_failed u v refl at spot

pub underway_waited : {s m t : Sight} {c b d : Private} {op cur now : RecvAt} {bytes mid after : List ℕ} {failed : ℕ} {spot : Spot} → Underway s c op bytes failed m b cur mid
    → RecvStands t d now after → RecvTurned (receiving m b cur mid) (receiving t d now after) (turn.Waiting spot) → Underway s c op bytes (failed + 1) t d now after
unfolding row_waited
underway_waited {s} {m} {t} {c} {b} {d} {op} {cur} {now} {bytes} {mid} {after} {failed} {spot} u st v =
    let same : m.seat ≡ s.seat = seat_kept s u.row.events m u.row.did in
    let says = turn_says s.seat same v in
    let rests : IsAtRest (record_in m) (record_in t) = v.means.2 in
    record {
      row = row_waited u.row v.did v.freed says.tried (resting_quiet v.events (v.rests spot refl)) (ap (λ (o : RecvAt). aim_at s.seat.setup.layout (recv_spot s.seat o)) v.means.0);
      elsewhere = λ at is ne.
          let other : recv_spot s.seat cur ≢ Some at = subst (λ (o : RecvAt). recv_spot s.seat o ≢ Some at) v.means.0 ne in
          still_none (aim_of s.seat.setup.layout at) u.row.events v.events u.row.freed (u.elsewhere at is other) (says.elsewhere at (spot_now s.seat op cur at u.from is) other);
      stands = st;
      from = v.same.0 ∙ u.from;
      head = v.same.1 ∙ u.head;
      calls = rests.calls ∙ u.calls;
      call_left = λ x. ap (λ (o : RecvAt). recv_call o x) v.means.0 ∙ u.call_left x;
      fuller = let before = u.fuller in let full = says.fuller in omega (arith, before, full);
      afterwards = λ k le. let full = says.fuller in says.afterwards k le ∙ u.afterwards k (omega (arith, full, le));
      rest = rest_both (record_in s) (record_in m) (record_in t) u.rest v.rest;
      post = post_both (record_in s).post (record_in m).post (record_in t).post u.post v.post;
      work = work_on u v refl;
    }

-- ---- the ends

not_stalled : {s m t : Sight} {c b d : Private} {op cur now : RecvAt} {bytes mid after : List ℕ} {failed : ℕ} {answer : RecvTurn} (polls : ℕ) → 1 ≤ polls → (u : Underway s c op bytes failed m b cur mid)
    → (v : RecvTurned (receiving m b cur mid) (receiving t d now after) answer) → recv_waits answer ≡ None → HasNotStalled s.seat op polls (u.row.events ++ v.events)
not_stalled polls some u v goes spot is tried = let none = none_failed u v goes spot is in absurd (omega (arith, some, none, tried))

pub underway_ends : {s m t : Sight} {c b d : Private} {op cur now : RecvAt} {bytes mid after : List ℕ} {failed : ℕ} (polls : ℕ) → 1 ≤ polls → Underway s c op bytes failed m b cur mid
    → RecvStands t d now after → RecvTurned (receiving m b cur mid) (receiving t d now after) turn.Done → Received (receiving s c op bytes) polls (with_bytes t d after)
underway_ends {s} {m} {t} {c} {b} {d} {op} {cur} {now} {bytes} {mid} {after} polls some u st v =
    let sum = work_on u v refl in
    record {
      events = u.row.events ++ v.events;
      did = did_both s u.row.events m v.events t u.row.did v.did;
      calls = v.means.2 ∙ (λ i. u.calls i ++ (u.call_left mid ∙ ap (λ (x : List ℕ). recv_call op x) (sym v.means.1)) i);
      stage = subst (λ (x : RecvStage). IsAtRecvStage t.seat (record_in t) d now after x) v.means.0 st.at;
      empty = st.empty;
      rest = rest_both (record_in s) (record_in m) (record_in t) u.rest v.rest;
      post = post_both (record_in s).post (record_in m).post (record_in t).post u.post v.post;
      no_stall = not_stalled polls some u v refl;
      work = omega (arith, sum);
    }

spot_told : (seat : Seat) (op : RecvAt) (at : Spot) → recv_spot seat op ≡ Some at → at ≡ spot_of (aim_of seat.setup.layout at)
spot_told seat op at is =
    spot_cases (λ (x : Spot). x ≡ spot_of (aim_of seat.setup.layout x)) seat.setup.layout (own_core seat) (core_of seat op.from) op.from op.stage at is
    (signal_aimed seat.setup.layout Sent (own_core seat) op.from) (λ core. refl)

pub underway_stalls : {s m t : Sight} {c b d : Private} {op cur now : RecvAt} {bytes mid after : List ℕ} {failed : ℕ} {spot : Spot} → Underway s c op bytes failed m b cur mid
    → RecvStands t d now after → RecvTurned (receiving m b cur mid) (receiving t d now after) (turn.Waiting spot) → (polls : ℕ) → polls ≤ failed + 1 → RecvStalled (receiving s c op bytes) polls (receiving t d now after) spot
underway_stalls {s} {m} {t} {c} {b} {d} {op} {cur} {now} {bytes} {mid} {after} {failed} {spot} u st v polls enough =
    let same : m.seat ≡ s.seat = seat_kept s u.row.events m u.row.did in
    let says = turn_says s.seat same v in
    let w = waited says.tried in
    let x = aimed s.seat.setup.layout (recv_spot s.seat cur) w.at w.is in
    let now_at : recv_spot s.seat now ≡ Some x.at = ap (λ (o : RecvAt). recv_spot s.seat o) v.means.0 ∙ x.is in
    let spot_is : x.at ≡ spot = spot_told s.seat now x.at now_at ∙ ap spot_of x.aim_is ∙ sym w.spot_is in
    let n = underway_waited u st v in
    let many = n.row.tried (aim_of s.seat.setup.layout x.at) (ap (λ (o : Option Spot). aim_at s.seat.setup.layout o) now_at) in
    record {
      events = n.row.events;
      did = n.row.did;
      tried = subst (λ (p : Spot). polls ≤ failed_tries (aim_of s.seat.setup.layout p) n.row.events) spot_is (omega (arith, enough, many));
      at = now_at ∙ ap (λ (p : Spot). Some p) spot_is;
      stands = st;
      same = (n.from, n.head);
      calls = n.calls;
      call_left = n.call_left;
      fuller = n.fuller;
      afterwards = n.afterwards;
      rest = n.rest;
      post = n.post;
    }

-- a receive at its header has filled nothing
header_filled : (size : ℕ) (op : RecvAt) → op.stage ≡ Header → op.chunk ≡ 0 → filled_to size op ≡ 0
header_filled size op header zero_is =
    ap (λ (st : RecvStage). filled_by (chunk_start size op.chunk) op.head.len st (chunk_len size op.head.len op.chunk)) header ∙ ap (λ (n : ℕ). size * n) zero_is ∙ omega arith

take_whole : (xs : List ℕ) → take (length xs) xs ≡ xs
take_whole [] = refl
take_whole (x ∷ xs) = ap (λ (ys : List ℕ). x ∷ ys) (take_whole xs)

pub lists_agree : (xs ys : List ℕ) → length xs ≡ length ys → ((k : ℕ) → slice_index xs k ≡ slice_index ys k) → xs ≡ ys
lists_agree xs ys long same = sym (take_whole xs) ∙ take_agree (length xs) xs ys long (λ k low. same k) ∙ ap (λ (n : ℕ). take n ys) long ∙ take_whole ys

pub underway_differs : {s m t : Sight} {c b d : Private} {op cur now : RecvAt} {bytes mid after : List ℕ} {failed : ℕ} {sent : MessageHead} (polls : ℕ) → 1 ≤ polls → Underway s c op bytes failed m b cur mid
    → length bytes ≡ op.head.len → RecvStands t d now after → RecvTurned (receiving m b cur mid) (receiving t d now after) (turn.Mismatch sent) → (asked : MessageHead) → asked ≡ op.head
    → RecvDiffers (receiving s c op bytes) polls (with_bytes t d after) sent asked
underway_differs {s} {m} {t} {c} {b} {d} {op} {cur} {now} {bytes} {mid} {after} {failed} {sent} polls some u long st v asked is =
    let same : m.seat ≡ s.seat = seat_kept s u.row.events m u.row.did in
    let says = turn_says s.seat same v in
    let means = v.means in
    let rests : IsAtRest (record_in m) (record_in t) = means.3 in
    let header : now.stage ≡ Header = ap (λ (o : RecvAt). o.stage) means.0 ∙ means.2 in
    let at : IsAtRecvStage t.seat (record_in t) d now after Header = subst (λ (x : RecvStage). IsAtRecvStage t.seat (record_in t) d now after x) header st.at in
    let filled = header_filled (chunk_of s.seat.setup) now header at.0 in
    let whole : after ≡ bytes = lists_agree after bytes (st.long ∙ ap (λ (h : MessageHead). h.len) (v.same.1 ∙ u.head) ∙ sym long)
    (λ k. let full = says.fuller in says.afterwards k (omega (arith, filled)) ∙ u.afterwards k (omega (arith, filled, full))) in
    record {
      events = u.row.events ++ v.events;
      did = did_both s u.row.events m v.events t u.row.did v.did;
      is_asked = is;
      other = λ e. means.4 (e ∙ is ∙ sym u.head);
      header = means.5;
      noted = subst (λ (f : ℕ). (record_in t).notes f ≡ Some means.5) u.from means.6;
      says = means.7;
      none_filled = let before = u.fuller in let full = says.fuller in omega (arith, filled, before, full);
      unchanged = whole;
      untaken = at.1;
      calls = rests.calls ∙ u.calls;
      empty = st.empty;
      rest = rest_both (record_in s) (record_in m) (record_in t) u.rest v.rest;
      post = post_both (record_in s).post (record_in m).post (record_in t).post u.post v.post;
      no_stall = not_stalled polls some u v refl;
    }

-- ---- the measure

pub left_falls : {s m t : Sight} {c b d : Private} {op cur now : RecvAt} {bytes mid after : List ℕ} {failed : ℕ} → Underway s c op bytes failed m b cur mid
    → RecvTurned (receiving m b cur mid) (receiving t d now after) turn.Moved → recv_left (chunk_of s.seat.setup) cur ≡ recv_left (chunk_of s.seat.setup) now + 1
left_falls {s} {m} {cur = cur} {now = now} u v = subst (λ (x : Seat). recv_left (chunk_of x.setup) cur ≡ recv_left (chunk_of x.setup) now + 1) (seat_kept s u.row.events m u.row.did) v.means.0
