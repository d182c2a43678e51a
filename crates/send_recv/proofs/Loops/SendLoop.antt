-- A send or a post as a whole call: what its turns have come to so far, and what ends it.
use Rattle.std.proofs.Common.{◌≡◌, ℕ, ◌+◌, ◌≤◌, Bool, true, false, if◌then◌else◌, List, [], ◌∷◌, ◌++◌, Option, Some, None, refl, sym, ◌∙◌, ap, subst, arith}
use Rattle.scc_base.specs.Calls.{DataCall, Send, Post}
use Rattle.scc_base.specs.Heads.{MessageHead}
use Rattle.scc_base.specs.declared.events.Spot.{Spot}
use Rattle.scc_base.specs.declared.events.Spot.TheVariants.{Register}
use Rattle.scc_base.specs.declared.events.Turn.TheVariants as turn
use Rattle.scc_base.specs.declared.layouts.Layout.{Layout}
use Rattle.scc_base.specs.declared.layouts.Layout.TheVariants.{LineFlags, BitFlags}
use Rattle.scc_base.specs.Layouts.{signal_at}
use Rattle.scc_base.specs.declared.signals.Signal.TheVariants.{Ready}
use Rattle.scc_proto.specs.Records.{chunk_of}
use Rattle.scc_proto.specs.Ports.{Seat, Sight, record_in}
use Rattle.scc_proto.proofs.PortLaws.{did_both, seat_kept}
use Rattle.put_get.specs.Cores.{Private}
use Rattle.sync_flags.specs.Tries.{failed_tries, spot_of, Tried}
use Rattle.sync_flags.proofs.RowLemmas.{waited}
use Rattle.sync_flags.proofs.LoopLemmas.{Row, row_none, row_moved, row_waited}
use Rattle.send_recv.specs.declared.stages.SendStage.{SendStage}
use Rattle.send_recv.specs.declared.stages.SendStage.TheVariants.{Header, Lines, Flush, Raise, Look, Lower, Finished}
use Rattle.send_recv.specs.Ops.{SendAt, SlotAt, is_sent}
use Rattle.send_recv.specs.Sending.{IsAtSendStage, SendStands, SendTurned, send_spot_by, send_spot, slot_spot_by, slot_spot, send_call, send_left}
use Rattle.send_recv.specs.Calling.{Sent, SendStalled}
use Rattle.send_recv.specs.Steps.{own_core, core_of, flag_spot}
use Rattle.send_recv.specs.Tries.{aim_of, aim_at}
use Rattle.send_recv.specs.Turns.{KeepsAllButMessages, IsAtRest}
use Rattle.send_recv.specs.Ranks.{sending, holding_slot}
use Rattle.send_recv.proofs.Looks.TryLemmas.{signal_aimed}
use Rattle.send_recv.proofs.Loops.RecvLoop.{rest_both, rest_itself, resting_quiet, aimed, row_on}

pub record SendWay (s : Sight) (op : SendAt) (bytes : List ℕ) (failed : ℕ) (t : Sight) (d : Private) (now : SendAt) (after : SlotAt) : Type 0 where
  -- so many vain tries are at the end, at the spot where the op stands
  pub row : Row (aim_at s.seat.setup.layout (send_spot s.seat now after)) failed s t
  pub stands : SendStands t d now after bytes
  pub same : (now.to ≡ op.to) × (now.head ≡ op.head) × (now.posted ≡ op.posted)
  pub finished : is_sent now.stage ≡ is_sent op.stage
  pub calls : (record_in t).calls ≡ (record_in s).calls
  pub rest : KeepsAllButMessages (record_in s) (record_in t)

pub way_none : {s : Sight} {c : Private} {op : SendAt} {slot : SlotAt} {bytes : List ℕ} → SendStands s c op slot bytes → SendWay s op bytes 0 s c op slot
way_none {s} st = record {
  row = row_none;
  stands = st;
  same = (refl, refl, refl);
  finished = refl;
  calls = refl;
  rest = rest_itself (record_in s);
}

pub way_moved : {s m t : Sight} {b d : Private} {op cur now : SendAt} {slot after : SlotAt} {bytes : List ℕ} {failed : ℕ} → SendWay s op bytes failed m b cur slot
    → SendStands t d now after bytes → SendTurned (sending m b cur slot bytes) (sending t d now after bytes) turn.Moved → SendWay s op bytes 0 t d now after
way_moved {s} {m} {t} u st v = record {
  row = row_moved u.row v.did v.freed;
  stands = st;
  same = (v.same.0 ∙ u.same.0, v.same.1 ∙ u.same.1, v.same.2 ∙ u.same.2);
  finished = v.means.3 ∙ sym v.means.2 ∙ u.finished;
  calls = v.means.1 ∙ u.calls;
  rest = rest_both (record_in s) (record_in m) (record_in t) u.rest v.rest;
}

-- what a turn that waits has tried, at the seat of the call's start
waits : {s m t : Sight} {b d : Private} {op cur now : SendAt} {slot after : SlotAt} {bytes : List ℕ} {failed : ℕ} {spot : Spot} (u : SendWay s op bytes failed m b cur slot)
    → (v : SendTurned (sending m b cur slot bytes) (sending t d now after bytes) (turn.Waiting spot)) → Tried (aim_at s.seat.setup.layout (send_spot s.seat cur slot)) v.events (Some spot)
waits {s} {m} {cur = cur} {slot = slot} {spot = spot} u v =
    subst (λ (x : Seat). Tried (aim_at x.setup.layout (send_spot x cur slot)) v.events (Some spot)) (seat_kept s u.row.events m u.row.did) v.tried

pub way_waited : {s m t : Sight} {b d : Private} {op cur now : SendAt} {slot after : SlotAt} {bytes : List ℕ} {failed : ℕ} {spot : Spot} → SendWay s op bytes failed m b cur slot
    → SendStands t d now after bytes → SendTurned (sending m b cur slot bytes) (sending t d now after bytes) (turn.Waiting spot) → SendWay s op bytes (failed + 1) t d now after
way_waited {s} {m} {t} {b} {d} {op} {cur} {now} {slot} {after} {bytes} {failed} {spot} u st v =
    let rests : IsAtRest (record_in m) (record_in t) = v.means.2 in
    record {
      row = row_waited u.row v.did v.freed (waits u v) (resting_quiet v.events (v.rests spot refl)) (λ i. aim_at s.seat.setup.layout (send_spot s.seat (v.means.0 i) (v.means.1 i)));
      stands = st;
      same = (v.same.0 ∙ u.same.0, v.same.1 ∙ u.same.1, v.same.2 ∙ u.same.2);
      finished = ap (λ (o : SendAt). is_sent o.stage) v.means.0 ∙ u.finished;
      calls = rests.calls ∙ u.calls;
      rest = rest_both (record_in s) (record_in m) (record_in t) u.rest v.rest;
    }

-- ---- the ends

call_by : (sent posted : Bool) (to : ℕ) (head : MessageHead) (bytes : List ℕ) → List DataCall
call_by sent posted to head bytes = if sent then [] else (if posted then Post to head bytes ∷ [] else Send to head bytes ∷ [])

pub same_call : (a b : SendAt) (bytes : List ℕ) → (a.to ≡ b.to) × (a.head ≡ b.head) × (a.posted ≡ b.posted) → is_sent a.stage ≡ is_sent b.stage → send_call a bytes ≡ send_call b bytes
unfolding call_by
same_call a b bytes same finished = λ i. call_by (finished i) (same.2 i) (same.0 i) (same.1 i) bytes

slot_by : (sent posted : Bool) (to : ℕ) (slot after : SlotAt) → after ≡ (if sent then slot else (if posted then record { to = Some to; seen = false } else slot))
    → posted ≡ true → sent ≡ false → after ≡ record { to = Some to; seen = false }
slot_by true posted to slot after is p f = absurd (cc)
slot_by false true to slot after is p f = is
slot_by false false to slot after is p f = absurd (cc)

pub way_ends : {s m t : Sight} {c b d : Private} {op cur now : SendAt} {begun slot after : SlotAt} {bytes : List ℕ} {failed : ℕ} → SendWay s op bytes failed m b cur slot
    → SendStands t d now after bytes → SendTurned (sending m b cur slot bytes) (sending t d now after bytes) turn.Done → Sent (sending s c op begun bytes) (holding_slot t d after)
way_ends {s} {m} {t} {d = d} {op = op} {cur = cur} {now = now} {slot = slot} {after = after} {bytes = bytes} u st v =
    let at : IsAtSendStage t.seat (record_in t) d now bytes Finished = subst (λ (x : SendStage). IsAtSendStage t.seat (record_in t) d now bytes x) v.means.0 st.at in
    record {
      events = u.row.events ++ v.events;
      did = did_both s u.row.events m v.events t u.row.did v.did;
      calls = v.means.2 ∙ (λ i. u.calls i ++ same_call cur op bytes u.same u.finished i);
      stage = at.0;
      empty = at.1;
      slot_stands = st.slot_stands;
      posted = λ p f. slot_by (is_sent cur.stage) cur.posted cur.to slot after v.means.1 (u.same.2 ∙ p) (u.finished ∙ f)
          ∙ ap (λ (k : ℕ). record { to = Some k; seen = false }) u.same.0;
      plain = λ p f. v.means.3 (u.same.2 ∙ p) (u.finished ∙ f);
      rest = rest_both (record_in s) (record_in m) (record_in t) u.rest v.rest;
      no_row = λ f aim. row_on aim u.row.events v.events u.row.freed ∙ v.ends refl (u.finished ∙ f) aim (failed_tries aim u.row.events);
    }

some_at : (a b : Spot) → Some a ≡ Some b → a ≡ b
some_at a b e = cc

-- a spot of a send is a flag that tells that a chunk is taken, or a register
slot_told : (layout : Layout) (own : ℕ) (to : Option ℕ) (seen : Bool) (at : Spot) → slot_spot_by layout own to seen ≡ Some at → at ≡ spot_of (aim_of layout at)
slot_told LineFlags own None seen at e = absurd (cc)
slot_told LineFlags own (Some to) false at e = subst (λ (x : Spot). x ≡ spot_of (aim_of LineFlags x)) (some_at (flag_spot own (signal_at LineFlags Ready to)) at e) (signal_aimed LineFlags Ready own to)
slot_told LineFlags own (Some to) true at e = absurd (cc)
slot_told BitFlags own None seen at e = absurd (cc)
slot_told BitFlags own (Some to) false at e = subst (λ (x : Spot). x ≡ spot_of (aim_of BitFlags x)) (some_at (flag_spot own (signal_at BitFlags Ready to)) at e) (signal_aimed BitFlags Ready own to)
slot_told BitFlags own (Some to) true at e = subst (λ (x : Spot). x ≡ spot_of (aim_of BitFlags x)) (some_at (Register own) at e) refl

send_told : (layout : Layout) (own other to : ℕ) (slot : Option Spot) (stage : SendStage) (at : Spot) → (slot ≡ Some at → at ≡ spot_of (aim_of layout at)) → send_spot_by layout own other to slot stage ≡ Some at → at ≡ spot_of (aim_of layout at)
send_told LineFlags own other to slot Header at told e = told e
send_told LineFlags own other to slot (Lines i) at told e = absurd (cc)
send_told LineFlags own other to slot Flush at told e = absurd (cc)
send_told LineFlags own other to slot Raise at told e = absurd (cc)
send_told LineFlags own other to slot Look at told e = subst (λ (x : Spot). x ≡ spot_of (aim_of LineFlags x)) (some_at (flag_spot own (signal_at LineFlags Ready to)) at e) (signal_aimed LineFlags Ready own to)
send_told LineFlags own other to slot Lower at told e = absurd (cc)
send_told LineFlags own other to slot Finished at told e = absurd (cc)
send_told BitFlags own other to slot Header at told e = told e
send_told BitFlags own other to slot (Lines i) at told e = absurd (cc)
send_told BitFlags own other to slot Flush at told e = absurd (cc)
send_told BitFlags own other to slot Raise at told e = subst (λ (x : Spot). x ≡ spot_of (aim_of BitFlags x)) (some_at (Register other) at e) refl
send_told BitFlags own other to slot Look at told e = subst (λ (x : Spot). x ≡ spot_of (aim_of BitFlags x)) (some_at (flag_spot own (signal_at BitFlags Ready to)) at e) (signal_aimed BitFlags Ready own to)
send_told BitFlags own other to slot Lower at told e = subst (λ (x : Spot). x ≡ spot_of (aim_of BitFlags x)) (some_at (Register own) at e) refl
send_told BitFlags own other to slot Finished at told e = absurd (cc)

pub way_stalls : {s m t : Sight} {c b d : Private} {op cur now : SendAt} {begun slot after : SlotAt} {bytes : List ℕ} {failed : ℕ} {spot : Spot} → SendWay s op bytes failed m b cur slot
    → SendStands t d now after bytes → SendTurned (sending m b cur slot bytes) (sending t d now after bytes) (turn.Waiting spot) → (polls : ℕ) → polls ≤ failed + 1 → SendStalled (sending s c op begun bytes) polls (sending t d now after bytes) spot
way_stalls {s} {cur = cur} {now = now} {slot = slot} {after = after} {spot = spot} u st v polls enough =
    let layout = s.seat.setup.layout in
    let w = waited (waits u v) in
    let x = aimed layout (send_spot s.seat cur slot) w.at w.is in
    let now_at : send_spot s.seat now after ≡ Some x.at = (λ i. send_spot s.seat (v.means.0 i) (v.means.1 i)) ∙ x.is in
    let told = send_told layout (own_core s.seat) (core_of s.seat cur.to) cur.to (slot_spot s.seat slot) cur.stage x.at (λ e. slot_told layout (own_core s.seat) slot.to slot.seen x.at e) x.is in
    let spot_is : x.at ≡ spot = told ∙ ap spot_of x.aim_is ∙ sym w.spot_is in
    let n = way_waited u st v in
    let many = n.row.tried (aim_of layout x.at) (ap (λ (o : Option Spot). aim_at layout o) now_at) in
    record {
      events = n.row.events;
      did = n.row.did;
      tried = subst (λ (p : Spot). polls ≤ failed_tries (aim_of layout p) n.row.events) spot_is (omega (arith, enough, many));
      at = now_at ∙ ap (λ (p : Spot). Some p) spot_is;
      stands = st;
      same = n.same;
      finished = n.finished;
      calls = n.calls;
      rest = n.rest;
    }

-- ---- the measure

pub send_falls : {s m t : Sight} {b d : Private} {op cur now : SendAt} {slot after : SlotAt} {bytes : List ℕ} {failed : ℕ} → SendWay s op bytes failed m b cur slot
    → SendTurned (sending m b cur slot bytes) (sending t d now after bytes) turn.Moved → send_left s.seat.setup.layout (chunk_of s.seat.setup) cur slot ≡ send_left s.seat.setup.layout (chunk_of s.seat.setup) now after + 1
send_falls {s} {m} {cur = cur} {now = now} {slot = slot} {after = after} u v =
    subst (λ (x : Seat). send_left x.setup.layout (chunk_of x.setup) cur slot ≡ send_left x.setup.layout (chunk_of x.setup) now after + 1) (seat_kept s u.row.events m u.row.did) v.means.0
