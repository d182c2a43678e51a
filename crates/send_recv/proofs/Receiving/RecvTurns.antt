-- The turns of a receive that change a flag, by what the try at the flag's register came to.
use Rattle.std.proofs.Common.{◌≡◌, ◌≢◌, ℕ, ◌+◌, ◌-◌, ◌*◌, ◌<◌, ◌≤◌, Bool, true, false, ◌==◌, if◌then◌else◌, List, [], ◌∷◌, ◌++◌, Option, Some, None, refl, sym, ◌∙◌, ap, subst, arith}
use Rattle.scc_base.specs.Calls.{Recv}
use Rattle.scc_base.specs.Layouts.{chunk_size}
use Rattle.scc_base.specs.Setups.{IsSetup}
use Rattle.scc_base.specs.Events.{take_of}
use Rattle.scc_base.specs.declared.events.Event.{Event}
use Rattle.scc_base.specs.declared.events.Spot.{Spot}
use Rattle.scc_base.specs.declared.events.Spot.TheVariants.{Register}
use Rattle.scc_base.specs.declared.layouts.Layout.{Layout}
use Rattle.scc_base.specs.declared.layouts.Layout.TheVariants.{LineFlags, BitFlags}
use Rattle.scc_base.specs.declared.signals.Signal.{Signal}
use Rattle.scc_base.specs.declared.signals.Signal.TheVariants.{Sent, Ready}
use Rattle.scc_proto.specs.Stages.{Record}
use Rattle.scc_proto.specs.Records.{chunk_of}
use Rattle.scc_proto.specs.Ports.{Seat, Sight, record_in}
use Rattle.scc_proto.proofs.Tests.{eqb_other, peers_swap}
use Rattle.scc_proto.proofs.PortLaws.{seat_kept, record_did_one}
use Rattle.scc_proto.proofs.Layouts.PlaceMoves.{register_missed}
use Rattle.scc_proto.proofs.Layouts.Roles.{le_not}
use Rattle.put_get.specs.Cores.{Private}
use Rattle.put_get.specs.Transfers.{load_count}
use Rattle.send_recv.specs.declared.stages.RecvStage.{RecvStage}
use Rattle.send_recv.specs.declared.stages.RecvStage.TheVariants.{Look, Lower, Raise, Finished}
use Rattle.send_recv.specs.declared.answers.RecvTurn.TheVariants.{Moved, Waiting, Done}
use Rattle.send_recv.specs.Chunks.{chunk_count, chunk_start, chunk_len, lines_from, is_last_chunk}
use Rattle.sync_flags.specs.Writes.{RegisterTaken, BitChanged}
use Rattle.send_recv.specs.Flags.{Changes}
use Rattle.send_recv.proofs.Looks.SignalFlags.{ChangesBy}
use Rattle.send_recv.specs.Ops.{RecvAt, is_received}
use Rattle.send_recv.specs.Receiving.{IsReceiving, RecvStands, RecvDoes, lines_now, spot_by, recv_spot, recv_left, recv_left_by, lines_left, lines_left_by, flag_lines, is_look, filled_to, filled_by}
use Rattle.send_recv.specs.Steps.{own_core, core_of, signal_flag, after_lower, after_raise, recv_or_waits, raise_answer}
use Rattle.sync_flags.specs.Tries.{AtRegister, tries_at, all_failed, Tried, Failed}
use Rattle.send_recv.specs.Tries.{aim_at}
use Rattle.send_recv.specs.Turns.{HoldsNoneBy, KeepsAllButMessages}
use Rattle.send_recv.specs.Ranks.{receiving}
use Rattle.send_recv.proofs.Receiving.LookTurn.{recv_does, Turns, stands_after, holds_kept}
use Rattle.send_recv.proofs.Receiving.HeadTurn.{post_kept}
use Rattle.send_recv.proofs.Looks.TryLemmas.{le_self}
use Rattle.send_recv.proofs.Looks.ChangeFacts.{change_facts}
use Rattle.send_recv.proofs.Lines.DraftNone.{IsFlagWord, signal_is_flag, change_drafts_none}
use Rattle.send_recv.proofs.Receiving.FlagTurns.{went_on, gain_work, lower_goes, change_elsewhere, at_lower}
use Rattle.send_recv.proofs.Receiving.RaiseTurn.{is_raising, ready_is_raised, raised_calls, raised_stage, started, next_start, next_few, next_below, next_left, next_gain, last_gain}

-- ---- the register was taken

pub record Missing (s : Sight) (c : Private) (t : Sight) (d : Private) : Type 0 where
  pub same : record_in t ≡ record_in s
  pub core : d ≡ c

pub missed_by : (layout : Layout) (s t : Sight) (c d : Private) (core : ℕ) (signal : Signal) (by : ℕ) (set : Bool) → IsSetup s.seat.setup → HoldsNoneBy layout (record_in s).held → ChangesBy layout s c core signal by set false t d → Missing s c t d
missed_by LineFlags s t c d core signal by set valid hands (is, writes) = absurd (cc)
missed_by BitFlags s t c d core signal by set valid hands (RegisterTaken missed did e, turns) = record {
  same = record_did_one s (take_of core false) t did ∙ (register_missed s.seat (record_in s) valid core (hands core)).becomes;
  core = e;
}
missed_by BitFlags s t c d core signal by set valid hands (BitChanged made words loaded did m fills e, turns) = absurd (cc)

pub waits_tried : (layout : Layout) (spot : Option Spot) (core : ℕ) (events : List Event) → (layout ≡ BitFlags → spot ≡ Some (Register core)) → (layout ≡ BitFlags → tries_at (AtRegister core) events ≡ 1)
    → (layout ≡ BitFlags → all_failed (AtRegister core) false events ≡ true) → (layout ≡ LineFlags → false ≡ true) → Tried (aim_at layout spot) events (Some (Register core))
waits_tried LineFlags spot core events some tries failed lines = absurd (let e = lines refl in cc)
waits_tried BitFlags spot core events some tries failed lines = Failed (AtRegister core) (ap (λ (o : Option Spot). aim_at BitFlags o) (some refl)) (tries refl) (failed refl) refl

still_work : (events a b x z : ℕ) → events + 4 * a ≤ 4 * b + 4 * 0 → events + 4 * a ≤ 4 * b + 4 * ((x - x) + z)
still_work events a b x z le = omega (arith, le)

register_waits : (s t : Sight) (c d : Private) (op : RecvAt) (bytes : List ℕ) (core : ℕ) (signal : Signal) (by : ℕ) (set : Bool) → IsSetup s.seat.setup → RecvStands s c op bytes → IsFlagWord s.seat.setup core (signal_flag s.seat signal by)
    → (s.seat.setup.layout ≡ BitFlags → recv_spot s.seat op ≡ Some (Register core)) → Changes s c core (signal_flag s.seat signal by) set false t d → RecvDoes (receiving s c op bytes) op.stage false t d → Turns s c op bytes t d op bytes (Waiting (Register core))
register_waits s t c d op bytes core signal by set valid r plain spot changes does =
    let layout = s.seat.setup.layout in
    let m = missed_by layout s t c d core signal by set valid r.hands changes in
    let facts = change_facts layout s t c d core signal by set false r.empty changes in
    let rest : KeepsAllButMessages (record_in s) (record_in t) = record {
      flips = ap (λ (x : Record). x.flips) m.same;
      hold = ap (λ (x : Record). x.held) m.same;
      heap = ap (λ (x : Record). x.heap) m.same;
    } in
    let post = post_kept (record_in s).post (record_in t).post (ap (λ (x : Record). x.post) m.same) in
    record {
      stands = subst (λ (x : Seat). IsReceiving x (record_in t) d op bytes) (sym (seat_kept s facts.events t facts.did))
          (subst (λ (x : Record). IsReceiving s.seat x d op bytes) (sym m.same) (subst (λ (y : Private). IsReceiving s.seat (record_in s) y op bytes) (sym m.core) r));
      turned = record {
        events = facts.events;
        did = facts.did;
        does = does;
        tried = waits_tried layout (recv_spot s.seat op) core facts.events spot facts.tries facts.failed facts.lines;
        freed = facts.freed;
        elsewhere = λ at other ne. change_elsewhere layout (recv_spot s.seat op) core facts.events spot facts.elsewhere at ne;
        fuller = le_self _;
        fewer = le_self _;
        rests = λ w e. facts.rests refl;
        only = facts.only refl;
        no_drafts = change_drafts_none s t c d core (signal_flag s.seat signal by) set false r.empty plain changes facts.events facts.did;
        same = (refl, refl);
        means = (refl, refl, record { stage = ap (λ (x : Record). x.stage) m.same; post = post; rest = rest; calls = ap (λ (x : Record). x.calls) m.same });
        rest = rest;
        post = post;
        before = λ k low. refl;
        afterwards = λ k high. refl;
        held = facts.held;
        work = still_work (load_count facts.events) c.evictions d.evictions (lines_left layout (chunk_of s.seat.setup) op) (if is_look op.stage then 1 else 0) facts.work;
      };
    }

-- ---- lowering `sent`

pub lower_turn : (gone : Bool) (s t : Sight) (c d : Private) (op : RecvAt) (bytes : List ℕ) → IsSetup s.seat.setup → RecvStands s c op bytes → op.stage ≡ Lower
    → Changes s c (own_core s.seat) (signal_flag s.seat Sent op.from) false gone t d
    → Turns s c op bytes t d (after_lower (chunk_of s.seat.setup) gone op) bytes (recv_or_waits gone (Register (own_core s.seat)))
lower_turn true s t c d op bytes valid r lower changes = lower_goes (lines_now (chunk_of s.seat.setup) op == 0) s t c d op bytes refl valid r lower changes
lower_turn false s t c d op bytes valid r lower changes = register_waits s t c d op bytes (own_core s.seat) Sent op.from false valid r
    (signal_is_flag s.seat valid Sent op.from s.seat.rank (peers_swap s.seat.setup s.seat.rank op.from r.peers))
    (at_lower s.seat op lower) changes (recv_does (receiving s c op bytes) Lower false t d lower changes)

-- ---- raising `ready`

spot_raise_lines : (layout : Layout) (own other from : ℕ) → layout ≡ LineFlags → spot_by layout own other from Raise ≡ None
spot_raise_lines LineFlags own other from e = refl
spot_raise_lines BitFlags own other from e = absurd (cc)

spot_raise_bits : (layout : Layout) (own other from : ℕ) → layout ≡ BitFlags → spot_by layout own other from Raise ≡ Some (Register other)
spot_raise_bits LineFlags own other from e = absurd (cc)
spot_raise_bits BitFlags own other from e = refl

spot_raise : (seat : Seat) (op : RecvAt) → op.stage ≡ Raise → recv_spot seat op ≡ spot_by seat.setup.layout (own_core seat) (core_of seat op.from) op.from Raise
spot_raise seat op raise = ap (λ (st : RecvStage). spot_by seat.setup.layout (own_core seat) (core_of seat op.from) op.from st) raise

left_raise : (size : ℕ) (op : RecvAt) → op.stage ≡ Raise → recv_left size op ≡ (lines_from size op.head.len op.chunk - lines_now size op) + 3 * (chunk_count size op.head.len - op.chunk) - 2
left_raise size op raise = ap (λ (st : RecvStage). recv_left_by (chunk_count size op.head.len - op.chunk) (lines_from size op.head.len op.chunk) (lines_now size op) (op.chunk == 0) st) raise

lines_raise : (layout : Layout) (size : ℕ) (op : RecvAt) → op.stage ≡ Raise
    → lines_left layout size op ≡ (lines_from size op.head.len op.chunk - lines_now size op) + 2 * flag_lines layout * (chunk_count size op.head.len - op.chunk) - flag_lines layout
lines_raise layout size op raise = ap (λ (st : RecvStage). lines_left_by (flag_lines layout) (chunk_count size op.head.len - op.chunk) (lines_from size op.head.len op.chunk) (lines_now size op) (op.chunk == 0) st) raise

later : (op : RecvAt) → (op.chunk + 1 == 0) ≡ false
later op = let ne : op.chunk + 1 ≢ 0 = omega arith in eqb_other (op.chunk + 1) 0 ne

at_raise : (seat : Seat) (op : RecvAt) → op.stage ≡ Raise → seat.setup.layout ≡ BitFlags → recv_spot seat op ≡ Some (Register (core_of seat op.from))
at_raise seat op raise e = spot_raise seat op raise ∙ spot_raise_bits seat.setup.layout (own_core seat) (core_of seat op.from) op.from e

no_lines : (n : ℕ) → 0 ≤ n
no_lines n = omega arith

filled_raise : (size : ℕ) (op : RecvAt) → op.stage ≡ Raise → filled_to size op ≡ chunk_start size op.chunk + chunk_len size op.head.len op.chunk
filled_raise size op raise = ap (λ (st : RecvStage). filled_by (chunk_start size op.chunk) op.head.len st (chunk_len size op.head.len op.chunk)) raise

last_fuller : (layout : Layout) (op : RecvAt) → op.stage ≡ Raise → op.chunk < chunk_count (chunk_size layout) op.head.len → filled_to (chunk_size layout) op ≤ op.head.len
last_fuller layout op raise below =
    let e = filled_raise (chunk_size layout) op raise in
    let fits = started layout op.head.len op.chunk below in
    omega (arith, e, fits)

next_fuller : (layout : Layout) (op : RecvAt) → op.stage ≡ Raise → filled_to (chunk_size layout) op ≤ chunk_start (chunk_size layout) (op.chunk + 1)
next_fuller layout op raise =
    let e = filled_raise (chunk_size layout) op raise in
    let next = next_start layout op.chunk in
    omega (arith, e, next)

next_fewer : (layout : Layout) (op : RecvAt) → op.stage ≡ Raise → chunk_start (chunk_size layout) (op.chunk + 1) < op.head.len
    → lines_left layout (chunk_size layout) (record op { chunk = op.chunk + 1; stage = Look }) ≤ lines_left layout (chunk_size layout) op
next_fewer layout op raise more =
    let size = chunk_size layout in
    subst (λ x. (if op.chunk + 1 == 0 then 1 else 0) + lines_from size op.head.len (op.chunk + 1) + 2 * flag_lines layout * (chunk_count size op.head.len - (op.chunk + 1)) ≤ x) (sym (lines_raise layout size op raise))
    (subst (λ (z : Bool). (if z then 1 else 0) + lines_from size op.head.len (op.chunk + 1) + 2 * flag_lines layout * (chunk_count size op.head.len - (op.chunk + 1))
    ≤ (lines_from size op.head.len op.chunk - lines_now size op) + 2 * flag_lines layout * (chunk_count size op.head.len - op.chunk) - flag_lines layout) (sym (later op))
    (next_few layout op.head.len op.chunk more))

raise_last : (s t : Sight) (c d : Private) (op : RecvAt) (bytes : List ℕ) → is_last_chunk (chunk_of s.seat.setup) op.head.len op.chunk ≡ true → IsSetup s.seat.setup → RecvStands s c op bytes → op.stage ≡ Raise
    → Changes s c (core_of s.seat op.from) (signal_flag s.seat Ready s.seat.rank) true true t d → Turns s c op bytes t d (record op { stage = Finished }) bytes Done
raise_last s t c d op bytes last valid r raise changes =
    let size = chunk_of s.seat.setup in
    let layout = s.seat.setup.layout in
    let now : RecvAt = record op { stage = Finished } in
    let l = is_raising s.seat (record_in s) c op bytes r raise in
    let is = ready_is_raised s t c d op bytes valid r raise changes in
    let facts = change_facts layout s t c d (core_of s.seat op.from) Ready s.seat.rank true true r.empty changes in
    let ends = raised_calls layout (record_in s) (record_in t) op bytes l r.long r.in_hand last is in
    let below = r.in_hand in
    let rest : KeepsAllButMessages (record_in s) (record_in t) = record {
      flips = ap (λ (x : Record). x.flips) is;
      hold = ap (λ (x : Record). x.held) is;
      heap = ap (λ (x : Record). x.heap) is;
    } in
    record {
      stands = subst (λ (x : Seat). IsReceiving x (record_in t) d now bytes) (sym (seat_kept s facts.events t facts.did))
          (stands_after s.seat (record_in s) (record_in t) c d op now bytes r refl refl refl facts.out rest.hold ends.0);
      turned = record {
        events = facts.events;
        did = facts.did;
        does = recv_does (receiving s c op bytes) Raise true t d raise changes;
        tried = went_on layout (recv_spot s.seat op) (core_of s.seat op.from) facts.events
            (λ e. spot_raise s.seat op raise ∙ spot_raise_lines layout (own_core s.seat) (core_of s.seat op.from) op.from e)
            (at_raise s.seat op raise) facts.tries facts.failed;
        freed = facts.freed;
        elsewhere = λ at other ne. change_elsewhere layout (recv_spot s.seat op) (core_of s.seat op.from) facts.events (at_raise s.seat op raise) facts.elsewhere at ne;
        fuller = last_fuller layout op raise r.in_hand;
        fewer = no_lines (lines_left layout size op);
        rests = λ spot w. absurd (cc);
        only = tt;
        no_drafts = change_drafts_none s t c d (core_of s.seat op.from) (signal_flag s.seat Ready s.seat.rank) true true r.empty
            (signal_is_flag s.seat valid Ready s.seat.rank op.from r.peers) changes facts.events facts.did;
        same = (refl, refl);
        means = (refl, refl, ends.1 ∙ ap (λ st. (record_in s).calls ++ (if is_received st then [] else Recv op.from op.head bytes ∷ [])) (sym raise));
        rest = rest;
        post = post_kept (record_in s).post (record_in t).post (ap (λ (x : Record). x.post) is);
        before = λ k low. refl;
        afterwards = λ k high. refl;
        held = facts.held;
        work = gain_work (load_count facts.events) c.evictions d.evictions (lines_left layout size now) (lines_left layout size op) (if is_look op.stage then 1 else 0) (flag_lines layout) facts.work
            (subst (λ x. flag_lines layout ≤ x - 0) (sym (lines_raise layout size op raise))
            (last_gain layout (chunk_count size op.head.len - op.chunk) (lines_from size op.head.len op.chunk - lines_now size op) (omega (arith, below))));
      };
    }

raise_next : (s t : Sight) (c d : Private) (op : RecvAt) (bytes : List ℕ) → is_last_chunk (chunk_of s.seat.setup) op.head.len op.chunk ≡ false → IsSetup s.seat.setup → RecvStands s c op bytes → op.stage ≡ Raise
    → Changes s c (core_of s.seat op.from) (signal_flag s.seat Ready s.seat.rank) true true t d → Turns s c op bytes t d (record op { chunk = op.chunk + 1; stage = Look }) bytes Moved
raise_next s t c d op bytes more valid r raise changes =
    let size = chunk_of s.seat.setup in
    let layout = s.seat.setup.layout in
    let now : RecvAt = record op { chunk = op.chunk + 1; stage = Look } in
    let l = is_raising s.seat (record_in s) c op bytes r raise in
    let is = ready_is_raised s t c d op bytes valid r raise changes in
    let facts = change_facts layout s t c d (core_of s.seat op.from) Ready s.seat.rank true true r.empty changes in
    let goes = raised_stage layout (record_in s) (record_in t) op bytes l r.long r.in_hand more is in
    let low = le_not op.head.len (size * (op.chunk + 1)) more in
    let rest : KeepsAllButMessages (record_in s) (record_in t) = record {
      flips = ap (λ (x : Record). x.flips) is;
      hold = ap (λ (x : Record). x.held) is;
      heap = ap (λ (x : Record). x.heap) is;
    } in
    let first : (if op.chunk + 1 == 0 then 1 else 0) ≡ 0 = ap (λ b. if b then 1 else 0) (later op) in
    record {
      stands = subst (λ (x : Seat). IsReceiving x (record_in t) d now bytes) (sym (seat_kept s facts.events t facts.did)) (record {
        peers = r.peers;
        head = r.head;
        long = r.long;
        empty = facts.out;
        hands = holds_kept layout (record_in s) (record_in t) rest.hold r.hands;
        in_hand = next_below layout op.head.len op.chunk low;
        at = goes.0;
      });
      turned = record {
        events = facts.events;
        did = facts.did;
        does = recv_does (receiving s c op bytes) Raise true t d raise changes;
        tried = went_on layout (recv_spot s.seat op) (core_of s.seat op.from) facts.events
            (λ e. spot_raise s.seat op raise ∙ spot_raise_lines layout (own_core s.seat) (core_of s.seat op.from) op.from e)
            (at_raise s.seat op raise) facts.tries facts.failed;
        freed = facts.freed;
        elsewhere = λ at other ne. change_elsewhere layout (recv_spot s.seat op) (core_of s.seat op.from) facts.events (at_raise s.seat op raise) facts.elsewhere at ne;
        fuller = next_fuller layout op raise;
        fewer = next_fewer layout op raise low;
        rests = λ spot w. absurd (cc);
        only = tt;
        no_drafts = change_drafts_none s t c d (core_of s.seat op.from) (signal_flag s.seat Ready s.seat.rank) true true r.empty
            (signal_is_flag s.seat valid Ready s.seat.rank op.from r.peers) changes facts.events facts.did;
        same = (refl, refl);
        means = (
          left_raise size op raise ∙ next_left layout op.head.len op.chunk low
              ∙ ap (λ x. x + 1) (let e : lines_from size op.head.len (op.chunk + 1) + 3 * (chunk_count size op.head.len - (op.chunk + 1))
              ≡ (if op.chunk + 1 == 0 then 1 else 0) + lines_from size op.head.len (op.chunk + 1) + 3 * (chunk_count size op.head.len - (op.chunk + 1)) = omega (arith, first) in e),
          goes.1,
          ap is_received raise,
          refl,
        );
        rest = rest;
        post = post_kept (record_in s).post (record_in t).post (ap (λ (x : Record). x.post) is);
        before = λ k small. refl;
        afterwards = λ k high. refl;
        held = facts.held;
        work = gain_work (load_count facts.events) c.evictions d.evictions (lines_left layout size now) (lines_left layout size op) (if is_look op.stage then 1 else 0) (flag_lines layout) facts.work
            (subst (λ x. flag_lines layout ≤ x - lines_left layout size now) (sym (lines_raise layout size op raise))
            (subst (λ z. flag_lines layout ≤ ((lines_from size op.head.len op.chunk - lines_now size op) + 2 * flag_lines layout * (chunk_count size op.head.len - op.chunk) - flag_lines layout)
            - (z + lines_from size op.head.len (op.chunk + 1) + 2 * flag_lines layout * (chunk_count size op.head.len - (op.chunk + 1)))) (sym first)
            (subst (λ z. flag_lines layout ≤ ((lines_from size op.head.len op.chunk - lines_now size op) + 2 * flag_lines layout * (chunk_count size op.head.len - op.chunk) - flag_lines layout)
            - (z + 2 * flag_lines layout * (chunk_count size op.head.len - (op.chunk + 1)))) (let e : lines_from size op.head.len (op.chunk + 1) ≡ 0 + lines_from size op.head.len (op.chunk + 1) = omega arith in e)
            (next_gain layout op.head.len op.chunk low))));
      };
    }

raise_by : (b : Bool) (s t : Sight) (c d : Private) (op : RecvAt) (bytes : List ℕ) → is_last_chunk (chunk_of s.seat.setup) op.head.len op.chunk ≡ b → IsSetup s.seat.setup → RecvStands s c op bytes → op.stage ≡ Raise
    → Changes s c (core_of s.seat op.from) (signal_flag s.seat Ready s.seat.rank) true true t d
    → Turns s c op bytes t d (if b then record op { stage = Finished } else record op { chunk = op.chunk + 1; stage = Look }) bytes (if b then Done else Moved)
raise_by true s t c d op bytes last valid r raise changes = raise_last s t c d op bytes last valid r raise changes
raise_by false s t c d op bytes more valid r raise changes = raise_next s t c d op bytes more valid r raise changes

pub raise_turn : (gone : Bool) (s t : Sight) (c d : Private) (op : RecvAt) (bytes : List ℕ) → IsSetup s.seat.setup → RecvStands s c op bytes → op.stage ≡ Raise
    → Changes s c (core_of s.seat op.from) (signal_flag s.seat Ready s.seat.rank) true gone t d
    → Turns s c op bytes t d (after_raise (chunk_of s.seat.setup) gone op) bytes (raise_answer (chunk_of s.seat.setup) gone (Register (core_of s.seat op.from)) op)
raise_turn true s t c d op bytes valid r raise changes = raise_by (is_last_chunk (chunk_of s.seat.setup) op.head.len op.chunk) s t c d op bytes refl valid r raise changes
raise_turn false s t c d op bytes valid r raise changes = register_waits s t c d op bytes (core_of s.seat op.from) Ready s.seat.rank true valid r
    (signal_is_flag s.seat valid Ready s.seat.rank op.from r.peers)
    (at_raise s.seat op raise) changes (recv_does (receiving s c op bytes) Raise false t d raise changes)
