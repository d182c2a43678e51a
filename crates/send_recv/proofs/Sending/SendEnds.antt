-- The turn of a send that is one of the slot before it, and that of a send at its end.
use Rattle.std.proofs.Common.{◌≡◌, ◌≢◌, ℕ, ◌+◌, ◌-◌, ◌*◌, Bool, true, false, if◌then◌else◌, List, [], ◌∷◌, ◌++◌, Option, Some, None, refl, sym, ◌∙◌, ap, subst, arith, append-nil}
use Rattle.scc_base.specs.Calls.{Send, Post}
use Rattle.scc_base.specs.declared.events.Spot.{Spot}
use Rattle.scc_base.specs.declared.events.Turn.{Turn}
use Rattle.scc_base.specs.declared.events.Turn.TheVariants.{Moved, Waiting, Done}
use Rattle.scc_base.specs.declared.layouts.Layout.{Layout}
use Rattle.scc_base.specs.declared.layouts.Layout.TheVariants.{LineFlags, BitFlags}
use Rattle.scc_proto.specs.Records.{chunk_of}
use Rattle.scc_proto.specs.Ports.{Seat, Sight, record_in}
use Rattle.scc_proto.proofs.PortLaws.{did_nothing, seat_kept}
use Rattle.scc_proto.proofs.Layouts.Roles.{if_yes}
use Rattle.put_get.specs.Cores.{Private}
use Rattle.send_recv.specs.declared.stages.SendStage.{SendStage}
use Rattle.send_recv.specs.declared.stages.SendStage.TheVariants.{Header, Finished}
use Rattle.send_recv.specs.Chunks.{chunk_count, lines_from}
use Rattle.send_recv.specs.Ops.{SendAt, SlotAt, is_sent, slot_left}
use Rattle.send_recv.specs.Sending.{SlotStands, SlotTurned, SlotMeans, IsAtSendStage, IsSending, SendStands, SendTurned, SendMeans, SlotDoes, StartDoes, of_chunk, send_spot_by, slot_spot}
use Rattle.send_recv.specs.Steps.{own_core, core_of, moves_on}
use Rattle.sync_flags.specs.Tries.{Tried, NoTry}
use Rattle.sync_flags.specs.Turns.{waits_at}
use Rattle.send_recv.specs.Tries.{aim_at}
use Rattle.send_recv.specs.Turns.{LoadsLines, NoLoad, lines_for_try}
use Rattle.send_recv.specs.Ranks.{Sender, sending, holding_slot}
use Rattle.send_recv.proofs.Receiving.LookTurn.{holds_kept}
use Rattle.send_recv.proofs.Sending.SendFacts.{SendTurns, send_does, at_stage, left_at, spot_at}
use Rattle.send_recv.proofs.Sending.SendWork.{none_work}
use Rattle.send_recv.proofs.Sending.SendWaits.{no_stores}

-- ---- a turn of the slot

left_by : (slot now lines p x : ℕ) → slot ≡ now + 1 → x ≡ now + 1 + lines + p → slot + 1 + lines + p ≡ x + 1
left_by slot now lines p x fewer is = omega (arith, fewer, is)

slot_means : (s t : Sight) (c d : Private) (op : SendAt) (slot now : SlotAt) (bytes : List ℕ) (answer : Turn) → op.stage ≡ Header → slot.to ≢ None → SlotTurned (holding_slot s c slot) (holding_slot t d now) answer
    → SendMeans (sending s c op slot bytes) (sending t d op now bytes) answer
slot_means s t c d op slot now bytes Moved header full turned =
    let size = chunk_of s.seat.setup in
    let layout = s.seat.setup.layout in (
      left_at layout size op slot Header header
          ∙ left_by (slot_left slot) (slot_left now) (lines_from size op.head.len op.chunk) (of_chunk layout op.posted * (chunk_count size op.head.len - op.chunk)) _ turned.means.0 (left_at layout size op now Header header),
      turned.calls,
      ap is_sent header,
      ap is_sent header,
      turned.means.1,
    )
slot_means s t c d op slot now bytes (Waiting spot) header full turned =
    (refl, turned.means, record { stage = turned.stage; post = turned.post (ap (λ (x : SlotAt). x.to) turned.means); rest = turned.rest; calls = turned.calls })
slot_means s t c d op slot now bytes Done header full turned = absurd (full turned.means.0)

-- a full slot's turn comes first
slot_first : (old : Sender) (done : Bool) (t : Sight) (d : Private) (to : Option ℕ) → to ≢ None → SlotDoes (holding_slot old.sight old.core old.slot) done t d → StartDoes old to done t d
slot_first old done t d None full does = absurd (full refl)
slot_first old done t d (Some to) full does = does

pub slot_turn : (s t : Sight) (c d : Private) (op : SendAt) (slot now : SlotAt) (bytes : List ℕ) (answer : Turn) → SendStands s c op slot bytes → op.stage ≡ Header → slot.to ≢ None → SlotStands t.seat (record_in t) now
    → SlotTurned (holding_slot s c slot) (holding_slot t d now) answer → SendTurns s c op slot bytes t d op now answer
slot_turn s t c d op slot now bytes answer r header full stands turned =
    let layout = s.seat.setup.layout in
    let at = at_stage s.seat (record_in s) c op slot bytes Header r header in
    let seat : t.seat ≡ s.seat = seat_kept s turned.events t turned.did in
    let reached : IsAtSendStage s.seat (record_in t) d op bytes Header = (at.0, turned.stage ∙ at.1, turned.buffer) in
    record {
      stands = subst (λ (x : Seat). IsSending x (record_in t) d op now bytes) (sym seat) (record {
        peers = r.peers;
        head = r.head;
        post_head = r.post_head;
        long = r.long;
        hands = holds_kept layout (record_in s) (record_in t) turned.rest.hold r.hands;
        slot_stands = subst (λ (x : Seat). SlotStands x (record_in t) now) seat stands;
        in_hand = r.in_hand;
        at = subst (λ (st : SendStage). IsAtSendStage s.seat (record_in t) d op bytes st) (sym header) reached;
      });
      turned = record {
        events = turned.events;
        did = turned.did;
        does = send_does (sending s c op slot bytes) Header (moves_on answer) (moves_on answer) t d header refl (slot_first (sending s c op slot bytes) (moves_on answer) t d slot.to full turned.does);
        tried = subst (λ (spot : Option Spot). Tried (aim_at layout spot) turned.events (waits_at answer)) (sym (spot_at s.seat op slot Header header)) turned.tried;
        freed = turned.freed;
        ends = λ done open_before aim n. absurd (full (subst (λ (a : Turn). SlotMeans slot now a) done turned.means).0);
        rests = turned.rests;
        only = turned.only;
        same = (refl, refl, refl);
        means = slot_means s t c d op slot now bytes answer header full turned;
        rest = turned.rest;
        drafts = no_stores s.seat.setup c turned.events turned.no_drafts;
        held = turned.held;
        work = subst (λ (spot : Option Spot). LoadsLines turned.events c d (lines_for_try spot)) (sym (spot_at s.seat op slot Header header)) turned.work;
      };
    }

-- ---- a further turn of a send that is finished makes no event

spot_finished : (layout : Layout) (own other to : ℕ) (slot : Option Spot) → send_spot_by layout own other to slot Finished ≡ None
spot_finished LineFlags own other to slot = refl
spot_finished BitFlags own other to slot = refl

pub finished_turn : (s : Sight) (c : Private) (op : SendAt) (slot : SlotAt) (bytes : List ℕ) → op.stage ≡ Finished → SendTurned (sending s c op slot bytes) (sending s c op slot bytes) Done
finished_turn s c op slot bytes finished =
    let sent : is_sent op.stage ≡ true = ap is_sent finished in
    record {
      events = [];
      did = did_nothing s;
      does = send_does (sending s c op slot bytes) Finished true true s c finished refl (refl, refl);
      tried = NoTry (ap (λ (o : Option Spot). aim_at s.seat.setup.layout o) (spot_at s.seat op slot Finished finished ∙ spot_finished s.seat.setup.layout (own_core s.seat) (core_of s.seat op.to) op.to (slot_spot s.seat slot))) refl;
      freed = refl;
      ends = λ done unsent aim n. absurd (cc (sym sent ∙ unsent));
      rests = λ spot e. refl;
      only = tt;
      same = (refl, refl, refl);
      means = (
        finished,
        sym (if_yes (is_sent op.stage) slot (if op.posted then record { to = Some op.to; seen = false } else slot) sent),
        sym (append-nil (record_in s).calls)
            ∙ ap (λ cs. (record_in s).calls ++ cs) (sym (if_yes (is_sent op.stage) [] (if op.posted then Post op.to op.head bytes ∷ [] else Send op.to op.head bytes ∷ []) sent)),
        λ plain open_before. absurd (cc (sym sent ∙ open_before)),
      );
      rest = record { flips = refl; hold = refl; heap = refl };
      drafts = no_stores s.seat.setup c [] refl;
      held = NoLoad refl;
      work = none_work 0 c.evictions c.evictions _ refl refl;
    }
