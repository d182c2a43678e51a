-- The turns of a slot: it looks whether its message was taken, or lowers the flag that said so.
use Rattle.std.proofs.Common.{◌≡◌, inl, inr, ℕ, Bool, true, false, ◌==◌, ◌&&◌, if◌then◌else◌, List, [], Option, Some, None, IfSome, option_map, unwrap_or, refl, sym, ◌∙◌, ap, subst, arith}
use Rattle.scc_base.specs.Calls.{DataCall}
use Rattle.scc_base.specs.Places.{WordAt, flag_word, line_of_word}
use Rattle.scc_base.specs.Layouts.{signal_at}
use Rattle.scc_base.specs.declared.signals.Signal.TheVariants.{Ready}
use Rattle.scc_base.specs.Setups.{IsSetup}
use Rattle.scc_base.specs.declared.events.Event.{Event}
use Rattle.scc_base.specs.declared.events.Spot.{Spot}
use Rattle.scc_base.specs.declared.events.Spot.TheVariants.{Flag, Register}
use Rattle.scc_base.specs.declared.events.Turn.{Turn}
use Rattle.scc_base.specs.declared.events.Turn.TheVariants.{Moved, Waiting, Done}
use Rattle.scc_base.specs.declared.layouts.Layout.{Layout}
use Rattle.scc_base.specs.declared.layouts.Layout.TheVariants.{LineFlags, BitFlags}
use Rattle.scc_proto.specs.Stages.{Stage, Idle, Drafting, Sending, Between, Taking, Barrier, InFlight, Record}
use Rattle.scc_proto.specs.Moves.{LowerSignal, look_ready, lower_ready, calls_sent, post_answered}
use Rattle.scc_proto.specs.Permission.{may_go_on, is_answered_by}
use Rattle.scc_proto.specs.Singles.{is_free}
use Rattle.scc_proto.specs.Soundness.{is_answered}
use Rattle.scc_proto.specs.Words.{are_peers}
use Rattle.scc_proto.specs.Records.{chunk_of}
use Rattle.scc_proto.specs.Ports.{Seat, Sight, record_in}
use Rattle.scc_proto.proofs.Tests.{eqb_same, peers_swap}
use Rattle.scc_proto.proofs.PortLaws.{did_nothing, seat_kept}
use Rattle.scc_proto.proofs.Layouts.Roles.{if_yes}
use Rattle.put_get.specs.Accesses.{loads_of}
use Rattle.put_get.specs.Cores.{Private}
use Rattle.put_get.specs.Transfers.{load_count}
use Rattle.send_recv.specs.Flags.{Looks, Changes, MayChange}
use Rattle.send_recv.specs.Ops.{SlotAt, slot_left, slot_left_by}
use Rattle.send_recv.specs.Sending.{SlotStands, SlotTurned, SlotMeans, SlotDoes, SlotDoesBy, slot_spot, slot_spot_by, was_answered}
use Rattle.send_recv.specs.Steps.{moves_on, own_core, signal_flag, flag_spot, slot_seen, slot_lowered, moved_or_waits}
use Rattle.sync_flags.specs.Tries.{Aim, Tried, NoTry}
use Rattle.sync_flags.specs.Turns.{waits_at}
use Rattle.send_recv.specs.Tries.{aim_at}
use Rattle.send_recv.specs.Turns.{HoldsNone, OnlyTries, NoLoad}
use Rattle.send_recv.specs.Ranks.{SlotHolder, holding_slot}
use Rattle.send_recv.proofs.Posts.SlotApart.{is_apart, apart_in}
use Rattle.send_recv.proofs.Lines.DraftNone.{signal_is_flag, look_drafts_none, change_drafts_none}
use Rattle.send_recv.proofs.Looks.FlagMoves.{MovesFlag, may_change, flag_moved, signal_lowers, ready_turns}
use Rattle.send_recv.proofs.Looks.LookLemmas.{looks_at}
use Rattle.send_recv.proofs.Receiving.LookTurn.{looked_post, looked_rest, looked_calls}
use Rattle.send_recv.proofs.Receiving.HeadTurn.{post_kept, post_itself}
use Rattle.send_recv.proofs.Looks.TryLemmas.{look_tried, signal_aims, signal_low, look_held}
use Rattle.put_get.proofs.FillLemmas.{fills_out, fills_evictions}
use Rattle.send_recv.proofs.Looks.ChangeFacts.{change_facts}
use Rattle.send_recv.proofs.Receiving.FlagTurns.{went_on}
use Rattle.send_recv.proofs.Sending.SendWork.{none_work, look_work, change_work}
use Rattle.send_recv.proofs.Receiving.RecvTurns.{missed_by, waits_tried}

-- a turn of a slot, and where it stands afterwards
pub record SlotTurns (s : Sight) (c : Private) (slot : SlotAt) (t : Sight) (d : Private) (now : SlotAt) (answer : Turn) : Type 0 where
  pub stands : SlotStands t.seat (record_in t) now
  pub turned : SlotTurned (holding_slot s c slot) (holding_slot t d now) answer

-- ---- the message on its way

way_by : (post : Option InFlight) (to : ℕ) → option_map (λ (p : InFlight). p.to) post ≡ Some to → (p : InFlight) × (post ≡ Some p) × (p.to ≡ to)
way_by None to e = absurd (cc)
way_by (Some p) to e = (p, refl, cc (e))

-- what a full slot has of the record
pub record IsFull (rec : Record) (slot : SlotAt) (to : ℕ) : Type 0 where
  pub post : InFlight
  pub is : rec.post ≡ Some post
  pub to_is : post.to ≡ to
  pub free : is_free rec.stage ≡ true

pub is_full : (s : Sight) (slot : SlotAt) (to : ℕ) → SlotStands s.seat (record_in s) slot → slot.to ≡ Some to → IsFull (record_in s) slot to
is_full s slot to h full =
    let w = way_by (record_in s).post to (sym h.to ∙ full) in
    record { post = w.0; is = w.1; to_is = w.2; free = ap (λ (o : Option InFlight). is_apart o (record_in s).stage) (sym w.1) ∙ apart_in s }

looked_free : (q : ℕ → Bool) (stage : Stage) → is_free stage ≡ true → look_ready q stage ≡ stage
looked_free q Idle free = refl
looked_free q (Drafting header chunk) free = absurd (cc)
looked_free q (Sending to part message chunk) free = absurd (cc)
looked_free q (Between from message) free = refl
looked_free q (Taking from message chunk) free = refl
looked_free q (Barrier comm seen released) free = refl

lowered_free : (size : ℕ) (stage : Stage) → is_free stage ≡ true → lower_ready size stage ≡ stage
lowered_free size Idle free = refl
lowered_free size (Drafting header chunk) free = refl
lowered_free size (Sending to part message chunk) free = absurd (cc)
lowered_free size (Between from message) free = refl
lowered_free size (Taking from message chunk) free = refl
lowered_free size (Barrier comm seen released) free = refl

calls_free : (size : ℕ) (stage : Stage) (calls : List DataCall) → is_free stage ≡ true → calls_sent size stage calls ≡ calls
calls_free size Idle calls free = refl
calls_free size (Drafting header chunk) calls free = refl
calls_free size (Sending to part message chunk) calls free = absurd (cc)
calls_free size (Between from message) calls free = refl
calls_free size (Taking from message chunk) calls free = refl
calls_free size (Barrier comm seen released) calls free = refl

goes_on_free : (by : ℕ) (stage : Stage) (post : Option InFlight) → is_free stage ≡ true → is_answered_by by post ≡ true → (may_go_on by stage post ≡ true) × (is_answered by stage post ≡ true)
goes_on_free by Idle post free answered = (answered, answered)
goes_on_free by (Drafting header chunk) post free answered = absurd (cc)
goes_on_free by (Sending to part message chunk) post free answered = absurd (cc)
goes_on_free by (Between from message) post free answered = (answered, answered)
goes_on_free by (Taking from message chunk) post free answered = (answered, answered)
goes_on_free by (Barrier comm seen released) post free answered = (answered, answered)

same_to : (q : ℕ → Bool) (post : Option InFlight) → option_map (λ (p : InFlight). p.to) (option_map (post_answered q) post) ≡ option_map (λ (p : InFlight). p.to) post
same_to q None = refl
same_to q (Some p) = refl

-- what a turn did, where the slot is known, and whether it was done
slot_does : (old : SlotHolder) (to : Option ℕ) (seen done known : Bool) (t : Sight) (d : Private) → old.slot.to ≡ to → old.slot.seen ≡ seen → done ≡ known → SlotDoesBy old.sight old.core to seen known t d → SlotDoes old done t d
slot_does old to seen done known t d at is same does =
    subst (λ b. SlotDoes old b t d) (sym same) (subst (λ (o : Option ℕ). SlotDoesBy old.sight old.core o old.slot.seen known t d) (sym at) (subst (λ b. SlotDoesBy old.sight old.core to b known t d) (sym is) does))

-- a look moves exactly where it found the flag set
pub moved_is : (found : Bool) (spot : Spot) → moves_on (moved_or_waits found spot) ≡ found
moved_is true spot = refl
moved_is false spot = refl

-- a turn that waits does not go on
pub waiting_stops : (r : Turn) (spot : Spot) → waits_at r ≡ Some spot → moves_on r ≡ false
waiting_stops Moved spot e = absurd (cc)
waiting_stops (Waiting at) spot e = refl
waiting_stops Done spot e = absurd (cc)

-- ---- no message on its way

spot_none : (layout : Layout) (own : ℕ) (seen : Bool) → slot_spot_by layout own None seen ≡ None
spot_none LineFlags own true = refl
spot_none LineFlags own false = refl
spot_none BitFlags own true = refl
spot_none BitFlags own false = refl

-- the turn of an empty slot makes no event
pub nothing_turn : (s : Sight) (c : Private) (slot : SlotAt) → slot.to ≡ None → c.out ≡ None → SlotTurned (holding_slot s c slot) (holding_slot s c slot) Done
nothing_turn s c slot none empty =
    let layout = s.seat.setup.layout in
    record {
      events = [];
      did = did_nothing s;
      does = slot_does (holding_slot s c slot) None slot.seen true true s c none refl refl (refl, refl);
      tried = NoTry (ap (λ (o : Option ℕ). aim_at layout (slot_spot_by layout (own_core s.seat) o slot.seen)) none ∙ ap (λ (o : Option Spot). aim_at layout o) (spot_none layout (own_core s.seat) slot.seen)) refl;
      freed = refl;
      rests = λ spot e. refl;
      only = tt;
      means = (none, refl);
      nothing = λ e. (refl, refl);
      stage = refl;
      calls = refl;
      post = λ same. post_itself (record_in s).post;
      rest = record { flips = refl; hold = refl; heap = refl };
      no_drafts = refl;
      held = NoLoad refl;
      work = none_work 0 c.evictions c.evictions _ refl refl;
      buffer = empty;
    }

-- ---- the look

spot_unseen : (layout : Layout) (own to : ℕ) → slot_spot_by layout own (Some to) false ≡ Some (flag_spot own (signal_at layout Ready to))
spot_unseen LineFlags own to = refl
spot_unseen BitFlags own to = refl

pub tried_by : (found : Bool) (spot : Spot) (aim : Option Aim) (es : List Event) → Tried aim es (if found then None else Some spot) → Tried aim es (waits_at (moved_or_waits found spot))
tried_by true spot aim es tried = tried
tried_by false spot aim es tried = tried

seen_answered : (q : ℕ → Bool) (post : Option InFlight) (p : InFlight) (to : ℕ) → post ≡ Some p → p.to ≡ to → q to ≡ true → was_answered (option_map (post_answered q) post) ≡ true
seen_answered q post p to is to_is set =
    ap (λ (o : Option InFlight). was_answered (option_map (post_answered q) o)) is ∙ if_yes (q p.to) true p.is_answered (ap q to_is ∙ set)

-- the slot after a look
looked_seen : (found : Bool) (slot : SlotAt) (q : ℕ → Bool) (post new : Option InFlight) (p : InFlight) (to : ℕ) → slot.seen ≡ false → new ≡ option_map (post_answered q) post → post ≡ Some p → p.to ≡ to → q to ≡ found
    → (slot_seen found slot).seen ≡ true → was_answered new ≡ true
looked_seen true slot q post new p to unseen now is to_is tells seen = ap was_answered now ∙ seen_answered q post p to is to_is tells
looked_seen false slot q post new p to unseen now is to_is tells seen = absurd (cc (sym unseen ∙ seen))

looked_to : (found : Bool) (slot : SlotAt) → (slot_seen found slot).to ≡ slot.to
looked_to true slot = refl
looked_to false slot = refl

look_means : (found : Bool) (slot : SlotAt) (spot : Spot) (to : ℕ) → slot.to ≡ Some to → slot.seen ≡ false → SlotMeans slot (slot_seen found slot) (moved_or_waits found spot)
look_means true slot spot to full unseen =
    let before : slot_left slot ≡ 2 = ap (λ (o : Option ℕ). slot_left_by o slot.seen) full ∙ ap (λ b. if b then 1 else 2) unseen in
    let afterwards : slot_left_by slot.to true ≡ 1 = ap (λ (o : Option ℕ). slot_left_by o true) full in
    (omega (arith, before, afterwards), inr refl)
look_means false slot spot to full unseen = refl

pub never_done : {P : Type 0} (found : Bool) (spot : Spot) → moved_or_waits found spot ≡ Done → P
never_done true spot e = absurd (cc)
never_done false spot e = absurd (cc)

-- a look that found nothing made the loads of its line alone
pub look_only : (found : Bool) (layout : Layout) (place : WordAt) (bit : ℕ) (words : List ℕ) → OnlyTries (aim_at layout (waits_at (moved_or_waits found (Flag place bit)))) (loads_of (line_of_word place) words)
look_only true layout place bit words = tt
look_only false layout place bit words = (words, refl)

pub slot_look_turn : (found : Bool) (s t : Sight) (c d : Private) (slot : SlotAt) (to : ℕ) → IsSetup s.seat.setup → SlotStands s.seat (record_in s) slot → c.out ≡ None → HoldsNone s.seat.setup.layout (record_in s)
    → slot.to ≡ Some to → slot.seen ≡ false → Looks s c (own_core s.seat) (signal_flag s.seat Ready to) found t d
    → SlotTurns s c slot t d (slot_seen found slot) (moved_or_waits found (flag_spot (own_core s.seat) (signal_flag s.seat Ready to)))
slot_look_turn found s t c d slot to valid h empty hands full unseen looks =
    let layout = s.seat.setup.layout in
    let own = own_core s.seat in
    let flag = signal_flag s.seat Ready to in
    let f = is_full s slot to h full in
    let peers : are_peers s.seat.setup s.seat.rank to ≡ true = subst (λ (o : Option ℕ). IfSome o (λ j. are_peers s.seat.setup s.seat.rank j ≡ true)) full h.peers in
    let l = looks_at Ready s t c d to found valid peers hands looks in
    let post : (record_in t).post ≡ option_map (post_answered (l.looked.seen Ready)) (record_in s).post = ap (λ (r : Record). r.post) l.looked.is in
    let now = slot_seen found slot in
    let spot : slot_spot s.seat slot ≡ Some (flag_spot own flag) = ap (λ (o : Option ℕ). slot_spot_by layout own o slot.seen) full ∙ ap (λ b. slot_spot_by layout own (Some to) b) unseen ∙ spot_unseen layout own to in
    record {
      stands = subst (λ (x : Seat). SlotStands x (record_in t) now) (sym (seat_kept s _ t looks.looks.did)) (record {
        to = looked_to found slot ∙ h.to ∙ sym (same_to (l.looked.seen Ready) (record_in s).post) ∙ ap (λ (o : Option InFlight). option_map (λ (p : InFlight). p.to) o) (sym post);
        seen = looked_seen found slot (l.looked.seen Ready) (record_in s).post (record_in t).post f.post to unseen post f.is f.to_is l.tells;
        peers = subst (λ (o : Option ℕ). IfSome o (λ j. are_peers s.seat.setup s.seat.rank j ≡ true)) (sym (looked_to found slot)) h.peers;
      });
      turned = record {
        events = loads_of (line_of_word (flag_word own flag)) looks.words;
        did = looks.looks.did;
        does = slot_does (holding_slot s c slot) (Some to) false (moves_on (moved_or_waits found (flag_spot own flag))) found t d full unseen (moved_is found (flag_spot own flag)) looks;
        tried = tried_by found (flag_spot own flag) (aim_at layout (slot_spot s.seat slot)) _
            (look_tried layout own flag looks.words found (slot_spot s.seat slot) (signal_low layout Ready to) looks.is spot (signal_aims layout Ready own to));
        freed = refl;
        rests = λ spot e. refl;
        only = look_only found layout (flag_word own flag) (unwrap_or flag.bit 0) looks.words;
        nothing = λ e. never_done found (flag_spot own flag) e;
        means = look_means found slot (flag_spot own flag) to full unseen;
        stage = ap (λ (r : Record). r.stage) l.looked.is ∙ looked_free (l.looked.seen Ready) (record_in s).stage f.free;
        calls = looked_calls (chunk_of s.seat.setup) (record_in s) (record_in t) l.looked;
        post = λ same. looked_post (chunk_of s.seat.setup) (record_in s) (record_in t) l.looked;
        rest = looked_rest (chunk_of s.seat.setup) (record_in s) (record_in t) l.looked;
        no_drafts = look_drafts_none s.seat.setup (line_of_word (flag_word own flag)) looks.words;
        held = look_held c d _ looks.words looks.looks.fills;
        work = look_work (load_count (loads_of (line_of_word (flag_word own flag)) looks.words)) c.evictions d.evictions (slot_spot s.seat slot) (flag_spot own flag) spot refl (fills_evictions looks.looks.fills);
        buffer = fills_out looks.looks.fills ∙ empty;
      };
    }

-- ---- the lowering

-- the message was answered
answered_is : (s : Sight) (slot : SlotAt) (to : ℕ) → SlotStands s.seat (record_in s) slot → slot.to ≡ Some to → slot.seen ≡ true → is_answered_by to (record_in s).post ≡ true
answered_is s slot to h full seen =
    let f = is_full s slot to h full in
    let answered : f.post.is_answered ≡ true = ap was_answered (sym f.is) ∙ h.seen seen in
    ap (λ (o : Option InFlight). is_answered_by to o) f.is ∙ (λ i. (f.to_is i == to) && answered i) ∙ ap (λ b. b && true) (eqb_same to)

-- lowering the flag is this move
lowers_ready : (s : Sight) (slot : SlotAt) (to : ℕ) → IsSetup s.seat.setup → SlotStands s.seat (record_in s) slot → slot.to ≡ Some to → slot.seen ≡ true
    → MovesFlag s.seat.setup.layout s.seat (record_in s) s.seat.rank Ready to false (LowerSignal Ready to)
lowers_ready s slot to valid h full seen =
    let f = is_full s slot to h full in
    let peers : are_peers s.seat.setup s.seat.rank to ≡ true = subst (λ (o : Option ℕ). IfSome o (λ j. are_peers s.seat.setup s.seat.rank j ≡ true)) full h.peers in
    let may = goes_on_free to (record_in s).stage (record_in s).post f.free (answered_is s slot to h full seen) in
    signal_lowers s.seat.setup.layout s Ready to refl valid peers (ready_turns s to may.1) may.0

pub may_lower_slot : (s : Sight) (c : Private) (slot : SlotAt) (to : ℕ) → IsSetup s.seat.setup → SlotStands s.seat (record_in s) slot → c.out ≡ None → HoldsNone s.seat.setup.layout (record_in s)
    → slot.to ≡ Some to → slot.seen ≡ true → MayChange s c (own_core s.seat) (signal_flag s.seat Ready to) false
may_lower_slot s c slot to valid h empty hands full seen = may_change s c s.seat.rank Ready to false (LowerSignal Ready to) valid hands empty (lowers_ready s slot to valid h full seen)

spot_lines : (layout : Layout) (own to : ℕ) → layout ≡ LineFlags → slot_spot_by layout own (Some to) true ≡ None
spot_lines LineFlags own to e = refl
spot_lines BitFlags own to e = absurd (cc)

spot_bits : (layout : Layout) (own to : ℕ) → layout ≡ BitFlags → slot_spot_by layout own (Some to) true ≡ Some (Register own)
spot_bits LineFlags own to e = absurd (cc)
spot_bits BitFlags own to e = refl

spot_seen : (seat : Seat) (slot : SlotAt) (to : ℕ) → slot.to ≡ Some to → slot.seen ≡ true → slot_spot seat slot ≡ slot_spot_by seat.setup.layout (own_core seat) (Some to) true
spot_seen seat slot to full seen = ap (λ (o : Option ℕ). slot_spot_by seat.setup.layout (own_core seat) o slot.seen) full ∙ ap (λ b. slot_spot_by seat.setup.layout (own_core seat) (Some to) b) seen

lower_goes : (s t : Sight) (c d : Private) (slot : SlotAt) (to : ℕ) → IsSetup s.seat.setup → SlotStands s.seat (record_in s) slot → c.out ≡ None → HoldsNone s.seat.setup.layout (record_in s)
    → slot.to ≡ Some to → slot.seen ≡ true → Changes s c (own_core s.seat) (signal_flag s.seat Ready to) false true t d
    → SlotTurns s c slot t d (record { to = None; seen = false }) Moved
lower_goes s t c d slot to valid h empty hands full seen changes =
    let layout = s.seat.setup.layout in
    let size = chunk_of s.seat.setup in
    let own = own_core s.seat in
    let f = is_full s slot to h full in
    let peers : are_peers s.seat.setup s.seat.rank to ≡ true = subst (λ (o : Option ℕ). IfSome o (λ j. are_peers s.seat.setup s.seat.rank j ≡ true)) full h.peers in
    let is = flag_moved s t c d s.seat.rank Ready to false (LowerSignal Ready to) valid hands empty (lowers_ready s slot to valid h full seen) changes in
    let facts = change_facts layout s t c d own Ready to false true empty changes in
    let before : slot_left slot ≡ 1 = ap (λ (o : Option ℕ). slot_left_by o slot.seen) full ∙ ap (λ b. if b then 1 else 2) seen in
    record {
      stands = record { to = sym (ap (λ (r : Record). option_map (λ (p : InFlight). p.to) r.post) is); seen = λ e. absurd (cc); peers = tt };
      turned = record {
        events = facts.events;
        did = facts.did;
        does = slot_does (holding_slot s c slot) (Some to) true true true t d full seen refl changes;
        tried = went_on layout (slot_spot s.seat slot) own facts.events (λ e. spot_seen s.seat slot to full seen ∙ spot_lines layout own to e) (λ e. spot_seen s.seat slot to full seen ∙ spot_bits layout own to e) facts.tries facts.failed;
        freed = facts.freed;
        rests = λ spot e. absurd (cc);
        only = tt;
        nothing = λ e. absurd (cc);
        means = (before, inl refl);
        stage = ap (λ (r : Record). r.stage) is ∙ lowered_free size (record_in s).stage f.free;
        calls = ap (λ (r : Record). r.calls) is ∙ calls_free size (record_in s).stage (record_in s).calls f.free;
        post = λ same. absurd (cc (same ∙ full));
        rest = record { flips = ap (λ (x : Record). x.flips) is; hold = ap (λ (x : Record). x.held) is; heap = ap (λ (x : Record). x.heap) is };
        no_drafts = change_drafts_none s t c d own (signal_flag s.seat Ready to) false true empty (signal_is_flag s.seat valid Ready to s.seat.rank (peers_swap s.seat.setup s.seat.rank to peers)) changes facts.events facts.did;
        held = facts.held;
        work = change_work layout true (load_count facts.events) c.evictions d.evictions (slot_spot s.seat slot) (Register own) (λ e. spot_seen s.seat slot to full seen ∙ spot_bits layout own to e) facts.work;
        buffer = facts.out;
      };
    }

lower_waits : (s t : Sight) (c d : Private) (slot : SlotAt) (to : ℕ) → IsSetup s.seat.setup → SlotStands s.seat (record_in s) slot → c.out ≡ None → HoldsNone s.seat.setup.layout (record_in s)
    → slot.to ≡ Some to → slot.seen ≡ true → Changes s c (own_core s.seat) (signal_flag s.seat Ready to) false false t d
    → SlotTurns s c slot t d slot (Waiting (Register (own_core s.seat)))
lower_waits s t c d slot to valid h empty hands full seen changes =
    let layout = s.seat.setup.layout in
    let own = own_core s.seat in
    let peers : are_peers s.seat.setup s.seat.rank to ≡ true = subst (λ (o : Option ℕ). IfSome o (λ j. are_peers s.seat.setup s.seat.rank j ≡ true)) full h.peers in
    let m = missed_by layout s t c d own Ready to false valid hands changes in
    let facts = change_facts layout s t c d own Ready to false false empty changes in
    record {
      stands = subst (λ (x : Seat). SlotStands x (record_in t) slot) (sym (seat_kept s facts.events t facts.did)) (subst (λ (x : Record). SlotStands s.seat x slot) (sym m.same) h);
      turned = record {
        events = facts.events;
        did = facts.did;
        does = slot_does (holding_slot s c slot) (Some to) true false false t d full seen refl changes;
        tried = waits_tried layout (slot_spot s.seat slot) own facts.events (λ e. spot_seen s.seat slot to full seen ∙ spot_bits layout own to e) facts.tries facts.failed facts.lines;
        freed = facts.freed;
        rests = λ spot e. facts.rests refl;
        only = facts.only refl;
        nothing = λ e. absurd (cc);
        means = refl;
        stage = ap (λ (r : Record). r.stage) m.same;
        calls = ap (λ (r : Record). r.calls) m.same;
        post = λ same. post_kept (record_in s).post (record_in t).post (ap (λ (x : Record). x.post) m.same);
        rest = record { flips = ap (λ (x : Record). x.flips) m.same; hold = ap (λ (x : Record). x.held) m.same; heap = ap (λ (x : Record). x.heap) m.same };
        no_drafts = change_drafts_none s t c d own (signal_flag s.seat Ready to) false false empty (signal_is_flag s.seat valid Ready to s.seat.rank (peers_swap s.seat.setup s.seat.rank to peers)) changes facts.events facts.did;
        held = facts.held;
        work = change_work layout false (load_count facts.events) c.evictions d.evictions (slot_spot s.seat slot) (Register own) (λ e. spot_seen s.seat slot to full seen ∙ spot_bits layout own to e) facts.work;
        buffer = facts.out;
      };
    }

pub slot_lower_turn : (gone : Bool) (s t : Sight) (c d : Private) (slot : SlotAt) (to : ℕ) → IsSetup s.seat.setup → SlotStands s.seat (record_in s) slot → c.out ≡ None → HoldsNone s.seat.setup.layout (record_in s)
    → slot.to ≡ Some to → slot.seen ≡ true → Changes s c (own_core s.seat) (signal_flag s.seat Ready to) false gone t d
    → SlotTurns s c slot t d (slot_lowered gone slot) (moved_or_waits gone (Register (own_core s.seat)))
slot_lower_turn true s t c d slot to valid h empty hands full seen changes = lower_goes s t c d slot to valid h empty hands full seen changes
slot_lower_turn false s t c d slot to valid h empty hands full seen changes = lower_waits s t c d slot to valid h empty hands full seen changes
