-- The turn of a send that looks whether the chunk was taken.
use Rattle.std.proofs.Common.{◌≡◌, ◌⊎◌, inl, inr, ℕ, ◌+◌, ◌-◌, ◌*◌, ◌<◌, Bool, true, false, List, Option, Some, None, option_map, unwrap_or, refl, sym, ◌∙◌, ap, subst, arith}
use Rattle.scc_base.specs.Places.{flag_word, line_of_word}
use Rattle.scc_base.specs.Layouts.{signal_at}
use Rattle.scc_base.specs.declared.signals.Signal.TheVariants.{Ready}
use Rattle.scc_base.specs.Setups.{IsSetup}
use Rattle.scc_base.specs.declared.events.Spot.{Spot}
use Rattle.scc_base.specs.declared.layouts.Layout.{Layout}
use Rattle.scc_base.specs.declared.layouts.Layout.TheVariants.{LineFlags, BitFlags}
use Rattle.scc_proto.specs.Messages.{Notes, noted_word, Progress}
use Rattle.scc_proto.specs.Stages.{Part, Raised, Answered, Stage, Sending, InFlight, Record}
use Rattle.scc_proto.specs.Moves.{look_ready, post_answered}
use Rattle.scc_proto.specs.Records.{chunk_of}
use Rattle.scc_proto.specs.Ports.{Seat, Sight, record_in}
use Rattle.scc_proto.proofs.PortLaws.{seat_kept}
use Rattle.scc_proto.proofs.Layouts.Roles.{if_yes, if_no}
use Rattle.put_get.specs.Accesses.{loads_of}
use Rattle.put_get.specs.Cores.{Private}
use Rattle.put_get.specs.Transfers.{load_count}
use Rattle.send_recv.specs.declared.stages.SendStage.{SendStage}
use Rattle.send_recv.specs.declared.stages.SendStage.TheVariants.{Look, Lower}
use Rattle.send_recv.specs.Bytes.{word_of_bytes}
use Rattle.send_recv.specs.Chunks.{chunk_count, chunk_start, lines_from}
use Rattle.send_recv.specs.Flags.{Looks}
use Rattle.send_recv.specs.Ops.{SendAt, SlotAt, is_sent}
use Rattle.send_recv.specs.Receiving.{progress_at}
use Rattle.send_recv.specs.Sending.{SlotStands, IsAtSendStage, IsSending, SendStands, SendMeans, lines_in_hand, of_chunk, send_spot, send_spot_by, slot_spot}
use Rattle.send_recv.specs.Ranks.{sending}
use Rattle.send_recv.specs.Steps.{moves_on, own_core, core_of, signal_flag, flag_spot, after_seen, moved_or_waits}
use Rattle.send_recv.specs.Tries.{aim_at}
use Rattle.send_recv.specs.Turns.{IsAtRest}
use Rattle.send_recv.proofs.Looks.LookLemmas.{looks_at}
use Rattle.send_recv.proofs.Receiving.LookTurn.{holds_kept, looked_post, looked_rest, looked_calls}
use Rattle.send_recv.proofs.Looks.TryLemmas.{look_tried, signal_aims, signal_low, look_held}
use Rattle.put_get.proofs.FillLemmas.{fills_out, fills_evictions}
use Rattle.send_recv.proofs.Lines.DraftNone.{look_drafts_none}
use Rattle.send_recv.proofs.Posts.SlotTurns.{moved_is, tried_by, never_done, look_only}
use Rattle.send_recv.proofs.Sending.SendFacts.{SendTurns, send_does, slot_kept, stands_at, at_stage, left_at, spot_at}
use Rattle.send_recv.proofs.Sending.SendWork.{look_work}
use Rattle.send_recv.proofs.Sending.SendWaits.{no_stores}

-- the part after the look
abbrev part_seen : Bool → Part → Part
part_seen true part = Answered
part_seen false part = part

look_part : (found : Bool) (q : ℕ → Bool) (to : ℕ) (message : Progress) (chunk : Notes) (part : Part) → q to ≡ found → (part ≡ Raised) ⊎ (part ≡ Answered)
    → look_ready q (Sending to part message chunk) ≡ Sending to (part_seen found part) message chunk
look_part true q to message chunk part set (inl raised) =
    ap (λ (x : Part). look_ready q (Sending to x message chunk)) raised ∙ if_yes (q to) (Sending to Answered message chunk) (Sending to Raised message chunk) set
look_part true q to message chunk part set (inr answered) = ap (λ (x : Part). look_ready q (Sending to x message chunk)) answered
look_part false q to message chunk part set (inl raised) =
    ap (λ (x : Part). look_ready q (Sending to x message chunk)) raised ∙ if_no (q to) (Sending to Answered message chunk) (Sending to Raised message chunk) set ∙ ap (λ (x : Part). Sending to x message chunk) (sym raised)
look_part false q to message chunk part set (inr answered) = ap (λ (x : Part). look_ready q (Sending to x message chunk)) answered ∙ ap (λ (x : Part). Sending to x message chunk) (sym answered)

spot_look : (layout : Layout) (own other to : ℕ) (slot : Option Spot) → send_spot_by layout own other to slot Look ≡ Some (flag_spot own (signal_at layout Ready to))
spot_look LineFlags own other to slot = refl
spot_look BitFlags own other to slot = refl

look_left : (rest p x : ℕ) → x ≡ rest + 1 + p → rest + 2 + p ≡ x + 1
look_left rest p x is = omega (arith, is)

-- what stands after the look
look_at : (found : Bool) (seat : Seat) (new : Record) (d : Private) (op : SendAt) (bytes : List ℕ) (part : Part) (chunk : Notes) → op.stage ≡ Look → op.posted ≡ false → new.post ≡ None → d.out ≡ None → (part ≡ Raised) ⊎ (part ≡ Answered)
    → new.stage ≡ Sending op.to (part_seen found part) (progress_at (chunk_of seat.setup) op.head op.chunk bytes) chunk
    → ((k : ℕ) → k < 4 * lines_in_hand (chunk_of seat.setup) op → noted_word chunk k ≡ Some (word_of_bytes bytes (chunk_start (chunk_of seat.setup) op.chunk + 8 * k)))
    → IsAtSendStage seat new d (after_seen found op) bytes (after_seen found op).stage
look_at true seat new d op bytes part chunk look plain post out or stage lines = (plain, post, out, record { chunk = chunk; stage_is = stage; lines = lines })
look_at false seat new d op bytes part chunk look plain post out or stage lines =
    subst (λ (st : SendStage). IsAtSendStage seat new d op bytes st) (sym look) (plain, post, out, part, or, record { chunk = chunk; stage_is = stage; lines = lines })

look_stands : (found : Bool) (seat : Seat) (rec new : Record) (c d : Private) (op : SendAt) (slot : SlotAt) (bytes : List ℕ) → IsSending seat rec c op slot bytes → new.held ≡ rec.held → SlotStands seat new slot
    → IsAtSendStage seat new d (after_seen found op) bytes (after_seen found op).stage → IsSending seat new d (after_seen found op) slot bytes
look_stands true seat rec new c d op slot bytes r hold slots at = stands_at seat rec new c d op slot slot bytes Lower r hold slots at
look_stands false seat rec new c d op slot bytes r hold slots at = record {
  peers = r.peers;
  head = r.head;
  post_head = r.post_head;
  long = r.long;
  hands = holds_kept seat.setup.layout rec new hold r.hands;
  slot_stands = slots;
  in_hand = r.in_hand;
  at = at;
}

look_means : (found : Bool) (s t : Sight) (c d : Private) (op : SendAt) (slot : SlotAt) (bytes : List ℕ) (spot : Spot) → op.stage ≡ Look → (record_in t).calls ≡ (record_in s).calls
    → (found ≡ false → IsAtRest (record_in s) (record_in t)) → SendMeans (sending s c op slot bytes) (sending t d (after_seen found op) slot bytes) (moved_or_waits found spot)
look_means true s t c d op slot bytes spot look calls rest =
    let size = chunk_of s.seat.setup in
    let layout = s.seat.setup.layout in (
      left_at layout size op slot Look look
          ∙ look_left (lines_from size op.head.len op.chunk - lines_in_hand size op) (of_chunk layout op.posted * (chunk_count size op.head.len - op.chunk - 1)) _ refl,
      calls,
      ap is_sent look,
      refl,
      inr refl,
    )
look_means false s t c d op slot bytes spot look calls rest = (refl, refl, rest refl)

same_op : (found : Bool) (op : SendAt) → ((after_seen found op).to ≡ op.to) × ((after_seen found op).head ≡ op.head) × ((after_seen found op).posted ≡ op.posted)
same_op true op = (refl, refl, refl)
same_op false op = (refl, refl, refl)

pub look_turn : (found : Bool) (s t : Sight) (c d : Private) (op : SendAt) (slot : SlotAt) (bytes : List ℕ) → IsSetup s.seat.setup → SendStands s c op slot bytes → op.stage ≡ Look
    → Looks s c (own_core s.seat) (signal_flag s.seat Ready op.to) found t d
    → SendTurns s c op slot bytes t d (after_seen found op) slot (moved_or_waits found (flag_spot (own_core s.seat) (signal_flag s.seat Ready op.to)))
look_turn found s t c d op slot bytes valid r look looks =
    let size = chunk_of s.seat.setup in
    let layout = s.seat.setup.layout in
    let own = own_core s.seat in
    let flag = signal_flag s.seat Ready op.to in
    let at = at_stage s.seat (record_in s) c op slot bytes Look r look in
    let up = at.5 in
    let l = looks_at Ready s t c d op.to found valid r.peers r.hands looks in
    let message = progress_at size op.head op.chunk bytes in
    let stage : (record_in t).stage ≡ Sending op.to (part_seen found at.3) message up.chunk = ap (λ (x : Record). x.stage) l.looked.is
    ∙ ap (λ (st : Stage). look_ready (l.looked.seen Ready) st) up.stage_is ∙ look_part found (l.looked.seen Ready) op.to message up.chunk at.3 l.tells at.4 in
    let same : (record_in t).post ≡ (record_in s).post = ap (λ (x : Record). x.post) l.looked.is ∙ ap (λ (o : Option InFlight). option_map (post_answered (l.looked.seen Ready)) o) at.1 ∙ sym at.1 in
    let rest = looked_rest size (record_in s) (record_in t) l.looked in
    let calls = looked_calls size (record_in s) (record_in t) l.looked in
    let post = looked_post size (record_in s) (record_in t) l.looked in
    let spot : send_spot s.seat op slot ≡ Some (flag_spot own flag) = spot_at s.seat op slot Look look ∙ spot_look layout own (core_of s.seat op.to) op.to (slot_spot s.seat slot) in
    record {
      stands = subst (λ (x : Seat). IsSending x (record_in t) d (after_seen found op) slot bytes) (sym (seat_kept s _ t looks.looks.did))
          (look_stands found s.seat (record_in s) (record_in t) c d op slot bytes r rest.hold (slot_kept s.seat (record_in s) (record_in t) slot same r.slot_stands)
          (look_at found s.seat (record_in t) d op bytes at.3 up.chunk look at.0 (same ∙ at.1) (fills_out looks.looks.fills ∙ at.2) at.4 stage up.lines));
      turned = record {
        events = loads_of (line_of_word (flag_word own flag)) looks.words;
        did = looks.looks.did;
        does = send_does (sending s c op slot bytes) Look (moves_on (moved_or_waits found (flag_spot own flag))) found t d look (moved_is found (flag_spot own flag)) looks;
        tried = tried_by found (flag_spot own flag) (aim_at layout (send_spot s.seat op slot)) _
            (look_tried layout own flag looks.words found (send_spot s.seat op slot) (signal_low layout Ready op.to) looks.is spot (signal_aims layout Ready own op.to));
        freed = refl;
        ends = λ e. never_done found (flag_spot own flag) e;
        rests = λ spot e. refl;
        only = look_only found layout (flag_word own flag) (unwrap_or flag.bit 0) looks.words;
        same = same_op found op;
        means = look_means found s t c d op slot bytes (flag_spot own flag) look calls
            (λ missed. record { stage = stage ∙ ap (λ b. Sending op.to (part_seen b at.3) message up.chunk) missed ∙ sym up.stage_is; post = post; rest = rest; calls = calls });
        rest = rest;
        drafts = no_stores s.seat.setup c (loads_of (line_of_word (flag_word own flag)) looks.words) (look_drafts_none s.seat.setup (line_of_word (flag_word own flag)) looks.words);
        held = look_held c d _ looks.words looks.looks.fills;
        work = look_work (load_count (loads_of (line_of_word (flag_word own flag)) looks.words)) c.evictions d.evictions (send_spot s.seat op slot) (flag_spot own flag) spot refl (fills_evictions looks.looks.fills);
      };
    }
