-- A turn of a UE that stands at a send or a post.
use Rattle.std.proofs.Common.{◌≡◌, ℕ, ◌+◌, ◌-◌, ◌<◌, true, false, cond, List, [], ◌∷◌, ◌++◌, length, Some, None, refl, sym, ap, ◌∙◌, subst, arith, inl, inr}
use Rattle.scc_base.specs.Calls.{DataCall}
use Rattle.scc_base.specs.Calls.DataCall.{Send, Post}
use Rattle.scc_base.specs.Heads.{MessageHead}
use Rattle.scc_base.specs.Setups.{SetupView}
use Rattle.scc_base.specs.declared.events.Spot.{Spot}
use Rattle.scc_base.specs.declared.events.Turn.{Turn}
use Rattle.scc_base.specs.declared.events.Turn.TheVariants as turn
use Rattle.scc_proto.specs.Ports.{Seat, Sight, record_in}
use Rattle.scc_proto.specs.Records.{chunk_of}
use Rattle.scc_proto.proofs.PortLaws.{seat_kept}
use Rattle.put_get.specs.Cores.{Private}
use Rattle.send_recv.specs.Chunks.{message_bound}
use Rattle.send_recv.specs.Ops.{SendAt, SlotAt, is_sent, slot_left}
use Rattle.send_recv.specs.Sending.{IsAtSendStage, IsSameOrEmpty, SendStands, SendTurned, send_call, send_left, slot_after_send}
use Rattle.send_recv.specs.declared.stages.SendStage.{SendStage}
use Rattle.send_recv.specs.Ranks.{sending}
use Rattle.send_recv.proofs.Starts.{slot_left_most}
use Rattle.plain_meaning.specs.Collectives.{start_of_rank}
use Rattle.script_machine.specs.Local.{Local, local_next}
use Rattle.script_machine.specs.Machine.{in_flight}
use Rattle.script_machine.specs.Moves.{bytes_out, is_stopped, after_pass}
use Rattle.script_machine.specs.Next.{Next}
use Rattle.script_machine.specs.Next.Next.{Posts, Sends}
use Rattle.rcce_ue.specs.Left.{turns_at_end, ue_left, next_bound, rest_of}
use Rattle.rcce_ue.specs.Standing.{IsFree, IsSendOf, Tied, keeping}
use Rattle.rcce_ue.specs.Turns.{After, IsUeStill, Turns}
use Rattle.rcce_ue.specs.Ues.{UeView, capped_count, at_next_call, posted_by}
use Rattle.rcce_ue.specs.declared.calls.Open.TheVariants.{Sending}
use Rattle.rcce_ue.proofs.CountLemmas.{bytes_more, sends_more}
use Rattle.rcce_ue.proofs.EnterLemmas.{entered_left, entered_tied}
use Rattle.rcce_ue.proofs.KeepLemmas.{begun_at, after_by, empty_left, hands_kept, is_calling, kept_tied, moved_within, not_at_end, not_ended, not_going, not_over, parity_kept, turned_by, unless_below, unless_one}
use Rattle.rcce_ue.proofs.MeasureLemmas.{falls}
use Rattle.rcce_ue.proofs.PathLemmas.{goes_on, stood_left, stood_sent}

-- a call stands next
pub calls_next : (op : SendAt) (n : Next Local) → IsSendOf op n → is_calling n ≡ true
calls_next op (Posts message after) of = refl
calls_next op (Sends to head bytes after) of = refl
calls_next op _ of = absurd of

unsent : (op : SendAt) (n : Next Local) → IsSendOf op n → is_sent op.stage ≡ false
unsent op (Posts message after) of = of.3
unsent op (Sends to head bytes after) of = of.3
unsent op _ of = absurd of

abbrev IsSameCall : SendAt → SendAt → Type 0
IsSameCall op now = (now.to ≡ op.to) × (now.head ≡ op.head) × (now.posted ≡ op.posted)

still_of : (op now : SendAt) (n : Next Local) → IsSameCall op now → is_sent now.stage ≡ false → IsSendOf op n → IsSendOf now n
still_of op now (Posts message after) same on of = (same.0 ∙ of.0, same.1 ∙ of.1, same.2 ∙ of.2, on)
still_of op now (Sends to head bytes after) same on of = (same.0 ∙ of.0, same.1 ∙ of.1, same.2 ∙ of.2, on)
still_of op now _ same on of = absurd of

-- the call that is finished
post_call : (op : SendAt) (to : ℕ) (head : MessageHead) (bytes : List ℕ) → op.to ≡ to → op.head ≡ head → op.posted ≡ true → is_sent op.stage ≡ false → send_call op bytes ≡ Post to head bytes ∷ []
post_call op to head bytes at is posted on = λ i. cond (on i) [] (cond (posted i) (Post (at i) (is i) bytes ∷ []) (Send (at i) (is i) bytes ∷ []))

plain_call : (op : SendAt) (to : ℕ) (head : MessageHead) (bytes : List ℕ) → op.to ≡ to → op.head ≡ head → op.posted ≡ false → is_sent op.stage ≡ false → send_call op bytes ≡ Send to head bytes ∷ []
plain_call op to head bytes at is posted on = λ i. cond (on i) [] (cond (posted i) (Post (at i) (is i) bytes ∷ []) (Send (at i) (is i) bytes ∷ []))

-- the slot of a post
filled : (op : SendAt) (slot after : SlotAt) (to : ℕ) → after ≡ slot_after_send op slot → op.to ≡ to → op.posted ≡ true → is_sent op.stage ≡ false → after.to ≡ Some to
filled op slot after to is at posted on =
    ap (λ (x : SlotAt). x.to) is ∙ (λ i. (cond (on i) slot (cond (posted i) (record { to = Some (at i); seen = false }) slot)).to)

module _ (ue : UeView) (s t : Sight) (op : SendAt) (tied : Tied (record ue { op = Sending op }) s) where
  of_next : IsSendOf op (local_next ue.machine.local)
  of_next = tied.stands.1

  at_call : is_calling (local_next ue.machine.local) ≡ true
  at_call = calls_next op (local_next ue.machine.local) of_next

  on : is_stopped ue.machine.local ≡ false
  on = goes_on ue.machine.local (not_at_end (local_next ue.machine.local) at_call)

  module _ (d : Private) (now : SendAt) (after : SlotAt) (stands : SendStands t d now after (bytes_out (local_next ue.machine.local))) where
    abbrev Turned : Turn → Type 0
    Turned answer = SendTurned (sending s ue.core op ue.slot (bytes_out (local_next ue.machine.local))) (sending t d now after (bytes_out (local_next ue.machine.local))) answer

    -- the UE after a turn that does not end the call
    abbrev pub later_send : UeView
    later_send = record ue { core = d; slot = after; op = Sending now }

    kept : (answer : Turn) (r : Turned answer) → is_sent now.stage ≡ false → (record_in t).calls ≡ (record_in s).calls → IsSameOrEmpty ue.slot after → Tied later_send t
    kept answer r open_still calls same =
        kept_tied (record ue { op = Sending op }) s t tied (seat_kept s r.events t r.did) on calls r.rest.hold d after ue.parity (Sending now) ue.inbox stands.slot_stands same
        (parity_kept (record_in s) (record_in t) ue.parity r.rest.flips tied.parity_is) tied.room
        (stands, still_of op now (local_next ue.machine.local) r.same open_still of_next)

    pub send_moved : Turned turn.Moved → Turns (record ue { op = Sending op }) s later_send t turn.Moved
    send_moved r = record {
      tied = kept turn.Moved r r.means.3 r.means.1 r.means.4;
      turned = turned_by (record ue { op = Sending op }) s later_send t turn.Moved r.events r.did r.does (refl, refl, refl) r.tried r.rests r.only
          (moved_within (record ue { op = Sending op }) later_send s t on (not_ended (local_next ue.machine.local) at_call) refl (unless_one (is_stopped ue.machine.local) _ _ on one)) r.rest.heap r.drafts r.held;
    }
      where
        one : (turns_at_end op.posted + send_left ue.machine.setup.layout (chunk_of ue.machine.setup) op ue.slot) + (rest_of ue.machine.setup ue.machine.rank ue.machine.local - (1 + next_bound ue.machine.setup ue.machine.rank (local_next ue.machine.local)))
            ≡ (turns_at_end now.posted + send_left ue.machine.setup.layout (chunk_of ue.machine.setup) now after) + (rest_of ue.machine.setup ue.machine.rank ue.machine.local - (1 + next_bound ue.machine.setup ue.machine.rank (local_next ue.machine.local))) + 1
        one =
            let fewer = subst (λ (x : SetupView). send_left x.layout (chunk_of x) op ue.slot ≡ send_left x.layout (chunk_of x) now after + 1) tied.setup_is r.means.0 in
            let same = ap turns_at_end r.same.2 in
            omega (arith, fewer, same)

    pub send_waited : (spot : Spot) → Turned (turn.Waiting spot) → Turns (record ue { op = Sending op }) s later_send t (turn.Waiting spot)
    send_waited spot r =
        let still : IsUeStill (record ue { op = Sending op }) later_send = (λ i. record ue { core = d; slot = r.means.1 i; op = Sending (r.means.0 i) }) in
        record {
          tied = kept (turn.Waiting spot) r (ap (λ (x : SendAt). is_sent x.stage) r.means.0 ∙ unsent op (local_next ue.machine.local) of_next) r.means.2.calls (inr (ap (λ (x : SlotAt). x.to) r.means.1));
          turned = turned_by (record ue { op = Sending op }) s later_send t (turn.Waiting spot) r.events r.did r.does (refl, refl, refl) r.tried r.rests r.only
              (still, ap ue_left still, r.means.2, not_over (record ue { op = Sending op }) on (not_ended (local_next ue.machine.local) at_call), not_going (local_next ue.machine.local) at_call) r.rest.heap r.drafts r.held;
        }

    -- the UE after the turn that ends the call
    abbrev pub done_send : Next Local → UeView
    done_send n =
        at_next_call
        (record ue {
          machine = record ue.machine { local = after_pass n ue.machine.local };
          core = d;
          slot = after;
          posted = posted_by n ue.posted;
          sent = capped_count (ue.sent + 1);
          sent_bytes = capped_count (ue.sent_bytes + length (bytes_out n));
        })

    module _ (r : Turned turn.Done) where
      free : IsFree t (keeping d after ue.parity)
      free =
          let at = subst (λ (stage : SendStage). IsAtSendStage t.seat (record_in t) d now (bytes_out (local_next ue.machine.local)) stage) r.means.0 stands.at in
          record {
            messages = record { between = record { stage = at.0; empty = at.1 }; hands = stands.hands; slot_stands = stands.slot_stands };
            parity = parity_kept (record_in s) (record_in t) ue.parity r.rest.flips tied.parity_is;
          }

      seat : t.seat ≡ s.seat
      seat = seat_kept s r.events t r.did

      done_left : (v : Local) (bound : ℕ) → rest_of ue.machine.setup ue.machine.rank ue.machine.local ≡ (1 + bound) + rest_of ue.machine.setup ue.machine.rank v
          → bound ≡ next_bound ue.machine.setup ue.machine.rank (local_next ue.machine.local) → slot_left after < turns_at_end op.posted
          → slot_left after + rest_of ue.machine.setup ue.machine.rank v < ue_left (record ue { op = Sending op })
      done_left v bound rest same less =
          unless_below (is_stopped ue.machine.local) _ _ on (omega (arith, rest, same, less))

      done_by : (n : Next Local) → local_next ue.machine.local ≡ n → Turns (record ue { op = Sending op }) s (done_send n) t turn.Moved
      done_by (Posts message v) is =
          let of = subst (IsSendOf op) is of_next in
          let out : bytes_out (local_next ue.machine.local) ≡ message.bytes = ap (λ (n : Next Local). bytes_out n) is in
          let calls : (record_in t).calls ≡ (record_in s).calls ++ Post message.to message.head message.bytes ∷ [] =
          r.means.2 ∙ ap (λ (list : List DataCall). (record_in s).calls ++ list) (post_call op message.to message.head (bytes_out (local_next ue.machine.local)) of.0 of.1 of.2 of.3
          ∙ ap (λ (bytes : List ℕ). Post message.to message.head bytes ∷ []) out) in
          let few = slot_left_most after in
          let posted = ap turns_at_end of.2 in
          record {
            tied = entered_tied (record ue { machine = record ue.machine { local = v }; core = d; slot = after; posted = Some (in_flight message); sent = capped_count (ue.sent + 1); sent_bytes = capped_count (ue.sent_bytes + length message.bytes) }) t (Some message) (begun_at ue.machine v tied.begun) (ap (λ (x : Seat). x.setup) seat ∙ tied.setup_is) (ap (λ (x : Seat). x.rank) seat ∙ tied.rank_is)
                (stood_left (start_of_rank ue.machine.script ue.machine.rank) (record_in s) ue.machine.local tied.last (record_in t) tied.stood on message v is calls)
                free (hands_kept (record_in s) (record_in t) r.rest.hold tied.hands) tied.room refl
                (inr (filled op ue.slot after message.to r.means.1 of.0 of.2 of.3))
                (sends_more (record_in s).calls (record_in t).calls _ ue.sent calls refl tied.sent_is)
                (bytes_more (record_in s).calls (record_in t).calls _ ue.sent_bytes (length message.bytes) calls refl tied.bytes_are);
            turned = turned_by (record ue { op = Sending op }) s (done_send (Posts message v)) t turn.Moved r.events r.did r.does (refl, refl, refl) r.tried (λ spot same. absurd (cc)) tt (
              let most = entered_left (record ue { machine = record ue.machine { local = v }; core = d; slot = after; posted = Some (in_flight message); sent = capped_count (ue.sent + 1); sent_bytes = capped_count (ue.sent_bytes + length message.bytes) }) (begun_at ue.machine v tied.begun) in
                  let less = done_left v (message_bound ue.machine.setup.layout message.head.len) (falls ue.machine.setup ue.machine.rank ue.machine.local (Posts message v) is)
                  (sym (ap (next_bound ue.machine.setup ue.machine.rank) is)) (omega (arith, few, posted)) in
                  omega (arith, most, less),
              not_over (record ue { op = Sending op }) on (not_ended (local_next ue.machine.local) at_call),
              After (after_by ue.machine.local v (Posts message v) is refl) refl,
            ) r.rest.heap r.drafts r.held;
          }
      done_by (Sends to head bytes v) is =
          let of = subst (IsSendOf op) is of_next in
          let out : bytes_out (local_next ue.machine.local) ≡ bytes = ap (λ (n : Next Local). bytes_out n) is in
          let calls : (record_in t).calls ≡ (record_in s).calls ++ Send to head bytes ∷ [] =
          r.means.2 ∙ ap (λ (list : List DataCall). (record_in s).calls ++ list) (plain_call op to head (bytes_out (local_next ue.machine.local)) of.0 of.1 of.2 of.3
          ∙ ap (λ (x : List ℕ). Send to head x ∷ []) out) in
          let none : after.to ≡ None = r.means.3 of.2 of.3 in
          let few = empty_left after none in
          let posted = ap turns_at_end of.2 in
          record {
            tied = entered_tied (record ue { machine = record ue.machine { local = v }; core = d; slot = after; sent = capped_count (ue.sent + 1); sent_bytes = capped_count (ue.sent_bytes + length bytes) }) t tied.last (begun_at ue.machine v tied.begun) (ap (λ (x : Seat). x.setup) seat ∙ tied.setup_is) (ap (λ (x : Seat). x.rank) seat ∙ tied.rank_is)
                (stood_sent (start_of_rank ue.machine.script ue.machine.rank) (record_in s) ue.machine.local tied.last (record_in t) tied.stood on to head bytes v is calls)
                free (hands_kept (record_in s) (record_in t) r.rest.hold tied.hands) tied.room tied.posted_is (inl none)
                (sends_more (record_in s).calls (record_in t).calls _ ue.sent calls refl tied.sent_is)
                (bytes_more (record_in s).calls (record_in t).calls _ ue.sent_bytes (length bytes) calls refl tied.bytes_are);
            turned = turned_by (record ue { op = Sending op }) s (done_send (Sends to head bytes v)) t turn.Moved r.events r.did r.does (refl, refl, refl) r.tried (λ spot same. absurd (cc)) tt (
              let most = entered_left (record ue { machine = record ue.machine { local = v }; core = d; slot = after; sent = capped_count (ue.sent + 1); sent_bytes = capped_count (ue.sent_bytes + length bytes) }) (begun_at ue.machine v tied.begun) in
                  let less = done_left v (message_bound ue.machine.setup.layout head.len) (falls ue.machine.setup ue.machine.rank ue.machine.local (Sends to head bytes v) is)
                  (sym (ap (next_bound ue.machine.setup ue.machine.rank) is)) (omega (arith, few, posted)) in
                  omega (arith, most, less),
              not_over (record ue { op = Sending op }) on (not_ended (local_next ue.machine.local) at_call),
              After (after_by ue.machine.local v (Sends to head bytes v) is refl) refl,
            ) r.rest.heap r.drafts r.held;
          }
      done_by _ is = absurd (subst (IsSendOf op) is of_next)

      pub send_done : Turns (record ue { op = Sending op }) s (done_send (local_next ue.machine.local)) t turn.Moved
      send_done = done_by (local_next ue.machine.local) refl
