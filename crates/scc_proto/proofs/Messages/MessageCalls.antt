-- The moves of messages add nothing to the passed calls, or the calls of one post, one receive, or one send and its receive.
use Rattle.std.proofs.Common.{◌≡◌, ℕ, suc, ◌<◌, ◌==◌, Bool, true, false, true≢false, ◌&&◌, if◌then◌else◌, List, [], ◌∷◌, ◌++◌, length, is_none, Option, Some, None, unwrap_or, ⊎_elim, refl, sym, ◌∙◌, ap, ap₂, subst, append-nil, arith}
use Rattle.scc_base.specs.Calls.{DataCall, Message}
use Rattle.scc_base.specs.Setups.{SetupView, IsSetup, setup_key}
use Rattle.scc_base.proofs.ChangeLaws.{true_or_false}
use Rattle.scc_base.specs.declared.signals.Signal.TheVariants.{Sent, Ready}
use Rattle.scc_proto.specs.Tables.{table_with}
use Rattle.scc_proto.specs.Messages.{Progress, fresh_message, with_chunk, message_of, sent_messages, received_messages, send_to, post_to, head_of, is_last}
use Rattle.scc_proto.specs.Stages.{Filling, Raised, Answered, Stage, Idle, Drafting, Sending, Between, Taking, Barrier, InFlight, Record}
use Rattle.scc_proto.specs.Moves.{Move, DraftHeader, DraftChunk, RaiseSignal, LookSignal, ReadHeader, ReadChunk, LowerSignal, FlipGather, LookGather, WriteRelease, LookRelease, StoreHeap, NoMove, Misplaced, is_posted, raise_sent, lower_ready, post_raised, finished_if, calls_raised, calls_sent, after}
use Rattle.scc_proto.specs.Permission.{is_drafted, may_raise, may_go_on, is_answered_by}
use Rattle.scc_proto.specs.Words.{are_peers}
use Rattle.scc_proto.specs.Records.{chunk_of}
use Rattle.scc_proto.specs.Views.{View}
use Rattle.scc_proto.specs.Pairs.{Resting, Offering, pair_of, IsReady, HasArrived, sending_side, side_of_post}
use Rattle.scc_proto.specs.Singles.{IsConsistent, is_free}
use Rattle.scc_proto.specs.Passed.{in_hand, is_received_ahead, passed_open, passed_calls, slot_by, slot_of}
use Rattle.scc_proto.specs.Agreement.{RecordsAgree, PairsAgree, SendersAgree, GroupsAgree}
use Rattle.scc_proto.specs.Legality.{Grows}
use Rattle.scc_proto.proofs.Messages.Growth.{grows_by_post}
use Rattle.scc_proto.proofs.Layouts.MoveFacts.{IsViewStep}
use Rattle.scc_proto.proofs.Messages.MessageLists.{sent_messages-post, received_messages-send, received_messages-post, message_here}
use Rattle.scc_proto.proofs.Pairs.PhaseFacts.{at_rest, when_answered, sending_here, post_here}
use Rattle.scc_proto.proofs.Barriers.BarrierFacts.{bar_at}
use Rattle.scc_proto.proofs.Barriers.BarrierMoves.{is_barrier_move, bar_kept}
use Rattle.scc_proto.proofs.Barriers.BarrierCalls.{barrier_calls}
use Rattle.scc_proto.proofs.Tests.{both_first, both_second, same_by_eqb}
use Rattle.scc_proto.proofs.Messages.QuietMoves.{received_at, passed_stays, slot_stays, passed_now, slot_now, sent_now, same_passed, quiet, draft_header-passed, draft_chunk-passed, read_chunk-passed, lower_sent-passed, look_ready-passed, look_ready-slot, no_post_beside, one_more, test_same, test_apart, not_received}
use Rattle.scc_proto.proofs.Messages.ReceiveCalls.{raise_ready_grows}

module _ (s : SetupView) (me : ℕ) (view : View) (records : ℕ → Record) (low : me < s.nue) (consistent : RecordsAgree s records) (pairs : PairsAgree s view records) (senders : SendersAgree s view records) where
  abbrev new_of : Move → Record
  new_of move = after (chunk_of s) move (records me)

  abbrev next_of : Move → ℕ → Record
  next_of move = table_with records me (new_of move)

  abbrev GrowsBy : Move → Type 0
  GrowsBy move = Grows s.nue (setup_key s) (passed_calls s records) (slot_of s records) (passed_calls s (next_of move)) (slot_of s (next_of move))

  -- a chunk is raised: the first one of a posted message is a post
  raise_sent_grows : (to : ℕ) → IsViewStep s me view (records me) (RaiseSignal Sent to) → GrowsBy (RaiseSignal Sent to)
  raise_sent_grows to step = by_stage (records me).stage refl
    where
      peers : are_peers s me to ≡ true
      peers = step.own

      permitted : (is_none (records me).post && may_raise (chunk_of s) to (records me).stage) ≡ true
      permitted = step.permitted

      no_post : (records me).post ≡ None
      no_post = none_told (records me).post (both_first (is_none (records me).post) (may_raise (chunk_of s) to (records me).stage) permitted)
        where
          none_told : (p : Option InFlight) → is_none p ≡ true → p ≡ None
          none_told None is = refl
          none_told (Some p) is = absurd (true≢false (sym is))

      may : may_raise (chunk_of s) to (records me).stage ≡ true
      may = both_second (is_none (records me).post) (may_raise (chunk_of s) to (records me).stage) permitted

      level : (m : Option Progress) → sending_side to (records me).stage (records me).post ≡ Resting m → received_messages me (records to).calls ≡ sent_messages to (records me).calls
      level m rests = (at_rest (chunk_of s) (pair_of me to view (records me) (records to)) m rests (pairs me to peers)).level

      bars : (comm : ℕ) → bar_at comm (raise_sent to (records me).stage) ≡ bar_at comm (records me).stage
      bars comm = bar_kept comm (chunk_of s) (RaiseSignal Sent to) (records me) refl

      empty : slot_of s records me ≡ None
      empty = ap (λ (p : Option InFlight). slot_by (chunk_of s) me p records) no_post

      not_allowed : (st : Stage) → (records me).stage ≡ st → may_raise (chunk_of s) to st ≡ false → GrowsBy (RaiseSignal Sent to)
      not_allowed st is refused = absurd (true≢false (sym may ∙ ap (may_raise (chunk_of s) to) is ∙ refused))

      by_stage : (st : Stage) → (records me).stage ≡ st → GrowsBy (RaiseSignal Sent to)
      by_stage (Drafting header chunk) is =
          ⊎_elim
          (λ (posts : is_posted header ≡ true). a_post posts)
          (λ (sends : is_posted header ≡ false).
          quiet s me records (new_of (RaiseSignal Sent to)) refl bars
          (ap (λ (st : Stage). calls_raised (chunk_of s) to st (records me).calls) is ∙ ap (λ (b : Bool). finished_if b (post_to to (message_of (with_chunk (chunk_of s) (fresh_message (head_of header)) chunk))) (records me).calls) sends)
          (ap (λ (p : Option InFlight). slot_by (chunk_of s) me p records) (ap (λ (st : Stage). post_raised to st (records me).post) is ∙ ap (λ (b : Bool). if b then Some (record { to = to; head = head_of header; chunk = chunk; is_answered = false }) else (records me).post) sends))
          (ap (λ (st : Stage). passed_open s me (raise_sent to st) records) is
          ∙ ap (λ (b : Bool). passed_open s me (if b then Idle else Sending to Raised (fresh_message (head_of header)) chunk) records) sends
          ∙ ap (λ (b : Bool). if b then send_to to (message_of (in_hand (chunk_of s) Raised (fresh_message (head_of header)) chunk)) ∷ [] else []) (not_received (received_messages me (records to).calls) (sent_messages to (records me).calls) at_level)
          ∙ sym (ap (λ (st : Stage). passed_open s me st records) is)))
          (true_or_false (is_posted header))
        where
          at_level : received_messages me (records to).calls ≡ sent_messages to (records me).calls
          at_level = level None (ap₂ (sending_side to) is no_post)

          a_post : is_posted header ≡ true → GrowsBy (RaiseSignal Sent to)
          a_post posts =
              grows_by_post s.nue (setup_key s) (passed_calls s records) (passed_calls s (next_of (RaiseSignal Sent to))) (slot_of s records) (slot_of s (next_of (RaiseSignal Sent to))) me
              (record { to = to; head = head_of header; bytes = (with_chunk (chunk_of s) (fresh_message (head_of header)) chunk).bytes })
              empty gain
              (λ k other. passed_stays s me records (new_of (RaiseSignal Sent to)) refl bars k other (received k))
              full
              (λ k other. slot_stays s me records (new_of (RaiseSignal Sent to)) refl bars k other (received k))
            where
              new_calls : calls_raised (chunk_of s) to (records me).stage (records me).calls ≡ (records me).calls ++ post_to to (message_of (with_chunk (chunk_of s) (fresh_message (head_of header)) chunk)) ∷ []
              new_calls = ap (λ (st : Stage). calls_raised (chunk_of s) to st (records me).calls) is ∙ ap (λ (b : Bool). finished_if b (post_to to (message_of (with_chunk (chunk_of s) (fresh_message (head_of header)) chunk))) (records me).calls) posts

              new_stage : raise_sent to (records me).stage ≡ Idle
              new_stage = ap (raise_sent to) is ∙ ap (λ (b : Bool). if b then Idle else Sending to Raised (fresh_message (head_of header)) chunk) posts

              new_post : post_raised to (records me).stage (records me).post ≡ Some (record { to = to; head = head_of header; chunk = chunk; is_answered = false })
              new_post = ap (λ (st : Stage). post_raised to st (records me).post) is ∙ ap (λ (b : Bool). if b then Some (record { to = to; head = head_of header; chunk = chunk; is_answered = false }) else (records me).post) posts

              received : (k : ℕ) → received_messages k (calls_raised (chunk_of s) to (records me).stage (records me).calls) ≡ received_messages k (records me).calls
              received k = ap (received_messages k) new_calls ∙ received_messages-post k (records me).calls to (message_of (with_chunk (chunk_of s) (fresh_message (head_of header)) chunk))

              gain : passed_calls s (next_of (RaiseSignal Sent to)) me ≡ passed_calls s records me ++ post_to to (message_of (with_chunk (chunk_of s) (fresh_message (head_of header)) chunk)) ∷ []
              gain =
                  passed_now s me records (new_of (RaiseSignal Sent to)) refl bars
                  ∙ ap₂ (λ (l : List DataCall) (st : Stage). l ++ passed_open s me st (next_of (RaiseSignal Sent to))) new_calls new_stage
                  ∙ append-nil ((records me).calls ++ post_to to (message_of (with_chunk (chunk_of s) (fresh_message (head_of header)) chunk)) ∷ [])
                  ∙ ap (λ (l : List DataCall). l ++ post_to to (message_of (with_chunk (chunk_of s) (fresh_message (head_of header)) chunk)) ∷ []) (sym (ap (λ (st : Stage). (records me).calls ++ passed_open s me st records) is ∙ append-nil (records me).calls))

              apart : (length (received_messages me (next_of (RaiseSignal Sent to) to).calls) == length (sent_messages to (next_of (RaiseSignal Sent to) me).calls)) ≡ false
              apart =
                  ap₂ (λ (a b : List Message). length a == length b)
                  (received_at s me records (new_of (RaiseSignal Sent to)) refl bars me (received me) to)
                  (sent_now s me records (new_of (RaiseSignal Sent to)) refl bars to ∙ ap (sent_messages to) new_calls ∙ sent_messages-post to (records me).calls to (message_of (with_chunk (chunk_of s) (fresh_message (head_of header)) chunk))
                  ∙ message_here (sent_messages to (records me).calls) to to (message_of (with_chunk (chunk_of s) (fresh_message (head_of header)) chunk)) (test_same to to refl))
                  ∙ test_apart (length (received_messages me (records to).calls)) (length (sent_messages to (records me).calls ++ message_of (with_chunk (chunk_of s) (fresh_message (head_of header)) chunk) ∷ []))
                  (λ same. let longer = one_more (sent_messages to (records me).calls) (message_of (with_chunk (chunk_of s) (fresh_message (head_of header)) chunk)) in let even = ap length at_level in absurd (omega (arith, same, longer, even)))

              full : slot_of s (next_of (RaiseSignal Sent to)) me ≡ Some (record { to = to; head = head_of header; bytes = (with_chunk (chunk_of s) (fresh_message (head_of header)) chunk).bytes })
              full =
                  slot_now s me records (new_of (RaiseSignal Sent to)) refl bars
                  ∙ ap (λ (p : Option InFlight). slot_by (chunk_of s) me p (next_of (RaiseSignal Sent to))) new_post
                  ∙ ap (λ (b : Bool). if b then None else Some (record { to = to; head = head_of header; bytes = (with_chunk (chunk_of s) (fresh_message (head_of header)) chunk).bytes })) apart
      by_stage (Sending j Filling message chunk) is =
          quiet s me records (new_of (RaiseSignal Sent to)) refl bars
          (ap (λ (st : Stage). calls_raised (chunk_of s) to st (records me).calls) is)
          (ap (λ (p : Option InFlight). slot_by (chunk_of s) me p records) (ap (λ (st : Stage). post_raised to st (records me).post) is))
          (ap (λ (st : Stage). passed_open s me (raise_sent to st) records) is
          ∙ ap (λ (b : Bool). if b then send_to to (message_of (in_hand (chunk_of s) Raised message chunk)) ∷ [] else []) (not_received (received_messages me (records to).calls) (sent_messages to (records me).calls) at_level)
          ∙ sym (ap (λ (b : Bool). if b then send_to j (message_of (in_hand (chunk_of s) Filling message chunk)) ∷ [] else []) not_yet)
          ∙ sym (ap (λ (st : Stage). passed_open s me st records) is))
        where
          may_here : may_raise (chunk_of s) to (Sending j Filling message chunk) ≡ true
          may_here = sym (ap (may_raise (chunk_of s) to) is) ∙ may

          here : (j == to) ≡ true
          here = both_first (j == to) (is_drafted (chunk_of s) message chunk) may_here

          at_level : received_messages me (records to).calls ≡ sent_messages to (records me).calls
          at_level = level (Some message) (ap (λ (st : Stage). sending_side to st (records me).post) is ∙ sending_here to j Filling message chunk (records me).post here)

          not_yet : is_received_ahead me j records ≡ false
          not_yet = ap (λ (k : ℕ). is_received_ahead me k records) (same_by_eqb j to here) ∙ not_received (received_messages me (records to).calls) (sent_messages to (records me).calls) at_level
      by_stage Idle is = not_allowed Idle is refl
      by_stage (Sending j Raised message chunk) is = not_allowed (Sending j Raised message chunk) is refl
      by_stage (Sending j Answered message chunk) is = not_allowed (Sending j Answered message chunk) is refl
      by_stage (Between from message) is = not_allowed (Between from message) is refl
      by_stage (Taking from message chunk) is = not_allowed (Taking from message chunk) is refl
      by_stage (Barrier c seen released) is = not_allowed (Barrier c seen released) is refl

  -- the sender goes on: a send that ends was passed before, and so was a posted message
  lower_ready_grows : (by : ℕ) → IsViewStep s me view (records me) (LowerSignal Ready by) → GrowsBy (LowerSignal Ready by)
  lower_ready_grows by step = by_stage (records me).stage refl
    where
      peers : are_peers s me by ≡ true
      peers = step.own

      own_record : IsConsistent s me (records me)
      own_record = consistent.0 me low

      may : may_go_on by (records me).stage (records me).post ≡ true
      may = step.permitted

      bars : (comm : ℕ) → bar_at comm (lower_ready (chunk_of s) (records me).stage) ≡ bar_at comm (records me).stage
      bars comm = bar_kept comm (chunk_of s) (LowerSignal Ready by) (records me) refl

      not_allowed : (st : Stage) → (records me).stage ≡ st → may_go_on by st (records me).post ≡ false → GrowsBy (LowerSignal Ready by)
      not_allowed st is refused = absurd (true≢false (sym may ∙ ap (λ (x : Stage). may_go_on by x (records me).post) is ∙ refused))

      -- a posted message was received
      settled : (p : Option InFlight) → (records me).post ≡ p → is_answered_by by p ≡ true → sending_side by (records me).stage (records me).post ≡ side_of_post by p → slot_of s records me ≡ None
      settled None is answered side = absurd (true≢false (sym answered))
      settled (Some p) is answered side =
          ap (λ (o : Option InFlight). slot_by (chunk_of s) me o records) is
          ∙ ap (λ (b : Bool). if b then None else Some (record { to = p.to; head = p.head; bytes = (with_chunk (chunk_of s) (fresh_message p.head) p.chunk).bytes }))
          (ap (λ (j : ℕ). length (received_messages me (records j).calls) == length (sent_messages j (records me).calls)) target
          ∙ test_same (length (received_messages me (records by).calls)) (length (sent_messages by (records me).calls)) (ap length level))
        where
          here : (p.to == by) ≡ true
          here = both_first (p.to == by) p.is_answered answered

          target : p.to ≡ by
          target = same_by_eqb p.to by here

          was_answered : p.is_answered ≡ true
          was_answered = both_second (p.to == by) p.is_answered answered

          sending : sending_side by (records me).stage (records me).post ≡ Offering true true (fresh_message p.head) p.chunk
          sending = side ∙ post_here by p here ∙ ap (λ (b : Bool). Offering b true (fresh_message p.head) p.chunk) was_answered

          ready : (through : Option Progress) × IsReady (chunk_of s) (pair_of me by view (records me) (records by)) through true true (fresh_message p.head) p.chunk
          ready = when_answered (chunk_of s) (pair_of me by view (records me) (records by)) true (fresh_message p.head) p.chunk sending (pairs me by peers)

          arrived : (b : Bool) → HasArrived b (chunk_of s) true (fresh_message p.head) p.chunk ready.0 (sent_messages by (records me).calls) (received_messages me (records by).calls) → received_messages me (records by).calls ≡ sent_messages by (records me).calls
          arrived true has = has.1 ∙ append-nil (sent_messages by (records me).calls)
          arrived false has = has.1

          level : received_messages me (records by).calls ≡ sent_messages by (records me).calls
          level = arrived (is_last (chunk_of s) (fresh_message p.head)) ready.1.arrived

      a_post : (st : Stage) → (records me).stage ≡ st → lower_ready (chunk_of s) st ≡ st → calls_sent (chunk_of s) st (records me).calls ≡ (records me).calls → sending_side by st (records me).post ≡ side_of_post by (records me).post → may_go_on by st (records me).post ≡ is_answered_by by (records me).post → GrowsBy (LowerSignal Ready by)
      a_post st is same_stage same_calls side asks =
          quiet s me records (new_of (LowerSignal Ready by)) refl bars
          (ap (λ (x : Stage). calls_sent (chunk_of s) x (records me).calls) is ∙ same_calls)
          (sym (settled (records me).post refl (sym asks ∙ sym (ap (λ (x : Stage). may_go_on by x (records me).post) is) ∙ may) (ap (λ (x : Stage). sending_side by x (records me).post) is ∙ side)))
          (ap (λ (x : Stage). passed_open s me x records) (ap (lower_ready (chunk_of s)) is ∙ same_stage ∙ sym is))

      by_stage : (st : Stage) → (records me).stage ≡ st → GrowsBy (LowerSignal Ready by)
      by_stage (Sending j Answered message chunk) is = by_last (is_last (chunk_of s) message) refl
        where
          here : (j == by) ≡ true
          here = sym (ap (λ (x : Stage). may_go_on by x (records me).post) is) ∙ may

          target : j ≡ by
          target = same_by_eqb j by here

          sending : sending_side by (records me).stage (records me).post ≡ Offering true false message chunk
          sending = ap (λ (x : Stage). sending_side by x (records me).post) is ∙ sending_here by j Answered message chunk (records me).post here

          ready : (through : Option Progress) × IsReady (chunk_of s) (pair_of me by view (records me) (records by)) through true false message chunk
          ready = when_answered (chunk_of s) (pair_of me by view (records me) (records by)) false message chunk sending (pairs me by peers)

          no_post : (records me).post ≡ None
          no_post = no_post_beside s me (records me).post (records me).stage own_record.post (ap is_free is)

          empty : slot_of s records me ≡ None
          empty = ap (λ (o : Option InFlight). slot_by (chunk_of s) me o records) no_post

          by_last : (b : Bool) → is_last (chunk_of s) message ≡ b → GrowsBy (LowerSignal Ready by)
          by_last false more =
              quiet s me records (new_of (LowerSignal Ready by)) refl bars
              (ap (λ (x : Stage). calls_sent (chunk_of s) x (records me).calls) is ∙ ap (λ (b : Bool). finished_if b (send_to j (message_of (with_chunk (chunk_of s) message chunk))) (records me).calls) more)
              (sym empty)
              (ap (λ (x : Stage). passed_open s me (lower_ready (chunk_of s) x) records) is
              ∙ ap (λ (b : Bool). passed_open s me (if b then Idle else Sending j Filling (with_chunk (chunk_of s) message chunk) []) records) more
              ∙ ap (λ (b : Bool). if b then send_to j (message_of (with_chunk (chunk_of s) message chunk)) ∷ [] else []) not_yet
              ∙ sym (ap (λ (b : Bool). if b then send_to j (message_of (with_chunk (chunk_of s) message chunk)) ∷ [] else []) not_yet)
              ∙ sym (ap (λ (x : Stage). passed_open s me x records) is))
            where
              arrived : HasArrived false (chunk_of s) false message chunk ready.0 (sent_messages by (records me).calls) (received_messages me (records by).calls)
              arrived = subst (λ (b : Bool). HasArrived b (chunk_of s) false message chunk ready.0 (sent_messages by (records me).calls) (received_messages me (records by).calls)) more ready.1.arrived

              not_yet : is_received_ahead me j records ≡ false
              not_yet = ap (λ (k : ℕ). is_received_ahead me k records) target ∙ not_received (received_messages me (records by).calls) (sent_messages by (records me).calls) arrived.1
          by_last true last = same_passed s me records (new_of (LowerSignal Ready by)) refl bars received (new_passed ∙ sym old_passed) (slot_now s me records (new_of (LowerSignal Ready by)) refl bars ∙ sym empty)
            where
              arrived : HasArrived true (chunk_of s) false message chunk ready.0 (sent_messages by (records me).calls) (received_messages me (records by).calls)
              arrived = subst (λ (b : Bool). HasArrived b (chunk_of s) false message chunk ready.0 (sent_messages by (records me).calls) (received_messages me (records by).calls)) last ready.1.arrived

              through : is_received_ahead me j records ≡ true
              through = ap (λ (k : ℕ). is_received_ahead me k records) target
                  ∙ test_same (length (received_messages me (records by).calls)) (suc (length (sent_messages by (records me).calls)))
                  (ap length arrived.1 ∙ one_more (sent_messages by (records me).calls) (message_of (with_chunk (chunk_of s) message chunk)))

              new_calls : calls_sent (chunk_of s) (records me).stage (records me).calls ≡ (records me).calls ++ send_to j (message_of (with_chunk (chunk_of s) message chunk)) ∷ []
              new_calls = ap (λ (x : Stage). calls_sent (chunk_of s) x (records me).calls) is ∙ ap (λ (b : Bool). finished_if b (send_to j (message_of (with_chunk (chunk_of s) message chunk))) (records me).calls) last

              new_stage : lower_ready (chunk_of s) (records me).stage ≡ Idle
              new_stage = ap (lower_ready (chunk_of s)) is ∙ ap (λ (b : Bool). if b then Idle else Sending j Filling (with_chunk (chunk_of s) message chunk) []) last

              received : (k : ℕ) → received_messages k (calls_sent (chunk_of s) (records me).stage (records me).calls) ≡ received_messages k (records me).calls
              received k = ap (received_messages k) new_calls ∙ received_messages-send k (records me).calls j (message_of (with_chunk (chunk_of s) message chunk))

              old_passed : passed_calls s records me ≡ (records me).calls ++ send_to j (message_of (with_chunk (chunk_of s) message chunk)) ∷ []
              old_passed = ap (λ (x : Stage). (records me).calls ++ passed_open s me x records) is ∙ ap (λ (b : Bool). (records me).calls ++ (if b then send_to j (message_of (with_chunk (chunk_of s) message chunk)) ∷ [] else [])) through

              new_passed : passed_calls s (next_of (LowerSignal Ready by)) me ≡ (records me).calls ++ send_to j (message_of (with_chunk (chunk_of s) message chunk)) ∷ []
              new_passed =
                  passed_now s me records (new_of (LowerSignal Ready by)) refl bars
                  ∙ ap₂ (λ (l : List DataCall) (x : Stage). l ++ passed_open s me x (next_of (LowerSignal Ready by))) new_calls new_stage
                  ∙ append-nil ((records me).calls ++ send_to j (message_of (with_chunk (chunk_of s) message chunk)) ∷ [])
      by_stage (Sending j Filling message chunk) is = not_allowed (Sending j Filling message chunk) is refl
      by_stage (Sending j Raised message chunk) is = not_allowed (Sending j Raised message chunk) is refl
      by_stage Idle is = a_post Idle is refl refl refl refl
      by_stage (Drafting header chunk) is = a_post (Drafting header chunk) is refl refl refl refl
      by_stage (Between from message) is = a_post (Between from message) is refl refl refl refl
      by_stage (Taking from message chunk) is = a_post (Taking from message chunk) is refl refl refl refl
      by_stage (Barrier c seen released) is = a_post (Barrier c seen released) is refl refl refl refl

  message_grows : (move : Move) → IsViewStep s me view (records me) move → is_barrier_move move ≡ false → GrowsBy move
  message_grows (DraftHeader k v) step other = quiet s me records (new_of (DraftHeader k v)) refl (λ comm. bar_kept comm (chunk_of s) (DraftHeader k v) (records me) refl) refl refl (draft_header-passed s me k v (records me).stage records)
  message_grows (DraftChunk k v) step other = quiet s me records (new_of (DraftChunk k v)) refl (λ comm. bar_kept comm (chunk_of s) (DraftChunk k v) (records me) refl) refl refl (draft_chunk-passed s me k v (records me).stage records)
  message_grows (RaiseSignal Sent to) step other = raise_sent_grows to step
  message_grows (LookSignal Sent is_set) step other = quiet s me records (new_of (LookSignal Sent is_set)) refl (λ comm. refl) refl refl refl
  message_grows (ReadHeader from k v) step other = quiet s me records (new_of (ReadHeader from k v)) refl (λ comm. refl) refl refl refl
  message_grows (ReadChunk from k v) step other = quiet s me records (new_of (ReadChunk from k v)) refl (λ comm. bar_kept comm (chunk_of s) (ReadChunk from k v) (records me) refl) refl refl (read_chunk-passed s me from k v (records me).stage records)
  message_grows (LowerSignal Sent from) step other = quiet s me records (new_of (LowerSignal Sent from)) refl (λ comm. bar_kept comm (chunk_of s) (LowerSignal Sent from) (records me) refl) refl refl (lower_sent-passed s me from (unwrap_or ((records me).notes from) []) (records me).stage records)
  message_grows (RaiseSignal Ready to) step other = raise_ready_grows s me view records low consistent pairs senders to step
  message_grows (LookSignal Ready is_set) step other = quiet s me records (new_of (LookSignal Ready is_set)) refl (λ comm. bar_kept comm (chunk_of s) (LookSignal Ready is_set) (records me) refl) refl (look_ready-slot (chunk_of s) me is_set (records me).post records) (look_ready-passed s me is_set (records me).stage records)
  message_grows (LowerSignal Ready by) step other = lower_ready_grows by step
  message_grows (FlipGather c value last) step other = absurd (true≢false other)
  message_grows (LookGather c from place value) step other = absurd (true≢false other)
  message_grows (WriteRelease c to place value last) step other = absurd (true≢false other)
  message_grows (LookRelease c value) step other = absurd (true≢false other)
  message_grows (StoreHeap place value) step other = quiet s me records (new_of (StoreHeap place value)) refl (λ comm. refl) refl refl refl
  message_grows NoMove step other = quiet s me records (new_of NoMove) refl (λ comm. refl) refl refl refl
  message_grows Misplaced step other = quiet s me records (new_of Misplaced) refl (λ comm. refl) refl refl refl

pub message_calls : (s : SetupView) (me : ℕ) (view : View) (records : ℕ → Record) (move : Move) → IsSetup s → IsViewStep s me view (records me) move → RecordsAgree s records → PairsAgree s view records → SendersAgree s view records → is_barrier_move move ≡ false
    → Grows s.nue (setup_key s) (passed_calls s records) (slot_of s records) (passed_calls s (table_with records me (after (chunk_of s) move (records me)))) (slot_of s (table_with records me (after (chunk_of s) move (records me))))
message_calls s me view records move setup step consistent pairs senders other = message_grows s me view records step.rank consistent pairs senders move step other

-- every move adds to the passed calls nothing, or the calls of one step
pub calls_grow : (s : SetupView) (me : ℕ) (view : View) (records : ℕ → Record) (move : Move) → IsSetup s → IsViewStep s me view (records me) move → RecordsAgree s records → PairsAgree s view records → SendersAgree s view records → GroupsAgree s view records
    → Grows s.nue (setup_key s) (passed_calls s records) (slot_of s records) (passed_calls s (table_with records me (after (chunk_of s) move (records me)))) (slot_of s (table_with records me (after (chunk_of s) move (records me))))
calls_grow s me view records move setup step consistent pairs senders groups =
    ⊎_elim
    (λ (barrier : is_barrier_move move ≡ true). barrier_calls s me view records move setup step consistent groups barrier)
    (λ (other : is_barrier_move move ≡ false). message_calls s me view records move setup step consistent pairs senders other)
    (true_or_false (is_barrier_move move))
