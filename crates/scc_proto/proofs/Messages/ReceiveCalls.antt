-- A chunk that is taken adds nothing to the passed calls, or the calls of a receive: with the send or behind the post that it ends.
use Rattle.std.proofs.Common.{◌≡◌, ◌≢◌, ℕ, suc, ◌<◌, ◌==◌, Bool, true, false, true≢false, if◌then◌else◌, List, [], ◌∷◌, ◌++◌, length, Option, Some, None, ⊎_elim, refl, sym, ◌∙◌, ap, ap₂, subst, append-nil, arith}
use Rattle.scc_base.specs.Calls.{DataCall, Recv, Message}
use Rattle.scc_base.specs.Setups.{SetupView, setup_key}
use Rattle.scc_base.proofs.Confluence.{equal_or_not}
use Rattle.scc_base.specs.declared.signals.Signal.TheVariants.{Ready}
use Rattle.scc_proto.specs.Tables.{table_with}
use Rattle.scc_proto.specs.Messages.{Notes, Progress, fresh_message, with_chunk, message_of, sent_messages, received_messages, send_to, recv_from, is_last, is_whole, chunk_bytes, chunk_words, bytes_from}
use Rattle.scc_proto.specs.Stages.{Raised, Stage, Idle, Drafting, Sending, Between, Taking, Barrier, InFlight, Record}
use Rattle.scc_proto.specs.Moves.{Move, RaiseSignal, raise_ready, finished_if, calls_received, after}
use Rattle.scc_proto.specs.Permission.{has_taken}
use Rattle.scc_proto.specs.Words.{are_peers}
use Rattle.scc_proto.specs.Records.{chunk_of}
use Rattle.scc_proto.specs.Views.{View}
use Rattle.scc_proto.specs.Pairs.{Offering, Awaiting, Receiving, pair_of, IsTaken, sending_side, taking_side, pending}
use Rattle.scc_proto.specs.Singles.{IsPosted, is_free}
use Rattle.scc_proto.specs.Passed.{is_received_ahead, passed_open, passed_calls, slot_by, slot_of}
use Rattle.scc_proto.specs.Agreement.{RecordsAgree, PairsAgree, SendersAgree}
use Rattle.scc_proto.specs.Legality.{Grows}
use Rattle.scc_proto.proofs.Messages.Growth.{grows_by_take, grows_by_pair}
use Rattle.scc_proto.proofs.Layouts.MoveFacts.{IsViewStep}
use Rattle.scc_proto.proofs.Messages.MessageLists.{sent_messages-recv, received_messages-recv, message_here, message_there}
use Rattle.scc_proto.proofs.Pairs.PhaseFacts.{when_taking}
use Rattle.scc_proto.proofs.Pairs.OfferFacts.{Offers, offers}
use Rattle.scc_proto.proofs.Words.NoteFacts.{bytes_same, chunk_within}
use Rattle.scc_proto.proofs.Barriers.BarrierFacts.{bar_at}
use Rattle.scc_proto.proofs.Barriers.BarrierMoves.{bar_kept}
use Rattle.scc_proto.proofs.Barriers.GroupRanks.{put_here, put_there}
use Rattle.scc_proto.proofs.Tests.{both_first, both_second, same_by_eqb, peers_are, peers_swap}
use Rattle.scc_proto.proofs.Messages.QuietMoves.{open_free, received_at, sent_at_rank, gathers_alike, passed_stays, slot_stays, passed_now, slot_now, sent_now, quiet, slot_at_rank, no_post_beside, offering_sends, IsPostOf, offering_posts, one_more, test_same, test_apart, not_received}

module _ (s : SetupView) (me : ℕ) (view : View) (records : ℕ → Record) (low : me < s.nue) (consistent : RecordsAgree s records) (pairs : PairsAgree s view records) (senders : SendersAgree s view records) where
  abbrev new_of : Move → Record
  new_of move = after (chunk_of s) move (records me)

  abbrev next_of : Move → ℕ → Record
  next_of move = table_with records me (new_of move)

  abbrev GrowsBy : Move → Type 0
  GrowsBy move = Grows s.nue (setup_key s) (passed_calls s records) (slot_of s records) (passed_calls s (next_of move)) (slot_of s (next_of move))

  -- a chunk is taken: the last one of a message is a receive, and the sender's send or the posted message is received
  pub raise_ready_grows : (to : ℕ) → IsViewStep s me view (records me) (RaiseSignal Ready to) → GrowsBy (RaiseSignal Ready to)
  raise_ready_grows to step = by_stage (records me).stage refl
    where
      peers : are_peers s to me ≡ true
      peers = peers_swap s me to step.own

      apart : to ≢ me
      apart is = (peers_are s me to step.own).apart (sym is)

      low_to : to < s.nue
      low_to = (peers_are s me to step.own).other

      may : has_taken (chunk_of s) to (records me).stage ≡ true
      may = step.permitted

      bars : (comm : ℕ) → bar_at comm (raise_ready (chunk_of s) (records me).stage) ≡ bar_at comm (records me).stage
      bars comm = bar_kept comm (chunk_of s) (RaiseSignal Ready to) (records me) refl

      not_allowed : (st : Stage) → (records me).stage ≡ st → has_taken (chunk_of s) to st ≡ false → GrowsBy (RaiseSignal Ready to)
      not_allowed st is refused = absurd (true≢false (sym may ∙ ap (has_taken (chunk_of s) to) is ∙ refused))

      by_stage : (st : Stage) → (records me).stage ≡ st → GrowsBy (RaiseSignal Ready to)
      by_stage (Taking i message chunk) is = by_last (is_last (chunk_of s) message) refl
        where
          may_here : has_taken (chunk_of s) to (Taking i message chunk) ≡ true
          may_here = sym (ap (has_taken (chunk_of s) to) is) ∙ may

          from_is : i ≡ to
          from_is = same_by_eqb i to (both_first (i == to) (is_whole (chunk_of s) message chunk) may_here)

          whole : is_whole (chunk_of s) message chunk ≡ true
          whole = both_second (i == to) (is_whole (chunk_of s) message chunk) may_here

          takes : taking_side to (records me).stage ≡ Receiving message chunk
          takes = ap (taking_side to) is ∙ ap (λ (b : Bool). if b then Receiving message chunk else Awaiting None) (test_same i to from_is)

          taken : (is_post : Bool) × (offered : Notes) × IsTaken (chunk_of s) (pair_of to me view (records to) (records me)) message is_post offered chunk
          taken = when_taking (chunk_of s) (pair_of to me view (records to) (records me)) message chunk takes (pairs to me peers)

          the_offer : Offers s taken.0 message taken.1 (view.header to) (view.chunk to)
          the_offer = offers s to me false taken.0 message taken.1 (view.header to) (view.chunk to) (records to) (consistent.0 to low_to) (senders to low_to) taken.2.sending

          same_bytes : bytes_from taken.1 0 (chunk_bytes (chunk_of s) message) ≡ bytes_from chunk 0 (chunk_bytes (chunk_of s) message)
          same_bytes = bytes_same taken.1 chunk (view.chunk to) (chunk_words (chunk_of s) message) the_offer.whole whole the_offer.words taken.2.loaded 0 (chunk_bytes (chunk_of s) message) (chunk_within (chunk_of s) message)

          same_message : with_chunk (chunk_of s) message chunk ≡ with_chunk (chunk_of s) message taken.1
          same_message = sym (ap (λ (b : List ℕ). record message { chunks = suc message.chunks; bytes = message.bytes ++ b }) same_bytes)

          old_passed : passed_calls s records me ≡ (records me).calls
          old_passed = ap (λ (st : Stage). (records me).calls ++ passed_open s me st records) is ∙ append-nil (records me).calls

          by_last : (b : Bool) → is_last (chunk_of s) message ≡ b → GrowsBy (RaiseSignal Ready to)
          by_last false more =
              quiet s me records (new_of (RaiseSignal Ready to)) refl bars
              (ap (λ (st : Stage). calls_received (chunk_of s) st (records me).calls) is ∙ ap (λ (b : Bool). finished_if b (recv_from i (message_of (with_chunk (chunk_of s) message chunk))) (records me).calls) more)
              refl
              (ap (λ (st : Stage). passed_open s me (raise_ready (chunk_of s) st) records) is
              ∙ ap (λ (b : Bool). passed_open s me (if b then Idle else Between i (with_chunk (chunk_of s) message chunk)) records) more
              ∙ sym (ap (λ (st : Stage). passed_open s me st records) is))
          by_last true last = by_post taken.0 refl
            where
              new_calls : calls_received (chunk_of s) (records me).stage (records me).calls ≡ (records me).calls ++ recv_from to (message_of (with_chunk (chunk_of s) message taken.1)) ∷ []
              new_calls =
                  ap (λ (st : Stage). calls_received (chunk_of s) st (records me).calls) is ∙ ap (λ (b : Bool). finished_if b (recv_from i (message_of (with_chunk (chunk_of s) message chunk))) (records me).calls) last
                  ∙ ap₂ (λ (k : ℕ) (m : Progress). (records me).calls ++ recv_from k (message_of m) ∷ []) from_is same_message

              new_stage : raise_ready (chunk_of s) (records me).stage ≡ Idle
              new_stage = ap (raise_ready (chunk_of s)) is ∙ ap (λ (b : Bool). if b then Idle else Between i (with_chunk (chunk_of s) message chunk)) last

              receives : passed_calls s (next_of (RaiseSignal Ready to)) me ≡ passed_calls s records me ++ recv_from to (message_of (with_chunk (chunk_of s) message taken.1)) ∷ []
              receives =
                  passed_now s me records (new_of (RaiseSignal Ready to)) refl bars
                  ∙ ap₂ (λ (l : List DataCall) (st : Stage). l ++ passed_open s me st (next_of (RaiseSignal Ready to))) new_calls new_stage
                  ∙ append-nil ((records me).calls ++ recv_from to (message_of (with_chunk (chunk_of s) message taken.1)) ∷ [])
                  ∙ ap (λ (l : List DataCall). l ++ recv_from to (message_of (with_chunk (chunk_of s) message taken.1)) ∷ []) (sym old_passed)

              received_other : (k : ℕ) → k ≢ to → received_messages k (calls_received (chunk_of s) (records me).stage (records me).calls) ≡ received_messages k (records me).calls
              received_other k other =
                  ap (received_messages k) new_calls ∙ received_messages-recv k (records me).calls to (message_of (with_chunk (chunk_of s) message taken.1))
                  ∙ message_there (received_messages k (records me).calls) to k (message_of (with_chunk (chunk_of s) message taken.1)) (test_apart to k (λ same. other (sym same)))

              received_here : received_messages to (next_of (RaiseSignal Ready to) me).calls ≡ received_messages to (records me).calls ++ message_of (with_chunk (chunk_of s) message taken.1) ∷ []
              received_here =
                  ap (λ (rec : Record). received_messages to rec.calls) (put_here records me me (new_of (RaiseSignal Ready to)) refl)
                  ∙ ap (received_messages to) new_calls ∙ received_messages-recv to (records me).calls to (message_of (with_chunk (chunk_of s) message taken.1))
                  ∙ message_here (received_messages to (records me).calls) to to (message_of (with_chunk (chunk_of s) message taken.1)) (test_same to to refl)

              sent_me : (j : ℕ) → sent_messages j (next_of (RaiseSignal Ready to) me).calls ≡ sent_messages j (records me).calls
              sent_me j = sent_now s me records (new_of (RaiseSignal Ready to)) refl bars j ∙ ap (sent_messages j) new_calls ∙ sent_messages-recv j (records me).calls to (message_of (with_chunk (chunk_of s) message taken.1))

              slot_me : slot_of s (next_of (RaiseSignal Ready to)) me ≡ slot_of s records me
              slot_me = slot_now s me records (new_of (RaiseSignal Ready to)) refl bars
                  ∙ slot_at_rank s me (records me).post records (next_of (RaiseSignal Ready to)) (received_at s me records (new_of (RaiseSignal Ready to)) refl bars me (received_other me (λ same. apart (sym same)))) sent_me

              slot_else : (k : ℕ) → k ≢ to → slot_of s (next_of (RaiseSignal Ready to)) k ≡ slot_of s records k
              slot_else k other =
                  ⊎_elim
                  (λ (same : k ≡ me). subst (λ (j : ℕ). slot_of s (next_of (RaiseSignal Ready to)) j ≡ slot_of s records j) (sym same) slot_me)
                  (λ (away : k ≢ me). slot_stays s me records (new_of (RaiseSignal Ready to)) refl bars k away (received_other k other))
                  (equal_or_not k me)

              -- the sender is in its send
              a_pair : taken.0 ≡ false → GrowsBy (RaiseSignal Ready to)
              a_pair sends =
                  grows_by_pair s.nue (setup_key s) (passed_calls s records) (passed_calls s (next_of (RaiseSignal Ready to))) (slot_of s records) (slot_of s (next_of (RaiseSignal Ready to))) to
                  (record { to = me; head = message.head; bytes = (with_chunk (chunk_of s) message taken.1).bytes })
                  apart empty sent_call receives
                  (λ k not_to not_me. passed_stays s me records (new_of (RaiseSignal Ready to)) refl bars k not_me (received_other k not_to))
                  slots
                where
                  sending : sending_side me (records to).stage (records to).post ≡ Offering false false message taken.1
                  sending = taken.2.sending ∙ ap (λ (b : Bool). Offering false b message taken.1) sends

                  stage_to : (records to).stage ≡ Sending me Raised message taken.1
                  stage_to = offering_sends me (records to).stage (records to).post message taken.1 sending

                  post_to_none : (records to).post ≡ None
                  post_to_none = no_post_beside s to (records to).post (records to).stage (consistent.0 to low_to).post (ap is_free stage_to)

                  empty : slot_of s records to ≡ None
                  empty = ap (λ (p : Option InFlight). slot_by (chunk_of s) to p records) post_to_none

                  level : sent_messages me (records to).calls ≡ received_messages to (records me).calls
                  level = taken.2.level ∙ ap (λ (b : Bool). received_messages to (records me).calls ++ pending (chunk_of s) b message taken.1) sends ∙ append-nil (received_messages to (records me).calls)

                  before_it : passed_calls s records to ≡ (records to).calls
                  before_it =
                      ap (λ (st : Stage). (records to).calls ++ passed_open s to st records) stage_to
                      ∙ ap (λ (b : Bool). (records to).calls ++ (if b then send_to me (message_of (with_chunk (chunk_of s) message taken.1)) ∷ [] else [])) (not_received (received_messages to (records me).calls) (sent_messages me (records to).calls) (sym level))
                      ∙ append-nil (records to).calls

                  through : is_received_ahead to me (next_of (RaiseSignal Ready to)) ≡ true
                  through =
                      ap₂ (λ (a b : List Message). length a == suc (length b)) received_here (sent_at_rank s me records (new_of (RaiseSignal Ready to)) refl bars to apart me)
                      ∙ test_same (length (received_messages to (records me).calls ++ message_of (with_chunk (chunk_of s) message taken.1) ∷ [])) (suc (length (sent_messages me (records to).calls)))
                      (one_more (received_messages to (records me).calls) (message_of (with_chunk (chunk_of s) message taken.1)) ∙ ap (λ (l : List Message). suc (length l)) (sym level))

                  sent_call : passed_calls s (next_of (RaiseSignal Ready to)) to ≡ passed_calls s records to ++ send_to me (message_of (with_chunk (chunk_of s) message taken.1)) ∷ []
                  sent_call =
                      ap (λ (rec : Record). rec.calls ++ passed_open s to rec.stage (next_of (RaiseSignal Ready to))) (put_there records me to (new_of (RaiseSignal Ready to)) apart)
                      ∙ ap (λ (st : Stage). (records to).calls ++ passed_open s to st (next_of (RaiseSignal Ready to))) stage_to
                      ∙ ap (λ (b : Bool). (records to).calls ++ (if b then send_to me (message_of (with_chunk (chunk_of s) message taken.1)) ∷ [] else [])) through
                      ∙ ap (λ (l : List DataCall). l ++ send_to me (message_of (with_chunk (chunk_of s) message taken.1)) ∷ []) (sym before_it)

                  slots : (k : ℕ) → slot_of s (next_of (RaiseSignal Ready to)) k ≡ slot_of s records k
                  slots k =
                      ⊎_elim
                      (λ (same : k ≡ to). subst (λ (j : ℕ). slot_of s (next_of (RaiseSignal Ready to)) j ≡ slot_of s records j) (sym same)
                      (ap (λ (rec : Record). slot_by (chunk_of s) to rec.post (next_of (RaiseSignal Ready to))) (put_there records me to (new_of (RaiseSignal Ready to)) apart)
                      ∙ ap (λ (p : Option InFlight). slot_by (chunk_of s) to p (next_of (RaiseSignal Ready to))) post_to_none ∙ sym empty))
                      (λ (other : k ≢ to). slot_else k other)
                      (equal_or_not k to)

              -- the message was posted
              a_take : taken.0 ≡ true → GrowsBy (RaiseSignal Ready to)
              a_take posts =
                  grows_by_take s.nue (setup_key s) (passed_calls s records) (passed_calls s (next_of (RaiseSignal Ready to))) (slot_of s records) (slot_of s (next_of (RaiseSignal Ready to))) to
                  (record { to = on_way.to; head = on_way.head; bytes = (with_chunk (chunk_of s) (fresh_message on_way.head) on_way.chunk).bytes })
                  full gain stay empty slot_else
                where
                  sending : sending_side me (records to).stage (records to).post ≡ Offering false true message taken.1
                  sending = taken.2.sending ∙ ap (λ (b : Bool). Offering false b message taken.1) posts

                  posted : IsPostOf me (records to).post message taken.1
                  posted = offering_posts me (records to).stage (records to).post false message taken.1 sending

                  on_way : InFlight
                  on_way = posted.message_on_way

                  whole_message : with_chunk (chunk_of s) message taken.1 ≡ with_chunk (chunk_of s) (fresh_message on_way.head) on_way.chunk
                  whole_message = sym (ap₂ (λ (m : Progress) (c : Notes). with_chunk (chunk_of s) m c) posted.begun_is posted.chunk_is)

                  level : sent_messages me (records to).calls ≡ received_messages to (records me).calls ++ message_of (with_chunk (chunk_of s) message taken.1) ∷ []
                  level = taken.2.level ∙ ap (λ (b : Bool). received_messages to (records me).calls ++ pending (chunk_of s) b message taken.1) posts

                  full : slot_of s records to ≡ Some (record { to = on_way.to; head = on_way.head; bytes = (with_chunk (chunk_of s) (fresh_message on_way.head) on_way.chunk).bytes })
                  full =
                      ap (λ (p : Option InFlight). slot_by (chunk_of s) to p records) posted.is
                      ∙ ap (λ (b : Bool). if b then None else Some (record { to = on_way.to; head = on_way.head; bytes = (with_chunk (chunk_of s) (fresh_message on_way.head) on_way.chunk).bytes }))
                      (ap (λ (j : ℕ). length (received_messages to (records j).calls) == length (sent_messages j (records to).calls)) posted.to
                      ∙ test_apart (length (received_messages to (records me).calls)) (length (sent_messages me (records to).calls))
                      (λ same. let longer = one_more (received_messages to (records me).calls) (message_of (with_chunk (chunk_of s) message taken.1)) in let even = ap length level in absurd (omega (arith, same, longer, even))))

                  empty : slot_of s (next_of (RaiseSignal Ready to)) to ≡ None
                  empty =
                      ap (λ (rec : Record). slot_by (chunk_of s) to rec.post (next_of (RaiseSignal Ready to))) (put_there records me to (new_of (RaiseSignal Ready to)) apart)
                      ∙ ap (λ (p : Option InFlight). slot_by (chunk_of s) to p (next_of (RaiseSignal Ready to))) posted.is
                      ∙ ap (λ (b : Bool). if b then None else Some (record { to = on_way.to; head = on_way.head; bytes = (with_chunk (chunk_of s) (fresh_message on_way.head) on_way.chunk).bytes }))
                      (ap (λ (j : ℕ). length (received_messages to (next_of (RaiseSignal Ready to) j).calls) == length (sent_messages j (next_of (RaiseSignal Ready to) to).calls)) posted.to
                      ∙ ap₂ (λ (a b : List Message). length a == length b) received_here (sent_at_rank s me records (new_of (RaiseSignal Ready to)) refl bars to apart me ∙ level)
                      ∙ test_same (length (received_messages to (records me).calls ++ message_of (with_chunk (chunk_of s) message taken.1) ∷ [])) (length (received_messages to (records me).calls ++ message_of (with_chunk (chunk_of s) message taken.1) ∷ [])) refl)

                  gain : passed_calls s (next_of (RaiseSignal Ready to)) on_way.to ≡ passed_calls s records on_way.to ++ Recv to on_way.head (with_chunk (chunk_of s) (fresh_message on_way.head) on_way.chunk).bytes ∷ []
                  gain =
                      subst (λ (j : ℕ). passed_calls s (next_of (RaiseSignal Ready to)) j ≡ passed_calls s records j ++ Recv to on_way.head (with_chunk (chunk_of s) (fresh_message on_way.head) on_way.chunk).bytes ∷ []) (sym posted.to)
                      (receives ∙ ap (λ (m : Progress). passed_calls s records me ++ recv_from to (message_of m) ∷ []) whole_message)

                  free : is_free (records to).stage ≡ true
                  free = free_of (records to).post (consistent.0 to low_to).post posted.is
                    where
                      free_of : (p : Option InFlight) → IsPosted s to (records to).stage p → p ≡ Some on_way → is_free (records to).stage ≡ true
                      free_of None beside is_some_post = absurd cc
                      free_of (Some p) beside is_some_post = beside.free

                  stay : (k : ℕ) → k ≢ on_way.to → passed_calls s (next_of (RaiseSignal Ready to)) k ≡ passed_calls s records k
                  stay k other =
                      let not_me : k ≢ me = λ same. other (same ∙ sym posted.to) in
                      ⊎_elim
                      (λ (same : k ≡ to). subst (λ (j : ℕ). passed_calls s (next_of (RaiseSignal Ready to)) j ≡ passed_calls s records j) (sym same)
                      (ap (λ (rec : Record). rec.calls ++ passed_open s to rec.stage (next_of (RaiseSignal Ready to))) (put_there records me to (new_of (RaiseSignal Ready to)) apart)
                      ∙ ap (λ (l : List DataCall). (records to).calls ++ l) (open_free s to (records to).stage records (next_of (RaiseSignal Ready to)) free (gathers_alike s me records (new_of (RaiseSignal Ready to)) refl bars to))))
                      (λ (away : k ≢ to). passed_stays s me records (new_of (RaiseSignal Ready to)) refl bars k not_me (received_other k away))
                      (equal_or_not k to)

              by_post : (b : Bool) → taken.0 ≡ b → GrowsBy (RaiseSignal Ready to)
              by_post false sends = a_pair sends
              by_post true posts = a_take posts
      by_stage Idle is = not_allowed Idle is refl
      by_stage (Drafting header chunk) is = not_allowed (Drafting header chunk) is refl
      by_stage (Sending j part message chunk) is = not_allowed (Sending j part message chunk) is refl
      by_stage (Between from message) is = not_allowed (Between from message) is refl
      by_stage (Barrier c seen released) is = not_allowed (Barrier c seen released) is refl
