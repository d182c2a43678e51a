-- Where a look is vain: a raised chunk is not taken, and a posted message stands in its slot.
use Rattle.std.proofs.Common.{◌≡◌, ◌≢◌, ◌⊎◌, inl, inr, ⊎_elim, ℕ, ◌+◌, ◌<◌, ◌==◌, Bool, true, false, if◌then◌else◌, List, [], ◌++◌, length, Option, Some, None, refl, sym, ap, ◌∙◌, subst, arith, length-append, append-nil}
use Rattle.std.proofs.lemmas.Bool.Decides.{nat_tests}
use Rattle.std.proofs.lemmas.Option.{same_Some}
use Rattle.scc_base.specs.Setups.{SetupView}
use Rattle.scc_base.specs.declared.signals.Signal.TheVariants.{Sent}
use Rattle.scc_proto.specs.Agreement.{Agrees}
use Rattle.scc_proto.specs.Legality.{Outgoing}
use Rattle.scc_proto.specs.Messages.{Notes, Message, Progress, fresh_message, is_last, with_chunk, sent_messages, received_messages}
use Rattle.scc_proto.specs.Pairs.{Offering, Receiving, sending_side, taking_side, message_so_far, pending, settling, HasArrived, Pair, pair_of, Phase, InRest, InRaised, InTaken, InReady}
use Rattle.scc_proto.specs.Passed.{slot_by, slot_of}
use Rattle.scc_proto.specs.Records.{chunk_of}
use Rattle.scc_proto.specs.Singles.{is_free, IsPosted, IsInFlight}
use Rattle.scc_proto.specs.Stages.{Raised, Stage, Idle, Drafting, Sending, Between, Taking, Barrier, InFlight, Record}
use Rattle.scc_proto.specs.Views.{view_of}
use Rattle.scc_proto.specs.Words.{Memory}
use Rattle.scc_proto.proofs.Pairs.OfferFacts.{posted_last}
use Rattle.scc_proto.proofs.Pairs.PhaseFacts.{sending_here, post_here}
use Rattle.scc_proto.proofs.Legality.StepLaws.{itself}
use Rattle.scc_proto.proofs.Tests.{eqb_same, eqb_other}
use Rattle.chip_run.specs.Waiting.{SlotWaits, RaiseWaits, TakeWaits, IsLooking}

-- a chunk is raised, and its receiver has not taken it
pub record IsOut (size : ℕ) (x : Pair) (is_post : Bool) (message : Progress) (chunk : Notes) : Type 0 where
  pub level : x.sent ≡ x.received ++ pending size is_post message chunk
  pub seen : (x.sent_flag ≡ 1) ⊎ ((words : Notes) × (x.taking ≡ Receiving message words))

module _ (size : ℕ) (x : Pair) (a p : Bool) (m : Progress) (c : Notes) (is : x.sending ≡ Offering a p m c) where
  raised_out : (through : Option Progress) (head : _) (b : Bool) (w : Notes) → x.sent_flag ≡ 1 → Offering false b (message_so_far through head) w ≡ Offering a p m c
      → x.sent ≡ x.received ++ pending size b (message_so_far through head) w → IsOut size x p m c
  raised_out through head b w flag side level =
      let eb : b ≡ p = cc (side) in let em : message_so_far through head ≡ m = cc (side) in let ew : w ≡ c = cc (side) in
      record { level = level ∙ (λ i. x.received ++ pending size (eb i) (em i) (ew i)); seen = inl flag }

  taken_out : (message : Progress) (b : Bool) (w words : Notes) → x.taking ≡ Receiving message words → Offering false b message w ≡ Offering a p m c
      → x.sent ≡ x.received ++ pending size b message w → IsOut size x p m c
  taken_out message b w words taking side level =
      let eb : b ≡ p = cc (side) in let em : message ≡ m = cc (side) in let ew : w ≡ c = cc (side) in
      record { level = level ∙ (λ i. x.received ++ pending size (eb i) (em i) (ew i)); seen = inr (words, taking ∙ ap (λ (y : Progress). Receiving y words) em) }

  -- a chunk whose `ready` is not set
  pub out_by : x.ready_flag ≢ 1 → Phase size x → IsOut size x p m c
  out_by failed (InRest through q) = absurd (cc (q.sending, is))
  out_by failed (InRaised through head b w q) = raised_out through head b w q.sent_flag (sym q.sending ∙ is) q.level
  out_by failed (InTaken message b w words q) = taken_out message b w words q.taking (sym q.sending ∙ is) q.level
  out_by failed (InReady through answered b message w q) = absurd (failed q.ready_flag)

  -- a chunk that is the last of a posted message, which is not received yet
  pub posted_out : p ≡ true → is_last size m ≡ true → length x.received ≢ length x.sent → Phase size x → IsOut size x p m c
  posted_out post last apart (InRest through q) = absurd (cc (q.sending, is))
  posted_out post last apart (InRaised through head b w q) = raised_out through head b w q.sent_flag (sym q.sending ∙ is) q.level
  posted_out post last apart (InTaken message b w words q) = taken_out message b w words q.taking (sym q.sending ∙ is) q.level
  posted_out post last apart (InReady through answered b message w q) =
      let side : Offering answered b message w ≡ Offering a p m c = sym q.sending ∙ is in
      let eb : b ≡ p = cc (side) in let em : message ≡ m = cc (side) in
      let arrived : HasArrived true size b message w through x.sent x.received =
      subst (λ (t : Bool). HasArrived t size b message w through x.sent x.received) (ap (is_last size) em ∙ last) q.arrived in
      let nothing : settling size b message w ≡ [] = ap (λ (t : Bool). settling size t message w) (eb ∙ post) in
      let same : x.received ≡ x.sent = arrived.1 ∙ ap (λ (l : List Message). x.sent ++ l) nothing ∙ append-nil x.sent in
      absurd (apart (ap length same))

-- the sender has one message more than the receiver
pub one_ahead : (size : ℕ) (x : Pair) (m : Progress) (c : Notes) → IsOut size x true m c → length x.received ≢ length x.sent
one_ahead size x m c out same =
    let longer : length x.sent ≡ length x.received + 1 = ap length out.level ∙ length-append x.received (pending size true m c) in
    omega (arith, longer, same)

-- and as many where the message is not posted
pub as_many : (size : ℕ) (x : Pair) (m : Progress) (c : Notes) → IsOut size x false m c → length x.sent ≡ length x.received
as_many size x m c out = ap length (out.level ∙ append-nil x.received)

-- a receiver that looks takes no chunk
pub looking_awaits : (from : ℕ) (st : Stage) → IsLooking from st → (m : Progress) (w : Notes) → taking_side from st ≡ Receiving m w → ⊥
looking_awaits from Idle looks m w is = cc (is)
looking_awaits from (Drafting header chunk) looks m w is = looks
looking_awaits from (Sending to part message chunk) looks m w is = looks
looking_awaits from (Between i message) looks m w is = cc (is)
looking_awaits from (Taking i message chunk) looks m w is = looks
looking_awaits from (Barrier comm seen released) looks m w is = looks

-- the side of a posted message where nothing else is being sent
pub free_side : (st : Stage) (post : InFlight) → is_free st ≡ true → sending_side post.to st (Some post) ≡ Offering post.is_answered true (fresh_message post.head) post.chunk
free_side Idle post free = post_here post.to post (eqb_same post.to)
free_side (Drafting header chunk) post free = absurd (cc (free))
free_side (Sending to part message chunk) post free = absurd (cc (free))
free_side (Between from message) post free = post_here post.to post (eqb_same post.to)
free_side (Taking from message chunk) post free = post_here post.to post (eqb_same post.to)
free_side (Barrier comm seen released) post free = post_here post.to post (eqb_same post.to)

-- the message that a posted one is in its slot
abbrev pub message_on : SetupView → InFlight → Outgoing
message_on s post = record { to = post.to; head = post.head; bytes = (with_chunk (chunk_of s) (fresh_message post.head) post.chunk).bytes }

module _ (s : SetupView) (memory : Memory) (records : ℕ → Record) (agrees : Agrees s memory records) where
  abbrev pub pair : ℕ → ℕ → Pair
  pair i j = pair_of i j (view_of s memory) (records i) (records j)

  posted_is : (k : ℕ) → k < s.nue → (post : InFlight) → (records k).post ≡ Some post → IsInFlight s k (records k).stage post
  posted_is k low post is = subst (IsPosted s k (records k).stage) is (agrees.singles.0 k low).post

  pub slot_full : (k : ℕ) (post : InFlight) → (records k).post ≡ Some post
      → length (received_messages k (records post.to).calls) ≢ length (sent_messages post.to (records k).calls) → slot_of s records k ≡ Some (message_on s post)
  slot_full k post is apart =
      ap (λ (o : Option InFlight). slot_by (chunk_of s) k o records) is
      ∙ ap (λ (b : Bool). if b then None else Some (message_on s post))
      (eqb_other (length (received_messages k (records post.to).calls)) (length (sent_messages post.to (records k).calls)) apart)

  -- a rank that waits for its slot has a message there
  pub post_in_slot : (k : ℕ) → k < s.nue → (waits : SlotWaits (view_of s memory) k (records k)) → slot_of s records k ≡ Some (message_on s waits.post)
  post_in_slot k low waits =
      let post = waits.post in
      let on = posted_is k low post waits.is_posted in
      let side : sending_side post.to (records k).stage (records k).post ≡ Offering post.is_answered true (fresh_message post.head) post.chunk =
      ap (λ (o : Option InFlight). sending_side post.to (records k).stage o) waits.is_posted ∙ free_side (records k).stage post on.free in
      let out = out_by (chunk_of s) (pair k post.to) post.is_answered true (fresh_message post.head) post.chunk side waits.failed (agrees.pairs k post.to on.peers) in
      slot_full k post waits.is_posted (one_ahead (chunk_of s) (pair k post.to) (fresh_message post.head) post.chunk out)

  -- what a full slot shows of its pair
  pub record FullSlot (i : ℕ) (m : Outgoing) : Type 0 where
    pub post : InFlight
    pub is_posted : (records i).post ≡ Some post
    pub free : is_free (records i).stage ≡ true
    pub message_is : message_on s post ≡ m
    pub out : IsOut (chunk_of s) (pair_of i post.to (view_of s memory) (records i) (records post.to)) true (fresh_message post.head) post.chunk

  pub full_slot : (i : ℕ) → i < s.nue → (m : Outgoing) → slot_of s records i ≡ Some m → FullSlot i m
  full_slot i low m full = by (records i).post refl full
    where
      by_test : (post : InFlight) (b : Bool) → (records i).post ≡ Some post
          → (length (received_messages i (records post.to).calls) == length (sent_messages post.to (records i).calls)) ≡ b
          → (if b then None else Some (message_on s post)) ≡ Some m → FullSlot i m
      by_test post true is test e = absurd (cc (e))
      by_test post false is test e =
          let on = posted_is i low post is in
          let side : sending_side post.to (records i).stage (records i).post ≡ Offering post.is_answered true (fresh_message post.head) post.chunk =
          ap (λ (o : Option InFlight). sending_side post.to (records i).stage o) is ∙ free_side (records i).stage post on.free in
          record {
            post = post;
            is_posted = is;
            free = on.free;
            message_is = same_Some (message_on s post) m e;
            out = posted_out (chunk_of s) (pair i post.to) post.is_answered true (fresh_message post.head) post.chunk side refl
                (posted_last s i (records i) (agrees.singles.0 i low) post is) (apart _ _ test) (agrees.pairs i post.to on.peers);
          }
        where
          apart : (n k : ℕ) → (n == k) ≡ false → n ≢ k
          apart n k t = λ is. absurd (grind (arith, nat_tests))

      by : (o : Option InFlight) → (records i).post ≡ o → slot_by (chunk_of s) i o records ≡ Some m → FullSlot i m
      by None is e = absurd (cc (e))
      by (Some post) is e = by_test post (length (received_messages i (records post.to).calls) == length (sent_messages post.to (records i).calls)) is refl e

  -- a chunk that is out beside a vain look of its receiver
  pub no_take : (i j : ℕ) (p : Bool) (m : Progress) (c : Notes) → IsOut (chunk_of s) (pair_of i j (view_of s memory) (records i) (records j)) p m c
      → TakeWaits s (view_of s memory) j i (records j) → ⊥
  no_take i j p m c out takes =
      ⊎_elim
      (λ (flag : (view_of s memory).signal Sent i j ≡ 1). takes.failed flag)
      (λ (taken : (words : Notes) × (taking_side i (records j).stage ≡ Receiving m words)). looking_awaits i (records j).stage takes.stage m taken.0 taken.1)
      out.seen

  -- a full slot beside a vain look of its receiver
  pub no_fetch : (i j : ℕ) → i < s.nue → (m : Outgoing) → slot_of s records i ≡ Some m → m.to ≡ j → TakeWaits s (view_of s memory) j i (records j) → ⊥
  no_fetch i j low m full mine takes =
      let slot = full_slot i low m full in
      let to_is : slot.post.to ≡ j = ap (λ (o : Outgoing). o.to) slot.message_is ∙ mine in
      no_take i j true (fresh_message slot.post.head) slot.post.chunk
      (subst (λ (x : ℕ). IsOut (chunk_of s) (pair_of i x (view_of s memory) (records i) (records x)) true (fresh_message slot.post.head) slot.post.chunk) to_is slot.out) takes

  -- a raised chunk of a send beside a vain look of its receiver
  pub raise_out : (i to : ℕ) (head : _) (waits : RaiseWaits s (view_of s memory) i to head (records i))
      → IsOut (chunk_of s) (pair_of i to (view_of s memory) (records i) (records to)) false waits.message waits.chunk
  raise_out i to head waits =
      let side : sending_side to (records i).stage (records i).post ≡ Offering false false waits.message waits.chunk =
      ap (λ (st : Stage). sending_side to st (records i).post) waits.stage ∙ sending_here to to Raised waits.message waits.chunk (records i).post (itself to) in
      out_by (chunk_of s) (pair i to) false false waits.message waits.chunk side waits.failed (agrees.pairs i to waits.peers)
