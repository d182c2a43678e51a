-- The records tell every flag and every register; records that are alike tell the same flags.
use Rattle.std.proofs.Common.{◌≡◌, ℕ, suc, ◌+◌, ◌-◌, ◌%◌, ◌==◌, Bool, true, false, if◌then◌else◌, List, ◌++◌, length, Option, Some, None, option_map, refl, sym, ◌∙◌, ap, arith, length-append}
use Rattle.std.proofs.lemmas.Option.{same_Some}
use Rattle.scc_base.specs.Calls.{Message}
use Rattle.scc_base.specs.Heads.{MessageHead}
use Rattle.scc_base.specs.Setups.{SetupView, place_of, root_of}
use Rattle.scc_base.specs.declared.signals.Signal.{Signal}
use Rattle.scc_base.specs.declared.signals.Signal.TheVariants.{Sent, Ready}
use Rattle.scc_proto.specs.Messages.{Notes, Progress, fresh_message, is_last, with_chunk, sent_messages, received_messages}
use Rattle.scc_proto.specs.Stages.{Stage, Idle, Drafting, Sending, Between, Taking, Barrier, InFlight, Record}
use Rattle.scc_proto.specs.Words.{Memory, are_peers}
use Rattle.scc_proto.specs.Records.{chunk_of}
use Rattle.scc_proto.specs.Views.{view_of, SameFlagWords}
use Rattle.scc_proto.specs.Like.{as_unanswered, Like}
use Rattle.scc_proto.specs.Pairs.{SendingSide, Resting, Offering, side_of_post, sending_side, taking_side, message_so_far, pending, settling, HasArrived, Pair, pair_of, IsRaised, IsReady, Phase, InRest, InRaised, InTaken, InReady}
use Rattle.scc_proto.specs.Groups.{holds_back, releases}
use Rattle.scc_proto.specs.Registers.{Holder, Nobody, HeldBy}
use Rattle.scc_proto.specs.Agreement.{Agrees}
use Rattle.scc_proto.proofs.Tests.{same_or_other, peers_swap}

-- what was sent and not received is one message at most
one_message : (size : ℕ) (p : Bool) (m : Progress) (c : Notes) → length (pending size p m c) + length (settling size p m c) ≡ 1
one_message size true m c = omega arith
one_message size false m c = omega arith

not_both : (size : ℕ) (p : Bool) (m : Progress) (c : Notes) (sent received : List Message) → sent ≡ received ++ pending size p m c → received ≡ sent ++ settling size p m c → ⊥
not_both size p m c sent received a b =
    let x : length sent ≡ length received + length (pending size p m c) = ap length a ∙ length-append received (pending size p m c) in
    let y : length received ≡ length sent + length (settling size p m c) = ap length b ∙ length-append sent (settling size p m c) in
    omega (arith, x, y, one_message size p m c)

-- a raised chunk has not arrived
not_arrived : (b : Bool) (size : ℕ) (p : Bool) (m : Progress) (c : Notes) (through : Option Progress) (sent received : List Message)
    → ((q : Progress) → through ≡ Some q → m ≡ q) → sent ≡ received ++ pending size p m c → HasArrived b size p m c through sent received → ⊥
not_arrived true size p m c through sent received on level arrived = not_both size p m c sent received level arrived.1
not_arrived false size p m c through sent received on level arrived =
    let e : m.chunks ≡ suc m.chunks = ap (λ (q : Progress). q.chunks) (on (with_chunk size m c) arrived.0) in omega (arith, e)

-- a sender's side, whether the `ready` was seen or not
abbrev pub unseen : SendingSide → SendingSide
unseen (Resting through) = Resting through
unseen (Offering is_answered is_post message chunk) = Offering false is_post message chunk

-- one pair by two memories, and by records that are alike
record SameRecords (x y : Pair) : Type 0 where
  sending : unseen x.sending ≡ unseen y.sending
  taking : x.taking ≡ y.taking
  sent : x.sent ≡ y.sent
  received : x.received ≡ y.received

module _ (size : ℕ) (x y : Pair) (same : SameRecords x y) where
  raised_ready : (t u : Option Progress) (h : MessageHead) (p : Bool) (c : Notes) (a q : Bool) (m : Progress) (w : Notes) → IsRaised size x t h p c → IsReady size y u a q m w → ⊥
  raised_ready t u h p c a q m w raised ready =
      let side : Offering false p (message_so_far t h) c ≡ Offering false q m w = sym (ap unseen raised.sending) ∙ same.sending ∙ ap unseen ready.sending in
      let ep : p ≡ q = cc (side) in let em : message_so_far t h ≡ m = cc (side) in let ec : c ≡ w = cc (side) in
      let et : t ≡ u = cc (raised.taking, same.taking, ready.taking) in
      let level : y.sent ≡ y.received ++ pending size q m w =
      sym same.sent ∙ raised.level ∙ (λ i. same.received i ++ pending size (ep i) (em i) (ec i)) in
      not_arrived (is_last size m) size q m w u y.sent y.received (λ r is. sym em ∙ ap (λ (o : Option Progress). message_so_far o h) (et ∙ is)) level ready.arrived

  -- a side that offers nothing, against one that offers a chunk
  rest_offers : (t : Option Progress) (a p : Bool) (m : Progress) (c : Notes) → x.sending ≡ Resting t → y.sending ≡ Offering a p m c → ⊥
  rest_offers t a p m c one two =
      let side : Resting t ≡ Offering false p m c = sym (ap unseen one) ∙ same.sending ∙ ap unseen two in cc (side)

record SameFlags (x y : Pair) : Type 0 where
  sent_flag : x.sent_flag ≡ y.sent_flag
  ready_flag : x.ready_flag ≡ y.ready_flag

reversed : (x y : Pair) → SameRecords x y → SameRecords y x
reversed x y same = record { sending = sym same.sending; taking = sym same.taking; sent = sym same.sent; received = sym same.received }

flags_by : (size : ℕ) (x y : Pair) → SameRecords x y → Phase size x → Phase size y → SameFlags x y
flags_by size x y same (InRest t p) (InRest u q) = record { sent_flag = p.sent_flag ∙ sym q.sent_flag; ready_flag = p.ready_flag ∙ sym q.ready_flag }
flags_by size x y same (InRest t p) (InRaised u h b c q) = absurd (rest_offers size x y same t false b (message_so_far u h) c p.sending q.sending)
flags_by size x y same (InRest t p) (InTaken m b c w q) = absurd (rest_offers size x y same t false b m c p.sending q.sending)
flags_by size x y same (InRest t p) (InReady u a b m c q) = absurd (rest_offers size x y same t a b m c p.sending q.sending)
flags_by size x y same (InRaised t h b c p) (InRest u q) = absurd (rest_offers size y x (reversed x y same) u false b (message_so_far t h) c q.sending p.sending)
flags_by size x y same (InRaised t h b c p) (InRaised u k d e q) = record { sent_flag = p.sent_flag ∙ sym q.sent_flag; ready_flag = p.ready_flag ∙ sym q.ready_flag }
flags_by size x y same (InRaised t h b c p) (InTaken m d e w q) = absurd (cc (p.taking, same.taking, q.taking))
flags_by size x y same (InRaised t h b c p) (InReady u a d m e q) = absurd (raised_ready size x y same t u h b c a d m e p q)
flags_by size x y same (InTaken m b c w p) (InRest u q) = absurd (rest_offers size y x (reversed x y same) u false b m c q.sending p.sending)
flags_by size x y same (InTaken m b c w p) (InRaised u k d e q) = absurd (cc (p.taking, same.taking, q.taking))
flags_by size x y same (InTaken m b c w p) (InTaken n d e v q) = record { sent_flag = p.sent_flag ∙ sym q.sent_flag; ready_flag = p.ready_flag ∙ sym q.ready_flag }
flags_by size x y same (InTaken m b c w p) (InReady u a d n e q) = absurd (cc (p.taking, same.taking, q.taking))
flags_by size x y same (InReady t a b m c p) (InRest u q) = absurd (rest_offers size y x (reversed x y same) u a b m c q.sending p.sending)
flags_by size x y same (InReady t a b m c p) (InRaised u k d e q) = absurd (raised_ready size y x (reversed x y same) u t k d e a b m c q p)
flags_by size x y same (InReady t a b m c p) (InTaken n d e v q) = absurd (cc (p.taking, same.taking, q.taking))
flags_by size x y same (InReady t a b m c p) (InReady u f d n e q) = record { sent_flag = p.sent_flag ∙ sym q.sent_flag; ready_flag = p.ready_flag ∙ sym q.ready_flag }

-- the side of a posted message, whether its `ready` was seen or not
unseen_post : (b a : Bool) (m : Progress) (c : Notes) → unseen (if b then Offering a true m c else Resting None) ≡ (if b then Offering false true m c else Resting None)
unseen_post true a m c = refl
unseen_post false a m c = refl

like_post : (r : ℕ) (p q : Option InFlight) → option_map as_unanswered p ≡ option_map as_unanswered q → unseen (side_of_post r p) ≡ unseen (side_of_post r q)
like_post r None None same = refl
like_post r None (Some q) same = absurd (cc (same))
like_post r (Some p) None same = absurd (cc (same))
like_post r (Some p) (Some q) same =
    unseen_post (p.to == r) p.is_answered (fresh_message p.head) p.chunk
    ∙ ap (λ (x : InFlight). if x.to == r then Offering false true (fresh_message x.head) x.chunk else Resting None) (same_Some (as_unanswered p) (as_unanswered q) same)
    ∙ sym (unseen_post (q.to == r) q.is_answered (fresh_message q.head) q.chunk)

like_side : (r : ℕ) (st : Stage) (p q : Option InFlight) → option_map as_unanswered p ≡ option_map as_unanswered q → unseen (sending_side r st p) ≡ unseen (sending_side r st q)
like_side r Idle p q same = like_post r p q same
like_side r (Drafting header chunk) p q same = like_post r p q same
like_side r (Sending to part message chunk) p q same = refl
like_side r (Between from message) p q same = like_post r p q same
like_side r (Taking from message chunk) p q same = like_post r p q same
like_side r (Barrier comm seen released) p q same = like_post r p q same

pub like_self : (rec : Record) → Like rec rec
like_self rec = record { stage = refl; post = refl; flips = λ comm. refl; calls = refl }

pub like_sym : (rec other : Record) → Like rec other → Like other rec
like_sym rec other like = record { stage = sym like.stage; post = sym like.post; flips = λ comm. sym (like.flips comm); calls = sym like.calls }

pub like_both : (rec other third : Record) → Like rec other → Like other third → Like rec third
like_both rec other third one two = record {
  stage = one.stage ∙ two.stage;
  post = one.post ∙ two.post;
  flips = λ comm. one.flips comm ∙ two.flips comm;
  calls = one.calls ∙ two.calls;
}

-- records that are alike tell the same flags
module _ (s : SetupView) (one other : Memory) (records recs : ℕ → Record) (a : Agrees s one records) (b : Agrees s other recs) (like : (k : ℕ) → Like (records k) (recs k)) where
  same_records : (from to : ℕ) → SameRecords (pair_of from to (view_of s one) (records from) (records to)) (pair_of from to (view_of s other) (recs from) (recs to))
  same_records from to = record {
    sending = like_side to (records from).stage (records from).post (recs from).post (like from).post
        ∙ ap (λ (st : Stage). unseen (sending_side to st (recs from).post)) (like from).stage;
    taking = ap (taking_side from) (like to).stage;
    sent = ap (sent_messages to) (like from).calls;
    received = ap (received_messages from) (like to).calls;
  }

  like_flags : (from to : ℕ) → are_peers s from to ≡ true → SameFlags (pair_of from to (view_of s one) (records from) (records to)) (pair_of from to (view_of s other) (recs from) (recs to))
  like_flags from to peers = flags_by (chunk_of s) _ _ (same_records from to) (a.pairs from to peers) (b.pairs from to peers)

  like_signal : (signal : Signal) (by at : ℕ) → are_peers s by at ≡ true → (view_of s one).signal signal by at ≡ (view_of s other).signal signal by at
  like_signal Sent by at peers = (like_flags by at peers).sent_flag
  like_signal Ready by at peers = (like_flags at by (peers_swap s by at peers)).ready_flag

  same_releases : (comm place r : ℕ) → releases comm place (records r) ≡ releases comm place (recs r)
  same_releases comm place r = λ i. if holds_back comm place ((like r).stage i) then (like r).flips comm i - 1 else (like r).flips comm i

  pub flags_like : SameFlagWords s (view_of s one) (view_of s other)
  flags_like = record {
    signal = like_signal;
    gather = λ comm r present below.
        (a.groups comm r present below).gather_flag ∙ ap (λ (n : ℕ). n % 2) ((like r).flips comm) ∙ sym (b.groups comm r present below).gather_flag;
    release = λ comm r present below. let g = a.groups comm r present below in let h = b.groups comm r present below in
        same_or_other ((view_of s one).release comm r ≡ (view_of s other).release comm r) (place_of s comm r) 0
        (λ t e. g.root e ∙ sym (h.root e))
        (λ t ne. (g.member ne).release_flag ∙ ap (λ (n : ℕ). n % 2) (same_releases comm (place_of s comm r) (root_of s comm r)) ∙ sym (h.member ne).release_flag);
  }

module _ (s : SetupView) (one other : Memory) (records : ℕ → Record) (a : Agrees s one records) (b : Agrees s other records) where
  pub flags_told : SameFlagWords s (view_of s one) (view_of s other)
  flags_told = flags_like s one other records records a b (λ k. like_self (records k))

  same_register : (core : ℕ) → Holder s.nue (one.register core) core records → Holder s.nue (other.register core) core records → one.register core ≡ other.register core
  same_register core (Nobody p free) (Nobody q all) = p ∙ sym q
  same_register core (Nobody p free) (HeldBy k below q holds others) = absurd (cc (free k below, holds))
  same_register core (HeldBy k below p holds others) (Nobody q free) = absurd (cc (free k below, holds))
  same_register core (HeldBy k below p holds others) (HeldBy l lower q hold rest) = p ∙ sym q

  pub registers_told : (core : ℕ) → one.register core ≡ other.register core
  registers_told core = same_register core (a.registers core).holder (b.registers core).holder
