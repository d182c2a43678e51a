-- In which phase a pair is, by one side or one flag of it.
use Rattle.std.proofs.Common.{◌≡◌, ℕ, Bool, true, false, ◌==◌, if◌then◌else◌, [], Option, Some, None, ap, subst, arith}
use Rattle.scc_base.specs.Heads.{MessageHead}
use Rattle.scc_proto.specs.Messages.{Notes, Progress}
use Rattle.scc_proto.specs.Stages.{Part, Sending, InFlight}
use Rattle.scc_proto.specs.Pairs.{Resting, Offering, Receiving, side_of_part, side_of_post, sending_side, Pair, AtRest, IsRaised, IsTaken, IsReady, Phase, InRest, InRaised, InTaken, InReady}

-- nothing is raised to the receiver
pub at_rest : (size : ℕ) (x : Pair) (m : Option Progress) → x.sending ≡ Resting m → Phase size x → AtRest x m
at_rest size x m is (InRest through p) = let e : through ≡ m = cc (p.sending, is) in subst (λ (o : Option Progress). AtRest x o) e p
at_rest size x m is (InRaised through head is_post chunk p) = absurd (cc (p.sending, is))
at_rest size x m is (InTaken message is_post chunk words p) = absurd (cc (p.sending, is))
at_rest size x m is (InReady through is_answered is_post message chunk p) = absurd (cc (p.sending, is))

-- the receiver has taken the chunk, as the sender has seen
pub when_answered : (size : ℕ) (x : Pair) (is_post : Bool) (message : Progress) (chunk : Notes) → x.sending ≡ Offering true is_post message chunk → Phase size x
    → (through : Option Progress) × IsReady size x through true is_post message chunk
when_answered size x is_post message chunk is (InRest through p) = absurd (cc (p.sending, is))
when_answered size x is_post message chunk is (InRaised through head b c p) = absurd (cc (p.sending, is))
when_answered size x is_post message chunk is (InTaken m b c words p) = absurd (cc (p.sending, is))
when_answered size x is_post message chunk is (InReady through a b m c p) =
    let ea : a ≡ true = cc (p.sending, is) in
    let eb : b ≡ is_post = cc (p.sending, is) in
    let em : m ≡ message = cc (p.sending, is) in
    let ec : c ≡ chunk = cc (p.sending, is) in (
      through,
      subst (λ (y : Bool). IsReady size x through y is_post message chunk) ea (subst (λ (y : Bool). IsReady size x through a y message chunk) eb
          (subst (λ (y : Progress). IsReady size x through a b y chunk) em (subst (λ (y : Notes). IsReady size x through a b m y) ec p))),
    )

-- the receiver takes the chunk
pub when_taking : (size : ℕ) (x : Pair) (message : Progress) (words : Notes) → x.taking ≡ Receiving message words → Phase size x
    → (is_post : Bool) × (chunk : Notes) × IsTaken size x message is_post chunk words
when_taking size x message words is (InRest through p) = absurd (cc (p.taking, is))
when_taking size x message words is (InRaised through head b c p) = absurd (cc (p.taking, is))
when_taking size x message words is (InTaken m b c w p) =
    let em : m ≡ message = cc (p.taking, is) in
    let ew : w ≡ words = cc (p.taking, is) in
    (b, c, subst (λ (y : Progress). IsTaken size x y b c words) em (subst (λ (y : Notes). IsTaken size x m b c y) ew p))
when_taking size x message words is (InReady through a b m c p) = absurd (cc (p.taking, is))

-- what a raised pair is, in one record
pub record Raise (size : ℕ) (x : Pair) : Type 0 where
  pub through : Option Progress
  pub head : MessageHead
  pub is_post : Bool
  pub chunk : Notes
  pub is : IsRaised size x through head is_post chunk

-- what a ready pair is, in one record
pub record Ready (size : ℕ) (x : Pair) : Type 0 where
  pub through : Option Progress
  pub is_answered : Bool
  pub is_post : Bool
  pub message : Progress
  pub chunk : Notes
  pub is : IsReady size x through is_answered is_post message chunk

-- `sent` was seen set
pub when_seen : (size : ℕ) (x : Pair) (header : Notes) → x.notes ≡ Some header → Phase size x → Raise size x
when_seen size x header is (InRest through p) = absurd (cc (p.notes, is))
when_seen size x header is (InRaised through head b c p) = record { through = through; head = head; is_post = b; chunk = c; is = p }
when_seen size x header is (InTaken m b c w p) = absurd (cc (p.notes, is))
when_seen size x header is (InReady through a b m c p) = absurd (cc (p.notes, is))

-- `sent` is set
pub when_sent : (size : ℕ) (x : Pair) → x.sent_flag ≡ 1 → Phase size x → Raise size x
when_sent size x is (InRest through p) = absurd (omega (arith, p.sent_flag, is))
when_sent size x is (InRaised through head b c p) = record { through = through; head = head; is_post = b; chunk = c; is = p }
when_sent size x is (InTaken m b c w p) = absurd (omega (arith, p.sent_flag, is))
when_sent size x is (InReady through a b m c p) = absurd (omega (arith, p.sent_flag, is))

-- `ready` is set
pub when_ready : (size : ℕ) (x : Pair) → x.ready_flag ≡ 1 → Phase size x → Ready size x
when_ready size x is (InRest through p) = absurd (omega (arith, p.ready_flag, is))
when_ready size x is (InRaised through head b c p) = absurd (omega (arith, p.ready_flag, is))
when_ready size x is (InTaken m b c w p) = absurd (omega (arith, p.ready_flag, is))
when_ready size x is (InReady through a b m c p) = record { through = through; is_answered = a; is_post = b; message = m; chunk = c; is = p }

-- a sender's side toward its receiver, and toward another rank
pub sending_here : (to j : ℕ) (part : Part) (message : Progress) (chunk : Notes) (post : Option InFlight) → (j == to) ≡ true
    → sending_side to (Sending j part message chunk) post ≡ side_of_part part message chunk
sending_here to j part message chunk post t = ap (λ b. if b then side_of_part part message chunk else Resting None) t

pub sending_there : (to j : ℕ) (part : Part) (message : Progress) (chunk : Notes) (post : Option InFlight) → (j == to) ≡ false
    → sending_side to (Sending j part message chunk) post ≡ Resting None
sending_there to j part message chunk post t = ap (λ b. if b then side_of_part part message chunk else Resting None) t

pub post_here : (to : ℕ) (post : InFlight) → (post.to == to) ≡ true → side_of_post to (Some post) ≡ Offering post.is_answered true (record { head = post.head; chunks = 0; bytes = [] }) post.chunk
post_here to post t = ap (λ b. if b then Offering post.is_answered true (record { head = post.head; chunks = 0; bytes = [] }) post.chunk else Resting None) t

pub post_there : (to : ℕ) (post : InFlight) → (post.to == to) ≡ false → side_of_post to (Some post) ≡ Resting None
post_there to post t = ap (λ b. if b then Offering post.is_answered true (record { head = post.head; chunks = 0; bytes = [] }) post.chunk else Resting None) t
