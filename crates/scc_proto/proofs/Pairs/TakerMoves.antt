-- The phases of a pair under the moves of its receiver.
use Rattle.std.proofs.Common.{◌≡◌, ℕ, suc, Bool, true, false, ◌==◌, if◌then◌else◌, List, [], ◌∷◌, ◌++◌, Option, Some, None, option_map, unwrap_or, refl, sym, ◌∙◌, ap, subst, append-nil}
use Rattle.scc_base.specs.Calls.{DataCall, Message}
use Rattle.scc_base.specs.Setups.{SetupView}
use Rattle.scc_proto.specs.Messages.{Notes, note_word, StandsIn, has_all, Progress, fresh_message, is_last, is_whole, is_head, with_chunk, chunk_bytes, chunk_words, message_of, head_of, received_messages, recv_from}
use Rattle.scc_proto.specs.Stages.{Stage, Idle, Drafting, Sending, Between, Taking, Barrier}
use Rattle.scc_proto.specs.Moves.{read_chunk, lower_sent, raise_ready, calls_received, finished_if}
use Rattle.scc_proto.specs.Permission.{may_take, has_taken, says_head}
use Rattle.scc_proto.specs.Records.{chunk_of}
use Rattle.scc_proto.specs.Pairs.{SendingSide, Offering, TakingSide, Awaiting, Receiving, taking_side, Pair, message_so_far, pending, settling, NotesStand, HasArrived, Phase, InRaised, InTaken, InReady, HeaderStands}
use Rattle.scc_proto.proofs.Tests.{same_or_other, same_by_eqb, both_first, both_second}
use Rattle.scc_proto.proofs.Messages.MessageLists.{received_messages-recv, message_here, message_there}
use Rattle.scc_proto.proofs.Pairs.PairFrames.{same_pair}
use Rattle.scc_proto.proofs.Pairs.PhaseFacts.{when_sent, when_seen, when_taking, Raise}
use Rattle.scc_proto.proofs.Words.NoteFacts.{none_stands, note_stands, head_is, bytes_same, chunk_within}
use Rattle.scc_proto.proofs.Pairs.OfferFacts.{Offers}

-- a pair by what its receiver changes
abbrev pub from_taker : ℕ → (sent_flag ready_flag : ℕ) → SendingSide → Stage → Option Notes → (header chunk : ℕ → ℕ) → List Message → List DataCall → Pair
from_taker from f g side st n h c sent calls = record {
  sent_flag = f;
  ready_flag = g;
  sending = side;
  taking = taking_side from st;
  notes = n;
  header = h;
  chunk = c;
  sent = sent;
  received = received_messages from calls;
}

taking_here : (from i : ℕ) (message : Progress) (chunk : Notes) → (i == from) ≡ true → taking_side from (Taking i message chunk) ≡ Receiving message chunk
taking_here from i message chunk t = ap (λ b. if b then Receiving message chunk else Awaiting None) t

taking_there : (from i : ℕ) (message : Progress) (chunk : Notes) → (i == from) ≡ false → taking_side from (Taking i message chunk) ≡ Awaiting None
taking_there from i message chunk t = ap (λ b. if b then Receiving message chunk else Awaiting None) t

between_here : (from i : ℕ) (message : Progress) → (i == from) ≡ true → taking_side from (Between i message) ≡ Awaiting (Some message)
between_here from i message t = ap (λ b. Awaiting (if b then Some message else None)) t

between_there : (from i : ℕ) (message : Progress) → (i == from) ≡ false → taking_side from (Between i message) ≡ Awaiting None
between_there from i message t = ap (λ b. Awaiting (if b then Some message else None)) t

-- ---- looking at `sent`

-- with `sent` set, nothing is noted of the header yet
pub sent_seen : (size : ℕ) (x : Pair) → x.sent_flag ≡ 1 → Phase size x → Phase size (record x { notes = Some [] })
sent_seen size x set phase =
    let r = when_sent size x set phase in
    InRaised r.through r.head r.is_post r.chunk (record { sent_flag = r.is.sent_flag; ready_flag = r.is.ready_flag; sending = r.is.sending; taking = r.is.taking; notes = none_stands x.header; level = r.is.level })

pub sent_looked_at : (size from f g : ℕ) (side : SendingSide) (st : Stage) (n : Option Notes) (h c : ℕ → ℕ) (sent : List Message) (calls : List DataCall) (set : Bool) → (set ≡ true → f ≡ 1)
    → Phase size (from_taker from f g side st n h c sent calls) → Phase size (from_taker from f g side st (if set then Some [] else n) h c sent calls)
sent_looked_at size from f g side st n h c sent calls true told phase = sent_seen size (from_taker from f g side st n h c sent calls) (told refl) phase
sent_looked_at size from f g side st n h c sent calls false told phase = phase

-- ---- reading the header

pub header_read : (size : ℕ) (x : Pair) (k v : ℕ) (n : Option Notes) → x.notes ≡ n → x.header k ≡ v → Phase size x → Phase size (record x { notes = option_map (note_word k v) n })
header_read size x k v None was told phase = same_pair size x (record x { notes = None }) refl refl refl refl (sym was) refl refl refl refl phase
header_read size x k v (Some notes) was told phase =
    let r = when_seen size x notes was phase in
    let stands : StandsIn notes x.header = subst (λ (o : Option Notes). NotesStand o x.header) was r.is.notes in
    InRaised r.through r.head r.is_post r.chunk (record {
      sent_flag = r.is.sent_flag;
      ready_flag = r.is.ready_flag;
      sending = r.is.sending;
      taking = r.is.taking;
      notes = note_stands k v notes x.header stands told;
      level = r.is.level;
    })

-- ---- reading the chunk

chunk_word_read : (size : ℕ) (x y : Pair) (message : Progress) (words : Notes) (k v : ℕ) → x.taking ≡ Receiving message words → y ≡ record x { taking = Receiving message (note_word k v words) } → x.chunk k ≡ v → Phase size x → Phase size y
chunk_word_read size x y message words k v was is told phase =
    let r = when_taking size x message words was phase in
    subst (λ (z : Pair). Phase size z) (sym is) (InTaken message r.0 r.1 (note_word k v words) (record {
      sent_flag = r.2.sent_flag;
      ready_flag = r.2.ready_flag;
      sending = r.2.sending;
      taking = refl;
      notes = r.2.notes;
      loaded = note_stands k v words x.chunk r.2.loaded told;
      level = r.2.level;
    }))

module _ (size from f g : ℕ) (side : SendingSide) (n : Option Notes) (h c : ℕ → ℕ) (sent : List Message) (calls : List DataCall) where
  read_if : (b : Bool) (i k v : ℕ) (message : Progress) (words : Notes) → ((i == from) ≡ true → b ≡ true → c k ≡ v)
      → Phase size (from_taker from f g side (Taking i message words) n h c sent calls)
      → Phase size (from_taker from f g side (if b then Taking i message (note_word k v words) else Taking i message words) n h c sent calls)
  read_if false i k v message words told phase = phase
  read_if true i k v message words told phase = same_or_other (Phase size (from_taker from f g side (Taking i message (note_word k v words)) n h c sent calls)) i from
      (λ here e. chunk_word_read size (from_taker from f g side (Taking i message words) n h c sent calls) (from_taker from f g side (Taking i message (note_word k v words)) n h c sent calls)
      message words k v (taking_here from i message words here)
      (λ j. record { sent_flag = f; ready_flag = g; sending = side; taking = taking_here from i message (note_word k v words) here j; notes = n; header = h; chunk = c; sent = sent; received = received_messages from calls })
      (told here refl) phase)
      (λ there ne. same_pair size (from_taker from f g side (Taking i message words) n h c sent calls) (from_taker from f g side (Taking i message (note_word k v words)) n h c sent calls)
      refl refl refl (taking_there from i message (note_word k v words) there ∙ sym (taking_there from i message words there)) refl refl refl refl refl phase)

  pub chunk_read : (j k v : ℕ) (st : Stage) → (j ≡ from → c k ≡ v)
      → Phase size (from_taker from f g side st n h c sent calls) → Phase size (from_taker from f g side (read_chunk j k v st) n h c sent calls)
  chunk_read j k v Idle told phase = phase
  chunk_read j k v (Drafting header chunk) told phase = phase
  chunk_read j k v (Sending to part message chunk) told phase = phase
  chunk_read j k v (Between i message) told phase = phase
  chunk_read j k v (Taking i message words) told phase = read_if (i == j) i k v message words (λ here b. told (sym (same_by_eqb i j b) ∙ same_by_eqb i from here)) phase
  chunk_read j k v (Barrier comm seen released) told phase = phase

-- ---- lowering `sent`

-- what is raised to the receiver has its header line and chunk in the buffer
abbrev pub Stands : SetupView → Pair → Type 0
Stands s x = (a p : Bool) (m : Progress) (w : Notes) → x.sending ≡ Offering a p m w → Offers s p m w x.header x.chunk

-- the chunk is taken on from what is through
taken_on : (size : ℕ) (x : Pair) (flag : ℕ) (message : Progress) (header : Notes) → x.notes ≡ Some header → flag ≡ 0
    → ((r : Raise size x) → message_so_far r.through r.head ≡ message)
    → Phase size x → Phase size (record x { sent_flag = flag; taking = Receiving message []; notes = None })
taken_on size x flag message header was clear same phase =
    let r = when_seen size x header was phase in
    let e = same r in
    InTaken message r.is_post r.chunk [] (record {
      sent_flag = clear;
      ready_flag = r.is.ready_flag;
      sending = subst (λ (m : Progress). x.sending ≡ Offering false r.is_post m r.chunk) e r.is.sending;
      taking = refl;
      notes = refl;
      loaded = none_stands x.chunk;
      level = subst (λ (m : Progress). x.sent ≡ x.received ++ pending size r.is_post m r.chunk) e r.is.level;
    })

module _ (s : SetupView) (from f g j : ℕ) (side : SendingSide) (h c : ℕ → ℕ) (sent : List Message) (calls : List DataCall) where
  -- a first chunk
  first_taken : (flag : ℕ) (header : Notes) (st : Stage) → taking_side from st ≡ Awaiting None → Stands s (from_taker from f g side st (Some header) h c sent calls) → says_head header ≡ true → flag ≡ 0 → (j == from) ≡ true
      → Phase (chunk_of s) (from_taker from f g side st (Some header) h c sent calls)
      → Phase (chunk_of s) (from_taker from flag g side (Taking j (fresh_message (head_of header)) []) None h c sent calls)
  first_taken flag header st rests stands says clear here phase =
      let x = from_taker from f g side st (Some header) h c sent calls in
      let all : has_all header 3 ≡ true = both_first (has_all header 3) (is_head (head_of header)) says in
      let same : (r : Raise (chunk_of s) x) → message_so_far r.through r.head ≡ fresh_message (head_of header) = λ r.
      let none : r.through ≡ None = cc (r.is.taking, rests) in
      let o : Offers s r.is_post (message_so_far r.through r.head) r.chunk h c = stands false r.is_post (message_so_far r.through r.head) r.chunk r.is.sending in
      let line : HeaderStands r.head r.is_post h = subst (λ (q : Option Progress). HeaderStands (message_so_far q r.head).head r.is_post h) none o.line in
      ap (λ (q : Option Progress). message_so_far q r.head) none ∙ ap fresh_message (sym (head_is header r.head r.is_post h all r.is.notes line)) in
      subst (λ (t : TakingSide). Phase (chunk_of s) (record { sent_flag = flag; ready_flag = g; sending = side; taking = t; notes = None; header = h; chunk = c; sent = sent; received = received_messages from calls }))
      (sym (taking_here from j (fresh_message (head_of header)) [] here)) (taken_on (chunk_of s) x flag (fresh_message (head_of header)) header refl clear same phase)

  later_taken : (flag : ℕ) (header : Notes) (message : Progress) → flag ≡ 0 → (j == from) ≡ true
      → Phase (chunk_of s) (from_taker from f g side (Between j message) (Some header) h c sent calls)
      → Phase (chunk_of s) (from_taker from flag g side (Taking j message []) None h c sent calls)
  later_taken flag header message clear here phase =
      let x = from_taker from f g side (Between j message) (Some header) h c sent calls in
      let same : (r : Raise (chunk_of s) x) → message_so_far r.through r.head ≡ message = λ r.
      let some : r.through ≡ Some message = cc (r.is.taking, between_here from j message here) in ap (λ (q : Option Progress). message_so_far q r.head) some in
      subst (λ (t : TakingSide). Phase (chunk_of s) (record { sent_flag = flag; ready_flag = g; sending = side; taking = t; notes = None; header = h; chunk = c; sent = sent; received = received_messages from calls }))
      (sym (taking_here from j message [] here)) (taken_on (chunk_of s) x flag message header refl clear same phase)

  pub sent_lowered_here : (flag : ℕ) (st : Stage) (n : Option Notes) → may_take j n st ≡ true → Stands s (from_taker from f g side st n h c sent calls) → flag ≡ 0 → (j == from) ≡ true
      → Phase (chunk_of s) (from_taker from f g side st n h c sent calls)
      → Phase (chunk_of s) (from_taker from flag g side (lower_sent j (unwrap_or n []) st) None h c sent calls)
  sent_lowered_here flag st None may stands clear here phase = absurd (cc)
  sent_lowered_here flag Idle (Some header) may stands clear here phase = first_taken flag header Idle refl stands may clear here phase
  sent_lowered_here flag (Drafting a b) (Some header) may stands clear here phase = absurd (cc)
  sent_lowered_here flag (Sending to part message chunk) (Some header) may stands clear here phase = absurd (cc)
  sent_lowered_here flag (Between i message) (Some header) may stands clear here phase = later_taken flag header message clear here
      (subst (λ (x : ℕ). Phase (chunk_of s) (from_taker from f g side (Between x message) (Some header) h c sent calls)) (same_by_eqb i j may) phase)
  sent_lowered_here flag (Taking i message chunk) (Some header) may stands clear here phase = absurd (cc)
  sent_lowered_here flag (Barrier comm seen released) (Some header) may stands clear here phase = absurd (cc)

  pub sent_lowered_there : (st : Stage) (own n : Option Notes) → may_take j own st ≡ true → (j == from) ≡ false
      → Phase (chunk_of s) (from_taker from f g side st n h c sent calls)
      → Phase (chunk_of s) (from_taker from f g side (lower_sent j (unwrap_or own []) st) n h c sent calls)
  sent_lowered_there st None n may there phase = absurd (cc)
  sent_lowered_there Idle (Some header) n may there phase = same_pair (chunk_of s) (from_taker from f g side Idle n h c sent calls) _ refl refl refl
      (taking_there from j (fresh_message (head_of header)) [] there) refl refl refl refl refl phase
  sent_lowered_there (Drafting a b) (Some header) n may there phase = absurd (cc)
  sent_lowered_there (Sending to part message chunk) (Some header) n may there phase = absurd (cc)
  sent_lowered_there (Between i message) (Some header) n may there phase =
      let e : (i == from) ≡ false = ap (λ x. x == from) (same_by_eqb i j may) ∙ there in
      same_pair (chunk_of s) (from_taker from f g side (Between i message) n h c sent calls) _ refl refl refl
      (taking_there from j message [] there ∙ sym (between_there from i message e)) refl refl refl refl refl phase
  sent_lowered_there (Taking i message chunk) (Some header) n may there phase = absurd (cc)
  sent_lowered_there (Barrier comm seen released) (Some header) n may there phase = absurd (cc)

-- ---- raising `ready`

-- the receiver's words are the sender's
same_chunk : (size : ℕ) (message : Progress) (one other : Notes) (buffer : ℕ → ℕ) → is_whole size message one ≡ true → is_whole size message other ≡ true → StandsIn one buffer → StandsIn other buffer
    → with_chunk size message one ≡ with_chunk size message other
same_chunk size message one other buffer a b s t =
    let e = bytes_same one other buffer (chunk_words size message) a b s t 0 (chunk_bytes size message) (chunk_within size message) in
    λ i. record message { chunks = suc message.chunks; bytes = message.bytes ++ e i }

-- the receiver has the message, and the sender will have sent it
settled : (size : ℕ) (is_post : Bool) (message : Progress) (chunk : Notes) (sent received : List Message) → sent ≡ received ++ pending size is_post message chunk
    → received ++ message_of (with_chunk size message chunk) ∷ [] ≡ sent ++ settling size is_post message chunk
settled size true message chunk sent received level = sym (append-nil sent ∙ level)
settled size false message chunk sent received level = ap (λ (l : List Message). l ++ message_of (with_chunk size message chunk) ∷ []) (sym (append-nil received) ∙ sym level)

module _ (s : SetupView) (from f g j : ℕ) (side : SendingSide) (n : Option Notes) (h c : ℕ → ℕ) (sent : List Message) (calls : List DataCall) where
  -- the last chunk or an earlier one
  taken_whole : (last : Bool) (flag : ℕ) (i : ℕ) (message : Progress) (words : Notes) → is_last (chunk_of s) message ≡ last → Stands s (from_taker from f g side (Taking i message words) n h c sent calls)
      → is_whole (chunk_of s) message words ≡ true → (i == from) ≡ true → flag ≡ 1
      → Phase (chunk_of s) (from_taker from f g side (Taking i message words) n h c sent calls)
      → Phase (chunk_of s) (from_taker from f flag side (if last then Idle else Between i (with_chunk (chunk_of s) message words)) n h c sent
      (finished_if last (recv_from i (message_of (with_chunk (chunk_of s) message words))) calls))
  taken_whole true flag i message words is stands whole here set phase =
      let x = from_taker from f g side (Taking i message words) n h c sent calls in
      let r = when_taking (chunk_of s) x message words (taking_here from i message words here) phase in
      let o : Offers s r.0 message r.1 h c = stands false r.0 message r.1 r.2.sending in
      let same = same_chunk (chunk_of s) message words r.1 c whole o.whole r.2.loaded o.words in
      let arrived : HasArrived true (chunk_of s) r.0 message r.1 None sent (received_messages from (calls ++ recv_from i (message_of (with_chunk (chunk_of s) message words)) ∷ [])) = (
        refl,
        received_messages-recv from calls i _ ∙ message_here (received_messages from calls) i from _ here
            ∙ ap (λ (m : Progress). received_messages from calls ++ message_of m ∷ []) same ∙ settled (chunk_of s) r.0 message r.1 sent (received_messages from calls) r.2.level,
      ) in
      InReady None false r.0 message r.1 (record {
        sent_flag = r.2.sent_flag;
        ready_flag = set;
        sending = r.2.sending;
        taking = refl;
        notes = r.2.notes;
        arrived = subst (λ b. HasArrived b (chunk_of s) r.0 message r.1 None sent (received_messages from (calls ++ recv_from i (message_of (with_chunk (chunk_of s) message words)) ∷ []))) (sym is) arrived;
      })
  taken_whole false flag i message words is stands whole here set phase =
      let x = from_taker from f g side (Taking i message words) n h c sent calls in
      let r = when_taking (chunk_of s) x message words (taking_here from i message words here) phase in
      let o : Offers s r.0 message r.1 h c = stands false r.0 message r.1 r.2.sending in
      let same = same_chunk (chunk_of s) message words r.1 c whole o.whole r.2.loaded o.words in
      let arrived : HasArrived false (chunk_of s) r.0 message r.1 (Some (with_chunk (chunk_of s) message words)) sent (received_messages from calls) =
      (ap (λ (m : Progress). Some m) same, level r.0 r.1 o.last r.2.level) in
      InReady (Some (with_chunk (chunk_of s) message words)) false r.0 message r.1 (record {
        sent_flag = r.2.sent_flag;
        ready_flag = set;
        sending = r.2.sending;
        taking = between_here from i (with_chunk (chunk_of s) message words) here;
        notes = r.2.notes;
        arrived = subst (λ b. HasArrived b (chunk_of s) r.0 message r.1 (Some (with_chunk (chunk_of s) message words)) sent (received_messages from calls)) (sym is) arrived;
      })
    where
      level : (p : Bool) (w : Notes) → (p ≡ true → is_last (chunk_of s) message ≡ true) → sent ≡ received_messages from calls ++ pending (chunk_of s) p message w → received_messages from calls ≡ sent
      level true w last l = absurd (cc (last refl, is))
      level false w last l = sym (l ∙ append-nil (received_messages from calls))

  pub ready_raised_here : (flag : ℕ) (st : Stage) → has_taken (chunk_of s) j st ≡ true → Stands s (from_taker from f g side st n h c sent calls) → (j == from) ≡ true → flag ≡ 1
      → Phase (chunk_of s) (from_taker from f g side st n h c sent calls)
      → Phase (chunk_of s) (from_taker from f flag side (raise_ready (chunk_of s) st) n h c sent (calls_received (chunk_of s) st calls))
  ready_raised_here flag Idle may stands here set phase = absurd (cc)
  ready_raised_here flag (Drafting a b) may stands here set phase = absurd (cc)
  ready_raised_here flag (Sending to part message chunk) may stands here set phase = absurd (cc)
  ready_raised_here flag (Between i message) may stands here set phase = absurd (cc)
  ready_raised_here flag (Taking i message words) may stands here set phase =
      taken_whole (is_last (chunk_of s) message) flag i message words refl stands (both_second (i == j) (is_whole (chunk_of s) message words) may)
      (ap (λ x. x == from) (same_by_eqb i j (both_first (i == j) (is_whole (chunk_of s) message words) may)) ∙ here) set phase
  ready_raised_here flag (Barrier comm seen released) may stands here set phase = absurd (cc)

  -- of another sender
  left_whole : (last : Bool) (i : ℕ) (message : Progress) (words : Notes) → (i == from) ≡ false
      → Phase (chunk_of s) (from_taker from f g side (Taking i message words) n h c sent calls)
      → Phase (chunk_of s) (from_taker from f g side (if last then Idle else Between i (with_chunk (chunk_of s) message words)) n h c sent
      (finished_if last (recv_from i (message_of (with_chunk (chunk_of s) message words))) calls))
  left_whole true i message words there phase = same_pair (chunk_of s) (from_taker from f g side (Taking i message words) n h c sent calls) _ refl refl refl
      (sym (taking_there from i message words there)) refl refl refl refl (received_messages-recv from calls i _ ∙ message_there (received_messages from calls) i from _ there) phase
  left_whole false i message words there phase = same_pair (chunk_of s) (from_taker from f g side (Taking i message words) n h c sent calls) _ refl refl refl
      (between_there from i (with_chunk (chunk_of s) message words) there ∙ sym (taking_there from i message words there)) refl refl refl refl refl phase

  pub ready_raised_there : (st : Stage) → has_taken (chunk_of s) j st ≡ true → (j == from) ≡ false
      → Phase (chunk_of s) (from_taker from f g side st n h c sent calls)
      → Phase (chunk_of s) (from_taker from f g side (raise_ready (chunk_of s) st) n h c sent (calls_received (chunk_of s) st calls))
  ready_raised_there Idle may there phase = absurd (cc)
  ready_raised_there (Drafting a b) may there phase = absurd (cc)
  ready_raised_there (Sending to part message chunk) may there phase = absurd (cc)
  ready_raised_there (Between i message) may there phase = absurd (cc)
  ready_raised_there (Taking i message words) may there phase =
      left_whole (is_last (chunk_of s) message) i message words (ap (λ x. x == from) (same_by_eqb i j (both_first (i == j) (is_whole (chunk_of s) message words) may)) ∙ there) phase
  ready_raised_there (Barrier comm seen released) may there phase = absurd (cc)
