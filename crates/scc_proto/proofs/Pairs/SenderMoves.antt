-- The phases of a pair under the moves of its sender.
use Rattle.std.proofs.Common.{◌≡◌, ℕ, Bool, true, false, ◌&&◌, ◌==◌, if◌then◌else◌, List, [], ◌∷◌, ◌++◌, Option, Some, None, is_none, option_map, refl, sym, ◌∙◌, ap, subst, append-nil}
use Rattle.scc_base.specs.Calls.{DataCall, Message}
use Rattle.scc_proto.specs.Messages.{Notes, note_word, Progress, fresh_message, is_last, with_chunk, message_of, head_of, sent_messages, send_to, post_to}
use Rattle.scc_proto.specs.Stages.{Filling, Raised, Answered, Stage, Idle, Drafting, Sending, Between, Taking, Barrier, InFlight}
use Rattle.scc_proto.specs.Moves.{draft_header, draft_chunk, raise_sent, look_ready, lower_ready, post_raised, post_answered, calls_raised, calls_sent, finished_if, is_posted}
use Rattle.scc_proto.specs.Permission.{drafts_header, drafts_chunk, may_raise, may_go_on, is_drafted}
use Rattle.scc_proto.specs.Pairs.{Resting, Offering, TakingSide, Awaiting, side_of_post, sending_side, NotesStand, Pair, pending, HasArrived, Phase, InRest, InRaised, InReady}
use Rattle.scc_proto.proofs.Tests.{same_or_other, same_by_eqb, both_first, both_second}
use Rattle.scc_proto.proofs.Messages.MessageLists.{sent_messages-send, sent_messages-post, message_here, message_there}
use Rattle.scc_proto.proofs.Pairs.PairFrames.{same_pair}
use Rattle.scc_proto.proofs.Pairs.PhaseFacts.{at_rest, when_answered, when_ready, sending_here, sending_there, post_here, post_there}

-- a pair by what its sender changes
abbrev pub from_sender : ℕ → (sent_flag ready_flag : ℕ) → Stage → Option InFlight → (header chunk : ℕ → ℕ) → List DataCall → TakingSide → Option Notes → List Message → Pair
from_sender to f g st post h c calls t n b = record {
  sent_flag = f;
  ready_flag = g;
  sending = sending_side to st post;
  taking = t;
  notes = n;
  header = h;
  chunk = c;
  sent = sent_messages to calls;
  received = b;
}

-- with other words in the buffer, and a side that still rests
pub rests_on : (size : ℕ) (to f g : ℕ) (st new : Stage) (post late : Option InFlight) (h c h' c' : ℕ → ℕ) (calls : List DataCall) (t : TakingSide) (n : Option Notes) (b : List Message) (m : Option Progress)
    → sending_side to st post ≡ Resting m → sending_side to new late ≡ Resting m
    → Phase size (from_sender to f g st post h c calls t n b) → Phase size (from_sender to f g new late h' c' calls t n b)
rests_on size to f g st new post late h c h' c' calls t n b m was now phase =
    let p = at_rest size (from_sender to f g st post h c calls t n b) m was phase in
    InRest m (record { sent_flag = p.sent_flag; ready_flag = p.ready_flag; sending = now; taking = p.taking; notes = p.notes; level = p.level })

-- ---- drafting

record Rests (to : ℕ) (st new : Stage) : Type 0 where
  pub through : Option Progress
  pub was : sending_side to st None ≡ Resting through
  pub now : sending_side to new None ≡ Resting through

filling : (to j : ℕ) (message : Progress) (chunk : Notes) → sending_side to (Sending j Filling message chunk) None ≡ Resting (if j == to then Some message else None)
filling to j message chunk = by (j == to)
  where
    by : (b : Bool) → (if b then Resting (Some message) else Resting None) ≡ Resting (if b then Some message else None)
    by true = refl
    by false = refl

drafts_header_rests : (to k v : ℕ) (st : Stage) → drafts_header st ≡ true → Rests to st (draft_header k v st)
drafts_header_rests to k v Idle t = record { through = None; was = refl; now = refl }
drafts_header_rests to k v (Drafting h c) t = record { through = None; was = refl; now = refl }
drafts_header_rests to k v (Sending j part m c) t = absurd (cc)
drafts_header_rests to k v (Between i m) t = absurd (cc)
drafts_header_rests to k v (Taking i m c) t = absurd (cc)
drafts_header_rests to k v (Barrier comm seen released) t = absurd (cc)

drafts_chunk_rests : (to k v : ℕ) (st : Stage) → drafts_chunk st ≡ true → Rests to st (draft_chunk k v st)
drafts_chunk_rests to k v Idle t = record { through = None; was = refl; now = refl }
drafts_chunk_rests to k v (Drafting h c) t = record { through = None; was = refl; now = refl }
drafts_chunk_rests to k v (Sending j Filling m c) t = record { through = if j == to then Some m else None; was = filling to j m c; now = filling to j m (note_word k v c) }
drafts_chunk_rests to k v (Sending j Raised m c) t = absurd (cc)
drafts_chunk_rests to k v (Sending j Answered m c) t = absurd (cc)
drafts_chunk_rests to k v (Between i m) t = absurd (cc)
drafts_chunk_rests to k v (Taking i m c) t = absurd (cc)
drafts_chunk_rests to k v (Barrier comm seen released) t = absurd (cc)

pub header_drafted : (size : ℕ) (to f g k v : ℕ) (st : Stage) (post : Option InFlight) (h c h' c' : ℕ → ℕ) (calls : List DataCall) (t : TakingSide) (n : Option Notes) (b : List Message)
    → (is_none post && drafts_header st) ≡ true
    → Phase size (from_sender to f g st post h c calls t n b) → Phase size (from_sender to f g (draft_header k v st) post h' c' calls t n b)
header_drafted size to f g k v st None h c h' c' calls t n b may phase =
    let r = drafts_header_rests to k v st may in rests_on size to f g st (draft_header k v st) None None h c h' c' calls t n b r.through r.was r.now phase
header_drafted size to f g k v st (Some post) h c h' c' calls t n b may phase = absurd (cc)

pub chunk_drafted : (size : ℕ) (to f g k v : ℕ) (st : Stage) (post : Option InFlight) (h c h' c' : ℕ → ℕ) (calls : List DataCall) (t : TakingSide) (n : Option Notes) (b : List Message)
    → (is_none post && drafts_chunk st) ≡ true
    → Phase size (from_sender to f g st post h c calls t n b) → Phase size (from_sender to f g (draft_chunk k v st) post h' c' calls t n b)
chunk_drafted size to f g k v st None h c h' c' calls t n b may phase =
    let r = drafts_chunk_rests to k v st may in rests_on size to f g st (draft_chunk k v st) None None h c h' c' calls t n b r.through r.was r.now phase
chunk_drafted size to f g k v st (Some post) h c h' c' calls t n b may phase = absurd (cc)

-- ---- raising `sent`

-- a first chunk, of a posted message or of another one
abbrev first_stage : Bool → ℕ → Notes → Notes → Stage
first_stage posted j header chunk = if posted then Idle else Sending j Raised (fresh_message (head_of header)) chunk

abbrev first_post : Bool → ℕ → Notes → Notes → Option InFlight
first_post posted j header chunk = if posted then Some (record { to = j; head = head_of header; chunk = chunk; is_answered = false }) else None

module _ (size : ℕ) (to g j : ℕ) (header chunk : Notes) (h c : ℕ → ℕ) (calls : List DataCall) (t : TakingSide) (n : Option Notes) (b : List Message) where
  level_here : (posted : Bool) → (j == to) ≡ true → b ≡ sent_messages to calls
      → sent_messages to (finished_if posted (post_to j (message_of (with_chunk size (fresh_message (head_of header)) chunk))) calls) ≡ b ++ pending size posted (fresh_message (head_of header)) chunk
  level_here true here level = sent_messages-post to calls j _ ∙ message_here (sent_messages to calls) j to _ here ∙ ap (λ (l : List Message). l ++ message_of (with_chunk size (fresh_message (head_of header)) chunk) ∷ []) (sym level)
  level_here false here level = sym level ∙ sym (append-nil b)

  level_there : (posted : Bool) → (j == to) ≡ false → sent_messages to (finished_if posted (post_to j (message_of (with_chunk size (fresh_message (head_of header)) chunk))) calls) ≡ sent_messages to calls
  level_there true there = sent_messages-post to calls j _ ∙ message_there (sent_messages to calls) j to _ there
  level_there false there = refl

  side_here : (posted : Bool) → (j == to) ≡ true → sending_side to (first_stage posted j header chunk) (first_post posted j header chunk) ≡ Offering false posted (fresh_message (head_of header)) chunk
  side_here true here = post_here to _ here
  side_here false here = sending_here to j Raised (fresh_message (head_of header)) chunk None here

  side_there : (posted : Bool) → (j == to) ≡ false → sending_side to (first_stage posted j header chunk) (first_post posted j header chunk) ≡ Resting None
  side_there true there = post_there to _ there
  side_there false there = sending_there to j Raised (fresh_message (head_of header)) chunk None there

  -- toward the receiver
  pub first_here : (f posted_flag : ℕ) (posted : Bool) → (j == to) ≡ true → posted_flag ≡ 1
      → Phase size (from_sender to f g (Drafting header chunk) None h c calls t n b)
      → Phase size (from_sender to posted_flag g (first_stage posted j header chunk) (first_post posted j header chunk) h c
      (finished_if posted (post_to j (message_of (with_chunk size (fresh_message (head_of header)) chunk))) calls) t n b)
  first_here f flag posted here set phase =
      let p = at_rest size (from_sender to f g (Drafting header chunk) None h c calls t n b) None refl phase in
      InRaised None (head_of header) posted chunk (record {
        sent_flag = set;
        ready_flag = p.ready_flag;
        sending = side_here posted here;
        taking = p.taking;
        notes = subst (λ (o : Option Notes). NotesStand o h) (sym p.notes) tt;
        level = level_here posted here p.level;
      })

  -- toward another rank
  pub first_there : (f : ℕ) (posted : Bool) → (j == to) ≡ false
      → Phase size (from_sender to f g (Drafting header chunk) None h c calls t n b)
      → Phase size (from_sender to f g (first_stage posted j header chunk) (first_post posted j header chunk) h c
      (finished_if posted (post_to j (message_of (with_chunk size (fresh_message (head_of header)) chunk))) calls) t n b)
  first_there f posted there phase =
      let p = at_rest size (from_sender to f g (Drafting header chunk) None h c calls t n b) None refl phase in
      InRest None (record { sent_flag = p.sent_flag; ready_flag = p.ready_flag; sending = side_there posted there; taking = p.taking; notes = p.notes; level = p.level ∙ sym (level_there posted there) })

module _ (size : ℕ) (to g j : ℕ) (h c : ℕ → ℕ) (calls : List DataCall) (t : TakingSide) (n : Option Notes) (b : List Message) where
  -- a later chunk
  later_here : (f flag : ℕ) (message : Progress) (chunk : Notes) → (j == to) ≡ true → flag ≡ 1
      → Phase size (from_sender to f g (Sending j Filling message chunk) None h c calls t n b)
      → Phase size (from_sender to flag g (Sending j Raised message chunk) None h c calls t n b)
  later_here f flag message chunk here set phase =
      let p = at_rest size (from_sender to f g (Sending j Filling message chunk) None h c calls t n b) (Some message) (sending_here to j Filling message chunk None here) phase in
      InRaised (Some message) message.head false chunk (record {
        sent_flag = set;
        ready_flag = p.ready_flag;
        sending = sending_here to j Raised message chunk None here;
        taking = p.taking;
        notes = subst (λ (o : Option Notes). NotesStand o h) (sym p.notes) tt;
        level = sym p.level ∙ sym (append-nil b);
      })

  later_there : (f : ℕ) (message : Progress) (chunk : Notes) → (j == to) ≡ false
      → Phase size (from_sender to f g (Sending j Filling message chunk) None h c calls t n b)
      → Phase size (from_sender to f g (Sending j Raised message chunk) None h c calls t n b)
  later_there f message chunk there phase = rests_on size to f g (Sending j Filling message chunk) (Sending j Raised message chunk) None None h c h c calls t n b None
      (sending_there to j Filling message chunk None there) (sending_there to j Raised message chunk None there) phase

  pub sent_raised_here : (f flag : ℕ) (st : Stage) (post : Option InFlight) → (is_none post && may_raise size j st) ≡ true → (j == to) ≡ true → flag ≡ 1
      → Phase size (from_sender to f g st post h c calls t n b)
      → Phase size (from_sender to flag g (raise_sent j st) (post_raised j st post) h c (calls_raised size j st calls) t n b)
  sent_raised_here f flag st (Some post) may here set phase = absurd (cc)
  sent_raised_here f flag Idle None may here set phase = absurd (cc)
  sent_raised_here f flag (Drafting header chunk) None may here set phase = first_here size to g j header chunk h c calls t n b f flag (is_posted header) here set phase
  sent_raised_here f flag (Sending i Filling message chunk) None may here set phase =
      let same : i ≡ j = same_by_eqb i j (both_first (i == j) (is_drafted size message chunk) may) in
      later_here f flag message chunk here set (subst (λ (x : ℕ). Phase size (from_sender to f g (Sending x Filling message chunk) None h c calls t n b)) same phase)
  sent_raised_here f flag (Sending i Raised message chunk) None may here set phase = absurd (cc)
  sent_raised_here f flag (Sending i Answered message chunk) None may here set phase = absurd (cc)
  sent_raised_here f flag (Between i message) None may here set phase = absurd (cc)
  sent_raised_here f flag (Taking i message chunk) None may here set phase = absurd (cc)
  sent_raised_here f flag (Barrier comm seen released) None may here set phase = absurd (cc)

  pub sent_raised_there : (f : ℕ) (st : Stage) (post : Option InFlight) → (is_none post && may_raise size j st) ≡ true → (j == to) ≡ false
      → Phase size (from_sender to f g st post h c calls t n b)
      → Phase size (from_sender to f g (raise_sent j st) (post_raised j st post) h c (calls_raised size j st calls) t n b)
  sent_raised_there f st (Some post) may there phase = absurd (cc)
  sent_raised_there f Idle None may there phase = absurd (cc)
  sent_raised_there f (Drafting header chunk) None may there phase = first_there size to g j header chunk h c calls t n b f (is_posted header) there phase
  sent_raised_there f (Sending i Filling message chunk) None may there phase =
      let same : i ≡ j = same_by_eqb i j (both_first (i == j) (is_drafted size message chunk) may) in
      later_there f message chunk there (subst (λ (x : ℕ). Phase size (from_sender to f g (Sending x Filling message chunk) None h c calls t n b)) same phase)
  sent_raised_there f (Sending i Raised message chunk) None may there phase = absurd (cc)
  sent_raised_there f (Sending i Answered message chunk) None may there phase = absurd (cc)
  sent_raised_there f (Between i message) None may there phase = absurd (cc)
  sent_raised_there f (Taking i message chunk) None may there phase = absurd (cc)
  sent_raised_there f (Barrier comm seen released) None may there phase = absurd (cc)

-- ---- looking at `ready`

module _ (size : ℕ) (to f g : ℕ) (is_set : ℕ → Bool) (h c : ℕ → ℕ) (calls : List DataCall) (t : TakingSide) (n : Option Notes) (b : List Message)
    (told : is_set to ≡ true → g ≡ 1) where
  -- the ready phase, whether it was seen or is seen now
  seen_ready : (x y : Pair) (a p : Bool) (message : Progress) (chunk : Notes) → x.ready_flag ≡ 1 → x.sending ≡ Offering a p message chunk → y ≡ record x { sending = Offering true p message chunk }
      → Phase size x → Phase size y
  seen_ready x y a p message chunk set was is phase =
      let r = when_ready size x set phase in
      let em : r.message ≡ message = cc (r.is.sending, was) in
      let ec : r.chunk ≡ chunk = cc (r.is.sending, was) in
      let ep : r.is_post ≡ p = cc (r.is.sending, was) in
      let arrived : HasArrived (is_last size message) size p message chunk r.through x.sent x.received =
      subst (λ (m : Progress). HasArrived (is_last size m) size p m chunk r.through x.sent x.received) em
      (subst (λ (w : Notes). HasArrived (is_last size r.message) size p r.message w r.through x.sent x.received) ec
      (subst (λ (q : Bool). HasArrived (is_last size r.message) size q r.message r.chunk r.through x.sent x.received) ep r.is.arrived)) in
      subst (λ (z : Pair). Phase size z) (sym is) (InReady r.through true p message chunk (record {
        sent_flag = r.is.sent_flag;
        ready_flag = r.is.ready_flag;
        sending = refl;
        taking = r.is.taking;
        notes = r.is.notes;
        arrived = arrived;
      }))

  look_raised : (set : Bool) (i : ℕ) (message : Progress) (chunk : Notes) (post late : Option InFlight) → is_set i ≡ set
      → Phase size (from_sender to f g (Sending i Raised message chunk) post h c calls t n b)
      → Phase size (from_sender to f g (if set then Sending i Answered message chunk else Sending i Raised message chunk) late h c calls t n b)
  look_raised false i message chunk post late s phase = phase
  look_raised true i message chunk post late s phase = same_or_other (Phase size (from_sender to f g (Sending i Answered message chunk) late h c calls t n b)) i to
      (λ here is. seen_ready (from_sender to f g (Sending i Raised message chunk) post h c calls t n b) (from_sender to f g (Sending i Answered message chunk) late h c calls t n b)
      false false message chunk (told (ap is_set (sym is) ∙ s)) (sending_here to i Raised message chunk post here)
      (λ k. record { sent_flag = f; ready_flag = g; sending = sending_here to i Answered message chunk late here k; taking = t; notes = n; header = h; chunk = c; sent = sent_messages to calls; received = b }) phase)
      (λ there ne. same_pair size (from_sender to f g (Sending i Raised message chunk) post h c calls t n b) (from_sender to f g (Sending i Answered message chunk) late h c calls t n b)
      refl refl (sending_there to i Answered message chunk late there ∙ sym (sending_there to i Raised message chunk post there)) refl refl refl refl refl refl phase)

  -- the posted message, seen by the look or not
  post_seen : (set : Bool) (post : InFlight) → is_set post.to ≡ set → (x : Pair) → x.ready_flag ≡ g → x.sending ≡ side_of_post to (Some post) → Phase size x
      → Phase size (record x { sending = side_of_post to (Some (record post { is_answered = if set then true else post.is_answered })) })
  post_seen false post s x flag was phase = same_pair size x (record x { sending = side_of_post to (Some post) }) refl refl (sym was) refl refl refl refl refl refl phase
  post_seen true post s x flag was phase = same_or_other (Phase size (record x { sending = side_of_post to (Some (record post { is_answered = true })) })) post.to to
      (λ here is. seen_ready x (record x { sending = side_of_post to (Some (record post { is_answered = true })) }) post.is_answered true (fresh_message post.head) post.chunk
      (flag ∙ told (ap is_set (sym is) ∙ s)) (was ∙ post_here to post here) (λ k. record x { sending = post_here to (record post { is_answered = true }) here k }) phase)
      (λ there ne. same_pair size x (record x { sending = side_of_post to (Some (record post { is_answered = true })) })
      refl refl (post_there to (record post { is_answered = true }) there ∙ sym (was ∙ post_there to post there)) refl refl refl refl refl refl phase)

  look_posted : (post : Option InFlight) → (x : Pair) → x.ready_flag ≡ g → x.sending ≡ side_of_post to post → Phase size x → Phase size (record x { sending = side_of_post to (option_map (post_answered is_set) post) })
  look_posted None x flag was phase = same_pair size x (record x { sending = Resting None }) refl refl (sym was) refl refl refl refl refl refl phase
  look_posted (Some post) x flag was phase = post_seen (is_set post.to) post refl x flag was phase

  pub ready_looked_at : (st : Stage) (post : Option InFlight) → Phase size (from_sender to f g st post h c calls t n b)
      → Phase size (from_sender to f g (look_ready is_set st) (option_map (post_answered is_set) post) h c calls t n b)
  ready_looked_at Idle post phase = look_posted post (from_sender to f g Idle post h c calls t n b) refl refl phase
  ready_looked_at (Drafting header chunk) post phase = look_posted post (from_sender to f g (Drafting header chunk) post h c calls t n b) refl refl phase
  ready_looked_at (Sending i Filling message chunk) post phase = phase
  ready_looked_at (Sending i Raised message chunk) post phase = look_raised (is_set i) i message chunk post (option_map (post_answered is_set) post) refl phase
  ready_looked_at (Sending i Answered message chunk) post phase = phase
  ready_looked_at (Between i message) post phase = look_posted post (from_sender to f g (Between i message) post h c calls t n b) refl refl phase
  ready_looked_at (Taking i message chunk) post phase = look_posted post (from_sender to f g (Taking i message chunk) post h c calls t n b) refl refl phase
  ready_looked_at (Barrier comm seen released) post phase = look_posted post (from_sender to f g (Barrier comm seen released) post h c calls t n b) refl refl phase

-- ---- lowering `ready`

module _ (size : ℕ) (to f g j : ℕ) (h c : ℕ → ℕ) (calls : List DataCall) (t : TakingSide) (n : Option Notes) (b : List Message) where
  -- the chunk of a message that is not posted is through
  through_here : (last : Bool) (flag : ℕ) (i : ℕ) (message : Progress) (chunk : Notes) (post : Option InFlight) → is_last size message ≡ last → (i == to) ≡ true → flag ≡ 0
      → Phase size (from_sender to f g (Sending i Answered message chunk) post h c calls t n b)
      → Phase size (from_sender to f flag (if last then Idle else Sending i Filling (with_chunk size message chunk) []) None h c
      (finished_if last (send_to i (message_of (with_chunk size message chunk))) calls) t n b)
  through_here true flag i message chunk post is here clear phase =
      let r = when_answered size (from_sender to f g (Sending i Answered message chunk) post h c calls t n b) false message chunk (sending_here to i Answered message chunk post here) phase in
      let a : HasArrived true size false message chunk r.0 (sent_messages to calls) b = subst (λ x. HasArrived x size false message chunk r.0 (sent_messages to calls) b) is r.1.arrived in
      InRest None (record {
        sent_flag = r.1.sent_flag;
        ready_flag = clear;
        sending = refl;
        taking = r.1.taking ∙ ap (λ (o : Option Progress). Awaiting o) a.0;
        notes = r.1.notes;
        level = a.1 ∙ sym (sent_messages-send to calls i _ ∙ message_here (sent_messages to calls) i to _ here);
      })
  through_here false flag i message chunk post is here clear phase =
      let r = when_answered size (from_sender to f g (Sending i Answered message chunk) post h c calls t n b) false message chunk (sending_here to i Answered message chunk post here) phase in
      let a : HasArrived false size false message chunk r.0 (sent_messages to calls) b = subst (λ x. HasArrived x size false message chunk r.0 (sent_messages to calls) b) is r.1.arrived in
      InRest (Some (with_chunk size message chunk)) (record {
        sent_flag = r.1.sent_flag;
        ready_flag = clear;
        sending = sending_here to i Filling (with_chunk size message chunk) [] None here;
        taking = r.1.taking ∙ ap (λ (o : Option Progress). Awaiting o) a.0;
        notes = r.1.notes;
        level = a.1;
      })

  through_there : (last : Bool) (i : ℕ) (message : Progress) (chunk : Notes) (post : Option InFlight) → (i == to) ≡ false
      → Phase size (from_sender to f g (Sending i Answered message chunk) post h c calls t n b)
      → Phase size (from_sender to f g (if last then Idle else Sending i Filling (with_chunk size message chunk) []) None h c
      (finished_if last (send_to i (message_of (with_chunk size message chunk))) calls) t n b)
  through_there true i message chunk post there phase = same_pair size (from_sender to f g (Sending i Answered message chunk) post h c calls t n b) _ refl refl
      (sym (sending_there to i Answered message chunk post there)) refl refl refl refl (sent_messages-send to calls i _ ∙ message_there (sent_messages to calls) i to _ there) refl phase
  through_there false i message chunk post there phase = same_pair size (from_sender to f g (Sending i Answered message chunk) post h c calls t n b) _ refl refl
      (sending_there to i Filling (with_chunk size message chunk) [] None there ∙ sym (sending_there to i Answered message chunk post there)) refl refl refl refl refl refl phase

  -- a posted message is on its way no more
  post_through : (flag : ℕ) (st : Stage) (post : InFlight) → sending_side to st None ≡ Resting None → sending_side to st (Some post) ≡ side_of_post to (Some post)
      → is_last size (fresh_message post.head) ≡ true → ((post.to == j) && post.is_answered) ≡ true → ((j == to) ≡ true → flag ≡ 0) → ((j == to) ≡ false → flag ≡ g)
      → Phase size (from_sender to f g st (Some post) h c calls t n b) → Phase size (from_sender to f flag st None h c calls t n b)
  post_through flag st post none some last may clear kept phase = same_or_other (Phase size (from_sender to f flag st None h c calls t n b)) j to
      (λ here is.
      let its : (post.to == to) ≡ true = ap (λ x. x == to) (same_by_eqb post.to j (both_first (post.to == j) post.is_answered may)) ∙ here in
      let answered : post.is_answered ≡ true = both_second (post.to == j) post.is_answered may in
      let r = when_answered size (from_sender to f g st (Some post) h c calls t n b) true (fresh_message post.head) post.chunk
      (some ∙ post_here to post its ∙ ap (λ x. Offering x true (fresh_message post.head) post.chunk) answered) phase in
      let a : HasArrived true size true (fresh_message post.head) post.chunk r.0 (sent_messages to calls) b = subst (λ x. HasArrived x size true (fresh_message post.head) post.chunk r.0 (sent_messages to calls) b) last r.1.arrived in
      InRest None (record {
        sent_flag = r.1.sent_flag;
        ready_flag = clear here;
        sending = none;
        taking = r.1.taking ∙ ap (λ (o : Option Progress). Awaiting o) a.0;
        notes = r.1.notes;
        level = a.1 ∙ append-nil (sent_messages to calls);
      }))
      (λ there ne.
      let its : (post.to == to) ≡ false = ap (λ x. x == to) (same_by_eqb post.to j (both_first (post.to == j) post.is_answered may)) ∙ there in
      same_pair size (from_sender to f g st (Some post) h c calls t n b) (from_sender to f flag st None h c calls t n b) refl (kept there)
      (none ∙ sym (some ∙ post_there to post its)) refl refl refl refl refl refl phase)

  pub ready_lowered : (flag : ℕ) (st : Stage) (post : Option InFlight) → may_go_on j st post ≡ true → ((p : InFlight) → post ≡ Some p → is_last size (fresh_message p.head) ≡ true)
      → ((j == to) ≡ true → flag ≡ 0) → ((j == to) ≡ false → flag ≡ g)
      → Phase size (from_sender to f g st post h c calls t n b) → Phase size (from_sender to f flag (lower_ready size st) None h c (calls_sent size st calls) t n b)
  ready_lowered flag Idle None may last clear kept phase = absurd (cc)
  ready_lowered flag Idle (Some post) may last clear kept phase = post_through flag Idle post refl refl (last post refl) may clear kept phase
  ready_lowered flag (Drafting header chunk) None may last clear kept phase = absurd (cc)
  ready_lowered flag (Drafting header chunk) (Some post) may last clear kept phase = post_through flag (Drafting header chunk) post refl refl (last post refl) may clear kept phase
  ready_lowered flag (Sending i Filling message chunk) post may last clear kept phase = absurd (cc)
  ready_lowered flag (Sending i Raised message chunk) post may last clear kept phase = absurd (cc)
  ready_lowered flag (Sending i Answered message chunk) post may last clear kept phase =
      let same : i ≡ j = same_by_eqb i j may in
      same_or_other (Phase size (from_sender to f flag (lower_ready size (Sending i Answered message chunk)) None h c (calls_sent size (Sending i Answered message chunk) calls) t n b)) i to
      (λ here is. through_here (is_last size message) flag i message chunk post refl here (clear (sym (ap (λ x. x == to) same) ∙ here)) phase)
      (λ there ne. subst (λ x. Phase size (from_sender to f x (lower_ready size (Sending i Answered message chunk)) None h c (calls_sent size (Sending i Answered message chunk) calls) t n b))
      (sym (kept (sym (ap (λ x. x == to) same) ∙ there))) (through_there (is_last size message) i message chunk post there phase))
  ready_lowered flag (Between i message) None may last clear kept phase = absurd (cc)
  ready_lowered flag (Between i message) (Some post) may last clear kept phase = post_through flag (Between i message) post refl refl (last post refl) may clear kept phase
  ready_lowered flag (Taking i message chunk) None may last clear kept phase = absurd (cc)
  ready_lowered flag (Taking i message chunk) (Some post) may last clear kept phase = post_through flag (Taking i message chunk) post refl refl (last post refl) may clear kept phase
  ready_lowered flag (Barrier comm seen released) None may last clear kept phase = absurd (cc)
  ready_lowered flag (Barrier comm seen released) (Some post) may last clear kept phase = post_through flag (Barrier comm seen released) post refl refl (last post refl) may clear kept phase
