-- The messages of a pair of ranks, from the legality of the calls that they have passed.
use Rattle.std.proofs.Common.{◌≡◌, ◌⊎◌, ℕ, ◌==◌, Bool, true, false, true≢false, if◌then◌else◌, List, [], ◌∷◌, ◌++◌, length, Option, Some, None, inl, inr, refl, sym, ◌∙◌, ap, append-nil}
use Rattle.scc_base.specs.Calls.{DataCall, Send, Recv, Post, Bar, Message}
use Rattle.scc_base.specs.Setups.{SetupView, setup_key}
use Rattle.scc_proto.specs.Messages.{fresh_message, with_chunk, message_of, sent_messages, received_messages, send_to}
use Rattle.scc_proto.specs.Stages.{Stage, Idle, Drafting, Sending, Between, Taking, Barrier, InFlight, Record}
use Rattle.scc_proto.specs.Singles.{IsConsistent, IsPosted, is_free}
use Rattle.scc_proto.specs.Records.{chunk_of}
use Rattle.scc_proto.specs.Passed.{in_hand, passed_open, passed_calls, slot_by, slot_of, is_received_ahead, is_gathered}
use Rattle.scc_proto.specs.PairMessages.{open_message, posted_message, PairMessages, AllReceived, OpenReceived, StillInFlight}
use Rattle.scc_proto.specs.Legality.{slot_message}
use Rattle.scc_proto.specs.Agreement.{CallsAgree}
use Rattle.scc_proto.proofs.Legality.LegalMessages.{legal_messages}

pub sent_messages-append : (r : ℕ) (l more : List DataCall) → sent_messages r (l ++ more) ≡ sent_messages r l ++ sent_messages r more
sent_messages-append r [] more = refl
sent_messages-append r (Send to head bytes ∷ l) more = longer (to == r) (sent_messages-append r l more)
  where
    longer : (b : Bool) → sent_messages r (l ++ more) ≡ sent_messages r l ++ sent_messages r more
        → (if b then record { head = head; bytes = bytes } ∷ sent_messages r (l ++ more) else sent_messages r (l ++ more)) ≡ (if b then record { head = head; bytes = bytes } ∷ sent_messages r l else sent_messages r l) ++ sent_messages r more
    longer true same = ap (λ (x : List Message). record { head = head; bytes = bytes } ∷ x) same
    longer false same = same
sent_messages-append r (Post to head bytes ∷ l) more = longer (to == r) (sent_messages-append r l more)
  where
    longer : (b : Bool) → sent_messages r (l ++ more) ≡ sent_messages r l ++ sent_messages r more
        → (if b then record { head = head; bytes = bytes } ∷ sent_messages r (l ++ more) else sent_messages r (l ++ more)) ≡ (if b then record { head = head; bytes = bytes } ∷ sent_messages r l else sent_messages r l) ++ sent_messages r more
    longer true same = ap (λ (x : List Message). record { head = head; bytes = bytes } ∷ x) same
    longer false same = same
sent_messages-append r (Recv from head bytes ∷ l) more = sent_messages-append r l more
sent_messages-append r (Bar c ∷ l) more = sent_messages-append r l more

pub received_messages-append : (i : ℕ) (l more : List DataCall) → received_messages i (l ++ more) ≡ received_messages i l ++ received_messages i more
received_messages-append i [] more = refl
received_messages-append i (Send to head bytes ∷ l) more = received_messages-append i l more
received_messages-append i (Post to head bytes ∷ l) more = received_messages-append i l more
received_messages-append i (Recv from head bytes ∷ l) more = longer (from == i) (received_messages-append i l more)
  where
    longer : (b : Bool) → received_messages i (l ++ more) ≡ received_messages i l ++ received_messages i more
        → (if b then record { head = head; bytes = bytes } ∷ received_messages i (l ++ more) else received_messages i (l ++ more)) ≡ (if b then record { head = head; bytes = bytes } ∷ received_messages i l else received_messages i l) ++ received_messages i more
    longer true same = ap (λ (x : List Message). record { head = head; bytes = bytes } ∷ x) same
    longer false same = same
received_messages-append i (Bar c ∷ l) more = received_messages-append i l more

-- an open receive is not passed
none_received : (s : SetupView) (i me : ℕ) (stage : Stage) (records : ℕ → Record) → received_messages i (passed_open s me stage records) ≡ []
none_received s i me Idle records = refl
none_received s i me (Drafting header chunk) records = refl
none_received s i me (Sending to part message chunk) records = none (is_received_ahead me to records)
  where
    none : (b : Bool) → received_messages i (if b then send_to to (message_of (in_hand (chunk_of s) part message chunk)) ∷ [] else []) ≡ []
    none true = refl
    none false = refl
none_received s i me (Between from message) records = refl
none_received s i me (Taking from message chunk) records = refl
none_received s i me (Barrier c seen released) records = none (is_gathered s c me records)
  where
    none : (b : Bool) → received_messages i (if b then Bar c ∷ [] else []) ≡ []
    none true = refl
    none false = refl

passed_received : (s : SetupView) (i me : ℕ) (records : ℕ → Record) → received_messages i (passed_calls s records me) ≡ received_messages i (records me).calls
passed_received s i me records =
    received_messages-append i (records me).calls (passed_open s me (records me).stage records)
    ∙ ap (λ (l : List Message). received_messages i (records me).calls ++ l) (none_received s i me (records me).stage records)
    ∙ append-nil (received_messages i (records me).calls)

passed_sent : (s : SetupView) (r me : ℕ) (records : ℕ → Record) → sent_messages r (passed_calls s records me) ≡ sent_messages r (records me).calls ++ sent_messages r (passed_open s me (records me).stage records)
passed_sent s r me records = sent_messages-append r (records me).calls (passed_open s me (records me).stage records)

-- beside an open message none is on its way
no_post : (s : SetupView) (me : ℕ) (post : Option InFlight) (stage : Stage) → IsPosted s me stage post → (is_free stage ≡ false) → post ≡ None
no_post s me None stage posted busy = refl
no_post s me (Some post) stage posted busy = absurd (true≢false (sym posted.free ∙ busy))

-- what an open call that is passed sends to a rank: nothing, or the open message
open_sent : (s : SetupView) (r me : ℕ) (records : ℕ → Record) (stage : Stage) (post : Option InFlight) → IsPosted s me stage post
    → (sent_messages r (passed_open s me stage records) ≡ []) ⊎ ((m : Message) × (open_message (chunk_of s) r stage ≡ Some m) × (sent_messages r (passed_open s me stage records) ≡ m ∷ []) × (post ≡ None))
open_sent s r me records Idle post posted = inl refl
open_sent s r me records (Drafting header chunk) post posted = inl refl
open_sent s r me records (Sending to part message chunk) post posted = sends (is_received_ahead me to records) (to == r) refl
  where
    sends : (b at : Bool) → at ≡ (to == r)
        → (sent_messages r (if b then send_to to (message_of (in_hand (chunk_of s) part message chunk)) ∷ [] else []) ≡ [])
        ⊎ ((m : Message) × ((if to == r then Some (message_of (in_hand (chunk_of s) part message chunk)) else None) ≡ Some m) × (sent_messages r (if b then send_to to (message_of (in_hand (chunk_of s) part message chunk)) ∷ [] else []) ≡ m ∷ []) × (post ≡ None))
    sends false at is = inl refl
    sends true true is =
        inr (
          message_of (in_hand (chunk_of s) part message chunk),
          ap (λ (b : Bool). if b then Some (message_of (in_hand (chunk_of s) part message chunk)) else None) (sym is),
          ap (λ (b : Bool). if b then message_of (in_hand (chunk_of s) part message chunk) ∷ [] else []) (sym is),
          no_post s me post (Sending to part message chunk) posted refl,
        )
    sends true false is = inl (ap (λ (b : Bool). if b then message_of (in_hand (chunk_of s) part message chunk) ∷ [] else []) (sym is))
open_sent s r me records (Between from message) post posted = inl refl
open_sent s r me records (Taking from message chunk) post posted = inl refl
open_sent s r me records (Barrier c seen released) post posted = inl (none (is_gathered s c me records))
  where
    none : (b : Bool) → sent_messages r (if b then Bar c ∷ [] else []) ≡ []
    none true = refl
    none false = refl

-- the message in a slot was posted and is on its way
slot_sent : (s : SetupView) (r me : ℕ) (records : ℕ → Record) (post : Option InFlight)
    → (slot_message r (slot_by (chunk_of s) me post records) ≡ []) ⊎ ((m : Message) × (posted_message (chunk_of s) r post ≡ Some m) × (slot_message r (slot_by (chunk_of s) me post records) ≡ m ∷ []))
slot_sent s r me records None = inl refl
slot_sent s r me records (Some post) = stands (length (received_messages me (records post.to).calls) == length (sent_messages post.to (records me).calls)) (post.to == r) refl
  where
    stands : (b at : Bool) → at ≡ (post.to == r)
        → (slot_message r (if b then None else Some (record { to = post.to; head = post.head; bytes = (with_chunk (chunk_of s) (fresh_message post.head) post.chunk).bytes })) ≡ [])
        ⊎ ((m : Message) × ((if post.to == r then Some (message_of (with_chunk (chunk_of s) (fresh_message post.head) post.chunk)) else None) ≡ Some m) × (slot_message r (if b then None else Some (record { to = post.to; head = post.head; bytes = (with_chunk (chunk_of s) (fresh_message post.head) post.chunk).bytes })) ≡ m ∷ []))
    stands true at is = inl refl
    stands false true is =
        inr (
          message_of (with_chunk (chunk_of s) (fresh_message post.head) post.chunk),
          ap (λ (b : Bool). if b then Some (message_of (with_chunk (chunk_of s) (fresh_message post.head) post.chunk)) else None) (sym is),
          ap (λ (b : Bool). if b then message_of (with_chunk (chunk_of s) (fresh_message post.head) post.chunk) ∷ [] else []) (sym is),
        )
    stands false false is = inl (ap (λ (b : Bool). if b then message_of (with_chunk (chunk_of s) (fresh_message post.head) post.chunk) ∷ [] else []) (sym is))

pub pair_messages : (s : SetupView) (from to : ℕ) (records : ℕ → Record) → CallsAgree s records → IsConsistent s from (records from) → PairMessages s from to records
pair_messages s from to records legal consistent =
    told (open_sent s to from records (records from).stage (records from).post consistent.post) (slot_sent s to from records (records from).post)
  where
    passed : sent_messages to (records from).calls ++ sent_messages to (passed_open s from (records from).stage records) ≡ received_messages from (records to).calls ++ slot_message to (slot_of s records from)
    passed = sym (passed_sent s to from records) ∙ legal_messages s.nue (setup_key s) (passed_calls s records) (slot_of s records) legal from to ∙ ap (λ (l : List Message). l ++ slot_message to (slot_of s records from)) (passed_received s from to records)

    told : (sent_messages to (passed_open s from (records from).stage records) ≡ []) ⊎ ((m : Message) × (open_message (chunk_of s) to (records from).stage ≡ Some m) × (sent_messages to (passed_open s from (records from).stage records) ≡ m ∷ []) × ((records from).post ≡ None))
        → (slot_message to (slot_of s records from) ≡ []) ⊎ ((m : Message) × (posted_message (chunk_of s) to (records from).post ≡ Some m) × (slot_message to (slot_of s records from) ≡ m ∷ []))
        → PairMessages s from to records
    told (inl none) (inl empty) =
        AllReceived (sym (append-nil (received_messages from (records to).calls)) ∙ ap (λ (l : List Message). received_messages from (records to).calls ++ l) (sym empty) ∙ sym passed
        ∙ ap (λ (l : List Message). sent_messages to (records from).calls ++ l) none ∙ append-nil (sent_messages to (records from).calls))
    told (inl none) (inr (m, posted, full)) =
        StillInFlight m posted (sym (append-nil (sent_messages to (records from).calls)) ∙ ap (λ (l : List Message). sent_messages to (records from).calls ++ l) (sym none) ∙ passed
        ∙ ap (λ (l : List Message). received_messages from (records to).calls ++ l) full)
    told (inr (m, opened, sends, free)) (inl empty) =
        OpenReceived m opened (sym (append-nil (received_messages from (records to).calls)) ∙ ap (λ (l : List Message). received_messages from (records to).calls ++ l) (sym empty) ∙ sym passed
        ∙ ap (λ (l : List Message). sent_messages to (records from).calls ++ l) sends)
    told (inr (m, opened, sends, free)) (inr (n, posted, full)) =
        let no_message : posted_message (chunk_of s) to (records from).post ≡ None = ap (posted_message (chunk_of s) to) free in cc
