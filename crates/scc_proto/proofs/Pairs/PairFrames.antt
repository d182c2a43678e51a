-- What moves leave of a pair: a pair of which neither rank moved, the sender's side under the moves of a
-- receiver, and the receiver's side under the moves of a sender.
use Rattle.std.proofs.Common.{◌≡◌, ℕ, suc, Bool, true, false, ◌&&◌, ◌==◌, if◌then◌else◌, List, [], ◌∷◌, ◌++◌, Option, None, refl, sym, subst}
use Rattle.scc_base.specs.Calls.{DataCall, Bar}
use Rattle.scc_proto.specs.Messages.{Notes, sent_messages, received_messages, is_last, with_chunk, message_of}
use Rattle.scc_proto.specs.Stages.{Filling, Raised, Answered, Stage, Idle, Drafting, Sending, Between, Taking, Barrier, InFlight}
use Rattle.scc_proto.specs.Moves.{draft_header, draft_chunk, raise_sent, read_chunk, lower_sent, raise_ready, look_ready, lower_ready, flip_gather, look_gather, write_release, look_release, finished_if, calls_released, calls_let_go, calls_raised, calls_received, calls_sent, is_posted}
use Rattle.scc_proto.specs.Pairs.{Awaiting, sending_side, taking_side, side_of_post, Pair, Phase}
use Rattle.scc_proto.proofs.Messages.MessageLists.{sent_messages-recv, sent_messages-bar, received_messages-send, received_messages-post, received_messages-bar}

-- two pairs that show the same are in the same phase
pub same_pair : (size : ℕ) (x y : Pair) → y.sent_flag ≡ x.sent_flag → y.ready_flag ≡ x.ready_flag → y.sending ≡ x.sending → y.taking ≡ x.taking → y.notes ≡ x.notes
    → y.header ≡ x.header → y.chunk ≡ x.chunk → y.sent ≡ x.sent → y.received ≡ x.received → Phase size x → Phase size y
same_pair size x y f r s t n h c a b phase = subst (λ (p : Pair). Phase size p)
    (λ i. record { sent_flag = sym f i; ready_flag = sym r i; sending = sym s i; taking = sym t i; notes = sym n i; header = sym h i; chunk = sym c i; sent = sym a i; received = sym b i }) phase

-- one of two stages, by a test
either : (P : Stage → Type 0) (b : Bool) (x y : Stage) → P x → P y → P (if b then x else y)
either P true x y p q = p
either P false x y p q = q

-- one more call or none, by a test
either_calls : (P : List DataCall → Type 0) (b : Bool) (call : DataCall) (calls : List DataCall) → P calls → P (calls ++ call ∷ []) → P (finished_if b call calls)
either_calls P true call calls p q = q
either_calls P false call calls p q = p

-- ---- the sender's side, where the move is none of a sender's

module _ (to : ℕ) (post : Option InFlight) where
  pub sending-read_chunk : (from k v : ℕ) (st : Stage) → sending_side to (read_chunk from k v st) post ≡ sending_side to st post
  sending-read_chunk from k v Idle = refl
  sending-read_chunk from k v (Drafting header chunk) = refl
  sending-read_chunk from k v (Sending j part message chunk) = refl
  sending-read_chunk from k v (Between i message) = refl
  sending-read_chunk from k v (Taking i message chunk) = either (λ x. sending_side to x post ≡ side_of_post to post) (i == from) _ _ refl refl
  sending-read_chunk from k v (Barrier c seen released) = refl

  pub sending-lower_sent : (from : ℕ) (header : Notes) (st : Stage) → sending_side to (lower_sent from header st) post ≡ sending_side to st post
  sending-lower_sent from header Idle = refl
  sending-lower_sent from header (Drafting h chunk) = refl
  sending-lower_sent from header (Sending j part message chunk) = refl
  sending-lower_sent from header (Between i message) = refl
  sending-lower_sent from header (Taking i message chunk) = refl
  sending-lower_sent from header (Barrier c seen released) = refl

  pub sending-raise_ready : (size : ℕ) (st : Stage) → sending_side to (raise_ready size st) post ≡ sending_side to st post
  sending-raise_ready size Idle = refl
  sending-raise_ready size (Drafting h chunk) = refl
  sending-raise_ready size (Sending j part message chunk) = refl
  sending-raise_ready size (Between i message) = refl
  sending-raise_ready size (Taking i message chunk) = either (λ x. sending_side to x post ≡ side_of_post to post) (is_last size message) _ _ refl refl
  sending-raise_ready size (Barrier c seen released) = refl

  pub sending-flip_gather : (comm last : ℕ) (st : Stage) → sending_side to (flip_gather comm last st) post ≡ sending_side to st post
  sending-flip_gather comm last Idle = either (λ x. sending_side to x post ≡ side_of_post to post) (last == 0) _ _ refl refl
  sending-flip_gather comm last (Drafting h chunk) = refl
  sending-flip_gather comm last (Sending j part message chunk) = refl
  sending-flip_gather comm last (Between i message) = refl
  sending-flip_gather comm last (Taking i message chunk) = refl
  sending-flip_gather comm last (Barrier c seen released) = refl

  pub sending-look_gather : (comm place value v : ℕ) (st : Stage) → sending_side to (look_gather comm place value v st) post ≡ sending_side to st post
  sending-look_gather comm place value v Idle = refl
  sending-look_gather comm place value v (Drafting h chunk) = refl
  sending-look_gather comm place value v (Sending j part message chunk) = refl
  sending-look_gather comm place value v (Between i message) = refl
  sending-look_gather comm place value v (Taking i message chunk) = refl
  sending-look_gather comm place value v (Barrier c seen released) = either (λ x. sending_side to x post ≡ side_of_post to post) ((c == comm) && ((place == suc seen) && (value == v))) _ _ refl refl

  pub sending-write_release : (last : ℕ) (st : Stage) → sending_side to (write_release last st) post ≡ sending_side to st post
  sending-write_release last Idle = refl
  sending-write_release last (Drafting h chunk) = refl
  sending-write_release last (Sending j part message chunk) = refl
  sending-write_release last (Between i message) = refl
  sending-write_release last (Taking i message chunk) = refl
  sending-write_release last (Barrier c seen released) = either (λ x. sending_side to x post ≡ side_of_post to post) (suc released == last) _ _ refl refl

  pub sending-look_release : (comm value v : ℕ) (st : Stage) → sending_side to (look_release comm value v st) post ≡ sending_side to st post
  sending-look_release comm value v Idle = refl
  sending-look_release comm value v (Drafting h chunk) = refl
  sending-look_release comm value v (Sending j part message chunk) = refl
  sending-look_release comm value v (Between i message) = refl
  sending-look_release comm value v (Taking i message chunk) = refl
  sending-look_release comm value v (Barrier c seen released) = either (λ x. sending_side to x post ≡ side_of_post to post) ((c == comm) && (value == v)) _ _ refl refl

-- ---- the receiver's side, where the move is none of a receiver's

module _ (from : ℕ) where
  pub taking-draft_header : (k v : ℕ) (st : Stage) → taking_side from (draft_header k v st) ≡ taking_side from st
  taking-draft_header k v Idle = refl
  taking-draft_header k v (Drafting h chunk) = refl
  taking-draft_header k v (Sending j part message chunk) = refl
  taking-draft_header k v (Between i message) = refl
  taking-draft_header k v (Taking i message chunk) = refl
  taking-draft_header k v (Barrier c seen released) = refl

  pub taking-draft_chunk : (k v : ℕ) (st : Stage) → taking_side from (draft_chunk k v st) ≡ taking_side from st
  taking-draft_chunk k v Idle = refl
  taking-draft_chunk k v (Drafting h chunk) = refl
  taking-draft_chunk k v (Sending j Filling message chunk) = refl
  taking-draft_chunk k v (Sending j Raised message chunk) = refl
  taking-draft_chunk k v (Sending j Answered message chunk) = refl
  taking-draft_chunk k v (Between i message) = refl
  taking-draft_chunk k v (Taking i message chunk) = refl
  taking-draft_chunk k v (Barrier c seen released) = refl

  pub taking-raise_sent : (to : ℕ) (st : Stage) → taking_side from (raise_sent to st) ≡ taking_side from st
  taking-raise_sent to Idle = refl
  taking-raise_sent to (Drafting h chunk) = either (λ x. taking_side from x ≡ Awaiting None) (is_posted h) _ _ refl refl
  taking-raise_sent to (Sending j Filling message chunk) = refl
  taking-raise_sent to (Sending j Raised message chunk) = refl
  taking-raise_sent to (Sending j Answered message chunk) = refl
  taking-raise_sent to (Between i message) = refl
  taking-raise_sent to (Taking i message chunk) = refl
  taking-raise_sent to (Barrier c seen released) = refl

  pub taking-look_ready : (is_set : ℕ → Bool) (st : Stage) → taking_side from (look_ready is_set st) ≡ taking_side from st
  taking-look_ready is_set Idle = refl
  taking-look_ready is_set (Drafting h chunk) = refl
  taking-look_ready is_set (Sending j Filling message chunk) = refl
  taking-look_ready is_set (Sending j Raised message chunk) = either (λ x. taking_side from x ≡ Awaiting None) (is_set j) _ _ refl refl
  taking-look_ready is_set (Sending j Answered message chunk) = refl
  taking-look_ready is_set (Between i message) = refl
  taking-look_ready is_set (Taking i message chunk) = refl
  taking-look_ready is_set (Barrier c seen released) = refl

  pub taking-lower_ready : (size : ℕ) (st : Stage) → taking_side from (lower_ready size st) ≡ taking_side from st
  taking-lower_ready size Idle = refl
  taking-lower_ready size (Drafting h chunk) = refl
  taking-lower_ready size (Sending j part message chunk) = either (λ x. taking_side from x ≡ Awaiting None) (is_last size message) _ _ refl refl
  taking-lower_ready size (Between i message) = refl
  taking-lower_ready size (Taking i message chunk) = refl
  taking-lower_ready size (Barrier c seen released) = refl

  pub taking-flip_gather : (comm last : ℕ) (st : Stage) → taking_side from (flip_gather comm last st) ≡ taking_side from st
  taking-flip_gather comm last Idle = either (λ x. taking_side from x ≡ Awaiting None) (last == 0) _ _ refl refl
  taking-flip_gather comm last (Drafting h chunk) = refl
  taking-flip_gather comm last (Sending j part message chunk) = refl
  taking-flip_gather comm last (Between i message) = refl
  taking-flip_gather comm last (Taking i message chunk) = refl
  taking-flip_gather comm last (Barrier c seen released) = refl

  pub taking-look_gather : (comm place value v : ℕ) (st : Stage) → taking_side from (look_gather comm place value v st) ≡ taking_side from st
  taking-look_gather comm place value v Idle = refl
  taking-look_gather comm place value v (Drafting h chunk) = refl
  taking-look_gather comm place value v (Sending j part message chunk) = refl
  taking-look_gather comm place value v (Between i message) = refl
  taking-look_gather comm place value v (Taking i message chunk) = refl
  taking-look_gather comm place value v (Barrier c seen released) = either (λ x. taking_side from x ≡ Awaiting None) ((c == comm) && ((place == suc seen) && (value == v))) _ _ refl refl

  pub taking-write_release : (last : ℕ) (st : Stage) → taking_side from (write_release last st) ≡ taking_side from st
  taking-write_release last Idle = refl
  taking-write_release last (Drafting h chunk) = refl
  taking-write_release last (Sending j part message chunk) = refl
  taking-write_release last (Between i message) = refl
  taking-write_release last (Taking i message chunk) = refl
  taking-write_release last (Barrier c seen released) = either (λ x. taking_side from x ≡ Awaiting None) (suc released == last) _ _ refl refl

  pub taking-look_release : (comm value v : ℕ) (st : Stage) → taking_side from (look_release comm value v st) ≡ taking_side from st
  taking-look_release comm value v Idle = refl
  taking-look_release comm value v (Drafting h chunk) = refl
  taking-look_release comm value v (Sending j part message chunk) = refl
  taking-look_release comm value v (Between i message) = refl
  taking-look_release comm value v (Taking i message chunk) = refl
  taking-look_release comm value v (Barrier c seen released) = either (λ x. taking_side from x ≡ Awaiting None) ((c == comm) && (value == v)) _ _ refl refl

-- ---- the messages of the calls

module _ (r : ℕ) (calls : List DataCall) where
  pub sent-calls_received : (size : ℕ) (st : Stage) → sent_messages r (calls_received size st calls) ≡ sent_messages r calls
  sent-calls_received size Idle = refl
  sent-calls_received size (Drafting h chunk) = refl
  sent-calls_received size (Sending j part message chunk) = refl
  sent-calls_received size (Between i message) = refl
  sent-calls_received size (Taking i message chunk) = either_calls (λ l. sent_messages r l ≡ sent_messages r calls) (is_last size message) _ calls refl (sent_messages-recv r calls i (message_of (with_chunk size message chunk)))
  sent-calls_received size (Barrier c seen released) = refl

  pub received-calls_raised : (size to : ℕ) (st : Stage) → received_messages r (calls_raised size to st calls) ≡ received_messages r calls
  received-calls_raised size to Idle = refl
  received-calls_raised size to (Drafting h chunk) = either_calls (λ l. received_messages r l ≡ received_messages r calls) (is_posted h) _ calls refl (received_messages-post r calls to _)
  received-calls_raised size to (Sending j part message chunk) = refl
  received-calls_raised size to (Between i message) = refl
  received-calls_raised size to (Taking i message chunk) = refl
  received-calls_raised size to (Barrier c seen released) = refl

  pub received-calls_sent : (size : ℕ) (st : Stage) → received_messages r (calls_sent size st calls) ≡ received_messages r calls
  received-calls_sent size Idle = refl
  received-calls_sent size (Drafting h chunk) = refl
  received-calls_sent size (Sending j part message chunk) = either_calls (λ l. received_messages r l ≡ received_messages r calls) (is_last size message) _ calls refl (received_messages-send r calls j _)
  received-calls_sent size (Between i message) = refl
  received-calls_sent size (Taking i message chunk) = refl
  received-calls_sent size (Barrier c seen released) = refl

  pub sent-finished_bar : (b : Bool) (comm : ℕ) → sent_messages r (finished_if b (Bar comm) calls) ≡ sent_messages r calls
  sent-finished_bar b comm = either_calls (λ l. sent_messages r l ≡ sent_messages r calls) b (Bar comm) calls refl (sent_messages-bar r calls comm)

  pub received-finished_bar : (b : Bool) (comm : ℕ) → received_messages r (finished_if b (Bar comm) calls) ≡ received_messages r calls
  received-finished_bar b comm = either_calls (λ l. received_messages r l ≡ received_messages r calls) b (Bar comm) calls refl (received_messages-bar r calls comm)

  pub sent-calls_released : (last : ℕ) (st : Stage) → sent_messages r (calls_released last st calls) ≡ sent_messages r calls
  sent-calls_released last Idle = refl
  sent-calls_released last (Drafting h chunk) = refl
  sent-calls_released last (Sending j part message chunk) = refl
  sent-calls_released last (Between i message) = refl
  sent-calls_released last (Taking i message chunk) = refl
  sent-calls_released last (Barrier c seen released) = sent-finished_bar (suc released == last) c

  pub received-calls_released : (last : ℕ) (st : Stage) → received_messages r (calls_released last st calls) ≡ received_messages r calls
  received-calls_released last Idle = refl
  received-calls_released last (Drafting h chunk) = refl
  received-calls_released last (Sending j part message chunk) = refl
  received-calls_released last (Between i message) = refl
  received-calls_released last (Taking i message chunk) = refl
  received-calls_released last (Barrier c seen released) = received-finished_bar (suc released == last) c

  pub sent-calls_let_go : (comm value v : ℕ) (st : Stage) → sent_messages r (calls_let_go comm value v st calls) ≡ sent_messages r calls
  sent-calls_let_go comm value v Idle = refl
  sent-calls_let_go comm value v (Drafting h chunk) = refl
  sent-calls_let_go comm value v (Sending j part message chunk) = refl
  sent-calls_let_go comm value v (Between i message) = refl
  sent-calls_let_go comm value v (Taking i message chunk) = refl
  sent-calls_let_go comm value v (Barrier c seen released) = sent-finished_bar ((c == comm) && (value == v)) c

  pub received-calls_let_go : (comm value v : ℕ) (st : Stage) → received_messages r (calls_let_go comm value v st calls) ≡ received_messages r calls
  received-calls_let_go comm value v Idle = refl
  received-calls_let_go comm value v (Drafting h chunk) = refl
  received-calls_let_go comm value v (Sending j part message chunk) = refl
  received-calls_let_go comm value v (Between i message) = refl
  received-calls_let_go comm value v (Taking i message chunk) = refl
  received-calls_let_go comm value v (Barrier c seen released) = received-finished_bar ((c == comm) && (value == v)) c
