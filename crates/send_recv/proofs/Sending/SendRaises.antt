-- The turn of a send that raises `sent`: a chunk is offered, and a posted message is on its way.
use Rattle.std.proofs.Common.{◌≡◌, ℕ, ◌+◌, ◌<◌, ◌≤◌, true, false, List, [], ◌∷◌, ◌++◌, Option, Some, option_map, length, ◌∙◌, ap, arith}
use Rattle.scc_base.specs.Calls.{Post}
use Rattle.scc_base.specs.Heads.{MessageHead, IsPostHead}
use Rattle.scc_base.specs.Layouts.{chunk_size}
use Rattle.scc_base.specs.declared.layouts.Layout.{Layout}
use Rattle.scc_base.specs.declared.layouts.Layout.TheVariants.{LineFlags, BitFlags}
use Rattle.scc_base.specs.declared.signals.Signal.TheVariants.{Sent}
use Rattle.scc_proto.specs.Messages.{Notes, head_of, Progress, fresh_message, with_chunk, message_of, post_to}
use Rattle.scc_proto.specs.Stages.{Raised, Stage, Idle, Sending, InFlight, Record}
use Rattle.scc_proto.specs.Moves.{RaiseSignal, raise_sent, post_raised, calls_raised, finished_if, is_posted, after}
use Rattle.scc_proto.proofs.Layouts.Roles.{if_yes, if_no}
use Rattle.send_recv.specs.Chunks.{chunk_count, chunk_start}
use Rattle.send_recv.specs.Ops.{SendAt}
use Rattle.send_recv.specs.Receiving.{progress_at}
use Rattle.send_recv.specs.Sending.{HasLines, HasDrafted, First, Later, lines_in_hand}
use Rattle.send_recv.proofs.Receiving.RaiseTurn.{whole}
use Rattle.send_recv.proofs.Lines.DraftWhole.{AreBytes, as_receive, drafted_read, head_drafted, posted_is, begun_is}

-- ---- a send: its chunk is offered

pub record IsOffered (size : ℕ) (rec new : Record) (op : SendAt) (bytes : List ℕ) : Type 0 where
  pub chunk : Notes
  pub stage_is : new.stage ≡ Sending op.to Raised (progress_at size op.head op.chunk bytes) chunk
  pub lines : HasLines size chunk op bytes (lines_in_hand size op)
  pub post : new.post ≡ rec.post
  pub calls : new.calls ≡ rec.calls

pub offered : (size : ℕ) (rec new : Record) (stage : Stage) (op : SendAt) (bytes : List ℕ) → op.posted ≡ false → HasDrafted size stage op bytes (lines_in_hand size op) → new ≡ after size (RaiseSignal Sent op.to) (record rec { stage = stage })
    → IsOffered size rec new op bytes
offered size rec new stage op bytes plain (First header chunk first at words lines) is =
    let not_posted : is_posted header ≡ false = posted_is header op words ∙ plain in
    let message = fresh_message (head_of header) in
    record {
      chunk = chunk;
      stage_is = ap (λ (r : Record). r.stage) is ∙ ap (λ (st : Stage). raise_sent op.to st) at ∙ if_no (is_posted header) Idle (Sending op.to Raised message chunk) not_posted
          ∙ ap (λ (m : Progress). Sending op.to Raised m chunk) (ap (λ (h : MessageHead). fresh_message h) (head_drafted header op words) ∙ begun_is size op.head op.chunk bytes first);
      lines = lines;
      post = ap (λ (r : Record). r.post) is ∙ ap (λ (st : Stage). post_raised op.to st rec.post) at
          ∙ if_no (is_posted header) (Some (record { to = op.to; head = head_of header; chunk = chunk; is_answered = false })) rec.post not_posted;
      calls = ap (λ (r : Record). r.calls) is ∙ ap (λ (st : Stage). calls_raised size op.to st rec.calls) at
          ∙ ap (λ b. finished_if b (post_to op.to (message_of (with_chunk size message chunk))) rec.calls) not_posted;
    }
offered size rec new stage op bytes plain (Later chunk later at lines) is = record {
  chunk = chunk;
  stage_is = ap (λ (r : Record). r.stage) is ∙ ap (λ (st : Stage). raise_sent op.to st) at;
  lines = lines;
  post = ap (λ (r : Record). r.post) is ∙ ap (λ (st : Stage). post_raised op.to st rec.post) at;
  calls = ap (λ (r : Record). r.calls) is ∙ ap (λ (st : Stage). calls_raised size op.to st rec.calls) at;
}

-- ---- a post: the call is finished, and its message is on its way

pub record IsPostedNow (rec new : Record) (op : SendAt) (bytes : List ℕ) : Type 0 where
  pub stage : new.stage ≡ Idle
  pub to : option_map (λ (p : InFlight). p.to) new.post ≡ Some op.to
  pub calls : new.calls ≡ rec.calls ++ Post op.to op.head bytes ∷ []

-- a message that may be posted has one chunk
one_chunk : (layout : Layout) (len chunk : ℕ) → len ≤ 3584 → chunk < chunk_count (chunk_size layout) len → chunk ≡ 0
one_chunk LineFlags len chunk within below = omega (arith, within, below)
one_chunk BitFlags len chunk within below = omega (arith, within, below)

one_whole : (layout : Layout) (len chunk : ℕ) → len ≤ 3584 → len ≤ chunk_start (chunk_size layout) (chunk + 1)
one_whole LineFlags len chunk within = omega (arith, within)
one_whole BitFlags len chunk within = omega (arith, within)

pub posted_now : (layout : Layout) (rec new : Record) (stage : Stage) (op : SendAt) (bytes : List ℕ) → AreBytes bytes → op.posted ≡ true → IsPostHead op.head → length bytes ≡ op.head.len → op.chunk < chunk_count (chunk_size layout) op.head.len
    → HasDrafted (chunk_size layout) stage op bytes (lines_in_hand (chunk_size layout) op) → new ≡ after (chunk_size layout) (RaiseSignal Sent op.to) (record rec { stage = stage }) → IsPostedNow rec new op bytes
posted_now layout rec new stage op bytes small posts head long below (First header chunk first at words lines) is =
    let size = chunk_size layout in
    let posted : is_posted header ≡ true = posted_is header op words ∙ posts in
    let message = fresh_message (head_of header) in
    let begins : message ≡ progress_at size op.head op.chunk bytes = ap (λ (h : MessageHead). fresh_message h) (head_drafted header op words) ∙ begun_is size op.head op.chunk bytes first in
    record {
      stage = ap (λ (r : Record). r.stage) is ∙ ap (λ (st : Stage). raise_sent op.to st) at ∙ if_yes (is_posted header) Idle (Sending op.to Raised message chunk) posted;
      to = ap (λ (r : Record). option_map (λ (p : InFlight). p.to) r.post) is ∙ ap (λ (st : Stage). option_map (λ (p : InFlight). p.to) (post_raised op.to st rec.post)) at
          ∙ ap (λ (o : Option InFlight). option_map (λ (p : InFlight). p.to) o) (if_yes (is_posted header) (Some (record { to = op.to; head = head_of header; chunk = chunk; is_answered = false })) rec.post posted);
      calls = ap (λ (r : Record). r.calls) is ∙ ap (λ (st : Stage). calls_raised size op.to st rec.calls) at
          ∙ ap (λ b. finished_if b (post_to op.to (message_of (with_chunk size message chunk))) rec.calls) posted
          ∙ ap (λ (m : Progress). rec.calls ++ post_to op.to (message_of (with_chunk size m chunk)) ∷ []) begins
          ∙ ap (λ bs. rec.calls ++ Post op.to op.head bs ∷ [])
          (whole layout (as_receive op) bytes chunk long below (drafted_read size chunk op bytes small lines) (one_whole layout op.head.len op.chunk head.len_within));
    }
posted_now layout rec new stage op bytes small posts head long below (Later chunk later at lines) is = absurd (later (one_chunk layout op.head.len op.chunk head.len_within below))
