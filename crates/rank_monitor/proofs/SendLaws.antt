-- What a monitor keeps of a stage after a move of a sender, and which calls the move finishes.
use Rattle.std.proofs.Common.{◌≡◌, ◌≢◌, ℕ, Bool, true, false, ◌==◌, if◌then◌else◌, List, [], ◌∷◌, ◌++◌, Option, Some, refl, sym, ◌∙◌, ap, subst}
use Rattle.scc_base.specs.Heads.{MessageHead}
use Rattle.scc_base.specs.Calls.{DataCall}
use Rattle.scc_base.specs.declared.calls.Call.TheVariants as call
use Rattle.scc_proto.specs.Messages.{Notes, note_word, head_of, Progress, fresh_message, is_last, is_whole, is_padded, with_chunk, message_of, post_to, send_to}
use Rattle.scc_proto.specs.Moves.{is_posted, draft_header, draft_chunk, raise_sent, look_ready, lower_ready, calls_raised, calls_sent, post_raised}
use Rattle.scc_proto.specs.Permission.{drafts_header, drafts_chunk, is_drafted, is_idle, is_whole_header, may_go_on, may_raise}
use Rattle.scc_proto.specs.Stages.{Filling, Raised, Answered, Stage, Idle, Drafting, Sending, Between, Taking, Barrier, InFlight}
use Rattle.scc_proto.proofs.Tests.{same_by_eqb, both_first, both_second}
use Rattle.rank_monitor.specs.Following.{Adds, with_draft_open}
use Rattle.rank_monitor.specs.Noted.{IsChunkOf, IsLineOf, TellsHead}
use Rattle.rank_monitor.specs.Standing.{IsInHand, KeepsStage, KeepsPost}
use Rattle.rank_monitor.specs.Standing.KeepsStage.{AtIdle, AtDraft, AtFill, AtRaised, AtAnswered, AtPause, AtTake, AtMeet}
use Rattle.rank_monitor.specs.declared.chunks.NotedChunk.{NotedChunk}
use Rattle.rank_monitor.specs.declared.lines.NotedLine.{NotedLine}
use Rattle.rank_monitor.specs.declared.works.Standing.{Standing}
use Rattle.rank_monitor.specs.declared.works.Standing.TheVariants as standing
use Rattle.rank_monitor.proofs.StageLaws.{IsThrough, begun_in_hand, said_valid}

pub if_true : {A : Type 0} (b : Bool) (x y : A) → b ≡ true → (if b then x else y) ≡ x
if_true true x y t = refl
if_true false x y t = absurd (cc)

pub if_false : {A : Type 0} (b : Bool) (x y : A) → b ≡ false → (if b then x else y) ≡ y
if_false true x y t = absurd (cc)
if_false false x y t = refl

-- ---- drafts

pub header_opened : (k v : ℕ) (st : Stage) → draft_header k v (with_draft_open st) ≡ draft_header k v st
header_opened k v Idle = refl
header_opened k v (Drafting h c) = refl
header_opened k v (Sending to part m c) = refl
header_opened k v (Between from m) = refl
header_opened k v (Taking from m c) = refl
header_opened k v (Barrier comm seen released) = refl

pub chunk_opened : (k v : ℕ) (st : Stage) → draft_chunk k v (with_draft_open st) ≡ draft_chunk k v st
chunk_opened k v Idle = refl
chunk_opened k v (Drafting h c) = refl
chunk_opened k v (Sending to part m c) = refl
chunk_opened k v (Between from m) = refl
chunk_opened k v (Taking from m c) = refl
chunk_opened k v (Barrier comm seen released) = refl

pub header_stays_open : (st : Stage) → drafts_header (with_draft_open st) ≡ drafts_header st
header_stays_open Idle = refl
header_stays_open (Drafting h c) = refl
header_stays_open (Sending to part m c) = refl
header_stays_open (Between from m) = refl
header_stays_open (Taking from m c) = refl
header_stays_open (Barrier comm seen released) = refl

pub chunk_stays_open : (st : Stage) → drafts_chunk (with_draft_open st) ≡ drafts_chunk st
chunk_stays_open Idle = refl
chunk_stays_open (Drafting h c) = refl
chunk_stays_open (Sending to part m c) = refl
chunk_stays_open (Between from m) = refl
chunk_stays_open (Taking from m c) = refl
chunk_stays_open (Barrier comm seen released) = refl

pub not_idle : (st : Stage) → is_idle (with_draft_open st) ≡ false
not_idle Idle = refl
not_idle (Drafting h c) = refl
not_idle (Sending to part m c) = refl
not_idle (Between from m) = refl
not_idle (Taking from m c) = refl
not_idle (Barrier comm seen released) = refl

pub stays_opened : (st : Stage) → is_idle st ≡ false → with_draft_open st ≡ st
stays_opened Idle not_so = absurd (cc)
stays_opened (Drafting h c) not_so = refl
stays_opened (Sending to part m c) not_so = refl
stays_opened (Between from m) not_so = refl
stays_opened (Taking from m c) not_so = refl
stays_opened (Barrier comm seen released) not_so = refl

pub opens_idle : (st : Stage) → is_idle st ≡ true → with_draft_open st ≡ Drafting [] []
opens_idle Idle so = refl
opens_idle (Drafting h c) so = absurd (cc)
opens_idle (Sending to part m c) so = absurd (cc)
opens_idle (Between from m) so = absurd (cc)
opens_idle (Taking from m c) so = absurd (cc)
opens_idle (Barrier comm seen released) so = absurd (cc)

module _ (size : ℕ) (header : NotedLine) (chunk : NotedChunk) (bytes : List ℕ) where
  header_noted : (mid : Standing) (st : Stage) → KeepsStage size header chunk bytes mid st → drafts_header st ≡ true → is_idle st ≡ false → (k v : ℕ) (now : NotedLine)
      → ((words : Notes) → IsLineOf header words → IsLineOf now (note_word k v words)) → KeepsStage size now chunk bytes mid (draft_header k v st)
  header_noted mid st AtIdle may other k v now more = absurd (cc)
  header_noted mid st (AtDraft h c a b) may other k v now more = AtDraft (note_word k v h) c (more h a) b
  header_noted mid st (AtFill to head m c o w) may other k v now more = absurd (cc)
  header_noted mid st (AtRaised to head m c o w u) may other k v now more = absurd (cc)
  header_noted mid st (AtAnswered to head m c o w u) may other k v now more = absurd (cc)
  header_noted mid st (AtPause from head m o) may other k v now more = absurd (cc)
  header_noted mid st (AtTake from head m c o w) may other k v now more = absurd (cc)
  header_noted mid st (AtMeet comm seen released) may other k v now more = absurd (cc)

  chunk_noted : (mid : Standing) (st : Stage) → KeepsStage size header chunk bytes mid st → drafts_chunk st ≡ true → is_idle st ≡ false → (k v : ℕ) (now : NotedChunk)
      → ((words : Notes) → IsChunkOf chunk words → IsChunkOf now (note_word k v words)) → KeepsStage size header now bytes mid (draft_chunk k v st)
  chunk_noted mid st AtIdle may other k v now more = absurd (cc)
  chunk_noted mid st (AtDraft h c a b) may other k v now more = AtDraft h (note_word k v c) a (more c b)
  chunk_noted mid st (AtFill to head m c o w) may other k v now more = AtFill to head m (note_word k v c) o (more c w)
  chunk_noted mid st (AtRaised to head m c o w u) may other k v now more = absurd (cc)
  chunk_noted mid st (AtAnswered to head m c o w u) may other k v now more = absurd (cc)
  chunk_noted mid st (AtPause from head m o) may other k v now more = absurd (cc)
  chunk_noted mid st (AtTake from head m c o w) may other k v now more = absurd (cc)
  chunk_noted mid st (AtMeet comm seen released) may other k v now more = absurd (cc)

  -- one header word more of a draft that is open
  pub header_drafted : (mid : Standing) (st : Stage) → KeepsStage size header chunk bytes mid (with_draft_open st) → drafts_header st ≡ true → (k v : ℕ) (now : NotedLine)
      → ((words : Notes) → IsLineOf header words → IsLineOf now (note_word k v words)) → KeepsStage size now chunk bytes mid (draft_header k v st)
  header_drafted mid st keeps may k v now more = subst (λ (x : Stage). KeepsStage size now chunk bytes mid x) (header_opened k v st)
      (header_noted mid (with_draft_open st) keeps (header_stays_open st ∙ may) (not_idle st) k v now more)

  pub chunk_drafted : (mid : Standing) (st : Stage) → KeepsStage size header chunk bytes mid (with_draft_open st) → drafts_chunk st ≡ true → (k v : ℕ) (now : NotedChunk)
      → ((words : Notes) → IsChunkOf chunk words → IsChunkOf now (note_word k v words)) → KeepsStage size header now bytes mid (draft_chunk k v st)
  chunk_drafted mid st keeps may k v now more = subst (λ (x : Stage). KeepsStage size header now bytes mid x) (chunk_opened k v st)
      (chunk_noted mid (with_draft_open st) keeps (chunk_stays_open st ∙ may) (not_idle st) k v now more)

  -- ---- raises

  -- what is written when a first chunk is raised
  whole_first : (h c : Notes) (to : ℕ) → may_raise size to (Drafting h c) ≡ true → (head : MessageHead) → head_of h ≡ head → is_whole size (fresh_message (head_of h)) c ≡ true
  whole_first h c to may head is = both_first (is_whole size (fresh_message (head_of h)) c) (is_padded size (fresh_message (head_of h)) c) (both_second (is_whole_header h) (is_drafted size (fresh_message (head_of h)) c) may)

  -- a first chunk is raised only while its message is half written
  raises_draft : (mid : Standing) (st : Stage) → KeepsStage size header chunk bytes mid st → ((j : ℕ) (head : MessageHead) → mid ≢ standing.Filling j head) → (to : ℕ) → may_raise size to st ≡ true
      → (h : Notes) × (c : Notes) × (st ≡ Drafting h c) × IsLineOf header h × IsChunkOf chunk c
  raises_draft mid st AtIdle other to may = absurd (cc)
  raises_draft mid st (AtDraft h c a b) other to may = (h, c, refl, a, b)
  raises_draft mid st (AtFill j asked m c o w) other to may = absurd (other j asked refl)
  raises_draft mid st (AtRaised j asked m c o w u) other to may = absurd (cc)
  raises_draft mid st (AtAnswered j asked m c o w u) other to may = absurd (cc)
  raises_draft mid st (AtPause i asked m o) other to may = absurd (cc)
  raises_draft mid st (AtTake i asked m c o w) other to may = absurd (cc)
  raises_draft mid st (AtMeet comm seen released) other to may = absurd (cc)

  -- its header line is whole
  pub raises_line : (mid : Standing) (st : Stage) → KeepsStage size header chunk bytes mid st → ((j : ℕ) (head : MessageHead) → mid ≢ standing.Filling j head) → (to : ℕ) → may_raise size to st ≡ true
      → (h : Notes) × IsLineOf header h × (is_whole_header h ≡ true)
  raises_line mid st keeps other to may =
      let x = raises_draft mid st keeps other to may in
      let drafted : may_raise size to (Drafting x.0 x.1) ≡ true = subst (λ (s : Stage). may_raise size to s ≡ true) x.2 may in
      (x.0, x.3, both_first (is_whole_header x.0) (is_drafted size (fresh_message (head_of x.0)) x.1) drafted)

  plain_raised : (h c : Notes) (to : ℕ) → may_raise size to (Drafting h c) ≡ true → (calls : List DataCall) (post : Option InFlight) (head : MessageHead) → TellsHead h (Some head) → is_posted h ≡ false → IsChunkOf chunk c
      → KeepsStage size header chunk [] (standing.Raised to head) (raise_sent to (Drafting h c)) × (calls_raised size to (Drafting h c) calls ≡ calls) × (post_raised to (Drafting h c) post ≡ post)
  plain_raised h c to may calls post head says not_so b = (
    subst (λ (x : Stage). KeepsStage size header chunk [] (standing.Raised to head) x) (sym (if_false (is_posted h) Idle (Sending to Raised (fresh_message (head_of h)) c) not_so))
        (AtRaised to head (fresh_message (head_of h)) c (begun_in_hand size head (said_valid h head says) (head_of h) says.1) b (whole_first h c to may head says.1)),
    if_false (is_posted h) (calls ++ post_to to (message_of (with_chunk size (fresh_message (head_of h)) c)) ∷ []) calls not_so,
    if_false (is_posted h) (Some (record { to = to; head = head_of h; chunk = c; is_answered = false })) post not_so,
  )

  post_raised_so : (h c : Notes) (to : ℕ) → (calls : List DataCall) (post : Option InFlight) (head : MessageHead) → TellsHead h (Some head) → is_posted h ≡ true → IsChunkOf chunk c → (now : List ℕ)
      → ((m : Progress) (c : Notes) → IsInHand size head [] m → IsChunkOf chunk c → IsThrough size head m c now)
      → KeepsStage size header chunk now standing.Idle (raise_sent to (Drafting h c)) × Adds (Some (call.Post to head)) now calls (calls_raised size to (Drafting h c) calls)
      × KeepsPost (Some (record { to = to; is_answered = false })) (post_raised to (Drafting h c) post)
  post_raised_so h c to calls post head says so b now through =
      let t = through (fresh_message (head_of h)) c (begun_in_hand size head (said_valid h head says) (head_of h) says.1) b in (
        subst (λ (x : Stage). KeepsStage size header chunk now standing.Idle x) (sym (if_true (is_posted h) Idle (Sending to Raised (fresh_message (head_of h)) c) so)) AtIdle,
        (
          post_to to (message_of (with_chunk size (fresh_message (head_of h)) c)),
          ap (λ (q : MessageHead). call.Post to q) says.1,
          t.bytes_are,
          if_true (is_posted h) (calls ++ post_to to (message_of (with_chunk size (fresh_message (head_of h)) c)) ∷ []) calls so,
        ),
        subst (λ (x : Option InFlight). KeepsPost (Some (record { to = to; is_answered = false })) x) (sym (if_true (is_posted h) (Some (record { to = to; head = head_of h; chunk = c; is_answered = false })) post so)) (refl, refl),
      )

  -- a send begins: it stays in the stage, and finishes no call
  pub send_begins : (mid : Standing) (st : Stage) → KeepsStage size header chunk bytes mid st → ((j : ℕ) (head : MessageHead) → mid ≢ standing.Filling j head) → (to : ℕ) → may_raise size to st ≡ true
      → (calls : List DataCall) (post : Option InFlight) (head : MessageHead) → ((words : Notes) → IsLineOf header words → TellsHead words (Some head)) → ((words : Notes) → IsLineOf header words → is_posted words ≡ false)
      → KeepsStage size header chunk [] (standing.Raised to head) (raise_sent to st) × (calls_raised size to st calls ≡ calls) × (post_raised to st post ≡ post)
  send_begins mid st keeps other to may calls post head says plain =
      let x = raises_draft mid st keeps other to may in
      let drafted : may_raise size to (Drafting x.0 x.1) ≡ true = subst (λ (s : Stage). may_raise size to s ≡ true) x.2 may in
      subst (λ (s : Stage). KeepsStage size header chunk [] (standing.Raised to head) (raise_sent to s) × (calls_raised size to s calls ≡ calls) × (post_raised to s post ≡ post)) (sym x.2)
      (plain_raised x.0 x.1 to drafted calls post head (says x.0 x.3) (plain x.0 x.3) x.4)

  -- a message is posted: its call is finished, and it is in flight
  pub post_goes : (mid : Standing) (st : Stage) → KeepsStage size header chunk bytes mid st → ((j : ℕ) (head : MessageHead) → mid ≢ standing.Filling j head) → (to : ℕ) → may_raise size to st ≡ true
      → (calls : List DataCall) (post : Option InFlight) (head : MessageHead) → ((words : Notes) → IsLineOf header words → TellsHead words (Some head)) → ((words : Notes) → IsLineOf header words → is_posted words ≡ true)
      → (now : List ℕ) → ((m : Progress) (c : Notes) → IsInHand size head [] m → IsChunkOf chunk c → IsThrough size head m c now)
      → KeepsStage size header chunk now standing.Idle (raise_sent to st) × Adds (Some (call.Post to head)) now calls (calls_raised size to st calls)
      × KeepsPost (Some (record { to = to; is_answered = false })) (post_raised to st post)
  post_goes mid st keeps other to may calls post head says posted now through =
      let x = raises_draft mid st keeps other to may in
      subst (λ (s : Stage). KeepsStage size header chunk now standing.Idle (raise_sent to s) × Adds (Some (call.Post to head)) now calls (calls_raised size to s calls)
      × KeepsPost (Some (record { to = to; is_answered = false })) (post_raised to s post)) (sym x.2)
      (post_raised_so x.0 x.1 to calls post head (says x.0 x.3) (posted x.0 x.3) x.4 now through)

  -- a later chunk is raised
  pub raised_again : (j : ℕ) (head : MessageHead) (st : Stage) → KeepsStage size header chunk bytes (standing.Filling j head) st → (to : ℕ) → may_raise size to st ≡ true → (calls : List DataCall) (post : Option InFlight)
      → KeepsStage size header chunk bytes (standing.Raised j head) (raise_sent to st) × (calls_raised size to st calls ≡ calls) × (post_raised to st post ≡ post)
  raised_again j head st (AtFill i asked m c o w) to may calls post = (
    subst (λ (r : ℕ). KeepsStage size header chunk bytes (standing.Raised i asked) (Sending r Raised m c)) (same_by_eqb i to (both_first (i == to) (is_drafted size m c) may))
        (AtRaised i asked m c o w (both_first (is_whole size m c) (is_padded size m c) (both_second (i == to) (is_drafted size m c) may))),
    refl,
    refl,
  )

  -- ---- looks at `ready`, and its lowering

  pub ready_seen : (j : ℕ) (head : MessageHead) (st : Stage) → KeepsStage size header chunk bytes (standing.Raised j head) st → (is_set : ℕ → Bool) → is_set j ≡ true
      → KeepsStage size header chunk bytes (standing.Answered j head) (look_ready is_set st)
  ready_seen j head st (AtRaised i asked m c o w u) is_set so =
      subst (λ (x : Stage). KeepsStage size header chunk bytes (standing.Answered i asked) x) (sym (if_true (is_set i) (Sending i Answered m c) (Sending i Raised m c) so)) (AtAnswered i asked m c o w u)

  pub ready_unseen : (j : ℕ) (head : MessageHead) (st : Stage) → KeepsStage size header chunk bytes (standing.Raised j head) st → (is_set : ℕ → Bool) → is_set j ≡ false
      → KeepsStage size header chunk bytes (standing.Raised j head) (look_ready is_set st)
  ready_unseen j head st (AtRaised i asked m c o w u) is_set not_so =
      subst (λ (x : Stage). KeepsStage size header chunk bytes (standing.Raised i asked) x) (sym (if_false (is_set i) (Sending i Answered m c) (Sending i Raised m c) not_so)) (AtRaised i asked m c o w u)

  -- no chunk is raised that was not seen taken
  pub ready_other : (mid : Standing) (st : Stage) → KeepsStage size header chunk bytes mid st → ((j : ℕ) (head : MessageHead) → mid ≢ standing.Raised j head) → (is_set : ℕ → Bool)
      → KeepsStage size header chunk bytes mid (look_ready is_set st)
  ready_other mid st AtIdle other is_set = AtIdle
  ready_other mid st (AtDraft h c a b) other is_set = AtDraft h c a b
  ready_other mid st (AtFill to head m c o w) other is_set = AtFill to head m c o w
  ready_other mid st (AtRaised to head m c o w u) other is_set = absurd (other to head refl)
  ready_other mid st (AtAnswered to head m c o w u) other is_set = AtAnswered to head m c o w u
  ready_other mid st (AtPause from head m o) other is_set = AtPause from head m o
  ready_other mid st (AtTake from head m c o w) other is_set = AtTake from head m c o w
  ready_other mid st (AtMeet comm seen released) other is_set = AtMeet comm seen released

  -- the last chunk is through
  pub sent_last : (j : ℕ) (head : MessageHead) (st : Stage) → KeepsStage size header chunk bytes (standing.Answered j head) st → (calls : List DataCall) (now : List ℕ)
      → ((m : Progress) (c : Notes) → IsInHand size head bytes m → IsChunkOf chunk c → IsThrough size head m c now) → ((m : Progress) → IsInHand size head bytes m → is_last size m ≡ true)
      → KeepsStage size header chunk now standing.Idle (lower_ready size st) × Adds (Some (call.Send j head)) now calls (calls_sent size st calls)
  sent_last j head st (AtAnswered i asked m c o w u) calls now through last =
      let so = last m o in (
        subst (λ (x : Stage). KeepsStage size header chunk now standing.Idle x) (sym (if_true (is_last size m) Idle (Sending i Filling (with_chunk size m c) []) so)) AtIdle,
        (
          send_to i (message_of (with_chunk size m c)),
          ap (λ (q : MessageHead). call.Send i q) o.head_is,
          (through m c o w).bytes_are,
          if_true (is_last size m) (calls ++ send_to i (message_of (with_chunk size m c)) ∷ []) calls so,
        ),
      )

  -- a chunk is through, and the sender may write the next one
  pub sent_more : (j : ℕ) (head : MessageHead) (st : Stage) → KeepsStage size header chunk bytes (standing.Answered j head) st → (calls : List DataCall) (now : List ℕ) (fresh : NotedChunk) → IsChunkOf fresh []
      → ((m : Progress) (c : Notes) → IsInHand size head bytes m → IsChunkOf chunk c → IsThrough size head m c now) → ((m : Progress) → IsInHand size head bytes m → is_last size m ≡ false)
      → KeepsStage size header fresh now (standing.Filling j head) (lower_ready size st) × (calls_sent size st calls ≡ calls)
  sent_more j head st (AtAnswered i asked m c o w u) calls now fresh none through last =
      let not_so = last m o in (
        subst (λ (x : Stage). KeepsStage size header fresh now (standing.Filling i asked) x) (sym (if_false (is_last size m) Idle (Sending i Filling (with_chunk size m c) []) not_so))
            (AtFill i asked (with_chunk size m c) [] ((through m c o w).goes_on not_so) none),
        if_false (is_last size m) (calls ++ send_to i (message_of (with_chunk size m c)) ∷ []) calls not_so,
      )

  -- a lowered `ready` of a posted message leaves the stage
  pub lowered_other : (mid : Standing) (st : Stage) → KeepsStage size header chunk bytes mid st → ((j : ℕ) (head : MessageHead) → mid ≢ standing.Answered j head) → (by : ℕ) (post : Option InFlight) → may_go_on by st post ≡ true
      → (calls : List DataCall) → KeepsStage size header chunk bytes mid (lower_ready size st) × (calls_sent size st calls ≡ calls)
  lowered_other mid st AtIdle other by post may calls = (AtIdle, refl)
  lowered_other mid st (AtDraft h c a b) other by post may calls = (AtDraft h c a b, refl)
  lowered_other mid st (AtFill j asked m c o w) other by post may calls = absurd (cc)
  lowered_other mid st (AtRaised j asked m c o w u) other by post may calls = absurd (cc)
  lowered_other mid st (AtAnswered j asked m c o w u) other by post may calls = absurd (other j asked refl)
  lowered_other mid st (AtPause i asked m o) other by post may calls = (AtPause i asked m o, refl)
  lowered_other mid st (AtTake i asked m c o w) other by post may calls = (AtTake i asked m c o w, refl)
  lowered_other mid st (AtMeet comm seen released) other by post may calls = (AtMeet comm seen released, refl)
