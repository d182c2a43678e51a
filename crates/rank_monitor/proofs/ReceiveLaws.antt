-- What a monitor keeps of a stage after a move of a receiver or of a barrier, and which calls the move finishes.
use Rattle.std.proofs.Common.{◌≡◌, ◌≢◌, ℕ, suc, true, false, ◌&&◌, ◌==◌, List, [], ◌∷◌, ◌++◌, Some, refl, sym, ◌∙◌, ap, subst}
use Rattle.scc_base.specs.Heads.{MessageHead}
use Rattle.scc_base.specs.Calls.{DataCall, Bar}
use Rattle.scc_base.specs.declared.calls.Call.TheVariants as call
use Rattle.scc_proto.specs.Messages.{Notes, note_word, head_of, Progress, fresh_message, is_last, with_chunk, message_of, recv_from}
use Rattle.scc_proto.specs.Moves.{read_chunk, lower_sent, raise_ready, flip_gather, look_gather, write_release, look_release, calls_received, calls_released, calls_let_go, finished_if}
use Rattle.scc_proto.specs.Permission.{is_idle, may_release, may_take, says_head}
use Rattle.scc_proto.specs.Stages.{Stage, Idle, Between, Taking, Barrier}
use Rattle.scc_proto.proofs.Tests.{same_by_eqb, both_first, both_second}
use Rattle.rank_monitor.specs.Following.{Adds}
use Rattle.rank_monitor.specs.Noted.{IsChunkOf, TellsHead}
use Rattle.rank_monitor.specs.Standing.{IsInHand, KeepsStage}
use Rattle.rank_monitor.specs.Standing.KeepsStage.{AtIdle, AtDraft, AtFill, AtRaised, AtAnswered, AtPause, AtTake, AtMeet}
use Rattle.rank_monitor.specs.declared.chunks.NotedChunk.{NotedChunk}
use Rattle.rank_monitor.specs.declared.lines.NotedLine.{NotedLine}
use Rattle.rank_monitor.specs.declared.works.Standing.{Standing}
use Rattle.rank_monitor.specs.declared.works.Standing.TheVariants as standing
use Rattle.rank_monitor.proofs.SendLaws.{if_true, if_false}
use Rattle.rank_monitor.proofs.StageLaws.{IsThrough, begun_in_hand, said_valid}

module _ (size : ℕ) (header : NotedLine) (chunk : NotedChunk) (bytes : List ℕ) where
  -- a chunk word of the message that is being taken
  pub chunk_read : (i : ℕ) (head : MessageHead) (st : Stage) → KeepsStage size header chunk bytes (standing.Taking i head) st → (from k v : ℕ) → (i == from) ≡ true → (now : NotedChunk)
      → ((words : Notes) → IsChunkOf chunk words → IsChunkOf now (note_word k v words)) → KeepsStage size header now bytes (standing.Taking i head) (read_chunk from k v st)
  chunk_read i head st (AtTake j asked m c o w) from k v so now more =
      subst (λ (x : Stage). KeepsStage size header now bytes (standing.Taking j asked) x) (sym (if_true (j == from) (Taking j m (note_word k v c)) (Taking j m c) so)) (AtTake j asked m (note_word k v c) o (more c w))

  -- a chunk word of another message
  pub chunk_unread : (i : ℕ) (head : MessageHead) (st : Stage) → KeepsStage size header chunk bytes (standing.Taking i head) st → (from k v : ℕ) → (i == from) ≡ false
      → KeepsStage size header chunk bytes (standing.Taking i head) (read_chunk from k v st)
  chunk_unread i head st (AtTake j asked m c o w) from k v not_so =
      subst (λ (x : Stage). KeepsStage size header chunk bytes (standing.Taking j asked) x) (sym (if_false (j == from) (Taking j m (note_word k v c)) (Taking j m c) not_so)) (AtTake j asked m c o w)

  -- no message is being taken
  pub chunk_other : (mid : Standing) (st : Stage) → KeepsStage size header chunk bytes mid st → ((i : ℕ) (head : MessageHead) → mid ≢ standing.Taking i head) → (from k v : ℕ)
      → KeepsStage size header chunk bytes mid (read_chunk from k v st)
  chunk_other mid st AtIdle other from k v = AtIdle
  chunk_other mid st (AtDraft h c a b) other from k v = AtDraft h c a b
  chunk_other mid st (AtFill to head m c o w) other from k v = AtFill to head m c o w
  chunk_other mid st (AtRaised to head m c o w u) other from k v = AtRaised to head m c o w u
  chunk_other mid st (AtAnswered to head m c o w u) other from k v = AtAnswered to head m c o w u
  chunk_other mid st (AtPause sender head m o) other from k v = AtPause sender head m o
  chunk_other mid st (AtTake sender head m c o w) other from k v = absurd (other sender head refl)
  chunk_other mid st (AtMeet comm seen released) other from k v = AtMeet comm seen released

  -- a receive begins
  pub take_begins : (mid : Standing) (st : Stage) → KeepsStage size header chunk bytes mid st → ((i : ℕ) (head : MessageHead) → mid ≢ standing.Between i head) → (from : ℕ) (words : Notes) → may_take from (Some words) st ≡ true
      → (head : MessageHead) → TellsHead words (Some head) → (fresh : NotedChunk) → IsChunkOf fresh [] → KeepsStage size header fresh [] (standing.Taking from head) (lower_sent from words st)
  take_begins mid st AtIdle other from words may head says fresh none =
      AtTake from head (fresh_message (head_of words)) [] (begun_in_hand size head (said_valid words head says) (head_of words) says.1) none
  take_begins mid st (AtDraft h c a b) other from words may head says fresh none = absurd (cc)
  take_begins mid st (AtFill to asked m c o w) other from words may head says fresh none = absurd (cc)
  take_begins mid st (AtRaised to asked m c o w u) other from words may head says fresh none = absurd (cc)
  take_begins mid st (AtAnswered to asked m c o w u) other from words may head says fresh none = absurd (cc)
  take_begins mid st (AtPause i asked m o) other from words may head says fresh none = absurd (other i asked refl)
  take_begins mid st (AtTake i asked m c o w) other from words may head says fresh none = absurd (cc)
  take_begins mid st (AtMeet comm seen released) other from words may head says fresh none = absurd (cc)

  pub take_says : (mid : Standing) (st : Stage) → KeepsStage size header chunk bytes mid st → ((i : ℕ) (head : MessageHead) → mid ≢ standing.Between i head) → (from : ℕ) (words : Notes) → may_take from (Some words) st ≡ true
      → says_head words ≡ true
  take_says mid st AtIdle other from words may = may
  take_says mid st (AtDraft h c a b) other from words may = absurd (cc)
  take_says mid st (AtFill to asked m c o w) other from words may = absurd (cc)
  take_says mid st (AtRaised to asked m c o w u) other from words may = absurd (cc)
  take_says mid st (AtAnswered to asked m c o w u) other from words may = absurd (cc)
  take_says mid st (AtPause i asked m o) other from words may = absurd (other i asked refl)
  take_says mid st (AtTake i asked m c o w) other from words may = absurd (cc)
  take_says mid st (AtMeet comm seen released) other from words may = absurd (cc)

  -- a receive goes on
  pub take_goes_on : (i : ℕ) (head : MessageHead) (st : Stage) → KeepsStage size header chunk bytes (standing.Between i head) st → (from : ℕ) (words : Notes) → may_take from (Some words) st ≡ true
      → (fresh : NotedChunk) → IsChunkOf fresh [] → KeepsStage size header fresh bytes (standing.Taking i head) (lower_sent from words st)
  take_goes_on i head st (AtPause j asked m o) from words may fresh none =
      subst (λ (r : ℕ). KeepsStage size header fresh bytes (standing.Taking j asked) (Taking r m [])) (same_by_eqb j from may) (AtTake j asked m [] o none)

  -- the last chunk was taken
  pub taken_last : (i : ℕ) (head : MessageHead) (st : Stage) → KeepsStage size header chunk bytes (standing.Taking i head) st → (calls : List DataCall) (now : List ℕ)
      → ((m : Progress) (c : Notes) → IsInHand size head bytes m → IsChunkOf chunk c → IsThrough size head m c now) → ((m : Progress) → IsInHand size head bytes m → is_last size m ≡ true)
      → KeepsStage size header chunk now standing.Idle (raise_ready size st) × Adds (Some (call.Recv i head)) now calls (calls_received size st calls)
  taken_last i head st (AtTake j asked m c o w) calls now through last =
      let so = last m o in (
        subst (λ (x : Stage). KeepsStage size header chunk now standing.Idle x) (sym (if_true (is_last size m) Idle (Between j (with_chunk size m c)) so)) AtIdle,
        (
          recv_from j (message_of (with_chunk size m c)),
          ap (λ (q : MessageHead). call.Recv j q) o.head_is,
          (through m c o w).bytes_are,
          if_true (is_last size m) (calls ++ recv_from j (message_of (with_chunk size m c)) ∷ []) calls so,
        ),
      )

  -- a chunk was taken, and more come
  pub taken_more : (i : ℕ) (head : MessageHead) (st : Stage) → KeepsStage size header chunk bytes (standing.Taking i head) st → (calls : List DataCall) (now : List ℕ)
      → ((m : Progress) (c : Notes) → IsInHand size head bytes m → IsChunkOf chunk c → IsThrough size head m c now) → ((m : Progress) → IsInHand size head bytes m → is_last size m ≡ false)
      → KeepsStage size header chunk now (standing.Between i head) (raise_ready size st) × (calls_received size st calls ≡ calls)
  taken_more i head st (AtTake j asked m c o w) calls now through last =
      let not_so = last m o in (
        subst (λ (x : Stage). KeepsStage size header chunk now (standing.Between j asked) x) (sym (if_false (is_last size m) Idle (Between j (with_chunk size m c)) not_so))
            (AtPause j asked (with_chunk size m c) ((through m c o w).goes_on not_so)),
        if_false (is_last size m) (calls ++ recv_from j (message_of (with_chunk size m c)) ∷ []) calls not_so,
      )

  -- ---- barriers

  idle_rests : (mid : Standing) (st : Stage) → KeepsStage size header chunk bytes mid st → is_idle st ≡ true → (st ≡ Idle) × (mid ≡ standing.Idle)
  idle_rests mid st AtIdle so = (refl, refl)
  idle_rests mid st (AtDraft h c a b) so = absurd (cc)
  idle_rests mid st (AtFill to head m c o w) so = absurd (cc)
  idle_rests mid st (AtRaised to head m c o w u) so = absurd (cc)
  idle_rests mid st (AtAnswered to head m c o w u) so = absurd (cc)
  idle_rests mid st (AtPause from head m o) so = absurd (cc)
  idle_rests mid st (AtTake from head m c o w) so = absurd (cc)
  idle_rests mid st (AtMeet comm seen released) so = absurd (cc)

  -- a group of one has no other member to wait for
  pub entered_alone : (mid : Standing) (st : Stage) → KeepsStage size header chunk bytes mid st → is_idle st ≡ true → (comm last : ℕ) → (last == 0) ≡ true → (calls : List DataCall)
      → KeepsStage size header chunk [] mid (flip_gather comm last st) × Adds (Some (call.Bar comm)) [] calls (finished_if (last == 0) (Bar comm) calls)
  entered_alone mid st keeps idle comm last so calls =
      let x = idle_rests mid st keeps idle in (
        subst (λ (m : Standing). KeepsStage size header chunk [] m (flip_gather comm last st)) (sym x.1)
            (subst (λ (y : Stage). KeepsStage size header chunk [] standing.Idle (flip_gather comm last y)) (sym x.0)
            (subst (λ (y : Stage). KeepsStage size header chunk [] standing.Idle y) (sym (if_true (last == 0) Idle (Barrier comm 0 0) so)) AtIdle)),
        (Bar comm, refl, refl, if_true (last == 0) (calls ++ Bar comm ∷ []) calls so),
      )

  pub entered_among : (mid : Standing) (st : Stage) → KeepsStage size header chunk bytes mid st → is_idle st ≡ true → (comm last : ℕ) → (last == 0) ≡ false → (calls : List DataCall)
      → KeepsStage size header chunk bytes (standing.Meeting comm 0 0) (flip_gather comm last st) × (finished_if (last == 0) (Bar comm) calls ≡ calls)
  entered_among mid st keeps idle comm last not_so calls =
      let x = idle_rests mid st keeps idle in (
        subst (λ (y : Stage). KeepsStage size header chunk bytes (standing.Meeting comm 0 0) (flip_gather comm last y)) (sym x.0)
            (subst (λ (y : Stage). KeepsStage size header chunk bytes (standing.Meeting comm 0 0) y) (sym (if_false (last == 0) Idle (Barrier comm 0 0) not_so)) (AtMeet comm 0 0)),
        if_false (last == 0) (calls ++ Bar comm ∷ []) calls not_so,
      )

  -- the root sees one member more, or another flag
  pub gather_seen : (c s r : ℕ) (st : Stage) → KeepsStage size header chunk bytes (standing.Meeting c s r) st → (comm place value v : ℕ) → ((c == comm) && ((place == suc s) && (value == v))) ≡ true
      → KeepsStage size header chunk bytes (standing.Meeting c (suc s) r) (look_gather comm place value v st)
  gather_seen c s r st (AtMeet d seen released) comm place value v so =
      subst (λ (y : Stage). KeepsStage size header chunk bytes (standing.Meeting d (suc seen) released) y)
      (sym (if_true ((d == comm) && ((place == suc seen) && (value == v))) (Barrier d (suc seen) released) (Barrier d seen released) so)) (AtMeet d (suc seen) released)

  pub gather_unseen : (c s r : ℕ) (st : Stage) → KeepsStage size header chunk bytes (standing.Meeting c s r) st → (comm place value v : ℕ) → ((c == comm) && ((place == suc s) && (value == v))) ≡ false
      → KeepsStage size header chunk bytes (standing.Meeting c s r) (look_gather comm place value v st)
  gather_unseen c s r st (AtMeet d seen released) comm place value v not_so =
      subst (λ (y : Stage). KeepsStage size header chunk bytes (standing.Meeting d seen released) y)
      (sym (if_false ((d == comm) && ((place == suc seen) && (value == v))) (Barrier d (suc seen) released) (Barrier d seen released) not_so)) (AtMeet d seen released)

  pub gather_other : (mid : Standing) (st : Stage) → KeepsStage size header chunk bytes mid st → ((c s r : ℕ) → mid ≢ standing.Meeting c s r) → (comm place value v : ℕ)
      → KeepsStage size header chunk bytes mid (look_gather comm place value v st)
  gather_other mid st AtIdle other comm place value v = AtIdle
  gather_other mid st (AtDraft h c a b) other comm place value v = AtDraft h c a b
  gather_other mid st (AtFill to head m c o w) other comm place value v = AtFill to head m c o w
  gather_other mid st (AtRaised to head m c o w u) other comm place value v = AtRaised to head m c o w u
  gather_other mid st (AtAnswered to head m c o w u) other comm place value v = AtAnswered to head m c o w u
  gather_other mid st (AtPause from head m o) other comm place value v = AtPause from head m o
  gather_other mid st (AtTake from head m c o w) other comm place value v = AtTake from head m c o w
  gather_other mid st (AtMeet c seen released) other comm place value v = absurd (other c seen released refl)

  -- what a permitted release of a member says
  release_is : (c s r comm place value last v : ℕ) → ((c == comm) && ((s == last) && ((place == suc r) && (value == v)))) ≡ true → place ≡ suc r
  release_is c s r comm place value last v may = same_by_eqb place (suc r) (both_first (place == suc r) (value == v) (both_second (s == last) ((place == suc r) && (value == v))
      (both_second (c == comm) ((s == last) && ((place == suc r) && (value == v))) may)))

  pub released_last : (c s r : ℕ) (st : Stage) → KeepsStage size header chunk bytes (standing.Meeting c s r) st → (comm place value last v : ℕ) → may_release comm place value last v st ≡ true → (place == last) ≡ true
      → (calls : List DataCall) → KeepsStage size header chunk [] standing.Idle (write_release last st) × Adds (Some (call.Bar c)) [] calls (calls_released last st calls)
  released_last c s r st (AtMeet d seen released) comm place value last v may so calls =
      let done : (suc released == last) ≡ true = ap (λ (n : ℕ). n == last) (sym (release_is d seen released comm place value last v may)) ∙ so in (
        subst (λ (y : Stage). KeepsStage size header chunk [] standing.Idle y) (sym (if_true (suc released == last) Idle (Barrier d seen (suc released)) done)) AtIdle,
        (Bar d, refl, refl, if_true (suc released == last) (calls ++ Bar d ∷ []) calls done),
      )

  pub released_more : (c s r : ℕ) (st : Stage) → KeepsStage size header chunk bytes (standing.Meeting c s r) st → (comm place value last v : ℕ) → may_release comm place value last v st ≡ true → (place == last) ≡ false
      → (calls : List DataCall) → KeepsStage size header chunk bytes (standing.Meeting c s place) (write_release last st) × (calls_released last st calls ≡ calls)
  released_more c s r st (AtMeet d seen released) comm place value last v may not_so calls =
      let at = release_is d seen released comm place value last v may in
      let more : (suc released == last) ≡ false = ap (λ (n : ℕ). n == last) (sym at) ∙ not_so in (
        subst (λ (y : Stage). KeepsStage size header chunk bytes (standing.Meeting d seen place) y) (sym (if_false (suc released == last) Idle (Barrier d seen (suc released)) more))
            (subst (λ (n : ℕ). KeepsStage size header chunk bytes (standing.Meeting d seen n) (Barrier d seen (suc released))) (sym at) (AtMeet d seen (suc released))),
        if_false (suc released == last) (calls ++ Bar d ∷ []) calls more,
      )

  -- a member is let go, or looks at another flag
  pub let_go : (c s r : ℕ) (st : Stage) → KeepsStage size header chunk bytes (standing.Meeting c s r) st → (comm value v : ℕ) → ((c == comm) && (value == v)) ≡ true → (calls : List DataCall)
      → KeepsStage size header chunk [] standing.Idle (look_release comm value v st) × Adds (Some (call.Bar c)) [] calls (calls_let_go comm value v st calls)
  let_go c s r st (AtMeet d seen released) comm value v so calls = (
    subst (λ (y : Stage). KeepsStage size header chunk [] standing.Idle y) (sym (if_true ((d == comm) && (value == v)) Idle (Barrier d seen released) so)) AtIdle,
    (Bar d, refl, refl, if_true ((d == comm) && (value == v)) (calls ++ Bar d ∷ []) calls so),
  )

  pub kept_waiting : (c s r : ℕ) (st : Stage) → KeepsStage size header chunk bytes (standing.Meeting c s r) st → (comm value v : ℕ) → ((c == comm) && (value == v)) ≡ false → (calls : List DataCall)
      → KeepsStage size header chunk bytes (standing.Meeting c s r) (look_release comm value v st) × (calls_let_go comm value v st calls ≡ calls)
  kept_waiting c s r st (AtMeet d seen released) comm value v not_so calls = (
    subst (λ (y : Stage). KeepsStage size header chunk bytes (standing.Meeting d seen released) y) (sym (if_false ((d == comm) && (value == v)) Idle (Barrier d seen released) not_so)) (AtMeet d seen released),
    if_false ((d == comm) && (value == v)) (calls ++ Bar d ∷ []) calls not_so,
  )

  pub release_other : (mid : Standing) (st : Stage) → KeepsStage size header chunk bytes mid st → ((c s r : ℕ) → mid ≢ standing.Meeting c s r) → (comm value v : ℕ) → (calls : List DataCall)
      → KeepsStage size header chunk bytes mid (look_release comm value v st) × (calls_let_go comm value v st calls ≡ calls)
  release_other mid st AtIdle other comm value v calls = (AtIdle, refl)
  release_other mid st (AtDraft h c a b) other comm value v calls = (AtDraft h c a b, refl)
  release_other mid st (AtFill to head m c o w) other comm value v calls = (AtFill to head m c o w, refl)
  release_other mid st (AtRaised to head m c o w u) other comm value v calls = (AtRaised to head m c o w u, refl)
  release_other mid st (AtAnswered to head m c o w u) other comm value v calls = (AtAnswered to head m c o w u, refl)
  release_other mid st (AtPause from head m o) other comm value v calls = (AtPause from head m o, refl)
  release_other mid st (AtTake from head m c o w) other comm value v calls = (AtTake from head m c o w, refl)
  release_other mid st (AtMeet c seen released) other comm value v calls = absurd (other c seen released refl)
