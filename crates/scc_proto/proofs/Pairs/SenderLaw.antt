-- A sender's buffer holds what it has drafted, after each of its moves.
use Rattle.std.proofs.Common.{◌≡◌, ◌≢◌, ℕ, zero, suc, ◌<◌, Bool, true, false, ◌&&◌, ◌==◌, if◌then◌else◌, [], Option, Some, None, is_none, option_map, unwrap_or, refl, sym, ◌∙◌, ap, subst, arith}
use Rattle.std.proofs.lemmas.Bool.Decides.{nat_tests}
use Rattle.scc_base.specs.Setups.{SetupView}
use Rattle.scc_base.specs.declared.signals.Signal.TheVariants.{Sent, Ready}
use Rattle.scc_proto.specs.Tables.{put_two}
use Rattle.scc_proto.specs.Messages.{Notes, noted_word, StandsIn, has_all, fresh_message, is_last, head_of, is_head, is_post_head}
use Rattle.scc_proto.specs.Stages.{Filling, Raised, Answered, Stage, Idle, Drafting, Sending, Between, Taking, Barrier, InFlight, Record}
use Rattle.scc_proto.specs.Moves.{Move, DraftHeader, DraftChunk, RaiseSignal, LookSignal, ReadHeader, ReadChunk, LowerSignal, FlipGather, LookGather, WriteRelease, LookRelease, StoreHeap, NoMove, Misplaced, draft_header, draft_chunk, raise_sent, read_chunk, lower_sent, raise_ready, look_ready, lower_ready, flip_gather, look_gather, write_release, look_release, post_raised, post_answered, after, is_posted}
use Rattle.scc_proto.specs.Permission.{permits, drafts_header, drafts_chunk, may_raise, is_whole_header, is_post_word, is_drafted}
use Rattle.scc_proto.specs.Records.{chunk_of}
use Rattle.scc_proto.specs.Views.{View, view_after_move}
use Rattle.scc_proto.specs.Pairs.{HeaderStands, DraftStands, PostStands, BufferStands}
use Rattle.scc_proto.proofs.Layouts.MoveFacts.{IsViewStep}
use Rattle.scc_proto.proofs.Tests.{put_two_here, put_two_first, put_two_second, both_first, both_second}
use Rattle.scc_proto.proofs.Words.NoteFacts.{none_stands, note_stored, has_all-at}

-- ---- the words are left as they are

either : (P : Stage → Type 0) (b : Bool) (x y : Stage) → P x → P y → P (if b then x else y)
either P true x y p q = p
either P false x y p q = q

module _ (h c : ℕ → ℕ) where
  draft-read_chunk : (from k v : ℕ) (st : Stage) → DraftStands st h c → DraftStands (read_chunk from k v st) h c
  draft-read_chunk from k v Idle d = d
  draft-read_chunk from k v (Drafting header chunk) d = d
  draft-read_chunk from k v (Sending j part message chunk) d = d
  draft-read_chunk from k v (Between i message) d = d
  draft-read_chunk from k v (Taking i message chunk) d = either (λ x. DraftStands x h c) (i == from) _ _ tt tt
  draft-read_chunk from k v (Barrier comm seen released) d = d

  draft-lower_sent : (from : ℕ) (header : Notes) (st : Stage) → DraftStands st h c → DraftStands (lower_sent from header st) h c
  draft-lower_sent from header Idle d = tt
  draft-lower_sent from header (Drafting a chunk) d = d
  draft-lower_sent from header (Sending j part message chunk) d = d
  draft-lower_sent from header (Between i message) d = tt
  draft-lower_sent from header (Taking i message chunk) d = d
  draft-lower_sent from header (Barrier comm seen released) d = d

  draft-raise_ready : (size : ℕ) (st : Stage) → DraftStands st h c → DraftStands (raise_ready size st) h c
  draft-raise_ready size Idle d = tt
  draft-raise_ready size (Drafting a chunk) d = d
  draft-raise_ready size (Sending j part message chunk) d = d
  draft-raise_ready size (Between i message) d = tt
  draft-raise_ready size (Taking i message chunk) d = either (λ x. DraftStands x h c) (is_last size message) _ _ tt tt
  draft-raise_ready size (Barrier comm seen released) d = d

  draft-look_ready : (is_set : ℕ → Bool) (st : Stage) → DraftStands st h c → DraftStands (look_ready is_set st) h c
  draft-look_ready is_set Idle d = tt
  draft-look_ready is_set (Drafting a chunk) d = d
  draft-look_ready is_set (Sending j Filling message chunk) d = d
  draft-look_ready is_set (Sending j Raised message chunk) d = either (λ x. DraftStands x h c) (is_set j) _ _ d d
  draft-look_ready is_set (Sending j Answered message chunk) d = d
  draft-look_ready is_set (Between i message) d = tt
  draft-look_ready is_set (Taking i message chunk) d = tt
  draft-look_ready is_set (Barrier comm seen released) d = d

  draft-lower_ready : (size : ℕ) (st : Stage) → DraftStands st h c → DraftStands (lower_ready size st) h c
  draft-lower_ready size Idle d = tt
  draft-lower_ready size (Drafting a chunk) d = d
  draft-lower_ready size (Sending j part message chunk) d = either (λ x. DraftStands x h c) (is_last size message) _ _ tt (d.0, none_stands c)
  draft-lower_ready size (Between i message) d = tt
  draft-lower_ready size (Taking i message chunk) d = tt
  draft-lower_ready size (Barrier comm seen released) d = d

  draft-flip_gather : (comm last : ℕ) (st : Stage) → DraftStands st h c → DraftStands (flip_gather comm last st) h c
  draft-flip_gather comm last Idle d = either (λ x. DraftStands x h c) (last == 0) _ _ tt tt
  draft-flip_gather comm last (Drafting a chunk) d = d
  draft-flip_gather comm last (Sending j part message chunk) d = d
  draft-flip_gather comm last (Between i message) d = tt
  draft-flip_gather comm last (Taking i message chunk) d = tt
  draft-flip_gather comm last (Barrier c' seen released) d = d

  draft-look_gather : (comm place value v : ℕ) (st : Stage) → DraftStands st h c → DraftStands (look_gather comm place value v st) h c
  draft-look_gather comm place value v Idle d = tt
  draft-look_gather comm place value v (Drafting a chunk) d = d
  draft-look_gather comm place value v (Sending j part message chunk) d = d
  draft-look_gather comm place value v (Between i message) d = tt
  draft-look_gather comm place value v (Taking i message chunk) d = tt
  draft-look_gather comm place value v (Barrier c' seen released) d = either (λ x. DraftStands x h c) ((c' == comm) && ((place == suc seen) && (value == v))) _ _ tt tt

  draft-write_release : (last : ℕ) (st : Stage) → DraftStands st h c → DraftStands (write_release last st) h c
  draft-write_release last Idle d = tt
  draft-write_release last (Drafting a chunk) d = d
  draft-write_release last (Sending j part message chunk) d = d
  draft-write_release last (Between i message) d = tt
  draft-write_release last (Taking i message chunk) d = tt
  draft-write_release last (Barrier c' seen released) d = either (λ x. DraftStands x h c) (suc released == last) _ _ tt tt

  draft-look_release : (comm value v : ℕ) (st : Stage) → DraftStands st h c → DraftStands (look_release comm value v st) h c
  draft-look_release comm value v Idle d = tt
  draft-look_release comm value v (Drafting a chunk) d = d
  draft-look_release comm value v (Sending j part message chunk) d = d
  draft-look_release comm value v (Between i message) d = tt
  draft-look_release comm value v (Taking i message chunk) d = tt
  draft-look_release comm value v (Barrier c' seen released) d = either (λ x. DraftStands x h c) ((c' == comm) && (value == v)) _ _ tt tt

  post-answered : (is_set : ℕ → Bool) (post : Option InFlight) → PostStands post h c → PostStands (option_map (post_answered is_set) post) h c
  post-answered is_set None p = tt
  post-answered is_set (Some post) p = p

-- ---- a word is drafted

module _ (k v : ℕ) (h c new : ℕ → ℕ) (here : new k ≡ v) where
  header_stored : ((i : ℕ) → i ≢ k → new i ≡ h i) → (st : Stage) → drafts_header st ≡ true → DraftStands st h c → DraftStands (draft_header k v st) new c
  header_stored there Idle t d = (note_stored k v [] h new (none_stands h) here there, none_stands c)
  header_stored there (Drafting header chunk) t d = (note_stored k v header h new d.0 here there, d.1)
  header_stored there (Sending j part message chunk) t d = absurd (cc)
  header_stored there (Between i message) t d = absurd (cc)
  header_stored there (Taking i message chunk) t d = absurd (cc)
  header_stored there (Barrier comm seen released) t d = absurd (cc)

  chunk_stored : ((i : ℕ) → i ≢ k → new i ≡ c i) → (st : Stage) → drafts_chunk st ≡ true → DraftStands st h c → DraftStands (draft_chunk k v st) h new
  chunk_stored there Idle t d = (none_stands h, note_stored k v [] c new (none_stands c) here there)
  chunk_stored there (Drafting header chunk) t d = (d.0, note_stored k v chunk c new d.1 here there)
  chunk_stored there (Sending j Filling message chunk) t d = (d.0, note_stored k v chunk c new d.1 here there)
  chunk_stored there (Sending j Raised message chunk) t d = absurd (cc)
  chunk_stored there (Sending j Answered message chunk) t d = absurd (cc)
  chunk_stored there (Between i message) t d = absurd (cc)
  chunk_stored there (Taking i message chunk) t d = absurd (cc)
  chunk_stored there (Barrier comm seen released) t d = absurd (cc)

no_post : (b : Bool) (post : Option InFlight) (h c : ℕ → ℕ) → (is_none post && b) ≡ true → PostStands post h c
no_post b None h c may = tt
no_post b (Some post) h c may = absurd (cc)

-- ---- the header line of a raised message

module _ (header : Notes) (h : ℕ → ℕ) (whole : is_whole_header header ≡ true) (stands : StandsIn header h) where
  all : has_all header 4 ≡ true
  all = both_first (has_all header 4) (is_head (head_of header) && is_post_word header) whole

  word : (k : ℕ) → k < 4 → h k ≡ unwrap_or (noted_word header k) 0
  word k lt = let a = has_all-at header 4 all k lt in stands k a.0 a.1 ∙ sym (ap (λ (o : Option ℕ). unwrap_or o 0) a.1)

  third : (posted : Bool) → is_posted header ≡ posted → unwrap_or (noted_word header 3) 0 ≡ (if posted then 1 else 0)
  third true is = grind (arith, nat_tests)
  third false is =
      let w : is_post_word header ≡ true = both_second (is_head (head_of header)) (is_post_word header) (both_second (has_all header 4) (is_head (head_of header) && is_post_word header) whole) in
      let e : (if false then is_post_head (head_of header) else unwrap_or (noted_word header 3) 0 == 0) ≡ true = subst (λ b. (if b then is_post_head (head_of header) else unwrap_or (noted_word header 3) 0 == 0) ≡ true) is w in
      grind (arith, nat_tests, e)

  line_stands : (posted : Bool) → is_posted header ≡ posted → HeaderStands (head_of header) posted h
  line_stands posted is zero lt = word 0 (omega arith)
  line_stands posted is (suc zero) lt = word 1 (omega arith)
  line_stands posted is (suc (suc zero)) lt = word 2 (omega arith)
  line_stands posted is (suc (suc (suc zero))) lt = word 3 (omega arith) ∙ third posted is
  line_stands posted is (suc (suc (suc (suc k)))) lt = absurd (omega arith)

-- a first chunk is raised
first_raised : (posted : Bool) (to : ℕ) (header chunk : Notes) (h c : ℕ → ℕ) → is_whole_header header ≡ true → is_posted header ≡ posted → StandsIn header h → StandsIn chunk c
    → DraftStands (if posted then Idle else Sending to Raised (fresh_message (head_of header)) chunk) h c × PostStands (if posted then Some (record { to = to; head = head_of header; chunk = chunk; is_answered = false }) else None) h c
first_raised true to header chunk h c whole is a b = (tt, (line_stands header h whole a true is, b))
first_raised false to header chunk h c whole is a b = ((line_stands header h whole a false is, b), tt)

raised_stands : (size to : ℕ) (h c : ℕ → ℕ) (st : Stage) (post : Option InFlight) → (is_none post && may_raise size to st) ≡ true → DraftStands st h c
    → DraftStands (raise_sent to st) h c × PostStands (post_raised to st post) h c
raised_stands size to h c st (Some post) may d = absurd (cc)
raised_stands size to h c Idle None may d = absurd (cc)
raised_stands size to h c (Drafting header chunk) None may d = first_raised (is_posted header) to header chunk h c (both_first (is_whole_header header) (is_drafted size (fresh_message (head_of header)) chunk) may) refl d.0 d.1
raised_stands size to h c (Sending j Filling message chunk) None may d = (d, tt)
raised_stands size to h c (Sending j Raised message chunk) None may d = absurd (cc)
raised_stands size to h c (Sending j Answered message chunk) None may d = absurd (cc)
raised_stands size to h c (Between i message) None may d = absurd (cc)
raised_stands size to h c (Taking i message chunk) None may d = absurd (cc)
raised_stands size to h c (Barrier comm seen released) None may d = absurd (cc)

-- ---- each move

module _ (s : SetupView) (me : ℕ) (view : View) (rec : Record) (old : BufferStands rec (view.header me) (view.chunk me)) where
  sender_by : (move : Move) → permits (chunk_of s) move rec ≡ true → BufferStands (after (chunk_of s) move rec) ((view_after_move me move view).header me) ((view_after_move me move view).chunk me)
  sender_by (DraftHeader k v) may = record {
    draft = header_stored k v (view.header me) (view.chunk me) (put_two view.header me k v me) (put_two_here view.header me k v) (λ i ne. put_two_second view.header me k v me i ne) rec.stage
        (both_second (is_none rec.post) (drafts_header rec.stage) may) old.draft;
    post = no_post (drafts_header rec.stage) rec.post (put_two view.header me k v me) (view.chunk me) may;
  }
  sender_by (DraftChunk k v) may = record {
    draft = chunk_stored k v (view.header me) (view.chunk me) (put_two view.chunk me k v me) (put_two_here view.chunk me k v) (λ i ne. put_two_second view.chunk me k v me i ne) rec.stage
        (both_second (is_none rec.post) (drafts_chunk rec.stage) may) old.draft;
    post = no_post (drafts_chunk rec.stage) rec.post (view.header me) (put_two view.chunk me k v me) may;
  }
  sender_by (RaiseSignal Sent to) may = let r = raised_stands (chunk_of s) to (view.header me) (view.chunk me) rec.stage rec.post may old.draft in record { draft = r.0; post = r.1 }
  sender_by (LookSignal Sent is_set) may = record { draft = old.draft; post = old.post }
  sender_by (ReadHeader from k v) may = record { draft = old.draft; post = old.post }
  sender_by (ReadChunk from k v) may = record { draft = draft-read_chunk (view.header me) (view.chunk me) from k v rec.stage old.draft; post = old.post }
  sender_by (LowerSignal Sent from) may = record { draft = draft-lower_sent (view.header me) (view.chunk me) from (unwrap_or (rec.notes from) []) rec.stage old.draft; post = old.post }
  sender_by (RaiseSignal Ready to) may = record { draft = draft-raise_ready (view.header me) (view.chunk me) (chunk_of s) rec.stage old.draft; post = old.post }
  sender_by (LookSignal Ready is_set) may = record { draft = draft-look_ready (view.header me) (view.chunk me) is_set rec.stage old.draft; post = post-answered (view.header me) (view.chunk me) is_set rec.post old.post }
  sender_by (LowerSignal Ready by) may = record { draft = draft-lower_ready (view.header me) (view.chunk me) (chunk_of s) rec.stage old.draft; post = tt }
  sender_by (FlipGather comm value last) may = record { draft = draft-flip_gather (view.header me) (view.chunk me) comm last rec.stage old.draft; post = old.post }
  sender_by (LookGather comm from place value) may = record { draft = draft-look_gather (view.header me) (view.chunk me) comm place value _ rec.stage old.draft; post = old.post }
  sender_by (WriteRelease comm to place value last) may = record { draft = draft-write_release (view.header me) (view.chunk me) last rec.stage old.draft; post = old.post }
  sender_by (LookRelease comm value) may = record { draft = draft-look_release (view.header me) (view.chunk me) comm value _ rec.stage old.draft; post = old.post }
  sender_by (StoreHeap place value) may = record { draft = old.draft; post = old.post }
  sender_by NoMove may = record { draft = old.draft; post = old.post }
  sender_by Misplaced may = absurd (cc)

pub sender_kept : (s : SetupView) (me : ℕ) (view : View) (rec : Record) (move : Move) → IsViewStep s me view rec move → BufferStands rec (view.header me) (view.chunk me)
    → BufferStands (after (chunk_of s) move rec) ((view_after_move me move view).header me) ((view_after_move me move view).chunk me)
sender_kept s me view rec move step old = sender_by s me view rec old move step.permitted

-- no other rank's buffer changes
pub buffer_left : (me r : ℕ) (view : View) (move : Move) → r ≢ me
    → ((view_after_move me move view).header r ≡ view.header r) × ((view_after_move me move view).chunk r ≡ view.chunk r)
buffer_left me r view (DraftHeader k v) ne = ((λ i j. put_two_first view.header me k v r j ne i), refl)
buffer_left me r view (DraftChunk k v) ne = (refl, (λ i j. put_two_first view.chunk me k v r j ne i))
buffer_left me r view (RaiseSignal signal to) ne = (refl, refl)
buffer_left me r view (LookSignal signal is_set) ne = (refl, refl)
buffer_left me r view (ReadHeader from k v) ne = (refl, refl)
buffer_left me r view (ReadChunk from k v) ne = (refl, refl)
buffer_left me r view (LowerSignal signal by) ne = (refl, refl)
buffer_left me r view (FlipGather comm value last) ne = (refl, refl)
buffer_left me r view (LookGather comm from place value) ne = (refl, refl)
buffer_left me r view (WriteRelease comm to place value last) ne = (refl, refl)
buffer_left me r view (LookRelease comm value) ne = (refl, refl)
buffer_left me r view (StoreHeap place value) ne = (refl, refl)
buffer_left me r view NoMove ne = (refl, refl)
buffer_left me r view Misplaced ne = (refl, refl)
