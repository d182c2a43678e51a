-- What each move makes of the stage and of the finished calls of a record that is consistent.
use Rattle.std.proofs.Common.{◌≡◌, ◌≢◌, ◌⊎◌, inl, inr, ⊎_elim, ℕ, zero, suc, ◌+◌, ◌-◌, ◌*◌, ◌<◌, ◌≤◌, min, Bool, true, false, ◌&&◌, ◌==◌, if◌then◌else◌, List, [], ◌∷◌, ◌++◌, length, Option, Some, None, is_none, unwrap_or, All, refl, sym, ◌∙◌, ap, subst, arith, length-append, mul-suc, mul-zero}
use Rattle.std.proofs.lemmas.Bool.Decides.{nat_tests}
use Rattle.std.proofs.lemmas.List.Elements.{All-append, All-nil, All-cons}
use Rattle.scc_base.specs.Calls.{DataCall, Bar}
use Rattle.scc_base.specs.Setups.{SetupView, place_of}
use Rattle.scc_proto.specs.Messages.{Notes, noted_word, note_word, has_all, Progress, fresh_message, chunk_bytes, is_last, is_whole, is_padded, with_chunk, byte_at, bytes_from, head_of, is_head, is_post_head, message_of, send_to, recv_from, post_to, barriers_of}
use Rattle.scc_proto.specs.Stages.{Filling, Raised, Answered, Stage, Idle, Drafting, Sending, Between, Taking, Barrier, InFlight}
use Rattle.scc_proto.specs.Moves.{draft_header, draft_chunk, raise_sent, read_chunk, lower_sent, raise_ready, look_ready, lower_ready, flip_gather, look_gather, write_release, look_release, post_raised, calls_raised, calls_received, calls_sent, calls_released, calls_let_go, finished_if, is_posted}
use Rattle.scc_proto.specs.Permission.{drafts_header, drafts_chunk, may_raise, may_take, has_taken, may_release, is_idle, is_whole_header, is_post_word, is_drafted}
use Rattle.scc_proto.specs.Words.{are_peers, is_present}
use Rattle.scc_proto.specs.Records.{chunk_of, last_of}
use Rattle.scc_proto.specs.Singles.{AreBytes, IsWholeMessage, IsWholeCall, IsUnderWay, IsStage, is_free, IsPosted, open_barriers}
use Rattle.scc_proto.proofs.Tests.{same_by_eqb, eqb_same, both_first, both_second}
use Rattle.scc_proto.proofs.Messages.MessageLists.{barriers_of-append}
use Rattle.scc_proto.proofs.Words.NoteFacts.{length-bytes_from}
use Rattle.scc_proto.proofs.Pairs.OfferFacts.{post_is_last}

-- ---- the finished calls

-- a chunk after those that are through
last_bytes : (len size through chunks : ℕ) → through ≡ size * chunks → (chunks ≡ 0) ⊎ (size * chunks < len) → len ≤ size * suc chunks → through + min size (len - size * chunks) ≡ len
last_bytes len size through chunks is (inl none) le =
    let z : size * chunks ≡ 0 = ap (λ n. size * n) none ∙ mul-zero size in let m : size * suc chunks ≡ size * chunks + size = mul-suc size chunks in omega arith
last_bytes len size through chunks is (inr some) le = let m : size * suc chunks ≡ size * chunks + size = mul-suc size chunks in omega arith

more_bytes : (len size through chunks : ℕ) → through ≡ size * chunks → size * suc chunks < len → through + min size (len - size * chunks) ≡ size * suc chunks
more_bytes len size through chunks is lt = let m : size * suc chunks ≡ size * chunks + size = mul-suc size chunks in omega arith

length-with_chunk : (size : ℕ) (message : Progress) (chunk : Notes) → length (with_chunk size message chunk).bytes ≡ length message.bytes + chunk_bytes size message
length-with_chunk size message chunk = length-append message.bytes (bytes_from chunk 0 (chunk_bytes size message)) ∙ ap (λ n. length message.bytes + n) (length-bytes_from chunk 0 (chunk_bytes size message))

each_from : (chunk : Notes) (start n : ℕ) → AreBytes (bytes_from chunk start n)
unfolding bytes_from
each_from chunk start zero = All-nil (λ b. b < 256)
each_from chunk start (suc n) = All-cons (λ b. b < 256) (byte_at chunk start) (bytes_from chunk (suc start) n) (omega arith) (each_from chunk (suc start) n)

each-with_chunk : (size : ℕ) (message : Progress) (chunk : Notes) → AreBytes message.bytes → AreBytes (with_chunk size message chunk).bytes
each-with_chunk size message chunk each = All-append (λ b. b < 256) message.bytes (bytes_from chunk 0 (chunk_bytes size message)) each (each_from chunk 0 (chunk_bytes size message))

module _ (s : SetupView) (me : ℕ) where
  all_push : (calls : List DataCall) (call : DataCall) → All (IsWholeCall s me) calls → IsWholeCall s me call → All (IsWholeCall s me) (calls ++ call ∷ [])
  all_push calls call all made = All-append (IsWholeCall s me) calls (call ∷ []) all (All-cons (IsWholeCall s me) call [] made (All-nil (IsWholeCall s me)))

  whole_bytes : (other : ℕ) (message : Progress) (chunk : Notes) → IsUnderWay s me other message → is_last (chunk_of s) message ≡ true → length (with_chunk (chunk_of s) message chunk).bytes ≡ message.head.len
  whole_bytes other message chunk under last = length-with_chunk (chunk_of s) message chunk ∙ last_bytes message.head.len (chunk_of s) (length message.bytes) message.chunks under.bytes under.left (grind (arith, nat_tests))

  whole_message : (other : ℕ) (message : Progress) (chunk : Notes) → IsUnderWay s me other message → is_last (chunk_of s) message ≡ true
      → IsWholeMessage s me other is_head message.head (with_chunk (chunk_of s) message chunk).bytes
  whole_message other message chunk under last =
      record { peers = under.peers; valid = under.head; long = whole_bytes other message chunk under last; each = each-with_chunk (chunk_of s) message chunk under.each }

  -- the next chunk of a message
  goes_on : (other : ℕ) (message : Progress) (chunk : Notes) → IsUnderWay s me other message → is_last (chunk_of s) message ≡ false → IsUnderWay s me other (with_chunk (chunk_of s) message chunk)
  goes_on other message chunk under more =
      let lt : chunk_of s * suc message.chunks < message.head.len = grind (arith, nat_tests) in record {
        peers = under.peers;
        head = under.head;
        bytes = length-with_chunk (chunk_of s) message chunk ∙ more_bytes message.head.len (chunk_of s) (length message.bytes) message.chunks under.bytes lt;
        left = inr lt;
        each = each-with_chunk (chunk_of s) message chunk under.each;
      }

  begins : (other : ℕ) (header : Notes) → are_peers s me other ≡ true → is_head (head_of header) ≡ true → IsUnderWay s me other (fresh_message (head_of header))
  begins other header peers head = record { peers = peers; head = head; bytes = sym (mul-zero (chunk_of s)); left = inl refl; each = All-nil (λ b. b < 256) }

  -- ---- what a move owes of the stage and the calls
  pub record Goes (st : Stage) (calls : List DataCall) (new : Stage) (late : List DataCall) : Type 0 where
    pub stage : IsStage s me new
    pub count : (comm : ℕ) → barriers_of comm late + open_barriers comm new ≡ barriers_of comm calls + open_barriers comm st
    pub bytes : All (IsWholeCall s me) calls → All (IsWholeCall s me) late
    pub free : is_free st ≡ true → is_free new ≡ true

  stays : (st : Stage) (calls : List DataCall) → IsStage s me st → Goes st calls st calls
  stays st calls stage = record { stage = stage; count = λ comm. refl; bytes = λ all. all; free = λ t. t }

  -- a call that is no barrier leaves their count
  no_barrier : (b : Bool) (calls : List DataCall) (call : DataCall) → ((comm : ℕ) → barriers_of comm (call ∷ []) ≡ 0) → (comm : ℕ) → barriers_of comm (finished_if b call calls) ≡ barriers_of comm calls
  no_barrier true calls call none comm = barriers_of-append comm calls (call ∷ []) ∙ omega (arith, none comm)
  no_barrier false calls call none comm = refl

  -- an open barrier becomes a finished one
  one_barrier : (calls : List DataCall) (c comm : ℕ) → barriers_of comm (calls ++ Bar c ∷ []) + 0 ≡ barriers_of comm calls + (if c == comm then 1 else 0)
  one_barrier calls c comm = let e = barriers_of-append comm calls (Bar c ∷ []) in omega (arith, e)

  pub header_drafted : (k v : ℕ) (st : Stage) (calls : List DataCall) → drafts_header st ≡ true → IsStage s me st → IsStage s me (draft_header k v st) × ((comm : ℕ) → open_barriers comm (draft_header k v st) ≡ open_barriers comm st)
  header_drafted k v Idle calls may stage = (tt, λ comm. refl)
  header_drafted k v (Drafting h c) calls may stage = (tt, λ comm. refl)
  header_drafted k v (Sending j part m c) calls may stage = absurd (cc)
  header_drafted k v (Between i m) calls may stage = absurd (cc)
  header_drafted k v (Taking i m c) calls may stage = absurd (cc)
  header_drafted k v (Barrier c seen released) calls may stage = absurd (cc)

  pub chunk_drafted : (k v : ℕ) (st : Stage) (calls : List DataCall) → drafts_chunk st ≡ true → IsStage s me st → IsStage s me (draft_chunk k v st) × ((comm : ℕ) → open_barriers comm (draft_chunk k v st) ≡ open_barriers comm st)
  chunk_drafted k v Idle calls may stage = (tt, λ comm. refl)
  chunk_drafted k v (Drafting h c) calls may stage = (tt, λ comm. refl)
  chunk_drafted k v (Sending j Filling m c) calls may stage = (stage, λ comm. refl)
  chunk_drafted k v (Sending j Raised m c) calls may stage = absurd (cc)
  chunk_drafted k v (Sending j Answered m c) calls may stage = absurd (cc)
  chunk_drafted k v (Between i m) calls may stage = absurd (cc)
  chunk_drafted k v (Taking i m c) calls may stage = absurd (cc)
  chunk_drafted k v (Barrier c seen released) calls may stage = absurd (cc)

  pub chunk_read : (from k v : ℕ) (st : Stage) (calls : List DataCall) → IsStage s me st → Goes st calls (read_chunk from k v st) calls
  chunk_read from k v Idle calls stage = stays Idle calls stage
  chunk_read from k v (Drafting h c) calls stage = stays (Drafting h c) calls stage
  chunk_read from k v (Sending j part m c) calls stage = stays (Sending j part m c) calls stage
  chunk_read from k v (Between i m) calls stage = stays (Between i m) calls stage
  chunk_read from k v (Taking i m c) calls stage = by (i == from)
    where
      by : (b : Bool) → Goes (Taking i m c) calls (if b then Taking i m (note_word k v c) else Taking i m c) calls
      by true = record { stage = stage; count = λ comm. refl; bytes = λ all. all; free = λ t. refl }
      by false = stays (Taking i m c) calls stage
  chunk_read from k v (Barrier c seen released) calls stage = stays (Barrier c seen released) calls stage

  pub sent_lowered : (from : ℕ) (n : Option Notes) (st : Stage) (calls : List DataCall) → may_take from n st ≡ true → are_peers s me from ≡ true → IsStage s me st → Goes st calls (lower_sent from (unwrap_or n []) st) calls
  sent_lowered from None st calls may peers stage = absurd (cc)
  sent_lowered from (Some header) Idle calls may peers stage = record { stage = begins from header peers (both_second (has_all header 3) (is_head (head_of header)) may); count = λ comm. refl; bytes = λ all. all; free = λ t. refl }
  sent_lowered from (Some header) (Drafting h c) calls may peers stage = absurd (cc)
  sent_lowered from (Some header) (Sending j part m c) calls may peers stage = absurd (cc)
  sent_lowered from (Some header) (Between i m) calls may peers stage = record { stage = subst (λ x. IsUnderWay s me x m) (same_by_eqb i from may) stage.0; count = λ comm. refl; bytes = λ all. all; free = λ t. refl }
  sent_lowered from (Some header) (Taking i m c) calls may peers stage = absurd (cc)
  sent_lowered from (Some header) (Barrier c seen released) calls may peers stage = absurd (cc)

  pub ready_raised : (to : ℕ) (st : Stage) (calls : List DataCall) → has_taken (chunk_of s) to st ≡ true → IsStage s me st → Goes st calls (raise_ready (chunk_of s) st) (calls_received (chunk_of s) st calls)
  ready_raised to Idle calls may stage = absurd (cc)
  ready_raised to (Drafting h c) calls may stage = absurd (cc)
  ready_raised to (Sending j part m c) calls may stage = absurd (cc)
  ready_raised to (Between i m) calls may stage = absurd (cc)
  ready_raised to (Taking i m c) calls may stage = by (is_last (chunk_of s) m) refl
    where
      by : (b : Bool) → is_last (chunk_of s) m ≡ b
          → Goes (Taking i m c) calls (if b then Idle else Between i (with_chunk (chunk_of s) m c)) (finished_if b (recv_from i (message_of (with_chunk (chunk_of s) m c))) calls)
      by true is = record {
        stage = tt;
        count = λ comm. ap (λ n. n + 0) (no_barrier true calls (recv_from i (message_of (with_chunk (chunk_of s) m c))) (λ k. refl) comm);
        bytes = λ all. all_push calls _ all (whole_message i m c stage is);
        free = λ t. refl;
      }
      by false is = record { stage = (goes_on i m c stage is, omega arith); count = λ comm. refl; bytes = λ all. all; free = λ t. refl }
  ready_raised to (Barrier c seen released) calls may stage = absurd (cc)

  pub ready_looked_at : (is_set : ℕ → Bool) (st : Stage) (calls : List DataCall) → IsStage s me st → Goes st calls (look_ready is_set st) calls
  ready_looked_at is_set Idle calls stage = stays Idle calls stage
  ready_looked_at is_set (Drafting h c) calls stage = stays (Drafting h c) calls stage
  ready_looked_at is_set (Sending j Filling m c) calls stage = stays (Sending j Filling m c) calls stage
  ready_looked_at is_set (Sending j Raised m c) calls stage = by (is_set j)
    where
      by : (b : Bool) → Goes (Sending j Raised m c) calls (if b then Sending j Answered m c else Sending j Raised m c) calls
      by true = record { stage = stage; count = λ comm. refl; bytes = λ all. all; free = λ t. t }
      by false = stays (Sending j Raised m c) calls stage
  ready_looked_at is_set (Sending j Answered m c) calls stage = stays (Sending j Answered m c) calls stage
  ready_looked_at is_set (Between i m) calls stage = stays (Between i m) calls stage
  ready_looked_at is_set (Taking i m c) calls stage = stays (Taking i m c) calls stage
  ready_looked_at is_set (Barrier c seen released) calls stage = stays (Barrier c seen released) calls stage

  -- the sender's side goes on
  pub record Lowers (st : Stage) (calls : List DataCall) (new : Stage) (late : List DataCall) : Type 0 where
    pub stage : IsStage s me new
    pub count : (comm : ℕ) → barriers_of comm late + open_barriers comm new ≡ barriers_of comm calls + open_barriers comm st
    pub bytes : All (IsWholeCall s me) calls → All (IsWholeCall s me) late

  pub ready_lowered : (st : Stage) (calls : List DataCall) → IsStage s me st → Lowers st calls (lower_ready (chunk_of s) st) (calls_sent (chunk_of s) st calls)
  ready_lowered Idle calls stage = record { stage = stage; count = λ comm. refl; bytes = λ all. all }
  ready_lowered (Drafting h c) calls stage = record { stage = stage; count = λ comm. refl; bytes = λ all. all }
  ready_lowered (Sending j part m c) calls stage = by (is_last (chunk_of s) m) refl
    where
      by : (b : Bool) → is_last (chunk_of s) m ≡ b
          → Lowers (Sending j part m c) calls (if b then Idle else Sending j Filling (with_chunk (chunk_of s) m c) []) (finished_if b (send_to j (message_of (with_chunk (chunk_of s) m c))) calls)
      by true is = record {
        stage = tt;
        count = λ comm. ap (λ n. n + 0) (no_barrier true calls (send_to j (message_of (with_chunk (chunk_of s) m c))) (λ k. refl) comm);
        bytes = λ all. all_push calls _ all (whole_message j m c stage.0 is);
      }
      by false is = record { stage = (goes_on j m c stage.0 is, omega arith); count = λ comm. refl; bytes = λ all. all }
  ready_lowered (Between i m) calls stage = record { stage = stage; count = λ comm. refl; bytes = λ all. all }
  ready_lowered (Taking i m c) calls stage = record { stage = stage; count = λ comm. refl; bytes = λ all. all }
  ready_lowered (Barrier c seen released) calls stage = record { stage = stage; count = λ comm. refl; bytes = λ all. all }

  -- ---- barriers

  pub gather_flipped : (comm value last : ℕ) (st : Stage) (calls : List DataCall) → is_idle st ≡ true → is_present s comm ≡ true → last ≡ last_of s comm me
      → IsStage s me (flip_gather comm last st) × ((c : ℕ) → barriers_of c (finished_if (last == 0) (Bar comm) calls) + open_barriers c (flip_gather comm last st) ≡ (barriers_of c calls + open_barriers c st) + (if comm == c then 1 else 0))
      × (All (IsWholeCall s me) calls → All (IsWholeCall s me) (finished_if (last == 0) (Bar comm) calls)) × (is_free (flip_gather comm last st) ≡ true)
  gather_flipped comm value last Idle calls idle present is = by (last == 0) refl
    where
      by : (b : Bool) → (last == 0) ≡ b → IsStage s me (if b then Idle else Barrier comm 0 0) × ((c : ℕ) → barriers_of c (finished_if b (Bar comm) calls) + open_barriers c (if b then Idle else Barrier comm 0 0) ≡ (barriers_of c calls + 0) + (if comm == c then 1 else 0))
          × (All (IsWholeCall s me) calls → All (IsWholeCall s me) (finished_if b (Bar comm) calls)) × (is_free (if b then Idle else Barrier comm 0 0) ≡ true)
      by true zero_last = (tt, λ c. omega (arith, one_barrier calls comm c), λ all. all_push calls (Bar comm) all present, refl)
      by false some =
          let more : 0 < last = grind (arith, nat_tests) in
          (record { present = present; released_below = omega (arith, more, is); seen_within = omega arith; all_seen = inl refl; of_root = inr refl }, λ c. omega arith, λ all. all, refl)
  gather_flipped comm value last (Drafting h c) calls idle present is = absurd (cc)
  gather_flipped comm value last (Sending j part m c) calls idle present is = absurd (cc)
  gather_flipped comm value last (Between i m) calls idle present is = absurd (cc)
  gather_flipped comm value last (Taking i m c) calls idle present is = absurd (cc)
  gather_flipped comm value last (Barrier c seen released) calls idle present is = absurd (cc)

  -- a member is seen; its place is one of the group's
  pub gather_looked_at : (comm place value v : ℕ) (st : Stage) (calls : List DataCall) → place_of s comm me ≡ 0 → place ≤ last_of s comm me → IsStage s me st → Goes st calls (look_gather comm place value v st) calls
  gather_looked_at comm place value v Idle calls first within stage = stays Idle calls stage
  gather_looked_at comm place value v (Drafting h c) calls first within stage = stays (Drafting h c) calls stage
  gather_looked_at comm place value v (Sending j part m c) calls first within stage = stays (Sending j part m c) calls stage
  gather_looked_at comm place value v (Between i m) calls first within stage = stays (Between i m) calls stage
  gather_looked_at comm place value v (Taking i m c) calls first within stage = stays (Taking i m c) calls stage
  gather_looked_at comm place value v (Barrier c seen released) calls first within stage = by ((c == comm) && ((place == suc seen) && (value == v))) refl
    where
      by : (b : Bool) → ((c == comm) && ((place == suc seen) && (value == v))) ≡ b → Goes (Barrier c seen released) calls (if b then Barrier c (suc seen) released else Barrier c seen released) calls
      by false t = stays (Barrier c seen released) calls stage
      by true t =
          let same : c ≡ comm = same_by_eqb c comm (both_first (c == comm) ((place == suc seen) && (value == v)) t) in
          let next : place ≡ suc seen = same_by_eqb place (suc seen) (both_first (place == suc seen) (value == v) (both_second (c == comm) ((place == suc seen) && (value == v)) t)) in
          let bound : suc seen ≤ last_of s c me = subst (λ x. suc seen ≤ last_of s x me) (sym same) (omega (arith, next, within)) in
          let none : released ≡ 0 = ⊎_elim (λ (z : released ≡ 0). z) (λ (z : seen ≡ last_of s c me). absurd (omega (arith, z, bound))) stage.all_seen in
          record {
            stage = record { present = stage.present; released_below = stage.released_below; seen_within = bound; all_seen = inl none; of_root = inl (ap (λ x. place_of s x me) same ∙ first) };
            count = λ k. refl;
            bytes = λ all. all;
            free = λ u. refl;
          }

  pub release_written : (comm place value last v : ℕ) (st : Stage) (calls : List DataCall) → may_release comm place value last v st ≡ true → last ≡ last_of s comm me → IsStage s me st
      → Goes st calls (write_release last st) (calls_released last st calls)
  release_written comm place value last v Idle calls may is stage = absurd (cc)
  release_written comm place value last v (Drafting h c) calls may is stage = absurd (cc)
  release_written comm place value last v (Sending j part m c) calls may is stage = absurd (cc)
  release_written comm place value last v (Between i m) calls may is stage = absurd (cc)
  release_written comm place value last v (Taking i m c) calls may is stage = absurd (cc)
  release_written comm place value last v (Barrier c seen released) calls may is stage = by (suc released == last) refl
    where
      by : (b : Bool) → (suc released == last) ≡ b → Goes (Barrier c seen released) calls (if b then Idle else Barrier c seen (suc released)) (finished_if b (Bar c) calls)
      by true t = record { stage = tt; count = λ k. one_barrier calls c k; bytes = λ all. all_push calls (Bar c) all stage.present; free = λ u. refl }
      by false t =
          let same : c ≡ comm = same_by_eqb c comm (both_first (c == comm) ((seen == last) && ((place == suc released) && (value == v))) may) in
          let all : seen ≡ last = same_by_eqb seen last (both_first (seen == last) ((place == suc released) && (value == v)) (both_second (c == comm) ((seen == last) && ((place == suc released) && (value == v))) may)) in
          let its : last ≡ last_of s c me = is ∙ ap (λ x. last_of s x me) (sym same) in
          let ne : suc released ≢ last = λ e. absurd (cc (sym t ∙ ap (λ x. x == last) e ∙ eqb_same last)) in
          let below : suc released < last_of s c me = omega (arith, stage.released_below, its, ne) in
          record {
            stage = record { present = stage.present; released_below = below; seen_within = stage.seen_within; all_seen = inr (all ∙ its); of_root = stage.of_root };
            count = λ k. refl;
            bytes = λ all. all;
            free = λ u. refl;
          }

  pub release_looked_at : (comm value v : ℕ) (st : Stage) (calls : List DataCall) → IsStage s me st → Goes st calls (look_release comm value v st) (calls_let_go comm value v st calls)
  release_looked_at comm value v Idle calls stage = stays Idle calls stage
  release_looked_at comm value v (Drafting h c) calls stage = stays (Drafting h c) calls stage
  release_looked_at comm value v (Sending j part m c) calls stage = stays (Sending j part m c) calls stage
  release_looked_at comm value v (Between i m) calls stage = stays (Between i m) calls stage
  release_looked_at comm value v (Taking i m c) calls stage = stays (Taking i m c) calls stage
  release_looked_at comm value v (Barrier c seen released) calls stage = by ((c == comm) && (value == v))
    where
      by : (b : Bool) → Goes (Barrier c seen released) calls (if b then Idle else Barrier c seen released) (finished_if b (Bar c) calls)
      by true = record { stage = tt; count = λ k. one_barrier calls c k; bytes = λ all. all_push calls (Bar c) all stage.present; free = λ u. refl }
      by false = stays (Barrier c seen released) calls stage

  -- ---- raising `sent`

  pub record Raises (st : Stage) (calls : List DataCall) (new : Stage) (late : List DataCall) (post : Option InFlight) : Type 0 where
    pub stage : IsStage s me new
    pub count : (comm : ℕ) → barriers_of comm late + open_barriers comm new ≡ barriers_of comm calls + open_barriers comm st
    pub bytes : All (IsWholeCall s me) calls → All (IsWholeCall s me) late
    pub posted : IsPosted s me new post

  first_raised : (posted : Bool) (to : ℕ) (header chunk : Notes) (calls : List DataCall) → is_posted header ≡ posted → is_whole_header header ≡ true → is_drafted (chunk_of s) (fresh_message (head_of header)) chunk ≡ true → are_peers s me to ≡ true
      → Raises (Drafting header chunk) calls (if posted then Idle else Sending to Raised (fresh_message (head_of header)) chunk)
      (finished_if posted (post_to to (message_of (with_chunk (chunk_of s) (fresh_message (head_of header)) chunk))) calls)
      (if posted then Some (record { to = to; head = head_of header; chunk = chunk; is_answered = false }) else None)
  first_raised true to header chunk calls is whole drafted peers =
      let rest : (is_head (head_of header) && is_post_word header) ≡ true = both_second (has_all header 4) (is_head (head_of header) && is_post_word header) whole in
      let word : (if true then is_post_head (head_of header) else unwrap_or (noted_word header 3) 0 == 0) ≡ true =
      subst (λ b. (if b then is_post_head (head_of header) else unwrap_or (noted_word header 3) 0 == 0) ≡ true) is (both_second (is_head (head_of header)) (is_post_word header) rest) in
      let under = begins to header peers (both_first (is_head (head_of header)) (is_post_word header) rest) in
      record {
        stage = tt;
        count = λ comm. ap (λ n. n + 0) (no_barrier true calls (post_to to (message_of (with_chunk (chunk_of s) (fresh_message (head_of header)) chunk))) (λ k. refl) comm);
        bytes = λ all. all_push calls _ all (record { peers = peers; valid = word; long = whole_bytes to (fresh_message (head_of header)) chunk under (post_is_last s (head_of header) word); each = each-with_chunk (chunk_of s) (fresh_message (head_of header)) chunk under.each });
        posted = record { peers = peers; head = word; whole = both_first (is_whole (chunk_of s) (fresh_message (head_of header)) chunk) (is_padded (chunk_of s) (fresh_message (head_of header)) chunk) drafted; free = refl };
      }
  first_raised false to header chunk calls is whole drafted peers =
      let rest : (is_head (head_of header) && is_post_word header) ≡ true = both_second (has_all header 4) (is_head (head_of header) && is_post_word header) whole in
      record {
        stage = (begins to header peers (both_first (is_head (head_of header)) (is_post_word header) rest), both_first (is_whole (chunk_of s) (fresh_message (head_of header)) chunk) (is_padded (chunk_of s) (fresh_message (head_of header)) chunk) drafted);
        count = λ comm. refl;
        bytes = λ all. all;
        posted = tt;
      }

  pub sent_raised : (to : ℕ) (st : Stage) (post : Option InFlight) (calls : List DataCall) → (is_none post && may_raise (chunk_of s) to st) ≡ true → are_peers s me to ≡ true → IsStage s me st
      → Raises st calls (raise_sent to st) (calls_raised (chunk_of s) to st calls) (post_raised to st post)
  sent_raised to st (Some post) calls may peers stage = absurd (cc)
  sent_raised to Idle None calls may peers stage = absurd (cc)
  sent_raised to (Drafting header chunk) None calls may peers stage = first_raised (is_posted header) to header chunk calls refl
      (both_first (is_whole_header header) (is_drafted (chunk_of s) (fresh_message (head_of header)) chunk) may) (both_second (is_whole_header header) (is_drafted (chunk_of s) (fresh_message (head_of header)) chunk) may) peers
  sent_raised to (Sending j Filling m c) None calls may peers stage =
      record {
        stage = (
          subst (λ x. IsUnderWay s me x m) (same_by_eqb j to (both_first (j == to) (is_drafted (chunk_of s) m c) may)) stage.0,
          both_first (is_whole (chunk_of s) m c) (is_padded (chunk_of s) m c) (both_second (j == to) (is_drafted (chunk_of s) m c) may),
        );
        count = λ comm. refl;
        bytes = λ all. all;
        posted = tt;
      }
  sent_raised to (Sending j Raised m c) None calls may peers stage = absurd (cc)
  sent_raised to (Sending j Answered m c) None calls may peers stage = absurd (cc)
  sent_raised to (Between i m) None calls may peers stage = absurd (cc)
  sent_raised to (Taking i m c) None calls may peers stage = absurd (cc)
  sent_raised to (Barrier c seen released) None calls may peers stage = absurd (cc)
