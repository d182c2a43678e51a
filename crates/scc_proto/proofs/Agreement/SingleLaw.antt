-- The record of any list of permitted events is consistent, whatever the words are.
use Rattle.std.proofs.Common.{◌≡◌, ◌≢◌, ℕ, suc, ◌+◌, ◌-◌, ◌%◌, ◌<◌, ◌≤◌, Bool, true, false, ◌&&◌, ◌==◌, if◌then◌else◌, [], Option, Some, None, is_none, option_map, refl, sym, ◌∙◌, ap, arith}
use Rattle.scc_base.specs.Calls.{Bar}
use Rattle.scc_base.specs.Setups.{SetupView, setup_key}
use Rattle.scc_base.proofs.GroupFacts.{place_below, size_same, root_with}
use Rattle.scc_base.specs.declared.signals.Signal.TheVariants.{Sent, Ready}
use Rattle.scc_proto.specs.Tables.{table_with}
use Rattle.scc_proto.specs.Messages.{Notes, note_word, barriers_of}
use Rattle.scc_proto.specs.Stages.{Stage, InFlight, Record, blank}
use Rattle.scc_proto.specs.Moves.{Move, DraftHeader, DraftChunk, RaiseSignal, LookSignal, ReadHeader, ReadChunk, LowerSignal, FlipGather, LookGather, WriteRelease, LookRelease, StoreHeap, NoMove, Misplaced, after, flip_gather, post_answered, finished_if}
use Rattle.scc_proto.specs.Permission.{permits, drafts_header, drafts_chunk, is_idle}
use Rattle.scc_proto.specs.Records.{chunk_of, last_of}
use Rattle.scc_proto.specs.Views.{View}
use Rattle.scc_proto.specs.Singles.{is_free, IsPosted, open_barriers, IsConsistent}
use Rattle.scc_proto.proofs.Layouts.MoveFacts.{IsMoveOf, IsMember, IsViewStep}
use Rattle.scc_proto.proofs.Tests.{same_or_other, put_here, put_there, eqb_same, eqb_other, both_first, both_second}
use Rattle.scc_proto.proofs.Agreement.StageMoves.{header_drafted, chunk_drafted, chunk_read, sent_lowered, ready_raised, ready_looked_at, ready_lowered, gather_flipped, gather_looked_at, release_written, release_looked_at, sent_raised}

module _ (s : SetupView) (me : ℕ) where
  -- ---- the posted message

  post_kept : (st new : Stage) (post : Option InFlight) → (is_free st ≡ true → is_free new ≡ true) → IsPosted s me st post → IsPosted s me new post
  post_kept st new None free posted = tt
  post_kept st new (Some post) free posted = record { peers = posted.peers; head = posted.head; whole = posted.whole; free = free posted.free }

  post_none : (b : Bool) (new : Stage) (post : Option InFlight) → (is_none post && b) ≡ true → IsPosted s me new post
  post_none b new None may = tt
  post_none b new (Some post) may = absurd (cc)

  post_seen : (is_set : ℕ → Bool) (st new : Stage) (post : Option InFlight) → (is_free st ≡ true → is_free new ≡ true) → IsPosted s me st post → IsPosted s me new (option_map (post_answered is_set) post)
  post_seen is_set st new None free posted = tt
  post_seen is_set st new (Some post) free posted = record { peers = posted.peers; head = posted.head; whole = posted.whole; free = free posted.free }

  -- ---- the ranks that were seen

  look_notes : (b : Bool) (n : Option Notes) → (b ≡ true → n ≡ None → ⊥) → n ≡ None → (if b then Some [] else n) ≡ None
  look_notes true n never is = absurd (never refl is)
  look_notes false n never is = is

  -- ---- each move

  pub single_by : (rec : Record) (move : Move) → me < s.nue → IsMoveOf s me move → permits (chunk_of s) move rec ≡ true → IsConsistent s me rec → IsConsistent s me (after (chunk_of s) move rec)
  single_by rec (DraftHeader k v) below own may old =
      let r = header_drafted s me k v rec.stage rec.calls (both_second (is_none rec.post) (drafts_header rec.stage) may) old.stage in
      record { stage = r.0; post = post_none (drafts_header rec.stage) _ rec.post may; notes = old.notes; flips = λ c. old.flips c ∙ ap (λ n. barriers_of c rec.calls + n) (sym (r.1 c)); calls = old.calls }
  single_by rec (DraftChunk k v) below own may old =
      let r = chunk_drafted s me k v rec.stage rec.calls (both_second (is_none rec.post) (drafts_chunk rec.stage) may) old.stage in
      record { stage = r.0; post = post_none (drafts_chunk rec.stage) _ rec.post may; notes = old.notes; flips = λ c. old.flips c ∙ ap (λ n. barriers_of c rec.calls + n) (sym (r.1 c)); calls = old.calls }
  single_by rec (RaiseSignal Sent to) below own may old =
      let r = sent_raised s me to rec.stage rec.post rec.calls may own old.stage in
      record { stage = r.stage; post = r.posted; notes = old.notes; flips = λ c. old.flips c ∙ sym (r.count c); calls = r.bytes old.calls }
  single_by rec (LookSignal Sent is_set) below own may old =
      record { stage = old.stage; post = old.post; notes = λ j none. look_notes (is_set j) (rec.notes j) (λ t is. absurd (cc (own j t, none))) (old.notes j none); flips = old.flips; calls = old.calls }
  single_by rec (ReadHeader from k v) below own may old =
      record {
        stage = old.stage;
        post = old.post;
        notes = λ j none. same_or_other (table_with rec.notes from (option_map (note_word k v) (rec.notes from)) j ≡ None) j from
            (λ t e. ap (λ x. table_with rec.notes from (option_map (note_word k v) (rec.notes from)) x) e ∙ put_here rec.notes from (option_map (note_word k v) (rec.notes from)) ∙ ap (λ (o : Option Notes). option_map (note_word k v) o) (ap rec.notes (sym e) ∙ old.notes j none))
            (λ t ne. put_there rec.notes from (option_map (note_word k v) (rec.notes from)) j ne ∙ old.notes j none);
        flips = old.flips;
        calls = old.calls;
      }
  single_by rec (ReadChunk from k v) below own may old =
      let r = chunk_read s me from k v rec.stage rec.calls old.stage in
      record { stage = r.stage; post = post_kept rec.stage _ rec.post r.free old.post; notes = old.notes; flips = λ c. old.flips c ∙ sym (r.count c); calls = r.bytes old.calls }
  single_by rec (LowerSignal Sent from) below own may old =
      let r = sent_lowered s me from (rec.notes from) rec.stage rec.calls may own old.stage in
      record {
        stage = r.stage;
        post = post_kept rec.stage _ rec.post r.free old.post;
        notes = λ j none. same_or_other (table_with rec.notes from None j ≡ None) j from (λ t e. ap (λ x. table_with rec.notes from None x) e ∙ put_here rec.notes from None) (λ t ne. put_there rec.notes from None j ne ∙ old.notes j none);
        flips = λ c. old.flips c ∙ sym (r.count c);
        calls = r.bytes old.calls;
      }
  single_by rec (RaiseSignal Ready to) below own may old =
      let r = ready_raised s me to rec.stage rec.calls may old.stage in
      record { stage = r.stage; post = post_kept rec.stage _ rec.post r.free old.post; notes = old.notes; flips = λ c. old.flips c ∙ sym (r.count c); calls = r.bytes old.calls }
  single_by rec (LookSignal Ready is_set) below own may old =
      let r = ready_looked_at s me is_set rec.stage rec.calls old.stage in
      record { stage = r.stage; post = post_seen is_set rec.stage _ rec.post r.free old.post; notes = old.notes; flips = λ c. old.flips c ∙ sym (r.count c); calls = r.bytes old.calls }
  single_by rec (LowerSignal Ready by) below own may old =
      let r = ready_lowered s me rec.stage rec.calls old.stage in
      record { stage = r.stage; post = tt; notes = old.notes; flips = λ c. old.flips c ∙ sym (r.count c); calls = r.bytes old.calls }
  single_by rec (FlipGather comm value last) below own may old =
      let r = gather_flipped s me comm value last rec.stage rec.calls (both_first (is_idle rec.stage) (value == 1 - rec.flips comm % 2) may) own.0 own.1 in
      record {
        stage = r.0;
        post = post_kept rec.stage _ rec.post (λ t. r.3) old.post;
        notes = old.notes;
        flips = λ c. same_or_other (table_with rec.flips comm (suc (rec.flips comm)) c ≡ barriers_of c (finished_if (last == 0) (Bar comm) rec.calls) + open_barriers c (flip_gather comm last rec.stage)) c comm
            (λ t e. put_at rec.flips comm c e ∙ flipped c (rec.flips c) _ _ e (old.flips c) (r.1 c))
            (λ t ne. put_there rec.flips comm (suc (rec.flips comm)) c ne ∙ others c (rec.flips c) _ _ ne (old.flips c) (r.1 c));
        calls = r.2 old.calls;
      }
    where
      put_at : (flips : ℕ → ℕ) (i c : ℕ) → c ≡ i → table_with flips i (suc (flips i)) c ≡ suc (flips c)
      put_at flips i c e = ap (λ x. table_with flips x (suc (flips x)) c) (sym e) ∙ put_here flips c (suc (flips c))

      flipped : (c n old_count new_count : ℕ) → c ≡ comm → n ≡ old_count → new_count ≡ old_count + (if comm == c then 1 else 0) → suc n ≡ new_count
      flipped c n a b e is more = let t : (comm == c) ≡ true = ap (λ x. comm == x) e ∙ eqb_same comm in let m : b ≡ a + 1 = more ∙ ap (λ q. a + (if q then 1 else 0)) t in omega (arith, is, m)

      others : (c n old_count new_count : ℕ) → c ≢ comm → n ≡ old_count → new_count ≡ old_count + (if comm == c then 1 else 0) → n ≡ new_count
      others c n a b ne is more = let t : (comm == c) ≡ false = eqb_other comm c (λ e. ne (sym e)) in let m : b ≡ a + 0 = more ∙ ap (λ q. a + (if q then 1 else 0)) t in omega (arith, is, m)
  single_by rec (LookGather comm from place value) below own may old =
      let within : place ≤ last_of s comm me = place_within from comm place own in
      let r = gather_looked_at s me comm place value (rec.flips comm % 2) rec.stage rec.calls own.first within old.stage in
      record { stage = r.stage; post = post_kept rec.stage _ rec.post r.free old.post; notes = old.notes; flips = λ c. old.flips c ∙ sym (r.count c); calls = r.bytes old.calls }
    where
      place_within : (r comm place : ℕ) → IsMember s me comm r place → place ≤ last_of s comm me
      place_within r comm place is =
          let key : setup_key s comm me ≡ setup_key s comm r = ap (setup_key s comm) (sym is.root) ∙ root_with (setup_key s comm) r in
          let lt = place_below s.nue (setup_key s comm) r is.below in
          let same = size_same s.nue (setup_key s comm) me r key in
          omega (arith, lt, same, is.at)
  single_by rec (WriteRelease comm to place value last) below own may old =
      let r = release_written s me comm place value last (rec.flips comm % 2) rec.stage rec.calls may own.1 old.stage in
      record { stage = r.stage; post = post_kept rec.stage _ rec.post r.free old.post; notes = old.notes; flips = λ c. old.flips c ∙ sym (r.count c); calls = r.bytes old.calls }
  single_by rec (LookRelease comm value) below own may old =
      let r = release_looked_at s me comm value (rec.flips comm % 2) rec.stage rec.calls old.stage in
      record { stage = r.stage; post = post_kept rec.stage _ rec.post r.free old.post; notes = old.notes; flips = λ c. old.flips c ∙ sym (r.count c); calls = r.bytes old.calls }
  single_by rec (StoreHeap place value) below own may old = record { stage = old.stage; post = old.post; notes = old.notes; flips = old.flips; calls = old.calls }
  single_by rec NoMove below own may old = record { stage = old.stage; post = old.post; notes = old.notes; flips = old.flips; calls = old.calls }
  single_by rec Misplaced below own may old = absurd (cc)

pub single_kept : (s : SetupView) (me : ℕ) (view : View) (rec : Record) (move : Move) → IsViewStep s me view rec move → IsConsistent s me rec → IsConsistent s me (after (chunk_of s) move rec)
single_kept s me view rec move step old = single_by s me rec move step.rank step.own step.permitted old

-- the record of no event
pub single_at_start : (s : SetupView) (me : ℕ) → IsConsistent s me blank
single_at_start s me = record { stage = tt; post = tt; notes = λ j none. refl; flips = λ comm. refl; calls = λ k d lt. absurd (omega arith) }
