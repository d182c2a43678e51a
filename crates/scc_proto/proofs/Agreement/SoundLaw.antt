-- Where words and records agree, each rank's record is sound.
use Rattle.std.proofs.Common.{◌≡◌, ℕ, ◌<◌, Bool, true, false, ◌==◌, if◌then◌else◌, Option, Some, None, option_and_then, refl, sym, ◌∙◌, ap, subst}
use Rattle.std.specs.Int.{bit_at}
use Rattle.scc_base.specs.Layouts.{signal_at, signal_word}
use Rattle.scc_base.specs.Places.{flag_in}
use Rattle.scc_base.specs.declared.signals.Signal.{Signal}
use Rattle.scc_base.specs.declared.signals.Signal.TheVariants.{Sent, Ready}
use Rattle.scc_base.specs.Setups.{SetupView, host_of}
use Rattle.scc_base.specs.declared.layouts.Layout.{Layout}
use Rattle.scc_base.specs.declared.layouts.Layout.TheVariants.{LineFlags, BitFlags}
use Rattle.scc_proto.specs.Messages.{Notes, StandsIn, Progress, fresh_message}
use Rattle.scc_proto.specs.Stages.{Filling, Raised, Answered, Stage, Idle, Drafting, Sending, Between, Taking, Barrier, InFlight, FlagWords, Record}
use Rattle.scc_proto.specs.Permission.{is_answered_by}
use Rattle.scc_proto.specs.Words.{Memory, are_peers}
use Rattle.scc_proto.specs.Records.{chunk_of, flags_in}
use Rattle.scc_proto.specs.Views.{view_of, word_of_flag}
use Rattle.scc_proto.specs.Singles.{IsConsistent, IsStage, IsPosted}
use Rattle.scc_proto.specs.Pairs.{Resting, Offering, Awaiting, Receiving, message_so_far, side_of_post, sending_side, taking_side, NotesStand, pair_of}
use Rattle.scc_proto.specs.Registers.{IsNotedWord, NotedFlags}
use Rattle.scc_proto.specs.Agreement.{Agrees}
use Rattle.scc_proto.specs.Soundness.{AreOfHead, is_drafting, is_taking_from, is_answered, IsSound}
use Rattle.scc_proto.proofs.Tests.{same_or_other, same_by_eqb, both_first, both_second, peers_are, peers_swap}
use Rattle.scc_proto.proofs.Pairs.PhaseFacts.{at_rest, when_answered, when_taking, when_seen, Raise, sending_here, sending_there, post_here}
use Rattle.scc_proto.proofs.Pairs.OfferFacts.{offers}

-- ---- a noted word of bit flags is the word

signal_bit : (layout : Layout) (signal : Signal) (held : Option FlagWords) (memory : Memory) (core b w : ℕ) → NotedFlags layout held (memory.word core 1) → option_and_then (λ (flags : FlagWords). flags_in signal flags) held ≡ Some w
    → flag_in (signal_at layout signal b).bit (word_of_flag memory core (signal_at layout signal b)) ≡ bit_at w b
signal_bit LineFlags signal None memory core b w is noted_is = absurd (cc)
signal_bit LineFlags signal (Some flags) memory core b w is noted_is = let a : None ≡ Some w = sym (is signal) ∙ noted_is in absurd (cc)
signal_bit BitFlags signal None memory core b w is noted_is = absurd (cc)
signal_bit BitFlags signal (Some flags) memory core b w is noted_is = of (flags_in signal flags) (is signal) noted_is
  where
    of : (o : Option ℕ) → IsNotedWord o (memory.word core 1 (signal_word signal)) → o ≡ Some w → bit_at (memory.word core 1 (signal_word signal)) b ≡ bit_at w b
    of None n e = absurd (cc)
    of (Some v) n e = let same : v ≡ w = cc (e) in ap (λ x. bit_at x b) (n ∙ same)

-- ---- a rank that was seen is another rank

pub seen_peer : (s : SetupView) (me : ℕ) (rec : Record) (j : ℕ) (header : Notes) → IsConsistent s me rec → rec.notes j ≡ Some header → are_peers s me j ≡ true
seen_peer s me rec j header single is = by (are_peers s me j) refl
  where
    by : (b : Bool) → are_peers s me j ≡ b → b ≡ true
    by true e = refl
    by false e = absurd (cc (single.notes j e, is))

-- a sender with no raised chunk rests toward each rank
drafting_rests : (j : ℕ) (st : Stage) (post : Option InFlight) → is_drafting st post ≡ true → (m : Option Progress) × (sending_side j st post ≡ Resting m)
drafting_rests j Idle None t = (None, refl)
drafting_rests j (Drafting h c) None t = (None, refl)
drafting_rests j (Between i m) None t = (None, refl)
drafting_rests j (Taking i m c) None t = (None, refl)
drafting_rests j (Barrier c seen released) None t = (None, refl)
drafting_rests j Idle (Some post) t = absurd (cc)
drafting_rests j (Drafting h c) (Some post) t = absurd (cc)
drafting_rests j (Between i m) (Some post) t = absurd (cc)
drafting_rests j (Taking i m c) (Some post) t = absurd (cc)
drafting_rests j (Barrier c seen released) (Some post) t = absurd (cc)
drafting_rests j (Sending to Filling m c) post t = same_or_other ((n : Option Progress) × (sending_side j (Sending to Filling m c) post ≡ Resting n)) to j
    (λ here e. (Some m, sending_here j to Filling m c post here)) (λ there ne. (None, sending_there j to Filling m c post there))
drafting_rests j (Sending to Raised m c) post t = absurd (cc)
drafting_rests j (Sending to Answered m c) post t = absurd (cc)

-- a rank that is taking from another one
record TakesFrom (s : SetupView) (me j : ℕ) (st : Stage) : Type 0 where
  message : Progress
  words : Notes
  side : taking_side j st ≡ Receiving message words
  peers : are_peers s me j ≡ true

takes_from : (s : SetupView) (me j : ℕ) (st : Stage) → IsStage s me st → is_taking_from j st ≡ true → TakesFrom s me j st
takes_from s me j Idle stage t = absurd (cc)
takes_from s me j (Drafting h c) stage t = absurd (cc)
takes_from s me j (Sending to part m c) stage t = absurd (cc)
takes_from s me j (Between i m) stage t = absurd (cc)
takes_from s me j (Taking i m c) stage t = record {
  message = m;
  words = c;
  side = ap (λ b. if◌then◌else◌ b (Receiving m c) (Awaiting None)) t;
  peers = subst (λ x. are_peers s me x ≡ true) (same_by_eqb i j t) stage.peers;
}
takes_from s me j (Barrier c seen released) stage t = absurd (cc)

-- a rank whose raised chunk was answered by another one
record AnsweredBy (s : SetupView) (me j : ℕ) (st : Stage) (post : Option InFlight) : Type 0 where
  is_post : Bool
  message : Progress
  chunk : Notes
  side : sending_side j st post ≡ Offering true is_post message chunk
  peers : are_peers s me j ≡ true

answered_post : (s : SetupView) (me j : ℕ) (st : Stage) (post : Option InFlight) → sending_side j st post ≡ side_of_post j post → IsPosted s me st post → is_answered_by j post ≡ true → AnsweredBy s me j st post
answered_post s me j st None side posted t = absurd (cc)
answered_post s me j st (Some post) side posted t =
    let here : (post.to == j) ≡ true = both_first (post.to == j) post.is_answered t in
    record {
      is_post = true;
      message = fresh_message post.head;
      chunk = post.chunk;
      side = side ∙ post_here j post here ∙ ap (λ b. Offering b true (fresh_message post.head) post.chunk) (both_second (post.to == j) post.is_answered t);
      peers = subst (λ x. are_peers s me x ≡ true) (same_by_eqb post.to j here) posted.peers;
    }

answered_by : (s : SetupView) (me j : ℕ) (st : Stage) (post : Option InFlight) → IsStage s me st → IsPosted s me st post → is_answered j st post ≡ true → AnsweredBy s me j st post
answered_by s me j Idle post stage posted t = answered_post s me j Idle post refl posted t
answered_by s me j (Drafting h c) post stage posted t = answered_post s me j (Drafting h c) post refl posted t
answered_by s me j (Sending to Filling m c) None stage posted t = absurd (cc)
answered_by s me j (Sending to Filling m c) (Some post) stage posted t = absurd (cc (posted.free))
answered_by s me j (Sending to Raised m c) None stage posted t = absurd (cc)
answered_by s me j (Sending to Raised m c) (Some post) stage posted t = absurd (cc (posted.free))
answered_by s me j (Sending to Answered m c) post stage posted t = record { is_post = false; message = m; chunk = c; side = sending_here j to Answered m c post t; peers = subst (λ x. are_peers s me x ≡ true) (same_by_eqb to j t) stage.0.peers }
answered_by s me j (Between i m) post stage posted t = answered_post s me j (Between i m) post refl posted t
answered_by s me j (Taking i m c) post stage posted t = answered_post s me j (Taking i m c) post refl posted t
answered_by s me j (Barrier c seen released) post stage posted t = answered_post s me j (Barrier c seen released) post refl posted t

-- ---- the law

module _ (s : SetupView) (memory : Memory) (records : ℕ → Record) (agrees : Agrees s memory records) (me : ℕ) (below : me < s.nue) where
  single : IsConsistent s me (records me)
  single = agrees.singles.0 me below

  -- the pair of a rank that was seen is raised
  pub raised : (j : ℕ) (header : Notes) → (records me).notes j ≡ Some header → Raise (chunk_of s) (pair_of j me (view_of s memory) (records j) (records me))
  raised j header is = when_seen (chunk_of s) (pair_of j me (view_of s memory) (records j) (records me)) header is (agrees.pairs j me (peers_swap s me j (seen_peer s me (records me) j header single is)))

  of_head : (j : ℕ) (header : Notes) → (records me).notes j ≡ Some header → AreOfHead header
  of_head j header is =
      let peers = seen_peer s me (records me) j header single is in
      let other = (peers_are s me j peers).other in
      let r = raised j header is in
      let stands : StandsIn header ((view_of s memory).header j) = subst (λ (o : Option Notes). NotesStand o ((view_of s memory).header j)) is r.is.notes in
      let o = offers s j me false r.is_post (message_so_far r.through r.head) r.chunk ((view_of s memory).header j) ((view_of s memory).chunk j) (records j) (agrees.singles.0 j other) (agrees.senders j other) r.is.sending in
      record { head = (message_so_far r.through r.head).head; is_post = r.is_post; valid = o.valid; post = o.post; words = λ k v lt noted_is. sym (stands k v noted_is) ∙ o.line k lt }

  pub sound_law : IsSound s me (records me)
  sound_law = record {
    heads = of_head;
    sent_clear = λ j word peers noted_is drafting.
        let rest = drafting_rests j (records me).stage (records me).post drafting in
        let p = at_rest (chunk_of s) (pair_of me j (view_of s memory) (records me) (records j)) rest.0 rest.1 (agrees.pairs me j peers) in
        sym (signal_bit s.layout Sent ((records me).held (host_of s.hosts j)) memory (host_of s.hosts j) me word ((agrees.registers (host_of s.hosts j)).noted me below) noted_is) ∙ p.sent_flag;
    ready_clear = λ j word noted_is taking.
        let t = takes_from s me j (records me).stage single.stage taking in
        let p = when_taking (chunk_of s) (pair_of j me (view_of s memory) (records j) (records me)) t.message t.words t.side (agrees.pairs j me (peers_swap s me j t.peers)) in
        sym (signal_bit s.layout Ready ((records me).held (host_of s.hosts j)) memory (host_of s.hosts j) me word ((agrees.registers (host_of s.hosts j)).noted me below) noted_is) ∙ p.2.ready_flag;
    sent_set = λ j word header noted_is is.
        sym (signal_bit s.layout Sent ((records me).held (host_of s.hosts me)) memory (host_of s.hosts me) j word ((agrees.registers (host_of s.hosts me)).noted me below) noted_is) ∙ (raised j header is).is.sent_flag;
    ready_set = λ j word noted_is answered.
        let a = answered_by s me j (records me).stage (records me).post single.stage single.post answered in
        let p = when_answered (chunk_of s) (pair_of me j (view_of s memory) (records me) (records j)) a.is_post a.message a.chunk a.side (agrees.pairs me j a.peers) in
        sym (signal_bit s.layout Ready ((records me).held (host_of s.hosts me)) memory (host_of s.hosts me) j word ((agrees.registers (host_of s.hosts me)).noted me below) noted_is) ∙ p.1.ready_flag;
  }
