-- What a sender that has raised a chunk has: its header line and its words in the buffer, and all words of
-- the chunk.
use Rattle.std.proofs.Common.{◌≡◌, ℕ, Bool, true, false, ◌&&◌, ◌==◌, nat_le, Option, Some, None, sym, ◌∙◌, subst, arith}
use Rattle.std.proofs.lemmas.Bool.Decides.{nat_tests}
use Rattle.scc_base.specs.Heads.{MessageHead}
use Rattle.scc_base.specs.Layouts.{chunk_size}
use Rattle.scc_base.specs.Setups.{SetupView}
use Rattle.scc_base.specs.declared.layouts.Layout.{Layout}
use Rattle.scc_base.specs.declared.layouts.Layout.TheVariants.{LineFlags, BitFlags}
use Rattle.scc_proto.specs.Messages.{Notes, StandsIn, Progress, fresh_message, is_last, is_whole, is_head, is_post_head}
use Rattle.scc_proto.specs.Stages.{Part, Filling, Raised, Answered, Stage, Idle, Drafting, Sending, Between, Taking, Barrier, InFlight, Record}
use Rattle.scc_proto.specs.Records.{chunk_of}
use Rattle.scc_proto.specs.Singles.{IsConsistent, IsStage, IsPart, IsPosted, IsInFlight, IsUnderWay}
use Rattle.scc_proto.specs.Pairs.{Offering, side_of_part, side_of_post, sending_side, HeaderStands, DraftStands, PostStands, BufferStands}
use Rattle.scc_proto.proofs.Tests.{same_or_other, both_second}
use Rattle.scc_proto.proofs.Pairs.PhaseFacts.{sending_here, sending_there, post_here, post_there}

-- a posted message is one chunk in either layout
post_fits : (layout : Layout) (head : MessageHead) → is_post_head head ≡ true → is_last (chunk_size layout) (fresh_message head) ≡ true
post_fits LineFlags head t = fits head.len (len head t)
  where
    len : (head : MessageHead) → is_post_head head ≡ true → nat_le head.len 3584 ≡ true
    len head t = both_second (head.comm == 0) (nat_le head.len 3584) (both_second (head.kind == 0) ((head.comm == 0) && nat_le head.len 3584) t)

    fits : (n : ℕ) → nat_le n 3584 ≡ true → nat_le n 3584 ≡ true
    fits n t = t
post_fits BitFlags head t = fits head.len (len head t)
  where
    len : (head : MessageHead) → is_post_head head ≡ true → nat_le head.len 3584 ≡ true
    len head t = both_second (head.comm == 0) (nat_le head.len 3584) (both_second (head.kind == 0) ((head.comm == 0) && nat_le head.len 3584) t)

    fits : (n : ℕ) → nat_le n 3584 ≡ true → nat_le n 6624 ≡ true
    fits n t = grind (arith, nat_tests)

pub post_is_last : (s : SetupView) (head : MessageHead) → is_post_head head ≡ true → is_last (chunk_of s) (fresh_message head) ≡ true
post_is_last s head t = post_fits s.layout head t

pub posted_last : (s : SetupView) (me : ℕ) (rec : Record) → IsConsistent s me rec → (p : InFlight) → rec.post ≡ Some p → is_last (chunk_of s) (fresh_message p.head) ≡ true
posted_last s me rec single p is = post_is_last s p.head (of rec.post single.post is).head
  where
    of : (o : Option InFlight) → IsPosted s me rec.stage o → o ≡ Some p → IsInFlight s me rec.stage p
    of None posted e = absurd (cc)
    of (Some q) posted e = let same : q ≡ p = cc in subst (λ (x : InFlight). IsInFlight s me rec.stage x) same posted

-- a raised chunk
pub record Offers (s : SetupView) (is_post : Bool) (message : Progress) (chunk : Notes) (header buffer : ℕ → ℕ) : Type 0 where
  pub line : HeaderStands message.head is_post header
  pub words : StandsIn chunk buffer
  pub whole : is_whole (chunk_of s) message chunk ≡ true
  pub valid : is_head message.head ≡ true
  pub post : is_post ≡ true → is_post_head message.head ≡ true
  pub last : is_post ≡ true → is_last (chunk_of s) message ≡ true

-- a head that a posted message may have is one that a message may have
pub post_head_is_head : (head : MessageHead) → is_post_head head ≡ true → is_head head ≡ true
post_head_is_head head t = grind (arith, nat_tests)

module _ (s : SetupView) (me to : ℕ) (a p : Bool) (m : Progress) (w : Notes) (header buffer : ℕ → ℕ) where
  of_post : (st : Stage) (post : Option InFlight) → IsPosted s me st post → PostStands post header buffer → side_of_post to post ≡ Offering a p m w → Offers s p m w header buffer
  of_post st None posted stands is = absurd (cc)
  of_post st (Some post) posted stands is = same_or_other (Offers s p m w header buffer) post.to to
      (λ here e.
      let side : Offering post.is_answered true (fresh_message post.head) post.chunk ≡ Offering a p m w = sym (post_here to post here) ∙ is in
      let ep : true ≡ p = cc (side) in
      let em : fresh_message post.head ≡ m = cc (side) in
      let ew : post.chunk ≡ w = cc (side) in
      let offers : Offers s true (fresh_message post.head) post.chunk header buffer = record { line = stands.0; words = stands.1; whole = posted.whole; valid = post_head_is_head post.head posted.head; post = λ _. posted.head; last = λ _. post_is_last s post.head posted.head } in
      subst (λ (x : Bool). Offers s x m w header buffer) ep (subst (λ (x : Progress). Offers s true x w header buffer) em (subst (λ (x : Notes). Offers s true (fresh_message post.head) x header buffer) ew offers)))
      (λ there ne. absurd (cc (sym (post_there to post there) ∙ is)))

  of_part : (part : Part) (message : Progress) (chunk : Notes) → IsUnderWay s me to message → IsPart (chunk_of s) part message chunk → HeaderStands message.head false header → StandsIn chunk buffer
      → side_of_part part message chunk ≡ Offering a p m w → Offers s p m w header buffer
  of_part Filling message chunk under is_part line words is = absurd (cc)
  of_part Raised message chunk under is_part line words is =
      let ep : false ≡ p = cc in let em : message ≡ m = cc in let ew : chunk ≡ w = cc in
      let offers : Offers s false message chunk header buffer = record { line = line; words = words; whole = is_part; valid = under.head; post = λ e. absurd (cc (e)); last = λ e. absurd (cc (e)) } in
      subst (λ (x : Bool). Offers s x m w header buffer) ep (subst (λ (x : Progress). Offers s false x w header buffer) em (subst (λ (x : Notes). Offers s false message x header buffer) ew offers))
  of_part Answered message chunk under is_part line words is =
      let ep : false ≡ p = cc in let em : message ≡ m = cc in let ew : chunk ≡ w = cc in
      let offers : Offers s false message chunk header buffer = record { line = line; words = words; whole = is_part; valid = under.head; post = λ e. absurd (cc (e)); last = λ e. absurd (cc (e)) } in
      subst (λ (x : Bool). Offers s x m w header buffer) ep (subst (λ (x : Progress). Offers s false x w header buffer) em (subst (λ (x : Notes). Offers s false message x header buffer) ew offers))

  of_side : (st : Stage) (post : Option InFlight) → IsStage s me st → IsPosted s me st post → DraftStands st header buffer → PostStands post header buffer
      → sending_side to st post ≡ Offering a p m w → Offers s p m w header buffer
  of_side Idle post stage posted draft stands is = of_post Idle post posted stands is
  of_side (Drafting h c) post stage posted draft stands is = of_post (Drafting h c) post posted stands is
  of_side (Sending j part message chunk) post stage posted draft stands is = same_or_other (Offers s p m w header buffer) j to
      (λ here e. of_part part message chunk (subst (λ (x : ℕ). IsUnderWay s me x message) e stage.0) stage.1 draft.0 draft.1 (sym (sending_here to j part message chunk post here) ∙ is))
      (λ there ne. absurd (cc (sym (sending_there to j part message chunk post there) ∙ is)))
  of_side (Between i message) post stage posted draft stands is = of_post (Between i message) post posted stands is
  of_side (Taking i message chunk) post stage posted draft stands is = of_post (Taking i message chunk) post posted stands is
  of_side (Barrier comm seen released) post stage posted draft stands is = of_post (Barrier comm seen released) post posted stands is

-- what stands in the buffer of a sender that has raised a chunk to this rank
pub offers : (s : SetupView) (me to : ℕ) (a p : Bool) (m : Progress) (w : Notes) (header buffer : ℕ → ℕ) (rec : Record) → IsConsistent s me rec → BufferStands rec header buffer
    → sending_side to rec.stage rec.post ≡ Offering a p m w → Offers s p m w header buffer
offers s me to a p m w header buffer rec single stands is = of_side s me to a p m w header buffer rec.stage rec.post single.stage single.post stands.draft stands.post is
