-- What a rank can rely on of its own record, where words and records agree.
use Rattle.std.specs.Prelude.{◌≡◌, ℕ, ◌<◌, Bool, true, false, ◌==◌, Option, Some, None}
use Rattle.std.specs.Int.{bit_at}
use Rattle.scc_base.specs.Heads.{MessageHead}
use Rattle.scc_base.specs.Setups.{SetupView, host_of}
use Rattle.scc_base.specs.declared.signals.Signal.TheVariants.{Sent, Ready}
use Rattle.scc_proto.specs.Messages.{Notes, noted_word, header_word, is_head, is_post_head}
use Rattle.scc_proto.specs.Stages.{Filling, Answered, Stage, Sending, Taking, InFlight, Record}
use Rattle.scc_proto.specs.Permission.{is_answered_by}
use Rattle.scc_proto.specs.Words.{are_peers}
use Rattle.scc_proto.specs.Records.{flags_noted}

-- noted header words are words of one head that a message may have
pub record AreOfHead (header : Notes) : Type 0 where
  pub head : MessageHead
  pub is_post : Bool
  pub valid : is_head head ≡ true
  pub post : is_post ≡ true → is_post_head head ≡ true
  pub words : (k v : ℕ) → k < 4 → noted_word header k ≡ Some v → v ≡ header_word head is_post k

-- no chunk of this rank is raised
abbrev pub is_drafting : Stage → Option InFlight → Bool
is_drafting (Sending to Filling message chunk) post = true
is_drafting (Sending to part message chunk) post = false
is_drafting stage None = true
is_drafting stage (Some post) = false

-- a chunk from rank j is being taken
abbrev pub is_taking_from : ℕ → Stage → Bool
is_taking_from j (Taking from message chunk) = from == j
is_taking_from j stage = false

-- the `ready` of the raised chunk was seen
abbrev pub is_answered : ℕ → Stage → Option InFlight → Bool
is_answered j (Sending to Answered message chunk) post = to == j
is_answered j stage post = is_answered_by j post

-- a record whose noted words are what one message and the own flags allow
pub record IsSound (s : SetupView) (me : ℕ) (rec : Record) : Type 0 where
  -- what was loaded of a header since its `sent` was seen is of one head
  pub heads : (j : ℕ) (header : Notes) → rec.notes j ≡ Some header → AreOfHead header
  -- in a word of bit flags that was noted under a register, at the core of j: the own bits that this rank
  -- may raise next are clear
  pub sent_clear : (j word : ℕ) → are_peers s me j ≡ true → flags_noted Sent rec (host_of s.hosts j) ≡ Some word
      → is_drafting rec.stage rec.post ≡ true → bit_at word me ≡ 0
  pub ready_clear : (j word : ℕ) → flags_noted Ready rec (host_of s.hosts j) ≡ Some word
      → is_taking_from j rec.stage ≡ true → bit_at word me ≡ 0
  -- in a word of bit flags that was noted under the register of the own core: the bits that this rank may lower next
  -- are set
  pub sent_set : (j word : ℕ) (header : Notes) → flags_noted Sent rec (host_of s.hosts me) ≡ Some word → rec.notes j ≡ Some header
      → bit_at word j ≡ 1
  pub ready_set : (j word : ℕ) → flags_noted Ready rec (host_of s.hosts me) ≡ Some word → is_answered j rec.stage rec.post ≡ true
      → bit_at word j ≡ 1
