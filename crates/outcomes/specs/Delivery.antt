-- What the sinks take of an outcome's texts (this project's profile).
use Rattle.std.specs.Prelude.{◌≡◌, ◌⊎◌, ◌++◌, ℕ, List, Result, Ok, Err}
use Rattle.rcce_io.specs.declared.writing.WriteFault.{WriteFault}
use Rattle.rcce_io.specs.Faults.{IsSteady}
use Rattle.rcce_io.specs.Sending.{SinkView, CutShort, with_text}
use Rattle.outcomes.specs.declared.status.Status.{Status}
use Rattle.outcomes.specs.declared.status.Status.TheVariants as status
use Rattle.outcomes.specs.Outcomes.{Outcome, no_memory}

-- the two sinks of a program
pub record Sinks : Type 0 where
  pub out : SinkView
  pub err : SinkView

-- the sink for out, and the sink for err
abbrev pub sinks : SinkView → SinkView → Sinks
sinks out err = record { out = out; err = err }

-- the sinks that took both texts of an outcome
abbrev pub with_outcome : Outcome → Sinks → Sinks
with_outcome o before = record { out = with_text o.out before.out; err = with_text o.err before.err }

-- One write failed: out's, and then none was made to err; or err's, behind the whole text of out. None was made behind it.
abbrev pub StopsShort : Outcome → Sinks → Sinks → Type 0
StopsShort o before after = (CutShort o.out before.out after.out × (after.err ≡ before.err))
    ⊎ ((after.out ≡ with_text o.out before.out) × CutShort o.err before.err after.err)

-- what was written of an outcome's texts: both whole, or up to a failed write
abbrev pub WroteTexts : Outcome → Sinks → Sinks → Result (Unit {0}) WriteFault → Type 0
WroteTexts o before after (Ok _) = after ≡ with_outcome o before
WroteTexts o before after (Err _) = StopsShort o before after

-- the outcome's texts were taken whole, with its status; or, with the status of a failed write, up to that write
abbrev pub Delivers : Outcome → Sinks → Sinks → Status → Type 0
Delivers o before after s = ((s ≡ o.status) × (after ≡ with_outcome o before)) ⊎ ((s ≡ status.Write) × StopsShort o before after)

-- no write failed: both sinks have as many faults as before
pub record AreSteady (before after : Sinks) : Type 0 where
  pub out : IsSteady before.out.faults after.out.faults
  pub err : IsSteady before.err.faults after.err.faults

-- the status and both texts are the outcome's
pub record Shows (o : Outcome) (before after : Sinks) (s : Status) : Type 0 where
  pub same_status : s ≡ o.status
  pub texts : after ≡ with_outcome o before

-- The status and both texts are those of the outcome. The one other answer is want of memory.
abbrev pub ShowsOr : List ℕ → Outcome → Sinks → Sinks → Status → Type 0
ShowsOr program o before after s = Shows o before after s ⊎ Shows (no_memory program) before after s

-- the sink took a front of the text
pub record TakesFront (text : List ℕ) (before after : SinkView) : Type 0 where
  pub front : List ℕ
  pub back : List ℕ
  pub whole : text ≡ front ++ back
  pub taken : after.taken ≡ (with_text front before).taken
