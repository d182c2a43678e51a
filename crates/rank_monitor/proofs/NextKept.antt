-- What a monitor keeps of a stage, by what the rank is in the midst of, for what its record allows next.
use Rattle.std.proofs.Common.{◌≡◌, ℕ, Bool, if◌then◌else◌, List, Option, ap}
use Rattle.scc_base.specs.Heads.{MessageHead}
use Rattle.scc_proto.specs.Messages.{Notes, Progress}
use Rattle.scc_proto.specs.Permission.{may_raise}
use Rattle.scc_proto.specs.Stages.{Filling, Raised, Answered, Stage, Idle, Drafting, Sending, Between, Taking, Barrier, InFlight}
use Rattle.rank_monitor.specs.Next.{store_allowed}
use Rattle.rank_monitor.specs.Noted.{IsChunkOf}
use Rattle.rank_monitor.specs.Standing.{IsInHand, KeepsStage}
use Rattle.rank_monitor.specs.Standing.KeepsStage.{AtIdle, AtDraft, AtFill, AtRaised, AtAnswered, AtPause, AtTake, AtMeet}
use Rattle.rank_monitor.specs.declared.chunks.NotedChunk.{NotedChunk}
use Rattle.rank_monitor.specs.declared.lines.NotedLine.{NotedLine}
use Rattle.rank_monitor.specs.declared.next.NextStore.TheVariants as may
use Rattle.rank_monitor.specs.declared.works.Standing.TheVariants as standing

module _ (size : ℕ) (header : NotedLine) (chunk : NotedChunk) (bytes : List ℕ) (P : Stage → Type 0) where
  pub at_idle : (st : Stage) → KeepsStage size header chunk bytes standing.Idle st → P Idle → P st
  at_idle st AtIdle p = p

  pub at_draft : (st : Stage) → KeepsStage size header chunk bytes standing.Drafting st → ((h c : Notes) → P (Drafting h c)) → P st
  at_draft st (AtDraft h c a b) p = p h c

  pub at_fill : (to : ℕ) (head : MessageHead) (st : Stage) → KeepsStage size header chunk bytes (standing.Filling to head) st
      → ((m : Progress) (c : Notes) → IsInHand size head bytes m → IsChunkOf chunk c → P (Sending to Filling m c)) → P st
  at_fill to head st (AtFill i asked m c o w) p = p m c o w

  pub at_raised : (to : ℕ) (head : MessageHead) (st : Stage) → KeepsStage size header chunk bytes (standing.Raised to head) st → ((m : Progress) (c : Notes) → P (Sending to Raised m c)) → P st
  at_raised to head st (AtRaised i asked m c o w u) p = p m c

  pub at_answered : (to : ℕ) (head : MessageHead) (st : Stage) → KeepsStage size header chunk bytes (standing.Answered to head) st → ((m : Progress) (c : Notes) → P (Sending to Answered m c)) → P st
  at_answered to head st (AtAnswered i asked m c o w u) p = p m c

  pub at_pause : (from : ℕ) (head : MessageHead) (st : Stage) → KeepsStage size header chunk bytes (standing.Between from head) st → ((m : Progress) → P (Between from m)) → P st
  at_pause from head st (AtPause i asked m o) p = p m

  pub at_take : (from : ℕ) (head : MessageHead) (st : Stage) → KeepsStage size header chunk bytes (standing.Taking from head) st
      → ((m : Progress) (c : Notes) → IsInHand size head bytes m → IsChunkOf chunk c → P (Taking from m c)) → P st
  at_take from head st (AtTake i asked m c o w) p = p m c o w

  pub at_meet : (comm seen released : ℕ) (st : Stage) → KeepsStage size header chunk bytes (standing.Meeting comm seen released) st → P (Barrier comm seen released) → P st
  at_meet comm seen released st (AtMeet c s r) p = p

-- a draft, which may be raised where it is whole
pub draft_at : (size to : ℕ) (header : NotedLine) (chunk : NotedChunk) (bytes : List ℕ) (st : Stage) → KeepsStage size header chunk bytes standing.Drafting st → (whole : Bool) → whole ≡ may_raise size to st
    → (post : Option InFlight) (notes : ℕ → Option Notes) → (if whole then may.Raise else may.Draft) ≡ store_allowed size st post notes
draft_at size to header chunk bytes st keeps whole is post notes =
    at_draft size header chunk bytes (λ (x : Stage). whole ≡ may_raise size to x → (if whole then may.Raise else may.Draft) ≡ store_allowed size x post notes) st keeps
    (λ h c e. ap (λ (b : Bool). if b then may.Raise else may.Draft) e) is
