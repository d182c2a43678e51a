-- Ranks that rest: each is at its end, waits, or has met a message with another head than it asks for.
use Rattle.std.specs.Prelude.{◌≡◌, ℕ, ◌<◌, true, List}
use Rattle.scc_base.specs.Heads.{MessageHead}
use Rattle.scc_base.specs.Setups.{SetupView}
use Rattle.scc_base.specs.declared.events.Event.{Event}
use Rattle.scc_proto.specs.Agreement.{Agrees}
use Rattle.scc_proto.specs.Stages.{Record}
use Rattle.scc_proto.specs.Views.{view_of}
use Rattle.scc_proto.specs.Words.{Memory}
use Rattle.scc_mesh.specs.Keeping.{records_by}
use Rattle.chip_run.specs.Waiting.{Waits}
use Rattle.chip_run.specs.Wants.{Want}
use Rattle.coll_more.specs.Ops.{MoreAt}
use Rattle.coll_more.specs.Turns.{MetOther, is_more_over}
use Rattle.coll_more.specs.declared.kinds.More.{More}
use Rattle.coll_more.specs.declared.ops.Stage.{Stage}
use Rattle.coll_more.specs.declared.ops.Stage.TheVariants.{Own, Between, Sending, Receiving}
use Rattle.coll_run.specs.Teams.{MemberStands, MemberView, seat_of}

-- what a rank wants by what comes next: a send, a receive, or a step of its own
abbrev pub want_at : Stage → Want
want_at Own = Want.Own
want_at Between = Want.Own
want_at (Sending call op) = Want.Send op.to op.head
want_at (Receiving call op) = Want.Recv op.from

-- a rank rests: its call is at its end; or the look that it waits at is vain; or it has met another head
pub data Rests (s : SetupView) (memory : Memory) (rec : Record) (rank : ℕ) (op : MoreAt) : Type 0 where
  AtEnd : is_more_over (seat_of s rank) op ≡ true → Rests s memory rec rank op
  Looks : Waits s (view_of s memory) rank rec (want_at op.stage) → Rests s memory rec rank op
  Met : (sent : MessageHead) → MetOther rec sent op.stage → Rests s memory rec rank op

-- every rank of a run rests, where its events stand
pub record HaveRested (more : More) (len : ℕ) (s : SetupView) (memory : Memory) (lists : ℕ → List Event)
    (members : ℕ → MemberView) : Type 0 where
  pub agrees : Agrees s memory (records_by s lists)
  pub stands : (k : ℕ) → k < s.nue → MemberStands more len (members k) s k (lists k)
  pub rests : (k : ℕ) → k < s.nue → Rests s memory (records_by s lists k) k (members k).op
