-- What the ranks of a run have got.
use Rattle.std.specs.Prelude.{◌≡◌, ℕ, ◌≤◌, List, [], length, Option, Some, None, slice_get}
use Rattle.coll_run.specs.Teams.{MemberView}
use Rattle.coll_program.specs.declared.command.Job.{Job}

-- what a rank of a team has got
abbrev pub dst_of : Option MemberView → List ℕ
dst_of None = []
dst_of (Some m) = m.dst

-- what the rank of a team has got
abbrev pub dst_at : List MemberView → ℕ → List ℕ
dst_at team rank = dst_of (slice_get team rank)

-- there is a rank, and a member for each
pub record IsReport (job : Job) (team : List MemberView) : Type 0 where
  pub some : 1 ≤ job.nue
  pub each : length team ≡ job.nue
