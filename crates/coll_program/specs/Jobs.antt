-- What the ranks of a run hand in, and what they get (this project's profile of `rccecoll`).
use Rattle.std.specs.Prelude.{ℕ, ◌+◌, ◌*◌, ◌/◌, ◌%◌, List, map}
use Rattle.std.specs.List.{range_with_len}
use Rattle.scc_base.specs.Setups.{SetupView}
use Rattle.scc_base.specs.Worlds.{world_alone}
use Rattle.rcce_words.specs.Setups.{default_setup}
use Rattle.coll_more.specs.Pieces.{pieces_for}
use Rattle.coll_more.specs.Tables.{src_len_of}
use Rattle.coll_more.specs.declared.kinds.More.{More}
use Rattle.coll_more.specs.declared.kinds.More.TheVariants.{Gather, Scatter, Allgather, Alltoall}
use Rattle.coll_program.specs.declared.command.Job.{Job}

-- byte i of what a rank hands in: in an alltoall i / len is the rank for which it is
abbrev pub handed_byte : More → (rank len i : ℕ) → ℕ
handed_byte Gather rank len i = (rank + i) % 251
handed_byte Scatter rank len i = i % 251
handed_byte Allgather rank len i = (rank + i) % 251
handed_byte Alltoall rank len i = (7 * rank + 3 * (i / len) + i % len) % 251

-- what a rank hands in
abbrev pub src_of : Job → (rank : ℕ) → List ℕ
src_of job rank = map (handed_byte job.more rank job.len) (range_with_len 0 (src_len_of job.more rank job.nue job.len))

-- what a rank gets
abbrev pub got_by : Job → (rank : ℕ) → List ℕ
got_by job rank = pieces_for job.more job.nue job.len (src_of job) rank

-- the setup of a run: rank r on core r, with line flags, and the world alone as communicator
abbrev pub coll_setup_of : ℕ → SetupView
coll_setup_of nue = default_setup nue world_alone
