-- Logs of calls: the calls of each rank of a run, each with the bytes that it moved (this project's profile).
use Rattle.std.specs.Prelude.{◌≡◌, ◌≢◌, ℕ, ◌<◌, ◌≤◌, List, [], length, slice_index_or, All}
use Rattle.hex.specs.Hex.{IsBytes}
use Rattle.scc_base.specs.Heads.{MessageHead, IsHead, IsPostHead}
use Rattle.scc_base.specs.Calls.{DataCall, Send, Recv, Post, Bar}
use Rattle.scc_base.specs.Communicators.{AreRules, rule_of}
use Rattle.scc_base.specs.declared.communicators.CommRule.{CommRule}
use Rattle.scc_base.specs.declared.communicators.CommRule.TheVariants.{Absent}

-- the most bytes of a log's text: 64 MiB
abbrev pub most_log_bytes : ℕ
most_log_bytes = 67108864

-- the number of ranks, the rules of the sixteen communicators, and the calls of ranks 0 to 47, first call first
pub record LogView : Type 0 where
  pub nue : ℕ
  pub comms : List CommRule
  pub lists : List (List DataCall)

-- the calls of a rank, of the lists of all ranks
abbrev pub calls_at_rank : List (List DataCall) → ℕ → List DataCall
calls_at_rank lists r = slice_index_or lists r []

-- a message between rank r and another rank of the run
pub record IsMessage (nue r peer : ℕ) (head : MessageHead) (bytes : List ℕ) : Type 0 where
  pub peer_below : peer < nue
  pub other : peer ≢ r
  pub valid : IsHead head
  pub counted : length bytes ≡ head.len
  pub are_bytes : IsBytes bytes

-- a call that a rank of a log may have: its message is one, a post has a head that a post may have, and a barrier is one
-- of a communicator that has a rule
abbrev pub IsLogCall : ℕ → List CommRule → ℕ → DataCall → Type 0
IsLogCall nue comms r (Send to head bytes) = IsMessage nue r to head bytes
IsLogCall nue comms r (Recv from head bytes) = IsMessage nue r from head bytes
IsLogCall nue comms r (Post to head bytes) = IsMessage nue r to head bytes × IsPostHead head
IsLogCall nue comms r (Bar comm) = (comm < 16) × (rule_of comms comm ≢ Absent)

-- a log that can be written
pub record IsLog (log : LogView) : Type 0 where
  pub some_ranks : 1 ≤ log.nue
  pub ranks_within : log.nue ≤ 48
  pub sixteen : length log.comms ≡ 16
  pub rules : AreRules log.comms
  pub ranks : length log.lists ≡ 48
  pub no_others : (r : ℕ) → log.nue ≤ r → calls_at_rank log.lists r ≡ []
  pub calls : (r : ℕ) → All (IsLogCall log.nue log.comms r) (calls_at_rank log.lists r)
