-- What UEs have counted of the messages that they sent (this project's profile).
use Rattle.std.specs.Prelude.{◌≡◌, ◌≤◌, ℕ, ◌*◌, sum_by}
use Rattle.std.specs.List.{count_by}
use Rattle.scc_proto.specs.Stages.{Record}
use Rattle.script_rules.specs.Script.{Script}
use Rattle.script_machine.specs.Local.{most_steps_left, local_start}
use Rattle.rcce_ue.specs.Standing.{bytes_sent}
use Rattle.rcce_ue.specs.Ues.{UeView, capped_count, is_send_call}
use Rattle.scc_base.specs.Heads.{most_message}

-- a UE has counted the sends and posts among the finished calls of its rank's record, and their bytes: they are no more than
-- the rank takes steps, and each has at most as many bytes as a message may have
pub record CountsSends (script : Script) (rank : ℕ) (rec : Record) (ue : UeView) : Type 0 where
  pub sent : ue.sent ≡ capped_count (count_by is_send_call rec.calls)
  pub bytes : ue.sent_bytes ≡ capped_count (sum_by bytes_sent rec.calls)
  pub few : count_by is_send_call rec.calls ≤ most_steps_left (local_start script rank)
  pub short : sum_by bytes_sent rec.calls ≤ most_message * count_by is_send_call rec.calls
