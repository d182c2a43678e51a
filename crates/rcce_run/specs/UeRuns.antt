-- A run of UEs: where it begins, and what it leaves (this project's profile).
use Rattle.std.specs.Prelude.{◌≡◌, ℕ, ◌<◌, ◌≤◌, false, List, [], length, map, Option, None, Some, slice_get, slice_index_or, option_map, option_and_then}
use Rattle.std.specs.List.{enumerate_from}
use Rattle.scc_base.specs.Calls.{DataCall, call_of}
use Rattle.scc_base.specs.Setups.{SetupView, setup_key}
use Rattle.scc_proto.specs.Legality.{IsLegal}
use Rattle.scc_proto.specs.Messages.{barriers_of}
use Rattle.scc_proto.specs.PairMessages.{PairMessages}
use Rattle.scc_proto.specs.Passed.{open_call, passed_calls, slot_of}
use Rattle.scc_proto.specs.Ports.{Sight}
use Rattle.scc_proto.specs.Stages.{Record}
use Rattle.scc_mesh.specs.Scenes.{ChipView, IsWhole, about_in, events_in, records_in, table_in}
use Rattle.script_rules.specs.Script.{Script}
use Rattle.script_machine.specs.declared.ends.UeEnd.TheVariants as ue_end
use Rattle.script_machine.specs.declared.posts.Posted.{Posted}
use Rattle.plain_meaning.specs.Collectives.{CollectivesHold}
use Rattle.plain_meaning.specs.Ends.{Ended, ended_at}
use Rattle.script_machine.specs.Local.{end_of, local_next, local_start}
use Rattle.script_machine.specs.Machine.{in_flight}
use Rattle.plain_meaning.specs.Meaning.{State, next_of, plain_end, plain_ends}
use Rattle.script_machine.specs.Next as next
use Rattle.plain_meaning.specs.Step.{Configuration}
use Rattle.rcce_ue.specs.Standing.{Tied}
use Rattle.rcce_ue.specs.Ues.{UeView, in_slot}
use Rattle.chip_run.specs.declared.ends.RunEnd.{RunEnd}
use Rattle.chip_run.specs.declared.members.Member.{Member}
use Rattle.chip_run.specs.Away.{behaviour_of_members}
use Rattle.chip_run.specs.Behaves.{Behaviour}
use Rattle.rcce_run.specs.Crews.{EndsAs}
use Rattle.rcce_run.specs.Sent.{CountsSends}
use Rattle.rcce_ue.specs.Workers.{ue_behaviour}
use Rattle.rcce_run.specs.Ues.{state_of}

-- a UE before its first turn: it holds what the script starts its rank with, and fits every port of its rank without events
pub record IsFreshUe (script : Script) (s : SetupView) (rank : ℕ) (ue : UeView) : Type 0 where
  pub machine : ue.machine ≡ record { script = script; setup = s; rank = rank; local = local_start script rank }
  pub tied : (sight : Sight) → sight.seat.setup ≡ s → sight.seat.rank ≡ rank → sight.events ≡ [] → Tied ue sight

-- a member with a UE of this rank before its first turn, and with no token
pub record IsFreshUeMember (script : Script) (s : SetupView) (rank : ℕ) (member : Member UeView) : Type 0 where
  pub fresh : IsFreshUe script s rank member.worker
  pub home : member.token ≡ None

-- the first n ranks have each a member before its first turn, with no token
pub record AreFresh (script : Script) (s : SetupView) (n : ℕ) (crew : List (Member UeView)) : Type 0 where
  pub count : length crew ≡ n
  pub each : (rank : ℕ) (d : Member UeView) → rank < n → IsFreshUeMember script s rank (slice_index_or crew rank d)

-- a chip that is open without events, all its ranks at home, and for each rank such a member, of this script and with the
-- chip's setup
pub record IsFreshCrew (script : Script) (chip : ChipView) (crew : List (Member UeView)) : Type 0 where
  pub whole : IsWhole chip
  pub empty : (r : ℕ) → r < (about_in chip).nue → events_in chip r ≡ []
  pub members : AreFresh script (about_in chip) (about_in chip).nue crew

-- the UE of a member
abbrev pub member_ue : Member UeView → UeView
member_ue m = m.worker

-- how members with UEs conduct themselves in a run
abbrev pub ue_members : Behaviour (Member UeView)
ue_members = behaviour_of_members ue_behaviour

-- a chip is the same as before, with the same setup, and all its ranks are at home
pub record IsSameChip (old now : ChipView) : Type 0 where
  pub about : about_in now ≡ about_in old
  pub table : table_in now ≡ table_in old
  pub whole : IsWhole now

-- there are as many members as before, each with an empty place for its rank's token
pub record AreHome (old now : List (Member UeView)) : Type 0 where
  pub count : length now ≡ length old
  pub empty : (k : ℕ) (d : Member UeView) → k < length now → (slice_index_or now k d).token ≡ None

-- a UE shows what its rank leaves behind: it can be asked for its end, and then tells this end, whatever message it posted
-- last, and it has printed these items
pub record ShowsEnd (ended : Ended) (ue : UeView) : Type 0 where
  pub pausing : next.is_going (local_next ue.machine.local) ≡ false
  pub last : Option Posted
  pub posted : ue.posted ≡ option_map in_flight last
  pub end : end_of (in_slot ue.slot last) ue.machine.local ≡ ended.end
  pub printed : ue.machine.local.printed ≡ ended.printed

-- the finished calls of a record, with their bytes, are those that the plain meaning has done for the rank, in order
abbrev pub HasPlainCalls : Script → ℕ → Record → Type 0
HasPlainCalls script k rec = option_map (λ (u : State). u.matched) (slice_get (plain_end script).cells k) ≡ Some rec.calls

-- the call that is open in a record stands next at the rank at the plain end, which leaves it waiting there
pub record WaitsOpen (script : Script) (k : ℕ) (call : DataCall) : Type 0 where
  pub stands : option_and_then (λ (u : State). next.call_next (next_of u)) (slice_get (plain_end script).cells k) ≡ Some (call_of call)
  pub line : ℕ
  pub waits : (ended_at (plain_ends script) k).end ≡ ue_end.Waits line (call_of call)

-- the calls of a chip are legal: the passed calls of all ranks can be used up, each send with its receive, each post with its
-- receive or as what its slot holds, and each barrier with those of its group; of each pair of ranks, one has received what
-- the other sent, whole, once and in order, but for one message that is open or on its way; and no rank has finished more
-- barriers of a communicator than each member of its group has entered
pub record AreLegal (chip : ChipView) : Type 0 where
  pub calls : IsLegal (about_in chip).nue (setup_key (about_in chip))
      (passed_calls (about_in chip) (records_in chip)) (slot_of (about_in chip) (records_in chip))
  pub messages : (from to : ℕ) → from < (about_in chip).nue → PairMessages (about_in chip) from to (records_in chip)
  pub barriers : (comm r k : ℕ) → r < (about_in chip).nue → k < (about_in chip).nue
      → setup_key (about_in chip) comm r ≡ setup_key (about_in chip) comm k
      → barriers_of comm (records_in chip r).calls ≤ (records_in chip k).flips comm

-- what a UE shows of its rank's state: what it holds, with the finished calls of the rank's record
abbrev pub state_shown : ChipView → ℕ × Member UeView → State
state_shown chip member = state_of member.1.worker.machine.local (records_in chip member.0)

-- the states that UEs show, rank by rank, with these messages in the slots
abbrev pub shown_states : ChipView → List (Member UeView) → List (Option Posted) → Configuration State
shown_states chip crew slots = record { cells = map (state_shown chip) (enumerate_from 0 crew); slots = slots }

-- What a run of a script gives.
pub record RunGives (script : Script) (end : RunEnd) (chip : ChipView) (crew : List (Member UeView)) : Type 0 where
  -- it answers Finished where every rank finishes in the plain meaning of the script, and Stuck where one does not
  pub answer : EndsAs end script
  -- each UE shows the end of its rank in the plain meaning, and has printed what the rank prints there
  pub ends : (k : ℕ) (d : Member UeView) → k < script.nue → ShowsEnd (ended_at (plain_ends script) k) (slice_index_or crew k d).worker
  -- the finished calls of each rank are those that the plain meaning has done for it, with their bytes and in order
  pub calls : (k : ℕ) → k < script.nue → HasPlainCalls script k (records_in chip k)
  -- each UE has counted the messages that its rank's finished calls sent, and their bytes
  pub sent : (k : ℕ) (d : Member UeView) → k < script.nue → CountsSends script k (records_in chip k) (slice_index_or crew k d).worker
  -- a call that a rank has open is the one at which the plain meaning leaves it waiting. None is open where the rank waits
  -- for its posted message at its end
  pub opened : (k : ℕ) (call : DataCall) → k < script.nue → open_call (about_in chip) (records_in chip k) ≡ Some call
      → WaitsOpen script k call
  -- in the states that the UEs show, each broadcast that a rank has done gave it the bytes that the root sent, and each
  -- reduction the fold of what the members gave, whatever messages stand in the slots
  pub collectives : (slots : List (Option Posted)) → CollectivesHold script (shown_states chip crew slots)
