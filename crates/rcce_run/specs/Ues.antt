-- UEs against the script that they run (RCCE specification 2.0: UE; the run is this project's profile).
use Rattle.std.specs.Prelude.{◌≡◌, ℕ, List, Option}
use Rattle.scc_base.specs.Setups.{SetupView}
use Rattle.scc_base.specs.declared.events.Event.{Event}
use Rattle.scc_proto.specs.Records.{record_of}
use Rattle.scc_proto.specs.Stages.{Record}
use Rattle.script_rules.specs.Script.{rules_of}
use Rattle.script_machine.specs.declared.posts.Posted.{Posted}
use Rattle.plain_meaning.specs.Collectives.{start_of_rank}
use Rattle.script_machine.specs.Local.{Local}
use Rattle.plain_meaning.specs.Meaning.{State, next_of}
use Rattle.rcce_ue.specs.Ues.{UeView}
use Rattle.rcce_run.specs.Sweep.{IsStateOfRecord}

-- what a rank holds, with the calls that its record has finished
abbrev pub state_of : Local → Record → State
state_of u rec = record { local = u; matched = rec.calls }

-- a UE against the events of its rank: the setup is that of its script, and its state fits the record
pub record FitsRecord (ue : UeView) (s : SetupView) (rank : ℕ) (events : List Event) : Type 0 where
  pub ranks : s.nue ≡ ue.machine.script.nue
  pub comms : s.comms ≡ rules_of ue.machine.script.items
  pub last : Option Posted
  pub stood : IsStateOfRecord next_of s rank (start_of_rank ue.machine.script rank) (record_of s rank events)
      (state_of ue.machine.local (record_of s rank events)) last
