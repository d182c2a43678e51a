-- A sweep in which no UE of a script moves.
use Rattle.std.specs.Prelude.{◌≡◌, ℕ, ◌<◌, Option, Some}
use Rattle.scc_base.specs.Calls.{DataCall, call_of}
use Rattle.scc_base.specs.Setups.{SetupView}
use Rattle.scc_proto.specs.Passed.{open_call}
use Rattle.scc_proto.specs.Stages.{Record}
use Rattle.scc_proto.specs.Words.{Memory}
use Rattle.script_rules.specs.Script.{Script, rules_of}
use Rattle.script_machine.specs.declared.posts.Posted.{Posted}
use Rattle.plain_meaning.specs.Collectives.{start_of_rank}
use Rattle.plain_meaning.specs.Meaning.{State, next_of}
use Rattle.script_machine.specs.Next as next
use Rattle.rcce_run.specs.Sweep.{Swept}

-- the setup is that of the script, the ranks started where the script starts them, and a sweep found every one waiting
pub record IsSwept (script : Script) (s : SetupView) (memory : Memory) (records : ℕ → Record) (states : ℕ → State)
    (lasts : ℕ → Option Posted) : Type 0 where
  pub ranks : s.nue ≡ script.nue
  pub comms : s.comms ≡ rules_of script.items
  pub swept : Swept next_of s memory records (start_of_rank script) states lasts

-- a call that is open in a rank's record is the one that stands next there
abbrev pub IsOpenCall : SetupView → (ℕ → Record) → (ℕ → State) → Type 0
IsOpenCall s records states =
    (k : ℕ) → k < s.nue → (call : DataCall) → open_call s (records k) ≡ Some call
    → next.call_next (next_of (states k)) ≡ Some (call_of call)
