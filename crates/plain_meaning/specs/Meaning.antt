-- The plain meaning of scripts: how their ranks run when sends meet receives (RCCE specification 2.0), without a chip.
use Rattle.std.specs.Prelude.{ℕ, List, [], ◌∷◌, ◌++◌, Option, None, map, replicate, sum_by}
use Rattle.std.specs.List.{range_with_len}
use Rattle.scc_base.specs.Calls.{DataCall}
use Rattle.scc_base.specs.Calls.DataCall.{Send, Recv, Post, Bar}
use Rattle.scc_base.specs.Communicators.{key_of}
use Rattle.script_rules.specs.Script.{Script, rules_of}
use Rattle.plain_meaning.specs.Ends.{Ended, ends_of}
use Rattle.script_machine.specs.Local.{Local, local_start, local_next, most_steps_left}
use Rattle.script_machine.specs.Next.{Next}
use Rattle.script_machine.specs.Next.Next.{Ends, Goes, Posts, Sends, Recvs, Bars}
use Rattle.plain_meaning.specs.Step.{Configuration, IsStepOf, lowest_step, run_on}

-- a rank with the calls that it has done so far, in order and with their bytes
pub record State : Type 0 where
  pub local : Local
  pub matched : List DataCall

-- a rank's next action, with the call added to the calls done in the state after it; a refused receive adds none
abbrev pub next_with_calls : List DataCall → Next Local → Next State
next_with_calls calls Ends = Ends
next_with_calls calls (Goes after) = Goes (record { local = after; matched = calls })
next_with_calls calls (Posts message after) =
    Posts message (record { local = after; matched = calls ++ Post message.to message.head message.bytes ∷ [] })
next_with_calls calls (Sends to head bytes after) =
    Sends to head bytes (record { local = after; matched = calls ++ Send to head bytes ∷ [] })
next_with_calls calls (Recvs from head take refuse) =
    Recvs from head
    (λ bytes. record { local = take bytes; matched = calls ++ Recv from head bytes ∷ [] })
    (λ sent. record { local = refuse sent; matched = calls })
next_with_calls calls (Bars comm after) = Bars comm (record { local = after; matched = calls ++ Bar comm ∷ [] })

-- a rank's next action, with the calls done so far
abbrev pub next_of : State → Next State
next_of u = next_with_calls u.matched (local_next u.local)

-- the key of each rank in each communicator: ranks with equal keys are one group
abbrev pub keys_of : Script → ℕ → ℕ → ℕ
keys_of script = key_of (rules_of script.items)

-- the plain step: the enabled one with the lowest owner
abbrev pub plain_step : (ℕ → ℕ → ℕ) → Configuration State → Option (Configuration State)
plain_step keys c = lowest_step keys next_of c

-- the start: no call is done, and all slots are empty
abbrev pub start_of : Script → Configuration State
start_of script =
    record {
      cells = map (λ rank. record { local = local_start script rank; matched = [] }) (range_with_len 0 script.nue);
      slots = replicate script.nue None;
    }

-- how many steps are left at most: each step uses up a primitive or stops a rank
abbrev pub steps_left : Configuration State → ℕ
steps_left c = sum_by (λ u. most_steps_left u.local) c.cells

-- the end: from the start, the enabled step with the lowest owner is taken until none is enabled
abbrev pub plain_end : Script → Configuration State
plain_end script = run_on (keys_of script) next_of (steps_left (start_of script)) (start_of script)

-- what the ranks hold, without the calls done
abbrev pub locals_of : Configuration State → List Local
locals_of c = map (λ u. u.local) c.cells

-- the configuration, without the calls done
abbrev pub seen_of : Configuration State → Configuration Local
seen_of c = record { cells = locals_of c; slots = c.slots }

-- a plain step whose owner is this rank
abbrev pub IsPlainStep : (ℕ → ℕ → ℕ) → ℕ → Configuration State → Configuration State → Type 0
IsPlainStep keys = IsStepOf keys next_of

-- the results of the ranks in a configuration
abbrev pub ends_at : Configuration Local → List Ended
ends_at c = ends_of c.cells c.slots

-- the results of a script's ranks at the end
abbrev pub plain_ends : Script → List Ended
plain_ends script = ends_at (seen_of (plain_end script))
