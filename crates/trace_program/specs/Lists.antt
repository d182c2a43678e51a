-- The finished calls of all ranks of a chip, and the line of an event in a trace (this project's profile).
use Rattle.std.specs.Prelude.{ℕ, ◌+◌, Bool, true, false, List, map}
use Rattle.std.specs.List.{range_with_len}
use Rattle.scc_base.specs.Calls.{DataCall}
use Rattle.scc_base.specs.Communicators.{rule_of}
use Rattle.scc_base.specs.Groups.{count_below}
use Rattle.scc_base.specs.Setups.{SetupView}
use Rattle.scc_base.specs.declared.communicators.CommRule.{CommRule}
use Rattle.scc_base.specs.declared.communicators.CommRule.TheVariants.{Absent, World, Mod, Div}
use Rattle.trace_judge.specs.Judged.{Judged}

-- the calls that the ranks 0 to 47 have finished, by their records
unfoldable pub finished_calls : Judged → List (List DataCall)
finished_calls j = map (λ r. (j.records r).calls) (range_with_len 0 48)

-- whether a communicator is a split
abbrev pub is_split : CommRule → Bool
is_split Absent = false
is_split World = false
is_split (Mod parent k) = true
is_split (Div parent k) = true

-- the line of the first event: behind the first line and the communicators that are splits
abbrev pub first_event_line : SetupView → ℕ
first_event_line s = 2 + count_below (λ comm. is_split (rule_of s.comms comm)) 16
