-- Who waits for whom where a run of a script has come to its end (this project's profile).
use Rattle.std.specs.Prelude.{◌≡◌, ℕ, zero, suc, ◌+◌, ◌<◌, ◌≤◌, min, not, ◌&&◌, Bool, true, false, if◌then◌else◌, List, length, map, Option, Some, None, option_and_then}
use Rattle.std.specs.List.{range_with_len}
use Rattle.std.specs.Option.{option_map_or, unwrap_or}
use Rattle.scc_base.specs.Groups.{is_with}
use Rattle.scc_base.specs.declared.calls.Call.{Call}
use Rattle.scc_base.specs.declared.calls.Call.TheVariants as call
use Rattle.script_machine.specs.declared.ends.UeEnd.{UeEnd}
use Rattle.script_machine.specs.declared.ends.UeEnd.TheVariants as ue_end
use Rattle.plain_meaning.specs.Ends.{Ended, ended_at}
use Rattle.plain_meaning.specs.HeldUp.{ended_at_barrier}
use Rattle.check_program.specs.declared.causes.Cause.{Cause}
use Rattle.check_program.specs.declared.causes.Cause.TheVariants as cause
use Rattle.check_program.specs.declared.trouble.Found.{Found}
use Rattle.check_program.specs.declared.trouble.Trouble.{Trouble}
use Rattle.check_program.specs.declared.trouble.Trouble.TheVariants as trouble

-- the first of n numbers from k on that passes a test
abbrev pub first_from : (ℕ → Bool) → ℕ → ℕ → Option ℕ
first_from test zero k = None
first_from test (suc n) k = if test k then Some k else first_from test n (k + 1)

-- a member of the group of a rank that has not come to its barrier
abbrev pub is_absent_from : (ℕ → ℕ → ℕ) → List Ended → ℕ → ℕ → ℕ → Bool
is_absent_from keys ends comm rank k = is_with (keys comm) rank k && not (ended_at_barrier comm (ended_at ends k).end)

-- the lowest of them
abbrev pub lowest_absent : (ℕ → ℕ → ℕ) → List Ended → ℕ → ℕ → Option ℕ
lowest_absent keys ends comm rank = first_from (is_absent_from keys ends comm rank) (length ends) 0

-- whom a rank waits for that stands at a call: at a send or a post the target of the message in its slot, and where its slot
-- is empty its own target; at a receive the sender; at a barrier the lowest member that has not come to it
abbrev pub waits_by_call : (ℕ → ℕ → ℕ) → List Ended → ℕ → Option ℕ → Call → Option ℕ
waits_by_call keys ends rank slot (call.Send to head) = Some (unwrap_or slot to)
waits_by_call keys ends rank slot (call.Post to head) = Some (unwrap_or slot to)
waits_by_call keys ends rank slot (call.Recv from head) = Some from
waits_by_call keys ends rank slot (call.Bar comm) = lowest_absent keys ends comm rank

-- and a rank that has finished, or refused a message, waits for nobody
abbrev pub waits_by_end : (ℕ → ℕ → ℕ) → List Ended → ℕ → Option ℕ → UeEnd → Option ℕ
waits_by_end keys ends rank slot ue_end.Finished = None
waits_by_end keys ends rank slot (ue_end.Waits line call) = waits_by_call keys ends rank slot call
waits_by_end keys ends rank slot (ue_end.Mismatch line from sent asked) = None

-- the rank that a rank waits for, if it waits
abbrev pub waits_for : (ℕ → ℕ → ℕ) → List Ended → ℕ → Option ℕ
waits_for keys ends rank = waits_by_end keys ends rank (ended_at ends rank).in_flight (ended_at ends rank).end

-- whether a rank waits
abbrev pub is_waiting : UeEnd → Bool
is_waiting ue_end.Finished = false
is_waiting (ue_end.Waits line call) = true
is_waiting (ue_end.Mismatch line from sent asked) = false

-- where n steps lead from a rank, each to the rank that is waited for; a rank that does not wait is not left
abbrev pub after_steps : (ℕ → Option ℕ) → ℕ → ℕ → ℕ
after_steps next zero rank = rank
after_steps next (suc n) rank = option_map_or (after_steps next n) (next rank) rank

-- the least of the ranks to which up to n steps lead
abbrev pub least_walked : (ℕ → Option ℕ) → ℕ → ℕ → ℕ
least_walked next zero rank = rank
least_walked next (suc n) rank = option_map_or (λ k. min rank (least_walked next n k)) (next rank) rank

-- where exactly n steps lead
abbrev pub after_exact_steps : (ℕ → Option ℕ) → ℕ → ℕ → Option ℕ
after_exact_steps next zero rank = Some rank
after_exact_steps next (suc n) rank = option_and_then (after_exact_steps next n) (next rank)

-- some steps lead from a rank to another
abbrev pub Reaches : (ℕ → Option ℕ) → ℕ → ℕ → Type 0
Reaches next rank other = (n : ℕ) × (after_exact_steps next n rank ≡ Some other)

-- a rank leads to another in n steps, where n is at most `most`
abbrev pub ReachesIn : (ℕ → Option ℕ) → ℕ → ℕ → ℕ → Type 0
ReachesIn next most rank other = (n : ℕ) × (n ≤ most) × (after_exact_steps next n rank ≡ Some other)

-- some steps, and at least one, lead from a rank back to it
abbrev pub IsInRing : (ℕ → Option ℕ) → ℕ → Type 0
IsInRing next rank = (n : ℕ) × (0 < n) × (after_exact_steps next n rank ≡ Some rank)

-- a rank that has refused a message
abbrev pub HasEndedRefusing : UeEnd → Type 0
HasEndedRefusing ue_end.Finished = ⊥
HasEndedRefusing (ue_end.Waits line call) = ⊥
HasEndedRefusing (ue_end.Mismatch line from sent asked) = Unit {0}

-- What a cause says of a rank: at most as many steps as there are ranks lead from it to a rank that has finished, to one that
-- has refused a message, or to one in a ring, from which no step leads to a lesser rank. (No step leads on from the first two,
-- and each rank has at most one step; so there is no other cause.)
abbrev pub IsCause : (ℕ → Option ℕ) → List Ended → ℕ → Cause → Type 0
IsCause next ends rank (cause.Finished k) = ReachesIn next (length ends) rank k × ((ended_at ends k).end ≡ ue_end.Finished)
IsCause next ends rank (cause.Mismatch k) = ReachesIn next (length ends) rank k × HasEndedRefusing (ended_at ends k).end
IsCause next ends rank (cause.Cycle k) =
    ReachesIn next (length ends) rank k × IsInRing next k × ((other : ℕ) → Reaches next k other → k ≤ other)

-- why a walk ends at a rank that does not wait
abbrev pub stopped_by : ℕ → UeEnd → Cause
stopped_by rank ue_end.Finished = cause.Finished rank
stopped_by rank (ue_end.Waits line call) = cause.Finished rank
stopped_by rank (ue_end.Mismatch line from sent asked) = cause.Mismatch rank

-- the cause that is found at the end of a walk: a rank that waits even there is in a cycle
abbrev pub cause_at : (ℕ → Option ℕ) → List Ended → ℕ → Option ℕ → Cause
cause_at next ends last None = stopped_by last (ended_at ends last).end
cause_at next ends last (Some k) = cause.Cycle (least_walked next (length ends) last)

-- the cause for which a rank waits: as many steps are walked as there are ranks
abbrev pub cause_of : (ℕ → Option ℕ) → List Ended → ℕ → Cause
cause_of next ends rank = let last = after_steps next (length ends) rank in cause_at next ends last (next last)

-- it waits for a rank, with a cause
abbrev pub trouble_by_waits : Cause → Option ℕ → Trouble
trouble_by_waits cause None = trouble.Finished
trouble_by_waits cause (Some k) = trouble.Waits k cause

-- what is the matter with a rank
abbrev pub trouble_by_end : (ℕ → Option ℕ) → List Ended → ℕ → UeEnd → Trouble
trouble_by_end next ends rank ue_end.Finished = trouble.Finished
trouble_by_end next ends rank (ue_end.Waits line call) = trouble_by_waits (cause_of next ends rank) (next rank)
trouble_by_end next ends rank (ue_end.Mismatch line from sent asked) = trouble.Mismatch from

-- what is the matter with a rank at the end of a run
abbrev pub trouble_of : (ℕ → ℕ → ℕ) → List Ended → ℕ → Trouble
trouble_of keys ends rank = trouble_by_end (waits_for keys ends) ends rank (ended_at ends rank).end

-- of each rank, by rank
abbrev pub found_at : (ℕ → ℕ → ℕ) → List Ended → ℕ → Found
found_at keys ends rank = record { rank = rank; trouble = trouble_of keys ends rank }

-- what is the matter with each rank, by rank
abbrev pub all_found : (ℕ → ℕ → ℕ) → List Ended → List Found
all_found keys ends = map (found_at keys ends) (range_with_len 0 (length ends))
