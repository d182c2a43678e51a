-- The result of a run.
use Rattle.std.specs.Prelude.{ℕ, Bool, true, false, List, length, map, Option, None, slice_index_or}
use Rattle.std.specs.List.{list_all, range_with_len}
use Rattle.std.specs.Option.{option_map}
use Rattle.script_machine.specs.declared.ends.UeEnd.{UeEnd}
use Rattle.script_machine.specs.declared.ends.UeEnd.TheVariants as ue_end
use Rattle.script_machine.specs.declared.posts.Posted.{Posted}
use Rattle.script_machine.specs.Printed.{Printed}
use Rattle.script_machine.specs.Local.{Local, end_of, local_at, nobody}

-- the result of a rank's run: how it ended, the items that it printed, and the target of its posted message that was not taken
pub record Ended : Type 0 where
  pub end : UeEnd
  pub printed : List Printed
  pub in_flight : Option ℕ

-- the result of a rank's run: how its program ended, what it printed, and for whom its slot holds a message
abbrev pub end_of_rank : Option Posted → Local → Ended
end_of_rank slot u = record { end = end_of slot u; printed = u.printed; in_flight = option_map (λ message. message.to) slot }

-- the result of no rank, as a default
abbrev pub nothing_ended : Ended
nothing_ended = end_of_rank None nobody

-- the results of ranks in these states, with these messages in their slots
abbrev pub ends_of : List Local → List (Option Posted) → List Ended
ends_of cells slots = map (λ rank. end_of_rank (slice_index_or slots rank None) (local_at cells rank)) (range_with_len 0 (length cells))

-- a rank has finished
abbrev pub is_rank_finished : UeEnd → Bool
is_rank_finished ue_end.Finished = true
is_rank_finished (ue_end.Waits line call) = false
is_rank_finished (ue_end.Mismatch line from sent asked) = false

-- each rank has finished
abbrev pub all_finished : List Ended → Bool
all_finished ends = list_all (λ ended. is_rank_finished ended.end) ends

-- the result of a rank's run, by the rank's number
abbrev pub ended_at : List Ended → ℕ → Ended
ended_at ends rank = slice_index_or ends rank nothing_ended
