-- What a run of `rccerun` writes (this project's profile).
use Rattle.std.specs.Prelude.{ℕ, ◌+◌, List, [], ◌∷◌, ◌++◌, map, slice_index_or, Option, Some, None}
use Rattle.script_machine.specs.declared.ends.UeEnd.{UeEnd}
use Rattle.script_machine.specs.declared.ends.UeEnd.TheVariants as ue_end
use Rattle.script_machine.specs.Printed.{Printed}
use Rattle.plain_meaning.specs.Ends.{Ended, all_finished}
use Rattle.plain_meaning.specs.Meaning.{plain_ends}
use Rattle.script_rules.specs.Script.{Script}
use Rattle.rcce_io.specs.Sending.{joined_texts}
use Rattle.outcomes.specs.Outcomes.{Ran}
use Rattle.script_gen.specs.Outcome.{script_line}
use Rattle.run_program.specs.Texts.{item_line, call_pieces, waiting_line, mismatch_line}

-- the lines of each unit of execution, by rank from `rank` on
abbrev pub lines_by_rank : (ℕ → Ended → List ℕ) → ℕ → List Ended → List ℕ
lines_by_rank text rank [] = []
lines_by_rank text rank (ue ∷ ues) = text rank ue ++ lines_by_rank text (rank + 1) ues

-- a register that a unit of execution printed
abbrev pub printed_line : List (List ℕ) → ℕ → Printed → List ℕ
printed_line names rank item = item_line rank (slice_index_or names item.reg []) item.form item.bytes

-- what a unit of execution printed, a line each, in the order of printing
abbrev pub printed_text : List (List ℕ) → ℕ → Ended → List ℕ
printed_text names rank ue = joined_texts (map (printed_line names rank) ue.printed)

-- where a unit of execution stands that has not finished
abbrev pub end_text : ℕ → UeEnd → List ℕ
end_text rank ue_end.Finished = []
end_text rank (ue_end.Waits line call) = waiting_line rank line (call_pieces call)
end_text rank (ue_end.Mismatch line from sent asked) = mismatch_line rank line from sent asked

-- the line of a unit of execution that has not finished, and nothing of one that has
abbrev pub unfinished_text : ℕ → Ended → List ℕ
unfinished_text rank ue = end_text rank ue.end

-- what the run of a script came to: whether each unit of execution finished, what they printed, and where those stand
-- that have not finished
abbrev pub ran_of : List (List ℕ) → List Ended → Ran
ran_of names ues = record {
  finished = all_finished ues;
  out = lines_by_rank (printed_text names) 0 ues;
  err = lines_by_rank unfinished_text 0 ues;
}

-- what the run of a script comes to, by its plain meaning
abbrev pub run_ran : Script → Ran
run_ran script = ran_of script.names (plain_ends script)

-- what the run of a script that was made of a number comes to: one line, of the messages that came and of what was printed
abbrev pub made_ran : ℕ → Script → Ran
made_ran seed script = record {
  finished = all_finished (plain_ends script);
  out = script_line seed script;
  err = lines_by_rank unfinished_text 0 (plain_ends script);
}

-- a script that was run, and the number that it was made of, if it was
pub record Shown : Type 0 where
  pub script : Script
  pub seed : Option ℕ

-- what the run of a script comes to, by the number that it was made of, if it was
abbrev pub ran_by : Script → Option ℕ → Ran
ran_by script None = run_ran script
ran_by script (Some seed) = made_ran seed script

-- what the run that is shown comes to
abbrev pub shown_ran : Shown → Ran
shown_ran shown = ran_by shown.script shown.seed
