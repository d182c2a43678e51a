-- A test program: it reads one file, and prints how many lines end in it.
use Rattle.std.specs.Prelude.{ℕ, ◌==◌, true, if◌then◌else◌, List, [], ◌∷◌, ◌++◌, codes, decimal, filter, length, Result, Ok, Err}
use Rattle.outcomes.specs.Numbers.{is_option}
use Rattle.outcomes.specs.Outcomes.{Ran}
use Rattle.outcomes.specs.Plans.{Plan, Program}
use Rattle.outcomes.specs.Plans.Plan.{Runs, Reads}

-- the number of line feeds among the bytes
abbrev pub lines_in : List ℕ → ℕ
lines_in bytes = length (filter (λ b. b == 10) bytes)

-- the end of a count of lines: one line on out
abbrev pub count_ran : ℕ → Ran
count_ran lines = record { finished = true; out = decimal lines ++ (codes "\n" ++ []); err = [] }

-- the plan for a file's bytes: their lines are counted
abbrev pub count_bytes_plan : List ℕ → Plan
count_bytes_plan bytes = Runs (count_ran (lines_in bytes))

-- a file of at most 5,000 bytes
abbrev pub count_file_plan : List ℕ → Plan
count_file_plan file = Reads file 5000 count_bytes_plan

-- the file that the words name, if they are the name of one file
abbrev pub count_words_plan : List (List ℕ) → Result Plan (List ℕ)
count_words_plan (file ∷ []) = if is_option file then Err (codes "words refused") else Ok (count_file_plan file)
count_words_plan _ = Err (codes "words refused")

-- the program `lines`, which counts the lines of a file
abbrev pub lines : Program
lines = record { name = codes "lines"; plan = count_words_plan }
