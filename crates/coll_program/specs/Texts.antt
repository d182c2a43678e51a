-- The lines of `rccecoll` (this project's profile).
use Rattle.std.specs.Prelude.{ℕ, List, [], ◌∷◌, ◌++◌, codes, decimal, map}
use Rattle.std.specs.List.{range_with_len}
use Rattle.rcce_io.specs.Digits.{hex_text}
use Rattle.rcce_io.specs.Sending.{joined_texts}
use Rattle.coll_more.specs.declared.kinds.More.{More}
use Rattle.coll_more.specs.declared.kinds.More.TheVariants.{Gather, Scatter, Allgather, Alltoall}
use Rattle.coll_program.specs.Jobs.{got_by}
use Rattle.coll_program.specs.declared.command.Job.{Job}

-- the word of a call
abbrev pub more_word : More → List ℕ
more_word Gather = codes "gather"
more_word Scatter = codes "scatter"
more_word Allgather = codes "allgather"
more_word Alltoall = codes "alltoall"

-- the front of a line: the rank and the call
abbrev pub line_front : More → (rank : ℕ) → List ℕ
line_front more rank = joined_texts (codes "ue " ∷ decimal rank ∷ codes " " ∷ more_word more ∷ codes " " ∷ [])

-- the line of a rank that has got these bytes
abbrev pub got_line : More → (rank : ℕ) → List ℕ → List ℕ
got_line more rank bytes = line_front more rank ++ (hex_text bytes ++ codes "\n")

-- how many ranks have a line: all of them, and of a gather the root alone
abbrev pub shown_of : More → ℕ → ℕ
shown_of Gather nue = 1
shown_of more nue = nue

-- the lines of the ranks that have one, where each has got these bytes
abbrev pub lines_by : More → (nue : ℕ) → (ℕ → List ℕ) → List ℕ
lines_by more nue got = joined_texts (map (λ rank. got_line more rank (got rank)) (range_with_len 0 (shown_of more nue)))

-- the lines of a job
abbrev pub job_text : Job → List ℕ
job_text job = lines_by job.more job.nue (got_by job)
