-- Programs: what their words ask for, and how they are to end (this project's profile).
use Rattle.std.specs.Prelude.{ℕ, nat_lt, if◌then◌else◌, List, length, Option, Some, None, Result, Ok, Err}
use Rattle.rcce_io.specs.Files.{NamedFile, contents_of}
use Rattle.outcomes.specs.Outcomes.{Outcome, Ran, run_outcome, words_refused, file_refused, too_long, absent}

-- What a program does on accepted words. A plan cannot refuse words, print before it runs, or come to want of memory, a
-- fault of the files or a failed write.
pub data Plan : Type 0 where
  -- it runs, and comes to this
  Runs : Ran → Plan
  -- it refuses a file, for a line and a kind of fault
  Refuses : List ℕ → ℕ → List ℕ → Plan
  -- it reads a file of at most n bytes, and goes on with them
  Reads : List ℕ → ℕ → (List ℕ → Plan) → Plan

-- a name, and for each list of words a plan, or the text that refuses them
pub record Program : Type 0 where
  pub name : List ℕ
  pub plan : List (List ℕ) → Result Plan (List ℕ)

-- what comes of a file's contents, if there is one
abbrev pub contents_outcome : List ℕ → List ℕ → ℕ → (List ℕ → Outcome) → Option (List ℕ) → Outcome
contents_outcome program file limit next None = absent program file
contents_outcome program file limit next (Some bytes) = if nat_lt limit (length bytes) then too_long program file else next bytes

-- how a plan is to end, where these are the files
abbrev pub plan_outcome : List ℕ → Plan → List NamedFile → Outcome
plan_outcome program (Runs ran) files = run_outcome ran
plan_outcome program (Refuses file line kind) files = file_refused program file line kind
plan_outcome program (Reads file limit next) files =
    contents_outcome program file limit (λ bytes. plan_outcome program (next bytes) files) (contents_of file files)

-- how the plan of words, or their refusal, is to end
abbrev pub words_outcome : List ℕ → Result Plan (List ℕ) → List NamedFile → Outcome
words_outcome program (Err text) files = words_refused program text
words_outcome program (Ok plan) files = plan_outcome program plan files

-- how a program is to end on these words, where these are the files
abbrev pub expected_outcome : Program → List (List ℕ) → List NamedFile → Outcome
expected_outcome program words files = words_outcome program.name (program.plan words) files
