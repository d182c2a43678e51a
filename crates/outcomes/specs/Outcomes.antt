-- How a program is to end: its status and its two texts (this project's profile).
use Rattle.std.specs.Prelude.{ℕ, Bool, if◌then◌else◌, List, [], ◌∷◌, codes, decimal}
use Rattle.rcce_io.specs.Sending.{joined_texts}
use Rattle.outcomes.specs.declared.status.Status.{Status}
use Rattle.outcomes.specs.declared.status.Status.TheVariants as status

-- how a program is to end: a status, the text for out and the text for err
pub record Outcome : Type 0 where
  pub status : Status
  pub out : List ℕ
  pub err : List ℕ

-- what a run came to: whether it finished, the text for out and the text for err
pub record Ran : Type 0 where
  pub finished : Bool
  pub out : List ℕ
  pub err : List ℕ

-- the outcome of a run: its two texts, and the status of a run that finished or is stuck
abbrev pub run_outcome : Ran → Outcome
run_outcome ran = record { status = if ran.finished then status.Finished else status.Stuck; out = ran.out; err = ran.err }

-- an outcome with this status, one line on err and nothing on out
abbrev pub complains : Status → List (List ℕ) → Outcome
complains status texts = record { status = status; out = []; err = joined_texts texts }

-- the outcome of refused words, with the text that refuses them
abbrev pub words_refused : List ℕ → List ℕ → Outcome
words_refused program text = complains status.Words (program ∷ codes ": " ∷ text ∷ codes "\n" ∷ [])

-- the outcome where a file is refused, for a line and a kind of fault
abbrev pub file_refused : List ℕ → List ℕ → ℕ → List ℕ → Outcome
file_refused program file line kind =
    complains status.Script (program ∷ codes ": " ∷ file ∷ codes " line " ∷ decimal line ∷ codes ": " ∷ kind ∷ codes "\n" ∷ [])

-- the outcome where a file is longer than its limit
abbrev pub too_long : List ℕ → List ℕ → Outcome
too_long program file = file_refused program file 0 (codes "TooLong")

-- the outcome where memory is wanting: its status, and a line on err
abbrev pub no_memory : List ℕ → Outcome
no_memory program = complains status.Memory (program ∷ codes ": no memory\n" ∷ [])

-- the outcome where a file is absent
abbrev pub absent : List ℕ → List ℕ → Outcome
absent program file = complains status.Files (program ∷ codes ": " ∷ file ∷ codes ": absent\n" ∷ [])

-- the outcome where a file could not be read
abbrev pub read_fault : List ℕ → List ℕ → Outcome
read_fault program file = complains status.Files (program ∷ codes ": " ∷ file ∷ codes ": read fault\n" ∷ [])
