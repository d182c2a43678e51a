-- Which outcomes a plan can come to, on files that may fail or tell nothing (this project's profile).
use Rattle.std.specs.Prelude.{◌≡◌, ◌⊎◌, ◌≤◌, ℕ, nat_lt, Bool, true, false, List, length, Option, Some, IfSome, Result, Ok, Err}
use Rattle.rcce_io.specs.declared.reading.ReadEnd.{ReadEnd}
use Rattle.rcce_io.specs.declared.reading.ReadEnd.TheVariants as ends
use Rattle.rcce_io.specs.Files.{FilesView, NamedFile, contents_of}
use Rattle.rcce_io.specs.Reading.{ReadsAll}
use Rattle.outcomes.specs.Outcomes.{Outcome, run_outcome, words_refused, file_refused, too_long, no_memory, absent, read_fault}
use Rattle.outcomes.specs.Plans.{Plan}
use Rattle.outcomes.specs.Plans.Plan.{Runs, Refuses, Reads}

-- the first fact where a test is true, the second where it is false
abbrev pub ByTest : Bool → Type 0 → Type 0 → Type 0
ByTest true first second = first
ByTest false first second = second

-- what the answer of a reading leads to: the outcome that it stands for, with no further call on the files, or what the
-- bytes lead to. Eight parameters: the names of the program and the file, for the texts, the most bytes that are read, what
-- the bytes lead to, the files and the outcome that it came to, and the answer.
abbrev pub LeadsOn : List ℕ → List ℕ → ℕ → (List ℕ → Type 0) → FilesView → FilesView → Outcome → Result (List ℕ) ReadEnd → Type 0
LeadsOn program file limit on between after o (Ok bytes) =
    ByTest (nat_lt limit (length bytes)) ((after ≡ between) × (o ≡ too_long program file)) (on bytes)
LeadsOn program file limit on between after o (Err ends.Absent) = (after ≡ between) × (o ≡ absent program file)
LeadsOn program file limit on between after o (Err ends.Failed) = (after ≡ between) × (o ≡ read_fault program file)
LeadsOn program file limit on between after o (Err ends.Memory) = (after ≡ between) × (o ≡ no_memory program)

-- one reading, and then what its answer leads to. Seven parameters: those of `LeadsOn` without the answer, which the reading
-- gives.
abbrev pub ReadsOn : List ℕ → List ℕ → ℕ → (FilesView → List ℕ → Type 0) → FilesView → FilesView → Outcome → Type 0
ReadsOn program file limit on before after o = (between : FilesView) × (answer : Result (List ℕ) ReadEnd)
    × ReadsAll file limit before between answer × LeadsOn program file limit (on between) between after o answer

-- The plan, carried out, came to this outcome and left the files so. Want of memory may stand for a run and for a refusal.
abbrev pub Comes : List ℕ → Plan → FilesView → FilesView → Outcome → Type 0
Comes program (Runs ran) before after o = (after ≡ before) × ((o ≡ run_outcome ran) ⊎ (o ≡ no_memory program))
Comes program (Refuses file line kind) before after o =
    (after ≡ before) × ((o ≡ file_refused program file line kind) ⊎ (o ≡ no_memory program))
Comes program (Reads file limit next) before after o =
    ReadsOn program file limit (λ between bytes. Comes program (next bytes) between after o) before after o

-- the outcome of words: where they are refused, no call was made on the files
abbrev pub IsMeant : List ℕ → Result Plan (List ℕ) → FilesView → FilesView → Outcome → Type 0
IsMeant program (Err text) before after o = (after ≡ before) × (o ≡ words_refused program text)
IsMeant program (Ok plan) before after o = Comes program plan before after o

-- the file has these bytes, where files are told
abbrev pub FileHolds : Option (List NamedFile) → List ℕ → List ℕ → Type 0
FileHolds told file bytes = IfSome told (λ files. contents_of file files ≡ Some bytes)

-- the plan comes to reading the file, and before it to files that it read with their contents
abbrev pub Asks : Plan → Option (List NamedFile) → List ℕ → Type 0
Asks (Runs ran) told file = ⊥
Asks (Refuses name line kind) told file = ⊥
Asks (Reads name limit next) told file =
    (file ≡ name) ⊎ ((bytes : List ℕ) × (length bytes ≤ limit) × FileHolds told name bytes × Asks (next bytes) told file)

-- the words ask for the file
abbrev pub IsAsked : Result Plan (List ℕ) → Option (List NamedFile) → List ℕ → Type 0
IsAsked (Err text) told file = ⊥
IsAsked (Ok plan) told file = Asks plan told file
