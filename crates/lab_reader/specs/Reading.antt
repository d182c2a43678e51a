-- How the lines of a lab's file are parsed, one after another (this project's profile).
use Rattle.std.specs.Prelude.{ℕ, ◌+◌, ◌&&◌, nat_lt, Bool, true, false, if◌then◌else◌, List, [], ◌∷◌, ◌++◌, codes, length, Option, Some, None, Result, Ok, Err}
use Rattle.std.specs.Str.{bytes_eq}
use Rattle.texts.specs.Cuts.{is_text, lines_of, words_of}
use Rattle.texts.specs.Numbers.{is_number, number_of}
use Rattle.lab_reader.specs.declared.faults.LabKind.TheVariants as kind
use Rattle.lab_reader.specs.declared.faults.LabFault.{LabFault}
use Rattle.lab_reader.specs.declared.steps.Action.{Action}
use Rattle.lab_reader.specs.declared.steps.Step.{Step}
use Rattle.lab_reader.specs.Said.{action_said, core_said}

-- the most bytes of a lab's file: 1 MiB
abbrev pub most_lab_bytes : ℕ
most_lab_bytes = 1048576

-- a reading in progress: whether no line had words yet, and the steps so far
pub record LabReading : Type 0 where
  pub opening : Bool
  pub steps : List Step

-- chains two parts of a reading: the second runs if the first returned a value
infixl 10 ◌>=>◌
abbrev pub ◌>=>◌ : {A B : Type 0} → Result A LabFault → (A → Result B LabFault) → Result B LabFault
Ok x >=> next = next x
Err fault >=> next = Err fault

-- whether the words are `rcce lab 1`
abbrev pub says_version : List (List ℕ) → Bool
says_version (first ∷ second ∷ version ∷ []) =
    bytes_eq first (codes "rcce") && (bytes_eq second (codes "lab") && is_number (number_of version) 1)
says_version words = false

-- the reading with one more step
abbrev pub with_step : LabReading → Step → LabReading
with_step reading step = record { opening = false; steps = reading.steps ++ step ∷ [] }

-- the reading after a line, by the action that its words parse to; if they parse to none, a fault
abbrev pub lab_step_by : ℕ → List ℕ → LabReading → ℕ → Option Action → Result LabReading LabFault
lab_step_by number line reading core None = Err (record { line = number; kind = kind.BadStep })
lab_step_by number line reading core (Some act) = Ok (with_step reading (record { line = number; text = line; core = core; action = act }))

-- the reading after a line, by the core that it names and the words after it; if it names none, a fault
abbrev pub core_by : ℕ → List ℕ → LabReading → List (List ℕ) → Option ℕ → Result LabReading LabFault
core_by number line reading words None = Err (record { line = number; kind = kind.BadCore })
core_by number line reading words (Some core) = lab_step_by number line reading core (action_said core words)

-- the reading after a line that must begin with `core C`
abbrev pub step_said : ℕ → List ℕ → LabReading → List (List ℕ) → Result LabReading LabFault
step_said number line reading (word ∷ core ∷ words) =
    if bytes_eq word (codes "core") then core_by number line reading words (core_said core)
    else Err (record { line = number; kind = kind.BadCore })
step_said number line reading words = Err (record { line = number; kind = kind.BadCore })

-- the reading after a line with these words; only the first line that has words may give the version
abbrev pub words_said : ℕ → List ℕ → LabReading → List (List ℕ) → Result LabReading LabFault
words_said number line reading [] = Ok reading
words_said number line reading (word ∷ words) =
    if reading.opening && says_version (word ∷ words) then Ok (record { opening = false; steps = reading.steps })
    else step_said number line reading (word ∷ words)

-- the reading after a line
abbrev pub lab_line_said : ℕ → LabReading → List ℕ → Result LabReading LabFault
lab_line_said number reading line =
    if is_text line then words_said number line reading (words_of line) else Err (record { line = number; kind = kind.NotText })

-- the reading after lines; the first of them has the line number after `before`
abbrev pub lab_lines_said : ℕ → LabReading → List (List ℕ) → Result LabReading LabFault
lab_lines_said before reading [] = Ok reading
lab_lines_said before reading (line ∷ lines) = lab_line_said (before + 1) reading line >=> λ next. lab_lines_said (before + 1) next lines

-- the reading before the first line
abbrev pub nothing_read : LabReading
nothing_read = record { opening = true; steps = [] }

-- the steps of a lab's file, or its first fault
abbrev pub lab_of : List ℕ → Result (List Step) LabFault
lab_of bytes =
    if nat_lt most_lab_bytes (length bytes) then Err (record { line = 0; kind = kind.TooLong })
    else lab_lines_said 0 nothing_read (lines_of bytes) >=> λ reading. Ok reading.steps
