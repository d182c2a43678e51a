-- What the words after the program's name ask for, and what was made.
use Rattle.std.specs.Prelude.{◌≡◌, ℕ, Bool, false, ◌&&◌, ◌^◌, if◌then◌else◌, nat_lt, List, [], ◌∷◌, codes, Option, Some, None, option_map, option_and_then}
use Rattle.std.specs.List.{list_all}
use Rattle.std.specs.Str.{bytes_eq}
use Rattle.std.specs.Str.Parse.{digits_value, without_leading_plus}
use Rattle.std.specs.Char.{digit_value}
use Rattle.steps_program.specs.declared.jobs.Case.{Case}
use Rattle.steps_program.specs.declared.jobs.Job.{Job}
use Rattle.steps_program.specs.declared.jobs.Made.{Made}
use Rattle.steps_program.specs.declared.jobs.Made.TheVariants.{OnTable, AtHome, Away}
use Rattle.steps_program.specs.declared.jobs.Way.{Way}
use Rattle.steps_program.specs.declared.jobs.Way.TheVariants.{Table, Port, Seat}
use Rattle.steps_program.specs.declared.accesses.Kind.{Kind}
use Rattle.steps_program.specs.declared.accesses.Kind.TheVariants.{Loads, Stores}
use Rattle.steps_program.specs.Steps.{HasMade, HasMadeAway}

-- a case: the target of the accesses, and their kind
abbrev pub case : Way → Kind → Option Case
case way kind = Some (record { way = way; kind = kind })

-- the case that the word KIND names: the target of the accesses, and their kind
abbrev pub case_of : List ℕ → Option Case
case_of word =
    if bytes_eq word (codes "table-load") then case Table Loads
    else if bytes_eq word (codes "table-store") then case Table Stores
    else if bytes_eq word (codes "port-load") then case Port Loads
    else if bytes_eq word (codes "port-store") then case Port Stores
    else if bytes_eq word (codes "seat-load") then case Seat Loads
    else if bytes_eq word (codes "seat-store") then case Seat Stores
    else None

-- whether a character is a decimal digit
abbrev pub is_digit : ℕ → Bool
is_digit c = nat_lt (digit_value c) 10

-- one decimal digit or more, and nothing else
abbrev pub is_numeral : List ℕ → Bool
is_numeral [] = false
is_numeral (c ∷ cs) = is_digit c && list_all is_digit cs

-- the number that these digits write, if it is below 2 to the 32
abbrev pub number_of_digits : List ℕ → Option ℕ
number_of_digits digits = if is_numeral digits && nat_lt (digits_value 10 digits) (2 ^ 32) then Some (digits_value 10 digits) else None

-- the number that the word COUNT writes in decimal, with or without a plus
abbrev pub count_number : List ℕ → Option ℕ
count_number word = number_of_digits (without_leading_plus word)

-- the job that the words KIND COUNT ask for
abbrev pub steps_job_of : List (List ℕ) → Option Job
steps_job_of (kind ∷ count ∷ []) =
    option_and_then (λ case. option_map (λ n. record { case = case; count = n }) (count_number count)) (case_of kind)
steps_job_of _ = None

-- the result has the requested way, and rank 0 made the accesses if the way is a chip; about a bare table nothing is claimed
abbrev pub HasMadeAt : Way → Kind → ℕ → Made → Type 0
HasMadeAt Table kind count made = made ≡ OnTable
HasMadeAt Port kind count (AtHome chip) = HasMade chip kind count
HasMadeAt Port kind count OnTable = ⊥
HasMadeAt Port kind count (Away chip token) = ⊥
HasMadeAt Seat kind count (Away chip token) = HasMadeAway chip token kind count
HasMadeAt Seat kind count OnTable = ⊥
HasMadeAt Seat kind count (AtHome chip) = ⊥

-- the accesses of a job were made
abbrev pub HasMadeBy : Job → Made → Type 0
HasMadeBy job made = HasMadeAt job.case.way job.case.kind job.count made
