-- The grammar of the words behind the launcher's name (this project's profile of `rccerun`).
use Rattle.std.specs.Prelude.{◌≤◌, ℕ, ◌+◌, ◌||◌, Bool, true, false, if◌then◌else◌, List, [], ◌∷◌, codes, Option, Some, None, is_some, IfSome, Result, Ok, Err, ⊤}
use Rattle.std.specs.Option.{ok_or}
use Rattle.std.specs.Str.{bytes_eq}
use Rattle.outcomes.specs.Numbers.{is_option}
use Rattle.texts.specs.Numbers.{number_in}
use Rattle.script_reader.specs.Faults.{◌>>=◌}
use Rattle.rcce_words.specs.declared.command.Job.{Job}
use Rattle.rcce_words.specs.declared.command.Work.{Work}
use Rattle.rcce_words.specs.declared.command.Work.TheVariants as work
use Rattle.rcce_words.specs.declared.command.WordFault.{WordFault}
use Rattle.rcce_words.specs.declared.command.WordFault.TheVariants as fault
use Rattle.rcce_words.specs.declared.flags.Flag.{Flag}
use Rattle.rcce_words.specs.declared.flags.Flag.TheVariants as flag
use Rattle.rcce_words.specs.declared.said.Said.{Said}

-- the option that a word names
abbrev pub option_named : List ℕ → Option Flag
option_named word =
    if bytes_eq word (codes "-nue") then Some flag.Nue
    else if bytes_eq word (codes "-f") then Some flag.Hosts
    else if bytes_eq word (codes "-evict") then Some flag.Evict
    else if bytes_eq word (codes "-serial") then Some flag.Serial
    else if bytes_eq word (codes "-bits") then Some flag.Bits
    else if bytes_eq word (codes "-gen") then Some flag.Gen
    else None

-- whether the word behind an option is its value: it is, but for `-bits`
abbrev pub takes_value : Option Flag → Bool
takes_value None = false
takes_value (Some flag.Nue) = true
takes_value (Some flag.Hosts) = true
takes_value (Some flag.Evict) = true
takes_value (Some flag.Serial) = true
takes_value (Some flag.Bits) = false
takes_value (Some flag.Gen) = true

-- no word yet
abbrev pub nothing : Said
nothing = record { nue = None; hosts = None; evict = None; serial = None; bits = false; seed = None; script = None }

-- the option came
abbrev pub has : Flag → Said → Bool
has flag.Nue said = is_some said.nue
has flag.Hosts said = is_some said.hosts
has flag.Evict said = is_some said.evict
has flag.Serial said = is_some said.serial
has flag.Bits said = said.bits
has flag.Gen said = is_some said.seed

-- the option cannot stand beside one that came: `-gen` stands with `-nue` alone
abbrev pub is_against : Flag → Said → Bool
is_against flag.Nue said = false
is_against flag.Hosts said = has flag.Gen said
is_against flag.Evict said = has flag.Gen said
is_against flag.Serial said = has flag.Gen said
is_against flag.Bits said = has flag.Gen said
is_against flag.Gen said = has flag.Hosts said || has flag.Evict said || has flag.Serial said || has flag.Bits said

-- the number behind the option at a word: 1 to 10 decimal digits, from its range
abbrev pub number_after : ℕ → ℕ → ℕ → Option (List ℕ) → Result ℕ WordFault
number_after at least most None = Err (fault.NoValue at)
number_after at least most (Some word) = ok_or (number_in least most word) (fault.BadNumber at)

-- the host file: the word behind the option, taken as it stands
abbrev pub with_hosts : ℕ → Option (List ℕ) → Said → Result Said WordFault
with_hosts at None said = Err (fault.NoValue at)
with_hosts at (Some word) said = Ok (record said { hosts = Some (at + 1) })

-- each option with what stands behind it: `-nue` a number from 1 to 48, `-f` a word, `-evict` and `-serial` any number,
-- `-bits` nothing, `-gen` a number up to 65,535
abbrev pub with_flag : ℕ → Flag → Option (List ℕ) → Said → Result Said WordFault
with_flag at flag.Nue afterwards said = number_after at 1 48 afterwards >>= λ n. Ok (record said { nue = Some n })
with_flag at flag.Hosts afterwards said = with_hosts at afterwards said
with_flag at flag.Evict afterwards said = number_after at 0 4294967295 afterwards >>= λ n. Ok (record said { evict = Some n })
with_flag at flag.Serial afterwards said = number_after at 0 4294967295 afterwards >>= λ n. Ok (record said { serial = Some n })
with_flag at flag.Bits afterwards said = Ok (record said { bits = true })
with_flag at flag.Gen afterwards said = number_after at 0 65535 afterwards >>= λ n. Ok (record said { seed = Some n })

-- an option: not twice, not beside one that it cannot stand with, with its value, and not behind the script's name
abbrev pub take_flag : ℕ → Said → Flag → Option (List ℕ) → Result Said WordFault
take_flag at said flag afterwards =
    if has flag said then Err (fault.Twice at)
    else if is_against flag said then Err (fault.Extra at)
    else with_flag at flag afterwards said >>= λ next. if is_some said.script then Err (fault.Extra at) else Ok next

-- the script's name: not behind another one, nor beside `-gen`
abbrev pub take_name : ℕ → Said → Result Said WordFault
take_name at said = if is_some said.script || is_some said.seed then Err (fault.Extra at) else Ok (record said { script = Some at })

-- a word that begins with `-`: one that names no option is unknown
abbrev pub take_option : ℕ → Said → Option Flag → Option (List ℕ) → Result Said WordFault
take_option at said None afterwards = Err (fault.Unknown at)
take_option at said (Some flag) afterwards = take_flag at said flag afterwards

-- a word that is no value: what begins with `-` is an option, and what does not is the script's name
abbrev pub take : ℕ → Said → List ℕ → Option (List ℕ) → Result Said WordFault
take at said word afterwards = if is_option word then take_option at said (option_named word) afterwards else take_name at said

-- the first of the words, if there is one
abbrev pub first_of : List (List ℕ) → Option (List ℕ)
first_of [] = None
first_of (word ∷ words) = Some word

-- The words from the left, of which the first has the number `at`, and is a value or not. The first fault counts.
abbrev pub scan : ℕ → Bool → Said → List (List ℕ) → Result Said WordFault
scan at is_value said [] = Ok said
scan at true said (word ∷ words) = scan (at + 1) false said words
scan at false said (word ∷ words) =
    take at said word (first_of words) >>= λ next. scan (at + 1) (takes_value (option_named word)) next words

-- the script that is to run: one from a file, or one that is made
abbrev pub work_of : Option ℕ → Option ℕ → Result Work WordFault
work_of (Some script) seed = Ok (work.Script script)
work_of None (Some seed) = Ok (work.Gen seed)
work_of None None = Err fault.NoScript

-- what was said, with the number of units of execution
abbrev pub job_with : Said → Option ℕ → Result Job WordFault
job_with said None = Err fault.NoNue
job_with said (Some nue) = work_of said.script said.seed >>= λ work.
    Ok (record { nue = nue; hosts = said.hosts; evict = said.evict; serial = said.serial; bits = said.bits; work = work })

-- what was said, as a job
abbrev pub job_of : Said → Result Job WordFault
job_of said = job_with said said.nue

-- what the words behind the launcher's name ask for, or the first fault in them
abbrev pub parse_command : List (List ℕ) → Result Job WordFault
parse_command words = scan 0 false nothing words >>= job_of

-- what was said so far is in range
pub record IsSaidInRange (said : Said) : Type 0 where
  pub nue : IfSome said.nue (λ n. (1 ≤ n) × (n ≤ 48))
  pub seed : IfSome said.seed (λ n. n ≤ 65535)

-- the seed of a script that is made is in range
abbrev pub IsSeedInRange : Work → Type 0
IsSeedInRange (work.Script script) = ⊤
IsSeedInRange (work.Gen seed) = seed ≤ 65535

-- the numbers of a job are in range: the chip has 48 cores
pub record IsInRange (job : Job) : Type 0 where
  pub some : 1 ≤ job.nue
  pub most : job.nue ≤ 48
  pub seed : IsSeedInRange job.work
