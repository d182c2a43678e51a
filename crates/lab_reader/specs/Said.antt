-- How the words of a step are parsed (this project's profile).
use Rattle.std.specs.Prelude.{ℕ, ◌==◌, Bool, true, false, if◌then◌else◌, List, [], ◌∷◌, codes, length, Option, Some, None, option_map}
use Rattle.std.specs.Str.{bytes_eq}
use Rattle.scc_base.specs.Places.{LineAt, WordAt, word_of_line}
use Rattle.lab_reader.specs.declared.steps.Action.{Action}
use Rattle.lab_reader.specs.declared.steps.Action.TheVariants as action
use Rattle.lab_reader.specs.Places.{heap_line}
use Rattle.lab_reader.specs.Words.{◌>>=◌, Cut, cut_at, value_said}
use Rattle.texts.specs.Numbers.{number_in}

-- a core, by its number
abbrev pub core_said : List ℕ → Option ℕ
core_said word = number_in 0 47 word

-- a heap line of a core, by its number in a lab
abbrev pub line_at_said : ℕ → List ℕ → Option LineAt
line_at_said core word = number_in 0 30 word >>= λ n. Some (heap_line core n)

-- a line whose word was cut at `:` or not: on the core that precedes the mark, or on its own core
abbrev pub line_cut : ℕ → List ℕ → Option Cut → Option LineAt
line_cut own word None = line_at_said own word
line_cut own word (Some cut) = core_said cut.front >>= λ core. line_at_said core cut.back

-- a heap line: `L` on its own core, or `K:L`
abbrev pub heap_line_said : ℕ → List ℕ → Option LineAt
heap_line_said own word = line_cut own word (cut_at 58 word)

-- a word of a heap line: `L.W` on its own core, or `K:L.W`
abbrev pub word_said : ℕ → List ℕ → Option WordAt
word_said own word =
    cut_at 46 word >>= λ cut. heap_line_said own cut.front >>= λ line. number_in 0 3 cut.back >>= λ w. Some (word_of_line line w)

-- the values of the four words of a line
abbrev pub four_said : (first second third fourth : List ℕ) → Option (List ℕ)
four_said first second third fourth =
    value_said first >>= λ a. value_said second >>= λ b. value_said third >>= λ c. value_said fourth >>= λ d. Some (a ∷ b ∷ c ∷ d ∷ [])

-- the words after `write`: a word and its value
abbrev pub write_word_said : ℕ → List (List ℕ) → Option Action
write_word_said own (at ∷ value ∷ []) = word_said own at >>= λ p. value_said value >>= λ v. Some (action.WriteWord p v)
write_word_said own words = None

-- the words after `write`: a line and its four values
abbrev pub write_line_said : ℕ → List (List ℕ) → Option Action
write_line_said own (at ∷ first ∷ second ∷ third ∷ fourth ∷ []) =
    heap_line_said own at >>= λ line. four_said first second third fourth >>= λ words. Some (action.WriteLine line words)
write_line_said own words = None

-- the words after `write`: a word and its value, or a line and its four values
abbrev pub write_said : ℕ → List (List ℕ) → Option Action
write_said own words = if length words == 2 then write_word_said own words else write_line_said own words

-- the words after `put`: a line and its four values
abbrev pub put_said : ℕ → List (List ℕ) → Option Action
put_said own (at ∷ first ∷ second ∷ third ∷ fourth ∷ []) =
    heap_line_said own at >>= λ line. four_said first second third fourth >>= λ words. Some (action.Put line words)
put_said own words = None

-- the words after a read of a word: nothing, or `expect HEX`
abbrev pub expected_word : List (List ℕ) → Option (Option ℕ)
expected_word [] = Some None
expected_word (expect ∷ value ∷ []) = if bytes_eq expect (codes "expect") then option_map Some (value_said value) else None
expected_word words = None

-- the words after a read of a line: nothing, or `expect` and four values
abbrev pub expected_line : List (List ℕ) → Option (Option (List ℕ))
expected_line [] = Some None
expected_line (expect ∷ first ∷ second ∷ third ∷ fourth ∷ []) =
    if bytes_eq expect (codes "expect") then option_map Some (four_said first second third fourth) else None
expected_line words = None

-- the expected answer of a take: `took` or `taken`
abbrev pub take_named : List ℕ → Option Bool
take_named word = if bytes_eq word (codes "took") then Some true else if bytes_eq word (codes "taken") then Some false else None

-- the words after a take: nothing, or `expect took` or `expect taken`
abbrev pub expected_take : List (List ℕ) → Option (Option Bool)
expected_take [] = Some None
expected_take (expect ∷ word ∷ []) = if bytes_eq expect (codes "expect") then option_map Some (take_named word) else None
expected_take words = None

-- the read of a word if one was parsed, or else of a line; `words` may give the expected values
abbrev pub read_by : ℕ → List ℕ → Option LineAt → List (List ℕ) → Option WordAt → Option Action
read_by own at evict words (Some p) = expected_word words >>= λ expect. Some (action.ReadWord p evict expect)
read_by own at evict words None =
    heap_line_said own at >>= λ line. expected_line words >>= λ expect. Some (action.ReadLine line evict expect)

-- a read with the line to evict, if any; `words` may give the expected values
abbrev pub read_afterwards : ℕ → List ℕ → Option LineAt → List (List ℕ) → Option Action
read_afterwards own at evict words = read_by own at evict words (word_said own at)

-- the words after `read` and the word or line: the expected values, if any, or `evict LINE` and then these
abbrev pub read_after : ℕ → List ℕ → List (List ℕ) → Option Action
read_after own at (word ∷ line ∷ rest) =
    if bytes_eq word (codes "evict") then (heap_line_said own line >>= λ evict. read_afterwards own at (Some evict) rest)
    else read_afterwards own at None (word ∷ line ∷ rest)
read_after own at words = read_afterwards own at None words

-- the words after `read`
abbrev pub read_said : ℕ → List (List ℕ) → Option Action
read_said own [] = None
read_said own (at ∷ words) = read_after own at words

-- the words after `get`: a line, and the values expected of it, if any
abbrev pub get_said : ℕ → List (List ℕ) → Option Action
get_said own [] = None
get_said own (at ∷ words) = heap_line_said own at >>= λ line. expected_line words >>= λ expect. Some (action.Get line expect)

-- the words after `load`: a word, and the value expected of it, if any
abbrev pub load_said : ℕ → List (List ℕ) → Option Action
load_said own [] = None
load_said own (at ∷ words) = word_said own at >>= λ p. expected_word words >>= λ expect. Some (action.Load p expect)

-- the words after `store`: a word and its value
abbrev pub store_said : ℕ → List (List ℕ) → Option Action
store_said own (at ∷ value ∷ []) = word_said own at >>= λ p. value_said value >>= λ v. Some (action.Store p v)
store_said own words = None

-- the words after `take`: a core, and the expected answer, if any
abbrev pub take_said : List (List ℕ) → Option Action
take_said [] = None
take_said (register ∷ words) = core_said register >>= λ core. expected_take words >>= λ expect. Some (action.Take core expect)

-- the words after `free`: a core
abbrev pub free_said : List (List ℕ) → Option Action
free_said (register ∷ []) = core_said register >>= λ core. Some (action.Free core)
free_said words = None

-- the words after a verb that has no arguments: nothing
abbrev pub bare_said : Action → List (List ℕ) → Option Action
bare_said act [] = Some act
bare_said act (word ∷ words) = None

-- a core's action, by its verb and the words after it
abbrev pub verb_said : ℕ → List ℕ → List (List ℕ) → Option Action
verb_said own verb words =
    if bytes_eq verb (codes "write") then write_said own words
    else if bytes_eq verb (codes "read") then read_said own words
    else if bytes_eq verb (codes "flush") then bare_said action.Flush words
    else if bytes_eq verb (codes "invalidate") then bare_said action.Invalidate words
    else if bytes_eq verb (codes "put") then put_said own words
    else if bytes_eq verb (codes "get") then get_said own words
    else if bytes_eq verb (codes "load") then load_said own words
    else if bytes_eq verb (codes "store") then store_said own words
    else if bytes_eq verb (codes "take") then take_said words
    else if bytes_eq verb (codes "free") then free_said words
    else if bytes_eq verb (codes "print") then bare_said action.Print words
    else None

-- a core's action, by the words after `core C`
abbrev pub action_said : ℕ → List (List ℕ) → Option Action
action_said own [] = None
action_said own (verb ∷ words) = verb_said own verb words
