-- The lines that a lab prints (this project's profile). Accesses to shared words have the form of a trace.
use Rattle.std.specs.Prelude.{ℕ, ◌-◌, Bool, true, false, not, if◌then◌else◌, List, [], ◌∷◌, codes, decimal, slice_index, slice_index_or}
use Rattle.std.specs.Int.{w64, to_be_bytes}
use Rattle.rcce_io.specs.Digits.{hex_text}
use Rattle.rcce_io.specs.Sending.{joined_texts}
use Rattle.scc_base.specs.Places.{LineAt, WordAt, line_of_word, word_of_line, first_heap}
use Rattle.lab_plain.specs.declared.parts.Part.{Part}
use Rattle.lab_plain.specs.declared.parts.Part.TheVariants as part
use Rattle.lab_plain.specs.declared.said.Said.{Said}
use Rattle.lab_plain.specs.declared.said.Said.TheVariants as said
use Rattle.lab_plain.specs.declared.said.Source.{Source}
use Rattle.lab_plain.specs.declared.said.Source.TheVariants as source
use Rattle.lab_plain.specs.declared.said.Stopped.{Stopped}
use Rattle.lab_plain.specs.declared.said.Stopped.TheVariants as stopped

-- a value of 64 bits: its 16 hex digits
abbrev pub hex_value_text : ℕ → List ℕ
hex_value_text value = hex_text (to_be_bytes w64 value)

-- a line as a lab names it: its core, and its number among the heap lines, the first of which is line 225
abbrev pub line_name : LineAt → List ℕ
line_name line = joined_texts (decimal line.core ∷ codes ":" ∷ decimal (line.line - first_heap) ∷ [])

-- a word of a held line: its value, or `-` if it was not written
abbrev pub held_word_text : ℕ → Bool → List ℕ
held_word_text value written = if written then hex_value_text value else codes "-"

-- the text of a part of a line
abbrev pub part_text : Part → List ℕ
part_text (part.Text text) = text.now
part_text (part.Bytes bytes) = bytes.now
part_text (part.Number number) = decimal number
part_text (part.Value value) = hex_value_text value
part_text (part.Word value written) = held_word_text value written
part_text (part.Line line) = line_name line

-- the line of a load or a store of a word
abbrev pub access_text : ℕ → List ℕ → WordAt → ℕ → List ℕ
access_text core access at value =
    joined_texts (decimal core ∷ access ∷ decimal at.core ∷ codes "." ∷ decimal at.line ∷ codes "." ∷ decimal at.word ∷ codes " "
    ∷ hex_value_text value ∷ codes " # heap\n" ∷ [])

-- the line of the access to one word of a line, if it is made
abbrev pub word_access_text : ℕ → List ℕ → LineAt → List ℕ → List Bool → ℕ → List ℕ
word_access_text core access line words mask word =
    if slice_index_or mask word false then access_text core access (word_of_line line word) (slice_index words word) else []

-- all words of a line
abbrev pub all_words : List Bool
all_words = true ∷ true ∷ true ∷ true ∷ []

-- the lines of the loads of a line, word 0 first
abbrev pub loads_text : ℕ → LineAt → List ℕ → List ℕ
loads_text core line words =
    joined_texts (word_access_text core (codes " load ") line words all_words 0
    ∷ word_access_text core (codes " load ") line words all_words 1
    ∷ word_access_text core (codes " load ") line words all_words 2 ∷ word_access_text core (codes " load ") line words all_words 3 ∷ [])

-- the lines of the stores of the written words of a line, word 3 first
abbrev pub stores_text : ℕ → LineAt → List ℕ → List Bool → List ℕ
stores_text core line words mask =
    joined_texts (word_access_text core (codes " store ") line words mask 3 ∷ word_access_text core (codes " store ") line words mask 2
    ∷ word_access_text core (codes " store ") line words mask 1 ∷ word_access_text core (codes " store ") line words mask 0 ∷ [])

-- the name of a take's answer
abbrev pub take_answer_name : Bool → List ℕ
take_answer_name took = if took then codes "took" else codes "taken"

-- the line of a take, with 1 if it took the register, and the line of its answer
abbrev pub takes_text : ℕ → ℕ → Bool → List ℕ
takes_text core register took =
    joined_texts (decimal core ∷ codes " take " ∷ decimal register ∷ codes ".register " ∷ hex_value_text (if took then 1 else 0)
    ∷ codes " # register\nanswer " ∷ take_answer_name took ∷ codes "\n" ∷ [])

-- the line of a free
abbrev pub frees_text : ℕ → ℕ → List ℕ
frees_text core register =
    joined_texts (decimal core ∷ codes " free " ∷ decimal register ∷ codes ".register " ∷ hex_value_text 0 ∷ codes " # register\n" ∷ [])

-- the line for a line that a core holds
abbrev pub core_holds_text : ℕ → List ℕ → LineAt → List ℕ → List Bool → List ℕ
core_holds_text core holds line words mask =
    joined_texts (codes "core " ∷ decimal core ∷ holds ∷ line_name line ∷ codes " "
    ∷ held_word_text (slice_index words 0) (slice_index_or mask 0 false)
    ∷ codes " " ∷ held_word_text (slice_index words 1) (slice_index_or mask 1 false) ∷ codes " "
    ∷ held_word_text (slice_index words 2) (slice_index_or mask 2 false)
    ∷ codes " " ∷ held_word_text (slice_index words 3) (slice_index_or mask 3 false) ∷ codes "\n" ∷ [])

-- the line for a core that holds nothing
abbrev pub nothing_text : ℕ → List ℕ → List ℕ
nothing_text core holds = joined_texts (codes "core " ∷ decimal core ∷ holds ∷ codes "nothing\n" ∷ [])

-- the name of the place that answered a read
abbrev pub source_name : Source → List ℕ
source_name source.BufferLine = codes "buffer line"
source_name source.Cache = codes "cache"
source_name source.Words = codes "words"

-- the line of a read's answer
abbrev pub answer_text : WordAt → ℕ → Source → List ℕ
answer_text at value from =
    joined_texts (codes "answer " ∷ line_name (line_of_word at) ∷ codes "." ∷ decimal at.word ∷ codes " " ∷ hex_value_text value
    ∷ codes " from " ∷ source_name from ∷ codes "\n" ∷ [])

-- the text of what is printed
abbrev pub said_text : Said → List ℕ
said_text (said.Begins line text) = joined_texts (codes "line " ∷ decimal line ∷ codes ": " ∷ text ∷ codes "\n" ∷ [])
said_text (said.Loads core line words) = loads_text core line words
said_text (said.Stores core line words mask) = stores_text core line words mask
said_text (said.LoadsWord core at value) = access_text core (codes " load ") at value
said_text (said.StoresWord core at value) = access_text core (codes " store ") at value
said_text (said.Answers at value from) = answer_text at value from
said_text (said.Evicted line) = joined_texts (codes "evicted " ∷ line_name line ∷ codes "\n" ∷ [])
said_text (said.Takes core register took) = takes_text core register took
said_text (said.Frees core register) = frees_text core register
said_text (said.Caches core line words) = core_holds_text core (codes " caches ") line words all_words
said_text (said.CachesNothing core) = nothing_text core (codes " caches ")
said_text (said.Buffers core line words mask) = core_holds_text core (codes " buffers ") line words mask
said_text (said.BuffersNothing core) = nothing_text core (codes " buffers ")

-- the line of a stop at a register
abbrev pub register_stop_text : ℕ → ℕ → List ℕ → ℕ → List ℕ
register_stop_text line core holds register =
    joined_texts (codes "line " ∷ decimal line ∷ codes ": core " ∷ decimal core ∷ holds ∷ decimal register ∷ codes "\n" ∷ [])

-- the line of a stop at a value that differs from the expected one
abbrev pub value_stop_text : ℕ → WordAt → ℕ → ℕ → List ℕ
value_stop_text line at came expected =
    joined_texts (codes "line " ∷ decimal line ∷ codes ": " ∷ line_name (line_of_word at) ∷ codes "." ∷ decimal at.word ∷ codes " is "
    ∷ hex_value_text came
    ∷ codes ", expected " ∷ hex_value_text expected ∷ codes "\n" ∷ [])

-- the text of why a lab stopped
abbrev pub stopped_text : Stopped → List ℕ
stopped_text (stopped.Value line at came expected) = value_stop_text line at came expected
stopped_text (stopped.Take line took) =
    joined_texts (codes "line " ∷ decimal line ∷ codes ": answer " ∷ take_answer_name took ∷ codes ", expected "
    ∷ take_answer_name (not took)
    ∷ codes "\n" ∷ [])
stopped_text (stopped.Holds line core register) = register_stop_text line core (codes " holds register ") register
stopped_text (stopped.HoldsNot line core register) = register_stop_text line core (codes " does not hold register ") register
