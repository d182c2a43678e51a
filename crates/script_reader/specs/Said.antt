-- The second layer of the grammar: what a line means by its words alone (this project's profile). In a line, the number of
-- words is checked first, then fixed words, then numbers, then bytes, then names.
use Rattle.std.specs.Prelude.{ℕ, ◌+◌, ◌&&◌, ◌++◌, ◌==◌, nat_le, Bool, true, length, if◌then◌else◌, List, [], ◌∷◌, codes, drop, take, slice_index, Option, Some, None, Result, Ok, Err}
use Rattle.std.specs.List.{position_or_len}
use Rattle.std.specs.Option.{ok_or}
use Rattle.std.specs.Str.{bytes_eq}
use Rattle.groups.specs.declared.operations.Op.{Op}
use Rattle.groups.specs.declared.operations.Op.TheVariants as op
use Rattle.groups.specs.declared.operations.Ty.{Ty}
use Rattle.groups.specs.declared.operations.Ty.TheVariants as ty
use Rattle.script_rules.specs.declared.fault.FaultKind.{FaultKind}
use Rattle.script_rules.specs.declared.fault.FaultKind.TheVariants as kind
use Rattle.script_reader.specs.declared.said.Collective.TheVariants as group
use Rattle.script_reader.specs.declared.said.Colour.{Colour}
use Rattle.script_reader.specs.declared.said.Colour.TheVariants as colour
use Rattle.script_reader.specs.declared.said.Local.{Local}
use Rattle.script_reader.specs.declared.said.Local.TheVariants as local
use Rattle.script_reader.specs.declared.said.LocalWord.{LocalWord}
use Rattle.script_reader.specs.declared.said.LocalWord.TheVariants as first_word
use Rattle.script_reader.specs.declared.said.Message.TheVariants as message
use Rattle.script_reader.specs.declared.said.PeerSaid.{PeerSaid}
use Rattle.script_reader.specs.declared.said.PeerSaid.TheVariants as peer
use Rattle.script_reader.specs.declared.said.Said.{Said}
use Rattle.script_reader.specs.declared.said.Said.TheVariants as said
use Rattle.script_reader.specs.declared.said.Section.TheVariants as section
use Rattle.script_rules.specs.declared.script.Form.TheVariants as form
use Rattle.script_rules.specs.declared.version.Version.{Version}
use Rattle.script_rules.specs.declared.version.Version.TheVariants as version
use Rattle.script_reader.specs.Counts.{of_five_words, of_four_words, of_six_words, of_three_words, of_two_words}
use Rattle.script_reader.specs.Faults.{◌>>=◌}
use Rattle.script_reader.specs.Words.{is_name, value_of_word}
use Rattle.texts.specs.Hex.{bytes_of}
use Rattle.script_rules.specs.Checks.{version_number}
use Rattle.script_rules.specs.Limits.{most_operations}
use Rattle.texts.specs.Numbers.{number_of}

-- a word as a number, or the kind of its fault
abbrev pub number_said : List ℕ → Result ℕ FaultKind
number_said word = ok_or (number_of word) kind.BadNumber

-- the number, if it is within two bounds, both included
abbrev pub from_range : ℕ → ℕ → ℕ → Result ℕ FaultKind
from_range low high number = if nat_le low number && nat_le number high then Ok number else Err kind.BadNumber

-- a word as a number within two bounds, both included
abbrev pub range_said : ℕ → ℕ → List ℕ → Result ℕ FaultKind
range_said low high word = number_said word >>= from_range low high

-- a word as bytes in hexadecimal, or the kind of its fault
abbrev pub hex_said : List ℕ → Result (List ℕ) FaultKind
hex_said word = ok_or (bytes_of word) kind.BadHex

-- a word as the name of a register, or the kind of its fault
abbrev pub name_said : List ℕ → Result (List ℕ) FaultKind
name_said word = if is_name word then Ok word else Err kind.BadName

-- the name of a type of values: `int` or `long`
abbrev pub type_said : List ℕ → Result Ty FaultKind
type_said word =
    if bytes_eq word (codes "int") then Ok ty.Int
    else if bytes_eq word (codes "long") then Ok ty.Long
    else Err kind.UnknownStatement

-- the operator of a fold: `sum`, `min`, `max` or `prod`
abbrev pub operation_said : List ℕ → Result Op FaultKind
operation_said word =
    if bytes_eq word (codes "sum") then Ok op.Sum
    else if bytes_eq word (codes "min") then Ok op.Min
    else if bytes_eq word (codes "max") then Ok op.Max
    else if bytes_eq word (codes "prod") then Ok op.Prod
    else Err kind.UnknownStatement

-- the word `mod` or `div`
abbrev pub colour_said : List ℕ → Result Colour FaultKind
colour_said word =
    if bytes_eq word (codes "mod") then Ok colour.Mod
    else if bytes_eq word (codes "div") then Ok colour.Div
    else Err kind.UnknownStatement

-- the word `of`
abbrev pub of_said : List ℕ → Result Bool FaultKind
of_said word = if bytes_eq word (codes "of") then Ok true else Err kind.UnknownStatement

-- PEER: a rank, `+K` or `-K`
abbrev pub peer_said : List ℕ → Result PeerSaid FaultKind
peer_said word =
    if slice_index word 0 == 43 then number_said (drop 1 word) >>= (λ up. Ok (peer.Plus up))
    else if slice_index word 0 == 45 then number_said (drop 1 word) >>= (λ down. Ok (peer.Minus down))
    else number_said word >>= (λ rank. Ok (peer.Abs rank))

-- the bytes `front`, and after them the bytes of the value that a word states
abbrev pub value_after : Ty → List ℕ → List ℕ → Result (List ℕ) FaultKind
value_after type front word = ok_or (value_of_word type word) kind.BadNumber >>= λ bytes. Ok (front ++ bytes)

-- the bytes `front`, and after them the bytes of the values that the words state
abbrev pub values_said : Ty → List ℕ → List (List ℕ) → Result (List ℕ) FaultKind
values_said type front [] = Ok front
values_said type front (word ∷ words) = value_after type front word >>= λ bytes. values_said type bytes words

-- a line of one word: `all`, `even`, `odd`, `end`
abbrev pub one_word_said : Said → List (List ℕ) → Result Said FaultKind
one_word_said said [] = Ok said
one_word_said said _ = Err kind.WrongCount

-- `ue A` and `ue A-B`
abbrev pub span_said : List ℕ → List ℕ → Result Said FaultKind
span_said first last = do
  first ← number_said first
  last ← number_said last
  Ok (said.Section (section.Span first last))

-- the place of the first `-` of a word, or its length
abbrev pub dash_of : List ℕ → ℕ
dash_of word = position_or_len (λ b. b == 45) word

-- the ranks of a section: one number, or two with a dash between them
abbrev pub ranks_said : List ℕ → Result Said FaultKind
ranks_said word =
    if dash_of word == length word then span_said word word
    else span_said (take (dash_of word) word) (drop (dash_of word + 1) word)

-- the words after `ue`
abbrev pub ue_said : List (List ℕ) → Result Said FaultKind
ue_said (ranks ∷ []) = ranks_said ranks
ue_said _ = Err kind.WrongCount

-- `bytes NAME HEX`
abbrev pub bytes_said : List (List ℕ) → Result Local FaultKind
bytes_said (name ∷ hex ∷ []) = do
  bytes ← hex_said hex
  name ← name_said name
  Ok (local.Bytes name bytes)
bytes_said _ = Err kind.WrongCount

-- `ints NAME V ..` and `longs NAME V ..`
abbrev pub values_named : Ty → List ℕ → List (List ℕ) → Result Local FaultKind
values_named type name values = do
  bytes ← values_said type [] values
  name ← name_said name
  Ok (local.Bytes name bytes)

-- the words after `ints` or `longs`: a name and at least one value
abbrev pub numbers_said : Ty → List (List ℕ) → Result Local FaultKind
numbers_said type [] = Err kind.WrongCount
numbers_said type (name ∷ values) = if length values == 0 then Err kind.WrongCount else values_named type name values

-- `fill NAME LEN START`
abbrev pub fill_words : List ℕ → List ℕ → List ℕ → Result Local FaultKind
fill_words name len start = do
  len ← number_said len
  start ← range_said 0 65535 start
  name ← name_said name
  Ok (local.Fill name len start)

-- the words after `fill`
abbrev pub fill_said : List (List ℕ) → Result Local FaultKind
fill_said words = of_three_words fill_words words

-- `rank NAME TYPE`
abbrev pub rank_of_said : List (List ℕ) → Result Local FaultKind
rank_of_said (name ∷ type ∷ []) = do
  type ← type_said type
  name ← name_said name
  Ok (local.RankOf name type)
rank_of_said _ = Err kind.WrongCount

-- `apply OP TYPE DST SRC`
abbrev pub apply_words : List ℕ → List ℕ → List ℕ → List ℕ → Result Local FaultKind
apply_words operation type dst src = do
  operation ← operation_said operation
  type ← type_said type
  dst ← name_said dst
  src ← name_said src
  Ok (local.Apply operation type dst src)

-- the words after `apply`
abbrev pub apply_said : List (List ℕ) → Result Local FaultKind
apply_said words = of_four_words apply_words words

-- `print NAME`
abbrev pub hex_print_said : List ℕ → Result Local FaultKind
hex_print_said name = do
  name ← name_said name
  Ok (local.Print name form.Hex)

-- `print TYPE NAME`
abbrev pub typed_print_said : List ℕ → List ℕ → Result Local FaultKind
typed_print_said type name = do
  type ← type_said type
  name ← name_said name
  Ok (local.Print name (form.Decimal type))

-- the words after `print`: a name, with or without a type before it
abbrev pub print_said : List (List ℕ) → Result Local FaultKind
print_said (name ∷ []) = hex_print_said name
print_said (type ∷ name ∷ []) = typed_print_said type name
print_said _ = Err kind.WrongCount

-- `send PEER NAME`
abbrev pub send_words : List ℕ → List ℕ → Result Said FaultKind
send_words peer name = do
  peer ← peer_said peer
  name ← name_said name
  Ok (said.Message (message.Send peer name))

-- the words after `send`
abbrev pub send_said : List (List ℕ) → Result Said FaultKind
send_said words = of_two_words send_words words

-- `post PEER NAME`
abbrev pub post_words : List ℕ → List ℕ → Result Said FaultKind
post_words peer name = do
  peer ← peer_said peer
  name ← name_said name
  Ok (said.Message (message.Post peer name))

-- the words after `post`
abbrev pub post_said : List (List ℕ) → Result Said FaultKind
post_said words = of_two_words post_words words

-- `recv PEER NAME LEN`
abbrev pub recv_words : List ℕ → List ℕ → List ℕ → Result Said FaultKind
recv_words peer name len = do
  peer ← peer_said peer
  len ← number_said len
  name ← name_said name
  Ok (said.Message (message.Recv peer name len))

-- the words after `recv`
abbrev pub recv_said : List (List ℕ) → Result Said FaultKind
recv_said words = of_three_words recv_words words

-- `barrier` and `barrier COMM`
abbrev pub barrier_said : List (List ℕ) → Result Said FaultKind
barrier_said [] = Ok (said.Collective (group.Barrier 0))
barrier_said (comm ∷ []) = do
  comm ← number_said comm
  Ok (said.Collective (group.Barrier comm))
barrier_said _ = Err kind.WrongCount

-- `split COMM mod K` and `split COMM div K`
abbrev pub world_split_said : List ℕ → List ℕ → List ℕ → Result Said FaultKind
world_split_said comm how parts = do
  how ← colour_said how
  comm ← number_said comm
  parts ← range_said 1 48 parts
  Ok (said.Collective (group.Split comm 0 how parts))

-- `split COMM of PARENT mod K` and `split COMM of PARENT div K`
abbrev pub parent_split_said : List ℕ → List ℕ → List ℕ → List ℕ → List ℕ → Result Said FaultKind
parent_split_said comm of parent how parts = do
  named ← of_said of
  how ← colour_said how
  comm ← number_said comm
  parent ← number_said parent
  parts ← range_said 1 48 parts
  Ok (said.Collective (group.Split comm parent how parts))

-- the words after `split`; version 1 can split only the world
abbrev pub split_said : Version → List (List ℕ) → Result Said FaultKind
split_said version (comm ∷ how ∷ parts ∷ []) = world_split_said comm how parts
split_said version.Two (comm ∷ of ∷ parent ∷ how ∷ parts ∷ []) = parent_split_said comm of parent how parts
split_said version _ = Err kind.WrongCount

-- `bcast COMM ROOT NAME LEN`
abbrev pub bcast_words : List ℕ → List ℕ → List ℕ → List ℕ → Result Said FaultKind
bcast_words comm root name len = do
  comm ← number_said comm
  root ← number_said root
  len ← number_said len
  name ← name_said name
  Ok (said.Collective (group.Bcast comm root name len))

-- the words after `bcast`
abbrev pub bcast_said : List (List ℕ) → Result Said FaultKind
bcast_said words = of_four_words bcast_words words

-- `reduce COMM ROOT OP TYPE DST SRC`
abbrev pub reduce_words : List ℕ → List ℕ → List ℕ → List ℕ → List ℕ → List ℕ → Result Said FaultKind
reduce_words comm root operation type dst src = do
  operation ← operation_said operation
  type ← type_said type
  comm ← number_said comm
  root ← number_said root
  dst ← name_said dst
  src ← name_said src
  Ok (said.Collective (group.Reduce comm root operation type dst src))

-- the words after `reduce`
abbrev pub reduce_said : List (List ℕ) → Result Said FaultKind
reduce_said words = of_six_words reduce_words words

-- `allreduce COMM OP TYPE DST SRC`
abbrev pub allreduce_words : List ℕ → List ℕ → List ℕ → List ℕ → List ℕ → Result Said FaultKind
allreduce_words comm operation type dst src = do
  operation ← operation_said operation
  type ← type_said type
  comm ← number_said comm
  dst ← name_said dst
  src ← name_said src
  Ok (said.Collective (group.Allreduce comm operation type dst src))

-- the words after `allreduce`
abbrev pub allreduce_said : List (List ℕ) → Result Said FaultKind
allreduce_said words = of_five_words allreduce_words words

-- `repeat N`
abbrev pub repeat_said : List (List ℕ) → Result Said FaultKind
repeat_said (times ∷ []) = do
  times ← range_said 1 most_operations times
  Ok (said.Repeat times)
repeat_said _ = Err kind.WrongCount

-- `rcce N`, where N must be the number of the version
abbrev pub rcce_said : Version → List (List ℕ) → Result Said FaultKind
rcce_said version (number ∷ []) = do
  number ← range_said (version_number version) (version_number version) number
  Ok said.Version
rcce_said version _ = Err kind.WrongCount

-- a section line, by its first word
abbrev pub section_said : List ℕ → List (List ℕ) → Result Said FaultKind
section_said first words =
    if bytes_eq first (codes "all") then one_word_said (said.Section section.All) words
    else if bytes_eq first (codes "even") then one_word_said (said.Section section.Even) words
    else if bytes_eq first (codes "odd") then one_word_said (said.Section section.Odd) words
    else if bytes_eq first (codes "ue") then ue_said words
    else if bytes_eq first (codes "repeat") then repeat_said words
    else if bytes_eq first (codes "end") then one_word_said said.End words
    else Err kind.UnknownStatement

-- a statement on a communicator, by its first word, or else a section line or a repeat
abbrev pub group_said : Version → List ℕ → List (List ℕ) → Result Said FaultKind
group_said version first words =
    if bytes_eq first (codes "barrier") then barrier_said words
    else if bytes_eq first (codes "split") then split_said version words
    else if bytes_eq first (codes "bcast") then bcast_said words
    else if bytes_eq first (codes "reduce") then reduce_said words
    else if bytes_eq first (codes "allreduce") then allreduce_said words
    else section_said first words

-- the local statement that a first word begins, if it begins one
abbrev pub local_word : List ℕ → Option LocalWord
local_word first =
    if bytes_eq first (codes "bytes") then Some first_word.Bytes
    else if bytes_eq first (codes "ints") then Some first_word.Ints
    else if bytes_eq first (codes "longs") then Some first_word.Longs
    else if bytes_eq first (codes "fill") then Some first_word.Fill
    else if bytes_eq first (codes "rank") then Some first_word.Rank
    else if bytes_eq first (codes "apply") then Some first_word.Apply
    else if bytes_eq first (codes "print") then Some first_word.Print
    else None

-- a local statement, by its first word
abbrev pub local_said : LocalWord → List (List ℕ) → Result Local FaultKind
local_said first_word.Bytes words = bytes_said words
local_said first_word.Ints words = numbers_said ty.Int words
local_said first_word.Longs words = numbers_said ty.Long words
local_said first_word.Fill words = fill_said words
local_said first_word.Rank words = rank_of_said words
local_said first_word.Apply words = apply_said words
local_said first_word.Print words = print_said words

-- a local statement, if the first word begins one, or else another line
abbrev pub register_said_by : Version → List ℕ → List (List ℕ) → Option LocalWord → Result Said FaultKind
register_said_by version first words None = group_said version first words
register_said_by version first words (Some word) = do
  statement ← local_said word words
  Ok (said.Local statement)

-- a line by its first word: a local statement, or another line
abbrev pub register_said : Version → List ℕ → List (List ℕ) → Result Said FaultKind
register_said version first words = register_said_by version first words (local_word first)

-- what a line means, by its first word and the words after it. `opening`: no earlier line has words, so `rcce` is allowed.
abbrev pub said_of : Version → Bool → List ℕ → List (List ℕ) → Result Said FaultKind
said_of version opening first words =
    if bytes_eq first (codes "send") then send_said words
    else if bytes_eq first (codes "post") then post_said words
    else if bytes_eq first (codes "recv") then recv_said words
    else if opening && bytes_eq first (codes "rcce") then rcce_said version words
    else register_said version first words
