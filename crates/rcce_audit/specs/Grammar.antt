-- The grammar of logs: what a text says, or its first fault in line order (this project's profile).
use Rattle.std.specs.Prelude.{◌≡◌, ℕ, ◌+◌, ◌-◌, ◌==◌, ◌&&◌, nat_le, nat_lt, not, Bool, true, false, if◌then◌else◌, List, [], ◌∷◌, ◌++◌, codes, length, replicate, slice_index_or, slice_set, take, Option, Some, None, option_map, Result, Ok, Err}
use Rattle.std.specs.Option.{ok_or}
use Rattle.std.specs.Str.{bytes_eq}
use Rattle.scc_proto.specs.Words.{is_present_rule}
use Rattle.scc_base.specs.declared.communicators.CommRule.{CommRule}
use Rattle.scc_base.specs.declared.communicators.CommRule.TheVariants.{Mod, Div}
use Rattle.scc_base.specs.declared.kinds.Kind.{Kind}
use Rattle.scc_base.specs.Heads.{MessageHead, kind_number, most_message, most_post}
use Rattle.scc_base.specs.Calls.{DataCall, Send, Recv, Post, Bar}
use Rattle.scc_base.specs.Communicators.{rule_of}
use Rattle.scc_base.specs.Worlds.{world_alone}
use Rattle.rcce_audit.specs.declared.faults.LogKind.{LogKind}
use Rattle.rcce_audit.specs.declared.faults.LogKind.TheVariants as kind
use Rattle.rcce_audit.specs.declared.faults.LogFault.{LogFault}
use Rattle.rcce_audit.specs.declared.faults.LogStop.{LogStop}
use Rattle.rcce_audit.specs.declared.faults.LogStop.TheVariants as stop
use Rattle.rcce_audit.specs.declared.lines.CommSplit.{CommSplit}
use Rattle.rcce_audit.specs.declared.lines.EndRanks.{EndRanks}
use Rattle.rcce_audit.specs.Logs.{LogView, most_log_bytes}
use Rattle.rcce_audit.specs.Words.{◌>>=◌, only_if, log_words_of, exact_range_said, kind_said, exact_hex_said}
use Rattle.texts.specs.Cuts.{lines_of}

-- how far a log is read: what its lines so far say, its last communicator, and the rank of its last call
pub record Reading : Type 0 where
  pub log : LogView
  pub comm : ℕ
  pub rank : Option ℕ

-- a call with its rank
pub record RankedCall : Type 0 where
  pub rank : ℕ
  pub call : DataCall

-- a rank of the run
abbrev pub log_rank_said : ℕ → List ℕ → Option ℕ
log_rank_said nue word = exact_range_said 0 (nue - 1) word

-- the two ranks of a message, which are not the same
abbrev pub end_ranks : ℕ → ℕ → Option EndRanks
end_ranks rank peer = only_if (not (rank == peer)) (record { rank = rank; peer = peer })

-- a rank and its peer, which is another one
abbrev pub ends_said : ℕ → List ℕ → List ℕ → Option EndRanks
ends_said nue rank peer = log_rank_said nue rank >>= λ r. log_rank_said nue peer >>= end_ranks r

-- a head is one of the world where its message is plain
abbrev pub log_head_of : Kind → ℕ → ℕ → Option MessageHead
log_head_of kind comm len =
    only_if (not (kind_number kind == 0 && not (comm == 0))) (record { kind = kind_number kind; comm = comm; len = len })

-- the head that three words say: a kind, a communicator from 0 to 15 and a length up to 65,536
abbrev pub log_head_said : List ℕ → List ℕ → List ℕ → Option MessageHead
log_head_said kind comm len =
    kind_said kind >>= λ k. exact_range_said 0 15 comm >>= λ c. exact_range_said 0 most_message len >>= log_head_of k c

-- as many bytes as the head says
abbrev pub log_bytes_said : ℕ → List ℕ → Option (List ℕ)
log_bytes_said len word = exact_hex_said word >>= λ bytes. only_if (length bytes == len) bytes

-- whether a head is one that a post may have
abbrev pub is_post : MessageHead → Bool
is_post head = head.kind == 0 && (head.comm == 0 && nat_le head.len most_post)

-- what a verb makes of a message
abbrev pub call_named : List ℕ → ℕ → MessageHead → List ℕ → Option DataCall
call_named verb peer head bytes =
    if bytes_eq verb (codes "send") then Some (Send peer head bytes)
    else if bytes_eq verb (codes "recv") then Some (Recv peer head bytes)
    else if bytes_eq verb (codes "post") then only_if (is_post head) (Post peer head bytes)
    else None

-- the call of a message that a verb and its bytes in hex say
abbrev pub message_said : EndRanks → MessageHead → (verb hex : List ℕ) → Option RankedCall
message_said ends head verb hex =
    log_bytes_said head.len hex >>= λ bytes. call_named verb ends.peer head bytes
    >>= λ call. Some (record { rank = ends.rank; call = call })

-- the barrier that three words say: a rank, `bar` and a communicator that has a rule
abbrev pub log_barrier_said : ℕ → List CommRule → (rank verb comm : List ℕ) → Option RankedCall
log_barrier_said nue comms rank verb comm =
    log_rank_said nue rank >>= λ r. exact_range_said 0 15 comm >>= λ c.
    only_if (bytes_eq verb (codes "bar") && is_present_rule (rule_of comms c)) (record { rank = r; call = Bar c })

-- the call of a line of seven words: a message
abbrev pub long_said : ℕ → List (List ℕ) → Option RankedCall
long_said nue (rank ∷ verb ∷ peer ∷ kind ∷ comm ∷ len ∷ hex ∷ []) =
    ends_said nue rank peer >>= λ ends. log_head_said kind comm len >>= λ head. message_said ends head verb hex
long_said nue words = None

-- the call of a line of three words: a barrier
abbrev pub short_said : ℕ → List CommRule → List (List ℕ) → Option RankedCall
short_said nue comms (rank ∷ verb ∷ comm ∷ []) = log_barrier_said nue comms rank verb comm
short_said nue comms words = None

-- the call of a line
abbrev pub call_said : ℕ → List CommRule → List (List ℕ) → Option RankedCall
call_said nue comms words = if length words == 7 then long_said nue words else short_said nue comms words

-- what a colour makes of a parent and a number of parts
abbrev pub rule_named : List ℕ → ℕ → ℕ → Option CommRule
rule_named how parent k =
    if bytes_eq how (codes "mod") then Some (Mod parent k)
    else if bytes_eq how (codes "div") then Some (Div parent k)
    else None

-- the split that a line's words say, of a communicator past `last` and a parent that has a rule. Seven parameters: what was
-- read so far (the last communicator that was split, the rules), and the line's five words behind its number's, each by what
-- it says.
abbrev pub log_split_said : ℕ → List CommRule → (word comm parent how k : List ℕ) → Option CommSplit
log_split_said last comms word comm parent how k =
    exact_range_said (last + 1) 15 comm >>= λ c. exact_range_said 0 15 parent >>= λ p. exact_range_said 1 48 k >>= λ parts.
    rule_named how p parts >>= λ rule.
    only_if (bytes_eq word (codes "comm") && is_present_rule (rule_of comms p)) (record { comm = c; rule = rule })

-- the communicator of a line, by its words: above the last one, with a parent that has a rule
abbrev pub comm_said : ℕ → List CommRule → List (List ℕ) → Option CommSplit
comm_said last comms (word ∷ comm ∷ parent ∷ how ∷ k ∷ []) = log_split_said last comms word comm parent how k
comm_said last comms words = None

-- a communicator stands before all calls
abbrev pub with_comm : Reading → Option ℕ → CommSplit → Option Reading
with_comm reading None split =
    Some (record reading { log = record reading.log { comms = slice_set reading.log.comms split.comm split.rule }; comm = split.comm })
with_comm reading (Some rank) split = None

-- the lists with one more call of a rank
abbrev pub with_call : List (List DataCall) → RankedCall → List (List DataCall)
with_call lists ranked = slice_set lists ranked.rank (slice_index_or lists ranked.rank [] ++ ranked.call ∷ [])

-- the calls stand in rank order
abbrev pub is_in_order : Option ℕ → ℕ → Bool
is_in_order None rank = true
is_in_order (Some last) rank = nat_le last rank

-- the reading with one call more, if it stands in rank order
abbrev pub add_call : Reading → RankedCall → Option Reading
add_call reading ranked =
    only_if (is_in_order reading.rank ranked.rank)
    (record reading { log = record reading.log { lists = with_call reading.log.lists ranked }; rank = Some ranked.rank })

-- whether a line begins with `comm`
abbrev pub begins_comm : List ℕ → Bool
begins_comm line = bytes_eq (take 4 line) (codes "comm")

-- the reading after a line of a communicator, by its words
abbrev pub take_comm : Reading → List (List ℕ) → Option Reading
take_comm reading words = comm_said reading.comm reading.log.comms words >>= with_comm reading reading.rank

-- the reading after a line of a call, by its words
abbrev pub take_call : Reading → List (List ℕ) → Option Reading
take_call reading words = call_said reading.log.nue reading.log.comms words >>= add_call reading

-- the reading after one more line, if the line is of its form and in its place
abbrev pub line_said : Reading → List ℕ → Option Reading
line_said reading line =
    if begins_comm line then take_comm reading (log_words_of line) else take_call reading (log_words_of line)

-- what is wrong with a line that is not
abbrev pub kind_of : List ℕ → LogKind
kind_of line = if begins_comm line then kind.BadComm else kind.BadCall

-- one step of a reading after another: the second, if the first gave a value
infixl 10 ◌>=>◌
abbrev pub ◌>=>◌ : {A B : Type 0} → Result A LogFault → (A → Result B LogFault) → Result B LogFault
Ok x >=> next = next x
Err fault >=> next = Err fault

-- the reading after these lines, the first of which has this number
abbrev pub lines_said : ℕ → Reading → List (List ℕ) → Result Reading LogFault
lines_said number reading [] = Ok reading
lines_said number reading (line ∷ lines) =
    ok_or (line_said reading line) (record { line = number; kind = kind_of line }) >=> λ next. lines_said (number + 1) next lines

-- after the last line feed nothing stands: a line without its line feed is not of its form
abbrev pub end_said : ℕ → List ℕ → Reading → Result LogView LogFault
end_said number [] reading = Ok reading.log
end_said number (b ∷ line) reading = Err (record { line = number; kind = kind_of (b ∷ line) })

-- whether a line was taken, and the reading after it
abbrev pub TakesLine : Reading → List ℕ → Reading → Bool → Type 0
TakesLine reading line next true = line_said reading line ≡ Some next
TakesLine reading line next false = line_said reading line ≡ None

-- the number of ranks, by the words of the first line
abbrev pub nue_of : List (List ℕ) → Option ℕ
nue_of (first ∷ second ∷ nue ∷ []) =
    exact_range_said 1 48 nue >>= λ n. only_if (bytes_eq first (codes "rcce") && bytes_eq second (codes "log")) n
nue_of words = None

-- the lists where no rank has a call
unfoldable pub no_calls : List (List DataCall)
no_calls = replicate 48 []

-- the reading behind the first line, which says the number of ranks
abbrev pub reading_start : ℕ → Reading
reading_start nue = record { log = record { nue = nue; comms = world_alone; lists = no_calls }; comm = 0; rank = None }

-- what the first line says, or BadHead
abbrev pub first_said : List ℕ → Result Reading LogFault
first_said line = ok_or (option_map reading_start (nue_of (log_words_of line))) (record { line = 1; kind = kind.BadHead })

-- what these lines say, each with its line feed, and what stands behind the last line feed
abbrev pub all_said : List (List ℕ) → List ℕ → Result LogView LogFault
all_said [] last = Err (record { line = 1; kind = kind.BadHead })
all_said (first ∷ lines) last =
    first_said first >=> λ reading. lines_said 2 reading lines >=> end_said (length lines + 2) last

-- what the parts of a text between its line feeds say
abbrev pub parts_said : List (List ℕ) → Result LogView LogFault
parts_said parts = all_said (take (length parts - 1) parts) (slice_index_or parts (length parts - 1) [])

-- what a text says: a log, or its first fault. A text has at most 64 MiB
abbrev pub log_of : List ℕ → Result LogView LogFault
log_of bytes =
    if nat_lt most_log_bytes (length bytes) then Err (record { line = 0; kind = kind.TooLong })
    else parts_said (lines_of bytes)

-- a reading gives what the grammar says, seen through a view: its value or its fault. It may end for want of memory
abbrev pub LogGives : {A X : Type 0} → (X → A) → Result X LogStop → Result A LogFault → Type 0
LogGives view (Ok x) said = said ≡ Ok (view x)
LogGives view (Err (stop.Fault fault)) said = said ≡ Err fault
LogGives view (Err stop.Memory) said = Unit {0}
