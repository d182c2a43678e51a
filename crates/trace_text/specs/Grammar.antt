-- The grammar of traces: what a text says, or its first fault in line order (this project's profile).
use Rattle.std.specs.Prelude.{ℕ, ◌+◌, ◌-◌, ◌==◌, ◌&&◌, nat_le, nat_lt, Bool, if◌then◌else◌, List, [], ◌∷◌, ◌++◌, codes, length, slice_index_or, slice_set, replicate, take, Option, Some, None, is_none, option_map, Result, Ok, Err}
use Rattle.std.specs.Option.{ok_or}
use Rattle.std.specs.Str.{bytes_eq}
use Rattle.scc_base.specs.declared.events.Event.{Event}
use Rattle.scc_base.specs.declared.layouts.Layout.{Layout}
use Rattle.scc_base.specs.Events.{load_of, store_of, take_of, free_of}
use Rattle.scc_base.specs.Worlds.{world_alone}
use Rattle.scc_proto.specs.Words.{RankEvent, rank_below}
use Rattle.rcce_audit.specs.declared.lines.CommSplit.{CommSplit}
use Rattle.rcce_audit.specs.Grammar.{log_rank_said, comm_said, begins_comm}
use Rattle.rcce_audit.specs.Words.{◌>>=◌, only_if, log_words_of, exact_range_said}
use Rattle.texts.specs.Cuts.{lines_of}
use Rattle.trace_text.specs.declared.faults.TraceKind.{TraceKind}
use Rattle.trace_text.specs.declared.faults.TraceKind.TheVariants as kind
use Rattle.trace_text.specs.declared.faults.TraceFault.{TraceFault}
use Rattle.trace_text.specs.Traces.{TraceView, most_trace_bytes, most_trace_lines, most_line_bytes}
use Rattle.trace_text.specs.Words.{dot_parts, comma_parts, hex_word_said, place_said, register_place_said, is_comment, layout_said}

-- a load of a word
abbrev pub load_event_said : (place value : List ℕ) → Option Event
load_event_said place value = place_said (dot_parts place) >>= λ p. hex_word_said value >>= λ v. Some (load_of p v)

-- a store of a word
abbrev pub store_event_said : (place value : List ℕ) → Option Event
store_event_said place value = place_said (dot_parts place) >>= λ p. hex_word_said value >>= λ v. Some (store_of p v)

-- a take of a register has 1 where it took it, and 0 where it found it taken
abbrev pub take_event_said : (place value : List ℕ) → Option Event
take_event_said place value =
    register_place_said (dot_parts place) >>= λ c. hex_word_said value >>= λ v. only_if (nat_le v 1) (take_of c (v == 1))

-- a free has 0
abbrev pub free_event_said : (place value : List ℕ) → Option Event
free_event_said place value = register_place_said (dot_parts place) >>= λ c. hex_word_said value >>= λ v. only_if (v == 0) (free_of c)

-- the event of an access, by its name
abbrev pub access_said : (access place value : List ℕ) → Option Event
access_said access place value =
    if bytes_eq access (codes "load") then load_event_said place value
    else if bytes_eq access (codes "store") then store_event_said place value
    else if bytes_eq access (codes "take") then take_event_said place value
    else if bytes_eq access (codes "free") then free_event_said place value
    else None

-- the event of a rank, by the words of its line
abbrev pub event_by : ℕ → (rank access place value : List ℕ) → Option RankEvent
event_by nue rank access place value =
    log_rank_said nue rank >>= λ r. access_said access place value >>= λ e. Some (record { rank = r; event = e })

-- the event of a line, by its words: rank, access, place and value, and maybe a comment
abbrev pub event_said : ℕ → List (List ℕ) → Option RankEvent
event_said nue (rank ∷ access ∷ place ∷ value ∷ rest) = if is_comment rest then event_by nue rank access place value else None
event_said nue words = None

-- the cores of the first ranks, in a table for all 48 ranks
pub record HostTable : Type 0 where
  pub count : ℕ
  pub hosts : List ℕ

-- the table where no rank has a core yet
unfoldable pub no_hosts : List ℕ
no_hosts = replicate 48 0

-- one rank more, on a core of its own
abbrev pub host_said : HostTable → List ℕ → Option HostTable
host_said table word = exact_range_said 0 47 word >>= λ c.
    only_if (nat_lt table.count 48 && is_none (rank_below table.count table.hosts c))
    (record { count = table.count + 1; hosts = slice_set table.hosts table.count c })

-- more ranks, each on a core of its own
abbrev pub hosts_said : HostTable → List (List ℕ) → Option HostTable
hosts_said table [] = Some table
hosts_said table (word ∷ words) = host_said table word >>= λ next. hosts_said next words

-- what the first line says: how many ranks, the layout, and the core of each rank
pub record TraceHead : Type 0 where
  pub nue : ℕ
  pub layout : Layout
  pub hosts : List ℕ

-- a core for each of the ranks, no two the same
abbrev pub all_hosts_said : ℕ → List ℕ → Option (List ℕ)
all_hosts_said nue word =
    hosts_said (record { count = 0; hosts = no_hosts }) (comma_parts word) >>= λ table. only_if (table.count == nue) table.hosts

-- the head that three words say: 1 to 48 ranks, a layout and a core for each rank
abbrev pub head_values_said : (nue layout hosts : List ℕ) → Option TraceHead
head_values_said nue layout hosts =
    exact_range_said 1 48 nue >>= λ n. layout_said layout >>= λ l. all_hosts_said n hosts
    >>= λ h. Some (record { nue = n; layout = l; hosts = h })

-- the words of the first line that are always the same
abbrev pub are_head_words : (rcce trace version ranks flags cores : List ℕ) → Bool
are_head_words rcce trace version ranks flags cores =
    bytes_eq rcce (codes "rcce") && (bytes_eq trace (codes "trace") && (bytes_eq version (codes "1")
    && (bytes_eq ranks (codes "nue") && (bytes_eq flags (codes "layout") && bytes_eq cores (codes "hosts")))))

-- the words of the first line: `rcce trace 1 nue NUE layout LAYOUT hosts CORE,CORE,..`
abbrev pub head_of_words : List (List ℕ) → Option TraceHead
head_of_words (rcce ∷ trace ∷ version ∷ ranks ∷ nue ∷ flags ∷ layout ∷ cores ∷ hosts ∷ []) =
    if are_head_words rcce trace version ranks flags cores then head_values_said nue layout hosts else None
head_of_words words = None

-- how far a trace is read: what its lines so far say, and its last communicator
pub record TraceReading : Type 0 where
  pub trace : TraceView
  pub comm : ℕ

-- the first line is read
abbrev pub after_head : TraceHead → TraceReading
after_head head =
    record {
      trace = record {
        setup = record { nue = head.nue; layout = head.layout; hosts = head.hosts; comms = world_alone };
        events = [];
      };
      comm = 0;
    }

-- the reading with one communicator more, which stands before all events
abbrev pub split_added : TraceReading → CommSplit → Option TraceReading
split_added reading split =
    only_if (length reading.trace.events == 0)
    (record reading {
      trace = record reading.trace {
        setup = record reading.trace.setup {
          comms = slice_set reading.trace.setup.comms split.comm split.rule;
        };
      };
      comm = split.comm;
    })

-- the reading with one event more
abbrev pub event_added : TraceReading → RankEvent → TraceReading
event_added reading e = record reading { trace = record reading.trace { events = reading.trace.events ++ e ∷ [] } }

-- the reading after a line of a communicator, by its words
abbrev pub split_taken : TraceReading → List (List ℕ) → Option TraceReading
split_taken reading words = comm_said reading.comm reading.trace.setup.comms words >>= split_added reading

-- the reading after a line of an event, by its words
abbrev pub event_taken : TraceReading → List (List ℕ) → Option TraceReading
event_taken reading words = event_said reading.trace.setup.nue words >>= λ e. Some (event_added reading e)

-- the reading after one more line, if the line is of its form and in its place
abbrev pub line_taken : TraceReading → List ℕ → Option TraceReading
line_taken reading line =
    if nat_lt most_line_bytes (length line) then None
    else if begins_comm line then split_taken reading (log_words_of line) else event_taken reading (log_words_of line)

-- what is wrong with a line that is not
abbrev pub line_fault : List ℕ → TraceKind
line_fault line = if begins_comm line then kind.BadComm else kind.BadEvent

-- one step of a reading after another: the second, if the first gave a value
infixl 10 ◌>->◌
abbrev pub ◌>->◌ : {A B : Type 0} → Result A TraceFault → (A → Result B TraceFault) → Result B TraceFault
Ok x >-> next = next x
Err fault >-> next = Err fault

-- the reading after these lines, the first of which has this number
abbrev pub lines_taken : ℕ → TraceReading → List (List ℕ) → Result TraceReading TraceFault
lines_taken number reading [] = Ok reading
lines_taken number reading (line ∷ lines) =
    ok_or (line_taken reading line) (record { line = number; kind = line_fault line }) >-> λ next. lines_taken (number + 1) next lines

-- after the last line feed nothing stands: a line without its line feed is not of its form
abbrev pub last_taken : ℕ → List ℕ → TraceReading → Result TraceView TraceFault
last_taken number [] reading = Ok reading.trace
last_taken number (b ∷ line) reading = Err (record { line = number; kind = line_fault (b ∷ line) })

-- what the first line says, if it is of its form
abbrev pub trace_head_said : List ℕ → Option TraceHead
trace_head_said line = if nat_lt most_line_bytes (length line) then None else head_of_words (log_words_of line)

-- the reading behind the first line, or BadHead
abbrev pub first_taken : List ℕ → Result TraceReading TraceFault
first_taken line = ok_or (option_map after_head (trace_head_said line)) (record { line = 1; kind = kind.BadHead })

-- what these lines say, each with its line feed, and what stands behind the last line feed
abbrev pub all_taken : List (List ℕ) → List ℕ → Result TraceView TraceFault
all_taken [] last = Err (record { line = 1; kind = kind.BadHead })
all_taken (first ∷ lines) last = first_taken first >-> λ reading. lines_taken 2 reading lines >-> last_taken (length lines + 2) last

-- what the parts of a text between its line feeds say
abbrev pub parts_taken : List (List ℕ) → Result TraceView TraceFault
parts_taken parts =
    if nat_lt most_trace_lines (length parts - 1) then Err (record { line = 0; kind = kind.TooLong })
    else all_taken (take (length parts - 1) parts) (slice_index_or parts (length parts - 1) [])

-- what a text says: a trace, or its first fault
abbrev pub trace_of : List ℕ → Result TraceView TraceFault
trace_of bytes =
    if nat_lt most_trace_bytes (length bytes) then Err (record { line = 0; kind = kind.TooLong })
    else parts_taken (lines_of bytes)
