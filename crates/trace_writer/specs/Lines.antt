-- The text of a trace: the first line, the communicators that are splits, and one line an event (this project's profile;
-- docs/TRACE.md).
use Rattle.std.specs.Prelude.{ℕ, ◌+◌, ◌==◌, if◌then◌else◌, List, [], ◌∷◌, ◌++◌, codes, decimal, map}
use Rattle.std.specs.Int.{w64, to_be_bytes}
use Rattle.std.specs.List.{range_with_len}
use Rattle.rcce_io.specs.Digits.{hex_text}
use Rattle.rcce_io.specs.Sending.{joined_texts}
use Rattle.scc_base.specs.Communicators.{rule_of}
use Rattle.scc_base.specs.Places.{WordAt}
use Rattle.scc_base.specs.Setups.{SetupView, host_of}
use Rattle.scc_base.specs.declared.communicators.CommRule.{CommRule}
use Rattle.scc_base.specs.declared.communicators.CommRule.TheVariants.{Absent, World, Mod, Div}
use Rattle.scc_base.specs.declared.events.Access.{Access}
use Rattle.scc_base.specs.declared.events.Access.TheVariants.{Load, Store, Take, Free}
use Rattle.scc_base.specs.declared.layouts.Layout.{Layout}
use Rattle.scc_base.specs.declared.layouts.Layout.TheVariants.{LineFlags, BitFlags}
use Rattle.scc_base.specs.declared.signals.Signal.{Signal}
use Rattle.scc_base.specs.declared.signals.Signal.TheVariants.{Sent, Ready}
use Rattle.scc_proto.specs.Words.{Role, HeaderWord, ChunkWord, SignalFlag, SignalFlags, GatherFlag, ReleaseFlag, HeapWord, IdleWord, RankEvent, role_of}

-- the name of a layout
abbrev pub layout_name : Layout → List ℕ
layout_name LineFlags = codes "words"
layout_name BitFlags = codes "bits"

-- the name of an access
abbrev pub access_name : Access → List ℕ
access_name Load = codes "load"
access_name Store = codes "store"
access_name Take = codes "take"
access_name Free = codes "free"

-- what each word of a header line says
abbrev pub header_word_name : ℕ → List ℕ
header_word_name word =
    if word == 0 then codes "kind" else if word == 1 then codes "comm" else if word == 2 then codes "length" else codes "posted"

-- the name of a signal
abbrev pub signal_name : Signal → List ℕ
signal_name Sent = codes "sent"
signal_name Ready = codes "ready"

-- what a word is for, told to people
abbrev pub role_words : Role → List (List ℕ)
role_words (HeaderWord owner word) = codes "header of " ∷ decimal owner ∷ codes ": " ∷ header_word_name word ∷ []
role_words (ChunkWord owner word) = codes "chunk word " ∷ decimal word ∷ codes " of " ∷ decimal owner ∷ []
role_words (SignalFlag signal by at) = signal_name signal ∷ codes " of " ∷ decimal by ∷ codes " to " ∷ decimal at ∷ []
role_words (SignalFlags signal at) = signal_name signal ∷ codes " flags of " ∷ decimal at ∷ []
role_words (GatherFlag comm owner) = codes "gather of " ∷ decimal owner ∷ codes " in comm " ∷ decimal comm ∷ []
role_words (ReleaseFlag comm owner) = codes "release of " ∷ decimal owner ∷ codes " in comm " ∷ decimal comm ∷ []
role_words HeapWord = codes "heap" ∷ []
role_words IdleWord = codes "nobody's" ∷ []

-- where an access is: the line and word behind its core, or the core's register
abbrev pub place_words : Access → WordAt → List (List ℕ)
place_words Load place = codes "." ∷ decimal place.line ∷ codes "." ∷ decimal place.word ∷ []
place_words Store place = codes "." ∷ decimal place.line ∷ codes "." ∷ decimal place.word ∷ []
place_words Take place = codes ".register" ∷ []
place_words Free place = codes ".register" ∷ []

-- what the place of an access is for
abbrev pub comment_words : SetupView → Access → WordAt → List (List ℕ)
comment_words s Load place = role_words (role_of s place)
comment_words s Store place = role_words (role_of s place)
comment_words s Take place = codes "register" ∷ []
comment_words s Free place = codes "register" ∷ []

-- the line of an event: its rank, the access, the place, the value in 16 hex digits, and behind a `#` what the word is for
abbrev pub event_line : SetupView → RankEvent → List ℕ
event_line s e =
    joined_texts (decimal e.rank ∷ codes " " ∷ access_name e.event.access ∷ codes " " ∷ decimal e.event.place.core ∷ [])
    ++ (joined_texts (place_words e.event.access e.event.place)
    ++ (codes " " ++ (hex_text (to_be_bytes w64 e.event.value)
    ++ (codes " # " ++ (joined_texts (comment_words s e.event.access e.event.place) ++ codes "\n")))))

-- what stands before the core of a rank
abbrev pub comma_before : ℕ → List ℕ
comma_before rank = if rank == 0 then codes "" else codes ","

-- the core of a rank, behind a comma but for the first
abbrev pub host_words : SetupView → ℕ → List ℕ
host_words s rank = joined_texts (comma_before rank ∷ decimal (host_of s.hosts rank) ∷ [])

-- the line of a communicator that is a split
abbrev pub split_line : ℕ → ℕ → List ℕ → ℕ → List ℕ
split_line comm parent how parts =
    joined_texts (codes "comm " ∷ decimal comm ∷ codes " " ∷ decimal parent ∷ how ∷ decimal parts ∷ codes "\n" ∷ [])

-- the line of a communicator, and no line where it is no split
abbrev pub comm_line : ℕ → CommRule → List ℕ
comm_line comm Absent = []
comm_line comm World = []
comm_line comm (Mod parent k) = split_line comm parent (codes " mod ") k
comm_line comm (Div parent k) = split_line comm parent (codes " div ") k

-- the line of the communicator behind this one, where it is a split
abbrev pub comm_line_after : SetupView → ℕ → List ℕ
comm_line_after s comm = comm_line (comm + 1) (rule_of s.comms (comm + 1))

-- the first line, and those of the communicators
abbrev pub first_lines : SetupView → List ℕ
first_lines s =
    joined_texts (codes "rcce trace 1 nue " ∷ decimal s.nue ∷ codes " layout " ∷ layout_name s.layout ∷ codes " hosts " ∷ [])
    ++ (joined_texts (map (host_words s) (range_with_len 0 s.nue))
    ++ (codes "\n" ++ joined_texts (map (comm_line_after s) (range_with_len 0 15))))

-- the text of a trace
abbrev pub trace_text : SetupView → List RankEvent → List ℕ
trace_text s run = first_lines s ++ joined_texts (map (event_line s) run)
