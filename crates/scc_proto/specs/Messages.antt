-- Messages, their chunks, and the words of a buffer that a rank has noted (this project's profile of
-- RCCE's messages: a header line, and chunks of the size of the chunk buffer).
use Rattle.std.specs.Prelude.{◌≡◌, ℕ, zero, suc, ◌+◌, ◌-◌, ◌*◌, ◌/◌, ◌%◌, min, Bool, true, ◌&&◌, ◌==◌, nat_lt, nat_le, if◌then◌else◌, List, [], ◌∷◌, ◌++◌, Option, Some, None, unwrap_or, is_some}
use Rattle.scc_base.specs.Bytes.{byte_of_word}
use Rattle.scc_base.specs.Heads.{MessageHead, most_message, most_post}
use Rattle.scc_base.specs.Calls.{DataCall, Send, Recv, Post, Bar}
pub use Rattle.scc_base.specs.Calls.{Message}

-- a word with its number in a header line or in a chunk buffer
pub record Note : Type 0 where
  pub number : ℕ
  pub word : ℕ

-- the words that are noted, the newest first
abbrev pub Notes : Type 0
Notes = List Note

-- what is noted under a number
abbrev pub noted_word : Notes → ℕ → Option ℕ
noted_word [] k = None
noted_word (note ∷ notes) k = if k == note.number then Some note.word else noted_word notes k

-- one more word is noted, and counts before what was noted of the same word
abbrev pub note_word : ℕ → ℕ → Notes → Notes
note_word k v notes = record { number = k; word = v } ∷ notes

-- each word that is noted stands in the buffer
abbrev pub StandsIn : Notes → (ℕ → ℕ) → Type 0
StandsIn notes buffer = (k v : ℕ) → noted_word notes k ≡ Some v → buffer k ≡ v

-- the first n words are all noted
unfoldable pub has_all : Notes → ℕ → Bool
has_all notes zero = true
has_all notes (suc n) = is_some (noted_word notes n) && has_all notes n

-- byte b of the noted words, 0 where its word is not noted
abbrev pub byte_at : Notes → ℕ → ℕ
byte_at notes b = byte_of_word (unwrap_or (noted_word notes (b / 8)) 0) (b % 8)

-- n bytes of the noted words, from byte `start` on
unfoldable pub bytes_from : Notes → ℕ → ℕ → List ℕ
bytes_from notes start zero = []
bytes_from notes start (suc n) = byte_at notes start ∷ bytes_from notes (suc start) n

-- the n bytes from byte `start` on are zero
unfoldable pub is_zero_from : Notes → ℕ → ℕ → Bool
is_zero_from notes start zero = true
is_zero_from notes start (suc n) = (byte_at notes start == 0) && is_zero_from notes (suc start) n

-- word k of a message's header line: its kind, its communicator, its length, and 1 for a posted message
abbrev pub header_word : MessageHead → Bool → ℕ → ℕ
header_word head posted zero = head.kind
header_word head posted (suc zero) = head.comm
header_word head posted (suc (suc zero)) = head.len
header_word head posted (suc (suc (suc _))) = if posted then 1 else 0

-- the head that the noted header words say
abbrev pub head_of : Notes → MessageHead
head_of notes =
    record { kind = unwrap_or (noted_word notes 0) 0; comm = unwrap_or (noted_word notes 1) 0; len = unwrap_or (noted_word notes 2) 0 }

-- a head that a message may have
abbrev pub is_head : MessageHead → Bool
is_head head =
    nat_lt head.kind 5 && (nat_lt head.comm 16 && (nat_le head.len most_message && (if head.kind == 0 then head.comm == 0 else true)))

-- a head that a posted message may have
abbrev pub is_post_head : MessageHead → Bool
is_post_head head = (head.kind == 0) && ((head.comm == 0) && nat_le head.len most_post)

-- a message of which some chunks are through, with their bytes
pub record Progress : Type 0 where
  pub head : MessageHead
  pub chunks : ℕ
  pub bytes : List ℕ

-- a message of which nothing is through yet
abbrev pub fresh_message : MessageHead → Progress
fresh_message head = record { head = head; chunks = 0; bytes = [] }

-- the bytes of the chunk in hand, where a whole chunk has `size` bytes
abbrev pub chunk_bytes : ℕ → Progress → ℕ
chunk_bytes size message = min size (message.head.len - size * message.chunks)

-- the words of the lines that the chunk in hand takes, four in a line of 32 bytes
abbrev pub chunk_words : ℕ → Progress → ℕ
chunk_words size message = 4 * ((chunk_bytes size message + 31) / 32)

-- no chunk comes after the one in hand
abbrev pub is_last : ℕ → Progress → Bool
is_last size message = nat_le message.head.len (size * suc message.chunks)

-- all words of the lines of the chunk in hand are noted
abbrev pub is_whole : ℕ → Progress → Notes → Bool
is_whole size message chunk = has_all chunk (chunk_words size message)

-- the bytes of the last line of the chunk in hand past its end are zero
abbrev pub is_padded : ℕ → Progress → Notes → Bool
is_padded size message chunk = is_zero_from chunk (chunk_bytes size message) (8 * chunk_words size message - chunk_bytes size message)

-- the message with the chunk in hand through
abbrev pub with_chunk : ℕ → Progress → Notes → Progress
with_chunk size message chunk =
    record message { chunks = suc message.chunks; bytes = message.bytes ++ bytes_from chunk 0 (chunk_bytes size message) }

-- the message as it is when no chunk is left
abbrev pub message_of : Progress → Message
message_of message = record { head = message.head; bytes = message.bytes }

-- the call that sends a message
abbrev pub send_to : ℕ → Message → DataCall
send_to to message = Send to message.head message.bytes

-- the call that receives a message
abbrev pub recv_from : ℕ → Message → DataCall
recv_from from message = Recv from message.head message.bytes

-- the call that posts a message
abbrev pub post_to : ℕ → Message → DataCall
post_to to message = Post to message.head message.bytes

-- the messages of the finished sends and posts to one rank, in order
abbrev pub sent_messages : ℕ → List DataCall → List Message
sent_messages r [] = []
sent_messages r (Send to head bytes ∷ calls) =
    if to == r then record { head = head; bytes = bytes } ∷ sent_messages r calls else sent_messages r calls
sent_messages r (Post to head bytes ∷ calls) =
    if to == r then record { head = head; bytes = bytes } ∷ sent_messages r calls else sent_messages r calls
sent_messages r (Recv from head bytes ∷ calls) = sent_messages r calls
sent_messages r (Bar comm ∷ calls) = sent_messages r calls

-- the messages of the finished receives from one rank, in order
abbrev pub received_messages : ℕ → List DataCall → List Message
received_messages s [] = []
received_messages s (Send to head bytes ∷ calls) = received_messages s calls
received_messages s (Post to head bytes ∷ calls) = received_messages s calls
received_messages s (Recv from head bytes ∷ calls) =
    if from == s then record { head = head; bytes = bytes } ∷ received_messages s calls else received_messages s calls
received_messages s (Bar comm ∷ calls) = received_messages s calls

-- how many barriers of a communicator are finished
abbrev pub barriers_of : ℕ → List DataCall → ℕ
barriers_of c [] = 0
barriers_of c (Send to head bytes ∷ calls) = barriers_of c calls
barriers_of c (Post to head bytes ∷ calls) = barriers_of c calls
barriers_of c (Recv from head bytes ∷ calls) = barriers_of c calls
barriers_of c (Bar comm ∷ calls) = if comm == c then suc (barriers_of c calls) else barriers_of c calls
