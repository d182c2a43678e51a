-- Which words messages stand in, and which events write them (this project's profile).
use Rattle.std.specs.Prelude.{Bool, true, false}
use Rattle.scc_base.specs.Places.{WordAt}
use Rattle.scc_base.specs.Setups.{SetupView}
use Rattle.scc_base.specs.declared.events.Access.{Access}
use Rattle.scc_base.specs.declared.events.Access.TheVariants.{Store}
use Rattle.scc_base.specs.declared.events.Event.{Event}
use Rattle.scc_proto.specs.Words.{Role, HeaderWord, ChunkWord, role_of}

-- the word is one of a header line or of a chunk buffer
abbrev pub is_message_word : Role → Bool
is_message_word (HeaderWord owner k) = true
is_message_word (ChunkWord owner k) = true
is_message_word role = false

-- the access is a store of a word of a header line or of a chunk buffer
abbrev pub is_draft_by : SetupView → Access → WordAt → Bool
is_draft_by s Store place = is_message_word (role_of s place)
is_draft_by s access place = false

-- the event is a store of a header word or of a chunk word
abbrev pub is_draft : SetupView → Event → Bool
is_draft s e = is_draft_by s e.access e.place
