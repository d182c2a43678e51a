-- The text of a log: lines of words with single blanks between, a line feed after each line, decimals without leading
-- zeros, bytes as hex digits in lower case and `-` for none (this project's profile).
use Rattle.std.specs.Prelude.{ℕ, ◌+◌, ◌≤◌, List, [], ◌∷◌, ◌++◌, codes, decimal, flat_map, length, map}
use Rattle.std.specs.List.{join_with_byte}
use Rattle.rcce_io.specs.Digits.{hex_text}
use Rattle.scc_base.specs.declared.communicators.CommRule.{CommRule}
use Rattle.scc_base.specs.declared.communicators.CommRule.TheVariants.{Absent, World, Mod, Div}
use Rattle.scc_base.specs.Heads.{MessageHead, kind_at, kind_text}
use Rattle.scc_base.specs.Calls.{DataCall, Send, Recv, Post, Bar}
use Rattle.rcce_audit.specs.Logs.{LogView, IsLog, most_log_bytes}

-- the words of the first line
abbrev pub head_words : ℕ → List (List ℕ)
head_words nue = codes "rcce" ∷ codes "log" ∷ decimal nue ∷ []

-- the words of the line of a communicator
abbrev pub split_words : ℕ → ℕ → List ℕ → ℕ → List (List ℕ)
split_words comm parent how k = codes "comm" ∷ decimal comm ∷ decimal parent ∷ how ∷ decimal k ∷ []

-- the words of the line of a message
abbrev pub message_words : ℕ → List ℕ → ℕ → MessageHead → List ℕ → List (List ℕ)
message_words r verb peer head bytes =
    decimal r ∷ verb ∷ decimal peer ∷ kind_text (kind_at head.kind) ∷ decimal head.comm ∷ decimal head.len ∷ hex_text bytes ∷ []

-- the words of the line of a call
abbrev pub call_words : ℕ → DataCall → List (List ℕ)
call_words r (Send to head bytes) = message_words r (codes "send") to head bytes
call_words r (Recv from head bytes) = message_words r (codes "recv") from head bytes
call_words r (Post to head bytes) = message_words r (codes "post") to head bytes
call_words r (Bar comm) = decimal r ∷ codes "bar" ∷ decimal comm ∷ []

-- a line of words, without its line feed
abbrev pub line_of : List (List ℕ) → List ℕ
line_of words = join_with_byte 32 words

-- the line of a communicator, where it is a split
abbrev pub rule_lines : ℕ → CommRule → List (List ℕ)
rule_lines comm Absent = []
rule_lines comm World = []
rule_lines comm (Mod parent k) = line_of (split_words comm parent (codes "mod") k) ∷ []
rule_lines comm (Div parent k) = line_of (split_words comm parent (codes "div") k) ∷ []

-- the lines of a rank's calls
abbrev pub call_lines : ℕ → List DataCall → List (List ℕ)
call_lines r calls = map (λ call. line_of (call_words r call)) calls

-- the lines of the things in a table, the first of which has this number
abbrev pub table_lines : {X : Type 0} → (ℕ → X → List (List ℕ)) → ℕ → List X → List (List ℕ)
table_lines lines n [] = []
table_lines lines n (x ∷ rest) = lines n x ++ table_lines lines (n + 1) rest

-- the lines of a log: its first line, the lines of its communicators, and the calls by rank, each rank's in order
abbrev pub log_lines : LogView → List (List ℕ)
log_lines log = line_of (head_words log.nue) ∷ (table_lines rule_lines 0 log.comms ++ table_lines call_lines 0 log.lists)

-- lines, each with its line feed
abbrev pub text_of : List (List ℕ) → List ℕ
text_of lines = flat_map (λ line. line ++ 10 ∷ []) lines

-- the text of a log
abbrev pub log_text : LogView → List ℕ
log_text log = text_of (log_lines log)

-- a log that a file may have: one whose text is not too long
pub record IsFileLog (log : LogView) : Type 0 where
  pub written : IsLog log
  pub fits : length (log_text log) ≤ most_log_bytes
