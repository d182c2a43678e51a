-- The texts of lines with their line feeds.
use Rattle.std.specs.Prelude.{ℕ, List, [], ◌∷◌, ◌++◌}
use Rattle.scc_base.specs.Calls.{DataCall}
use Rattle.rcce_audit.specs.declared.logs.LogCall.{LogCall}
use Rattle.rcce_audit.specs.Texts.{call_words, line_of}
use Rattle.rcce_audit.specs.Views.{data_of}

-- a line of words with its line feed
abbrev pub line_with_feed : List (List ℕ) → List ℕ
line_with_feed words = line_of words ++ 10 ∷ []

-- the line of a rank's call
abbrev pub line_by : ℕ → DataCall → List ℕ
line_by rank call = line_with_feed (call_words rank call)

-- the line of a rank's call, as the call is held
abbrev pub call_text : ℕ → LogCall → List ℕ
call_text rank call = line_by rank (data_of call)
