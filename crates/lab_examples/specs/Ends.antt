-- Whole labs and their results.
use Rattle.std.specs.Prelude.{ℕ, List, Option, None, Some, Result, Ok}
use Rattle.scc_base.specs.Places.{WordAt, word_of_line}
use Rattle.lab_reader.specs.declared.faults.LabFault.{LabFault}
use Rattle.lab_reader.specs.Places.{heap_line}
use Rattle.lab_reader.specs.Reading.{◌>=>◌, lab_of}
use Rattle.lab_plain.specs.declared.said.Stopped.{Stopped}
use Rattle.lab_plain.specs.declared.said.Stopped.TheVariants as stopped
use Rattle.lab_plain.specs.Meaning.{lab_done}

-- the end of a lab's text: why the lab stops, if it does, or the text's first fault
abbrev pub end_of_text : List ℕ → Result (Option Stopped) LabFault
end_of_text text = lab_of text >=> λ steps. Ok (lab_done steps).stop

-- a word of a heap line, which a lab names `K:L.W`
abbrev pub heap_word : ℕ → ℕ → ℕ → WordAt
heap_word core number word = word_of_line (heap_line core number) word

-- the lab stops because the read in this line of the file returned another value than the expected one
abbrev pub loses_at : ℕ → WordAt → ℕ → ℕ → Result (Option Stopped) LabFault
loses_at line at came expected = Ok (Some (stopped.Value line at came expected))

-- the lab ends: each read returned the expected value
abbrev pub all_came : Result (Option Stopped) LabFault
all_came = Ok None
