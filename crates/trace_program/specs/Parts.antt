-- The parts of the lines that `rccetrace` prints.
use Rattle.std.specs.Prelude.{ℕ, List, decimal}
use Rattle.trace_program.specs.NextTexts.{next_text}
use Rattle.std.specs.Int.{w64, to_be_bytes}
use Rattle.rcce_io.specs.Digits.{hex_text}
use Rattle.trace_program.specs.declared.report.Part.{Part}
use Rattle.trace_program.specs.declared.report.Part.TheVariants as part

-- a part of a line as text: its own text, a number in decimal, a word in hex, or what a record allows next
abbrev pub trace_part_text : Part → List ℕ
trace_part_text (part.Text text) = text.now
trace_part_text (part.Count n) = decimal n
trace_part_text (part.Value value) = hex_text (to_be_bytes w64 value)
trace_part_text (part.Next next) = next_text next
