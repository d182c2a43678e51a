-- The text of a piece of a line.
use Rattle.std.specs.Prelude.{ℕ, List, decimal}
use Rattle.rcce_io.specs.declared.piece.Piece.{Piece}
use Rattle.rcce_io.specs.declared.piece.Piece.TheVariants.{Text, Number, Hex}
use Rattle.rcce_io.specs.Digits.{hex_text}

-- a piece as text: its own text, a number in decimal, or bytes in hex
abbrev pub piece_text : Piece → List ℕ
piece_text (Text text) = text.now
piece_text (Number n) = decimal n
piece_text (Hex bytes) = hex_text bytes.now
