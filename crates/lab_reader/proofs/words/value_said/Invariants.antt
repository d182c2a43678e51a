use Rattle.std.proofs.Common.{◌≡◌, drop}
use Rattle.lab_reader.specs.Words.{digits_said}
use Rattle.lab_reader.proofs.words.value_said.Given as goal

-- the digits that remain, after the value so far, have the value of all
abbrev pub invariant-loop-b : goal.invariant-loop-b
invariant-loop-b l = digits_said l.value (drop l.b-index l.word) ≡ digits_said 0 l.word
