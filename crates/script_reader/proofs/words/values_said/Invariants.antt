use Rattle.std.proofs.Common.{◌≡◌, [], drop, map}
use Rattle.script_reader.specs.Said.{values_said}
use Rattle.script_reader.proofs.words.values_said.Given as goal

-- the words that are left, read after the bytes so far, give the result of all words
abbrev pub invariant-loop-word : goal.invariant-loop-word
invariant-loop-word l = values_said l.ty l.bytes.items (map (λ word. word.now) (drop l.word-index l.words)) ≡ values_said l.ty [] (map (λ word. word.now) l.words)
