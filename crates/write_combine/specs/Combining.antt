-- The write-combining buffer of a core: at most one line, of which some words were written (SCC External
-- Architecture Specification). Which words were written is a list of four truths.
use Rattle.std.specs.Prelude.{◌≡◌, ℕ, true, false, if◌then◌else◌, List, [], ◌∷◌, Option, None, Some, slice_index, slice_set, IfSome}
use Rattle.std.specs.List.{list_any}
use Rattle.scc_base.specs.Places.{LineAt, WordAt, line_of_word, same_line}
use Rattle.write_combine.specs.declared.combiner.Out.{Out}

-- a line of which this one word was written
abbrev pub one_word : WordAt → ℕ → Out
one_word p v = record {
  line = line_of_word p;
  words = slice_set (0 ∷ 0 ∷ 0 ∷ 0 ∷ []) p.word v;
  mask = slice_set (false ∷ false ∷ false ∷ false ∷ []) p.word true;
}

-- a line with one more word written; a word that was written before is replaced
abbrev pub with_word : Out → ℕ → ℕ → Out
with_word o word v = record {
  line = o.line;
  words = slice_set o.words word v;
  mask = slice_set o.mask word true;
}

-- a line of which all words were written
abbrev pub whole_line : LineAt → List ℕ → Out
whole_line line words = record {
  line = line;
  words = slice_index words 0 ∷ slice_index words 1 ∷ slice_index words 2 ∷ slice_index words 3 ∷ [];
  mask = true ∷ true ∷ true ∷ true ∷ [];
}

-- what leaves the buffer when words of this line are written: a line that is another one
abbrev pub handed_out : Option Out → LineAt → Option Out
handed_out None line = None
handed_out (Some o) line = if same_line o.line line then None else Some o

-- what the buffer holds after a word was written
abbrev pub held_after : Option Out → WordAt → ℕ → Out
held_after None p v = one_word p v
held_after (Some o) p v = if same_line o.line (line_of_word p) then with_word o p.word v else one_word p v

-- some word of the line was written
abbrev pub HasWord : Out → Type 0
HasWord o = list_any (λ written. written) o.mask ≡ true

-- a held line has such a word
abbrev pub HoldsWord : Option Out → Type 0
HoldsWord held = IfSome held HasWord
