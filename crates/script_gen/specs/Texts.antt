-- The script that the launcher makes of a number (this project's profile).
use Rattle.std.specs.Prelude.{ℕ, ◌+◌, ◌%◌, ◌==◌, if◌then◌else◌, List, [], ◌∷◌, ◌++◌, codes, decimal, map}
use Rattle.rcce_io.specs.Sending.{joined_texts}

-- lines that stand where there is a second rank to send to
abbrev pub with_others : ℕ → List (List ℕ) → List (List ℕ)
with_others nue lines = if nue == 1 then [] else lines

-- how often a generated script goes round the ring
abbrev pub turns_of : ℕ → ℕ
turns_of s = 1 + s % 10

-- the line that fills a register with `s` bytes
abbrev pub fill_line : ℕ → List ℕ
fill_line s = codes "fill h " ++ (decimal s ++ (codes " " ++ decimal s))

-- the line that sends that register to the next rank of the ring
abbrev pub send_line : List ℕ
send_line = codes "send +1 h"

-- the line that receives `s` bytes from the rank before
abbrev pub recv_line : ℕ → List ℕ
recv_line s = codes "recv -1 g " ++ decimal s

-- the lines of a section: s bytes go round the ring, with the sum over all ranks of what each has so far, and then a rank
-- prints what it got
abbrev pub section_lines : List ℕ → ℕ → ℕ → List (List ℕ) → List (List ℕ)
section_lines ranks nue s exchange =
    (ranks ∷ fill_line s ∷ codes "rank me long" ∷ (codes "repeat " ++ decimal (turns_of s)) ∷ [])
    ++ (with_others nue exchange
    ++ ((codes "allreduce 0 sum long me me" ∷ codes "end" ∷ [])
    ++ (with_others nue (codes "print g" ∷ [])
    ++ (codes "print long me" ∷ []))))

-- the first lines of a section as a text, those before a turn round the ring, for so many turns
abbrev pub front_text : List ℕ → ℕ → ℕ → List ℕ
front_text ranks s turns =
    joined_texts (ranks ∷ codes "\nfill h " ∷ decimal s ∷ codes " " ∷ decimal s ∷ codes "\nrank me long\nrepeat "
    ∷ decimal turns ∷ codes "\n" ∷ [])

-- its last lines, those behind a turn, where those that print what came are given as they stand in the text
abbrev pub back_text : List ℕ → List ℕ
back_text shown = joined_texts (codes "allreduce 0 sum long me me\nend\n" ∷ shown ∷ codes "print long me\n" ∷ [])

-- a section as a text, where the lines of a turn are given so too
unfoldable pub section_text : List ℕ → ℕ → List ℕ → List ℕ → List ℕ
section_text ranks s exchange shown = front_text ranks s (turns_of s) ++ (exchange ++ back_text shown)

-- the lines of the script of a number s for nue ranks: the even ranks send first, and the odd ones receive first
abbrev pub gen_lines : ℕ → ℕ → List (List ℕ)
gen_lines nue s =
    section_lines (codes "even") nue s (send_line ∷ recv_line s ∷ []) ++ section_lines (codes "odd") nue s (recv_line s ∷ send_line ∷ [])

-- a text of lines: each ends with a line feed
abbrev pub text_of_lines : List (List ℕ) → List ℕ
text_of_lines lines = joined_texts (map (λ line. line ++ codes "\n") lines)

-- the text of the script of a number s for nue ranks
abbrev pub gen_text : ℕ → ℕ → List ℕ
gen_text nue s = text_of_lines (gen_lines nue s)
