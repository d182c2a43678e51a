-- The lines of `rccecheck` (this project's profile).
use Rattle.std.specs.Prelude.{ℕ, List, [], ◌∷◌, ◌++◌, codes, decimal, map}
use Rattle.rcce_io.specs.Sending.{joined_texts}
use Rattle.scc_base.specs.Heads.{kind_at, kind_text}
use Rattle.script_plain.specs.declared.matches.Match.{Match}
use Rattle.check_program.specs.declared.causes.Cause.{Cause}
use Rattle.check_program.specs.declared.causes.Cause.TheVariants as cause
use Rattle.check_program.specs.declared.trouble.Found.{Found}
use Rattle.check_program.specs.declared.trouble.Trouble.{Trouble}
use Rattle.check_program.specs.declared.trouble.Trouble.TheVariants as trouble

-- a message that came: the sender and its line, the receiver and its line, and the head
abbrev pub match_line : Match → List ℕ
match_line one =
    joined_texts (decimal one.from ∷ codes ":" ∷ decimal one.send_line ∷ codes " -> " ∷ decimal one.to ∷ codes ":"
    ∷ decimal one.recv_line ∷ codes " "
    ∷ kind_text (kind_at one.head.kind) ∷ codes " " ∷ decimal one.head.comm ∷ codes " " ∷ decimal one.head.len ∷ codes "\n" ∷ [])

-- the name of a cause, and the rank that it is about
abbrev pub cause_name : Cause → List ℕ
cause_name (cause.Finished rank) = codes "finished "
cause_name (cause.Mismatch rank) = codes "mismatch "
cause_name (cause.Cycle rank) = codes "cycle "

-- the rank that a cause is about
abbrev pub cause_rank : Cause → ℕ
cause_rank (cause.Finished rank) = rank
cause_rank (cause.Mismatch rank) = rank
cause_rank (cause.Cycle rank) = rank

-- the line of a rank that has not finished
abbrev pub trouble_line : ℕ → Trouble → List ℕ
trouble_line rank trouble.Finished = []
trouble_line rank (trouble.Waits on why) =
    joined_texts (codes "ue " ∷ decimal rank ∷ codes " waits for " ∷ decimal on ∷ codes ", cause " ∷ cause_name why
    ∷ decimal (cause_rank why)
    ∷ codes "\n" ∷ [])
trouble_line rank (trouble.Mismatch from) =
    joined_texts (codes "ue " ∷ decimal rank ∷ codes " mismatch with " ∷ decimal from ∷ codes "\n" ∷ [])

-- a line, or nothing for a rank that has finished
abbrev pub found_line : Found → List ℕ
found_line found = trouble_line found.rank found.trouble

-- a line for each message, and then one for each rank that has not finished
abbrev pub check_text : List Match → List Found → List ℕ
check_text matches found = joined_texts (map match_line matches) ++ joined_texts (map found_line found)
