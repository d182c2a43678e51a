-- The lines that `rccetrace` prints of a judged trace (this project's profile).
use Rattle.std.specs.Prelude.{ℕ, ◌==◌, nat_lt, Bool, if◌then◌else◌, List, [], ◌∷◌, ◌++◌, codes, decimal, length, Option, Some, None, Vec}
use Rattle.std.specs.declared.alloc.Global.{Global}
use Rattle.rcce_audit.specs.Views.{data_lists}
use Rattle.rcce_audit.specs.declared.logs.LogCall.{LogCall}
use Rattle.trace_program.specs.declared.finished.FinishedCalls.{FinishedCalls}
use Rattle.std.specs.Int.{w64, to_be_bytes}
use Rattle.rcce_audit.specs.Texts.{call_lines, table_lines, text_of}
use Rattle.rcce_io.specs.Digits.{hex_text}
use Rattle.rcce_io.specs.Sending.{joined_texts}
use Rattle.scc_base.specs.Calls.{DataCall}
use Rattle.scc_base.specs.declared.events.Access.TheVariants.{Load, Store, Take, Free}
use Rattle.trace_judge.specs.declared.judge.Refusal.{Refusal}
use Rattle.trace_judge.specs.declared.judge.Refusal.TheVariants.{OtherValue, NotPermitted}
use Rattle.trace_program.specs.NextTexts.{next_text}

-- the line of a rank: how many calls it has finished
abbrev pub count_line : (r count : ℕ) → List ℕ
count_line r count = joined_texts (codes "rank " ∷ decimal r ∷ codes " finished " ∷ decimal count ∷ codes " calls" ∷ [])

-- the line of a rank of the run, and none of another
abbrev pub count_lines : (nue r count : ℕ) → List (List ℕ)
count_lines nue r count = if nat_lt r nue then count_line r count ∷ [] else []

-- the line of a rank of the run, by its finished calls
abbrev pub finished_lines : ℕ → ℕ → List DataCall → List (List ℕ)
finished_lines nue r calls = count_lines nue r (length calls)

-- the calls of all ranks in the form of a log, where they are asked for
abbrev pub asked_text : Bool → List (List DataCall) → List ℕ
asked_text asked lists = if asked then text_of (table_lines call_lines 0 lists) else []

-- what is printed of a legal trace: the verdict, the line of each rank, and the calls where they are asked for
abbrev pub legal_text : ℕ → Bool → List (List DataCall) → List ℕ
legal_text nue asked lists = codes "legal\n" ++ (text_of (table_lines (finished_lines nue) 0 lists) ++ asked_text asked lists)

-- the lines of the finished calls, as they are kept, where they are asked for
abbrev pub lists_text : Option (Vec (Vec LogCall Global) Global) → List ℕ
lists_text None = []
lists_text (Some lists) = text_of (table_lines call_lines 0 (data_lists lists.items))

-- the text of a legal trace, by the counts and the calls as they are kept
abbrev pub kept_text : ℕ → FinishedCalls → List ℕ
kept_text nue f = codes "legal\n" ++ (text_of (table_lines (count_lines nue) 0 f.counts) ++ lists_text f.lists)

-- what the register of a core answers to a take, by the value in it
abbrev pub register_text : ℕ → List ℕ
register_text found = if found == 0 then codes "the register is free: a take answers 1" else codes "the register is held: a take answers 0"

-- the line of an access that is no step, with the value that it found
abbrev pub no_step_line : (line found : ℕ) → List ℕ
no_step_line line found =
    joined_texts (codes "not legal: line " ∷ decimal line ∷ codes ": the value there is "
    ∷ hex_text (to_be_bytes w64 found) ∷ codes "\n" ∷ [])

-- what is printed of a trace that is not legal: the line of its first event that is refused, and why
abbrev pub refused_text : (line rank : ℕ) → Refusal → List ℕ
refused_text line rank (OtherValue Load found) = no_step_line line found
refused_text line rank (OtherValue Store found) = no_step_line line found
refused_text line rank (OtherValue Take found) =
    joined_texts (codes "not legal: line " ∷ decimal line ∷ codes ": " ∷ register_text found ∷ codes "\n" ∷ [])
refused_text line rank (OtherValue Free found) = no_step_line line found
refused_text line rank (NotPermitted next) =
    joined_texts (codes "not legal: line " ∷ decimal line ∷ codes ": the record of rank " ∷ decimal rank ∷ codes " does not permit it; "
    ∷ next_text next ∷ codes "\n" ∷ [])
