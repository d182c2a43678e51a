-- The pieces of printed lines, and the lines (this project's profile of `rccerun`).
use Rattle.std.specs.Prelude.{ℕ, ◌/◌, List, [], ◌∷◌, ◌++◌, codes, decimal, length, map}
use Rattle.std.specs.Fmt.{signed_decimal}
use Rattle.std.specs.List.{range_with_len}
use Rattle.groups.specs.declared.operations.Ty.{Ty}
use Rattle.groups.specs.declared.operations.Ty.TheVariants.{Int, Long}
use Rattle.groups.specs.Folds.{bytes_in, typed_value_at}
use Rattle.rcce_io.specs.Digits.{hex_text}
use Rattle.rcce_io.specs.Sending.{joined_texts}
use Rattle.scc_base.specs.Heads.{MessageHead, kind_at, kind_text}
use Rattle.script_rules.specs.declared.script.Form.{Form}
use Rattle.script_rules.specs.declared.script.Form.TheVariants as form
use Rattle.scc_base.specs.declared.calls.Call.{Call}
use Rattle.scc_base.specs.declared.calls.Call.TheVariants as call

-- a head: its kind, its communicator and its length
abbrev pub head_pieces : MessageHead → List (List ℕ)
head_pieces head = kind_text (kind_at head.kind) ∷ codes " " ∷ decimal head.comm ∷ codes " " ∷ decimal head.len ∷ []

-- a message that a unit of execution waits with or for: what it does, the other rank and the head
abbrev pub message_pieces : List ℕ → ℕ → MessageHead → List (List ℕ)
message_pieces does peer head = does ∷ decimal peer ∷ codes " " ∷ head_pieces head

-- the call that a unit of execution waits in
abbrev pub call_pieces : Call → List (List ℕ)
call_pieces (call.Send to head) = message_pieces (codes "send to ") to head
call_pieces (call.Recv from head) = message_pieces (codes "recv from ") from head
call_pieces (call.Post to head) = message_pieces (codes "post to ") to head
call_pieces (call.Bar comm) = codes "barrier " ∷ decimal comm ∷ []

-- the name of a type of values
abbrev pub type_text : Ty → List ℕ
type_text Int = codes "int"
type_text Long = codes "long"

-- the i-th value of a list of bytes, behind a blank
abbrev pub value_text : Ty → List ℕ → ℕ → List ℕ
value_text ty bytes i = codes " " ++ signed_decimal (typed_value_at ty bytes i)

-- `count` values of a list of bytes from the value `first` on, each behind a blank
abbrev pub values_text_from : Ty → List ℕ → (first count : ℕ) → List ℕ
values_text_from ty bytes first count = joined_texts (map (value_text ty bytes) (range_with_len first count))

-- the values of a list of bytes, each behind a blank
abbrev pub values_text : Ty → List ℕ → List ℕ
values_text ty bytes = values_text_from ty bytes 0 (length bytes / bytes_in ty)

-- the front of the line of a printed register: the rank, and the name
abbrev pub item_front : (rank : ℕ) (name : List ℕ) → List ℕ
item_front rank name = codes "ue " ++ ((decimal rank ++ codes " ") ++ (name ++ codes " "))

-- a register that a unit of execution printed, by the form that it was printed in
abbrev pub item_line : ℕ → List ℕ → Form → List ℕ → List ℕ
item_line rank name form.Hex bytes =
    joined_texts (codes "ue " ∷ decimal rank ∷ codes " " ∷ name ∷ codes " " ∷ hex_text bytes ∷ codes "\n" ∷ [])
item_line rank name (form.Decimal ty) bytes =
    joined_texts (codes "ue " ∷ decimal rank ∷ codes " " ∷ name ∷ codes " " ∷ type_text ty ∷ values_text ty bytes ∷ codes "\n" ∷ [])

-- a unit of execution that waits at a line of the script
abbrev pub waiting_line : ℕ → ℕ → List (List ℕ) → List ℕ
waiting_line rank line pieces =
    joined_texts ((codes "ue " ∷ decimal rank ∷ codes " waits at line " ∷ decimal line ∷ codes ": " ∷ []) ++ pieces ++ (codes "\n" ∷ []))

-- a unit of execution whose receive met another head than it asked for
abbrev pub mismatch_line : ℕ → ℕ → ℕ → MessageHead → MessageHead → List ℕ
mismatch_line rank line from sent asked =
    joined_texts ((codes "ue " ∷ decimal rank ∷ codes " mismatch at line " ∷ decimal line ∷ codes ": from " ∷ decimal from
    ∷ codes " sent " ∷ [])
    ++ head_pieces sent ++ (codes ", asked " ∷ []) ++ head_pieces asked ++ (codes "\n" ∷ []))
