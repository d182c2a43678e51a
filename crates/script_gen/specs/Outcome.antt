-- The line that a run of a generated script comes to (this project's profile of `rccerun`).
use Rattle.std.specs.Prelude.{ℕ, ◌%◌, ◌^◌, List, [], ◌∷◌, codes, decimal, length, sum_by}
use Rattle.std.specs.List.{sum}
use Rattle.rcce_io.specs.Sending.{joined_texts}
use Rattle.scc_base.specs.Calls.{DataCall}
use Rattle.scc_base.specs.Calls.DataCall.{Send, Post}
use Rattle.script_plain.specs.declared.matches.Match.{Match}
use Rattle.plain_meaning.specs.Ends.{Ended}
use Rattle.script_plain.specs.Matches.{plain_matches}
use Rattle.plain_meaning.specs.Meaning.{State, plain_ends}
use Rattle.plain_meaning.specs.Step.{Configuration}
use Rattle.script_rules.specs.Script.{Script}
use Rattle.script_gen.specs.Scripts.{gen_script_of}

-- how many messages a call has sent: a send or a post one, another call none
abbrev pub sends_of_call : DataCall → ℕ
sends_of_call (Send to head bytes) = 1
sends_of_call (Post to head bytes) = 1
sends_of_call _ = 0

-- how many bytes a call has sent
abbrev pub sent_bytes_of : DataCall → ℕ
sent_bytes_of (Send to head bytes) = length bytes
sent_bytes_of (Post to head bytes) = length bytes
sent_bytes_of _ = 0

-- how many messages all ranks have sent
abbrev pub all_sends : Configuration State → ℕ
all_sends c = sum_by (λ u. sum_by sends_of_call u.matched) c.cells

-- how many bytes all ranks have sent
abbrev pub all_sent_bytes : Configuration State → ℕ
all_sent_bytes c = sum_by (λ u. sum_by sent_bytes_of u.matched) c.cells

-- the bytes of messages that came
abbrev pub message_bytes : List Match → ℕ
message_bytes matches = sum_by (λ m. m.head.len) matches

-- the sum of all bytes in the items that a rank printed
abbrev pub item_bytes : Ended → ℕ
item_bytes ue = sum_by (λ item. sum item.bytes) ue.printed

-- the sum of all bytes in the items that all ranks printed, modulo 2 ^ 32
abbrev pub printed_sum : List Ended → ℕ
printed_sum ends = sum_by item_bytes ends % 2 ^ 32

-- the line, by its numbers
abbrev pub counts_line : ℕ → ℕ → ℕ → ℕ → ℕ → List ℕ
counts_line nue s sends bytes sum =
    joined_texts (codes "gen " ∷ decimal s ∷ codes " ues " ∷ decimal nue ∷ codes " sends " ∷ decimal sends ∷ codes " bytes " ∷ decimal bytes
    ∷ codes " sum " ∷ decimal sum ∷ codes "\n" ∷ [])

-- the line of a run of a script that was made of a number: how many messages came, with how many bytes, and the sum of what was
-- printed
abbrev pub script_line : ℕ → Script → List ℕ
script_line s script =
    counts_line script.nue s (length (plain_matches script)) (message_bytes (plain_matches script)) (printed_sum (plain_ends script))

-- the line of the script of a number s for nue ranks
abbrev pub gen_line : ℕ → ℕ → List ℕ
gen_line nue s = script_line s (gen_script_of nue s)
