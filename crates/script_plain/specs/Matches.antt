-- The messages of a run: its matches and takes in their order, as the step with the lowest owner is taken again and again.
use Rattle.std.specs.Prelude.{ℕ, zero, suc, ◌+◌, if◌then◌else◌, is_some, List, [], ◌∷◌, ◌++◌, length, Option, Some, None, slice_get}
use Rattle.std.specs.Option.{option_map_or}
use Rattle.scc_base.specs.Heads.{MessageHead}
use Rattle.script_plain.specs.declared.matches.Match.{Match}
use Rattle.script_machine.specs.declared.posts.Posted.{Posted}
use Rattle.script_machine.specs.Local.{statement_line}
use Rattle.plain_meaning.specs.Meaning.{keys_of, next_of, start_of, steps_left}
use Rattle.script_machine.specs.Next.{Next}
use Rattle.script_machine.specs.Next.Next.{Ends, Goes, Posts, Sends, Recvs, Bars}
use Rattle.plain_meaning.specs.Step.{Configuration, lowest_step, next_at, same_head, slot_at, step_of}
use Rattle.script_rules.specs.Script.{Script}

-- the line of the statement at which rank i stands
abbrev pub statement_line_at : {U : Type 0} → (U → ℕ) → Configuration U → ℕ → ℕ
statement_line_at line c i = option_map_or line (slice_get c.cells i) 0

-- a message that came, with the ranks and lines of its two calls
abbrev pub match_of : ℕ → ℕ → MessageHead → ℕ → ℕ → Match
match_of from to head send_line recv_line =
    record { from = from; to = to; head = head; send_line = send_line; recv_line = recv_line }

-- the message in a slot, where rank i takes it at a receive from j of this head, in this line. (Else i refuses it.)
abbrev pub brought_by_take : ℕ → ℕ → MessageHead → ℕ → Option Posted → List Match
brought_by_take i j asked line None = []
brought_by_take i j asked line (Some message) =
    if same_head message.head asked then match_of j i message.head message.line line ∷ [] else []

-- the message that an enabled step of rank i brings, if it brings one: that of a match or of a take
abbrev pub brought_by : {U : Type 0} → (U → ℕ) → Configuration U → ℕ → Next U → List Match
brought_by line c i Ends = []
brought_by line c i (Goes after) = []
brought_by line c i (Posts message after) = []
brought_by line c i (Sends to head bytes after) = match_of i to head (statement_line_at line c i) (statement_line_at line c to) ∷ []
brought_by line c i (Recvs from head take refuse) = brought_by_take i from head (statement_line_at line c i) (slot_at c from)
brought_by line c i (Bars comm after) = []

-- the messages that the step of a rank brings: one, or none
abbrev pub messages_brought : {U : Type 0} → (U → Next U) → (U → ℕ) → Configuration U → ℕ → List Match
messages_brought next line c i = brought_by line c i (next_at next c i)

-- what the enabled step with the lowest owner brings, among n ranks from i on
abbrev pub lowest_brought : {U : Type 0} → (ℕ → ℕ → ℕ) → (U → Next U) → (U → ℕ) → Configuration U → ℕ → ℕ → List Match
lowest_brought keys next line c zero i = []
lowest_brought keys next line c (suc n) i =
    if is_some (step_of keys next c i) then messages_brought next line c i else lowest_brought keys next line c n (i + 1)

-- what the step with the lowest owner brings
abbrev pub step_brought : {U : Type 0} → (ℕ → ℕ → ℕ) → (U → Next U) → (U → ℕ) → Configuration U → List Match
step_brought keys next line c = lowest_brought keys next line c (length c.cells) 0

-- what the steps bring, one after another, at most n of them
abbrev pub matches_on : {U : Type 0} → (ℕ → ℕ → ℕ) → (U → Next U) → (U → ℕ) → ℕ → Configuration U → List Match
matches_on keys next line zero c = []
matches_on keys next line (suc n) c =
    option_map_or (λ d. step_brought keys next line c ++ matches_on keys next line n d) (lowest_step keys next c) []

-- the matches and takes of the plain meaning, in its order
abbrev pub plain_matches : Script → List Match
plain_matches script = matches_on (keys_of script) next_of (λ u. statement_line u.local) (steps_left (start_of script)) (start_of script)
