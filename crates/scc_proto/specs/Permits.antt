-- Lists of moves, each permitted in turn: what a record permits, beside what it refuses.
use Rattle.std.specs.Prelude.{◌≡◌, ℕ, Bool, true, ◌&&◌, List, [], ◌∷◌, ◌++◌}
use Rattle.scc_base.specs.declared.signals.Signal.TheVariants.{Sent}
use Rattle.scc_proto.specs.Stages.{Record, blank}
use Rattle.scc_proto.specs.Moves.{Move, RaiseSignal, after}
use Rattle.scc_proto.specs.Permission.{permits}
use Rattle.scc_proto.specs.Refusals.{drafts_line, drafts_words}

-- a record permits each of these moves in turn, where a whole chunk has `size` bytes
abbrev pub are_permitted : ℕ → Record → List Move → Bool
are_permitted size rec [] = true
are_permitted size rec (move ∷ moves) = permits size move rec && are_permitted size (after size move rec) moves

-- a rank at its start may make these moves, one after the other, where a whole chunk has 32 bytes
abbrev pub Permits : List Move → Type 0
Permits moves = are_permitted 32 blank moves ≡ true

-- a message with this header line, and a first chunk of one line, raised at rank 1
abbrev pub raises : (kind comm len post : ℕ) → List Move
raises kind comm len post = drafts_line kind comm len post ++ (drafts_words 7 ++ RaiseSignal Sent 1 ∷ [])
