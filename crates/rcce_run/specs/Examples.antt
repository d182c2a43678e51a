-- A sweep that finds three ranks waiting at once: for a posted message in its slot, after a mismatch, and in a barrier.
use Rattle.std.specs.Prelude.{ℕ, zero, suc, List, [], ◌∷◌, Option, Some, None}
use Rattle.scc_base.specs.Calls.DataCall.{Post}
use Rattle.scc_base.specs.Heads.{plain_head}
use Rattle.scc_base.specs.Setups.{SetupView}
use Rattle.scc_base.specs.declared.layouts.Layout.TheVariants.{LineFlags}
use Rattle.scc_proto.specs.Examples.{loads, stores}
use Rattle.scc_proto.specs.Histories.{memory_from, records_of}
use Rattle.scc_proto.specs.Stages.{Record}
use Rattle.scc_proto.specs.Words.{Memory, RankEvent, zeros}
use Rattle.script_rules.specs.Script.{Script, rules_of}
use Rattle.script_rules.specs.declared.script.Item.{Item}
use Rattle.script_rules.specs.declared.script.Peer.TheVariants as peer
use Rattle.script_rules.specs.declared.script.Stmt.TheVariants as stmt
use Rattle.script_rules.specs.declared.script.Who.TheVariants as who
use Rattle.script_machine.specs.declared.posts.Posted.{Posted}
use Rattle.plain_meaning.specs.Collectives.{start_of_rank}
use Rattle.script_machine.specs.Local.{gone_on, local_start, stopped_at}
use Rattle.plain_meaning.specs.Meaning.{State}

-- rank 0 posts a register without bytes to rank 1; rank 1 asks rank 0 for five bytes; rank 2 enters a barrier of the world
abbrev pub three_items : List Item
three_items = record { line = 2; who = who.Span 0 0; stmt = stmt.Post (peer.Abs 1) 0 }
    ∷ record { line = 3; who = who.Span 1 1; stmt = stmt.Recv (peer.Abs 0) 0 5 }
    ∷ record { line = 4; who = who.Span 2 2; stmt = stmt.Barrier 0 } ∷ []

-- the script of these lines, on three ranks
abbrev pub three_script : Script
three_script = record { nue = 3; items = three_items; names = (97 ∷ []) ∷ [] }

-- rank r on core r, with line flags
abbrev pub three_setup : SetupView
three_setup = record { nue = 3; layout = LineFlags; hosts = 0 ∷ 1 ∷ 2 ∷ []; comms = rules_of three_items }

-- rank 0 drafts the header and raises `sent` at rank 1, which sees it and loads the head; rank 2 flips its gather flag
abbrev pub three_events : List RankEvent
three_events = stores 0 0 0 3 1 ∷ stores 0 0 0 2 0 ∷ stores 0 0 0 1 0 ∷ stores 0 0 0 0 0 ∷ stores 0 1 1 0 1
    ∷ loads 1 1 1 0 1 ∷ loads 1 0 0 0 0 ∷ loads 1 0 0 1 0 ∷ loads 1 0 0 2 0
    ∷ stores 2 2 97 0 1 ∷ []

-- the words of the chip after these events
abbrev pub three_words : Memory
three_words = memory_from zeros three_events

-- the records of the ranks after these events
abbrev pub three_records : ℕ → Record
three_records = records_of three_setup three_events

-- the message that rank 0 has posted
abbrev pub three_message : Posted
three_message = record { to = 1; head = plain_head 0; bytes = []; line = 2 }

-- rank 0 has posted and has nothing left, rank 1 was stopped by the head of the message, rank 2 is where it started
abbrev pub three_states : ℕ → State
three_states zero = record { local = gone_on (local_start three_script 0); matched = Post 1 (plain_head 0) [] ∷ [] }
three_states (suc zero) = record { local = stopped_at (local_start three_script 1) 3 0 (plain_head 5) (plain_head 0); matched = [] }
three_states (suc (suc n)) = start_of_rank three_script (suc (suc n))

-- the message that each rank posted last
abbrev pub three_lasts : ℕ → Option Posted
three_lasts zero = Some three_message
three_lasts (suc n) = None
