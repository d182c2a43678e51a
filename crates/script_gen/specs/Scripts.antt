-- The script that a generated text says (this project's profile).
use Rattle.std.specs.Prelude.{ℕ, ◌+◌, ◌==◌, if◌then◌else◌, List, [], ◌∷◌, ◌++◌, codes}
use Rattle.groups.specs.declared.operations.Op.TheVariants as op
use Rattle.groups.specs.declared.operations.Ty.TheVariants as ty
use Rattle.script_rules.specs.declared.script.Form.TheVariants as form
use Rattle.script_rules.specs.declared.script.Item.{Item}
use Rattle.script_rules.specs.declared.script.Peer.TheVariants as peer
use Rattle.script_rules.specs.declared.script.OwnStmt.TheVariants as own
use Rattle.script_rules.specs.declared.script.Stmt.{Stmt}
use Rattle.script_rules.specs.declared.script.Stmt.TheVariants as stmt
use Rattle.script_rules.specs.declared.script.Who.{Who}
use Rattle.script_rules.specs.declared.script.Who.TheVariants as who
use Rattle.script_rules.specs.Script.{Script}
use Rattle.script_gen.specs.Texts.{turns_of}

-- a statement of these ranks, in this line
abbrev pub item_of : ℕ → Who → Stmt → Item
item_of line who stmt = record { line = line; who = who; stmt = stmt }

-- Registers: 0 holds the bytes that a rank sends, 1 the sum over all ranks, 2 the bytes that it receives.
-- The statements of a section whose line is `line`, and of which the first is the script's statement `first`: with other
-- ranks to send to, which goes by the statements `one` and `other`,
abbrev pub ring_items : Who → ℕ → ℕ → ℕ → Stmt → Stmt → List Item
ring_items ranks line first s one other =
    item_of (line + 1) ranks (stmt.Fill 0 s s) ∷
    item_of (line + 2) ranks (stmt.RankOf 1 ty.Long) ∷
    item_of (line + 3) ranks (stmt.Repeat (turns_of s) (first + 6)) ∷
    item_of (line + 4) ranks one ∷
    item_of (line + 5) ranks other ∷
    item_of (line + 6) ranks (stmt.Allreduce 0 op.Sum ty.Long 1 1) ∷
    item_of (line + 7) ranks (stmt.End (first + 2)) ∷
    item_of (line + 8) ranks (stmt.Own (own.Print 2 form.Hex)) ∷
    item_of (line + 9) ranks (stmt.Own (own.Print 1 (form.Decimal ty.Long))) ∷ []

-- and with none
abbrev pub lone_items : Who → ℕ → ℕ → ℕ → List Item
lone_items ranks line first s =
    item_of (line + 1) ranks (stmt.Fill 0 s s) ∷
    item_of (line + 2) ranks (stmt.RankOf 1 ty.Long) ∷
    item_of (line + 3) ranks (stmt.Repeat (turns_of s) (first + 4)) ∷
    item_of (line + 4) ranks (stmt.Allreduce 0 op.Sum ty.Long 1 1) ∷
    item_of (line + 5) ranks (stmt.End (first + 2)) ∷
    item_of (line + 6) ranks (stmt.Own (own.Print 1 (form.Decimal ty.Long))) ∷ []

-- a send of the first register to the next rank of the ring
abbrev pub send_next : Stmt
send_next = stmt.Send (peer.Plus 1) 0

-- a receive of s bytes from the rank before, into the last register
abbrev pub recv_last : ℕ → Stmt
recv_last s = stmt.Recv (peer.Minus 1) 2 s

-- the script of two ranks and more
abbrev pub ring_script : ℕ → ℕ → Script
ring_script nue s = record {
  nue = nue;
  items = ring_items who.Even 1 0 s send_next (recv_last s) ++ ring_items who.Odd 11 9 s (recv_last s) send_next;
  names = codes "h" ∷ codes "me" ∷ codes "g" ∷ [];
}

-- and that of one rank
abbrev pub lone_script : ℕ → Script
lone_script s = record {
  nue = 1;
  items = lone_items who.Even 1 0 s ++ lone_items who.Odd 8 6 s;
  names = codes "h" ∷ codes "me" ∷ [];
}

-- the script of a number s for nue ranks
abbrev pub gen_script_of : ℕ → ℕ → Script
gen_script_of nue s = if nue == 1 then lone_script s else ring_script nue s
