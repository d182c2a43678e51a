-- Scripts: the ranks of a section, the other rank of a message, and the rules of the splits (this project's profile).
use Rattle.std.specs.Prelude.{ℕ, ◌+◌, ◌-◌, ◌%◌, ◌==◌, Bool, true, ◌&&◌, nat_le, List, [], ◌∷◌, IfSome, map}
use Rattle.std.specs.List.{range_with_len}
use Rattle.scc_base.specs.declared.communicators.CommRule.{CommRule}
use Rattle.scc_base.specs.declared.communicators.CommRule.TheVariants as rule
use Rattle.script_rules.specs.declared.script.Item.{Item}
use Rattle.script_rules.specs.declared.script.Peer.{Peer}
use Rattle.script_rules.specs.declared.script.Peer.TheVariants as peer
use Rattle.script_rules.specs.declared.script.Stmt.{Stmt}
use Rattle.script_rules.specs.declared.script.Who.{Who}
use Rattle.script_rules.specs.declared.script.Who.TheVariants as who
use Rattle.script_rules.specs.Effects.{IsSizedBy, effect_of, split_rule}

-- A script that was read: the number of its ranks, its statements in the order of the file, and the names of its registers in
-- the order of their first appearance (this project's profile). A register's number is its place in that list.
pub record Script : Type 0 where
  pub nue : ℕ
  pub items : List Item
  pub names : List (List ℕ)

-- a rank is in a section
abbrev pub has_rank : Who → ℕ → Bool
has_rank who.All rank = true
has_rank who.Even rank = rank % 2 == 0
has_rank who.Odd rank = rank % 2 == 1
has_rank (who.Span first last) rank = nat_le first rank && nat_le rank last

-- the other rank of a message, as a statement of the rank `caller` names it, in a run of `nue` ranks
abbrev pub peer_of : ℕ → Peer → ℕ → ℕ
peer_of nue (peer.Abs rank) caller = rank
peer_of nue (peer.Plus up) caller = (caller + up) % nue
peer_of nue (peer.Minus down) caller = (caller + (nue - down % nue)) % nue

-- the first of two rules that is present
abbrev pub or_rule : CommRule → CommRule → CommRule
or_rule rule.Absent next = next
or_rule rule.World next = rule.World
or_rule (rule.Mod parent k) next = rule.Mod parent k
or_rule (rule.Div parent k) next = rule.Div parent k

-- the rule by which a communicator is first split
abbrev pub first_split : List Item → ℕ → CommRule
first_split [] comm = rule.Absent
first_split (item ∷ items) comm = or_rule (split_rule (effect_of item.stmt).group comm) (first_split items comm)

-- the rules of the sixteen communicators: communicator 0 is the world, and each other one has the rule of its first split
abbrev pub rules_of : List Item → List CommRule
rules_of items = rule.World ∷ map (first_split items) (range_with_len 1 15)

-- a length that the statement sets is at most 65,536, the greatest of a message (this project's profile)
abbrev pub IsSized : Stmt → Type 0
IsSized stmt = IfSome (effect_of stmt).sets (λ set. IsSizedBy set.size)
