-- What holds for each statement of an accepted script, by the rules of its communicators (this project's profile).
use Rattle.std.specs.Prelude.{◌≡◌, ◌≢◌, ℕ, ◌<◌, ◌≤◌, true, false, List, [], ◌∷◌, All, IfSome, length, reverse}
use Rattle.scc_base.specs.Communicators.{AreRules, rule_of}
use Rattle.scc_base.specs.Setups.{SetupView}
use Rattle.scc_base.specs.declared.communicators.CommRule.{CommRule}
use Rattle.scc_base.specs.declared.communicators.CommRule.TheVariants as rule
use Rattle.scc_base.specs.declared.layouts.Layout.TheVariants as layout
use Rattle.script_rules.specs.declared.effect.Effect.{Effect}
use Rattle.script_rules.specs.declared.effect.Group.{Group}
use Rattle.script_rules.specs.declared.effect.Group.TheVariants as group
use Rattle.script_rules.specs.declared.fault.FaultKind.{FaultKind}
use Rattle.script_rules.specs.declared.script.Item.{Item}
use Rattle.script_rules.specs.Checks.{has_no_root, is_to_self, is_too_deep, open_of, refuses}
use Rattle.script_rules.specs.Effects.{EachUse, comm_named, comm_needed, effect_of, parent_of}
use Rattle.script_rules.specs.Script.{IsSized, Script, has_rank, peer_of, rules_of}

-- a run with these communicators. Cores and layout do not matter here, so any will do.
abbrev pub run_with : ℕ → List CommRule → SetupView
run_with nue comms = record { nue = nue; layout = layout.LineFlags; hosts = []; comms = comms }

-- the other rank of a message is a rank of the run
abbrev pub HasPeer : ℕ → Effect → ℕ → Type 0
HasPeer nue e rank = IfSome e.peer (λ peer. peer_of nue peer rank < nue)

-- for each rank of the section: its peer is another rank of the run, the communicator that it needs has a rule, and the root
-- is a place of its group
pub record IsSettled (nue : ℕ) (comms : List CommRule) (item : Item) : Type 0 where
  pub below : (rank : ℕ) → rank < nue → has_rank item.who rank ≡ true → HasPeer nue (effect_of item.stmt) rank
  pub other : (rank : ℕ) → rank < nue → has_rank item.who rank ≡ true → is_to_self nue (effect_of item.stmt) rank ≡ false
  pub present : (rank : ℕ) → rank < nue → has_rank item.who rank ≡ true
      → rule_of comms (comm_needed (effect_of item.stmt).group) ≢ rule.Absent
  pub rooted : (rank : ℕ) → rank < nue → has_rank item.who rank ≡ true → has_no_root (run_with nue comms) (effect_of item.stmt) rank ≡ false

-- a split names a rule
abbrev pub HasRule : Group → Type 0
HasRule group.World = Unit {0}
HasRule (group.Of comm) = Unit {0}
HasRule (group.Split comm by) = by ≡ rule.Absent → ⊥

-- each split among the statements names a rule
abbrev pub HaveRules : List Item → Type 0
HaveRules [] = Unit {0}
HaveRules (item ∷ past) = HaveRules past × HasRule (effect_of item.stmt).group

-- no check on ranks refuses any of these statements for a rank of its section, each after those before it
abbrev pub ArePassed : ℕ → List Item → Type 0
ArePassed nue [] = Unit {0}
ArePassed nue (item ∷ past) =
    ArePassed nue past × ((kind : FaultKind) (rank : ℕ) → rank < nue → has_rank item.who rank ≡ true
    → refuses kind nue past (effect_of item.stmt) rank ≡ false)

-- a statement that passed the checks of its line: communicators have valid rules, the length that it sets fits a message, and
-- it is not nested too deep
pub record IsInLine (nue : ℕ) (past : List Item) (item : Item) : Type 0 where
  pub rules : AreRules (rules_of (reverse past))
  pub present : (rank : ℕ) → rank < nue → has_rank item.who rank ≡ true
      → rule_of (rules_of (reverse past)) (comm_needed (effect_of item.stmt).group) ≢ rule.Absent
  pub sized : IsSized item.stmt
  pub flat : is_too_deep (open_of past) (effect_of item.stmt).nesting ≡ false

-- each statement passed the checks of its line, after those before it
abbrev pub AreInLine : ℕ → List Item → Type 0
AreInLine nue [] = Unit {0}
AreInLine nue (item ∷ past) = AreInLine nue past × IsInLine nue past item

-- each register of the statement is among the first `count` names
abbrev pub IsNamed : ℕ → Effect → Type 0
IsNamed count e = EachUse (λ used. used.reg < count) e.uses × IfSome e.sets (λ set. set.reg < count)

-- what holds for every accepted script
pub record IsWholeScript (nue : ℕ) (items : List Item) : Type 0 where
  pub some : 1 ≤ nue
  pub most : nue ≤ 48
  pub sized : All (λ item. IsSized item.stmt) items
  pub rules : AreRules (rules_of items)
  pub settled : All (IsSettled nue (rules_of items)) items
  pub passed : ArePassed nue (reverse items)
  pub in_line : AreInLine nue (reverse items)

-- what holds for every accepted script, together with the names of its registers
pub record IsAccepted (nue : ℕ) (items : List Item) (names : List (List ℕ)) : Type 0 where
  pub whole : IsWholeScript nue items
  pub named : All (λ item. IsNamed (length names) (effect_of item.stmt)) items

-- a script splits no communicator above this number
abbrev pub HasCommsTo : ℕ → Script → Type 0
HasCommsTo last script = (comm : ℕ) → last < comm → rule_of (rules_of script.items) comm ≡ rule.Absent

-- no statement of a script names a communicator above this number
abbrev pub NamesCommsTo : ℕ → Script → Type 0
NamesCommsTo last script = All (λ item. comm_named (effect_of item.stmt).group ≤ last) script.items

-- each rule of a script splits the world
abbrev pub SplitsWorldAlone : Script → Type 0
SplitsWorldAlone script = (comm : ℕ) → parent_of (rule_of (rules_of script.items) comm) ≡ 0
