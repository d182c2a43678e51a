-- What the reader keeps of the statements so far, and the invariant that each line preserves.
use Rattle.std.specs.Prelude.{◌≡◌, ℕ, ◌<◌, ◌≤◌, List, length, reverse, All}
use Rattle.scc_base.specs.Communicators.{AreRules}
use Rattle.scc_base.specs.Setups.{SetupView}
use Rattle.scc_base.specs.declared.communicators.CommRule.TheVariants as rule
use Rattle.script_reader.specs.declared.reader.Pair.{Pair}
use Rattle.script_rules.specs.declared.repeats.Open.{Open}
use Rattle.script_rules.specs.declared.script.Item.{Item}
use Rattle.script_rules.specs.declared.tally.Tally.{Tally}
use Rattle.script_rules.specs.declared.version.Version.{Version}
use Rattle.script_rules.specs.Checks.{last_comm, open_of, run_of}
use Rattle.script_rules.specs.Effects.{effect_of}
use Rattle.script_rules.specs.Limits.{most_names}
use Rattle.script_rules.specs.Script.{IsSized, first_split, rules_of}
use Rattle.script_rules.specs.Settled.{AreInLine, ArePassed, HaveRules, IsNamed, IsSettled}
use Rattle.script_rules.specs.Tally.{AreTallies}
use Rattle.script_reader.specs.Progress.{ReadingSoFar, with_known_name, register_of}

-- the reader's invariant: groups, open repeats and tallies are those of the statements so far, whose lengths and registers
-- fit. Seven parameters: what the reader is given (the version, the number of ranks), what was read (the statements, the names
-- of registers), and the three that it keeps of them.
pub record IsKept (version : Version) (nue : ℕ) (items : List Item) (names : List (List ℕ)) (run : SetupView) (repeats : List Open)
    (tallies : List Tally) : Type 0 where
  pub some : 1 ≤ nue
  pub most : nue ≤ 48
  pub sized : All (λ item. IsSized item.stmt) items
  pub run_is : run ≡ run_of nue (reverse items)
  pub repeats_are : repeats ≡ open_of (reverse items)
  pub rules : AreRules (rules_of items)
  pub settled : All (IsSettled nue (rules_of items)) items
  pub have : HaveRules (reverse items)
  pub low : (comm : ℕ) → last_comm version < comm → first_split items comm ≡ rule.Absent
  pub passed : ArePassed nue (reverse items)
  pub in_line : AreInLine nue (reverse items)
  pub named : All (λ item. IsNamed (length names) (effect_of item.stmt)) items
  pub ranked : length tallies ≡ nue
  pub tallied : AreTallies tallies nue (reverse items)

-- so far there are at most as many statements as lines and no more names than a file may have, and the version is unchanged
pub record IsUpTo (version : Version) (line : ℕ) (p : ReadingSoFar) : Type 0 where
  pub same : p.version ≡ version
  pub named : length p.names ≤ most_names
  pub counted : length p.items ≤ line

-- the numbers of two registers, of which `dst` is named first
abbrev pub register_pair : ReadingSoFar → List ℕ → List ℕ → Pair
register_pair p dst src = record { dst = register_of p.names dst; src = register_of (with_known_name p dst).names src }
