-- What the reader keeps for each rank, so that no check goes through the statements again, and how one more statement changes
-- it.
use Rattle.std.specs.Prelude.{◌≡◌, ℕ, ◌+◌, ◌*◌, ◌<◌, ◌≤◌, ◌||◌, IfSome, min, not, replicate, is_none, Bool, true, false, if◌then◌else◌, List, length, slice_index_or, slice_set, Option, Some, None}
use Rattle.scc_base.specs.Setups.{SetupView}
use Rattle.scc_base.specs.declared.communicators.CommRule.{CommRule}
use Rattle.scc_base.specs.declared.communicators.CommRule.TheVariants as rule
use Rattle.script_rules.specs.declared.effect.Effect.{Effect}
use Rattle.script_rules.specs.declared.effect.Group.{Group}
use Rattle.script_rules.specs.declared.effect.Group.TheVariants as group
use Rattle.script_rules.specs.declared.effect.Uses.{Uses}
use Rattle.script_rules.specs.declared.effect.Uses.TheVariants as uses
use Rattle.script_rules.specs.declared.fault.FaultKind.{FaultKind}
use Rattle.script_rules.specs.declared.fault.FaultKind.TheVariants as kind
use Rattle.script_rules.specs.declared.script.Item.{Item}
use Rattle.script_rules.specs.declared.script.Peer.{Peer}
use Rattle.script_rules.specs.declared.script.Peer.TheVariants as peer
use Rattle.script_rules.specs.declared.script.Who.{Who}
use Rattle.script_rules.specs.declared.tally.Setting.{Setting}
use Rattle.script_rules.specs.declared.tally.Tally.{Tally}
use Rattle.script_rules.specs.Checks.{cost_of, has_no_root, has_split, is_known, is_misshapen, is_not_split, is_overworked, is_to_self, is_unset, length_at, operations, posts_too_much, bytes_printed, prints, prints_too_much, set_by}
use Rattle.script_rules.specs.Script.{has_rank}
use Rattle.script_rules.specs.Limits.{most_operations, most_printed}

-- the length of a register in a tally, if it has one
abbrev pub length_in : Tally → ℕ → Option ℕ
length_in tally reg = slice_index_or tally.lengths reg None

-- the rank of the tally has split this communicator
abbrev pub split_in : Tally → ℕ → Bool
split_in tally comm = slice_index_or tally.splits comm false

-- a tally agrees with a rank's statements: operations and printed bytes, each up to one more than is allowed, register
-- lengths, and splits
pub record IsTally (tally : Tally) (nue : ℕ) (past : List Item) (rank : ℕ) : Type 0 where
  pub operations_are : tally.operations ≡ min (operations nue past rank) (most_operations + 1)
  pub printed_are : tally.printed ≡ min (bytes_printed nue past rank) (most_printed + 1)
  pub lengths_are : (reg : ℕ) → length_in tally reg ≡ length_at nue past rank reg
  pub splits_are : (comm : ℕ) → split_in tally comm ≡ has_split past rank comm
  pub lengths_room : length tally.lengths ≡ 256
  pub splits_room : length tally.splits ≡ 256

-- each rank's tally agrees with its statements
abbrev pub AreTallies : List Tally → ℕ → List Item → Type 0
AreTallies tallies nue past = (rank : ℕ) (d : Tally) → rank < nue → IsTally (slice_index_or tallies rank d) nue past rank

-- the tally before any statement
abbrev pub empty_tally : Tally
empty_tally = record { operations = 0; printed = 0; lengths = replicate 256 None; splits = replicate 256 false }

-- the lengths after a register is set: a length that it has already stays
abbrev pub with_length : List (Option ℕ) → Option Setting → List (Option ℕ)
with_length lengths None = lengths
with_length lengths (Some set) = if is_none (slice_index_or lengths set.reg None) then slice_set lengths set.reg (Some set.len) else lengths

-- the splits after one more statement
abbrev pub with_split : List Bool → Group → List Bool
with_split splits group.World = splits
with_split splits (group.Of comm) = splits
with_split splits (group.Split comm rule) = slice_set splits comm true

-- a tally after one more statement of its rank, which runs `turns` times
abbrev pub tally_after : SetupView → ℕ → Effect → ℕ → Tally → Tally
tally_after run turns e rank tally = record {
  operations = min (tally.operations + turns * cost_of run e.cost rank) (most_operations + 1);
  printed = min (tally.printed + turns * prints (length_in tally) e) (most_printed + 1);
  lengths = with_length tally.lengths (set_by run (length_in tally) e rank);
  splits = with_split tally.splits e.group;
}

-- a rank's tally after one more statement with this effect, in a section of these ranks
abbrev pub noted_at : SetupView → ℕ → Who → Effect → ℕ → Tally → Tally
noted_at run turns who e rank tally = if has_rank who rank then tally_after run turns e rank tally else tally

-- a split has 1 to 48 parts
abbrev pub IsParted : CommRule → Type 0
IsParted rule.Absent = ⊥
IsParted rule.World = ⊥
IsParted (rule.Mod parent k) = (1 ≤ k) × (k ≤ 48)
IsParted (rule.Div parent k) = (1 ≤ k) × (k ≤ 48)

-- a split names a communicator below 256 and has 1 to 48 parts
abbrev pub IsSplitMade : Group → Type 0
IsSplitMade group.World = Unit {0}
IsSplitMade (group.Of comm) = Unit {0}
IsSplitMade (group.Split comm rule) = (comm < 256) × IsParted rule

-- what the reader ensures for each statement that it builds
pub record IsMade (e : Effect) : Type 0 where
  pub set : IfSome e.sets (λ target. target.reg < 256)
  pub split : IsSplitMade e.group

-- a rank that a statement names by its number is a rank of the run
abbrev pub IsPeerWithin : ℕ → Peer → Type 0
IsPeerWithin nue (peer.Abs rank) = rank < nue
IsPeerWithin nue (peer.Plus up) = Unit {0}
IsPeerWithin nue (peer.Minus down) = Unit {0}

-- the other rank of a message is a rank of the run, if the statement names it by its number
abbrev pub IsAimed : ℕ → Effect → Type 0
IsAimed nue e = IfSome e.peer (IsPeerWithin nue)

-- a check on ranks refuses the statement, as answered from what the reader keeps
abbrev pub refuses_by : FaultKind → SetupView → Tally → ℕ → Effect → ℕ → Bool
refuses_by kind.RankRange run tally turns e rank = has_no_root run e rank
refuses_by kind.SelfMessage run tally turns e rank = is_to_self run.nue e rank
refuses_by kind.NotSplit run tally turns e rank = is_not_split (split_in tally) e.group
refuses_by kind.Unset run tally turns e rank = is_unset run (length_in tally) e rank
refuses_by kind.Shape run tally turns e rank = is_misshapen run (length_in tally) e rank
refuses_by kind.TooManyOps run tally turns e rank = is_overworked run tally.operations turns e.cost rank
refuses_by kind.TooLong run tally turns e rank =
    posts_too_much (length_in tally) e || prints_too_much (length_in tally) tally.printed turns e
refuses_by kind.NotText run tally turns e rank = false
refuses_by kind.UnknownStatement run tally turns e rank = false
refuses_by kind.WrongCount run tally turns e rank = false
refuses_by kind.BadNumber run tally turns e rank = false
refuses_by kind.BadHex run tally turns e rank = false
refuses_by kind.BadName run tally turns e rank = false
refuses_by kind.UnknownComm run tally turns e rank = false
refuses_by kind.NoSection run tally turns e rank = false
refuses_by kind.UnclosedRepeat run tally turns e rank = false
refuses_by kind.StrayEnd run tally turns e rank = false
refuses_by kind.TooDeep run tally turns e rank = false
refuses_by kind.TooManyNames run tally turns e rank = false

-- a statement reads a register
abbrev pub reads : Uses → Bool
reads uses.Nothing = false
reads (uses.One first) = true
reads (uses.Two first second) = true

-- a statement splits a communicator that has no rule yet
abbrev pub is_new_split : SetupView → Group → Bool
is_new_split run group.World = false
is_new_split run (group.Of comm) = false
is_new_split run (group.Split comm rule) = not (is_known run comm)
