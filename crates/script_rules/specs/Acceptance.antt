-- What acceptance of a script means, for each statement and each rank that runs it (this project's profile).
use Rattle.std.specs.Prelude.{◌≡◌, ℕ, ◌<◌, ◌≤◌, ◌%◌, true, reverse, take, slice_get, Option, Some, IfSome, IsSome, MatchOption}
use Rattle.groups.specs.Folds.{bytes_in}
use Rattle.groups.specs.declared.operations.Ty.{Ty}
use Rattle.scc_base.specs.Setups.{SetupView, place_of}
use Rattle.script_rules.specs.declared.effect.At.{At}
use Rattle.script_rules.specs.declared.effect.At.TheVariants as at
use Rattle.script_rules.specs.declared.effect.Effect.{Effect}
use Rattle.script_rules.specs.declared.effect.Fit.{Fit}
use Rattle.script_rules.specs.declared.effect.Fit.TheVariants as fit
use Rattle.script_rules.specs.declared.effect.Size.{Size}
use Rattle.script_rules.specs.declared.effect.Size.TheVariants as size
use Rattle.script_rules.specs.declared.script.Item.{Item}
use Rattle.script_rules.specs.Checks.{length_at}
use Rattle.script_rules.specs.Effects.{EachUse, comm_needed, effect_of}
use Rattle.script_rules.specs.Script.{Script, has_rank, rules_of}
use Rattle.script_rules.specs.Settled.{run_with}
use Rattle.scc_base.specs.Heads.{most_post}

-- a fact holds for each statement, given by its place and its effect, and for each rank that runs it
abbrev pub ForEachRun : Script → (ℕ → Effect → ℕ → Type 0) → Type 0
ForEachRun script P = (place : ℕ) (item : Item) → slice_get script.items place ≡ Some item → (rank : ℕ) → rank < script.nue
    → has_rank item.who rank ≡ true → P place (effect_of item.stmt) rank

-- a script's run, with the groups that its splits make
abbrev pub groups_of : Script → SetupView
groups_of script = run_with script.nue (rules_of script.items)

-- the length of a rank's register, if the rank sets it
abbrev pub length_of : Script → ℕ → ℕ → Option ℕ
length_of script rank = length_at script.nue (reverse script.items) rank

-- the length of a rank's register before the statement at a place, if the rank has set it in an earlier line
abbrev pub length_before : Script → ℕ → ℕ → ℕ → Option ℕ
length_before script place rank = length_at script.nue (reverse (take place script.items)) rank

-- the rank is the root that the statement's collective call names
abbrev pub IsRoot : SetupView → Effect → ℕ → Type 0
IsRoot run e rank = MatchOption e.root ⊥ (λ root. place_of run (comm_needed e.group) rank ≡ root)

-- a fact of a part of the statement, if that part applies to the rank
abbrev pub IfAt : SetupView → Effect → ℕ → At → Type 0 → Type 0
IfAt run e rank at.All P = P
IfAt run e rank at.Root P = IsRoot run e rank → P
IfAt run e rank at.Others P = (IsRoot run e rank → ⊥) → P

-- each register that the statement reads at the rank has been set
abbrev pub IsReadable : SetupView → (ℕ → Option ℕ) → Effect → ℕ → Type 0
IsReadable run len e rank = EachUse (λ used. IfAt run e rank used.at (IsSome (len used.reg))) e.uses

-- a register's length, if it has one, is a multiple of the width of the type
abbrev pub IsWholeOf : Ty → Option ℕ → Type 0
IsWholeOf ty len = IfSome len (λ size. size % bytes_in ty ≡ 0)

-- a register has the length that a statement requires of it
abbrev pub HasFit : (ℕ → Option ℕ) → ℕ → Fit → Type 0
HasFit len reg fit.Any = Unit {0}
HasFit len reg (fit.Whole ty) = IsWholeOf ty (len reg)
HasFit len reg (fit.Long size) = len reg ≡ Some size
HasFit len reg (fit.Like other) = len reg ≡ len other

-- a register has the length that a statement gives it
abbrev pub IsGiven : (ℕ → Option ℕ) → ℕ → Size → Type 0
IsGiven len reg (size.Bytes most) = len reg ≡ Some most
IsGiven len reg (size.Same other) = len reg ≡ len other

-- at this rank, each register of the statement has the length that the statement gives it or requires of it
pub record IsFitting (run : SetupView) (len : ℕ → Option ℕ) (e : Effect) (rank : ℕ) : Type 0 where
  pub given : IfSome e.sets (λ target. IfAt run e rank target.at (IsGiven len target.reg target.size))
  pub needed : EachUse (λ used. IfAt run e rank used.at (HasFit len used.reg used.fit)) e.uses

-- a posted register fits into one chunk
abbrev pub IsPostable : (ℕ → Option ℕ) → Effect → Type 0
IsPostable len e = IfSome e.posts (λ reg. IfSome (len reg) (λ size. size ≤ most_post))
