-- What a statement needs and does, defined once. Each check of the grammar and each count reads it (this project's profile).
use Rattle.std.specs.Prelude.{ℕ, ◌≤◌, ◌==◌, ◌||◌, Bool, false, if◌then◌else◌, length, Option, Some, None}
use Rattle.groups.specs.Folds.{bytes_in}
use Rattle.groups.specs.declared.collectives.Coll.TheVariants as coll
use Rattle.groups.specs.declared.operations.Ty.{Ty}
use Rattle.scc_base.specs.declared.communicators.CommRule.{CommRule}
use Rattle.scc_base.specs.declared.communicators.CommRule.TheVariants as rule
use Rattle.script_rules.specs.declared.effect.At.{At}
use Rattle.script_rules.specs.declared.effect.At.TheVariants as at
use Rattle.script_rules.specs.declared.effect.Cost.TheVariants as cost
use Rattle.script_rules.specs.declared.effect.Effect.{Effect}
use Rattle.script_rules.specs.declared.effect.Fit.{Fit}
use Rattle.script_rules.specs.declared.effect.Fit.TheVariants as fit
use Rattle.script_rules.specs.declared.effect.Group.{Group}
use Rattle.script_rules.specs.declared.effect.Group.TheVariants as group
use Rattle.script_rules.specs.declared.effect.Nesting.TheVariants as nesting
use Rattle.script_rules.specs.declared.effect.Size.{Size}
use Rattle.script_rules.specs.declared.effect.Size.TheVariants as size
use Rattle.script_rules.specs.declared.effect.Target.{Target}
use Rattle.script_rules.specs.declared.effect.Use.{Use}
use Rattle.script_rules.specs.declared.effect.Uses.{Uses}
use Rattle.script_rules.specs.declared.effect.Uses.TheVariants as uses
use Rattle.script_rules.specs.declared.script.Form.{Form}
use Rattle.script_rules.specs.declared.script.Form.TheVariants as form
use Rattle.script_rules.specs.declared.script.OwnStmt.{OwnStmt}
use Rattle.script_rules.specs.declared.script.OwnStmt.TheVariants as own
use Rattle.script_rules.specs.declared.script.Stmt.{Stmt}
use Rattle.script_rules.specs.declared.script.Stmt.TheVariants as stmt
use Rattle.scc_base.specs.Heads.{most_message}

-- the effect of a statement that is one operation and has no other effect
abbrev pub plain_effect : Effect
plain_effect = record {
  peer = None;
  group = group.World;
  root = None;
  uses = uses.Nothing;
  sets = None;
  cost = cost.One;
  posts = None;
  prints = None;
  nesting = nesting.Stays;
}

-- a register that each rank of the section reads
abbrev pub use_all : ℕ → Fit → Use
use_all reg fit = record { reg = reg; at = at.All; fit = fit }

-- a register that a statement sets
abbrev pub target_of : ℕ → At → Size → Option Target
target_of reg at size = Some (record { reg = reg; at = at; size = size })

-- a print of typed values requires a multiple of the type's width; a hexadecimal print requires nothing
abbrev pub fit_of : Form → Fit
fit_of form.Hex = fit.Any
fit_of (form.Decimal ty) = fit.Whole ty

-- the registers that a local statement reads
abbrev pub own_uses : OwnStmt → Uses
own_uses (own.Apply op ty dst src) = uses.Two (use_all dst (fit.Like src)) (use_all src (fit.Whole ty))
own_uses (own.Print reg form) = uses.One (use_all reg (fit_of form))

-- the register that a local statement prints
abbrev pub own_prints : OwnStmt → Option ℕ
own_prints (own.Apply op ty dst src) = None
own_prints (own.Print reg form) = Some reg

-- what a reduce needs and does, whatever its operator
abbrev pub reduce_effect : ℕ → ℕ → Ty → ℕ → ℕ → Effect
reduce_effect comm root ty dst src = record plain_effect {
  group = group.Of comm;
  root = Some root;
  uses = uses.One (use_all src (fit.Whole ty));
  sets = target_of dst at.Root (size.Same src);
  cost = cost.Steps (coll.Reduce comm root 0);
}

-- what an allreduce needs and does, whatever its operator
abbrev pub allreduce_effect : ℕ → Ty → ℕ → ℕ → Effect
allreduce_effect comm ty dst src = record plain_effect {
  group = group.Of comm;
  uses = uses.One (use_all src (fit.Whole ty));
  sets = target_of dst at.All (size.Same src);
  cost = cost.Steps (coll.Allreduce comm 0);
}

-- what a statement needs and does
abbrev pub effect_of : Stmt → Effect
effect_of (stmt.Bytes reg bytes) = record plain_effect { sets = target_of reg at.All (size.Bytes (length bytes)) }
effect_of (stmt.Fill reg len start) = record plain_effect { sets = target_of reg at.All (size.Bytes len) }
effect_of (stmt.RankOf reg ty) = record plain_effect { sets = target_of reg at.All (size.Bytes (bytes_in ty)) }
effect_of (stmt.Own own) = record plain_effect { uses = own_uses own; prints = own_prints own }
effect_of (stmt.Send peer reg) = record plain_effect { peer = Some peer; uses = uses.One (use_all reg fit.Any) }
effect_of (stmt.Post peer reg) = record plain_effect { peer = Some peer; uses = uses.One (use_all reg fit.Any); posts = Some reg }
effect_of (stmt.Recv peer reg len) = record plain_effect { peer = Some peer; sets = target_of reg at.All (size.Bytes len) }
effect_of (stmt.Barrier comm) = record plain_effect { group = group.Of comm }
effect_of (stmt.Split comm rule) = record plain_effect { group = group.Split comm rule }
effect_of (stmt.Bcast comm root reg len) = record plain_effect {
  group = group.Of comm;
  root = Some root;
  uses = uses.One (record { reg = reg; at = at.Root; fit = fit.Long len });
  sets = target_of reg at.Others (size.Bytes len);
  cost = cost.Steps (coll.Bcast comm root len);
}
effect_of (stmt.Reduce comm root op ty dst src) = reduce_effect comm root ty dst src
effect_of (stmt.Allreduce comm op ty dst src) = allreduce_effect comm ty dst src
effect_of (stmt.Repeat times end) = record plain_effect { cost = cost.Free; nesting = nesting.Opens times }
effect_of (stmt.End start) = record plain_effect { nesting = nesting.Closes start }

-- some register that a statement reads passes the test
abbrev pub some_use : (Use → Bool) → Uses → Bool
some_use test uses.Nothing = false
some_use test (uses.One first) = test first
some_use test (uses.Two first second) = test first || test second

-- a fact holds for each register that a statement reads
abbrev pub EachUse : (Use → Type 0) → Uses → Type 0
EachUse P uses.Nothing = Unit {0}
EachUse P (uses.One first) = P first
EachUse P (uses.Two first second) = P first × P second

-- the communicator that a rule splits
abbrev pub parent_of : CommRule → ℕ
parent_of rule.Absent = 0
parent_of rule.World = 0
parent_of (rule.Mod parent k) = parent
parent_of (rule.Div parent k) = parent

-- the communicator that a statement names, or the world if it names none
abbrev pub comm_named : Group → ℕ
comm_named group.World = 0
comm_named (group.Of comm) = comm
comm_named (group.Split comm rule) = comm

-- the communicator whose groups a statement needs, or the world if it needs none
abbrev pub comm_needed : Group → ℕ
comm_needed group.World = 0
comm_needed (group.Of comm) = comm
comm_needed (group.Split comm rule) = parent_of rule

-- the statement splits this communicator
abbrev pub is_split_of : Group → ℕ → Bool
is_split_of group.World comm = false
is_split_of (group.Of named) comm = false
is_split_of (group.Split split rule) comm = split == comm

-- the rule by which a statement splits this communicator, or no rule if it does not split it
abbrev pub split_rule : Group → ℕ → CommRule
split_rule group.World comm = rule.Absent
split_rule (group.Of named) comm = rule.Absent
split_rule (group.Split split by) comm = if split == comm then by else rule.Absent

-- a length that a statement states is at most 65,536, the greatest of a message
abbrev pub IsSizedBy : Size → Type 0
IsSizedBy (size.Bytes len) = len ≤ most_message
IsSizedBy (size.Same reg) = Unit {0}
