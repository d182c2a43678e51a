-- The third layer of the grammar: checks of a statement against the statements before it (this project's profile).
-- `past` lists the statements before it, the latest first. A check reads only the effect of the statement.
use Rattle.std.specs.Prelude.{ℕ, zero, suc, ◌+◌, ◌*◌, ◌-◌, ◌%◌, ◌==◌, ◌&&◌, ◌||◌, nat_lt, not, Bool, true, false, if◌then◌else◌, List, [], ◌∷◌, ◌++◌, length, reverse, take, slice_get, Option, Some, None, unwrap_or, is_none}
use Rattle.std.specs.Option.{option_map_or, option_or}
use Rattle.groups.specs.Collectives.{comm_of, steps_of}
use Rattle.groups.specs.Folds.{bytes_in}
use Rattle.groups.specs.declared.collectives.Coll.{Coll}
use Rattle.groups.specs.declared.collectives.Coll.TheVariants as coll
use Rattle.groups.specs.declared.operations.Ty.{Ty}
use Rattle.scc_base.specs.Communicators.{rule_of}
use Rattle.scc_base.specs.Setups.{SetupView, place_of, size_of}
use Rattle.scc_base.specs.declared.communicators.CommRule.{CommRule}
use Rattle.scc_base.specs.declared.communicators.CommRule.TheVariants as rule
use Rattle.scc_base.specs.declared.layouts.Layout.TheVariants as layout
use Rattle.script_rules.specs.declared.effect.At.{At}
use Rattle.script_rules.specs.declared.effect.At.TheVariants as at
use Rattle.script_rules.specs.declared.effect.Cost.{Cost}
use Rattle.script_rules.specs.declared.effect.Cost.TheVariants as cost
use Rattle.script_rules.specs.declared.effect.Effect.{Effect}
use Rattle.script_rules.specs.declared.effect.Fit.{Fit}
use Rattle.script_rules.specs.declared.effect.Fit.TheVariants as fit
use Rattle.script_rules.specs.declared.effect.Group.{Group}
use Rattle.script_rules.specs.declared.effect.Group.TheVariants as group
use Rattle.script_rules.specs.declared.effect.Nesting.{Nesting}
use Rattle.script_rules.specs.declared.effect.Nesting.TheVariants as nesting
use Rattle.script_rules.specs.declared.effect.Size.{Size}
use Rattle.script_rules.specs.declared.effect.Size.TheVariants as size
use Rattle.script_rules.specs.declared.effect.Target.{Target}
use Rattle.script_rules.specs.declared.fault.FaultKind.{FaultKind}
use Rattle.script_rules.specs.declared.fault.FaultKind.TheVariants as kind
use Rattle.script_rules.specs.declared.repeats.Open.{Open}
use Rattle.script_rules.specs.declared.script.Item.{Item}
use Rattle.script_rules.specs.declared.script.Who.{Who}
use Rattle.script_rules.specs.declared.tally.Setting.{Setting}
use Rattle.script_rules.specs.declared.version.Version.{Version}
use Rattle.script_rules.specs.declared.version.Version.TheVariants as version
use Rattle.script_rules.specs.Effects.{comm_needed, effect_of, is_split_of, parent_of, some_use}
use Rattle.script_rules.specs.Script.{has_rank, peer_of, rules_of}
use Rattle.scc_base.specs.Heads.{most_message, most_post}
use Rattle.script_rules.specs.Limits.{most_open, most_operations, most_printed}

-- some rank below n passes the test
abbrev pub some_below : ℕ → (ℕ → Bool) → Bool
some_below zero test = false
some_below (suc n) test = some_below n test || test n

-- some rank of the section passes the test; before the first section line there is no rank
abbrev pub some_rank : ℕ → Option Who → (ℕ → Bool) → Bool
some_rank nue None test = false
some_rank nue (Some who) test = some_below nue (λ rank. has_rank who rank && test rank)

-- the run with the groups that the splits so far make. Cores and layout do not matter here, so any will do.
abbrev pub run_of : ℕ → List Item → SetupView
run_of nue past = record { nue = nue; layout = layout.LineFlags; hosts = []; comms = rules_of (reverse past) }

-- the communicator has no rule
abbrev pub is_absent : CommRule → Bool
is_absent rule.Absent = true
is_absent rule.World = false
is_absent (rule.Mod parent k) = false
is_absent (rule.Div parent k) = false

-- the communicator has a rule
abbrev pub is_known : SetupView → ℕ → Bool
is_known run comm = not (is_absent (rule_of run.comms comm))

-- a place is one of the rank's group
abbrev pub has_place : SetupView → ℕ → ℕ → ℕ → Bool
has_place run comm rank place = nat_lt place (size_of run comm rank)

-- the communicator has a rule, and by it the rank is at this place of its group
abbrev pub is_at_place : SetupView → ℕ → ℕ → ℕ → Bool
is_at_place run comm rank place = is_known run comm && place_of run comm rank == place

-- RankRange: the communicator has a rule, and the root is not a place of the rank's group
abbrev pub is_past_group : SetupView → ℕ → ℕ → ℕ → Bool
is_past_group run comm rank root = is_known run comm && not (has_place run comm rank root)

-- the statement's collective call names a root that is not a place of the rank's group, which is known
abbrev pub has_no_root : SetupView → Effect → ℕ → Bool
has_no_root run e rank = option_map_or (is_past_group run (comm_needed e.group) rank) e.root false

-- the rank is known to be the root of the statement's collective call
abbrev pub is_root : SetupView → Effect → ℕ → Bool
is_root run e rank = option_map_or (is_at_place run (comm_needed e.group) rank) e.root false

-- a part of the statement applies to this rank of its section
abbrev pub counts_at : SetupView → Effect → ℕ → At → Bool
counts_at run e rank at.All = true
counts_at run e rank at.Root = is_root run e rank
counts_at run e rank at.Others = not (is_root run e rank)

-- SelfMessage: a rank sends to itself or receives from itself
abbrev pub is_to_self : ℕ → Effect → ℕ → Bool
is_to_self nue e rank = option_map_or (λ peer. peer_of nue peer rank == rank) e.peer false

-- the number of a version of the language
abbrev pub version_number : Version → ℕ
version_number version.One = 1
version_number version.Two = 2

-- the highest communicator number of a version
abbrev pub last_comm : Version → ℕ
last_comm version.One = 7
last_comm version.Two = 15

-- a rule splits this parent by the remainder modulo k
abbrev pub is_mod_of : CommRule → ℕ → ℕ → Bool
is_mod_of rule.Absent parent k = false
is_mod_of rule.World parent k = false
is_mod_of (rule.Mod other l) parent k = parent == other && k == l
is_mod_of (rule.Div other l) parent k = false

-- a rule splits this parent by the quotient by k
abbrev pub is_div_of : CommRule → ℕ → ℕ → Bool
is_div_of rule.Absent parent k = false
is_div_of rule.World parent k = false
is_div_of (rule.Mod other l) parent k = false
is_div_of (rule.Div other l) parent k = parent == other && k == l

-- there is a rule already, and it is not this split's rule
abbrev pub differs_from : CommRule → CommRule → Bool
differs_from rule.Absent by = false
differs_from rule.World by = true
differs_from (rule.Mod parent k) by = not (is_mod_of by parent k)
differs_from (rule.Div parent k) by = not (is_div_of by parent k)

-- a split is wrong if it splits into the world, if its parent's number is not lower, or if an earlier line split it by another
-- rule
abbrev pub is_badly_split : SetupView → ℕ → CommRule → Bool
is_badly_split run comm rule = comm == 0 || not (nat_lt (parent_of rule) comm) || differs_from (rule_of run.comms comm) rule

-- UnknownComm: the statement names a communicator above the highest of its version, or splits one wrongly
abbrev pub is_unknown : Version → SetupView → Group → Bool
is_unknown version run group.World = false
is_unknown version run (group.Of comm) = nat_lt (last_comm version) comm
is_unknown version run (group.Split comm rule) = nat_lt (last_comm version) comm || is_badly_split run comm rule

-- the rank has split this communicator in an earlier line
abbrev pub has_split : List Item → ℕ → ℕ → Bool
has_split [] rank comm = false
has_split (item ∷ past) rank comm = has_split past rank comm || (has_rank item.who rank && is_split_of (effect_of item.stmt).group comm)

-- NotSplit: the rank has not split the communicator whose groups the statement needs. `split` tests which it has split.
abbrev pub is_not_split : (ℕ → Bool) → Group → Bool
is_not_split split group = not (comm_needed group == 0) && not (split (comm_needed group))

-- NotSplit, for a whole section: no earlier line splits the parent of this split
abbrev pub has_no_parent : SetupView → Group → Bool
has_no_parent run group.World = false
has_no_parent run (group.Of comm) = false
has_no_parent run (group.Split comm rule) = not (is_known run (parent_of rule))

-- the length that a statement gives a register, if `had` is the length of each register so far
abbrev pub length_given : (ℕ → Option ℕ) → Size → ℕ
length_given had (size.Bytes len) = len
length_given had (size.Same reg) = unwrap_or (had reg) 0

-- the register that a target sets, with its length, if the target applies to the rank
abbrev pub set_if : (ℕ → Option ℕ) → Target → Bool → Option Setting
set_if had target counts = if counts then Some (record { reg = target.reg; len = length_given had target.size }) else None

-- the register that a statement sets at a rank, with the length that it sets
abbrev pub set_by : SetupView → (ℕ → Option ℕ) → Effect → ℕ → Option Setting
set_by run had e rank = option_map_or (λ target. set_if had target (counts_at run e rank target.at)) e.sets None

-- the length that a setting gives this register, if it sets it
abbrev pub sets_to : Option Setting → ℕ → Option ℕ
sets_to None reg = None
sets_to (Some set) reg = if set.reg == reg then Some set.len else None

-- the length of a rank's register: the first one that the rank sets
abbrev pub length_at : ℕ → List Item → ℕ → ℕ → Option ℕ
length_at nue [] rank reg = None
length_at nue (item ∷ past) rank reg =
    option_or (length_at nue past rank reg) (if has_rank item.who rank
    then sets_to (set_by (run_of nue past) (length_at nue past rank) (effect_of item.stmt) rank) reg else None)

-- Unset: a statement reads a register that the rank has not set
abbrev pub is_unset : SetupView → (ℕ → Option ℕ) → Effect → ℕ → Bool
is_unset run had e rank = some_use (λ used. counts_at run e rank used.at && is_none (had used.reg)) e.uses

-- there is a length, and it is not this one
abbrev pub differs : Option ℕ → ℕ → Bool
differs None len = false
differs (Some had) len = not (had == len)

-- there is a length, and it is not a multiple of the type's width
abbrev pub is_ragged : Ty → Option ℕ → Bool
is_ragged ty None = false
is_ragged ty (Some had) = not (had % bytes_in ty == 0)

-- Shape: a statement sets a register to another length than the rank's register has
abbrev pub resizes : (ℕ → Option ℕ) → Option Setting → Bool
resizes had None = false
resizes had (Some set) = differs (had set.reg) set.len

-- a register has a length, and it is not the required one
abbrev pub is_unfit : (ℕ → Option ℕ) → ℕ → Fit → Bool
is_unfit had reg fit.Any = false
is_unfit had reg (fit.Whole ty) = is_ragged ty (had reg)
is_unfit had reg (fit.Long len) = differs (had reg) len
is_unfit had reg (fit.Like other) = differs (had reg) (unwrap_or (had other) 0)

-- Shape: a statement requires another length than one of its registers has
abbrev pub misfits : SetupView → (ℕ → Option ℕ) → Effect → ℕ → Bool
misfits run had e rank = some_use (λ used. counts_at run e rank used.at && is_unfit had used.reg used.fit) e.uses

-- Shape: the statement would change a register's length, or requires another one
abbrev pub is_misshapen : SetupView → (ℕ → Option ℕ) → Effect → ℕ → Bool
is_misshapen run had e rank = resizes had (set_by run had e rank) || misfits run had e rank

-- how often a statement inside these open repeats runs
abbrev pub turns_in : List Open → ℕ
turns_in repeats = option_map_or (λ r. r.turns) (slice_get repeats (length repeats - 1)) 1

-- the repeats that are open after a statement, the outermost one first
abbrev pub repeats_after : Nesting → ℕ → List Open → List Open
repeats_after (nesting.Opens times) place repeats = repeats ++ (record { start = place; turns = turns_in repeats * times }) ∷ []
repeats_after (nesting.Closes start) place repeats = take (length repeats - 1) repeats
repeats_after nesting.Stays place repeats = repeats

-- the repeats that are open after these statements, the outermost one first
abbrev pub open_of : List Item → List Open
open_of [] = []
open_of (item ∷ past) = repeats_after (effect_of item.stmt).nesting (length past) (open_of past)

-- the place of the innermost open repeat, or 0 if there is none
abbrev pub innermost : List Open → ℕ
innermost repeats = option_map_or (λ r. r.start) (slice_get repeats (length repeats - 1)) 0

-- StrayEnd: an end with no open repeat
abbrev pub is_stray : List Open → Nesting → Bool
is_stray repeats (nesting.Opens times) = false
is_stray repeats (nesting.Closes start) = length repeats == 0
is_stray repeats nesting.Stays = false

-- TooDeep: a repeat that would be nested too deep
abbrev pub is_too_deep : List Open → Nesting → Bool
is_too_deep repeats (nesting.Opens times) = nat_lt (most_open - 1) (length repeats)
is_too_deep repeats (nesting.Closes start) = false
is_too_deep repeats nesting.Stays = false

-- the root that a collective call names is a place of the rank's group
abbrev pub has_root : SetupView → ℕ → Coll → Bool
has_root run rank (coll.Bcast comm root len) = has_place run comm rank root
has_root run rank (coll.Reduce comm root len) = has_place run comm rank root
has_root run rank (coll.Allreduce comm len) = true

-- the number of steps of a collective call at a rank, or 0 if its group or its root is not known
abbrev pub steps_in : SetupView → ℕ → Coll → ℕ
steps_in run rank call = if is_known run (comm_of call) && has_root run rank call then length (steps_of run rank call) else 0

-- the same collective call with length 0
abbrev pub of_no_bytes : Coll → Coll
of_no_bytes (coll.Bcast comm root len) = coll.Bcast comm root 0
of_no_bytes (coll.Reduce comm root len) = coll.Reduce comm root 0
of_no_bytes (coll.Allreduce comm len) = coll.Allreduce comm 0

-- how many operations one pass of a statement costs a rank. (The number of steps does not depend on the length.)
abbrev pub cost_of : SetupView → Cost → ℕ → ℕ
cost_of run cost.Free rank = 0
cost_of run cost.One rank = 1
cost_of run (cost.Steps call) rank = steps_in run rank (of_no_bytes call)

-- how many operations a rank makes: each statement counts once for each time that it runs
abbrev pub operations : ℕ → List Item → ℕ → ℕ
operations nue [] rank = 0
operations nue (item ∷ past) rank = operations nue past rank
    + (if has_rank item.who rank then turns_in (open_of past) * cost_of (run_of nue past) (effect_of item.stmt).cost rank else 0)

-- TooManyOps, at a repeat: the statements in it would run more often than a rank may have operations
abbrev pub turns_too_often : ℕ → Nesting → Bool
turns_too_often turns (nesting.Opens times) = nat_lt most_operations (turns * times)
turns_too_often turns (nesting.Closes start) = false
turns_too_often turns nesting.Stays = false

-- TooManyOps, at another statement: with it a rank has more operations than it may
abbrev pub is_overworked : SetupView → ℕ → ℕ → Cost → ℕ → Bool
is_overworked run done turns cost rank = nat_lt most_operations (done + turns * cost_of run cost rank)

-- how many register bytes one pass of a statement prints
abbrev pub prints : (ℕ → Option ℕ) → Effect → ℕ
prints had e = option_map_or (λ reg. unwrap_or (had reg) 0) e.prints 0

-- how many register bytes a rank prints in these statements, each counted once for each time that it runs
abbrev pub bytes_printed : ℕ → List Item → ℕ → ℕ
bytes_printed nue [] rank = 0
bytes_printed nue (item ∷ past) rank = bytes_printed nue past rank
    + (if has_rank item.who rank then turns_in (open_of past) * prints (length_at nue past rank) (effect_of item.stmt) else 0)

-- the statement states a length above the greatest of a message
abbrev pub is_past_most : Size → Bool
is_past_most (size.Bytes len) = nat_lt most_message len
is_past_most (size.Same reg) = false

-- TooLong: the statement sets a register to a length above the greatest of a message
abbrev pub is_too_long : Effect → Bool
is_too_long e = option_map_or (λ target. is_past_most target.size) e.sets false

-- TooLong: a statement posts more than one chunk
abbrev pub posts_too_much : (ℕ → Option ℕ) → Effect → Bool
posts_too_much had e = option_map_or (λ reg. nat_lt most_post (unwrap_or (had reg) 0)) e.posts false

-- TooLong: with this print a rank prints more bytes than it may
abbrev pub prints_too_much : (ℕ → Option ℕ) → ℕ → ℕ → Effect → Bool
prints_too_much had done turns e = nat_lt most_printed (done + turns * prints had e)

-- a check on ranks refuses the statement for a rank of its section, after the statements before it
abbrev pub refuses : FaultKind → ℕ → List Item → Effect → ℕ → Bool
refuses kind.RankRange nue past e rank = has_no_root (run_of nue past) e rank
refuses kind.SelfMessage nue past e rank = is_to_self nue e rank
refuses kind.NotSplit nue past e rank = is_not_split (has_split past rank) e.group
refuses kind.Unset nue past e rank = is_unset (run_of nue past) (length_at nue past rank) e rank
refuses kind.Shape nue past e rank = is_misshapen (run_of nue past) (length_at nue past rank) e rank
refuses kind.TooManyOps nue past e rank = is_overworked (run_of nue past) (operations nue past rank) (turns_in (open_of past)) e.cost rank
refuses kind.TooLong nue past e rank =
    posts_too_much (length_at nue past rank) e
    || prints_too_much (length_at nue past rank) (bytes_printed nue past rank) (turns_in (open_of past)) e
refuses kind.NotText nue past e rank = false
refuses kind.UnknownStatement nue past e rank = false
refuses kind.WrongCount nue past e rank = false
refuses kind.BadNumber nue past e rank = false
refuses kind.BadHex nue past e rank = false
refuses kind.BadName nue past e rank = false
refuses kind.UnknownComm nue past e rank = false
refuses kind.NoSection nue past e rank = false
refuses kind.UnclosedRepeat nue past e rank = false
refuses kind.StrayEnd nue past e rank = false
refuses kind.TooDeep nue past e rank = false
refuses kind.TooManyNames nue past e rank = false
