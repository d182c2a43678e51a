-- The program of a rank: the primitives of its statements, in the order of the file (this project's profile; the steps of a
-- collective call are those of `groups`).
use Rattle.std.specs.Prelude.{ℕ, zero, suc, ◌+◌, ◌-◌, ◌%◌, Bool, true, false, ◌&&◌, not, nat_le, nat_lt, if◌then◌else◌, List, [], ◌∷◌, ◌++◌, map, Option, Some, None, pos}
use Rattle.std.specs.List.{filter_map, range_with_len}
use Rattle.std.specs.Option.{option_to_list}
use Rattle.scc_base.specs.Communicators.{rule_of}
use Rattle.scc_base.specs.Heads.{MessageHead, plain_head, most_message}
use Rattle.scc_base.specs.Setups.{SetupView}
use Rattle.scc_base.specs.declared.layouts.Layout.TheVariants as layout
use Rattle.groups.specs.declared.collectives.Coll.{Coll}
use Rattle.groups.specs.declared.collectives.Coll.TheVariants as coll
use Rattle.groups.specs.declared.collectives.Step.{Step}
use Rattle.groups.specs.declared.collectives.Step.TheVariants as step
use Rattle.groups.specs.declared.operations.Op.{Op}
use Rattle.groups.specs.declared.operations.Op.TheVariants as op
use Rattle.groups.specs.declared.operations.Ty.{Ty}
use Rattle.groups.specs.declared.operations.Ty.TheVariants as ty
use Rattle.groups.specs.Collectives.{comm_of, len_of, steps_of}
use Rattle.groups.specs.Folds.{bytes_of_value}
use Rattle.script_machine.specs.declared.prims.Collective.{Collective}
use Rattle.script_rules.specs.declared.effect.Nesting.{Nesting}
use Rattle.script_rules.specs.declared.effect.Nesting.TheVariants as nesting
use Rattle.script_machine.specs.declared.prims.Operands.{Operands}
use Rattle.script_machine.specs.declared.prims.Source.{Source}
use Rattle.script_machine.specs.declared.prims.Source.TheVariants as source
use Rattle.script_rules.specs.Checks.{has_root, is_absent}
use Rattle.script_rules.specs.Effects.{effect_of, parent_of}
use Rattle.script_rules.specs.declared.script.Item.{Item}
use Rattle.script_rules.specs.declared.script.OwnStmt.{OwnStmt}
use Rattle.script_rules.specs.declared.script.Stmt.{Stmt}
use Rattle.script_rules.specs.declared.script.Stmt.TheVariants as stmt
use Rattle.script_rules.specs.Script.{Script, has_rank, peer_of, rules_of}

-- what a primitive does
pub data Act : Type 0 where
  -- the register becomes these bytes
  Set : (reg : ℕ) → (content : List ℕ) → Act
  -- a local statement
  Own : (own : OwnStmt) → Act
  -- a send of the source's bytes: the head has their length
  Send : (to : ℕ) → (head : MessageHead) → (source : Source) → Act
  -- a plain send of the register's bytes for which the rank does not wait
  Post : (to : ℕ) → (reg : ℕ) → Act
  -- a receive into the register
  Recv : (from : ℕ) → (reg : ℕ) → (head : MessageHead) → Act
  -- a receive into the buffer of received bytes: with this head, or with the length of a register if one is named
  Gather : (from : ℕ) → (head : MessageHead) → (sized : Option ℕ) → Act
  Bar : (comm : ℕ) → Act
  -- the accumulator becomes the register's bytes
  Begin : (reg : ℕ) → Act
  -- the accumulator becomes accumulator op received, value by value
  Fold : (op : Op) → (ty : Ty) → Act
  -- the register becomes the received bytes, or the accumulator
  Accept : (reg : ℕ) → Act
  Finish : (reg : ℕ) → Act

-- a primitive, with the line of its statement
pub record Prim : Type 0 where
  pub line : ℕ
  pub act : Act

-- byte i is (start + i) mod 251
abbrev pub filling : ℕ → ℕ → List ℕ
filling len start = map (λ i. (start + i) % 251) (range_with_len 0 len)

-- the primitive of a statement that is a single one: a barrier is one of its communicator, and a split is one of its parent.
-- (`repeat` and `end` make none.)
abbrev pub single_of : ℕ → ℕ → Stmt → Option Act
single_of nue rank (stmt.Bytes reg bytes) = Some (Set reg bytes)
single_of nue rank (stmt.Fill reg len start) = Some (Set reg (filling len start))
single_of nue rank (stmt.RankOf reg ty) = Some (Set reg (bytes_of_value ty (pos rank)))
single_of nue rank (stmt.Own own) = Some (Own own)
single_of nue rank (stmt.Send peer reg) = Some (Send (peer_of nue peer rank) (plain_head 0) (source.Own reg))
single_of nue rank (stmt.Post peer reg) = Some (Post (peer_of nue peer rank) reg)
single_of nue rank (stmt.Recv peer reg len) = Some (Recv (peer_of nue peer rank) reg (plain_head len))
single_of nue rank (stmt.Barrier comm) = Some (Bar comm)
single_of nue rank (stmt.Split comm rule) = Some (Bar (parent_of rule))
single_of nue rank (stmt.Bcast comm root reg len) = None
single_of nue rank (stmt.Reduce comm root op ty dst src) = None
single_of nue rank (stmt.Allreduce comm op ty dst src) = None
single_of nue rank (stmt.Repeat times end) = None
single_of nue rank (stmt.End start) = None

-- a statement that is a collective call: a broadcast states its length and folds nothing; the messages of the others are as
-- long as their source
abbrev pub collective_of : Stmt → Option Collective
collective_of (stmt.Bcast comm root reg len) =
    Some (record { coll = coll.Bcast comm root len; operands = record { op = op.Sum; ty = ty.Int; dst = reg; src = reg; sized = None } })
collective_of (stmt.Reduce comm root op ty dst src) =
    Some (record { coll = coll.Reduce comm root 0; operands = record { op = op; ty = ty; dst = dst; src = src; sized = Some src } })
collective_of (stmt.Allreduce comm op ty dst src) =
    Some (record { coll = coll.Allreduce comm 0; operands = record { op = op; ty = ty; dst = dst; src = src; sized = Some src } })
collective_of (stmt.Bytes reg bytes) = None
collective_of (stmt.Fill reg len start) = None
collective_of (stmt.RankOf reg ty) = None
collective_of (stmt.Own own) = None
collective_of (stmt.Send peer reg) = None
collective_of (stmt.Post peer reg) = None
collective_of (stmt.Recv peer reg len) = None
collective_of (stmt.Barrier comm) = None
collective_of (stmt.Split comm rule) = None
collective_of (stmt.Repeat times end) = None
collective_of (stmt.End start) = None

-- rank r may make this collective call. (An accepted script has no others.)
abbrev pub can_call : SetupView → ℕ → Coll → Bool
can_call s r c =
    nat_lt (comm_of c) 16 && not (is_absent (rule_of s.comms (comm_of c))) && nat_le (len_of c) most_message && nat_lt r s.nue
    && has_root s r c

-- a step of a collective call: once the call has begun, a send takes the accumulator, otherwise the source
abbrev pub part_of : Operands → Bool → Step → Act
part_of o begun step.Begin = Begin o.src
part_of o begun (step.Send to head) = Send to head (if begun then source.Accumulator else source.Own o.src)
part_of o begun (step.Recv from head) = Gather from head o.sized
part_of o begun step.Fold = Fold o.op o.ty
part_of o begun step.Accept = Accept o.dst
part_of o begun step.Finish = Finish o.dst

-- the step at which a collective call copies its source into the accumulator
abbrev pub is_begin : Step → Bool
is_begin step.Begin = true
is_begin (step.Send to head) = false
is_begin (step.Recv from head) = false
is_begin step.Fold = false
is_begin step.Accept = false
is_begin step.Finish = false

-- the steps begin with the source in the accumulator
abbrev pub begins : List Step → Bool
begins [] = false
begins (step ∷ steps) = is_begin step

-- the steps of a rank in a collective call, or none if it may not make it
abbrev pub call_steps : SetupView → ℕ → Coll → List Step
call_steps s rank c = if can_call s rank c then steps_of s rank c else []

-- the actions of the steps of a collective call
abbrev pub parts_of : Operands → List Step → List Act
parts_of o steps = map (part_of o (begins steps)) steps

-- the actions of a statement at a rank: those of its collective call, or its single one
abbrev pub acts_by : SetupView → ℕ → Stmt → Option Collective → List Act
acts_by s rank stmt None = option_to_list (single_of s.nue rank stmt)
acts_by s rank stmt (Some call) = parts_of call.operands (call_steps s rank call.coll)

-- what a statement does for a rank, in order
abbrev pub acts_of : SetupView → ℕ → Stmt → List Act
acts_of s rank stmt = acts_by s rank stmt (collective_of stmt)

-- the primitives that an item makes for a rank: those of its statement if the rank is in its section, otherwise none
abbrev pub prims_of : SetupView → ℕ → Item → List Prim
prims_of s rank item = if has_rank item.who rank then map (λ act. record { line = item.line; act = act }) (acts_of s rank item.stmt) else []

-- what an item does to the repeats of a rank: nothing if the rank is not in its section
abbrev pub nesting_at : ℕ → Item → Nesting
nesting_at rank item = if has_rank item.who rank then (effect_of item.stmt).nesting else nesting.Stays

-- what items make, in pieces: `here` is up to the end of the innermost repeat that is open before them, and `afterwards` has a
-- piece for each such repeat, from its end to the next one's end
pub record Unrolled (A : Type 0) : Type 0 where
  pub here : List A
  pub afterwards : List (List A)

-- a list that many times
abbrev pub copies : {A : Type 0} → ℕ → List A → List A
copies zero list = []
copies (suc n) list = list ++ copies n list

-- a repeat's body as often as the repeat states, and then what comes after its end. (An accepted script has an end for each
-- repeat, which runs at least once.)
abbrev pub unrolled_repeat : {A : Type 0} → ℕ → List A → List (List A) → Unrolled A
unrolled_repeat times body [] = record { here = body; afterwards = [] }
unrolled_repeat times body (next ∷ afterwards) = record { here = body ++ (copies (times - 1) body ++ next); afterwards = afterwards }

-- what items make, with one more item before them
abbrev pub in_front : {A : Type 0} → Nesting → List A → Unrolled A → Unrolled A
in_front (nesting.Opens times) own u = unrolled_repeat times u.here u.afterwards
in_front (nesting.Closes start) own u = record { here = own; afterwards = u.here ∷ u.afterwards }
in_front nesting.Stays own u = record { here = own ++ u.here; afterwards = u.afterwards }

-- what items make for a rank: the primitives up to the end of the open repeat, and those after it
unfoldable pub unrolled_items : SetupView → ℕ → List Item → Unrolled Prim
unrolled_items s rank [] = record { here = []; afterwards = [] }
unrolled_items s rank (item ∷ items) = in_front (nesting_at rank item) (prims_of s rank item) (unrolled_items s rank items)

-- the setup for the collective calls of a script: neither its layout nor its hosts matter
abbrev pub setup_of : Script → SetupView
setup_of script = record { nue = script.nue; layout = layout.LineFlags; hosts = range_with_len 0 48; comms = rules_of script.items }

-- the primitives of a rank: those of its items, in the order of the file, with each repeat's body as often as it states
abbrev pub program_of : Script → ℕ → List Prim
program_of script rank = (unrolled_items (setup_of script) rank script.items).here

-- the marks of an item: its primitives, or None if it ends a pass of a repeat
abbrev pub marks_by : Nesting → List Prim → List (Option Prim)
marks_by (nesting.Opens times) prims = map Some prims
marks_by (nesting.Closes start) prims = None ∷ []
marks_by nesting.Stays prims = map Some prims

-- the marks of an item for this rank
abbrev pub marks_of : SetupView → ℕ → Item → List (Option Prim)
marks_of s rank item = marks_by (nesting_at rank item) (prims_of s rank item)

-- what items make for a rank, as marks
unfoldable pub unrolled_marks : SetupView → ℕ → List Item → Unrolled (Option Prim)
unrolled_marks s rank [] = record { here = []; afterwards = [] }
unrolled_marks s rank (item ∷ items) = in_front (nesting_at rank item) (marks_of s rank item) (unrolled_marks s rank items)

-- the primitives and the ends of passes of a rank, in order; each is one operation
abbrev pub marks_in : Script → ℕ → List (Option Prim)
marks_in script rank = (unrolled_marks (setup_of script) rank script.items).here

-- the primitives among marks
abbrev pub prims_in : List (Option Prim) → List Prim
prims_in marks = filter_map (λ mark. mark) marks
