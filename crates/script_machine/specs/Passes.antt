-- The passes of a repeat without inner repeats, and the capacity that a batch of primitives needs.
use Rattle.std.specs.Prelude.{◌≡◌, ℕ, List, [], ◌∷◌, ◌++◌, map, drop, Option, Some, None}
use Rattle.scc_base.specs.Setups.{SetupView}
use Rattle.script_rules.specs.declared.script.Item.{Item}
use Rattle.script_machine.specs.declared.course.Open.{Open}
use Rattle.script_machine.specs.Lengths.{Lengths}
use Rattle.script_machine.specs.Program.{Prim, copies, unrolled_marks, prims_in}
use Rattle.script_machine.specs.Rooms.{AreWithin, IsWider, Rooms}
use Rattle.script_machine.specs.Walk.{CourseView, WalkView}

-- one pass: primitives, and then the end of the pass
abbrev pub flat_pass : List Prim → List (Option Prim)
flat_pass prims = map Some prims ++ None ∷ []

-- the items between two places make primitives only, without an end of a pass
pub record IsFlat (s : SetupView) (rank : ℕ) (items : List Item) (start end : ℕ) : Type 0 where
  pub prims : List Prim
  pub same : (unrolled_marks s rank (drop start items)).here ≡ map Some prims ++ (unrolled_marks s rank (drop end items)).here

-- the innermost open repeat has this many passes left, and its body makes primitives only up to this place
pub record IsFlatFront (rank : ℕ) (items : List Item) (at : ℕ) (repeats : List Open) (passes : ℕ) : Type 0 where
  pub start : ℕ
  pub around : List Open
  pub front : repeats ≡ record { start = start; left = passes } ∷ around
  pub flat : (s : SetupView) → IsFlat s rank items start at

-- the same repeats, in the last pass of the innermost one
abbrev pub last_pass : List Open → List Open
last_pass [] = []
last_pass (o ∷ repeats) = record { start = o.start; left = 0 } ∷ repeats

-- what is left is the end of a pass, then this many passes of primitives only, and then the rest
pub record HasPasses (left : List (Option Prim)) (passes : ℕ) : Type 0 where
  pub prims : List Prim
  pub rest : List (Option Prim)
  pub same : left ≡ None ∷ (copies passes (flat_pass prims) ++ rest)

-- some passes of primitives only are skipped
pub record LeavesOut (old new : List (Option Prim)) : Type 0 where
  pub passes : ℕ
  pub prims : List Prim
  pub rest : List (Option Prim)
  pub was : old ≡ None ∷ (copies passes (flat_pass prims) ++ rest)
  pub now : new ≡ None ∷ rest

-- the walk over the primitives of a course
abbrev pub walk_of : CourseView → WalkView
walk_of c = record { script = c.script; setup = c.setup; rank = c.rank; left = prims_in c.left }

-- if capacities no smaller than `most` suffice for `after` from the lengths `m` on, they suffice for `before` from `l` on
abbrev pub HoldsBefore : Rooms → Lengths → List Prim → Lengths → List Prim → Type 0
HoldsBefore most l before m after = (room : Rooms) → IsWider most room → AreWithin room m after → AreWithin room l before

-- between two points of a course there are primitives only, and any capacities of at least `most` that suffice after them
-- suffice before them
pub record IsBatch (most : Rooms) (l m : Lengths) (left after : List (Option Prim)) : Type 0 where
  pub prims : List Prim
  pub same : left ≡ map Some prims ++ after
  pub holds : (rest : List Prim) → HoldsBefore most l (prims ++ rest) m rest

-- only the lengths of the work buffers may have changed
abbrev pub KeepsRegisters : Lengths → Lengths → Type 0
KeepsRegisters l m = m ≡ record l { accumulator = m.accumulator; received = m.received }
