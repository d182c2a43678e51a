-- A walk through a rank's primitives, and the course that it follows, which keeps its place and the open repeats.
use Rattle.std.specs.Prelude.{◌≡◌, ℕ, zero, suc, ◌+◌, ◌-◌, ◌<◌, ◌≤◌, Bool, true, false, IfSome, List, [], ◌∷◌, ◌++◌, map, length, drop, slice_get, Option, Some, None}
use Rattle.std.specs.Option.{option_map}
use Rattle.scc_base.specs.Setups.{SetupView}
use Rattle.script_machine.specs.declared.prims.Action.{Action}
use Rattle.script_machine.specs.declared.prims.Action.TheVariants as action
use Rattle.script_machine.specs.declared.prims.Content.{Content}
use Rattle.script_machine.specs.declared.prims.Content.TheVariants as content
use Rattle.script_rules.specs.declared.effect.Nesting.{Nesting}
use Rattle.script_rules.specs.declared.effect.Nesting.TheVariants as nesting
use Rattle.script_machine.specs.declared.prims.Primitive.{Primitive}
use Rattle.script_machine.specs.declared.course.Open.{Open}
use Rattle.script_rules.specs.declared.script.Item.{Item}
use Rattle.script_rules.specs.Script.{Script}
use Rattle.script_machine.specs.Program.{Act, Prim, Unrolled, copies, filling, unrolled_marks, marks_of, nesting_at, prims_in}
use Rattle.script_machine.specs.Program.Act.{Set, Own, Send, Post, Recv, Gather, Bar, Begin, Fold, Accept, Finish}
use Rattle.groups.specs.Folds.{bytes_of_value}
use Rattle.std.specs.Prelude.{pos}
use Rattle.scc_base.specs.Heads.{most_message}

-- the bytes that a register is set to
abbrev pub content_of : Content → List ℕ
content_of (content.Bytes bytes) = bytes.now
content_of (content.Filling len start) = filling len start
content_of (content.Number ty number) = bytes_of_value ty (pos number)

-- a register is set to at most as many bytes as a message may have
abbrev pub IsShort : Action → Type 0
IsShort (action.Set reg content) = length (content_of content) ≤ most_message
IsShort (action.Own own) = Unit {0}
IsShort (action.Send to head source) = Unit {0}
IsShort (action.Post to reg) = Unit {0}
IsShort (action.Recv from reg head) = Unit {0}
IsShort (action.Gather from head sized) = Unit {0}
IsShort (action.Bar comm) = Unit {0}
IsShort (action.Begin reg) = Unit {0}
IsShort (action.Fold op ty) = Unit {0}
IsShort (action.Accept reg) = Unit {0}
IsShort (action.Finish reg) = Unit {0}

-- the action that an action of the code means
abbrev pub act_meant : Action → Act
act_meant (action.Set reg content) = Set reg (content_of content)
act_meant (action.Own own) = Own own
act_meant (action.Send to head source) = Send to head source
act_meant (action.Post to reg) = Post to reg
act_meant (action.Recv from reg head) = Recv from reg head
act_meant (action.Gather from head sized) = Gather from head sized
act_meant (action.Bar comm) = Bar comm
act_meant (action.Begin reg) = Begin reg
act_meant (action.Fold op ty) = Fold op ty
act_meant (action.Accept reg) = Accept reg
act_meant (action.Finish reg) = Finish reg

-- a primitive needs no other rank
abbrev pub is_own_act : Act → Bool
is_own_act (Set reg content) = true
is_own_act (Own own) = true
is_own_act (Send to head source) = false
is_own_act (Post to reg) = false
is_own_act (Recv from reg head) = false
is_own_act (Gather from head sized) = false
is_own_act (Bar comm) = false
is_own_act (Begin reg) = true
is_own_act (Fold op ty) = true
is_own_act (Accept reg) = true
is_own_act (Finish reg) = true

-- an action needs no other rank
abbrev pub is_own : Action → Bool
is_own action = is_own_act (act_meant action)

-- the primitive that a primitive of the code means
abbrev pub prim_meant : Primitive → Prim
prim_meant p = record { line = p.line; act = act_meant p.action }

-- a walk: the script, the setup and the rank, and the primitives that are left
pub record WalkView : Type 0 where
  pub script : Script
  pub setup : SetupView
  pub rank : ℕ
  pub left : List Prim

-- a course: the script, the setup and the rank, and the marks that are left
pub record CourseView : Type 0 where
  pub script : Script
  pub setup : SetupView
  pub rank : ℕ
  pub left : List (Option Prim)

-- the next mark is the end of a pass
abbrev pub is_end : Option (Option Prim) → Bool
is_end None = false
is_end (Some None) = true
is_end (Some (Some prim)) = false

-- a statement ends a pass of a repeat
abbrev pub is_closing : Nesting → Bool
is_closing (nesting.Opens times) = false
is_closing (nesting.Closes start) = true
is_closing nesting.Stays = false

-- the next primitive: none if the next mark is the end of a pass
abbrev pub prim_of : Option (Option Prim) → Option Prim
prim_of None = None
prim_of (Some mark) = mark

-- the next primitive of marks that do not begin with an end of a pass
pub record IsFront (marks : List (Option Prim)) (next : Option Primitive) : Type 0 where
  pub stands : is_end (slice_get marks 0) ≡ false
  pub same : option_map prim_meant next ≡ slice_get (prims_in marks) 0
  pub short : IfSome next (λ p. IsShort p.action)

-- what the further passes of an open repeat make
abbrev pub again : SetupView → ℕ → List Item → Open → List (Option Prim)
again s rank items o = copies o.left (unrolled_marks s rank (drop o.start items)).here

-- what is left: up to the end of the innermost open repeat, its further passes, then up to the next one's end, and so on
abbrev pub woven : {A : Type 0} → List A → List (List A) → List (List A) → List A
woven here [] more = here
woven here (next ∷ afterwards) [] = here
woven here (next ∷ afterwards) (passes ∷ more) = here ++ (passes ++ woven next afterwards more)

-- what is left of the items, if `more` has the further passes of each repeat that is open before them
abbrev pub left_of : {A : Type 0} → Unrolled A → List (List A) → List A
left_of u more = woven u.here u.afterwards more

-- what is left from a place on, with these repeats open, the innermost one first
abbrev pub left_at : SetupView → ℕ → List Item → ℕ → List Open → List (Option Prim)
left_at s rank items place open_repeats =
    left_of (unrolled_marks s rank (drop place items)) (map (again s rank items) open_repeats)

-- each open repeat is the one whose end comes next: the same marks follow both ends
abbrev pub AreOpen : SetupView → ℕ → List Item → List (List (Option Prim)) → List Open → Type 0
AreOpen s rank items [] open_repeats = Unit {0}
AreOpen s rank items (next ∷ afterwards) [] = Unit {0}
AreOpen s rank items (next ∷ afterwards) (o ∷ open_repeats) =
    ((unrolled_marks s rank (drop o.start items)).afterwards ≡ next ∷ afterwards) × AreOpen s rank items afterwards open_repeats

-- these repeats are open at a place: the same marks follow their ends as in the script
abbrev pub AreOpenAt : SetupView → ℕ → List Item → ℕ → List Open → Type 0
AreOpenAt s rank items place open_repeats = AreOpen s rank items (unrolled_marks s rank (drop place items)).afterwards open_repeats

-- an item, if there is one, has more than `step` marks
abbrev pub HasMore : SetupView → ℕ → Option Item → ℕ → Type 0
HasMore s rank None step = Unit {0}
HasMore s rank (Some item) step = step < length (marks_of s rank item)

-- the item at a place has more than `step` marks, if there is an item
abbrev pub HasMoreMarks : SetupView → ℕ → List Item → ℕ → ℕ → Type 0
HasMoreMarks s rank items place step = HasMore s rank (slice_get items place) step

-- a course can go on: each open repeat has its end, and the item at its place has more marks than were passed
pub record IsAt (s : SetupView) (rank : ℕ) (items : List Item) (place step : ℕ) (repeats : List Open) : Type 0 where
  pub within : rank < s.nue
  pub opens : AreOpenAt s rank items place repeats
  pub stands : HasMoreMarks s rank items place step

-- how many marks an item has, if there is one
abbrev pub mark_count : SetupView → ℕ → Option Item → ℕ
mark_count s rank None = 0
mark_count s rank (Some item) = length (marks_of s rank item)

-- an item, if there is one, is the end of a pass
abbrev pub is_pass_end : ℕ → Option Item → Bool
is_pass_end rank None = false
is_pass_end rank (Some item) = is_closing (nesting_at rank item)

-- how many marks the item at a place has, and whether it is the end of a pass
pub record IsStand (s : SetupView) (rank : ℕ) (here : Option Item) (count : ℕ) (closes : Bool) : Type 0 where
  pub count_is : count ≡ mark_count s rank here
  pub closes_is : closes ≡ is_pass_end rank here

-- the repeats that are open after an item that may begin one
abbrev pub repeats_after_begin : Nesting → ℕ → List Open → List Open
repeats_after_begin (nesting.Opens times) at repeats = record { start = at + 1; left = times - 1 } ∷ repeats
repeats_after_begin (nesting.Closes start) at repeats = repeats
repeats_after_begin nesting.Stays at repeats = repeats

-- the place after the end of a pass: the repeat's start if a pass is left, otherwise the next place
abbrev pub next_pass : ℕ → ℕ → ℕ → ℕ
next_pass at start zero = at + 1
next_pass at start (suc left) = start

-- the place after the end of a pass of the innermost open repeat, or `end` if none is open
abbrev pub closed_to : ℕ → ℕ → List Open → ℕ
closed_to at end [] = end
closed_to at end (o ∷ repeats) = next_pass at o.start o.left

-- the open repeats after the end of a pass, if `left` passes of the innermost one are left
abbrev pub closed_by : ℕ → ℕ → List Open → List Open
closed_by start zero repeats = repeats
closed_by start (suc left) repeats = record { start = start; left = left } ∷ repeats

-- the open repeats after the end of a pass of the innermost one
abbrev pub repeats_after_pass : List Open → List Open
repeats_after_pass [] = []
repeats_after_pass (o ∷ repeats) = closed_by o.start o.left repeats

-- the place after an item that has marks
abbrev pub passed_to : Nesting → ℕ → ℕ → List Open → ℕ
passed_to (nesting.Opens times) at end repeats = at + 1
passed_to (nesting.Closes start) at end repeats = closed_to at end repeats
passed_to nesting.Stays at end repeats = at + 1

-- the open repeats after an item that has marks
abbrev pub repeats_after_marks : Nesting → List Open → List Open
repeats_after_marks (nesting.Opens times) repeats = repeats
repeats_after_marks (nesting.Closes start) repeats = repeats_after_pass repeats
repeats_after_marks nesting.Stays repeats = repeats
