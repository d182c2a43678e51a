use Rattle.std.proofs.Common.{◌≡◌, ◌∙◌, ℕ, ◌+◌, [], ap, subst, sym, arith, length, drop, List, Option}
use Rattle.std.proofs.lemmas.List.{drop-drop}
use Rattle.script_machine.specs.Depths.{HasRoom}
use Rattle.script_machine.specs.Program.{Prim, marks_of, nesting_at}
use Rattle.script_machine.specs.Walk.{CourseView, left_at}
use Rattle.script_machine.proofs.Walks.DepthLaws.{deep_passed}
use Rattle.script_machine.proofs.Walks.StandLaws.{stand_of}
use Rattle.script_machine.proofs.Walks.WalkLaws.{after_open, after_same, last_done, nothing_past, some_at, some_there, stands_there}
use Rattle.script_machine.proofs.course.Course.advance.Goals as goal

pub returns-then-at-len : goal.returns-then-at-len
returns-then-at-len c =
    let walk = c.self.inside in
    let left : CourseView → List (Option Prim) = λ w. w.left in
    let none : c.args.self.now.left ≡ [] =
    ap left (sym c.self.view_is) ∙ nothing_past walk.setup walk.rank walk.scripts.now.items walk.place walk.step walk.repeats.items (omega (arith, c.if-at-len.true, c.len.ensures)) in
    λ i. record { script = c.args.self.now.script; setup = c.args.self.now.setup; rank = c.args.self.now.rank; left = (none ∙ sym (ap (drop 1) none)) i }

pub overflow_add-self : goal.overflow_add-self
overflow_add-self c =
    let walk = c.self.inside in
    let found = some_at walk.scripts.now.items walk.place (omega (arith, c.if-at-len.false, c.len.ensures)) in
    let stand = stand_of walk.setup walk.rank walk.scripts.now.items walk.place walk.count walk.closes found.0 found.1 c.self.invariant.1.1.1 in
    let there = stands_there walk.setup walk.rank walk.scripts.now.items walk.place walk.step found.0 found.1 c.self.invariant.0.stands in
    omega (arith, there, stand.count_is)

pub overflow_add-self-inside : goal.overflow_add-self-inside
overflow_add-self-inside c =
    let walk = c.self.inside in
    let found = some_at walk.scripts.now.items walk.place (omega (arith, c.if-at-len.false, c.len.ensures)) in
    let stand = stand_of walk.setup walk.rank walk.scripts.now.items walk.place walk.count walk.closes found.0 found.1 c.self.invariant.1.1.1 in
    let there = stands_there walk.setup walk.rank walk.scripts.now.items walk.place walk.step found.0 found.1 c.self.invariant.0.stands in
    omega (arith, there, stand.count_is)

pub invariant_of-self : goal.invariant_of-self
invariant_of-self c =
    let walk = c.self.inside in
    let found = some_at walk.scripts.now.items walk.place (omega (arith, c.if-at-len.false, c.len.ensures)) in
    let stand = stand_of walk.setup walk.rank walk.scripts.now.items walk.place walk.count walk.closes found.0 found.1 c.self.invariant.1.1.1 in
    let more = some_there walk.setup walk.rank walk.scripts.now.items walk.place (walk.step + 1) found.0 found.1 (omega (arith, c.if-self.true, stand.count_is)) in
    (record { within = c.self.invariant.0.within; opens = c.self.invariant.0.opens; stands = more }, c.self.invariant.1)

pub invariant_of-self-2 : goal.invariant_of-self-2
invariant_of-self-2 c =
    let walk = c.self.inside in
    let held = c.settled-stand.ensures in
    let room = subst (λ (n : ℕ). HasRoom walk.rank walk.scripts.now.items n) (sym (held.room ∙ c.pass_marks-next.ensures.room)) c.self.invariant.1.0.1 in
    (record { within = c.self.invariant.0.within; opens = held.opens; stands = held.stands }, ((held.deep, room), (c.self.invariant.1.1.0, held.stand)))

pub returns-then-self : goal.returns-then-self
returns-then-self c =
    let walk = c.self.inside in
    let left = sym (drop-drop 1 walk.step (left_at walk.setup walk.rank walk.scripts.now.items walk.place walk.repeats.items)) in
    ap (λ (l : List (Option Prim)). record { script = walk.scripts.now; setup = walk.setup; rank = walk.rank; left = l }) left
    ∙ ap (λ (w : CourseView). record w { left = drop 1 w.left }) c.self.view_is

pub settled-stand-requires-clause-opens : goal.settled-stand-requires-clause-opens
settled-stand-requires-clause-opens c =
    let walk = c.self.inside in
    let found = some_at walk.scripts.now.items walk.place (omega (arith, c.if-at-len.false, c.len.ensures)) in
    let stand = stand_of walk.setup walk.rank walk.scripts.now.items walk.place walk.count walk.closes found.0 found.1 c.self.invariant.1.1.1 in
    let there = stands_there walk.setup walk.rank walk.scripts.now.items walk.place walk.step found.0 found.1 c.self.invariant.0.stands in
    after_open walk.setup walk.rank walk.scripts.now.items walk.place c.len-2.result c.pass_marks-next.result found.0 walk.repeats.items c.pass_marks-next.new.repeats.items
    found.1 (omega (arith, there)) (omega (arith, c.len-2.ensures)) c.self.invariant.0.opens (c.pass_marks-next.ensures.to (nesting_at walk.rank found.0) stand.closes_is) (c.pass_marks-next.ensures.left (nesting_at walk.rank found.0) stand.closes_is)

pub settled-stand-requires-clause-deep : goal.settled-stand-requires-clause-deep
settled-stand-requires-clause-deep c =
    let walk = c.self.inside in
    let found = some_at walk.scripts.now.items walk.place (omega (arith, c.if-at-len.false, c.len.ensures)) in
    let stand = stand_of walk.setup walk.rank walk.scripts.now.items walk.place walk.count walk.closes found.0 found.1 c.self.invariant.1.1.1 in
    deep_passed walk.rank walk.scripts.now.items walk.place c.len-2.result c.pass_marks-next.result found.0 walk.repeats.items c.pass_marks-next.new.repeats.items
    found.1 (c.pass_marks-next.ensures.to (nesting_at walk.rank found.0) stand.closes_is) (c.pass_marks-next.ensures.left (nesting_at walk.rank found.0) stand.closes_is) c.self.invariant.1.0.0

pub returns : goal.returns
returns c =
    let walk = c.self.inside in
    let found = some_at walk.scripts.now.items walk.place (omega (arith, c.if-at-len.false, c.len.ensures)) in
    let stand = stand_of walk.setup walk.rank walk.scripts.now.items walk.place walk.count walk.closes found.0 found.1 c.self.invariant.1.1.1 in
    let item = found.0 in
    let left = left_at walk.setup walk.rank walk.scripts.now.items walk.place walk.repeats.items in
    let there = stands_there walk.setup walk.rank walk.scripts.now.items walk.place walk.step item found.1 c.self.invariant.0.stands in
    let gone = c.settled-stand.ensures.same
    ∙ after_same walk.setup walk.rank walk.scripts.now.items walk.place c.len-2.result c.pass_marks-next.result item walk.repeats.items c.pass_marks-next.new.repeats.items
    found.1 (omega (arith, there)) (omega (arith, c.len-2.ensures)) c.self.invariant.0.opens (c.pass_marks-next.ensures.to (nesting_at walk.rank found.0) stand.closes_is) (c.pass_marks-next.ensures.left (nesting_at walk.rank found.0) stand.closes_is)
    ∙ last_done left walk.step (length (marks_of walk.setup walk.rank item)) there (omega (arith, c.if-self.false, stand.count_is)) in
    ap (λ (l : List (Option Prim)). record { script = walk.scripts.now; setup = walk.setup; rank = walk.rank; left = l }) gone
    ∙ ap (λ (w : CourseView). record w { left = drop 1 w.left }) c.self.view_is
