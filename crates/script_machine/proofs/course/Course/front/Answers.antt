use Rattle.std.proofs.Common.{◌∙◌, ap, sym, arith, slice_get, List, Option}
use Rattle.script_machine.specs.Program.{Prim}
use Rattle.script_machine.specs.Walk.{CourseView, act_meant, prim_of}
use Rattle.script_machine.proofs.Walks.StandLaws.{stand_of}
use Rattle.script_machine.proofs.Walks.WalkLaws.{act_there, front_end, front_is, nothing_past, stands_there}
use Rattle.script_machine.proofs.course.Course.front.Goals as goal

pub returns-then-self-len-clause-same : goal.returns-then-self-len-clause-same
returns-then-self-len-clause-same c =
    let walk = c.self.inside in
    let first : List (Option Prim) → _ = λ l. prim_of (slice_get l 0) in
    sym (ap first (ap (λ (w : CourseView). w.left) (sym c.self.view_is) ∙ nothing_past walk.setup walk.rank walk.scripts.now.items walk.place walk.step walk.repeats.items (omega (arith, c.if-self-len.true, c.len.ensures))))

pub returns-then-self-clause-same : goal.returns-then-self-clause-same
returns-then-self-clause-same c =
    let walk = c.self.inside in
    let item = c.item-item.result.now in
    let ends = (stand_of walk.setup walk.rank walk.scripts.now.items walk.place walk.count walk.closes item c.item-item.ensures.found c.self.invariant.1.1.1).closes_is in
    let first : List (Option Prim) → _ = λ l. prim_of (slice_get l 0) in
    sym (ap first (ap (λ (w : CourseView). w.left) (sym c.self.view_is)) ∙ ap prim_of (front_end walk.setup walk.rank walk.scripts.now.items walk.place walk.step item walk.repeats.items
    c.item-item.ensures.found (stands_there walk.setup walk.rank walk.scripts.now.items walk.place walk.step item c.item-item.ensures.found c.self.invariant.0.stands) (sym ends ∙ c.if-self.true)))

pub action_of-requires-clause-there : goal.action_of-requires-clause-there
action_of-requires-clause-there c =
    let walk = c.self.inside in
    let item = c.item-item.result.now in
    let ends = (stand_of walk.setup walk.rank walk.scripts.now.items walk.place walk.count walk.closes item c.item-item.ensures.found c.self.invariant.1.1.1).closes_is in
    act_there walk.setup walk.rank item walk.step (sym ends ∙ c.if-self.false)
    (stands_there walk.setup walk.rank walk.scripts.now.items walk.place walk.step item c.item-item.ensures.found c.self.invariant.0.stands)

pub returns-clause-same : goal.returns-clause-same
returns-clause-same c =
    let walk = c.self.inside in
    let item = c.item-item.result.now in
    let ends = (stand_of walk.setup walk.rank walk.scripts.now.items walk.place walk.count walk.closes item c.item-item.ensures.found c.self.invariant.1.1.1).closes_is in
    let first : List (Option Prim) → _ = λ l. prim_of (slice_get l 0) in
    sym (ap first (ap (λ (w : CourseView). w.left) (sym c.self.view_is)) ∙ ap prim_of (front_is walk.setup walk.rank walk.scripts.now.items walk.place walk.step item walk.repeats.items (act_meant c.action_of.result)
    c.item-item.ensures.found (stands_there walk.setup walk.rank walk.scripts.now.items walk.place walk.step item c.item-item.ensures.found c.self.invariant.0.stands) (sym ends ∙ c.if-self.false) c.action_of.ensures.same))
