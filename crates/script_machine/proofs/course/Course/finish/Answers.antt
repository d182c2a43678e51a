use Rattle.std.proofs.Common.{◌≤◌, ◌∙◌, [], ap, arith, length, List, Option}
use Rattle.script_machine.specs.Program.{Prim}
use Rattle.script_machine.specs.Walk.{CourseView}
use Rattle.script_machine.proofs.Walks.DepthLaws.{deep_start}
use Rattle.script_machine.proofs.Walks.StandLaws.{stand_past}
use Rattle.script_machine.proofs.Walks.WalkLaws.{none_there, nothing_past, open-past}
use Rattle.script_machine.proofs.course.Course.finish.Goals as goal

pub invariant_of-self : goal.invariant_of-self
invariant_of-self c =
    let walk = c.self.inside in
    let items = walk.scripts.now.items in
    let past : length items ≤ c.len-self-inside.result = omega (arith, c.len-self-inside.ensures) in (
      record {
        within = c.self.invariant.0.within;
        opens = open-past walk.setup walk.rank items c.len-self-inside.result c.clear.new.self.items past;
        stands = none_there walk.setup walk.rank items c.len-self-inside.result 0 past;
      },
      ((deep_start walk.rank items c.len-self-inside.result c.clear.new.self.items c.clear.ensures.items, λ place. omega (arith, c.self.invariant.1.0.1 place, c.clear.ensures.capacity)), (c.self.invariant.1.1.0, stand_past walk.setup walk.rank items c.len-self-inside.result past)),
    )

pub returns : goal.returns
returns c =
    let walk = c.self.inside in
    let items = walk.scripts.now.items in
    let past : length items ≤ c.len-self-inside.result = omega (arith, c.len-self-inside.ensures) in
    ap (λ (l : List (Option Prim)). record { script = walk.scripts.now; setup = walk.setup; rank = walk.rank; left = l })
    (nothing_past walk.setup walk.rank items c.len-self-inside.result 0 c.clear.new.self.items past)
    ∙ ap (λ (w : CourseView). record w { left = [] }) c.self.view_is
