use Rattle.std.proofs.Common.{◌≡◌, ◌≤◌, ◌∙◌, arith, length, sym}
use Rattle.std.specs.VecDeque.{deque_capacity}
use Rattle.script_machine.specs.Program.{marks_of}
use Rattle.script_machine.proofs.Walks.DepthLaws.{deep_entered, room_entered}
use Rattle.script_machine.proofs.Walks.IdleLaws.{deep-idle, left-idle, nothing_left}
use Rattle.script_machine.proofs.Walks.StandLaws.{stand_at, stand_past}
use Rattle.script_machine.proofs.Walks.WalkLaws.{none_there, open-past, over_open, over_same, some_there}
use Rattle.script_machine.proofs.course.settled.Goals as goal

pub enter-requires-clause-room : goal.enter-requires-clause-room
enter-requires-clause-room c =
    let item = c.item-item.result.now in
    let none : length (marks_of c.args.setup.now c.args.rank item) ≡ 0 = omega (arith, c.count_at-count.ensures, c.if-count-gt0.false) in
    let room = room_entered c.args.rank c.args.setup.now c.args.scripts.now.items c.loop-at.at (deque_capacity c.args.repeats.now) item c.loop-at.repeats.items c.item-item.ensures.found none c.loop-at.invariant.deep c.requires.room in
    omega (arith, room, c.loop-at.invariant.room)

pub loop-at-preserved : goal.loop-at-preserved
loop-at-preserved c =
    let item = c.item-item.result.now in
    let none : length (marks_of c.args.setup.now c.args.rank item) ≡ 0 = omega (arith, c.count_at-count.ensures, c.if-count-gt0.false) in
    record {
      same = over_same c.args.setup.now c.args.rank c.args.scripts.now.items c.loop-at.at item c.loop-at.repeats.items c.enter.new.repeats.items
          c.item-item.ensures.found none c.enter.ensures.same ∙ c.loop-at.invariant.same;
      opens = over_open c.args.setup.now c.args.rank c.args.scripts.now.items c.loop-at.at item c.loop-at.repeats.items c.enter.new.repeats.items
          c.item-item.ensures.found none c.enter.ensures.same c.loop-at.invariant.opens;
      deep = deep_entered c.args.rank c.args.setup.now c.args.scripts.now.items c.loop-at.at item c.loop-at.repeats.items c.enter.new.repeats.items
          c.item-item.ensures.found none c.enter.ensures.same c.loop-at.invariant.deep;
      room = c.enter.ensures.room ∙ c.loop-at.invariant.room;
    }

pub returns-then-count-gt0-clause-stands : goal.returns-then-count-gt0-clause-stands
returns-then-count-gt0-clause-stands c =
    some_there c.args.setup.now c.args.rank c.args.scripts.now.items c.loop-at.at 0 c.item-item.result.now c.item-item.ensures.found
    (omega (arith, c.count_at-count.ensures, c.if-count-gt0.true))

pub returns-then-count-gt0-clause-stand : goal.returns-then-count-gt0-clause-stand
returns-then-count-gt0-clause-stand c =
    stand_at c.args.setup.now c.args.rank c.args.scripts.now.items c.loop-at.at c.count_at-count.result c.ends_pass-closes.result c.item-item.result.now c.item-item.ensures.found
    (record { count_is = c.count_at-count.ensures; closes_is = c.ends_pass-closes.ensures })

pub returns-clause-same : goal.returns-clause-same
returns-clause-same c =
    let items = c.args.scripts.now.items in
    let end : length items ≤ c.len.result = omega (arith, c.len.ensures) in
    let past : c.args.end ≤ c.loop-at.at = omega (arith, c.loop-at-test.false) in
    nothing_left c.args.setup.now c.args.rank items c.len.result c.loop-at.repeats.items end
    ∙ sym (left-idle c.args.setup.now c.args.rank items c.args.end c.loop-at.at c.loop-at.repeats.items c.requires.idle past) ∙ c.loop-at.invariant.same

pub returns-clause-opens : goal.returns-clause-opens
returns-clause-opens c =
    let end : length c.args.scripts.now.items ≤ c.len.result = omega (arith, c.len.ensures) in
    open-past c.args.setup.now c.args.rank c.args.scripts.now.items c.len.result c.loop-at.repeats.items end

pub returns-clause-stands : goal.returns-clause-stands
returns-clause-stands c =
    let end : length c.args.scripts.now.items ≤ c.len.result = omega (arith, c.len.ensures) in
    none_there c.args.setup.now c.args.rank c.args.scripts.now.items c.len.result 0 end

pub returns-clause-stand : goal.returns-clause-stand
returns-clause-stand c =
    let end : length c.args.scripts.now.items ≤ c.len.result = omega (arith, c.len.ensures) in
    stand_past c.args.setup.now c.args.rank c.args.scripts.now.items c.len.result end

pub returns-clause-deep : goal.returns-clause-deep
returns-clause-deep c =
    let end : length c.args.scripts.now.items ≤ c.len.result = omega (arith, c.len.ensures) in
    let past : c.args.end ≤ c.loop-at.at = omega (arith, c.loop-at-test.false) in
    deep-idle c.args.rank c.args.scripts.now.items c.args.end c.loop-at.at c.len.result c.loop-at.repeats.items c.requires.idle past end c.loop-at.invariant.deep
