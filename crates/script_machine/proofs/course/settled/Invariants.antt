use Rattle.std.proofs.Common.{◌≡◌}
use Rattle.std.specs.VecDeque.{deque_capacity}
use Rattle.script_machine.specs.Depths.{IsDeep}
use Rattle.script_machine.specs.Walk.{AreOpenAt, left_at}
use Rattle.script_machine.proofs.course.settled.Given as goal

abbrev pub invariant-loop-at : goal.invariant-loop-at
invariant-loop-at l = record {
  same : left_at l.setup l.rank l.scripts.items l.at l.repeats.items ≡ left_at l.setup l.rank l.scripts.items l.place l.initial.repeats.items;
  opens : AreOpenAt l.setup l.rank l.scripts.items l.at l.repeats.items;
  deep : IsDeep l.rank l.scripts.items l.at l.repeats.items;
  room : deque_capacity l.repeats ≡ deque_capacity l.initial.repeats;
}
