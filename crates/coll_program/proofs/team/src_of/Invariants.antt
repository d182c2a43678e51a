use Rattle.std.proofs.Common.{◌≡◌, map}
use Rattle.std.specs.List.{range_with_len}
use Rattle.coll_program.specs.Jobs.{handed_byte}
use Rattle.coll_program.proofs.team.src_of.Given as goal

abbrev pub invariant-loop-i : goal.invariant-loop-i
invariant-loop-i l = l.src.items ≡ map (handed_byte l.job.more l.rank l.job.len) (range_with_len 0 l.i)
