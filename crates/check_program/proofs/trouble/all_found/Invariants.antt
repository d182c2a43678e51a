use Rattle.std.proofs.Common.{◌≡◌, map}
use Rattle.std.specs.List.{range_with_len}
use Rattle.plain_meaning.specs.Meaning.{keys_of}
use Rattle.check_program.specs.Waiting.{found_at}
use Rattle.check_program.proofs.trouble.all_found.Given as goal

abbrev pub invariant-loop-number : goal.invariant-loop-number
invariant-loop-number l = l.all.items ≡ map (found_at (keys_of l.scripts) l.end) (range_with_len 0 l.number)
