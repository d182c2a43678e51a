use Rattle.std.proofs.Common.{◌≡◌, true, take}
use Rattle.plain_meaning.specs.Ends.{all_finished}
use Rattle.script_plain.proofs.ends.have_finished.Given as goal

abbrev pub invariant-loop-number : goal.invariant-loop-number
invariant-loop-number l = all_finished (take l.number l.end) ≡ true
