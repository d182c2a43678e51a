use Rattle.std.proofs.Common.{◌≡◌, ◌-◌, ◌<◌, ◌≤◌, min}
use Rattle.plain_meaning.specs.Meaning.{keys_of}
use Rattle.check_program.specs.Waiting.{least_walked, waits_for}
use Rattle.check_program.proofs.walking.least.Given as goal

abbrev pub invariant-loop : goal.invariant-loop
invariant-loop l = record {
  same : min l.least (least_walked (waits_for (keys_of l.scripts) l.ends) (l.scripts.nue - l.counter) l.at) ≡ least_walked (waits_for (keys_of l.scripts) l.ends) l.scripts.nue l.initial.at;
  low : l.least ≤ l.at;
  below : l.at < l.scripts.nue;
}
