use Rattle.std.proofs.Common.{◌≡◌, ◌-◌, ◌<◌}
use Rattle.plain_meaning.specs.Meaning.{keys_of}
use Rattle.check_program.specs.Waiting.{waits_for, after_steps}
use Rattle.check_program.proofs.walking.walk.Given as goal

abbrev pub invariant-loop : goal.invariant-loop
invariant-loop l = record {
  same : after_steps (waits_for (keys_of l.scripts) l.ends) (l.scripts.nue - l.counter) l.at ≡ after_steps (waits_for (keys_of l.scripts) l.ends) l.scripts.nue l.initial.at;
  below : l.at < l.scripts.nue;
}
