use Rattle.std.proofs.Common.{◌≡◌, ◌≤◌, ◌-◌, ◌*◌, drop, length}
use Rattle.run_program.specs.Texts.{values_text_from}
use Rattle.run_program.proofs.values.put_values.Given as goal

abbrev pub invariant-loop-i : goal.invariant-loop-i
invariant-loop-i l = record {
  low : l.from ≤ l.i;
  high : l.i ≤ l.to;
  room : 21 * (l.i - l.from) ≤ l.at;
  within : l.at ≤ length l.text;
  written : drop l.at l.text ≡ values_text_from l.ty l.bytes l.i (l.to - l.i);
}

abbrev pub decreases-loop-i : goal.decreases-loop-i
decreases-loop-i l = l.i - l.from
