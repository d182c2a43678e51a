use Rattle.std.proofs.Common.{◌≡◌, ◌≤◌, drop}
use Rattle.texts.specs.Numbers.{digits_value}
use Rattle.texts.proofs.numbers.decimal.Given as goal

-- the digits that are left, behind the value so far, have the value of all
abbrev pub invariant-loop-b : goal.invariant-loop-b
invariant-loop-b l = record {
  within : l.value ≤ l.limit;
  same : digits_value l.limit l.value (drop l.b-index l.word) ≡ digits_value l.limit 0 l.word;
}
