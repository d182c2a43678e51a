use Rattle.std.proofs.Common.{◌≡◌, ◌≤◌, drop, length, map}
use Rattle.script_rules.specs.Limits.{most_names}
use Rattle.script_reader.specs.Reading.{read_lines}
use Rattle.script_reader.proofs.reading.read_lines.Given as goal

-- the lines that are left, read after those so far, give the result of all lines
abbrev pub invariant-loop-line : goal.invariant-loop-line
invariant-loop-line l = record {
  version : l.reader.version ≡ l.fn.reader.version;
  number : l.number ≡ l.line-index;
  named : length l.reader.names ≤ most_names;
  counted : length l.reader.items ≤ l.number;
  same : read_lines l.number l.reader (map (λ line. line.now) (drop l.line-index l.lines)) ≡ read_lines 0 l.fn.reader (map (λ line. line.now) l.lines);
}
