use Rattle.std.proofs.Common.{◌≡◌, drop, map}
use Rattle.lab_reader.specs.Reading.{lab_lines_said}
use Rattle.lab_reader.proofs.reading.read_lines.Given as goal

-- the lines that remain, read after those so far, parse to what all of them parse to
abbrev pub invariant-loop-line : goal.invariant-loop-line
invariant-loop-line l = record {
  number : l.number ≡ l.line-index;
  same : lab_lines_said l.number l.reader (map (λ line. line.now) (drop l.line-index l.lines)) ≡ lab_lines_said 0 l.initial.reader (map (λ line. line.now) l.lines);
}
