use Rattle.std.proofs.Common.{◌≡◌, ◌+◌, drop, map}
use Rattle.rcce_audit.specs.Grammar.{lines_said}
use Rattle.rcce_audit.specs.Reading.{reading_of}
use Rattle.rcce_audit.proofs.reading.read_lines.Given as goal

-- the lines that are left, behind those so far, say what all of them say
abbrev pub invariant-loop-line : goal.invariant-loop-line
invariant-loop-line l = record {
  number : l.number ≡ l.line-index + 2;
  same : lines_said l.number (reading_of l.reader) (map (λ line. line.now) (drop l.line-index l.lines)) ≡ lines_said 2 (reading_of l.initial.reader) (map (λ line. line.now) l.lines);
}
