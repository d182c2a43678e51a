use Rattle.std.proofs.Common.{◌≡◌, drop, map}
use Rattle.script_reader.specs.Reading.{version_of}
use Rattle.script_reader.proofs.reading.version_of.Given as goal

-- the lines that are left say what all of them say
abbrev pub invariant-loop-line : goal.invariant-loop-line
invariant-loop-line l = version_of (map (λ line. line.now) (drop l.line-index l.lines)) ≡ version_of (map (λ line. line.now) l.lines)
