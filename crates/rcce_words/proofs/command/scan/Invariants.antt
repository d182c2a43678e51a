use Rattle.std.proofs.Common.{◌≡◌, ◌+◌, false, length, map, string_bytes}
use Rattle.rcce_words.specs.CommandLine.{IsSaidInRange, nothing, scan}
use Rattle.rcce_words.proofs.command.scan.Given as goal

-- the words that are left, behind what was said so far, say what all of them say
abbrev pub invariant-words : goal.invariant-words
invariant-words l = record {
  counted : l.at + length l.left ≡ length l.words;
  within : IsSaidInRange l.said;
  same : scan l.at l.is_value l.said (map string_bytes l.left) ≡ scan 0 false nothing (map string_bytes l.words);
}

abbrev pub decreases-words : goal.decreases-words
decreases-words l = length l.left
