use Rattle.std.proofs.Common.{◌≡◌, ◌≤◌, ◌+◌, [], length}
use Rattle.rcce_words.specs.HostFile.{file_lines, read_host_lines}
use Rattle.rcce_words.proofs.host_file.read_lines.Given as goal

-- the lines that are left, behind the cores so far, give what all of them give
abbrev pub invariant-lines : goal.invariant-lines
invariant-lines l = record {
  few : l.lines + length l.rest ≤ length l.bytes;
  counted : l.lines + length (file_lines l.rest) ≡ length (file_lines l.bytes);
  same : read_host_lines l.lines l.cores (file_lines l.rest) ≡ read_host_lines 0 [] (file_lines l.bytes);
}

abbrev pub decreases-lines : goal.decreases-lines
decreases-lines l = length l.rest
