use Rattle.std.proofs.Common.{◌==◌, ◌∙◌, ap, arith, length, sym}
use Rattle.std.proofs.lemmas.List.{length-map}
use Rattle.std.proofs.lemmas.List.Splits.{length-slice_split}
use Rattle.std.proofs.lemmas.List.Sums.{count_by-le-length}
use Rattle.lab_reader.proofs.reading.read_lab.Goals as goal

-- a file has at most one line more than bytes
pub read_lines-requires : goal.read_lines-requires
read_lines-requires c =
    let lines = c.in_ok-lines.lines.items in
    let same = sym (length-map lines (λ line. line.now)) ∙ ap length c.in_ok-lines.ensures ∙ length-slice_split (λ b. b == 10) c.args.bytes.now in
    omega (arith, same, c.as_slice.ensures.value, count_by-le-length (λ b. b == 10) c.args.bytes.now, c.if-bytes-gt-MOST_LAB_BYTES.false)
