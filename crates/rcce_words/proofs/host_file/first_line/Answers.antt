use Rattle.std.proofs.Common.{◌+◌, arith}
use Rattle.rcce_words.proofs.HostLemmas.{line_cut, line_last, rest_all, some_left}
use Rattle.rcce_words.proofs.host_file.first_line.Goals as goal

pub returns-then-end-bytes-clause-gives : goal.returns-then-end-bytes-clause-gives
returns-then-end-bytes-clause-gives c =
    rw (rest_all (c.place_or_end-end.result + 1) c.args.bytes.now) (line_cut c.args.bytes.now c.place_or_end-end.result c.place_or_end-end.ensures.same (omega arith))

pub returns-else-end-bytes-clause-gives : goal.returns-else-end-bytes-clause-gives
returns-else-end-bytes-clause-gives c =
    rw (rest_all c.place_or_end-end.result c.args.bytes.now) (line_last c.args.bytes.now c.place_or_end-end.result c.place_or_end-end.ensures.same (omega arith) (some_left _ _ c.is_empty.ensures c.if-is_empty.false))
