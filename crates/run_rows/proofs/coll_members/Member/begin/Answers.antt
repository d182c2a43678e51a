use Rattle.std.proofs.Common.{rules, ◌≡◌, ◌≤◌, length, arith}
use Rattle.coll_more.specs.Tables.{dst_len_of, src_len_of}
use Rattle.run_rows.proofs.OpLemmas.{op_begins}
use Rattle.run_rows.proofs.coll_members.Member.begin.Goals as goal

pub returns-then-all_out : goal.returns-then-all_out
returns-then-all_out g c =
    let s = g.P.Port.sight c.args.port.now in
    let m = c.args.self.now in
    let short : m.len ≤ 1024 = omega arith in
    let src_is : length m.src.items ≡ src_len_of m.more s.seat.rank s.seat.setup.nue m.len = search rules in
    let dst_is : length m.dst.items ≡ dst_len_of m.more s.seat.rank s.seat.setup.nue m.len = search rules in
    record {
      stands = op_begins s m.core m.slot m.src.items m.dst.items c.new.result m.more m.len c.requires.free
          (record { short = short; src_is = src_is; dst_is = dst_is }) c.new.ensures.starts;
    }
