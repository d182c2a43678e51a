use Rattle.std.proofs.Common.{◌≡◌, length, arith}
use Rattle.coll_more.specs.Tables.{dst_len_of}
use Rattle.coll_run.proofs.JoinLemmas.{joined}
use Rattle.coll_run.proofs.members.join.Goals as goal

pub returns : goal.returns
returns g c =
    let place : c.of-rank.result ≡ length c.args.team.now.items = omega (arith, c.of-rank.ensures.gives, c.len.ensures, c.requires.room, c.requires.few) in
    let long : length c.in_ok-dst.dst.items ≡ dst_len_of c.args.more c.of-rank.result c.args.nue c.args.len = omega (arith, c.in_ok-dst.ensures.len, c.dst_len.ensures.gives, c.in_ok-dst.dst.ok) in
    record {
      joined = joined c.args.more c.args.len c.args.nue c.args.team.now.items c.push.new.self.items c.new.result c.args.src.items c.in_ok-dst.dst.items c.of-rank.result
          c.requires.fresh place c.in_ok-push.ensures.items c.new.ensures.fresh c.requires.short c.new.ensures.src c.new.ensures.dst c.requires.src long;
    }
