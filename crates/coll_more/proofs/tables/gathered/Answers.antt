use Rattle.std.proofs.Common.{◌-◌, ◌*◌, sym, arith}
use Rattle.coll_more.specs.Tables.{gives, takes}
use Rattle.coll_more.proofs.TableLemmas.{root_many}
use Rattle.coll_more.proofs.tables.gathered.Goals as goal

pub returns-else-number-gt0 : goal.returns-else-number-gt0
returns-else-number-gt0 c =
    record { gives = λ len. sym (root_many (λ p. takes p (p * len) len) (gives 0 0 len) c.args.rank (c.args.nue - 1) (omega (arith, c.if-number-gt0.false, c.number.ensures.gives))) }
