use Rattle.std.proofs.Common.{◌<◌, sym, subst}
use Rattle.scc_rows.proofs.flags.read.Goals as goal

pub flag_read-requires-clause-below : goal.flag_read-requires-clause-below
flag_read-requires-clause-below g c = subst (λ n. c.args.at < n) (sym c.requires.rests.two) c.requires.below
