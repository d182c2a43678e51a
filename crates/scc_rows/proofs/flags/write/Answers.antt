use Rattle.std.proofs.Common.{◌<◌, sym, subst}
use Rattle.scc_rows.proofs.FlagLemmas.{flag_rests, may_write_flag, still_free}
use Rattle.scc_rows.proofs.flags.write.Goals as goal

pub flag_write-requires-clause-below : goal.flag_write-requires-clause-below
flag_write-requires-clause-below g c = subst (λ n. c.args.at < n) (sym c.requires.rests.two) c.requires.below

pub flag_write-requires-clause-permitted : goal.flag_write-requires-clause-permitted
flag_write-requires-clause-permitted g c = may_write_flag _ c.args.at c.args.flag c.args.set c.requires.rests c.requires.below c.requires.heap c.requires.free

pub returns-clause-rests : goal.returns-clause-rests
returns-clause-rests g c =
    flag_rests _ _ _ _ c.args.at c.args.flag c.args.set c.args.polls c.flag_write.result c.flag_write.ensures.writes c.requires.rests c.requires.below c.requires.heap

pub returns-clause-free : goal.returns-clause-free
returns-clause-free g c = still_free _ _ _ _ c.args.at c.args.flag c.args.set c.args.polls c.flag_write.result c.flag_write.ensures.writes c.flag_write.ensures.freed
