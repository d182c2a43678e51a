use Rattle.std.proofs.Common.{◌++◌}
use Rattle.scc_proto.proofs.PortLaws.{did_both, may_front, may_next}
use Rattle.put_get.proofs.AccessLemmas.{may_part}
use Rattle.put_get.proofs.CoreLemmas.{made_by, steps_four}
use Rattle.put_get.specs.Accesses.{store_of_word}
use Rattle.put_get.proofs.accesses.store_line.Goals as goal

pub store_word-requires-clause-permitted : goal.store_word-requires-clause-permitted
store_word-requires-clause-permitted g c =
    may_front _ _ (store_of_word c.args.out.now 3)
    (store_of_word c.args.out.now 2 ++ (store_of_word c.args.out.now 1 ++ store_of_word c.args.out.now 0)) c.requires.permitted

pub store_word-requires-2-clause-permitted : goal.store_word-requires-2-clause-permitted
store_word-requires-2-clause-permitted g c =
    may_part (g.P.Port.sight c.args.port.now) (store_of_word c.args.out.now 3) (store_of_word c.args.out.now 2)
    (store_of_word c.args.out.now 1 ++ store_of_word c.args.out.now 0) _ c.store_word.ensures.did c.requires.permitted

pub store_word-requires-3-clause-permitted : goal.store_word-requires-3-clause-permitted
store_word-requires-3-clause-permitted g c =
    may_part _ (store_of_word c.args.out.now 2) (store_of_word c.args.out.now 1) (store_of_word c.args.out.now 0) _ c.store_word-2.ensures.did
    (may_next (g.P.Port.sight c.args.port.now) (store_of_word c.args.out.now 3)
    (store_of_word c.args.out.now 2 ++ (store_of_word c.args.out.now 1 ++ store_of_word c.args.out.now 0)) _ c.store_word.ensures.did c.requires.permitted)

pub store_word-requires-4-clause-permitted : goal.store_word-requires-4-clause-permitted
store_word-requires-4-clause-permitted g c =
    may_next _ (store_of_word c.args.out.now 1) (store_of_word c.args.out.now 0) _ c.store_word-3.ensures.did
    (may_next _ (store_of_word c.args.out.now 2) (store_of_word c.args.out.now 1 ++ store_of_word c.args.out.now 0) _ c.store_word-2.ensures.did
    (may_next (g.P.Port.sight c.args.port.now) (store_of_word c.args.out.now 3)
    (store_of_word c.args.out.now 2 ++ (store_of_word c.args.out.now 1 ++ store_of_word c.args.out.now 0)) _ c.store_word.ensures.did c.requires.permitted))

pub returns-clause-did : goal.returns-clause-did
returns-clause-did g c =
    did_both (g.P.Port.sight c.args.port.now) (store_of_word c.args.out.now 3) (g.P.Port.sight c.store_word.new.port)
    (store_of_word c.args.out.now 2 ++ (store_of_word c.args.out.now 1 ++ store_of_word c.args.out.now 0)) _ c.store_word.ensures.did
    (did_both _ (store_of_word c.args.out.now 2) (g.P.Port.sight c.store_word-2.new.port) (store_of_word c.args.out.now 1 ++ store_of_word c.args.out.now 0) _ c.store_word-2.ensures.did
    (did_both _ (store_of_word c.args.out.now 1) (g.P.Port.sight c.store_word-3.new.port) (store_of_word c.args.out.now 0) _ c.store_word-3.ensures.did c.store_word-4.ensures.did))

pub returns-clause-steps : goal.returns-clause-steps
returns-clause-steps g c =
    steps_four g.P.Port.stepped _ _ _ _ _ (made_by c.store_word.ensures.did) (made_by c.store_word-2.ensures.did) (made_by c.store_word-3.ensures.did) (made_by c.store_word-4.ensures.did)
    c.store_word.ensures.steps c.store_word-2.ensures.steps c.store_word-3.ensures.steps c.store_word-4.ensures.steps
