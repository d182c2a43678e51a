use Rattle.put_get.proofs.StepLemmas.{steps_one, steps_both}
use Rattle.scc_proto.proofs.PortLaws.{did_both}
use Rattle.put_get.proofs.AccessLemmas.{did_loads}
use Rattle.put_get.proofs.accesses.load_line.Goals as goal

pub returns-clause-did : goal.returns-clause-did
returns-clause-did g c =
    did_loads _ _ _ _ _ c.args.line _ _ _ _ _ _ _ _ c.word.ensures.gives c.word-2.ensures.gives c.word-3.ensures.gives c.word-4.ensures.gives
    c.load-first.ensures.did c.load-second.ensures.did c.load-third.ensures.did c.load-fourth.ensures.did

pub returns-clause-steps : goal.returns-clause-steps
returns-clause-steps g c =
    let start = g.P.Port.sight c.args.port.now in
    let s1 = g.P.Port.sight c.load-first.new.self in
    let s2 = g.P.Port.sight c.load-second.new.self in
    let s3 = g.P.Port.sight c.load-third.new.self in
    let end = g.P.Port.sight c.load-fourth.new.self in
    let two = did_both start _ s1 _ s2 c.load-first.ensures.did c.load-second.ensures.did in
    let three = did_both start _ s2 _ s3 two c.load-third.ensures.did in
    let first = steps_one g.P.Port.stepped start s1 _ c.load-first.ensures.did c.load-first.ensures.step in
    let second = steps_one g.P.Port.stepped s1 s2 _ c.load-second.ensures.did c.load-second.ensures.step in
    let third = steps_one g.P.Port.stepped s2 s3 _ c.load-third.ensures.did c.load-third.ensures.step in
    let fourth = steps_one g.P.Port.stepped s3 end _ c.load-fourth.ensures.did c.load-fourth.ensures.step in
    steps_both g.P.Port.stepped start s3 end _ _ three c.load-fourth.ensures.did
    (steps_both g.P.Port.stepped start s2 s3 _ _ two c.load-third.ensures.did
    (steps_both g.P.Port.stepped start s1 s2 _ _ c.load-first.ensures.did c.load-second.ensures.did first second)
    third)
    fourth
