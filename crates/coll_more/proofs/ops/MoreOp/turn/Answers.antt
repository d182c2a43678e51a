use Rattle.std.proofs.Common.{subst}
use Rattle.send_recv.specs.declared.answers.RecvTurn.{RecvTurn}
use Rattle.coll_more.specs.Turns.{MoreTurned}
use Rattle.coll_more.specs.Ops.{taking_part}
use Rattle.coll_more.proofs.EndLemmas.{has_ended}
use Rattle.coll_more.proofs.ops.MoreOp.turn.Goals as goal

pub returns-in-Own-clause-stands : goal.returns-in-Own-clause-stands
returns-in-Own-clause-stands g c = λ base st. (c.copy_own.ensures.turns c.args.core.now c.args.slot.now (base, st)).stands base st

pub returns-in-Between-clause-stands : goal.returns-in-Between-clause-stands
returns-in-Between-clause-stands g c = λ base st. (c.begin_next.ensures.turns c.args.core.now c.args.slot.now c.args.src.now c.args.dst.now (base, st)).stands base st

pub returns-in-Between-clause-turned : goal.returns-in-Between-clause-turned
returns-in-Between-clause-turned g c = (c.begin_next.ensures.turns c.args.core.now c.args.slot.now c.args.src.now c.args.dst.now c.requires.stands).turned

pub returns-in-Between-clause-ended : goal.returns-in-Between-clause-ended
returns-in-Between-clause-ended g c =
    λ base st is. has_ended base (g.P.Port.sight c.args.port.now) c.args.core.now c.args.self.now c.args.slot.now c.args.src.now c.args.dst.now (g.P.Port.sight c.args.port.now) c.args.core.now c.begin_next.new.self c.args.slot.now c.args.dst.now st
    (subst (λ (answer : RecvTurn). MoreTurned (taking_part (g.P.Port.sight c.args.port.now) c.args.core.now c.args.self.now c.args.slot.now c.args.src.now c.args.dst.now) (taking_part (g.P.Port.sight c.args.port.now) c.args.core.now c.begin_next.new.self c.args.slot.now c.args.src.now c.args.dst.now) answer) is
    (c.begin_next.ensures.turns c.args.core.now c.args.slot.now c.args.src.now c.args.dst.now c.requires.stands).turned)

pub returns-in-Receiving-clause-stands : goal.returns-in-Receiving-clause-stands
returns-in-Receiving-clause-stands g c = λ base st. (c.go_on_receiving.ensures.turns c.args.slot.now c.args.src.now (base, st)).stands base st

pub returns-in-Receiving-clause-turned : goal.returns-in-Receiving-clause-turned
returns-in-Receiving-clause-turned g c = (c.go_on_receiving.ensures.turns c.args.slot.now c.args.src.now c.requires.stands).turned

pub returns-in-Receiving-clause-ended : goal.returns-in-Receiving-clause-ended
returns-in-Receiving-clause-ended g c =
    λ base st is. has_ended base (g.P.Port.sight c.args.port.now) c.args.core.now c.args.self.now c.args.slot.now c.args.src.now c.args.dst.now (g.P.Port.sight c.go_on_receiving.new.port) c.go_on_receiving.new.core c.go_on_receiving.new.self c.args.slot.now c.go_on_receiving.new.dst st
    (subst (λ (answer : RecvTurn). MoreTurned (taking_part (g.P.Port.sight c.args.port.now) c.args.core.now c.args.self.now c.args.slot.now c.args.src.now c.args.dst.now) (taking_part (g.P.Port.sight c.go_on_receiving.new.port) c.go_on_receiving.new.core c.go_on_receiving.new.self c.args.slot.now c.args.src.now c.go_on_receiving.new.dst) answer) is
    (c.go_on_receiving.ensures.turns c.args.slot.now c.args.src.now c.requires.stands).turned)
