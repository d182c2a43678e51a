use Rattle.std.proofs.Common.{rules, ◌≡◌, Some, None}
use Rattle.run_rows.proofs.OpLemmas.{op_alone, op_free, op_stands}
use Rattle.run_rows.proofs.coll_members.MemberPlayer.turn.Goals as goal

pub go_on-requires-clause-stands : goal.go_on-requires-clause-stands
go_on-requires-clause-stands g c =
    let old = c.args.self.now in
    let is : old.op ≡ Some c.in-Some.op = search rules in
    op_stands (g.P.Port.sight c.args.port.now) old.core old.slot old.src.items old.dst.items c.in-Some.op old.op c.requires.stands is

pub returns-in-Some-clause-stands : goal.returns-in-Some-clause-stands
returns-in-Some-clause-stands g c =
    let new = c.go_on.new.self in
    op_alone (g.P.Port.sight c.go_on.new.port) new.core new.slot new.src.items new.dst.items new.op c.go_on.ensures.stands

pub begin-requires-clause-free : goal.begin-requires-clause-free
begin-requires-clause-free g c =
    let old = c.args.self.now in
    let none : old.op ≡ None = search rules in
    op_free (g.P.Port.sight c.args.port.now) old.core old.slot old.src.items old.dst.items old.op c.requires.stands none

pub returns-clause-stands : goal.returns-clause-stands
returns-clause-stands g c =
    let new = c.begin.new.self in
    op_alone (g.P.Port.sight c.args.port.now) new.core new.slot new.src.items new.dst.items new.op c.begin.ensures.stands
