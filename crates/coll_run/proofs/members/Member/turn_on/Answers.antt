use Rattle.std.proofs.Common.{◌≡◌, true, false, sym, ap, ◌∙◌, subst}
use Rattle.coll_run.specs.Teams.{MemberView}
use Rattle.coll_run.specs.Workers.{IsTied, member_behaviour}
use Rattle.chip_run.specs.Turns.{Turned}
use Rattle.coll_run.proofs.CallTurns.{at_port_of, done_on, met_on, met_rests, moved_on, tied_met, tied_on, waited_on}
use Rattle.scc_base.specs.declared.events.Turn.TheVariants as worker_turn
use Rattle.coll_run.proofs.members.Member.turn_on.Goals as goal

pub returns-then-self-clause-turned : goal.returns-then-self-clause-turned
returns-then-self-clause-turned g c =
    met_rests g.P.Port.stepped c.args.self.now (g.P.Port.sight c.args.port.now) c.requires.ties (sym (ap (λ (m : MemberView). m.met) c.self.view_is) ∙ c.if-self.true)

pub go_on-requires : goal.go_on-requires
go_on-requires g c = record { stands = at_port_of c.args.self.now (g.P.Port.sight c.args.port.now) c.requires.ties }

pub returns-in-Moved-clause-ties : goal.returns-in-Moved-clause-ties
returns-in-Moved-clause-ties g c =
    let running : c.args.self.now.met ≡ false = sym (ap (λ (m : MemberView). m.met) c.self.view_is) ∙ c.if-self.false in
    tied_on g.P.Port.stepped c.args.self.now (g.P.Port.sight c.args.port.now) c.go_on.new.self (g.P.Port.sight c.go_on.new.port) c.requires.ties running c.go_on.result c.go_on.ensures.goes

pub returns-in-Moved-clause-turned : goal.returns-in-Moved-clause-turned
returns-in-Moved-clause-turned g c =
    let running : c.args.self.now.met ≡ false = sym (ap (λ (m : MemberView). m.met) c.self.view_is) ∙ c.if-self.false in
    moved_on g.P.Port.stepped c.args.self.now (g.P.Port.sight c.args.port.now) c.go_on.new.self (g.P.Port.sight c.go_on.new.port) c.requires.ties running c.in-Moved.ensures.goes

pub returns-in-Waiting-clause-ties : goal.returns-in-Waiting-clause-ties
returns-in-Waiting-clause-ties g c =
    let running : c.args.self.now.met ≡ false = sym (ap (λ (m : MemberView). m.met) c.self.view_is) ∙ c.if-self.false in
    tied_on g.P.Port.stepped c.args.self.now (g.P.Port.sight c.args.port.now) c.go_on.new.self (g.P.Port.sight c.go_on.new.port) c.requires.ties running c.go_on.result c.go_on.ensures.goes

pub returns-in-Waiting-clause-turned : goal.returns-in-Waiting-clause-turned
returns-in-Waiting-clause-turned g c =
    let running : c.args.self.now.met ≡ false = sym (ap (λ (m : MemberView). m.met) c.self.view_is) ∙ c.if-self.false in
    waited_on g.P.Port.stepped c.args.self.now (g.P.Port.sight c.args.port.now) c.go_on.new.self (g.P.Port.sight c.go_on.new.port) c.requires.ties running c.in-Waiting.spot c.in-Waiting.ensures.goes

pub returns-in-Done-clause-ties : goal.returns-in-Done-clause-ties
returns-in-Done-clause-ties g c =
    let running : c.args.self.now.met ≡ false = sym (ap (λ (m : MemberView). m.met) c.self.view_is) ∙ c.if-self.false in
    tied_on g.P.Port.stepped c.args.self.now (g.P.Port.sight c.args.port.now) c.go_on.new.self (g.P.Port.sight c.go_on.new.port) c.requires.ties running c.go_on.result c.go_on.ensures.goes

pub returns-in-Done-clause-turned : goal.returns-in-Done-clause-turned
returns-in-Done-clause-turned g c =
    let running : c.args.self.now.met ≡ false = sym (ap (λ (m : MemberView). m.met) c.self.view_is) ∙ c.if-self.false in
    done_on g.P.Port.stepped c.args.self.now (g.P.Port.sight c.args.port.now) c.go_on.new.self (g.P.Port.sight c.go_on.new.port) c.requires.ties running c.in-Done.ensures.goes

pub returns-in-Mismatch-clause-ties : goal.returns-in-Mismatch-clause-ties
returns-in-Mismatch-clause-ties g c =
    let running : c.args.self.now.met ≡ false = sym (ap (λ (m : MemberView). m.met) c.self.view_is) ∙ c.if-self.false in
    let t = g.P.Port.sight c.go_on.new.port in
    subst (λ (m : MemberView). IsTied (record m { met = true }) t.seat.setup t.seat.rank t.events) (sym c.self-2.view_is)
    (tied_met g.P.Port.stepped c.args.self.now (g.P.Port.sight c.args.port.now) c.go_on.new.self t c.requires.ties running c.in-Mismatch.field-0 c.in-Mismatch.ensures.goes)

pub returns-in-Mismatch-clause-turned : goal.returns-in-Mismatch-clause-turned
returns-in-Mismatch-clause-turned g c =
    let s = g.P.Port.sight c.args.port.now in
    let running : c.args.self.now.met ≡ false = sym (ap (λ (m : MemberView). m.met) c.self.view_is) ∙ c.if-self.false in
    let t = g.P.Port.sight c.go_on.new.port in
    subst (λ (m : MemberView). Turned member_behaviour (g.P.Port.stepped s.seat) c.args.self.now s (record m { met = true }) t worker_turn.Moved) (sym c.self-2.view_is)
    (met_on g.P.Port.stepped c.args.self.now s c.go_on.new.self t c.requires.ties running c.in-Mismatch.field-0 c.in-Mismatch.ensures.goes)
