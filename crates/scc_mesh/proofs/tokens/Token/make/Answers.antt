use Rattle.scc_mesh.specs.Keeping.{event_found}
use Rattle.scc_mesh.proofs.AwaySteps.{lone_known, lone_after}
use Rattle.scc_mesh.proofs.tokens.Token.make.Goals as goal

pub make-requires-clause-known : goal.make-requires-clause-known
make-requires-clause-known c = let token = c.self.inside in lone_known token.rank token.seat.me c.self.invariant

pub invariant_of-self : goal.invariant_of-self
invariant_of-self c =
    let token = c.self.inside in
    lone_after c.args.space.now.about token.rank token.seat.me c.make.new.seat.me (event_found c.args.access c.args.place c.args.value c.make.result) c.self.invariant c.make.ensures.made c.make.ensures.held
