use Rattle.std.proofs.Common.{ℕ, [], ◌∷◌, sym, subst}
use Rattle.scc_base.specs.Events.{free_of}
use Rattle.scc_proto.specs.Stages.{Record}
use Rattle.scc_proto.specs.Ports.{Did, record_in}
use Rattle.tas_lock.specs.Holds.{IsNotHolding}
use Rattle.tas_lock.proofs.HoldLemmas.{freed, not_held_after}
use Rattle.tas_lock.proofs.locks.release.Goals as goal

pub returns-clause-holds : goal.returns-clause-holds
returns-clause-holds g c =
    freed (g.P.Port.sight c.args.port.now) (g.P.Port.sight c.free.new.self) c.args.held c.requires.held
    (subst (λ (h : ℕ). Did (g.P.Port.sight c.args.port.now) (free_of h ∷ []) (g.P.Port.sight c.free.new.self)) c.held.view_is c.free.ensures.did)

pub returns-clause-step : goal.returns-clause-step
returns-clause-step g c =
    subst (λ (h : ℕ). g.P.Port.stepped (g.P.Port.sight c.args.port.now).seat (g.P.Port.sight c.args.port.now).events (free_of h)) c.held.view_is c.free.ensures.step

pub returns-clause-freed : goal.returns-clause-freed
returns-clause-freed g c =
    let holds = freed (g.P.Port.sight c.args.port.now) (g.P.Port.sight c.free.new.self) c.args.held c.requires.held
    (subst (λ (h : ℕ). Did (g.P.Port.sight c.args.port.now) (free_of h ∷ []) (g.P.Port.sight c.free.new.self)) c.held.view_is c.free.ensures.did) in
    subst (λ (rec : Record). IsNotHolding rec c.args.held) (sym holds) (not_held_after (record_in (g.P.Port.sight c.args.port.now)) c.args.held)
