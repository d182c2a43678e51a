use Rattle.std.proofs.Common.{◌≡◌, ◌%◌, ◌<◌, sym, ◌∙◌, ap, subst, arith}
use Rattle.scc_base.specs.Setups.{IsSetup, host_of}
use Rattle.scc_base.specs.Events.{store_of}
use Rattle.scc_base.specs.declared.events.Access.TheVariants.{Store}
use Rattle.scc_proto.specs.Ports.{Seat}
use Rattle.scc_proto.proofs.Runs.IdleLaws.{idle_may_store, idle_after_store}
use Rattle.steps_program.specs.declared.accesses.Kind.TheVariants.{Stores}
use Rattle.steps_program.specs.Steps.{access_step, step_at, home_core}
use Rattle.steps_program.proofs.IdleLemmas.{no_step, step_more}
use Rattle.steps_program.proofs.accesses.store_many.Goals as goal

pub store-requires : goal.store-requires
store-requires g c =
    let sight = g.P.Port.sight c.steps.port in
    let same = c.steps.invariant.0.seat in
    let valid = subst (λ (s : Seat). IsSetup s.setup) (sym same) c.own_core-core.ensures.valid in
    let own = subst (λ r. r < (g.P.Port.sight c.args.port.now).seat.setup.nue) c.rank-rank.ensures.gives c.rank-rank.ensures.below in
    let below = subst (λ (s : Seat). s.rank < s.setup.nue) (sym same) own in
    let core = c.own_core-core.ensures.gives ∙ ap (λ (s : Seat). host_of s.setup.hosts s.rank) (sym same) in
    let is = c.new.ensures.gives ∙ (λ i. record { core = core i; line = 240; word = c.steps.i % 4 }) in
    record { permitted = idle_may_store sight sight.seat.rank 240 (c.steps.i % 4) c.steps.i valid below (omega arith) c.steps.invariant.1 c.new.result is }

pub steps-init : goal.steps-init
steps-init g c = (no_step (g.P.Port.sight c.args.port.now) Stores, c.requires.idle)

pub steps-preserved : goal.steps-preserved
steps-preserved g c =
    let sight = g.P.Port.sight c.steps.port in
    let start = g.P.Port.sight c.args.port.now in
    let new = g.P.Port.sight c.store.new.self in
    let same = c.steps.invariant.0.seat in
    let valid = subst (λ (s : Seat). IsSetup s.setup) (sym same) c.own_core-core.ensures.valid in
    let own = subst (λ r. r < (g.P.Port.sight c.args.port.now).seat.setup.nue) c.rank-rank.ensures.gives c.rank-rank.ensures.below in
    let below = subst (λ (s : Seat). s.rank < s.setup.nue) (sym same) own in
    let core = c.own_core-core.ensures.gives ∙ ap (λ (s : Seat). host_of s.setup.hosts s.rank) (sym same) in
    let is = c.new.ensures.gives ∙ (λ i. record { core = core i; line = 240; word = c.steps.i % 4 }) in
    let first = c.new.ensures.gives ∙ (λ i. record { core = c.own_core-core.ensures.gives i; line = 240; word = c.steps.i % 4 }) in
    let step : access_step (store_of c.new.result c.steps.i) ≡ step_at Stores (home_core start) c.steps.i = λ i. record { access = Store; place = first i } in (
      step_more start sight Stores c.steps.i (store_of c.new.result c.steps.i) new c.steps.invariant.0 step c.store.ensures.did,
      idle_after_store sight sight.seat.rank 240 (c.steps.i % 4) c.steps.i valid below (omega arith) c.steps.invariant.1 c.new.result is new c.store.ensures.did,
    )
