use Rattle.std.proofs.Common.{◌≡◌, ◌%◌, ◌∙◌}
use Rattle.scc_base.specs.Events.{load_of}
use Rattle.scc_base.specs.declared.events.Access.TheVariants.{Load}
use Rattle.steps_program.specs.declared.accesses.Kind.TheVariants.{Loads}
use Rattle.steps_program.specs.Steps.{access_step, step_at, home_core}
use Rattle.steps_program.proofs.IdleLemmas.{no_step, step_more}
use Rattle.steps_program.proofs.accesses.load_many.Goals as goal

pub steps-init : goal.steps-init
steps-init g c = no_step (g.P.Port.sight c.args.port.now) Loads

pub steps-preserved : goal.steps-preserved
steps-preserved g c =
    let start = g.P.Port.sight c.args.port.now in
    let first = c.new.ensures.gives ∙ (λ i. record { core = c.own_core-core.ensures.gives i; line = 240; word = c.steps.i % 4 }) in
    let step : access_step (load_of c.new.result c.load.result) ≡ step_at Loads (home_core start) c.steps.i = λ i. record { access = Load; place = first i } in
    step_more start (g.P.Port.sight c.steps.port) Loads c.steps.i (load_of c.new.result c.load.result) (g.P.Port.sight c.load.new.self) c.steps.invariant step c.load.ensures.did
