use Rattle.std.proofs.Common.{ℕ, ◌≤◌, List, Option, Some, None, SomeIff, subst}
use Rattle.scc_base.specs.Setups.{IsSetup, SetupView}
use Rattle.scc_base.specs.declared.communicators.CommRule.{CommRule}
use Rattle.scc_base.specs.declared.layouts.Layout.{Layout}
use Rattle.scc_base.specs.declared.layouts.Layout.TheVariants.{LineFlags}
use Rattle.scc_base.specs.Worlds.{own_cores, world_setup}
use Rattle.scc_base.proofs.WorldCores.{is_world}
use Rattle.scc_base.proofs.worlds.world_of.Goals as goal

abbrev with : ℕ → Layout → List ℕ → List CommRule → SetupView
with nue layout hosts comms = record { nue = nue; layout = layout; hosts = hosts; comms = comms }

-- whether there is this setup
abbrev Gives : Option SetupView → SetupView → Type 0
Gives result s = SomeIff result (IsSetup s) s

by_ranks : (nue : ℕ) (result : Option SetupView) → SomeIff result (IsSetup (world_setup nue)) (world_setup nue) → SomeIff result ((1 ≤ nue) × (nue ≤ 48)) (world_setup nue)
by_ranks nue None none = λ ranks. none (is_world nue ranks.0 ranks.1)
by_ranks nue (Some s) some = ((some.0.some_ranks, some.0.ranks_within), some.1)

pub returns : goal.returns
returns c =
    let nue = c.args.nue in
    let same = subst (λ (layout : Layout). Gives c.new.result (with nue layout c.own_cores.result c.world_alone.result)) c.lines.ensures.gives c.new.ensures.gives in
    let hosts = subst (λ (hosts : List ℕ). Gives c.new.result (with nue LineFlags hosts c.world_alone.result)) c.own_cores.ensures.gives same in
    record { gives = by_ranks nue c.new.result (subst (λ (comms : List CommRule). Gives c.new.result (with nue LineFlags own_cores comms)) c.world_alone.ensures.gives hosts) }
