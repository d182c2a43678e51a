use Rattle.std.proofs.Common.{◌∙◌, ◌==◌, ℕ, ap}
use Rattle.scc_base.specs.Groups.{root_in}
use Rattle.scc_base.specs.Setups.{setup_key}
use Rattle.script_plain.proofs.CodeSteps.GroupLaws.{same_group}
use Rattle.script_plain.proofs.barriers.is_with.Goals as goal

pub returns : goal.returns
returns c =
    let key : ℕ → ℕ = setup_key c.args.setup.now c.args.comm in
    same_group key c.args.rank c.args.other c.eq.result
    (c.eq.ensures ∙ ap (λ (x : ℕ). x == c.root_of-2.result) c.root_of.ensures ∙ ap (λ (x : ℕ). root_in key c.args.other == x) c.root_of-2.ensures)
