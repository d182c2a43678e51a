use Rattle.std.proofs.Common.{◌≡◌, ◌∙◌, ◌==◌, ◌&&◌, ℕ, Bool, true, ap, sym, arith}
use Rattle.std.specs.Prelude.{nat_lt}
use Rattle.std.proofs.lemmas.Bool.{lt-ltb}
use Rattle.scc_base.specs.Groups.{root_in}
use Rattle.scc_base.specs.Setups.{setup_key}
use Rattle.rcce_audit.proofs.StandingLemmas.{roots_test}
use Rattle.rcce_audit.proofs.steps.is_in_group.Goals as goal

pub returns-then-other-nue : goal.returns-then-other-nue
returns-then-other-nue c =
    let key = setup_key c.args.setup.now c.args.comm in
    let below : nat_lt c.args.other c.args.setup.now.nue ≡ true = lt-ltb c.args.other c.args.setup.now.nue (omega (arith, c.if-other-nue.true, c.nue.ensures.gives)) in
    c.eq.ensures ∙ ap (λ (x : ℕ). x == c.root-then-other-nue.result) (c.root.ensures.gives ∙ ap (root_in key) c.of.ensures.gives)
    ∙ ap (λ (x : ℕ). root_in key c.args.other == x) c.root-then-other-nue.ensures.gives
    ∙ roots_test key c.args.other c.args.rank ∙ sym (ap (λ (b : Bool). b && (key c.args.other == key c.args.rank)) below)
