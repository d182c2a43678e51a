use Rattle.std.proofs.Common.{◌≡◌, ◌∙◌, ◌+◌, ℕ, Bool, arith, subst, sym}
use Rattle.scc_base.specs.Setups.{setup_key}
use Rattle.script_plain.proofs.WayLaws.{swept_on, swept_past}
use Rattle.script_plain.specs.Code.{Sweeps, config}
use Rattle.script_plain.proofs.steps.sweep.Goals as goal
use Rattle.script_plain.proofs.steps.sweep.Goals.{then-branch, else-branch}

pub loop-number-preserved : goal.loop-number-preserved
loop-number-preserved c =
    let keys = setup_key c.args.setup.now in
    let start = config c.args.ues.now c.args.slots.now in
    let old = config c.loop-number.ues c.loop-number.slots in
    let new = config c.go_on.new.ues c.go_on.new.slots in
    record {
      run = record {
        ranks = c.go_on.auto.ues ∙ c.loop-number.invariant.run.ranks;
        slotted = c.go_on.auto.slots ∙ c.loop-number.invariant.run.slotted;
        sixteen = c.loop-number.invariant.run.sixteen;
      };
      so_far = elim c.if-branch.branch [
        | then-branch w ↦
            subst (λ (m : Bool). Sweeps keys m (c.loop-number.number + 1) start new) (sym w.moved-is)
            (swept_on keys c.loop-number.moved c.in_ok-go_on.field-0 c.loop-number.number c.of.result start old new c.loop-number.invariant.so_far w.if-branch.true c.in_ok-go_on.ensures)
        | else-branch w ↦
            subst (λ (m : Bool). Sweeps keys m (c.loop-number.number + 1) start new) (sym w.moved-is)
            (swept_past keys c.loop-number.moved c.in_ok-go_on.field-0 c.loop-number.number c.of.result start old new c.of.ensures.gives c.loop-number.invariant.so_far w.if-branch.false c.in_ok-go_on.ensures)
      ];
    }

pub returns : goal.returns
returns c =
    let all : c.loop-number.number ≡ c.args.setup.now.nue =
    omega (arith, c.loop-number-test.false, c.loop-number.auto.number-end, c.nue-number-end.ensures.gives) in
    subst (λ (n : ℕ). Sweeps (setup_key c.args.setup.now) c.loop-number.moved n (config c.args.ues.now c.args.slots.now) (config c.loop-number.ues c.loop-number.slots)) all c.loop-number.invariant.so_far
