use Rattle.std.proofs.Common.{◌≡◌, ◌∙◌, ℕ, ap, sym, arith, map}
use Rattle.std.specs.List.{range_with_len}
use Rattle.script_machine.specs.Local.{local_start}
use Rattle.plain_meaning.proofs.Runs.PlainLaws.{locals_of-start_of, start_more}
use Rattle.script_plain.proofs.steps.start.Goals as goal

pub loop-number-preserved : goal.loop-number-preserved
loop-number-preserved c =
    start_more c.args.scripts.now c.loop-number.number c.of.result c.loop-number.ues.items c.push.new.self.items c.in_ok-new.field-0 c.loop-number.invariant c.of.ensures.gives
    c.in_ok-new.ensures c.in_ok-push.ensures.items

pub returns : goal.returns
returns c =
    let script = c.args.scripts.now in
    let all : c.loop-number.number ≡ script.nue =
    omega (arith, c.loop-number-test.false, c.loop-number.auto.number-end, c.nue-number-end.ensures.same) in
    c.loop-number.invariant ∙ ap (λ (n : ℕ). map (local_start script) (range_with_len 0 n)) all ∙ sym (locals_of-start_of script)
