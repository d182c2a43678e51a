use Rattle.std.proofs.Common.{◌≡◌, ℕ, IfOk, List, subst, sym}
use Rattle.script_gen.specs.Texts.{gen_text}
use Rattle.script_gen.proofs.generate.gen_script.Goals as goal

pub returns-then-nue-eq1 : goal.returns-then-nue-eq1
returns-then-nue-eq1 c = subst (λ (nue : ℕ). IfOk c.write_lone.result (λ (text : List ℕ). text ≡ gen_text nue c.args.s)) (sym c.if-nue-eq1.true) c.write_lone.ensures

pub returns-else-nue-eq1 : goal.returns-else-nue-eq1
returns-else-nue-eq1 c = c.write_ring.ensures c.args.nue c.if-nue-eq1.false
