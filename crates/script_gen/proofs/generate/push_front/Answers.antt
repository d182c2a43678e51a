use Rattle.std.proofs.Common.{OnOk, ℕ, ◌≡◌, subst}
use Rattle.rcce_io.specs.Sending.{with_text}
use Rattle.script_gen.specs.Texts.{front_text}
use Rattle.script_gen.proofs.generate.push_front.Goals as goal

pub returns : goal.returns
returns c = subst (λ (turns : ℕ). OnOk c.push.result (c.push.new.self ≡ with_text (front_text c.args.ranks.now c.args.s turns) c.args.text.now)) c.turns_of.ensures c.push.ensures
