use Rattle.std.proofs.Common.{ℕ, subst, sym}
use Rattle.rcce_io.specs.Sending.{Sends}
use Rattle.trace_judge.specs.declared.judge.Refusal.{Refusal}
use Rattle.trace_judge.specs.declared.judge.Refusal.TheVariants.{NotPermitted}
use Rattle.trace_program.specs.Texts.{refused_text}
use Rattle.trace_program.proofs.report.write_refused.Goals as goal

pub returns-in-NotPermitted : goal.returns-in-NotPermitted
returns-in-NotPermitted g c =
    let before = g.S.Sink.seen c.args.sink.now in
    let after = g.S.Sink.seen c.write_texts-in-NotPermitted.new.sink in
    subst (λ (w : Refusal). Sends (refused_text c.args.line c.args.rank w) before after c.write_texts-in-NotPermitted.result) (sym c.in-NotPermitted.is)
    (subst (λ (n : ℕ). Sends (refused_text c.args.line n (NotPermitted c.in-NotPermitted.next)) before after c.write_texts-in-NotPermitted.result) c.number.ensures.gives c.write_texts-in-NotPermitted.ensures)
