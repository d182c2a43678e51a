use Rattle.std.proofs.Common.{◌≡◌, ◌+◌, length, ◌∙◌, ap, arith}
use Rattle.std.proofs.lemmas.Grind.{common_steps}
use Rattle.trace_text.specs.Grammar.{line_fault}
use Rattle.trace_text.specs.declared.faults.TraceKind.{TraceKind}
use Rattle.trace_text.proofs.ProgressLemmas.{ends_cut, ends_empty, ends_fault, ends_long, ends_whole}
use Rattle.trace_text.proofs.walks.LineWalk.finish.Goals as goal

pub returns-then-self-gt-MOST_TRACE_LINES : goal.returns-then-self-gt-MOST_TRACE_LINES
returns-then-self-gt-MOST_TRACE_LINES c = λ text within walked. ends_long text c.args.self.now within walked c.if-self-gt-MOST_TRACE_LINES.true

pub returns-then-self-eq0 : goal.returns-then-self-eq0
returns-then-self-eq0 c = λ text within walked. ends_empty text c.args.self.now within walked c.if-self-gt-MOST_TRACE_LINES.false c.if-self-eq0.true

pub returns-in-Some : goal.returns-in-Some
returns-in-Some c = λ text within walked. ends_fault text c.args.self.now within walked c.if-self-gt-MOST_TRACE_LINES.false c.if-self-eq0.false c.in-Some.fault c.in-Some.is

pub returns-then-is_empty : goal.returns-then-is_empty
returns-then-is_empty c = λ text within walked.
    let empty : length c.args.self.now.line.items ≡ 0 = grind (arith, common_steps) in
    ends_whole text c.args.self.now within walked c.if-self-gt-MOST_TRACE_LINES.false c.if-self-eq0.false c.in_default.is empty

pub returns : goal.returns
returns c = λ text within walked.
    let kind : c.line_fault.result ≡ line_fault c.args.self.now.line.items = c.line_fault.ensures ∙ ap line_fault c.as_slice.ensures.value in
    ends_cut text c.args.self.now within walked c.if-self-gt-MOST_TRACE_LINES.false c.if-self-eq0.false c.in_default.is _ (λ none. absurd (grind (arith, common_steps)))
    (ap (λ (k : TraceKind). record { line = c.args.self.now.lines + 1; kind = k }) kind)
