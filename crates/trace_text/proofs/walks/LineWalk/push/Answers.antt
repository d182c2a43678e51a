use Rattle.std.proofs.Common.{◌∙◌, arith}
use Rattle.trace_text.proofs.WalkLemmas.{full_cut, push_cut}
use Rattle.trace_text.proofs.walks.LineWalk.push.Goals as goal

pub returns-then-len-lt-KEPT_LINE_BYTES-clause-line : goal.returns-then-len-lt-KEPT_LINE_BYTES-clause-line
returns-then-len-lt-KEPT_LINE_BYTES-clause-line c = λ last is.
    c.push_reserved.ensures.items ∙ push_cut c.args.self.now.line.items last c.args.byte is (omega (arith, c.if-len-lt-KEPT_LINE_BYTES.true, c.len.ensures))

pub returns-else-len-lt-KEPT_LINE_BYTES-clause-line : goal.returns-else-len-lt-KEPT_LINE_BYTES-clause-line
returns-else-len-lt-KEPT_LINE_BYTES-clause-line c = λ last is. full_cut c.args.self.now.line.items last c.args.byte is (omega (arith, c.if-len-lt-KEPT_LINE_BYTES.false, c.len.ensures))
