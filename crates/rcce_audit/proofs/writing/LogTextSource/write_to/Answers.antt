use Rattle.std.proofs.Common.{◌∙◌, ◌++◌, ℕ, List, refl, sym, subst, append_assoc}
use Rattle.rcce_io.specs.Sending.{CutShort, Sends}
use Rattle.rcce_io.proofs.SendingLemmas.{cut_then, cut_within, sends_after, sends_err, whole_within}
use Rattle.rcce_audit.specs.Pieces.{line_with_feed}
use Rattle.rcce_audit.specs.Texts.{call_lines, head_words, log_text, rule_lines, table_lines, text_of}
use Rattle.rcce_audit.proofs.TextLemmas.{log_parts}
use Rattle.rcce_audit.proofs.writing.LogTextSource.write_to.Goals as goal

pub returns-in_err-write_head : goal.returns-in_err-write_head
returns-in_err-write_head g c =
    let log = c.args.self.now in
    let before = g.S.Sink.seen c.args.sink.now in
    let after = g.S.Sink.seen c.write_head.new.sink in
    let cut = rw c.nue.ensures.gives at c.in_err-write_head.ensures in
    sends_err before after (log_text log) _ c.from_residual.ensures.0
    (subst (λ (t : List ℕ). CutShort t before after) (sym (log_parts log))
    (cut_then before after (line_with_feed (head_words log.nue)) (text_of (table_lines rule_lines 0 log.comms) ++ text_of (table_lines call_lines 0 log.lists)) cut))

pub returns-in_err-write_rules : goal.returns-in_err-write_rules
returns-in_err-write_rules g c =
    let log = c.args.self.now in
    let before = g.S.Sink.seen c.args.sink.now in
    let between = g.S.Sink.seen c.write_head.new.sink in
    let after = g.S.Sink.seen c.write_rules.new.sink in
    let head = rw c.nue.ensures.gives at c.in_ok-write_head.ensures in
    let cut = rw c.comms.ensures.gives at c.in_err-write_rules.ensures in
    sends_err before after (log_text log) _ c.from_residual-in_err-write_rules.ensures.0
    (cut_within before between after (line_with_feed (head_words log.nue)) (text_of (table_lines rule_lines 0 log.comms)) (text_of (table_lines call_lines 0 log.lists)) (log_text log) (log_parts log) head cut)

pub returns : goal.returns
returns g c =
    let log = c.args.self.now in
    let before = g.S.Sink.seen c.args.sink.now in
    let between = g.S.Sink.seen c.write_head.new.sink in
    let middle = g.S.Sink.seen c.write_rules.new.sink in
    let after = g.S.Sink.seen c.write_lists.new.sink in
    let first = line_with_feed (head_words log.nue) in
    let second = text_of (table_lines rule_lines 0 log.comms) in
    let third = text_of (table_lines call_lines 0 log.lists) in
    let head = rw c.nue.ensures.gives at c.in_ok-write_head.ensures in
    let rules = rw c.comms.ensures.gives at c.in_ok-write_rules.ensures in
    let lists = rw c.lists.ensures.gives at c.write_lists.ensures in
    subst (λ (t : List ℕ). Sends t before after c.write_lists.result) (append_assoc first second third ∙ sym (log_parts log))
    (sends_after before middle after (first ++ second) third c.write_lists.result (whole_within before between middle first second (first ++ second) refl head rules) lists)
