use Rattle.std.proofs.Common.{◌≡◌, ◌==◌, ◌≤◌, ℕ, true, ◌∷◌, ◌++◌, [], List, length, None, option_map, subst, sym, arith}
use Rattle.std.proofs.lemmas.Bool.Decides.{nat_tests}
use Rattle.scc_proto.proofs.Tests.{eqb_other}
use Rattle.trace_text.specs.Progress.{HasWalked, walk_said}
use Rattle.trace_text.specs.Traces.{most_trace_bytes}
use Rattle.trace_text.specs.Views.{rank_event}
use Rattle.trace_text.specs.Walks.{GainsEvent, text_reading}
use Rattle.trace_text.proofs.ProgressLemmas.{byte_gains, line_gains, walked_byte, walked_few, walked_line}
use Rattle.trace_text.proofs.walks.TraceWalk.push.Goals as goal

pub end_line-requires-clause-few : goal.end_line-requires-clause-few
end_line-requires-clause-few c =
    let w = c.self.inside in
    walked_few w.text.items w.walk (subst (λ (l : List ℕ). length l ≤ most_trace_bytes) (sym c.self.view_is) c.requires.few) c.self.invariant

pub invariant_of-self-then-byte-eq10 : goal.invariant_of-self-then-byte-eq10
invariant_of-self-then-byte-eq10 c =
    let w = c.self.inside in
    let feed : (c.args.byte == 10) ≡ true = grind (arith, nat_tests, c.if-byte-eq10.true) in
    subst (λ (l : List ℕ). HasWalked l c.end_line.new.self) (sym c.and-self-inside.ensures)
    (walked_line w.text.items c.args.byte w.walk c.end_line.new.self feed c.in_ok-made.ensures.lines c.in_ok-made.ensures.line c.in_ok-made.ensures.said c.self.invariant)

pub returns-then-byte-eq10-clause-event : goal.returns-then-byte-eq10-clause-event
returns-then-byte-eq10-clause-event c =
    let w = c.self.inside in
    let made = option_map rank_event c.in_ok-made.made in
    let feed : (c.args.byte == 10) ≡ true = grind (arith, nat_tests, c.if-byte-eq10.true) in
    let walked = walked_line w.text.items c.args.byte w.walk c.end_line.new.self feed c.in_ok-made.ensures.lines c.in_ok-made.ensures.line c.in_ok-made.ensures.said c.self.invariant in
    subst (λ (l : List ℕ). GainsEvent (text_reading c.args.self.now) (text_reading l) made) (sym c.and-self-inside.ensures)
    (subst (λ (l : List ℕ). GainsEvent (text_reading l) (text_reading (w.text.items ++ c.args.byte ∷ [])) made) c.self.view_is
    (line_gains w.text.items (walk_said w.walk) (walk_said c.end_line.new.self) (w.text.items ++ c.args.byte ∷ []) made c.self.invariant.said walked.said c.in_ok-made.ensures.event))

pub invariant_of-self-2 : goal.invariant_of-self-2
invariant_of-self-2 c =
    let w = c.self.inside in
    subst (λ (l : List ℕ). HasWalked l c.push.new.self) (sym c.and-self-inside-2.ensures)
    (walked_byte w.text.items c.args.byte w.walk c.push.new.self (eqb_other c.args.byte 10 c.if-byte-eq10.false) c.push.ensures.same c.push.ensures.line c.self.invariant)

pub returns-clause-event : goal.returns-clause-event
returns-clause-event c =
    let w = c.self.inside in
    subst (λ (l : List ℕ). GainsEvent (text_reading c.args.self.now) (text_reading l) None) (sym c.and-self-inside-2.ensures)
    (subst (λ (l : List ℕ). GainsEvent (text_reading l) (text_reading (w.text.items ++ c.args.byte ∷ [])) None) c.self.view_is
    (byte_gains w.text.items c.args.byte (eqb_other c.args.byte 10 c.if-byte-eq10.false)))
