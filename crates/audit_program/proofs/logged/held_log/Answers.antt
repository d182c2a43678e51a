use Rattle.std.proofs.Common.{ℕ, ap, arith, refl, subst, ◌∙◌}
use Rattle.rcce_audit.specs.Held.{calls_with_bytes}
use Rattle.log_run.specs.LogRuns.{plain_calls}
use Rattle.audit_program.proofs.LogLemmas.{HoldBelow, bytes_back, held_lists, hold_first, hold_more}
use Rattle.audit_program.proofs.logged.held_log.Goals as goal

pub loop-number-init : goal.loop-number-init
loop-number-init c = hold_first c.args.run.now _ refl

pub loop-number-preserved : goal.loop-number-preserved
loop-number-preserved c =
    let script = c.args.run.now in
    let below = c.loop-number-test.true in
    let most = c.nue-number-end.ensures.most in
    hold_more script c.loop-number.number c.loop-number.lists _ (omega (arith, below, most)) c.loop-number.invariant
    ((λ i. calls_with_bytes (c.calls.ensures.gives i) (c.bytes.ensures.gives i)) ∙ bytes_back (plain_calls script c.of-rank.result) c.calls.ensures.long ∙ ap (plain_calls script) c.of-rank.ensures.gives)

pub returns : goal.returns
returns c =
    let script = c.args.run.now in
    let lists = c.loop-number.lists in
    let past = c.loop-number-test.false in
    let end = c.loop-number.auto.number-end in
    let ranks = c.nue-number-end.ensures.gives in
    let most = c.nue-number-end.ensures.most in
    let held : HoldBelow script script.nue lists = subst (λ (n : ℕ). HoldBelow script n lists) (omega (arith, past, end, ranks)) c.loop-number.invariant in
    λ i. record { nue = c.nue.ensures.gives i; comms = c.comms.ensures i; lists = held_lists script lists (omega (arith, ranks, most)) held i }
