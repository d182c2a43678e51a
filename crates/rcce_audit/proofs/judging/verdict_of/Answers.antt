use Rattle.std.proofs.Common.{◌∙◌, ◌+◌, ℕ, sym, subst, arith, slice_index}
use Rattle.std.proofs.lemmas.List.{length-map}
use Rattle.rcce_audit.specs.Logs.{calls_at_rank}
use Rattle.rcce_audit.specs.Standings.{standing_of}
use Rattle.rcce_audit.specs.Verdicts.{IsFirstLeft}
use Rattle.rcce_audit.specs.Views.{data_list, data_lists, data_of}
use Rattle.rcce_audit.proofs.StandingLemmas.{first_left, none_left, some_get}
use Rattle.rcce_audit.proofs.judging.verdict_of.Goals as goal

pub returns-then-is_some : goal.returns-then-is_some
returns-then-is_some c =
    let lists = data_lists c.args.lists.now in
    let p = c.args.progress.now in
    let some = some_get (λ call. data_of call.now) c.first.result _ c.first.ensures (sym c.is_some.ensures ∙ c.if-is_some.true) in
    subst (λ (r : ℕ). IsFirstLeft (calls_at_rank lists) (standing_of lists p) r (slice_index p.next c.loop-number.number + 1)) (sym c.of.ensures.gives)
    (first_left lists p c.loop-number.number some c.loop-number.invariant)

pub returns : goal.returns
returns c =
    let lists = data_lists c.args.lists.now in
    let ranks = length-map c.args.lists.now (λ list. data_list list.items) in
    none_left lists c.args.progress.now c.loop-number.number (omega (arith, ranks, c.requires.ranks, c.loop-number-test.false)) c.loop-number.invariant
