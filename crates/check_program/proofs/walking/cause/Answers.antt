use Rattle.std.proofs.Common.{◌≡◌, ◌∙◌, ℕ, Option, Some, ap, length, sym, arith}
use Rattle.plain_meaning.specs.Meaning.{keys_of, plain_ends}
use Rattle.plain_meaning.proofs.Messages.HeldUpLaws.{explained}
use Rattle.check_program.specs.Waiting.{cause_at, least_walked, waits_for}
use Rattle.check_program.specs.declared.causes.Cause.TheVariants as cause
use Rattle.check_program.proofs.CauseLaws.{answer_means}
use Rattle.check_program.proofs.WaitingLaws.{cause_is, many}
use Rattle.check_program.proofs.walking.cause.Goals as goal

pub stop-requires : goal.stop-requires
stop-requires c =
    let all : length c.args.end.now ≡ c.args.scripts.now.nue = many c.args.scripts.now c.args.end.now c.requires.ended in
    omega (arith, all, c.walk-last.ensures.below)

pub returns-in-None-clause-gives : goal.returns-in-None-clause-gives
returns-in-None-clause-gives c =
    let next : ℕ → Option ℕ = waits_for (keys_of c.args.scripts.now) c.args.end.now in
    cause_is next c.args.end.now c.args.scripts.now.nue c.args.rank c.walk-last.result c.in_ok-waits_for.field-0 c.stop.result
    (many c.args.scripts.now c.args.end.now c.requires.ended) c.in_ok-waits_for.ensures.gives c.walk-last.ensures.walked
    (c.stop.ensures ∙ ap (cause_at next c.args.end.now c.walk-last.result) c.in-None.ensures.gives)

pub returns-in-Some-clause-gives : goal.returns-in-Some-clause-gives
returns-in-Some-clause-gives c =
    let next : ℕ → Option ℕ = waits_for (keys_of c.args.scripts.now) c.args.end.now in
    let all : length c.args.end.now ≡ c.args.scripts.now.nue = many c.args.scripts.now c.args.end.now c.requires.ended in
    cause_is next c.args.end.now c.args.scripts.now.nue c.args.rank c.walk-last.result c.in_ok-waits_for.field-0 (cause.Cycle c.least.result)
    all c.in_ok-waits_for.ensures.gives c.walk-last.ensures.walked
    (ap (λ (k : ℕ). cause.Cycle k) (c.least.ensures ∙ ap (λ (n : ℕ). least_walked next n c.walk-last.result) (sym all))
    ∙ ap (cause_at next c.args.end.now c.walk-last.result) c.in-Some.ensures.gives)

pub returns-in-None-clause-means : goal.returns-in-None-clause-means
returns-in-None-clause-means c =
    answer_means (keys_of c.args.scripts.now) c.args.end.now (plain_ends c.args.scripts.now) c.args.scripts.now.nue c.args.rank (Some c.stop.result) c.requires.ended
    (many c.args.scripts.now c.args.end.now c.requires.ended) (explained c.args.scripts.now c.acceptance_law.ensures.whole) c.requires.below (returns-in-None-clause-gives c)

pub returns-in-Some-clause-means : goal.returns-in-Some-clause-means
returns-in-Some-clause-means c =
    answer_means (keys_of c.args.scripts.now) c.args.end.now (plain_ends c.args.scripts.now) c.args.scripts.now.nue c.args.rank (Some (cause.Cycle c.least.result)) c.requires.ended
    (many c.args.scripts.now c.args.end.now c.requires.ended) (explained c.args.scripts.now c.acceptance_law.ensures.whole) c.requires.below (returns-in-Some-clause-gives c)
