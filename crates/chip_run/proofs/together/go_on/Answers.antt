use Rattle.std.proofs.Common.{rules, ◌≡◌, ℕ, ◌<◌, Some, refl, ◌∙◌, ap, subst, arith}
use Rattle.scc_base.specs.Setups.{SetupView}
use Rattle.scc_mesh.specs.AwayRanks.{Away, Ticket}
use Rattle.scc_mesh.specs.Scenes.{WasSeatStep, sight_away}
use Rattle.scc_mesh.specs.Turns.{AfterTurnAway}
use Rattle.scc_mesh.proofs.TurnLaws.{came_back}
use Rattle.chip_run.specs.Away.{IsAway, NoBatch, OneBatch, slice_left}
use Rattle.chip_run.proofs.SliceLaws.{slice_falls}
use Rattle.chip_run.proofs.TogetherLaws.{next_batch, batch_did}
use Rattle.chip_run.proofs.together.go_on.Goals as goal

pub returns-then-member-ge-MOST_FAILED-clause-batches : goal.returns-then-member-ge-MOST_FAILED-clause-batches
returns-then-member-ge-MOST_FAILED-clause-batches g c = NoBatch

pub returns-clause-away : goal.returns-clause-away
returns-clause-away g c =
    let about = c.args.words.space.now.about in
    let token : c.args.member.now.token ≡ Some c.in-Some.token = search rules in
    let was : IsAway (g.W.Worker.behaviour.tied c.args.member.now.worker) about c.args.words.space.now.table c.args.at (Some c.in-Some.token) =
    subst (IsAway (g.W.Worker.behaviour.tied c.args.member.now.worker) about c.args.words.space.now.table c.args.at) token c.requires.away in
    let back : AfterTurnAway (g.W.Worker.behaviour.tied c.batch-answer.new.self) about c.in-Some.token c.into_token.result =
    came_back (g.W.Worker.behaviour.tied c.batch-answer.new.self) about c.in-Some.token c.into_token.result c.port.result c.batch-answer.result.1 c.port.ensures.gives
    (batch_did g.W.Worker.behaviour c.args.member.now.worker c.batch-answer.new.self (sight_away c.port.result.about c.port.result.ticket)
    (sight_away c.batch-answer.result.1.about c.batch-answer.result.1.ticket) c.batch-answer.result.0 c.batch-answer.ensures.took_batch)
    c.batch-answer.ensures.ties c.into_token.ensures.gives in
    let rank = ap (λ (t : Ticket). t.rank) back.is ∙ was.1 in (
      ap (λ (t : Ticket). t.table) back.is ∙ was.0,
      rank,
      subst (λ r. g.W.Worker.behaviour.tied c.batch-answer.new.self about r c.into_token.result.events) rank back.here,
    )

pub returns-clause-batches : goal.returns-clause-batches
returns-clause-batches g c =
    OneBatch c.args.member.now.worker c.batch-answer.new.self c.args.member.now.token (Some c.into_token.result) c.args.member.now.failed c.failed_after-member.result NoBatch
    (next_batch g.W.Worker.behaviour c.args.words.space.now.about c.args.member.now.worker c.batch-answer.new.self c.args.member.now.token c.args.member.now.failed c.failed_after-member.result
    c.in-Some.token c.into_token.result c.port.result c.batch-answer.result.1 c.batch-answer.result.0 (omega (arith, c.if-member-ge-MOST_FAILED.false)) (search rules) c.port.ensures.gives c.into_token.ensures.gives
    c.batch-answer.ensures.took_batch c.failed_after-member.ensures.gives)

pub returns-clause-less : goal.returns-clause-less
returns-clause-less g c = λ yes.
    let about = c.args.words.space.now.about in
    let token : c.args.member.now.token ≡ Some c.in-Some.token = search rules in
    let was : IsAway (g.W.Worker.behaviour.tied c.args.member.now.worker) about c.args.words.space.now.table c.args.at (Some c.in-Some.token) =
    subst (IsAway (g.W.Worker.behaviour.tied c.args.member.now.worker) about c.args.words.space.now.table c.args.at) token c.requires.away in
    let old = c.args.member.now.worker in
    let new = c.batch-answer.new.self in
    let first = sight_away c.port.result.about c.port.result.ticket in
    subst (λ (s : SetupView). slice_left 1000 (g.W.Worker.behaviour.seen s c.args.at new).left c.failed_after-member.result < slice_left 1000 (g.W.Worker.behaviour.seen s c.args.at old).left c.args.member.now.failed)
    (ap (λ (p : Away). p.about) c.port.ensures.gives)
    (subst (λ (r : ℕ). slice_left 1000 (g.W.Worker.behaviour.seen c.port.result.about r new).left c.failed_after-member.result < slice_left 1000 (g.W.Worker.behaviour.seen c.port.result.about r old).left c.args.member.now.failed)
    (ap (λ (p : Away). p.ticket.rank) c.port.ensures.gives ∙ was.1)
    (slice_falls g.W.Worker.behaviour (WasSeatStep first.seat) old new first.seat first (sight_away c.batch-answer.result.1.about c.batch-answer.result.1.ticket) c.batch-answer.result.0 c.args.member.now.failed
    c.failed_after-member.result refl (omega (arith, c.if-member-ge-MOST_FAILED.false)) c.failed_after-member.ensures.gives c.batch-answer.ensures.took_batch))
