use Rattle.std.proofs.Common.{ℕ, List, ◌++◌, ◌∷◌, [], slice_index_or, take, refl, sym, ap, ◌∙◌, length-set}
use Rattle.std.proofs.lemmas.List.{take-set}
use Rattle.std.proofs.lemmas.Result.{err_from_is_err_and}
use Rattle.scc_base.specs.Calls.{DataCall, Recv, Send}
use Rattle.scc_base.specs.Heads.{plain_head}
use Rattle.scc_proto.specs.Ports.{record_in}
use Rattle.ping_pong.specs.GivingUp.ServeStops.{AtReturn, AtServe}
use Rattle.ping_pong.specs.Rallies.{Ball, serves}
use Rattle.ping_pong.proofs.GivingUpLemmas.{gave_up_receiving, gave_up_sending}
use Rattle.ping_pong.proofs.RallyLemmas.{serve_round}
use Rattle.ping_pong.proofs.players.serve.Goals as goal

pub rounds-preserved : goal.rounds-preserved
rounds-preserved g c = record {
  free = c.in_ok-get.ensures.free;
  polls = c.get.ensures.same ∙ c.give.ensures.same ∙ c.rounds.invariant.polls;
  calls = serve_round (record_in (g.P.Port.sight c.args.port.now)).calls c.args.balls.now c.rounds.back c.get.new.ball c.rounds-test.true c.rounds.invariant.as_many c.rounds.invariant.calls refl
      (c.in_ok-give.ensures.calls
      ∙ ap (λ (to : ℕ). (record_in (g.P.Port.sight c.rounds.port)).calls ++ Send to (plain_head 4) (slice_index_or c.args.balls.now c.rounds.round []) ∷ []) c.of-other.ensures.gives)
      (c.in_ok-get.ensures.calls ∙ ap (λ (from : ℕ). (record_in (g.P.Port.sight c.give.new.port)).calls ++ Recv from (plain_head 4) c.get.new.ball ∷ []) c.of-other.ensures.gives);
  as_many = length-set c.rounds.back c.rounds.round c.get.new.ball ∙ c.rounds.invariant.as_many;
  seat = c.get.ensures.seat ∙ c.give.ensures.seat ∙ c.rounds.invariant.seat;
}

pub returns-in_err-give-clause-stopped : goal.returns-in_err-give-clause-stopped
returns-in_err-give-clause-stopped g c =
    let p = err_from_is_err_and c.from_residual.result c.from_residual.ensures.1 in
    rw (p.1, p.2)
    (AtServe c.rounds.round c.rounds-test.true _ refl
    (gave_up_sending (g.P.Port.sight c.rounds.port) (g.P.Port.sight c.give.new.port) c.rounds.station c.give.new.station c.rounds.invariant.polls c.of-other.ensures.gives
    (slice_index_or c.args.balls.now c.rounds.round []) _ c.rounds.invariant.calls c.in_err-give.ensures.stalled))

pub returns-in_err-get-clause-stopped : goal.returns-in_err-get-clause-stopped
returns-in_err-get-clause-stopped g c =
    let p = err_from_is_err_and c.from_residual-in_err-get.result c.from_residual-in_err-get.ensures.1 in
    let base = (record_in (g.P.Port.sight c.args.port.now)).calls in
    let ball = slice_index_or c.args.balls.now c.rounds.round [] in
    let before = c.rounds.invariant.calls ∙ ap (λ (b : List Ball). base ++ serves (take c.rounds.round c.args.balls.now) b) (sym (take-set c.rounds.back c.rounds.round c.get.new.ball)) in
    let sent = c.in_ok-give.ensures.calls ∙ ap (λ (to : ℕ). (record_in (g.P.Port.sight c.rounds.port)).calls ++ Send to (plain_head 4) ball ∷ []) c.of-other.ensures.gives
    ∙ ap (λ (calls : List DataCall). calls ++ Send 1 (plain_head 4) ball ∷ []) before in
    rw (p.1, p.2)
    (AtReturn c.rounds.round c.rounds-test.true _ refl
    (gave_up_receiving (g.P.Port.sight c.give.new.port) (g.P.Port.sight c.get.new.port) c.give.new.station c.get.new.station (c.give.ensures.same ∙ c.rounds.invariant.polls) c.of-other.ensures.gives
    (slice_index_or c.rounds.back c.rounds.round []) c.get.new.ball _ sent c.in_err-get.ensures.why))
