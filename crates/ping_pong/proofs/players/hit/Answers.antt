use Rattle.std.proofs.Common.{ℕ, ◌<◌, List, ◌++◌, ◌∷◌, [], slice_index_or, slice_set, take, refl, sym, ap, subst, ◌∙◌, length-set}
use Rattle.std.proofs.lemmas.List.{get_or-set_same, take-set}
use Rattle.std.proofs.lemmas.Result.{err_from_is_err_and}
use Rattle.scc_base.specs.Calls.{DataCall, Recv, Send}
use Rattle.scc_base.specs.Heads.{plain_head}
use Rattle.scc_proto.specs.Ports.{record_in}
use Rattle.ping_pong.specs.GivingUp.HitStops.{AtArrival, AtHit}
use Rattle.ping_pong.specs.Rallies.{Ball, hits}
use Rattle.ping_pong.proofs.GivingUpLemmas.{gave_up_receiving, gave_up_sending}
use Rattle.ping_pong.proofs.RallyLemmas.{hit_round}
use Rattle.ping_pong.proofs.players.hit.Goals as goal

pub rounds-preserved : goal.rounds-preserved
rounds-preserved g c =
    let low = subst (λ (n : ℕ). c.rounds.round < n) (sym c.rounds.invariant.as_many) c.rounds-test.true in
    record {
      free = c.in_ok-give.ensures.free;
      polls = c.give.ensures.same ∙ c.get.ensures.same ∙ c.rounds.invariant.polls;
      calls = hit_round (record_in (g.P.Port.sight c.args.port.now)).calls c.rounds.seen low c.rounds.invariant.calls
          (c.in_ok-get.ensures.calls ∙ ap (λ (from : ℕ). (record_in (g.P.Port.sight c.rounds.port)).calls ++ Recv from (plain_head 4) c.get.new.ball ∷ []) c.of-other.ensures.gives)
          (get_or-set_same c.rounds.seen c.rounds.round c.get.new.ball [] low)
          (c.in_ok-give.ensures.calls
          ∙ ap (λ (to : ℕ). (record_in (g.P.Port.sight c.get.new.port)).calls ++ Send to (plain_head 4) (slice_index_or (slice_set c.rounds.seen c.rounds.round c.get.new.ball) c.rounds.round []) ∷ [])
          c.of-other.ensures.gives);
      as_many = length-set c.rounds.seen c.rounds.round c.get.new.ball ∙ c.rounds.invariant.as_many;
      seat = c.give.ensures.seat ∙ c.get.ensures.seat ∙ c.rounds.invariant.seat;
    }

pub returns-in_err-get-clause-stopped : goal.returns-in_err-get-clause-stopped
returns-in_err-get-clause-stopped g c =
    let p = err_from_is_err_and c.from_residual.result c.from_residual.ensures.1 in
    let base = (record_in (g.P.Port.sight c.args.port.now)).calls in
    let low = subst (λ (n : ℕ). c.rounds.round < n) (sym (length-set c.rounds.seen c.rounds.round c.get.new.ball ∙ c.rounds.invariant.as_many)) c.rounds-test.true in
    let before = c.rounds.invariant.calls ∙ ap (λ (b : List Ball). base ++ hits b) (sym (take-set c.rounds.seen c.rounds.round c.get.new.ball)) in
    rw (p.1, p.2)
    (AtArrival c.rounds.round low _ refl
    (gave_up_receiving (g.P.Port.sight c.rounds.port) (g.P.Port.sight c.get.new.port) c.rounds.station c.get.new.station c.rounds.invariant.polls c.of-other.ensures.gives
    (slice_index_or c.rounds.seen c.rounds.round []) c.get.new.ball _ before c.in_err-get.ensures.why))

pub returns-in_err-give-clause-stopped : goal.returns-in_err-give-clause-stopped
returns-in_err-give-clause-stopped g c =
    let p = err_from_is_err_and c.from_residual-in_err-give.result c.from_residual-in_err-give.ensures.1 in
    let base = (record_in (g.P.Port.sight c.args.port.now)).calls in
    let round = c.rounds.round in
    let got = c.get.new.ball in
    let seen = slice_set c.rounds.seen round got in
    let within = subst (λ (n : ℕ). round < n) (sym c.rounds.invariant.as_many) c.rounds-test.true in
    let low = subst (λ (n : ℕ). round < n) (sym (length-set c.rounds.seen round got ∙ c.rounds.invariant.as_many)) c.rounds-test.true in
    let before = c.rounds.invariant.calls ∙ ap (λ (b : List Ball). base ++ hits b) (sym (take-set c.rounds.seen round got)) in
    let came = c.in_ok-get.ensures.calls ∙ ap (λ (from : ℕ). (record_in (g.P.Port.sight c.rounds.port)).calls ++ Recv from (plain_head 4) got ∷ []) c.of-other.ensures.gives
    ∙ ap (λ (calls : List DataCall). calls ++ Recv 0 (plain_head 4) got ∷ []) before
    ∙ ap (λ (ball : Ball). (base ++ hits (take round seen)) ++ Recv 0 (plain_head 4) ball ∷ []) (sym (get_or-set_same c.rounds.seen round got [] within)) in
    rw (p.1, p.2)
    (AtHit round low _ refl
    (gave_up_sending (g.P.Port.sight c.get.new.port) (g.P.Port.sight c.give.new.port) c.get.new.station c.give.new.station (c.get.ensures.same ∙ c.rounds.invariant.polls) c.of-other.ensures.gives
    (slice_index_or seen round []) _ came c.in_err-give.ensures.stalled))
