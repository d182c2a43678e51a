-- A turn of a rank's call is a turn of a worker.
use Rattle.std.proofs.Common.{◌≡◌, ℕ, ◌||◌, if◌then◌else◌, true, false, List, [], Option, Some, refl, sym, ap, ◌∙◌, subst, arith}
use base.Stored.{gnil}
use Rattle.scc_base.specs.Heads.{MessageHead}
use Rattle.scc_base.specs.declared.events.Event.{Event}
use Rattle.scc_base.specs.declared.events.Spot.{Spot}
use Rattle.scc_base.specs.declared.events.Turn.TheVariants as worker_turn
use Rattle.scc_proto.specs.Ports.{Seat, Sight, record_in}
use Rattle.scc_proto.specs.Stages.{FlagWords, Idle}
use Rattle.scc_proto.proofs.PortLaws.{did_nothing}
use Rattle.put_get.specs.Cores.{MadeSteps}
use Rattle.send_recv.specs.Receiving.{IsAtRecvStage, recv_waits}
use Rattle.send_recv.specs.declared.answers.RecvTurn.{RecvTurn}
use Rattle.send_recv.specs.declared.answers.RecvTurn.TheVariants as turn
use Rattle.send_recv.specs.declared.stages.RecvStage.{RecvStage}
use Rattle.chip_run.specs.Turns.{Turned}
use Rattle.chip_run.specs.Wants.{Want}
use Rattle.coll_more.specs.Ops.{MoreAt, table_of, taking_part, window}
use Rattle.coll_more.specs.Standing.{MoreStands, StandsAt}
use Rattle.coll_more.specs.Turns.{MetOther, MoreTurned, is_more_over}
use Rattle.coll_more.specs.declared.kinds.PieceCall.{PieceCall}
use Rattle.coll_more.specs.declared.ops.Stage.{Stage}
use Rattle.coll_more.specs.declared.ops.Stage.TheVariants.{Own, Between, Sending, Receiving}
use Rattle.coll_more.proofs.EndLemmas.{stands_there}
use Rattle.coll_run.specs.Resting.{want_at}
use Rattle.coll_run.specs.Teams.{MemberStands, MemberView, seat_of, sight_of}
use Rattle.coll_run.specs.Workers.{HasGoneOn, IsTied, member_behaviour}
use Rattle.coll_run.proofs.LookLemmas.{has_ended, has_moved, has_waited, left_running}

-- where a rank stands at its port
pub at_port_of : (m : MemberView) (s : Sight) → IsTied m s.seat.setup s.seat.rank s.events → MoreStands [] (taking_part s m.core m.op m.slot m.src m.dst)
at_port_of m s ties = stands_there (sight_of s.seat.setup s.seat.rank s.events) s.seat.mark s.seat.rest s.seat.hold [] m.core m.op m.slot m.src m.dst ties.stands.stands

-- a turn of the call, where the member before it and behind it is spelled in another way
pub gone_on : (stepped : Seat → List Event → Event → Type 0) (old spelled : MemberView) (s : Sight) (new final : MemberView) (t : Sight) (answer : RecvTurn) → old ≡ spelled → final ≡ new
    → new.src ≡ spelled.src → new.src ≡ old.src → new.met ≡ old.met
    → MoreStands [] (taking_part t new.core new.op new.slot spelled.src new.dst)
    → MoreTurned (taking_part s spelled.core spelled.op spelled.slot spelled.src spelled.dst) (taking_part t new.core new.op new.slot spelled.src new.dst) answer
    → ((spot : Spot) → recv_waits answer ≡ Some spot → MadeSteps stepped s t) → HasGoneOn stepped old s final t answer
gone_on stepped old spelled s new final t answer same ends src same_src met stands turned steps =
    subst (λ (m : MemberView). HasGoneOn stepped old s m t answer) (sym ends) (record {
      stands = subst (λ (x : List ℕ). MoreStands [] (taking_part t new.core new.op new.slot x new.dst)) (sym src) stands;
      turned = subst (λ (m : MemberView). MoreTurned (taking_part s m.core m.op m.slot m.src m.dst) (taking_part t new.core new.op new.slot m.src new.dst) answer) (sym same) turned;
      steps = steps;
      src = same_src;
      met = met;
    })

-- ---- a rank that has met another head makes no turn

-- nothing is open there
met_idle : (s : Sight) (m : MemberView) (table : List PieceCall) (ended : ℕ) (sent : MessageHead) (st : Stage) → StandsAt s m.core m.slot table ended m.src m.dst st → MetOther (record_in s) sent st → (record_in s).stage ≡ Idle
met_idle s m table ended sent Own at met = absurd met
met_idle s m table ended sent Between at met = absurd met
met_idle s m table ended sent (Sending call op) at met = absurd met
met_idle s m table ended sent (Receiving call op) at met =
    (subst (λ (x : RecvStage). IsAtRecvStage s.seat (record_in s) m.core op (window call.first call.len m.dst) x) met.0 at.3.at).1

pub met_rests : (stepped : Seat → List Event → Event → Type 0) (m : MemberView) (s : Sight) → IsTied m s.seat.setup s.seat.rank s.events → m.met ≡ true → Turned member_behaviour (stepped s.seat) m s m s worker_turn.Done
unfolding record_in
met_rests stepped m s ties is_met =
    let (sent, met) = ties.met is_met in
    record {
      events = [];
      did = did_nothing s;
      means = record {
        stays = record { op = refl; slot = refl; src = refl };
        seen = refl;
        nothing = refl;
        over = record {
          ends = λ i. if is_met i || is_more_over (seat_of s.seat.setup s.seat.rank) m.op then Want.Nothing else want_at m.op.stage;
          idle = met_idle s m (table_of s.seat m.op) m.op.ended sent m.op.stage (at_port_of m s ties).at met;
        };
      };
    }

-- ---- a turn

module _ (stepped : Seat → List Event → Event → Type 0) (old : MemberView) (s : Sight) (new : MemberView) (t : Sight) (ties : IsTied old s.seat.setup s.seat.rank s.events) (running : old.met ≡ false) where
  module _ (answer : RecvTurn) (gone : HasGoneOn stepped old s new t answer) where
    stands_later : MemberStands new.op.more new.op.len new t.seat.setup t.seat.rank t.events
    unfolding record_in
    stands_later = record {
      more_is = refl;
      len_is = refl;
      stands = stands_there t gnil gnil 0 [] new.core new.op new.slot new.src new.dst gone.stands;
      hands = λ core. ap (λ (held : ℕ → Option FlagWords). held core) gone.turned.rest.hold ∙ ties.stands.hands core;
    }

    pub tied_on : IsTied new t.seat.setup t.seat.rank t.events
    tied_on = record { stands = stands_later; met = λ is_met. absurd (let off : new.met ≡ false = gone.met ∙ running in cc (is_met, off)) }

  pub moved_on : HasGoneOn stepped old s new t turn.Moved → Turned member_behaviour (stepped s.seat) old s new t worker_turn.Moved
  moved_on gone = record { events = gone.turned.events; did = gone.turned.did; means = has_moved s t old new running gone.turned gone.met gone.src }

  pub waited_on : (spot : Spot) → HasGoneOn stepped old s new t (turn.Waiting spot) → Turned member_behaviour (stepped s.seat) old s new t (worker_turn.Waiting spot)
  waited_on spot gone = record {
    events = gone.turned.events;
    did = gone.turned.did;
    means = has_waited (stepped s.seat) s t old new spot (at_port_of old s ties) gone.turned (gone.steps spot refl gone.turned.events gone.turned.did) running gone.met gone.src;
  }

  pub done_on : HasGoneOn stepped old s new t turn.Done → Turned member_behaviour (stepped s.seat) old s new t worker_turn.Done
  done_on gone = record { events = gone.turned.events; did = gone.turned.did; means = has_ended s t old new running gone.turned (at_port_of old s ties) gone.met gone.src }

  module _ (sent : MessageHead) (gone : HasGoneOn stepped old s new t (turn.Mismatch sent)) where
    abbrev stopped : MemberView
    stopped = record new { met = true }

    pub tied_met : IsTied stopped t.seat.setup t.seat.rank t.events
    unfolding record_in
    tied_met =
        let st = stands_later (turn.Mismatch sent) gone in
        let still = gone.turned.means.0 in
        record {
          stands = record { more_is = refl; len_is = refl; stands = st.stands; hands = st.hands };
          met = λ is_met. (sent, subst (λ (x : MoreAt). MetOther (record_in t) sent x.stage) (sym still.same_op) gone.turned.means.2);
        }

    pub met_on : Turned member_behaviour (stepped s.seat) old s stopped t worker_turn.Moved
    met_on = record {
      events = gone.turned.events;
      did = gone.turned.did;
      means = record {
        moves = record { more = gone.turned.same.0; len = gone.turned.same.1; src = gone.src };
        less = omega (arith, left_running s t old new running old running);
      };
    }
