use Rattle.std.proofs.Common.{Some, refl, subst, sym, ap, ◌∙◌}
use Rattle.groups.specs.Peers.{IsWithPeer}
use Rattle.groups.specs.declared.collectives.Step.{Step}
use Rattle.station.specs.Groups.{StandsInStep, StepFits, held_in, in_step}
use Rattle.station.specs.Steps.{Held, folded_output, part_by}
use Rattle.station.proofs.GroupLemmas.{only_none}
use Rattle.station.proofs.ArmLemmas.{alone_for, done_for, err_later, left_for, ok_later, receive_ends, receive_leaves, receive_opens, receive_why, send_ends, send_leaves, send_opens, why_for}
use Rattle.station.proofs.StepLemmas.{send_only, send_why, stalled_only}
use Rattle.station.proofs.stations.Station.do_step.Goals as goal

pub copy_from_slice-requires : goal.copy_from_slice-requires
copy_from_slice-requires g c =
    let part = part_by c.args.root c.args.folding c.args.input.now in
    let held = held_in c.args.output.now c.args.work.now in
    sym (subst (λ (x : Step). StepFits part held x) c.in-Begin.is c.requires.fits)

pub returns-in-Begin-clause-done : goal.returns-in-Begin-clause-done
returns-in-Begin-clause-done g c =
    let s = g.P.Port.sight c.args.port.now in
    let part = part_by c.args.root c.args.folding c.args.input.now in
    let held = held_in c.args.output.now c.args.work.now in
    let later = held_in c.copy_from_slice.new.self c.args.work.now in
    let r = in_step s c.args.self.now part held in
    let copied = c.copy_from_slice.ensures.after in
    done_for c.in-Begin.is r (in_step s c.args.self.now part later) c.args.hand
    (alone_for r c.args.hand _ later refl (λ before same. ((λ i. held_in (copied i) c.args.work.now) ∙ ap (λ (h : Held). record h { output = c.args.input.now }) same, refl)))

pub returns-in-Begin-clause-only : goal.returns-in-Begin-clause-only
returns-in-Begin-clause-only g c = only_none (g.P.Port.sight c.args.port.now)

pub finish_send-requires : goal.finish_send-requires
finish_send-requires g c =
    let s = g.P.Port.sight c.args.port.now in
    let part = part_by c.args.root c.args.folding c.args.input.now in
    let held = held_in c.args.output.now c.args.work.now in
    let r = in_step s c.args.self.now part held in
    record {
      «open» = send_opens r c.args.hand c.requires.below c.in-Send.to c.in-Send.head
          (subst (λ (x : Step). IsWithPeer s.seat.setup s.seat.rank x) c.in-Send.is c.requires.peer)
          (subst (λ (x : Step). StepFits part held x) c.in-Send.is c.requires.fits)
          c.send_of-op.result c.send_of-op.ensures.gives c.either.result.now c.either.ensures.gives c.requires.open.0
          (subst (λ (x : Step). StandsInStep c.requires.open.0 r (Some x) c.args.hand) c.in-Send.is c.requires.open.1);
    }

pub returns-in-Ok : goal.returns-in-Ok
returns-in-Ok g c =
    let s = g.P.Port.sight c.args.port.now in
    let t = g.P.Port.sight c.finish_send.new.port in
    let part = part_by c.args.root c.args.folding c.args.input.now in
    let held = held_in c.args.output.now c.args.work.now in
    let r = in_step s c.args.self.now part held in
    record {
      done = done_for c.in-Send.is r (in_step t c.finish_send.new.self part held) c.args.hand
          (send_ends r c.args.hand c.requires.below c.in-Send.to c.in-Send.head
          (subst (λ (x : Step). IsWithPeer s.seat.setup s.seat.rank x) c.in-Send.is c.requires.peer)
          (subst (λ (x : Step). StepFits part held x) c.in-Send.is c.requires.fits)
          c.send_of-op.result c.send_of-op.ensures.gives c.either.result.now c.either.ensures.gives t c.finish_send.new.self c.in-Ok.ensures.sent c.in-Ok.ensures.free);
      leaves = tt;
      none = tt;
      why = tt;
      only = send_only c.args.self.now c.finish_send.new.self c.in-Ok.ensures.sent;
      seat = c.finish_send.ensures.seat;
      same = c.finish_send.ensures.same;
    }

pub returns-in-Err : goal.returns-in-Err
returns-in-Err g c =
    let s = g.P.Port.sight c.args.port.now in
    let t = g.P.Port.sight c.finish_send.new.port in
    let part = part_by c.args.root c.args.folding c.args.input.now in
    let held = held_in c.args.output.now c.args.work.now in
    let r = in_step s c.args.self.now part held in
    let now = in_step t c.finish_send.new.self part held in
    let stall = c.in-Err.stall in
    let stalled = c.in-Err.ensures.stalled in
    record {
      done = tt;
      leaves = left_for c.in-Send.is r now c.args.hand c.send_stopped.result
          (send_leaves r c.args.hand c.requires.below c.in-Send.to c.in-Send.head
          (subst (λ (x : Step). IsWithPeer s.seat.setup s.seat.rank x) c.in-Send.is c.requires.peer)
          (subst (λ (x : Step). StepFits part held x) c.in-Send.is c.requires.fits)
          c.send_of-op.result c.send_of-op.ensures.gives c.either.result.now c.either.ensures.gives t c.finish_send.new.self
          c.args.self.now.polls stall c.send_stopped.result c.send_stopped.ensures.gives c.in-Err.ensures.open stalled.1);
      none = stalled.1.calls;
      why = why_for c.in-Send.is r now c.args.hand c.send_stopped.result
          (send_why c.args.self.now c.finish_send.new.self c.in-Send.to c.in-Send.head part held stall c.send_stopped.result c.send_stopped.ensures.gives stalled);
      only = stalled_only c.args.self.now c.finish_send.new.self stalled.1;
      seat = c.finish_send.ensures.seat;
      same = c.finish_send.ensures.same;
    }

pub receive_into-requires : goal.receive_into-requires
receive_into-requires g c =
    let s = g.P.Port.sight c.args.port.now in
    let part = part_by c.args.root c.args.folding c.args.input.now in
    let held = held_in c.args.output.now c.args.work.now in
    let r = in_step s c.args.self.now part held in
    record {
      «open» = (
        part,
        c.requires.open.0,
        refl,
        receive_opens r c.args.hand c.requires.below c.in-Recv.from c.in-Recv.head
            (subst (λ (x : Step). IsWithPeer s.seat.setup s.seat.rank x) c.in-Recv.is c.requires.peer)
            (subst (λ (x : Step). StepFits part held x) c.in-Recv.is c.requires.fits)
            c.receive_of-op.result c.receive_of-op.ensures.gives c.requires.open.0
            (subst (λ (x : Step). StandsInStep c.requires.open.0 r (Some x) c.args.hand) c.in-Recv.is c.requires.open.1),
      );
    }

pub returns-in-Recv : goal.returns-in-Recv
returns-in-Recv g c =
    let s = g.P.Port.sight c.args.port.now in
    let t = g.P.Port.sight c.receive_into.new.port in
    let part = part_by c.args.root c.args.folding c.args.input.now in
    let held = held_in c.args.output.now c.args.work.now in
    let r = in_step s c.args.self.now part held in
    let now = in_step t c.receive_into.new.self part (held_in c.receive_into.new.output c.receive_into.new.work) in
    let peer = subst (λ (x : Step). IsWithPeer s.seat.setup s.seat.rank x) c.in-Recv.is c.requires.peer in
    let fits = subst (λ (x : Step). StepFits part held x) c.in-Recv.is c.requires.fits in
    record {
      done = ok_later c.receive_into.result c.receive_into.ensures.done
          (λ unit done. done_for c.in-Recv.is r now c.args.hand (receive_ends r c.args.hand c.requires.below c.in-Recv.from c.in-Recv.head peer fits c.receive_of-op.result c.receive_of-op.ensures.gives now
          (λ before at. done part before refl at)));
      leaves = err_later c.receive_into.result c.receive_into.ensures.leaves
          (λ stop leaves. left_for c.in-Recv.is r now c.args.hand stop (receive_leaves r c.args.hand c.requires.below c.in-Recv.from c.in-Recv.head peer fits c.receive_of-op.result c.receive_of-op.ensures.gives now stop
          (λ before at. leaves part before refl at)));
      none = c.receive_into.ensures.none;
      why = err_later c.receive_into.result c.receive_into.ensures.why
          (λ stop why. why_for c.in-Recv.is r now c.args.hand stop (receive_why r c.args.hand c.requires.below c.in-Recv.from c.in-Recv.head peer fits c.receive_of-op.result c.receive_of-op.ensures.gives now stop (why part)
          c.requires.open.0 (subst (λ (x : Step). StandsInStep c.requires.open.0 r (Some x) c.args.hand) c.in-Recv.is c.requires.open.1)));
      only = c.receive_into.ensures.only;
      seat = c.receive_into.ensures.seat;
      same = c.receive_into.ensures.same;
    }

pub fold-requires : goal.fold-requires
fold-requires g c =
    let part = part_by c.args.root c.args.folding c.args.input.now in
    let held = held_in c.args.output.now c.args.work.now in
    record { fits = subst (λ (x : Step). StepFits part held x) c.in-Fold.is c.requires.fits }

pub returns-in-Fold-clause-done : goal.returns-in-Fold-clause-done
returns-in-Fold-clause-done g c =
    let s = g.P.Port.sight c.args.port.now in
    let part = part_by c.args.root c.args.folding c.args.input.now in
    let held = held_in c.args.output.now c.args.work.now in
    let later = held_in c.fold.new.output c.args.work.now in
    let r = in_step s c.args.self.now part held in
    done_for c.in-Fold.is r (in_step s c.args.self.now part later) c.args.hand
    (alone_for r c.args.hand _ later refl (λ before same. (
      (λ i. record held { output = c.fold.ensures.folds i })
          ∙ ap (λ (h : Held). record h { output = folded_output c.args.folding h.output h.work }) same,
      refl,
    )))

pub returns-in-Fold-clause-only : goal.returns-in-Fold-clause-only
returns-in-Fold-clause-only g c = only_none (g.P.Port.sight c.args.port.now)

pub returns-in-Accept-clause-done : goal.returns-in-Accept-clause-done
returns-in-Accept-clause-done g c =
    let s = g.P.Port.sight c.args.port.now in
    let part = part_by c.args.root c.args.folding c.args.input.now in
    let held = held_in c.args.output.now c.args.work.now in
    let r = in_step s c.args.self.now part held in
    done_for c.in-Accept.is r r c.args.hand (alone_for r c.args.hand _ held refl (λ before same. (same, refl)))

pub returns-in-Accept-clause-only : goal.returns-in-Accept-clause-only
returns-in-Accept-clause-only g c = only_none (g.P.Port.sight c.args.port.now)

pub returns-in-Finish-clause-done : goal.returns-in-Finish-clause-done
returns-in-Finish-clause-done g c =
    let s = g.P.Port.sight c.args.port.now in
    let part = part_by c.args.root c.args.folding c.args.input.now in
    let held = held_in c.args.output.now c.args.work.now in
    let r = in_step s c.args.self.now part held in
    done_for c.in-Finish.is r r c.args.hand (alone_for r c.args.hand _ held refl (λ before same. (same, refl)))

pub returns-in-Finish-clause-only : goal.returns-in-Finish-clause-only
returns-in-Finish-clause-only g c = only_none (g.P.Port.sight c.args.port.now)
