use Rattle.std.proofs.Common.{length, Some, subst}
use Rattle.groups.specs.declared.collectives.Coll.TheVariants.{Reduce}
use Rattle.station.specs.Groups.{HasRunGroup, held_in, in_group_call, start_at}
use Rattle.station.specs.declared.steps.GroupOp.{GroupOp}
use Rattle.station.proofs.BeginLemmas.{begins_as}
use Rattle.station.proofs.ReduceLemmas.{reduced_at}
use Rattle.station.proofs.ArmLemmas.{err_later, ok_later}
use Rattle.station.proofs.stations.Station.reduce.Goals as goal

pub run_steps-requires : goal.run_steps-requires
run_steps-requires g c =
    let s = g.P.Port.sight c.args.port.now in
    let held = held_in c.args.output.now c.args.work.now in
    record { «open» = (start_at s held, begins_as s c.args.self.now (Reduce c.args.comm c.args.root (length c.args.input.now)) (Some c.args.folding) c.args.input.now held _ c.begun.ensures.starts c.requires.free c.requires.callable c.requires.fits) }

pub returns-clause-free : goal.returns-clause-free
returns-clause-free g c =
    let s = g.P.Port.sight c.args.port.now in
    let held = held_in c.args.output.now c.args.work.now in
    let is = begins_as s c.args.self.now (Reduce c.args.comm c.args.root (length c.args.input.now)) (Some c.args.folding) c.args.input.now held _ c.begun.ensures.starts c.requires.free c.requires.callable c.requires.fits in
    ok_later c.run_steps.result c.run_steps.ensures.ended (λ d ended. (ended (start_at s held) is).free)

pub returns-clause-reduced : goal.returns-clause-reduced
returns-clause-reduced g c =
    let s = g.P.Port.sight c.args.port.now in
    let t = g.P.Port.sight c.run_steps.new.port in
    let held = held_in c.args.output.now c.args.work.now in
    let later = held_in c.run_steps.new.output c.run_steps.new.work in
    let is = begins_as s c.args.self.now (Reduce c.args.comm c.args.root (length c.args.input.now)) (Some c.args.folding) c.args.input.now held _ c.begun.ensures.starts c.requires.free c.requires.callable c.requires.fits in
    ok_later c.run_steps.result c.run_steps.ensures.ended (λ d ended. reduced_at s t c.run_steps.new.self held later c.run_steps.ensures.seat c.args.input.now c.args.folding c.args.comm c.args.root (length c.args.input.now)
    (subst (λ (x : GroupOp). HasRunGroup (start_at s held) (in_group_call t c.run_steps.new.self x c.args.input.now later)) c.begun.ensures.starts (ended (start_at s held) is)))

pub returns-clause-open : goal.returns-clause-open
returns-clause-open g c =
    let s = g.P.Port.sight c.args.port.now in
    let held = held_in c.args.output.now c.args.work.now in
    let is = begins_as s c.args.self.now (Reduce c.args.comm c.args.root (length c.args.input.now)) (Some c.args.folding) c.args.input.now held _ c.begun.ensures.starts c.requires.free c.requires.callable c.requires.fits in
    err_later c.run_steps.result c.run_steps.ensures.open (λ stop there. there (start_at s held) is)
