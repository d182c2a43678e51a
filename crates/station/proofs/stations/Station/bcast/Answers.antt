use Rattle.std.proofs.Common.{◌≡◌, ℕ, List, [], length, None, refl, subst, arith}
use Rattle.std.proofs.lemmas.List.{nil_from_length}
use Rattle.groups.specs.declared.collectives.Coll.TheVariants.{Bcast}
use Rattle.station.specs.Groups.{HasRunGroup, IsInGroup, held_in, in_group_call, op_in, start_at}
use Rattle.station.specs.declared.steps.GroupOp.{GroupOp}
use Rattle.station.proofs.BeginLemmas.{begins_as}
use Rattle.station.proofs.ReduceLemmas.{bcast_kept, bcast_made}
use Rattle.station.proofs.ArmLemmas.{err_later, ok_later}
use Rattle.station.proofs.stations.Station.bcast.Goals as goal

pub run_steps-requires : goal.run_steps-requires
run_steps-requires g c =
    let s = g.P.Port.sight c.args.port.now in
    let held = held_in c.args.buffer.now [] in
    record { «open» = (start_at s held, begins_as s c.args.self.now (Bcast c.args.comm c.args.root (length c.args.buffer.now)) None [] held _ c.begun.ensures.starts c.requires.free c.requires.callable refl) }

pub returns-clause-free : goal.returns-clause-free
returns-clause-free g c =
    let s = g.P.Port.sight c.args.port.now in
    let held = held_in c.args.buffer.now [] in
    let is = begins_as s c.args.self.now (Bcast c.args.comm c.args.root (length c.args.buffer.now)) None [] held _ c.begun.ensures.starts c.requires.free c.requires.callable refl in
    ok_later c.run_steps.result c.run_steps.ensures.ended (λ d ended. (ended (start_at s held) is).free)

pub returns-clause-calls : goal.returns-clause-calls
returns-clause-calls g c =
    let s = g.P.Port.sight c.args.port.now in
    let t = g.P.Port.sight c.run_steps.new.port in
    let held = held_in c.args.buffer.now [] in
    let later = held_in c.run_steps.new.output c.run_steps.new.work in
    let is = begins_as s c.args.self.now (Bcast c.args.comm c.args.root (length c.args.buffer.now)) None [] held _ c.begun.ensures.starts c.requires.free c.requires.callable refl in
    ok_later c.run_steps.result c.run_steps.ensures.ended (λ d ended. bcast_made s t c.run_steps.new.self held later c.run_steps.ensures.seat c.args.comm c.args.root (length c.args.buffer.now)
    (subst (λ (x : GroupOp). HasRunGroup (start_at s held) (in_group_call t c.run_steps.new.self x [] later)) c.begun.ensures.starts (ended (start_at s held) is)))

pub returns-clause-kept : goal.returns-clause-kept
returns-clause-kept g c =
    let s = g.P.Port.sight c.args.port.now in
    let t = g.P.Port.sight c.run_steps.new.port in
    let held = held_in c.args.buffer.now [] in
    let later = held_in c.run_steps.new.output c.run_steps.new.work in
    let is = begins_as s c.args.self.now (Bcast c.args.comm c.args.root (length c.args.buffer.now)) None [] held _ c.begun.ensures.starts c.requires.free c.requires.callable refl in
    ok_later c.run_steps.result c.run_steps.ensures.ended (λ d ended. bcast_kept s t c.run_steps.new.self held later c.run_steps.ensures.seat c.args.comm c.args.root (length c.args.buffer.now)
    (subst (λ (x : GroupOp). HasRunGroup (start_at s held) (in_group_call t c.run_steps.new.self x [] later)) c.begun.ensures.starts (ended (start_at s held) is)))

pub returns-clause-open : goal.returns-clause-open
returns-clause-open g c =
    let s = g.P.Port.sight c.args.port.now in
    let t = g.P.Port.sight c.run_steps.new.port in
    let held = held_in c.args.buffer.now [] in
    let is = begins_as s c.args.self.now (Bcast c.args.comm c.args.root (length c.args.buffer.now)) None [] held _ c.begun.ensures.starts c.requires.free c.requires.callable refl in
    let none : length c.run_steps.new.work ≡ 0 = omega (arith, c.run_steps.auto.work) in
    err_later c.run_steps.result c.run_steps.ensures.open (λ stop there.
    subst (λ (x : List ℕ). IsInGroup (start_at s held) (in_group_call t c.run_steps.new.self (op_in stop) [] (held_in c.run_steps.new.output x))) (nil_from_length c.run_steps.new.work none)
    (there (start_at s held) is))
