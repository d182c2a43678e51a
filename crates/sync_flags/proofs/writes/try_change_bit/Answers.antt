use Rattle.std.proofs.Common.{ℕ, false, true, ◌∷◌, [], sym, ◌∙◌, ap, subst}
use Rattle.scc_base.specs.Events.{take_of}
use Rattle.scc_proto.specs.Stages.{Record}
use Rattle.scc_proto.specs.Ports.{record_in}
use Rattle.scc_proto.proofs.PortLaws.{did_both, seat_kept}
use Rattle.put_get.proofs.StepLemmas.{steps_one, steps_both}
use Rattle.tas_lock.specs.Holds.{IsHolding, IsNotHolding, after_try}
use Rattle.sync_flags.proofs.WriteLemmas.{may_under, held_here, bit_missed, bit_tried, still_free, freed_at}
use Rattle.sync_flags.proofs.writes.try_change_bit.Goals as goal

pub try_acquire-requires : goal.try_acquire-requires
try_acquire-requires g c = record {
  not_held = subst (λ (k : ℕ). IsNotHolding (record_in (g.P.Port.sight c.args.port.now)) k) (sym c.core-at.ensures.gives) c.requires.permitted.0;
}

pub release-requires : goal.release-requires
release-requires g c = record {
  held = c.change_bit.ensures.holds c.in-Some.held (subst (λ (rec : Record). IsHolding rec c.in-Some.held) (sym c.in-Some.ensures.holds)
      (held_here (record_in (g.P.Port.sight c.args.port.now)) c.core-at.result c.in-Some.held c.in-Some.ensures.names));
}

pub change_bit-requires-clause-permitted : goal.change_bit-requires-clause-permitted
change_bit-requires-clause-permitted g c =
    may_under (g.P.Port.sight c.args.port.now) (g.P.Port.sight c.try_acquire.new.port) c.args.place c.args.bit c.args.set
    (seat_kept (g.P.Port.sight c.args.port.now) (take_of c.core-at.result true ∷ []) (g.P.Port.sight c.try_acquire.new.port) c.in-Some.ensures.takes)
    (c.in-Some.ensures.holds ∙ ap (λ (k : ℕ). after_try k true (record_in (g.P.Port.sight c.args.port.now))) c.core-at.ensures.gives)
    c.requires.permitted

pub returns-in-Some-clause-tries : goal.returns-in-Some-clause-tries
returns-in-Some-clause-tries g c =
    bit_tried c.change_bit.ensures.changes c.core-at.result c.in-Some.held c.core-at.ensures.gives c.in-Some.ensures.takes c.in-Some.ensures.names c.release.ensures.frees

pub returns-in-None-clause-tries : goal.returns-in-None-clause-tries
returns-in-None-clause-tries g c = bit_missed c.core-at.result c.core-at.ensures.gives c.in-None.ensures.takes

pub returns-in-Some-clause-freed : goal.returns-in-Some-clause-freed
returns-in-Some-clause-freed g c = freed_at (record_in (g.P.Port.sight c.release.new.port)) c.args.place.core c.core-at.result c.in-Some.held c.in-Some.ensures.names c.core-at.ensures.gives c.release.ensures.freed

pub returns-in-None-clause-freed : goal.returns-in-None-clause-freed
returns-in-None-clause-freed g c = still_free (record_in (g.P.Port.sight c.args.port.now)) (record_in (g.P.Port.sight c.try_acquire.new.port)) c.args.place.core c.core-at.result c.in-None.ensures.holds c.requires.permitted.0

pub returns-in-None-clause-steps : goal.returns-in-None-clause-steps
returns-in-None-clause-steps g c = steps_one g.P.Port.stepped (g.P.Port.sight c.args.port.now) (g.P.Port.sight c.try_acquire.new.port)
    (take_of c.core-at.result false) c.in-None.ensures.takes c.in-None.ensures.step

pub returns-in-Some-clause-steps : goal.returns-in-Some-clause-steps
returns-in-Some-clause-steps g c =
    let start = g.P.Port.sight c.args.port.now in
    let taken = g.P.Port.sight c.try_acquire.new.port in
    let changed = g.P.Port.sight c.change_bit.new.port in
    let end = g.P.Port.sight c.release.new.port in
    steps_both g.P.Port.stepped start changed end _ _ (did_both start _ taken _ changed c.in-Some.ensures.takes c.change_bit.ensures.changes.did) c.release.ensures.frees
    (steps_both g.P.Port.stepped start taken changed _ _ c.in-Some.ensures.takes c.change_bit.ensures.changes.did
    (steps_one g.P.Port.stepped start taken _ c.in-Some.ensures.takes c.in-Some.ensures.step) c.change_bit.ensures.steps)
    (steps_one g.P.Port.stepped changed end _ c.release.ensures.frees c.release.ensures.step)
