use Rattle.std.proofs.Common.{ℕ, true, sym, ◌∙◌, ap, subst}
use Rattle.scc_proto.specs.Stages.{Record}
use Rattle.scc_proto.specs.Ports.{record_in}
use Rattle.scc_proto.proofs.PortLaws.{did_both}
use Rattle.put_get.proofs.StepLemmas.{steps_one, steps_both}
use Rattle.tas_lock.specs.Holds.{IsHolding, after_try}
use Rattle.sync_flags.proofs.WriteLemmas.{may_under, held_here, takes_seat, bit_written, still_free, freed_at}
use Rattle.sync_flags.proofs.writes.write_bit.Goals as goal

pub change_bit-requires-clause-permitted : goal.change_bit-requires-clause-permitted
change_bit-requires-clause-permitted g c =
    may_under (g.P.Port.sight c.args.port.now) (g.P.Port.sight c.acquire_within.new.port) c.args.place c.args.bit c.args.set
    (takes_seat (g.P.Port.sight c.args.port.now) (g.P.Port.sight c.acquire_within.new.port) c.core-register.result c.args.polls c.in-Some.held c.in-Some.ensures.takes)
    (c.in-Some.ensures.holds ∙ ap (λ (k : ℕ). after_try k true (record_in (g.P.Port.sight c.args.port.now))) c.core-register.ensures.gives)
    c.requires.permitted

pub returns-in-Some-clause-writes : goal.returns-in-Some-clause-writes
returns-in-Some-clause-writes g c =
    bit_written c.change_bit.ensures.changes c.args.polls c.core-register.result c.in-Some.held c.core-register.ensures.gives c.in-Some.ensures.takes c.release.ensures.frees

pub returns-in-Some-clause-freed : goal.returns-in-Some-clause-freed
returns-in-Some-clause-freed g c = freed_at (record_in (g.P.Port.sight c.release.new.port)) c.args.place.core c.core-register.result c.in-Some.held c.in-Some.ensures.takes.0 c.core-register.ensures.gives c.release.ensures.freed

pub returns-in-None-clause-freed : goal.returns-in-None-clause-freed
returns-in-None-clause-freed g c = still_free (record_in (g.P.Port.sight c.args.port.now)) (record_in (g.P.Port.sight c.acquire_within.new.port)) c.args.place.core c.core-register.result c.in-None.ensures.holds c.requires.permitted.0

pub release-requires : goal.release-requires
release-requires g c = record {
  held = c.change_bit.ensures.holds c.in-Some.held (subst (λ (rec : Record). IsHolding rec c.in-Some.held) (sym c.in-Some.ensures.holds)
      (held_here (record_in (g.P.Port.sight c.args.port.now)) c.core-register.result c.in-Some.held c.in-Some.ensures.takes.0));
}

pub returns-in-Some-clause-steps : goal.returns-in-Some-clause-steps
returns-in-Some-clause-steps g c =
    let start = g.P.Port.sight c.args.port.now in
    let taken = g.P.Port.sight c.acquire_within.new.port in
    let changed = g.P.Port.sight c.change_bit.new.port in
    let end = g.P.Port.sight c.release.new.port in
    let takes = c.in-Some.ensures.takes.1.2 in
    steps_both g.P.Port.stepped start changed end _ _ (did_both start _ taken _ changed takes c.change_bit.ensures.changes.did) c.release.ensures.frees
    (steps_both g.P.Port.stepped start taken changed _ _ takes c.change_bit.ensures.changes.did c.in-Some.ensures.steps c.change_bit.ensures.steps)
    (steps_one g.P.Port.stepped changed end _ c.release.ensures.frees c.release.ensures.step)
