use Rattle.std.proofs.Common.{◌↔◌, ℕ, Option, IsErr, sym, ◌∙◌, ap, subst}
use Rattle.scc_base.specs.Places.{flag_word, WordAt}
use Rattle.scc_base.specs.Setups.{SetupView, host_of}
use Rattle.scc_proto.specs.Ports.{record_in}
use Rattle.tas_lock.specs.Holds.{IsNotHolding}
use Rattle.sync_flags.specs.Flags.{flag_of}
use Rattle.sync_flags.specs.Tries.{AtRegister, TryFailed}
use Rattle.sync_flags.specs.Writes.{WritesFlag}
use Rattle.sync_flags.proofs.WaitLemmas.{no_stall}
use Rattle.sync_flags.proofs.WriteLemmas.{word_no_stall, bit_stalls, no_bit, each_bit}
use Rattle.sync_flags.proofs.writes.flag_write.Goals as goal

pub returns-in-None-clause-stalls : goal.returns-in-None-clause-stalls
returns-in-None-clause-stalls g c = λ events did.
    no_stall tt (AtRegister (flag_of (g.P.Port.sight c.args.port.now).seat.setup c.args.at c.args.f).core) c.args.polls events c.requires.some
    (word_no_stall c.store_word.ensures.stores (flag_of (g.P.Port.sight c.args.port.now).seat.setup c.args.at c.args.f).core events did)

pub returns-in-None-clause-freed : goal.returns-in-None-clause-freed
returns-in-None-clause-freed g c = no_bit _ c.args.f.bit (sym c.bit_number.ensures.gives ∙ c.in-None.is)

pub returns-in-Some-clause-freed : goal.returns-in-Some-clause-freed
returns-in-Some-clause-freed g c = each_bit _ c.args.f.bit
    (subst (λ (p : WordAt). IsNotHolding (record_in (g.P.Port.sight c.write_bit.new.port)) p.core)
    (c.place-place.ensures.gives ∙ ap (λ (k : ℕ). flag_word k c.args.f) (c.core_of.ensures.gives ∙ ap (λ (s : SetupView). host_of s.hosts c.args.at) c.setup.ensures.gives))
    c.write_bit.ensures.freed)

pub returns-in-Some-clause-stalls : goal.returns-in-Some-clause-stalls
returns-in-Some-clause-stalls g c = λ events did.
    subst (λ (p : WordAt). IsErr c.write_bit.result ↔ TryFailed (AtRegister p.core) c.args.polls events)
    (c.place-place.ensures.gives ∙ ap (λ (k : ℕ). flag_word k c.args.f) (c.core_of.ensures.gives ∙ ap (λ (s : SetupView). host_of s.hosts c.args.at) c.setup.ensures.gives))
    (bit_stalls _ _ _ _ c.place-place.result c.in-Some.bit c.args.set c.args.polls c.write_bit.result c.write_bit.ensures.writes c.requires.some events did)

pub returns-in-Some-clause-writes : goal.returns-in-Some-clause-writes
returns-in-Some-clause-writes g c =
    let start = g.P.Port.sight c.args.port.now in
    let end = g.P.Port.sight c.write_bit.new.port in
    subst (λ (p : WordAt). WritesFlag start c.args.core.now p c.args.f.bit c.args.set c.args.polls end c.write_bit.new.core c.write_bit.result)
    (c.place-place.ensures.gives ∙ ap (λ (k : ℕ). flag_word k c.args.f) (c.core_of.ensures.gives ∙ ap (λ (s : SetupView). host_of s.hosts c.args.at) c.setup.ensures.gives))
    (subst (λ (o : Option ℕ). WritesFlag start c.args.core.now c.place-place.result o c.args.set c.args.polls end c.write_bit.new.core c.write_bit.result) (sym c.in-Some.is ∙ c.bit_number.ensures.gives)
    c.write_bit.ensures.writes)
