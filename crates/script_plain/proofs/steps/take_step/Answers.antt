use Rattle.std.proofs.Common.{◌≡◌, ◌∙◌, ◌<◌, ℕ, Some, ap, arith, length, refl, set, subst, sym}
use Rattle.std.proofs.lemmas.Option.{slice_get_read}
use Rattle.scc_base.specs.Setups.{setup_key}
use Rattle.script_plain.specs.Code.{HasRefused, IsAtReceive, config, decision}
use Rattle.script_machine.specs.Local.{Local, local_next}
use Rattle.script_machine.specs.Next.{is_going}
use Rattle.script_machine.specs.Next.Next.{Goes}
use Rattle.plain_meaning.specs.Step.{step_of}
use Rattle.script_plain.proofs.CodeSteps.StandLaws.{goes_step, going_stands, group_stands, passes_step, refusal_stands, refuses_step}
use Rattle.script_plain.proofs.steps.take_step.Goals as goal

pub go-requires : goal.go-requires
go-requires c =
    let keys = setup_key c.args.setup.now in
    let ues = c.args.ues.now in
    let slots = c.args.slots.now in
    let k = c.number-i.result in
    let is = ap (decision keys ues slots) c.number-i.ensures.gives ∙ sym c.requires.step ∙ c.in-Goes.is in
    let within : k < length ues = omega (arith, c.requires.rank, c.requires.run.ranks, c.number-i.ensures.gives) in
    let here = slice_get_read ues (length ues) k c.index-ues-i.result refl within c.index-ues-i.is in
    ap (λ (u : Local). is_going (local_next u)) (sym c.index-ues-i.is) ∙ going_stands keys ues slots k c.index-ues-i.result is here

pub returns-in-Goes : goal.returns-in-Goes
returns-in-Goes c =
    let keys = setup_key c.args.setup.now in
    let ues = c.args.ues.now in
    let slots = c.args.slots.now in
    let k = c.number-i.result in
    let within : k < length ues = omega (arith, c.requires.rank, c.requires.run.ranks, c.number-i.ensures.gives) in
    let here = slice_get_read ues (length ues) k c.index-ues-i.result refl within c.index-ues-i.is in
    let stands : local_next c.index-ues-i.result ≡ Goes c.go.new.self = ap local_next c.index-ues-i.is ∙ c.go.ensures in
    subst (λ (r : ℕ). step_of keys local_next (config ues slots) r ≡ Some (config (set ues k c.go.new.self) slots)) c.number-i.ensures.gives
    (goes_step keys ues slots k c.index-ues-i.result c.go.new.self here stands)

pub leave-requires-clause-step : goal.leave-requires-clause-step
leave-requires-clause-step c = ap (decision (setup_key c.args.setup.now) c.args.ues.now c.args.slots.now) c.number-i.ensures.gives ∙ sym c.requires.step ∙ c.in-Posts.is

pub refuse-requires : goal.refuse-requires
refuse-requires c =
    let keys = setup_key c.args.setup.now in
    let ues = c.args.ues.now in
    let slots = c.args.slots.now in
    let k = c.number-i.result in
    let is = ap (decision keys ues slots) c.number-i.ensures.gives ∙ sym c.requires.step ∙ c.in-Mismatches.is in
    let within : k < length ues = omega (arith, c.requires.rank, c.requires.run.ranks, c.number-i.ensures.gives) in
    let here = slice_get_read ues (length ues) k c.index-ues-i-in-Mismatches.result refl within c.index-ues-i-in-Mismatches.is in
    subst (λ (u : Local). IsAtReceive (local_next u)) c.index-ues-i-in-Mismatches.is (refusal_stands keys ues slots k c.in-Mismatches.sent c.index-ues-i-in-Mismatches.result is here)

pub returns-in-Mismatches : goal.returns-in-Mismatches
returns-in-Mismatches c =
    let keys = setup_key c.args.setup.now in
    let ues = c.args.ues.now in
    let slots = c.args.slots.now in
    let k = c.number-i.result in
    let is = ap (decision keys ues slots) c.number-i.ensures.gives ∙ sym c.requires.step ∙ c.in-Mismatches.is in
    let within : k < length ues = omega (arith, c.requires.rank, c.requires.run.ranks, c.number-i.ensures.gives) in
    let here = slice_get_read ues (length ues) k c.index-ues-i-in-Mismatches.result refl within c.index-ues-i-in-Mismatches.is in
    let has = subst (λ (u : Local). HasRefused (local_next u) c.in-Mismatches.sent c.refuse.new.self) (sym c.index-ues-i-in-Mismatches.is) c.refuse.ensures in
    subst (λ (r : ℕ). step_of keys local_next (config ues slots) r ≡ Some (config (set ues k c.refuse.new.self) slots)) c.number-i.ensures.gives
    (refuses_step keys ues slots k c.in-Mismatches.sent c.index-ues-i-in-Mismatches.result c.refuse.new.self is here has)

pub returns-in-Passes : goal.returns-in-Passes
returns-in-Passes c =
    passes_step (setup_key c.args.setup.now) c.args.ues.now c.args.slots.now c.args.rank c.in-Passes.comm c.pass_barrier.new.ues (sym c.requires.step ∙ c.in-Passes.is) c.pass_barrier.ensures

pub pass_barrier-requires-clause-at_barrier : goal.pass_barrier-requires-clause-at_barrier
pass_barrier-requires-clause-at_barrier c =
    group_stands (setup_key c.args.setup.now) c.args.ues.now c.args.slots.now c.args.rank c.in-Passes.comm (sym c.requires.step ∙ c.in-Passes.is)
