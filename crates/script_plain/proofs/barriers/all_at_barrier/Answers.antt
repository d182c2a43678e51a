use Rattle.std.proofs.Common.{◌≡◌, ◌∙◌, ◌<◌, ℕ, Bool, arith, ap, length, refl, sym}
use Rattle.std.proofs.lemmas.Option.{same_Some, slice_get_read}
use Rattle.scc_base.specs.Groups.{is_with}
use Rattle.scc_base.specs.Setups.{setup_key}
use Rattle.script_machine.specs.Local.{Local, local_next}
use Rattle.script_machine.specs.Next.{is_at_barrier}
use Rattle.script_plain.proofs.CodeSteps.GroupLaws.{all_stand, none_at_barrier, one_more_stands}
use Rattle.script_plain.proofs.barriers.all_at_barrier.Goals as goal
use Rattle.script_plain.proofs.barriers.all_at_barrier.Goals.{else-is_with-via-then-is_with+else-not-is_at_barrier, else-is_with-via-else-is_with}

pub returns-then-not-is_at_barrier : goal.returns-then-not-is_at_barrier
returns-then-not-is_at_barrier c =
    let ues = c.args.ues.now in
    let group : ℕ → Bool = is_with (setup_key c.args.setup.now c.args.comm) c.args.rank in
    let within : c.loop-number.number < length ues = omega (arith, c.loop-number-test.true, c.loop-number.auto.number-end, c.nue-number-end.ensures.gives, c.requires.ranks) in
    none_at_barrier local_next c.args.comm group ues c.loop-number.number c.index-ues-number.result
    (ap group (sym c.of.ensures.gives) ∙ sym c.is_with.ensures ∙ c.if-is_with.true)
    (slice_get_read ues (length ues) c.loop-number.number c.index-ues-number.result refl within c.index-ues-number.is)
    (sym c.is_at_barrier.ensures ∙ c.if-not-is_at_barrier.true)

pub loop-number-preserved : goal.loop-number-preserved
loop-number-preserved c =
    let ues = c.args.ues.now in
    let group : ℕ → Bool = is_with (setup_key c.args.setup.now c.args.comm) c.args.rank in
    let within : c.loop-number.number < length ues = omega (arith, c.loop-number-test.true, c.loop-number.auto.number-end, c.nue-number-end.ensures.gives, c.requires.ranks) in
    one_more_stands local_next c.args.comm group ues c.loop-number.number c.loop-number.invariant
    (λ u member here. elim c.else-is_with.branch [
      | else-is_with-via-then-is_with+else-not-is_at_barrier w ↦
          let read = slice_get_read ues (length ues) c.loop-number.number w.index-ues-number.result refl within w.index-ues-number.is in
          let same : u ≡ w.index-ues-number.result = same_Some u w.index-ues-number.result (sym here ∙ read) in
          ap (λ (v : Local). is_at_barrier c.args.comm (local_next v)) same ∙ sym w.is_at_barrier.ensures ∙ w.if-not-is_at_barrier.false
      | else-is_with-via-else-is_with w ↦
          absurd (let no = sym (ap group (sym c.of.ensures.gives) ∙ sym c.is_with.ensures ∙ w.if-is_with.false) ∙ member in cc)
    ])

pub returns : goal.returns
returns c =
    all_stand local_next c.args.comm (is_with (setup_key c.args.setup.now c.args.comm) c.args.rank) c.args.ues.now c.loop-number.number c.loop-number.invariant
    (omega (arith, c.requires.ranks, c.loop-number-test.false, c.loop-number.auto.number-end, c.nue-number-end.ensures.gives))
