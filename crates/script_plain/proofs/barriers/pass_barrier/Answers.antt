use Rattle.std.proofs.Common.{◌≡◌, ◌∙◌, ◌<◌, ℕ, Bool, true, arith, ap, length, refl, set, sym}
use Rattle.std.proofs.lemmas.Option.{slice_get_read}
use Rattle.scc_base.specs.Groups.{is_with}
use Rattle.scc_base.specs.Setups.{setup_key}
use Rattle.script_machine.specs.Local.{Local, local_next}
use Rattle.script_machine.specs.Next.{is_at_barrier, past_barrier}
use Rattle.script_plain.proofs.CodeSteps.GroupLaws.{past_end, past_skips, past_start, past_takes, past_unchanged}
use Rattle.plain_meaning.proofs.Runs.RunLaws.{stands_there}
use Rattle.script_plain.proofs.barriers.pass_barrier.Goals as goal
use Rattle.script_plain.proofs.barriers.pass_barrier.Goals.{then-is_with, else-is_with}

pub loop-number-init : goal.loop-number-init
loop-number-init c = past_start local_next (is_with (setup_key c.args.setup.now c.args.comm) c.args.rank) c.args.ues.now

pub pass-requires : goal.pass-requires
pass-requires c =
    let old = c.args.ues.now in
    let ues = c.loop-number.ues in
    let group : ℕ → Bool = is_with (setup_key c.args.setup.now c.args.comm) c.args.rank in
    let within : c.loop-number.number < length ues = omega (arith, c.loop-number.auto.ues, c.loop-number-test.true, c.loop-number.auto.number-end, c.nue-number-end.ensures.gives, c.requires.ranks) in
    let read = slice_get_read ues (length ues) c.loop-number.number c.index-ues-number.result refl within c.index-ues-number.is in
    let was = past_unchanged local_next group old ues c.loop-number.number c.index-ues-number.result c.loop-number.invariant read in
    let member : group c.loop-number.number ≡ true = ap group (sym c.of.ensures.gives) ∙ sym c.is_with.ensures ∙ c.if-is_with.true in
    ap (λ (u : Local). is_at_barrier c.args.comm (local_next u)) (sym c.index-ues-number.is)
    ∙ stands_there local_next c.args.comm group old c.loop-number.number c.index-ues-number.result c.requires.at_barrier member was

pub loop-number-preserved : goal.loop-number-preserved
loop-number-preserved c =
    let old = c.args.ues.now in
    let group : ℕ → Bool = is_with (setup_key c.args.setup.now c.args.comm) c.args.rank in
    elim c.if-is_with.branch [
      | then-is_with w ↦
          let ues = c.loop-number.ues in
          let within : c.loop-number.number < length ues = omega (arith, c.loop-number.auto.ues, c.loop-number-test.true, c.loop-number.auto.number-end, c.nue-number-end.ensures.gives, c.requires.ranks) in
          let read = slice_get_read ues (length ues) c.loop-number.number w.index-ues-number.result refl within w.index-ues-number.is in
          let was = past_unchanged local_next group old ues c.loop-number.number w.index-ues-number.result c.loop-number.invariant read in
          let member : group c.loop-number.number ≡ true = ap group (sym c.of.ensures.gives) ∙ sym c.is_with.ensures ∙ w.if-is_with.true in
          w.ues-is
          ∙ ap (set ues c.loop-number.number) (w.pass.ensures ∙ ap (λ (u : Local). past_barrier (local_next u) u) (sym w.index-ues-number.is))
          ∙ past_takes local_next group old ues c.loop-number.number w.index-ues-number.result c.loop-number.invariant member was
      | else-is_with w ↦
          w.ues-is ∙ c.loop-number.invariant
          ∙ past_skips local_next group old c.loop-number.number (ap group (sym c.of.ensures.gives) ∙ sym c.is_with.ensures ∙ w.if-is_with.false)
    ]

pub returns : goal.returns
returns c =
    c.loop-number.invariant
    ∙ past_end local_next (is_with (setup_key c.args.setup.now c.args.comm) c.args.rank) c.args.ues.now c.loop-number.number
    (omega (arith, c.requires.ranks, c.loop-number-test.false, c.loop-number.auto.number-end, c.nue-number-end.ensures.gives))
