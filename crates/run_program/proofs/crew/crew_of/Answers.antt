use Rattle.std.proofs.Common.{◌≡◌, ◌∙◌, ℕ, List, length, ap, arith, refl, subst, sym}
use Rattle.line_cache.specs.Choices.{choice_answer}
use Rattle.line_cache.specs.Eviction.{answers_of}
use Rattle.rcce_ue.specs.Ues.{UeView}
use Rattle.rcce_run.specs.UeRuns.{AreFresh}
use Rattle.chip_run.specs.declared.members.Member.{Member}
use Rattle.rcce_run.proofs.FreshCrews.{fresh_more}
use Rattle.run_program.specs.Evictors.{HaveEvictors, evictor_of}
use Rattle.run_program.proofs.EvictorLemmas.{evictors_more, evictors_none}
use Rattle.run_program.proofs.crew.crew_of.Goals as goal

pub loop-number-init : goal.loop-number-init
loop-number-init c = (
  subst (λ (x : List (Member UeView)). AreFresh c.args.scripts.now c.args.setup.now 0 x) (sym c.in_ok-crew.ensures.items)
      (record { count = refl; each = λ rank d below. absurd (omega (arith, below)) }),
  subst (λ (x : List (Member UeView)). HaveEvictors c.args.evict x) (sym c.in_ok-crew.ensures.items) (evictors_none c.args.evict),
)

pub loop-number-preserved : goal.loop-number-preserved
loop-number-preserved c =
    let fresh = c.loop-number.invariant.0 in
    let given : c.in_ok-ue.ue.core.answers ≡ answers_of (choice_answer (evictor_of c.args.evict (length c.loop-number.crew.items))) =
    c.in_ok-ue.ensures.evictor ∙ ap (λ e. answers_of (choice_answer e)) c.evictor.ensures ∙ ap (λ (n : ℕ). answers_of (choice_answer (evictor_of c.args.evict n))) (sym fresh.count) in (
      fresh_more c.args.scripts.now c.args.setup.now c.copy.result c.loop-number.number c.of.result c.loop-number.crew.items _ c.in_ok-ue.ue c.new-in-loop-number.result fresh
          c.copy.ensures.gives c.of.ensures.gives (record { machine = c.in_ok-ue.ensures.machine; tied = c.in_ok-ue.ensures.tied })
          c.new-in-loop-number.ensures.worker c.new-in-loop-number.ensures.empty c.in_ok-push.ensures.items,
      evictors_more c.args.evict c.loop-number.crew.items _ c.new-in-loop-number.result c.loop-number.invariant.1
          (ap (λ (u : UeView). u.core.answers) c.new-in-loop-number.ensures.worker ∙ given) c.in_ok-push.ensures.items,
    )

pub returns-clause-fresh : goal.returns-clause-fresh
returns-clause-fresh c =
    let all : c.loop-number.number ≡ c.args.setup.now.nue = omega (arith, c.loop-number-test.false, c.loop-number.auto.number-end, c.nue-number-end.ensures.gives) in
    subst (λ (n : ℕ). AreFresh c.args.scripts.now c.args.setup.now n c.loop-number.crew.items) all c.loop-number.invariant.0

pub returns-clause-evictors : goal.returns-clause-evictors
returns-clause-evictors c = c.loop-number.invariant.1
