-- A crew whose cores have their evictors, which grows by one member after the other.
use Rattle.std.proofs.Common.{◌≡◌, ℕ, List, [], ◌∷◌, ◌++◌, Option, length, refl, sym, subst, arith}
use Rattle.std.proofs.lemmas.List.{length_push}
use Rattle.line_cache.specs.Choices.{choice_answer}
use Rattle.line_cache.specs.Eviction.{answers_of}
use Rattle.rcce_ue.specs.Ues.{UeView}
use Rattle.chip_run.specs.declared.members.Member.{Member}
use Rattle.chip_run.proofs.CrewGrowth.{each_more}
use Rattle.run_program.specs.Evictors.{HaveEvictors, evictor_of}

pub evictors_none : (seed : Option ℕ) → HaveEvictors seed []
evictors_none seed = record { each = λ rank d below. absurd (omega (arith, below)) }

pub evictors_more : (seed : Option ℕ) (crew later : List (Member UeView)) (member : Member UeView) → HaveEvictors seed crew
    → member.worker.core.answers ≡ answers_of (choice_answer (evictor_of seed (length crew))) → later ≡ crew ++ member ∷ [] → HaveEvictors seed later
evictors_more seed crew later member have last is =
    subst (λ (x : List (Member UeView)). HaveEvictors seed x) (sym is)
    (record {
      each = λ rank d below.
          each_more (λ rank m. m.worker.core.answers ≡ answers_of (choice_answer (evictor_of seed rank))) (length crew) crew member refl have.each last rank d
          (omega (arith, below, length_push crew member));
    })
