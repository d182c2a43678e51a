-- A bench before the first step.
use Rattle.std.proofs.Common.{◌≡◌, ℕ, List, [], ◌∷◌, ◌++◌, ◌+◌, map, replicate, Option, None, is_some, refl, sym, ◌∙◌, ap, subst}
use Rattle.std.proofs.lemmas.List.{get_or-replicate, length-replicate, map-append, replicate-append-replicate}
use Rattle.scc_base.specs.Setups.{SetupView}
use Rattle.scc_proto.specs.Stages.{Record}
use Rattle.scc_proto.specs.Words.{Memory, zeros}
use Rattle.scc_proto.proofs.PortLaws.{record_of-nil}
use Rattle.put_get.specs.Cores.{Private}
use Rattle.put_get.specs.HeapStores.{AwaitsHeap}
use Rattle.chip_memory.specs.Chips.{TurnChipView, new_chip}
use Rattle.lab_plain.specs.Meaning as meaning
use Rattle.lab_plain.specs.Meaning.{Stand, core_at, holder_of, holds_nothing, is_holder, lab_start}
use Rattle.lab_run.specs.Turns.{IsLabSetup, memory_in}
use Rattle.lab_run.specs.Stands.{IsBench, held_word, holds_of, stand_of}

memory_new : (s : SetupView) → memory_in (new_chip s 0) ≡ zeros
unfolding memory_in
memory_new s = refl

abbrev nobody : Option ℕ
nobody = None

new_stands : (s : SetupView) → IsLabSetup s → IsBench (new_chip s 0) (replicate 48 holds_nothing) (replicate 48 None)
new_stands s lab = record {
  setup = lab;
  ranks = length-replicate 48 holds_nothing;
  places = length-replicate 48 nobody;
  idle = λ r below. ap (λ (x : Record). x.stage) (record_of-nil s r);
  awaits = λ r below. subst (λ (h : meaning.CoreHolds). AwaitsHeap s h.out) (sym (get_or-replicate 48 r holds_nothing holds_nothing below)) tt;
  held = λ r k low below. ap (λ (x : Record). is_some (x.held k)) (record_of-nil s r) ∙ sym (ap (is_holder r) (get_or-replicate 48 k nobody nobody below));
  registers = λ k below. ap (λ (m : Memory). m.register k) (memory_new s) ∙ sym (ap held_word (get_or-replicate 48 k nobody nobody below));
}

pub new_bench : (s : SetupView) (chip : TurnChipView) (cores : List Private) (holders : List (Option ℕ)) → IsLabSetup s → chip ≡ new_chip s 0 → map holds_of cores ≡ replicate 48 holds_nothing
    → holders ≡ replicate 48 None → IsBench chip (map holds_of cores) holders
new_bench s chip cores holders lab is nothing none =
    subst (λ (c : TurnChipView). IsBench c (map holds_of cores) holders) (sym is)
    (subst (λ (l : List meaning.CoreHolds). IsBench (new_chip s 0) l holders) (sym nothing)
    (subst (λ (h : List (Option ℕ)). IsBench (new_chip s 0) (replicate 48 holds_nothing) h) (sym none) (new_stands s lab)))

pub new_stand : (s : SetupView) (chip : TurnChipView) (cores : List Private) (holders : List (Option ℕ)) → chip ≡ new_chip s 0 → map holds_of cores ≡ replicate 48 holds_nothing
    → holders ≡ replicate 48 None → stand_of chip cores holders [] ≡ lab_start
unfolding lab_start
new_stand s chip cores holders is nothing none =
    λ i. record { memory = (ap memory_in is ∙ memory_new s) i; cores = nothing i; holders = none i; said = [] }

-- one core more that holds nothing
pub one_more : (n : ℕ) (cores : List Private) (core : Private) → map holds_of cores ≡ replicate n holds_nothing → holds_of core ≡ holds_nothing
    → map holds_of (cores ++ core ∷ []) ≡ replicate (n + 1) holds_nothing
one_more n cores core same is = map-append holds_of cores (core ∷ []) ∙ (λ i. same i ++ is i ∷ []) ∙ replicate-append-replicate n 1 holds_nothing
