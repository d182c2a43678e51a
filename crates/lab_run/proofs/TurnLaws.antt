-- Scenes of a core at work, one after the other.
use Rattle.std.proofs.Common.{◌≡◌, ℕ, ◌<◌, List, Result, Ok, Err, refl, sym, ◌∙◌, ap, subst, arith}
use Rattle.std.specs.Prelude.{OnOk}
use Rattle.scc_base.specs.Places.{LineAt, WordAt}
use Rattle.scc_base.specs.Setups.{SetupView}
use Rattle.put_get.specs.Cores.{Private}
use Rattle.put_get.specs.HeapStores.{IsHeapLine, AwaitsHeap}
use Rattle.chip_memory.specs.Chips.{TurnChipView}
use Rattle.lab_reader.specs.Places.{IsInHeap}
use Rattle.lab_plain.specs.declared.said.Said.{Said}
use Rattle.lab_plain.specs.Scenes.{CoreScene}
use Rattle.lab_run.specs.Turns.{MadeHeapAccesses, IsLabSetup, MayGoOn, CoreTurned}
use Rattle.lab_run.proofs.ToldLaws.{told_both}

pub kept_none : (chip : TurnChipView) → MadeHeapAccesses chip chip
kept_none chip = record { turn = refl; stage = refl; held = refl; registers = refl }

pub kept_both : (a b c : TurnChipView) → MadeHeapAccesses a b → MadeHeapAccesses b c → MadeHeapAccesses a c
kept_both a b c first second = record {
  turn = second.turn ∙ (λ i. record (first.turn i) { own = c.own });
  stage = second.stage ∙ first.stage;
  held = second.held ∙ first.held;
  registers = second.registers ∙ first.registers;
}

pub rank_kept : (a b : TurnChipView) → MadeHeapAccesses a b → b.rank ≡ a.rank
rank_kept a b kept = ap (λ (c : TurnChipView). c.rank) kept.turn

pub setup_kept : (a b : TurnChipView) → MadeHeapAccesses a b → b.setup ≡ a.setup
setup_kept a b kept = ap (λ (c : TurnChipView). c.setup) kept.turn

-- a core may go on after heap accesses, if its buffer holds a heap line or none
pub ready_after : (c d : Private) (s t : TurnChipView) → MayGoOn c s → MadeHeapAccesses s t → AwaitsHeap s.setup d.out → MayGoOn d t
ready_after c d s t ready kept awaits = record {
  setup = subst (λ (x : SetupView). IsLabSetup x) (sym (setup_kept s t kept)) ready.setup;
  below = subst (λ (r : ℕ). r < 48) (sym (rank_kept s t kept)) ready.below;
  idle = kept.stage ∙ ready.idle;
  awaits = subst (λ (x : SetupView). AwaitsHeap x d.out) (sym (setup_kept s t kept)) awaits;
}

-- a heap line of a lab is a heap line at the core of a rank
pub in_heap : (s : SetupView) (line : LineAt) → IsLabSetup s → IsInHeap line → IsHeapLine s line
in_heap s line lab heap = record {
  owner = line.core;
  below = omega (arith, lab.ranks, heap.core_below);
  core = sym (lab.hosts line.core heap.core_below);
  heap = heap.heap;
}

-- two actions, one after the other
pub turned_then : (f : CoreScene → CoreScene) (g : ℕ → CoreScene → CoreScene) (c d e : Private) (s m t : TurnChipView) (said told end : List Said)
    → CoreTurned f c s said d m told → CoreTurned (g m.rank) d m told e t end → CoreTurned (λ x. g s.rank (f x)) c s said e t end
turned_then f g c d e s m t said told end first second = record {
  scene = second.scene ∙ (λ i. g (rank_kept s m first.kept i) (first.scene i));
  ready = second.ready;
  kept = kept_both s m t first.kept second.kept;
  tells = told_both s m t said told end first.tells second.tells;
}

-- four actions, one after the other
pub turned_four : (f g h k : ℕ → CoreScene → CoreScene) (c0 c1 c2 c3 c4 : Private) (s0 s1 s2 s3 s4 : TurnChipView) (t0 t1 t2 t3 t4 : List Said)
    → CoreTurned (f s0.rank) c0 s0 t0 c1 s1 t1 → CoreTurned (g s1.rank) c1 s1 t1 c2 s2 t2 → CoreTurned (h s2.rank) c2 s2 t2 c3 s3 t3 → CoreTurned (k s3.rank) c3 s3 t3 c4 s4 t4
    → CoreTurned (λ x. k s0.rank (h s0.rank (g s0.rank (f s0.rank x)))) c0 s0 t0 c4 s4 t4
turned_four f g h k c0 c1 c2 c3 c4 s0 s1 s2 s3 s4 t0 t1 t2 t3 t4 one two three four =
    turned_then (λ x. h s0.rank (g s0.rank (f s0.rank x))) k c0 c3 c4 s0 s3 s4 t0 t3 t4
    (turned_then (λ x. g s0.rank (f s0.rank x)) h c0 c2 c3 s0 s2 s3 t0 t2 t3
    (turned_then (f s0.rank) g c0 c1 c2 s0 s1 s2 t0 t1 t2 one two) three) four

pub on_ok : {A E P Q : Type 0} (r : Result A E) → (P → Q) → OnOk r P → OnOk r Q
on_ok (Ok x) then p = then p
on_ok (Err e) then p = tt

-- the same action at an equal word
pub turned_at : (f : WordAt → CoreScene → CoreScene) (p q : WordAt) (c d : Private) (s t : TurnChipView) (said told : List Said) → p ≡ q → CoreTurned (f p) c s said d t told → CoreTurned (f q) c s said d t told
turned_at f p q c d s t said told same turned = subst (λ (x : WordAt). CoreTurned (f x) c s said d t told) same turned

-- two and three actions, one after the other
pub turned_two : (f g : ℕ → CoreScene → CoreScene) (c0 c1 c2 : Private) (s0 s1 s2 : TurnChipView) (t0 t1 t2 : List Said)
    → CoreTurned (f s0.rank) c0 s0 t0 c1 s1 t1 → CoreTurned (g s1.rank) c1 s1 t1 c2 s2 t2 → CoreTurned (λ x. g s0.rank (f s0.rank x)) c0 s0 t0 c2 s2 t2
turned_two f g c0 c1 c2 s0 s1 s2 t0 t1 t2 one two = turned_then (f s0.rank) g c0 c1 c2 s0 s1 s2 t0 t1 t2 one two

pub turned_three : (f g h : ℕ → CoreScene → CoreScene) (c0 c1 c2 c3 : Private) (s0 s1 s2 s3 : TurnChipView) (t0 t1 t2 t3 : List Said)
    → CoreTurned (f s0.rank) c0 s0 t0 c1 s1 t1 → CoreTurned (g s1.rank) c1 s1 t1 c2 s2 t2 → CoreTurned (h s2.rank) c2 s2 t2 c3 s3 t3
    → CoreTurned (λ x. h s0.rank (g s0.rank (f s0.rank x))) c0 s0 t0 c3 s3 t3
turned_three f g h c0 c1 c2 c3 s0 s1 s2 s3 t0 t1 t2 t3 one two three =
    turned_then (λ x. g s0.rank (f s0.rank x)) h c0 c2 c3 s0 s2 s3 t0 t2 t3 (turned_two f g c0 c1 c2 s0 s1 s2 t0 t1 t2 one two) three
