-- Which collective calls begin with the source in the accumulator, and that one of whose steps is asked for can be made.
use Rattle.std.proofs.Common.{◌≡◌, ℕ, ◌<◌, Bool, true, false, cond, List, [], ◌∷◌, length, slice_index, refl, arith}
use Rattle.std.specs.Prelude.{◌==◌}
use Rattle.scc_base.specs.Heads.{MessageHead}
use Rattle.scc_base.specs.Setups.{SetupView, members_of, place_of}
use Rattle.scc_base.specs.declared.kinds.Kind.TheVariants as kind
use Rattle.groups.specs.Collectives.{IsCallable, head_of_kind, other_steps, others_of, root_steps, send_each, steps_of}
use Rattle.groups.specs.declared.collectives.Coll.{Coll}
use Rattle.groups.specs.declared.collectives.Coll.TheVariants as coll
use Rattle.script_machine.specs.Program.{begins, call_steps, can_call}
use Rattle.script_machine.proofs.ProgramLengths.AimLemmas.{called}

sends_begin : (head : MessageHead) (others : List ℕ) → begins (send_each head others) ≡ false
sends_begin head [] = refl
sends_begin head (to ∷ others) = refl

-- a broadcast does not: its root sends the source
pub cast_begins : (s : SetupView) (rank comm root len : ℕ) → begins (steps_of s rank (coll.Bcast comm root len)) ≡ false
cast_begins s rank comm root len = never (place_of s comm rank == root)
  where
    others : List ℕ
    others = others_of s comm rank root

    never : (b : Bool) → begins (cond b (root_steps (coll.Bcast comm root len) others) (other_steps (coll.Bcast comm root len) (slice_index (members_of s comm rank) root))) ≡ false
    never true = sends_begin (head_of_kind kind.Bcast comm len) others
    never false = refl

-- a call that has a step can be made, and it is a step of the call
pub steps_made : (s : SetupView) (rank : ℕ) (c : Coll) (k : ℕ) → k < length (call_steps s rank c) → IsCallable s rank c × (k < length (steps_of s rank c))
steps_made s rank c k there = by (can_call s rank c) refl there
  where
    by : (b : Bool) → can_call s rank c ≡ b → k < length (cond b (steps_of s rank c) []) → IsCallable s rank c × (k < length (steps_of s rank c))
    by true is within = (called s rank c is, within)
    by false is within = absurd (omega (arith, within))
