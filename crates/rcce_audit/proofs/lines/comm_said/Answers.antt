use Rattle.std.proofs.Common.{◌≡◌, ℕ, ◌<◌, ◌≤◌, List, [], ◌∷◌, length, get_or, map, None, refl, ◌∙◌, arith}
use Rattle.scc_base.specs.declared.communicators.CommRule.{CommRule}
use Rattle.rcce_audit.specs.Grammar.{comm_said, log_split_said}
use Rattle.rcce_audit.proofs.lines.comm_said.Goals as goal

module _ {X : Type 0} (view : X → List ℕ) (last : ℕ) (comms : List CommRule) where
  -- what five words say, by their places
  five : (d : X) (ws : List X) → 5 ≤ length ws → length ws < 6
      → log_split_said last comms (view (get_or ws 0 d)) (view (get_or ws 1 d)) (view (get_or ws 2 d)) (view (get_or ws 3 d)) (view (get_or ws 4 d)) ≡ comm_said last comms (map view ws)
  five d (w0 ∷ w1 ∷ w2 ∷ w3 ∷ w4 ∷ []) least most = refl
  five d [] least most = absurd (omega arith)
  five d (w0 ∷ []) least most = absurd (omega arith)
  five d (w0 ∷ w1 ∷ []) least most = absurd (omega arith)
  five d (w0 ∷ w1 ∷ w2 ∷ []) least most = absurd (omega arith)
  five d (w0 ∷ w1 ∷ w2 ∷ w3 ∷ []) least most = absurd (omega arith)
  five d (w0 ∷ w1 ∷ w2 ∷ w3 ∷ w4 ∷ w5 ∷ ws) least most = absurd (omega arith)

  -- fewer words, and more, say nothing
  few : (ws : List X) → length ws < 5 → None ≡ comm_said last comms (map view ws)
  few [] most = refl
  few (w0 ∷ []) most = refl
  few (w0 ∷ w1 ∷ []) most = refl
  few (w0 ∷ w1 ∷ w2 ∷ []) most = refl
  few (w0 ∷ w1 ∷ w2 ∷ w3 ∷ []) most = refl
  few (w0 ∷ w1 ∷ w2 ∷ w3 ∷ w4 ∷ ws) most = absurd (omega arith)

  many : (ws : List X) → 6 ≤ length ws → None ≡ comm_said last comms (map view ws)
  many (w0 ∷ w1 ∷ w2 ∷ w3 ∷ w4 ∷ w5 ∷ ws) least = refl
  many [] least = absurd (omega arith)
  many (w0 ∷ []) least = absurd (omega arith)
  many (w0 ∷ w1 ∷ []) least = absurd (omega arith)
  many (w0 ∷ w1 ∷ w2 ∷ []) least = absurd (omega arith)
  many (w0 ∷ w1 ∷ w2 ∷ w3 ∷ []) least = absurd (omega arith)
  many (w0 ∷ w1 ∷ w2 ∷ w3 ∷ w4 ∷ []) least = absurd (omega arith)

pub returns-in-len5-clause-gives : goal.returns-in-len5-clause-gives
returns-in-len5-clause-gives c =
    c.split_said.ensures.gives ∙ five (λ word. word.now) c.args.last c.args.comms.now _ c.args.words.now c.in-len5.len_at_least c.in-len5.len_below

pub returns-in_default-clause-gives : goal.returns-in_default-clause-gives
returns-in_default-clause-gives c = few (λ word. word.now) c.args.last c.args.comms.now c.args.words.now c.in_default.len_below

pub returns-in_default-2-clause-gives : goal.returns-in_default-2-clause-gives
returns-in_default-2-clause-gives c = many (λ word. word.now) c.args.last c.args.comms.now c.args.words.now c.in_default.len_at_least
