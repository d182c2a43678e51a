-- Legality does not depend on the order of steps, and legal lists with the calls of one more step at their ends are legal.
use Rattle.std.proofs.Common.{◌≡◌, ℕ, zero, suc, Bool, if◌then◌else◌, List, [], ◌∷◌, ◌++◌, Option, refl, sym, ap, subst, subst₂}
use Rattle.scc_base.specs.Calls.{DataCall}
use Rattle.scc_base.specs.Runs.{Runs, IsStill, EndsAt}
use Rattle.scc_base.proofs.Confluence.{lowest_first, in_some_order, one_end, other_end}
use Rattle.scc_proto.specs.Legality.{Outgoing, Standing, CallStep, owner_of, call_at, slot_after, Makes, OwnStep, IsUsedUp, no_slots, IsLegal, UsesUp, calls_of_step, slots_after, CanFollow, Grows, ByNothing, ByStep}
use Rattle.scc_proto.proofs.Legality.StepLaws.{only_one, either_order, first_call}
use Rattle.scc_proto.proofs.Legality.StepDecided.{decide}

-- where no call is left nobody has a step
still_at_end : (nue : ℕ) (keys : ℕ → ℕ → ℕ) (left : ℕ → Option Outgoing) (s : Standing) → IsUsedUp left s → IsStill (OwnStep nue keys) s
still_at_end nue keys left s end a t own =
    let first = first_call nue keys own.0 a s t own.1 own.2 in let none = end.calls a in cc

-- lists that the steps use up in some order are used up lowest owner first
pub legal_in_order : (nue : ℕ) (keys : ℕ → ℕ → ℕ) (calls : ℕ → List DataCall) (slots : ℕ → Option Outgoing) → UsesUp nue keys no_slots calls slots → IsLegal nue keys calls slots
legal_in_order nue keys calls slots (n, run) =
    (n, lowest_first (OwnStep nue keys) (only_one nue keys) (either_order nue keys) (decide nue keys) (IsUsedUp slots) (still_at_end nue keys slots) n _ run)

pub legal_in_some_order : (nue : ℕ) (keys : ℕ → ℕ → ℕ) (calls : ℕ → List DataCall) (slots : ℕ → Option Outgoing) → IsLegal nue keys calls slots → UsesUp nue keys no_slots calls slots
legal_in_some_order nue keys calls slots (n, run) = (n, in_some_order (OwnStep nue keys) (IsUsedUp slots) n _ run)

-- a standing is known by its lists and its slots
used_up_at : (left : ℕ → Option Outgoing) (s : Standing) → IsUsedUp left s → s ≡ record { calls = λ k. []; slots = left }
used_up_at left s end = λ i. record { calls = λ k. end.calls k i; slots = λ k. end.slots k i }

module _ (nue : ℕ) (keys : ℕ → ℕ → ℕ) where
  abbrev followed_by : (ℕ → List DataCall) → Standing → Standing
  followed_by more s = record { calls = λ k. s.calls k ++ more k; slots = s.slots }

  -- a step of lists is one of the lists with further calls behind them
  makes_followed : (more : ℕ → List DataCall) (step : CallStep) (s t : Standing) → Makes nue keys step s t → Makes nue keys step (followed_by more s) (followed_by more t)
  makes_followed more step s t makes = record {
    proper = makes.proper;
    calls = record {
      changed = λ k within. ap (λ (l : List DataCall). l ++ more k) (makes.calls.changed k within);
      others = λ k without. ap (λ (l : List DataCall). l ++ more k) (makes.calls.others k without);
    };
    slots = makes.slots;
  }

  -- what uses up lists, and then further lists, uses up those lists with the further ones behind them
  run_followed : (more : ℕ → List DataCall) (middle new : ℕ → Option Outgoing) → UsesUp nue keys middle more new → (n : ℕ) (s : Standing) → Runs (OwnStep nue keys) (IsUsedUp middle) n s → (k : ℕ) × Runs (OwnStep nue keys) (IsUsedUp new) k (followed_by more s)
  run_followed more middle new (m, rest) zero s end =
      (m, subst (λ (x : Standing). Runs (OwnStep nue keys) (IsUsedUp new) m (followed_by more x)) (sym (used_up_at middle s end)) rest)
  run_followed more middle new rest (suc n) s (a, t, (step, owner, makes), run) =
      let (k, whole) = run_followed more middle new rest n t run in
      (suc k, (a, followed_by more t, (step, owner, makes_followed more step s t makes), whole))

  -- legal lists, and then further legal lists, are legal with these at their ends
  pub uses_joined : (old middle new : ℕ → Option Outgoing) (calls more : ℕ → List DataCall) → UsesUp nue keys old calls middle → UsesUp nue keys middle more new → UsesUp nue keys old (λ k. calls k ++ more k) new
  uses_joined old middle new calls more (n, run) rest = run_followed more middle new rest n (record { calls = calls; slots = old }) run

  -- one step uses up its calls
  pub uses_step : (step : CallStep) (slots : ℕ → Option Outgoing) → CanFollow nue keys step slots → UsesUp nue keys slots (calls_of_step nue keys step) (slots_after step slots)
  uses_step step slots can = (1, (owner_of step, record { calls = λ k. []; slots = slots_after step slots }, (step, refl, makes), end))
    where
      makes : Makes nue keys step (record { calls = calls_of_step nue keys step; slots = slots }) (record { calls = λ k. []; slots = slots_after step slots })
      makes = record {
        proper = can.proper;
        calls = record {
          changed = λ k within. ap (λ (b : Bool). if b then call_at step k ∷ [] else []) within;
          others = λ k without. ap (λ (b : Bool). if b then call_at step k ∷ [] else []) without;
        };
        slots = record {
          changed = λ k within. (can.slot k within, ap (λ (b : Bool). if b then slot_after step else slots k) within);
          others = λ k without. sym (ap (λ (b : Bool). if b then slot_after step else slots k) without);
        };
      }

      end : IsUsedUp (slots_after step slots) (record { calls = λ k. []; slots = slots_after step slots })
      end = record { calls = λ k. refl; slots = λ k. refl }

  -- lists that are equal rank by rank are used up alike
  pub uses_same : (old new other_new : ℕ → Option Outgoing) (calls others : ℕ → List DataCall) → ((k : ℕ) → others k ≡ calls k) → ((k : ℕ) → other_new k ≡ new k) → UsesUp nue keys old calls new → UsesUp nue keys old others other_new
  uses_same old new other_new calls others same same_slots uses =
      subst₂ (λ (l : ℕ → List DataCall) (s : ℕ → Option Outgoing). UsesUp nue keys old l s) (λ i k. sym (same k) i) (λ i k. sym (same_slots k) i) uses

  -- legal lists that have grown by nothing or by the calls of one step are legal
  pub uses_grown : (old_slots new_slots : ℕ → Option Outgoing) (old new : ℕ → List DataCall) → UsesUp nue keys no_slots old old_slots → Grows nue keys old old_slots new new_slots → UsesUp nue keys no_slots new new_slots
  uses_grown old_slots new_slots old new uses (ByNothing same same_slots) = uses_same no_slots old_slots new_slots old new same same_slots uses
  uses_grown old_slots new_slots old new uses (ByStep step can grown slots) =
      uses_same no_slots (slots_after step old_slots) new_slots (λ k. old k ++ calls_of_step nue keys step k) new grown slots
      (uses_joined no_slots old_slots (slots_after step old_slots) old (calls_of_step nue keys step) uses (uses_step step old_slots can))

  -- the slots that legal lists leave are determined by the lists
  pub one_left : (calls : ℕ → List DataCall) (left also : ℕ → Option Outgoing) → UsesUp nue keys no_slots calls left → UsesUp nue keys no_slots calls also → left ≡ also
  one_left calls left also (n, run) (m, other) =
      ap (λ (s : Standing). s.slots) (one_end (OwnStep nue keys) (only_one nue keys) (either_order nue keys) n m (record { calls = calls; slots = no_slots }) (record { calls = λ k. []; slots = left }) (record { calls = λ k. []; slots = also })
      (other_end (OwnStep nue keys) (IsUsedUp left) _ (λ s end. (used_up_at left s end, still_at_end nue keys left s end)) n _ run)
      (other_end (OwnStep nue keys) (IsUsedUp also) _ (λ s end. (used_up_at also s end, still_at_end nue keys also s end)) m _ other)).1

pub legal_slots : (nue : ℕ) (keys : ℕ → ℕ → ℕ) (calls : ℕ → List DataCall) (slots others : ℕ → Option Outgoing) → IsLegal nue keys calls slots → IsLegal nue keys calls others → (k : ℕ) → slots k ≡ others k
legal_slots nue keys calls slots others legal also k =
    ap (λ (f : ℕ → Option Outgoing). f k) (one_left nue keys calls slots others (legal_in_some_order nue keys calls slots legal) (legal_in_some_order nue keys calls others also))

pub legal_grown : (nue : ℕ) (keys : ℕ → ℕ → ℕ) (old new : ℕ → List DataCall) (old_slots new_slots : ℕ → Option Outgoing) → IsLegal nue keys old old_slots → Grows nue keys old old_slots new new_slots → IsLegal nue keys new new_slots
legal_grown nue keys old new old_slots new_slots legal grows =
    legal_in_order nue keys new new_slots (uses_grown nue keys old_slots new_slots old new (legal_in_some_order nue keys old old_slots legal) grows)

-- nothing is legal
pub legal_at_start : (nue : ℕ) (keys : ℕ → ℕ → ℕ) → IsLegal nue keys (λ k. []) no_slots
legal_at_start nue keys = (0, record { calls = λ k. refl; slots = λ k. refl })

-- lists are legal exactly where the standing at which all steps end has used them up
pub legal_from_end : (nue : ℕ) (keys : ℕ → ℕ → ℕ) (n : ℕ) (calls : ℕ → List DataCall) (slots : ℕ → Option Outgoing) (e : Standing)
    → Runs (OwnStep nue keys) (EndsAt (OwnStep nue keys) e) n (record { calls = calls; slots = no_slots }) → IsUsedUp slots e → IsLegal nue keys calls slots
legal_from_end nue keys n calls slots e run used =
    legal_in_order nue keys calls slots
    (n, other_end (OwnStep nue keys) (EndsAt (OwnStep nue keys) e) (IsUsedUp slots) (λ s end. subst (IsUsedUp slots) (sym end.0) used) n _ run)

pub end_of_legal : (nue : ℕ) (keys : ℕ → ℕ → ℕ) (n : ℕ) (calls : ℕ → List DataCall) (slots : ℕ → Option Outgoing) (e : Standing)
    → Runs (OwnStep nue keys) (EndsAt (OwnStep nue keys) e) n (record { calls = calls; slots = no_slots }) → IsLegal nue keys calls slots → IsUsedUp slots e
end_of_legal nue keys n calls slots e run legal =
    let (m, other) = legal_in_some_order nue keys calls slots legal in
    let same = (one_end (OwnStep nue keys) (only_one nue keys) (either_order nue keys) n m _ e (record { calls = λ k. []; slots = slots }) run
    (other_end (OwnStep nue keys) (IsUsedUp slots) _ (λ s end. (used_up_at slots s end, still_at_end nue keys slots s end)) m _ other)).1 in
    subst (IsUsedUp slots) (sym same) (record { calls = λ k. refl; slots = λ k. refl })
