-- A log has exactly one verdict, and a function tells it of each log that a file may have.
use Rattle.std.proofs.Common.{◌≡◌, ◌≢◌, ◌⊎◌, ℕ, zero, suc, ◌+◌, ◌<◌, ◌≤◌, true, false, List, [], ◌∷◌, ◌++◌, length, take, None, inl, inr, ⊎_elim, refl, sym, ◌∙◌, ap, subst, length-append, arith}
use Rattle.std.proofs.lemmas.Bool.{cases_lt, cases_order}
use Rattle.std.proofs.lemmas.List.{get_or_past, length-take, take_all}
use Rattle.scc_base.specs.Calls.{DataCall}
use Rattle.scc_base.specs.Communicators.{key_of}
use Rattle.scc_base.specs.Runs.{Runs, EndsAt}
use Rattle.scc_base.proofs.ChangeLaws.{true_or_false}
use Rattle.scc_base.proofs.Confluence.{last_or_below}
use Rattle.scc_proto.specs.Legality.{Standing, callers, call_at, OwnStep}
use Rattle.scc_proto.proofs.Legality.StepDecided.{decide}
use Rattle.rcce_audit.specs.declared.verdicts.Verdict.{Verdict}
use Rattle.rcce_audit.specs.declared.verdicts.Verdict.TheVariants as verdict
use Rattle.rcce_audit.specs.Logs.{LogView, calls_at_rank}
use Rattle.rcce_audit.specs.Standings.{count_left}
use Rattle.rcce_audit.specs.Verdicts.{IsJudge, VerdictTells, IsVerdict}
use Rattle.rcce_audit.proofs.StandingLemmas.{no_step, one_end_told, own_fewer}

-- two verdicts of one standing
once_told : (calls : ℕ → List DataCall) (e : Standing) (v w : Verdict) → VerdictTells calls v e → VerdictTells calls w e → v ≡ w
once_told calls e verdict.Yes verdict.Yes first second = refl
once_told calls e verdict.Yes (verdict.No rank call) first second = absurd (second.left (first rank))
once_told calls e (verdict.No rank call) verdict.Yes first second = absurd (first.left (second rank))
once_told calls e (verdict.No rank call) (verdict.No other also) first second = by_order (cases_order rank other)
  where
    by_order : (rank ≡ other) ⊎ ((rank < other) ⊎ (other < rank)) → verdict.No rank call ≡ verdict.No other also
    by_order (inr (inl below)) = absurd (first.left (second.lower rank below))
    by_order (inr (inr above)) = absurd (second.left (first.lower other above))
    by_order (inl same) =
        let one = ap length first.whole in
        let two = ap length second.whole in
        let left : length (e.calls rank) ≡ length (e.calls other) = ap (λ (r : ℕ). length (e.calls r)) same in
        let all : length (calls rank) ≡ length (calls other) = ap (λ (r : ℕ). length (calls r)) same in
        let counted = first.counted in
        let counted_too = second.counted in
        let calls_same : call ≡ also = omega (arith, one, two, left, all, counted, counted_too, length-append first.used (e.calls rank), length-append second.used (e.calls other)) in
        ap (λ (r : ℕ). verdict.No r call) same ∙ ap (verdict.No other) calls_same

pub verdict_once : (log : LogView) (v w : Verdict) → IsVerdict log v → IsVerdict log w → v ≡ w
verdict_once log v w (e, ends, tells) (f, other, told) = once_told (calls_at_rank log.lists) f v w (one_end_told log v e f ends tells other) told

module _ (nue : ℕ) (keys : ℕ → ℕ → ℕ) where
  -- some rank below a number has a step, or none has one
  step_or_none : (n : ℕ) (s : Standing) → ((a : ℕ) × (t : Standing) × (a < n) × OwnStep nue keys a s t) ⊎ ((a : ℕ) → a < n → (t : Standing) → OwnStep nue keys a s t → ⊥)
  step_or_none zero s = inr (λ a below. absurd (omega (arith, below)))
  step_or_none (suc n) s = next (decide nue keys n s) (step_or_none n s)
    where
      next : ((t : Standing) × OwnStep nue keys n s t) ⊎ ((t : Standing) → OwnStep nue keys n s t → ⊥) → ((a : ℕ) × (t : Standing) × (a < n) × OwnStep nue keys a s t) ⊎ ((a : ℕ) → a < n → (t : Standing) → OwnStep nue keys a s t → ⊥)
          → ((a : ℕ) × (t : Standing) × (a < suc n) × OwnStep nue keys a s t) ⊎ ((a : ℕ) → a < suc n → (t : Standing) → OwnStep nue keys a s t → ⊥)
      next (inl (t, own)) rest = inl (n, t, omega arith, own)
      next (inr never) (inl (a, t, below, own)) = inl (a, t, omega (arith, below), own)
      next (inr never) (inr none) =
          inr (λ a below. ⊎_elim
          (λ (is : a ≡ n). subst (λ (x : ℕ). (t : Standing) → OwnStep nue keys x s t → ⊥) (sym is) never)
          (λ (lower : a < n). none a lower)
          (last_or_below a n below))

  -- ranks without calls stay so
  still_none : (a k : ℕ) (s t : Standing) → OwnStep nue keys a s t → s.calls k ≡ [] → t.calls k ≡ []
  still_none a k s t (x, owner, makes) none =
      ⊎_elim
      (λ (in_callers : callers nue keys x k ≡ true). let used = makes.calls.changed k in_callers in absurd cc)
      (λ (other : callers nue keys x k ≡ false). sym (makes.calls.others k other) ∙ none)
      (true_or_false (callers nue keys x k))

  -- the steps come to an end
  abbrev Found : Standing → Type 0
  Found s = (e : Standing) × (m : ℕ) × Runs (OwnStep nue keys) (EndsAt (OwnStep nue keys) e) m s

  stops : (n : ℕ) (s : Standing) → ((k : ℕ) → n ≤ k → s.calls k ≡ []) → ((a : ℕ) → a < n → (t : Standing) → OwnStep nue keys a s t → ⊥) → Found s
  stops n s none never =
      (s, 0, (refl, λ a t. ⊎_elim (λ (below : a < n). never a below t) (λ (past : n ≤ a). no_step nue keys a s t (none a past)) (cases_lt a n)))

  goes_on : (s : Standing) (a : ℕ) (t : Standing) → OwnStep nue keys a s t → Found t → Found s
  goes_on s a t own (e, m, run) = (e, suc m, (a, t, own, run))

  end_found : (n fuel : ℕ) (s : Standing) → count_left s n ≤ fuel → ((k : ℕ) → n ≤ k → s.calls k ≡ []) → Found s
  end_found n zero s few none =
      ⊎_elim
      (λ (step : (a : ℕ) × (t : Standing) × (a < n) × OwnStep nue keys a s t). absurd (omega (arith, few, own_fewer nue keys step.0 n s step.1 step.2 step.3)))
      (λ (never : (a : ℕ) → a < n → (t : Standing) → OwnStep nue keys a s t → ⊥). stops n s none never)
      (step_or_none n s)
  end_found n (suc fuel) s few none =
      ⊎_elim
      (λ (step : (a : ℕ) × (t : Standing) × (a < n) × OwnStep nue keys a s t).
      goes_on s step.0 step.1 step.3 (end_found n fuel step.1 (omega (arith, few, own_fewer nue keys step.0 n s step.1 step.2 step.3)) (λ k past. still_none step.0 k s step.1 step.3 (none k past))))
      (λ (never : (a : ℕ) → a < n → (t : Standing) → OwnStep nue keys a s t → ⊥). stops n s none never)
      (step_or_none n s)

-- what was used up of a rank's list
used_up : (nue : ℕ) (keys : ℕ → ℕ → ℕ) (n : ℕ) (s e : Standing) → Runs (OwnStep nue keys) (EndsAt (OwnStep nue keys) e) n s → (k : ℕ) → (used : List DataCall) × (s.calls k ≡ used ++ e.calls k)
used_up nue keys zero s e (is, still) k = ([], ap (λ (x : Standing). x.calls k) is)
used_up nue keys (suc n) s e (a, t, (x, owner, makes), run) k =
    let rest = used_up nue keys n t e run k in
    ⊎_elim
    (λ (in_callers : callers nue keys x k ≡ true). (call_at x k ∷ rest.0, makes.calls.changed k in_callers ∙ ap (λ (l : List DataCall). call_at x k ∷ l) rest.1))
    (λ (other : callers nue keys x k ≡ false). (rest.0, makes.calls.others k other ∙ rest.1))
    (true_or_false (callers nue keys x k))

-- the lowest rank with a call left
is_empty : (l : List DataCall) → (l ≡ []) ⊎ (l ≢ [])
is_empty [] = inl refl
is_empty (c ∷ l) = inr (λ is. absurd cc)

lowest_left : (calls : ℕ → List DataCall) (n : ℕ) → ((r : ℕ) × (r < n) × (calls r ≢ []) × ((k : ℕ) → k < r → calls k ≡ [])) ⊎ ((k : ℕ) → k < n → calls k ≡ [])
lowest_left calls zero = inr (λ k below. absurd (omega (arith, below)))
lowest_left calls (suc n) = next (lowest_left calls n) (is_empty (calls n))
  where
    next : ((r : ℕ) × (r < n) × (calls r ≢ []) × ((k : ℕ) → k < r → calls k ≡ [])) ⊎ ((k : ℕ) → k < n → calls k ≡ []) → (calls n ≡ []) ⊎ (calls n ≢ [])
        → ((r : ℕ) × (r < suc n) × (calls r ≢ []) × ((k : ℕ) → k < r → calls k ≡ [])) ⊎ ((k : ℕ) → k < suc n → calls k ≡ [])
    next (inl (r, below, some, lower)) here = inl (r, omega (arith, below), some, lower)
    next (inr none) (inr some) = inl (n, omega arith, some, none)
    next (inr none) (inl empty) = inr (λ k below. ⊎_elim (λ (is : k ≡ n). ap calls is ∙ empty) (λ (lower : k < n). none k lower) (last_or_below k n below))

none_after : (xs ys : List DataCall) → xs ++ ys ≡ [] → ys ≡ []
none_after [] ys is = is
none_after (x ∷ xs) ys is = absurd cc

-- a log has a verdict, where no rank from 48 on has a call
pub verdict_found : (log : LogView) → ((k : ℕ) → 48 ≤ k → calls_at_rank log.lists k ≡ []) → (v : Verdict) × IsVerdict log v
verdict_found log none =
    let start : Standing = record { calls = calls_at_rank log.lists; slots = λ k. None } in
    let (e, m, run) = end_found log.nue (key_of log.comms) 48 (count_left start 48) start (omega arith) none in
    tell e m run (lowest_left e.calls 48)
  where
    tell : (e : Standing) (m : ℕ) → Runs (OwnStep log.nue (key_of log.comms)) (EndsAt (OwnStep log.nue (key_of log.comms)) e) m (record { calls = calls_at_rank log.lists; slots = λ k. None })
        → ((r : ℕ) × (r < 48) × (e.calls r ≢ []) × ((k : ℕ) → k < r → e.calls k ≡ [])) ⊎ ((k : ℕ) → k < 48 → e.calls k ≡ []) → (v : Verdict) × IsVerdict log v
    tell e m run (inl (r, below, some, lower)) =
        let used = used_up log.nue (key_of log.comms) m _ e run r in
        (verdict.No r (length used.0 + 1), (e, (m, run), record { lower = lower; left = some; used = used.0; whole = used.1; counted = refl }))
    tell e m run (inr empty) =
        (verdict.Yes, (e, (m, run), λ k. ⊎_elim (λ (below : k < 48). empty k below) (λ (past : 48 ≤ k). left_none e m run k (none k past)) (cases_lt k 48)))
      where
        left_none : (f : Standing) (n : ℕ) → Runs (OwnStep log.nue (key_of log.comms)) (EndsAt (OwnStep log.nue (key_of log.comms)) f) n (record { calls = calls_at_rank log.lists; slots = λ k. None }) → (k : ℕ) → calls_at_rank log.lists k ≡ [] → f.calls k ≡ []
        left_none f n run k nothing = let used = used_up log.nue (key_of log.comms) n _ f run k in none_after used.0 (f.calls k) (sym used.1 ∙ nothing)

-- ---- a judge

-- a log with the lists of ranks 0 to 47 alone
abbrev cut : LogView → LogView
cut log = record log { lists = take 48 log.lists }

cut_ends : (log : LogView) (k : ℕ) → 48 ≤ k → calls_at_rank (cut log).lists k ≡ []
cut_ends log k past =
    let short = length-take 48 log.lists in
    get_or_past (take 48 log.lists) k [] (omega (arith, short, past))

abbrev judged : (log : LogView) → (v : Verdict) × IsVerdict (cut log) v
judged log = verdict_found (cut log) (cut_ends log)

pub judge_is : (judge : LogView → Verdict) × IsJudge judge
judge_is = (
  λ log. (judged log).0,
  λ log is.
      let ranks = is.written.ranks in
      subst (λ (lists : List (List DataCall)). IsVerdict (record log { lists = lists }) (judged log).0) (take_all 48 log.lists (omega (arith, ranks))) (judged log).1,
)
