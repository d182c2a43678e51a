-- What the steps of legality do to standings, who may have a step after one, and what standings tell of lists.
use Rattle.std.proofs.Common.{◌≡◌, ◌⊎◌, ◌↔◌, ℕ, zero, suc, ◌+◌, ◌<◌, ◌≤◌, Bool, true, false, if◌then◌else◌, List, [], ◌∷◌, ◌++◌, length, drop, take, Option, Some, None, get_or, option_and_then, option_map, inl, inr, ⊎_elim, refl, sym, ◌∙◌, ap, subst, arith}
use Rattle.std.specs.Prelude.{◌==◌, All, is_some, slice_get, slice_index, slice_index_or}
use Rattle.std.proofs.lemmas.Bool.{cases_eq, cases_lt, eq-eqb, ne_eqb, false≢true}
use Rattle.std.proofs.lemmas.Bool.Decides.{nat_tests}
use Rattle.std.proofs.lemmas.List.{drop_more, at_drop_all, get_or_past, length-append, length-drop, length-map, length-take-le, take-append-drop}
use Rattle.std.proofs.lemmas.Option.{slice_get_within, slice_get_past, get_or_from_slice_get}
use Rattle.scc_base.specs.Groups.{root_in}
use Rattle.scc_base.specs.Calls.{DataCall, Send, Recv}
use Rattle.scc_base.specs.Communicators.{key_of}
use Rattle.scc_base.specs.declared.communicators.CommRule.{CommRule}
use Rattle.scc_base.specs.Runs.{Runs, IsStill, EndsAt}
use Rattle.scc_base.specs.Setups.{SetupView, setup_key}
use Rattle.scc_base.proofs.ChangeLaws.{true_or_false}
use Rattle.scc_base.proofs.Confluence.{last_or_below, other_end, joined_runs, one_end}
use Rattle.scc_base.proofs.GroupFacts.{root_is, root_once, same_root}
use Rattle.scc_proto.specs.Legality.{Outgoing, Standing, CallStep, Posting, Taking, Pairing, Meeting, owner_of, IsProper, callers, call_at, looks_at_slot, slot_before, slot_after, Makes, OwnStep}
use Rattle.scc_proto.proofs.Legality.CallTests.{BeginsWith}
use Rattle.scc_proto.proofs.Legality.LegalLaws.{legal_from_end, end_of_legal}
use Rattle.scc_proto.proofs.Legality.StepDecided.{IsReady, standing_after, ready_makes}
use Rattle.scc_proto.proofs.Legality.StepLaws.{own_step, step_told, first_call, only_one, either_order}
use Rattle.rcce_audit.specs.declared.progress.Progress.{Progress}
use Rattle.rcce_audit.specs.declared.verdicts.Verdict.{Verdict}
use Rattle.rcce_audit.specs.declared.verdicts.Verdict.TheVariants as verdict
use Rattle.rcce_audit.specs.Logs.{LogView, IsLogCall, calls_at_rank}
use Rattle.rcce_audit.specs.Texts.{IsFileLog, call_lines, call_words, line_of, log_lines, rule_lines, table_lines, text_of}
use Rattle.rcce_audit.specs.Standings.{AreLists, outgoing_at, calls_left, slot_of_lists, standing_of, Sleeps, IsQuiet, partner_of, Acts, Leads, count_left}
use Rattle.rcce_audit.specs.Verdicts.{IsFirstLeft, IsLegalLog, EndsIn, VerdictTells}

-- where a call stands at a place, the calls from there on begin with it
pub drop-at : {X : Type 0} (calls : List X) (n : ℕ) (c : X) → slice_get calls n ≡ Some c → drop n calls ≡ c ∷ drop (n + 1) calls
drop-at {X} calls n c is =
    drop_more calls n c (slice_get_within calls n c is) ∙ ap (λ (x : X). x ∷ drop (n + 1) calls) (get_or_from_slice_get calls n c c is)

pub get-none : {X : Type 0} (calls : List X) (n : ℕ) → slice_get calls n ≡ None → length calls ≤ n
get-none [] n is = omega arith
get-none (x ∷ calls) zero is = absurd cc
get-none (x ∷ calls) (suc n) is = omega (arith, get-none calls n is)

-- and where none stands, none is left
pub drop-none : {X : Type 0} (calls : List X) (n : ℕ) → slice_get calls n ≡ None → drop n calls ≡ []
drop-none {X} calls n is = at_drop_all (λ (l : List X). l) calls n (get-none calls n is)

pub left_same : (lists : List (List DataCall)) (k : ℕ) (old new : List ℕ) → slice_index new k ≡ slice_index old k → calls_left lists old k ≡ calls_left lists new k
left_same lists k old new same = ap (λ (n : ℕ). drop n (calls_at_rank lists k)) (sym same)

module _ (nue : ℕ) (keys : ℕ → ℕ → ℕ) where
  -- a rank without calls has no step
  pub no_step : (a : ℕ) (s t : Standing) → s.calls a ≡ [] → OwnStep nue keys a s t → ⊥
  no_step a s t none own = let first = first_call nue keys own.0 a s t own.1 own.2 in cc

  -- a rank's step is that of its first call
  the_step : (a : ℕ) (s t : Standing) (c : DataCall) (rest : List DataCall) → s.calls a ≡ c ∷ rest → (x : CallStep) → owner_of x ≡ a → Makes nue keys x s t → x ≡ own_step a c
  the_step a s t c rest is x owner makes =
      let first = first_call nue keys x a s t owner makes in
      let called : call_at x a ≡ c = cc in
      sym (step_told x a owner) ∙ ap (own_step a) called

  pub no_other_step : (a : ℕ) (s : Standing) (c : DataCall) (rest : List DataCall) → s.calls a ≡ c ∷ rest → ((t : Standing) → Makes nue keys (own_step a c) s t → ⊥) → (t : Standing) → OwnStep nue keys a s t → ⊥
  no_other_step a s c rest is never t (x, owner, makes) =
      never t (subst (λ (y : CallStep). Makes nue keys y s t) (the_step a s t c rest is x owner makes) makes)

  -- the owner of a step is the caller or the partner of each of its callers
  pair_owner : (k from : ℕ) (m : Outgoing) (b : Bool) → (k == from) ≡ b → (left rest : List DataCall) → left ≡ (if b then Send m.to m.head m.bytes else Recv from m.head m.bytes) ∷ rest → (from ≡ k) ⊎ (from ≡ partner_of keys k left)
  pair_owner k from m true is left rest e = inl (grind (arith, nat_tests))
  pair_owner k from m false is left rest e = inr (sym (ap (partner_of keys k) e))

  owner_found : (y : CallStep) (k : ℕ) (left rest : List DataCall) → IsProper nue keys y → callers nue keys y k ≡ true → left ≡ call_at y k ∷ rest → (owner_of y ≡ k) ⊎ (owner_of y ≡ partner_of keys k left)
  owner_found (Posting from m) k left rest proper within e = inl (grind (arith, nat_tests))
  owner_found (Taking from m) k left rest proper within e = inl (grind (arith, nat_tests))
  owner_found (Pairing from m) k left rest proper within e = pair_owner k from m (k == from) refl left rest e
  owner_found (Meeting comm root) k left rest proper within e =
      let same : keys comm root ≡ keys comm k = grind (arith, nat_tests) in
      inr (root_is (keys comm) k root same proper.zeroth ∙ sym (ap (partner_of keys k) e))

  -- a step that looks on an empty slot belongs to the slot's rank, and one that looks on a message to the rank that it is for
  slot_owner : (y : CallStep) (k : ℕ) → looks_at_slot y k ≡ true → ((slot_before y ≡ None) × (owner_of y ≡ k)) ⊎ ((m : Outgoing) × (slot_before y ≡ Some m) × (owner_of y ≡ m.to))
  slot_owner (Posting from m) k at = inl (refl, grind (arith, nat_tests))
  slot_owner (Taking from m) k at = inr (m, refl, refl)
  slot_owner (Pairing from m) k at = inl (refl, grind (arith, nat_tests))
  slot_owner (Meeting comm root) k at = absurd cc

  -- a step uses up one call of each of its callers
  fewer_at : (x : CallStep) (s t : Standing) → Makes nue keys x s t → (k : ℕ) → length (t.calls k) ≤ length (s.calls k)
  fewer_at x s t makes k =
      ⊎_elim
      (λ (in_callers : callers nue keys x k ≡ true). omega (arith, ap length (makes.calls.changed k in_callers)))
      (λ (other : callers nue keys x k ≡ false). omega (arith, ap length (makes.calls.others k other)))
      (true_or_false (callers nue keys x k))

count_no_more : (s t : Standing) (n : ℕ) → ((k : ℕ) → length (t.calls k) ≤ length (s.calls k)) → count_left t n ≤ count_left s n
count_no_more s t zero fewer = omega arith
count_no_more s t (suc n) fewer = omega (arith, count_no_more s t n fewer, fewer n)

count_fewer : (s t : Standing) (a n : ℕ) → ((k : ℕ) → length (t.calls k) ≤ length (s.calls k)) → length (t.calls a) < length (s.calls a) → a < n → count_left t n < count_left s n
count_fewer s t a zero fewer less below = absurd (omega arith)
count_fewer s t a (suc n) fewer less below =
    ⊎_elim
    (λ (is : a ≡ n).
    let here : length (t.calls n) < length (s.calls n) = subst (λ (x : ℕ). length (t.calls x) < length (s.calls x)) is less in
    omega (arith, count_no_more s t n fewer, here))
    (λ (lower : a < n). omega (arith, count_fewer s t a n fewer less lower, fewer n))
    (last_or_below a n below)

-- after a step of a rank fewer calls are left
pub own_fewer : (nue : ℕ) (keys : ℕ → ℕ → ℕ) (a n : ℕ) (s t : Standing) → a < n → OwnStep nue keys a s t → count_left t n < count_left s n
own_fewer nue keys a n s t below (x, owner, makes) =
    count_fewer s t a n (fewer_at nue keys x s t makes) (omega (arith, ap length (first_call nue keys x a s t owner makes))) below

-- after a step nobody has one who had none and sleeps on
pub quiet_after : (s : SetupView) (lists : List (List DataCall)) (step : CallStep) (old new : Progress) → Acts s lists step old new → IsQuiet s lists old → IsQuiet s lists new
quiet_after s lists step old new acts quiet b asleep t (y, owner, makes) =
    quiet b (acts.kept b asleep) (standing_after s.nue (setup_key s) y (standing_of lists old)) (y, owner, ready_makes s.nue (setup_key s) y (standing_of lists old) ready)
  where
    sleeps : (k : ℕ) → owner_of y ≡ k → Sleeps new k
    sleeps k is = subst (Sleeps new) (sym owner ∙ is) asleep

    caller : (k : ℕ) → callers s.nue (setup_key s) y k ≡ true → callers s.nue (setup_key s) step k ≡ true → ⊥
    caller k in_y in_step =
        ⊎_elim
        (λ (is : owner_of y ≡ k). acts.woken_callers k in_step (sleeps k is))
        (λ (is : owner_of y ≡ partner_of (setup_key s) k (calls_left lists new.next k)). acts.woken_partners k in_step (sleeps _ is))
        (owner_found s.nue (setup_key s) y k (calls_left lists new.next k) (t.calls k) makes.proper in_y (makes.calls.changed k in_y))

    call : (k : ℕ) → callers s.nue (setup_key s) y k ≡ true → BeginsWith (call_at y k) (calls_left lists old.next k)
    call k in_y =
        ⊎_elim
        (λ (in_step : callers s.nue (setup_key s) step k ≡ true). absurd (caller k in_y in_step))
        (λ (other : callers s.nue (setup_key s) step k ≡ false). (t.calls k, acts.makes.calls.others k other ∙ makes.calls.changed k in_y))
        (true_or_false (callers s.nue (setup_key s) step k))

    slot_taken : (k : ℕ) → looks_at_slot y k ≡ true → looks_at_slot step k ≡ true → ⊥
    slot_taken k at_y at_step =
        let after : slot_after step ≡ slot_before y = sym (acts.makes.slots.changed k at_step).1 ∙ (makes.slots.changed k at_y).0 in
        ⊎_elim
        (λ (own : (slot_before y ≡ None) × (owner_of y ≡ k)). acts.woken_slot k at_step (sleeps k own.1))
        (λ (taken : (m : Outgoing) × (slot_before y ≡ Some m) × (owner_of y ≡ m.to)). acts.woken_taker taken.0 (after ∙ taken.1) (sleeps taken.0.to taken.2))
        (slot_owner s.nue (setup_key s) y k at_y)

    slot : (k : ℕ) → looks_at_slot y k ≡ true → slot_of_lists lists old.posted k ≡ slot_before y
    slot k at_y =
        ⊎_elim
        (λ (at_step : looks_at_slot step k ≡ true). absurd (slot_taken k at_y at_step))
        (λ (other : looks_at_slot step k ≡ false). acts.makes.slots.others k other ∙ (makes.slots.changed k at_y).0)
        (true_or_false (looks_at_slot step k))

    ready : IsReady s.nue (setup_key s) y (standing_of lists old)
    ready = record { proper = makes.proper; calls = call; slot = slot }

-- steps one after the other
pub leads_none : (s : SetupView) (x : Standing) → Leads s x x
leads_none s x = (0, refl)

pub leads_step : (s : SetupView) (a : ℕ) (x y z : Standing) → Leads s x y → OwnStep s.nue (setup_key s) a y z → Leads s x z
leads_step s a x y z (n, run) own = joined_runs (OwnStep s.nue (setup_key s)) (λ w. w ≡ z) n 1 x y run (a, z, own, refl)

pub leads_more : (s : SetupView) (x y z : Standing) → Leads s x y → Leads s y z → Leads s x z
leads_more s x y z (n, run) (m, rest) = joined_runs (OwnStep s.nue (setup_key s)) (λ w. w ≡ z) n m x y run rest

-- the steps of a log that lead to a standing at which nobody has one end there
pub ends_in : (log : LogView) (s : SetupView) (start e : Standing) → s.nue ≡ log.nue → s.comms ≡ log.comms → start ≡ record { calls = calls_at_rank log.lists; slots = λ k. None } → Leads s start e → IsStill (OwnStep s.nue (setup_key s)) e → EndsIn log e
ends_in log s start e nue comms is (n, run) still =
    let Step : ℕ → Standing → Standing → Type 0 = OwnStep s.nue (setup_key s) in
    let ended : Runs Step (EndsAt Step e) n start = other_end Step (λ x. x ≡ e) (EndsAt Step e) (λ x at. (at, subst (IsStill Step) (sym at) still)) n start run in
    let P : ℕ → List CommRule → Standing → Type 0 = λ m c x. Runs (OwnStep m (key_of c)) (EndsAt (OwnStep m (key_of c)) e) n x in
    (n, subst (λ (x : Standing). P log.nue log.comms x) is (subst (λ (c : List CommRule). P log.nue c start) comms (subst (λ (m : ℕ). P m s.comms start) nue ended)))

-- a verdict that tells of the end of a log's steps tells whether the log is legal
pub legal_told : (log : LogView) (v : Verdict) (e : Standing) → EndsIn log e → VerdictTells (calls_at_rank log.lists) v e → (v ≡ verdict.Yes) ↔ IsLegalLog log
legal_told log v e ends tells = (to v tells, from v tells)
  where
    to : (w : Verdict) → VerdictTells (calls_at_rank log.lists) w e → w ≡ verdict.Yes → IsLegalLog log
    to verdict.Yes told is = (e.slots, legal_from_end log.nue _ ends.0 (calls_at_rank log.lists) e.slots e ends.1 (record { calls = told; slots = λ k. refl }))
    to (verdict.No rank call) told is = absurd cc

    from : (w : Verdict) → VerdictTells (calls_at_rank log.lists) w e → IsLegalLog log → w ≡ verdict.Yes
    from verdict.Yes told legal = refl
    from (verdict.No rank call) told (slots, legal) =
        absurd (told.left ((end_of_legal log.nue _ ends.0 (calls_at_rank log.lists) slots e ends.1 legal).calls rank))

-- the steps of a log end at one standing
pub one_end_told : (log : LogView) (v : Verdict) (e f : Standing) → EndsIn log e → VerdictTells (calls_at_rank log.lists) v e → EndsIn log f → VerdictTells (calls_at_rank log.lists) v f
one_end_told log v e f (n, run) tells (m, other) =
    subst (VerdictTells (calls_at_rank log.lists) v) (one_end _ (only_one log.nue _) (either_order log.nue _) n m _ e f run other).1 tells

-- ranks have one root where they have one key
pub roots_test : (key : ℕ → ℕ) (r q : ℕ) → (root_in key r == root_in key q) ≡ (key r == key q)
roots_test key r q =
    ⊎_elim
    (λ (same : key r ≡ key q). eq-eqb _ _ (root_once key r q same) ∙ sym (eq-eqb _ _ same))
    (λ (other : key r ≡ key q → ⊥). ne_eqb _ _ (λ is. other (same_root key r q is)) ∙ sym (ne_eqb _ _ other))
    (cases_eq (key r) (key q))

-- the partner by the first call left
pub partner_at : (keys : ℕ → ℕ → ℕ) (k : ℕ) (calls : List DataCall) (n : ℕ) (c : DataCall) → slice_get calls n ≡ Some c → partner_of keys k (drop n calls) ≡ partner_of keys k (c ∷ drop (n + 1) calls)
partner_at keys k calls n c is = ap (partner_of keys k) (drop-at calls n c is)

pub partner_none : (keys : ℕ → ℕ → ℕ) (k : ℕ) (calls : List DataCall) (n : ℕ) → slice_get calls n ≡ None → partner_of keys k (drop n calls) ≡ k
partner_none keys k calls n is = ap (partner_of keys k) (drop-none calls n is)

-- what is left of lists, as a verdict
pub first_left : (lists : List (List DataCall)) (p : Progress) (r : ℕ) → (slice_get (calls_at_rank lists r) (slice_index p.next r) ≡ None → ⊥) → ((k : ℕ) → k < r → slice_get (calls_at_rank lists k) (slice_index p.next k) ≡ None)
    → IsFirstLeft (calls_at_rank lists) (standing_of lists p) r (slice_index p.next r + 1)
first_left lists p r some none =
    let n = slice_index p.next r in
    let calls = calls_at_rank lists r in
    let within : n < length calls = ⊎_elim (λ (below : n < length calls). below) (λ (past : length calls ≤ n). absurd (some (slice_get_past calls n past))) (cases_lt n (length calls)) in
    record {
      lower = λ k under. drop-none (calls_at_rank lists k) (slice_index p.next k) (none k under);
      left = λ is. let gone = ap length is in omega (arith, within, gone, length-drop n calls);
      used = take n calls;
      whole = sym (take-append-drop n calls);
      counted = ap (λ (m : ℕ). m + 1) (sym (length-take-le n calls (omega (arith, within))));
    }

pub past_none : (lists : List (List DataCall)) (next : List ℕ) (k : ℕ) → length lists ≤ k → calls_left lists next k ≡ []
past_none lists next k past = ap (λ (l : List DataCall). drop (slice_index next k) l) (get_or_past lists k [] past) ∙ drop-none [] (slice_index next k) refl

pub none_left : (lists : List (List DataCall)) (p : Progress) (n : ℕ) → length lists ≤ n → ((k : ℕ) → k < n → slice_get (calls_at_rank lists k) (slice_index p.next k) ≡ None) → (k : ℕ) → calls_left lists p.next k ≡ []
none_left lists p n all none k =
    ⊎_elim
    (λ (below : k < n). drop-none (calls_at_rank lists k) (slice_index p.next k) (none k below))
    (λ (past : n ≤ k). past_none lists p.next k (omega (arith, past, all)))
    (cases_lt k n)

pub some_get : {A B : Type 0} (f : A → B) (o : Option A) (g : Option B) → option_map f o ≡ g → is_some o ≡ true → g ≡ None → ⊥
some_get f (Some x) g is some none = let never : Some (f x) ≡ None = is ∙ none in absurd cc
some_get f None g is some none = absurd (false≢true some)

-- the lists of a log are such that an audit can go through them
text_length : (lines : List (List ℕ)) → length lines ≤ length (text_of lines)
text_length [] = omega arith
text_length (line ∷ lines) = omega (arith, text_length lines, length-append (line ++ 10 ∷ []) (text_of lines), length-append line (10 ∷ []))

list_length : (lists : List (List DataCall)) (n r : ℕ) → length (get_or lists r []) ≤ length (table_lines call_lines n lists)
list_length [] n r = omega arith
list_length (calls ∷ lists) n zero = omega (arith, length-append (call_lines n calls) (table_lines call_lines (n + 1) lists), length-map calls (λ call. line_of (call_words n call)))
list_length (calls ∷ lists) n (suc r) = omega (arith, length-append (call_lines n calls) (table_lines call_lines (n + 1) lists), list_length lists (n + 1) r)

pub few_calls : (log : LogView) (r : ℕ) → IsFileLog log → length (calls_at_rank log.lists r) < 4294967295
few_calls log r is =
    omega (arith, is.fits, text_length (log_lines log), list_length log.lists 0 r, length-append (table_lines rule_lines 0 log.comms) (table_lines call_lines 0 log.lists))

pub are_lists : (log : LogView) (s : SetupView) (lists : List (List DataCall)) → IsFileLog log → s.nue ≡ log.nue → s.comms ≡ log.comms → lists ≡ log.lists → AreLists s lists
are_lists log s lists is nue comms same = record {
  ranks = ap length same ∙ is.written.ranks;
  ranks_within = omega (arith, nue, is.written.ranks_within);
  few = λ r. subst (λ (l : List (List DataCall)). length (calls_at_rank l r) < 4294967295) (sym same) (few_calls log r is);
  no_others = λ r above. ap (λ (l : List (List DataCall)). calls_at_rank l r) same ∙ is.written.no_others r (omega (arith, nue, above));
  calls = λ r.
      subst (λ (m : ℕ). All (IsLogCall m s.comms r) (calls_at_rank lists r)) (sym nue)
      (subst (λ (c : List CommRule). All (IsLogCall log.nue c r) (calls_at_rank lists r)) (sym comms)
      (subst (λ (l : List (List DataCall)). All (IsLogCall log.nue log.comms r) (calls_at_rank l r)) (sym same) (is.written.calls r)));
}

-- where an audit begins, each rank is awake or has no call
pub start_quiet : (s : SetupView) (lists : List (List DataCall)) (p : Progress) → AreLists s lists → ((b : ℕ) → b < 48 → Sleeps p b → ⊥) → IsQuiet s lists p
start_quiet s lists p are awake b asleep t =
    ⊎_elim
    (λ (below : b < 48). absurd (awake b below asleep))
    (λ (past : 48 ≤ b). no_step s.nue (setup_key s) b (standing_of lists p) t (past_none lists p.next b (omega (arith, past, are.ranks))))
    (cases_lt b 48)

start_standing : (log : LogView) (lists : List (List DataCall)) (p : Progress) → lists ≡ log.lists → ((k : ℕ) → slice_index p.next k ≡ 0) → ((k : ℕ) → slice_index_or p.posted k None ≡ None)
    → standing_of lists p ≡ record { calls = calls_at_rank log.lists; slots = λ k. None }
start_standing log lists p same next posted = λ i. record { calls = λ k. calls k i; slots = λ k. slots k i }
  where
    calls : (k : ℕ) → calls_left lists p.next k ≡ calls_at_rank log.lists k
    calls k = ap (λ (n : ℕ). drop n (calls_at_rank lists k)) (next k) ∙ ap (λ (l : List (List DataCall)). calls_at_rank l k) same

    slots : (k : ℕ) → slot_of_lists lists p.posted k ≡ None
    slots k = ap (λ (o : Option ℕ). option_and_then (outgoing_at (calls_at_rank lists k)) o) (posted k)

-- where an audit ends, it has come to the end of the log's steps
pub judged : (log : LogView) (s : SetupView) (lists : List (List DataCall)) (first last : Progress) (v : Verdict) → s.nue ≡ log.nue → s.comms ≡ log.comms → lists ≡ log.lists
    → ((k : ℕ) → slice_index first.next k ≡ 0) → ((k : ℕ) → slice_index_or first.posted k None ≡ None)
    → length lists ≡ 48 → Leads s (standing_of lists first) (standing_of lists last) → IsQuiet s lists last → ((b : ℕ) → b < 48 → Sleeps last b) → VerdictTells (calls_at_rank lists) v (standing_of lists last)
    → (e : Standing) × EndsIn log e × VerdictTells (calls_at_rank log.lists) v e
judged log s lists first last v nue comms same next posted ranks leads quiet asleep tells = (
  standing_of lists last,
  ends_in log s (standing_of lists first) (standing_of lists last) nue comms (start_standing log lists first same next posted) leads still,
  subst (λ (l : List (List DataCall)). VerdictTells (calls_at_rank l) v (standing_of lists last)) same tells,
)
  where
    still : (a : ℕ) (t : Standing) → OwnStep s.nue (setup_key s) a (standing_of lists last) t → ⊥
    still a t =
        ⊎_elim
        (λ (below : a < 48). quiet a (asleep a below) t)
        (λ (past : 48 ≤ a). no_step s.nue (setup_key s) a (standing_of lists last) t (past_none lists last.next a (omega (arith, past, ranks))))
        (cases_lt a 48)
