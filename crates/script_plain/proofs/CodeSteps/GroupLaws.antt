-- The groups of a script's communicators, as the code finds them.
use Rattle.std.proofs.Common.{◌≡◌, ◌≢◌, ℕ, suc, ◌+◌, ◌<◌, ◌≤◌, ◌==◌, Bool, true, false, ◌&&◌, nat_lt, if◌then◌else◌, List, [], ◌∷◌, length, set, Option, Some, None, refl, sym, ap, ◌∙◌, subst, arith, slice_get, ⊎_elim}
use Rattle.std.specs.Option.{option_map}
use Rattle.std.proofs.lemmas.Bool.{eq-eqb, cases_eq, cases_lt, lt-ltb}
use Rattle.std.proofs.lemmas.Bool.Decides.{nat_tests}
use Rattle.std.proofs.lemmas.List.{get_or_past}
use Rattle.std.proofs.lemmas.Option.{slice_get_within, same_Some}
use Rattle.scc_base.specs.Communicators.{key_of, key_within, key_under, rule_of}
use Rattle.scc_base.specs.Groups.{is_with, root_in}
use Rattle.scc_base.specs.declared.communicators.CommRule.{CommRule}
use Rattle.scc_base.specs.declared.communicators.CommRule.TheVariants.{Absent}
use Rattle.scc_base.proofs.ChangeLaws.{true_or_false}
use Rattle.scc_base.proofs.GroupFacts.{root_is, root_once, same_root}
use Rattle.script_machine.specs.Next.{Next, is_at_barrier, past_barrier}
use Rattle.plain_meaning.specs.Step.{all_at_barrier, by_rank, past_if}
use Rattle.script_machine.proofs.Choices as choices
use Rattle.plain_meaning.proofs.Runs.RunLaws.{get-by_rank, stand_there, stands_there}
use Rattle.plain_meaning.proofs.Orders.OrderLaws.{different, get_set, kept, list_same}

absent_key : (comms : List CommRule) (comm r : ℕ) → rule_of comms comm ≡ Absent → key_of comms comm r ≡ 0
unfolding key_of
absent_key comms comm r is = ap (λ (rule : CommRule). key_under rule (key_within 15 comms) r) is

-- a communicator that no rule makes is one group
pub absent_root : (comms : List CommRule) (comm r : ℕ) → rule_of comms comm ≡ Absent → 0 ≡ root_in (key_of comms comm) r
absent_root comms comm r is =
    root_is (key_of comms comm) r 0 (absent_key comms comm 0 is ∙ sym (absent_key comms comm r is)) refl

-- ranks with one root are one group
pub same_group : (key : ℕ → ℕ) (r o : ℕ) (b : Bool) → b ≡ (root_in key o == root_in key r) → b ≡ is_with key r o
same_group key r o b is =
    let forward : root_in key o ≡ root_in key r → key o ≡ key r = same_root key o r in
    let back : key o ≡ key r → root_in key o ≡ root_in key r = root_once key o r in
    is ∙ grind (arith, nat_tests)

not_below : (a b : ℕ) → b ≤ a → nat_lt a b ≡ false
not_below a b past = grind (arith, nat_tests)

-- sixteen communicators have no rule from 16 on
pub past_sixteen : (comms : List CommRule) (comm : ℕ) → length comms ≡ 16 → 16 ≤ comm → rule_of comms comm ≡ Absent
past_sixteen comms comm sixteen past = get_or_past comms comm Absent (omega (arith, sixteen, past))

-- a member that does not stand at the barrier
pub none_at_barrier : {U : Type 0} (next : U → Next U) (comm : ℕ) (test : ℕ → Bool) (us : List U) (k : ℕ) (u : U) → test k ≡ true → slice_get us k ≡ Some u → is_at_barrier comm (next u) ≡ false → false ≡ all_at_barrier next comm test us
none_at_barrier next comm test us k u member here not_there =
    ⊎_elim
    (λ (all : all_at_barrier next comm test us ≡ true). absurd (let e = stands_there next comm test us k u all member here in cc))
    (λ (no : all_at_barrier next comm test us ≡ false). sym no)
    (true_or_false (all_at_barrier next comm test us))

-- one rank more that stands at the barrier, or is no member
pub one_more_stands : {U : Type 0} (next : U → Next U) (comm : ℕ) (test : ℕ → Bool) (us : List U) (n : ℕ) → ((k : ℕ) (u : U) → k < n → test k ≡ true → slice_get us k ≡ Some u → is_at_barrier comm (next u) ≡ true) → ((u : U) → test n ≡ true → slice_get us n ≡ Some u → is_at_barrier comm (next u) ≡ true) → (k : ℕ) (u : U) → k < n + 1 → test k ≡ true → slice_get us k ≡ Some u → is_at_barrier comm (next u) ≡ true
one_more_stands next comm test us n before now k u below member here =
    ⊎_elim
    (λ (is : k ≡ n). now u (subst (λ (x : ℕ). test x ≡ true) is member) (subst (λ (x : ℕ). slice_get us x ≡ Some u) is here))
    (λ (apart : k ≢ n). before k u (omega arith) member here)
    (cases_eq k n)

pub all_stand : {U : Type 0} (next : U → Next U) (comm : ℕ) (test : ℕ → Bool) (us : List U) (n : ℕ) → ((k : ℕ) (u : U) → k < n → test k ≡ true → slice_get us k ≡ Some u → is_at_barrier comm (next u) ≡ true) → length us ≤ n → true ≡ all_at_barrier next comm test us
all_stand next comm test us n each past =
    sym (stand_there next comm test us (λ k u member here. each k u (omega (arith, slice_get_within us k u here, past)) member here))

past_same : {U : Type 0} (next : U → Next U) (us : List U) (f g : ℕ → Bool) → ((k : ℕ) → k < length us → f k ≡ g k) → by_rank (λ r. past_if next (f r)) us ≡ by_rank (λ r. past_if next (g r)) us
past_same next [] f g each = refl
past_same next (u ∷ us) f g each =
    ap (λ (b : Bool). past_if next b u ∷ by_rank (λ r. past_if next (f (suc r))) us) (each 0 (omega arith))
    ∙ ap (λ (vs : List _). past_if next (g 0) u ∷ vs) (past_same next us (λ k. f (suc k)) (λ k. g (suc k)) (λ k below. each (suc k) (omega (arith, below))))

none_past : {U : Type 0} (next : U → Next U) (us : List U) → us ≡ by_rank (λ r. past_if next false) us
none_past next [] = refl
none_past next (u ∷ us) = ap (λ (vs : List _). u ∷ vs) (none_past next us)

and_false : (b : Bool) → (b && false) ≡ false
and_false true = refl
and_false false = refl

-- the ranks below n that pass the test
abbrev pub below : ℕ → (ℕ → Bool) → ℕ → Bool
below n test k = nat_lt k n && test k

pub past_start : {U : Type 0} (next : U → Next U) (test : ℕ → Bool) (us : List U) → us ≡ by_rank (λ r. past_if next (below 0 test r)) us
past_start next test us =
    none_past next us ∙ past_same next us (λ k. false) (below 0 test) (λ k inside. sym (ap (λ (b : Bool). b && test k) (not_below k 0 (omega arith))))

pub past_end : {U : Type 0} (next : U → Next U) (test : ℕ → Bool) (us : List U) (n : ℕ) → length us ≤ n → by_rank (λ r. past_if next (below n test r)) us ≡ by_rank (λ r. past_if next (test r)) us
past_end next test us n past =
    past_same next us (below n test) test (λ k inside. ap (λ (b : Bool). b && test k) (lt-ltb k n (omega (arith, inside, past))))

below_more : (test : ℕ → Bool) (n k : ℕ) → k ≢ n → below n test k ≡ below (n + 1) test k
below_more test n k apart =
    ⊎_elim
    (λ (less : k < n). ap (λ (b : Bool). b && test k) (lt-ltb k n less ∙ sym (lt-ltb k (n + 1) (omega (arith, less)))))
    (λ (more : n ≤ k). ap (λ (b : Bool). b && test k) (not_below k n more ∙ sym (not_below k (n + 1) (omega (arith, more, apart)))))
    (cases_lt k n)

pub past_skips : {U : Type 0} (next : U → Next U) (test : ℕ → Bool) (us : List U) (n : ℕ) → test n ≡ false → by_rank (λ r. past_if next (below n test r)) us ≡ by_rank (λ r. past_if next (below (n + 1) test r)) us
past_skips next test us n out =
    past_same next us (below n test) (below (n + 1) test) (λ k inside.
    ⊎_elim
    (λ (is : k ≡ n). subst (λ (x : ℕ). below n test x ≡ below (n + 1) test x) (sym is) (none n ∙ sym (none (n + 1))))
    (λ (apart : k ≢ n). below_more test n k apart)
    (cases_eq k n))
  where
    none : (m : ℕ) → below m test n ≡ false
    none m = ap (λ (b : Bool). nat_lt n m && b) out ∙ and_false (nat_lt n m)

pub past_takes : {U : Type 0} (next : U → Next U) (test : ℕ → Bool) (us before : List U) (n : ℕ) (u : U) → before ≡ by_rank (λ r. past_if next (below n test r)) us → test n ≡ true → slice_get us n ≡ Some u → set before n (past_barrier (next u) u) ≡ by_rank (λ r. past_if next (below (n + 1) test r)) us
past_takes next test us before n u is member here =
    ap (λ (vs : List _). set vs n (past_barrier (next u) u)) is
    ∙ list_same (set (by_rank (λ r. past_if next (below n test r)) us) n (past_barrier (next u) u)) (by_rank (λ r. past_if next (below (n + 1) test r)) us) (λ k.
    get_set (by_rank (λ r. past_if next (below n test r)) us) n (past_barrier (next u) u) k
    ∙ ap (option_map (λ v. if k == n then past_barrier (next u) u else v)) (get-by_rank (λ r. past_if next (below n test r)) us k)
    ∙ each k
    ∙ sym (get-by_rank (λ r. past_if next (below (n + 1) test r)) us k))
  where
    at_rank : (k : ℕ) → k ≡ n → (o : Option _) → slice_get us k ≡ o → option_map (λ v. if k == n then past_barrier (next u) u else v) (option_map (past_if next (below n test k)) o) ≡ option_map (past_if next (below (n + 1) test k)) o
    at_rank k same None o = refl
    at_rank k same (Some v) o =
        let v_is : u ≡ v = same_Some u v (sym here ∙ ap (slice_get us) (sym same) ∙ o) in
        let now : below (n + 1) test k ≡ true = ap (λ (b : Bool). b && test k) (lt-ltb k (n + 1) (omega (arith, same))) ∙ ap test same ∙ member in
        ap Some (choices.chosen (k == n) (past_barrier (next u) u) (past_if next (below n test k) v) (eq-eqb k n same)
        ∙ ap (λ (w : _). past_barrier (next w) w) v_is ∙ sym (choices.chosen (below (n + 1) test k) (past_barrier (next v) v) v now))

    elsewhere : (k : ℕ) → k ≢ n → (o : Option _) → option_map (λ v. if k == n then past_barrier (next u) u else v) (option_map (past_if next (below n test k)) o) ≡ option_map (past_if next (below (n + 1) test k)) o
    elsewhere k apart None = refl
    elsewhere k apart (Some v) =
        ap Some (choices.other (k == n) (past_barrier (next u) u) (past_if next (below n test k) v) (different k n apart)
        ∙ ap (λ (b : Bool). past_if next b v) (below_more test n k apart))

    each : (k : ℕ) → option_map (λ v. if k == n then past_barrier (next u) u else v) (option_map (past_if next (below n test k)) (slice_get us k)) ≡ option_map (past_if next (below (n + 1) test k)) (slice_get us k)
    each k =
        ⊎_elim
        (λ (is : k ≡ n). at_rank k is (slice_get us k) refl)
        (λ (apart : k ≢ n). elsewhere k apart (slice_get us k))
        (cases_eq k n)

-- a rank that is not past the barrier yet is as it was
pub past_unchanged : {U : Type 0} (next : U → Next U) (test : ℕ → Bool) (us before : List U) (n : ℕ) (u : U) → before ≡ by_rank (λ r. past_if next (below n test r)) us → slice_get before n ≡ Some u → slice_get us n ≡ Some u
past_unchanged next test us before n u is here =
    let at_rank : slice_get before n ≡ slice_get us n =
    ap (λ (vs : List _). slice_get vs n) is ∙ get-by_rank (λ r. past_if next (below n test r)) us n
    ∙ kept (past_if next (below n test n)) (slice_get us n) (λ v there. ap (λ (b : Bool). past_if next (b && test n) v) (not_below n n (omega arith))) in
    sym at_rank ∙ here
