-- How the marks of repeats are counted: a repeat's body comes as often as its statements are counted.
use Rattle.std.proofs.Common.{◌≡◌, ℕ, zero, suc, ◌+◌, ◌-◌, ◌*◌, ◌≤◌, ◌==◌, Bool, true, false, cond, List, [], ◌∷◌, ◌++◌, length, map, take, Some, refl, sym, ap, ◌∙◌, arith, slice_get, append_assoc, Option}
use Rattle.std.proofs.Math.Nat.{mul_assoc, suc-mul, zero-mul}
use Rattle.std.proofs.Math.Seq.{take-append_seam}
use Rattle.std.proofs.lemmas.List.{append-nil, length-append, length-map}
use Rattle.std.specs.Option.{option_map_or}
use Rattle.std.specs.Prelude.{nat_lt, remove, slice_index}
use Rattle.scc_base.specs.Communicators.{key_of, rule_of}
use Rattle.scc_base.specs.Groups.{members_in, place_in, size_in}
use Rattle.scc_base.specs.Setups.{SetupView}
use Rattle.scc_base.specs.declared.communicators.CommRule.TheVariants as rule
use Rattle.groups.specs.Collectives.{comm_of, other_steps, root_place, root_steps}
use Rattle.groups.specs.declared.collectives.Coll.{Coll}
use Rattle.groups.specs.declared.collectives.Coll.TheVariants as coll
use Rattle.groups.specs.declared.collectives.Step.{Step}
use Rattle.script_rules.specs.Checks.{has_root, open_of, repeats_after, turns_in}
use Rattle.script_rules.specs.Closed.{AreMatched, StayInSection, HavePasses}
use Rattle.script_rules.specs.Effects.{effect_of}
use Rattle.script_rules.specs.Script.{rules_of}
use Rattle.script_rules.specs.Settled.{AreInLine}
use Rattle.script_rules.specs.declared.script.Item.{Item}
use Rattle.script_rules.specs.declared.script.Stmt.{Stmt}
use Rattle.script_rules.specs.declared.script.Stmt.TheVariants as stmt
use Rattle.script_rules.proofs.SettledLemmas.{same-more}
use Rattle.script_rules.specs.declared.effect.Nesting.TheVariants as nesting
use Rattle.script_machine.specs.Program.{Act, Prim, Unrolled, copies, in_front, unrolled_repeat}

-- what a statement does, in its line
abbrev pub in_line : ℕ → List Act → List Prim
in_line line acts = map (λ act. record { line = line; act = act }) acts

pub lined_up : (line : ℕ) (acts : List Act) → length (map Some (in_line line acts)) ≡ length acts
lined_up line acts = length-map (in_line line acts) Some ∙ length-map acts (λ act. record { line = line; act = act })

-- sums and copies
pub spread : (a b c : ℕ) → a * (b + c) ≡ a * b + a * c
spread zero b c = omega (arith, zero-mul (b + c), zero-mul b, zero-mul c)
spread (suc a) b c = omega (arith, suc-mul a (b + c), suc-mul a b, suc-mul a c, spread a b c)

pub length_copies : (n : ℕ) (prims : List (Option Prim)) → length (copies n prims) ≡ n * length prims
length_copies zero prims = sym (zero-mul (length prims))
length_copies (suc n) prims = omega (arith, length-append prims (copies n prims), length_copies n prims, suc-mul n (length prims))

-- the statement at a seam, and the last of a list
pub seam : {A : Type 0} (front : List A) (x : A) (rest : List A) → slice_get (front ++ x ∷ rest) (length front) ≡ Some x
seam [] x rest = refl
seam (y ∷ front) x rest = seam front x rest

pub one_less : {A : Type 0} (front : List A) (last : A) → length (front ++ last ∷ []) - 1 ≡ length front
one_less front last = omega (arith, length-append front (last ∷ []))

pub popped : {A : Type 0} (front : List A) (last : A) → take (length (front ++ last ∷ []) - 1) (front ++ last ∷ []) ≡ front
popped front last = ap (λ (n : ℕ). take n (front ++ last ∷ [])) (one_less front last) ∙ take-append_seam front (last ∷ [])

-- what a repeat opens
pub one_opened : (past : List Item) (times end place : ℕ) → length (repeats_after (nesting.Opens times) place (open_of past)) ≡ length (open_of past) + 1
one_opened past times end place = length-append (open_of past) _

pub turns_opened : (past : List Item) (times end place : ℕ) → turns_in (repeats_after (nesting.Opens times) place (open_of past)) ≡ turns_in (open_of past) * times
turns_opened past times end place =
    ap (λ (n : ℕ). option_map_or (λ r. r.turns) (slice_get (repeats_after (nesting.Opens times) place (open_of past)) n) 1) (one_less (open_of past) _)
    ∙ ap (λ o. option_map_or (λ r. r.turns) o 1) (seam (open_of past) _ [])

-- how often a statement in each open repeat runs, the innermost one first: each was opened behind statements of its own
abbrev pub IsStack : List Item → List ℕ → Type 0
IsStack past [] = open_of past ≡ []
IsStack past (t ∷ stack) =
    (before : List Item) × (times : ℕ) × (end : ℕ) × (place : ℕ) × (open_of past ≡ repeats_after (nesting.Opens times) place (open_of before)) × (t ≡ turns_in (open_of before) * times) × IsStack before stack

abbrev pub top : List ℕ → ℕ
top [] = 1
top (t ∷ stack) = t

pub top_of : (past : List Item) (stack : List ℕ) → IsStack past stack → turns_in (open_of past) ≡ top stack
top_of past [] none = ap turns_in none
top_of past (t ∷ stack) (before, times, end, place, is, turns, rest) = ap turns_in is ∙ turns_opened before times end place ∙ sym turns

pub same_stack : (past before : List Item) (stack : List ℕ) → open_of past ≡ open_of before → IsStack before stack → IsStack past stack
same_stack past before [] same none = same ∙ none
same_stack past before (t ∷ stack) same (b, times, end, place, is, turns, rest) = (b, times, end, place, same ∙ is, turns, rest)

-- a statement that is no repeat and no end
pub record IsOther (s : Stmt) : Type 0 where
  pub opens : (place : ℕ) (past : List Item) → repeats_after (effect_of s).nesting place (open_of past) ≡ open_of past
  pub stays : (effect_of s).nesting ≡ nesting.Stays

-- what is true of repeats, of ends and of the others
pub sorted : (P : Stmt → Type 0) → ((times end : ℕ) → P (stmt.Repeat times end)) → ((start : ℕ) → P (stmt.End start)) → ((s : Stmt) → IsOther s → P s) → (s : Stmt) → P s
sorted P repeats ends others (stmt.Repeat times end) = repeats times end
sorted P repeats ends others (stmt.End start) = ends start
sorted P repeats ends others s = others s (record { opens = λ place past. refl; stays = refl })

-- what stands behind the open repeats, each as often as it runs
abbrev pub weigh : List ℕ → List (List (Option Prim)) → ℕ
weigh [] afterwards = 0
weigh (t ∷ stack) [] = 0
weigh (t ∷ stack) (next ∷ afterwards) = top stack * length next + weigh stack afterwards

-- what items make is as much as they cost
abbrev pub Counts : ℕ → List ℕ → Unrolled (Option Prim) → Type 0
Counts m stack u = (m ≡ top stack * length u.here + weigh stack u.afterwards) × (length u.afterwards ≡ length stack)

pub counts_stays : (turns cost m : ℕ) (stack : List ℕ) (prims : List (Option Prim)) (u : Unrolled (Option Prim)) → turns ≡ top stack → length prims ≡ cost → Counts m stack u
    → Counts (turns * cost + m) stack (in_front nesting.Stays prims u)
counts_stays turns cost m stack prims u is many c =
    let one : turns * cost ≡ top stack * length prims = ap (λ (t : ℕ). t * cost) is ∙ ap (λ (n : ℕ). top stack * n) (sym many) in
    let both : top stack * length (prims ++ u.here) ≡ top stack * length prims + top stack * length u.here = ap (λ (n : ℕ). top stack * n) (length-append prims u.here) ∙ spread (top stack) (length prims) (length u.here) in
    (omega (arith, one, both, c.0), c.1)

pub counts_closes : (turns m t place : ℕ) (stack : List ℕ) (prims : List (Option Prim)) (u : Unrolled (Option Prim)) → turns ≡ t → length prims ≡ 1 → Counts m stack u
    → Counts (turns * 1 + m) (t ∷ stack) (in_front (nesting.Closes place) prims u)
counts_closes turns m t place stack prims u is many c =
    let one : turns * 1 ≡ t * length prims = ap (λ (t : ℕ). t * 1) is ∙ ap (λ (n : ℕ). t * n) (sym many) in
    (omega (arith, one, c.0), ap suc c.1)

-- a body and the passes behind it are as many as the repeat says
pub passes : (t times b : ℕ) → 1 ≤ times → t * b + t * ((times - 1) * b) ≡ t * times * b
passes t zero b once = absurd (omega (arith, once))
passes t (suc k) b once =
    let less : suc k - 1 ≡ k = omega arith in
    let far : t * ((suc k - 1) * b) ≡ t * (k * b) = ap (λ (n : ℕ). t * (n * b)) less in
    let all : t * suc k * b ≡ t * (k * b + b) = mul_assoc t (suc k) b ∙ ap (λ (n : ℕ). t * n) (suc-mul k b) in
    omega (arith, far, all, spread t (k * b) b)

pub counts_repeated : (turns times m : ℕ) (stack : List ℕ) (here : List (Option Prim)) (afterwards : List (List (Option Prim))) → turns ≡ top stack → 1 ≤ times
    → Counts m (turns * times ∷ stack) (record { here = here; afterwards = afterwards }) → Counts (turns * 0 + m) stack (unrolled_repeat times here afterwards)
counts_repeated turns times m stack here [] is once c = absurd (omega (arith, c.1))
counts_repeated turns times m stack here (next ∷ afterwards) is once c =
    let t = top stack in
    let b = length here in
    let rest = length (copies (times - 1) here ++ next) in
    let none : turns * 0 ≡ 0 = omega arith in
    let all : turns * times * b ≡ t * times * b = ap (λ (x : ℕ). x * times * b) is in
    let many : t * length (here ++ (copies (times - 1) here ++ next)) ≡ t * b + t * rest = ap (λ (n : ℕ). t * n) (length-append here (copies (times - 1) here ++ next)) ∙ spread t b rest in
    let more : t * rest ≡ t * ((times - 1) * b) + t * length next =
    ap (λ (n : ℕ). t * n) (length-append (copies (times - 1) here) next ∙ ap (λ (n : ℕ). n + length next) (length_copies (times - 1) here)) ∙ spread t ((times - 1) * b) (length next) in
    (omega (arith, none, all, many, more, passes t times b once, c.0), omega (arith, c.1))

-- the steps of a call by the key of its communicator
abbrev pub steps_by : ℕ → (ℕ → ℕ) → ℕ → Coll → List Step
steps_by nue key r c =
    cond (place_in key r == root_place c) (root_steps c (remove (members_in nue key r) (root_place c))) (other_steps c (slice_index (members_in nue key r) (root_place c)))

-- a broadcast has as many steps whatever its length
pub cast_steps : (b : Bool) (comm root len : ℕ) (list : List ℕ) (from : ℕ)
    → length (cond b (root_steps (coll.Bcast comm root len) list) (other_steps (coll.Bcast comm root len) from)) ≡ length (cond b (root_steps (coll.Bcast comm root 0) list) (other_steps (coll.Bcast comm root 0) from))
cast_steps true comm root len list from = length-map list _ ∙ sym (length-map list _)
cast_steps false comm root len list from = refl

pub root_by_key : (nue : ℕ) (s run : SetupView) (rank : ℕ) (c : Coll) → s.nue ≡ run.nue → key_of s.comms (comm_of c) ≡ key_of run.comms (comm_of c) → has_root s rank c ≡ has_root run rank c
root_by_key nue s run rank (coll.Bcast comm root len) same keys =
    ap (λ (key : ℕ → ℕ). nat_lt root (size_in s.nue key rank)) keys ∙ ap (λ (n : ℕ). nat_lt root (size_in n (key_of run.comms comm) rank)) same
root_by_key nue s run rank (coll.Reduce comm root len) same keys =
    ap (λ (key : ℕ → ℕ). nat_lt root (size_in s.nue key rank)) keys ∙ ap (λ (n : ℕ). nat_lt root (size_in n (key_of run.comms comm) rank)) same
root_by_key nue s run rank (coll.Allreduce comm len) same keys = refl

-- a rule stays where statements follow
pub rule_on : (rest front : List Item) (c : ℕ) → (rule_of (rules_of front) c ≡ rule.Absent → ⊥) → rule_of (rules_of (front ++ rest)) c ≡ rule_of (rules_of front) c
rule_on [] front c there = ap (λ (items : List Item). rule_of (rules_of items) c) (append-nil front)
rule_on (item ∷ rest) front c there =
    let next = same-more front item c there in
    ap (λ (items : List Item). rule_of (rules_of items) c) (sym (append_assoc front (item ∷ []) rest))
    ∙ rule_on rest (front ++ item ∷ []) c (λ gone. there (sym next ∙ gone))
    ∙ next

-- what is true of statements is true of those before them
pub line_back : (nue : ℕ) (front past : List Item) → AreInLine nue (front ++ past) → AreInLine nue past
line_back nue [] past all = all
line_back nue (item ∷ front) past all = line_back nue front past all.0

pub matched_back : (front past : List Item) → AreMatched (front ++ past) → AreMatched past
matched_back [] past all = all
matched_back (item ∷ front) past all = matched_back front past all.0

pub within_back : (front past : List Item) → StayInSection (front ++ past) → StayInSection past
within_back [] past all = all
within_back (item ∷ front) past all = within_back front past all.0

pub once_back : (front past : List Item) → HavePasses (front ++ past) → HavePasses past
once_back [] past all = all
once_back (item ∷ front) past all = once_back front past all.0
