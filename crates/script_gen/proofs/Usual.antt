-- What the statements of generated scripts make: no posts, and few primitives.
use Rattle.std.proofs.Common.{◌≡◌, ℕ, zero, suc, ◌+◌, ◌-◌, ◌*◌, ◌≤◌, ◌==◌, Bool, true, false, cond, List, [], ◌∷◌, ◌++◌, length, map, Some, refl, sym, ap, subst, arith, length-append}
use Rattle.std.proofs.Math.Nat.{suc-mul}
use Rattle.std.proofs.lemmas.List.{length-map}
use Rattle.std.proofs.lemmas.Nat.{mul-le}
use Rattle.scc_base.specs.Setups.{SetupView}
use Rattle.groups.specs.Collectives.{steps_of}
use Rattle.groups.specs.declared.collectives.Coll.TheVariants as coll
use Rattle.groups.specs.declared.collectives.Step.{Step}
use Rattle.groups.specs.declared.collectives.Step.TheVariants as step
use Rattle.script_rules.specs.declared.script.Item.{Item}
use Rattle.script_rules.specs.declared.script.Stmt.{Stmt}
use Rattle.script_rules.specs.declared.script.Stmt.TheVariants as stmt
use Rattle.script_rules.specs.Effects.{effect_of}
use Rattle.script_rules.specs.Script.{Script, has_rank}
use Rattle.script_rules.specs.declared.effect.Nesting.{Nesting}
use Rattle.script_rules.specs.declared.effect.Nesting.TheVariants as nesting
use Rattle.script_machine.specs.declared.prims.Operands.{Operands}
use Rattle.script_machine.specs.Program.{Act, Prim, Unrolled, acts_of, call_steps, can_call, copies, in_front, nesting_at, part_of, begins, prims_of, program_of, unrolled_repeat, setup_of, unrolled_items}
use Rattle.script_machine.specs.Program.Act.{Post}
use Rattle.script_gen.specs.Scripts.{gen_script_of, lone_script, ring_script}
use Rattle.script_gen.specs.Texts.{turns_of}
use Rattle.script_gen.proofs.Checks.{allreduce_short}

-- a statement such as generated scripts have: a repeat of few turns, a reduction of the world, no post
abbrev pub IsUsual : Stmt → Type 0
IsUsual (stmt.Fill reg len start) = Unit {0}
IsUsual (stmt.RankOf reg ty) = Unit {0}
IsUsual (stmt.Repeat times end) = times ≤ 10
IsUsual (stmt.Send peer reg) = Unit {0}
IsUsual (stmt.Recv peer reg len) = Unit {0}
IsUsual (stmt.Allreduce comm op ty dst src) = comm ≡ 0
IsUsual (stmt.End start) = Unit {0}
IsUsual (stmt.Own own) = Unit {0}
IsUsual _ = ⊥

abbrev pub AreUsual : List Item → Type 0
AreUsual [] = Unit {0}
AreUsual (item ∷ items) = IsUsual item.stmt × AreUsual items

few_turns : (s : ℕ) → turns_of s ≤ 10
few_turns s = omega arith

lone_usual : (s : ℕ) → AreUsual (lone_script s).items
lone_usual s =
    let few = few_turns s in
    (tt, (tt, (few, (refl, (tt, (tt, (tt, (tt, (few, (refl, (tt, (tt, tt))))))))))))

ring_usual : (nue s : ℕ) → AreUsual (ring_script nue s).items
ring_usual nue s =
    let few = few_turns s in
    (tt, (tt, (few, (tt, (tt, (refl, (tt, (tt, (tt, (tt, (tt, (few, (tt, (tt, (refl, (tt, (tt, (tt, tt))))))))))))))))))

-- each statement of a generated script
pub gen_usual : (nue s : ℕ) → AreUsual (gen_script_of nue s).items
gen_usual nue s = by (nue == 1)
  where
    by : (b : Bool) → AreUsual (cond b (lone_script s) (ring_script nue s)).items
    by true = lone_usual s
    by false = ring_usual nue s

-- ---- no posts

-- no post
abbrev pub IsQuiet : Act → Type 0
IsQuiet (Post to reg) = ⊥
IsQuiet _ = Unit {0}

abbrev pub AreQuiet : List Prim → Type 0
AreQuiet [] = Unit {0}
AreQuiet (prim ∷ prims) = IsQuiet prim.act × AreQuiet prims

abbrev AllQuiet : List (List Prim) → Type 0
AllQuiet [] = Unit {0}
AllQuiet (prims ∷ more) = AreQuiet prims × AllQuiet more

abbrev QuietActs : List Act → Type 0
QuietActs [] = Unit {0}
QuietActs (act ∷ acts) = IsQuiet act × QuietActs acts

quiet_both : (one two : List Prim) → AreQuiet one → AreQuiet two → AreQuiet (one ++ two)
quiet_both [] two first second = second
quiet_both (prim ∷ one) two first second = (first.0, quiet_both one two first.1 second)

quiet_copies : (n : ℕ) (prims : List Prim) → AreQuiet prims → AreQuiet (copies n prims)
quiet_copies zero prims quiet = tt
quiet_copies (suc n) prims quiet = quiet_both prims (copies n prims) quiet (quiet_copies n prims quiet)

-- what items make has no post
record IsQuietRun (u : Unrolled Prim) : Type 0 where
  here : AreQuiet u.here
  afterwards : AllQuiet u.afterwards

quiet_repeated : (times : ℕ) (body : List Prim) (afterwards : List (List Prim)) → AreQuiet body → AllQuiet afterwards → IsQuietRun (unrolled_repeat times body afterwards)
quiet_repeated times body [] quiet all = record { here = quiet; afterwards = tt }
quiet_repeated times body (next ∷ afterwards) quiet all =
    record { here = quiet_both body (copies (times - 1) body ++ next) quiet (quiet_both (copies (times - 1) body) next (quiet_copies (times - 1) body quiet) all.0); afterwards = all.1 }

quiet_front : (n : Nesting) (prims : List Prim) (u : Unrolled Prim) → AreQuiet prims → IsQuietRun u → IsQuietRun (in_front n prims u)
quiet_front (nesting.Opens times) prims u quiet run = quiet_repeated times u.here u.afterwards run.here run.afterwards
quiet_front (nesting.Closes start) prims u quiet run = record { here = quiet; afterwards = (run.here, run.afterwards) }
quiet_front nesting.Stays prims u quiet run = record { here = quiet_both prims u.here quiet run.here; afterwards = run.afterwards }

quiet_part : (o : Operands) (b : Bool) (st : Step) → IsQuiet (part_of o b st)
quiet_part o b step.Begin = tt
quiet_part o b (step.Send to head) = tt
quiet_part o b (step.Recv from head) = tt
quiet_part o b step.Fold = tt
quiet_part o b step.Accept = tt
quiet_part o b step.Finish = tt

quiet_parts : (o : Operands) (b : Bool) (steps : List Step) → QuietActs (map (part_of o b) steps)
quiet_parts o b [] = tt
quiet_parts o b (st ∷ steps) = (quiet_part o b st, quiet_parts o b steps)

quiet_acts : (s : SetupView) (rank : ℕ) (statement : Stmt) → IsUsual statement → QuietActs (acts_of s rank statement)
quiet_acts s rank (stmt.Fill reg len start) usual = (tt, tt)
quiet_acts s rank (stmt.RankOf reg ty) usual = (tt, tt)
quiet_acts s rank (stmt.Send peer reg) usual = (tt, tt)
quiet_acts s rank (stmt.Recv peer reg len) usual = (tt, tt)
quiet_acts s rank (stmt.Own own) usual = (tt, tt)
quiet_acts s rank (stmt.Allreduce comm op ty dst src) usual =
    let steps = call_steps s rank (coll.Allreduce comm 0) in
    quiet_parts (record { op = op; ty = ty; dst = dst; src = src; sized = Some src }) (begins steps) steps
quiet_acts s rank (stmt.Repeat times end) usual = tt
quiet_acts s rank (stmt.End start) usual = tt
quiet_acts s rank _ usual = absurd usual

-- acts of a statement's line
abbrev lined : ℕ → List Act → List Prim
lined line acts = map (λ act. record { line = line; act = act }) acts

lined_long : (line : ℕ) (acts : List Act) → length (lined line acts) ≡ length acts
lined_long line [] = refl
lined_long line (act ∷ acts) = ap suc (lined_long line acts)

quiet_lines : (line : ℕ) (acts : List Act) → QuietActs acts → AreQuiet (lined line acts)
quiet_lines line [] quiet = tt
quiet_lines line (act ∷ acts) quiet = (quiet.0, quiet_lines line acts quiet.1)

quiet_prims : (s : SetupView) (rank : ℕ) (item : Item) → IsUsual item.stmt → AreQuiet (prims_of s rank item)
quiet_prims s rank item usual = by (has_rank item.who rank)
  where
    by : (b : Bool) → AreQuiet (cond b (lined item.line (acts_of s rank item.stmt)) [])
    by true = quiet_lines item.line (acts_of s rank item.stmt) (quiet_acts s rank item.stmt usual)
    by false = tt

quiet_items : (s : SetupView) (rank : ℕ) (items : List Item) → AreUsual items → IsQuietRun (unrolled_items s rank items)
unfolding unrolled_items
quiet_items s rank [] usual = record { here = tt; afterwards = tt }
quiet_items s rank (item ∷ items) usual =
    quiet_front (nesting_at rank item) (prims_of s rank item) (unrolled_items s rank items) (quiet_prims s rank item usual.0) (quiet_items s rank items usual.1)

-- a rank of a script of such statements posts nothing
pub quiet_program : (script : Script) (rank : ℕ) → AreUsual script.items → AreQuiet (program_of script rank)
quiet_program script rank usual = (quiet_items (setup_of script) rank script.items usual).here

-- ---- few primitives

-- how many primitives stand in lists
abbrev long : List (List Prim) → ℕ
long [] = 0
long (prims ∷ more) = length prims + long more

-- how many items make in all
abbrev made : Unrolled Prim → ℕ
made u = length u.here + long u.afterwards

-- at most how many they make
abbrev most_by : Stmt → ℕ → ℕ
most_by (stmt.Repeat times end) n = 10 * n
most_by _ n = 150 + n

abbrev most : List Item → ℕ
most [] = 0
most (item ∷ items) = most_by item.stmt (most items)

copies_long : (n : ℕ) (prims : List Prim) → length (copies n prims) ≡ n * length prims
copies_long zero prims = omega arith
copies_long (suc n) prims =
    let rest = copies_long n prims in
    let both = length-append prims (copies n prims) in
    let more = suc-mul n (length prims) in
    omega (arith, rest, both, more)

repeated_short : (times : ℕ) (body : List Prim) (afterwards : List (List Prim)) → times ≤ 10 → made (unrolled_repeat times body afterwards) ≤ 10 * (length body + long afterwards)
repeated_short times body [] few = omega arith
repeated_short times body (next ∷ afterwards) few =
    let many = copies_long (times - 1) body in
    let within = mul-le (times - 1) (length body) 9 (length body) (omega (arith, few)) (omega arith) in
    let all = length-append body (copies (times - 1) body ++ next) in
    let rest = length-append (copies (times - 1) body) next in
    omega (arith, many, within, all, rest)

stays_short : (prims : List Prim) (u : Unrolled Prim) → length prims ≤ 150 → made (in_front nesting.Stays prims u) ≤ 150 + made u
stays_short prims u short = let both = length-append prims u.here in omega (arith, short, both)

closes_short : (place : ℕ) (prims : List Prim) (u : Unrolled Prim) → length prims ≤ 150 → made (in_front (nesting.Closes place) prims u) ≤ 150 + made u
closes_short place prims u short = omega (arith, short)

steps_short : (s : SetupView) (rank comm : ℕ) → s.nue ≤ 48 → comm ≡ 0 → length (call_steps s rank (coll.Allreduce comm 0)) ≤ 150
steps_short s rank comm few world =
    subst (λ (c : ℕ). length (call_steps s rank (coll.Allreduce c 0)) ≤ 150) (sym world) (by (can_call s rank (coll.Allreduce 0 0)))
  where
    by : (b : Bool) → length (cond b (steps_of s rank (coll.Allreduce 0 0)) []) ≤ 150
    by true = allreduce_short s rank few
    by false = omega arith

acts_short : (s : SetupView) (rank : ℕ) (statement : Stmt) → s.nue ≤ 48 → IsUsual statement → length (acts_of s rank statement) ≤ 150
acts_short s rank (stmt.Fill reg len start) few usual = omega arith
acts_short s rank (stmt.RankOf reg ty) few usual = omega arith
acts_short s rank (stmt.Send peer reg) few usual = omega arith
acts_short s rank (stmt.Recv peer reg len) few usual = omega arith
acts_short s rank (stmt.Own own) few usual = omega arith
acts_short s rank (stmt.Allreduce comm op ty dst src) few usual =
    let o : Operands = record { op = op; ty = ty; dst = dst; src = src; sized = Some src } in
    let steps = call_steps s rank (coll.Allreduce comm 0) in
    let same = length-map steps (part_of o (begins steps)) in
    let short = steps_short s rank comm few usual in
    omega (arith, same, short)
acts_short s rank (stmt.Repeat times end) few usual = omega arith
acts_short s rank (stmt.End start) few usual = omega arith
acts_short s rank _ few usual = absurd usual

-- an item in front of others
item_short : (b : Bool) (statement : Stmt) (prims : List Prim) (u : Unrolled Prim) (n : ℕ) → IsUsual statement → length prims ≤ 150 → made u ≤ n → made (in_front (cond b (effect_of statement).nesting nesting.Stays) (cond b prims []) u) ≤ most_by statement n
item_short true (stmt.Repeat times end) prims u n usual short within = let one = repeated_short times u.here u.afterwards usual in omega (arith, one, within)
item_short true (stmt.End start) prims u n usual short within = let one = closes_short start prims u short in omega (arith, one, within)
item_short true _ prims u n usual short within = let one = stays_short prims u short in omega (arith, one, within)
item_short false (stmt.Repeat times end) prims u n usual short within = omega (arith, within)
item_short false _ prims u n usual short within = omega (arith, within)

items_short : (s : SetupView) (rank : ℕ) (items : List Item) → s.nue ≤ 48 → AreUsual items → made (unrolled_items s rank items) ≤ most items
unfolding unrolled_items
items_short s rank [] few usual = omega arith
items_short s rank (item ∷ items) few usual =
    let same = lined_long item.line (acts_of s rank item.stmt) in
    let short = acts_short s rank item.stmt few usual.0 in
    item_short (has_rank item.who rank) item.stmt (lined item.line (acts_of s rank item.stmt)) (unrolled_items s rank items) (most items) usual.0 (omega (arith, same, short)) (items_short s rank items few usual.1)

-- a rank of a generated script has few primitives
pub gen_short : (nue s rank : ℕ) → nue ≤ 48 → length (program_of (gen_script_of nue s) rank) ≤ 110000
gen_short nue s rank few = by (nue == 1)
  where
    by : (b : Bool) → length (program_of (cond b (lone_script s) (ring_script nue s)) rank) ≤ 110000
    by true = let short = items_short (setup_of (lone_script s)) rank (lone_script s).items (omega arith) (lone_usual s) in omega (arith, short)
    by false = let short = items_short (setup_of (ring_script nue s)) rank (ring_script nue s).items few (ring_usual nue s) in omega (arith, short)
