-- A statement of which a rank has no primitive left is done.
use Rattle.std.proofs.Common.{◌≡◌, ℕ, ◌+◌, ◌≤◌, List, [], ◌∷◌, ◌++◌, length, refl, sym, ap, ◌∙◌, subst, arith}
use Rattle.std.proofs.lemmas.List.{length-append, length-map}
use Rattle.scc_base.specs.Runs.{Runs}
use Rattle.script_rules.specs.Script.{Script}
use Rattle.script_rules.specs.declared.script.Stmt.{Stmt}
use Rattle.script_machine.specs.declared.prims.Standing.TheVariants as standing
use Rattle.plain_meaning.specs.Collectives.{AreDone, HasDone, HasStatement, gone_by, gone_through, made_by, start_of_rank}
use Rattle.plain_meaning.specs.Meaning.{IsPlainStep, State, keys_of, next_of, start_of}
use Rattle.script_machine.specs.Program.{Prim, acts_of, setup_of}
use Rattle.plain_meaning.specs.Step.{Configuration}
use Rattle.plain_meaning.proofs.Collectives.CollectivePaths.{through_both}
use Rattle.plain_meaning.proofs.OwnWays.OwnWayLaws.{IsAsFar, own_as_far}
use Rattle.plain_meaning.proofs.OwnWays.ProgramLaws.{past_act}
use Rattle.plain_meaning.proofs.Collectives.ReductionPaths.{split_at}

-- a running rank that has these primitives left
record Has (left : List Prim) (u : State) : Type 0 where
  running : u.local.standing ≡ standing.Running
  left_is : u.local.left ≡ left

-- each step uses up one
past_one : (prim : Prim) (rest : List Prim) (bytes : List ℕ) (u : State) → Has (prim ∷ rest) u → Has rest (gone_by bytes u (next_of u))
past_one prim rest bytes u has =
    let on = past_act prim.line rest prim.act [] bytes u (record { running = has.running; left = has.left_is }) in
    record { running = on.running; left_is = on.left }

past_all : (front rest : List Prim) (path : List (List ℕ)) (u : State) → length path ≡ length front → Has (front ++ rest) u → Has rest (gone_through path u)
past_all [] rest [] u even has = has
past_all [] rest (bytes ∷ path) u even has = absurd (omega (arith, even))
past_all (prim ∷ front) rest [] u even has = absurd (omega (arith, even))
past_all (prim ∷ front) rest (bytes ∷ path) u even has = past_all front rest path (gone_by bytes u (next_of u)) (omega (arith, even)) (past_one prim (front ++ rest) bytes u has)

-- so a way is as long as what it used up
long_way : (left : List Prim) (path : List (List ℕ)) (u : State) → Has left u → length left ≤ length (gone_through path u).local.left + length path
long_way left [] u has = omega (arith, ap length has.left_is)
long_way [] (bytes ∷ path) u has = omega arith
long_way (prim ∷ left) (bytes ∷ path) u has =
    let on = long_way left path (gone_by bytes u (next_of u)) (past_one prim left bytes u has) in
    omega (arith, on)

module _ (script : Script) (rank : ℕ) (statement : Stmt) (rest : List Prim) (u : State) (there : HasStatement script rank statement rest) where
  abbrev Done : Stmt → Type 0
  Done s = (before : State) × (after : State) × HasDone script rank s u before after × (after.local.left ≡ rest)

  done : (path : List (List ℕ)) → IsAsFar u (gone_through path (start_of_rank script rank)) → length u.local.left ≤ length rest → Done statement
  done path far few =
      let acts = acts_of (setup_of script) rank there.item.stmt in
      let made = made_by (setup_of script) rank there.item in
      let start = start_of_rank script rank in
      let whole : Has (there.front ++ (made ++ rest)) start = record { running = refl; left_is = there.whole } in
      let long = long_way (there.front ++ (made ++ rest)) path start whole in
      let sum : length (there.front ++ (made ++ rest)) ≡ length there.front + (length acts + length rest) =
      length-append there.front (made ++ rest) ∙ ap (λ (n : ℕ). length there.front + n) (length-append made rest ∙ ap (λ (n : ℕ). n + length rest) (length-map acts _)) in
      let left : length (gone_through path start).local.left ≡ length u.local.left = sym (ap length far.1) in
      let (one, afterwards, first, even) = split_at (length there.front) path (omega (arith, long, sum, left, few)) in
      let size : length path ≡ length one + length afterwards = ap length first ∙ length-append one afterwards in
      let (two, three, second, equal) = split_at (length acts) afterwards (omega (arith, long, sum, left, few, size, even)) in
      let before = gone_through one start in
      let after = gone_through two before in
      let stood = past_all there.front (made ++ rest) one start even whole in
      let passed = past_all made rest two before (equal ∙ sym (length-map acts _)) stood in
      let way : gone_through path start ≡ gone_through three after =
      ap (λ (p : List (List ℕ)). gone_through p start) first
      ∙ through_both one afterwards start
      ∙ ap (λ (p : List (List ℕ)). gone_through p before) second
      ∙ through_both two three before in
      let has : HasDone script rank there.item.stmt u before after = record {
        stood = record {
          way = one;
          reached = refl;
          item = there.item;
          listed = there.listed;
          says = refl;
          rest = rest;
          afterwards = there.afterwards;
          running = stood.running;
          next = stood.left_is;
        };
        taken = two;
        each = equal;
        came = refl;
        later = three;
        since = far.0 ∙ ap (λ (x : State). x.matched) way;
      } in
      subst Done there.says (before, after, has, passed.left_is)

-- wherever steps lead from the start
pub are_done : (script : Script) (n : ℕ) (c : Configuration State) → Runs (IsPlainStep (keys_of script)) (λ e. e ≡ c) n (start_of script) → AreDone script c
are_done script n c run rank statement rest u at there few =
    let own = own_as_far script n c run rank u at in
    done script rank statement rest u there own.0 own.1 few
