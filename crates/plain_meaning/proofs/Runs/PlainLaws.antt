-- Laws of the plain step and of the plain meaning.
use Rattle.std.proofs.Common.{◌≡◌, ◌++◌, ℕ, ◌+◌, ◌<◌, List, [], ◌∷◌, length, map, drop, None, refl, sym, ap, ◌∙◌, arith, sum_by, slice_get}
use Rattle.std.specs.List.{range_with_len}
use Rattle.std.proofs.lemmas.List.{length-map}
use Rattle.std.proofs.lemmas.List.FromFn.{length-map-range_with_len, map-range_with_len_more}
use Rattle.scc_base.specs.Heads.{MessageHead}
use Rattle.scc_base.specs.Calls.{DataCall}
use Rattle.script_rules.specs.Script.{Script}
use Rattle.script_machine.specs.Program.{Act, Prim}
use Rattle.script_machine.specs.Program.Act.{Recv, Gather}
use Rattle.script_machine.specs.declared.prims.Standing.{Standing}
use Rattle.script_machine.specs.declared.prims.Standing.TheVariants as standing
use Rattle.script_machine.specs.Local.{Local, local_start, local_next, next_by_act, next_by_prim, prim_by_standing, most_steps_left, runs}
use Rattle.script_machine.specs.Next.{Next}
use Rattle.script_machine.specs.Next.Next.{Ends, Goes, Posts, Sends, Recvs, Bars}
use Rattle.plain_meaning.specs.Step.{run_on}
use Rattle.plain_meaning.specs.Meaning.{State, next_with_calls, next_of, keys_of, plain_step, plain_end, start_of, steps_left, locals_of, seen_of}
use Rattle.plain_meaning.proofs.Runs.Costs.{Lowers, next_map}
use Rattle.plain_meaning.proofs.Runs.RunLaws
use Rattle.plain_meaning.proofs.Runs.ViewLaws

lowers_act : (u : Local) (line : ℕ) (a : Act) → length (drop 1 u.left) < length u.left → u.standing ≡ standing.Running → Lowers most_steps_left (most_steps_left u) (next_by_act u line a)
lowers_act u line (Recv from reg head) less running =
    (λ (bytes : List ℕ). omega (arith, less), λ (sent : MessageHead). omega (arith, ap runs running))
lowers_act u line (Gather from head sized) less running =
    (λ (bytes : List ℕ). omega (arith, less), λ (sent : MessageHead). omega (arith, ap runs running))
lowers_act u line _ less running = omega (arith, less)

lowers_left : (u : Local) (l : List Prim) → u.left ≡ l → u.standing ≡ standing.Running → Lowers most_steps_left (most_steps_left u) (next_by_prim u (slice_get l 0))
lowers_left u [] left running = tt
lowers_left u (prim ∷ rest) left running =
    lowers_act u prim.line prim.act (rw left (omega arith)) running

lowers_standing : (u : Local) (s : Standing) → u.standing ≡ s → Lowers most_steps_left (most_steps_left u) (next_by_prim u (prim_by_standing s u.left))
lowers_standing u standing.Running is = lowers_left u u.left refl is
lowers_standing u (standing.Mismatched line from sent asked) is = tt

-- whatever a rank does next, less is left after it
pub local_lowers : (u : Local) → Lowers most_steps_left (most_steps_left u) (local_next u)
unfolding local_next
local_lowers u = lowers_standing u u.standing refl

recorded_lowers : (calls : List DataCall) (k : ℕ) (n : Next Local) → Lowers most_steps_left k n → Lowers (λ (u : State). most_steps_left u.local) k (next_with_calls calls n)
recorded_lowers calls k Ends low = tt
recorded_lowers calls k (Goes after) low = low
recorded_lowers calls k (Posts message after) low = low
recorded_lowers calls k (Sends to head bytes after) low = low
recorded_lowers calls k (Recvs from head take refuse) low = low
recorded_lowers calls k (Bars comm after) low = low

pub state_lowers : (u : State) → Lowers (λ (v : State). most_steps_left v.local) (most_steps_left u.local) (next_of u)
state_lowers u = recorded_lowers u.matched (most_steps_left u.local) (local_next u.local) (local_lowers u.local)

recorded_seen : (calls : List DataCall) (n : Next Local) → n ≡ next_map (λ (u : State). u.local) (next_with_calls calls n)
recorded_seen calls Ends = refl
recorded_seen calls (Goes after) = refl
recorded_seen calls (Posts message after) = refl
recorded_seen calls (Sends to head bytes after) = refl
recorded_seen calls (Recvs from head take refuse) = refl
recorded_seen calls (Bars comm after) = refl

pub state_seen : (u : State) → local_next u.local ≡ next_map (λ (v : State). v.local) (next_of u)
state_seen u = recorded_seen u.matched (local_next u.local)

-- the end takes no step
pub plain_end_still : (script : Script) → plain_step (keys_of script) (plain_end script) ≡ None
plain_end_still script =
    RunLaws.stopped (keys_of script) next_of (λ (u : State). most_steps_left u.local) state_lowers (steps_left (start_of script)) (start_of script) (omega arith)

starts : (script : Script) (ranks : List ℕ) → map (λ (u : State). u.local) (map (λ (rank : ℕ). record { local = local_start script rank; matched = [] }) ranks) ≡ map (local_start script) ranks
starts script [] = refl
starts script (rank ∷ ranks) = ap (λ (c : List Local). local_start script rank ∷ c) (starts script ranks)

-- what the ranks hold at the start
pub locals_of-start_of : (script : Script) → locals_of (start_of script) ≡ map (local_start script) (range_with_len 0 script.nue)
locals_of-start_of script = starts script (range_with_len 0 script.nue)

pub length-start_of : (script : Script) → length (locals_of (start_of script)) ≡ script.nue
length-start_of script = ap length (locals_of-start_of script) ∙ length-map-range_with_len (local_start script) 0 script.nue

-- one rank more at the start
pub start_more : (script : Script) (number rank : ℕ) (before after : List Local) (u : Local) → before ≡ map (local_start script) (range_with_len 0 number) → rank ≡ number → u ≡ local_start script rank → after ≡ before ++ u ∷ [] → after ≡ map (local_start script) (range_with_len 0 (number + 1))
start_more script number rank before after u was here made now =
    now ∙ ap (λ (v : Local). before ++ v ∷ []) (made ∙ ap (local_start script) here)
    ∙ ap (λ (us : List Local). us ++ local_start script number ∷ []) was
    ∙ sym (map-range_with_len_more (local_start script) 0 number number (omega arith))

-- what the ranks hold at the end comes of a run over what they hold
pub seen_of-plain_end : (script : Script) → run_on (keys_of script) local_next (sum_by most_steps_left (locals_of (start_of script))) (seen_of (start_of script)) ≡ seen_of (plain_end script)
seen_of-plain_end script =
    ap (λ (n : ℕ). run_on (keys_of script) local_next n (seen_of (start_of script))) (ViewLaws.sum_by-map most_steps_left (λ (u : State). u.local) (start_of script).cells)
    ∙ ViewLaws.run_on-map (λ (u : State). u.local) (keys_of script) next_of local_next state_seen (steps_left (start_of script)) (start_of script)

-- as many ranks as the script runs on
pub length-plain_end : (script : Script) → length (locals_of (plain_end script)) ≡ script.nue
length-plain_end script =
    length-map (plain_end script).cells (λ (u : State). u.local)
    ∙ RunLaws.length-run_on (keys_of script) next_of (steps_left (start_of script)) (start_of script)
    ∙ length-map-range_with_len (λ (rank : ℕ). record { local = local_start script rank; matched = [] }) 0 script.nue
