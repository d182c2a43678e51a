-- How ranks end in the plain meaning, by what they hold and what stands in their slots.
use Rattle.std.proofs.Common.{◌≡◌, ◌≢◌, ℕ, ◌<◌, true, false, length, Option, Some, None, refl, sym, ap, ◌∙◌, subst, arith, slice_get, slice_index_or}
use Rattle.std.specs.Option.{option_map, unwrap_or}
use Rattle.std.proofs.lemmas.List.{length-map}
use Rattle.std.proofs.lemmas.List.FromFn.{get_or-map-range_with_len}
use Rattle.std.proofs.lemmas.Option.{slice_get-map, slice_get_within, unwrap_or-slice_get}
use Rattle.scc_base.specs.declared.calls.Call.{Call}
use Rattle.script_rules.specs.Script.{Script}
use Rattle.script_machine.specs.declared.ends.UeEnd.TheVariants as ue_end
use Rattle.script_machine.specs.declared.posts.Posted.{Posted}
use Rattle.script_machine.specs.declared.prims.Standing.{Standing}
use Rattle.script_machine.specs.declared.prims.Standing.TheVariants as standing
use Rattle.plain_meaning.specs.Ends.{Ended, end_of_rank, ended_at, nothing_ended}
use Rattle.script_machine.specs.Local.{Local, end_by_prim, end_by_slot, end_by_standing, end_of, local_at, local_next, next_by_act, next_by_prim, nobody, prim_by_standing, end_waiting_at}
use Rattle.plain_meaning.specs.Meaning.{State, locals_of, plain_end, plain_ends}
use Rattle.script_machine.specs.Moves.{is_stopped, is_stopped_by}
use Rattle.script_machine.specs.Next.{call_next, is_going}
use Rattle.script_machine.specs.Next.Next.{Ends}
use Rattle.script_machine.specs.Program.{Act, Prim}
use Rattle.rcce_run.specs.Sweep.{HoldsStates}
use Rattle.rcce_run.proofs.Holding.{at_below}

-- no primitive ends a program
act_goes : (u : Local) (line : ℕ) (a : Act) → next_by_act u line a ≡ Ends → ⊥
act_goes u line (Act.Set reg content) is = cc (is)
act_goes u line _ is = cc (is)

prim_goes : (u : Local) (o : Option Prim) → next_by_prim u o ≡ Ends → o ≡ None
prim_goes u None is = refl
prim_goes u (Some prim) is = absurd (act_goes u prim.line prim.act is)

next_is : (u : Local) (st : Standing) → u.standing ≡ st → local_next u ≡ next_by_prim u (prim_by_standing st u.left)
unfolding local_next
next_is u st is = ap (λ (x : Standing). next_by_prim u (prim_by_standing x u.left)) is

-- a rank with nothing left, an empty slot and no mismatch has finished
pub finished_end : (u : Local) (slot : Option Posted) → is_stopped u ≡ false → local_next u ≡ Ends → slot ≡ None → end_of slot u ≡ ue_end.Finished
finished_end u slot running ends empty = by u.standing refl
  where
    by : (st : Standing) → u.standing ≡ st → end_by_standing slot u u.standing ≡ ue_end.Finished
    by standing.Running is =
        let none : slice_get u.left 0 ≡ None = prim_goes u (slice_get u.left 0) (sym (next_is u standing.Running is) ∙ ends) in
        ap (end_by_standing slot u) is
        ∙ ap (end_by_prim slot u) none
        ∙ ap end_by_slot empty
    by (standing.Mismatched line from sent asked) is = absurd (let stopped = ap is_stopped_by is in cc (running, stopped))

-- one that a mismatch stopped has not
pub stopped_end : (u : Local) (slot : Option Posted) → is_stopped u ≡ true → end_of slot u ≢ ue_end.Finished
stopped_end u slot stopped = by u.standing refl
  where
    by : (st : Standing) → u.standing ≡ st → end_of slot u ≢ ue_end.Finished
    by standing.Running is end = absurd (let running = ap is_stopped_by is in cc (running, stopped))
    by (standing.Mismatched line from sent asked) is end = let at : end_of slot u ≡ ue_end.Mismatch line from sent asked = ap (end_by_standing slot u) is in cc (at, end)

-- a call that stands next, or a statement of the rank's own
at_call : (u : Local) (line : ℕ) (a : Act) → is_going (next_by_act u line a) ≡ false → end_waiting_at line (call_next (next_by_act u line a)) ≢ ue_end.Finished
at_call u line (Act.Send to head source) goes end = cc (end)
at_call u line (Act.Post to reg) goes end = cc (end)
at_call u line (Act.Recv from reg head) goes end = cc (end)
at_call u line (Act.Gather from head sized) goes end = cc (end)
at_call u line (Act.Bar comm) goes end = cc (end)
at_call u line _ goes end = cc (goes)

-- one that waits has not: at its next call, or with nothing left for its slot
pub waiting_end : (u : Local) (slot : Option Posted) → is_going (local_next u) ≡ false → (local_next u ≡ Ends → (message : Posted) × (slot ≡ Some message)) → end_of slot u ≢ ue_end.Finished
waiting_end u slot stays full = by u.standing refl
  where
    by_left : u.standing ≡ standing.Running → (o : Option Prim) → slice_get u.left 0 ≡ o → end_of slot u ≢ ue_end.Finished
    by_left is None at end =
        let (message, there) = full (next_is u standing.Running is ∙ ap (next_by_prim u) at) in
        let is_end : end_of slot u ≡ end_by_slot (Some message) =
        ap (end_by_standing slot u) is ∙ ap (end_by_prim slot u) at ∙ ap end_by_slot there in
        cc (is_end, end)
    by_left is (Some prim) at end =
        let next : local_next u ≡ next_by_act u prim.line prim.act = next_is u standing.Running is ∙ ap (next_by_prim u) at in
        let is_end : end_of slot u ≡ end_waiting_at prim.line (call_next (next_by_act u prim.line prim.act)) =
        ap (end_by_standing slot u) is ∙ ap (end_by_prim slot u) at in
        at_call u prim.line prim.act (sym (ap is_going next) ∙ stays) (sym is_end ∙ end)

    by : (st : Standing) → u.standing ≡ st → end_of slot u ≢ ue_end.Finished
    by standing.Running is end = by_left is (slice_get u.left 0) refl end
    by (standing.Mismatched line from sent asked) is end = let at : end_of slot u ≡ ue_end.Mismatch line from sent asked = ap (end_by_standing slot u) is in cc (at, end)

-- what a rank of a script leaves behind, by its state and slot at the plain end
pub plain_ended_at : (script : Script) (states : ℕ → State) (slots : ℕ → Option Posted) → HoldsStates script.nue (plain_end script) states slots → (k : ℕ) → k < script.nue
    → ended_at (plain_ends script) k ≡ end_of_rank (slots k) (states k).local
plain_ended_at script states slots holds k low =
    let c = plain_end script in
    let here : slice_get c.cells k ≡ Some (states k) = holds.cells_at k ∙ at_below script.nue k (states k) low in
    let within : k < length (locals_of c) = subst (λ (n : ℕ). k < n) (sym (length-map c.cells (λ (u : State). u.local))) (slice_get_within c.cells k (states k) here) in
    let local_is : local_at (locals_of c) k ≡ (states k).local =
    sym (unwrap_or-slice_get (locals_of c) k nobody) ∙ ap (λ (o : Option Local). unwrap_or o nobody) (slice_get-map (λ (u : State). u.local) c.cells k ∙ ap (option_map (λ (u : State). u.local)) here) in
    let slot_is : slice_index_or c.slots k None ≡ slots k =
    sym (unwrap_or-slice_get c.slots k None) ∙ ap (λ (o : Option (Option Posted)). unwrap_or o None) (holds.slots_at k ∙ at_below script.nue k (slots k) low) in
    get_or-map-range_with_len (λ (rank : ℕ). end_of_rank (slice_index_or c.slots rank None) (local_at (locals_of c) rank)) 0 (length (locals_of c)) k k nothing_ended within (omega arith)
    ∙ (λ i. end_of_rank (slot_is i) (local_is i))

pub plain_end_at : (script : Script) (states : ℕ → State) (slots : ℕ → Option Posted) → HoldsStates script.nue (plain_end script) states slots → (k : ℕ) → k < script.nue
    → (ended_at (plain_ends script) k).end ≡ end_of (slots k) (states k).local
plain_end_at script states slots holds k low = ap (λ (e : Ended). e.end) (plain_ended_at script states slots holds k low)

-- where nothing is left and no mismatch stopped a rank, its end is told by its slot; else the slot makes no difference
pub end_same : (u : Local) (one other : Option Posted) → (local_next u ≡ Ends → is_stopped u ≡ false → one ≡ other) → end_of one u ≡ end_of other u
end_same u one other same = by u.standing refl
  where
    by_left : u.standing ≡ standing.Running → (o : Option Prim) → slice_get u.left 0 ≡ o → end_of one u ≡ end_of other u
    by_left is None at =
        let next : local_next u ≡ Ends = next_is u standing.Running is ∙ ap (next_by_prim u) at in
        ap (λ (slot : Option Posted). end_of slot u) (same next (ap is_stopped_by is))
    by_left is (Some prim) at =
        let here : (slot : Option Posted) → end_of slot u ≡ end_waiting_at prim.line (call_next (next_by_act u prim.line prim.act)) = λ slot. ap (end_by_standing slot u) is ∙ ap (end_by_prim slot u) at in
        here one ∙ sym (here other)

    by : (st : Standing) → u.standing ≡ st → end_of one u ≡ end_of other u
    by standing.Running is = by_left is (slice_get u.left 0) refl
    by (standing.Mismatched line from sent asked) is = ap (end_by_standing one u) is ∙ sym (ap (end_by_standing other u) is)

-- a rank at which a call stands next waits at it, at the line of its statement
pub call_waits : (u : Local) (slot : Option Posted) (call : Call) → call_next (local_next u) ≡ Some call → (line : ℕ) × (end_of slot u ≡ ue_end.Waits line call)
call_waits u slot call there = by u.standing refl
  where
    by_left : u.standing ≡ standing.Running → (o : Option Prim) → slice_get u.left 0 ≡ o → (line : ℕ) × (end_of slot u ≡ ue_end.Waits line call)
    by_left is None at = absurd (let none = ap call_next (next_is u standing.Running is ∙ ap (next_by_prim u) at) in cc (none, there))
    by_left is (Some prim) at =
        let call_is : call_next (next_by_act u prim.line prim.act) ≡ Some call = sym (ap call_next (next_is u standing.Running is ∙ ap (next_by_prim u) at)) ∙ there in
        (prim.line, ap (end_by_standing slot u) is ∙ ap (end_by_prim slot u) at ∙ ap (end_waiting_at prim.line) call_is)

    by : (st : Standing) → u.standing ≡ st → (line : ℕ) × (end_of slot u ≡ ue_end.Waits line call)
    by standing.Running is = by_left is (slice_get u.left 0) refl
    by (standing.Mismatched line from sent asked) is = absurd (let none = ap call_next (next_is u (standing.Mismatched line from sent asked) is) in cc (none, there))
