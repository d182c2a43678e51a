-- The calls that a rank has done are the first of those that its program names, and the others are left.
use Rattle.std.proofs.Common.{◌≡◌, ℕ, List, [], ◌∷◌, ◌++◌, drop, length, map, min, slice_get, Option, Some, None, refl, sym, ap, ◌∙◌}
use Rattle.std.specs.Option.{option_to_list}
use Rattle.scc_base.specs.Calls.{DataCall}
use Rattle.scc_base.specs.Calls as calls
use Rattle.scc_base.specs.Heads.{plain_head}
use Rattle.scc_base.specs.declared.calls.Call.{Call}
use Rattle.scc_base.specs.declared.calls.Call.TheVariants as call
use Rattle.script_machine.specs.declared.posts.Posted.{Posted}
use Rattle.script_machine.specs.declared.prims.Source.TheVariants as source
use Rattle.script_machine.specs.CallLists.{calls_made, calls_from}
use Rattle.script_machine.specs.Lengths.{Lengths, lengths_after, lengths_of}
use Rattle.script_machine.specs.Local.{Local, local_next, next_by_act, next_by_prim, next_prim, head_with_length}
use Rattle.script_machine.specs.Moves.{length_asked}
use Rattle.script_machine.specs.Next.{Next, call_next}
use Rattle.script_machine.specs.Next.Next.{Goes, Posts, Sends, Recvs, Bars}
use Rattle.plain_meaning.specs.Paths.{DidCalls}
use Rattle.plain_meaning.specs.Paths.DidCalls.{Here, Own, Left, Sent, Got, Met}
use Rattle.script_machine.specs.Program.{Act, Prim}
use Rattle.script_machine.specs.Program.Act.{Set, Send, Post, Gather}
use Rattle.script_machine.proofs.ProgramLengths.NextLengths.{after, length_index, lengths_next}
use Rattle.script_machine.proofs.ProgramLengths.RoomLaws.{prim_left}

-- the call of a primitive is the one that stands next there
called_next : (u : Local) (line : ℕ) (act : Act) → calls_made (lengths_of u) act ≡ option_to_list (call_next (next_by_act u line act))
called_next u line (Send to head (source.Own reg)) = ap (λ (n : ℕ). call.Send to (head_with_length head n) ∷ []) (sym (length_index u.registers reg))
called_next u line (Send to head source.Accumulator) = refl
called_next u line (Post to reg) = ap (λ (n : ℕ). call.Post to (plain_head (min n 3584)) ∷ []) (sym (length_index u.registers reg))
called_next u line (Gather from head None) = refl
called_next u line (Gather from head (Some reg)) = ap (λ (n : ℕ). call.Recv from (head_with_length head n) ∷ []) (sym (length_index u.registers reg))
called_next u line _ = refl

-- behind it the primitives that come after are left
left_next : (u : Local) (line : ℕ) (act : Act) (bytes : List ℕ) → (after (next_by_act u line act) bytes u).left ≡ drop 1 u.left
left_next u line (Set reg content) bytes = refl
left_next u line _ bytes = refl

calls_front : (l : Lengths) (prims : List Prim) (prim : Prim) → slice_get prims 0 ≡ Some prim → calls_from l prims ≡ calls_made l prim.act ++ calls_from (lengths_after l prim.act) (drop 1 prims)
calls_front l [] prim here = absurd (cc)
calls_front l (x ∷ prims) prim here =
    let same : x ≡ prim = cc in
    ap (λ (p : Prim). calls_made l p.act ++ calls_from (lengths_after l p.act) prims) same

-- the calls that are left, by what stands next
calls_by : (u : Local) (found : Option Prim) (bytes : List ℕ) → next_prim u ≡ found → length bytes ≡ length_asked (next_by_prim u found)
    → calls_from (lengths_of u) u.left
    ≡ option_to_list (call_next (next_by_prim u found)) ++ calls_from (lengths_of (after (next_by_prim u found) bytes u)) (after (next_by_prim u found) bytes u).left
calls_by u None bytes here long = refl
calls_by u (Some prim) bytes here long =
    calls_front (lengths_of u) u.left prim (prim_left u prim here)
    ∙ (λ i. called_next u prim.line prim.act i ++ calls_from (sym (lengths_next u prim.line prim.act bytes long) i) (sym (left_next u prim.line prim.act bytes) i))

calls_next : (u : Local) (n : Next Local) (bytes : List ℕ) → local_next u ≡ n → length bytes ≡ length_asked n
    → calls_from (lengths_of u) u.left ≡ option_to_list (call_next n) ++ calls_from (lengths_of (after n bytes u)) (after n bytes u).left
unfolding local_next
calls_next u n bytes is long =
    calls_by u (next_prim u) bytes refl (long ∙ ap length_asked (sym is))
    ∙ ap (λ (x : Next Local). option_to_list (call_next x) ++ calls_from (lengths_of (after x bytes u)) (after x bytes u).left) is

-- those done on a path, and those that are left behind it
pub calls_did : (v : Local) (end : Option Posted) (u : Local) (last : Option Posted) (done : List DataCall) → DidCalls local_next v end u last done
    → calls_from (lengths_of u) u.left ≡ map calls.call_of done ++ calls_from (lengths_of v) v.left
calls_did v end u last done Here = refl
calls_did v end u last done (Own a w l cs is rest) = calls_next a (Goes w) [] is refl ∙ calls_did v end w l cs rest
calls_did v end u last done (Left a w l message cs is rest) =
    calls_next a (Posts message w) [] is refl ∙ ap (λ (k : List Call). call.Post message.to message.head ∷ k) (calls_did v end w (Some message) cs rest)
calls_did v end u last done (Sent a w l to head bytes cs is rest) =
    calls_next a (Sends to head bytes w) [] is refl ∙ ap (λ (k : List Call). call.Send to head ∷ k) (calls_did v end w l cs rest)
calls_did v end u last done (Got a l from head bytes take refuse cs even is rest) =
    calls_next a (Recvs from head take refuse) bytes is even ∙ ap (λ (k : List Call). call.Recv from head ∷ k) (calls_did v end (take bytes) l cs rest)
calls_did v end u last done (Met a w l comm cs is rest) =
    calls_next a (Bars comm w) [] is refl ∙ ap (λ (k : List Call). call.Bar comm ∷ k) (calls_did v end w l cs rest)
