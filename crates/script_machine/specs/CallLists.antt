-- The calls of a rank without their bytes, which its program determines before it runs (this project's profile).
use Rattle.std.specs.Prelude.{ℕ, min, List, [], ◌∷◌, ◌++◌, Some, None}
use Rattle.scc_base.specs.Heads.{plain_head, most_post}
use Rattle.scc_base.specs.declared.calls.Call.{Call}
use Rattle.scc_base.specs.declared.calls.Call.TheVariants as call
use Rattle.script_rules.specs.Script.{Script}
use Rattle.script_machine.specs.Lengths.{Lengths, length_of_register, lengths_after, lengths_of, source_length}
use Rattle.script_machine.specs.Local.{local_start, head_with_length}
use Rattle.script_machine.specs.Program.{Act, Prim, program_of}
use Rattle.script_machine.specs.Program.Act.{Set, Own, Send, Post, Recv, Gather, Bar, Begin, Fold, Accept, Finish}

-- the call that a primitive makes at these lengths, if it makes one
abbrev pub calls_made : Lengths → Act → List Call
calls_made l (Set reg content) = []
calls_made l (Own own) = []
calls_made l (Send to head source) = call.Send to (head_with_length head (source_length l source)) ∷ []
calls_made l (Post to reg) = call.Post to (plain_head (min (length_of_register l reg) most_post)) ∷ []
calls_made l (Recv from reg head) = call.Recv from head ∷ []
calls_made l (Gather from head None) = call.Recv from head ∷ []
calls_made l (Gather from head (Some reg)) = call.Recv from (head_with_length head (length_of_register l reg)) ∷ []
calls_made l (Bar comm) = call.Bar comm ∷ []
calls_made l (Begin reg) = []
calls_made l (Fold op ty) = []
calls_made l (Accept reg) = []
calls_made l (Finish reg) = []

-- the calls of the primitives that are left, in order, from these lengths on
abbrev pub calls_from : Lengths → List Prim → List Call
calls_from l [] = []
calls_from l (prim ∷ prims) = calls_made l prim.act ++ calls_from (lengths_after l prim.act) prims

-- the calls of a rank of a script with their heads, in order
abbrev pub calls_of : Script → ℕ → List Call
calls_of script rank = calls_from (lengths_of (local_start script rank)) (program_of script rank)
