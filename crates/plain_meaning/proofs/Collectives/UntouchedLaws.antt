-- What a collective call leaves as it was: the registers of the root of a broadcast, and of the others in a reduction.
use Rattle.std.proofs.Common.{◌≡◌, ℕ, List, [], ◌∷◌, ◌++◌, length, map, sym, ap, ◌∙◌}
use Rattle.std.proofs.lemmas.List.{append-nil, length-map}
use Rattle.scc_base.specs.Heads.{MessageHead}
use Rattle.scc_base.specs.Setups.{SetupView}
use Rattle.scc_base.specs.declared.kinds.Kind.TheVariants as kind_of
use Rattle.groups.specs.Collectives.{head_of_kind, others_of}
use Rattle.script_rules.specs.Script.{Script}
use Rattle.script_rules.specs.Settled.{IsWholeScript}
use Rattle.script_rules.specs.declared.script.Stmt.{Stmt}
use Rattle.script_rules.specs.declared.script.Stmt.TheVariants as stmt
use Rattle.script_machine.specs.declared.prims.Source.TheVariants as source_of
use Rattle.plain_meaning.specs.Collectives.{AreUntouched, HasDone}
use Rattle.plain_meaning.specs.Meaning.{State}
use Rattle.script_machine.specs.Program.{Prim, acts_of, setup_of}
use Rattle.script_machine.specs.Program.Act.{Send}
use Rattle.plain_meaning.proofs.Collectives.BroadcastLaws.{bcast_at_root, faces, past_sends}
use Rattle.plain_meaning.proofs.Collectives.CollectiveFits.{may_cast, may_reduce}
use Rattle.plain_meaning.proofs.Collectives.ReductionLaws.{reduce_at_other}

-- neither the root of a broadcast nor the others in a reduction have a register changed
sends_keep : (script : Script) (rank : ℕ) (statement : Stmt) (now before after : State) (head : MessageHead) (src : ℕ) (list : List ℕ) → HasDone script rank statement now before after
    → acts_of (setup_of script) rank statement ≡ map (λ to. Send to head (source_of.Own src)) list ++ [] → after.local.registers ≡ before.local.registers
sends_keep script rank statement now before after head src list done acts =
    let count = done.each ∙ ap length (acts ∙ append-nil (map (λ to. Send to head (source_of.Own src)) list)) ∙ length-map list (λ (to : ℕ). Send to head (source_of.Own src)) in
    let sent = past_sends done.stood.item.line head (source_of.Own src) [] done.stood.rest list before done.taken count (faces script rank statement before done.stood _ acts) in
    ap (λ (x : State). x.local.registers) done.came ∙ sent.registers

pub untouched : (script : Script) → IsWholeScript script.nue script.items → AreUntouched script
untouched script whole comm place len reg dst src root rank op ty now before after other = (at_root, at_other)
  where
    s : SetupView
    s = setup_of script

    at_root : HasDone script root (stmt.Bcast comm place reg len) now before after → after.local.registers ≡ before.local.registers
    at_root done =
        sends_keep script root (stmt.Bcast comm place reg len) now before after (head_of_kind kind_of.Bcast comm len) reg (others_of s comm root place) done
        (bcast_at_root s comm place reg len root (may_cast script whole root other.placed.below before comm place reg len done.stood) other.placed.placed ∙ sym (append-nil (map (λ to. Send to (head_of_kind kind_of.Bcast comm len) (source_of.Own reg)) (others_of s comm root place))))

    at_other : HasDone script rank (stmt.Reduce comm place op ty dst src) now before after → after.local.registers ≡ before.local.registers
    at_other done =
        sends_keep script rank (stmt.Reduce comm place op ty dst src) now before after (head_of_kind kind_of.Reduce comm 0) src (root ∷ []) done
        (reduce_at_other s comm place root rank dst src op ty (may_reduce script whole rank other.below before comm place dst src op ty done.stood) other)
