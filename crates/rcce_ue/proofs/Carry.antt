-- A turn of UEs that are spelled in another way.
use Rattle.std.proofs.Common.{◌≡◌, sym, subst}
use Rattle.scc_base.specs.declared.events.Turn.{Turn}
use Rattle.scc_proto.specs.Ports.{Sight}
use Rattle.rcce_ue.specs.Standing.{Tied}
use Rattle.rcce_ue.specs.Turns.{Turns}
use Rattle.rcce_ue.specs.Ues.{UeView}

pub carry : (ue a now b : UeView) (s t : Sight) (answer : Turn) → ue ≡ a → now ≡ b → Tied ue s → (Tied a s → Turns a s b t answer) → Turns ue s now t answer
carry ue a now b s t answer before after tied turns =
    subst (λ (x : UeView). Turns x s now t answer) (sym before)
    (subst (λ (y : UeView). Turns a s y t answer) (sym after) (turns (subst (λ (x : UeView). Tied x s) before tied)))
