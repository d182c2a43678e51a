-- A sweep in which no rank moves stands at the one end of all orders of plain steps.
use Rattle.std.proofs.Common.{◌≡◌, ℕ, Option, None, sym, subst}
use Rattle.scc_base.specs.Runs.{EndsAt, IsStill, Runs}
use Rattle.scc_base.specs.Setups.{SetupView, setup_key}
use Rattle.scc_base.proofs.Confluence.{other_end}
use Rattle.scc_proto.specs.Stages.{Record}
use Rattle.scc_proto.specs.Words.{Memory}
use Rattle.script_machine.specs.declared.posts.Posted.{Posted}
use Rattle.script_machine.specs.Next.{Next}
use Rattle.plain_meaning.specs.Step.{Configuration, IsStepOf}
use Rattle.plain_meaning.proofs.Orders.EndLaws.{one_end}
use Rattle.rcce_run.specs.Sweep.{HoldsStates, Swept, slots_by}
use Rattle.rcce_run.proofs.Refusals.{leads, told}
use Rattle.rcce_run.proofs.Stuck.{still}

module _ {U : Type 0} (next : U → Next U) (s : SetupView) (memory : Memory) (records : ℕ → Record) (starts states : ℕ → U) (lasts : ℕ → Option Posted) (sw : Swept next s memory records starts states lasts) where
  -- every order of steps from the start to an end comes to these states and slots
  pub swept_ends : (n : ℕ) (c e : Configuration U) → HoldsStates s.nue c starts (λ k. None) → Runs (IsStepOf (setup_key s) next) (EndsAt (IsStepOf (setup_key s) next) e) n c
      → HoldsStates s.nue e states (slots_by s records lasts)
  swept_ends n c e holds run =
      let (f, m, led, held) = leads next s memory records starts states lasts sw c holds in
      let stuck : IsStill (IsStepOf (setup_key s) next) f = still next s memory records starts states lasts sw f held (told next s memory records starts states lasts sw c holds) in
      let ends : Runs (IsStepOf (setup_key s) next) (EndsAt (IsStepOf (setup_key s) next) f) m c =
      other_end (IsStepOf (setup_key s) next) (λ d. d ≡ f) (EndsAt (IsStepOf (setup_key s) next) f)
      (λ d same. (same, subst (λ (x : Configuration U). IsStill (IsStepOf (setup_key s) next) x) (sym same) stuck)) m c led in
      subst (λ (x : Configuration U). HoldsStates s.nue x states (slots_by s records lasts)) (sym (one_end (setup_key s) next n m c e f run ends).1) held
