-- What a monitor's tests of setups and of words tell.
use Rattle.std.proofs.Common.{◌≡◌, ◌≢◌, ℕ, suc, Bool, true, false, not, ◌&&◌, ◌==◌, if◌then◌else◌, Some, refl, ◌∙◌, ap}
use Rattle.scc_base.specs.Setups.{SetupView, place_of, root_of, setup_key}
use Rattle.scc_base.proofs.GroupFacts.{root_once}
use Rattle.scc_proto.specs.Records.{leads, lowered_below, lowers_bit}
use Rattle.scc_proto.proofs.Tests.{same_by_eqb}

pub leads_not : (s : SetupView) (comm root r : ℕ) → root_of s comm r ≢ root_of s comm root → false ≡ leads s comm root r
leads_not s comm root r differ = by (setup_key s comm r == setup_key s comm root) refl
  where
    by : (b : Bool) → (setup_key s comm r == setup_key s comm root) ≡ b → false ≡ (b && (place_of s comm root == 0))
    by true t = absurd (differ (root_once (setup_key s comm) r root (same_by_eqb (setup_key s comm r) (setup_key s comm root) t)))
    by false t = refl

-- one rank less to look at
pub lowered_next : (me old new n m : ℕ) → n ≡ suc m → (not (m == me) && lowers_bit m old new) ≡ false → lowered_below me old new n ≡ lowered_below me old new m
lowered_next me old new n m one none = ap (λ (k : ℕ). lowered_below me old new k) one ∙ ap (λ (b : Bool). if b then Some m else lowered_below me old new m) none
