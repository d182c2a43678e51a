-- Whom a rank faces in what stands next: on whom it depends whether the rank owns an enabled step.
use Rattle.std.specs.Prelude.{◌≡◌, ◌≢◌, ℕ, ◌<◌, ◌==◌, Bool, true, false, List, None}
use Rattle.std.specs.Option.{option_map_or}
use Rattle.std.specs.Prelude.{slice_get}
use Rattle.script_machine.specs.declared.facing.Facing.{Facing}
use Rattle.script_machine.specs.declared.facing.Facing.TheVariants as facing
use Rattle.script_machine.specs.Local.{Local, local_next}
use Rattle.script_machine.specs.Next.{facing_of}
use Rattle.script_machine.specs.Next.Next.{Ends}
use Rattle.plain_meaning.specs.Step.{Configuration, step_of}

-- whom rank i faces: nobody where there is no such rank
abbrev pub facing_at : List Local → ℕ → Facing
facing_at ues i = facing_of (option_map_or local_next (slice_get ues i) Ends)

-- whether a rank may get a step because rank i goes on, by whom the two face then: it faces i, or both are at a barrier
abbrev pub heeds : Facing → ℕ → Facing → Bool
heeds facing.Nobody i there = false
heeds (facing.One rank) i there = rank == i
heeds facing.Group i facing.Nobody = false
heeds facing.Group i (facing.One rank) = false
heeds facing.Group i facing.Group = true

-- rank k is not rank j, and does not heed what ranks i and j have come to
pub record IsAside (ues : List Local) (i j k : ℕ) : Type 0 where
  pub apart : k ≢ j
  pub one : heeds (facing_at ues k) i (facing_at ues i) ≡ false
  pub other : heeds (facing_at ues k) j (facing_at ues j) ≡ false

-- none of the first n ranks owns an enabled step
abbrev pub IsStillTo : (ℕ → ℕ → ℕ) → ℕ → Configuration Local → Type 0
IsStillTo keys n c = (k : ℕ) → k < n → step_of keys local_next c k ≡ None

-- none of the first n ranks heeds what rank i has come to, which faced these before
abbrev pub AreAside : List Local → ℕ → Facing → ℕ → Type 0
AreAside ues i facing.Nobody n = (k : ℕ) → k < n → IsAside ues i i k
AreAside ues i (facing.One j) n = (k : ℕ) → k < n → IsAside ues i j k
AreAside ues i facing.Group n = n ≡ 0
