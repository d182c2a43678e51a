use Rattle.std.proofs.Common.{◌≡◌, ◌<◌, ℕ, slice_index, length}
use Rattle.scc_base.specs.Groups.{place_in, root_in}
use Rattle.scc_base.proofs.communicators.group_alike.Given as goal

abbrev pub invariant-loop-r : goal.invariant-loop-r
invariant-loop-r l = (length l.roots ≡ 48) × (length l.places ≡ 48)
    × ((r : ℕ) → r < l.r → slice_index l.roots r ≡ root_in (λ x. slice_index l.labels x) r)
    × ((r : ℕ) → r < l.r → slice_index l.places r ≡ place_in (λ x. slice_index l.labels x) r)
