-- The groups of the communicators of a run (RCCE specification 2.0, comm_split: each rank keeps the ranks of
-- its own colour, in rank order; the colours by remainder and by quotient are this project's profile).
use Rattle.std.specs.Prelude.{◌≡◌, ◌≢◌, ℕ, zero, suc, ◌+◌, ◌*◌, ◌/◌, ◌%◌, ◌<◌, ◌≤◌, List, slice_index_or}
use Rattle.scc_base.specs.Groups.{place_in}
use Rattle.scc_base.specs.declared.communicators.CommRule.{CommRule}
use Rattle.scc_base.specs.declared.communicators.CommRule.TheVariants.{Absent, World, Mod, Div}

-- the rule of a communicator
abbrev pub rule_of : List CommRule → ℕ → CommRule
rule_of comms comm = slice_index_or comms comm Absent

-- the key of a rank under a rule, from the keys of all communicators: one key in the world; and under a
-- split the key of the rank's group of the parent with the rank's colour, which is the remainder or the
-- quotient of its place in that group
abbrev pub key_under : CommRule → (ℕ → ℕ → ℕ) → ℕ → ℕ
key_under Absent keys r = 0
key_under World keys r = 0
key_under (Mod parent k) keys r = 48 * keys parent r + place_in (keys parent) r % k
key_under (Div parent k) keys r = 48 * keys parent r + place_in (keys parent) r / k

-- the key of rank r in a communicator, by at most n rules; sixteen are enough, since a parent has a lower number
abbrev pub key_within : ℕ → List CommRule → ℕ → ℕ → ℕ
key_within zero comms comm r = 0
key_within (suc n) comms comm r = key_under (rule_of comms comm) (key_within n comms) r

-- the key of a rank in a communicator: ranks with equal keys are one group. A parent is below its child, so
-- sixteen splits lead to every communicator
unfoldable pub key_of : List CommRule → ℕ → ℕ → ℕ
key_of comms comm r = key_within 16 comms comm r

-- a rule that communicator comm may have: the world is communicator 0 alone, and a split has an earlier
-- parent that stands
abbrev pub IsRule : List CommRule → ℕ → CommRule → Type 0
IsRule comms comm Absent = comm ≢ 0
IsRule comms comm World = comm ≡ 0
IsRule comms comm (Mod parent k) = (parent < comm) × (rule_of comms parent ≢ Absent) × (1 ≤ k) × (k ≤ 48)
IsRule comms comm (Div parent k) = (parent < comm) × (rule_of comms parent ≢ Absent) × (1 ≤ k) × (k ≤ 48)

-- each of sixteen communicators has a rule that it may have
abbrev pub AreRules : List CommRule → Type 0
AreRules comms = (comm : ℕ) → comm < 16 → IsRule comms comm (rule_of comms comm)

-- two ranks are in one group under a rule, by the groups of its parent: in the world all are; a split keeps
-- together the members of a parent's group whose places have one remainder, or one quotient, by k
abbrev pub IsGrouped : CommRule → (ℕ → ℕ → ℕ) → ℕ → ℕ → Type 0
IsGrouped Absent keys r q = Unit {0}
IsGrouped World keys r q = Unit {0}
IsGrouped (Mod parent k) keys r q = (keys parent r ≡ keys parent q) × (place_in (keys parent) r % k ≡ place_in (keys parent) q % k)
IsGrouped (Div parent k) keys r q = (keys parent r ≡ keys parent q) × (place_in (keys parent) r / k ≡ place_in (keys parent) q / k)
