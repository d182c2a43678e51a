-- What an evictor answers and how its count goes. That cached lines may be dropped at any fill is of the
-- SCC External Architecture Specification; the evictors are this project's profile.
use Rattle.std.specs.Prelude.{◌≡◌, ℕ, suc, ◌+◌, ◌-◌, ◌/◌, ◌%◌, ◌^◌, Bool, ◌&&◌, not, ◌==◌, if◌then◌else◌, List, map, slice_get, Option, Some, None, IfSome, is_some, option_map}
use Rattle.std.specs.List.{range_with_len}
use Rattle.rand_pcg.specs.Lcg.{Lcg}
use Rattle.rand_pcg.specs.Pcg.{pcg32}
use Rattle.line_cache.specs.Lines.{most_lines}

-- the largest count of evictions
abbrev pub most_evictions : ℕ
most_evictions = 2 ^ 64 - 1

-- the count after an answer: one more where an entry was named
abbrev pub count_after : Option ℕ → ℕ → ℕ
count_after answer count = if is_some answer then count + 1 else count

-- how often an evictor was asked after one question more, where it counts that
abbrev pub asked_after : Option ℕ → Option ℕ
asked_after asked = option_map (λ (n : ℕ). suc n) asked

-- an evictor with this table of answers may give this one while `held` entries are held: what the table has for
-- `held` is its only answer, and beyond the table it may give any
abbrev pub MayAnswer : List (Option ℕ) → ℕ → Option ℕ → Type 0
MayAnswer answers held answer = IfSome (slice_get answers held) (λ only. answer ≡ only)

-- the table of an evictor with one answer to each number of entries that a cache may hold
unfoldable pub answers_of : (ℕ → Option ℕ) → List (Option ℕ)
answers_of answer = map answer (range_with_len 0 (most_lines + 1))

-- an evictor may name an entry: there is one, and its count can rise
abbrev pub may_evict : ℕ → ℕ → Bool
may_evict held count = not (held == 0) && not (count == most_evictions)

-- a seeded evictor: its generator, and its count
pub record Seeds : Type 0 where
  pub generator : Lcg
  pub count : ℕ

-- the next word of the generator evicts where 4 divides it, and then a quarter of it picks the entry
abbrev pub picked_entry : ℕ → ℕ → ℕ → Option ℕ
picked_entry word held count =
    if word % 4 == 0 && may_evict held count then Some (word / 4 % held) else None

-- what a seeded evictor answers while `held` entries are held
abbrev pub seeded_answer : Seeds → ℕ → Option ℕ
seeded_answer e held = picked_entry (pcg32 e.generator).0 held e.count

-- the seeded evictor after that answer: one word was drawn
abbrev pub seeded_next : Seeds → ℕ → Seeds
seeded_next e held =
    record { generator = (pcg32 e.generator).1; count = count_after (seeded_answer e held) e.count }

-- the evictor that drops the oldest entry whenever it may; its state is its count
abbrev pub always_answer : ℕ → ℕ → Option ℕ
always_answer count held = if may_evict held count then Some 0 else None

-- the count of that evictor after its answer
abbrev pub always_next : ℕ → ℕ → ℕ
always_next count held = count_after (always_answer count held) count
