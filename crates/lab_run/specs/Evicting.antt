-- The evictor of a lab: it names one place among the cached lines (this project's profile).
use Rattle.std.specs.Prelude.{◌≡◌, ℕ, ◌&&◌, not, ◌==◌, nat_lt, if◌then◌else◌, List, Option, Some, None, option_and_then}
use Rattle.scc_base.specs.Places.{LineAt}
use Rattle.line_cache.specs.declared.cache.Entry.{Entry}
use Rattle.line_cache.specs.Lines.{IsPlaceOf}
use Rattle.line_cache.specs.Eviction.{most_evictions, count_after}

-- an evictor that names one place: the place, if any, and how many entries it has evicted
pub record Place : Type 0 where
  pub at : Option ℕ
  pub count : ℕ

-- the evictor's answer while `held` entries are held: its place, if that holds an entry and the evictor may still evict
abbrev pub named_answer : Place → ℕ → Option ℕ
named_answer e held = option_and_then (λ at. if nat_lt at held && not (e.count == most_evictions) then Some at else None) e.at

-- the evictor after that answer
abbrev pub named_next : Place → ℕ → Place
named_next e held = record { at = e.at; count = count_after (named_answer e held) e.count }

-- the place of the line that an evictor must name: that of the line in the cache, or none
abbrev pub IsPlaceIn : Option LineAt → List Entry → Option ℕ → Type 0
IsPlaceIn None es at = at ≡ None
IsPlaceIn (Some line) es at = IsPlaceOf es line at
