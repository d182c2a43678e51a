use Rattle.std.proofs.Common.{◌≡◌, drop, None}
use Rattle.line_cache.specs.Lines.{cached_words}
use Rattle.line_cache.proofs.cache.search.Given as goal

abbrev pub invariant-loop-i : goal.invariant-loop-i
invariant-loop-i l = cached_words (drop l.i l.entries) l.line ≡ None
