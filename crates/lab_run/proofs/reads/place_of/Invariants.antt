use Rattle.std.proofs.Common.{◌≡◌, drop, None}
use Rattle.line_cache.specs.Lines.{cached_words}
use Rattle.lab_run.proofs.reads.place_of.Given as goal

abbrev pub invariant-loop-at : goal.invariant-loop-at
invariant-loop-at l = cached_words (drop l.at l.entries) l.line ≡ None
