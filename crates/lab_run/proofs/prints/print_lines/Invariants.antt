use Rattle.std.proofs.Common.{◌≡◌, ◌++◌, map, take}
use Rattle.line_cache.specs.declared.cache.Entry.{Entry}
use Rattle.lab_plain.specs.declared.said.Said.TheVariants.{Caches}
use Rattle.lab_run.proofs.prints.print_lines.Given as goal

-- the lines so far were printed
abbrev pub invariant-loop-entry : goal.invariant-loop-entry
invariant-loop-entry l = l.said.items ≡ l.fn.said.items ++ map (λ (x : Entry). Caches l.core x.line x.words) (take l.entry-index l.lines)
