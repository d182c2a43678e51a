-- The load of a line that is not cached.
use Rattle.std.specs.Prelude.{◌≡◌, ◌++◌, Option}
use Rattle.scc_base.specs.Places.{LineAt}
use Rattle.line_cache.specs.Lines.{with_filled_line}
use Rattle.put_get.specs.Accesses.{loads_of}
use Rattle.put_get.specs.Cores.{Private}
use Rattle.chip_memory.specs.Chips.{TurnChipView, all_events, of_rank_all}
use Rattle.lab_plain.specs.Scenes.{is_evicted, lines_after_evictor, line_in}
use Rattle.lab_run.specs.declared.reads.Loaded.{Loaded}
use Rattle.lab_run.specs.Turns.{MadeHeapAccesses, MayGoOn, memory_in}

-- A core loaded a line by four loads, and its words are the shared ones. The line came into the cache, and the named line left if it was
-- cached then. The shared words are unchanged. Seven parameters: what was asked (the line to load, the one to leave), what the load
-- returned, and the core and the chip before and after.
pub record LoadsLine (evict : Option LineAt) (c : Private) (s : TurnChipView) (line : LineAt) (loaded : Loaded) (d : Private)
    (t : TurnChipView) : Type 0 where
  pub words : loaded.words ≡ line_in (memory_in s) line
  pub left : loaded.left ≡ is_evicted evict (with_filled_line c.lines line (line_in (memory_in s) line))
  pub lines : d.lines ≡ lines_after_evictor evict (with_filled_line c.lines line (line_in (memory_in s) line))
  pub memory : memory_in t ≡ memory_in s
  pub makes : all_events t ≡ all_events s ++ of_rank_all s.rank (loads_of line loaded.words)
  pub out : d.out ≡ c.out
  pub ready : MayGoOn d t
  pub kept : MadeHeapAccesses s t
