-- The accesses to shared words that a lab prints, as events of the chip's ranks. In a lab, rank r is on core r.
use Rattle.std.specs.Prelude.{List, [], ◌∷◌, ◌++◌}
use Rattle.scc_base.specs.Events.{load_of, store_of, take_of, free_of}
use Rattle.scc_proto.specs.Words.{RankEvent}
use Rattle.put_get.specs.Accesses.{loads_of, stores_of_line}
use Rattle.chip_memory.specs.Chips.{of_rank, of_rank_all}
use Rattle.lab_plain.specs.declared.said.Said.{Said}
use Rattle.lab_plain.specs.declared.said.Said.TheVariants as said

-- the accesses that one printed item stands for: the loads of a line, word 0 first; the stores of its written words, word 3 first; a load
-- or a store of one word; a take; a free
abbrev pub accesses_told : Said → List RankEvent
accesses_told (said.Begins line text) = []
accesses_told (said.Loads core line words) = of_rank_all core (loads_of line words)
accesses_told (said.Stores core line words mask) = of_rank_all core (stores_of_line (record { line = line; words = words; mask = mask }))
accesses_told (said.LoadsWord core at value) = of_rank core (load_of at value) ∷ []
accesses_told (said.StoresWord core at value) = of_rank core (store_of at value) ∷ []
accesses_told (said.Answers at value from) = []
accesses_told (said.Evicted line) = []
accesses_told (said.Takes core register took) = of_rank core (take_of register took) ∷ []
accesses_told (said.Frees core register) = of_rank core (free_of register) ∷ []
accesses_told (said.Caches core line words) = []
accesses_told (said.CachesNothing core) = []
accesses_told (said.Buffers core line words mask) = []
accesses_told (said.BuffersNothing core) = []

-- the accesses of all that was printed, one after the other
abbrev pub accesses_of : List Said → List RankEvent
accesses_of [] = []
accesses_of (s ∷ more) = accesses_told s ++ accesses_of more
