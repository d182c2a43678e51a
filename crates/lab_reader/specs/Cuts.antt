-- How a word that was cut in two is represented.
use Rattle.lab_reader.specs.declared.words.Parts.{Parts}
use Rattle.lab_reader.specs.Words.{Cut}

-- the parts before and after the mark
abbrev pub cut_of : Parts → Cut
cut_of parts = record { front = parts.front.now; back = parts.back.now }
