use Rattle.std.proofs.Common.{sym, ap, ◌∙◌}
use Rattle.std.proofs.Output.{has_written_of_eq}
use Rattle.station.specs.Texts.{malloc_text}
use Rattle.station.proofs.TextLemmas.{full_words-malloc_text}
use Rattle.station.proofs.texts.refused.Goals as goal

pub returns-in-Full : goal.returns-in-Full
returns-in-Full g c = record {
  writes = λ plain ok.
      has_written_of_eq _ _ _ _ _ (full_words-malloc_text c.in-Full.asked c.in-Full.longest ∙ sym (ap malloc_text c.in-Full.is)) (c.write-in-Full.ensures.writes plain ok);
}
