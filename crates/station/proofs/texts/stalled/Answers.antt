use Rattle.std.proofs.Common.{◌∙◌}
use Rattle.std.proofs.Output.{has_written_of_eq}
use Rattle.station.proofs.TextLemmas.{flag_words-stall_text, register_words-stall_text}
use Rattle.station.proofs.texts.stalled.Goals as goal

pub returns-in-Flag : goal.returns-in-Flag
returns-in-Flag g c = record {
  writes = λ plain ok.
      has_written_of_eq _ _ _ _ _ (flag_words-stall_text c.args.call.now c.args.polls _ _ _ _ _ c.args.spot.now c.in-Flag.is
      (c.number-core.ensures.gives ∙ c.core.ensures.gives) c.line-line.ensures.gives c.word-word.ensures.gives)
      (c.write.ensures.writes plain ok);
}

pub returns-in-Register : goal.returns-in-Register
returns-in-Register g c = record {
  writes = λ plain ok.
      has_written_of_eq _ _ _ _ _ (register_words-stall_text c.args.call.now c.args.polls _ _ c.args.spot.now c.in-Register.is c.number-core-in-Register.ensures.gives)
      (c.write-in-Register.ensures.writes plain ok);
}
