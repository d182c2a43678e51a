use Rattle.std.proofs.Output.{has_written_of_eq}
use Rattle.station.proofs.TextLemmas.{met_words-met_text}
use Rattle.station.proofs.texts.met.Goals as goal

pub returns : goal.returns
returns g c = record {
  writes = λ plain ok.
      has_written_of_eq _ _ _ _ _ (met_words-met_text c.args.call.now _ _ _ c.args.sent.now c.kind_text-kind.ensures c.comm-comm.ensures.gives c.len-len.ensures.gives)
      (c.write.ensures.writes plain ok);
}
