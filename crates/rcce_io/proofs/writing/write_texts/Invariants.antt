use Rattle.std.proofs.Common.{◌≡◌, map, take}
use Rattle.rcce_io.specs.Sending.{joined_texts, with_text}
use Rattle.rcce_io.proofs.writing.write_texts.Given as goal

abbrev pub invariant-loop-text : goal.invariant-loop-text
invariant-loop-text g l =
    g.S.Sink.seen l.sink ≡ with_text (joined_texts (map g.T.TextSource.text (take l.text-index l.texts))) (g.S.Sink.seen l.initial.sink)
