use Rattle.std.proofs.Common.{map, sym, ◌∙◌, ap}
use Rattle.trace_text.specs.Progress.{progress_of}
use Rattle.trace_text.proofs.ProgressLemmas.{split_refused, split_takes}
use Rattle.trace_text.proofs.reader.TraceReader.read_line.Goals as goal
use Rattle.trace_text.proofs.reader.TraceReader.read_line.Goals.{then-read_comm, else-read_comm}

pub returns-then-begins_comm-clause-takes : goal.returns-then-begins_comm-clause-takes
returns-then-begins_comm-clause-takes c =
    let old = progress_of c.args.self.now in
    let new = progress_of c.read_comm.new.self in
    let same = ap (map (λ word. word.now)) c.as_slice.ensures.value ∙ c.in_ok-words.ensures in
    let begins = sym c.begins_comm.ensures ∙ c.if-begins_comm.true in
    elim c.if-read_comm.branch [
      | then-read_comm w ↦ split_takes old new c.args.line.now _ c.if-line-gt-MOST_LINE_BYTES.false same begins c.read_comm.result _ c.read_comm.ensures w.if-read_comm.true w.result-is
      | else-read_comm w ↦ split_refused old new c.args.line.now _ c.if-line-gt-MOST_LINE_BYTES.false same begins c.read_comm.result _ c.read_comm.ensures w.if-read_comm.false w.result-is
    ]
