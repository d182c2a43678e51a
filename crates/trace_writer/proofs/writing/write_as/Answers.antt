use Rattle.std.proofs.Common.{[], sym, subst}
use Rattle.rcce_io.specs.Sending.{SinkView}
use Rattle.trace_writer.specs.Desks.{HasWritten}
use Rattle.trace_writer.proofs.WritingLaws.{told_fact, told_none}
use Rattle.trace_writer.proofs.writing.write_as.Goals as goal

pub begin-fault-requires : goal.begin-fault-requires
begin-fault-requires g c = record { new = c.requires.judge.1; none = c.new-buffer.ensures }

pub run_seen-requires-clause-seen : goal.run_seen-requires-clause-seen
run_seen-requires-clause-seen g c =
    told_none _ _ c.args.chip.now c.requires.judge.0 c.requires.empty (
      sym c.requires.origin.1,
      subst (λ (v : SinkView). HasWritten v c.args.judge c.begin-fault.new.buffer (g.S.Sink.seen c.begin-fault.new.sink) c.begin-fault.result []) (sym c.requires.origin.0) c.begin-fault.ensures.begun,
    )

pub returns-clause-same : goal.returns-clause-same
returns-clause-same g c = told_fact _ _ c.run_seen.new.chip _ _ c.run_seen.ensures.seen (λ run told. told.0)
