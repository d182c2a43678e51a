use Rattle.std.proofs.Common.{subst, sym, ◌∙◌}
use Rattle.rcce_io.specs.Sending.{Sends, joined_texts}
use Rattle.rank_monitor.specs.Uses.{role_meant}
use Rattle.rank_monitor.specs.declared.uses.Use.{Use}
use Rattle.trace_writer.specs.Lines.{role_words}
use Rattle.trace_writer.proofs.lines.write_use.Goals as goal

pub returns-in-Chunk : goal.returns-in-Chunk
returns-in-Chunk g c =
    let told = rw c.number-in-Chunk.ensures.gives at c.write_numbered.ensures in
    subst (λ (u : Use). Sends (joined_texts (role_words (role_meant u))) (g.S.Sink.seen c.args.sink.now) (g.S.Sink.seen c.write_numbered.new.sink) c.write_numbered.result)
    (sym c.in-Chunk.is) told

pub returns-in-SignalFlag : goal.returns-in-SignalFlag
returns-in-SignalFlag g c =
    subst (λ (u : Use). Sends (joined_texts (role_words (role_meant u))) (g.S.Sink.seen c.args.sink.now) (g.S.Sink.seen c.write_flag.new.sink) c.write_flag.result)
    (sym c.in-SignalFlag.is) c.write_flag.ensures

pub returns-in-SignalFlags : goal.returns-in-SignalFlags
returns-in-SignalFlags g c =
    subst (λ (u : Use). Sends (joined_texts (role_words (role_meant u))) (g.S.Sink.seen c.args.sink.now) (g.S.Sink.seen c.write_flags.new.sink) c.write_flags.result)
    (sym c.in-SignalFlags.is) c.write_flags.ensures

pub returns-in-Release : goal.returns-in-Release
returns-in-Release g c =
    let owner = c.from-in-Release.ensures ∙ c.number-in-Release.ensures.gives in
    let told = rw owner at c.write_numbered-in-Release.ensures in
    subst (λ (u : Use). Sends (joined_texts (role_words (role_meant u))) (g.S.Sink.seen c.args.sink.now) (g.S.Sink.seen c.write_numbered-in-Release.new.sink) c.write_numbered-in-Release.result)
    (sym c.in-Release.is) told
