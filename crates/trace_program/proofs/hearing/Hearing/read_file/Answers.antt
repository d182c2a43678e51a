use Rattle.std.proofs.Common.{subst}
use Rattle.rcce_io.specs.Files.{Opens}
use Rattle.rcce_io.specs.declared.files.Opened.{Opened}
use Rattle.trace_text.specs.Traces.{most_trace_bytes}
use Rattle.trace_program.proofs.FileLemmas.{all_read}
use Rattle.trace_program.proofs.hearing.Hearing.read_file.Goals as goal

pub returns-in-Open-clause-reads : goal.returns-in-Open-clause-reads
returns-in-Open-clause-reads g c =
    let before = g.F.Files.seen c.args.files.now in
    let between = g.F.Files.seen c.open.new.self in
    let opens = subst (λ (o : Opened). Opens c.args.file.now before between o) c.in-Open.is c.open.ensures in
    all_read c.args.file.now most_trace_bytes before between (g.F.Files.seen c.read_rest.new.files) opens _ c.read_rest.ensures.reads
