use Rattle.std.proofs.Common.{◌∙◌}
use Rattle.trace_writer.proofs.lines.write_flags.Goals as goal

pub returns : goal.returns
returns g c =
    let to = c.from.ensures ∙ c.number.ensures.gives in
    rw (c.signal_name.ensures, to) at c.write_texts.ensures
