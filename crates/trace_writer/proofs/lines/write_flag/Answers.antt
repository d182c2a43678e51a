use Rattle.std.proofs.Common.{◌∙◌}
use Rattle.trace_writer.proofs.lines.write_flag.Goals as goal

pub returns : goal.returns
returns g c =
    let from = c.from.ensures ∙ c.number.ensures.gives in
    let to = c.from-2.ensures ∙ c.number-2.ensures.gives in
    rw (c.signal_name.ensures, from, to) at c.write_texts.ensures
