use Rattle.run_program.proofs.lines.write_message.Goals as goal

pub returns : goal.returns
returns g c =
    rw (c.number.ensures.gives, c.number-2.ensures.gives, c.kind_text.ensures, c.comm.ensures.gives, c.len.ensures.gives) at c.write_texts.ensures
