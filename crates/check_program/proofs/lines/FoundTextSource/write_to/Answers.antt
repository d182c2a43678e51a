use Rattle.check_program.proofs.lines.FoundTextSource.write_to.Goals as goal

pub returns-in-Mismatch : goal.returns-in-Mismatch
returns-in-Mismatch g c =
    rw c.in-Mismatch.is (rw (c.number-rank.ensures.gives, c.number-in-Mismatch.ensures.gives) at c.write_texts-in-Mismatch.ensures)
