use Rattle.trace_writer.proofs.writing.write_run.Given as goal

abbrev pub ghosts-write_as : goal.ghosts-write_as
ghosts-write_as g a = record { before = g.S.Sink.seen a.out.now; name = a.out.ghost_name }
