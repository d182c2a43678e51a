use Rattle.std.proofs.Common.{Err, refl}
use Rattle.rcce_io.specs.declared.reading.ReadEnd.TheVariants as ends
use Rattle.trace_program.proofs.launcher.hear_file.Goals as goal

pub returns-in-Ok : goal.returns-in-Ok
returns-in-Ok g c = c.end_file.ensures (g.F.Files.seen c.args.files.now) (g.F.Files.seen c.read_file.new.files) c.in-Ok.ensures.reads

pub end_file-requires : goal.end_file-requires
end_file-requires g c = record { hears = c.in-Ok.ensures.hears c.args.job.asked c.requires.hears }

pub returns-in-Err-Absent : goal.returns-in-Err-Absent
returns-in-Err-Absent g c = (_, Err ends.Absent, rw c.in-Err-Absent.field-0-is at c.in-Err-Absent.ensures.reads, (refl, refl))

pub returns-in-Err-Failed : goal.returns-in-Err-Failed
returns-in-Err-Failed g c = (_, Err ends.Failed, rw c.in-Err-Failed.field-0-is at c.in-Err-Failed.ensures.reads, (refl, refl))
