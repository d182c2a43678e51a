use Rattle.rcce_words.specs.ScriptFiles.{bytes_plan}
use Rattle.rcce_words.proofs.ScriptLemmas.{reads_by}
use Rattle.rcce_words.proofs.script_files.read_script_file.Goals as goal

pub returns-in-Ok : goal.returns-in-Ok
returns-in-Ok g c = record {
  reads = reads_by c.args.file.now c.args.nue _ (g.F.Files.seen c.args.files.now) (g.F.Files.seen c.read_file.new.files) _ c.in-Ok.ensures.reads c.in-Ok.ensures.within c.in-Ok.ensures.holds
      (rw c.as_slice.ensures at c.read_bytes.ensures.reads);
  ranks = c.read_bytes.ensures.ranks;
}

pub returns-in-Err-clause-reads : goal.returns-in-Err-clause-reads
returns-in-Err-clause-reads g c = λ program next. c.in-Err.ensures.reads program (bytes_plan next c.args.file.now c.args.nue)
