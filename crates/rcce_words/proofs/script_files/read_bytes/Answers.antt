use Rattle.outcomes.proofs.ReadingLemmas.{lacks_memory}
use Rattle.rcce_words.specs.ScriptFiles.{bytes_plan}
use Rattle.rcce_words.proofs.ScriptLemmas.{comes_refused}
use Rattle.rcce_words.proofs.script_files.read_bytes.Goals as goal

pub returns-in-Err-Fault-clause-reads : goal.returns-in-Err-Fault-clause-reads
returns-in-Err-Fault-clause-reads c = λ program next files.
    comes_refused program next c.args.file.now c.args.bytes.now c.args.nue c.in-Err-Fault.fault c.name.result.now files (rw c.in-Err-Fault.field-0-is at c.in-Err-Fault.ensures.gives) c.name.ensures

pub returns-in-Err-Memory-clause-reads : goal.returns-in-Err-Memory-clause-reads
returns-in-Err-Memory-clause-reads c = λ program next files. lacks_memory program (bytes_plan next c.args.file.now c.args.nue c.args.bytes.now) files
