-- What a trace's file comes to.
use Rattle.std.proofs.Common.{◌≡◌, ℕ, ◌<◌, ◌≤◌, List, codes, length, refl, sym, subst, ap, inl, Result, Ok, Err}
use Rattle.rcce_io.specs.Files.{FilesView}
use Rattle.rcce_io.specs.Reading.{ReadsAll}
use Rattle.outcomes.specs.Coming.{Comes}
use Rattle.outcomes.specs.Outcomes.{Ran, file_refused, run_outcome}
use Rattle.outcomes.proofs.ReadingLemmas.{reads_long, reads_short}
use Rattle.trace_text.specs.Grammar.{trace_of}
use Rattle.trace_text.specs.Kinds.{trace_fault_name}
use Rattle.trace_text.specs.Traces.{TraceView, most_trace_bytes}
use Rattle.trace_text.specs.declared.faults.TraceFault.{TraceFault}
use Rattle.trace_program.specs.Program.{TraceCommand, said_plan, trace_file_plan, trace_plan, trace_ran}

-- a trace that is refused
pub comes_refused : (program : List ℕ) (command : TraceCommand) (said : Result TraceView TraceFault) (fault : TraceFault) (kind : List ℕ) (files : FilesView) → said ≡ Err fault → kind ≡ trace_fault_name fault.kind
    → Comes program (said_plan command said) files files (file_refused program command.file fault.line kind)
comes_refused program command said fault kind files same named =
    subst (λ (s : Result TraceView TraceFault). Comes program (said_plan command s) files files (file_refused program command.file fault.line kind)) (sym same)
    (refl, inl (ap (λ (k : List ℕ). file_refused program command.file fault.line k) named))

-- a trace that is judged
pub comes_judged : (program : List ℕ) (command : TraceCommand) (said : Result TraceView TraceFault) (trace : TraceView) (ran : Ran) (files : FilesView) → said ≡ Ok trace → ran ≡ trace_ran command.asked trace
    → Comes program (said_plan command said) files files (run_outcome ran)
comes_judged program command said trace ran files same is =
    subst (λ (s : Result TraceView TraceFault). Comes program (said_plan command s) files files (run_outcome ran)) (sym same) (refl, inl (ap run_outcome is))

-- ---- the file is read to its end

module _ (program : List ℕ) (command : TraceCommand) (bytes : List ℕ) (before after : FilesView) (reads : ReadsAll command.file most_trace_bytes before after (Ok bytes)) where
  -- a file that is longer than a trace may be
  pub ends_long : (kind : List ℕ) → most_trace_bytes < length bytes → kind ≡ codes "TooLong" → Comes program (trace_file_plan command) before after (file_refused program command.file 0 kind)
  ends_long kind long named =
      subst (λ (k : List ℕ). Comes program (trace_file_plan command) before after (file_refused program command.file 0 k)) (sym named)
      (reads_long command.file most_trace_bytes before after bytes reads long program (trace_plan command))

  -- and one that is not
  module _ (short : length bytes ≤ most_trace_bytes) where
    pub ends_refused : (fault : TraceFault) (kind : List ℕ) → trace_of bytes ≡ Err fault → kind ≡ trace_fault_name fault.kind → Comes program (trace_file_plan command) before after (file_refused program command.file fault.line kind)
    ends_refused fault kind said named =
        reads_short command.file most_trace_bytes before after bytes reads short program (trace_plan command) after _ (comes_refused program command (trace_of bytes) fault kind after said named)

    pub ends_judged : (trace : TraceView) (ran : Ran) → trace_of bytes ≡ Ok trace → ran ≡ trace_ran command.asked trace → Comes program (trace_file_plan command) before after (run_outcome ran)
    ends_judged trace ran said is =
        reads_short command.file most_trace_bytes before after bytes reads short program (trace_plan command) after _ (comes_judged program command (trace_of bytes) trace ran after said is)
