-- What a log's file comes to.
use Rattle.std.proofs.Common.{◌≡◌, ℕ, List, refl, sym, subst, ap, inl, Option, Result, Ok, Err}
use Rattle.rcce_io.specs.Files.{FilesView, NamedFile}
use Rattle.outcomes.specs.Coming.{Comes, IsMeant}
use Rattle.outcomes.specs.Outcomes.{Outcome, file_refused, run_outcome}
use Rattle.rcce_audit.specs.declared.faults.LogFault.{LogFault}
use Rattle.rcce_audit.specs.declared.verdicts.Verdict.{Verdict}
use Rattle.rcce_audit.specs.Grammar.{log_of}
use Rattle.rcce_audit.specs.Kinds.{fault_name}
use Rattle.rcce_audit.specs.Logs.{LogView}
use Rattle.rcce_audit.specs.Verdicts.{IsJudge, IsVerdict}
use Rattle.rcce_audit.proofs.ReadingLemmas.{text_back}
use Rattle.rcce_audit.proofs.VerdictLemmas.{verdict_once}
use Rattle.scc_mesh.specs.Scenes.{ChipView}
use Rattle.audit_program.specs.History.{AuditChipTells}
use Rattle.rcce_words.specs.ScriptWords.{Command}
use Rattle.audit_program.specs.Program.{log_plan, named_plan, verdict_ran}

-- a log that is refused
pub comes_refused : (judge : LogView → Verdict) (program file : List ℕ) (said : Result LogView LogFault) (fault : LogFault) (kind : List ℕ) (files : FilesView) → said ≡ Err fault → kind ≡ fault_name fault.kind
    → Comes program (log_plan judge file said) files files (file_refused program file fault.line kind)
comes_refused judge program file said fault kind files same named =
    subst (λ (s : Result LogView LogFault). Comes program (log_plan judge file s) files files (file_refused program file fault.line kind)) (sym same)
    (refl, inl (ap (λ (k : List ℕ). file_refused program file fault.line k) named))

-- a log that is judged
pub comes_judged : (judge : LogView → Verdict) (program file bytes : List ℕ) (log : LogView) (verdict : Verdict) (files : FilesView) → IsJudge judge → log_of bytes ≡ Ok log → IsVerdict log verdict
    → Comes program (log_plan judge file (log_of bytes)) files files (run_outcome (verdict_ran verdict))
comes_judged judge program file bytes log verdict files tells same judged =
    let one : judge log ≡ verdict = verdict_once log (judge log) verdict (tells log (text_back bytes log same).1) judged in
    subst (λ (s : Result LogView LogFault). Comes program (log_plan judge file s) files files (run_outcome (verdict_ran verdict))) (sym same)
    (refl, inl (ap (λ (v : Verdict). run_outcome (verdict_ran v)) (sym one)))

-- what is meant by the file that the words name, if they name one
pub named_meant : (judge : LogView → Verdict) (program : List ℕ) (named told : Option (List ℕ)) (command : Option Command) (before after : FilesView) (o : Outcome) → named ≡ told
    → IsMeant program (named_plan judge named command) before after o → IsMeant program (named_plan judge told command) before after o
named_meant judge program named told command before after o same meant = subst (λ (n : Option (List ℕ)). IsMeant program (named_plan judge n command) before after o) same meant

pub named_tells : (files : Option (List NamedFile)) (named told : Option (List ℕ)) (command : Option Command) (chip : ChipView) (o : Outcome) → named ≡ told → AuditChipTells files named command chip o → AuditChipTells files told command chip o
named_tells files named told command chip o same tells = subst (λ (n : Option (List ℕ)). AuditChipTells files n command chip o) same tells
