-- What a call of `rcceaudit` leaves on the chip (this project's profile).
use Rattle.std.specs.Prelude.{◌≡◌, ℕ, List, map, Option, Some, None, Ok}
use Rattle.std.specs.List.{range_with_len}
use Rattle.rcce_io.specs.Files.{NamedFile}
use Rattle.scc_base.specs.Setups.{SetupView}
use Rattle.scc_mesh.specs.Scenes.{ChipView, about_in, records_in}
use Rattle.script_rules.specs.Script.{Script, rules_of}
use Rattle.outcomes.specs.Coming.{ByTest}
use Rattle.outcomes.specs.Outcomes.{Outcome, run_outcome}
use Rattle.outcomes.specs.Statuses.{is_quiet}
use Rattle.rcce_words.specs.ScriptFiles.{ScriptIn}
use Rattle.rcce_words.specs.ScriptWords.{Command}
use Rattle.rcce_words.specs.Setups.{default_setup}
use Rattle.rcce_audit.specs.declared.verdicts.Verdict.TheVariants as verdict
use Rattle.rcce_audit.specs.Grammar.{log_of}
use Rattle.rcce_audit.specs.Logs.{LogView}
use Rattle.rcce_audit.specs.Texts.{log_text}
use Rattle.rcce_audit.specs.Verdicts.{IsVerdict}
use Rattle.log_run.specs.LogRuns.{HasRunLogged}
use Rattle.audit_program.specs.Program.{log_ran, script_log}

-- the setup of a run: line flags, and rank r on core r
abbrev pub log_setup_by : Script → SetupView
log_setup_by script = default_setup script.nue (rules_of script.items)

-- the log of the finished calls of a chip's ranks
abbrev pub chip_log : ChipView → LogView
chip_log chip =
    record {
      nue = (about_in chip).nue;
      comms = (about_in chip).comms;
      lists = map (λ rank. (records_in chip rank).calls) (range_with_len 0 48);
    }

-- A script was run on the chip, and its log, which the plain meaning tells, is the log of the chip's finished calls. The text
-- of this log is read as this log, and its verdict is that it is legal.
pub record HasLogged (script : Script) (chip : ChipView) : Type 0 where
  pub run : HasRunLogged script (log_setup_by script) chip
  pub log : chip_log chip ≡ script_log script
  pub read : log_of (log_text (chip_log chip)) ≡ Ok (chip_log chip)
  pub judged : IsVerdict (chip_log chip) verdict.Yes

-- Where the run's log is the outcome, the chip has this run: that of a script which stands in the file that was asked for.
-- Else it is blank.
abbrev pub RunTells : Option (List NamedFile) → Command → ChipView → Outcome → Type 0
RunTells told command chip o = ByTest (is_quiet o.status) (chip ≡ None)
    ((script : Script) × ScriptIn command.script told command.nue script × (o ≡ run_outcome (log_ran script)) × HasLogged script chip)

-- where words are refused the chip is blank
abbrev pub WordsTell : Option (List NamedFile) → Option Command → ChipView → Outcome → Type 0
WordsTell told None chip o = chip ≡ None
WordsTell told (Some command) chip o = RunTells told command chip o

-- and where a log is judged
abbrev pub AuditChipTells : Option (List NamedFile) → Option (List ℕ) → Option Command → ChipView → Outcome → Type 0
AuditChipTells told (Some file) command chip o = chip ≡ None
AuditChipTells told None command chip o = WordsTell told command chip o
