-- What the plan of a run comes to, and what the run leaves on the chip.
use Rattle.std.proofs.Common.{◌≡◌, ℕ, List, map, codes, refl, sym, subst, inl, Bool, true, false, if◌then◌else◌, Option, Some, None, Result, Ok, Err}
use Rattle.std.specs.List.{range_with_len}
use Rattle.rcce_io.specs.Files.{FilesView, NamedFile}
use Rattle.scc_base.specs.Setups.{SetupView}
use Rattle.scc_mesh.specs.Scenes.{ChipView}
use Rattle.script_rules.specs.Script.{Script}
use Rattle.script_rules.specs.Settled as settled
use Rattle.outcomes.specs.Coming.{ByTest, Comes, IsMeant}
use Rattle.outcomes.specs.Complaints.{complaint_outcome, outcome_of}
use Rattle.outcomes.specs.Delivery.{Delivers, Sinks}
use Rattle.outcomes.specs.Outcomes.{Outcome, file_refused, run_outcome}
use Rattle.outcomes.specs.Plans.{Plan}
use Rattle.outcomes.specs.Plans.Plan.{Runs, Refuses}
use Rattle.outcomes.specs.Statuses.{is_quiet}
use Rattle.outcomes.specs.declared.complaint.Complaint.{Complaint}
use Rattle.outcomes.specs.declared.status.Status.{Status}
use Rattle.outcomes.proofs.StatusLemmas.{complaint_quiet, run_loud}
use Rattle.log_run.specs.LogRuns.{HasRunLogged}
use Rattle.log_run.specs.Sizes.{has_room_for_all}
use Rattle.audit_program.specs.declared.logged.Logged.{Logged}
use Rattle.rcce_audit.specs.declared.verdicts.Verdict.TheVariants as verdict
use Rattle.rcce_audit.specs.Grammar.{log_of}
use Rattle.rcce_audit.specs.Logs.{LogView}
use Rattle.rcce_audit.specs.Texts.{log_text}
use Rattle.rcce_audit.specs.Verdicts.{IsVerdict}
use Rattle.rcce_words.specs.declared.script_words.ScriptJob.{ScriptJob}
use Rattle.rcce_words.specs.ScriptFiles.{LeadsTo, ScriptIn}
use Rattle.rcce_words.specs.ScriptWords.{Command, job_command, plan_of}
use Rattle.audit_program.specs.History.{HasLogged, RunTells, WordsTell, chip_log, log_setup_by}
use Rattle.audit_program.specs.Loading.{EndsByPlan, HasRan, LaunchesLogged, logged_ran}
use Rattle.audit_program.specs.Program.{audit_command_plan, log_ran, log_run_plan, script_log}
use Rattle.audit_program.proofs.BackLemmas.{judged_legal, read_back}

-- ---- the plan of a script

abbrev by_room : List ℕ → Script → Bool → Plan
by_room file script room = if room then Runs (log_ran script) else Refuses file 0 (codes "TooLong")

-- too many calls
pub comes_refused : (name file : List ℕ) (script : Script) (files : FilesView) → false ≡ has_room_for_all script → Comes name (log_run_plan file script) files files (file_refused name file 0 (codes "TooLong"))
comes_refused name file script files full = subst (λ (room : Bool). Comes name (by_room file script room) files files (file_refused name file 0 (codes "TooLong"))) full (refl, inl refl)

-- a run
pub comes_run : (name file : List ℕ) (script : Script) (files : FilesView) → has_room_for_all script ≡ true → Comes name (log_run_plan file script) files files (run_outcome (log_ran script))
comes_run name file script files room = subst (λ (b : Bool). Comes name (by_room file script b) files files (run_outcome (log_ran script))) (sym room) (refl, inl refl)

-- ---- the run

shows_run : (script : Script) (chip : ChipView) → HasLogged script chip
    → ByTest (is_quiet (run_outcome (log_ran script)).status) (chip ≡ None) ((run_outcome (log_ran script) ≡ run_outcome (log_ran script)) × HasLogged script chip)
shows_run script chip has =
    let o : Outcome = run_outcome (log_ran script) in
    let P : Bool → Type 0 = λ b. ByTest b (chip ≡ None) ((o ≡ o) × HasLogged script chip) in
    subst P (sym (run_loud (log_ran script))) (refl, has)

shows_none : (script : Script) (chip : ChipView) (why : Complaint) → chip ≡ None
    → ByTest (is_quiet (complaint_outcome (codes "rcceaudit") why).status) (chip ≡ None) ((complaint_outcome (codes "rcceaudit") why ≡ run_outcome (log_ran script)) × HasLogged script chip)
shows_none script chip why blank =
    let o : Outcome = complaint_outcome (codes "rcceaudit") why in
    let P : Bool → Type 0 = λ b. ByTest b (chip ≡ None) ((o ≡ run_outcome (log_ran script)) × HasLogged script chip) in
    subst P (sym (complaint_quiet (codes "rcceaudit") why)) blank

pub has_ran : (file : List ℕ) (script : Script) (chip : ChipView) (before after : Sinks) (s : Status) (answer : Result Logged Complaint) → LaunchesLogged file script chip answer
    → Delivers (outcome_of (codes "rcceaudit") logged_ran answer) before after s → HasRan file script chip before after s
has_ran file script chip before after s (Ok logged) (same, room, has) delivers = record {
  outcome = run_outcome (log_ran script);
  comes = λ files. comes_run (codes "rcceaudit") file script files room;
  delivers = subst (λ (x : Script). Delivers (run_outcome (log_ran x)) before after s) same delivers;
  shows = shows_run script chip has;
}
has_ran file script chip before after s (Err why) (comes, blank) delivers = record {
  outcome = complaint_outcome (codes "rcceaudit") why;
  comes = comes;
  delivers = delivers;
  shows = shows_none script chip why blank;
}

-- the log of a chip that a script ran on
pub has_logged : (script : Script) (set : SetupView) (chip : ChipView) → settled.IsWholeScript script.nue script.items → set ≡ log_setup_by script → HasRunLogged script set chip → HasLogged script chip
has_logged script set chip whole same run =
    let own : HasRunLogged script (log_setup_by script) chip = subst (λ (s : SetupView). HasRunLogged script s chip) same run in
    let log : chip_log chip ≡ script_log script =
    λ i. record { nue = (own.setup i).nue; comms = (own.setup i).comms; lists = map (λ rank. own.finished rank i) (range_with_len 0 48) } in
    record {
      run = own;
      log = log;
      read = subst (λ (l : LogView). log_of (log_text l) ≡ Ok l) (sym log) (read_back script chip whole own);
      judged = subst (λ (l : LogView). IsVerdict l verdict.Yes) (sym log) (judged_legal script chip whole own);
    }

-- ---- the whole call

tells_by : (test : Bool) (told : Option (List NamedFile)) (command : Command) (script : Script) (chip : ChipView) (o : Outcome) → ScriptIn command.script told command.nue script
    → ByTest test (chip ≡ None) ((o ≡ run_outcome (log_ran script)) × HasLogged script chip)
    → ByTest test (chip ≡ None) ((x : Script) × ScriptIn command.script told command.nue x × (o ≡ run_outcome (log_ran x)) × HasLogged x chip)
tells_by true told command script chip o asked shows = shows
tells_by false told command script chip o asked shows = (script, asked, shows.0, shows.1)

pub ends_ran : (command : Command) (before after : FilesView) (script : Script) (chip : ChipView) (sinks sinks_after : Sinks) (s : Status) → LeadsTo command.script command.nue before after script
    → HasRan command.script script chip sinks sinks_after s → EndsByPlan (RunTells before.told command chip) (plan_of audit_command_plan (Some command)) before after sinks sinks_after s
ends_ran command before after script chip sinks sinks_after s leads ran =
    (ran.outcome, leads.goes (codes "rcceaudit") (log_run_plan command.script) after ran.outcome (ran.comes after), ran.delivers, tells_by (is_quiet ran.outcome.status) before.told command script chip ran.outcome leads.stands ran.shows)

pub ends_complained : (command : Command) (before after : FilesView) (chip : ChipView) (why : Complaint) (sinks sinks_after : Sinks) (s : Status) → Comes (codes "rcceaudit") (audit_command_plan command) before after (complaint_outcome (codes "rcceaudit") why)
    → Delivers (complaint_outcome (codes "rcceaudit") why) sinks sinks_after s → chip ≡ None → EndsByPlan (RunTells before.told command chip) (plan_of audit_command_plan (Some command)) before after sinks sinks_after s
ends_complained command before after chip why sinks sinks_after s came delivers blank =
    let o : Outcome = complaint_outcome (codes "rcceaudit") why in
    let P : Bool → Type 0 = λ b. ByTest b (chip ≡ None) ((x : Script) × ScriptIn command.script before.told command.nue x × (o ≡ run_outcome (log_ran x)) × HasLogged x chip) in
    (o, came, delivers, subst P (sym (complaint_quiet (codes "rcceaudit") why)) blank)

pub ends_words : (command : Option Command) (job : ScriptJob) (before after : FilesView) (chip : ChipView) (sinks sinks_after : Sinks) (s : Status) → Some (job_command job) ≡ command
    → EndsByPlan (RunTells before.told (job_command job) chip) (plan_of audit_command_plan (Some (job_command job))) before after sinks sinks_after s
    → EndsByPlan (WordsTell before.told command chip) (plan_of audit_command_plan command) before after sinks sinks_after s
ends_words command job before after chip sinks sinks_after s is ends =
    subst (λ (x : Option Command). EndsByPlan (WordsTell before.told x chip) (plan_of audit_command_plan x) before after sinks sinks_after s) is ends

pub ends_refused : (command : Option Command) (files : FilesView) (chip : ChipView) (o : Outcome) (sinks sinks_after : Sinks) (s : Status) → None ≡ command
    → IsMeant (codes "rcceaudit") (Err (codes "words refused")) files files o → Delivers o sinks sinks_after s → chip ≡ None
    → EndsByPlan (WordsTell files.told command chip) (plan_of audit_command_plan command) files files sinks sinks_after s
ends_refused command files chip o sinks sinks_after s is meant delivers blank =
    subst (λ (x : Option Command). EndsByPlan (WordsTell files.told x chip) (plan_of audit_command_plan x) files files sinks sinks_after s) is (o, meant, delivers, blank)
