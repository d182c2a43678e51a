-- What a call with the launcher's words leaves, by what was loaded.
use Rattle.std.proofs.Common.{◌≡◌, ◌⊎◌, ℕ, List, None, Result, Ok, Err, inl, inr, refl}
use Rattle.std.specs.Prelude.{codes}
use Rattle.rcce_io.specs.Files.{FilesView}
use Rattle.scc_mesh.specs.Scenes.{ChipView}
use Rattle.outcomes.specs.Coming.{IsMeant}
use Rattle.outcomes.specs.Complaints.{complaint_outcome}
use Rattle.outcomes.specs.Delivery.{Delivers, Sinks}
use Rattle.outcomes.specs.Outcomes.{Outcome, no_memory, run_outcome}
use Rattle.outcomes.specs.Plans.{Plan}
use Rattle.outcomes.specs.declared.complaint.Complaint.{Complaint}
use Rattle.outcomes.specs.declared.complaint.Complaint.TheVariants as complaint
use Rattle.outcomes.specs.declared.status.Status.{Status}
use Rattle.rcce_words.specs.CommandLine.{parse_command}
use Rattle.run_program.specs.Asking.{WordsAskFor, asked_ran}
use Rattle.run_program.specs.History.{Asked}
use Rattle.run_program.specs.Loading.{LoadsBy, LoadsWords, asked_by}
use Rattle.run_program.specs.Program.{words_plan}
use Rattle.run_program.specs.declared.loaded.Loaded.{Loaded}
use Rattle.trace_script.specs.declared.endings.TraceEnd.{TraceEnd}
use Rattle.trace_script.specs.declared.endings.TraceEnd.TheVariants as end_of
use Rattle.trace_script.specs.Tracing.{TracesLoaded, TracesWords}

-- a run was loaded for a plan, which comes to what the run comes to, or to want of memory
meant_by : (plan : Result Plan (List ℕ)) (asks : Asked → Type 0) (before after : FilesView) (loaded : Loaded) (o : Outcome) → LoadsBy plan asks before after (Ok loaded)
    → (o ≡ run_outcome (asked_ran (asked_by loaded))) ⊎ (o ≡ no_memory (codes "rccerun")) → IsMeant (codes "rccerun") plan before after o × asks (asked_by loaded)
meant_by (Ok plan) asks before after loaded o leads came = (leads.goes o (refl, came), leads.asked)
meant_by (Err text) asks before after loaded o leads came = absurd leads

module _ (words : List (List ℕ)) (files files_after : FilesView) (chip : ChipView) (before after : Sinks) (loaded : Loaded)
    (leads : LoadsWords words (parse_command words) files files_after (Ok loaded)) where
  run_meant : IsMeant (codes "rccerun") (words_plan words (parse_command words)) files files_after (run_outcome (asked_ran (asked_by loaded))) × WordsAskFor words (parse_command words) files.told (asked_by loaded)
  run_meant = meant_by (words_plan words (parse_command words)) (WordsAskFor words (parse_command words) files.told) files files_after loaded (run_outcome (asked_ran (asked_by loaded))) leads (inl refl)

  memory_meant : IsMeant (codes "rccerun") (words_plan words (parse_command words)) files files_after (no_memory (codes "rccerun"))
  memory_meant =
      (meant_by (words_plan words (parse_command words)) (WordsAskFor words (parse_command words) files.told) files files_after loaded (no_memory (codes "rccerun")) leads (inr refl)).0

  -- a call that traced what it loaded, or had no memory for it
  pub traces_loaded : (answer : TraceEnd) → TracesLoaded (asked_by loaded) chip before after answer → TracesWords words files files_after chip before after answer
  traces_loaded (end_of.Ended s) (inl (delivers, blank)) =
      inl (record { why = complaint.Memory; meant = memory_meant; delivers = delivers; blank = blank })
  traces_loaded (end_of.Ended s) (inr traced) = inr (record { asked = asked_by loaded; asks = run_meant.1; meant = run_meant.0; traced = traced })
  traces_loaded end_of.Refused traced = record { asked = asked_by loaded; asks = run_meant.1; meant = run_meant.0; traced = traced }

-- a call that loaded nothing complains
complains_by : (plan : Result Plan (List ℕ)) (asks : Asked → Type 0) (before after : FilesView) (why : Complaint) → LoadsBy plan asks before after (Err why)
    → IsMeant (codes "rccerun") plan before after (complaint_outcome (codes "rccerun") why)
complains_by (Ok plan) asks before after why leads = leads
complains_by (Err text) asks before after why leads = leads

pub traces_refused : (words : List (List ℕ)) (files files_after : FilesView) (chip : ChipView) (before after : Sinks) (why : Complaint) (s : Status)
    → LoadsWords words (parse_command words) files files_after (Err why) → Delivers (complaint_outcome (codes "rccetrace") why) before after s → chip ≡ None
    → TracesWords words files files_after chip before after (end_of.Ended s)
traces_refused words files files_after chip before after why s leads delivers blank =
    inl (record {
      why = why;
      meant = complains_by (words_plan words (parse_command words)) (WordsAskFor words (parse_command words) files.told) files files_after why leads;
      delivers = delivers;
      blank = blank;
    })
