-- What a run leaves on the chip, by the outcome that was delivered.
use Rattle.std.proofs.Common.{◌≡◌, ℕ, ◌⊎◌, List, codes, refl, sym, subst, inl, inr, Bool, true, false, None, Result, Ok, Err}
use Rattle.rcce_io.specs.Files.{FilesView}
use Rattle.scc_mesh.specs.Scenes.{ChipView}
use Rattle.outcomes.specs.Coming.{ByTest, IsMeant}
use Rattle.outcomes.specs.Complaints.{complaint_outcome, outcome_of}
use Rattle.outcomes.specs.Delivery.{Delivers, Sinks}
use Rattle.outcomes.specs.Outcomes.{Outcome, no_memory, run_outcome}
use Rattle.outcomes.specs.Plans.{Plan}
use Rattle.outcomes.specs.Promises.{EndsWith}
use Rattle.outcomes.specs.Statuses.{is_quiet}
use Rattle.outcomes.specs.declared.complaint.Complaint.{Complaint}
use Rattle.outcomes.specs.declared.status.Status.{Status}
use Rattle.outcomes.proofs.StatusLemmas.{complaint_quiet, run_loud}
use Rattle.rcce_words.specs.CommandLine.{parse_command}
use Rattle.run_program.specs.Asking.{ChipTells, WordsAskFor, asked_ran}
use Rattle.run_program.specs.History.{Asked, HasRun}
use Rattle.run_program.specs.Loading as loading
use Rattle.run_program.specs.Loading.{ChipShows, Launches, LoadsBy, LoadsWords, asked_by}
use Rattle.run_program.specs.Program.{rccerun, words_plan}
use Rattle.run_program.specs.Reports.{Shown, shown_ran}
use Rattle.run_program.specs.declared.loaded.Loaded.{Loaded}

-- the chip shows the outcome of a run that took place
shows_run : (asked : Asked) (chip : ChipView) → HasRun asked chip → ChipShows asked chip (run_outcome (asked_ran asked))
shows_run asked chip has =
    let o : Outcome = run_outcome (asked_ran asked) in
    let P : Bool → Type 0 = λ b. ByTest b (chip ≡ None) ((o ≡ o) × HasRun asked chip) in
    subst P (sym (run_loud (asked_ran asked))) (refl, has)

-- a run that took place, or for which there was no memory, was written
pub ran_by : (asked : Asked) (chip : ChipView) (before after : Sinks) (s : Status) (answer : Result Shown Complaint) → Launches asked chip answer
    → Delivers (outcome_of (codes "rccerun") shown_ran answer) before after s → loading.IsCarriedOut asked chip before after s
ran_by asked chip before after s (Ok shown) launched delivers = (
  run_outcome (asked_ran asked),
  inl refl,
  subst (λ (x : Shown). Delivers (run_outcome (shown_ran x)) before after s) launched.0 delivers,
  shows_run asked chip launched.1,
)
ran_by asked chip before after s (Err why) launched delivers =
    (no_memory (codes "rccerun"), inr refl, subst (λ (o : Outcome). Delivers o before after s) launched.0 delivers, launched.1)

-- the words ask for the run that was loaded
tells_by : (test : Bool) (asks : Asked → Type 0) (asked : Asked) (chip : ChipView) (o : Outcome) → asks asked
    → ByTest test (chip ≡ None) ((o ≡ run_outcome (asked_ran asked)) × HasRun asked chip)
    → ByTest test (chip ≡ None) ((a : Asked) × asks a × (o ≡ run_outcome (asked_ran a)) × HasRun a chip)
tells_by true asks asked chip o asks_for shows = shows
tells_by false asks asked chip o asks_for shows = (asked, asks_for, shows.0, shows.1)

-- a run was loaded for a plan, and carried out
meant_by : (plan : Result Plan (List ℕ)) (asks : Asked → Type 0) (before after : FilesView) (loaded : Loaded) (o : Outcome) → LoadsBy plan asks before after (Ok loaded)
    → (o ≡ run_outcome (asked_ran (asked_by loaded))) ⊎ (o ≡ no_memory (codes "rccerun")) → IsMeant (codes "rccerun") plan before after o × asks (asked_by loaded)
meant_by (Ok plan) asks before after loaded o leads came = (leads.goes o (refl, came), leads.asked)
meant_by (Err text) asks before after loaded o leads came = absurd leads

-- a call that carried out what it loaded
pub ends_loaded : (words : List (List ℕ)) (files files_after : FilesView) (before after : Sinks) (s : Status) (chip : ChipView) (loaded : Loaded)
    → LoadsWords words (parse_command words) files files_after (Ok loaded) → loading.IsCarriedOut (asked_by loaded) chip before after s
    → EndsWith (ChipTells words (parse_command words) files.told chip) rccerun words files files_after before after s
ends_loaded words files files_after before after s chip loaded leads ran =
    let command = parse_command words in
    let (meant, asked) = meant_by (words_plan words command) (WordsAskFor words command files.told) files files_after loaded ran.0 leads ran.1 in
    (ran.0, meant, ran.2, tells_by (is_quiet ran.0.status) (WordsAskFor words command files.told) (asked_by loaded) chip ran.0 asked ran.3)

-- a call that loaded nothing, and complains
refused_by : (plan : Result Plan (List ℕ)) (asks : Asked → Type 0) (before after : FilesView) (why : Complaint) → LoadsBy plan asks before after (Err why)
    → IsMeant (codes "rccerun") plan before after (complaint_outcome (codes "rccerun") why)
refused_by (Ok plan) asks before after why leads = leads
refused_by (Err text) asks before after why leads = leads

pub ends_refused : (words : List (List ℕ)) (files files_after : FilesView) (before after : Sinks) (s : Status) (chip : ChipView) (why : Complaint)
    → LoadsWords words (parse_command words) files files_after (Err why) → Delivers (complaint_outcome (codes "rccerun") why) before after s → chip ≡ None
    → EndsWith (ChipTells words (parse_command words) files.told chip) rccerun words files files_after before after s
ends_refused words files files_after before after s chip why leads delivers blank =
    let command = parse_command words in
    let o : Outcome = complaint_outcome (codes "rccerun") why in
    let Rest : Type 0 = (asked : Asked) × WordsAskFor words command files.told asked × (o ≡ run_outcome (asked_ran asked)) × HasRun asked chip in
    let P : Bool → Type 0 = λ b. ByTest b (chip ≡ None) Rest in
    (o, refused_by (words_plan words command) (WordsAskFor words command files.told) files files_after why leads, delivers, subst P (sym (complaint_quiet (codes "rccerun") why)) blank)
