-- What every program promises (this project's profile).
use Rattle.std.specs.Prelude.{◌≡◌, ◌⊎◌, ◌<◌, ◌≤◌, ℕ, true, List, IfSome, IsOk, IsErr, Ok, Err}
use Rattle.rcce_io.specs.Faults.{IsSteady, Rose}
use Rattle.rcce_io.specs.Files.{FilesView}
use Rattle.outcomes.specs.declared.status.Status.{Status}
use Rattle.outcomes.specs.declared.status.Status.TheVariants as status
use Rattle.outcomes.specs.Statuses.{is_quiet}
use Rattle.outcomes.specs.Outcomes.{Outcome, Ran, run_outcome, words_refused, read_fault}
use Rattle.outcomes.specs.Plans.{Program, expected_outcome}
use Rattle.outcomes.specs.Plans.Plan.{Runs}
use Rattle.outcomes.specs.Coming.{IsMeant, IsAsked}
use Rattle.outcomes.specs.Delivery.{Sinks, AreSteady, Delivers, Shows, ShowsOr, TakesFront}

-- The run ended with an outcome that the words and the files mean, and the sinks took its texts as far as the status says.
-- Of the outcome this is also true. Eight parameters: those of `EndsAsMeant`, and what else is true.
abbrev pub EndsWith : (Outcome → Type 0) → Program → List (List ℕ) → FilesView → FilesView → Sinks → Sinks → Status → Type 0
EndsWith also program words files files_after before after s =
    (o : Outcome) × IsMeant program.name (program.plan words) files files_after o × Delivers o before after s × also o

-- The run ended with an outcome that the words and the files mean, and the sinks took its texts as far as the status says.
-- Seven parameters: the call (the program, its words), all that it can touch (the files and the sinks, before and after),
-- and its status.
abbrev pub EndsAsMeant : Program → List (List ℕ) → FilesView → FilesView → Sinks → Sinks → Status → Type 0
EndsAsMeant program words files files_after before after s =
    (o : Outcome) × IsMeant program.name (program.plan words) files files_after o × Delivers o before after s

-- What every program promises of a call: of its words, of the files and the sinks before and after it, and of the status
-- that it answered. Seven parameters, since a promise names the whole world of a call: the program, the words, the files
-- twice, the sinks twice, the status.
pub record Promises (program : Program) (words : List (List ℕ)) (files files_after : FilesView) (before after : Sinks)
    (s : Status) : Type 0 where
  -- The output theorem: where the files tell their contents and no call failed, the status and both texts are those of the
  -- expected outcome, or of want of memory.
  pub output : IfSome files.told (λ told. IsSteady files.faults files_after.faults → AreSteady before after
      → ShowsOr program.name (expected_outcome program words told) before after s)
  -- refused words: whatever the files are. They never give want of memory.
  pub refused : (text : List ℕ) → program.plan words ≡ Err text → AreSteady before after
      → Shows (words_refused program.name text) before after s
  -- words that ask for no file: whatever the files are
  pub alone : (ran : Ran) → program.plan words ≡ Ok (Runs ran) → AreSteady before after
      → ShowsOr program.name (run_outcome ran) before after s
  pub words_cause : s ≡ status.Words → IsErr (program.plan words)
  pub memory_cause : s ≡ status.Memory → IsOk (program.plan words)
  -- faults of the files: a status of theirs has a cause, and a fault that was counted is shown, with a file that was asked for
  pub files_cause : s ≡ status.Files
      → Rose files.faults files_after.faults ⊎ IfSome files.told (λ told. (expected_outcome program words told).status ≡ status.Files)
  pub read_fault : files.faults < files_after.faults → (s ≡ status.Write)
      ⊎ ((file : List ℕ) × IsAsked (program.plan words) files.told file × Shows (read_fault program.name file) before after s)
  -- faults of the sinks
  pub write_cause : s ≡ status.Write → Rose before.out.faults after.out.faults ⊎ Rose before.err.faults after.err.faults
  pub write_out : before.out.faults < after.out.faults → (s ≡ status.Write) × (after.err ≡ before.err)
  pub write_err : before.err.faults < after.err.faults → s ≡ status.Write
  -- with the statuses 1, 2, 4 and 5 nothing was written to out
  pub quiet : is_quiet s ≡ true → after.out ≡ before.out
  -- each sink took a front of its text, and with any status but that of a failed write both took theirs whole
  pub fronts : (o : Outcome) × IsMeant program.name (program.plan words) files files_after o
      × TakesFront o.out before.out after.out × TakesFront o.err before.err after.err
  pub whole : (s ≡ status.Write → ⊥)
      → (o : Outcome) × IsMeant program.name (program.plan words) files files_after o × Shows o before after s
  -- what is told of the files stays, and no count of faults falls
  pub told : files_after.told ≡ files.told
  pub later : (files.faults ≤ files_after.faults) × (before.out.faults ≤ after.out.faults) × (before.err.faults ≤ after.err.faults)
  -- all of it at once: nothing was written or read behind a failed call
  pub ends : EndsAsMeant program words files files_after before after s
