-- What the steps of the launcher say to the plan that they carry out.
use Rattle.std.specs.Prelude.{◌≡◌, ◌⊎◌, ℕ, List, codes, Option, Some, None, Result, Ok, Err}
use Rattle.rcce_io.specs.Files.{FilesView, NamedFile}
use Rattle.scc_mesh.specs.Scenes.{ChipView}
use Rattle.script_gen.specs.Scripts.{gen_script_of}
use Rattle.outcomes.specs.Coming.{ByTest, Comes, IsMeant}
use Rattle.outcomes.specs.Complaints.{complaint_outcome}
use Rattle.outcomes.specs.Delivery.{Delivers, Sinks}
use Rattle.outcomes.specs.Outcomes.{Outcome, no_memory, run_outcome}
use Rattle.outcomes.specs.Plans.{Plan}
use Rattle.outcomes.specs.Plans.Plan.{Runs}
use Rattle.outcomes.specs.Statuses.{is_quiet}
use Rattle.outcomes.specs.declared.complaint.Complaint.{Complaint}
use Rattle.outcomes.specs.declared.status.Status.{Status}
use Rattle.rcce_words.specs.HostFile.{default_hosts}
use Rattle.rcce_words.specs.ScriptFiles.{ScriptIn}
use Rattle.rcce_words.specs.declared.command.Job.{Job}
use Rattle.rcce_words.specs.declared.command.WordFault.{WordFault}
use Rattle.run_program.specs.Asking.{AreHosts, HostsIn, WordsAskFor, asked_ran, setup_by}
use Rattle.run_program.specs.History.{Asked, HasRun}
use Rattle.run_program.specs.Program.{words_plan}
use Rattle.run_program.specs.Reports.{Shown}
use Rattle.run_program.specs.declared.loaded.Loaded.{Loaded}

-- the run that was loaded
abbrev pub asked_by : Loaded → Asked
asked_by loaded = record { job = loaded.job; setup = loaded.setup; script = loaded.script; seed = loaded.seed }

-- a run was loaded as the plan says, and the plan comes to what it comes to
pub record LoadLeads (plan : Plan) (asks : Asked → Type 0) (before after : FilesView) (loaded : Loaded) : Type 0 where
  pub goes : (o : Outcome) → Comes (codes "rccerun") (Runs (asked_ran (asked_by loaded))) after after o
      → Comes (codes "rccerun") plan before after o
  pub asked : asks (asked_by loaded)

-- what `load` ensures for this plan: Ok has a run that the plan asks for, Err is an outcome of the plan
abbrev pub LoadsPlan : Plan → (Asked → Type 0) → FilesView → FilesView → Result Loaded Complaint → Type 0
LoadsPlan plan asks before after (Ok loaded) = LoadLeads plan asks before after loaded
LoadsPlan plan asks before after (Err why) = Comes (codes "rccerun") plan before after (complaint_outcome (codes "rccerun") why)

-- what `load` ensures for words: with a plan what the plan ensures, and without one only the text that refuses them
abbrev pub LoadsBy : Result Plan (List ℕ) → (Asked → Type 0) → FilesView → FilesView → Result Loaded Complaint → Type 0
LoadsBy (Ok plan) asks before after answer = LoadsPlan plan asks before after answer
LoadsBy (Err text) asks before after (Ok loaded) = ⊥
LoadsBy (Err text) asks before after (Err why) = IsMeant (codes "rccerun") (Err text) before after (complaint_outcome (codes "rccerun") why)

-- what `load` ensures for the launcher's words: a run that they ask for, or why there is none
abbrev pub LoadsWords : List (List ℕ) → Result Job WordFault → FilesView → FilesView → Result Loaded Complaint → Type 0
LoadsWords words command before after answer =
    LoadsBy (words_plan words command) (WordsAskFor words command before.told) before after answer

-- a run of the script in a file on these hosts
pub record AsksOn (file : List ℕ) (told : Option (List NamedFile)) (job : Job) (hosts : List ℕ) (asked : Asked) : Type 0 where
  pub job_is : asked.job ≡ job
  pub script : ScriptIn file told job.nue asked.script
  pub setup : asked.setup ≡ setup_by job hosts asked.script
  pub seed : asked.seed ≡ None

-- a run of the script in a file on the hosts in another file
pub record AsksListed (list file : List ℕ) (told : Option (List NamedFile)) (job : Job) (asked : Asked) : Type 0 where
  pub hosts : List ℕ
  pub listed : HostsIn list told job.nue hosts
  pub on : AsksOn file told job hosts asked

-- a run of the script in a file on the hosts that words ask for
pub record AsksAfter (words : List (List ℕ)) (told : Option (List NamedFile)) (job : Job) (at : Option ℕ) (file : List ℕ)
    (asked : Asked) : Type 0 where
  pub hosts : List ℕ
  pub are_hosts : AreHosts words told job.nue at hosts
  pub on : AsksOn file told job hosts asked

-- a run of the script that is made of a number
pub record AsksMade (number : ℕ) (job : Job) (asked : Asked) : Type 0 where
  pub job_is : asked.job ≡ job
  pub script : asked.script ≡ gen_script_of job.nue number
  pub setup : asked.setup ≡ setup_by job default_hosts asked.script
  pub seed : asked.seed ≡ Some number

-- what is on the chip where a loaded run came to this outcome
abbrev pub ChipShows : Asked → ChipView → Outcome → Type 0
ChipShows asked chip o = ByTest (is_quiet o.status) (chip ≡ None) ((o ≡ run_outcome (asked_ran asked)) × HasRun asked chip)

-- the loaded run was carried out and written, or there was no memory for it
abbrev pub IsCarriedOut : Asked → ChipView → Sinks → Sinks → Status → Type 0
IsCarriedOut asked chip before after s = (o : Outcome) × ((o ≡ run_outcome (asked_ran asked)) ⊎ (o ≡ no_memory (codes "rccerun")))
    × Delivers o before after s × ChipShows asked chip o

-- the script that was run, and what it was made of
abbrev pub shown_by : Asked → Shown
shown_by asked = record { script = asked.script; seed = asked.seed }

-- a run took place, or there was no memory for it
abbrev pub Launches : Asked → ChipView → Result Shown Complaint → Type 0
Launches asked chip (Ok shown) = (shown ≡ shown_by asked) × HasRun asked chip
Launches asked chip (Err why) = (complaint_outcome (codes "rccerun") why ≡ no_memory (codes "rccerun")) × (chip ≡ None)
