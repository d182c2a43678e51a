-- The run that words ask for, and what is on the chip after a call (this project's profile).
use Rattle.std.specs.Prelude.{◌≡◌, ◌≤◌, ℕ, Bool, if◌then◌else◌, List, length, Option, Some, None, Result, Ok, Err}
use Rattle.rcce_io.specs.Files.{NamedFile}
use Rattle.scc_base.specs.Setups.{SetupView}
use Rattle.scc_base.specs.declared.layouts.Layout.{Layout}
use Rattle.scc_base.specs.declared.layouts.Layout.TheVariants.{LineFlags, BitFlags}
use Rattle.scc_mesh.specs.Scenes.{ChipView}
use Rattle.script_rules.specs.Script.{Script, rules_of}
use Rattle.script_gen.specs.Scripts.{gen_script_of}
use Rattle.outcomes.specs.Coming.{ByTest, FileHolds}
use Rattle.outcomes.specs.Outcomes.{Outcome, Ran, run_outcome}
use Rattle.outcomes.specs.Statuses.{is_quiet}
use Rattle.rcce_words.specs.FaultTexts.{word_numbered}
use Rattle.rcce_words.specs.HostFile.{default_hosts, parse_hosts, most_host_bytes}
use Rattle.rcce_words.specs.ScriptFiles.{ScriptIn}
use Rattle.rcce_words.specs.declared.command.Job.{Job}
use Rattle.rcce_words.specs.declared.command.Work.{Work}
use Rattle.rcce_words.specs.declared.command.Work.TheVariants as work
use Rattle.rcce_words.specs.declared.command.WordFault.{WordFault}
use Rattle.run_program.specs.History.{Asked, HasRun}
use Rattle.run_program.specs.Reports.{ran_by}

-- one-bit flags where the words ask for them, and else line flags
abbrev pub layout_by : Bool → Layout
layout_by bits = if bits then BitFlags else LineFlags

-- the setup of a job's run: the job's ranks, layout and hosts, and the script's communicators
abbrev pub setup_by : Job → List ℕ → Script → SetupView
setup_by job hosts script = record { nue = job.nue; layout = layout_by job.bits; hosts = hosts; comms = rules_of script.items }

-- a host file of at most 65,536 bytes has these hosts, where files are told
abbrev pub HostsIn : List ℕ → Option (List NamedFile) → ℕ → List ℕ → Type 0
HostsIn file told nue hosts =
    (bytes : List ℕ) × (length bytes ≤ most_host_bytes) × FileHolds told file bytes × (parse_hosts bytes nue ≡ Ok hosts)

-- the hosts that words ask for: rank r on core r, or those of the host file
abbrev pub AreHosts : List (List ℕ) → Option (List NamedFile) → ℕ → Option ℕ → List ℕ → Type 0
AreHosts words told nue None hosts = hosts ≡ default_hosts
AreHosts words told nue (Some at) hosts = HostsIn (word_numbered words at) told nue hosts

-- the host file that a job asks for. A script that is made runs without one.
abbrev pub hosts_asked : Work → Option ℕ → Option ℕ
hosts_asked (work.Script at) hosts = hosts
hosts_asked (work.Gen seed) hosts = None

-- the number that the script of a job is made of
abbrev pub seed_of : Work → Option ℕ
seed_of (work.Script at) = None
seed_of (work.Gen seed) = Some seed

-- the script that words ask for: that of a file, or the one that is made of a number
abbrev pub IsScript : List (List ℕ) → Option (List NamedFile) → ℕ → Work → Script → Type 0
IsScript words told nue (work.Script at) script = ScriptIn (word_numbered words at) told nue script
IsScript words told nue (work.Gen seed) script = script ≡ gen_script_of nue seed

-- what a run comes to
abbrev pub asked_ran : Asked → Ran
asked_ran asked = ran_by asked.script asked.seed

-- a job asks for this run, where files are told
pub record AsksFor (words : List (List ℕ)) (told : Option (List NamedFile)) (job : Job) (asked : Asked) : Type 0 where
  pub job_is : asked.job ≡ job
  pub hosts : List ℕ
  pub are_hosts : AreHosts words told job.nue (hosts_asked job.work job.hosts) hosts
  pub script : IsScript words told job.nue job.work asked.script
  pub setup : asked.setup ≡ setup_by job hosts asked.script
  pub seed : asked.seed ≡ seed_of job.work

-- words ask for this run: those that say a job ask for what the job asks for, and refused ones for none
abbrev pub WordsAskFor : List (List ℕ) → Result Job WordFault → Option (List NamedFile) → Asked → Type 0
WordsAskFor words (Err fault) told asked = ⊥
WordsAskFor words (Ok job) told asked = AsksFor words told job asked

-- What is on the chip where a call came to this outcome: nothing where nothing has run, else the history of the run that the
-- words ask for, whose texts are the outcome's.
abbrev pub ChipTells : List (List ℕ) → Result Job WordFault → Option (List NamedFile) → ChipView → Outcome → Type 0
ChipTells words command told chip o = ByTest (is_quiet o.status) (chip ≡ None)
    ((asked : Asked) × WordsAskFor words command told asked × (o ≡ run_outcome (asked_ran asked)) × HasRun asked chip)
