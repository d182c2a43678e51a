-- What was loaded, and what a file that was read holds.
use Rattle.std.proofs.Common.{◌≡◌, ℕ, ◌≤◌, List, length, codes, refl, sym, subst, ap, ◌∙◌, inl, inr, Option, Some, None, Result, Ok, Err}
use Rattle.rcce_io.specs.Files.{FilesView, NamedFile}
use Rattle.outcomes.specs.Coming.{Comes, FileHolds}
use Rattle.outcomes.specs.Complaints.{ReadsFile, complaint_outcome}
use Rattle.outcomes.specs.Outcomes.{Outcome, file_refused, no_memory, words_refused}
use Rattle.outcomes.specs.Plans.{Plan}
use Rattle.outcomes.specs.Plans.Plan.{Runs, Reads}
use Rattle.outcomes.specs.declared.complaint.Complaint.{Complaint}
use Rattle.script_reader.specs.Reading.{parse_script}
use Rattle.script_reader.specs.declared.fault.ReadFault.{ReadFault}
use Rattle.script_rules.specs.Script.{Script}
use Rattle.script_gen.specs.Scripts.{gen_script_of}
use Rattle.script_gen.specs.Texts.{gen_text}
use Rattle.rcce_words.specs.FaultTexts.{fault_text, word_numbered}
use Rattle.rcce_words.specs.HostFile.{default_hosts, host_kind_name, parse_hosts}
use Rattle.rcce_words.specs.ScriptFiles.{LeadsTo, ScriptIn}
use Rattle.rcce_words.specs.declared.command.Job.{Job}
use Rattle.rcce_words.specs.declared.command.Work.{Work}
use Rattle.rcce_words.specs.declared.command.Work.TheVariants as works
use Rattle.rcce_words.specs.declared.command.WordFault.{WordFault}
use Rattle.rcce_words.specs.declared.host_file.HostFault.{HostFault}
use Rattle.run_program.specs.Asking.{AreHosts, AsksFor, IsScript, hosts_asked, seed_of, setup_by}
use Rattle.run_program.specs.History.{Asked}
use Rattle.run_program.specs.Loading.{AsksAfter, AsksListed, AsksMade, AsksOn, LoadsBy, LoadsPlan, LoadsWords, asked_by}
use Rattle.run_program.specs.Program.{file_plan, hosts_plan, listed_plan, made_plan, plan_after, run_plan, work_plan}
use Rattle.run_program.specs.Reports.{made_ran, ran_by}
use Rattle.run_program.specs.Runs.{IsMadeOf}
use Rattle.run_program.specs.declared.loaded.Loaded.{Loaded}
use Rattle.scc_base.specs.Setups.{SetupView}

abbrev said : Script → Result Script ReadFault
said script = Ok script

-- what was loaded from a file's bytes was loaded from the file
pub loads_read : (file : List ℕ) (limit : ℕ) (next : List ℕ → Plan) (asks : Asked → Type 0) (before between after : FilesView) (bytes : List ℕ) (answer : Result Loaded Complaint)
    → ReadsFile file limit before between (Ok bytes) → LoadsPlan (next bytes) asks between after answer → LoadsPlan (Reads file limit next) asks before after answer
loads_read file limit next asks before between after bytes (Ok loaded) reads leads =
    record { goes = λ o came. reads (codes "rccerun") next after o (leads.goes o came); asked = leads.asked }
loads_read file limit next asks before between after bytes (Err why) reads came = reads (codes "rccerun") next after _ came

-- a script that was read, and its setup
pub loads_script : (file : List ℕ) (job : Job) (hosts : List ℕ) (before after : FilesView) (script : Script) (loaded : Loaded)
    → LeadsTo file job.nue before after script → loaded.job ≡ job → loaded.script ≡ script → loaded.setup ≡ setup_by job hosts script → loaded.seed ≡ None
    → LoadsPlan (file_plan file job.nue) (AsksOn file before.told job hosts) before after (Ok loaded)
loads_script file job hosts before after script loaded leads job_is same setup none = record {
  goes = λ o came. leads.goes (codes "rccerun") run_plan after o
      (subst (λ (x : Script). Comes (codes "rccerun") (run_plan x) after after o) same
      (subst (λ (seed : Option ℕ). Comes (codes "rccerun") (Runs (ran_by loaded.script seed)) after after o) none came));
  asked = record { job_is = job_is; script = subst (λ (x : Script). ScriptIn file before.told job.nue x) (sym same) leads.stands; setup = setup ∙ ap (setup_by job hosts) (sym same); seed = none };
}

-- the script that is read in the text of a number is the one of this number
pub is_made : (nue seed : ℕ) (text : List ℕ) (script : Script) → text ≡ gen_text nue seed → parse_script (gen_text nue seed) nue ≡ Ok (gen_script_of nue seed) → parse_script text nue ≡ Ok script → script ≡ gen_script_of nue seed
is_made nue seed text script made law gives =
    same_Ok script (gen_script_of nue seed) (sym gives ∙ ap (λ (t : List ℕ). parse_script t nue) made ∙ law)
  where
    same_Ok : (one other : Script) → said one ≡ said other → one ≡ other
    same_Ok one other is = cc

-- a script that was made of a number and read, and its setup
pub loads_read_made : (job : Job) (seed : ℕ) (files : FilesView) (script : Script) (loaded : Loaded)
    → script ≡ gen_script_of job.nue seed → loaded.job ≡ job → loaded.script ≡ script → loaded.setup ≡ setup_by job default_hosts script → loaded.seed ≡ Some seed
    → LoadsPlan (made_plan job.nue seed) (AsksMade seed job) files files (Ok loaded)
loads_read_made job seed files script loaded gives job_is same setup some =
    let is : loaded.script ≡ gen_script_of job.nue seed = same ∙ gives in
    record {
      goes = λ o came. subst (λ (x : Script). Comes (codes "rccerun") (Runs (made_ran seed x)) files files o) is
          (subst (λ (s : Option ℕ). Comes (codes "rccerun") (Runs (ran_by loaded.script s)) files files o) some came);
      asked = record { job_is = job_is; script = is; setup = setup ∙ ap (setup_by job default_hosts) (sym same); seed = some };
    }

-- no memory for it
pub loads_unmade : (job : Job) (seed : ℕ) (files : FilesView) (why : Complaint) → complaint_outcome (codes "rccerun") why ≡ no_memory (codes "rccerun")
    → LoadsPlan (made_plan job.nue seed) (AsksMade seed job) files files (Err why)
loads_unmade job seed files why is = (refl, inr is)

-- what was loaded asks for less too
loads_less : (plan : Plan) (asks less : Asked → Type 0) (before after : FilesView) (answer : Result Loaded Complaint) → ((asked : Asked) → asks asked → less asked)
    → LoadsPlan plan asks before after answer → LoadsPlan plan less before after answer
loads_less plan asks less before after (Ok loaded) weaker leads = record { goes = leads.goes; asked = weaker (asked_by loaded) leads.asked }
loads_less plan asks less before after (Err why) weaker came = came

-- a script's file, behind the hosts of a host file
pub loads_listed : (list file : List ℕ) (told : Option (List NamedFile)) (job : Job) (hosts bytes : List ℕ) (before after : FilesView) (answer : Result Loaded Complaint)
    → parse_hosts bytes job.nue ≡ Ok hosts → length bytes ≤ 65536 → FileHolds told list bytes → LoadsPlan (file_plan file job.nue) (AsksOn file told job hosts) before after answer
    → LoadsPlan (hosts_plan list job.nue (file_plan file job.nue) bytes) (AsksListed list file told job) before after answer
loads_listed list file told job hosts bytes before after answer gives few holds leads =
    let less = loads_less (file_plan file job.nue) (AsksOn file told job hosts) (AsksListed list file told job) before after answer
    (λ asked on. record { hosts = hosts; listed = (bytes, few, holds, gives); on = on }) leads in
    subst (λ (r : Result (List ℕ) HostFault). LoadsPlan (listed_plan list (file_plan file job.nue) r) (AsksListed list file told job) before after answer) (sym gives) less

-- a host file that is refused
pub comes_unlisted : (list : List ℕ) (next : Plan) (bytes : List ℕ) (nue : ℕ) (fault : HostFault) (files : FilesView) (o : Outcome)
    → parse_hosts bytes nue ≡ Err fault → o ≡ file_refused (codes "rccerun") list fault.line (host_kind_name fault.kind) → Comes (codes "rccerun") (hosts_plan list nue next bytes) files files o
comes_unlisted list next bytes nue fault files o gives is =
    subst (λ (r : Result (List ℕ) HostFault). Comes (codes "rccerun") (listed_plan list next r) files files o) (sym gives) (refl, inl is)

-- the host file that the words name, or none
pub loads_named : (words : List (List ℕ)) (told : Option (List NamedFile)) (job : Job) (hosts : Option ℕ) (at : ℕ) (file : List ℕ) (before after : FilesView) (answer : Result Loaded Complaint)
    → hosts ≡ Some at → LoadsPlan (plan_after words job.nue (file_plan file job.nue) (Some at)) (AsksListed (word_numbered words at) file told job) before after answer
    → LoadsPlan (plan_after words job.nue (file_plan file job.nue) hosts) (AsksAfter words told job hosts file) before after answer
loads_named words told job hosts at file before after answer is leads =
    subst (λ (h : Option ℕ). LoadsPlan (plan_after words job.nue (file_plan file job.nue) h) (AsksAfter words told job h file) before after answer) (sym is)
    (loads_less _ (AsksListed (word_numbered words at) file told job) (AsksAfter words told job (Some at) file) before after answer
    (λ asked all. record { hosts = all.hosts; are_hosts = all.listed; on = all.on }) leads)

pub loads_unnamed : (words : List (List ℕ)) (told : Option (List NamedFile)) (job : Job) (hosts : Option ℕ) (cores file : List ℕ) (before after : FilesView) (answer : Result Loaded Complaint)
    → hosts ≡ None → cores ≡ default_hosts → LoadsPlan (file_plan file job.nue) (AsksOn file told job cores) before after answer
    → LoadsPlan (plan_after words job.nue (file_plan file job.nue) hosts) (AsksAfter words told job hosts file) before after answer
loads_unnamed words told job hosts cores file before after answer is own leads =
    subst (λ (h : Option ℕ). LoadsPlan (plan_after words job.nue (file_plan file job.nue) h) (AsksAfter words told job h file) before after answer) (sym is)
    (loads_less _ (AsksOn file told job cores) (AsksAfter words told job None file) before after answer
    (λ asked on. record { hosts = cores; are_hosts = own; on = on }) leads)

-- what a job asks for
pub loads_work : (words : List (List ℕ)) (told : Option (List NamedFile)) (job : Job) (work : Work) (at : ℕ) (before after : FilesView) (answer : Result Loaded Complaint)
    → job.work ≡ work → work ≡ works.Script at → LoadsPlan (plan_after words job.nue (file_plan (word_numbered words at) job.nue) job.hosts) (AsksAfter words told job job.hosts (word_numbered words at)) before after answer
    → LoadsBy (work_plan words job job.work) (AsksFor words told job) before after answer
loads_work words told job work at before after answer same is leads =
    let here : job.work ≡ works.Script at = same ∙ is in
    subst (λ (x : Work). LoadsBy (work_plan words job x) (AsksFor words told job) before after answer) (sym here)
    (loads_less _ (AsksAfter words told job job.hosts (word_numbered words at)) (AsksFor words told job) before after answer
    (λ asked all. record {
      job_is = all.on.job_is;
      hosts = all.hosts;
      are_hosts = subst (λ (x : Work). AreHosts words told job.nue (hosts_asked x job.hosts) all.hosts) (sym here) all.are_hosts;
      script = subst (λ (x : Work). IsScript words told job.nue x asked.script) (sym here) all.on.script;
      setup = all.on.setup;
      seed = subst (λ (x : Work). asked.seed ≡ seed_of x) (sym here) all.on.seed;
    }) leads)

-- a job that asks for a script which is made of a number
pub loads_made : (words : List (List ℕ)) (told : Option (List NamedFile)) (job : Job) (work : Work) (seed : ℕ) (files : FilesView) (answer : Result Loaded Complaint)
    → job.work ≡ work → work ≡ works.Gen seed → LoadsPlan (made_plan job.nue seed) (AsksMade seed job) files files answer
    → LoadsBy (work_plan words job job.work) (AsksFor words told job) files files answer
loads_made words told job work seed files answer same is leads =
    let here : job.work ≡ works.Gen seed = same ∙ is in
    subst (λ (x : Work). LoadsBy (work_plan words job x) (AsksFor words told job) files files answer) (sym here)
    (loads_less (made_plan job.nue seed) (AsksMade seed job) (AsksFor words told job) files files answer
    (λ asked made. record {
      job_is = made.job_is;
      hosts = default_hosts;
      are_hosts = subst (λ (x : Work). AreHosts words told job.nue (hosts_asked x job.hosts) default_hosts) (sym here) refl;
      script = subst (λ (x : Work). IsScript words told job.nue x asked.script) (sym here) made.script;
      setup = made.setup;
      seed = subst (λ (x : Work). asked.seed ≡ seed_of x) (sym here) made.seed;
    }) leads)

-- what words ask for
pub loads_words : (words : List (List ℕ)) (command : Result Job WordFault) (job : Job) (before after : FilesView) (answer : Result Loaded Complaint)
    → Ok job ≡ command → LoadsBy (work_plan words job job.work) (AsksFor words before.told job) before after answer → LoadsWords words command before after answer
loads_words words command job before after answer is leads = subst (λ (c : Result Job WordFault). LoadsWords words c before after answer) is leads

-- refused words ask for nothing
pub loads_nothing : (words : List (List ℕ)) (command : Result Job WordFault) (fault : WordFault) (files : FilesView) (why : Complaint)
    → Err fault ≡ command → complaint_outcome (codes "rccerun") why ≡ words_refused (codes "rccerun") (fault_text words fault) → LoadsWords words command files files (Err why)
loads_nothing words command fault files why is meant = subst (λ (c : Result Job WordFault). LoadsWords words c files files (Err why)) is (refl, meant)

-- a run that was loaded for a job: a script that is made of a number is the one of this number
made_by : (words : List (List ℕ)) (told : Option (List NamedFile)) (job : Job) (loaded : Loaded) (work : Work) → job.work ≡ work → AsksFor words told job (asked_by loaded)
    → IsMadeOf loaded.script loaded.seed
made_by words told job loaded (works.Script at) is asked =
    let none : loaded.seed ≡ None = asked.seed ∙ ap seed_of is in
    subst (λ (seed : Option ℕ). IsMadeOf loaded.script seed) (sym none) tt
made_by words told job loaded (works.Gen seed) is asked =
    let some : loaded.seed ≡ Some seed = asked.seed ∙ ap seed_of is in
    let made : loaded.script ≡ gen_script_of job.nue seed = subst (λ (x : Work). IsScript words told job.nue x loaded.script) is asked.script in
    let ranks : job.nue ≡ loaded.script.nue = sym (ap (λ (s : SetupView). s.nue) asked.setup) ∙ loaded.ranks in
    subst (λ (s : Option ℕ). IsMadeOf loaded.script s) (sym some) (made ∙ ap (λ (n : ℕ). gen_script_of n seed) ranks)

asked_for : (words : List (List ℕ)) (told : Option (List NamedFile)) (job : Job) (work : Work) (before after : FilesView) (loaded : Loaded)
    → LoadsBy (work_plan words job work) (AsksFor words told job) before after (Ok loaded) → AsksFor words told job (asked_by loaded)
asked_for words told job (works.Script at) before after loaded leads = leads.asked
asked_for words told job (works.Gen seed) before after loaded leads = leads.asked

-- and for words
pub made_words : (words : List (List ℕ)) (command : Result Job WordFault) (before after : FilesView) (loaded : Loaded) → LoadsWords words command before after (Ok loaded)
    → IsMadeOf loaded.script loaded.seed
made_words words (Ok job) before after loaded leads = made_by words before.told job loaded job.work refl (asked_for words before.told job job.work before after loaded leads)
made_words words (Err fault) before after loaded leads = absurd leads
