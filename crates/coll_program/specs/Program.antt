-- What `rccecoll` does on its words (this project's profile).
use Rattle.std.specs.Prelude.{ℕ, true, false, if◌then◌else◌, List, [], ◌∷◌, codes, Option, Some, None, Result, Ok, Err}
use Rattle.std.specs.Str.{bytes_eq}
use Rattle.rcce_io.specs.Files.{FilesView}
use Rattle.coll_more.specs.declared.kinds.More.{More}
use Rattle.coll_more.specs.declared.kinds.More.TheVariants.{Gather, Scatter, Allgather, Alltoall}
use Rattle.outcomes.specs.Numbers.{ue_count_of}
use Rattle.texts.specs.Numbers.{number_in}
use Rattle.outcomes.specs.Outcomes.{Ran}
use Rattle.outcomes.specs.Plans.{Plan, Program}
use Rattle.outcomes.specs.Plans.Plan.{Runs}
use Rattle.coll_program.specs.Texts.{job_text}
use Rattle.coll_program.specs.declared.command.Job.{Job}

-- the call of a word
abbrev pub more_of : List ℕ → Option More
more_of word =
    if bytes_eq word (codes "gather") then Some Gather
    else (if bytes_eq word (codes "scatter") then Some Scatter
    else (if bytes_eq word (codes "allgather") then Some Allgather
    else (if bytes_eq word (codes "alltoall") then Some Alltoall else None)))

-- a job, where there are such a number of ranks, a call and a length
abbrev pub coll_job_with : Option ℕ → Option More → Option ℕ → Option Job
coll_job_with (Some nue) (Some more) (Some len) = Some (record { nue = nue; more = more; len = len })
coll_job_with nue more len = None

-- the words `N KIND LEN`, and no others
abbrev pub coll_job_of : List (List ℕ) → Option Job
coll_job_of (count ∷ kind ∷ len ∷ []) = coll_job_with (ue_count_of count) (more_of kind) (number_in 0 1024 len)
coll_job_of _ = None

-- a run always finishes
abbrev pub job_ran : Job → Ran
job_ran job = record { finished = true; out = job_text job; err = [] }

-- the words: refused, or a job
abbrev pub coll_words_plan : Option Job → Result Plan (List ℕ)
coll_words_plan None = Err (codes "words refused")
coll_words_plan (Some job) = Ok (Runs (job_ran job))

-- the program, by its name and what it does on its words
abbrev pub rccecoll : Program
rccecoll = record { name = codes "rccecoll"; plan = λ words. coll_words_plan (coll_job_of words) }

-- it is handed no files
abbrev pub no_files : FilesView
no_files = record { told = Some []; rest = None; is_open = false; faults = 0 }
