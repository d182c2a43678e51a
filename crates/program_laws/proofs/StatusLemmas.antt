-- What is expected of `rccecheck` and of `rccerun` has one status.
use Rattle.std.proofs.Common.{◌≡◌, ℕ, ◌&&◌, not, Bool, true, false, cond, if◌then◌else◌, List, [], ◌∷◌, length, codes, Option, Some, None, option_map, IsSome, Result, Ok, Err, refl, sym, ◌∙◌, ap, subst}
use Rattle.std.specs.Prelude.{nat_lt}
use Rattle.std.specs.Option.{ok_or}
use Rattle.std.specs.Str.{bytes_eq}
use Rattle.std.proofs.lemmas.Slice.Eq.{bytes_eq-Decides}
use Rattle.rcce_io.specs.Files.{NamedFile, contents_of}
use Rattle.script_reader.specs.declared.fault.ReadFault.{ReadFault}
use Rattle.script_reader.specs.Reading.{most_script_bytes, parse_script}
use Rattle.script_rules.specs.Script.{Script}
use Rattle.script_reader.specs.Faults.{◌>>=◌}
use Rattle.plain_meaning.specs.Ends.{all_finished}
use Rattle.plain_meaning.specs.Meaning.{plain_ends}
use Rattle.outcomes.specs.declared.status.Status.{Status}
use Rattle.outcomes.specs.declared.status.Status.TheVariants as status
use Rattle.outcomes.specs.Numbers.{is_option, ue_count_of}
use Rattle.outcomes.specs.Outcomes.{Outcome, too_long}
use Rattle.outcomes.specs.Plans.{Plan, contents_outcome, expected_outcome, plan_outcome, words_outcome}
use Rattle.rcce_words.specs.CommandLine.{option_named, nothing, take_option, take_name, takes_value, scan, job_of, parse_command}
use Rattle.rcce_words.specs.ScriptFiles.{bytes_plan, parsed_plan, script_plan}
use Rattle.rcce_words.specs.ScriptWords.{Command, plan_of, script_command}
use Rattle.rcce_words.specs.declared.command.Job.{Job}
use Rattle.rcce_words.specs.declared.command.Work.TheVariants as work
use Rattle.rcce_words.specs.declared.command.WordFault.{WordFault}
use Rattle.rcce_words.specs.declared.command.WordFault.TheVariants as fault
use Rattle.check_program.specs.Program as check
use Rattle.check_program.specs.Statuses.{command_status, contents_status, parsed_status, run_status}
use Rattle.run_program.specs.Program as run

-- ---- a script's file

-- the status that a script's plain meaning has
abbrev end_status : Script → Status
end_status script = if all_finished (plain_ends script) then status.Finished else status.Stuck

module _ (program : List ℕ) (files : List NamedFile) (next : Script → Plan) (ends : (script : Script) → (plan_outcome program (next script) files).status ≡ end_status script) where
  of_parsed : (file : List ℕ) (parsed : Result Script ReadFault) → (plan_outcome program (parsed_plan next file parsed) files).status ≡ parsed_status parsed
  of_parsed file (Err fault) = refl
  of_parsed file (Ok script) = ends script

  of_length : (long : Bool) (file : List ℕ) (o : Outcome) (s : Status) → o.status ≡ s → (cond long (too_long program file) o).status ≡ cond long status.Script s
  of_length true file o s is = refl
  of_length false file o s is = is

  of_contents : (file : List ℕ) (nue : ℕ) (contents : Option (List ℕ))
      → (contents_outcome program file most_script_bytes (λ bytes. plan_outcome program (bytes_plan next file nue bytes) files) contents).status ≡ contents_status nue contents
  of_contents file nue None = refl
  of_contents file nue (Some bytes) =
      of_length (nat_lt most_script_bytes (length bytes)) file (plan_outcome program (bytes_plan next file nue bytes) files) (parsed_status (parse_script bytes nue)) (of_parsed file (parse_script bytes nue))

  of_file : (file : List ℕ) (nue : ℕ) → (plan_outcome program (script_plan next file nue) files).status ≡ contents_status nue (contents_of file files)
  of_file file nue = of_contents file nue (contents_of file files)

-- ---- `rccecheck`

of_command : (command : Option Command) (files : List NamedFile) → (words_outcome check.rccecheck.name (plan_of check.command_plan command) files).status ≡ command_status command files
of_command None files = refl
of_command (Some command) files = of_file check.rccecheck.name files check.check_run_plan (λ script. refl) command.script command.nue

pub check_status : (words : List (List ℕ)) (told : List NamedFile) → (expected_outcome check.rccecheck words told).status ≡ run_status words told
check_status words told = of_command (script_command words) told

-- ---- `rccerun`

-- the job of `-nue N SCRIPT`
abbrev job_for : ℕ → Job
job_for nue = record { nue = nue; hosts = None; evict = None; serial = None; bits = false; work = work.Script 2 }

-- the words are read, where this came of the number
abbrev read_by : List ℕ → List ℕ → Option ℕ → Result Job WordFault
read_by number script count =
    (((ok_or count (fault.BadNumber 0) >>= λ n. Ok (record nothing { nue = Some n })) >>= λ next. Ok next) >>= λ next. scan 1 true next (number ∷ script ∷ [])) >>= job_of

-- and where the last word is an option or none
abbrev named_by : ℕ → List ℕ → Bool → Result Job WordFault
named_by nue script test =
    ((if test then take_option 2 (record nothing { nue = Some nue }) (option_named script) None else take_name 2 (record nothing { nue = Some nue })) >>= λ next. scan 3 (takes_value (option_named script)) next []) >>= job_of

parsed_job : (number script : List ℕ) (nue : ℕ) → is_option script ≡ false → ue_count_of number ≡ Some nue
    → parse_command (codes "-nue" ∷ number ∷ script ∷ []) ≡ Ok (job_for nue)
parsed_job number script nue name count = ap (read_by number script) count ∙ ap (named_by nue script) name

of_words : (number script : List ℕ) (nue : ℕ) (told : List NamedFile) → is_option script ≡ false → ue_count_of number ≡ Some nue
    → (expected_outcome run.rccerun (codes "-nue" ∷ number ∷ script ∷ []) told).status ≡ contents_status nue (contents_of script told)
of_words number script nue told name count =
    let words : List (List ℕ) = codes "-nue" ∷ number ∷ script ∷ [] in
    ap (λ (job : Result Job WordFault). (words_outcome run.rccerun.name (run.words_plan words job) told).status) (parsed_job number script nue name count)
    ∙ of_file run.rccerun.name told run.run_plan (λ s. refl) script nue

both_are : (a b : Bool) → (a && b) ≡ true → (a ≡ true) × (b ≡ true)
both_are true true t = (refl, refl)
both_are true false t = absurd (cc)
both_are false b t = absurd (cc)

not_is : (a : Bool) → not a ≡ true → a ≡ false
not_is true t = absurd (cc)
not_is false t = refl

-- the command where the tests of its words come to this
abbrev command_by : List ℕ → Option ℕ → Bool → Option Command
command_by script count test = if test then option_map (λ nue. record { nue = nue; script = script }) count else None

three : (option number script : List ℕ) (told : List NamedFile) (count : Option ℕ) (test : Bool) → ue_count_of number ≡ count → (bytes_eq option (codes "-nue") && not (is_option script)) ≡ test
    → IsSome (command_by script count test) → (expected_outcome run.rccerun (option ∷ number ∷ script ∷ []) told).status ≡ command_status (command_by script count test) told
three option number script told count false counted tested some = absurd (cc)
three option number script told None true counted tested some = absurd (cc)
three option number script told (Some nue) true counted tested some =
    let tests = both_are (bytes_eq option (codes "-nue")) (not (is_option script)) tested in
    let same : codes "-nue" ≡ option = sym ((bytes_eq-Decides option (codes "-nue")).0 tests.0) in
    subst (λ (word : List ℕ). (expected_outcome run.rccerun (word ∷ number ∷ script ∷ []) told).status ≡ contents_status nue (contents_of script told)) same
    (of_words number script nue told (not_is (is_option script) tests.1) counted)

pub one_status : (words : List (List ℕ)) (told : List NamedFile) → IsSome (script_command words) → (expected_outcome run.rccerun words told).status ≡ run_status words told
one_status [] told some = absurd (cc)
one_status (a ∷ []) told some = absurd (cc)
one_status (a ∷ b ∷ []) told some = absurd (cc)
one_status (option ∷ number ∷ script ∷ []) told some =
    three option number script told (ue_count_of number) (bytes_eq option (codes "-nue") && not (is_option script)) refl refl some
one_status (a ∷ b ∷ c ∷ d ∷ words) told some = absurd (cc)
