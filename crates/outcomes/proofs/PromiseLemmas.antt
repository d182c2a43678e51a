-- What every program promises, from how it ended.
use Rattle.std.proofs.Common.{◌≡◌, ◌⊎◌, ℕ, ◌+◌, ◌<◌, ◌≤◌, Bool, true, false, List, [], length, take, refl, sym, ap, subst, ◌∙◌, inl, inr, arith, length-take, Option, Some, None, IfSome, Result, Ok, Err}
use Rattle.std.proofs.lemmas.Bool.{lt-ltb, ltb-true, ltb-false}
use Rattle.std.proofs.lemmas.List.{take_all}
use Rattle.std.specs.Prelude.{codes, nat_lt}
use Rattle.std.specs.Result.{IsErr, IsOk}
use Rattle.rcce_io.specs.declared.reading.ReadEnd.{ReadEnd}
use Rattle.rcce_io.specs.declared.reading.ReadEnd.TheVariants as ends
use Rattle.rcce_io.specs.Faults.{Rose, IsSteady}
use Rattle.rcce_io.specs.Files.{FilesView, NamedFile, contents_of}
use Rattle.rcce_io.specs.Reading.{ReadsAll}
use Rattle.outcomes.specs.declared.status.Status.{Status}
use Rattle.outcomes.specs.declared.status.Status.TheVariants as status
use Rattle.outcomes.specs.Statuses.{is_quiet}
use Rattle.outcomes.specs.Outcomes.{Outcome, Ran, run_outcome, words_refused, file_refused, too_long, no_memory, absent, read_fault}
use Rattle.outcomes.specs.Plans.{Plan, Program, contents_outcome, plan_outcome, words_outcome}
use Rattle.outcomes.specs.Plans.Plan.{Runs, Refuses, Reads}
use Rattle.outcomes.specs.Coming.{ByTest, LeadsOn, Comes, IsMeant, FileHolds, Asks, IsAsked}
use Rattle.outcomes.specs.Delivery.{Sinks, Delivers, Shows}
use Rattle.outcomes.specs.Promises.{EndsAsMeant, Promises}
use Rattle.outcomes.proofs.DeliveryLemmas.{rose_not_steady, shows_steady, shows_or_write, shows_unless_write, status_of_end, rose_by_write, write_out_of, write_err_of, quiet_of, fronts_of, later_of, shown_or}

-- facts about told files
told_all : {P : List NamedFile → Type 0} (told : Option (List NamedFile)) → ((files : List NamedFile) → P files) → IfSome told P
told_all None all = tt
told_all (Some files) all = all files

told_more : {P Q : List NamedFile → Type 0} (told : Option (List NamedFile)) → ((files : List NamedFile) → P files → Q files) → IfSome told P → IfSome told Q
told_more None more given = given
told_more (Some files) more given = more files given

told_both : {P Q R : List NamedFile → Type 0} (told : Option (List NamedFile)) → ((files : List NamedFile) → P files → Q files → R files) →
    IfSome told P → IfSome told Q → IfSome told R
told_both None more first second = first
told_both (Some files) more first second = more files first second

-- the statuses that an outcome of a plan does not have
record IsPlanned (o : Outcome) : Type 0 where
  not_words : o.status ≡ status.Words → ⊥
  not_write : o.status ≡ status.Write → ⊥
  quiet : is_quiet o.status ≡ true → o.out ≡ []

-- and those of one that stands on no answer of the files
record IsJudged (o : Outcome) : Type 0 where
  planned : IsPlanned o
  not_files : o.status ≡ status.Files → ⊥

run_judged : (ran : Ran) (finished : Bool) → ran.finished ≡ finished → IsJudged (run_outcome ran)
run_judged ran true is = record {
  planned = record { not_words = rw is (λ e. cc); not_write = rw is (λ e. cc); quiet = rw is (λ e. cc) };
  not_files = rw is (λ e. cc);
}
run_judged ran false is = record {
  planned = record { not_words = rw is (λ e. cc); not_write = rw is (λ e. cc); quiet = rw is (λ e. cc) };
  not_files = rw is (λ e. cc);
}

refused_judged : (program file : List ℕ) (line : ℕ) (kind : List ℕ) → IsJudged (file_refused program file line kind)
refused_judged program file line kind = record {
  planned = record { not_words = λ e. cc; not_write = λ e. cc; quiet = λ e. refl };
  not_files = λ e. cc;
}

memory_judged : (program : List ℕ) → IsJudged (no_memory program)
memory_judged program = record {
  planned = record { not_words = λ e. cc; not_write = λ e. cc; quiet = λ e. refl };
  not_files = λ e. cc;
}

either_judged : (o p q : Outcome) → (o ≡ p) ⊎ (o ≡ q) → IsJudged p → IsJudged q → IsJudged o
either_judged o p q (inl is) first second = subst IsJudged (sym is) first
either_judged o p q (inr is) first second = subst IsJudged (sym is) second

-- what is true of the outcome of a plan, by the files that were told and the count of their faults before and after
record Fate (program : List ℕ) (plan : Plan) (told : Option (List NamedFile)) (count after_count : ℕ) (o : Outcome) : Type 0 where
  exact : IfSome told (λ files. IsSteady count after_count → (o ≡ plan_outcome program plan files) ⊎ (o ≡ no_memory program))
  fault : count < after_count → (file : List ℕ) × Asks plan told file × (o ≡ read_fault program file)
  cause : o.status ≡ status.Files → Rose count after_count ⊎ IfSome told (λ files. (plan_outcome program plan files).status ≡ status.Files)
  planned : IsPlanned o

-- no fault was counted, and the outcome stands on no answer of the files
fate_still : (program : List ℕ) (plan : Plan) (told : Option (List NamedFile)) (count after_count : ℕ) (o : Outcome) →
    after_count ≡ count → IsJudged o → IfSome told (λ files. (o ≡ plan_outcome program plan files) ⊎ (o ≡ no_memory program)) →
    Fate program plan told count after_count o
fate_still program plan told count after_count o same judged exact = record {
  exact = told_more told (λ files given steady. given) exact;
  fault = λ rose. absurd (omega (arith, rose, same));
  cause = λ e. absurd (judged.not_files e);
  planned = judged.planned;
}

either_same : {o p q r : Outcome} → (o ≡ p) ⊎ (o ≡ r) → p ≡ q → (o ≡ q) ⊎ (o ≡ r)
either_same (inl is) same = inl (is ∙ same)
either_same (inr is) same = inr is

module _ (program file : List ℕ) (limit : ℕ) (next : List ℕ → Plan) where
  -- where the name is told, its contents decide
  read_contents : (files : List NamedFile) (contents : Option (List ℕ)) → contents_of file files ≡ contents →
      plan_outcome program (Reads file limit next) files ≡ contents_outcome program file limit (λ bytes. plan_outcome program (next bytes) files) contents
  read_contents files contents is = ap (contents_outcome program file limit (λ bytes. plan_outcome program (next bytes) files)) is

  short_contents : (f : List ℕ → Outcome) (bytes : List ℕ) → nat_lt limit (length bytes) ≡ false → contents_outcome program file limit f (Some bytes) ≡ f bytes
  short_contents f bytes short = rw short refl

  long_contents : (f : List ℕ → Outcome) (whole : List ℕ) → nat_lt limit (length whole) ≡ true → contents_outcome program file limit f (Some whole) ≡ too_long program file
  long_contents f whole long = rw long refl

  -- a front of one byte more than the limit is longer than that only of a longer file
  long_front : (whole bytes : List ℕ) → bytes ≡ take (limit + 1) whole → nat_lt limit (length bytes) ≡ true → nat_lt limit (length whole) ≡ true
  long_front whole bytes is long =
      lt-ltb limit (length whole) (omega (arith, ltb-true limit (length bytes) long, ap length is, length-take (limit + 1) whole))

  -- and otherwise it is the file
  short_front : (whole bytes : List ℕ) → bytes ≡ take (limit + 1) whole → nat_lt limit (length bytes) ≡ false → bytes ≡ whole
  short_front whole bytes is short =
      is ∙ take_all (limit + 1) whole (omega (arith, ltb-false limit (length bytes) short, ap length is, length-take (limit + 1) whole))

  fate_absent : (told : Option (List NamedFile)) (count after_count : ℕ) → after_count ≡ count →
      IfSome told (λ files. contents_of file files ≡ None) → Fate program (Reads file limit next) told count after_count (absent program file)
  fate_absent told count after_count same none = record {
    exact = told_more told (λ files given steady. inl (sym (read_contents files None given))) none;
    fault = λ rose. absurd (omega (arith, rose, same));
    cause = λ e. inr (told_more told (λ files given. ap (λ (o : Outcome). o.status) (read_contents files None given)) none);
    planned = record { not_words = λ e. cc; not_write = λ e. cc; quiet = λ e. refl };
  }

  fate_failed : (told : Option (List NamedFile)) (count after_count : ℕ) → Rose count after_count →
      Fate program (Reads file limit next) told count after_count (read_fault program file)
  fate_failed told count after_count rose = record {
    exact = told_all told (λ files steady. absurd (rose_not_steady count after_count rose steady));
    fault = λ more. (file, inl refl, refl);
    cause = λ e. inl rose;
    planned = record { not_words = λ e. cc; not_write = λ e. cc; quiet = λ e. refl };
  }

  -- a longer file
  fate_long : (told : Option (List NamedFile)) (count after_count : ℕ) (bytes : List ℕ) → after_count ≡ count → nat_lt limit (length bytes) ≡ true →
      IfSome told (λ files. (whole : List ℕ) × (contents_of file files ≡ Some whole) × (bytes ≡ take (limit + 1) whole)) →
      Fate program (Reads file limit next) told count after_count (too_long program file)
  fate_long told count after_count bytes same long given =
      fate_still program (Reads file limit next) told count after_count (too_long program file) same (refused_judged program file 0 (codes "TooLong"))
      (told_more told (λ files whole. inl (sym (
      read_contents files (Some whole.0) whole.1
      ∙ long_contents (λ b. plan_outcome program (next b) files) whole.0 (long_front whole.0 bytes whole.2 long)))) given)

  -- bytes within the limit, by what they lead to
  fate_short : (told : Option (List NamedFile)) (count after_count : ℕ) (bytes : List ℕ) (o : Outcome) → nat_lt limit (length bytes) ≡ false →
      IfSome told (λ files. (whole : List ℕ) × (contents_of file files ≡ Some whole) × (bytes ≡ take (limit + 1) whole)) →
      Fate program (next bytes) told count after_count o → Fate program (Reads file limit next) told count after_count o
  fate_short told count after_count bytes o short given fate =
      let held : FileHolds told file bytes = told_more told (λ files whole. whole.1 ∙ ap (λ b. Some b) (sym (short_front whole.0 bytes whole.2 short))) given in
      let same : (files : List NamedFile) → contents_of file files ≡ Some bytes → plan_outcome program (Reads file limit next) files ≡ plan_outcome program (next bytes) files =
      λ files is. read_contents files (Some bytes) is ∙ short_contents (λ b. plan_outcome program (next b) files) bytes short in
      record {
        exact = told_both told (λ files is given steady. either_same (given steady) (sym (same files is))) held fate.exact;
        fault = λ rose. let f = fate.fault rose in (f.0, inr (bytes, ltb-false limit (length bytes) short, held, f.1), f.2);
        cause = λ e. elim (fate.cause e) [
          | inl rose ↦ inl rose
          | inr given ↦ inr (told_both told (λ files is status_is. ap (λ (x : Outcome). x.status) (same files is) ∙ status_is) held given)
        ];
        planned = fate.planned;
      }

  module _ (before between after : FilesView) (o : Outcome) where
    same_count : after ≡ between → between.faults ≡ before.faults → after.faults ≡ before.faults
    same_count still same = ap (λ (f : FilesView). f.faults) still ∙ same

    fate_bytes : (bytes : List ℕ) (long : Bool) → nat_lt limit (length bytes) ≡ long →
        (Comes program (next bytes) between after o → Fate program (next bytes) between.told between.faults after.faults o) →
        ReadsAll file limit before between (Ok bytes) →
        ByTest long ((after ≡ between) × (o ≡ too_long program file)) (Comes program (next bytes) between after o) →
        Fate program (Reads file limit next) before.told before.faults after.faults o
    fate_bytes bytes true long hence reads leads =
        subst (λ p. Fate program (Reads file limit next) before.told before.faults after.faults p) (sym leads.1)
        (fate_long before.told before.faults after.faults bytes (same_count leads.0 (ap (λ (f : FilesView). f.faults) reads.0)) long reads.2)
    fate_bytes bytes false short hence reads leads =
        let came = hence leads in
        let with_told = subst (λ t. Fate program (next bytes) t between.faults after.faults o) (ap (λ (f : FilesView). f.told) reads.0) came in
        let with_count = subst (λ n. Fate program (next bytes) before.told n after.faults o) (ap (λ (f : FilesView). f.faults) reads.0) with_told in
        fate_short before.told before.faults after.faults bytes o short reads.2 with_count

    fate_answer : (answer : Result (List ℕ) ReadEnd) →
        ((bytes : List ℕ) → Comes program (next bytes) between after o → Fate program (next bytes) between.told between.faults after.faults o) →
        ReadsAll file limit before between answer →
        LeadsOn program file limit (λ bytes. Comes program (next bytes) between after o) between after o answer →
        Fate program (Reads file limit next) before.told before.faults after.faults o
    fate_answer (Ok bytes) hence reads leads = fate_bytes bytes (nat_lt limit (length bytes)) refl (hence bytes) reads leads
    fate_answer (Err ends.Absent) hence reads leads =
        subst (λ p. Fate program (Reads file limit next) before.told before.faults after.faults p) (sym leads.1)
        (fate_absent before.told before.faults after.faults (same_count leads.0 (ap (λ (f : FilesView). f.faults) reads.0)) reads.1)
    fate_answer (Err ends.Failed) hence reads leads =
        let still = ap (λ (f : FilesView). f.faults) leads.0 in
        let rose = ap (λ (f : FilesView). f.faults) reads in
        subst (λ p. Fate program (Reads file limit next) before.told before.faults after.faults p) (sym leads.1)
        (fate_failed before.told before.faults after.faults (omega (arith, still, rose)))
    fate_answer (Err ends.Memory) hence reads leads =
        subst (λ p. Fate program (Reads file limit next) before.told before.faults after.faults p) (sym leads.1)
        (fate_still program (Reads file limit next) before.told before.faults after.faults (no_memory program)
        (same_count leads.0 (ap (λ (f : FilesView). f.faults) reads)) (memory_judged program) (told_all before.told (λ files. inr refl)))

-- the fate of each plan
fate_of : (program : List ℕ) (plan : Plan) (before after : FilesView) (o : Outcome) → Comes program plan before after o →
    Fate program plan before.told before.faults after.faults o
fate_of program (Runs ran) before after o came =
    fate_still program (Runs ran) before.told before.faults after.faults o (ap (λ (f : FilesView). f.faults) came.0)
    (either_judged o _ _ came.1 (run_judged ran ran.finished refl) (memory_judged program)) (told_all before.told (λ files. came.1))
fate_of program (Refuses file line kind) before after o came =
    fate_still program (Refuses file line kind) before.told before.faults after.faults o (ap (λ (f : FilesView). f.faults) came.0)
    (either_judged o _ _ came.1 (refused_judged program file line kind) (memory_judged program)) (told_all before.told (λ files. came.1))
fate_of program (Reads file limit next) before after o came =
    fate_answer program file limit next before came.0 after o came.1 (λ bytes on. fate_of program (next bytes) came.0 after o on) came.2 came.3

-- what is told of files stays, and their count of faults does not fall
record IsKept (before after : FilesView) : Type 0 where
  told : after.told ≡ before.told
  later : before.faults ≤ after.faults

kept_same : (before after : FilesView) → after ≡ before → IsKept before after
kept_same before after same = record {
  told = ap (λ (f : FilesView). f.told) same;
  later = let count = ap (λ (f : FilesView). f.faults) same in omega (arith, count);
}

kept_then : (before between after : FilesView) → IsKept before between → IsKept between after → IsKept before after
kept_then before between after first second = record { told = second.told ∙ first.told; later = omega (arith, first.later, second.later) }

kept_read : (file : List ℕ) (limit : ℕ) (before between : FilesView) (answer : Result (List ℕ) ReadEnd) → ReadsAll file limit before between answer →
    IsKept before between
kept_read file limit before between (Ok bytes) reads = record {
  told = ap (λ (f : FilesView). f.told) reads.0;
  later = let count = ap (λ (f : FilesView). f.faults) reads.0 in omega (arith, count);
}
kept_read file limit before between (Err ends.Absent) reads = record {
  told = ap (λ (f : FilesView). f.told) reads.0;
  later = let count = ap (λ (f : FilesView). f.faults) reads.0 in omega (arith, count);
}
kept_read file limit before between (Err ends.Failed) reads = record {
  told = ap (λ (f : FilesView). f.told) reads;
  later = let count = ap (λ (f : FilesView). f.faults) reads in omega (arith, count);
}
kept_read file limit before between (Err ends.Memory) reads = record {
  told = ap (λ (f : FilesView). f.told) reads;
  later = let count = ap (λ (f : FilesView). f.faults) reads in omega (arith, count);
}

kept_bytes : (long : Bool) (between after : FilesView) (P Q : Type 0) → (P → IsKept between after) → (Q → IsKept between after) → ByTest long P Q → IsKept between after
kept_bytes true between after P Q first second given = first given
kept_bytes false between after P Q first second given = second given

kept_leads : (program file : List ℕ) (limit : ℕ) (on : List ℕ → Type 0) (between after : FilesView) (o : Outcome) (answer : Result (List ℕ) ReadEnd) →
    ((bytes : List ℕ) → on bytes → IsKept between after) → LeadsOn program file limit on between after o answer → IsKept between after
kept_leads program file limit on between after o (Ok bytes) hence leads =
    kept_bytes (nat_lt limit (length bytes)) between after ((after ≡ between) × (o ≡ too_long program file)) (on bytes)
    (λ long. kept_same between after long.0) (hence bytes) leads
kept_leads program file limit on between after o (Err ends.Absent) hence leads = kept_same between after leads.0
kept_leads program file limit on between after o (Err ends.Failed) hence leads = kept_same between after leads.0
kept_leads program file limit on between after o (Err ends.Memory) hence leads = kept_same between after leads.0

kept_of : (program : List ℕ) (plan : Plan) (before after : FilesView) (o : Outcome) → Comes program plan before after o → IsKept before after
kept_of program (Runs ran) before after o came = kept_same before after came.0
kept_of program (Refuses file line kind) before after o came = kept_same before after came.0
kept_of program (Reads file limit next) before after o came =
    kept_then before came.0 after (kept_read file limit before came.0 came.1 came.2)
    (kept_leads program file limit (λ bytes. Comes program (next bytes) came.0 after o) came.0 after o came.1
    (λ bytes on. kept_of program (next bytes) came.0 after o on) came.3)

words_kept : (program : List ℕ) (asked : Result Plan (List ℕ)) (before after : FilesView) (o : Outcome) → IsMeant program asked before after o → IsKept before after
words_kept program (Err text) before after o meant = kept_same before after meant.0
words_kept program (Ok plan) before after o meant = kept_of program plan before after o meant

-- what is true of the outcome of words
record WordsFate (program : List ℕ) (asked : Result Plan (List ℕ)) (told : Option (List NamedFile)) (count after_count : ℕ) (o : Outcome) : Type 0 where
  exact : IfSome told (λ files. IsSteady count after_count → (o ≡ words_outcome program asked files) ⊎ (o ≡ no_memory program))
  fault : count < after_count → (file : List ℕ) × IsAsked asked told file × (o ≡ read_fault program file)
  cause : o.status ≡ status.Files → Rose count after_count ⊎ IfSome told (λ files. (words_outcome program asked files).status ≡ status.Files)
  words : o.status ≡ status.Words → IsErr asked
  memory : o.status ≡ status.Memory → IsOk asked
  not_write : o.status ≡ status.Write → ⊥
  quiet : is_quiet o.status ≡ true → o.out ≡ []

words_fate : (program : List ℕ) (asked : Result Plan (List ℕ)) (before after : FilesView) (o : Outcome) → IsMeant program asked before after o →
    WordsFate program asked before.told before.faults after.faults o
words_fate program (Err text) before after o meant =
    let same = ap (λ (f : FilesView). f.faults) meant.0 in
    subst (λ p. WordsFate program (Err text) before.told before.faults after.faults p) (sym meant.1) (record {
      exact = told_all before.told (λ files steady. inl refl);
      fault = λ rose. absurd (omega (arith, rose, same));
      cause = λ e. absurd (cc);
      words = λ e. refl;
      memory = λ e. absurd (cc);
      not_write = λ e. cc;
      quiet = λ e. refl;
    })
words_fate program (Ok plan) before after o meant =
    let fate = fate_of program plan before after o meant in
    record {
      exact = fate.exact;
      fault = fate.fault;
      cause = fate.cause;
      words = λ e. absurd (fate.planned.not_words e);
      memory = λ e. refl;
      not_write = fate.planned.not_write;
      quiet = fate.planned.quiet;
    }

refused_outcome : (program : List ℕ) (asked : Result Plan (List ℕ)) (text : List ℕ) (before after : FilesView) (o : Outcome) →
    IsMeant program asked before after o → asked ≡ Err text → o ≡ words_refused program text
refused_outcome program (Err given) text before after o meant e =
    let same : given ≡ text = let p = e in cc in
    meant.1 ∙ ap (words_refused program) same
refused_outcome program (Ok plan) text before after o meant e = absurd (let p = e in cc)

alone_outcome : (program : List ℕ) (asked : Result Plan (List ℕ)) (ran : Ran) (before after : FilesView) (o : Outcome) →
    IsMeant program asked before after o → asked ≡ Ok (Runs ran) → (o ≡ run_outcome ran) ⊎ (o ≡ no_memory program)
alone_outcome program (Err given) ran before after o meant e = absurd (let p = e in cc)
alone_outcome program (Ok plan) ran before after o meant e =
    let same : plan ≡ Runs ran = let p = e in cc in
    (subst (λ p. Comes program p before after o) same meant).1

module _ (program : Program) (words : List (List ℕ)) (files files_after : FilesView) (before after : Sinks) (s : Status) where
  -- each promise, from the outcome that was meant and delivered
  promises_of : (o : Outcome) → IsMeant program.name (program.plan words) files files_after o → Delivers o before after s →
      Promises program words files files_after before after s
  promises_of o meant delivered =
      let fate = words_fate program.name (program.plan words) files files_after o meant in
      let fronts = fronts_of o before after s delivered in
      let kept = words_kept program.name (program.plan words) files files_after o meant in
      let sinks_later = later_of o before after s delivered in
      record {
        output = told_more files.told (λ told given steady sinks_steady.
            shown_or o before after s program.name _ (shows_steady o before after s sinks_steady delivered) (given steady)) fate.exact;
        refused = λ text e steady. subst (λ p. Shows p before after s) (refused_outcome program.name (program.plan words) text files files_after o meant e)
            (shows_steady o before after s steady delivered);
        alone = λ ran e steady. shown_or o before after s program.name _ (shows_steady o before after s steady delivered)
            (alone_outcome program.name (program.plan words) ran files files_after o meant e);
        words_cause = λ e. elim (status_of_end o before after s delivered) [ inl is ↦ fate.words (sym is ∙ e) | inr is ↦ absurd (let p = e in cc) ];
        memory_cause = λ e. elim (status_of_end o before after s delivered) [ inl is ↦ fate.memory (sym is ∙ e) | inr is ↦ absurd (let p = e in cc) ];
        files_cause = λ e. elim (status_of_end o before after s delivered) [ inl is ↦ fate.cause (sym is ∙ e) | inr is ↦ absurd (let p = e in cc) ];
        read_fault = λ rose. let f = fate.fault rose in elim (shows_or_write o before after s delivered) [
          | inl is ↦ inl is
          | inr shown ↦ inr (f.0, f.1, subst (λ p. Shows p before after s) f.2 shown)
        ];
        write_cause = rose_by_write o before after s fate.not_write delivered;
        write_out = write_out_of o before after s delivered;
        write_err = write_err_of o before after s delivered;
        quiet = quiet_of o before after s fate.quiet delivered;
        fronts = (o, meant, fronts.0, fronts.1);
        whole = λ other. (o, meant, shows_unless_write o before after s other delivered);
        told = kept.told;
        later = (kept.later, sinks_later.0, sinks_later.1);
        ends = (o, meant, delivered);
      }

  -- a program that ends as its words and files mean keeps every promise
  pub keeps_promises : EndsAsMeant program words files files_after before after s → Promises program words files files_after before after s
  keeps_promises ended = promises_of ended.0 ended.1 ended.2
