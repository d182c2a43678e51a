-- The setup of a run that words ask for can be written in a trace.
use Rattle.std.proofs.Common.{◌≡◌, ℕ, zero, suc, ◌+◌, ◌<◌, ◌≤◌, Bool, true, false, cond, if◌then◌else◌, List, [], ◌∷◌, ◌++◌, get_or, length, map, Option, Some, None, Result, Ok, Err, refl, sym, ap, subst, ◌∙◌, ⊎_elim, arith}
use Rattle.std.specs.Prelude.{eqb, nat_lt, slice_index}
use Rattle.std.specs.List.{range_with_len}
use Rattle.std.proofs.lemmas.Bool.{cases_lt, ltb-true}
use Rattle.std.proofs.lemmas.List.{get_or_past}
use Rattle.std.proofs.lemmas.List.FromFn.{get_or-map-range_with_len, get_or-range_with_len, length-map-range_with_len, length-range_with_len}
use Rattle.rcce_io.specs.Files.{NamedFile}
use Rattle.scc_base.specs.Setups.{IsSetup, SetupView, host_of}
use Rattle.script_reader.specs.Faults.{◌>>=◌}
use Rattle.script_rules.specs.Script.{Script, first_split, rules_of}
use Rattle.texts.specs.Cuts.{is_text}
use Rattle.texts.specs.Numbers.{number_of}
use Rattle.rcce_words.specs.Cores.{has_core}
use Rattle.rcce_words.specs.HostFile.{at_host_line, core_of_number, core_of_word, default_hosts, digits_of, enough, entry_of, file_lines, host_at, host_list, parse_hosts, read_host_line, read_host_lines, with_core}
use Rattle.rcce_words.specs.declared.command.Job.{Job}
use Rattle.rcce_words.specs.declared.command.WordFault.{WordFault}
use Rattle.rcce_words.specs.declared.host_file.HostFault.{HostFault}
use Rattle.rcce_words.specs.declared.host_file.HostKind.{HostKind}
use Rattle.rcce_words.specs.declared.host_file.HostKind.TheVariants as kind
use Rattle.run_program.specs.Asking.{AreHosts, AsksFor, WordsAskFor, hosts_asked, setup_by}
use Rattle.run_program.specs.History.{Asked}
use Rattle.trace_laws.specs.Told.{IsWritable}

-- ---- the cores of a host file are cores of the chip

abbrev AreLow : List ℕ → Type 0
AreLow cores = (k : ℕ) → slice_index cores k < 48

none_low : AreLow []
none_low zero = omega arith
none_low (suc k) = omega arith

push_low : (cores : List ℕ) (core : ℕ) → AreLow cores → core < 48 → AreLow (cores ++ core ∷ [])
push_low [] core are low zero = low
push_low [] core are low (suc k) = none_low k
push_low (c ∷ cores) core are low zero = are zero
push_low (c ∷ cores) core are low (suc k) = push_low cores core (λ j. are (suc j)) low k

then_ok : {A B E : Type 0} (r : Result A E) (next : A → Result B E) (y : B) → (r >>= next) ≡ Ok y → (x : A) × (r ≡ Ok x) × (next x ≡ Ok y)
then_ok (Ok x) next y is = (x, refl, is)
then_ok (Err e) next y is = absurd (cc)

number_low : (o : Option ℕ) (core : ℕ) → core_of_number o ≡ Ok core → core < 48
number_low None core is = absurd (cc)
number_low (Some n) core is = by (nat_lt n 48) refl is
  where
    by : (test : Bool) → nat_lt n 48 ≡ test → cond {A = Result ℕ HostKind} test (Ok n) (Err kind.BadCore) ≡ Ok core → core < 48
    by true low same = let at : n ≡ core = cc in subst (λ (c : ℕ). c < 48) at (ltb-true n 48 low)
    by false low same = absurd (cc)

more_low : (cores next : List ℕ) (core : ℕ) → AreLow cores → core < 48 → with_core cores core ≡ Ok next → AreLow next
more_low cores next core are low is = by (has_core core cores) is
  where
    by : (test : Bool) → cond {A = Result (List ℕ) HostKind} test (Err kind.TwiceCore) (Ok (cores ++ core ∷ [])) ≡ Ok next → AreLow next
    by true same = absurd (cc)
    by false same = let at : cores ++ core ∷ [] ≡ next = cc in subst AreLow at (push_low cores core are low)

line_low : (cores next : List ℕ) (line : List ℕ) → AreLow cores → read_host_line cores line ≡ Ok next → AreLow next
line_low cores next line are is = by (is_text line) (eqb (length (entry_of line)) 0) is
  where
    by : (text empty : Bool) → cond {A = Result (List ℕ) HostKind} text (cond {A = Result (List ℕ) HostKind} empty (Ok cores) (core_of_word (entry_of line) >>= with_core cores)) (Err kind.NotText) ≡ Ok next → AreLow next
    by true true same = let at : cores ≡ next = cc in subst AreLow at are
    by true false same =
        let (core, read, put) = then_ok (core_of_word (entry_of line)) (with_core cores) next same in
        more_low cores next core are (number_low (number_of (digits_of (entry_of line))) core read) put
    by false empty same = absurd (cc)

at_ok : {A : Type 0} (number : ℕ) (r : Result A HostKind) (x : A) → at_host_line number r ≡ Ok x → r ≡ Ok x
at_ok number (Ok y) x is = cc
at_ok number (Err kind) x is = absurd (cc)

lines_low : (before : ℕ) (cores next : List ℕ) (lines : List (List ℕ)) → AreLow cores → read_host_lines before cores lines ≡ Ok next → AreLow next
lines_low before cores next [] are is = let at : cores ≡ next = cc in subst AreLow at are
lines_low before cores next (line ∷ lines) are is =
    let (mid, read, rest) = then_ok (at_host_line (before + 1) (read_host_line cores line)) (λ mid. read_host_lines (before + 1) mid lines) next is in
    lines_low (before + 1) mid next lines (line_low cores mid line are (at_ok (before + 1) (read_host_line cores line) mid read)) rest

host_low : (nue : ℕ) (cores : List ℕ) (r : ℕ) → AreLow cores → host_at nue cores r < 48
host_low nue cores r are = by (nat_lt r nue)
  where
    by : (test : Bool) → (if test then slice_index cores r else slice_index cores 0) < 48
    by true = are r
    by false = are 0

list_low : (nue : ℕ) (cores : List ℕ) → AreLow cores → AreLow (host_list nue cores)
list_low nue cores are k =
    ⊎_elim
    (λ (low : k < 48). subst (λ (c : ℕ). c < 48) (sym (get_or-map-range_with_len (host_at nue cores) 0 48 k k 0 low (omega arith))) (host_low nue cores k are))
    (λ (far : 48 ≤ k). subst (λ (c : ℕ). c < 48) (sym (get_or_past (host_list nue cores) k 0 (omega (arith, far, length-map-range_with_len (host_at nue cores) 0 48)))) (omega arith))
    (cases_lt k 48)

enough_low : (nue lines : ℕ) (cores hosts : List ℕ) → AreLow cores → enough nue lines cores ≡ Ok hosts → AreLow hosts
enough_low nue lines cores hosts are is = by (nat_lt (length cores) nue) is
  where
    by : (test : Bool) → cond {A = Result (List ℕ) HostFault} test (Err (record { line = lines + 1; kind = kind.TooFew })) (Ok (host_list nue cores)) ≡ Ok hosts → AreLow hosts
    by true same = absurd (cc)
    by false same = let at : host_list nue cores ≡ hosts = cc in subst AreLow at (list_low nue cores are)

pub parsed_low : (bytes : List ℕ) (nue : ℕ) (hosts : List ℕ) → parse_hosts bytes nue ≡ Ok hosts → AreLow hosts
parsed_low bytes nue hosts is = by (nat_lt 65536 (length bytes)) is
  where
    by : (test : Bool) → cond {A = Result (List ℕ) HostFault} test (Err (record { line = 0; kind = kind.TooLong })) (read_host_lines 0 [] (file_lines bytes) >>= enough nue (length (file_lines bytes))) ≡ Ok hosts → AreLow hosts
    by true same = absurd (cc)
    by false same =
        let (cores, read, put) = then_ok (read_host_lines 0 [] (file_lines bytes)) (enough nue (length (file_lines bytes))) hosts same in
        enough_low nue (length (file_lines bytes)) cores hosts (lines_low 0 [] cores (file_lines bytes) none_low read) put

-- rank r is on core r where there is no host file
default_low : AreLow default_hosts
default_low k =
    ⊎_elim
    (λ (low : k < 48). subst (λ (c : ℕ). c < 48) (sym (get_or-range_with_len 0 48 k 0 low)) (omega (arith, low)))
    (λ (far : 48 ≤ k). subst (λ (c : ℕ). c < 48) (sym (get_or_past default_hosts k 0 (omega (arith, far, length-range_with_len 0 48)))) (omega arith))
    (cases_lt k 48)

hosts_low : (words : List (List ℕ)) (told : Option (List NamedFile)) (nue : ℕ) (at : Option ℕ) (hosts : List ℕ) → AreHosts words told nue at hosts → AreLow hosts
hosts_low words told nue None hosts are = subst AreLow (sym are) default_low
hosts_low words told nue (Some at) hosts (bytes, short, holds, is) = parsed_low bytes nue hosts is

-- ---- the setup

asks_writable : (words : List (List ℕ)) (told : Option (List NamedFile)) (job : Job) (asked : Asked) → AsksFor words told job asked → IsSetup asked.setup → IsWritable asked.setup
asks_writable words told job asked asks valid =
    let low = hosts_low words told job.nue (hosts_asked job.work job.hosts) asks.hosts asks.are_hosts in
    let setup = asks.setup in
    record {
      valid = valid;
      on_chip = λ r below. subst (λ (hosts : List ℕ). host_of hosts r < 48) (ap (λ (s : SetupView). s.hosts) (sym setup)) (low r);
      sixteen = ap (λ (s : SetupView). length s.comms) setup ∙ ap suc (length-map-range_with_len (first_split asked.script.items) 1 15);
    }

pub asked_writable : (words : List (List ℕ)) (command : Result Job WordFault) (told : Option (List NamedFile)) (asked : Asked) → WordsAskFor words command told asked → IsSetup asked.setup → IsWritable asked.setup
asked_writable words (Ok job) told asked asks valid = asks_writable words told job asked asks valid
asked_writable words (Err fault) told asked asks valid = absurd asks
