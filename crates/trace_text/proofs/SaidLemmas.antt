-- What the lines of a trace say has a setup that a run may have, and events that its ranks may make.
use Rattle.std.proofs.Common.{◌≡◌, ℕ, zero, suc, ◌+◌, ◌-◌, ◌<◌, ◌≤◌, ◌^◌, inl, inr, Bool, true, false, cond, ◌&&◌, ◌==◌, List, [], ◌∷◌, length, set, take, Option, Some, None, if◌then◌else◌, is_none, option_map, slice_index_or, Result, Ok, Err, codes, refl, sym, ◌∙◌, subst, arith}
use Rattle.std.specs.Prelude.{All, nat_le, nat_lt}
use Rattle.std.specs.Int.{w64, from_be_bytes}
use Rattle.std.specs.Option.{ok_or}
use Rattle.std.specs.Result.{result_ok}
use Rattle.std.specs.Str.{bytes_eq}
use Rattle.std.proofs.lemmas.Bool.{and_parts, eqb-true, ltb-true}
use Rattle.std.proofs.lemmas.List.{length-replicate, length-set}
use Rattle.std.proofs.lemmas.List.Elements.{All-nil, All-push}
use Rattle.hex.specs.Hex.{IsBytes, decode_sized}
use Rattle.hex.proofs.HexLemmas.{decode_of-ok, decode_sized-ok, decode_sized-twice}
use Rattle.scc_base.specs.Communicators.{AreRules, rule_of}
use Rattle.scc_base.specs.Events.{IsEvent, load_of, store_of, take_of, free_of}
use Rattle.scc_base.specs.Places.{IsPlace, WordAt}
use Rattle.scc_base.specs.Setups.{AreApart, IsSetup}
use Rattle.scc_base.specs.declared.communicators.CommRule.TheVariants.{Absent}
use Rattle.scc_base.specs.declared.events.Event.{Event}
use Rattle.scc_base.specs.Worlds.{world_alone}
use Rattle.scc_proto.specs.Words.{RankEvent, rank_below}
use Rattle.rcce_audit.specs.Grammar.{begins_comm, comm_said, log_rank_said}
use Rattle.rcce_audit.specs.Words.{◌>>=◌, is_lower, only_if, exact_range_said, log_words_of}
use Rattle.texts.specs.Cuts.{lines_of}
use Rattle.rcce_audit.proofs.ReadingLemmas.{no_rules, world_rules}
use Rattle.rcce_audit.proofs.WordLemmas.{only_some, range_word, then_some}
use Rattle.trace_text.specs.Grammar.{HostTable, TraceHead, TraceReading, access_said, all_hosts_said, all_taken, are_head_words, after_head, event_added, event_by, event_said, event_taken, first_taken, free_event_said, head_of_words, trace_head_said, head_values_said, host_said, hosts_said, last_taken, line_fault, line_taken, lines_taken, load_event_said, no_hosts, parts_taken, split_added, split_taken, store_event_said, take_event_said, trace_of, ◌>->◌}
use Rattle.trace_text.specs.Traces.{TraceView, most_line_bytes, most_trace_bytes, most_trace_lines}
use Rattle.trace_text.specs.Words.{comma_parts, dot_parts, hex_word_said, is_comment, layout_said, place_said, register_place_said}
use Rattle.trace_text.specs.declared.faults.TraceFault.{TraceFault}
use Rattle.trace_text.proofs.HeadLemmas.{apart_more}
use Rattle.trace_text.proofs.RuleLemmas.{later_grown, more}

-- the choice of a value
if_some : {A : Type 0} (test : Bool) (o : Option A) (x : A) → cond test o None ≡ Some x → (test ≡ true) × (o ≡ Some x)
if_some true o x is = (refl, is)
if_some false o x is = absurd (cc)

if_none : {A : Type 0} (test : Bool) (o : Option A) (x : A) → cond test None o ≡ Some x → o ≡ Some x
if_none true o x is = absurd (cc)
if_none false o x is = is

-- ---- events

ok_is : {A E : Type 0} (r : Result A E) (x : A) → result_ok r ≡ Some x → r ≡ Ok x
ok_is (Ok y) x is = cc
ok_is (Err e) x is = absurd (cc)

mapped_some : {A B : Type 0} (f : A → B) (o : Option A) (y : B) → option_map f o ≡ Some y → (x : A) × (o ≡ Some x) × (f x ≡ y)
mapped_some f None y is = absurd (cc)
mapped_some f (Some x) y is = (x, refl, cc)

word_below : (bytes : List ℕ) → IsBytes bytes → from_be_bytes w64 bytes < 2 ^ 64
word_below bytes small = omega (arith, small 0, small 1, small 2, small 3, small 4, small 5, small 6, small 7)

-- a value of sixteen digits is that of a word
value_fits : (word : List ℕ) (v : ℕ) → hex_word_said word ≡ Some v → v < 2 ^ 64
value_fits word v said =
    let (lower, digits) = if_some (is_lower word) (option_map (from_be_bytes w64) (result_ok (decode_sized word 8))) v said in
    let (bytes, read, value) = mapped_some (from_be_bytes w64) (result_ok (decode_sized word 8)) v digits in
    let ok = ok_is (decode_sized word 8) bytes read in
    let long = decode_sized-ok word 8 bytes ok in
    let all = decode_of-ok word bytes (sym (decode_sized-twice word 8 long) ∙ ok) in
    subst (λ (n : ℕ). n < 2 ^ 64) value (word_below bytes all.3)

place_is : (parts : List (List ℕ)) (p : WordAt) → place_said parts ≡ Some p → IsPlace p
place_is [] p said = absurd (cc)
place_is (core ∷ []) p said = absurd (cc)
place_is (core ∷ line ∷ []) p said = absurd (cc)
place_is (core ∷ line ∷ word ∷ []) p said =
    let (c, is_c, later) = then_some (exact_range_said 0 47 core) (λ c. exact_range_said 0 255 line >>= λ l. exact_range_said 0 3 word >>= λ w. Some (record { core = c; line = l; word = w })) p said in
    let (l, is_l, last) = then_some (exact_range_said 0 255 line) (λ l. exact_range_said 0 3 word >>= λ w. Some (record { core = c; line = l; word = w })) p later in
    let (w, is_w, gives) = then_some (exact_range_said 0 3 word) (λ w. Some (record { core = c; line = l; word = w })) p last in
    let of_core = range_word 0 47 core c is_c in
    let of_line = range_word 0 255 line l is_l in
    let of_word = range_word 0 3 word w is_w in
    let same : record { core = c; line = l; word = w } ≡ p = cc in
    subst IsPlace same (record { core_below = omega (arith, of_core.most); line_below = omega (arith, of_line.most); word_below = omega (arith, of_word.most) })
place_is (core ∷ line ∷ word ∷ more ∷ parts) p said = absurd (cc)

core_is : (parts : List (List ℕ)) (c : ℕ) → register_place_said parts ≡ Some c → c < 48
core_is [] c said = absurd (cc)
core_is (core ∷ []) c said = absurd (cc)
core_is (core ∷ name ∷ []) c said =
    let (n, is_n, gives) = then_some (exact_range_said 0 47 core) (λ c. only_if (bytes_eq name (codes "register")) c) c said in
    let (test, value) = only_some (bytes_eq name (codes "register")) n c gives in
    let of_core = range_word 0 47 core n is_n in
    omega (arith, of_core.most, value)
core_is (core ∷ name ∷ more ∷ parts) c said = absurd (cc)

load_is : (place value : List ℕ) (e : Event) → load_event_said place value ≡ Some e → IsEvent e
load_is place value e said =
    let (p, is_p, later) = then_some (place_said (dot_parts place)) (λ p. hex_word_said value >>= λ v. Some (load_of p v)) e said in
    let (v, is_v, gives) = then_some (hex_word_said value) (λ v. Some (load_of p v)) e later in
    let same : load_of p v ≡ e = cc in
    subst IsEvent same (place_is (dot_parts place) p is_p, value_fits value v is_v)

store_is : (place value : List ℕ) (e : Event) → store_event_said place value ≡ Some e → IsEvent e
store_is place value e said =
    let (p, is_p, later) = then_some (place_said (dot_parts place)) (λ p. hex_word_said value >>= λ v. Some (store_of p v)) e said in
    let (v, is_v, gives) = then_some (hex_word_said value) (λ v. Some (store_of p v)) e later in
    let same : store_of p v ≡ e = cc in
    subst IsEvent same (place_is (dot_parts place) p is_p, value_fits value v is_v)

taken_is : (c : ℕ) (taken : Bool) → c < 48 → IsEvent (take_of c taken)
taken_is c true below = (below, refl, inr refl)
taken_is c false below = (below, refl, inl refl)

take_is : (place value : List ℕ) (e : Event) → take_event_said place value ≡ Some e → IsEvent e
take_is place value e said =
    let (c, is_c, later) = then_some (register_place_said (dot_parts place)) (λ c. hex_word_said value >>= λ v. only_if (nat_le v 1) (take_of c (v == 1))) e said in
    let (v, is_v, gives) = then_some (hex_word_said value) (λ v. only_if (nat_le v 1) (take_of c (v == 1))) e later in
    let (test, same) = only_some (nat_le v 1) (take_of c (v == 1)) e gives in
    subst IsEvent same (taken_is c (v == 1) (core_is (dot_parts place) c is_c))

free_is : (place value : List ℕ) (e : Event) → free_event_said place value ≡ Some e → IsEvent e
free_is place value e said =
    let (c, is_c, later) = then_some (register_place_said (dot_parts place)) (λ c. hex_word_said value >>= λ v. only_if (v == 0) (free_of c)) e said in
    let (v, is_v, gives) = then_some (hex_word_said value) (λ v. only_if (v == 0) (free_of c)) e later in
    let (test, same) = only_some (v == 0) (free_of c) e gives in
    subst IsEvent same (core_is (dot_parts place) c is_c, refl, refl)

access_is : (access place value : List ℕ) (e : Event) → access_said access place value ≡ Some e → IsEvent e
access_is access place value e said = by (bytes_eq access (codes "load")) (bytes_eq access (codes "store")) (bytes_eq access (codes "take")) (bytes_eq access (codes "free")) said
  where
    by : (load store take free : Bool) → (if load then load_event_said place value else if store then store_event_said place value else if take then take_event_said place value
        else if free then free_event_said place value else None) ≡ Some e → IsEvent e
    by true store take free is = load_is place value e is
    by false true take free is = store_is place value e is
    by false false true free is = take_is place value e is
    by false false false true is = free_is place value e is
    by false false false false is = absurd (cc)

-- an event that a rank of the run may make
abbrev IsOfRank : ℕ → RankEvent → Type 0
IsOfRank nue e = (e.rank < nue) × IsEvent e.event

event_by_is : (nue : ℕ) (rank access place value : List ℕ) (e : RankEvent) → 1 ≤ nue → event_by nue rank access place value ≡ Some e → IsOfRank nue e
event_by_is nue rank access place value e some said =
    let (r, is_r, later) = then_some (log_rank_said nue rank) (λ r. access_said access place value >>= λ made. Some (record { rank = r; event = made })) e said in
    let (made, is, gives) = then_some (access_said access place value) (λ made. Some (record { rank = r; event = made })) e later in
    let of_rank = range_word 0 (nue - 1) rank r is_r in
    let same : record { rank = r; event = made } ≡ e = cc in
    subst (IsOfRank nue) same (omega (arith, of_rank.most, some), access_is access place value made is)

event_is : (nue : ℕ) (words : List (List ℕ)) (e : RankEvent) → 1 ≤ nue → event_said nue words ≡ Some e → IsOfRank nue e
event_is nue [] e some said = absurd (cc)
event_is nue (rank ∷ []) e some said = absurd (cc)
event_is nue (rank ∷ access ∷ []) e some said = absurd (cc)
event_is nue (rank ∷ access ∷ place ∷ []) e some said = absurd (cc)
event_is nue (rank ∷ access ∷ place ∷ value ∷ rest) e some said =
    event_by_is nue rank access place value e some (if_some (is_comment rest) (event_by nue rank access place value) e said).1

-- ---- the first line

-- the cores of the first ranks, in a table for all
record AreHosts (table : HostTable) : Type 0 where
  pub apart : AreApart table.count table.hosts
  pub long : length table.hosts ≡ 48

host_more : (table next : HostTable) (word : List ℕ) → AreHosts table → host_said table word ≡ Some next → AreHosts next
host_more table next word are said =
    let (c, is_c, gives) = then_some (exact_range_said 0 47 word)
    (λ c. only_if (nat_lt table.count 48 && is_none (rank_below table.count table.hosts c)) (record { count = table.count + 1; hosts = set table.hosts table.count c })) next said in
    let (test, same) = only_some (nat_lt table.count 48 && is_none (rank_below table.count table.hosts c)) (record { count = table.count + 1; hosts = set table.hosts table.count c }) next gives in
    let parts = and_parts (nat_lt table.count 48) (is_none (rank_below table.count table.hosts c)) test in
    let few : table.count < 48 = ltb-true table.count 48 parts.0 in
    subst AreHosts same (record {
      apart = apart_more table.count table.hosts c (omega (arith, few, are.long)) are.apart parts.1;
      long = length-set table.hosts table.count c ∙ are.long;
    })

all_hosts : (table next : HostTable) (words : List (List ℕ)) → AreHosts table → hosts_said table words ≡ Some next → AreHosts next
all_hosts table next [] are said = subst AreHosts (cc) are
all_hosts table next (word ∷ words) are said =
    let (mid, is, later) = then_some (host_said table word) (λ mid. hosts_said mid words) next said in
    all_hosts mid next words (host_more table mid word are is) later

no_hosts_are : AreHosts (record { count = 0; hosts = no_hosts })
unfolding no_hosts
no_hosts_are = record { apart = λ r q less below. absurd (omega (arith, below)); long = length-replicate {A = ℕ} 48 0 }

record IsTraceHead (head : TraceHead) : Type 0 where
  pub some_ranks : 1 ≤ head.nue
  pub ranks_within : head.nue ≤ 48
  pub apart : AreApart head.nue head.hosts

hosts_are : (nue : ℕ) (word hosts : List ℕ) → all_hosts_said nue word ≡ Some hosts → AreApart nue hosts
hosts_are nue word hosts said =
    let start : HostTable = record { count = 0; hosts = no_hosts } in
    let (table, is, gives) = then_some (hosts_said start (comma_parts word)) (λ table. only_if (table.count == nue) table.hosts) hosts said in
    let (test, same) = only_some (table.count == nue) table.hosts hosts gives in
    let are = all_hosts start table (comma_parts word) no_hosts_are is in
    subst (λ (n : ℕ). AreApart n hosts) (eqb-true table.count nue test) (subst (AreApart table.count) same are.apart)

head_values : (nue layout hosts : List ℕ) (head : TraceHead) → head_values_said nue layout hosts ≡ Some head → IsTraceHead head
head_values nue layout hosts head said =
    let (n, is_n, later) = then_some (exact_range_said 1 48 nue) (λ n. layout_said layout >>= λ l. all_hosts_said n hosts >>= λ h. Some (record { nue = n; layout = l; hosts = h })) head said in
    let (l, is_l, last) = then_some (layout_said layout) (λ l. all_hosts_said n hosts >>= λ h. Some (record { nue = n; layout = l; hosts = h })) head later in
    let (h, is_h, gives) = then_some (all_hosts_said n hosts) (λ h. Some (record { nue = n; layout = l; hosts = h })) head last in
    let of_nue = range_word 1 48 nue n is_n in
    let same : record { nue = n; layout = l; hosts = h } ≡ head = cc in
    subst IsTraceHead same (record { some_ranks = of_nue.least; ranks_within = of_nue.most; apart = hosts_are n hosts h is_h })

head_is : (words : List (List ℕ)) (head : TraceHead) → head_of_words words ≡ Some head → IsTraceHead head
head_is (rcce ∷ trace ∷ version ∷ ranks ∷ nue ∷ flags ∷ layout ∷ cores ∷ hosts ∷ []) head said =
    head_values nue layout hosts head (if_some (are_head_words rcce trace version ranks flags cores) (head_values_said nue layout hosts) head said).1
head_is [] head said = absurd (cc)
head_is (a ∷ []) head said = absurd (cc)
head_is (a ∷ b ∷ []) head said = absurd (cc)
head_is (a ∷ b ∷ c ∷ []) head said = absurd (cc)
head_is (a ∷ b ∷ c ∷ d ∷ []) head said = absurd (cc)
head_is (a ∷ b ∷ c ∷ d ∷ e ∷ []) head said = absurd (cc)
head_is (a ∷ b ∷ c ∷ d ∷ e ∷ f ∷ []) head said = absurd (cc)
head_is (a ∷ b ∷ c ∷ d ∷ e ∷ f ∷ g ∷ []) head said = absurd (cc)
head_is (a ∷ b ∷ c ∷ d ∷ e ∷ f ∷ g ∷ h ∷ []) head said = absurd (cc)
head_is (a ∷ b ∷ c ∷ d ∷ e ∷ f ∷ g ∷ h ∷ i ∷ j ∷ words) head said = absurd (cc)

-- ---- all lines

-- what is read so far
record IsReadSoFar (r : TraceReading) : Type 0 where
  pub some_ranks : 1 ≤ r.trace.setup.nue
  pub ranks_within : r.trace.setup.nue ≤ 48
  pub apart : AreApart r.trace.setup.nue r.trace.setup.hosts
  pub sixteen : length r.trace.setup.comms ≡ 16
  pub rules : AreRules r.trace.setup.comms
  pub later : (c : ℕ) → r.comm < c → rule_of r.trace.setup.comms c ≡ Absent
  pub made : All (IsOfRank r.trace.setup.nue) r.trace.events

head_reads : (head : TraceHead) → IsTraceHead head → IsReadSoFar (after_head head)
head_reads head is = record {
  some_ranks = is.some_ranks;
  ranks_within = is.ranks_within;
  apart = is.apart;
  sixteen = refl;
  rules = world_rules;
  later = none;
  made = All-nil (IsOfRank head.nue);
}
  where
    none : (c : ℕ) → 0 < c → rule_of world_alone c ≡ Absent
    none zero above = absurd (omega (arith, above))
    none (suc c) above = no_rules c

split_reads : (r next : TraceReading) (words : List (List ℕ)) → IsReadSoFar r → split_taken r words ≡ Some next → IsReadSoFar next
split_reads r next words reads said =
    let comms = r.trace.setup.comms in
    let (split, is, gives) = then_some (comm_said r.comm comms words) (split_added r) next said in
    let later : TraceReading = record r { trace = record r.trace { setup = record r.trace.setup { comms = set comms split.comm split.rule } }; comm = split.comm } in
    let (test, same) = only_some (length r.trace.events == 0) later next gives in
    subst IsReadSoFar same (record {
      some_ranks = reads.some_ranks;
      ranks_within = reads.ranks_within;
      apart = reads.apart;
      sixteen = length-set comms split.comm split.rule ∙ reads.sixteen;
      rules = more r.comm comms words split reads.sixteen ∣ reads.rules ∣₁ reads.later is reads.rules;
      later = later_grown r.comm comms words split reads.sixteen ∣ reads.rules ∣₁ reads.later is;
      made = reads.made;
    })

event_reads : (r next : TraceReading) (words : List (List ℕ)) → IsReadSoFar r → event_taken r words ≡ Some next → IsReadSoFar next
event_reads r next words reads said =
    let (e, is, gives) = then_some (event_said r.trace.setup.nue words) (λ e. Some (event_added r e)) next said in
    let same : event_added r e ≡ next = cc in
    subst IsReadSoFar same (record {
      some_ranks = reads.some_ranks;
      ranks_within = reads.ranks_within;
      apart = reads.apart;
      sixteen = reads.sixteen;
      rules = reads.rules;
      later = reads.later;
      made = All-push (IsOfRank r.trace.setup.nue) r.trace.events e reads.made (event_is r.trace.setup.nue words e reads.some_ranks is);
    })

line_reads : (r next : TraceReading) (line : List ℕ) → IsReadSoFar r → line_taken r line ≡ Some next → IsReadSoFar next
line_reads r next line reads said =
    by (begins_comm line) (if_none (nat_lt most_line_bytes (length line)) (if begins_comm line then split_taken r (log_words_of line) else event_taken r (log_words_of line)) next said)
  where
    by : (comm : Bool) → (if comm then split_taken r (log_words_of line) else event_taken r (log_words_of line)) ≡ Some next → IsReadSoFar next
    by true is = split_reads r next (log_words_of line) reads is
    by false is = event_reads r next (log_words_of line) reads is

-- a step that gave a value
step_ok : {A B : Type 0} (step : Result A TraceFault) (next : A → Result B TraceFault) (y : B) → (step >-> next) ≡ Ok y → (x : A) × (step ≡ Ok x) × (next x ≡ Ok y)
step_ok (Ok x) next y is = (x, refl, is)
step_ok (Err fault) next y is = absurd (cc)

or_some : {A : Type 0} (o : Option A) (fault : TraceFault) (x : A) → ok_or o fault ≡ Ok x → o ≡ Some x
or_some None fault x is = absurd (cc)
or_some (Some y) fault x is = cc

lines_read : (number : ℕ) (r next : TraceReading) (lines : List (List ℕ)) → IsReadSoFar r → lines_taken number r lines ≡ Ok next → IsReadSoFar next
lines_read number r next [] reads said = subst IsReadSoFar (cc) reads
lines_read number r next (line ∷ lines) reads said =
    let fault : TraceFault = record { line = number; kind = line_fault line } in
    let (mid, is, later) = step_ok (ok_or (line_taken r line) fault) (λ mid. lines_taken (number + 1) mid lines) next said in
    lines_read (number + 1) mid next lines (line_reads r mid line reads (or_some (line_taken r line) fault mid is)) later

first_reads : (line : List ℕ) (r : TraceReading) → first_taken line ≡ Ok r → IsReadSoFar r
first_reads line r said =
    let (head, is, same) = mapped_some after_head (trace_head_said line) r (or_some (option_map after_head (trace_head_said line)) _ r said) in
    subst IsReadSoFar same (head_reads head (head_is (log_words_of line) head (if_none (nat_lt most_line_bytes (length line)) (head_of_words (log_words_of line)) head is)))

-- a trace whose events are ones that its ranks may make
pub record IsSaid (trace : TraceView) : Type 0 where
  pub setup : IsSetup trace.setup
  pub made : All (IsOfRank trace.setup.nue) trace.events

read_said : (r : TraceReading) (trace : TraceView) → r.trace ≡ trace → IsReadSoFar r → IsSaid trace
read_said r trace same reads =
    subst IsSaid same (record { setup = record { some_ranks = reads.some_ranks; ranks_within = reads.ranks_within; apart = reads.apart; rules = reads.rules }; made = reads.made })

all_said : (lines : List (List ℕ)) (last : List ℕ) (trace : TraceView) → all_taken lines last ≡ Ok trace → IsSaid trace
all_said [] last trace said = absurd (cc)
all_said (first ∷ lines) last trace said =
    let (r, is, rest) = step_ok (first_taken first) (λ r. lines_taken 2 r lines >-> last_taken (length lines + 2) last) trace said in
    let (next, are, end) = step_ok (lines_taken 2 r lines) (last_taken (length lines + 2) last) trace rest in
    ended last next end (lines_read 2 r next lines (first_reads first r is) are)
  where
    ended : (left : List ℕ) (next : TraceReading) → last_taken (length lines + 2) left next ≡ Ok trace → IsReadSoFar next → IsSaid trace
    ended [] next end reads = read_said next trace (cc) reads
    ended (b ∷ left) next end reads = absurd (cc)

not_err : {A : Type 0} (test : Bool) (fault : TraceFault) (rest : Result A TraceFault) (x : A) → cond test (Err fault) rest ≡ Ok x → rest ≡ Ok x
not_err true fault rest x is = absurd (cc)
not_err false fault rest x is = is

parts_said : (parts : List (List ℕ)) (trace : TraceView) → parts_taken parts ≡ Ok trace → IsSaid trace
parts_said parts trace said =
    all_said (take (length parts - 1) parts) (slice_index_or parts (length parts - 1) []) trace
    (not_err (nat_lt most_trace_lines (length parts - 1)) _ (all_taken (take (length parts - 1) parts) (slice_index_or parts (length parts - 1) [])) trace said)

pub trace_said : (bytes : List ℕ) (trace : TraceView) → trace_of bytes ≡ Ok trace → IsSaid trace
trace_said bytes trace said = parts_said (lines_of bytes) trace (not_err (nat_lt most_trace_bytes (length bytes)) _ (parts_taken (lines_of bytes)) trace said)
