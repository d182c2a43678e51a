-- The text of a trace is read back as the setup and the events of which it is the text.
use Rattle.std.proofs.Common.{◌≡◌, ℕ, suc, ◌+◌, ◌-◌, ◌*◌, ◌<◌, ◌≤◌, Bool, true, false, cond, List, [], ◌∷◌, ◌++◌, get_or, length, length-append, map, replicate, take, Result, Ok, Err, refl, sym, ap, subst, ◌∙◌, add-one, append_assoc, arith}
use Rattle.std.specs.Prelude.{◌==◌, All, nat_lt}
use Rattle.std.specs.List.{range_with_len}
use Rattle.std.proofs.lemmas.Bool.{cond-false, cond-true, le-ltb, lt-ltb}
use Rattle.std.proofs.lemmas.List.{length-map}
use Rattle.std.proofs.lemmas.List.Splits.{length-slice_split}
use Rattle.std.proofs.lemmas.List.FromFn.{get_or-map-range_with_len}
use Rattle.rcce_io.specs.Sending.{joined_texts}
use Rattle.rcce_audit.specs.Texts.{rule_lines, table_lines, text_of}
use Rattle.texts.specs.Cuts.{lines_of}
use Rattle.rcce_audit.proofs.TextLemmas.{text_of-append}
use Rattle.scc_base.specs.Communicators.{IsRule, rule_of}
use Rattle.scc_base.specs.Setups.{AreApart, SetupView, host_of}
use Rattle.scc_base.specs.declared.communicators.CommRule.{CommRule}
use Rattle.scc_base.specs.declared.communicators.CommRule.TheVariants.{Absent, World, Mod, Div}
use Rattle.scc_base.specs.Worlds.{world_alone}
use Rattle.scc_proto.specs.Words.{RankEvent}
use Rattle.trace_writer.specs.Lines.{comm_line_after, event_line, trace_text}
use Rattle.trace_text.specs.Grammar.{TraceReading, all_taken, last_taken, lines_taken, parts_taken, trace_of, ◌>->◌}
use Rattle.trace_text.specs.Traces.{TraceView, most_trace_bytes, most_trace_lines}
use Rattle.trace_text.specs.declared.faults.TraceFault.{TraceFault}
use Rattle.trace_text.specs.declared.faults.TraceKind.TheVariants as kind
use Rattle.trace_laws.specs.Told.{IsWritable, text_lines, told_setup}
use Rattle.trace_laws.proofs.EventLemmas.{IsOf, event_body, events_taken}
use Rattle.trace_laws.proofs.FirstLemmas.{first_told, head_body, head_pieces}
use Rattle.trace_laws.proofs.HeadLemmas.{cores_from}
use Rattle.trace_laws.proofs.LineLemmas.{AreLines, IsLine, all_parts, are_append, events_are, events_are_lines, first_part, head_is_line, rules_are_lines, rules_few, text_size}
use Rattle.trace_laws.proofs.SizeLemmas.{event_short, head_short}
use Rattle.trace_laws.proofs.SplitLemmas.{at_rules, lines_are, splits_taken}

-- ---- the parts of a text

abbrev too_long : Result TraceView TraceFault
too_long = Err (record { line = 0; kind = kind.TooLong })

last_is : (lines : List (List ℕ)) → get_or (lines ++ [] ∷ []) (length lines) [] ≡ []
last_is [] = refl
last_is (line ∷ lines) = last_is lines

front_is : (lines : List (List ℕ)) → take (length lines) (lines ++ [] ∷ []) ≡ lines
front_is [] = refl
front_is (line ∷ lines) = ap (λ (l : List (List ℕ)). line ∷ l) (front_is lines)

-- the lines, where they are not too many
lines_told : (lines : List (List ℕ)) → length lines ≤ most_trace_lines → parts_taken (lines ++ [] ∷ []) ≡ all_taken lines []
lines_told lines few =
    let count : length (lines ++ [] ∷ []) - 1 ≡ length lines = omega (arith, length-append lines ([] ∷ [])) in
    cond-false (nat_lt most_trace_lines (length (lines ++ [] ∷ []) - 1)) _ _ (le-ltb most_trace_lines (length (lines ++ [] ∷ []) - 1) (omega (arith, count, few)))
    ∙ ap (λ (n : ℕ). all_taken (take n (lines ++ [] ∷ [])) (get_or (lines ++ [] ∷ []) n [])) count
    ∙ ap (λ (front : List (List ℕ)). all_taken front (get_or (lines ++ [] ∷ []) (length lines) [])) (front_is lines)
    ∙ ap (all_taken lines) (last_is lines)

-- and where they are
lines_long : (lines : List (List ℕ)) → most_trace_lines < length lines → parts_taken (lines ++ [] ∷ []) ≡ too_long
lines_long lines many =
    let count : length (lines ++ [] ∷ []) - 1 ≡ length lines = omega (arith, length-append lines ([] ∷ [])) in
    cond-true (nat_lt most_trace_lines (length (lines ++ [] ∷ []) - 1)) _ _ (lt-ltb most_trace_lines (length (lines ++ [] ∷ []) - 1) (omega (arith, count, many)))

either_way : (test : Bool) (said : Result TraceView TraceFault) → said ≡ too_long → cond test too_long said ≡ too_long
either_way true said is = refl
either_way false said is = is

-- ---- numbers

few_more : (lines later splits events run rules : ℕ) → lines ≡ suc later → later ≡ splits + events → events ≡ run → splits ≤ rules → rules ≡ 15 → (run < lines) × (lines ≤ run + 16)
few_more lines later splits events run rules is parts long few fifteen = (omega (arith, is, parts, long), omega (arith, is, parts, long, few, fifteen))

one_less : (a b : ℕ) → a + 1 ≡ b + 1 → a ≡ b
one_less a b is = omega (arith, is)

-- a first line, and so many lines of at most 63 bytes each with their line feeds
all_within : (bytes head rest lines : ℕ) → bytes ≡ head + suc rest → head ≤ 183 → rest ≤ 63 * lines → suc lines ≤ 16777216 → bytes ≤ 1073741824
all_within bytes head rest lines is short most few = omega (arith, is, short, most, few)

-- ---- a setup whose world stands

-- what is known of a setup and its events
record IsTold (s : SetupView) (rs : List CommRule) (run : List RankEvent) : Type 0 where
  pub writable : IsWritable s
  pub rules : s.comms ≡ World ∷ rs
  pub made : All (IsOf s.nue) run

module _ (s : SetupView) (rs : List CommRule) (run : List RankEvent) (is : IsTold s rs run) where
  fifteen : length rs ≡ 15
  fifteen = omega (arith, ap length is.rules, is.writable.sixteen)

  rule_at : (k : ℕ) → k < length rs → rule_of s.comms (k + 1) ≡ get_or rs k Absent
  rule_at k below = ap (λ (comms : List CommRule). rule_of comms (k + 1)) is.rules ∙ ap (λ (j : ℕ). rule_of (World ∷ rs) j) (add-one k)

  rules_are : (k : ℕ) → k < length rs → IsRule (World ∷ rs) (1 + k) (get_or rs k Absent)
  rules_are k below =
      let full = fifteen in
      subst (λ (m : ℕ). IsRule (World ∷ rs) m (get_or rs k Absent)) (omega arith)
      (subst (λ (comms : List CommRule). IsRule comms (suc k) (get_or comms (suc k) Absent)) is.rules (is.writable.valid.rules (suc k) (omega (arith, below, full))))

  abbrev splits : List (List ℕ)
  splits = table_lines rule_lines 1 rs

  abbrev later : List (List ℕ)
  later = splits ++ map (event_body s) run

  -- the lines
  head_line_is : IsLine (head_body s)
  head_line_is = head_is_line s is.writable.valid.ranks_within is.writable.on_chip

  are_lines : AreLines later
  are_lines =
      let full = fifteen in
      are_append splits (map (event_body s) run) (rules_are_lines (World ∷ rs) rs 1 (omega (arith, full)) rules_are)
      (events_are_lines s s.nue run is.writable.valid.ranks_within is.writable.valid.ranks_within is.made)

  text_is : trace_text s run ≡ head_body s ++ 10 ∷ text_of later
  text_is =
      let comms = joined_texts (map (comm_line_after s) (range_with_len 0 15)) in
      let events = joined_texts (map (event_line s) run) in
      let full = fifteen in
      let split_text : comms ≡ text_of splits = ap (λ (n : ℕ). joined_texts (map (comm_line_after s) (range_with_len 0 n))) (sym full)
      ∙ lines_are s rs 0 (λ k below. let at : 0 + k + 1 ≡ k + 1 = omega arith in ap (λ (j : ℕ). rule_of s.comms j) at ∙ rule_at k below) in
      ap (λ (t : List ℕ). t ++ events) (head_pieces s comms)
      ∙ append_assoc (head_body s) (10 ∷ comms) events
      ∙ ap (λ (t : List ℕ). head_body s ++ 10 ∷ (t ++ events)) split_text
      ∙ ap (λ (t : List ℕ). head_body s ++ 10 ∷ (text_of splits ++ t)) (events_are s run)
      ∙ ap (λ (t : List ℕ). head_body s ++ 10 ∷ t) (sym (text_of-append splits (map (event_body s) run)))

  parts_are : lines_of (trace_text s run) ≡ (head_body s ∷ later) ++ [] ∷ []
  parts_are = ap lines_of text_is ∙ first_part (head_body s) (text_of later) head_line_is ∙ ap (λ (parts : List (List ℕ)). head_body s ∷ parts) (all_parts later are_lines)

  -- how many they are: each has a line feed
  feeds : text_lines (trace_text s run) ≡ length (head_body s ∷ later)
  feeds =
      one_less (text_lines (trace_text s run)) (length (head_body s ∷ later))
      (sym (length-slice_split (λ b. b == 10) (trace_text s run)) ∙ ap length parts_are ∙ length-append (head_body s ∷ later) ([] ∷ []))

  counted : (length run < text_lines (trace_text s run)) × (text_lines (trace_text s run) ≤ length run + 16)
  counted =
      few_more (text_lines (trace_text s run)) (length later) (length splits) (length (map (event_body s) run)) (length run) (length rs) feeds (length-append splits (map (event_body s) run)) (length-map run (event_body s))
      (rules_few rs 1) fifteen

  -- and how long the text is
  fits : length (head_body s ∷ later) ≤ most_trace_lines → length (trace_text s run) ≤ most_trace_bytes
  fits few =
      all_within (length (trace_text s run)) (length (head_body s)) (length (text_of later)) (length later) (ap length text_is ∙ length-append (head_body s) (10 ∷ text_of later))
      (head_short s is.writable.valid.ranks_within is.writable.on_chip) (text_size later are_lines) few

  -- what they say
  apart : AreApart s.nue (cores_from s 0 s.nue)
  apart r q less below same =
      let there : (k : ℕ) → k < s.nue → host_of (cores_from s 0 s.nue) k ≡ host_of s.hosts k =
      λ k low. get_or-map-range_with_len (host_of s.hosts) 0 s.nue k k 0 low (omega arith) in
      is.writable.valid.apart r q less below (sym (there r (omega (arith, less, below))) ∙ same ∙ there q below)

  abbrev told : TraceView
  told = record { setup = told_setup s; events = run }

  -- of the lines behind the first
  later_told : (lines_taken 2 (at_rules (told_setup s) world_alone 0) later >-> last_taken (length later + 2) []) ≡ Ok told
  later_told =
      let full = fifteen in
      let done = last_taken (length later + 2) [] in
      let rest = map (event_body s) run in
      ap (λ (n : ℕ). lines_taken 2 (at_rules (told_setup s) ((World ∷ []) ++ replicate n Absent) 0) later >-> done) (sym full)
      ∙ splits_taken (told_setup s) (World ∷ []) rs 1 0 2 rest done (Ok told) refl (omega arith) (omega arith) (omega (arith, full)) rules_are
      (λ n l.
      ap (λ (comms : List CommRule). lines_taken n (at_rules (told_setup s) comms l) rest >-> done) (sym is.rules)
      ∙ ap (λ (r : Result TraceReading TraceFault). r >-> done)
      (events_taken s (told_setup s) l n [] run is.writable.valid.ranks_within is.made
      (λ e of_rank. let short = event_short s s.nue e is.writable.valid.ranks_within is.writable.valid.ranks_within of_rank in omega (arith, short))))

  all_told : all_taken (head_body s ∷ later) [] ≡ Ok told
  all_told =
      let head = head_short s is.writable.valid.ranks_within is.writable.on_chip in
      ap (λ (r : Result TraceReading TraceFault). r >-> λ reading. lines_taken 2 reading later >-> last_taken (length later + 2) [])
      (first_told s is.writable.valid.some_ranks is.writable.valid.ranks_within is.writable.on_chip apart (omega (arith, head)))
      ∙ later_told

  text_told : text_lines (trace_text s run) ≤ most_trace_lines → trace_of (trace_text s run) ≡ Ok told
  text_told few =
      let within : length (head_body s ∷ later) ≤ most_trace_lines = subst (λ (n : ℕ). n ≤ most_trace_lines) feeds few in
      cond-false (nat_lt most_trace_bytes (length (trace_text s run))) _ _ (le-ltb most_trace_bytes (length (trace_text s run)) (fits within))
      ∙ ap parts_taken parts_are ∙ lines_told (head_body s ∷ later) within ∙ all_told

  text_long : most_trace_lines < text_lines (trace_text s run) → trace_of (trace_text s run) ≡ too_long
  text_long many =
      either_way (nat_lt most_trace_bytes (length (trace_text s run))) (parts_taken (lines_of (trace_text s run)))
      (ap parts_taken parts_are ∙ lines_long (head_body s ∷ later) (subst (λ (n : ℕ). most_trace_lines < n) feeds many))

-- ---- any setup

-- its first communicator is the world
world_first : (s : SetupView) (comms : List CommRule) → IsWritable s → s.comms ≡ comms → (rs : List CommRule) × (s.comms ≡ World ∷ rs)
world_first s [] is same = absurd (omega (arith, ap length same, is.sixteen))
world_first s (World ∷ rs) is same = (rs, same)
world_first s (Absent ∷ rs) is same = absurd (subst (λ (comms : List CommRule). IsRule comms 0 (rule_of comms 0)) same (is.valid.rules 0 (omega arith)) refl)
world_first s (Mod p k ∷ rs) is same = let rule = subst (λ (comms : List CommRule). IsRule comms 0 (rule_of comms 0)) same (is.valid.rules 0 (omega arith)) in absurd (omega (arith, rule.0))
world_first s (Div p k ∷ rs) is same = let rule = subst (λ (comms : List CommRule). IsRule comms 0 (rule_of comms 0)) same (is.valid.rules 0 (omega arith)) in absurd (omega (arith, rule.0))

is_told : (s : SetupView) (run : List RankEvent) → IsWritable s → All (IsOf s.nue) run → (rs : List CommRule) × IsTold s rs run
is_told s run is made = let first = world_first s s.comms is refl in (first.0, record { writable = is; rules = first.1; made = made })

pub read_back : (s : SetupView) (run : List RankEvent) → IsWritable s → All (IsOf s.nue) run → text_lines (trace_text s run) ≤ most_trace_lines → trace_of (trace_text s run) ≡ Ok (record { setup = told_setup s; events = run })
read_back s run is made few = let known = is_told s run is made in text_told s known.0 run known.1 few

pub read_long : (s : SetupView) (run : List RankEvent) → IsWritable s → All (IsOf s.nue) run → most_trace_lines < text_lines (trace_text s run) → trace_of (trace_text s run) ≡ Err (record { line = 0; kind = kind.TooLong })
read_long s run is made many = let known = is_told s run is made in text_long s known.0 run known.1 many

pub lines_counted : (s : SetupView) (run : List RankEvent) → IsWritable s → All (IsOf s.nue) run → (length run < text_lines (trace_text s run)) × (text_lines (trace_text s run) ≤ length run + 16)
lines_counted s run is made = let known = is_told s run is made in counted s known.0 run known.1
