-- The lines of the communicators that are splits are read back.
use Rattle.std.proofs.Common.{◌≡◌, ◌≢◌, ℕ, suc, ◌+◌, ◌<◌, ◌≤◌, true, cond, List, [], ◌∷◌, ◌++◌, get_or, length, length-append, map, replicate, set, codes, decimal, Option, Some, None, Result, refl, sym, ap, subst, ◌∙◌, append_assoc, arith}
use Rattle.std.specs.Prelude.{nat_lt}
use Rattle.std.specs.List.{range_with_len}
use Rattle.std.specs.Option.{ok_or}
use Rattle.std.proofs.lemmas.Bool.{cond-false, le-ltb}
use Rattle.std.proofs.lemmas.Fmt.{length-decimal-le}
use Rattle.std.proofs.lemmas.List.{append-nil}
use Rattle.scc_proto.specs.Words.{is_present_rule}
use Rattle.rcce_io.specs.Sending.{joined_texts}
use Rattle.rcce_audit.specs.Grammar.{begins_comm, rule_named}
use Rattle.rcce_audit.specs.Texts.{line_of, rule_lines, split_words, table_lines, text_of}
use Rattle.rcce_audit.specs.Words.{◌>>=◌, log_words_of}
use Rattle.rcce_audit.specs.declared.lines.CommSplit.{CommSplit}
use Rattle.rcce_audit.proofs.TextLemmas.{split_pieces, text_of-append}
use Rattle.rcce_audit.proofs.WritingLemmas.{present_before, set-middle, split_told}
use Rattle.scc_base.specs.Communicators.{IsRule, rule_of}
use Rattle.scc_base.specs.Setups.{SetupView}
use Rattle.scc_base.specs.declared.communicators.CommRule.{CommRule}
use Rattle.scc_base.specs.declared.communicators.CommRule.TheVariants.{Absent, World, Mod, Div}
use Rattle.trace_writer.specs.Lines.{comm_line, comm_line_after}
use Rattle.trace_text.specs.Grammar.{TraceReading, event_taken, line_fault, line_taken, lines_taken, split_added, split_taken, ◌>->◌}
use Rattle.trace_text.specs.Traces.{TraceView, most_line_bytes}
use Rattle.trace_text.specs.declared.faults.TraceFault.{TraceFault}
use Rattle.trace_laws.proofs.ByteLemmas.{IsFrom}
use Rattle.trace_laws.proofs.WordLemmas.{last_word, number_word, word_at}

-- ---- the text

one_line : (c : ℕ) (rule : CommRule) → comm_line c rule ≡ text_of (rule_lines c rule)
one_line c Absent = refl
one_line c World = refl
one_line c (Mod p k) = split_pieces (decimal c) (decimal p) (codes "mod") (decimal k) ∙ sym (append-nil (line_of (split_words c p (codes "mod") k) ++ 10 ∷ []))
one_line c (Div p k) = split_pieces (decimal c) (decimal p) (codes "div") (decimal k) ∙ sym (append-nil (line_of (split_words c p (codes "div") k) ++ 10 ∷ []))

pub lines_are : (s : SetupView) (rs : List CommRule) (n : ℕ) → ((k : ℕ) → k < length rs → rule_of s.comms (n + k + 1) ≡ get_or rs k Absent)
    → joined_texts (map (comm_line_after s) (range_with_len n (length rs))) ≡ text_of (table_lines rule_lines (n + 1) rs)
lines_are s [] n are = refl
lines_are s (rule ∷ rs) n are =
    let here : rule_of s.comms (n + 1) ≡ rule = ap (λ (k : ℕ). rule_of s.comms k) (omega arith) ∙ are 0 (omega arith) in
    let rest = joined_texts (map (comm_line_after s) (range_with_len (n + 1) (length rs))) in
    ap (λ (r : CommRule). comm_line (n + 1) r ++ rest) here
    ∙ ap (λ (t : List ℕ). t ++ rest) (one_line (n + 1) rule)
    ∙ ap (λ (t : List ℕ). text_of (rule_lines (n + 1) rule) ++ t)
    (lines_are s rs (n + 1) (λ k below. ap (λ (j : ℕ). rule_of s.comms j) (omega arith) ∙ are (suc k) (omega (arith, below))))
    ∙ sym (text_of-append (rule_lines (n + 1) rule) (table_lines rule_lines (n + 1 + 1) rs))

-- ---- one line

words_are : (c p k : ℕ) (how : List ℕ) → c < 16 → p < c → k ≤ 48 → IsFrom 33 how → log_words_of (line_of (split_words c p how k)) ≡ split_words c p how k
words_are c p k how below low most is =
    word_at (codes "comm") (decimal c ++ 32 ∷ (decimal p ++ 32 ∷ (how ++ 32 ∷ decimal k))) refl
    ∙ ap (λ (ws : List (List ℕ)). codes "comm" ∷ ws) (word_at (decimal c) (decimal p ++ 32 ∷ (how ++ 32 ∷ decimal k)) (number_word c (omega (arith, below)))
    ∙ ap (λ (ws : List (List ℕ)). decimal c ∷ ws) (word_at (decimal p) (how ++ 32 ∷ decimal k) (number_word p (omega (arith, below, low)))
    ∙ ap (λ (ws : List (List ℕ)). decimal p ∷ ws) (word_at how (decimal k) is
    ∙ ap (λ (ws : List (List ℕ)). how ∷ ws) (last_word (decimal k) (number_word k (omega (arith, most)))))))

two_digits : (n : ℕ) → n < 100 → length (decimal n) ≤ 2
two_digits n low = length-decimal-le 2 n (omega arith) (omega (arith, low)) (omega (arith, low))

pub split_short : (c p k : ℕ) (how : List ℕ) → c < 16 → p < c → k ≤ 48 → length how ≡ 3 → length (line_of (split_words c p how k)) ≤ 17
split_short c p k how below low most three =
    let a = two_digits c (omega (arith, below)) in
    let b = two_digits p (omega (arith, below, low)) in
    let d = two_digits k (omega (arith, most)) in
    simp length-append (omega (arith, a, b, d, three))

-- a reading of this setup, with these rules and this last communicator, before all events
abbrev pub at_rules : SetupView → List CommRule → ℕ → TraceReading
at_rules t comms last = record { trace = record { setup = record t { comms = comms }; events = [] }; comm = last }

split_line_taken : (t : SetupView) (comms : List CommRule) (last c p k : ℕ) (how : List ℕ) (rule : CommRule) → last < c → c < 16 → p < c → is_present_rule (rule_of comms p) ≡ true → 1 ≤ k → k ≤ 48 → rule_named how p k ≡ Some rule
    → IsFrom 33 how → length how ≡ 3 → line_taken (at_rules t comms last) (line_of (split_words c p how k)) ≡ Some (at_rules t (set comms c rule) c)
split_line_taken t comms last c p k how rule above below low stands some most named is three =
    let r = at_rules t comms last in
    let line = line_of (split_words c p how k) in
    let short = split_short c p k how below low most three in
    cond-false (nat_lt most_line_bytes (length line)) None (cond (begins_comm line) (split_taken r (log_words_of line)) (event_taken r (log_words_of line))) (le-ltb most_line_bytes (length line) (omega (arith, short)))
    ∙ ap (split_taken r) (words_are c p k how below low most is)
    ∙ ap (λ (o : Option CommSplit). o >>= split_added r) (split_told last comms c p k how rule above below low stands some most named)

-- ---- all lines

-- what the line of a rule leads to, if it has one, where that is known of the lines behind it
rule_taken : (t : SetupView) (front rs : List CommRule) (rule : CommRule) (c last number : ℕ) (afterwards : List (List ℕ)) (done : TraceReading → Result TraceView TraceFault) (said : Result TraceView TraceFault)
    → c ≡ length front → 1 ≤ c → last < c → c < 16 → IsRule (front ++ rule ∷ rs) c rule
    → ((n l : ℕ) → l ≤ c → (lines_taken n (at_rules t (front ++ rule ∷ replicate (length rs) Absent) l) afterwards >-> done) ≡ said)
    → (lines_taken number (at_rules t (front ++ Absent ∷ replicate (length rs) Absent) last) (rule_lines c rule ++ afterwards) >-> done) ≡ said
rule_taken t front rs rule c last number afterwards done said at some above below is go = by_rule rule refl is
  where
    empty : List CommRule
    empty = replicate (length rs) Absent

    one : (x : CommRule) (p k : ℕ) (how : List ℕ) → rule ≡ x → (p < c) × (rule_of (front ++ rule ∷ rs) p ≢ Absent) × (1 ≤ k) × (k ≤ 48) → rule_named how p k ≡ Some x → IsFrom 33 how → length how ≡ 3
        → (lines_taken number (at_rules t (front ++ Absent ∷ empty) last) (line_of (split_words c p how k) ∷ afterwards) >-> done) ≡ said
    one x p k how same (low, stands, least, most) named word three =
        let line = line_of (split_words c p how k) in
        let comms = front ++ Absent ∷ empty in
        let placed : set comms c x ≡ front ++ rule ∷ empty = ap (λ (n : ℕ). set comms n x) at ∙ set-middle front Absent x empty ∙ ap (λ (y : CommRule). front ++ y ∷ empty) (sym same) in
        ap (λ (o : Option TraceReading). (ok_or {E = TraceFault} o (record { line = number; kind = line_fault line }) >-> λ next. lines_taken (number + 1) next afterwards) >-> done)
        (split_line_taken t comms last c p k how x above below low (present_before front (Absent ∷ empty) (rule ∷ rs) p (omega (arith, at, low)) stands) least most named word three
        ∙ ap (λ (l : List CommRule). Some (at_rules t l c)) placed)
        ∙ go (number + 1) c (omega arith)

    by_rule : (x : CommRule) → rule ≡ x → IsRule (front ++ rule ∷ rs) c x → (lines_taken number (at_rules t (front ++ Absent ∷ empty) last) (rule_lines c x ++ afterwards) >-> done) ≡ said
    by_rule Absent same rule_is = ap (λ (x : CommRule). lines_taken number (at_rules t (front ++ x ∷ empty) last) afterwards >-> done) (sym same) ∙ go number last (omega (arith, above))
    by_rule World same rule_is = absurd (omega (arith, rule_is, some))
    by_rule (Mod p k) same rule_is = one (Mod p k) p k (codes "mod") same rule_is refl refl refl
    by_rule (Div p k) same rule_is = one (Div p k) p k (codes "div") same rule_is refl refl refl

-- what the lines of all rules lead to
pub splits_taken : (t : SetupView) (front rs : List CommRule) (c last number : ℕ) (rest : List (List ℕ)) (done : TraceReading → Result TraceView TraceFault) (said : Result TraceView TraceFault)
    → c ≡ length front → 1 ≤ c → last < c → c + length rs ≡ 16 → ((k : ℕ) → k < length rs → IsRule (front ++ rs) (c + k) (get_or rs k Absent))
    → ((n l : ℕ) → (lines_taken n (at_rules t (front ++ rs) l) rest >-> done) ≡ said)
    → (lines_taken number (at_rules t (front ++ replicate (length rs) Absent) last) (table_lines rule_lines c rs ++ rest) >-> done) ≡ said
splits_taken t front [] c last number rest done said at some above full rules later = later number last
splits_taken t front (rule ∷ rs) c last number rest done said at some above full rules later =
    let empty : List CommRule = replicate (length rs) Absent in
    let afterwards : List (List ℕ) = table_lines rule_lines (c + 1) rs ++ rest in
    ap (λ (lines : List (List ℕ)). lines_taken number (at_rules t (front ++ Absent ∷ empty) last) lines >-> done) (append_assoc (rule_lines c rule) (table_lines rule_lines (c + 1) rs) rest)
    ∙ rule_taken t front rs rule c last number afterwards done said at some above (omega (arith, full)) (subst (λ (m : ℕ). IsRule (front ++ rule ∷ rs) m rule) (omega arith) (rules 0 (omega arith)))
    (λ n l low.
    ap (λ (comms : List CommRule). lines_taken n (at_rules t comms l) afterwards >-> done) (sym (append_assoc front (rule ∷ []) empty))
    ∙ splits_taken t (front ++ rule ∷ []) rs (c + 1) l n rest done said (omega (arith, at, length-append front (rule ∷ []))) (omega arith) (omega (arith, low)) (omega (arith, full))
    (λ k below. subst (λ (comms : List CommRule). IsRule comms (c + 1 + k) (get_or rs k Absent)) (sym (append_assoc front (rule ∷ []) rs))
    (subst (λ (m : ℕ). IsRule (front ++ rule ∷ rs) m (get_or rs k Absent)) (omega arith) (rules (suc k) (omega (arith, below)))))
    (λ m j. ap (λ (comms : List CommRule). lines_taken m (at_rules t comms j) rest >-> done) (append_assoc front (rule ∷ []) rs) ∙ later m j))
