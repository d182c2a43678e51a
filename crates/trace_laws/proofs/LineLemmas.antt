-- The lines of a written trace are the parts of its text, and the text is not too long.
use Rattle.std.proofs.Common.{◌≡◌, ℕ, suc, ◌+◌, ◌*◌, ◌<◌, ◌≤◌, false, List, [], ◌∷◌, ◌++◌, get_or, length, length-append, map, codes, decimal, refl, ap, subst, ◌∙◌, append_assoc, arith}
use Rattle.std.specs.Prelude.{◌==◌, All}
use Rattle.std.proofs.lemmas.List.Elements.{All-head, All-tail}
use Rattle.std.proofs.lemmas.List.Splits.{slice_split_at}
use Rattle.rcce_io.specs.Sending.{joined_texts}
use Rattle.rcce_audit.specs.Texts.{line_of, rule_lines, split_words, table_lines, text_of}
use Rattle.texts.specs.Cuts.{lines_of}
use Rattle.scc_base.specs.Communicators.{IsRule}
use Rattle.scc_base.specs.Setups.{SetupView}
use Rattle.scc_base.specs.declared.communicators.CommRule.{CommRule}
use Rattle.scc_base.specs.declared.communicators.CommRule.TheVariants.{Absent, World, Mod, Div}
use Rattle.scc_proto.specs.Words.{RankEvent}
use Rattle.trace_writer.specs.Lines.{access_name, event_line, layout_name}
use Rattle.trace_laws.proofs.ByteLemmas.{IsFrom, from_append, from_lower, no_byte}
use Rattle.trace_laws.proofs.CommentLemmas.{comment_is}
use Rattle.trace_laws.proofs.EventLemmas.{IsOf, access_word, comment_text, event_body, event_line_is, where_text, where_word}
use Rattle.trace_laws.proofs.FirstLemmas.{head_body}
use Rattle.trace_laws.proofs.HeadLemmas.{AreOnChip, hosts_from, hosts_word}
use Rattle.trace_laws.proofs.SizeLemmas.{event_short}
use Rattle.trace_laws.proofs.SplitLemmas.{split_short}
use Rattle.trace_laws.proofs.WordLemmas.{layout_word, number_word, value_from, value_text}

-- ---- lines

-- a line: it has no line feed
abbrev pub IsLine : List ℕ → Type 0
IsLine line = All (λ b. (b == 10) ≡ false) line

is_line : (line : List ℕ) → IsFrom 32 line → IsLine line
is_line line is = no_byte 10 32 line (omega arith) is

-- lines of at most 62 bytes each
abbrev pub AreLines : List (List ℕ) → Type 0
AreLines [] = Unit {0}
AreLines (line ∷ lines) = IsLine line × (length line ≤ 62) × AreLines lines

pub are_append : (xs ys : List (List ℕ)) → AreLines xs → AreLines ys → AreLines (xs ++ ys)
are_append [] ys are more = more
are_append (x ∷ xs) ys (is, short, rest) more = (is, short, are_append xs ys rest more)

-- the parts of a text of lines
pub first_part : (line : List ℕ) (rest : List ℕ) → IsLine line → lines_of (line ++ 10 ∷ rest) ≡ line ∷ lines_of rest
first_part line rest is = slice_split_at (λ b. b == 10) line 10 rest is refl

pub all_parts : (lines : List (List ℕ)) → AreLines lines → lines_of (text_of lines) ≡ lines ++ [] ∷ []
all_parts [] are = refl
all_parts (line ∷ lines) (is, short, rest) =
    ap lines_of (append_assoc line (10 ∷ []) (text_of lines)) ∙ first_part line (text_of lines) is ∙ ap (λ (t : List (List ℕ)). line ∷ t) (all_parts lines rest)

-- how long the text is
pub text_size : (lines : List (List ℕ)) → AreLines lines → length (text_of lines) ≤ 63 * length lines
text_size [] are = omega arith
text_size (line ∷ lines) (is, short, more) =
    let rest = text_size lines more in
    let whole : length (text_of (line ∷ lines)) ≡ length line + 1 + length (text_of lines) =
    length-append (line ++ 10 ∷ []) (text_of lines) ∙ ap (λ (n : ℕ). n + length (text_of lines)) (length-append line (10 ∷ [])) in
    omega (arith, short, rest, whole)

-- ---- the lines of a trace

-- no word of them has a line feed
low : (w : List ℕ) → IsFrom 33 w → IsFrom 32 w
low w is = from_lower 32 33 w (omega arith) is

number_low : (n : ℕ) → n ≤ 65536 → IsFrom 32 (decimal n)
number_low n small = low (decimal n) (number_word n small)

head_from : (n l h : List ℕ) → IsFrom 32 n → IsFrom 32 l → IsFrom 32 h → IsFrom 32 (codes "rcce trace 1 nue " ++ (n ++ 32 ∷ (codes "layout" ++ 32 ∷ (l ++ 32 ∷ (codes "hosts" ++ 32 ∷ h)))))
head_from n l h of_n of_l of_h =
    from_append 32 (codes "rcce trace 1 nue ") (n ++ 32 ∷ (codes "layout" ++ 32 ∷ (l ++ 32 ∷ (codes "hosts" ++ 32 ∷ h)))) refl
    (from_append 32 n (32 ∷ (codes "layout" ++ 32 ∷ (l ++ 32 ∷ (codes "hosts" ++ 32 ∷ h)))) of_n
    (from_append 32 (codes " layout ") (l ++ 32 ∷ (codes "hosts" ++ 32 ∷ h)) refl (from_append 32 l (codes " hosts " ++ h) of_l (from_append 32 (codes " hosts ") h refl of_h))))

pub head_is_line : (s : SetupView) → s.nue ≤ 48 → AreOnChip s s.nue → IsLine (head_body s)
head_is_line s most are =
    let layout = layout_name s.layout in
    let hosts = hosts_from s 0 s.nue in
    is_line (head_body s) (head_from (decimal s.nue) layout hosts (number_low s.nue (omega (arith, most))) (low layout (layout_word s.layout)) (low hosts (hosts_word s s.nue are)))

split_line_is : (c p k : ℕ) (how : List ℕ) → c < 16 → p < c → k ≤ 48 → IsFrom 32 how → IsLine (line_of (split_words c p how k))
split_line_is c p k how below above most is =
    is_line (line_of (split_words c p how k)) (from_append 32 (codes "comm ") (decimal c ++ 32 ∷ (decimal p ++ 32 ∷ (how ++ 32 ∷ decimal k))) refl
    (from_append 32 (decimal c) (32 ∷ (decimal p ++ 32 ∷ (how ++ 32 ∷ decimal k))) (number_low c (omega (arith, below)))
    (from_append 32 (decimal p) (32 ∷ (how ++ 32 ∷ decimal k)) (number_low p (omega (arith, below, above)))
    (from_append 32 how (32 ∷ decimal k) is (number_low k (omega (arith, most)))))))

rule_lines_are : (comms : List CommRule) (c : ℕ) (rule : CommRule) → c < 16 → IsRule comms c rule → AreLines (rule_lines c rule)
rule_lines_are comms c Absent below is = tt
rule_lines_are comms c World below is = tt
rule_lines_are comms c (Mod p k) below (above, stands, some, most) =
    let short = split_short c p k (codes "mod") below above most refl in
    (split_line_is c p k (codes "mod") below above most refl, omega (arith, short), tt)
rule_lines_are comms c (Div p k) below (above, stands, some, most) =
    let short = split_short c p k (codes "div") below above most refl in
    (split_line_is c p k (codes "div") below above most refl, omega (arith, short), tt)

pub rules_are_lines : (comms rs : List CommRule) (c : ℕ) → c + length rs ≡ 16 → ((k : ℕ) → k < length rs → IsRule comms (c + k) (get_or rs k Absent)) → AreLines (table_lines rule_lines c rs)
rules_are_lines comms [] c full rules = tt
rules_are_lines comms (rule ∷ rs) c full rules =
    let here : IsRule comms c rule = subst (λ (m : ℕ). IsRule comms m rule) (omega arith) (rules 0 (omega arith)) in
    are_append (rule_lines c rule) (table_lines rule_lines (c + 1) rs) (rule_lines_are comms c rule (omega (arith, full)) here)
    (rules_are_lines comms rs (c + 1) (omega (arith, full)) (λ k below. subst (λ (m : ℕ). IsRule comms m (get_or rs k Absent)) (omega arith) (rules (suc k) (omega (arith, below)))))

body_from : (r a p v c : List ℕ) → IsFrom 32 r → IsFrom 32 a → IsFrom 32 p → IsFrom 32 v → IsFrom 32 c → IsFrom 32 (r ++ 32 ∷ (a ++ 32 ∷ (p ++ 32 ∷ (v ++ 32 ∷ 35 ∷ 32 ∷ c))))
body_from r a p v c of_r of_a of_p of_v of_c =
    from_append 32 r (32 ∷ (a ++ 32 ∷ (p ++ 32 ∷ (v ++ 32 ∷ 35 ∷ 32 ∷ c)))) of_r (from_append 32 a (32 ∷ (p ++ 32 ∷ (v ++ 32 ∷ 35 ∷ 32 ∷ c))) of_a
    (from_append 32 p (32 ∷ (v ++ 32 ∷ 35 ∷ 32 ∷ c)) of_p (from_append 32 v (32 ∷ 35 ∷ 32 ∷ c) of_v of_c)))

body_is_line : (s : SetupView) (nue : ℕ) (e : RankEvent) → s.nue ≤ 48 → nue ≤ 48 → IsOf nue e → IsLine (event_body s e)
body_is_line s nue e ranks most is =
    let below = is.0 in
    let name = access_name e.event.access in
    let place = where_text e.event.access e.event.place in
    let value = value_text e.event.value in
    is_line (event_body s e)
    (body_from (decimal e.rank) name place value (comment_text s e) (number_low e.rank (omega (arith, below, most))) (low name (access_word e.event.access))
    (low place (where_word e.event.access e.event.place e.event.value is.1)) (from_lower 32 48 value (omega arith) (value_from e.event.value)) (comment_is s e.event.access e.event.place e.event.value ranks is.1).bytes)

pub events_are_lines : (s : SetupView) (nue : ℕ) (run : List RankEvent) → s.nue ≤ 48 → nue ≤ 48 → All (IsOf nue) run → AreLines (map (event_body s) run)
events_are_lines s nue [] ranks most are = tt
events_are_lines s nue (e ∷ run) ranks most are =
    let first = All-head (IsOf nue) e run are in
    (body_is_line s nue e ranks most first, event_short s nue e ranks most first, events_are_lines s nue run ranks most (All-tail (IsOf nue) e run are))

pub events_are : (s : SetupView) (run : List RankEvent) → joined_texts (map (event_line s) run) ≡ text_of (map (event_body s) run)
events_are s [] = refl
events_are s (e ∷ run) =
    ap (λ (t : List ℕ). t ++ joined_texts (map (event_line s) run)) (event_line_is s e) ∙ ap (λ (t : List ℕ). (event_body s e ++ 10 ∷ []) ++ t) (events_are s run)

-- ---- how many lines the communicators have

rule_few : (c : ℕ) (rule : CommRule) → length (rule_lines c rule) ≤ 1
rule_few c Absent = omega arith
rule_few c World = omega arith
rule_few c (Mod p k) = omega arith
rule_few c (Div p k) = omega arith

pub rules_few : (rs : List CommRule) (c : ℕ) → length (table_lines rule_lines c rs) ≤ length rs
rules_few [] c = omega arith
rules_few (rule ∷ rs) c =
    let one = rule_few c rule in
    let rest = rules_few rs (c + 1) in
    let both = length-append (rule_lines c rule) (table_lines rule_lines (c + 1) rs) in
    omega (arith, one, rest, both)
