-- How long the text of a log is.
use Rattle.std.proofs.Common.{◌≡◌, ℕ, suc, ◌+◌, ◌*◌, ◌<◌, ◌≤◌, List, [], ◌∷◌, ◌++◌, length, get_or, codes, decimal, refl, sym, ap, ◌∙◌, subst, length-append, arith}
use Rattle.std.specs.Prelude.{All}
use Rattle.std.proofs.lemmas.Fmt.{length-decimal-le}
use Rattle.std.proofs.lemmas.List.Elements.{All-head, All-tail}
use Rattle.hex.specs.Hex.{lower_digits}
use Rattle.hex.proofs.HexLemmas.{length-encode_with}
use Rattle.scc_base.specs.Calls.{DataCall, Send, Recv, Post, Bar, call_of}
use Rattle.scc_base.specs.Communicators.{IsRule}
use Rattle.scc_base.specs.Heads.{MessageHead, IsHead, kind_at, kind_text}
use Rattle.scc_base.specs.declared.communicators.CommRule.{CommRule}
use Rattle.scc_base.specs.declared.communicators.CommRule.TheVariants.{Absent, World, Mod, Div}
use Rattle.scc_base.specs.declared.kinds.Kind.{Kind}
use Rattle.scc_base.specs.declared.kinds.Kind.TheVariants.{Plain, Bcast, Reduce, AllUp, AllDown}
use Rattle.rcce_io.specs.Digits.{hex_text}
use Rattle.rcce_audit.specs.Held.{bytes_in}
use Rattle.rcce_audit.specs.Logs.{LogView, IsLog, IsLogCall, most_log_bytes, calls_at_rank}
use Rattle.rcce_audit.specs.Sizes.{AreFew, bytes_moved}
use Rattle.rcce_audit.specs.Texts.{IsFileLog, call_lines, call_words, head_words, line_of, log_text, message_words, rule_lines, split_words, table_lines, text_of}

-- ---- words and lines

-- the bytes of words, each with the blank or the line feed behind it
abbrev words_size : List (List ℕ) → ℕ
words_size [] = 0
words_size (w ∷ ws) = (length w + 1) + words_size ws

line_size : (w : List ℕ) (ws : List (List ℕ)) → length (line_of (w ∷ ws)) + 1 ≡ words_size (w ∷ ws)
line_size w [] = omega arith
line_size w (v ∷ vs) = let rest = line_size v vs in ap (λ (n : ℕ). n + 1) (length-append w (32 ∷ line_of (v ∷ vs))) ∙ omega (arith, rest)

text_size : (line : List ℕ) (lines : List (List ℕ)) → length (text_of (line ∷ lines)) ≡ (length line + 1) + length (text_of lines)
text_size line lines = length-append (line ++ 10 ∷ []) (text_of lines) ∙ ap (λ (n : ℕ). n + length (text_of lines)) (length-append line (10 ∷ []))

text_append : (xs ys : List (List ℕ)) → length (text_of (xs ++ ys)) ≡ length (text_of xs) + length (text_of ys)
text_append [] ys = omega arith
text_append (x ∷ xs) ys =
    let rest = text_append xs ys in
    text_size x (xs ++ ys) ∙ omega (arith, rest) ∙ ap (λ (n : ℕ). n + length (text_of ys)) (sym (text_size x xs))

two_digits : (n : ℕ) → n < 100 → length (decimal n) ≤ 2
two_digits n low = length-decimal-le 2 n (omega arith) (omega (arith, low)) (omega (arith, low))

five_digits : (n : ℕ) → n ≤ 65536 → length (decimal n) ≤ 5
five_digits n low = length-decimal-le 5 n (omega arith) (omega (arith, low)) (omega (arith, low))

at_most : (n most : ℕ) (word : List ℕ) → n ≡ length word → n ≤ most → length word ≤ most
at_most n most word is low = subst (λ (m : ℕ). m ≤ most) is low

kind_size : (kind : Kind) → length (kind_text kind) ≤ 7
kind_size Plain = at_most 5 7 (codes "plain") refl (omega arith)
kind_size Bcast = at_most 5 7 (codes "bcast") refl (omega arith)
kind_size Reduce = at_most 6 7 (codes "reduce") refl (omega arith)
kind_size AllUp = at_most 5 7 (codes "allup") refl (omega arith)
kind_size AllDown = at_most 7 7 (codes "alldown") refl (omega arith)

hex_size : (bytes : List ℕ) → length (hex_text bytes) ≤ 1 + 2 * length bytes
hex_size [] = at_most 1 1 (codes "-") refl (omega arith)
hex_size (b ∷ bytes) = omega (arith, length-encode_with lower_digits (b ∷ bytes))

-- ---- calls

message_size : (r peer : ℕ) (verb : List ℕ) (head : MessageHead) (bytes : List ℕ) → r < 48 → peer < 48 → length verb ≡ 4 → IsHead head → length bytes ≡ head.len
    → length (line_of (message_words r verb peer head bytes)) + 1 ≤ 30 + 2 * head.len
message_size r peer verb head bytes low other four valid counted =
    let a = two_digits r (omega (arith, low)) in
    let b = two_digits peer (omega (arith, other)) in
    let c = two_digits head.comm (let below = valid.comm_below in omega (arith, below)) in
    let d = five_digits head.len valid.len_within in
    let e = kind_size (kind_at head.kind) in
    let f = hex_size bytes in
    subst (λ (n : ℕ). n ≤ 30 + 2 * head.len)
    (sym (line_size (decimal r) (verb ∷ decimal peer ∷ kind_text (kind_at head.kind) ∷ decimal head.comm ∷ decimal head.len ∷ hex_text bytes ∷ [])))
    (omega (arith, a, b, c, d, e, f, four, counted))

call_size : (nue : ℕ) (comms : List CommRule) (r : ℕ) (call : DataCall) → nue ≤ 48 → r < 48 → IsLogCall nue comms r call → length (line_of (call_words r call)) + 1 ≤ 30 + 2 * bytes_in (call_of call)
call_size nue comms r (Send to head bytes) ranks low is =
    let peer = is.peer_below in message_size r to (codes "send") head bytes low (omega (arith, ranks, peer)) refl is.valid is.counted
call_size nue comms r (Recv from head bytes) ranks low is =
    let peer = is.peer_below in message_size r from (codes "recv") head bytes low (omega (arith, ranks, peer)) refl is.valid is.counted
call_size nue comms r (Post to head bytes) ranks low (is, post) =
    let peer = is.peer_below in message_size r to (codes "post") head bytes low (omega (arith, ranks, peer)) refl is.valid is.counted
call_size nue comms r (Bar comm) ranks low (within, present) =
    let a = two_digits r (omega (arith, low)) in
    let b = two_digits comm (omega (arith, within)) in
    let three : length (codes "bar") ≡ 3 = refl in
    subst (λ (n : ℕ). n ≤ 30) (sym (line_size (decimal r) (codes "bar" ∷ decimal comm ∷ []))) (omega (arith, a, b, three))

calls_size : (nue : ℕ) (comms : List CommRule) (r : ℕ) (calls : List DataCall) → nue ≤ 48 → r < 48 → All (IsLogCall nue comms r) calls
    → length (text_of (call_lines r calls)) ≤ 30 * length calls + 2 * bytes_moved calls
calls_size nue comms r [] ranks low are = omega arith
calls_size nue comms r (call ∷ calls) ranks low are =
    let one = call_size nue comms r call ranks low (All-head (IsLogCall nue comms r) call calls are) in
    let rest = calls_size nue comms r calls ranks low (All-tail (IsLogCall nue comms r) call calls are) in
    subst (λ (n : ℕ). n ≤ 30 * length (call ∷ calls) + 2 * bytes_moved (call ∷ calls)) (sym (text_size (line_of (call_words r call)) (call_lines r calls))) (omega (arith, one, rest))

lists_size : (nue : ℕ) (comms : List CommRule) (ls : List (List DataCall)) (n : ℕ) → nue ≤ 48 → n + length ls ≤ 48 → ((k : ℕ) → All (IsLogCall nue comms (n + k)) (get_or ls k []))
    → ((k : ℕ) → AreFew (get_or ls k [])) → length (text_of (table_lines call_lines n ls)) ≤ 824288 * length ls
lists_size nue comms [] n ranks within are few = omega arith
lists_size nue comms (l ∷ ls) n ranks within are few =
    let here : All (IsLogCall nue comms n) l = subst (λ (m : ℕ). All (IsLogCall nue comms m) l) (omega arith) (are 0) in
    let one = calls_size nue comms n l ranks (omega (arith, within)) here in
    let calls : length l ≤ 10000 = (few 0).calls_within in
    let bytes : bytes_moved l ≤ 262144 = (few 0).bytes_within in
    let rest = lists_size nue comms ls (n + 1) ranks (omega (arith, within)) (λ k. subst (λ (m : ℕ). All (IsLogCall nue comms m) (get_or ls k [])) (omega arith) (are (suc k))) (λ k. few (suc k)) in
    subst (λ (m : ℕ). m ≤ 824288 * length (l ∷ ls)) (sym (text_append (call_lines n l) (table_lines call_lines (n + 1) ls))) (omega (arith, one, calls, bytes, rest))

-- ---- communicators

split_size : (comm parent k : ℕ) (how : List ℕ) → comm < 16 → parent < comm → k ≤ 48 → length how ≡ 3 → length (text_of (line_of (split_words comm parent how k) ∷ [])) ≤ 20
split_size comm parent k how within low most three =
    let a = two_digits comm (omega (arith, within)) in
    let b = two_digits parent (omega (arith, within, low)) in
    let c = two_digits k (omega (arith, most)) in
    let four : length (codes "comm") ≡ 4 = refl in
    let line : length (line_of (split_words comm parent how k)) + 1 ≤ 20 =
    subst (λ (n : ℕ). n ≤ 20) (sym (line_size (codes "comm") (decimal comm ∷ decimal parent ∷ how ∷ decimal k ∷ []))) (omega (arith, a, b, c, three, four)) in
    subst (λ (n : ℕ). n ≤ 20) (sym (text_size (line_of (split_words comm parent how k)) [])) (omega (arith, line))

rule_size : (comms : List CommRule) (comm : ℕ) (rule : CommRule) → comm < 16 → IsRule comms comm rule → length (text_of (rule_lines comm rule)) ≤ 20
rule_size comms comm Absent within is = omega arith
rule_size comms comm World within is = omega arith
rule_size comms comm (Mod parent k) within (low, present, some, most) = split_size comm parent k (codes "mod") within low most refl
rule_size comms comm (Div parent k) within (low, present, some, most) = split_size comm parent k (codes "div") within low most refl

rules_size : (comms rs : List CommRule) (c : ℕ) → c + length rs ≡ 16 → ((k : ℕ) → k < length rs → IsRule comms (c + k) (get_or rs k Absent)) → length (text_of (table_lines rule_lines c rs)) ≤ 20 * length rs
rules_size comms [] c full rules = omega arith
rules_size comms (rule ∷ rs) c full rules =
    let here : IsRule comms c rule = subst (λ (m : ℕ). IsRule comms m rule) (omega arith) (rules 0 (omega arith)) in
    let one = rule_size comms c rule (omega (arith, full)) here in
    let rest = rules_size comms rs (c + 1) (omega (arith, full)) (λ k below. subst (λ (m : ℕ). IsRule comms m (get_or rs k Absent)) (omega arith) (rules (suc k) (omega (arith, below)))) in
    subst (λ (m : ℕ). m ≤ 20 * length (rule ∷ rs)) (sym (text_append (rule_lines c rule) (table_lines rule_lines (c + 1) rs))) (omega (arith, one, rest))

-- ---- the whole

at_zero : (n : ℕ) → n ≡ 0 + n
at_zero n = omega arith

-- a log with few calls of each rank is one that a file may have
pub few_fit : (log : LogView) → IsLog log → ((r : ℕ) → AreFew (calls_at_rank log.lists r)) → IsFileLog log
few_fit log is few =
    let most = is.ranks_within in
    let sixteen = is.sixteen in
    let ranks = is.ranks in
    let nue = two_digits log.nue (omega (arith, most)) in
    let four : length (codes "rcce") ≡ 4 = refl in
    let three : length (codes "log") ≡ 3 = refl in
    let head : length (line_of (head_words log.nue)) + 1 ≤ 12 =
    subst (λ (n : ℕ). n ≤ 12) (sym (line_size (codes "rcce") (codes "log" ∷ decimal log.nue ∷ []))) (omega (arith, nue, four, three)) in
    let rules = rules_size log.comms log.comms 0 (omega (arith, sixteen)) (λ k below. subst (λ (m : ℕ). IsRule log.comms m (get_or log.comms k Absent)) (at_zero k) (is.rules k (omega (arith, below, sixteen)))) in
    let lists = lists_size log.nue log.comms log.lists 0 most (omega (arith, ranks)) (λ k. subst (λ (m : ℕ). All (IsLogCall log.nue log.comms m) (get_or log.lists k [])) (at_zero k) (is.calls k)) few in
    let one : List (List ℕ) = table_lines rule_lines 0 log.comms in
    let other : List (List ℕ) = table_lines call_lines 0 log.lists in
    let long : length (log_text log) ≡ (length (line_of (head_words log.nue)) + 1) + (length (text_of one) + length (text_of other)) =
    text_size (line_of (head_words log.nue)) (one ++ other) ∙ ap (λ (n : ℕ). (length (line_of (head_words log.nue)) + 1) + n) (text_append one other) in
    record { written = is; fits = subst (λ (n : ℕ). n ≤ most_log_bytes) (sym long) (omega (arith, head, rules, lists, sixteen, ranks)) }
