-- The line of a call says the call, and the lines of a text are its parts.
use Rattle.std.proofs.Common.{◌≡◌, ◌≢◌, ◌⊎◌, ℕ, zero, suc, ◌+◌, ◌-◌, ◌/◌, ◌%◌, ◌^◌, ◌<◌, ◌≤◌, Bool, true, false, cond, ◌&&◌, not, List, [], ◌∷◌, ◌++◌, length, Option, Some, None, codes, decimal, inl, inr, refl, sym, ◌∙◌, ap, append_assoc, arith}
use Rattle.std.specs.Prelude.{◌==◌, All, nat_le, slice_index}
use Rattle.std.specs.List.{list_all}
use Rattle.std.specs.Str.{bytes_eq}
use Rattle.std.proofs.lemmas.Bool.{and_parts, and_from, cases_eq, cond-true, cond-false, le-leb, ne_eqb, eq-eqb}
use Rattle.std.proofs.lemmas.Bool.Decides.{nat_tests}
use Rattle.std.proofs.lemmas.Fmt.{decimal_by_steps}
use Rattle.std.proofs.lemmas.List.Elements.{All-nil, All-cons, All-head, All-tail}
use Rattle.std.proofs.lemmas.List.Splits.{slice_split_none, slice_split_at}
use Rattle.scc_proto.specs.Words.{is_present_rule}
use Rattle.hex.specs.Hex.{IsBytes, encode_with, lower_digits}
use Rattle.scc_base.specs.Calls.{DataCall, Send, Recv, Post, Bar}
use Rattle.scc_base.specs.Communicators.{rule_of}
use Rattle.scc_base.specs.Heads.{MessageHead, IsHead, IsPostHead, kind_at, kind_number, kind_text}
use Rattle.scc_base.specs.declared.communicators.CommRule.{CommRule}
use Rattle.scc_base.specs.declared.communicators.CommRule.TheVariants.{Absent, World, Mod, Div}
use Rattle.scc_base.specs.declared.kinds.Kind.{Kind}
use Rattle.scc_base.specs.declared.kinds.Kind.TheVariants.{Plain, Bcast, Reduce, AllUp, AllDown}
use Rattle.rcce_audit.specs.declared.lines.EndRanks.{EndRanks}
use Rattle.rcce_audit.specs.Grammar.{Reading, RankedCall, log_rank_said, end_ranks, ends_said, log_head_of, log_head_said, log_bytes_said, is_post, call_named, message_said, call_said, with_call, is_in_order, add_call, begins_comm, line_said}
use Rattle.rcce_audit.specs.Logs.{IsMessage, IsLogCall}
use Rattle.rcce_io.specs.Digits.{hex_text}
use Rattle.rcce_audit.specs.Texts.{message_words, call_words, line_of, text_of}
use Rattle.rcce_audit.specs.Words.{◌>>=◌, only_if, log_words_of, exact_range_said}
use Rattle.texts.specs.Cuts.{lines_of}
use Rattle.rcce_audit.proofs.HexTextLemmas.{digit_at}
use Rattle.rcce_audit.proofs.WordLemmas.{range_said-decimal, kind_said-kind_text, hex_said-hex_text}

-- a byte that is neither a blank nor a line feed, and a word of such bytes
abbrev ink : ℕ → Bool
ink b = nat_le 33 b

abbrev pub IsWord : List ℕ → Type 0
IsWord w = list_all ink w ≡ true

list_all-append : (p : ℕ → Bool) (xs ys : List ℕ) → list_all p xs ≡ true → list_all p ys ≡ true → list_all p (xs ++ ys) ≡ true
list_all-append p [] ys all more = more
list_all-append p (x ∷ xs) ys all more =
    let parts = and_parts (p x) (list_all p xs) all in
    and_from (p x) (list_all p (xs ++ ys)) parts.0 (list_all-append p xs ys parts.1 more)

one_ink : (n : ℕ) → 33 ≤ n → IsWord (n ∷ [])
one_ink n above = and_from (ink n) true (le-leb 33 n above) refl

decimal_word : (n : ℕ) → n < 2 ^ 64 → IsWord (decimal n)
decimal_word n small =
    decimal_by_steps (λ m ds. IsWord ds) (λ m low. one_ink (48 + m) (omega arith)) (λ m ds high all. list_all-append ink ds ((48 + m % 10) ∷ []) all (one_ink (48 + m % 10) (omega arith))) n small

kind_is_word : (k : Kind) → IsWord (kind_text k)
kind_is_word Plain = refl
kind_is_word Bcast = refl
kind_is_word Reduce = refl
kind_is_word AllUp = refl
kind_is_word AllDown = refl

digit_ink : (v : ℕ) → v < 16 → ink (slice_index lower_digits v) ≡ true
digit_ink v small = ap ink (digit_at v small) ∙ high v small
  where
    high : (n : ℕ) → n < 16 → ink (cond (nat_le n 9) (n + 48) (n + 87)) ≡ true
    high n h = grind (arith, nat_tests)

digits_word : (bytes : List ℕ) → IsBytes bytes → IsWord (encode_with lower_digits bytes)
unfolding encode_with
digits_word [] are = refl
digits_word (b ∷ bytes) are =
    let small : b < 256 = are 0 in
    and_from _ _ (digit_ink (b / 16) (omega arith)) (and_from _ _ (digit_ink (b % 16) (omega arith)) (digits_word bytes (λ i. are (suc i))))

hex_is_word : (bytes : List ℕ) → IsBytes bytes → IsWord (hex_text bytes)
hex_is_word [] are = refl
hex_is_word (b ∷ bytes) are = digits_word (b ∷ bytes) are

-- words
abbrev pub AreWords : List (List ℕ) → Type 0
AreWords [] = Unit {0}
AreWords (w ∷ ws) = IsWord w × AreWords ws

none_pass : (p : ℕ → Bool) (w : List ℕ) → ((b : ℕ) → ink b ≡ true → p b ≡ false) → IsWord w → All (λ b. p b ≡ false) w
none_pass p [] other is = All-nil (λ b. p b ≡ false)
none_pass p (b ∷ w) other is =
    let parts = and_parts (ink b) (list_all ink w) is in
    All-cons (λ b. p b ≡ false) b w (other b parts.0) (none_pass p w other parts.1)

no_blank : (b : ℕ) → ink b ≡ true → (b == 32) ≡ false
no_blank b is = grind (arith, nat_tests)

no_feed : (b : ℕ) → ink b ≡ true → (b == 10) ≡ false
no_feed b is = grind (arith, nat_tests)

-- the words of a line of words
pub words_of-line_of : (w : List ℕ) (ws : List (List ℕ)) → AreWords (w ∷ ws) → log_words_of (line_of (w ∷ ws)) ≡ w ∷ ws
words_of-line_of w [] (is, rest) = slice_split_none (λ b. b == 32) w (none_pass (λ b. b == 32) w no_blank is)
words_of-line_of w (v ∷ vs) (is, rest) =
    slice_split_at (λ b. b == 32) w 32 (line_of (v ∷ vs)) (none_pass (λ b. b == 32) w no_blank is) refl
    ∙ ap (λ (t : List (List ℕ)). w ∷ t) (words_of-line_of v vs rest)

-- a line of words has no line feed
abbrev IsLine : List ℕ → Type 0
IsLine line = All (λ b. (b == 10) ≡ false) line

All-appended : (P : ℕ → Type 0) (xs ys : List ℕ) → All P xs → All P ys → All P (xs ++ ys)
All-appended P [] ys all more = more
All-appended P (x ∷ xs) ys all more = All-cons P x (xs ++ ys) (All-head P x xs all) (All-appended P xs ys (All-tail P x xs all) more)

pub line_is : (ws : List (List ℕ)) → AreWords ws → IsLine (line_of ws)
line_is [] are = All-nil (λ b. (b == 10) ≡ false)
line_is (w ∷ []) (is, rest) = none_pass (λ b. b == 10) w no_feed is
line_is (w ∷ v ∷ vs) (is, rest) =
    All-appended (λ b. (b == 10) ≡ false) w (32 ∷ line_of (v ∷ vs)) (none_pass (λ b. b == 10) w no_feed is)
    (All-cons (λ b. (b == 10) ≡ false) 32 (line_of (v ∷ vs)) refl (line_is (v ∷ vs) rest))

abbrev pub AreLines : List (List ℕ) → Type 0
AreLines [] = Unit {0}
AreLines (line ∷ lines) = IsLine line × AreLines lines

pub are_lines-append : (xs ys : List (List ℕ)) → AreLines xs → AreLines ys → AreLines (xs ++ ys)
are_lines-append [] ys are more = more
are_lines-append (x ∷ xs) ys (is, rest) more = (is, are_lines-append xs ys rest more)

-- the parts of lines with their line feeds
pub lines_of-text_of : (lines : List (List ℕ)) → AreLines lines → lines_of (text_of lines) ≡ lines ++ [] ∷ []
lines_of-text_of [] are = refl
lines_of-text_of (line ∷ lines) (is, rest) =
    ap lines_of (append_assoc line (10 ∷ []) (text_of lines))
    ∙ slice_split_at (λ b. b == 10) line 10 (text_of lines) is refl ∙ ap (λ (t : List (List ℕ)). line ∷ t) (lines_of-text_of lines rest)

-- the words of a call
pub small_word : (n : ℕ) → n ≤ 65536 → IsWord (decimal n)
small_word n small = decimal_word n (omega arith)

message_are : (r peer : ℕ) (verb : List ℕ) (head : MessageHead) (bytes : List ℕ) → r < 48 → peer < 48 → IsWord verb → IsHead head → IsBytes bytes → AreWords (message_words r verb peer head bytes)
message_are r peer verb head bytes below peer_below is valid are =
    let comm_below = valid.comm_below in
    (small_word r (omega arith), (is, (small_word peer (omega arith), (kind_is_word (kind_at head.kind), (small_word head.comm (omega arith), (small_word head.len valid.len_within, (hex_is_word bytes are, tt)))))))

pub call_are : (nue : ℕ) (comms : List CommRule) (r : ℕ) (call : DataCall) → nue ≤ 48 → r < nue → IsLogCall nue comms r call → AreWords (call_words r call)
call_are nue comms r (Send to head bytes) ranks below valid = message_are r to (codes "send") head bytes (omega arith) (omega (arith, valid.peer_below)) refl valid.valid valid.are_bytes
call_are nue comms r (Recv from head bytes) ranks below valid = message_are r from (codes "recv") head bytes (omega arith) (omega (arith, valid.peer_below)) refl valid.valid valid.are_bytes
call_are nue comms r (Post to head bytes) ranks below (valid, post) = message_are r to (codes "post") head bytes (omega arith) (omega (arith, valid.peer_below)) refl valid.valid valid.are_bytes
call_are nue comms r (Bar comm) ranks below (within, stands) = (small_word r (omega arith), (refl, (small_word comm (omega arith), tt)))

-- what the words of a message say
rank_told : (nue r : ℕ) → nue ≤ 48 → r < nue → log_rank_said nue (decimal r) ≡ Some r
rank_told nue r ranks below = range_said-decimal 0 (nue - 1) r (omega arith) (omega arith) (omega arith)

ends_told : (nue r peer : ℕ) → nue ≤ 48 → r < nue → peer < nue → peer ≢ r → ends_said nue (decimal r) (decimal peer) ≡ Some (record { rank = r; peer = peer })
ends_told nue r peer ranks below peer_below other =
    ap (λ (o : Option ℕ). o >>= λ x. log_rank_said nue (decimal peer) >>= end_ranks x) (rank_told nue r ranks below)
    ∙ ap (λ (o : Option ℕ). o >>= end_ranks r) (rank_told nue peer ranks peer_below)
    ∙ cond-true (not (r == peer)) (Some (record { rank = r; peer = peer })) None (ap not (ne_eqb r peer (λ is. other (sym is))))

kind_back : (n : ℕ) → n < 5 → kind_number (kind_at n) ≡ n
kind_back zero below = refl
kind_back (suc zero) below = refl
kind_back (suc (suc zero)) below = refl
kind_back (suc (suc (suc zero))) below = refl
kind_back (suc (suc (suc (suc zero)))) below = refl
kind_back (suc (suc (suc (suc (suc n))))) below = absurd (omega arith)

in_world : (a b : ℕ) → (a ≡ 0 → b ≡ 0) → not (a == 0 && not (b == 0)) ≡ true
in_world a b world = by_cases (cases_eq a 0)
  where
    by_cases : (a ≡ 0) ⊎ (a ≡ 0 → ⊥) → not (a == 0 && not (b == 0)) ≡ true
    by_cases (inl plain) = let in_it : b ≡ 0 = world plain in grind (arith, nat_tests)
    by_cases (inr other) = grind (arith, nat_tests)

head_told : (head : MessageHead) → IsHead head → log_head_said (kind_text (kind_at head.kind)) (decimal head.comm) (decimal head.len) ≡ Some head
head_told head valid =
    let comm_below = valid.comm_below in
    let len_within = valid.len_within in
    ap (λ (o : Option Kind). o >>= λ k. exact_range_said 0 15 (decimal head.comm) >>= λ c. exact_range_said 0 65536 (decimal head.len) >>= log_head_of k c) (kind_said-kind_text (kind_at head.kind))
    ∙ ap (λ (o : Option ℕ). o >>= λ c. exact_range_said 0 65536 (decimal head.len) >>= log_head_of (kind_at head.kind) c) (range_said-decimal 0 15 head.comm (omega arith) (omega arith) (omega arith))
    ∙ ap (λ (o : Option ℕ). o >>= log_head_of (kind_at head.kind) head.comm) (range_said-decimal 0 65536 head.len (omega arith) len_within (omega arith))
    ∙ ap (λ (n : ℕ). only_if (not (n == 0 && not (head.comm == 0))) (record { kind = n; comm = head.comm; len = head.len })) (kind_back head.kind valid.kind_below)
    ∙ cond-true (not (head.kind == 0 && not (head.comm == 0))) (Some head) None (in_world head.kind head.comm valid.plain_in_world)

bytes_told : (len : ℕ) (bytes : List ℕ) → IsBytes bytes → length bytes ≡ len → log_bytes_said len (hex_text bytes) ≡ Some bytes
bytes_told len bytes are counted =
    ap (λ (o : Option (List ℕ)). o >>= λ b. only_if (length b == len) b) (hex_said-hex_text bytes are)
    ∙ cond-true (length bytes == len) (Some bytes) None (eq-eqb (length bytes) len counted)

message_told : (nue : ℕ) (comms : List CommRule) (r peer : ℕ) (verb : List ℕ) (head : MessageHead) (bytes : List ℕ) (call : DataCall) → nue ≤ 48 → r < nue → IsMessage nue r peer head bytes
    → call_named verb peer head bytes ≡ Some call → call_said nue comms (message_words r verb peer head bytes) ≡ Some (record { rank = r; call = call })
message_told nue comms r peer verb head bytes call ranks below valid named =
    ap (λ (o : Option EndRanks). o >>= λ e. log_head_said (kind_text (kind_at head.kind)) (decimal head.comm) (decimal head.len) >>= λ h. message_said e h verb (hex_text bytes)) (ends_told nue r peer ranks below valid.peer_below valid.other)
    ∙ ap (λ (o : Option MessageHead). o >>= λ h. message_said (record { rank = r; peer = peer }) h verb (hex_text bytes)) (head_told head valid.valid)
    ∙ ap (λ (o : Option (List ℕ)). o >>= λ b. call_named verb peer head b >>= λ c. Some (record { rank = r; call = c })) (bytes_told head.len bytes valid.are_bytes valid.counted)
    ∙ ap (λ (o : Option DataCall). o >>= λ c. Some (record { rank = r; call = c })) named

post_is : (head : MessageHead) → IsPostHead head → is_post head ≡ true
post_is head valid = and_from (head.kind == 0) (head.comm == 0 && nat_le head.len 3584) (eq-eqb head.kind 0 valid.plain) (and_from (head.comm == 0) (nat_le head.len 3584) (eq-eqb head.comm 0 valid.in_world) (le-leb head.len 3584 valid.len_within))

pub present_is : (rule : CommRule) → rule ≢ Absent → is_present_rule rule ≡ true
present_is Absent stands = absurd (stands refl)
present_is World stands = refl
present_is (Mod parent k) stands = refl
present_is (Div parent k) stands = refl

call_told : (nue : ℕ) (comms : List CommRule) (r : ℕ) (call : DataCall) → nue ≤ 48 → r < nue → IsLogCall nue comms r call → call_said nue comms (call_words r call) ≡ Some (record { rank = r; call = call })
call_told nue comms r (Send to head bytes) ranks below valid = message_told nue comms r to (codes "send") head bytes (Send to head bytes) ranks below valid refl
call_told nue comms r (Recv from head bytes) ranks below valid = message_told nue comms r from (codes "recv") head bytes (Recv from head bytes) ranks below valid refl
call_told nue comms r (Post to head bytes) ranks below (valid, post) =
    message_told nue comms r to (codes "post") head bytes (Post to head bytes) ranks below valid (cond-true (is_post head) (Some (Post to head bytes)) None (post_is head post))
call_told nue comms r (Bar comm) ranks below (within, stands) =
    ap (λ (o : Option ℕ). o >>= λ x. exact_range_said 0 15 (decimal comm) >>= λ c. only_if (bytes_eq (codes "bar") (codes "bar") && is_present_rule (rule_of comms c)) (record { rank = x; call = Bar c })) (rank_told nue r ranks below)
    ∙ ap (λ (o : Option ℕ). o >>= λ c. only_if (bytes_eq (codes "bar") (codes "bar") && is_present_rule (rule_of comms c)) (record { rank = r; call = Bar c })) (range_said-decimal 0 15 comm (omega arith) (omega arith) (omega arith))
    ∙ cond-true (is_present_rule (rule_of comms comm)) (Some (record { rank = r; call = Bar comm })) None (present_is (rule_of comms comm) stands)

-- a call's line does not begin as one of a communicator
abbrev pub BeginsLow : List ℕ → Type 0
BeginsLow text = (b : ℕ) × (rest : List ℕ) × (text ≡ b ∷ rest) × (b ≤ 57)

pub decimal_low : (n : ℕ) → n < 2 ^ 64 → BeginsLow (decimal n)
decimal_low n small = decimal_by_steps (λ m ds. BeginsLow ds) (λ m low. (48 + m, [], refl, omega arith)) (λ m ds high begins. (begins.0, begins.1 ++ (48 + m % 10) ∷ [], ap (λ (t : List ℕ). t ++ (48 + m % 10) ∷ []) begins.2, begins.3)) n small

not_comm : (text : List ℕ) → BeginsLow text → begins_comm text ≡ false
not_comm text (b, rest, is, low) =
    ap begins_comm is ∙ cond_false_at (b == 99) _ (ne_eqb b 99 (λ at. omega (arith, low, at)))
  where
    cond_false_at : (t r : Bool) → t ≡ false → (t && r) ≡ false
    cond_false_at true r never = absurd cc
    cond_false_at false r never = refl

line_low : (w v : List ℕ) (ws : List (List ℕ)) → BeginsLow w → BeginsLow (line_of (w ∷ v ∷ ws))
line_low w v ws (b, rest, is, low) = (b, rest ++ (32 ∷ line_of (v ∷ ws)), ap (λ (t : List ℕ). t ++ (32 ∷ line_of (v ∷ ws))) is, low)

call_low : (r : ℕ) (call : DataCall) → r < 48 → BeginsLow (line_of (call_words r call))
call_low r (Send to head bytes) below = line_low (decimal r) (codes "send") (decimal to ∷ kind_text (kind_at head.kind) ∷ decimal head.comm ∷ decimal head.len ∷ hex_text bytes ∷ []) (decimal_low r (omega arith))
call_low r (Recv from head bytes) below = line_low (decimal r) (codes "recv") (decimal from ∷ kind_text (kind_at head.kind) ∷ decimal head.comm ∷ decimal head.len ∷ hex_text bytes ∷ []) (decimal_low r (omega arith))
call_low r (Post to head bytes) below = line_low (decimal r) (codes "post") (decimal to ∷ kind_text (kind_at head.kind) ∷ decimal head.comm ∷ decimal head.len ∷ hex_text bytes ∷ []) (decimal_low r (omega arith))
call_low r (Bar comm) below = line_low (decimal r) (codes "bar") (decimal comm ∷ []) (decimal_low r (omega arith))

call_words_of : (r : ℕ) (call : DataCall) → AreWords (call_words r call) → log_words_of (line_of (call_words r call)) ≡ call_words r call
call_words_of r (Send to head bytes) are = words_of-line_of _ _ are
call_words_of r (Recv from head bytes) are = words_of-line_of _ _ are
call_words_of r (Post to head bytes) are = words_of-line_of _ _ are
call_words_of r (Bar comm) are = words_of-line_of _ _ are

-- the line of a call says the call
pub line_told : (r : Reading) (rank : ℕ) (call : DataCall) → r.log.nue ≤ 48 → rank < r.log.nue → IsLogCall r.log.nue r.log.comms rank call → is_in_order r.rank rank ≡ true
    → line_said r (line_of (call_words rank call)) ≡ Some (record r { log = record r.log { lists = with_call r.log.lists (record { rank = rank; call = call }) }; rank = Some rank })
line_told r rank call ranks below valid ordered =
    cond-false (begins_comm (line_of (call_words rank call))) _ _ (not_comm (line_of (call_words rank call)) (call_low rank call (omega arith)))
    ∙ ap (λ (words : List (List ℕ)). call_said r.log.nue r.log.comms words >>= add_call r) (call_words_of rank call (call_are r.log.nue r.log.comms rank call ranks below valid))
    ∙ ap (λ (o : Option RankedCall). o >>= add_call r) (call_told r.log.nue r.log.comms rank call ranks below valid)
    ∙ cond-true (is_in_order r.rank rank) _ _ ordered
