-- What a line says is what it is the text of.
use Rattle.std.proofs.Common.{◌≡◌, ◌≢◌, ℕ, ◌+◌, ◌-◌, ◌<◌, ◌≤◌, Bool, true, false, cond, ◌&&◌, not, List, [], ◌∷◌, length, Some, None, codes, decimal, ⊎_elim, refl, sym, ◌∙◌, ap, subst, arith}
use Rattle.std.specs.Prelude.{◌==◌, nat_le}
use Rattle.std.specs.Str.{bytes_eq}
use Rattle.std.proofs.lemmas.Bool.{and_parts, eqb-true, eqb-false, leb-true, not-true}
use Rattle.std.proofs.lemmas.Bool.Decides.{nat_tests}
use Rattle.std.proofs.lemmas.List.Splits.{join_with_byte-slice_split}
use Rattle.scc_proto.specs.Words.{is_present_rule}
use Rattle.hex.specs.Hex.{IsBytes}
use Rattle.scc_base.specs.Calls.{DataCall, Send, Recv, Post, Bar}
use Rattle.scc_base.specs.Communicators.{rule_of}
use Rattle.scc_base.specs.Heads.{MessageHead, IsHead, IsPostHead, kind_at, kind_number, kind_at-kind_number, kind_text}
use Rattle.scc_base.specs.declared.communicators.CommRule.{CommRule}
use Rattle.scc_base.specs.declared.communicators.CommRule.TheVariants.{Absent, World, Mod, Div}
use Rattle.scc_base.specs.declared.kinds.Kind.{Kind}
use Rattle.scc_base.specs.declared.kinds.Kind.TheVariants.{Plain, Bcast, Reduce, AllUp, AllDown}
use Rattle.rcce_audit.specs.declared.lines.CommSplit.{CommSplit}
use Rattle.rcce_audit.specs.declared.lines.EndRanks.{EndRanks}
use Rattle.rcce_audit.specs.Grammar.{RankedCall, log_rank_said, end_ranks, ends_said, log_head_of, log_head_said, log_bytes_said, is_post, call_named, message_said, log_barrier_said, long_said, short_said, call_said, rule_named, log_split_said, comm_said, nue_of}
use Rattle.rcce_audit.specs.Logs.{IsMessage, IsLogCall}
use Rattle.rcce_io.specs.Digits.{hex_text}
use Rattle.rcce_audit.specs.Texts.{head_words, split_words, message_words, call_words, line_of, rule_lines}
use Rattle.rcce_audit.specs.Words.{◌>>=◌, only_if, log_words_of, exact_range_said, kind_said, exact_hex_said}
use Rattle.rcce_audit.proofs.WordLemmas.{same_text, then_some, only_some, chosen, range_word, kind_word, hex_word}

-- the words of a line, with single blanks between, are the line
pub line_of-words_of : (line : List ℕ) → line_of (log_words_of line) ≡ line
line_of-words_of line = join_with_byte-slice_split 32 line

-- the two ranks of a message
pub record IsEndWords (nue : ℕ) (ends : EndRanks) (rank peer : List ℕ) : Type 0 where
  pub rank_text : decimal ends.rank ≡ rank
  pub peer_text : decimal ends.peer ≡ peer
  pub rank_below : ends.rank ≤ nue - 1
  pub peer_below : ends.peer ≤ nue - 1
  pub other : ends.peer ≢ ends.rank

ends_word : (nue : ℕ) (rank peer : List ℕ) (ends : EndRanks) → ends_said nue rank peer ≡ Some ends → IsEndWords nue ends rank peer
ends_word nue rank peer ends said =
    let (r, is_r, later) = then_some (log_rank_said nue rank) (λ r. log_rank_said nue peer >>= end_ranks r) ends said in
    let (p, is_p, gives) = then_some (log_rank_said nue peer) (end_ranks r) ends later in
    let (apart, value) = only_some (not (r == p)) (record { rank = r; peer = p }) ends gives in
    let of_rank = range_word 0 (nue - 1) rank r is_r in
    let of_peer = range_word 0 (nue - 1) peer p is_p in
    let same_r : r ≡ ends.rank = ap (λ (e : EndRanks). e.rank) value in
    let same_p : p ≡ ends.peer = ap (λ (e : EndRanks). e.peer) value in
    let differ : r ≡ p → ⊥ = eqb-false r p (not-true (r == p) apart) in
    record {
      rank_text = ap decimal (sym same_r) ∙ of_rank.text;
      peer_text = ap decimal (sym same_p) ∙ of_peer.text;
      rank_below = omega (arith, of_rank.most, same_r);
      peer_below = omega (arith, of_peer.most, same_p);
      other = λ is. differ (same_r ∙ sym is ∙ sym same_p);
    }

-- a head
pub record IsHeadWords (head : MessageHead) (kind comm len : List ℕ) : Type 0 where
  pub kind_word : kind_text (kind_at head.kind) ≡ kind
  pub comm_word : decimal head.comm ≡ comm
  pub len_word : decimal head.len ≡ len
  pub valid : IsHead head

kind_number_below : (k : Kind) → kind_number k < 5
kind_number_below Plain = omega arith
kind_number_below Bcast = omega arith
kind_number_below Reduce = omega arith
kind_number_below AllUp = omega arith
kind_number_below AllDown = omega arith

world_alone : (a b : ℕ) → not (a == 0 && not (b == 0)) ≡ true → a ≡ 0 → b ≡ 0
world_alone a b test is = grind (arith, nat_tests)

head_word : (kind comm len : List ℕ) (head : MessageHead) → log_head_said kind comm len ≡ Some head → IsHeadWords head kind comm len
head_word kind comm len head said =
    let (k, is_k, later) = then_some (kind_said kind) (λ k. exact_range_said 0 15 comm >>= λ c. exact_range_said 0 65536 len >>= log_head_of k c) head said in
    let (c, is_c, last) = then_some (exact_range_said 0 15 comm) (λ c. exact_range_said 0 65536 len >>= log_head_of k c) head later in
    let (n, is_n, gives) = then_some (exact_range_said 0 65536 len) (log_head_of k c) head last in
    let (test, value) = only_some (not (kind_number k == 0 && not (c == 0))) (record { kind = kind_number k; comm = c; len = n }) head gives in
    let of_comm = range_word 0 15 comm c is_c in
    let of_len = range_word 0 65536 len n is_n in
    let P : MessageHead → Type 0 = λ h. IsHeadWords h kind comm len in
    subst P value (record {
      kind_word = ap kind_text (kind_at-kind_number k) ∙ kind_word kind k is_k;
      comm_word = of_comm.text;
      len_word = of_len.text;
      valid = record {
        kind_below = kind_number_below k;
        comm_below = omega (arith, of_comm.most);
        len_within = of_len.most;
        plain_in_world = world_alone (kind_number k) c test;
      };
    })

-- the bytes
pub record IsBytesWord (len : ℕ) (bytes word : List ℕ) : Type 0 where
  pub text : hex_text bytes ≡ word
  pub are_bytes : IsBytes bytes
  pub counted : length bytes ≡ len

bytes_word : (len : ℕ) (word bytes : List ℕ) → log_bytes_said len word ≡ Some bytes → IsBytesWord len bytes word
bytes_word len word bytes said =
    let (read, is, gives) = then_some (exact_hex_said word) (λ b. only_if (length b == len) b) bytes said in
    let (test, value) = only_some (length read == len) read bytes gives in
    let of_hex = hex_word word read is in
    let P : List ℕ → Type 0 = λ b. IsBytesWord len b word in
    subst P value (record { text = of_hex.text; are_bytes = of_hex.are_bytes; counted = eqb-true (length read) len test })

-- a message's call: its words, and that a log may have it
post_head : (head : MessageHead) → is_post head ≡ true → IsPostHead head
post_head head test =
    let parts = and_parts (head.kind == 0) (head.comm == 0 && nat_le head.len 3584) test in
    let rest = and_parts (head.comm == 0) (nat_le head.len 3584) parts.1 in
    record { plain = eqb-true head.kind 0 parts.0; in_world = eqb-true head.comm 0 rest.0; len_within = leb-true head.len 3584 rest.1 }

pub record IsCallWords (nue : ℕ) (comms : List CommRule) (r : ℕ) (call : DataCall) (words : List (List ℕ)) : Type 0 where
  pub text : call_words r call ≡ words
  pub valid : IsLogCall nue comms r call

named_word : (nue : ℕ) (comms : List CommRule) (r peer : ℕ) (verb : List ℕ) (head : MessageHead) (bytes : List ℕ) (call : DataCall) → IsMessage nue r peer head bytes
    → call_named verb peer head bytes ≡ Some call → IsCallWords nue comms r call (message_words r verb peer head bytes)
named_word nue comms r peer verb head bytes call valid said =
    ⊎_elim send (λ r1. ⊎_elim recv (λ r2. post (bytes_eq verb (codes "post")) refl r2)
    (chosen (bytes_eq verb (codes "recv")) (Recv peer head bytes) call _ r1))
    (chosen (bytes_eq verb (codes "send")) (Send peer head bytes) call _ said)
  where
    P : DataCall → Type 0
    P c = IsCallWords nue comms r c (message_words r verb peer head bytes)

    verb_word : (other : List ℕ) → bytes_eq verb other ≡ true → message_words r other peer head bytes ≡ message_words r verb peer head bytes
    verb_word other same = ap (λ (v : List ℕ). message_words r v peer head bytes) (sym (same_text verb other same))

    send : (bytes_eq verb (codes "send") ≡ true) × (Send peer head bytes ≡ call) → P call
    send (same, is) = subst P is (record { text = verb_word (codes "send") same; valid = valid })

    recv : (bytes_eq verb (codes "recv") ≡ true) × (Recv peer head bytes ≡ call) → P call
    recv (same, is) = subst P is (record { text = verb_word (codes "recv") same; valid = valid })

    post : (t : Bool) → bytes_eq verb (codes "post") ≡ t → cond t (only_if (is_post head) (Post peer head bytes)) None ≡ Some call → P call
    post true same rest =
        let (test, is) = only_some (is_post head) (Post peer head bytes) call rest in
        subst P is (record { text = verb_word (codes "post") same; valid = (valid, post_head head test) })
    post false same rest = absurd cc

-- what a line says as a call
pub record IsRankedWords (nue : ℕ) (comms : List CommRule) (ranked : RankedCall) (words : List (List ℕ)) : Type 0 where
  pub rank_below : ranked.rank < nue
  pub text : call_words ranked.rank ranked.call ≡ words
  pub valid : IsLogCall nue comms ranked.rank ranked.call

message_line : (nue : ℕ) (comms : List CommRule) (rank verb peer kind comm len hex : List ℕ) (ranked : RankedCall) → 1 ≤ nue
    → (ends_said nue rank peer >>= λ ends. log_head_said kind comm len >>= λ head. message_said ends head verb hex) ≡ Some ranked
    → IsRankedWords nue comms ranked (rank ∷ verb ∷ peer ∷ kind ∷ comm ∷ len ∷ hex ∷ [])
message_line nue comms rank verb peer kind comm len hex ranked some said =
    let (ends, is_ends, later) = then_some (ends_said nue rank peer) (λ e. log_head_said kind comm len >>= λ h. message_said e h verb hex) ranked said in
    let (head, is_head, last) = then_some (log_head_said kind comm len) (λ h. message_said ends h verb hex) ranked later in
    let (bytes, is_bytes, then_call) = then_some (log_bytes_said head.len hex) (λ b. call_named verb ends.peer head b >>= λ c. Some (record { rank = ends.rank; call = c })) ranked last in
    let (call, is_call, value) = then_some (call_named verb ends.peer head bytes) (λ c. Some (record { rank = ends.rank; call = c })) ranked then_call in
    let of_ends = ends_word nue rank peer ends is_ends in
    let of_head = head_word kind comm len head is_head in
    let of_bytes = bytes_word head.len hex bytes is_bytes in
    let rank_below : ends.rank < nue = omega (arith, of_ends.rank_below) in
    let peer_below : ends.peer < nue = omega (arith, of_ends.peer_below) in
    let message : IsMessage nue ends.rank ends.peer head bytes = record { peer_below = peer_below; other = of_ends.other; valid = of_head.valid; counted = of_bytes.counted; are_bytes = of_bytes.are_bytes } in
    let of_call = named_word nue comms ends.rank ends.peer verb head bytes call message is_call in
    let rank_text = of_ends.rank_text in
    let peer_text = of_ends.peer_text in
    let kind_same = of_head.kind_word in
    let comm_text = of_head.comm_word in
    let len_text = of_head.len_word in
    let hex_same = of_bytes.text in
    let words : message_words ends.rank verb ends.peer head bytes ≡ rank ∷ verb ∷ peer ∷ kind ∷ comm ∷ len ∷ hex ∷ [] = cc in
    let P : RankedCall → Type 0 = λ x. IsRankedWords nue comms x (rank ∷ verb ∷ peer ∷ kind ∷ comm ∷ len ∷ hex ∷ []) in
    let is : record { rank = ends.rank; call = call } ≡ ranked = cc in
    subst P is (record { rank_below = rank_below; text = of_call.text ∙ words; valid = of_call.valid })

present : (rule : CommRule) → is_present_rule rule ≡ true → rule ≢ Absent
present Absent test is = absurd cc
present World test is = absurd cc
present (Mod parent k) test is = absurd cc
present (Div parent k) test is = absurd cc

barrier_line : (nue : ℕ) (comms : List CommRule) (rank verb comm : List ℕ) (ranked : RankedCall) → 1 ≤ nue → log_barrier_said nue comms rank verb comm ≡ Some ranked
    → IsRankedWords nue comms ranked (rank ∷ verb ∷ comm ∷ [])
barrier_line nue comms rank verb comm ranked some said =
    let (r, is_r, later) = then_some (log_rank_said nue rank) (λ r. exact_range_said 0 15 comm >>= λ c. only_if (bytes_eq verb (codes "bar") && is_present_rule (rule_of comms c)) (record { rank = r; call = Bar c })) ranked said in
    let (c, is_c, gives) = then_some (exact_range_said 0 15 comm) (λ c. only_if (bytes_eq verb (codes "bar") && is_present_rule (rule_of comms c)) (record { rank = r; call = Bar c })) ranked later in
    let (test, value) = only_some (bytes_eq verb (codes "bar") && is_present_rule (rule_of comms c)) (record { rank = r; call = Bar c }) ranked gives in
    let parts = and_parts (bytes_eq verb (codes "bar")) (is_present_rule (rule_of comms c)) test in
    let of_rank = range_word 0 (nue - 1) rank r is_r in
    let of_comm = range_word 0 15 comm c is_c in
    let rank_text = of_rank.text in
    let comm_text = of_comm.text in
    let verb_text = same_text verb (codes "bar") parts.0 in
    let words : decimal r ∷ codes "bar" ∷ decimal c ∷ [] ≡ rank ∷ verb ∷ comm ∷ [] = cc in
    let P : RankedCall → Type 0 = λ x. IsRankedWords nue comms x (rank ∷ verb ∷ comm ∷ []) in
    subst P value (record { rank_below = omega (arith, of_rank.most); text = words; valid = (omega (arith, of_comm.most), present (rule_of comms c) parts.1) })

long_line : (nue : ℕ) (comms : List CommRule) (words : List (List ℕ)) (ranked : RankedCall) → 1 ≤ nue → long_said nue words ≡ Some ranked → IsRankedWords nue comms ranked words
long_line nue comms (rank ∷ verb ∷ peer ∷ kind ∷ comm ∷ len ∷ hex ∷ []) ranked some said = message_line nue comms rank verb peer kind comm len hex ranked some said
long_line nue comms [] ranked some said = absurd cc
long_line nue comms (a ∷ []) ranked some said = absurd cc
long_line nue comms (a ∷ b ∷ []) ranked some said = absurd cc
long_line nue comms (a ∷ b ∷ c ∷ []) ranked some said = absurd cc
long_line nue comms (a ∷ b ∷ c ∷ d ∷ []) ranked some said = absurd cc
long_line nue comms (a ∷ b ∷ c ∷ d ∷ e ∷ []) ranked some said = absurd cc
long_line nue comms (a ∷ b ∷ c ∷ d ∷ e ∷ f ∷ []) ranked some said = absurd cc
long_line nue comms (a ∷ b ∷ c ∷ d ∷ e ∷ f ∷ g ∷ h ∷ rest) ranked some said = absurd cc

short_line : (nue : ℕ) (comms : List CommRule) (words : List (List ℕ)) (ranked : RankedCall) → 1 ≤ nue → short_said nue comms words ≡ Some ranked → IsRankedWords nue comms ranked words
short_line nue comms (rank ∷ verb ∷ comm ∷ []) ranked some said = barrier_line nue comms rank verb comm ranked some said
short_line nue comms [] ranked some said = absurd cc
short_line nue comms (a ∷ []) ranked some said = absurd cc
short_line nue comms (a ∷ b ∷ []) ranked some said = absurd cc
short_line nue comms (a ∷ b ∷ c ∷ d ∷ rest) ranked some said = absurd cc

pub call_line : (nue : ℕ) (comms : List CommRule) (words : List (List ℕ)) (ranked : RankedCall) → 1 ≤ nue → call_said nue comms words ≡ Some ranked → IsRankedWords nue comms ranked words
call_line nue comms words ranked some said = by_length (length words == 7) said
  where
    by_length : (t : Bool) → cond t (long_said nue words) (short_said nue comms words) ≡ Some ranked → IsRankedWords nue comms ranked words
    by_length true is = long_line nue comms words ranked some is
    by_length false is = short_line nue comms words ranked some is

-- what a line says as a communicator
pub data IsSplitRule (comms : List CommRule) : CommRule → Type 0 where
  ByMod : (parent k : ℕ) → is_present_rule (rule_of comms parent) ≡ true → 1 ≤ k → k ≤ 48 → IsSplitRule comms (Mod parent k)
  ByDiv : (parent k : ℕ) → is_present_rule (rule_of comms parent) ≡ true → 1 ≤ k → k ≤ 48 → IsSplitRule comms (Div parent k)

pub record IsSplitWords (last : ℕ) (comms : List CommRule) (split : CommSplit) (words : List (List ℕ)) : Type 0 where
  pub above : last < split.comm
  pub below : split.comm < 16
  pub rule : IsSplitRule comms split.rule
  pub text : rule_lines split.comm split.rule ≡ line_of words ∷ []

rule_line : (last : ℕ) (comms : List CommRule) (c p k : ℕ) (word comm parent how parts : List ℕ) (rule : CommRule) → last < c → c < 16 → is_present_rule (rule_of comms p) ≡ true → 1 ≤ k → k ≤ 48
    → codes "comm" ≡ word → decimal c ≡ comm → decimal p ≡ parent → decimal k ≡ parts → rule_named how p k ≡ Some rule
    → IsSplitWords last comms (record { comm = c; rule = rule }) (word ∷ comm ∷ parent ∷ how ∷ parts ∷ [])
rule_line last comms c p k word comm parent how parts rule above below stands some most is_word is_comm is_parent is_parts named =
    ⊎_elim by_mod (λ r. by_div (bytes_eq how (codes "div")) refl r) (chosen (bytes_eq how (codes "mod")) (Mod p k) rule _ named)
  where
    P : CommRule → Type 0
    P x = IsSplitWords last comms (record { comm = c; rule = x }) (word ∷ comm ∷ parent ∷ how ∷ parts ∷ [])

    words : (named_how : List ℕ) → bytes_eq how named_how ≡ true → split_words c p named_how k ≡ word ∷ comm ∷ parent ∷ how ∷ parts ∷ []
    words named_how same = let is_how : how ≡ named_how = same_text how named_how same in cc

    by_mod : (bytes_eq how (codes "mod") ≡ true) × (Mod p k ≡ rule) → P rule
    by_mod (same, is) = subst P is (record { above = above; below = below; rule = ByMod p k stands some most; text = ap (λ (w : List (List ℕ)). line_of w ∷ []) (words (codes "mod") same) })

    by_div : (t : Bool) → bytes_eq how (codes "div") ≡ t → cond t (Some (Div p k)) None ≡ Some rule → P rule
    by_div true same is =
        let value : Div p k ≡ rule = cc in
        subst P value (record { above = above; below = below; rule = ByDiv p k stands some most; text = ap (λ (w : List (List ℕ)). line_of w ∷ []) (words (codes "div") same) })
    by_div false same is = absurd cc

split_line : (last : ℕ) (comms : List CommRule) (word comm parent how k : List ℕ) (split : CommSplit) → log_split_said last comms word comm parent how k ≡ Some split
    → IsSplitWords last comms split (word ∷ comm ∷ parent ∷ how ∷ k ∷ [])
split_line last comms word comm parent how k split said =
    let (c, is_c, s1) = then_some (exact_range_said (last + 1) 15 comm) _ split said in
    let (p, is_p, s2) = then_some (exact_range_said 0 15 parent) _ split s1 in
    let (n, is_n, s3) = then_some (exact_range_said 1 48 k) _ split s2 in
    let (rule, is_rule, gives) = then_some (rule_named how p n) _ split s3 in
    let (test, value) = only_some (bytes_eq word (codes "comm") && is_present_rule (rule_of comms p)) (record { comm = c; rule = rule }) split gives in
    let parts = and_parts (bytes_eq word (codes "comm")) (is_present_rule (rule_of comms p)) test in
    let of_comm = range_word (last + 1) 15 comm c is_c in
    let of_parent = range_word 0 15 parent p is_p in
    let of_parts = range_word 1 48 k n is_n in
    let P : CommSplit → Type 0 = λ x. IsSplitWords last comms x (word ∷ comm ∷ parent ∷ how ∷ k ∷ []) in
    subst P value
    (rule_line last comms c p n word comm parent how k rule (omega (arith, of_comm.least)) (omega (arith, of_comm.most)) parts.1 of_parts.least of_parts.most (sym (same_text word (codes "comm") parts.0)) of_comm.text of_parent.text of_parts.text is_rule)

pub comm_line : (last : ℕ) (comms : List CommRule) (words : List (List ℕ)) (split : CommSplit) → comm_said last comms words ≡ Some split → IsSplitWords last comms split words
comm_line last comms (word ∷ comm ∷ parent ∷ how ∷ k ∷ []) split said = split_line last comms word comm parent how k split said
comm_line last comms [] split said = absurd cc
comm_line last comms (a ∷ []) split said = absurd cc
comm_line last comms (a ∷ b ∷ []) split said = absurd cc
comm_line last comms (a ∷ b ∷ c ∷ []) split said = absurd cc
comm_line last comms (a ∷ b ∷ c ∷ d ∷ []) split said = absurd cc
comm_line last comms (a ∷ b ∷ c ∷ d ∷ e ∷ f ∷ rest) split said = absurd cc

-- and what the first line says
pub head_line : (words : List (List ℕ)) (nue : ℕ) → nue_of words ≡ Some nue → (head_words nue ≡ words) × (1 ≤ nue) × (nue ≤ 48)
head_line (first ∷ second ∷ word ∷ []) nue said =
    let (n, is_n, gives) = then_some (exact_range_said 1 48 word) (λ n. only_if (bytes_eq first (codes "rcce") && bytes_eq second (codes "log")) n) nue said in
    let (test, value) = only_some (bytes_eq first (codes "rcce") && bytes_eq second (codes "log")) n nue gives in
    let parts = and_parts (bytes_eq first (codes "rcce")) (bytes_eq second (codes "log")) test in
    let of_nue = range_word 1 48 word n is_n in
    let text = of_nue.text in
    let is_first : first ≡ codes "rcce" = same_text first (codes "rcce") parts.0 in
    let is_second : second ≡ codes "log" = same_text second (codes "log") parts.1 in
    (cc, omega (arith, of_nue.least, value), omega (arith, of_nue.most, value))
head_line [] nue said = absurd cc
head_line (a ∷ []) nue said = absurd cc
head_line (a ∷ b ∷ []) nue said = absurd cc
head_line (a ∷ b ∷ c ∷ d ∷ rest) nue said = absurd cc
