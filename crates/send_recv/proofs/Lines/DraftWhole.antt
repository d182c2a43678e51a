-- A chunk of which all lines are drafted: its words are whole and padded, and their bytes are the message's.
use Rattle.std.proofs.Common.{◌≡◌, ℕ, zero, suc, ◌+◌, ◌-◌, ◌*◌, ◌/◌, ◌%◌, ◌^◌, ◌<◌, ◌≤◌, min, Bool, true, false, ◌==◌, ◌&&◌, if◌then◌else◌, List, [], Option, is_some, unwrap_or, length, take, refl, sym, ◌∙◌, ap, arith, slice_index}
use Rattle.std.proofs.lemmas.List.{get_or_past}
use Rattle.scc_base.specs.Heads.{MessageHead, IsHead, IsPostHead}
use Rattle.scc_base.specs.Layouts.{chunk_size, chunk_lines}
use Rattle.scc_base.specs.declared.layouts.Layout.{Layout}
use Rattle.scc_proto.specs.Messages.{Notes, noted_word, has_all, byte_at, is_zero_from, head_of, is_head, is_post_head, fresh_message}
use Rattle.scc_proto.specs.Moves.{is_posted}
use Rattle.scc_proto.specs.Permission.{is_post_word, is_whole_header, is_drafted}
use Rattle.scc_proto.proofs.Tests.{same_or_other}
use Rattle.scc_proto.proofs.Words.NoteFacts.{has_all-from}
use Rattle.scc_proto.proofs.Layouts.Roles.{if_yes, if_no, lt_yes, le_yes}
use Rattle.send_recv.specs.declared.stages.RecvStage.TheVariants as receive
use Rattle.send_recv.specs.Bytes.{word_of_bytes}
use Rattle.send_recv.specs.Chunks.{chunk_count, chunk_start, chunk_len}
use Rattle.send_recv.specs.Ops.{RecvAt, SendAt}
use Rattle.send_recv.specs.Receiving.{IsRead, progress_at}
use Rattle.send_recv.specs.Sending.{HasHeader, HasLines, lines_in_hand}
use Rattle.send_recv.proofs.Receiving.RaiseTurn.{started}

-- each byte is one
abbrev pub AreBytes : List ℕ → Type 0
AreBytes bytes = (k : ℕ) → slice_index bytes k < 256

-- ---- the bytes of a word

pub digit : (bytes : List ℕ) (o j : ℕ) → AreBytes bytes → j < 8 → word_of_bytes bytes o / 256 ^ j % 256 ≡ slice_index bytes (o + j)
digit bytes o j small low =
    let b0 = small o in
    let b1 = small (o + 1) in
    let b2 = small (o + 2) in
    let b3 = small (o + 3) in
    let b4 = small (o + 4) in
    let b5 = small (o + 4 + 1) in
    let b6 = small (o + 4 + 2) in
    let b7 = small (o + 4 + 3) in
    by j low b0 b1 b2 b3 b4 b5 b6 b7
  where
    by : (n : ℕ) → n < 8 → slice_index bytes o < 256 → slice_index bytes (o + 1) < 256 → slice_index bytes (o + 2) < 256 → slice_index bytes (o + 3) < 256
        → slice_index bytes (o + 4) < 256 → slice_index bytes (o + 4 + 1) < 256 → slice_index bytes (o + 4 + 2) < 256 → slice_index bytes (o + 4 + 3) < 256
        → word_of_bytes bytes o / 256 ^ n % 256 ≡ slice_index bytes (o + n)
    by zero l b0 b1 b2 b3 b4 b5 b6 b7 = (let e : word_of_bytes bytes o / 256 ^ 0 % 256 ≡ slice_index bytes o = omega (arith, b0, b1, b2, b3, b4, b5, b6, b7) in e) ∙ ap (λ k. slice_index bytes k) (let e : o ≡ o + 0 = omega arith in e)
    by (suc zero) l b0 b1 b2 b3 b4 b5 b6 b7 = (let e : word_of_bytes bytes o / 256 ^ 1 % 256 ≡ slice_index bytes (o + 1) = omega (arith, b0, b1, b2, b3, b4, b5, b6, b7) in e)
    by (suc (suc zero)) l b0 b1 b2 b3 b4 b5 b6 b7 = (let e : word_of_bytes bytes o / 256 ^ 2 % 256 ≡ slice_index bytes (o + 2) = omega (arith, b0, b1, b2, b3, b4, b5, b6, b7) in e)
    by (suc (suc (suc zero))) l b0 b1 b2 b3 b4 b5 b6 b7 = (let e : word_of_bytes bytes o / 256 ^ 3 % 256 ≡ slice_index bytes (o + 3) = omega (arith, b0, b1, b2, b3, b4, b5, b6, b7) in e)
    by (suc (suc (suc (suc zero)))) l b0 b1 b2 b3 b4 b5 b6 b7 = (let e : word_of_bytes bytes o / 256 ^ 4 % 256 ≡ slice_index bytes (o + 4) = omega (arith, b0, b1, b2, b3, b4, b5, b6, b7) in e)
    by (suc (suc (suc (suc (suc zero))))) l b0 b1 b2 b3 b4 b5 b6 b7 = (let e : word_of_bytes bytes o / 256 ^ 5 % 256 ≡ slice_index bytes (o + 4 + 1) = omega (arith, b0, b1, b2, b3, b4, b5, b6, b7) in e) ∙ ap (λ k. slice_index bytes k) (let e : o + 4 + 1 ≡ o + 5 = omega arith in e)
    by (suc (suc (suc (suc (suc (suc zero)))))) l b0 b1 b2 b3 b4 b5 b6 b7 = (let e : word_of_bytes bytes o / 256 ^ 6 % 256 ≡ slice_index bytes (o + 4 + 2) = omega (arith, b0, b1, b2, b3, b4, b5, b6, b7) in e) ∙ ap (λ k. slice_index bytes k) (let e : o + 4 + 2 ≡ o + 6 = omega arith in e)
    by (suc (suc (suc (suc (suc (suc (suc zero))))))) l b0 b1 b2 b3 b4 b5 b6 b7 = (let e : word_of_bytes bytes o / 256 ^ 7 % 256 ≡ slice_index bytes (o + 4 + 3) = omega (arith, b0, b1, b2, b3, b4, b5, b6, b7) in e) ∙ ap (λ k. slice_index bytes k) (let e : o + 4 + 3 ≡ o + 7 = omega arith in e)
    by (suc (suc (suc (suc (suc (suc (suc (suc n)))))))) l b0 b1 b2 b3 b4 b5 b6 b7 = absurd (omega (arith, l))

-- ---- the words of a chunk

-- the byte of a drafted word is the message's
pub byte_is : (size : ℕ) (chunk : Notes) (op : SendAt) (bytes : List ℕ) (n b : ℕ) → AreBytes bytes → HasLines size chunk op bytes n → b < 32 * n → byte_at chunk b ≡ slice_index bytes (chunk_start size op.chunk + b)
byte_is size chunk op bytes n b small lines low =
    let start = chunk_start size op.chunk in
    ap (λ (o : Option ℕ). unwrap_or o 0 / 256 ^ (b % 8) % 256) (lines (b / 8) (omega (arith, low)))
    ∙ digit bytes (start + 8 * (b / 8)) (b % 8) small (omega arith)
    ∙ ap (λ k. slice_index bytes k) (let e : start + 8 * (b / 8) + b % 8 ≡ start + b = omega arith in e)

zero_from : (notes : Notes) (start n : ℕ) → ((b : ℕ) → start ≤ b → b < start + n → byte_at notes b ≡ 0) → is_zero_from notes start n ≡ true
unfolding is_zero_from
zero_from notes start zero all = refl
zero_from notes start (suc n) all =
    let here : (byte_at notes start == 0) ≡ true = ap (λ x. x == 0) (all start (omega arith) (omega arith)) in
    let rest = zero_from notes (suc start) n (λ b low high. all b (omega (arith, low)) (omega (arith, high))) in
    λ i. here i && rest i

-- past the chunk's bytes its lines are past the message
past_end : (w start len b : ℕ) → start ≤ len → min (32 * w) (len - start) ≤ b → b < 32 * ((min (32 * w) (len - start) + 31) / 32) → len ≤ start + b
past_end w start len b fits high low = omega (arith, fits, high, low)

pub drafted_is : (layout : Layout) (chunk : Notes) (op : SendAt) (bytes : List ℕ) → AreBytes bytes → length bytes ≡ op.head.len → op.chunk < chunk_count (chunk_size layout) op.head.len
    → HasLines (chunk_size layout) chunk op bytes (lines_in_hand (chunk_size layout) op) → is_drafted (chunk_size layout) (progress_at (chunk_size layout) op.head op.chunk bytes) chunk ≡ true
drafted_is layout chunk op bytes small long below lines =
    let size = chunk_size layout in
    let n = lines_in_hand size op in
    let len = chunk_len size op.head.len op.chunk in
    let fits = started layout op.head.len op.chunk below in
    let whole : has_all chunk (4 * n) ≡ true = has_all-from chunk (4 * n) (λ k low. ap (λ (o : Option ℕ). is_some o) (lines k low)) in
    let padded : is_zero_from chunk len (8 * (4 * n) - len) ≡ true = zero_from chunk len (8 * (4 * n) - len) (λ b low high.
    let inside : b < 32 * n = omega (arith, low, high) in
    let end : op.head.len ≤ chunk_start size op.chunk + b = past_end (chunk_lines layout) (chunk_start size op.chunk) op.head.len b fits low inside in
    byte_is size chunk op bytes n b small lines inside ∙ get_or_past bytes (chunk_start size op.chunk + b) 0 (omega (arith, end, long))) in
    λ i. whole i && padded i

-- the same chunk as one that a receive has read
abbrev pub as_receive : SendAt → RecvAt
as_receive op = record { from = op.to; head = op.head; chunk = op.chunk; stage = receive.Look }

pub drafted_read : (size : ℕ) (chunk : Notes) (op : SendAt) (bytes : List ℕ) → AreBytes bytes → HasLines size chunk op bytes (lines_in_hand size op) → IsRead size (as_receive op) bytes chunk (lines_in_hand size op)
drafted_read size chunk op bytes small lines =
    let n = lines_in_hand size op in
    record {
      loaded = has_all-from chunk (4 * n) (λ k low. ap (λ (o : Option ℕ). is_some o) (lines k low));
      bytes_stand = λ b low. sym (byte_is size chunk op bytes n b small lines (omega (arith, low)));
    }

-- ---- the header

pub head_drafted : (header : Notes) (op : SendAt) → HasHeader header op → head_of header ≡ op.head
head_drafted header op has = λ i. record {
  kind = unwrap_or (has 0 (omega arith) i) 0;
  comm = unwrap_or (has 1 (omega arith) i) 0;
  len = unwrap_or (has 2 (omega arith) i) 0;
}

pub head_passes : (head : MessageHead) → IsHead head → is_head head ≡ true
head_passes head h =
    let plain : (if head.kind == 0 then head.comm == 0 else true) ≡ true = same_or_other ((if head.kind == 0 then head.comm == 0 else true) ≡ true) head.kind 0
    (λ t e. if_yes (head.kind == 0) (head.comm == 0) true t ∙ ap (λ n. n == 0) (h.plain_in_world e))
    (λ t ne. if_no (head.kind == 0) (head.comm == 0) true t) in
    λ i. lt_yes head.kind 5 h.kind_below i && (lt_yes head.comm 16 h.comm_below i && (le_yes head.len 65536 h.len_within i && plain i))

pub post_head_passes : (head : MessageHead) → IsPostHead head → is_post_head head ≡ true
post_head_passes head h = λ i. (h.plain i == 0) && ((h.in_world i == 0) && le_yes head.len 3584 h.len_within i)

posted_one : (posted : Bool) → ((if posted then 1 else 0) == 1) ≡ posted
posted_one true = refl
posted_one false = refl

pub posted_is : (header : Notes) (op : SendAt) → HasHeader header op → is_posted header ≡ op.posted
posted_is header op has = ap (λ (o : Option ℕ). unwrap_or o 0 == 1) (has 3 (omega arith)) ∙ posted_one op.posted

post_word : (posted : Bool) (header : Notes) (op : SendAt) → op.posted ≡ posted → HasHeader header op → (op.posted ≡ true → IsPostHead op.head) → is_post_word header ≡ true
post_word true header op is has post =
    if_yes (is_posted header) (is_post_head (head_of header)) (unwrap_or (noted_word header 3) 0 == 0) (posted_is header op has ∙ is)
    ∙ ap (λ (h : MessageHead). is_post_head h) (head_drafted header op has) ∙ post_head_passes op.head (post is)
post_word false header op is has post =
    if_no (is_posted header) (is_post_head (head_of header)) (unwrap_or (noted_word header 3) 0 == 0) (posted_is header op has ∙ is)
    ∙ ap (λ (o : Option ℕ). unwrap_or o 0 == 0) (has 3 (omega arith)) ∙ ap (λ b. (if b then 1 else 0) == 0) is

some_word : (header : Notes) (op : SendAt) → HasHeader header op → (k : ℕ) → k < 4 → is_some (noted_word header k) ≡ true
some_word header op has k low = ap (λ (o : Option ℕ). is_some o) (has k low)

pub header_whole : (header : Notes) (op : SendAt) → IsHead op.head → (op.posted ≡ true → IsPostHead op.head) → HasHeader header op → is_whole_header header ≡ true
header_whole header op head post has =
    let all : has_all header 4 ≡ true = has_all-from header 4 (some_word header op has) in
    let valid : is_head (head_of header) ≡ true = ap (λ (h : MessageHead). is_head h) (head_drafted header op has) ∙ head_passes op.head head in
    let word = post_word op.posted header op refl has post in
    λ i. all i && (valid i && word i)

-- before the first chunk nothing is through
pub begun_is : (size : ℕ) (head : MessageHead) (chunk : ℕ) (bytes : List ℕ) → chunk ≡ 0 → fresh_message head ≡ progress_at size head chunk bytes
begun_is size head chunk bytes zero_is =
    let none : size * chunk ≡ 0 = ap (λ n. size * n) zero_is ∙ omega arith in
    let front : [] ≡ take (chunk_start size chunk) bytes = sym (ap (λ n. take n bytes) none) in
    λ i. record { head = head; chunks = sym zero_is i; bytes = front i }
