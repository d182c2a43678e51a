-- A comment is short, and has no line feed.
use Rattle.std.proofs.Common.{◌≡◌, ℕ, zero, suc, ◌+◌, ◌-◌, ◌*◌, ◌<◌, ◌≤◌, Bool, true, false, cond, ◌&&◌, ◌==◌, if◌then◌else◌, List, [], ◌∷◌, ◌++◌, length, length-append, codes, decimal, Option, Some, None, refl, arith}
use Rattle.std.specs.Prelude.{nat_le, nat_lt}
use Rattle.std.proofs.lemmas.Fmt.{length-decimal-le}
use Rattle.rcce_io.specs.Sending.{joined_texts}
use Rattle.scc_base.specs.Events.{IsAccess}
use Rattle.scc_base.specs.Layouts.{first_chunk, first_gather, first_release}
use Rattle.scc_base.specs.Places.{first_heap, IsPlace, WordAt}
use Rattle.scc_base.specs.Setups.{SetupView, host_of}
use Rattle.scc_base.specs.declared.events.Access.{Access}
use Rattle.scc_base.specs.declared.events.Access.TheVariants.{Load, Store, Take, Free}
use Rattle.scc_base.specs.declared.layouts.Layout.{Layout}
use Rattle.scc_base.specs.declared.layouts.Layout.TheVariants.{LineFlags, BitFlags}
use Rattle.scc_base.specs.declared.signals.Signal.{Signal}
use Rattle.scc_base.specs.declared.signals.Signal.TheVariants.{Sent, Ready}
use Rattle.scc_proto.specs.Words.{Role, HeaderWord, ChunkWord, SignalFlag, SignalFlags, GatherFlag, ReleaseFlag, HeapWord, IdleWord, are_peers, barrier_comm, barrier_role, flag_role, if_peers, if_present, is_present, rank_below, rank_on, role_at, role_of, role_where}
use Rattle.trace_writer.specs.Lines.{comment_words, header_word_name, role_words, signal_name}
use Rattle.trace_laws.proofs.ByteLemmas.{IsFrom, at_most, decimal_from, from_append, from_lower}

-- ---- the numbers of a role

abbrev pub IsLowRole : Role → Type 0
IsLowRole (HeaderWord owner k) = owner < 48
IsLowRole (ChunkWord owner k) = (owner < 48) × (k < 10000)
IsLowRole (SignalFlag signal by at) = (by < 1000) × (at < 1000)
IsLowRole (SignalFlags signal at) = at < 48
IsLowRole (GatherFlag comm owner) = (comm < 1000) × (owner < 48)
IsLowRole (ReleaseFlag comm owner) = (comm < 1000) × (owner < 48)
IsLowRole HeapWord = Unit {0}
IsLowRole IdleWord = Unit {0}

either : (test : Bool) (x y : Role) → IsLowRole x → IsLowRole y → IsLowRole (cond test x y)
either true x y one other = one
either false x y one other = other

flag_low : (l : Layout) (s : SetupView) (owner line word : ℕ) → owner < 48 → line < 256 → IsLowRole (flag_role l s owner line word)
flag_low LineFlags s owner line word low below =
    either (word == 0) (if nat_le line 48 then if_peers s (line - 1) owner (SignalFlag Sent (line - 1) owner) else if_peers s owner (line - 49) (SignalFlag Ready (line - 49) owner)) IdleWord
    (either (nat_le line 48) (if_peers s (line - 1) owner (SignalFlag Sent (line - 1) owner)) (if_peers s owner (line - 49) (SignalFlag Ready (line - 49) owner))
    (either (are_peers s (line - 1) owner) (SignalFlag Sent (line - 1) owner) IdleWord (omega (arith, below), omega (arith, low)) tt)
    (either (are_peers s owner (line - 49)) (SignalFlag Ready (line - 49) owner) IdleWord (omega (arith, below), omega (arith, low)) tt))
    tt
flag_low BitFlags s owner line word low below = either (word == 0) (SignalFlags Sent owner) (if word == 1 then SignalFlags Ready owner else IdleWord) low (either (word == 1) (SignalFlags Ready owner) IdleWord low tt)

comm_low : (first line word : ℕ) → line < 256 → word < 4 → barrier_comm first line word < 1000
comm_low first line word below few = omega (arith, below, few)

barrier_low : (s : SetupView) (owner line word : ℕ) → owner < 48 → line < 256 → word < 4 → IsLowRole (barrier_role s owner line word)
barrier_low s owner line word low below few =
    let release = barrier_comm (first_release s.layout) line word in
    let gather = barrier_comm (first_gather s.layout) line word in
    either (nat_le (first_release s.layout) line) (if_present s word release (ReleaseFlag release owner)) (if_present s word gather (GatherFlag gather owner))
    (either (nat_lt word 2 && is_present s release) (ReleaseFlag release owner) IdleWord (comm_low (first_release s.layout) line word below few, low) tt)
    (either (nat_lt word 2 && is_present s gather) (GatherFlag gather owner) IdleWord (comm_low (first_gather s.layout) line word below few, low) tt)

role_low : (s : SetupView) (owner line word : ℕ) → owner < 48 → line < 256 → word < 4 → IsLowRole (role_at s owner line word)
role_low s owner line word low below few =
    let chunk = ChunkWord owner (4 * (line - first_chunk s.layout) + word) in
    let heap = if nat_lt line first_heap then chunk else HeapWord in
    let barrier = if nat_lt line (first_chunk s.layout) then barrier_role s owner line word else heap in
    let flags = if nat_lt line (first_gather s.layout) then flag_role s.layout s owner line word else barrier in
    either (line == 0) (HeaderWord owner word) flags low
    (either (nat_lt line (first_gather s.layout)) (flag_role s.layout s owner line word) barrier (flag_low s.layout s owner line word low below)
    (either (nat_lt line (first_chunk s.layout)) (barrier_role s owner line word) heap (barrier_low s owner line word low below few)
    (either (nat_lt line first_heap) chunk HeapWord (low, omega (arith, below, few)) tt)))

-- the rank of a core is one of the run
abbrev IsRankBelow : ℕ → Option ℕ → Type 0
IsRankBelow n None = Unit {0}
IsRankBelow n (Some r) = r < n

rank_found : (n : ℕ) (hosts : List ℕ) (core : ℕ) → IsRankBelow n (rank_below n hosts core)
rank_found zero hosts core = tt
rank_found (suc n) hosts core = by (host_of hosts n == core) (rank_below n hosts core) (rank_found n hosts core)
  where
    by : (test : Bool) (rest : Option ℕ) → IsRankBelow n rest → IsRankBelow (suc n) (cond test (Some n) rest)
    by true rest is = omega arith
    by false None is = tt
    by false (Some r) is = omega (arith, is)

pub role_is_low : (s : SetupView) (p : WordAt) → s.nue ≤ 48 → IsPlace p → IsLowRole (role_of s p)
role_is_low s p ranks is = by (rank_on s p.core) (rank_found s.nue s.hosts p.core)
  where
    by : (o : Option ℕ) → IsRankBelow s.nue o → IsLowRole (role_where s o p.line p.word)
    by None below = tt
    by (Some owner) below = let line = is.line_below in let word = is.word_below in role_low s owner p.line p.word (omega (arith, below, ranks)) line word

-- ---- its words

two : (n : ℕ) → n < 48 → length (decimal n) ≤ 2
two n low = length-decimal-le 2 n (omega arith) (omega (arith, low)) (omega (arith, low))

three : (n : ℕ) → n < 1000 → length (decimal n) ≤ 3
three n low = length-decimal-le 3 n (omega arith) (omega (arith, low)) (omega (arith, low))

four : (n : ℕ) → n < 10000 → length (decimal n) ≤ 4
four n low = length-decimal-le 4 n (omega arith) (omega (arith, low)) (omega (arith, low))

number_is : (n : ℕ) → n < 10000 → IsFrom 32 (decimal n)
number_is n low = from_lower 32 48 (decimal n) (omega arith) (decimal_from n (omega (arith, low)))

-- short, and without a line feed
pub record IsComment (text : List ℕ) : Type 0 where
  pub short : length text ≤ 25
  pub bytes : IsFrom 32 text

name_long : (k : ℕ) → length (header_word_name k) ≤ 6
name_long k = by (k == 0) (k == 1) (k == 2)
  where
    by : (a b c : Bool) → length (if a then codes "kind" else if b then codes "comm" else if c then codes "length" else codes "posted") ≤ 6
    by true b c = at_most 4 6 (codes "kind") refl (omega arith)
    by false true c = at_most 4 6 (codes "comm") refl (omega arith)
    by false false true = at_most 6 6 (codes "length") refl (omega arith)
    by false false false = at_most 6 6 (codes "posted") refl (omega arith)

name_is : (k : ℕ) → IsFrom 32 (header_word_name k)
name_is k = by (k == 0) (k == 1) (k == 2)
  where
    by : (a b c : Bool) → IsFrom 32 (if a then codes "kind" else if b then codes "comm" else if c then codes "length" else codes "posted")
    by true b c = refl
    by false true c = refl
    by false false true = refl
    by false false false = refl

signal_long : (signal : Signal) → length (signal_name signal) ≤ 5
signal_long Sent = at_most 4 5 (codes "sent") refl (omega arith)
signal_long Ready = at_most 5 5 (codes "ready") refl (omega arith)

signal_is : (signal : Signal) → IsFrom 32 (signal_name signal)
signal_is Sent = refl
signal_is Ready = refl

four_texts : (a x b y : List ℕ) (i j : ℕ) → length a ≡ i → length b ≡ j → i + length x + j + length y ≤ 25 → IsFrom 32 a → IsFrom 32 x → IsFrom 32 b → IsFrom 32 y → IsComment (joined_texts (a ∷ x ∷ b ∷ y ∷ []))
four_texts a x b y i j of_i of_j few of_a of_x of_b of_y = record {
  short = simp length-append (omega (arith, of_i, of_j, few));
  bytes = from_append 32 a (x ++ (b ++ (y ++ []))) of_a (from_append 32 x (b ++ (y ++ [])) of_x (from_append 32 b (y ++ []) of_b (from_append 32 y [] of_y refl)));
}

-- the flag of a signal, between two ranks
five_texts : (a b x d y : List ℕ) (i j : ℕ) → length b ≡ i → length d ≡ j → length a + i + length x + j + length y ≤ 25 → IsFrom 32 a → IsFrom 32 b → IsFrom 32 x → IsFrom 32 d → IsFrom 32 y
    → IsComment (joined_texts (a ∷ b ∷ x ∷ d ∷ y ∷ []))
five_texts a b x d y i j of_i of_j few of_a of_b of_x of_d of_y = record {
  short = simp length-append (omega (arith, of_i, of_j, few));
  bytes = from_append 32 a (b ++ (x ++ (d ++ (y ++ [])))) of_a
      (from_append 32 b (x ++ (d ++ (y ++ []))) of_b (from_append 32 x (d ++ (y ++ [])) of_x (from_append 32 d (y ++ []) of_d (from_append 32 y [] of_y refl))));
}

-- the flags of a signal, at a rank
three_texts : (a b x : List ℕ) (i : ℕ) → length b ≡ i → length a + i + length x ≤ 25 → IsFrom 32 a → IsFrom 32 b → IsFrom 32 x → IsComment (joined_texts (a ∷ b ∷ x ∷ []))
three_texts a b x i of_i few of_a of_b of_x = record {
  short = simp length-append (omega (arith, of_i, few));
  bytes = from_append 32 a (b ++ (x ++ [])) of_a (from_append 32 b (x ++ []) of_b (from_append 32 x [] of_x refl));
}

one_text : (a : List ℕ) (i : ℕ) → i ≡ length a → i ≤ 25 → IsFrom 32 a → IsComment (joined_texts (a ∷ []))
one_text a i of_i few of_a = record { short = simp length-append (omega (arith, of_i, few)); bytes = from_append 32 a [] of_a refl }

role_comment : (role : Role) → IsLowRole role → IsComment (joined_texts (role_words role))
role_comment (HeaderWord owner k) low =
    let a = two owner low in
    let b = name_long k in
    four_texts (codes "header of ") (decimal owner) (codes ": ") (header_word_name k) 10 2 refl refl (omega (arith, a, b)) refl (number_is owner (omega (arith, low))) refl (name_is k)
role_comment (ChunkWord owner k) (low, few) =
    let a = four k few in
    let b = two owner low in
    four_texts (codes "chunk word ") (decimal k) (codes " of ") (decimal owner) 11 4 refl refl (omega (arith, a, b)) refl (number_is k few) refl (number_is owner (omega (arith, low)))
role_comment (SignalFlag signal by at) (low, few) =
    let name = signal_long signal in
    let a = three by low in
    let b = three at few in
    five_texts (signal_name signal) (codes " of ") (decimal by) (codes " to ") (decimal at) 4 4 refl refl (omega (arith, name, a, b))
    (signal_is signal) refl (number_is by (omega (arith, low))) refl (number_is at (omega (arith, few)))
role_comment (SignalFlags signal at) low =
    let name = signal_long signal in
    let a = two at low in
    three_texts (signal_name signal) (codes " flags of ") (decimal at) 10 refl (omega (arith, name, a)) (signal_is signal) refl (number_is at (omega (arith, low)))
role_comment (GatherFlag comm owner) (few, low) =
    let a = three comm few in
    let b = two owner low in
    four_texts (codes "gather of ") (decimal owner) (codes " in comm ") (decimal comm) 10 9 refl refl (omega (arith, a, b)) refl (number_is owner (omega (arith, low))) refl (number_is comm (omega (arith, few)))
role_comment (ReleaseFlag comm owner) (few, low) =
    let a = three comm few in
    let b = two owner low in
    four_texts (codes "release of ") (decimal owner) (codes " in comm ") (decimal comm) 11 9 refl refl (omega (arith, a, b)) refl (number_is owner (omega (arith, low))) refl (number_is comm (omega (arith, few)))
role_comment HeapWord low = one_text (codes "heap") 4 refl (omega arith) refl
role_comment IdleWord low = one_text (codes "nobody's") 8 refl (omega arith) refl

pub comment_is : (s : SetupView) (a : Access) (p : WordAt) (v : ℕ) → s.nue ≤ 48 → IsAccess a p v → IsComment (joined_texts (comment_words s a p))
comment_is s Load p v ranks is = role_comment (role_of s p) (role_is_low s p ranks is.0)
comment_is s Store p v ranks is = role_comment (role_of s p) (role_is_low s p ranks is.0)
comment_is s Take p v ranks is = one_text (codes "register") 8 refl (omega arith) refl
comment_is s Free p v ranks is = one_text (codes "register") 8 refl (omega arith) refl
