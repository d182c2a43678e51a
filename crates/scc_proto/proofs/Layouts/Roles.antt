-- What each word of the buffer is for, and where the words of each use are.
use Rattle.std.proofs.Common.{◌≡◌, ◌≢◌, ℕ, zero, suc, ◌+◌, ◌-◌, ◌*◌, ◌/◌, ◌%◌, ◌<◌, ◌≤◌, Bool, true, false, ◌&&◌, ◌==◌, if◌then◌else◌, List, Option, Some, None, refl, sym, ◌∙◌, ap, arith}
use Rattle.std.specs.Prelude.{nat_lt, nat_le}
use Rattle.std.proofs.lemmas.Bool.Decides.{nat_tests}
use Rattle.scc_base.specs.Places.{first_heap, WordAt, flag_word}
use Rattle.scc_base.specs.Layouts.{first_signal, signal_at, signal_word, gather_at, release_at, first_gather, first_release, first_chunk, chunk_lines}
use Rattle.scc_base.specs.declared.signals.Signal.{Signal}
use Rattle.scc_base.specs.declared.signals.Signal.TheVariants.{Sent, Ready}
use Rattle.scc_base.specs.Setups.{SetupView, IsSetup, AreApart, host_of}
use Rattle.scc_base.specs.declared.layouts.Layout.{Layout}
use Rattle.scc_base.specs.declared.layouts.Layout.TheVariants.{LineFlags, BitFlags}
use Rattle.scc_proto.specs.Words.{Role, HeaderWord, ChunkWord, SignalFlag, SignalFlags, GatherFlag, ReleaseFlag, HeapWord, IdleWord, rank_below, rank_on, are_peers, if_peers, is_present, if_present, barrier_comm, barrier_role, flag_role, role_at, role_where, role_of}
use Rattle.scc_proto.proofs.Tests.{same_or_other, both_first, both_second, eqb_other, ArePeers, peers_are, peers_swap}

-- ---- tests

pub lt_yes : (a b : ℕ) → a < b → nat_lt a b ≡ true
lt_yes a b h = grind (arith, nat_tests)

pub lt_no : (a b : ℕ) → b ≤ a → nat_lt a b ≡ false
lt_no a b h = grind (arith, nat_tests)

pub le_yes : (a b : ℕ) → a ≤ b → nat_le a b ≡ true
le_yes a b h = grind (arith, nat_tests)

pub le_no : (a b : ℕ) → b < a → nat_le a b ≡ false
le_no a b h = grind (arith, nat_tests)

pub lt_is : (a b : ℕ) → nat_lt a b ≡ true → a < b
lt_is a b t = grind (arith, nat_tests)

pub lt_not : (a b : ℕ) → nat_lt a b ≡ false → b ≤ a
lt_not a b t = grind (arith, nat_tests)

pub le_is : (a b : ℕ) → nat_le a b ≡ true → a ≤ b
le_is a b t = grind (arith, nat_tests)

pub le_not : (a b : ℕ) → nat_le a b ≡ false → b < a
le_not a b t = grind (arith, nat_tests)

pub eq_is : (a b : ℕ) → (a == b) ≡ true → a ≡ b
eq_is a b t = grind (arith, nat_tests)

pub eq_not : (a b : ℕ) → (a == b) ≡ false → a ≢ b
eq_not a b t = λ e. absurd (grind (arith, nat_tests))

pub if_yes : {A : Type 0} (b : Bool) (x y : A) → b ≡ true → (if b then x else y) ≡ x
if_yes true x y t = refl
if_yes false x y t = absurd (cc)

pub if_no : {A : Type 0} (b : Bool) (x y : A) → b ≡ false → (if b then x else y) ≡ y
if_no true x y t = absurd (cc)
if_no false x y t = refl

-- ---- the lines of the two layouts

pub first_gather-above : (layout : Layout) → 2 ≤ first_gather layout
first_gather-above LineFlags = omega arith
first_gather-above BitFlags = omega arith

pub first_release-is : (layout : Layout) → first_release layout ≡ first_gather layout + 8
first_release-is LineFlags = refl
first_release-is BitFlags = refl

pub first_chunk-is : (layout : Layout) → first_chunk layout ≡ first_gather layout + 16
first_chunk-is LineFlags = refl
first_chunk-is BitFlags = refl

pub chunk_lines-end : (layout : Layout) → first_chunk layout + chunk_lines layout ≡ first_heap
chunk_lines-end LineFlags = refl
chunk_lines-end BitFlags = refl

-- ---- the rank on a core

pub rank_below-at : (n : ℕ) (hosts : List ℕ) (r : ℕ) → AreApart n hosts → r < n → rank_below n hosts (host_of hosts r) ≡ Some r
rank_below-at zero hosts r apart lt = absurd (omega (arith, lt))
rank_below-at (suc n) hosts r apart lt = same_or_other (rank_below (suc n) hosts (host_of hosts r) ≡ Some r) (host_of hosts n) (host_of hosts r)
    (λ t e. if_yes (host_of hosts n == host_of hosts r) (Some n) (rank_below n hosts (host_of hosts r)) t ∙ ap (λ (x : ℕ). Some x) (n_is e))
    (λ t ne. if_no (host_of hosts n == host_of hosts r) (Some n) (rank_below n hosts (host_of hosts r)) t
    ∙ rank_below-at n hosts r (λ i j low high. apart i j low (omega (arith, high))) (below ne))
  where
    n_is : host_of hosts n ≡ host_of hosts r → n ≡ r
    n_is e = same_or_other (n ≡ r) n r (λ t same. same) (λ t ne. absurd (apart r n (omega (arith, lt, ne)) (omega arith) (sym e)))

    below : host_of hosts n ≢ host_of hosts r → r < n
    below ne = same_or_other (r < n) n r (λ t same. absurd (ne (ap (λ x. host_of hosts x) same))) (λ t other. omega (arith, lt, other))

-- a rank with its core
pub record IsRankOn (n : ℕ) (hosts : List ℕ) (core r : ℕ) : Type 0 where
  pub below : r < n
  pub core_is : core ≡ host_of hosts r

pub rank_below-is : (n : ℕ) (hosts : List ℕ) (core r : ℕ) → rank_below n hosts core ≡ Some r → IsRankOn n hosts core r
rank_below-is zero hosts core r is = absurd (cc)
rank_below-is (suc n) hosts core r is = same_or_other (IsRankOn (suc n) hosts core r) (host_of hosts n) core
    (λ t e. let a : Some n ≡ Some r = sym (if_yes (host_of hosts n == core) (Some n) (rank_below n hosts core) t) ∙ is in
    let same : n ≡ r = cc (a) in record { below = omega (arith, same); core_is = sym e ∙ ap (λ x. host_of hosts x) same })
    (λ t ne. let a = rank_below-is n hosts core r (sym (if_no (host_of hosts n == core) (Some n) (rank_below n hosts core) t) ∙ is) in
    record { below = omega (arith, a.below); core_is = a.core_is })

-- ---- a word of the core of a rank

pub record IsOwn (s : SetupView) (place : WordAt) (owner line word : ℕ) : Type 0 where
  pub below : owner < s.nue
  pub on : place.core ≡ host_of s.hosts owner
  pub at_line : place.line ≡ line
  pub at_word : place.word ≡ word

-- the word of the core of a rank
abbrev pub own_word : SetupView → ℕ → ℕ → ℕ → WordAt
own_word s owner line word = record { core = host_of s.hosts owner; line = line; word = word }

pub own_is : (s : SetupView) (place : WordAt) (owner line word : ℕ) → IsOwn s place owner line word → place ≡ own_word s owner line word
own_is s place owner line word own = λ i. record { core = own.on i; line = own.at_line i; word = own.at_word i }

pub role_on : (s : SetupView) → IsSetup s → (owner line word : ℕ) → owner < s.nue → role_of s (own_word s owner line word) ≡ role_at s owner line word
role_on s valid owner line word lt = ap (λ (o : Option ℕ). role_where s o line word) (rank_below-at s.nue s.hosts owner valid.apart lt)

-- ---- where the words of a use are

abbrev pub Stands : SetupView → WordAt → Role → Type 0
Stands s place (HeaderWord owner k) = IsOwn s place owner 0 k
Stands s place (ChunkWord owner k) = IsOwn s place owner (first_chunk s.layout + k / 4) (k % 4) × (k < 4 * chunk_lines s.layout)
Stands s place (SignalFlag signal by at) = IsOwn s place at (first_signal signal + by) 0 × (are_peers s by at ≡ true) × (s.layout ≡ LineFlags)
Stands s place (SignalFlags signal at) = IsOwn s place at 1 (signal_word signal) × (s.layout ≡ BitFlags)
Stands s place (GatherFlag comm owner) = IsOwn s place owner (first_gather s.layout + comm % 8) (comm / 8) × (is_present s comm ≡ true)
Stands s place (ReleaseFlag comm owner) = IsOwn s place owner (first_release s.layout + comm % 8) (comm / 8) × (is_present s comm ≡ true)
Stands s place HeapWord = first_heap ≤ place.line
Stands s place IdleWord = Unit {0}

if_stands : (s : SetupView) (place : WordAt) (b : Bool) (x y : Role) → (b ≡ true → Stands s place x) → (b ≡ false → Stands s place y) → Stands s place (if b then x else y)
if_stands s place true x y one two = one refl
if_stands s place false x y one two = two refl

module _ (s : SetupView) (place : WordAt) (owner : ℕ) (below : owner < s.nue) (on : place.core ≡ host_of s.hosts owner) where
  own : (line word : ℕ) → place.line ≡ line → place.word ≡ word → IsOwn s place owner line word
  own line word a b = record { below = below; on = on; at_line = a; at_word = b }

  flag_stands : (layout : Layout) → s.layout ≡ layout → place.line ≢ 0 → place.line < first_gather layout → Stands s place (flag_role layout s owner place.line place.word)
  flag_stands LineFlags is some low = if_stands s place (place.word == 0) _ IdleWord
      (λ t. if_stands s place (nat_le place.line 48) _ _
      (λ le. if_stands s place (are_peers s (place.line - 1) owner) (SignalFlag Sent (place.line - 1) owner) IdleWord
      (λ peers. (own (1 + (place.line - 1)) 0 (omega (arith, some)) (eq_is place.word 0 t), peers, is)) (λ f. tt))
      (λ le. let high = le_not place.line 48 le in if_stands s place (are_peers s owner (place.line - 49)) (SignalFlag Ready (place.line - 49) owner) IdleWord
      (λ peers. (own (49 + (place.line - 49)) 0 (omega (arith, high)) (eq_is place.word 0 t), peers_swap s owner (place.line - 49) peers, is)) (λ f. tt)))
      (λ f. tt)
  flag_stands BitFlags is some low = if_stands s place (place.word == 0) (SignalFlags Sent owner) _
      (λ t. (own 1 0 (omega (arith, some, low)) (eq_is place.word 0 t), is))
      (λ f. if_stands s place (place.word == 1) (SignalFlags Ready owner) IdleWord
      (λ t. (own 1 1 (omega (arith, some, low)) (eq_is place.word 1 t), is)) (λ f. tt))

  barrier_stands : first_gather s.layout ≤ place.line → place.line < first_chunk s.layout → Stands s place (barrier_role s owner place.line place.word)
  barrier_stands high low = let a = first_release-is s.layout in let b = first_chunk-is s.layout in
      if_stands s place (nat_le (first_release s.layout) place.line) _ _
      (λ t. let le = le_is (first_release s.layout) place.line t in
      let line : place.line ≡ first_release s.layout + barrier_comm (first_release s.layout) place.line place.word % 8 = omega (arith, le, low, a, b) in
      let word : place.word ≡ barrier_comm (first_release s.layout) place.line place.word / 8 = omega (arith, le, low, a, b) in
      let comm : ℕ = barrier_comm (first_release s.layout) place.line place.word in
      if_stands s place (nat_lt place.word 2 && is_present s comm) (ReleaseFlag comm owner) IdleWord
      (λ u. (own _ _ line word, both_second (nat_lt place.word 2) (is_present s comm) u)) (λ f. tt))
      (λ t. let less = le_not (first_release s.layout) place.line t in
      let line : place.line ≡ first_gather s.layout + barrier_comm (first_gather s.layout) place.line place.word % 8 = omega (arith, high, less, a) in
      let word : place.word ≡ barrier_comm (first_gather s.layout) place.line place.word / 8 = omega (arith, high, less, a) in
      let comm : ℕ = barrier_comm (first_gather s.layout) place.line place.word in
      if_stands s place (nat_lt place.word 2 && is_present s comm) (GatherFlag comm owner) IdleWord
      (λ u. (own _ _ line word, both_second (nat_lt place.word 2) (is_present s comm) u)) (λ f. tt))

  chunk_stands : place.word < 4 → first_chunk s.layout ≤ place.line → place.line < first_heap → Stands s place (ChunkWord owner (4 * (place.line - first_chunk s.layout) + place.word))
  chunk_stands word high low = let e = chunk_lines-end s.layout in
      (own _ _ (omega (arith, word, high)) (omega (arith, word, high)), omega (arith, word, high, low, e))

  at_stands : place.word < 4 → Stands s place (role_at s owner place.line place.word)
  at_stands word = if_stands s place (place.line == 0) (HeaderWord owner place.word) _
      (λ t. own 0 place.word (eq_is place.line 0 t) refl)
      (λ f. if_stands s place (nat_lt place.line (first_gather s.layout)) _ _
      (λ t. flag_stands s.layout refl (eq_not place.line 0 f) (lt_is place.line (first_gather s.layout) t))
      (λ g. if_stands s place (nat_lt place.line (first_chunk s.layout)) _ _
      (λ t. barrier_stands (lt_not place.line (first_gather s.layout) g) (lt_is place.line (first_chunk s.layout) t))
      (λ h. if_stands s place (nat_lt place.line first_heap) _ HeapWord
      (λ t. chunk_stands word (lt_not place.line (first_chunk s.layout) h) (lt_is place.line first_heap t))
      (λ f. lt_not place.line first_heap f))))

-- each word is where its use says
pub role_stands : (s : SetupView) (place : WordAt) → place.word < 4 → Stands s place (role_of s place)
role_stands s place word = by (rank_on s place.core) refl
  where
    by : (o : Option ℕ) → rank_on s place.core ≡ o → Stands s place (role_where s o place.line place.word)
    by None is = tt
    by (Some owner) is = let on = rank_below-is s.nue s.hosts place.core owner is in at_stands s place owner on.below on.core_is word

-- ---- the use of each word

pub role_header : (s : SetupView) → IsSetup s → (owner k : ℕ) → owner < s.nue → role_of s (own_word s owner 0 k) ≡ HeaderWord owner k
role_header s valid owner k lt = role_on s valid owner 0 k lt

-- with line flags a flag has a word, and with bit flags all flags at a core share one
abbrev pub signal_role : Layout → Signal → (by at : ℕ) → Role
signal_role LineFlags signal by at = SignalFlag signal by at
signal_role BitFlags signal by at = SignalFlags signal at

role_at-low : (s : SetupView) (owner line word : ℕ) → line ≢ 0 → line < first_gather s.layout → role_at s owner line word ≡ flag_role s.layout s owner line word
role_at-low s owner line word some low = if_no (line == 0) (HeaderWord owner word) _ (eqb_other line 0 some) ∙ if_yes (nat_lt line (first_gather s.layout)) (flag_role s.layout s owner line word) _ (lt_yes _ _ low)

role_at-high : (s : SetupView) (owner line word : ℕ) → first_gather s.layout ≤ line
    → role_at s owner line word ≡ (if nat_lt line (first_chunk s.layout) then barrier_role s owner line word else (if nat_lt line first_heap then ChunkWord owner (4 * (line - first_chunk s.layout) + word) else HeapWord))
role_at-high s owner line word high = let a = first_gather-above s.layout in
    if_no (line == 0) (HeaderWord owner word) _ (eqb_other line 0 (λ e. absurd (omega (arith, a, high, e)))) ∙ if_no (nat_lt line (first_gather s.layout)) (flag_role s.layout s owner line word) _ (lt_no _ _ high)

role_at-barrier : (s : SetupView) (owner line word : ℕ) → first_gather s.layout ≤ line → line < first_chunk s.layout → role_at s owner line word ≡ barrier_role s owner line word
role_at-barrier s owner line word high low = role_at-high s owner line word high ∙ if_yes (nat_lt line (first_chunk s.layout)) (barrier_role s owner line word) _ (lt_yes _ _ low)

sent_line : (s : SetupView) → IsSetup s → (from to : ℕ) → are_peers s from to ≡ true → flag_role LineFlags s to (1 + from) 0 ≡ SignalFlag Sent from to
sent_line s valid from to peers = let p = peers_are s from to peers in let w = valid.ranks_within in
    let back : 1 + from - 1 ≡ from = omega arith in
    if_yes (nat_le (1 + from) 48) (if_peers s (1 + from - 1) to (SignalFlag Sent (1 + from - 1) to)) _ (le_yes (1 + from) 48 (omega (arith, p.one, w)))
    ∙ ap (λ (r : ℕ). if_peers s r to (SignalFlag Sent r to)) back ∙ if_yes (are_peers s from to) (SignalFlag Sent from to) IdleWord peers

ready_line : (s : SetupView) (from to : ℕ) → are_peers s from to ≡ true → flag_role LineFlags s from (49 + to) 0 ≡ SignalFlag Ready to from
ready_line s from to peers = let back : 49 + to - 49 ≡ to = omega arith in
    if_no (nat_le (49 + to) 48) _ (if_peers s from (49 + to - 49) (SignalFlag Ready (49 + to - 49) from)) (le_no (49 + to) 48 (omega arith))
    ∙ ap (λ (r : ℕ). if_peers s from r (SignalFlag Ready r from)) back ∙ if_yes (are_peers s from to) (SignalFlag Ready to from) IdleWord peers

-- the lines of a signal's flags are among those of flags
pub signal_lines : (signal : Signal) → (1 ≤ first_signal signal) × (first_signal signal ≤ 49)
signal_lines Sent = (omega arith, omega arith)
signal_lines Ready = (omega arith, omega arith)

line_some : (first by : ℕ) → 1 ≤ first → first + by ≢ 0
line_some first by low = λ z. absurd (omega (arith, low, z))

line_low : (first by nue gather : ℕ) → first ≤ 49 → by < nue → nue ≤ 48 → gather ≡ 97 → first + by < gather
line_low first by nue gather high below within is = omega (arith, high, below, within, is)

signal_line : (s : SetupView) → IsSetup s → (signal : Signal) (by at : ℕ) → are_peers s by at ≡ true → flag_role LineFlags s at (first_signal signal + by) 0 ≡ SignalFlag signal by at
signal_line s valid Sent by at peers = sent_line s valid by at peers
signal_line s valid Ready by at peers = ready_line s at by (peers_swap s by at peers)

signal_bits : (s : SetupView) (owner : ℕ) (signal : Signal) → flag_role BitFlags s owner 1 (signal_word signal) ≡ SignalFlags signal owner
signal_bits s owner Sent = refl
signal_bits s owner Ready = refl

-- the flag of a signal that one rank raises, at the core of the other
pub role_signal : (s : SetupView) → IsSetup s → (signal : Signal) (by at : ℕ) → are_peers s by at ≡ true → role_of s (flag_word (host_of s.hosts at) (signal_at s.layout signal by)) ≡ signal_role s.layout signal by at
role_signal s valid signal by at peers = by_layout s.layout refl
  where
    p : ArePeers s by at
    p = peers_are s by at peers

    by_layout : (layout : Layout) → s.layout ≡ layout → role_of s (flag_word (host_of s.hosts at) (signal_at layout signal by)) ≡ signal_role layout signal by at
    by_layout LineFlags e =
        role_on s valid at (first_signal signal + by) 0 p.other
        ∙ role_at-low s at (first_signal signal + by) 0 (line_some (first_signal signal) by (signal_lines signal).0)
        (line_low (first_signal signal) by s.nue (first_gather s.layout) (signal_lines signal).1 p.one valid.ranks_within (ap first_gather e))
        ∙ ap (λ (layout : Layout). flag_role layout s at (first_signal signal + by) 0) e ∙ signal_line s valid signal by at peers
    by_layout BitFlags e = let a = first_gather-above s.layout in
        role_on s valid at 1 (signal_word signal) p.other ∙ role_at-low s at 1 (signal_word signal) (omega arith) (omega (arith, a))
        ∙ ap (λ (layout : Layout). flag_role layout s at 1 (signal_word signal)) e ∙ signal_bits s at signal

-- the words of bit flags, also where the run has no other rank
pub role_signal_bits : (s : SetupView) → IsSetup s → s.layout ≡ BitFlags → (signal : Signal) (owner : ℕ) → owner < s.nue → role_of s (own_word s owner 1 (signal_word signal)) ≡ SignalFlags signal owner
role_signal_bits s valid e signal owner lt = let a = first_gather-above s.layout in
    role_on s valid owner 1 (signal_word signal) lt ∙ role_at-low s owner 1 (signal_word signal) (omega arith) (omega (arith, a))
    ∙ ap (λ (layout : Layout). flag_role layout s owner 1 (signal_word signal)) e ∙ signal_bits s owner signal

-- the other words of the lines of flags
pub role_spare_line : (s : SetupView) → IsSetup s → s.layout ≡ LineFlags → (owner line word : ℕ) → owner < s.nue → 1 ≤ line → line < first_gather s.layout → word ≢ 0 → role_of s (own_word s owner line word) ≡ IdleWord
role_spare_line s valid e owner line word lt some low other =
    role_on s valid owner line word lt ∙ role_at-low s owner line word (λ z. absurd (omega (arith, some, z))) low ∙ ap (λ (layout : Layout). flag_role layout s owner line word) e
    ∙ if_no (word == 0) _ IdleWord (eqb_other word 0 other)

pub role_spare_bits : (s : SetupView) → IsSetup s → s.layout ≡ BitFlags → (owner word : ℕ) → owner < s.nue → 2 ≤ word → role_of s (own_word s owner 1 word) ≡ IdleWord
role_spare_bits s valid e owner word lt high = let a = first_gather-above s.layout in
    role_on s valid owner 1 word lt ∙ role_at-low s owner 1 word (omega arith) (omega (arith, a)) ∙ ap (λ (layout : Layout). flag_role layout s owner 1 word) e
    ∙ if_no (word == 0) (SignalFlags Sent owner) _ (eqb_other word 0 (λ z. absurd (omega (arith, high, z)))) ∙ if_no (word == 1) (SignalFlags Ready owner) IdleWord (eqb_other word 1 (λ z. absurd (omega (arith, high, z))))

-- a barrier's flags, of a communicator that may have no rule
pub role_gather_any : (s : SetupView) → IsSetup s → (comm owner : ℕ) → comm < 16 → owner < s.nue
    → role_of s (flag_word (host_of s.hosts owner) (gather_at s.layout comm)) ≡ (if is_present s comm then GatherFlag comm owner else IdleWord)
role_gather_any s valid comm owner small lt =
    let a = first_release-is s.layout in let b = first_chunk-is s.layout in
    let same : 8 * (comm / 8) + (first_gather s.layout + comm % 8 - first_gather s.layout) ≡ comm = omega arith in
    role_on s valid owner (first_gather s.layout + comm % 8) (comm / 8) lt
    ∙ role_at-barrier s owner (first_gather s.layout + comm % 8) (comm / 8) (omega arith) (omega (arith, b))
    ∙ if_no (nat_le (first_release s.layout) (first_gather s.layout + comm % 8)) _ _ (le_no _ _ (omega (arith, a)))
    ∙ ap (λ (c : ℕ). if_present s (comm / 8) c (GatherFlag c owner)) same
    ∙ ap (λ (t : Bool). if t && is_present s comm then GatherFlag comm owner else IdleWord) (lt_yes (comm / 8) 2 (omega (arith, small)))

pub role_release_any : (s : SetupView) → IsSetup s → (comm owner : ℕ) → comm < 16 → owner < s.nue
    → role_of s (flag_word (host_of s.hosts owner) (release_at s.layout comm)) ≡ (if is_present s comm then ReleaseFlag comm owner else IdleWord)
role_release_any s valid comm owner small lt =
    let a = first_release-is s.layout in let b = first_chunk-is s.layout in
    let same : 8 * (comm / 8) + (first_release s.layout + comm % 8 - first_release s.layout) ≡ comm = omega arith in
    role_on s valid owner (first_release s.layout + comm % 8) (comm / 8) lt
    ∙ role_at-barrier s owner (first_release s.layout + comm % 8) (comm / 8) (omega (arith, a)) (omega (arith, a, b))
    ∙ if_yes (nat_le (first_release s.layout) (first_release s.layout + comm % 8)) _ _ (le_yes _ _ (omega arith))
    ∙ ap (λ (c : ℕ). if_present s (comm / 8) c (ReleaseFlag c owner)) same
    ∙ ap (λ (t : Bool). if t && is_present s comm then ReleaseFlag comm owner else IdleWord) (lt_yes (comm / 8) 2 (omega (arith, small)))

pub present_below : (s : SetupView) (comm : ℕ) → is_present s comm ≡ true → comm < 16
present_below s comm t = lt_is comm 16 (both_first (nat_lt comm 16) _ t)

-- a barrier's flags
pub role_gather : (s : SetupView) → IsSetup s → (comm owner : ℕ) → is_present s comm ≡ true → owner < s.nue
    → role_of s (flag_word (host_of s.hosts owner) (gather_at s.layout comm)) ≡ GatherFlag comm owner
role_gather s valid comm owner t lt = role_gather_any s valid comm owner (present_below s comm t) lt ∙ if_yes (is_present s comm) (GatherFlag comm owner) IdleWord t

pub role_release : (s : SetupView) → IsSetup s → (comm owner : ℕ) → is_present s comm ≡ true → owner < s.nue
    → role_of s (flag_word (host_of s.hosts owner) (release_at s.layout comm)) ≡ ReleaseFlag comm owner
role_release s valid comm owner t lt = role_release_any s valid comm owner (present_below s comm t) lt ∙ if_yes (is_present s comm) (ReleaseFlag comm owner) IdleWord t

-- the other words of the lines of a barrier's flags
pub role_spare_barrier : (s : SetupView) → IsSetup s → (owner line word : ℕ) → owner < s.nue → first_gather s.layout ≤ line → line < first_chunk s.layout → 2 ≤ word → role_of s (own_word s owner line word) ≡ IdleWord
role_spare_barrier s valid owner line word lt high low more =
    role_on s valid owner line word lt ∙ role_at-barrier s owner line word high low ∙ spare (nat_le (first_release s.layout) line) _ _ _ _ (lt_no word 2 more)
  where
    spare : (b : Bool) (x y : Role) (c d : Bool) → {t : Bool} → t ≡ false → (if b then (if t && c then x else IdleWord) else (if t && d then y else IdleWord)) ≡ IdleWord
    spare true x y c d e = ap (λ (t : Bool). if t && c then x else IdleWord) e
    spare false x y c d e = ap (λ (t : Bool). if t && d then y else IdleWord) e

-- a word of the chunk buffer, by line and word of the line
pub role_chunk_line : (s : SetupView) → IsSetup s → (owner i word : ℕ) → owner < s.nue → i < chunk_lines s.layout → role_of s (own_word s owner (first_chunk s.layout + i) word) ≡ ChunkWord owner (4 * i + word)
role_chunk_line s valid owner i word lt low =
    let a = first_chunk-is s.layout in let b = chunk_lines-end s.layout in
    let back : 4 * (first_chunk s.layout + i - first_chunk s.layout) + word ≡ 4 * i + word = omega arith in
    role_on s valid owner (first_chunk s.layout + i) word lt ∙ role_at-high s owner (first_chunk s.layout + i) word (omega (arith, a))
    ∙ if_no (nat_lt (first_chunk s.layout + i) (first_chunk s.layout)) (barrier_role s owner (first_chunk s.layout + i) word) _ (lt_no _ _ (omega arith))
    ∙ if_yes (nat_lt (first_chunk s.layout + i) first_heap) _ HeapWord (lt_yes _ _ (omega (arith, low, b)))
    ∙ ap (λ (k : ℕ). ChunkWord owner k) back

-- and by its number in the buffer
pub role_chunk : (s : SetupView) → IsSetup s → (owner k : ℕ) → owner < s.nue → k < 4 * chunk_lines s.layout → role_of s (own_word s owner (first_chunk s.layout + k / 4) (k % 4)) ≡ ChunkWord owner k
role_chunk s valid owner k lt low = let same : 4 * (k / 4) + k % 4 ≡ k = omega arith in
    role_chunk_line s valid owner (k / 4) (k % 4) lt (omega (arith, low)) ∙ ap (λ (n : ℕ). ChunkWord owner n) same

pub role_heap : (s : SetupView) → IsSetup s → (owner line word : ℕ) → owner < s.nue → first_heap ≤ line → role_of s (own_word s owner line word) ≡ HeapWord
role_heap s valid owner line word lt high =
    let a = first_chunk-is s.layout in let b = chunk_lines-end s.layout in let c = first_gather-above s.layout in
    role_on s valid owner line word lt ∙ role_at-high s owner line word (omega (arith, high, a, b))
    ∙ if_no (nat_lt line (first_chunk s.layout)) (barrier_role s owner line word) _ (lt_no _ _ (omega (arith, high, a, b)))
    ∙ if_no (nat_lt line first_heap) _ HeapWord (lt_no _ _ high)
