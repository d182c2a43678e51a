-- What a store of a word of each use is to the view that the words show.
use Rattle.std.proofs.Common.{◌≡◌, ◌≢◌, ℕ, ◌+◌, ◌*◌, ◌/◌, ◌%◌, ◌<◌, ◌≤◌, Bool, true, false, ◌&&◌, ◌==◌, if◌then◌else◌, refl, sym, ◌∙◌, ap, subst, arith}
use Rattle.std.specs.Prelude.{nat_lt}
use Rattle.std.specs.Int.{bit_at}
use Rattle.scc_base.specs.Places.{WordAt, flag_in, flag_word}
use Rattle.scc_base.specs.Layouts.{first_signal, signal_at, signal_word, gather_at, release_at, first_gather, first_release, first_chunk, chunk_lines}
use Rattle.scc_base.specs.declared.signals.Signal.{Signal}
use Rattle.scc_base.specs.Setups.{SetupView, IsSetup, host_of}
use Rattle.scc_base.specs.declared.layouts.Layout.{Layout}
use Rattle.scc_base.specs.declared.layouts.Layout.TheVariants.{LineFlags, BitFlags}
use Rattle.scc_base.specs.declared.events.Access.TheVariants.{Store}
use Rattle.scc_proto.specs.Tables.{put_two, put_signal}
use Rattle.scc_proto.specs.Words.{Memory, word_at, is_at, memory_by, Role, HeaderWord, ChunkWord, SignalFlag, SignalFlags, GatherFlag, ReleaseFlag, HeapWord, IdleWord, are_peers, is_present, role_of}
use Rattle.scc_proto.specs.Views.{View, view_of}
use Rattle.scc_proto.proofs.Layouts.MoveFacts.{SameView}
use Rattle.scc_proto.proofs.Tests.{same_or_other, eqb_same, eqb_other, put_two_here, put_two_first, put_two_second, put_signal_here, put_signal_left}
use Rattle.scc_proto.proofs.Layouts.Roles.{if_yes, if_no, lt_yes, lt_no, lt_is, lt_not, own_word, own_is, Stands, role_stands, signal_role, role_header, role_chunk, role_signal, role_gather, role_release}

-- the flags of a signal at a rank, as bits of a word
abbrev pub bits_at : (ℕ → ℕ → ℕ) → (at v : ℕ) → ℕ → ℕ → ℕ
bits_at flags at v = λ by core. if core == at then bit_at v by else flags by core

-- the view with a word of this use stored
abbrev pub view_stored : Role → ℕ → View → View
view_stored (HeaderWord owner k) v view = record view { header = put_two view.header owner k v }
view_stored (ChunkWord owner k) v view = record view { chunk = put_two view.chunk owner k v }
view_stored (SignalFlag signal by at) v view = record view { signal = put_signal view.signal signal (put_two (view.signal signal) by at v) }
view_stored (SignalFlags signal at) v view = record view { signal = put_signal view.signal signal (bits_at (view.signal signal) at v) }
view_stored (GatherFlag comm owner) v view = record view { gather = put_two view.gather comm owner v }
view_stored (ReleaseFlag comm owner) v view = record view { release = put_two view.release comm owner v }
view_stored HeapWord v view = view
view_stored IdleWord v view = view

two_left : {A : Type 0} (table : ℕ → ℕ → A) (i j : ℕ) (x : A) (k l : ℕ) → (k ≡ i → l ≡ j → ⊥) → put_two table i j x k l ≡ table k l
two_left table i j x k l apart = same_or_other (put_two table i j x k l ≡ table k l) k i
    (λ t e. same_or_other (put_two table i j x k l ≡ table k l) l j (λ u f. absurd (apart e f)) (λ u ne. put_two_second table i j x k l ne))
    (λ t ne. put_two_first table i j x k l ne)

-- two words are one, or they are apart
pub same_word : (P : Type 0) (p q : WordAt) → (p ≡ q → P) → (p ≢ q → P) → P
same_word P p q same other = same_or_other P p.core q.core
    (λ t a. same_or_other P p.line q.line
    (λ u b. same_or_other P p.word q.word (λ v c. same (λ i. record { core = a i; line = b i; word = c i })) (λ v ne. other (λ e. ne (ap (λ (x : WordAt). x.word) e))))
    (λ u ne. other (λ e. ne (ap (λ (x : WordAt). x.line) e))))
    (λ t ne. other (λ e. ne (ap (λ (x : WordAt). x.core) e)))

module _ (place : WordAt) (value : ℕ) (memory : Memory) where
  pub stored_here : (q : WordAt) → place ≡ q → word_at (memory_by Store place value memory) q ≡ value
  stored_here q e = subst (λ (x : WordAt). word_at (memory_by Store place value memory) x ≡ value) e
      (if_yes (is_at place place.core place.line place.word) value _ (λ i. eqb_same place.core i && (eqb_same place.line i && eqb_same place.word i)))

  pub stored_there : (q : WordAt) → place ≢ q → word_at (memory_by Store place value memory) q ≡ word_at memory q
  stored_there q ne = if_no (is_at place q.core q.line q.word) value (memory.word q.core q.line q.word)
      (same_or_other (is_at place q.core q.line q.word ≡ false) q.core place.core
      (λ t a. same_or_other (is_at place q.core q.line q.word ≡ false) q.line place.line
      (λ u b. same_or_other (is_at place q.core q.line q.word ≡ false) q.word place.word
      (λ v c. absurd (ne (λ i. record { core = sym a i; line = sym b i; word = sym c i })))
      (λ v n. (λ i. t i && (u i && v i))))
      (λ u n. (λ i. t i && (u i && (q.word == place.word)))))
      (λ t n. (λ i. t i && ((q.line == place.line) && (q.word == place.word)))))

module _ (s : SetupView) (valid : IsSetup s) (place : WordAt) (value : ℕ) (memory : Memory) where
  abbrev late : Memory
  late = memory_by Store place value memory

  -- ---- another word is stored: each use keeps the words of the others

  signal_left : (role : Role) → Stands s place role → (other : Signal) (by at : ℕ) → place ≢ flag_word (host_of s.hosts at) (signal_at s.layout other by)
      → (view_stored role value (view_of s memory)).signal other by at ≡ (view_of s memory).signal other by at
  signal_left (SignalFlag signal a b) st other by at ne = put_signal_left (view_of s memory).signal signal other (put_two ((view_of s memory).signal signal) a b value) by at
      (λ same. two_left ((view_of s memory).signal signal) a b value by at
      (λ e f. ne (own_is s place b (first_signal signal + a) 0 st.0 ∙ (λ i. own_word s (sym f i) (first_signal (same i) + sym e i) 0) ∙ ap (λ (layout : Layout). flag_word (host_of s.hosts at) (signal_at layout other by)) (sym st.2))))
  signal_left (SignalFlags signal b) st other by at ne = put_signal_left (view_of s memory).signal signal other (bits_at ((view_of s memory).signal signal) b value) by at
      (λ same. if_no (at == b) (bit_at value by) ((view_of s memory).signal signal by at)
      (eqb_other at b (λ f. ne (own_is s place b 1 (signal_word signal) st.0 ∙ (λ i. own_word s (sym f i) 1 (signal_word (same i))) ∙ ap (λ (layout : Layout). flag_word (host_of s.hosts at) (signal_at layout other by)) (sym st.1)))))
  signal_left role st other by at ne = refl

  header_left : (role : Role) → Stands s place role → (r k : ℕ) → place ≢ own_word s r 0 k
      → (view_stored role value (view_of s memory)).header r k ≡ (view_of s memory).header r k
  header_left (HeaderWord a b) st r k ne = two_left (view_of s memory).header a b value r k
      (λ e f. ne (own_is s place a 0 b st ∙ (λ i. own_word s (sym e i) 0 (sym f i))))
  header_left role st r k ne = refl

  chunk_left : (role : Role) → Stands s place role → (r k : ℕ) → place ≢ own_word s r (first_chunk s.layout + k / 4) (k % 4)
      → (view_stored role value (view_of s memory)).chunk r k ≡ (view_of s memory).chunk r k
  chunk_left (ChunkWord a b) st r k ne = two_left (view_of s memory).chunk a b value r k
      (λ e f. ne (own_is s place a (first_chunk s.layout + b / 4) (b % 4) st.0 ∙ (λ i. own_word s (sym e i) (first_chunk s.layout + sym f i / 4) (sym f i % 4))))
  chunk_left role st r k ne = refl

  gather_left : (role : Role) → Stands s place role → (comm r : ℕ) → place ≢ flag_word (host_of s.hosts r) (gather_at s.layout comm)
      → (view_stored role value (view_of s memory)).gather comm r ≡ (view_of s memory).gather comm r
  gather_left (GatherFlag a b) st comm r ne = two_left (view_of s memory).gather a b value comm r
      (λ e f. ne (own_is s place b (first_gather s.layout + a % 8) (a / 8) st.0 ∙ (λ i. own_word s (sym f i) (first_gather s.layout + sym e i % 8) (sym e i / 8))))
  gather_left role st comm r ne = refl

  release_left : (role : Role) → Stands s place role → (comm r : ℕ) → place ≢ flag_word (host_of s.hosts r) (release_at s.layout comm)
      → (view_stored role value (view_of s memory)).release comm r ≡ (view_of s memory).release comm r
  release_left (ReleaseFlag a b) st comm r ne = two_left (view_of s memory).release a b value comm r
      (λ e f. ne (own_is s place b (first_release s.layout + a % 8) (a / 8) st.0 ∙ (λ i. own_word s (sym f i) (first_release s.layout + sym e i % 8) (sym e i / 8))))
  release_left role st comm r ne = refl

  -- ---- the word itself is stored

  signal_here : (layout : Layout) (signal : Signal) (by at : ℕ) → (view_stored (signal_role layout signal by at) value (view_of s memory)).signal signal by at ≡ flag_in (signal_at layout signal by).bit value
  signal_here LineFlags signal by at =
      ap (λ (flags : ℕ → ℕ → ℕ). flags by at) (put_signal_here (view_of s memory).signal signal (put_two ((view_of s memory).signal signal) by at value)) ∙ put_two_here ((view_of s memory).signal signal) by at value
  signal_here BitFlags signal by at =
      ap (λ (flags : ℕ → ℕ → ℕ). flags by at) (put_signal_here (view_of s memory).signal signal (bits_at ((view_of s memory).signal signal) at value))
      ∙ if_yes (at == at) (bit_at value by) ((view_of s memory).signal signal by at) (eqb_same at)

  -- ---- each part of the view

  signal_shows : Stands s place (role_of s place) → (signal : Signal) (by at : ℕ) → are_peers s by at ≡ true → (view_stored (role_of s place) value (view_of s memory)).signal signal by at ≡ (view_of s late).signal signal by at
  signal_shows st signal by at peers =
      let q = flag_word (host_of s.hosts at) (signal_at s.layout signal by) in
      same_word ((view_stored (role_of s place) value (view_of s memory)).signal signal by at ≡ (view_of s late).signal signal by at) place q
      (λ e. ap (λ (role : Role). (view_stored role value (view_of s memory)).signal signal by at) (ap (role_of s) e ∙ role_signal s valid signal by at peers) ∙ signal_here s.layout signal by at
      ∙ ap (flag_in (signal_at s.layout signal by).bit) (sym (stored_here place value memory q e)))
      (λ ne. signal_left (role_of s place) st signal by at ne ∙ ap (flag_in (signal_at s.layout signal by).bit) (sym (stored_there place value memory q ne)))

  header_shows : Stands s place (role_of s place) → (r k : ℕ) → r < s.nue → (view_stored (role_of s place) value (view_of s memory)).header r k ≡ (view_of s late).header r k
  header_shows st r k lt =
      let q = own_word s r 0 k in
      same_word ((view_stored (role_of s place) value (view_of s memory)).header r k ≡ (view_of s late).header r k) place q
      (λ e. ap (λ (role : Role). (view_stored role value (view_of s memory)).header r k) (ap (role_of s) e ∙ role_header s valid r k lt) ∙ put_two_here (view_of s memory).header r k value
      ∙ sym (stored_here place value memory q e))
      (λ ne. header_left (role_of s place) st r k ne ∙ sym (stored_there place value memory q ne))

  -- past the end of the chunk buffer nothing is shown
  chunk_beyond : (role : Role) → Stands s place role → (r k : ℕ) → 4 * chunk_lines s.layout ≤ k → (view_stored role value (view_of s memory)).chunk r k ≡ 0
  chunk_beyond (ChunkWord a b) st r k high = two_left (view_of s memory).chunk a b value r k (λ e f. absurd (omega (arith, st.1, high, f)))
      ∙ if_no (nat_lt k (4 * chunk_lines s.layout)) (memory.word (host_of s.hosts r) (first_chunk s.layout + k / 4) (k % 4)) 0 (lt_no _ _ high)
  chunk_beyond role st r k high = if_no (nat_lt k (4 * chunk_lines s.layout)) (memory.word (host_of s.hosts r) (first_chunk s.layout + k / 4) (k % 4)) 0 (lt_no _ _ high)

  chunk_within : Stands s place (role_of s place) → (r k : ℕ) → r < s.nue → k < 4 * chunk_lines s.layout → (view_stored (role_of s place) value (view_of s memory)).chunk r k ≡ (view_of s late).chunk r k
  chunk_within st r k lt low =
      let q = own_word s r (first_chunk s.layout + k / 4) (k % 4) in
      let t = lt_yes k (4 * chunk_lines s.layout) low in
      same_word ((view_stored (role_of s place) value (view_of s memory)).chunk r k ≡ (view_of s late).chunk r k) place q
      (λ e. ap (λ (role : Role). (view_stored role value (view_of s memory)).chunk r k) (ap (role_of s) e ∙ role_chunk s valid r k lt low) ∙ put_two_here (view_of s memory).chunk r k value
      ∙ sym (if_yes (nat_lt k (4 * chunk_lines s.layout)) (word_at late q) 0 t ∙ stored_here place value memory q e))
      (λ ne. chunk_left (role_of s place) st r k ne
      ∙ if_yes (nat_lt k (4 * chunk_lines s.layout)) (word_at memory q) 0 t
      ∙ sym (if_yes (nat_lt k (4 * chunk_lines s.layout)) (word_at late q) 0 t ∙ stored_there place value memory q ne))

  chunk_shows : Stands s place (role_of s place) → (r k : ℕ) → r < s.nue → (view_stored (role_of s place) value (view_of s memory)).chunk r k ≡ (view_of s late).chunk r k
  chunk_shows st r k lt = by (nat_lt k (4 * chunk_lines s.layout)) refl
    where
      by : (b : Bool) → nat_lt k (4 * chunk_lines s.layout) ≡ b → (view_stored (role_of s place) value (view_of s memory)).chunk r k ≡ (view_of s late).chunk r k
      by true t = chunk_within st r k lt (lt_is _ _ t)
      by false t = chunk_beyond (role_of s place) st r k (lt_not _ _ t) ∙ sym (if_no (nat_lt k (4 * chunk_lines s.layout)) (late.word (host_of s.hosts r) (first_chunk s.layout + k / 4) (k % 4)) 0 t)

  gather_shows : Stands s place (role_of s place) → (comm r : ℕ) → is_present s comm ≡ true → r < s.nue → (view_stored (role_of s place) value (view_of s memory)).gather comm r ≡ (view_of s late).gather comm r
  gather_shows st comm r present lt =
      let q = flag_word (host_of s.hosts r) (gather_at s.layout comm) in
      same_word ((view_stored (role_of s place) value (view_of s memory)).gather comm r ≡ (view_of s late).gather comm r) place q
      (λ e. ap (λ (role : Role). (view_stored role value (view_of s memory)).gather comm r) (ap (role_of s) e ∙ role_gather s valid comm r present lt) ∙ put_two_here (view_of s memory).gather comm r value
      ∙ sym (stored_here place value memory q e))
      (λ ne. gather_left (role_of s place) st comm r ne ∙ sym (stored_there place value memory q ne))

  release_shows : Stands s place (role_of s place) → (comm r : ℕ) → is_present s comm ≡ true → r < s.nue → (view_stored (role_of s place) value (view_of s memory)).release comm r ≡ (view_of s late).release comm r
  release_shows st comm r present lt =
      let q = flag_word (host_of s.hosts r) (release_at s.layout comm) in
      same_word ((view_stored (role_of s place) value (view_of s memory)).release comm r ≡ (view_of s late).release comm r) place q
      (λ e. ap (λ (role : Role). (view_stored role value (view_of s memory)).release comm r) (ap (role_of s) e ∙ role_release s valid comm r present lt) ∙ put_two_here (view_of s memory).release comm r value
      ∙ sym (stored_here place value memory q e))
      (λ ne. release_left (role_of s place) st comm r ne ∙ sym (stored_there place value memory q ne))

  -- a store changes the view by the use of its place
  pub store_shows : place.word < 4 → SameView s (view_stored (role_of s place) value (view_of s memory)) (view_of s late)
  store_shows word =
      let st = role_stands s place word in
      record { signal = signal_shows st; header = header_shows st; chunk = chunk_shows st; gather = gather_shows st; release = release_shows st }
