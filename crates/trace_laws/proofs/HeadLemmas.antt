-- The first line says the number of ranks, the layout and the cores of the ranks.
use Rattle.std.proofs.Common.{◌≡◌, ℕ, zero, suc, ◌+◌, ◌<◌, ◌≤◌, Bool, true, cond, ◌&&◌, ◌==◌, List, [], ◌∷◌, ◌++◌, get_or, length, length-append, map, set, codes, decimal, Option, Some, refl, sym, ap, subst, ◌∙◌, append_assoc, arith}
use Rattle.std.specs.Prelude.{All, is_none, nat_lt}
use Rattle.std.specs.List.{range_with_len}
use Rattle.std.proofs.lemmas.Bool.{and_from, cond-false, cond-true, lt-ltb, ne_eqb}
use Rattle.std.proofs.lemmas.List.{append-nil}
use Rattle.std.proofs.lemmas.List.Elements.{All-head, All-tail}
use Rattle.std.proofs.lemmas.List.Splits.{slice_split_none, slice_split_at}
use Rattle.rcce_io.specs.Sending.{joined_texts}
use Rattle.rcce_audit.specs.Words.{◌>>=◌, only_if}
use Rattle.rcce_audit.proofs.WordLemmas.{range_said-decimal}
use Rattle.scc_base.specs.Setups.{AreApart, SetupView, host_of}
use Rattle.scc_proto.specs.Words.{rank_below}
use Rattle.trace_writer.specs.Lines.{host_words}
use Rattle.trace_text.specs.Grammar.{HostTable, host_said, hosts_said}
use Rattle.trace_text.specs.Words.{comma_parts}
use Rattle.trace_laws.proofs.ByteLemmas.{IsFrom, from_append, from_lower, no_byte}
use Rattle.trace_laws.proofs.WordLemmas.{number_from}

-- ---- the text of the cores

-- the cores of so many ranks, from this one on
abbrev pub cores_from : SetupView → ℕ → ℕ → List ℕ
cores_from s n m = map (host_of s.hosts) (range_with_len n m)

abbrev pub hosts_from : SetupView → ℕ → ℕ → List ℕ
hosts_from s n m = joined_texts (map (host_words s) (range_with_len n m))

-- each of the first ranks is on a core of the chip
abbrev pub AreOnChip : SetupView → ℕ → Type 0
AreOnChip s n = (r : ℕ) → r < n → host_of s.hosts r < 48

core_from : (s : SetupView) (n r : ℕ) → AreOnChip s n → r < n → IsFrom 48 (decimal (host_of s.hosts r))
core_from s n r are below = let low = are r below in number_from (host_of s.hosts r) (omega (arith, low))

-- behind the first core each has a comma before it
pub host_is : (s : SetupView) (r : ℕ) (rest : List ℕ) → 0 < r → host_words s r ++ rest ≡ 44 ∷ (decimal (host_of s.hosts r) ++ rest)
host_is s r rest later =
    ap (λ (comma : List ℕ). (comma ++ (decimal (host_of s.hosts r) ++ [])) ++ rest) (cond-false (r == 0) (codes "") (codes ",") (ne_eqb r 0 (λ is. omega (arith, later, is))))
    ∙ ap (λ (core : List ℕ). 44 ∷ (core ++ rest)) (append-nil (decimal (host_of s.hosts r)))

later_cores : (s : SetupView) (n m : ℕ) (w : List ℕ) → 0 < n → IsFrom 48 w → AreOnChip s (n + m) → comma_parts (w ++ hosts_from s n m) ≡ w ∷ map decimal (cores_from s n m)
later_cores s n zero w later is are = ap comma_parts (append-nil w) ∙ slice_split_none (λ b. b == 44) w (no_byte 44 48 w (omega arith) is)
later_cores s n (suc m) w later is are =
    let core = decimal (host_of s.hosts n) in
    ap (λ (t : List ℕ). comma_parts (w ++ t)) (host_is s n (hosts_from s (n + 1) m) later)
    ∙ slice_split_at (λ b. b == 44) w 44 (core ++ hosts_from s (n + 1) m) (no_byte 44 48 w (omega arith) is) refl
    ∙ ap (λ (parts : List (List ℕ)). w ∷ parts)
    (later_cores s (n + 1) m core (omega arith) (core_from s (n + suc m) n are (omega arith)) (λ r below. are r (omega (arith, below))))

pub cores_parted : (s : SetupView) (nue : ℕ) → 1 ≤ nue → AreOnChip s nue → comma_parts (hosts_from s 0 nue) ≡ map decimal (cores_from s 0 nue)
cores_parted s zero some are = absurd (omega (arith, some))
cores_parted s (suc m) some are =
    let core = decimal (host_of s.hosts 0) in
    ap (λ (t : List ℕ). comma_parts (t ++ hosts_from s 1 m)) (append-nil core)
    ∙ later_cores s 1 m core (omega arith) (core_from s (suc m) 0 are (omega arith)) (λ r below. are r (omega (arith, below)))

-- it is one word
later_word : (s : SetupView) (n m : ℕ) → 0 < n → AreOnChip s (n + m) → IsFrom 33 (hosts_from s n m)
later_word s n zero later are = refl
later_word s n (suc m) later are =
    let core = decimal (host_of s.hosts n) in
    subst (IsFrom 33) (sym (host_is s n (hosts_from s (n + 1) m) later))
    (from_append 33 core (hosts_from s (n + 1) m) (from_lower 33 48 core (omega arith) (core_from s (n + suc m) n are (omega arith)))
    (later_word s (n + 1) m (omega arith) (λ r below. are r (omega (arith, below)))))

pub hosts_word : (s : SetupView) (nue : ℕ) → AreOnChip s nue → IsFrom 33 (hosts_from s 0 nue)
hosts_word s zero are = refl
hosts_word s (suc m) are =
    let core = decimal (host_of s.hosts 0) in
    subst (λ (t : List ℕ). IsFrom 33 (t ++ hosts_from s 1 m)) (sym (append-nil core))
    (from_append 33 core (hosts_from s 1 m) (from_lower 33 48 core (omega arith) (core_from s (suc m) 0 are (omega arith)))
    (later_word s 1 m (omega arith) (λ r below. are r (omega (arith, below)))))

-- ---- the table of the cores

table_at : (front : List ℕ) (x : ℕ) (back : List ℕ) → get_or (front ++ x ∷ back) (length front) 0 ≡ x
table_at [] x back = refl
table_at (y ∷ front) x back = table_at front x back

table_set : (front : List ℕ) (x y : ℕ) (back : List ℕ) → set (front ++ x ∷ back) (length front) y ≡ front ++ y ∷ back
table_set [] x y back = refl
table_set (z ∷ front) x y back = ap (λ (l : List ℕ). z ∷ l) (table_set front x y back)

pub table_front : (front back : List ℕ) (r : ℕ) → r < length front → get_or (front ++ back) r 0 ≡ get_or front r 0
table_front [] back r below = absurd (omega arith)
table_front (x ∷ front) back zero below = refl
table_front (x ∷ front) back (suc r) below = let within : r < length front = omega arith in table_front front back r within

-- a core that no rank has
none_on : (n : ℕ) (hosts : List ℕ) (core : ℕ) → ((r : ℕ) → r < n → host_of hosts r ≡ core → ⊥) → is_none (rank_below n hosts core) ≡ true
none_on zero hosts core other = refl
none_on (suc n) hosts core other =
    ap (λ (test : Bool). is_none (cond test (Some n) (rank_below n hosts core))) (ne_eqb (host_of hosts n) core (other n (omega arith)))
    ∙ none_on n hosts core (λ r below. other r (omega (arith, below)))

host_taken : (front : List ℕ) (c z : ℕ) (cs back : List ℕ) (n : ℕ) → n ≡ length front → n < 48 → c < 48 → AreApart (n + suc (length cs)) (front ++ c ∷ cs)
    → host_said (record { count = n; hosts = front ++ z ∷ back }) (decimal c) ≡ Some (record { count = n + 1; hosts = (front ++ c ∷ []) ++ back })
host_taken front c z cs back n long few low apart =
    let table = front ++ z ∷ back in
    let there : (r : ℕ) → r < n → host_of table r ≡ c → ⊥ = λ r below is.
    apart r n below (omega arith)
    (table_front front (c ∷ cs) r (omega (arith, below, long)) ∙ sym (table_front front (z ∷ back) r (omega (arith, below, long))) ∙ is
    ∙ sym (table_at front c cs) ∙ ap (λ (k : ℕ). host_of (front ++ c ∷ cs) k) (sym long)) in
    let placed : set table n c ≡ (front ++ c ∷ []) ++ back = ap (λ (k : ℕ). set table k c) long ∙ table_set front z c back ∙ sym (append_assoc front (c ∷ []) back) in
    ap (λ (o : Option ℕ). o >>= λ x. only_if (nat_lt n 48 && is_none (rank_below n table x)) (record { count = n + 1; hosts = set table n x }))
    (range_said-decimal 0 47 c (omega arith) (omega (arith, low)) (omega (arith, low)))
    ∙ cond-true (nat_lt n 48 && is_none (rank_below n table c)) _ _ (and_from (nat_lt n 48) (is_none (rank_below n table c)) (lt-ltb n 48 few) (none_on n table c there))
    ∙ ap (λ (hosts : List ℕ). Some (record { count = n + 1; hosts = hosts })) placed

pub hosts_taken : (front cs zs tail : List ℕ) (n : ℕ) → n ≡ length front → length zs ≡ length cs → n + length cs ≤ 48 → All (λ c. c < 48) cs → AreApart (n + length cs) (front ++ cs)
    → hosts_said (record { count = n; hosts = front ++ (zs ++ tail) }) (map decimal cs) ≡ Some (record { count = n + length cs; hosts = (front ++ cs) ++ tail })
hosts_taken front [] [] tail n long same few low apart =
    let count : n ≡ n + 0 = omega arith in
    let table : front ++ tail ≡ (front ++ []) ++ tail = ap (λ (l : List ℕ). l ++ tail) (sym (append-nil front)) in
    λ i. Some (record { count = count i; hosts = table i })
hosts_taken front [] (z ∷ zs) tail n long same few low apart = absurd (omega (arith, same))
hosts_taken front (c ∷ cs) [] tail n long same few low apart = absurd (omega (arith, same))
hosts_taken front (c ∷ cs) (z ∷ zs) tail n long same few low apart =
    let count : (n + 1) + length cs ≡ n + length (c ∷ cs) = omega arith in
    let list : (front ++ c ∷ []) ++ cs ≡ front ++ c ∷ cs = append_assoc front (c ∷ []) cs in
    let step = host_taken front c z cs (zs ++ tail) n long (omega (arith, few)) (All-head (λ c. c < 48) c cs low) apart in
    let rest = hosts_taken (front ++ c ∷ []) cs zs tail (n + 1) (omega (arith, long, length-append front (c ∷ []))) (omega (arith, same)) (omega (arith, few)) (All-tail (λ c. c < 48) c cs low)
    (subst (λ (k : ℕ). AreApart k ((front ++ c ∷ []) ++ cs)) (sym count) (subst (AreApart (n + length (c ∷ cs))) (sym list) apart)) in
    ap (λ (o : Option HostTable). o >>= λ next. hosts_said next (map decimal cs)) step ∙ rest
    ∙ (λ i. Some (record { count = count i; hosts = list i ++ tail }))
