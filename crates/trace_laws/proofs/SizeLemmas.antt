-- How long the first line of a written trace is, and that of an event.
use Rattle.std.proofs.Common.{◌≡◌, ℕ, zero, suc, ◌+◌, ◌*◌, ◌<◌, ◌≤◌, List, [], ◌∷◌, ◌++◌, length, length-append, codes, decimal, refl, ap, ◌∙◌, arith}
use Rattle.std.proofs.lemmas.Fmt.{length-decimal-le}
use Rattle.std.proofs.lemmas.List.{append-nil}
use Rattle.rcce_io.specs.Sending.{joined_texts}
use Rattle.scc_base.specs.Events.{IsAccess}
use Rattle.scc_base.specs.Places.{WordAt}
use Rattle.scc_base.specs.Setups.{SetupView, host_of}
use Rattle.scc_base.specs.declared.events.Access.{Access}
use Rattle.scc_base.specs.declared.events.Access.TheVariants.{Load, Store, Take, Free}
use Rattle.scc_base.specs.declared.layouts.Layout.{Layout}
use Rattle.scc_base.specs.declared.layouts.Layout.TheVariants.{LineFlags, BitFlags}
use Rattle.scc_proto.specs.Words.{RankEvent}
use Rattle.trace_writer.specs.Lines.{access_name, comment_words, layout_name}
use Rattle.trace_laws.proofs.ByteLemmas.{at_most}
use Rattle.trace_laws.proofs.CommentLemmas.{comment_is}
use Rattle.trace_laws.proofs.EventLemmas.{IsOf, comment_text, event_body, where_text}
use Rattle.trace_laws.proofs.FirstLemmas.{head_body}
use Rattle.trace_laws.proofs.HeadLemmas.{AreOnChip, host_is, hosts_from}
use Rattle.trace_laws.proofs.WordLemmas.{value_long, value_text}

-- ---- the first line

two_digits : (n : ℕ) → n ≤ 48 → length (decimal n) ≤ 2
two_digits n low = length-decimal-le 2 n (omega arith) (omega (arith, low)) (omega (arith, low))

core_long : (s : SetupView) (n r : ℕ) → AreOnChip s n → r < n → length (decimal (host_of s.hosts r)) ≤ 2
core_long s n r are below = let low = are r below in two_digits (host_of s.hosts r) (omega (arith, low))

later_long : (s : SetupView) (n m : ℕ) → 0 < n → AreOnChip s (n + m) → length (hosts_from s n m) ≤ 3 * m
later_long s n zero later are = omega arith
later_long s n (suc m) later are =
    let one = core_long s (n + suc m) n are (omega arith) in
    let rest = later_long s (n + 1) m (omega arith) (λ r below. are r (omega (arith, below))) in
    let whole : length (hosts_from s n (suc m)) ≡ suc (length (decimal (host_of s.hosts n)) + length (hosts_from s (n + 1) m)) =
    ap length (host_is s n (hosts_from s (n + 1) m) later) ∙ ap suc (length-append (decimal (host_of s.hosts n)) (hosts_from s (n + 1) m)) in
    omega (arith, one, rest, whole)

hosts_long : (s : SetupView) (nue : ℕ) → AreOnChip s nue → length (hosts_from s 0 nue) ≤ 3 * nue
hosts_long s zero are = omega arith
hosts_long s (suc m) are =
    let core = decimal (host_of s.hosts 0) in
    let one = core_long s (suc m) 0 are (omega arith) in
    let rest = later_long s 1 m (omega arith) (λ r below. are r (omega (arith, below))) in
    let whole : length ((core ++ []) ++ hosts_from s 1 m) ≡ length core + length (hosts_from s 1 m) = ap (λ (t : List ℕ). length (t ++ hosts_from s 1 m)) (append-nil core) ∙ length-append core (hosts_from s 1 m) in
    omega (arith, one, rest, whole)

layout_long : (l : Layout) → length (layout_name l) ≤ 5
layout_long LineFlags = at_most 5 5 (codes "words") refl (omega arith)
layout_long BitFlags = at_most 4 5 (codes "bits") refl (omega arith)

pub head_short : (s : SetupView) → s.nue ≤ 48 → AreOnChip s s.nue → length (head_body s) ≤ 183
head_short s most are =
    let a = two_digits s.nue most in
    let b = layout_long s.layout in
    let c = hosts_long s s.nue are in
    by (decimal s.nue) (layout_name s.layout) (hosts_from s 0 s.nue) a b (omega (arith, c, most))
  where
    by : (n l h : List ℕ) → length n ≤ 2 → length l ≤ 5 → length h ≤ 144 → length (codes "rcce trace 1 nue " ++ (n ++ 32 ∷ (codes "layout" ++ 32 ∷ (l ++ 32 ∷ (codes "hosts" ++ 32 ∷ h))))) ≤ 183
    by n l h two five many = simp length-append (omega (arith, two, five, many))

-- ---- the line of an event

place_long : (p : WordAt) → p.core < 48 → p.line < 256 → p.word < 4 → length (decimal p.core ++ 46 ∷ (decimal p.line ++ 46 ∷ decimal p.word)) ≤ 8
place_long p core line word =
    let a = length-decimal-le 2 p.core (omega arith) (omega (arith, core)) (omega (arith, core)) in
    let b = length-decimal-le 3 p.line (omega arith) (omega (arith, line)) (omega (arith, line)) in
    let c = length-decimal-le 1 p.word (omega arith) (omega (arith, word)) (omega (arith, word)) in
    simp length-append (omega (arith, a, b, c))

register_long : (core : ℕ) → core < 48 → length (decimal core ++ codes ".register") ≤ 11
register_long core below = let a = two_digits core (omega (arith, below)) in simp length-append (omega (arith, a))

-- what an access, its place and its comment are long, together
event_long : (s : SetupView) (a : Access) (p : WordAt) (v : ℕ) → s.nue ≤ 48 → IsAccess a p v → length (access_name a) + length (where_text a p) + length (joined_texts (comment_words s a p)) ≤ 38
event_long s Load p v ranks is =
    let name : length (access_name Load) ≡ 4 = refl in
    let place : length (where_text Load p) ≤ 8 = place_long p is.0.core_below is.0.line_below is.0.word_below in
    let comment : length (joined_texts (comment_words s Load p)) ≤ 25 = (comment_is s Load p v ranks is).short in
    omega (arith, name, place, comment)
event_long s Store p v ranks is =
    let name : length (access_name Store) ≡ 5 = refl in
    let place : length (where_text Store p) ≤ 8 = place_long p is.0.core_below is.0.line_below is.0.word_below in
    let comment : length (joined_texts (comment_words s Store p)) ≤ 25 = (comment_is s Store p v ranks is).short in
    omega (arith, name, place, comment)
event_long s Take p v ranks is =
    let name : length (access_name Take) ≡ 4 = refl in
    let place : length (where_text Take p) ≤ 11 = register_long p.core is.0 in
    let comment : length (joined_texts (comment_words s Take p)) ≡ 8 = refl in
    omega (arith, name, place, comment)
event_long s Free p v ranks is =
    let name : length (access_name Free) ≡ 4 = refl in
    let place : length (where_text Free p) ≤ 11 = register_long p.core is.0 in
    let comment : length (joined_texts (comment_words s Free p)) ≡ 8 = refl in
    omega (arith, name, place, comment)

pub event_short : (s : SetupView) (nue : ℕ) (e : RankEvent) → s.nue ≤ 48 → nue ≤ 48 → IsOf nue e → length (event_body s e) ≤ 62
event_short s nue e ranks most is =
    let low = is.0 in
    let rank = two_digits e.rank (omega (arith, low, most)) in
    let rest = event_long s e.event.access e.event.place e.event.value ranks is.1 in
    let value = value_long e.event.value in
    by (decimal e.rank) (access_name e.event.access) (where_text e.event.access e.event.place) (value_text e.event.value) (comment_text s e) rank rest value
  where
    by : (r a p v c : List ℕ) → length r ≤ 2 → length a + length p + length c ≤ 38 → length v ≡ 16 → length (r ++ 32 ∷ (a ++ 32 ∷ (p ++ 32 ∷ (v ++ 32 ∷ 35 ∷ 32 ∷ c)))) ≤ 62
    by r a p v c two many sixteen = simp length-append (omega (arith, two, many, sixteen))
