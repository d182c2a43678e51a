-- Four loads are the loads of a line; parts of stores that are permitted.
use Rattle.std.proofs.Common.{◌≡◌, ℕ, List, [], ◌∷◌, ◌++◌, subst}
use Rattle.scc_base.specs.Places.{LineAt, WordAt, word_of_line}
use Rattle.scc_base.specs.Events.{load_of}
use Rattle.scc_base.specs.declared.events.Event.{Event}
use Rattle.scc_proto.specs.Ports.{Sight, Did, MayMakeAll, record_in}
use Rattle.scc_proto.proofs.PortLaws.{did_both, may_next, may_front}
use Rattle.put_get.specs.Accesses.{loads_of}

pub did_loads : (s s1 s2 s3 t : Sight) (line : LineAt) (p0 p1 p2 p3 : WordAt) (v0 v1 v2 v3 : ℕ)
    → p0 ≡ word_of_line line 0 → p1 ≡ word_of_line line 1 → p2 ≡ word_of_line line 2 → p3 ≡ word_of_line line 3
    → Did s (load_of p0 v0 ∷ []) s1 → Did s1 (load_of p1 v1 ∷ []) s2 → Did s2 (load_of p2 v2 ∷ []) s3 → Did s3 (load_of p3 v3 ∷ []) t
    → Did s (loads_of line (v0 ∷ v1 ∷ v2 ∷ v3 ∷ [])) t
did_loads s s1 s2 s3 t line p0 p1 p2 p3 v0 v1 v2 v3 e0 e1 e2 e3 d0 d1 d2 d3 =
    let a = load_of (word_of_line line 0) v0 in
    let b = load_of (word_of_line line 1) v1 in
    let c = load_of (word_of_line line 2) v2 in
    let d = load_of (word_of_line line 3) v3 in
    let x0 : Did s (a ∷ []) s1 = subst (λ p. Did s (load_of p v0 ∷ []) s1) e0 d0 in
    let x1 : Did s1 (b ∷ []) s2 = subst (λ p. Did s1 (load_of p v1 ∷ []) s2) e1 d1 in
    let x2 : Did s2 (c ∷ []) s3 = subst (λ p. Did s2 (load_of p v2 ∷ []) s3) e2 d2 in
    let x3 : Did s3 (d ∷ []) t = subst (λ p. Did s3 (load_of p v3 ∷ []) t) e3 d3 in
    did_both s (a ∷ []) s1 (b ∷ c ∷ d ∷ []) t x0
    (did_both s1 (b ∷ []) s2 (c ∷ d ∷ []) t x1 (did_both s2 (c ∷ []) s3 (d ∷ []) t x2 x3))

-- the next part of what may be made
pub may_part : (s : Sight) (a b c : List Event) (m : Sight) → Did s a m → MayMakeAll s.seat (record_in s) (a ++ (b ++ c))
    → MayMakeAll m.seat (record_in m) b
may_part s a b c m did may = may_front m.seat (record_in m) b c (may_next s a (b ++ c) m did may)
