-- Lines written one after the other, and lines read one after the other.
use Rattle.std.proofs.Common.{◌≡◌, ℕ, suc, ◌+◌, ◌<◌, ◌≤◌, List, [], ◌∷◌, ◌++◌, Option, None, length, take, drop, get_or, set, refl, sym, ◌∙◌, ap, subst, append_assoc, append-nil, arith, drop-cons}
use Rattle.std.proofs.lemmas.List.{take_all, length-take, take_more_set}
use Rattle.std.proofs.Math.Seq.{take-suc}
use Rattle.scc_base.specs.Places.{LineAt}
use Rattle.scc_proto.specs.Ports.{Sight, Did, MayMakeAll, record_in}
use Rattle.scc_proto.proofs.PortLaws.{did_nothing, did_both, may_next}
use Rattle.put_get.proofs.AccessLemmas.{may_part}
use Rattle.line_cache.specs.declared.cache.Entry.{Entry}
use Rattle.write_combine.specs.declared.combiner.Out.{Out}
use Rattle.write_combine.specs.Combining.{handed_out}
use Rattle.put_get.specs.Accesses.{stores_of_line, stores_of, whole_line}
use Rattle.put_get.specs.Cores.{Private, WritesLine, Flushes, ReadsLine, line_noted}
use Rattle.put_get.specs.Transfers.{line_at, put_stores, put_lines, Puts, ReadsLines}

put_stores-push : (core line : ℕ) (xs : List (List ℕ)) (ws : List ℕ)
    → put_stores core line (xs ++ ws ∷ []) ≡ put_stores core line xs ++ stores_of_line (whole_line (line_at core (line + length xs)) ws)
put_stores-push core line [] ws =
    let n : line ≡ line + 0 = omega arith in
    append-nil (stores_of_line (whole_line (line_at core line) ws)) ∙ ap (λ k. stores_of_line (whole_line (line_at core k) ws)) n
put_stores-push core line (x ∷ xs) ws =
    let n : line + 1 + length xs ≡ line + suc (length xs) = omega arith in
    ap (λ es. stores_of_line (whole_line (line_at core line) x) ++ es) (put_stores-push core (line + 1) xs ws)
    ∙ sym (append_assoc (stores_of_line (whole_line (line_at core line) x)) (put_stores core (line + 1) xs) (stores_of_line (whole_line (line_at core (line + 1 + length xs)) ws)))
    ∙ ap (λ k. (stores_of_line (whole_line (line_at core line) x) ++ put_stores core (line + 1) xs) ++ stores_of_line (whole_line (line_at core k) ws)) n

put_lines-push : (es : List Entry) (core line : ℕ) (xs : List (List ℕ)) (ws : List ℕ)
    → put_lines es core line (xs ++ ws ∷ []) ≡ line_noted (put_lines es core line xs) (line_at core (line + length xs)) ws
put_lines-push es core line [] ws =
    let n : line ≡ line + 0 = omega arith in ap (λ k. line_noted es (line_at core k) ws) n
put_lines-push es core line (x ∷ xs) ws =
    let n : line + 1 + length xs ≡ line + suc (length xs) = omega arith in
    put_lines-push (line_noted es (line_at core line) x) core (line + 1) xs ws
    ∙ ap (λ k. line_noted (put_lines (line_noted es (line_at core line) x) core (line + 1) xs) (line_at core k) ws) n

-- the first lines were written and stored, and the stores of the others are permitted
pub record Putting (s : Sight) (c : Private) (core line : ℕ) (src : List (List ℕ)) (i : ℕ) (t : Sight) (d : Private) : Type 0 where
  pub puts : Puts s c core line (take i src) t d
  pub rest : MayMakeAll t.seat (record_in t) (put_stores core (line + i) (drop i src))
  pub out : d.out ≡ None

pub putting_none : (s : Sight) (c : Private) (core line : ℕ) (src : List (List ℕ)) → c.out ≡ None
    → MayMakeAll s.seat (record_in s) (put_stores core line src) → Putting s c core line src 0 s c
putting_none s c core line src e may =
    let n : line ≡ line + 0 = omega arith in
    record {
      puts = record { did = did_nothing s; is = refl };
      rest = subst (λ k. MayMakeAll s.seat (record_in s) (put_stores core k src)) n may;
      out = e;
    }

pub may_differ : (c : Private) (line : LineAt) → c.out ≡ None → handed_out c.out line ≡ c.out
may_differ c line e = subst (λ (o : Option Out). handed_out o line ≡ o) (sym e) refl

writes_nothing : (t : Sight) (d : Private) (u : Sight) (e : Private) (line : LineAt) (ws : List ℕ) → d.out ≡ None → WritesLine t d line ws u e → Did t [] u
writes_nothing t d u e line ws o w = subst (λ (x : Option Out). Did t (stores_of x) u) o w.did

-- the line at a place, and the lines behind it
lines_here : (src : List (List ℕ)) (i : ℕ) (ws : List ℕ) → i < length src → ws ≡ get_or src i [] → drop i src ≡ ws ∷ drop (suc i) src
lines_here src i ws h e = drop-cons src i [] h ∙ ap (λ x. x ∷ drop (suc i) src) (sym e)

lines_front : (src : List (List ℕ)) (i : ℕ) (ws : List ℕ) → i < length src → ws ≡ get_or src i [] → take (suc i) src ≡ take i src ++ ws ∷ []
lines_front src i ws h e = take-suc src i [] h ∙ ap (λ x. take i src ++ x ∷ []) (sym e)

front_len : (src : List (List ℕ)) (i : ℕ) → i < length src → length (take i src) ≡ i
front_len src i h = omega (arith, length-take i src)

rest_here : (core line : ℕ) (src : List (List ℕ)) (i : ℕ) (ws : List ℕ) (t : Sight) → i < length src → ws ≡ get_or src i []
    → MayMakeAll t.seat (record_in t) (put_stores core (line + i) (drop i src))
    → MayMakeAll t.seat (record_in t) (stores_of_line (whole_line (line_at core (line + i)) ws) ++ put_stores core (line + i + 1) (drop (suc i) src))
rest_here core line src i ws t h e may =
    subst (λ xs. MayMakeAll t.seat (record_in t) (put_stores core (line + i) xs)) (lines_here src i ws h e) may

-- the stores of the next line may be made once it is written
pub putting_may : (s : Sight) (c : Private) (core line : ℕ) (src : List (List ℕ)) (i : ℕ) (ws : List ℕ) (t : Sight) (d : Private) (u : Sight) (e : Private)
    → i < length src → ws ≡ get_or src i [] → Putting s c core line src i t d → WritesLine t d (line_at core (line + i)) ws u e
    → MayMakeAll u.seat (record_in u) (stores_of e.out)
putting_may s c core line src i ws t d u e h is p w =
    let at = line_at core (line + i) in
    let stores = stores_of_line (whole_line at ws) in
    let afterwards = put_stores core (line + i + 1) (drop (suc i) src) in
    subst (λ (x : Private). MayMakeAll u.seat (record_in u) (stores_of x.out)) (sym w.is)
    (may_part t [] stores afterwards u (writes_nothing t d u e at ws p.out w) (rest_here core line src i ws t h is p.rest))

-- while nothing waits
pub none_waits : (t : Sight) (out : Option Out) → out ≡ None → MayMakeAll t.seat (record_in t) (stores_of out)
none_waits t out none = subst (λ (o : Option Out). MayMakeAll t.seat (record_in t) (stores_of o)) (sym none) tt

-- all lines were written and stored
pub putting_all : (s : Sight) (c : Private) (core at line : ℕ) (src : List (List ℕ)) (i : ℕ) (t : Sight) (d : Private) → length src ≤ i → core ≡ at
    → Putting s c core line src i t d → Puts s c at line src t d
putting_all s c core at line src i t d end same p =
    subst (λ (k : ℕ). Puts s c k line src t d) same (subst (λ (xs : List (List ℕ)). Puts s c core line xs t d) (take_all i src end) p.puts)

pub putting_next : (s : Sight) (c : Private) (core line : ℕ) (src : List (List ℕ)) (i : ℕ) (ws : List ℕ) (t : Sight) (d : Private) (u : Sight) (e : Private) (v : Sight) (f : Private)
    → i < length src → ws ≡ get_or src i [] → Putting s c core line src i t d → WritesLine t d (line_at core (line + i)) ws u e → Flushes u e v f
    → Putting s c core line src (i + 1) v f
putting_next s c core line src i ws t d u e v f h is p w fl =
    let at = line_at core (line + i) in
    let stores = stores_of_line (whole_line at ws) in
    let afterwards = put_stores core (line + i + 1) (drop (suc i) src) in
    let nothing = writes_nothing t d u e at ws p.out w in
    let flushed : Did u stores v = subst (λ (x : Private). Did u (stores_of x.out) v) w.is fl.did in
    let here : Did t stores v = did_both t [] u stores v nothing flushed in
    let len = front_len src i h in
    let front = lines_front src i ws h is in
    let next : suc i ≡ i + 1 = omega arith in
    let events : put_stores core line (take i src) ++ stores ≡ put_stores core line (take (suc i) src) =
    sym (ap (put_stores core line) front ∙ put_stores-push core line (take i src) ws
    ∙ ap (λ k. put_stores core line (take i src) ++ stores_of_line (whole_line (line_at core (line + k)) ws)) len) in
    let lines : line_noted (put_lines c.lines core line (take i src)) at ws ≡ put_lines c.lines core line (take (suc i) src) =
    sym (ap (put_lines c.lines core line) front ∙ put_lines-push c.lines core line (take i src) ws
    ∙ ap (λ k. line_noted (put_lines c.lines core line (take i src)) (line_at core (line + k)) ws) len) in
    let end_lines : line_noted d.lines at ws ≡ put_lines c.lines core line (take (suc i) src) =
    ap (λ (x : Private). line_noted x.lines at ws) p.puts.is ∙ lines in
    let end_out : None ≡ c.out = sym p.out ∙ ap (λ (x : Private). x.out) p.puts.is in
    let end_count : d.evictions ≡ c.evictions = ap (λ (x : Private). x.evictions) p.puts.is in
    let end_asked : d.asked ≡ c.asked = ap (λ (x : Private). x.asked) p.puts.is in
    let end_answers : d.answers ≡ c.answers = ap (λ (x : Private). x.answers) p.puts.is in
    let done : f ≡ record c { lines = put_lines c.lines core line (take (suc i) src) } =
    fl.is ∙ ap (λ (x : Private). record x { out = None }) w.is
    ∙ (λ k. record { lines = end_lines k; out = end_out k; evictions = end_count k; asked = end_asked k; answers = end_answers k }) in
    let one : line + i + 1 ≡ line + suc i = omega arith in
    let q : Putting s c core line src (suc i) v f = record {
      puts = record {
        did = subst (λ es. Did s es v) events (did_both s (put_stores core line (take i src)) t stores v p.puts.did here);
        is = done;
      };
      rest = subst (λ k. MayMakeAll v.seat (record_in v) (put_stores core k (drop (suc i) src))) one
          (may_next t stores afterwards v here (rest_here core line src i ws t h is p.rest));
      out = ap (λ (x : Private). x.out) fl.is;
    } in
    subst (λ k. Putting s c core line src k v f) next q

-- one more line was read
reads-push : (s : Sight) (c : Private) (core line : ℕ) (xs : List (List ℕ)) (ws : List ℕ) (t : Sight) (d : Private) (u : Sight) (e : Private)
    → ReadsLines s c core line xs t d → ReadsLine t d (line_at core (line + length xs)) ws u e → ReadsLines s c core line (xs ++ ws ∷ []) u e
reads-push s c core line [] ws t d u e r one =
    let n : line + 0 ≡ line = omega arith in
    let a : ReadsLine t d (line_at core line) ws u e = subst (λ k. ReadsLine t d (line_at core k) ws u e) n one in
    let b : ReadsLine s d (line_at core line) ws u e = subst (λ (x : Sight). ReadsLine x d (line_at core line) ws u e) r.0 a in
    (u, e, subst (λ (x : Private). ReadsLine s x (line_at core line) ws u e) r.1 b, (refl, refl))
reads-push s c core line (x ∷ xs) ws t d u e r one =
    let n : line + suc (length xs) ≡ line + 1 + length xs = omega arith in
    (r.0, r.1, r.2, reads-push r.0 r.1 core (line + 1) xs ws t d u e r.3 (subst (λ k. ReadsLine t d (line_at core k) ws u e) n one))

-- the first lines were read
pub record Reading (s : Sight) (c : Private) (core line : ℕ) (dst : List (List ℕ)) (i : ℕ) (t : Sight) (d : Private) : Type 0 where
  pub reads : ReadsLines s c core line (take i dst) t d
  pub out : d.out ≡ None

pub reading_none : (s : Sight) (c : Private) (core line : ℕ) (dst : List (List ℕ)) (d : Private) → d ≡ c → c.out ≡ None
    → Reading s c core line dst 0 s d
reading_none s c core line dst d e o = record { reads = (refl, e); out = ap (λ (x : Private). x.out) e ∙ o }

pub reading_next : (s : Sight) (c : Private) (core line : ℕ) (dst : List (List ℕ)) (i : ℕ) (ws : List ℕ) (t : Sight) (d : Private) (u : Sight) (e : Private)
    → i < length dst → Reading s c core line dst i t d → ReadsLine t d (line_at core (line + i)) ws u e → e.out ≡ d.out
    → Reading s c core line (set dst i ws) (i + 1) u e
reading_next s c core line dst i ws t d u e h r one out =
    let len = front_len dst i h in
    let one_at : ReadsLine t d (line_at core (line + length (take i dst))) ws u e =
    subst (λ k. ReadsLine t d (line_at core (line + k)) ws u e) (sym len) one in
    let front : take (i + 1) (set dst i ws) ≡ take i dst ++ ws ∷ [] = take_more_set dst i ws h in
    record {
      reads = subst (λ xs. ReadsLines s c core line xs u e) (sym front) (reads-push s c core line (take i dst) ws t d u e r.reads one_at);
      out = out ∙ r.out;
    }

pub reading_all : (s : Sight) (c : Private) (core line : ℕ) (dst : List (List ℕ)) (i : ℕ) (t : Sight) (d : Private) → length dst ≤ i
    → Reading s c core line dst i t d → ReadsLines s c core line dst t d
reading_all s c core line dst i t d h r = subst (λ xs. ReadsLines s c core line xs t d) (take_all i dst h) r.reads

pub writes_at : {s t : Sight} {c d : Private} {words : List ℕ} (l m : LineAt) → l ≡ m → WritesLine s c l words t d → WritesLine s c m words t d
writes_at {s} {t} {c} {d} {words} l m e w = subst (λ (x : LineAt). WritesLine s c x words t d) e w

pub reads_at : {s t : Sight} {c d : Private} {words : List ℕ} (l m : LineAt) → l ≡ m → ReadsLine s c l words t d → ReadsLine s c m words t d
reads_at {s} {t} {c} {d} {words} l m e r = subst (λ (x : LineAt). ReadsLine s c x words t d) e r

-- the line at a place of a buffer
pub line_is : (l : LineAt) (core first place i : ℕ) → l ≡ record { core = core; line = place + i } → place ≡ first → l ≡ line_at core (first + i)
line_is l core first place i e f = e ∙ (λ k. record { core = core; line = f k + i })
