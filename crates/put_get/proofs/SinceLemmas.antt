-- What a core did since its last invalidation goes on with the calls for whole lines.
use Rattle.std.proofs.Common.{◌≡◌, ℕ, zero, suc, ◌+◌, ◌<◌, Bool, true, false, cond, ◌==◌, List, [], ◌∷◌, ◌++◌, Option, None, Some, refl, sym, ◌∙◌, ap, subst, append_assoc, append-nil, arith, slice_index}
use Rattle.std.proofs.lemmas.Bool.{and_from, eq-eqb}
use Rattle.scc_base.specs.Places.{LineAt, WordAt, word_of_line, line_of_word, same_line}
use Rattle.scc_base.specs.Events.{store_of}
use Rattle.scc_base.specs.declared.events.Event.{Event}
use Rattle.scc_proto.specs.Ports.{Sight, Did, and_then}
use Rattle.scc_proto.proofs.PortLaws.{did_nothing, did_both}
use Rattle.line_cache.specs.Lines.{lines_with_word}
use Rattle.write_combine.specs.declared.combiner.Out.{Out}
use Rattle.write_combine.specs.Combining.{one_word, with_word, handed_out, held_after}
use Rattle.put_get.specs.Accesses.{stores_of_line, stores_of, whole_line}
use Rattle.put_get.specs.Cores.{Private, ReadsWord, ReadsLine, WritesThrough, WritesLine, line_noted}
use Rattle.put_get.specs.Transfers.{line_at, put_stores, put_lines, Puts, ReadsLines, Gets}
use Rattle.put_get.specs.Answers.{IsValueKnown, Since, Invalidated, HasRead, HasWritten, HasFlushed, writes_of, writes_from, IsLineTold, LinesLaw}
use Rattle.put_get.proofs.StepLemmas.{events_once, did_front, did_left}
use Rattle.put_get.proofs.CoreLemmas.{word_made}
use Rattle.put_get.proofs.AnswerLemmas.{answers, known_more}
use Rattle.put_get.proofs.TransferLemmas.{may_differ}

-- ---- reads

-- a word was read: the loads, and what is known after them
record ToldWord (known : List Event) (s : Sight) (p : WordAt) (v : ℕ) (t : Sight) (d : Private) : Type 0 where
  events : List Event
  did : Did s events t
  since : Since (known ++ events) d
  told : IsValueKnown (known ++ events) p v

told_word : (known : List Event) (c d : Private) (s t : Sight) (p : WordAt) (v : ℕ) → p.word < 4 → Since known c → ReadsWord s c p v t d → ToldWord known s p v t d
told_word known c d s t p v below since reads =
    let made = word_made reads in
    record {
      events = made.events;
      did = made.did;
      since = HasRead known c since s t d p v made.events reads made.did;
      told = answers known made.events c d s t p v since below reads made.did;
    }

-- a line was read
record ToldLine (known : List Event) (s : Sight) (line : LineAt) (words : List ℕ) (t : Sight) (d : Private) : Type 0 where
  events : List Event
  did : Did s events t
  since : Since (known ++ events) d
  told : IsLineTold (known ++ events) line words

regroup : (k a b c d : List Event) → (((k ++ a) ++ b) ++ c) ++ d ≡ k ++ (((a ++ b) ++ c) ++ d)
regroup k a b c d = simp append_assoc

four_told : (es : List Event) (line : LineAt) (words : List ℕ) → IsValueKnown es (word_of_line line 0) (slice_index words 0)
    → IsValueKnown es (word_of_line line 1) (slice_index words 1) → IsValueKnown es (word_of_line line 2) (slice_index words 2)
    → IsValueKnown es (word_of_line line 3) (slice_index words 3) → IsLineTold es line words
four_told es line words a b c d zero h = a
four_told es line words a b c d (suc zero) h = b
four_told es line words a b c d (suc (suc zero)) h = c
four_told es line words a b c d (suc (suc (suc zero))) h = d
four_told es line words a b c d (suc (suc (suc (suc k)))) h = absurd (omega arith)

told_line : (known : List Event) (c d : Private) (s t : Sight) (line : LineAt) (words : List ℕ) → Since known c → ReadsLine s c line words t d → ToldLine known s line words t d
told_line known c d s t line words since r =
    let w0 = told_word known c r.c1 s r.s1 (word_of_line line 0) (slice_index words 0) (omega arith) since r.word0 in
    let k1 = known ++ w0.events in
    let w1 = told_word k1 r.c1 r.c2 r.s1 r.s2 (word_of_line line 1) (slice_index words 1) (omega arith) w0.since r.word1 in
    let k2 = k1 ++ w1.events in
    let w2 = told_word k2 r.c2 r.c3 r.s2 r.s3 (word_of_line line 2) (slice_index words 2) (omega arith) w1.since r.word2 in
    let k3 = k2 ++ w2.events in
    let w3 = told_word k3 r.c3 d r.s3 t (word_of_line line 3) (slice_index words 3) (omega arith) w2.since r.word3 in
    let k4 = k3 ++ w3.events in
    let all = ((w0.events ++ w1.events) ++ w2.events) ++ w3.events in
    let is : k4 ≡ known ++ all = regroup known w0.events w1.events w2.events w3.events in
    let p0 = word_of_line line 0 in
    let p1 = word_of_line line 1 in
    let p2 = word_of_line line 2 in
    let v0 = slice_index words 0 in
    let v1 = slice_index words 1 in
    let v2 = slice_index words 2 in
    let one : IsValueKnown k4 p0 v0 = known_more k3 w3.events p0 v0 (known_more k2 w2.events p0 v0 (known_more k1 w1.events p0 v0 w0.told)) in
    let two : IsValueKnown k4 p1 v1 = known_more k3 w3.events p1 v1 (known_more k2 w2.events p1 v1 w1.told) in
    let three : IsValueKnown k4 p2 v2 = known_more k3 w3.events p2 v2 w2.told in
    record {
      events = all;
      did = did_both s ((w0.events ++ w1.events) ++ w2.events) r.s3 w3.events t
          (did_both s (w0.events ++ w1.events) r.s2 w2.events r.s3 (did_both s w0.events r.s1 w1.events r.s2 w0.did w1.did) w2.did) w3.did;
      since = subst (λ es. Since es d) is w3.since;
      told = subst (λ es. IsLineTold es line words) is (four_told k4 line words one two three w3.told);
    }

reads_line : (known es : List Event) (c d : Private) (s t : Sight) (line : LineAt) (words : List ℕ) → Since known c
    → ReadsLine s c line words t d → Did s es t → Since (known ++ es) d × IsLineTold (known ++ es) line words
reads_line known es c d s t line words since reads did =
    let all = told_line known c d s t line words since reads in
    let is : all.events ≡ es = events_once s t all.events es all.did did in
    (subst (λ xs. Since (known ++ xs) d) is all.since, subst (λ xs. IsLineTold (known ++ xs) line words) is all.told)

-- lines were read
record SinceLines (known : List Event) (s t : Sight) (d : Private) : Type 0 where
  events : List Event
  did : Did s events t
  since : Since (known ++ events) d

reads_lines : (dst : List (List ℕ)) (known : List Event) (c d : Private) (s t : Sight) (core line : ℕ) → Since known c → ReadsLines s c core line dst t d → SinceLines known s t d
reads_lines [] known c d s t core line since r = record {
  events = [];
  did = subst (Did s []) (sym r.0) (did_nothing s);
  since = subst (Since (known ++ [])) (sym r.1) (subst (λ es. Since es c) (sym (append-nil known)) since);
}
reads_lines (words ∷ rest) known c d s t core line since r =
    let one = told_line known c r.1 s r.0 (line_at core line) words since r.2 in
    let later = reads_lines rest (known ++ one.events) r.1 d r.0 t core (line + 1) one.since r.3 in
    record {
      events = one.events ++ later.events;
      did = did_both s one.events r.0 later.events t one.did later.did;
      since = subst (λ es. Since es d) (append_assoc known one.events later.events) later.since;
    }

gets : (es : List Event) (c d : Private) (s t : Sight) (core line : ℕ) (dst : List (List ℕ)) → Gets s c core line dst t d → Did s es t → Since es d
gets es c d s t core line dst got did =
    let empty : Private = record c { lines = [] } in
    let all = reads_lines dst [] empty d s t core line (Invalidated empty refl) got.reads in
    subst (λ xs. Since xs d) (events_once s t all.events es all.did did) all.since

-- ---- writes

same_line-refl : (line : LineAt) → same_line line line ≡ true
same_line-refl line = and_from (line.core == line.core) (line.line == line.line) (eq-eqb line.core line.core refl) (eq-eqb line.line line.line refl)

-- the first word of another line begins a line in the buffer
first_held : (out : Option Out) (p : WordAt) (v : ℕ) → handed_out out (line_of_word p) ≡ out → held_after out p v ≡ one_word p v
first_held None p v other = refl
first_held (Some o) p v other = by (same_line o.line (line_of_word p)) refl other
  where
    by : (b : Bool) → same_line o.line (line_of_word p) ≡ b → cond b None (Some o) ≡ Some o → held_after (Some o) p v ≡ one_word p v
    by true e h = absurd (cc (h))
    by false e h = rw e refl

-- a further word joins it
more_held : (o : Out) (p : WordAt) (v : ℕ) → same_line o.line (line_of_word p) ≡ true → held_after (Some o) p v ≡ with_word o p.word v
more_held o p v same = rw same refl

none_out : (out : Option Out) (o : Out) (line : LineAt) → out ≡ Some o → same_line o.line line ≡ true → handed_out out line ≡ None
none_out out o line is same = ap (λ (x : Option Out). handed_out x line) is ∙ rw same refl

-- one more word of the line in the buffer was written, and nothing was stored
joins : (known : List Event) (c : Private) (t : Sight) (o : Out) (p : WordAt) (v : ℕ) → p.word < 4 → c.out ≡ Some o → same_line o.line (line_of_word p) ≡ true → Since known c
    → Since (known ++ store_of p v ∷ []) (record c { lines = lines_with_word c.lines p v; out = Some (with_word o p.word v) })
joins known c t o p v below held same since =
    let next : Private = record c { lines = lines_with_word c.lines p v; out = Some (with_word o p.word v) } in
    let out : Some (held_after c.out p v) ≡ Some (with_word o p.word v) = ap (λ (x : Option Out). Some (held_after x p v)) held ∙ ap (λ (x : Out). Some x) (more_held o p v same) in
    HasWritten known c since t t next p v below (record {
      did = subst (λ (x : Option Out). Did t (stores_of x) t) (sym (none_out c.out o (line_of_word p) held same)) (did_nothing t);
      is = λ i. record c { lines = lines_with_word c.lines p v; out = sym out i };
    })

writes_line : (known : List Event) (c d : Private) (s t : Sight) (line : LineAt) (words : List ℕ) → Since known c
    → handed_out c.out line ≡ c.out → WritesLine s c line words t d → Since (known ++ writes_of line words) d
writes_line known c d s t line words since other writes =
    let v0 = slice_index words 0 in
    let v1 = slice_index words 1 in
    let v2 = slice_index words 2 in
    let v3 = slice_index words 3 in
    let p0 = word_of_line line 0 in
    let p1 = word_of_line line 1 in
    let p2 = word_of_line line 2 in
    let p3 = word_of_line line 3 in
    let o0 : Out = one_word p0 v0 in
    let o1 : Out = with_word o0 1 v1 in
    let o2 : Out = with_word o1 2 v2 in
    let c1 : Private = record c { lines = lines_with_word c.lines p0 v0; out = Some o0 } in
    let c2 : Private = record c1 { lines = lines_with_word c1.lines p1 v1; out = Some o1 } in
    let c3 : Private = record c2 { lines = lines_with_word c2.lines p2 v2; out = Some o2 } in
    let same = same_line-refl line in
    let first = first_held c.out p0 v0 other in
    let a : Since (known ++ store_of p0 v0 ∷ []) c1 = HasWritten known c since s t c1 p0 v0 (omega arith) (record {
      did = subst (λ (x : Option Out). Did s (stores_of x) t) (sym other) writes.did;
      is = λ i. record c { lines = lines_with_word c.lines p0 v0; out = Some (sym first i) };
    }) in
    let b = joins (known ++ store_of p0 v0 ∷ []) c1 t o0 p1 v1 (omega arith) refl same a in
    let e = joins ((known ++ store_of p0 v0 ∷ []) ++ store_of p1 v1 ∷ []) c2 t o1 p2 v2 (omega arith) refl same b in
    let f = joins (((known ++ store_of p0 v0 ∷ []) ++ store_of p1 v1 ∷ []) ++ store_of p2 v2 ∷ []) c3 t o2 p3 v3 (omega arith) refl same e in
    subst (Since (known ++ writes_of line words)) (sym writes.is)
    (subst (λ es. Since es (record c { lines = line_noted c.lines line words; out = Some (whole_line line words) }))
    (regroup known (store_of p0 v0 ∷ []) (store_of p1 v1 ∷ []) (store_of p2 v2 ∷ []) (store_of p3 v3 ∷ [])) f)

-- a line of which one word was written is stored by that word's store
one_stored : (p : WordAt) (v : ℕ) → p.word < 4 → stores_of (Some (one_word p v)) ≡ store_of p v ∷ []
one_stored p v below = by p.core p.line p.word below
  where
    by : (core line word : ℕ) → word < 4 → stores_of (Some (one_word (record { core = core; line = line; word = word }) v))
        ≡ store_of (record { core = core; line = line; word = word }) v ∷ []
    by core line zero lt = refl
    by core line (suc zero) lt = refl
    by core line (suc (suc zero)) lt = refl
    by core line (suc (suc (suc zero))) lt = refl
    by core line (suc (suc (suc (suc word)))) lt = absurd (omega (arith, lt))

-- a word that is stored at once is a word that is written, and a flush
writes_through : (known : List Event) (c d : Private) (s t : Sight) (p : WordAt) (v : ℕ) → Since known c → p.word < 4
    → handed_out c.out (line_of_word p) ≡ c.out → WritesThrough s c p v t d → Since (known ++ store_of p v ∷ []) d
writes_through known c d s t p v since below other writes =
    let stores = stores_of c.out in
    let mid = and_then s stores in
    let written : Private = record c { lines = lines_with_word c.lines p v; out = Some (one_word p v) } in
    let first = first_held c.out p v other in
    let a : Since (known ++ store_of p v ∷ []) written = HasWritten known c since s mid written p v below (record {
      did = subst (λ (x : Option Out). Did s (stores_of x) mid) (sym other) (did_front s stores (store_of p v ∷ []) t writes.did);
      is = λ i. record c { lines = lines_with_word c.lines p v; out = Some (sym first i) };
    }) in
    HasFlushed (known ++ store_of p v ∷ []) written a mid t d (record {
      did = subst (λ (es : List Event). Did mid es t) (sym (one_stored p v below)) (did_left s stores (store_of p v ∷ []) t writes.did);
      is = writes.is;
    })

puts : (src : List (List ℕ)) (known : List Event) (c d : Private) (s t : Sight) (core line : ℕ) → Since known c
    → c.out ≡ None → Puts s c core line src t d → Since (known ++ writes_from core line src) d
puts [] known c d s t core line since none put =
    subst (Since (known ++ [])) (sym put.is) (subst (λ es. Since es c) (sym (append-nil known)) since)
puts (words ∷ rest) known c d s t core line since none put =
    let at = line_at core line in
    let stores = stores_of_line (whole_line at words) in
    let afterwards = put_stores core (line + 1) rest in
    let written : Private = record c { lines = line_noted c.lines at words; out = Some (whole_line at words) } in
    let flushed : Private = record c { lines = line_noted c.lines at words; out = None } in
    let mid = and_then s stores in
    let a = writes_line known c written s s at words since (may_differ c at none)
    (record { did = subst (λ (x : Option Out). Did s (stores_of x) s) (sym none) (did_nothing s); is = refl }) in
    let b = HasFlushed (known ++ writes_of at words) written a s mid flushed (record { did = did_front s stores afterwards t put.did; is = refl }) in
    let later = puts rest (known ++ writes_of at words) flushed d mid t core (line + 1) b refl (record {
      did = did_left s stores afterwards t put.did;
      is = put.is ∙ (λ i. record c { lines = put_lines c.lines core line (words ∷ rest); out = none i });
    }) in
    subst (λ es. Since es d) (append_assoc known (writes_of at words) (writes_from core (line + 1) rest)) later

pub lines : LinesLaw
lines = record {
  line_read = reads_line;
  line_write = writes_line;
  word_through = writes_through;
  put = λ known c d s t core line src. puts src known c d s t core line;
  get = gets;
}
