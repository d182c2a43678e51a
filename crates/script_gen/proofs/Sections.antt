-- The text of a generated script, section by section, as it is written.
use Rattle.std.proofs.Common.{◌≡◌, ℕ, Bool, true, false, cond, List, [], ◌∷◌, ◌++◌, Result, Ok, Err, OnOk, codes, decimal, refl, sym, ◌∙◌, ap, append_assoc}
use Rattle.std.proofs.lemmas.Bool.{eq-eqb, ne_eqb}
use Rattle.std.proofs.lemmas.List.{append-nil}
use Rattle.rcce_io.specs.Sending.{SinkView, joined_texts, with_text}
use Rattle.rcce_io.proofs.SendingLemmas.{text_after}
use Rattle.script_gen.specs.Texts.{back_text, fill_line, front_text, gen_text, recv_line, section_text, send_line, text_of_lines, turns_of}

pub text_append : (xs ys : List (List ℕ)) → text_of_lines (xs ++ ys) ≡ text_of_lines xs ++ text_of_lines ys
text_append [] ys = refl
text_append (x ∷ xs) ys = ap (λ (t : List ℕ). (x ++ 10 ∷ []) ++ t) (text_append xs ys) ∙ sym (append_assoc (x ++ 10 ∷ []) (text_of_lines xs) (text_of_lines ys))

fill_end : (d rest : List ℕ) → ((d ++ (32 ∷ d)) ++ 10 ∷ []) ++ rest ≡ d ++ (32 ∷ (d ++ (10 ∷ rest)))
fill_end d rest = simp append_assoc

line_end : (d rest : List ℕ) → (d ++ 10 ∷ []) ++ rest ≡ d ++ (10 ∷ rest)
line_end d rest = append_assoc d (10 ∷ []) rest

-- the first lines of a section, and others
head_lines : (ranks d r : List ℕ) (rest : List (List ℕ))
    → text_of_lines (ranks ∷ (codes "fill h " ++ (d ++ (codes " " ++ d))) ∷ codes "rank me long" ∷ (codes "repeat " ++ r) ∷ rest)
    ≡ ranks ++ (codes "\nfill h " ++ (d ++ (codes " " ++ (d ++ (codes "\nrank me long\nrepeat " ++ (r ++ (codes "\n" ++ text_of_lines rest)))))))
head_lines ranks d r rest =
    line_end ranks (codes "fill h " ++ (((d ++ (32 ∷ d)) ++ 10 ∷ []) ++ (codes "rank me long\nrepeat " ++ ((r ++ 10 ∷ []) ++ text_of_lines rest))))
    ∙ ap (λ (t : List ℕ). ranks ++ (codes "\nfill h " ++ t)) (fill_end d (codes "rank me long\nrepeat " ++ ((r ++ 10 ∷ []) ++ text_of_lines rest)))
    ∙ ap (λ (t : List ℕ). ranks ++ (codes "\nfill h " ++ (d ++ (codes " " ++ (d ++ (codes "\nrank me long\nrepeat " ++ t)))))) (line_end r (text_of_lines rest))

-- the lines behind those
abbrev tail_of : List (List ℕ) → List (List ℕ) → List (List ℕ)
tail_of exchange shown = exchange ++ (codes "allreduce 0 sum long me me" ∷ codes "end" ∷ (shown ++ (codes "print long me" ∷ [])))

tail_lines : (exchange shown : List (List ℕ))
    → text_of_lines (tail_of exchange shown)
    ≡ text_of_lines exchange ++ (codes "allreduce 0 sum long me me\nend\n" ++ (text_of_lines shown ++ codes "print long me\n"))
tail_lines exchange shown =
    text_append exchange (codes "allreduce 0 sum long me me" ∷ codes "end" ∷ (shown ++ (codes "print long me" ∷ [])))
    ∙ ap (λ (t : List ℕ). text_of_lines exchange ++ (codes "allreduce 0 sum long me me\nend\n" ++ t)) (text_append shown (codes "print long me" ∷ []))

-- the lines of a section, where these are its lines of the ring
abbrev section_of : List ℕ → ℕ → List (List ℕ) → List (List ℕ) → List (List ℕ)
section_of ranks s exchange shown = ranks ∷ fill_line s ∷ codes "rank me long" ∷ (codes "repeat " ++ decimal (turns_of s)) ∷ tail_of exchange shown

parts : (r f d b m t l e a w p : List ℕ)
    → r ++ (f ++ (d ++ (b ++ (d ++ (m ++ (t ++ (l ++ (e ++ (a ++ (w ++ p))))))))))
    ≡ (r ++ (f ++ (d ++ (b ++ (d ++ (m ++ (t ++ l))))))) ++ (e ++ (a ++ (w ++ p)))
parts r f d b m t l e a w p = simp append_assoc

section_is : (ranks : List ℕ) (s : ℕ) (exchange shown : List (List ℕ)) → text_of_lines (section_of ranks s exchange shown) ≡ section_text ranks s (text_of_lines exchange) (text_of_lines shown)
unfolding section_text
section_is ranks s exchange shown =
    head_lines ranks (decimal s) (decimal (turns_of s)) (tail_of exchange shown)
    ∙ ap (λ (t : List ℕ). ranks ++ (codes "\nfill h " ++ (decimal s ++ (codes " " ++ (decimal s ++ (codes "\nrank me long\nrepeat " ++ (decimal (turns_of s) ++ (codes "\n" ++ t))))))))
    (tail_lines exchange shown)
    ∙ parts ranks (codes "\nfill h ") (decimal s) (codes " ") (codes "\nrank me long\nrepeat ") (decimal (turns_of s)) (codes "\n") (text_of_lines exchange)
    (codes "allreduce 0 sum long me me\nend\n") (text_of_lines shown) (codes "print long me\n")

-- a section that was put behind a text in three parts
pub section_put : {A E : Type 0} (ranks : List ℕ) (s : ℕ) (exchange shown : List ℕ) (old first second third : SinkView) (result : Result A E)
    → first ≡ with_text (front_text ranks s (turns_of s)) old → second ≡ with_text exchange first → OnOk result (third ≡ with_text (back_text shown) second)
    → OnOk result (third ≡ with_text (section_text ranks s exchange shown) old)
unfolding section_text
section_put ranks s exchange shown old first second third (Err failed) front more back = tt
section_put ranks s exchange shown old first second third (Ok done) front more back =
    text_after old first third (front_text ranks s (turns_of s)) (exchange ++ back_text shown) front (text_after first second third exchange (back_text shown) more back)

-- the lines of a script, by whether there is one rank alone
abbrev section_by : Bool → List ℕ → ℕ → List (List ℕ) → List (List ℕ)
section_by alone ranks s exchange = section_of ranks s (cond alone [] exchange) (cond alone [] (codes "print g" ∷ []))

abbrev pub lines_by : Bool → ℕ → List (List ℕ)
lines_by alone s = section_by alone (codes "even") s (send_line ∷ recv_line s ∷ []) ++ section_by alone (codes "odd") s (recv_line s ∷ send_line ∷ [])

pub gen_alone : (nue s : ℕ) → nue ≡ 1 → gen_text nue s ≡ text_of_lines (lines_by true s)
gen_alone nue s one = ap (λ (b : Bool). text_of_lines (lines_by b s)) (eq-eqb nue 1 one)

pub gen_ring : (nue s : ℕ) → (nue ≡ 1 → ⊥) → gen_text nue s ≡ text_of_lines (lines_by false s)
gen_ring nue s other = ap (λ (b : Bool). text_of_lines (lines_by b s)) (ne_eqb nue 1 other)

pub alone_text : (nue s : ℕ) → nue ≡ 1 → section_text (codes "even") s [] [] ++ section_text (codes "odd") s [] [] ≡ gen_text nue s
alone_text nue s one =
    ap (λ (t : List ℕ). t ++ section_text (codes "odd") s [] []) (sym (section_is (codes "even") s [] []))
    ∙ ap (λ (t : List ℕ). text_of_lines (section_of (codes "even") s [] []) ++ t) (sym (section_is (codes "odd") s [] []))
    ∙ sym (text_append (section_of (codes "even") s [] []) (section_of (codes "odd") s [] []))
    ∙ sym (gen_alone nue s one)

-- the lines of a turn round the ring, as they are written
abbrev pub even_pieces : List ℕ → List ℕ
even_pieces d = joined_texts (codes "send +1 h\nrecv -1 g " ∷ d ∷ codes "\n" ∷ [])

abbrev pub odd_pieces : List ℕ → List ℕ
odd_pieces d = joined_texts (codes "recv -1 g " ∷ d ∷ codes "\nsend +1 h\n" ∷ [])

even_ring : (d : List ℕ) → text_of_lines (send_line ∷ (codes "recv -1 g " ++ d) ∷ []) ≡ even_pieces d
even_ring d = ap (λ (t : List ℕ). codes "send +1 h\nrecv -1 g " ++ t) (append-nil (d ++ 10 ∷ []))

odd_ring : (d : List ℕ) → text_of_lines ((codes "recv -1 g " ++ d) ∷ send_line ∷ []) ≡ odd_pieces d
odd_ring d = ap (λ (t : List ℕ). codes "recv -1 g " ++ t) (line_end d (codes "send +1 h\n"))

pub ring_text : (nue s : ℕ) → (nue ≡ 1 → ⊥)
    → section_text (codes "even") s (even_pieces (decimal s)) (codes "print g\n") ++ section_text (codes "odd") s (odd_pieces (decimal s)) (codes "print g\n") ≡ gen_text nue s
ring_text nue s other =
    let shown = codes "print g" ∷ [] in
    let even = send_line ∷ recv_line s ∷ [] in
    let odd = recv_line s ∷ send_line ∷ [] in
    ap (λ (t : List ℕ). section_text (codes "even") s t (codes "print g\n") ++ section_text (codes "odd") s (odd_pieces (decimal s)) (codes "print g\n")) (sym (even_ring (decimal s)))
    ∙ ap (λ (t : List ℕ). section_text (codes "even") s (text_of_lines even) (codes "print g\n") ++ section_text (codes "odd") s t (codes "print g\n")) (sym (odd_ring (decimal s)))
    ∙ ap (λ (t : List ℕ). t ++ section_text (codes "odd") s (text_of_lines odd) (codes "print g\n")) (sym (section_is (codes "even") s even shown))
    ∙ ap (λ (t : List ℕ). text_of_lines (section_of (codes "even") s even shown) ++ t) (sym (section_is (codes "odd") s odd shown))
    ∙ sym (text_append (section_of (codes "even") s even shown) (section_of (codes "odd") s odd shown))
    ∙ sym (gen_ring nue s other)
