-- The first line of a trace is read back.
use Rattle.std.proofs.Common.{◌≡◌, ℕ, zero, suc, ◌+◌, ◌-◌, ◌<◌, ◌≤◌, false, ◌==◌, List, [], ◌∷◌, ◌++◌, length, map, replicate, codes, decimal, Option, Some, None, option_map, Ok, refl, sym, ap, subst, ◌∙◌, append_assoc, arith}
use Rattle.std.specs.Prelude.{All, nat_lt}
use Rattle.std.specs.Option.{ok_or}
use Rattle.std.proofs.lemmas.Bool.{cond-false, cond-true, eq-eqb, le-ltb}
use Rattle.std.proofs.lemmas.List.{length-replicate, replicate-append-replicate}
use Rattle.std.proofs.lemmas.List.Elements.{All-nil, All-cons}
use Rattle.std.proofs.lemmas.List.FromFn.{length-map-range_with_len}
use Rattle.rcce_io.specs.Sending.{joined_texts}
use Rattle.rcce_audit.specs.Words.{◌>>=◌, only_if, log_words_of}
use Rattle.rcce_audit.proofs.WordLemmas.{range_said-decimal}
use Rattle.scc_base.specs.Setups.{AreApart, SetupView, host_of}
use Rattle.scc_base.specs.declared.layouts.Layout.{Layout}
use Rattle.trace_writer.specs.Lines.{layout_name}
use Rattle.trace_text.specs.Grammar.{HostTable, TraceHead, all_hosts_said, after_head, first_taken, head_of_words, hosts_said, no_hosts}
use Rattle.trace_text.specs.Traces.{most_line_bytes}
use Rattle.trace_text.specs.Words.{layout_said}
use Rattle.trace_text.specs.declared.faults.TraceFault.{TraceFault}
use Rattle.trace_text.specs.declared.faults.TraceKind.TheVariants as kind
use Rattle.trace_laws.specs.Told.{told_hosts}
use Rattle.trace_laws.proofs.HeadLemmas.{AreOnChip, cores_from, cores_parted, hosts_from, hosts_taken, hosts_word}
use Rattle.trace_laws.proofs.WordLemmas.{last_word, layout_told, layout_word, number_word, word_at}

-- ---- the cores

on_chip : (s : SetupView) (n m : ℕ) → AreOnChip s (n + m) → All (λ c. c < 48) (cores_from s n m)
on_chip s n zero are = All-nil (λ c. c < 48)
on_chip s n (suc m) are =
    All-cons (λ c. c < 48) (host_of s.hosts n) (cores_from s (n + 1) m) (are n (omega arith)) (on_chip s (n + 1) m (λ r below. are r (omega (arith, below))))

cores_told : (s : SetupView) → 1 ≤ s.nue → s.nue ≤ 48 → AreOnChip s s.nue → AreApart s.nue (cores_from s 0 s.nue) → all_hosts_said s.nue (hosts_from s 0 s.nue) ≡ Some (told_hosts s)
unfolding no_hosts
cores_told s some most are apart =
    let cs = cores_from s 0 s.nue in
    let tail : List ℕ = replicate (48 - s.nue) 0 in
    let long : length cs ≡ s.nue = length-map-range_with_len (host_of s.hosts) 0 s.nue in
    let whole : 48 ≡ s.nue + (48 - s.nue) = omega (arith, most) in
    let start : replicate 48 0 ≡ replicate s.nue 0 ++ tail = ap (λ (n : ℕ). replicate n 0) whole ∙ sym (replicate-append-replicate s.nue (48 - s.nue) 0) in
    let all : 0 + length cs ≡ s.nue = omega (arith, long) in
    ap (λ (parts : List (List ℕ)). hosts_said (record { count = 0; hosts = replicate 48 0 }) parts >>= λ table. only_if (table.count == s.nue) table.hosts) (cores_parted s s.nue some are)
    ∙ ap (λ (hosts : List ℕ). hosts_said (record { count = 0; hosts = hosts }) (map decimal cs) >>= λ table. only_if (table.count == s.nue) table.hosts) start
    ∙ ap (λ (o : Option HostTable). o >>= λ table. only_if (table.count == s.nue) table.hosts)
    (hosts_taken [] cs (replicate s.nue 0) tail 0 refl (length-replicate {A = ℕ} s.nue 0 ∙ sym long) (omega (arith, all, most)) (on_chip s 0 s.nue (λ r below. are r (omega (arith, below))))
    (subst (λ (n : ℕ). AreApart n cs) (sym all) apart))
    ∙ cond-true (0 + length cs == s.nue) _ _ (eq-eqb (0 + length cs) s.nue all)

-- ---- the line

-- the line without its line feed
abbrev pub head_body : SetupView → List ℕ
head_body s = codes "rcce trace 1 nue " ++ (decimal s.nue ++ 32 ∷ (codes "layout" ++ 32 ∷ (layout_name s.layout ++ 32 ∷ (codes "hosts" ++ 32 ∷ hosts_from s 0 s.nue))))

abbrev pub head_is : SetupView → List (List ℕ)
head_is s =
    codes "rcce" ∷ codes "trace" ∷ codes "1" ∷ codes "nue" ∷ decimal s.nue ∷ codes "layout" ∷ layout_name s.layout ∷ codes "hosts" ∷ hosts_from s 0 s.nue ∷ []

head_words_are : (s : SetupView) → s.nue ≤ 48 → AreOnChip s s.nue → log_words_of (head_body s) ≡ head_is s
head_words_are s most are =
    let hosts = hosts_from s 0 s.nue in
    let layout = layout_name s.layout in
    let after_nue = codes "layout" ++ 32 ∷ (layout ++ 32 ∷ (codes "hosts" ++ 32 ∷ hosts)) in
    word_at (codes "rcce") (codes "trace 1 nue " ++ (decimal s.nue ++ 32 ∷ after_nue)) refl
    ∙ ap (λ (ws : List (List ℕ)). codes "rcce" ∷ ws) (word_at (codes "trace") (codes "1 nue " ++ (decimal s.nue ++ 32 ∷ after_nue)) refl
    ∙ ap (λ (ws : List (List ℕ)). codes "trace" ∷ ws) (word_at (codes "1") (codes "nue " ++ (decimal s.nue ++ 32 ∷ after_nue)) refl
    ∙ ap (λ (ws : List (List ℕ)). codes "1" ∷ ws) (word_at (codes "nue") (decimal s.nue ++ 32 ∷ after_nue) refl
    ∙ ap (λ (ws : List (List ℕ)). codes "nue" ∷ ws) (word_at (decimal s.nue) after_nue (number_word s.nue (omega (arith, most)))
    ∙ ap (λ (ws : List (List ℕ)). decimal s.nue ∷ ws) (word_at (codes "layout") (layout ++ 32 ∷ (codes "hosts" ++ 32 ∷ hosts)) refl
    ∙ ap (λ (ws : List (List ℕ)). codes "layout" ∷ ws) (word_at layout (codes "hosts" ++ 32 ∷ hosts) (layout_word s.layout)
    ∙ ap (λ (ws : List (List ℕ)). layout ∷ ws) (word_at (codes "hosts") hosts refl
    ∙ ap (λ (ws : List (List ℕ)). codes "hosts" ∷ ws) (last_word hosts (hosts_word s s.nue are)))))))))

-- what the line says
abbrev pub head_read : SetupView → TraceHead
head_read s = record { nue = s.nue; layout = s.layout; hosts = told_hosts s }

head_said_is : (s : SetupView) → 1 ≤ s.nue → s.nue ≤ 48 → AreOnChip s s.nue → AreApart s.nue (cores_from s 0 s.nue) → head_of_words (head_is s) ≡ Some (head_read s)
head_said_is s some most are apart =
    let hosts = hosts_from s 0 s.nue in
    ap (λ (o : Option ℕ). o >>= λ n. layout_said (layout_name s.layout) >>= λ l. all_hosts_said n hosts >>= λ h. Some (record { nue = n; layout = l; hosts = h })) (range_said-decimal 1 48 s.nue some most (omega (arith, most)))
    ∙ ap (λ (o : Option Layout). o >>= λ l. all_hosts_said s.nue hosts >>= λ h. Some (record { nue = s.nue; layout = l; hosts = h })) (layout_told s.layout)
    ∙ ap (λ (o : Option (List ℕ)). o >>= λ h. Some (record { nue = s.nue; layout = s.layout; hosts = h })) (cores_told s some most are apart)

-- a line that is short and whose words are those of a first line
head_taken : (line : List ℕ) (words : List (List ℕ)) (head : TraceHead) → log_words_of line ≡ words → head_of_words words ≡ Some head → nat_lt most_line_bytes (length line) ≡ false → first_taken line ≡ Ok (after_head head)
head_taken line words head are said short =
    ap (λ (o : Option TraceHead). ok_or {E = TraceFault} (option_map after_head o) (record { line = 1; kind = kind.BadHead }))
    (cond-false (nat_lt most_line_bytes (length line)) None (head_of_words (log_words_of line)) short ∙ ap head_of_words are ∙ said)

pub first_told : (s : SetupView) → 1 ≤ s.nue → s.nue ≤ 48 → AreOnChip s s.nue → AreApart s.nue (cores_from s 0 s.nue) → length (head_body s) ≤ 255 → first_taken (head_body s) ≡ Ok (after_head (head_read s))
first_told s some most are apart short = head_taken (head_body s) (head_is s) (head_read s) (head_words_are s most are) (head_said_is s some most are apart) (le-ltb most_line_bytes (length (head_body s)) short)

-- ---- the pieces of the line

pub head_pieces : (s : SetupView) (rest : List ℕ)
    → joined_texts (codes "rcce trace 1 nue " ∷ decimal s.nue ∷ codes " layout " ∷ layout_name s.layout ∷ codes " hosts " ∷ []) ++ (hosts_from s 0 s.nue ++ (codes "\n" ++ rest)) ≡ head_body s ++ 10 ∷ rest
head_pieces s rest = pieces (decimal s.nue) (layout_name s.layout) (hosts_from s 0 s.nue)
  where
    pieces : (n l h : List ℕ) → (codes "rcce trace 1 nue " ++ (n ++ (codes " layout " ++ (l ++ (codes " hosts " ++ []))))) ++ (h ++ (codes "\n" ++ rest))
        ≡ (codes "rcce trace 1 nue " ++ (n ++ 32 ∷ (codes "layout" ++ 32 ∷ (l ++ 32 ∷ (codes "hosts" ++ 32 ∷ h))))) ++ 10 ∷ rest
    pieces n l h = simp append_assoc
