-- The texts of a log's lines, line by line.
use Rattle.std.proofs.Common.{◌≡◌, ℕ, ◌+◌, ◌<◌, List, [], ◌∷◌, ◌++◌, codes, length, get_or, map, take, drop, refl, sym, ap, ◌∙◌, append_assoc, arith}
use Rattle.std.proofs.lemmas.List.{append-nil, take-append-drop, take_more, length-take-le}
use Rattle.rcce_io.specs.Sending.{joined_texts}
use Rattle.rcce_audit.specs.declared.logs.LogCall.{LogCall}
use Rattle.rcce_audit.specs.Logs.{LogView}
use Rattle.rcce_audit.specs.Pieces.{call_text, line_with_feed}
use Rattle.rcce_audit.specs.Texts.{call_lines, head_words, log_text, rule_lines, table_lines, text_of}
use Rattle.rcce_audit.specs.Views.{data_list}

-- lines of two lists
pub text_of-append : (xs ys : List (List ℕ)) → text_of (xs ++ ys) ≡ text_of xs ++ text_of ys
text_of-append [] ys = refl
text_of-append (x ∷ xs) ys = ap (λ (t : List ℕ). (x ++ 10 ∷ []) ++ t) (text_of-append xs ys) ∙ sym (append_assoc (x ++ 10 ∷ []) (text_of xs) (text_of ys))

pub table_lines-append : {X : Type 0} (lines : ℕ → X → List (List ℕ)) (n : ℕ) (xs ys : List X) → table_lines lines n (xs ++ ys) ≡ table_lines lines n xs ++ table_lines lines (n + length xs) ys
table_lines-append {X} lines n [] ys = ap (λ (m : ℕ). table_lines lines m ys) (omega arith)
table_lines-append {X} lines n (x ∷ xs) ys =
    ap (λ (t : List (List ℕ)). lines n x ++ t) (table_lines-append lines (n + 1) xs ys ∙ ap (λ (m : ℕ). table_lines lines (n + 1) xs ++ table_lines lines m ys) (omega arith))
    ∙ sym (append_assoc (lines n x) (table_lines lines (n + 1) xs) (table_lines lines (n + length (x ∷ xs)) ys))

-- the text of the first things of a table, and of the next one
pub table-more : {X : Type 0} (lines : ℕ → X → List (List ℕ)) (xs : List X) (i : ℕ) (d : X) → i < length xs
    → text_of (table_lines lines 0 (take (i + 1) xs)) ≡ text_of (table_lines lines 0 (take i xs)) ++ text_of (lines i (get_or xs i d))
table-more {X} lines xs i d within =
    let at : 0 + length (take i xs) ≡ i = omega (arith, length-take-le i xs (omega arith)) in
    ap (λ (l : List X). text_of (table_lines lines 0 l)) (take_more xs i d within)
    ∙ ap text_of (table_lines-append lines 0 (take i xs) (get_or xs i d ∷ []))
    ∙ text_of-append (table_lines lines 0 (take i xs)) (table_lines lines (0 + length (take i xs)) (get_or xs i d ∷ []))
    ∙ ap (λ (m : ℕ). text_of (table_lines lines 0 (take i xs)) ++ text_of (lines m (get_or xs i d) ++ [])) at
    ∙ ap (λ (l : List (List ℕ)). text_of (table_lines lines 0 (take i xs)) ++ text_of l) (append-nil (lines i (get_or xs i d)))

-- and of those behind it
pub table-parts : {X : Type 0} (lines : ℕ → X → List (List ℕ)) (xs : List X) (i : ℕ) (d : X) → i < length xs
    → text_of (table_lines lines 0 xs) ≡ text_of (table_lines lines 0 (take i xs)) ++ (text_of (lines i (get_or xs i d)) ++ text_of (table_lines lines (0 + length (take (i + 1) xs)) (drop (i + 1) xs)))
table-parts {X} lines xs i d within =
    let rest = text_of (table_lines lines (0 + length (take (i + 1) xs)) (drop (i + 1) xs)) in
    ap (λ (l : List X). text_of (table_lines lines 0 l)) (sym (take-append-drop (i + 1) xs))
    ∙ ap text_of (table_lines-append lines 0 (take (i + 1) xs) (drop (i + 1) xs))
    ∙ text_of-append (table_lines lines 0 (take (i + 1) xs)) (table_lines lines (0 + length (take (i + 1) xs)) (drop (i + 1) xs))
    ∙ ap (λ (t : List ℕ). t ++ rest) (table-more lines xs i d within)
    ∙ append_assoc (text_of (table_lines lines 0 (take i xs))) (text_of (lines i (get_or xs i d))) rest

-- a rank's calls, one line each
pub calls_text : (rank : ℕ) (calls : List LogCall) → joined_texts (map (call_text rank) calls) ≡ text_of (call_lines rank (data_list calls))
calls_text rank [] = refl
calls_text rank (c ∷ calls) = ap (λ (t : List ℕ). call_text rank c ++ t) (calls_text rank calls)

-- pieces that make a line of words
pub message_pieces : (r verb peer kind comm len hex : List ℕ) → r ++ (codes " " ++ (verb ++ (codes " " ++ (peer ++ (codes " " ++ (kind ++ (codes " " ++ (comm ++ (codes " " ++ (len ++ (codes " " ++ (hex ++ (codes "\n" ++ [])))))))))))))
    ≡ line_with_feed (r ∷ verb ∷ peer ∷ kind ∷ comm ∷ len ∷ hex ∷ [])
message_pieces r verb peer kind comm len hex = sym (simp append_assoc)

pub barrier_pieces : (r comm : List ℕ) → r ++ (codes " bar " ++ (comm ++ (codes "\n" ++ []))) ≡ line_with_feed (r ∷ codes "bar" ∷ comm ∷ [])
barrier_pieces r comm = sym (simp append_assoc)

pub split_pieces : (comm parent how k : List ℕ) → codes "comm " ++ (comm ++ (codes " " ++ (parent ++ (codes " " ++ (how ++ (codes " " ++ (k ++ (codes "\n" ++ [])))))))) ≡ line_with_feed (codes "comm" ∷ comm ∷ parent ∷ how ∷ k ∷ [])
split_pieces comm parent how k = sym (simp append_assoc)

-- the text of a log, part by part
pub log_parts : (log : LogView) → log_text log ≡ line_with_feed (head_words log.nue) ++ (text_of (table_lines rule_lines 0 log.comms) ++ text_of (table_lines call_lines 0 log.lists))
log_parts log = ap (λ (t : List ℕ). line_with_feed (head_words log.nue) ++ t) (text_of-append (table_lines rule_lines 0 log.comms) (table_lines call_lines 0 log.lists))
