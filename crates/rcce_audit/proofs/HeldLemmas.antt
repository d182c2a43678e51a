-- Calls with their bytes, which stand one after the other.
use Rattle.std.proofs.Common.{◌≡◌, ℕ, zero, suc, ◌+◌, ◌<◌, List, [], ◌∷◌, ◌++◌, append-nil, append_assoc, length, get_or, map, take, drop, refl, sym, ◌∙◌, ap}
use Rattle.std.proofs.lemmas.List.{drop-drop, drop_more, map-append, take-append-drop, take_more}
use Rattle.scc_base.specs.Calls.{DataCall}
use Rattle.scc_base.specs.declared.calls.Call.{Call}
use Rattle.rcce_io.specs.Sending.{joined_texts}
use Rattle.rcce_audit.specs.Held.{bytes_in, call_with_bytes, calls_with_bytes}
use Rattle.rcce_audit.specs.Pieces.{line_by}
use Rattle.rcce_audit.specs.Texts.{call_lines, text_of}

-- the bytes that are left behind calls
abbrev pub left_after : List Call → List ℕ → List ℕ
left_after [] bytes = bytes
left_after (call ∷ calls) bytes = left_after calls (drop (bytes_in call) bytes)

with_append : (one other : List Call) (bytes : List ℕ) → calls_with_bytes (one ++ other) bytes ≡ calls_with_bytes one bytes ++ calls_with_bytes other (left_after one bytes)
with_append [] other bytes = refl
with_append (call ∷ one) other bytes = ap (λ (l : List DataCall). call_with_bytes call (take (bytes_in call) bytes) ∷ l) (with_append one other (drop (bytes_in call) bytes))

after_append : (one other : List Call) (bytes : List ℕ) → left_after (one ++ other) bytes ≡ left_after other (left_after one bytes)
after_append [] other bytes = refl
after_append (call ∷ one) other bytes = after_append one other (drop (bytes_in call) bytes)

joined_append : (one other : List (List ℕ)) → joined_texts (one ++ other) ≡ joined_texts one ++ joined_texts other
joined_append [] other = refl
joined_append (text ∷ one) other = ap (λ (t : List ℕ). text ++ t) (joined_append one other) ∙ sym (append_assoc text (joined_texts one) (joined_texts other))

-- the lines of calls
abbrev pub list_text : ℕ → List Call → List ℕ → List ℕ
list_text rank calls bytes = joined_texts (map (line_by rank) (calls_with_bytes calls bytes))

text_append : (rank : ℕ) (one other : List Call) (bytes : List ℕ) → list_text rank (one ++ other) bytes ≡ list_text rank one bytes ++ list_text rank other (left_after one bytes)
text_append rank one other bytes =
    ap (λ (l : List DataCall). joined_texts (map (line_by rank) l)) (with_append one other bytes)
    ∙ ap joined_texts (map-append (line_by rank) (calls_with_bytes one bytes) (calls_with_bytes other (left_after one bytes)))
    ∙ joined_append (map (line_by rank) (calls_with_bytes one bytes)) (map (line_by rank) (calls_with_bytes other (left_after one bytes)))

module _ (rank : ℕ) (calls : List Call) (bytes : List ℕ) (i at : ℕ) (call : Call) (within : i < length calls) (is : call ≡ get_or calls i call) (place : drop at bytes ≡ left_after (take i calls) bytes) where
  abbrev own : List ℕ
  own = take (bytes_in call) (drop at bytes)

  more_calls : take (i + 1) calls ≡ take i calls ++ call ∷ []
  more_calls = take_more calls i call within ∙ ap (λ (c : Call). take i calls ++ c ∷ []) (sym is)

  all_calls : calls ≡ take i calls ++ call ∷ drop (i + 1) calls
  all_calls = sym (take-append-drop i calls) ∙ ap (λ (l : List Call). take i calls ++ l) (drop_more calls i call within ∙ ap (λ (c : Call). c ∷ drop (i + 1) calls) (sym is))

  -- one line more
  pub text_more : list_text rank (take (i + 1) calls) bytes ≡ list_text rank (take i calls) bytes ++ line_by rank (call_with_bytes call own)
  text_more =
      ap (λ (l : List Call). list_text rank l bytes) more_calls
      ∙ text_append rank (take i calls) (call ∷ []) bytes
      ∙ ap (λ (b : List ℕ). list_text rank (take i calls) bytes ++ list_text rank (call ∷ []) b) (sym place)
      ∙ ap (λ (t : List ℕ). list_text rank (take i calls) bytes ++ t) (append-nil (line_by rank (call_with_bytes call own)))

  -- the lines before it, it, and those behind it
  pub text_around : list_text rank calls bytes ≡ list_text rank (take i calls) bytes ++ (line_by rank (call_with_bytes call own) ++ list_text rank (drop (i + 1) calls) (drop (bytes_in call) (drop at bytes)))
  text_around =
      ap (λ (l : List Call). list_text rank l bytes) all_calls
      ∙ text_append rank (take i calls) (call ∷ drop (i + 1) calls) bytes
      ∙ ap (λ (b : List ℕ). list_text rank (take i calls) bytes ++ list_text rank (call ∷ drop (i + 1) calls) b) (sym place)

  -- and the bytes behind it
  pub place_more : (n : ℕ) → n ≡ length own → drop (at + n) bytes ≡ left_after (take (i + 1) calls) bytes
  place_more n long =
      sym (drop-drop n at bytes)
      ∙ ap (λ (k : ℕ). drop k (drop at bytes)) long
      ∙ drop_taken (bytes_in call) (drop at bytes)
      ∙ ap (λ (b : List ℕ). drop (bytes_in call) b) place
      ∙ sym (after_append (take i calls) (call ∷ []) bytes)
      ∙ ap (λ (l : List Call). left_after l bytes) (sym more_calls)
    where
      drop_taken : (k : ℕ) (xs : List ℕ) → drop (length (take k xs)) xs ≡ drop k xs
      drop_taken zero xs = refl
      drop_taken (suc k) [] = refl
      drop_taken (suc k) (x ∷ xs) = drop_taken k xs

-- the lines are those of the log
pub held_lines : (rank : ℕ) (calls : List DataCall) → joined_texts (map (line_by rank) calls) ≡ text_of (call_lines rank calls)
held_lines rank [] = refl
held_lines rank (call ∷ calls) = ap (λ (t : List ℕ). line_by rank call ++ t) (held_lines rank calls)
