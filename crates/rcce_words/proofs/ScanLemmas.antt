-- A step of the reading of the words, over a list whose items have the bytes of the words.
use Rattle.std.proofs.Common.{◌≡◌, ℕ, ◌+◌, ◌-◌, ◌<◌, ◌≤◌, ◌∙◌, Bool, true, false, sym, ap, arith, List, [], ◌∷◌, drop, get_or, length, map, take, Option, Result, Ok, Err, IsErrAnd}
use Rattle.std.proofs.lemmas.List.{length-drop, take_all}
use Rattle.script_reader.specs.Faults.{◌>>=◌}
use Rattle.rcce_words.specs.CommandLine.{first_of, option_named, scan, take as take_word, takes_value}
use Rattle.rcce_words.specs.declared.command.WordFault.{WordFault}
use Rattle.rcce_words.specs.declared.said.Said.{Said}

-- the fault that a `?` passes on
pub passed_on : {T E : Type 0} (r : Result T E) (e : E) → IsErrAnd r (λ x. x ≡ e) → r ≡ Err e
passed_on (Ok x) e h = absurd h
passed_on (Err x) e h = ap Err h

module _ {A : Type 0} (bytes : A → List ℕ) where
  rest_is : (word : A) (words : List A) → take (length (word ∷ words) - 1) words ≡ words
  rest_is word words = take_all (length (word ∷ words) - 1) words (omega arith)

  take_is : (at : ℕ) (said : Said) (w : A) (words : List A) (word : A) (text : List ℕ) (front : Option (List ℕ)) → text ≡ bytes word → word ≡ w →
      front ≡ first_of (map bytes (take (length (w ∷ words) - 1) words)) →
      take_word at said text front ≡ take_word at said (bytes w) (first_of (map bytes words))
  take_is at said w words word text front named is ahead =
      ap (λ t. take_word at said t front) (named ∙ ap bytes is)
      ∙ ap (λ o. take_word at said (bytes w) o) (ahead ∙ ap (λ ws. first_of (map bytes ws)) (rest_is w words))

  -- a value is passed over
  pub scan_value : (at : ℕ) (is_value after_value : Bool) (said next : Said) (words : List A) (all : Result Said WordFault) →
      1 ≤ length words → is_value ≡ true → next ≡ said → after_value ≡ false → scan at is_value said (map bytes words) ≡ all →
      scan (at + 1) after_value next (map bytes (take (length words - 1) (drop 1 words))) ≡ all
  scan_value at is_value after_value said next [] all some now same low before = absurd (omega (arith, some))
  scan_value at is_value after_value said next (w ∷ words) all some now same low before =
      ap (λ ws. scan (at + 1) after_value next (map bytes ws)) (rest_is w words)
      ∙ ap (λ s. scan (at + 1) after_value s (map bytes words)) same ∙ ap (λ b. scan (at + 1) b said (map bytes words)) low
      ∙ ap (λ b. scan at b said (map bytes (w ∷ words))) (sym now) ∙ before

  -- a word that is no value is taken
  pub scan_word : (at : ℕ) (is_value after_value : Bool) (said taken next : Said) (words : List A) (word : A) (text : List ℕ) (front : Option (List ℕ))
      (all : Result Said WordFault) → 1 ≤ length words → is_value ≡ false → word ≡ get_or words 0 word → text ≡ bytes word →
      front ≡ first_of (map bytes (take (length words - 1) (drop 1 words))) → Ok taken ≡ take_word at said text front → next ≡ taken →
      after_value ≡ takes_value (option_named (bytes word)) → scan at is_value said (map bytes words) ≡ all →
      scan (at + 1) after_value next (map bytes (take (length words - 1) (drop 1 words))) ≡ all
  scan_word at is_value after_value said taken next [] word text front all some now is named ahead gives same value before = absurd (omega (arith, some))
  scan_word at is_value after_value said taken next (w ∷ words) word text front all some now is named ahead gives same value before =
      ap (λ ws. scan (at + 1) after_value next (map bytes ws)) (rest_is w words)
      ∙ ap (λ s. scan (at + 1) after_value s (map bytes words)) same
      ∙ ap (λ b. scan (at + 1) b taken (map bytes words)) (value ∙ ap (λ x. takes_value (option_named (bytes x))) is)
      ∙ ap (λ r. r >>= λ n. scan (at + 1) (takes_value (option_named (bytes w))) n (map bytes words)) (gives ∙ take_is at said w words word text front named is ahead)
      ∙ ap (λ b. scan at b said (map bytes (w ∷ words))) (sym now) ∙ before

  -- the first fault counts
  pub scan_fault : (at : ℕ) (is_value : Bool) (said : Said) (fault : WordFault) (words : List A) (word : A) (text : List ℕ) (front : Option (List ℕ))
      (all : Result Said WordFault) → 1 ≤ length words → is_value ≡ false → word ≡ get_or words 0 word → text ≡ bytes word →
      front ≡ first_of (map bytes (take (length words - 1) (drop 1 words))) → Err fault ≡ take_word at said text front →
      scan at is_value said (map bytes words) ≡ all → Err fault ≡ all
  scan_fault at is_value said fault [] word text front all some now is named ahead gives before = absurd (omega (arith, some))
  scan_fault at is_value said fault (w ∷ words) word text front all some now is named ahead gives before =
      ap (λ r. r >>= λ n. scan (at + 1) (takes_value (option_named (bytes w))) n (map bytes words)) (gives ∙ take_is at said w words word text front named is ahead)
      ∙ ap (λ b. scan at b said (map bytes (w ∷ words))) (sym now) ∙ before

  -- behind the last word nothing is left
  pub scan_end : (at : ℕ) (is_value : Bool) (said : Said) (words : List A) (all : Result Said WordFault) → length words < 1 →
      scan at is_value said (map bytes words) ≡ all → Ok said ≡ all
  scan_end at is_value said [] all none before = before
  scan_end at is_value said (word ∷ words) all none before = absurd (omega (arith, none))

-- one word more is counted
pub count_on : {A : Type 0} (at : ℕ) (words : List A) (all : ℕ) → 1 ≤ length words → at + length words ≡ all →
    at + 1 + length (take (length words - 1) (drop 1 words)) ≡ all
count_on at words all some before =
    let left = take_all (length words - 1) (drop 1 words) (omega (arith, length-drop 1 words)) in
    omega (arith, ap length left, length-drop 1 words)
