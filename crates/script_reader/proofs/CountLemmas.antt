-- Statements with a fixed number of words after the first one: any other number is a fault.
use Rattle.std.proofs.Common.{◌≡◌, ℕ, List, [], ◌∷◌, arith, get_or, length, map, refl, Err, Result}
use Rattle.script_rules.specs.declared.fault.FaultKind.{FaultKind}
use Rattle.script_rules.specs.declared.fault.FaultKind.TheVariants as kind
use Rattle.script_reader.specs.declared.said.Local.{Local}
use Rattle.script_reader.specs.declared.said.Said.{Said}
use Rattle.script_rules.specs.declared.version.Version.{Version}
use Rattle.script_rules.specs.declared.version.Version.TheVariants as version
use Rattle.script_reader.specs.Counts.{of_five_words, of_four_words, of_six_words, of_three_words, of_two_words}
use Rattle.script_reader.specs.Said.{hex_print_said, parent_split_said, print_said, split_said, typed_print_said, world_split_said}

pub six-is : {A B : Type 0} (words : List A) (bytes : A → List ℕ) (none : A) (says : List ℕ → List ℕ → List ℕ → List ℕ → List ℕ → List ℕ → Result B FaultKind) (r : Result B FaultKind) → r ≡ says (bytes (get_or words 0 none)) (bytes (get_or words 1 none)) (bytes (get_or words 2 none)) (bytes (get_or words 3 none)) (bytes (get_or words 4 none)) (bytes (get_or words 5 none)) → length words ≡ 6 → r ≡ of_six_words says (map bytes words)
six-is (a ∷ b ∷ c ∷ d ∷ e ∷ f ∷ []) bytes none says r is long = is
six-is _ bytes none says r is long = absurd (omega (arith, long))

pub six-other : {A B : Type 0} (words : List A) (bytes : A → List ℕ) (says : List ℕ → List ℕ → List ℕ → List ℕ → List ℕ → List ℕ → Result B FaultKind) → (length words ≡ 6 → ⊥) → Err kind.WrongCount ≡ of_six_words says (map bytes words)
six-other (a ∷ b ∷ c ∷ d ∷ e ∷ f ∷ []) bytes says other = absurd (other refl)
six-other _ bytes says other = refl

pub five-is : {A B : Type 0} (words : List A) (bytes : A → List ℕ) (none : A) (says : List ℕ → List ℕ → List ℕ → List ℕ → List ℕ → Result B FaultKind) (r : Result B FaultKind) → r ≡ says (bytes (get_or words 0 none)) (bytes (get_or words 1 none)) (bytes (get_or words 2 none)) (bytes (get_or words 3 none)) (bytes (get_or words 4 none)) → length words ≡ 5 → r ≡ of_five_words says (map bytes words)
five-is (a ∷ b ∷ c ∷ d ∷ e ∷ []) bytes none says r is long = is
five-is _ bytes none says r is long = absurd (omega (arith, long))

pub five-other : {A B : Type 0} (words : List A) (bytes : A → List ℕ) (says : List ℕ → List ℕ → List ℕ → List ℕ → List ℕ → Result B FaultKind) → (length words ≡ 5 → ⊥) → Err kind.WrongCount ≡ of_five_words says (map bytes words)
five-other (a ∷ b ∷ c ∷ d ∷ e ∷ []) bytes says other = absurd (other refl)
five-other _ bytes says other = refl

pub four-is : {A B : Type 0} (words : List A) (bytes : A → List ℕ) (none : A) (says : List ℕ → List ℕ → List ℕ → List ℕ → Result B FaultKind) (r : Result B FaultKind) → r ≡ says (bytes (get_or words 0 none)) (bytes (get_or words 1 none)) (bytes (get_or words 2 none)) (bytes (get_or words 3 none)) → length words ≡ 4 → r ≡ of_four_words says (map bytes words)
four-is (a ∷ b ∷ c ∷ d ∷ []) bytes none says r is long = is
four-is _ bytes none says r is long = absurd (omega (arith, long))

pub four-other : {A B : Type 0} (words : List A) (bytes : A → List ℕ) (says : List ℕ → List ℕ → List ℕ → List ℕ → Result B FaultKind) → (length words ≡ 4 → ⊥) → Err kind.WrongCount ≡ of_four_words says (map bytes words)
four-other (a ∷ b ∷ c ∷ d ∷ []) bytes says other = absurd (other refl)
four-other _ bytes says other = refl

pub three-is : {A B : Type 0} (words : List A) (bytes : A → List ℕ) (none : A) (says : List ℕ → List ℕ → List ℕ → Result B FaultKind) (r : Result B FaultKind) → r ≡ says (bytes (get_or words 0 none)) (bytes (get_or words 1 none)) (bytes (get_or words 2 none)) → length words ≡ 3 → r ≡ of_three_words says (map bytes words)
three-is (a ∷ b ∷ c ∷ []) bytes none says r is long = is
three-is _ bytes none says r is long = absurd (omega (arith, long))

pub three-other : {A B : Type 0} (words : List A) (bytes : A → List ℕ) (says : List ℕ → List ℕ → List ℕ → Result B FaultKind) → (length words ≡ 3 → ⊥) → Err kind.WrongCount ≡ of_three_words says (map bytes words)
three-other (a ∷ b ∷ c ∷ []) bytes says other = absurd (other refl)
three-other _ bytes says other = refl

pub two-is : {A B : Type 0} (words : List A) (bytes : A → List ℕ) (none : A) (says : List ℕ → List ℕ → Result B FaultKind) (r : Result B FaultKind) → r ≡ says (bytes (get_or words 0 none)) (bytes (get_or words 1 none)) → length words ≡ 2 → r ≡ of_two_words says (map bytes words)
two-is (a ∷ b ∷ []) bytes none says r is long = is
two-is _ bytes none says r is long = absurd (omega (arith, long))

pub two-other : {A B : Type 0} (words : List A) (bytes : A → List ℕ) (says : List ℕ → List ℕ → Result B FaultKind) → (length words ≡ 2 → ⊥) → Err kind.WrongCount ≡ of_two_words says (map bytes words)
two-other (a ∷ b ∷ []) bytes says other = absurd (other refl)
two-other _ bytes says other = refl

pub print-one : {A : Type 0} (words : List A) (bytes : A → List ℕ) (none : A) (r : Result Local FaultKind) → r ≡ hex_print_said (bytes (get_or words 0 none)) → length words ≡ 1 → r ≡ print_said (map bytes words)
print-one [] bytes none r is long = absurd (omega (arith, long))
print-one (a ∷ []) bytes none r is long = is
print-one (a ∷ b ∷ words) bytes none r is long = absurd (omega (arith, long))

pub print-two : {A : Type 0} (words : List A) (bytes : A → List ℕ) (none : A) (r : Result Local FaultKind) → r ≡ typed_print_said (bytes (get_or words 0 none)) (bytes (get_or words 1 none)) → length words ≡ 2 → r ≡ print_said (map bytes words)
print-two [] bytes none r is long = absurd (omega (arith, long))
print-two (a ∷ []) bytes none r is long = absurd (omega (arith, long))
print-two (a ∷ b ∷ []) bytes none r is long = is
print-two (a ∷ b ∷ c ∷ words) bytes none r is long = absurd (omega (arith, long))

pub print-other : {A : Type 0} (words : List A) (bytes : A → List ℕ) → (length words ≡ 1 → ⊥) → (length words ≡ 2 → ⊥) → Err kind.WrongCount ≡ print_said (map bytes words)
print-other [] bytes one two = refl
print-other (a ∷ []) bytes one two = absurd (one refl)
print-other (a ∷ b ∷ []) bytes one two = absurd (two refl)
print-other (a ∷ b ∷ c ∷ words) bytes one two = refl

pub split-three : {A : Type 0} (by : Version) (words : List A) (bytes : A → List ℕ) (none : A) (r : Result Said FaultKind) → r ≡ world_split_said (bytes (get_or words 0 none)) (bytes (get_or words 1 none)) (bytes (get_or words 2 none)) → length words ≡ 3 → r ≡ split_said by (map bytes words)
split-three version.One [] bytes none r is long = absurd (omega (arith, long))
split-three version.One (a ∷ []) bytes none r is long = absurd (omega (arith, long))
split-three version.One (a ∷ b ∷ []) bytes none r is long = absurd (omega (arith, long))
split-three version.One (a ∷ b ∷ c ∷ []) bytes none r is long = is
split-three version.One (a ∷ b ∷ c ∷ d ∷ words) bytes none r is long = absurd (omega (arith, long))
split-three version.Two [] bytes none r is long = absurd (omega (arith, long))
split-three version.Two (a ∷ []) bytes none r is long = absurd (omega (arith, long))
split-three version.Two (a ∷ b ∷ []) bytes none r is long = absurd (omega (arith, long))
split-three version.Two (a ∷ b ∷ c ∷ []) bytes none r is long = is
split-three version.Two (a ∷ b ∷ c ∷ d ∷ words) bytes none r is long = absurd (omega (arith, long))

pub split-five : {A : Type 0} (words : List A) (bytes : A → List ℕ) (none : A) (r : Result Said FaultKind) → r ≡ parent_split_said (bytes (get_or words 0 none)) (bytes (get_or words 1 none)) (bytes (get_or words 2 none)) (bytes (get_or words 3 none)) (bytes (get_or words 4 none)) → length words ≡ 5 → r ≡ split_said version.Two (map bytes words)
split-five (a ∷ b ∷ c ∷ d ∷ e ∷ []) bytes none r is long = is
split-five _ bytes none r is long = absurd (omega (arith, long))

pub split-early : {A : Type 0} (words : List A) (bytes : A → List ℕ) → length words ≡ 5 → Err kind.WrongCount ≡ split_said version.One (map bytes words)
split-early (a ∷ b ∷ c ∷ d ∷ e ∷ []) bytes long = refl
split-early _ bytes long = absurd (omega (arith, long))

pub split-other : {A : Type 0} (by : Version) (words : List A) (bytes : A → List ℕ) → (length words ≡ 3 → ⊥) → (length words ≡ 5 → ⊥) → Err kind.WrongCount ≡ split_said by (map bytes words)
split-other version.One [] bytes three five = refl
split-other version.One (a ∷ []) bytes three five = refl
split-other version.One (a ∷ b ∷ []) bytes three five = refl
split-other version.One (a ∷ b ∷ c ∷ []) bytes three five = absurd (three refl)
split-other version.One (a ∷ b ∷ c ∷ d ∷ []) bytes three five = refl
split-other version.One (a ∷ b ∷ c ∷ d ∷ e ∷ []) bytes three five = absurd (five refl)
split-other version.One (a ∷ b ∷ c ∷ d ∷ e ∷ f ∷ words) bytes three five = refl
split-other version.Two [] bytes three five = refl
split-other version.Two (a ∷ []) bytes three five = refl
split-other version.Two (a ∷ b ∷ []) bytes three five = refl
split-other version.Two (a ∷ b ∷ c ∷ []) bytes three five = absurd (three refl)
split-other version.Two (a ∷ b ∷ c ∷ d ∷ []) bytes three five = refl
split-other version.Two (a ∷ b ∷ c ∷ d ∷ e ∷ []) bytes three five = absurd (five refl)
split-other version.Two (a ∷ b ∷ c ∷ d ∷ e ∷ f ∷ words) bytes three five = refl
