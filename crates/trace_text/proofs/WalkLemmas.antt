-- What the lines of a text say, with one byte more.
use Rattle.std.proofs.Common.{◌≡◌, ℕ, ◌+◌, ◌-◌, ◌<◌, ◌≤◌, Bool, true, false, ◌==◌, if◌then◌else◌, List, [], ◌∷◌, ◌++◌, length, length-append, slice_index_or, take, Option, Some, None, option_map, Result, Ok, Err, codes, refl, sym, ◌∙◌, ap, arith}
use Rattle.std.specs.Prelude.{nat_lt}
use Rattle.std.specs.List.{onto_first, slice_split}
use Rattle.std.specs.Option.{ok_or}
use Rattle.std.specs.Str.{bytes_eq}
use Rattle.std.proofs.Math.Seq.{get_or-append_seam, take-append_seam}
use Rattle.std.proofs.lemmas.Bool.{cond-false, cond-true, le-ltb, lt-ltb, ltb-false, ltb-true}
use Rattle.std.proofs.lemmas.List.{length-take-le, take-append-le, take_all}
use Rattle.std.proofs.lemmas.List.Splits.{slice_split-cons_no, slice_split-cons_yes}
use Rattle.texts.specs.Cuts.{lines_of}
use Rattle.rcce_audit.proofs.ReadingLemmas.{few_parts}
use Rattle.trace_text.specs.Grammar.{TraceHead, TraceReading, all_taken, after_head, first_taken, trace_head_said, last_taken, line_fault, line_taken, lines_taken, trace_of, ◌>->◌}
use Rattle.trace_text.specs.Traces.{TraceView, most_line_bytes, most_trace_bytes, most_trace_lines}
use Rattle.trace_text.specs.Walks.{last_line, trace_lines_said, next_said, text_reading, whole_lines}
use Rattle.trace_text.specs.declared.faults.TraceFault.{TraceFault}
use Rattle.trace_text.specs.declared.faults.TraceKind.TheVariants as kind

-- ---- lists that are cut at some elements

module _ {X : Type 0} (p : X → Bool) where
  -- what is cut of a list, and with one element more
  record Pushes (xs : List X) (y : X) : Type 0 where
    pub whole : List (List X)
    pub last : List X
    pub old : slice_split p xs ≡ whole ++ last ∷ []
    pub no : p y ≡ false → slice_split p (xs ++ y ∷ []) ≡ whole ++ (last ++ y ∷ []) ∷ []
    pub yes : p y ≡ true → slice_split p (xs ++ y ∷ []) ≡ (whole ++ last ∷ []) ++ [] ∷ []

  onto : (x y : X) (xs : List X) → p x ≡ false → (whole : List (List X)) (last : List X) → slice_split p xs ≡ whole ++ last ∷ []
      → (p y ≡ false → slice_split p (xs ++ y ∷ []) ≡ whole ++ (last ++ y ∷ []) ∷ []) → (p y ≡ true → slice_split p (xs ++ y ∷ []) ≡ (whole ++ last ∷ []) ++ [] ∷ []) → Pushes (x ∷ xs) y
  onto x y xs not_so [] last old other passes = record {
    whole = [];
    last = x ∷ last;
    old = slice_split-cons_no p x xs not_so ∙ ap (onto_first x) old;
    no = λ n. slice_split-cons_no p x (xs ++ y ∷ []) not_so ∙ ap (onto_first x) (other n);
    yes = λ t. slice_split-cons_no p x (xs ++ y ∷ []) not_so ∙ ap (onto_first x) (passes t);
  }
  onto x y xs not_so (w ∷ whole) last old other passes = record {
    whole = (x ∷ w) ∷ whole;
    last = last;
    old = slice_split-cons_no p x xs not_so ∙ ap (onto_first x) old;
    no = λ n. slice_split-cons_no p x (xs ++ y ∷ []) not_so ∙ ap (onto_first x) (other n);
    yes = λ t. slice_split-cons_no p x (xs ++ y ∷ []) not_so ∙ ap (onto_first x) (passes t);
  }

  before : (x y : X) (xs : List X) → p x ≡ true → Pushes xs y → Pushes (x ∷ xs) y
  before x y xs so r = record {
    whole = [] ∷ r.whole;
    last = r.last;
    old = slice_split-cons_yes p x xs so ∙ ap (λ (l : List (List X)). [] ∷ l) r.old;
    no = λ n. slice_split-cons_yes p x (xs ++ y ∷ []) so ∙ ap (λ (l : List (List X)). [] ∷ l) (r.no n);
    yes = λ t. slice_split-cons_yes p x (xs ++ y ∷ []) so ∙ ap (λ (l : List (List X)). [] ∷ l) (r.yes t);
  }

  pushes : (xs : List X) (y : X) → Pushes xs y
  pushes [] y = record {
    whole = [];
    last = [];
    old = refl;
    no = λ n. slice_split-cons_no p y [] n;
    yes = λ t. slice_split-cons_yes p y [] t;
  }
  pushes (x ∷ xs) y = by (p x) refl (pushes xs y)
    where
      by : (b : Bool) → p x ≡ b → Pushes xs y → Pushes (x ∷ xs) y
      by true is r = before x y xs is r
      by false is r = onto x y xs is r.whole r.last r.old r.no r.yes

-- ---- the lines of a text

cut_is : (text : List ℕ) (whole : List (List ℕ)) (last : List ℕ) → lines_of text ≡ whole ++ last ∷ [] → (whole_lines text ≡ whole) × (last_line text ≡ last)
unfolding whole_lines last_line
cut_is text whole last is =
    let one : length (whole ++ last ∷ []) - 1 ≡ length whole = omega (arith, length-append whole (last ∷ [])) in (
      ap (λ (ps : List (List ℕ)). take (length ps - 1) ps) is ∙ ap (λ (n : ℕ). take n (whole ++ last ∷ [])) one ∙ take-append_seam whole (last ∷ []),
      ap (λ (ps : List (List ℕ)). slice_index_or ps (length ps - 1) []) is ∙ ap (λ (n : ℕ). slice_index_or (whole ++ last ∷ []) n []) one ∙ get_or-append_seam whole last [] [],
    )

pub no_lines : (whole_lines [] ≡ []) × (last_line [] ≡ [])
no_lines = cut_is [] [] [] refl

pub byte_more : (text : List ℕ) (b : ℕ) → (b == 10) ≡ false → (whole_lines (text ++ b ∷ []) ≡ whole_lines text) × (last_line (text ++ b ∷ []) ≡ last_line text ++ b ∷ [])
byte_more text b other =
    let r = pushes (λ (c : ℕ). c == 10) text b in
    let old = cut_is text r.whole r.last r.old in
    let new = cut_is (text ++ b ∷ []) r.whole (r.last ++ b ∷ []) (r.no other) in
    (new.0 ∙ sym old.0, new.1 ∙ ap (λ (l : List ℕ). l ++ b ∷ []) (sym old.1))

pub line_more : (text : List ℕ) (b : ℕ) → (b == 10) ≡ true → (whole_lines (text ++ b ∷ []) ≡ whole_lines text ++ last_line text ∷ []) × (last_line (text ++ b ∷ []) ≡ [])
line_more text b feed =
    let r = pushes (λ (c : ℕ). c == 10) text b in
    let old = cut_is text r.whole r.last r.old in
    let new = cut_is (text ++ b ∷ []) (r.whole ++ r.last ∷ []) [] (r.yes feed) in
    (new.0 ∙ sym (λ i. old.0 i ++ old.1 i ∷ []), new.1)

-- there are no more lines than bytes
pub few_lines : (text : List ℕ) → length (whole_lines text) ≤ length text
unfolding whole_lines
few_lines text =
    let few = few_parts text (lines_of text) refl in
    let long = length-take-le (length (lines_of text) - 1) (lines_of text) (omega arith) in
    omega (arith, few, long)

-- ---- what lines say

then_ok : {A : Type 0} (r : Result A TraceFault) → (r >-> λ x. Ok x) ≡ r
then_ok (Ok x) = refl
then_ok (Err fault) = refl

then_then : {A B C : Type 0} (r : Result A TraceFault) (f : A → Result B TraceFault) (g : B → Result C TraceFault) → (r >-> λ x. f x >-> g) ≡ ((r >-> f) >-> g)
then_then (Ok x) f g = refl
then_then (Err fault) f g = refl

then_same : {A B : Type 0} (r : Result A TraceFault) (f g : A → Result B TraceFault) → ((x : A) → f x ≡ g x) → (r >-> f) ≡ (r >-> g)
then_same (Ok x) f g same = same x
then_same (Err fault) f g same = refl

-- one line, at its number
abbrev line_at : ℕ → List ℕ → TraceReading → Result TraceReading TraceFault
line_at number line reading = ok_or (line_taken reading line) (record { line = number; kind = line_fault line })

lines_more : (n m : ℕ) (reading : TraceReading) (lines : List (List ℕ)) (line : List ℕ) → m ≡ n + length lines → lines_taken n reading (lines ++ line ∷ []) ≡ (lines_taken n reading lines >-> line_at m line)
lines_more n m reading [] line is = then_ok (line_at n line reading) ∙ ap (λ (k : ℕ). line_at k line reading) (omega (arith, is))
lines_more n m reading (first ∷ lines) line is =
    then_same (line_at n first reading) (λ next. lines_taken (n + 1) next (lines ++ line ∷ [])) (λ next. lines_taken (n + 1) next lines >-> line_at m line)
    (λ next. lines_more (n + 1) m next lines line (omega (arith, is)))
    ∙ then_then (line_at n first reading) (λ next. lines_taken (n + 1) next lines) (line_at m line)

pub said_more : (lines : List (List ℕ)) (line : List ℕ) → trace_lines_said (lines ++ line ∷ []) ≡ Some (next_said (trace_lines_said lines) (length lines) line)
said_more [] line = ap (λ (r : Result TraceReading TraceFault). Some r) (then_ok (first_taken line))
said_more (first ∷ lines) line = ap (λ (r : Result TraceReading TraceFault). Some r)
    (then_same (first_taken first) (λ reading. lines_taken 2 reading (lines ++ line ∷ [])) (λ reading. lines_taken 2 reading lines >-> line_at (length (first ∷ lines) + 1) line)
    (λ reading. lines_more 2 (length (first ∷ lines) + 1) reading lines line (omega arith))
    ∙ then_then (first_taken first) (λ reading. lines_taken 2 reading lines) (line_at (length (first ∷ lines) + 1) line))

-- ---- a line of which only a front is kept

-- a line is kept whole, or it is too long, and so is what is kept
kept_line : (P : Type 0) (line : List ℕ) → (take 256 line ≡ line → P) → (most_line_bytes < length line → most_line_bytes < length (take 256 line) → P) → P
kept_line P line whole long = by (nat_lt 256 (length line)) refl
  where
    by : (b : Bool) → nat_lt 256 (length line) ≡ b → P
    by true is = long (omega (arith, ltb-true 256 (length line) is)) (omega (arith, length-take-le 256 line (omega (arith, ltb-true 256 (length line) is))))
    by false is = whole (take_all 256 line (ltb-false 256 (length line) is))

pub line_cut : (reading : TraceReading) (line : List ℕ) → line_taken reading (take 256 line) ≡ line_taken reading line
line_cut reading line = kept_line (line_taken reading (take 256 line) ≡ line_taken reading line) line (λ whole. ap (line_taken reading) whole)
    (λ long cut. cond-true (nat_lt most_line_bytes (length (take 256 line))) _ _ (lt-ltb most_line_bytes (length (take 256 line)) cut)
    ∙ sym (cond-true (nat_lt most_line_bytes (length line)) _ _ (lt-ltb most_line_bytes (length line) long)))

head_cut : (line : List ℕ) → trace_head_said (take 256 line) ≡ trace_head_said line
head_cut line = kept_line (trace_head_said (take 256 line) ≡ trace_head_said line) line (λ whole. ap trace_head_said whole)
    (λ long cut. cond-true (nat_lt most_line_bytes (length (take 256 line))) _ _ (lt-ltb most_line_bytes (length (take 256 line)) cut)
    ∙ sym (cond-true (nat_lt most_line_bytes (length line)) _ _ (lt-ltb most_line_bytes (length line) long)))

front_cut : (line : List ℕ) → take 4 (take 256 line) ≡ take 4 line
front_cut [] = refl
front_cut (a ∷ []) = refl
front_cut (a ∷ b ∷ []) = refl
front_cut (a ∷ b ∷ c ∷ []) = refl
front_cut (a ∷ b ∷ c ∷ d ∷ line) = refl

pub fault_cut : (line : List ℕ) → line_fault (take 256 line) ≡ line_fault line
fault_cut line = ap (λ (front : List ℕ). if bytes_eq front (codes "comm") then kind.BadComm else kind.BadEvent) (front_cut line)

pub next_cut : (said : Option (Result TraceReading TraceFault)) (before : ℕ) (line : List ℕ) → next_said said before (take 256 line) ≡ next_said said before line
next_cut None before line = ap (λ (o : Option TraceHead). ok_or (option_map after_head o) (record { line = 1; kind = kind.BadHead })) (head_cut line)
next_cut (Some said) before line =
    then_same said (line_at (before + 1) (take 256 line)) (line_at (before + 1) line)
    (λ reading i. ok_or (line_cut reading line i) (record { line = before + 1; kind = fault_cut line i }))

pub push_cut : (line last : List ℕ) (b : ℕ) → line ≡ take 256 last → length line < 256 → line ++ b ∷ [] ≡ take 256 (last ++ b ∷ [])
push_cut line last b is room = by (nat_lt 255 (length last)) refl
  where
    by : (t : Bool) → nat_lt 255 (length last) ≡ t → line ++ b ∷ [] ≡ take 256 (last ++ b ∷ [])
    by true long = absurd (omega (arith, room, ap length is, length-take-le 256 last (omega (arith, ltb-true 255 (length last) long))))
    by false short =
        let low = ltb-false 255 (length last) short in
        ap (λ (l : List ℕ). l ++ b ∷ []) (is ∙ take_all 256 last (omega (arith, low))) ∙ sym (take_all 256 (last ++ b ∷ []) (omega (arith, low, length-append last (b ∷ []))))

pub full_cut : (line last : List ℕ) (b : ℕ) → line ≡ take 256 last → 256 ≤ length line → line ≡ take 256 (last ++ b ∷ [])
full_cut line last b is full = is ∙ sym (take-append-le 256 last (b ∷ []) (by (nat_lt (length last) 256) refl))
  where
    by : (t : Bool) → nat_lt (length last) 256 ≡ t → 256 ≤ length last
    by true short = let low = ltb-true (length last) 256 short in absurd (omega (arith, full, ap length is, ap length (take_all 256 last (omega (arith, low)))))
    by false long = ltb-false (length last) 256 long

-- ---- the end of a text

-- what a text says that ends here, by its lines
abbrev pub ended : Option (Result TraceReading TraceFault) → ℕ → List ℕ → Result TraceView TraceFault
ended None lines last = Err (record { line = 1; kind = kind.BadHead })
ended (Some said) lines last = said >-> last_taken (lines + 1) last

all_ended : (lines : List (List ℕ)) (last : List ℕ) → all_taken lines last ≡ ended (trace_lines_said lines) (length lines) last
all_ended [] last = refl
all_ended (first ∷ lines) last = then_then (first_taken first) (λ reading. lines_taken 2 reading lines) (last_taken (length lines + 2) last)
    ∙ ap (λ (n : ℕ). (first_taken first >-> λ reading. lines_taken 2 reading lines) >-> last_taken n last) (omega arith)

pub text_ended : (text : List ℕ) → length text ≤ most_trace_bytes → trace_of text ≡ (if nat_lt most_trace_lines (length (whole_lines text)) then Err (record { line = 0; kind = kind.TooLong })
    else ended (text_reading text) (length (whole_lines text)) (last_line text))
unfolding whole_lines last_line text_reading
text_ended text within =
    let parts = lines_of text in
    let long : length (take (length parts - 1) parts) ≡ length parts - 1 = length-take-le (length parts - 1) parts (omega arith) in
    cond-false (nat_lt most_trace_bytes (length text)) _ _ (le-ltb most_trace_bytes (length text) within)
    ∙ (λ i. if nat_lt most_trace_lines (sym long i) then Err (record { line = 0; kind = kind.TooLong }) else all_ended (take (length parts - 1) parts) (slice_index_or parts (length parts - 1) []) i)
