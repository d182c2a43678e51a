-- Texts that are sent one behind the other.
use Rattle.std.proofs.Common.{◌≡◌, ℕ, ◌+◌, ◌<◌, ◌≤◌, List, [], ◌∷◌, ◌++◌, map, length, take, drop, get_or, refl, ap, sym, ◌∙◌, append_assoc, arith, length-append, Option, Some, None, option_map, Result, Ok, Err}
use Rattle.std.proofs.Math.Seq.{take-append_seam}
use Rattle.std.proofs.lemmas.Bool.{false≢true}
use Rattle.std.proofs.lemmas.List.{append-nil, map-append, take-append-drop, take_all, take_more}
use Rattle.std.specs.Result.{IsErr}
use Rattle.rcce_io.specs.declared.writing.WriteFault.{WriteFault}
use Rattle.rcce_io.specs.Sending.{SinkView, with_text, with_fault, CutShort, Sends, RestWaits, Gathers, joined_texts}

-- to take nothing is to take the empty text
taken-none : (taken : Option (List ℕ)) → option_map (λ t. t ++ []) taken ≡ taken
taken-none None = refl
taken-none (Some bytes) = ap (λ b. Some b) (append-nil bytes)

pub text_none : (sink : SinkView) → with_text [] sink ≡ sink
text_none sink = ap (λ (t : Option (List ℕ)). let s : SinkView = record { taken = t; faults = sink.faults } in s) (taken-none sink.taken)

-- a text and then another is both
taken-more : (taken : Option (List ℕ)) (a b : List ℕ) →
    option_map (λ t. t ++ b) (option_map (λ t. t ++ a) taken) ≡ option_map (λ t. t ++ (a ++ b)) taken
taken-more None a b = refl
taken-more (Some bytes) a b = ap (λ t. Some t) (append_assoc bytes a b)

pub text_more : (sink : SinkView) (a b : List ℕ) → with_text b (with_text a sink) ≡ with_text (a ++ b) sink
text_more sink a b = ap (λ (t : Option (List ℕ)). let s : SinkView = record { taken = t; faults = sink.faults } in s) (taken-more sink.taken a b)

-- a whole text and then another one
pub text_after : (before between after : SinkView) (a b : List ℕ) →
    between ≡ with_text a before → after ≡ with_text b between → after ≡ with_text (a ++ b) before
text_after before between after a b first second = second ∙ ap (with_text b) first ∙ text_more before a b

-- a whole text and then one that is cut short
pub cut_after : (before between after : SinkView) (a b : List ℕ) →
    between ≡ with_text a before → CutShort b between after → CutShort (a ++ b) before after
cut_after before between after a b first second = record {
  front = a ++ second.front;
  back = second.back;
  whole = ap (λ t. a ++ t) second.whole ∙ sym (append_assoc a second.front second.back);
  missing = second.missing;
  left = second.left ∙ ap (λ (s : SinkView). with_fault (with_text second.front s)) first ∙ ap with_fault (text_more before a second.front);
}

-- a text that is cut short, and another behind it
pub cut_then : (before after : SinkView) (a b : List ℕ) → CutShort a before after → CutShort (a ++ b) before after
cut_then before after a b cut = record {
  front = cut.front;
  back = cut.back ++ b;
  whole = ap (λ t. t ++ b) cut.whole ∙ append_assoc cut.front cut.back b;
  missing = let _size = length-append cut.back b in omega (arith, length-append cut.back b, cut.missing);
  left = cut.left;
}

-- one text, and then another is sent
pub sends_after : (before between after : SinkView) (a b : List ℕ) (r : Result (Unit {0}) WriteFault) →
    between ≡ with_text a before → Sends b between after r → Sends (a ++ b) before after r
sends_after before between after a b (Ok _) first second = text_after before between after a b first second
sends_after before between after a b (Err _) first second = cut_after before between after a b first second

-- a text that was cut short, behind an answer that says so
pub sends_err : (before after : SinkView) (text : List ℕ) (r : Result (Unit {0}) WriteFault) →
    IsErr r → CutShort text before after → Sends text before after r
sends_err before after text (Ok _) failed cut = absurd (false≢true failed)
sends_err before after text (Err _) failed cut = cut

-- a text of which a front was sent, and then the rest
pub whole_within : (before between after : SinkView) (a b text : List ℕ) →
    text ≡ a ++ b → between ≡ with_text a before → after ≡ with_text b between → after ≡ with_text text before
whole_within before between after a b text parts first second = rw parts (text_after before between after a b first second)

-- a text of which a front was sent, when the next piece was cut short
pub cut_within : (before between after : SinkView) (a b rest text : List ℕ) →
    text ≡ a ++ (b ++ rest) → between ≡ with_text a before → CutShort b between after → CutShort text before after
cut_within before between after a b rest text parts first second =
    rw parts (cut_after before between after a (b ++ rest) first (cut_then between after b rest second))

-- nothing was written yet, and nothing waits
pub waits_none : (sink : SinkView) → RestWaits [] [] sink sink
waits_none sink = record { gone = []; whole = refl; left = sym (text_none sink) }

-- what was taken of the first text, and then of what waited
gone_before : (gone waited a b : List ℕ) → a ≡ gone ++ waited → a ++ b ≡ gone ++ (waited ++ b)
gone_before gone waited a b parts = ap (λ t. t ++ b) parts ∙ append_assoc gone waited b

-- a text behind one of which the rest waits
pub waits_after : (before between after : SinkView) (a b waited waiting : List ℕ) →
    RestWaits a waited before between → RestWaits (waited ++ b) waiting between after → RestWaits (a ++ b) waiting before after
waits_after before between after a b waited waiting first second = record {
  gone = first.gone ++ second.gone;
  whole = gone_before first.gone waited a b first.whole ∙ ap (λ t. first.gone ++ t) second.whole ∙ sym (append_assoc first.gone second.gone waiting);
  left = text_after before between after first.gone second.gone first.left second.left;
}

-- a text behind one of which the rest waited, when both were cut short
pub cut_waiting : (before between after : SinkView) (a b waited : List ℕ) →
    RestWaits a waited before between → CutShort (waited ++ b) between after → CutShort (a ++ b) before after
cut_waiting before between after a b waited first second =
    rw (gone_before first.gone waited a b first.whole) (cut_after before between after first.gone (waited ++ b) first.left second)

-- a text of which the rest waits, and then its next piece
pub waits_within : (before between after : SinkView) (a b waited waiting text : List ℕ) →
    text ≡ a ++ b → RestWaits a waited before between → RestWaits (waited ++ b) waiting between after → RestWaits text waiting before after
waits_within before between after a b waited waiting text parts first second =
    rw parts (waits_after before between after a b waited waiting first second)

-- a text of which the rest waited, when that and the next piece were cut short
pub cut_gathered : (before between after : SinkView) (a b waited rest text : List ℕ) →
    text ≡ a ++ (b ++ rest) → RestWaits a waited before between → CutShort (waited ++ b) between after → CutShort text before after
cut_gathered before between after a b waited rest text parts first second =
    rw (parts ∙ sym (append_assoc a b rest)) (cut_then before after (a ++ b) rest (cut_waiting before between after a b waited first second))

-- the rest of a text is sent
pub sends_waiting : (before between after : SinkView) (a waited : List ℕ) (r : Result (Unit {0}) WriteFault) →
    RestWaits a waited before between → Sends waited between after r → Sends a before after r
sends_waiting before between after a waited (Ok _) first second = rw first.whole (text_after before between after first.gone waited first.left second)
sends_waiting before between after a waited (Err _) first second = rw first.whole (cut_after before between after first.gone waited first.left second)

-- the bytes of a sink that tells them, behind a write that failed
pub cut_grown : (old more front : List ℕ) (count after_count : ℕ) →
    (let after : SinkView = record { taken = Some more; faults = after_count } in after)
    ≡ with_fault (with_text front (record { taken = Some old; faults = count })) → more ≡ old ++ front
cut_grown old more front count after_count same = let taken = ap (λ (s : SinkView). s.taken) same in cc

-- the first bytes of a list that grew are the list
pub front_kept : (old more front kept : List ℕ) (n : ℕ) → more ≡ old ++ front → n ≡ length old → kept ≡ take n more → kept ≡ old
front_kept old more front kept n grown size is =
    is ∙ ap (λ m. take m more) size ∙ ap (λ l. take (length old) l) grown ∙ take-append_seam old front

-- what waited was cut short, behind an answer that says so
pub gathers_err : (before after : SinkView) (text waited waiting : List ℕ) (r : Result (Unit {0}) WriteFault) →
    IsErr r → CutShort waited before after → Gathers text waited waiting before after r
gathers_err before after text waited waiting (Ok _) failed cut = absurd (false≢true failed)
gathers_err before after text waited waiting (Err _) failed cut = cut_then before after waited text cut

-- what waited was sent, and then the text
pub gathers_through : (before between after : SinkView) (text waited waiting : List ℕ) (r : Result (Unit {0}) WriteFault) →
    waiting ≡ [] → between ≡ with_text waited before → Sends text between after r → Gathers text waited waiting before after r
gathers_through before between after text waited waiting (Ok _) none first second = record {
  gone = waited ++ text;
  whole = sym (append-nil (waited ++ text)) ∙ sym (ap (λ t. (waited ++ text) ++ t) none);
  left = text_after before between after waited text first second;
}
gathers_through before between after text waited waiting (Err _) none first second = cut_after before between after waited text first second

-- the texts of two lists
joined-append : (a b : List (List ℕ)) → joined_texts (a ++ b) ≡ joined_texts a ++ joined_texts b
joined-append [] b = refl
joined-append (x ∷ a) b = ap (λ t. x ++ t) (joined-append a b) ∙ sym (append_assoc x (joined_texts a) (joined_texts b))

-- the first texts and the next one
pub joined-more : {P : Type 0} (f : P → List ℕ) (ps : List P) (i : ℕ) (d : P) → i < length ps →
    joined_texts (map f (take (i + 1) ps)) ≡ joined_texts (map f (take i ps)) ++ f (get_or ps i d)
joined-more f ps i d within =
    ap (λ l. joined_texts (map f l)) (take_more ps i d within) ∙ ap joined_texts (map-append f (take i ps) (get_or ps i d ∷ []))
    ∙ joined-append (map f (take i ps)) (f (get_or ps i d) ∷ []) ∙ ap (λ t. joined_texts (map f (take i ps)) ++ t) (append-nil (f (get_or ps i d)))

-- the first texts, the next one and the rest
pub joined-parts : {P : Type 0} (f : P → List ℕ) (ps : List P) (i : ℕ) (d : P) → i < length ps →
    joined_texts (map f ps) ≡ joined_texts (map f (take i ps)) ++ (f (get_or ps i d) ++ joined_texts (map f (drop (i + 1) ps)))
joined-parts f ps i d within =
    ap (λ l. joined_texts (map f l)) (sym (take-append-drop (i + 1) ps)) ∙ ap joined_texts (map-append f (take (i + 1) ps) (drop (i + 1) ps))
    ∙ joined-append (map f (take (i + 1) ps)) (map f (drop (i + 1) ps))
    ∙ ap (λ t. t ++ joined_texts (map f (drop (i + 1) ps))) (joined-more f ps i d within)
    ∙ append_assoc (joined_texts (map f (take i ps))) (f (get_or ps i d)) _

-- the first texts and this next one
pub joined-next : {P : Type 0} (f : P → List ℕ) (ps : List P) (i : ℕ) (x : P) → i < length ps → x ≡ get_or ps i x →
    joined_texts (map f (take (i + 1) ps)) ≡ joined_texts (map f (take i ps)) ++ f x
joined-next f ps i x within is = joined-more f ps i x within ∙ ap (λ y. joined_texts (map f (take i ps)) ++ f y) (sym is)

-- the first texts, this next one and the rest
pub joined-around : {P : Type 0} (f : P → List ℕ) (ps : List P) (i : ℕ) (x : P) → i < length ps → x ≡ get_or ps i x →
    joined_texts (map f ps) ≡ joined_texts (map f (take i ps)) ++ (f x ++ joined_texts (map f (drop (i + 1) ps)))
joined-around f ps i x within is =
    joined-parts f ps i x within ∙ ap (λ y. joined_texts (map f (take i ps)) ++ (f y ++ joined_texts (map f (drop (i + 1) ps)))) (sym is)

-- all texts
pub joined-all : {P : Type 0} (f : P → List ℕ) (ps : List P) (i : ℕ) → length ps ≤ i → joined_texts (map f (take i ps)) ≡ joined_texts (map f ps)
joined-all f ps i past = ap (λ l. joined_texts (map f l)) (take_all i ps past)
