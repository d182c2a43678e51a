-- What noted words in slots say.
use Rattle.std.proofs.Common.{◌≡◌, ℕ, zero, suc, ◌+◌, ◌<◌, Bool, true, false, ◌&&◌, ◌==◌, if◌then◌else◌, List, [], length, replicate, Option, Some, None, SomeIff, is_some, unwrap_or, slice_index_or, slice_set, get_or-set_other, get_or-set_same, refl, sym, ◌∙◌, ap, subst, arith}
use Rattle.std.proofs.lemmas.List.{get_or-replicate}
use Rattle.scc_base.specs.Heads.{MessageHead, IsHead, IsPostHead}
use Rattle.scc_proto.specs.Messages.{Notes, noted_word, note_word, has_all, head_of, is_head, is_post_head}
use Rattle.scc_proto.specs.Moves.{is_posted}
use Rattle.scc_proto.specs.Permission.{is_post_word, is_whole_header, says_head}
use Rattle.scc_proto.proofs.Words.NoteFacts.{noted_here, noted_there}
use Rattle.scc_proto.proofs.Tests.{same_or_other, both_second, true_not_false}
use Rattle.scc_proto.proofs.Words.WordFacts.{head_is, is_head_of, post_head_is, is_post_head_of}
use Rattle.rank_monitor.specs.Noted.{AreSlotsOf, TellsHead}

-- ---- slots

pub slots_none : (n : ℕ) → AreSlotsOf n (replicate n None) []
slots_none n k below = get_or-replicate n k None None below

pub slots_set : (n : ℕ) (slots : List (Option ℕ)) (notes : Notes) (k v : ℕ) → k < length slots → AreSlotsOf n slots notes → AreSlotsOf n (slice_set slots k (Some v)) (note_word k v notes)
slots_set n slots notes k v below are i within = same_or_other (slice_index_or (slice_set slots k (Some v)) i None ≡ noted_word (note_word k v notes) i) i k
    (λ t e. ap (λ (j : ℕ). slice_index_or (slice_set slots k (Some v)) j None) e ∙ get_or-set_same slots k (Some v) None below ∙ sym (noted_here k v notes) ∙ ap (λ (j : ℕ). noted_word (note_word k v notes) j) (sym e))
    (λ t ne. get_or-set_other slots k i (Some v) None ne ∙ are i within ∙ sym (noted_there k v notes i ne))

-- ---- all words

and_false : (b : Bool) → (b && false) ≡ false
and_false true = refl
and_false false = refl

pub lacks : (notes : Notes) (n k : ℕ) → k < n → noted_word notes k ≡ None → has_all notes n ≡ false
unfolding has_all
lacks notes zero k lt none = absurd (omega (arith, lt))
lacks notes (suc n) k lt none = same_or_other (has_all notes (suc n) ≡ false) k n
    (λ t e. ap (λ (o : Option ℕ). is_some o && has_all notes n) (ap (noted_word notes) (sym e) ∙ none))
    (λ t ne. ap (λ (b : Bool). is_some (noted_word notes n) && b) (lacks notes n k (omega (arith, lt, ne)) none) ∙ and_false (is_some (noted_word notes n)))

pub has_next : (notes : Notes) (n v : ℕ) → has_all notes n ≡ true → noted_word notes n ≡ Some v → has_all notes (suc n) ≡ true
unfolding has_all
has_next notes n v all is = λ i. is_some (is i) && all i

pub has_none : (notes : Notes) → has_all notes 0 ≡ true
unfolding has_all
has_none notes = refl

pub has_more : (notes : Notes) (n : ℕ) (slot : Option ℕ) → has_all notes n ≡ true → slot ≡ noted_word notes n → is_some slot ≡ true → has_all notes (n + 1) ≡ true
has_more notes n None all is some = absurd (cc)
has_more notes n (Some v) all is some = let next : suc n ≡ n + 1 = omega arith in ap (λ (k : ℕ). has_all notes k) (sym next) ∙ has_next notes n v all (sym is)

pub none_is : (slot : Option ℕ) → is_some slot ≡ false → slot ≡ None
none_is None t = refl
none_is (Some v) t = absurd (cc)

-- ---- heads

not_head : (head : MessageHead) → (IsHead head → ⊥) → is_head head ≡ false
not_head head none = by (is_head head) refl
  where
    by : (b : Bool) → is_head head ≡ b → b ≡ false
    by true t = absurd (none (head_is head t))
    by false t = refl

not_post_head : (head : MessageHead) → (IsPostHead head → ⊥) → is_post_head head ≡ false
not_post_head head none = by (is_post_head head) refl
  where
    by : (b : Bool) → is_post_head head ≡ b → b ≡ false
    by true t = absurd (none (post_head_is head t))
    by false t = refl

three : (notes : Notes) (kind comm len : ℕ) → noted_word notes 0 ≡ Some kind → noted_word notes 1 ≡ Some comm → noted_word notes 2 ≡ Some len → has_all notes 3 ≡ true
unfolding has_all
three notes kind comm len a b c = λ i. is_some (c i) && (is_some (b i) && (is_some (a i) && true))

head_words : (notes : Notes) (kind comm len : ℕ) → noted_word notes 0 ≡ Some kind → noted_word notes 1 ≡ Some comm → noted_word notes 2 ≡ Some len → head_of notes ≡ record { kind = kind; comm = comm; len = len }
head_words notes kind comm len a b c = λ i. record { kind = unwrap_or (a i) 0; comm = unwrap_or (b i) 0; len = unwrap_or (c i) 0 }

pub says_by : (notes : Notes) (kind comm len : ℕ) (said : Option MessageHead) → noted_word notes 0 ≡ Some kind → noted_word notes 1 ≡ Some comm → noted_word notes 2 ≡ Some len
    → SomeIff said (IsHead (record { kind = kind; comm = comm; len = len })) (record { kind = kind; comm = comm; len = len }) → TellsHead notes said
says_by notes kind comm len None a b c not_so =
    let all = three notes kind comm len a b c in
    let head = head_words notes kind comm len a b c in
    let none = not_head (record { kind = kind; comm = comm; len = len }) not_so in
    (λ i. all i && is_head (head i)) ∙ none
says_by notes kind comm len (Some h) a b c so =
    let all = three notes kind comm len a b c in
    let head = head_words notes kind comm len a b c in
    let valid = is_head_of (record { kind = kind; comm = comm; len = len }) so.0 in
    ((λ i. all i && is_head (head i)) ∙ valid, head ∙ sym so.1)

-- a word that is missing says no head
pub says_none : (notes : Notes) (k : ℕ) → k < 3 → noted_word notes k ≡ None → TellsHead notes None
says_none notes k lt none = ap (λ (b : Bool). b && is_head (head_of notes)) (lacks notes 3 k lt none)

-- ---- header lines

no_head_line : (a b c d : Bool) → (b && c) ≡ false → ((a && b) && (c && d)) ≡ false
no_head_line true true true d t = absurd (cc)
no_head_line true true false d t = refl
no_head_line true false c d t = refl
no_head_line false b c d t = refl

pub line_no_head : (notes : Notes) → TellsHead notes None → is_whole_header notes ≡ false
unfolding has_all
line_no_head notes none = no_head_line (is_some (noted_word notes 3)) (has_all notes 3) (is_head (head_of notes)) (is_post_word notes) none

pub line_no_word : (notes : Notes) → noted_word notes 3 ≡ None → is_whole_header notes ≡ false
line_no_word notes none = ap (λ (b : Bool). b && (is_head (head_of notes) && is_post_word notes)) (lacks notes 4 3 (omega arith) none)

both_parts : (a b c d : Bool) → a ≡ true → (b && c) ≡ true → ((a && b) && (c && d)) ≡ d
both_parts true true true d t u = refl
both_parts true true false d t u = absurd (cc)
both_parts true false c d t u = absurd (cc)
both_parts false b c d t u = absurd (cc)

line_is : (notes : Notes) (head : MessageHead) (word : ℕ) → TellsHead notes (Some head) → noted_word notes 3 ≡ Some word → is_whole_header notes ≡ is_post_word notes
unfolding has_all
line_is notes head word says is = both_parts (is_some (noted_word notes 3)) (has_all notes 3) (is_head (head_of notes)) (is_post_word notes) (ap (λ (o : Option ℕ). is_some o) is) says.0

-- word 3 is this one
post_word : (notes : Notes) (head : MessageHead) (word : ℕ) → head_of notes ≡ head → noted_word notes 3 ≡ Some word → is_post_word notes ≡ (if word == 1 then is_post_head head else word == 0)
post_word notes head word at is = λ i. if unwrap_or (is i) 0 == 1 then is_post_head (at i) else unwrap_or (is i) 0 == 0

pub line_posted : (notes : Notes) (head : MessageHead) (word : ℕ) (post : Option MessageHead) → TellsHead notes (Some head) → noted_word notes 3 ≡ Some word → word ≡ 1 → SomeIff post (IsPostHead head) head
    → is_some post ≡ is_whole_header notes
line_posted notes head word post says is one made =
    by post made ∙ sym (line_is notes head word says is ∙ post_word notes head word says.1 is ∙ ap (λ (w : ℕ). if w == 1 then is_post_head head else w == 0) one)
  where
    by : (p : Option MessageHead) → SomeIff p (IsPostHead head) head → is_some p ≡ is_post_head head
    by None not_so = sym (not_post_head head not_so)
    by (Some h) so = sym (is_post_head_of head so.0)

pub line_plain : (notes : Notes) (head : MessageHead) (word : ℕ) → TellsHead notes (Some head) → noted_word notes 3 ≡ Some word → (word == 1) ≡ false → (word == 0) ≡ is_whole_header notes
line_plain notes head word says is other =
    sym (line_is notes head word says is ∙ post_word notes head word says.1 is ∙ ap (λ (b : Bool). if b then is_post_head head else word == 0) other)

-- ---- whole header lines

pub line_says : (notes : Notes) (said : Option MessageHead) → TellsHead notes said → is_whole_header notes ≡ true → (head : MessageHead) × (said ≡ Some head)
line_says notes None none whole = true_not_false (sym whole ∙ line_no_head notes none)
line_says notes (Some head) says whole = (head, refl)

then_first : {A : Type 0} (b : Bool) (x y : A) → b ≡ true → (if b then x else y) ≡ x
then_first true x y t = refl
then_first false x y t = absurd (cc)

-- a header line of a message to be posted has a head that a posted message may have
pub line_is_post : (notes : Notes) (head : MessageHead) → is_whole_header notes ≡ true → is_posted notes ≡ true → head_of notes ≡ head → IsPostHead head
line_is_post notes head whole posted at =
    let rest = both_second (has_all notes 4) (is_head (head_of notes) && is_post_word notes) whole in
    let word = both_second (is_head (head_of notes)) (is_post_word notes) rest in
    subst IsPostHead at (post_head_is (head_of notes) (sym (then_first (is_posted notes) (is_post_head (head_of notes)) (unwrap_or (noted_word notes 3) 0 == 0) posted) ∙ word))

pub says_whether : (notes : Notes) (said : Option MessageHead) → TellsHead notes said → is_some said ≡ says_head notes
says_whether notes None none = sym none
says_whether notes (Some head) says = sym says.0

pub says_some : (notes : Notes) (said : Option MessageHead) → TellsHead notes said → says_head notes ≡ true → (head : MessageHead) × (said ≡ Some head)
says_some notes None none says = true_not_false (sym says ∙ none)
says_some notes (Some head) is says = (head, refl)
