-- What a monitor keeps of header words, of flags and of a post, after one move more.
use Rattle.std.proofs.Common.{◌≡◌, ℕ, suc, ◌+◌, ◌-◌, ◌%◌, ◌<◌, ◌≤◌, Bool, true, false, ◌&&◌, ◌==◌, nat_lt, if◌then◌else◌, List, [], length, replicate, Option, Some, None, is_none, option_map, slice_index, slice_index_or, slice_set, get_or-set_other, get_or-set_same, refl, sym, ◌∙◌, ap, subst, arith}
use Rattle.std.proofs.lemmas.Bool.Decides.{nat_tests}
use Rattle.std.proofs.lemmas.List.{get_or-replicate}
use Rattle.scc_proto.specs.Messages.{Notes, note_word}
use Rattle.scc_proto.specs.Moves.{post_answered}
use Rattle.scc_proto.specs.Permission.{is_answered_by}
use Rattle.scc_proto.specs.Stages.{InFlight}
use Rattle.scc_proto.specs.Tables.{table_with}
use Rattle.scc_proto.proofs.Tests.{same_or_other, same_by_eqb, put_here, put_there}
use Rattle.rank_monitor.specs.Noted.{IsLineOf}
use Rattle.rank_monitor.specs.Standing.{KeepsFlags, KeepsNotes, KeepsPost, KeepsSaid}
use Rattle.rank_monitor.specs.declared.lines.NotedLine.{NotedLine}
use Rattle.rank_monitor.specs.declared.works.Posted.{Posted}

-- ---- header words of other ranks

-- the slot of one rank, changed with its notes
pub said_put : (said : List (Option NotedLine)) (notes : ℕ → Option Notes) (from : ℕ) (slot : Option NotedLine) (now : Option Notes) → from < length said → KeepsNotes slot now → KeepsSaid said notes
    → KeepsSaid (slice_set said from slot) (table_with notes from now)
said_put said notes from slot now below keeps are j within = same_or_other (KeepsNotes (slice_index_or (slice_set said from slot) j None) (table_with notes from now j)) j from
    (λ t e. subst (λ (i : ℕ). KeepsNotes (slice_index_or (slice_set said from slot) i None) (table_with notes from now i)) (sym e)
    (subst (λ (x : Option NotedLine). KeepsNotes x (table_with notes from now from)) (sym (get_or-set_same said from slot None below))
    (subst (λ (x : Option Notes). KeepsNotes slot x) (sym (put_here notes from now)) keeps)))
    (λ t ne. subst (λ (x : Option NotedLine). KeepsNotes x (table_with notes from now j)) (sym (get_or-set_other said from j slot None ne))
    (subst (λ (x : Option Notes). KeepsNotes (slice_index_or said j None) x) (sym (put_there notes from now j ne)) (are j within)))

-- the notes of one rank, where its slot stays
said_stays : (said : List (Option NotedLine)) (notes : ℕ → Option Notes) (from : ℕ) (now : Option Notes) → now ≡ notes from → KeepsSaid said notes → KeepsSaid said (table_with notes from now)
said_stays said notes from now same are j within = same_or_other (KeepsNotes (slice_index_or said j None) (table_with notes from now j)) j from
    (λ t e. subst (λ (x : Option Notes). KeepsNotes (slice_index_or said j None) x) (sym (ap (table_with notes from now) e ∙ put_here notes from now ∙ same ∙ ap notes (sym e))) (are j within))
    (λ t ne. subst (λ (x : Option Notes). KeepsNotes (slice_index_or said j None) x) (sym (put_there notes from now j ne)) (are j within))

none_kept : (notes : Option Notes) → KeepsNotes None notes → notes ≡ None
none_kept None keeps = refl
none_kept (Some words) keeps = absurd keeps

some_kept : (line : NotedLine) (notes : Option Notes) → KeepsNotes (Some line) notes → (words : Notes) × (notes ≡ Some words) × IsLineOf line words
some_kept line None keeps = absurd keeps
some_kept line (Some words) keeps = (words, refl, keeps)

-- of a rank that was not seen nothing is noted
pub said_unseen : (said : List (Option NotedLine)) (notes : ℕ → Option Notes) (from k v : ℕ) → from < 48 → slice_index_or said from None ≡ None → KeepsSaid said notes
    → KeepsSaid said (table_with notes from (option_map (note_word k v) (notes from)))
said_unseen said notes from k v below none are =
    let is : notes from ≡ None = none_kept (notes from) (subst (λ (x : Option NotedLine). KeepsNotes x (notes from)) none (are from below)) in
    said_stays said notes from (option_map (note_word k v) (notes from)) (ap (option_map (note_word k v)) is ∙ sym is) are

-- one header word more of a rank that was seen
pub said_noted : (said : List (Option NotedLine)) (notes : ℕ → Option Notes) (from k v : ℕ) (line now : NotedLine) → from < 48 → from < length said → slice_index_or said from None ≡ Some line
    → ((words : Notes) → IsLineOf line words → IsLineOf now (note_word k v words)) → KeepsSaid said notes
    → KeepsSaid (slice_set said from (Some now)) (table_with notes from (option_map (note_word k v) (notes from)))
said_noted said notes from k v line now below within some more are =
    let x = some_kept line (notes from) (subst (λ (s : Option NotedLine). KeepsNotes s (notes from)) some (are from below)) in
    said_put said notes from (Some now) (option_map (note_word k v) (notes from)) within
    (subst (λ (n : Option Notes). KeepsNotes (Some now) (option_map (note_word k v) n)) (sym x.1) (more x.0 x.2)) are

-- what is noted of a rank whose slot is this one
pub said_here : (said : List (Option NotedLine)) (notes : ℕ → Option Notes) (from : ℕ) (line : NotedLine) → from < 48 → slice_index_or said from None ≡ Some line → KeepsSaid said notes
    → (words : Notes) × (notes from ≡ Some words) × IsLineOf line words
said_here said notes from line below some are = some_kept line (notes from) (subst (λ (s : Option NotedLine). KeepsNotes s (notes from)) some (are from below))

pub unsaid_here : (said : List (Option NotedLine)) (notes : ℕ → Option Notes) (from : ℕ) → from < 48 → slice_index_or said from None ≡ None → KeepsSaid said notes → notes from ≡ None
unsaid_here said notes from below none are = none_kept (notes from) (subst (λ (s : Option NotedLine). KeepsNotes s (notes from)) none (are from below))

-- the notes after a look that has been told of the ranks below this one
abbrev pub seen_below : ℕ → (ℕ → Bool) → (ℕ → Option Notes) → ℕ → Option Notes
seen_below n is_set notes j = if nat_lt j n && is_set j then Some [] else notes j

pub seen_first : (said : List (Option NotedLine)) (is_set : ℕ → Bool) (notes : ℕ → Option Notes) → KeepsSaid said notes → KeepsSaid said (seen_below 0 is_set notes)
seen_first said is_set notes are j below =
    let none : nat_lt j 0 ≡ false = grind (arith, nat_tests) in
    subst (λ (x : Option Notes). KeepsNotes (slice_index_or said j None) x) (sym (ap (λ (b : Bool). if b && is_set j then Some [] else notes j) none)) (are j below)

pub seen_last : (said : List (Option NotedLine)) (is_set : ℕ → Bool) (notes : ℕ → Option Notes) (n : ℕ) → 48 ≤ n → KeepsSaid said (seen_below n is_set notes) → KeepsSaid said (λ j. if is_set j then Some [] else notes j)
seen_last said is_set notes n all are j below =
    let so : nat_lt j n ≡ true = grind (arith, nat_tests) in
    subst (λ (x : Option Notes). KeepsNotes (slice_index_or said j None) x) (ap (λ (b : Bool). if b && is_set j then Some [] else notes j) so) (are j below)

and_yes : (a b : Bool) → a ≡ true → (a && b) ≡ b
and_yes true b t = refl
and_yes false b t = absurd (cc)

and_no : (a b : Bool) → b ≡ false → (a && b) ≡ false
and_no true b t = t
and_no false b t = refl

-- one rank more
pub seen_set : (said : List (Option NotedLine)) (is_set : ℕ → Bool) (notes : ℕ → Option Notes) (n : ℕ) (line : NotedLine) → n < length said → is_set n ≡ true → IsLineOf line []
    → KeepsSaid said (seen_below n is_set notes) → KeepsSaid (slice_set said n (Some line)) (seen_below (n + 1) is_set notes)
seen_set said is_set notes n line within so blank are j below = same_or_other (KeepsNotes (slice_index_or (slice_set said n (Some line)) j None) (seen_below (n + 1) is_set notes j)) j n
    (λ t e. let low : nat_lt j (n + 1) ≡ true = grind (arith, nat_tests, e) in
    let set : (nat_lt j (n + 1) && is_set j) ≡ true = and_yes (nat_lt j (n + 1)) (is_set j) low ∙ ap is_set e ∙ so in
    subst (λ (x : Option Notes). KeepsNotes (slice_index_or (slice_set said n (Some line)) j None) x) (sym (ap (λ (b : Bool). if b then Some [] else notes j) set))
    (subst (λ (x : Option NotedLine). KeepsNotes x (Some [])) (sym (ap (λ (i : ℕ). slice_index_or (slice_set said n (Some line)) i None) e ∙ get_or-set_same said n (Some line) None within)) blank))
    (λ t ne. let same : nat_lt j (n + 1) ≡ nat_lt j n = grind (arith, nat_tests, ne) in
    subst (λ (x : Option Notes). KeepsNotes (slice_index_or (slice_set said n (Some line)) j None) x) (sym (ap (λ (b : Bool). if b && is_set j then Some [] else notes j) same))
    (subst (λ (x : Option NotedLine). KeepsNotes x (seen_below n is_set notes j)) (sym (get_or-set_other said n j (Some line) None ne)) (are j below)))

pub seen_unset : (said : List (Option NotedLine)) (is_set : ℕ → Bool) (notes : ℕ → Option Notes) (n : ℕ) → is_set n ≡ false
    → KeepsSaid said (seen_below n is_set notes) → KeepsSaid said (seen_below (n + 1) is_set notes)
seen_unset said is_set notes n not_so are j below = same_or_other (KeepsNotes (slice_index_or said j None) (seen_below (n + 1) is_set notes j)) j n
    (λ t e. let new : (nat_lt j (n + 1) && is_set j) ≡ false = and_no (nat_lt j (n + 1)) (is_set j) (ap is_set e ∙ not_so) in
    let old : (nat_lt j n && is_set j) ≡ false = and_no (nat_lt j n) (is_set j) (ap is_set e ∙ not_so) in
    subst (λ (x : Option Notes). KeepsNotes (slice_index_or said j None) x) (ap (λ (b : Bool). if b then Some [] else notes j) (old ∙ sym new)) (are j below))
    (λ t ne. let same : nat_lt j (n + 1) ≡ nat_lt j n = grind (arith, nat_tests, ne) in
    subst (λ (x : Option Notes). KeepsNotes (slice_index_or said j None) x) (sym (ap (λ (b : Bool). if b && is_set j then Some [] else notes j) same)) (are j below))

-- ---- gather flags

pub flags_flipped : (flags : List ℕ) (flips : ℕ → ℕ) (comm value : ℕ) → comm < 16 → comm < length flags → (value == 1 - flips comm % 2) ≡ true → KeepsFlags flags flips
    → KeepsFlags (slice_set flags comm value) (table_with flips comm (suc (flips comm)))
flags_flipped flags flips comm value below within may are c c_below = same_or_other (slice_index (slice_set flags comm value) c ≡ table_with flips comm (suc (flips comm)) c % 2) c comm
    (λ t e. let is : value ≡ 1 - flips comm % 2 = same_by_eqb value (1 - flips comm % 2) may in
    let next : value ≡ suc (flips comm) % 2 = omega (arith, is) in
    ap (λ (i : ℕ). slice_index (slice_set flags comm value) i) e ∙ get_or-set_same flags comm value 0 within ∙ next ∙ ap (λ (n : ℕ). n % 2) (sym (put_here flips comm (suc (flips comm))) ∙ ap (table_with flips comm (suc (flips comm))) (sym e)))
    (λ t ne. get_or-set_other flags comm c value 0 ne ∙ are c c_below ∙ ap (λ (n : ℕ). n % 2) (sym (put_there flips comm (suc (flips comm)) c ne)))

-- ---- posts

pub post_none : (posted : Option Posted) (post : Option InFlight) → KeepsPost posted post → is_none posted ≡ is_none post
post_none None None keeps = refl
post_none None (Some p) keeps = absurd keeps
post_none (Some q) None keeps = absurd keeps
post_none (Some q) (Some p) keeps = refl

pub post_answers : (posted : Option Posted) (q : Posted) (post : Option InFlight) → posted ≡ Some q → KeepsPost posted post → (by : ℕ) → ((q.to == by) && q.is_answered) ≡ is_answered_by by post
post_answers posted q post some keeps by = of post (subst (λ (x : Option Posted). KeepsPost x post) some keeps)
  where
    of : (p : Option InFlight) → KeepsPost (Some q) p → ((q.to == by) && q.is_answered) ≡ is_answered_by by p
    of None k = absurd k
    of (Some p) k = λ i. (k.0 i == by) && k.1 i

pub no_post_answers : (posted : Option Posted) (post : Option InFlight) → posted ≡ None → KeepsPost posted post → (by : ℕ) → false ≡ is_answered_by by post
no_post_answers posted post none keeps by = of post (subst (λ (x : Option Posted). KeepsPost x post) none keeps)
  where
    of : (p : Option InFlight) → KeepsPost None p → false ≡ is_answered_by by p
    of None k = refl
    of (Some p) k = absurd k

-- a post after a look at `ready`
pub post_kept_none : (posted : Option Posted) (post : Option InFlight) (is_set : ℕ → Bool) → posted ≡ None → KeepsPost posted post → KeepsPost posted (option_map (post_answered is_set) post)
post_kept_none posted post is_set none keeps = subst (λ (x : Option Posted). KeepsPost x (option_map (post_answered is_set) post)) (sym none) (of post (subst (λ (x : Option Posted). KeepsPost x post) none keeps))
  where
    of : (p : Option InFlight) → KeepsPost None p → KeepsPost None (option_map (post_answered is_set) p)
    of None k = tt
    of (Some p) k = absurd k

pub post_seen : (posted : Option Posted) (q : Posted) (post : Option InFlight) (is_set : ℕ → Bool) → posted ≡ Some q → is_set q.to ≡ true → KeepsPost posted post
    → KeepsPost (Some (record { to = q.to; is_answered = true })) (option_map (post_answered is_set) post)
post_seen posted q post is_set some so keeps = of post (subst (λ (x : Option Posted). KeepsPost x post) some keeps)
  where
    of : (p : Option InFlight) → KeepsPost (Some q) p → KeepsPost (Some (record { to = q.to; is_answered = true })) (option_map (post_answered is_set) p)
    of None k = absurd k
    of (Some p) k = (k.0, sym (ap (λ (b : Bool). if b then true else p.is_answered) (ap is_set (sym k.0) ∙ so)))

pub post_unseen : (posted : Option Posted) (q : Posted) (post : Option InFlight) (is_set : ℕ → Bool) → posted ≡ Some q → is_set q.to ≡ false → KeepsPost posted post
    → KeepsPost posted (option_map (post_answered is_set) post)
post_unseen posted q post is_set some not_so keeps =
    subst (λ (x : Option Posted). KeepsPost x (option_map (post_answered is_set) post)) (sym some) (of post (subst (λ (x : Option Posted). KeepsPost x post) some keeps))
  where
    of : (p : Option InFlight) → KeepsPost (Some q) p → KeepsPost (Some q) (option_map (post_answered is_set) p)
    of None k = absurd k
    of (Some p) k = (k.0, k.1 ∙ sym (ap (λ (b : Bool). if b then true else p.is_answered) (ap is_set (sym k.0) ∙ not_so)))

-- ---- at the start

pub said_none : KeepsSaid (replicate 48 None) (λ j. None)
said_none j below = subst (λ (x : Option NotedLine). KeepsNotes x None) (sym (get_or-replicate 48 j None None below)) tt

pub flags_unset : KeepsFlags (replicate 16 0) (λ comm. 0)
flags_unset comm below = get_or-replicate 16 comm 0 0 below
