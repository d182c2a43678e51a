-- The repeats of a script, each with the place of its end.
use Rattle.std.proofs.Common.{◌≡◌, ◌⊎◌, ℕ, zero, suc, ◌*◌, ◌<◌, List, [], ◌∷◌, ◌++◌, length, reverse, take, ◌-◌, slice_get, slice_set, Option, Some, None, refl, sym, ap, ◌∙◌, arith, subst, inl, inr, append_assoc}
use Rattle.std.proofs.lemmas.Bool.{cases_lt}
use Rattle.std.proofs.lemmas.Bool.Decides.{eqb_tells}
use Rattle.std.proofs.lemmas.List.{append-nil, length-reverse, reverse-append, reverse-reverse}
use Rattle.std.proofs.lemmas.Option.{slice_get-map, slice_get_within}
use Rattle.std.specs.Option.{option_map, option_map_or}
use Rattle.script_rules.specs.declared.effect.Nesting.{Nesting}
use Rattle.script_rules.specs.declared.effect.Nesting.TheVariants as nesting
use Rattle.script_rules.specs.declared.repeats.Open.{Open}
use Rattle.script_rules.specs.declared.script.Item.{Item}
use Rattle.script_rules.specs.declared.script.Stmt.{Stmt}
use Rattle.script_rules.specs.declared.script.Stmt.TheVariants as stmt
use Rattle.script_rules.specs.Checks.{innermost, open_of, repeats_after, turns_in}
use Rattle.script_rules.specs.Closed.{AreMatched, StayInSection, Closes, HavePasses, IsClosed, stmt_at}
use Rattle.script_rules.specs.Effects.{effect_of}
use Rattle.script_rules.specs.Ends.{with_end_at, with_end_told, told_at, with_end, with_ends}
use Rattle.script_rules.proofs.BareLemmas.{all_bared, bare, bared, bared-with_ends, matched-with_ends, once-with_ends, open-with_ends, within-with_ends}
use Rattle.script_rules.proofs.EndLemmas.{length-with_ends}

-- a statement that is no repeat and no end
record IsOther (s : Stmt) : Type 0 where
  stays : (effect_of s).nesting ≡ nesting.Stays
  no_repeat : (times end : ℕ) → s ≡ stmt.Repeat times end → ⊥
  no_end : (start : ℕ) → s ≡ stmt.End start → ⊥
  same : bare s ≡ s

opens_stays : (times : ℕ) → nesting.Opens times ≡ nesting.Stays → ⊥
opens_stays times is = cc

closes_stays : (start : ℕ) → nesting.Closes start ≡ nesting.Stays → ⊥
closes_stays start is = cc

-- what stays within the repeats is none of them
other-of : (s : Stmt) → (effect_of s).nesting ≡ nesting.Stays → bare s ≡ s → IsOther s
other-of s stays same = record {
  stays = stays;
  no_repeat = λ times end is. opens_stays times (sym (ap (λ (s : Stmt). (effect_of s).nesting) is) ∙ stays);
  no_end = λ start is. closes_stays start (sym (ap (λ (s : Stmt). (effect_of s).nesting) is) ∙ stays);
  same = same;
}

-- what is true of repeats, of ends and of the others
sorted : (P : Stmt → Type 0) → ((times end : ℕ) → P (stmt.Repeat times end)) → ((start : ℕ) → P (stmt.End start)) → ((s : Stmt) → IsOther s → P s) → (s : Stmt) → P s
sorted P repeats ends others (stmt.Repeat times end) = repeats times end
sorted P repeats ends others (stmt.End start) = ends start
sorted P repeats ends others s = others s (other-of s refl refl)

-- the statement at a place that is set, and at another one
set_here : (items : List Item) (place : ℕ) (item new : Item) → slice_get items place ≡ Some item → stmt_at (slice_set items place new) place ≡ Some new.stmt
set_here [] place item new found = absurd cc
set_here (first ∷ items) zero item new found = refl
set_here (first ∷ items) (suc place) item new found = set_here items place item new found

set_other : (items : List Item) (start place : ℕ) (new : Item) → (place ≡ start → ⊥) → stmt_at (slice_set items start new) place ≡ stmt_at items place
set_other [] start place new other = refl
set_other (first ∷ items) zero zero new other = absurd (other refl)
set_other (first ∷ items) zero (suc place) new other = refl
set_other (first ∷ items) (suc start) zero new other = refl
set_other (first ∷ items) (suc start) (suc place) new other = set_other items start place new (λ same. other (ap suc same))

-- the statement after a list
at_seam : (front : List Item) (item : Item) (rest : List Item) (n : ℕ) → length front ≡ n → stmt_at (front ++ item ∷ rest) n ≡ Some item.stmt
at_seam [] item rest zero same = refl
at_seam [] item rest (suc n) same = absurd (omega (arith, same))
at_seam (first ∷ front) item rest zero same = absurd (omega (arith, same))
at_seam (first ∷ front) item rest (suc n) same = at_seam front item rest n (omega (arith, same))

-- statements without the places of their ends: where these are alike, so are the ends, and what is a repeat
bare_in : (o : Option Item) (s : Stmt) → option_map (λ item. item.stmt) o ≡ Some s → option_map (λ item. item.stmt) (option_map bared o) ≡ Some (bare s)
bare_in None s is = absurd cc
bare_in (Some item) s is = let same : item.stmt ≡ s = cc in ap (λ (t : Stmt). Some (bare t)) same

bare_at : (items : List Item) (place : ℕ) (s : Stmt) → stmt_at items place ≡ Some s → stmt_at (all_bared items) place ≡ Some (bare s)
bare_at items place s is = ap (option_map (λ (item : Item). item.stmt)) (slice_get-map bared items place) ∙ bare_in (slice_get items place) s is

bare_end : (start : ℕ) (s : Stmt) → bare s ≡ stmt.End start → s ≡ stmt.End start
bare_end start s is =
    sorted (λ t. bare t ≡ stmt.End start → t ≡ stmt.End start) (λ times end no. absurd cc) (λ first same. same) (λ t other same. sym other.same ∙ same) s is

end_in : (o : Option Item) (start : ℕ) → option_map (λ item. item.stmt) (option_map bared o) ≡ Some (stmt.End start) → option_map (λ item. item.stmt) o ≡ Some (stmt.End start)
end_in None start is = absurd cc
end_in (Some item) start is = let same : bare item.stmt ≡ stmt.End start = cc in ap Some (bare_end start item.stmt same)

end_stays : (items list : List Item) (place start : ℕ) → all_bared items ≡ all_bared list → stmt_at items place ≡ Some (stmt.End start) → stmt_at list place ≡ Some (stmt.End start)
end_stays items list place start same is =
    end_in (slice_get list place) start
    (sym (ap (option_map (λ (item : Item). item.stmt)) (slice_get-map bared list place))
    ∙ sym (ap (λ (all : List Item). stmt_at all place) same)
    ∙ bare_at items place (stmt.End start) is)

clash : (o : Option Stmt) (times end start : ℕ) → o ≡ Some (stmt.Repeat times end) → o ≡ Some (stmt.End start) → ⊥
clash o times end start repeat is = cc

other_end : (o : Option Stmt) (s : Stmt) (start : ℕ) → IsOther s → o ≡ Some s → o ≡ Some (stmt.End start) → ⊥
other_end o s start other here is = let same : s ≡ stmt.End start = cc in other.no_end start same

other_repeat : (items list : List Item) (place : ℕ) (s : Stmt) (times end : ℕ) → all_bared items ≡ all_bared list → IsOther s → stmt_at items place ≡ Some s → stmt_at list place ≡ Some (stmt.Repeat times end) → ⊥
other_repeat items list place s times end same other here is =
    let mine = bare_at items place s here in
    let theirs = bare_at list place (stmt.Repeat times end) is in
    let both : Some (bare s) ≡ Some (stmt.Repeat times 0) = sym mine ∙ ap (λ (all : List Item). stmt_at all place) same ∙ theirs in
    let alike : bare s ≡ stmt.Repeat times 0 = cc in
    other.no_repeat times 0 (sym other.same ∙ alike)

-- an end gives its place to its repeat, and no other statement changes an item
none_in : (items : List Item) (place : ℕ) (o : Option Item) → ((start : ℕ) → option_map (λ item. item.stmt) o ≡ Some (stmt.End start) → ⊥) → option_map_or (λ item. with_end_told items place (effect_of item.stmt).nesting) o items ≡ items
none_in items place None none = refl
none_in items place (Some item) none =
    sorted (λ s. ((start : ℕ) → Some s ≡ Some (stmt.End start) → ⊥) → with_end_told items place (effect_of s).nesting ≡ items)
    (λ times end no. refl) (λ start no. absurd (no start refl)) (λ s other no. ap (with_end_told items place) other.stays) item.stmt none

tells_none : (items : List Item) (place : ℕ) → ((start : ℕ) → stmt_at items place ≡ Some (stmt.End start) → ⊥) → told_at items place ≡ items
tells_none items place none = none_in items place (slice_get items place) none

tells_in : (items : List Item) (place start : ℕ) (o : Option Item) → option_map (λ item. item.stmt) o ≡ Some (stmt.End start) → option_map_or (λ item. with_end_told items place (effect_of item.stmt).nesting) o items ≡ with_end_at items start place
tells_in items place start None is = absurd cc
tells_in items place start (Some item) is = let same : item.stmt ≡ stmt.End start = cc in ap (λ (s : Stmt). with_end_told items place (effect_of s).nesting) same

tells_end : (items : List Item) (place start : ℕ) → stmt_at items place ≡ Some (stmt.End start) → told_at items place ≡ with_end_at items start place
tells_end items place start is = tells_in items place start (slice_get items place) is

-- a repeat after an end was noted: its own end sets its place, any other leaves it as it was
abbrev AfterEnd : List Item → ℕ → ℕ → ℕ → ℕ → ℕ → Type 0
AfterEnd items start told place times end = ((place ≡ start) × (end ≡ told)) ⊎ ((place ≡ start → ⊥) × (stmt_at items place ≡ Some (stmt.Repeat times end)))

as_before : (items : List Item) (start told place times end : ℕ) → ((times end : ℕ) → stmt_at items start ≡ Some (stmt.Repeat times end) → ⊥) → stmt_at items place ≡ Some (stmt.Repeat times end)
    → AfterEnd items start told place times end
as_before items start told place times end none is =
    elim (eqb_tells place start) [
      | inl same ↦ absurd (none times end (sym (ap (stmt_at items) same.1) ∙ is))
      | inr other ↦ inr (λ same. other.1 same, is)
    ]

holds : (items : List Item) (start : ℕ) (item : Item) (s : Stmt) → slice_get items start ≡ Some item → item.stmt ≡ s → stmt_at items start ≡ Some s
holds items start item s found same = ap (option_map (λ (i : Item). i.stmt)) found ∙ ap Some same

some_same : (a b : Stmt) → Some a ≡ Some b → a ≡ b
some_same a b same = cc

end_same : (turns told times end : ℕ) → Some (stmt.Repeat turns told) ≡ Some (stmt.Repeat times end) → end ≡ told
end_same turns told times end same = cc

told_repeat : (items : List Item) (start told place times end : ℕ) (item new : Item) (turns : ℕ) → slice_get items start ≡ Some item → new.stmt ≡ stmt.Repeat turns told
    → stmt_at (slice_set items start new) place ≡ Some (stmt.Repeat times end) → AfterEnd items start told place times end
told_repeat items start told place times end item new turns found is at =
    elim (eqb_tells place start) [
      | inl same ↦ inl (
        same.1,
        end_same turns told times end (ap Some (sym is) ∙ sym (set_here items start item new found) ∙ ap (stmt_at (slice_set items start new)) (sym same.1) ∙ at),
      )
      | inr other ↦ inr (λ same. other.1 same, sym (set_other items start place new (λ same. other.1 same)) ∙ at)
    ]

told_in : (items : List Item) (start told place times end : ℕ) (item : Item) (s : Stmt) → slice_get items start ≡ Some item → item.stmt ≡ s
    → stmt_at (with_end items start told item (effect_of s).nesting) place ≡ Some (stmt.Repeat times end) → AfterEnd items start told place times end
told_in items start told place times end item s found is at =
    sorted (λ t. item.stmt ≡ t → stmt_at (with_end items start told item (effect_of t).nesting) place ≡ Some (stmt.Repeat times end) → AfterEnd items start told place times end)
    (λ turns old same there. told_repeat items start told place times end item (record item { stmt = stmt.Repeat turns told }) turns found refl there)
    (λ first same there.
    as_before items start told place times end (λ turns old repeat. clash (stmt_at items start) turns old first repeat (holds items start item (stmt.End first) found same)) there)
    (λ t other same there.
    as_before items start told place times end
    (λ turns old repeat. other.no_repeat turns old (some_same t (stmt.Repeat turns old) (sym (holds items start item t found same) ∙ repeat)))
    (sym (ap (λ (n : Nesting). stmt_at (with_end items start told item n) place) other.stays) ∙ there))
    s is at

nothing : (o : Option Item) (turns old : ℕ) → o ≡ None → option_map (λ item. item.stmt) o ≡ Some (stmt.Repeat turns old) → ⊥
nothing None turns old found is = cc
nothing (Some item) turns old found is = cc

ended_in : (items : List Item) (start told place times end : ℕ) (o : Option Item) → slice_get items start ≡ o
    → stmt_at (option_map_or (λ item. with_end items start told item (effect_of item.stmt).nesting) o items) place ≡ Some (stmt.Repeat times end) → AfterEnd items start told place times end
ended_in items start told place times end None found at = as_before items start told place times end (λ turns old repeat. nothing (slice_get items start) turns old found repeat) at
ended_in items start told place times end (Some item) found at = told_in items start told place times end item item.stmt found refl at

-- whether the repeat at a place is one of the open ones
abbrev IsOpen : ℕ → List Open → Type 0
IsOpen place [] = ⊥
IsOpen place (repeat ∷ repeats) = (repeat.start ≡ place) ⊎ IsOpen place repeats

open-push : (place : ℕ) (new : Open) (repeats : List Open) → IsOpen place repeats → IsOpen place (repeats ++ new ∷ [])
open-push place new [] is = absurd is
open-push place new (repeat ∷ repeats) is = elim is [ inl here ↦ inl here | inr there ↦ inr (open-push place new repeats there) ]

open-last : (new : Open) (repeats : List Open) → IsOpen new.start (repeats ++ new ∷ [])
open-last new [] = inl refl
open-last new (repeat ∷ repeats) = inr (open-last new repeats)

-- a list of at least two repeats and the list without its first one have the same last repeat
one_less : (n : ℕ) → suc n - 1 ≡ n
one_less n = omega arith

innermost-afterwards : (repeat second : Open) (repeats : List Open) → innermost (repeat ∷ second ∷ repeats) ≡ innermost (second ∷ repeats)
innermost-afterwards repeat second repeats =
    ap (λ (n : ℕ). option_map_or (λ (r : Open). r.start) (slice_get (repeat ∷ second ∷ repeats) n) 0) (one_less (suc (length repeats)))
    ∙ ap (λ (n : ℕ). option_map_or (λ (r : Open). r.start) (slice_get (second ∷ repeats) n) 0) (sym (one_less (length repeats)))

without_last : (repeat second : Open) (repeats : List Open)
    → repeat ∷ take (length (second ∷ repeats) - 1) (second ∷ repeats) ≡ take (length (repeat ∷ second ∷ repeats) - 1) (repeat ∷ second ∷ repeats)
without_last repeat second repeats =
    ap (λ (n : ℕ). repeat ∷ take n (second ∷ repeats)) (one_less (length repeats))
    ∙ ap (λ (n : ℕ). take n (repeat ∷ second ∷ repeats)) (sym (one_less (suc (length repeats))))

open-pop : (place : ℕ) (repeats : List Open) → IsOpen place repeats → (place ≡ innermost repeats → ⊥) → IsOpen place (take (length repeats - 1) repeats)
open-pop place [] is other = absurd is
open-pop place (repeat ∷ []) is other = elim is [ inl here ↦ absurd (other (sym here)) | inr there ↦ absurd there ]
open-pop place (repeat ∷ second ∷ repeats) is other =
    subst (λ (rest : List Open). IsOpen place rest) (without_last repeat second repeats)
    (elim is [
      | inl here ↦ inl here
      | inr there ↦ inr (open-pop place (second ∷ repeats) there (λ last. other (last ∙ sym (innermost-afterwards repeat second repeats))))
    ])

-- each repeat among the first n statements is open, or has the place of its end
abbrev IsTold : List Item → ℕ → ℕ → Type 0
IsTold items place end = (place < end) × (stmt_at items end ≡ Some (stmt.End place))

abbrev AreTold : List Item → ℕ → List Open → List Item → Type 0
AreTold items n repeats list = (place times end : ℕ) → place < n → stmt_at list place ≡ Some (stmt.Repeat times end) → IsOpen place repeats ⊎ IsTold items place end

step_repeat : (items list : List Item) (n : ℕ) (repeats : List Open) (turns old : ℕ) → all_bared list ≡ all_bared items → AreTold items n repeats list → stmt_at items n ≡ Some (stmt.Repeat turns old)
    → AreTold items (suc n) (repeats_after (nesting.Opens turns) n repeats) (told_at list n)
step_repeat items list n repeats turns old same before here =
    subst (λ (l : List Item). AreTold items (suc n) (repeats_after (nesting.Opens turns) n repeats) l)
    (sym (tells_none list n (λ start is. clash (stmt_at items n) turns old start here (end_stays list items n start same is))))
    (λ place times end below is.
    elim (cases_lt place n) [
      | inl less ↦ elim (before place times end less is) [ inl stays ↦ inl (open-push place (record { start = n; turns = turns_in repeats * turns }) repeats stays) | inr told ↦ inr told ]
      | inr past ↦
          let last : place ≡ n = omega (arith, below, past) in
          inl (subst (λ (k : ℕ). IsOpen k (repeats_after (nesting.Opens turns) n repeats)) (sym last) (open-last (record { start = n; turns = turns_in repeats * turns }) repeats))
    ])

step_other : (items list : List Item) (n : ℕ) (repeats : List Open) (s : Stmt) → IsOther s → all_bared list ≡ all_bared items → AreTold items n repeats list → stmt_at items n ≡ Some s
    → AreTold items (suc n) (repeats_after (effect_of s).nesting n repeats) (told_at list n)
step_other items list n repeats s other same before here =
    subst (λ (l : List Item). AreTold items (suc n) (repeats_after (effect_of s).nesting n repeats) l)
    (sym (tells_none list n (λ start is. other_end (stmt_at items n) s start other here (end_stays list items n start same is))))
    (subst (λ (r : List Open). AreTold items (suc n) r list) (sym (ap (λ (m : Nesting). repeats_after m n repeats) other.stays))
    (λ place times end below is.
    elim (cases_lt place n) [
      | inl less ↦ before place times end less is
      | inr past ↦
          let last : place ≡ n = omega (arith, below, past) in
          absurd (other_repeat items list n s times end (sym same) other here (sym (ap (stmt_at list) last) ∙ is))
    ]))

step_end : (items list : List Item) (n : ℕ) (repeats : List Open) (start : ℕ) → all_bared list ≡ all_bared items → all_bared (told_at list n) ≡ all_bared items → AreTold items n repeats list
    → stmt_at items n ≡ Some (stmt.End start) → start ≡ innermost repeats → AreTold items (suc n) (repeats_after (nesting.Closes start) n repeats) (told_at list n)
step_end items list n repeats start same after before here names =
    λ place times end below is.
    elim (cases_lt place n) [
      | inl less ↦ elim (ended_in list start n place times end (slice_get list start) refl (sym (ap (λ (l : List Item). stmt_at l place) (tells_end list n start (end_stays items list n start (sym same) here))) ∙ is)) [
        | inl both ↦ inr (
          subst (λ (k : ℕ). place < k) (sym both.1) less,
          ap (stmt_at items) both.1 ∙ here ∙ ap (λ (k : ℕ). Some (stmt.End k)) (sym both.0),
        )
        | inr both ↦ elim (before place times end less both.1) [ inl stays ↦ inl (open-pop place repeats stays (λ at. both.0 (at ∙ sym names))) | inr told ↦ inr told ]
      ]
      | inr past ↦
          let last : place ≡ n = omega (arith, below, past) in
          absurd (clash (stmt_at (told_at list n) n) times end start (sym (ap (stmt_at (told_at list n)) last) ∙ is) (end_stays items (told_at list n) n start (sym after) here))
    ]

told-with_ends : (past rest items : List Item) → items ≡ reverse past ++ rest → AreMatched past → AreTold items (length past) (open_of past) (with_ends (length past) items)
told-with_ends [] rest items is matched = λ place times end below at. absurd (omega (arith, below))
told-with_ends (item ∷ past) rest items is matched =
    let seam : items ≡ reverse past ++ item ∷ rest = is ∙ ap (λ (l : List Item). l ++ rest) (reverse-append (item ∷ []) past) ∙ append_assoc (reverse past) (item ∷ []) rest in
    let n = length past in
    let before = told-with_ends past (item ∷ rest) items seam matched.0 in
    sorted
    (λ s. stmt_at items n ≡ Some s → Closes (open_of past) (effect_of s).nesting → AreTold items (suc n) (repeats_after (effect_of s).nesting n (open_of past)) (told_at (with_ends n items) n))
    (λ times end here closes. step_repeat items (with_ends n items) n (open_of past) times end (bared-with_ends n items) before here)
    (λ start here closes. step_end items (with_ends n items) n (open_of past) start (bared-with_ends n items) (bared-with_ends (suc n) items) before here closes.1)
    (λ s other here closes. step_other items (with_ends n items) n (open_of past) s other (bared-with_ends n items) before here)
    item.stmt
    (ap (λ (l : List Item). stmt_at l n) seam ∙ at_seam (reverse past) item rest n (length-reverse past))
    matched.1

within : (items : List Item) (place : ℕ) (o : Option Item) (s : Stmt) → slice_get items place ≡ o → option_map (λ item. item.stmt) o ≡ Some s → place < length items
within items place None s found is = absurd cc
within items place (Some item) s found is = slice_get_within items place item found

-- statements without an open repeat, of which each end names the innermost one before it
pub closed-of : (nue : ℕ) (items : List Item) (names : List (List ℕ)) → open_of (reverse items) ≡ [] → AreMatched (reverse items) → StayInSection (reverse items) → HavePasses (reverse items)
    → IsClosed (record { nue = nue; items = with_ends (length items) items; names = names })
closed-of nue items names none matched inside once = record {
  within = within-with_ends (length items) items inside;
  once = once-with_ends (length items) items once;
  none_open = open-with_ends (length items) items ∙ none;
  matched = matched-with_ends (length items) items matched;
  ended = λ place times end at.
      let list = with_ends (length items) items in
      let told : AreTold items (length items) (open_of (reverse items)) list =
      subst (λ (n : ℕ). AreTold items n (open_of (reverse items)) (with_ends n items)) (length-reverse items)
      (told-with_ends (reverse items) [] items (sym (reverse-reverse items) ∙ sym (append-nil (reverse (reverse items)))) matched) in
      let below : place < length items = subst (λ (n : ℕ). place < n) (length-with_ends (length items) items) (within list place (slice_get list place) (stmt.Repeat times end) refl at) in
      elim (told place times end below at) [
        | inl stays ↦ absurd (subst (λ (repeats : List Open). IsOpen place repeats) none stays)
        | inr ends ↦ (ends.0, end_stays items list end place (sym (bared-with_ends (length items) items)) ends.1)
      ];
}
