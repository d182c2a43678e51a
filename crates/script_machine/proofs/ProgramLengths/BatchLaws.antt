-- Laws of the stretches between two ends of passes: what rooms hold of them, and of the passes that are left out.
use Rattle.std.proofs.Common.{◌≡◌, ℕ, zero, suc, ◌<◌, ◌≤◌, true, false, List, [], ◌∷◌, ◌++◌, map, length, drop, slice_get, Option, Some, None, refl, sym, ap, subst, ◌∙◌, arith, append_assoc}
use Rattle.std.proofs.lemmas.List.{append-nil, length-append, map-append, set-get_or}
use Rattle.std.specs.Option.{option_map}
use Rattle.script_machine.specs.declared.prims.Primitive.{Primitive}
use Rattle.script_machine.specs.Lengths.{Lengths, length_of_register, lengths_after, with_register}
use Rattle.script_machine.specs.Passes.{HasPasses, HoldsBefore, IsBatch, KeepsRegisters, LeavesOut, flat_pass}
use Rattle.script_machine.specs.Program.{Prim, copies, prims_in}
use Rattle.script_machine.specs.Rooms.{AreWithin, IsWider, IsWithin, Rooms, spare_length}
use Rattle.script_machine.specs.Walk.{CourseView, is_end, prim_meant, prim_of}
use Rattle.script_machine.proofs.ProgramLengths.RoomLaws.{wider_wider, within_within}
use Rattle.script_machine.proofs.Walks.FlatLaws.{flat_first, pass_walked}
use Rattle.script_machine.proofs.Walks.MarkLaws.{both_prims, copied_prims, same_prims, some_prims}

-- a register that becomes as long as it is
pub kept_register : (l : Lengths) (reg len : ℕ) → length_of_register l reg ≡ len → KeepsRegisters l (with_register l reg len)
kept_register l reg len is =
    ap (λ (n : ℕ). with_register l reg n) (sym is) ∙ ap (λ (r : List ℕ). record l { registers = r }) (set-get_or l.registers reg 0)

pub kept_kept : (l m n : Lengths) → KeepsRegisters l m → KeepsRegisters m n → KeepsRegisters l n
kept_kept l m n one two = two ∙ ap (λ (x : Lengths). record x { accumulator = n.accumulator; received = n.received }) one

-- where the work buffers too are as long as they were
pub kept_same : (l m : Lengths) → KeepsRegisters l m → m.accumulator ≡ l.accumulator → m.received ≡ l.received → m ≡ l
kept_same l m kept folded taken = kept ∙ (λ i. record l { accumulator = folded i; received = taken i })

-- one after the other
pub before_before : (most more : Rooms) (l m n : Lengths) (first second third : List Prim) → IsWider most more → HoldsBefore most l first m second → HoldsBefore more m second n third → HoldsBefore more l first n third
before_before most more l m n first second third wider one two room widest within =
    one room (wider_wider most more room wider widest) (two room widest within)

-- the primitive that comes next
front_there : (left : List (Option Prim)) (prim : Prim) → prim_of (slice_get left 0) ≡ Some prim → left ≡ Some prim ∷ drop 1 left
front_there [] prim is = absurd (cc)
front_there (None ∷ left) prim is = absurd (cc)
front_there (Some p ∷ left) prim is =
    let same : p ≡ prim = cc in
    ap (λ (q : Prim). Some q ∷ left) same

pub front_less : (left : List (Option Prim)) (prim : Prim) → prim_of (slice_get left 0) ≡ Some prim → length (drop 1 left) < length left
front_less left prim is = let all = ap length (front_there left prim is) in omega (arith, all)

-- none comes next
pub none_next : (found : Option Primitive) (next : Option Prim) → option_map prim_meant found ≡ next → ((p : Primitive) → found ≡ Some p → ⊥) → next ≡ None
none_next None next is none = sym is
none_next (Some p) next is none = absurd (none p refl)

pub none_left : (left : List (Option Prim)) → is_end (slice_get left 0) ≡ false → prim_of (slice_get left 0) ≡ None → prims_in left ≡ []
none_left [] other none = refl
none_left (None ∷ left) other none = absurd (cc)
none_left (Some p ∷ left) other none = absurd (cc)

-- a stretch begins, and goes on by a primitive
pub batch_none : (most : Rooms) (l : Lengths) (left : List (Option Prim)) → IsBatch most l l left left
batch_none most l left = record { prims = []; same = refl; holds = λ rest room wider within. within }

held_on : (most more room : Rooms) (m n : Lengths) (prim : Prim) (rest : List Prim) → IsWider most more → IsWider more room → IsWithin m most.lengths → spare_length m prim.act ≤ more.spare
    → n ≡ lengths_after m prim.act → AreWithin room n rest → AreWithin room m (prim ∷ rest)
held_on most more room m n prim rest wider widest here spare next within =
    let all = wider_wider most more room wider widest in
    (within_within m most.lengths room.lengths here all.lengths, (omega (arith, spare, widest.spare), subst (λ (x : Lengths). AreWithin room x rest) next within))

pub batch_more : (most more : Rooms) (l m n : Lengths) (start left after : List (Option Prim)) (prim : Prim) → IsBatch most l m start left → IsWider most more → IsWithin m most.lengths
    → spare_length m prim.act ≤ more.spare → n ≡ lengths_after m prim.act → prim_of (slice_get left 0) ≡ Some prim → after ≡ drop 1 left → IsBatch more l n start after
batch_more most more l m n start left after prim so_far wider here spare next front gone =
    let own = so_far.prims in
    let there : left ≡ Some prim ∷ after = front_there left prim front ∙ ap (λ (r : List (Option Prim)). Some prim ∷ r) (sym gone) in
    record {
      prims = own ++ prim ∷ [];
      same = so_far.same ∙ ap (λ (r : List (Option Prim)). map Some own ++ r) there
          ∙ sym (append_assoc (map Some own) (Some prim ∷ []) after)
          ∙ ap (λ (r : List (Option Prim)). r ++ after) (sym (map-append Some own (prim ∷ [])));
      holds = λ rest room widest within.
          subst (λ (p : List Prim). AreWithin room l p) (sym (append_assoc own (prim ∷ []) rest))
          (so_far.holds (prim ∷ rest) room (wider_wider most more room wider widest) (held_on most more room m n prim rest wider widest here spare next within));
    }

-- its primitives
batch_prims : (most : Rooms) (l m : Lengths) (left after : List (Option Prim)) (s : IsBatch most l m left after) → prims_in left ≡ s.prims ++ prims_in after
batch_prims most l m left after s =
    ap prims_in s.same ∙ both_prims (map Some s.prims) after ∙ ap (λ (p : List Prim). p ++ prims_in after) (some_prims s.prims)

pub batch_holds : (most : Rooms) (l m : Lengths) (left after : List (Option Prim)) → IsBatch most l m left after → HoldsBefore most l (prims_in left) m (prims_in after)
batch_holds most l m left after s room wider within =
    subst (λ (p : List Prim). AreWithin room l p) (sym (batch_prims most l m left after s)) (s.holds (prims_in after) room wider within)

pub batch_shorter : (most : Rooms) (l m : Lengths) (left after : List (Option Prim)) → IsBatch most l m left after → length after ≤ length left
batch_shorter most l m left after s =
    let all = ap length s.same in
    let parts = length-append (map Some s.prims) after in
    omega (arith, all, parts)

-- from an end of a pass over the next pass
pub pass_holds : (most : Rooms) (l m : Lengths) (old next left : List (Option Prim)) → is_end (slice_get old 0) ≡ true → next ≡ drop 1 old → IsBatch most l m next left
    → HoldsBefore most l (prims_in old) m (prims_in left)
pass_holds most l m old next left ends gone s room wider within =
    subst (λ (p : List Prim). AreWithin room l p) (ap prims_in gone ∙ same_prims old ends) (batch_holds most l m next left s room wider within)

-- the pass that was gone over comes next once more
pub record ComesAgain (prims : List Prim) (left : List (Option Prim)) : Type 0 where
  pub more : List (Option Prim)
  pub same : left ≡ None ∷ (map Some prims ++ None ∷ more)

again_by : (most : Rooms) (l m : Lengths) (old next left : List (Option Prim)) (passes : ℕ) (has : HasPasses old (suc (suc passes))) → next ≡ drop 1 old → (s : IsBatch most l m next left)
    → prim_of (slice_get left 0) ≡ None → ComesAgain s.prims left
again_by most l m old next left passes has gone s none =
    let prims = has.prims in
    let afterwards = copies (suc passes) (flat_pass prims) ++ has.rest in
    let first : map Some prims ++ None ∷ afterwards ≡ map Some s.prims ++ left =
    sym (gone ∙ ap (drop 1) has.same ∙ flat_first prims (suc passes) has.rest) ∙ s.same in
    let walked = pass_walked prims s.prims afterwards left first none in
    record {
      more = copies passes (flat_pass prims) ++ has.rest;
      same = sym walked.1 ∙ ap (λ (r : List (Option Prim)). None ∷ r) (flat_first prims passes has.rest)
          ∙ ap (λ (p : List Prim). None ∷ (map Some p ++ None ∷ (copies passes (flat_pass prims) ++ has.rest))) walked.0;
    }

pub comes_again : (most : Rooms) (l m : Lengths) (old next left : List (Option Prim)) (passes : ℕ) → HasPasses old passes → 1 < passes → next ≡ drop 1 old → (s : IsBatch most l m next left)
    → prim_of (slice_get left 0) ≡ None → ComesAgain s.prims left
comes_again most l m old next left zero has more gone s none = absurd (omega (arith, more))
comes_again most l m old next left (suc zero) has more gone s none = absurd (omega (arith, more))
comes_again most l m old next left (suc (suc passes)) has more gone s none = again_by most l m old next left passes has gone s none

pub again_ends : (prims : List Prim) (left : List (Option Prim)) → ComesAgain prims left → is_end (slice_get left 0) ≡ true
again_ends prims left again = ap (λ (r : List (Option Prim)). is_end (slice_get r 0)) again.same

-- what is held once and once more is held as often as one likes
held_copies : (room : Rooms) (l : Lengths) (prims rest : List Prim) → ((more : List Prim) → AreWithin room l more → AreWithin room l (prims ++ more)) → (n : ℕ)
    → AreWithin room l rest → AreWithin room l (copies n prims ++ rest)
held_copies room l prims rest once zero within = within
held_copies room l prims rest once (suc n) within =
    subst (λ (p : List Prim). AreWithin room l p) (sym (append_assoc prims (copies n prims) rest)) (once (copies n prims ++ rest) (held_copies room l prims rest once n within))

-- the primitives of passes
pass_prims : (prims : List Prim) → prims_in (flat_pass prims) ≡ prims
pass_prims prims = both_prims (map Some prims) (None ∷ []) ∙ ap (λ (p : List Prim). p ++ []) (some_prims prims) ∙ append-nil prims

passes_prims : (n : ℕ) (prims : List Prim) (rest : List (Option Prim)) → prims_in (copies n (flat_pass prims) ++ rest) ≡ copies n prims ++ prims_in rest
passes_prims n prims rest =
    both_prims (copies n (flat_pass prims)) rest
    ∙ ap (λ (p : List Prim). p ++ prims_in rest) (copied_prims n (flat_pass prims) ∙ ap (copies n) (pass_prims prims))

-- the passes that are left out are those that come again, or there are none
same_pass : (n : ℕ) (prims walked : List Prim) (rest more left : List (Option Prim)) → left ≡ None ∷ (copies (suc n) (flat_pass prims) ++ rest)
    → left ≡ None ∷ (map Some walked ++ None ∷ more) → prims ≡ walked
same_pass n prims walked rest more left was again =
    let afterwards = copies n (flat_pass prims) ++ rest in
    let both : map Some prims ++ None ∷ afterwards ≡ map Some walked ++ None ∷ more =
    sym (flat_first prims n rest) ∙ ap (drop 1) (sym was ∙ again) in
    (pass_walked prims walked afterwards (None ∷ more) both refl).0

out_by : (room : Rooms) (l : Lengths) (prims walked : List Prim) (rest more left : List (Option Prim)) (n : ℕ) → ((tail : List Prim) → AreWithin room l tail → AreWithin room l (walked ++ tail))
    → left ≡ None ∷ (copies n (flat_pass prims) ++ rest) → left ≡ None ∷ (map Some walked ++ None ∷ more) → AreWithin room l (prims_in rest) → AreWithin room l (copies n prims ++ prims_in rest)
out_by room l prims walked rest more left zero once was again within = within
out_by room l prims walked rest more left (suc n) once was again within =
    let P : List Prim → Type 0 = λ p. AreWithin room l (copies (suc n) p ++ prims_in rest) in
    subst P (sym (same_pass n prims walked rest more left was again)) (held_copies room l walked (prims_in rest) once (suc n) within)

-- over a pass that changes no length, with the passes that are left out
pub quiet_holds : (most : Rooms) (l m : Lengths) (old next left new : List (Option Prim)) → is_end (slice_get old 0) ≡ true → next ≡ drop 1 old → (s : IsBatch most l m next left)
    → ComesAgain s.prims left → LeavesOut left new → m ≡ l → HoldsBefore most l (prims_in old) m (prims_in new)
quiet_holds most l m old next left new ends gone s again out same room wider within =
    let once : (tail : List Prim) → AreWithin room m tail → AreWithin room m (s.prims ++ tail) =
    λ tail held. subst (λ (x : Lengths). AreWithin room x (s.prims ++ tail)) (sym same) (s.holds tail room wider held) in
    let rest : AreWithin room m (prims_in out.rest) = subst (λ (r : List (Option Prim)). AreWithin room m (prims_in r)) out.now within in
    let held = out_by room m out.prims s.prims out.rest again.more left out.passes once out.was again.same rest in
    let here : AreWithin room m (prims_in left) =
    subst (λ (p : List Prim). AreWithin room m p) (sym (ap prims_in out.was ∙ passes_prims out.passes out.prims out.rest)) held in
    pass_holds most l m old next left ends gone s room wider here

-- a course that goes on stays the course that it is
pub course_goes : (old next : CourseView) (left : List (Option Prim)) → next ≡ record old { left = left } → next ≡ record old { left = next.left }
course_goes old next left is = is ∙ (λ i. record old { left = sym (ap (λ (w : CourseView). w.left) is) i })

pub course_same : (old next new : CourseView) → next ≡ record old { left = next.left } → new ≡ record next { left = new.left } → new ≡ record old { left = new.left }
course_same old next new one two = two ∙ ap (λ (w : CourseView). record w { left = new.left }) one
