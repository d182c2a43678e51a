-- Steps of different owners can be made in either order, an owner has at most one step, and whether it has one is decided.
use Rattle.std.proofs.Common.{◌≡◌, ◌≢◌, ◌⊎◌, ℕ, ◌==◌, Bool, true, false, if◌then◌else◌, List, ◌∷◌, Option, Some, None, inl, inr, ⊎_elim, refl, sym, ◌∙◌, ap, subst, arith}
use Rattle.std.proofs.lemmas.Bool.Decides.{nat_tests}
use Rattle.scc_base.specs.Calls.{DataCall, Send, Recv, Post, Bar}
use Rattle.scc_base.specs.Changes.{Change}
use Rattle.scc_base.proofs.ChangeLaws.{AreApart, apart_changes, same_change}
use Rattle.scc_base.proofs.GroupFacts.{place_once}
use Rattle.scc_proto.specs.Legality.{Outgoing, Standing, CallStep, Posting, Taking, Pairing, Meeting, owner_of, in_group, IsFirst, IsProper, callers, call_at, looks_at_slot, slot_before, slot_after, Makes, OwnStep}

-- the step that a rank's call belongs to, where it is the owner's call
abbrev pub own_step : ℕ → DataCall → CallStep
own_step a (Send to head bytes) = Pairing a (record { to = to; head = head; bytes = bytes })
own_step a (Recv from head bytes) = Taking from (record { to = a; head = head; bytes = bytes })
own_step a (Post to head bytes) = Posting a (record { to = to; head = head; bytes = bytes })
own_step a (Bar comm) = Meeting comm a

pub owner_of-own_step : (a : ℕ) (c : DataCall) → owner_of (own_step a c) ≡ a
owner_of-own_step a (Send to head bytes) = refl
owner_of-own_step a (Recv from head bytes) = refl
owner_of-own_step a (Post to head bytes) = refl
owner_of-own_step a (Bar comm) = refl

pub itself : (n : ℕ) → (n == n) ≡ true
itself n = grind (arith, nat_tests)

-- the call of a step's owner tells the step
own_step-call_at : (step : CallStep) → own_step (owner_of step) (call_at step (owner_of step)) ≡ step
own_step-call_at (Posting from m) = refl
own_step-call_at (Taking from m) = refl
own_step-call_at (Pairing from m) =
    ap (λ (b : Bool). own_step from (if b then Send m.to m.head m.bytes else Recv from m.head m.bytes)) (itself from)
own_step-call_at (Meeting comm root) = refl

pub step_told : (step : CallStep) (a : ℕ) → owner_of step ≡ a → own_step a (call_at step a) ≡ step
step_told step a is = subst (λ (x : ℕ). own_step x (call_at step x) ≡ step) is (own_step-call_at step)

-- a pair has no post and no barrier, and a send at its own rank alone
no_post : (from : ℕ) (m n : Outgoing) (b : Bool) → Post n.to n.head n.bytes ≡ (if b then Send m.to m.head m.bytes else Recv from m.head m.bytes) → ⊥
no_post from m n true same = cc
no_post from m n false same = cc

no_barrier : (from comm : ℕ) (m : Outgoing) (b : Bool) → Bar comm ≡ (if b then Send m.to m.head m.bytes else Recv from m.head m.bytes) → ⊥
no_barrier from comm m true same = cc
no_barrier from comm m false same = cc

received : (i from : ℕ) (m n : Outgoing) (b : Bool) → Recv i n.head n.bytes ≡ (if b then Send m.to m.head m.bytes else Recv from m.head m.bytes) → (b ≡ false) × (i ≡ from)
received i from m n true same = absurd cc
received i from m n false same = (refl, cc)

paired : (i j : ℕ) (m n : Outgoing) (a b : Bool) → (if a then Send m.to m.head m.bytes else Recv i m.head m.bytes) ≡ (if b then Send n.to n.head n.bytes else Recv j n.head n.bytes) → (a ≡ true) × (b ≡ true) ⊎ (i ≡ j)
paired i j m n true true same = inl (refl, refl)
paired i j m n true false same = absurd cc
paired i j m n false true same = absurd cc
paired i j m n false false same = inr cc

module _ (nue : ℕ) (keys : ℕ → ℕ → ℕ) where
  -- the owner of a step is one of its callers
  owner_calls : (step : CallStep) → IsProper nue keys step → callers nue keys step (owner_of step) ≡ true
  owner_calls (Posting from m) proper = itself from
  owner_calls (Taking from m) proper = itself m.to
  owner_calls (Pairing from m) proper = grind (arith, nat_tests)
  owner_calls (Meeting comm root) proper = let below = proper.below in grind (arith, nat_tests)

  pub first_call : (step : CallStep) (a : ℕ) (s t : Standing) → owner_of step ≡ a → Makes nue keys step s t → s.calls a ≡ call_at step a ∷ t.calls a
  first_call step a s t is makes =
      makes.calls.changed a (subst (λ (x : ℕ). callers nue keys step x ≡ true) is (owner_calls step makes.proper))

  -- what a step makes of a standing is determined
  pub makes_one : (step : CallStep) (s t u : Standing) → Makes nue keys step s t → Makes nue keys step s u → t ≡ u
  makes_one step s t u first second = λ i. record { calls = calls i; slots = slots i }
    where
      calls : t.calls ≡ u.calls
      calls = same_change (callers nue keys step) (λ k before after. before ≡ call_at step k ∷ after) s.calls t.calls u.calls (λ k x y z is also. cc) first.calls second.calls

      slots : t.slots ≡ u.slots
      slots = same_change (looks_at_slot step) (λ k before after. (before ≡ slot_before step) × (after ≡ slot_after step)) s.slots t.slots u.slots (λ k x y z is also. is.1 ∙ sym also.1) first.slots second.slots

  -- an owner has at most one step
  pub only_one : (a : ℕ) (s t u : Standing) → OwnStep nue keys a s t → OwnStep nue keys a s u → t ≡ u
  only_one a s t u (x, x_owner, x_makes) (y, y_owner, y_makes) =
      makes_one x s t u x_makes (subst (λ (z : CallStep). Makes nue keys z s u) (sym same) y_makes)
    where
      same_call_at : call_at x a ≡ call_at y a
      same_call_at =
          let of_x = first_call x a s t x_owner x_makes in
          let of_y = first_call y a s u y_owner y_makes in
          cc

      same : x ≡ y
      same = sym (step_told x a x_owner) ∙ ap (own_step a) same_call_at ∙ step_told y a y_owner

  -- two steps look at one slot only where they have one owner or find different things in it
  slots_apart : (x y : CallStep) (k : ℕ) → owner_of x ≢ owner_of y → looks_at_slot x k ≡ true → looks_at_slot y k ≡ true → slot_before x ≡ slot_before y → ⊥
  slots_apart (Posting i m) (Posting j n) k apart at_x at_y same = grind (arith, nat_tests)
  slots_apart (Posting i m) (Taking j n) k apart at_x at_y same = cc
  slots_apart (Posting i m) (Pairing j n) k apart at_x at_y same = grind (arith, nat_tests)
  slots_apart (Taking i m) (Posting j n) k apart at_x at_y same = cc
  slots_apart (Taking i m) (Taking j n) k apart at_x at_y same = let is : m ≡ n = cc in apart (ap (λ (x : Outgoing). x.to) is)
  slots_apart (Taking i m) (Pairing j n) k apart at_x at_y same = cc
  slots_apart (Pairing i m) (Posting j n) k apart at_x at_y same = grind (arith, nat_tests)
  slots_apart (Pairing i m) (Taking j n) k apart at_x at_y same = cc
  slots_apart (Pairing i m) (Pairing j n) k apart at_x at_y same = grind (arith, nat_tests)
  slots_apart (Meeting c i) y k apart at_x at_y same = cc
  slots_apart x (Meeting c j) k apart at_x at_y same = cc

  -- a rank that is with two ranks in a communicator has the key of both
  in_one_group : (c i j k : ℕ) → in_group nue keys c i k ≡ true → in_group nue keys c j k ≡ true → keys c i ≡ keys c j
  in_one_group c i j k in_i in_j = grind (arith, nat_tests)

  -- a group has one member 0
  one_root : (c i j : ℕ) → keys c i ≡ keys c j → IsFirst nue keys c i → IsFirst nue keys c j → i ≢ j → ⊥
  one_root c i j same first_i first_j apart = apart (place_once (keys c) i j same (first_i.zeroth ∙ sym first_j.zeroth))

  -- two steps use the same call of a rank only where they have one owner or find different things in one slot
  callers_apart : (x y : CallStep) (k : ℕ) → IsProper nue keys x → IsProper nue keys y → owner_of x ≢ owner_of y
      → ((i : ℕ) → looks_at_slot x i ≡ true → looks_at_slot y i ≡ true → slot_before x ≡ slot_before y)
      → callers nue keys x k ≡ true → callers nue keys y k ≡ true → call_at x k ≡ call_at y k → ⊥
  callers_apart (Posting i m) (Posting j n) k px py apart slots in_x in_y same = grind (arith, nat_tests)
  callers_apart (Posting i m) (Taking j n) k px py apart slots in_x in_y same = cc
  callers_apart (Posting i m) (Pairing j n) k px py apart slots in_x in_y same = no_post j n m (k == j) same
  callers_apart (Posting i m) (Meeting c j) k px py apart slots in_x in_y same = cc
  callers_apart (Taking i m) (Posting j n) k px py apart slots in_x in_y same = cc
  callers_apart (Taking i m) (Taking j n) k px py apart slots in_x in_y same = grind (arith, nat_tests)
  callers_apart (Taking i m) (Pairing j n) k px py apart slots in_x in_y same =
      let is = (received i j n m (k == j) same).1 in
      let full : Some m ≡ None = slots i (itself i) (subst (λ (x : ℕ). (i == x) ≡ true) is (itself i)) in
      cc
  callers_apart (Taking i m) (Meeting c j) k px py apart slots in_x in_y same = cc
  callers_apart (Pairing i m) (Posting j n) k px py apart slots in_x in_y same = no_post i m n (k == i) (sym same)
  callers_apart (Pairing i m) (Taking j n) k px py apart slots in_x in_y same =
      let is = (received j i m n (k == i) (sym same)).1 in
      let full : None ≡ Some n = slots i (itself i) (subst (λ (x : ℕ). (i == x) ≡ true) (sym is) (itself i)) in
      cc
  callers_apart (Pairing i m) (Pairing j n) k px py apart slots in_x in_y same =
      ⊎_elim
      (λ (e : ((k == i) ≡ true) × ((k == j) ≡ true)). let left = e.0 in let right = e.1 in grind (arith, nat_tests))
      (λ (e : i ≡ j). apart e)
      (paired i j m n (k == i) (k == j) same)
  callers_apart (Pairing i m) (Meeting c j) k px py apart slots in_x in_y same = no_barrier i c m (k == i) (sym same)
  callers_apart (Meeting c i) (Posting j n) k px py apart slots in_x in_y same = cc
  callers_apart (Meeting c i) (Taking j n) k px py apart slots in_x in_y same = cc
  callers_apart (Meeting c i) (Pairing j n) k px py apart slots in_x in_y same = no_barrier j c n (k == j) same
  callers_apart (Meeting c i) (Meeting d j) k px py apart slots in_x in_y same =
      let is : c ≡ d = cc in
      let first : IsFirst nue keys c j = subst (λ (x : ℕ). IsFirst nue keys x j) (sym is) py in
      let inside : in_group nue keys c j k ≡ true = subst (λ (x : ℕ). in_group nue keys x j k ≡ true) (sym is) in_y in
      one_root c i j (in_one_group c i j k in_x inside) px first apart

  -- the steps of two owners can be made in either order
  pub either_order : (a b : ℕ) (s t u : Standing) → a ≢ b → OwnStep nue keys a s t → OwnStep nue keys b s u → (v : Standing) × OwnStep nue keys b t v × OwnStep nue keys a u v
  either_order a b s t u apart (x, x_owner, x_makes) (y, y_owner, y_makes) = (
    record { calls = calls.0; slots = slots.0 },
    (y, y_owner, record { proper = y_makes.proper; calls = calls.1; slots = slots.1 }),
    (x, x_owner, record { proper = x_makes.proper; calls = calls.2; slots = slots.2 }),
  )
    where
      owners : owner_of x ≢ owner_of y
      owners is = apart (sym x_owner ∙ is ∙ y_owner)

      same_slot_before : (i : ℕ) → looks_at_slot x i ≡ true → looks_at_slot y i ≡ true → slot_before x ≡ slot_before y
      same_slot_before i at_x at_y = sym (x_makes.slots.changed i at_x).0 ∙ (y_makes.slots.changed i at_y).0

      same_call_at : (k : ℕ) → callers nue keys x k ≡ true → callers nue keys y k ≡ true → call_at x k ≡ call_at y k
      same_call_at k in_x in_y = let of_x = x_makes.calls.changed k in_x in let of_y = y_makes.calls.changed k in_y in cc

      calls_apart : AreApart (callers nue keys x) (callers nue keys y)
      calls_apart k in_x in_y = callers_apart x y k x_makes.proper y_makes.proper owners same_slot_before in_x in_y (same_call_at k in_x in_y)

      no_slot : AreApart (looks_at_slot x) (looks_at_slot y)
      no_slot k at_x at_y = slots_apart x y k owners at_x at_y (same_slot_before k at_x at_y)

      calls : (v : ℕ → List DataCall) × Change (callers nue keys y) (λ k before after. before ≡ call_at y k ∷ after) t.calls v × Change (callers nue keys x) (λ k before after. before ≡ call_at x k ∷ after) u.calls v
      calls = apart_changes (callers nue keys x) (callers nue keys y) (λ k before after. before ≡ call_at x k ∷ after) (λ k before after. before ≡ call_at y k ∷ after) s.calls t.calls u.calls calls_apart x_makes.calls y_makes.calls

      slots : (v : ℕ → Option Outgoing) × Change (looks_at_slot y) (λ k before after. (before ≡ slot_before y) × (after ≡ slot_after y)) t.slots v × Change (looks_at_slot x) (λ k before after. (before ≡ slot_before x) × (after ≡ slot_after x)) u.slots v
      slots = apart_changes (looks_at_slot x) (looks_at_slot y) (λ k before after. (before ≡ slot_before x) × (after ≡ slot_after x)) (λ k before after. (before ≡ slot_before y) × (after ≡ slot_after y)) s.slots t.slots u.slots no_slot x_makes.slots y_makes.slots
