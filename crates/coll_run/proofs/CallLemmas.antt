-- The calls of a table as messages: no post is among them, and each message of a list stands in its table.
use Rattle.std.proofs.Common.{◌≡◌, ◌≢◌, ℕ, zero, suc, ◌<◌, ◌≤◌, ◌&&◌, Bool, true, false, not, if◌then◌else◌, List, [], ◌∷◌, map, take, Option, Some, None, slice_get, refl, sym, ap, ◌∙◌, subst, arith}
use Rattle.std.specs.List.{list_all}
use Rattle.scc_base.specs.Calls.{DataCall, Send, Post}
use Rattle.scc_base.specs.Heads.{plain_head}
use Rattle.scc_base.specs.Runs.{Runs}
use Rattle.scc_proto.specs.Legality.{CallStep, IsUsedUp, Makes, Meeting, Outgoing, OwnStep, Pairing, Posting, Standing, Taking, call_at, callers}
use Rattle.scc_proto.specs.Messages.{Message, received_messages, sent_messages}
use Rattle.scc_proto.proofs.Tests.{both_second, eqb_other, eqb_same, same_or_other}
use Rattle.coll_more.specs.Ops.{data_by, data_call_of, is_taking}
use Rattle.coll_more.specs.declared.kinds.PieceCall.{PieceCall}
use Rattle.coll_more.specs.declared.kinds.Way.{Way}
use Rattle.coll_more.specs.declared.kinds.Way.TheVariants.{Gives, Shares, Takes}
use Rattle.coll_more.proofs.ListLemmas.{some_same}

by_test : {A : Type 0} (b : Bool) → (b ≡ true → A) → (b ≡ false → A) → A
by_test true yes_it not_it = yes_it refl
by_test false yes_it not_it = not_it refl

-- ---- no post

-- the call is no post
abbrev pub is_plain : DataCall → Bool
is_plain (Post to head bytes) = false
is_plain call = true

and_true : (a b : Bool) → a ≡ true → b ≡ true → (a && b) ≡ true
and_true a b one two = ap (λ (x : Bool). x && b) one ∙ two

plain_by : (w : Way) (peer len : ℕ) (bytes : List ℕ) → is_plain (data_by w peer len bytes) ≡ true
plain_by Gives peer len bytes = refl
plain_by Shares peer len bytes = refl
plain_by Takes peer len bytes = refl

pub plain_made : (src dst : List ℕ) (xs : List PieceCall) → list_all is_plain (map (data_call_of src dst) xs) ≡ true
plain_made src dst [] = refl
plain_made src dst (x ∷ xs) = and_true (is_plain (data_call_of src dst x)) (list_all is_plain (map (data_call_of src dst) xs)) (plain_by x.way x.peer x.len _) (plain_made src dst xs)

module _ (nue : ℕ) (keys : ℕ → ℕ → ℕ) where
  plain_left : (step : CallStep) (s t : Standing) → Makes nue keys step s t → (k : ℕ) → list_all is_plain (s.calls k) ≡ true → list_all is_plain (t.calls k) ≡ true
  plain_left step s t makes k plain = by_test (callers nue keys step k)
      (λ at. both_second (is_plain (call_at step k)) (list_all is_plain (t.calls k)) (sym (ap (list_all is_plain) (makes.calls.changed k at)) ∙ plain))
      (λ other. sym (ap (list_all is_plain) (makes.calls.others k other)) ∙ plain)

  empty_left : (step : CallStep) (s t : Standing) → Makes nue keys step s t → ((k : ℕ) → list_all is_plain (s.calls k) ≡ true) → ((k : ℕ) → s.slots k ≡ None) → (k : ℕ) → t.slots k ≡ None
  empty_left (Posting from m) s t makes plain empty k =
      absurd (let posts : list_all is_plain (s.calls from) ≡ false = ap (list_all is_plain) (makes.calls.changed from (eqb_same from)) in let none = plain from in cc (posts, none))
  empty_left (Taking from m) s t makes plain empty k =
      absurd (let full : s.slots from ≡ Some m = (makes.slots.changed from (eqb_same from)).0 in let none = empty from in cc (full, none))
  empty_left (Pairing from m) s t makes plain empty k = same_or_other (t.slots k ≡ None) k from
      (λ at same. (makes.slots.changed k at).1)
      (λ other apart. sym (makes.slots.others k other) ∙ empty k)
  empty_left (Meeting comm root) s t makes plain empty k = sym (makes.slots.others k refl) ∙ empty k

  -- calls among which no post is leave no message in a slot
  pub none_left : (left : ℕ → Option Outgoing) (n : ℕ) (s : Standing) → ((k : ℕ) → list_all is_plain (s.calls k) ≡ true) → ((k : ℕ) → s.slots k ≡ None)
      → Runs (OwnStep nue keys) (IsUsedUp left) n s → (k : ℕ) → left k ≡ None
  none_left left zero s plain empty end k = sym (end.slots k) ∙ empty k
  none_left left (suc n) s plain empty (a, t, (step, owner, makes), rest) k =
      none_left left n t (λ j. plain_left step s t makes j (plain j)) (empty_left step s t makes plain empty) rest k

-- ---- messages of a list and of its table

-- messages of a list of calls with one rank, that are counted for one way
module _ (F : ℕ → List DataCall → List Message) (want : Bool) (src dst : List ℕ)
    (nothing : (p : ℕ) → F p [] ≡ [])
    (skips : (w : Way) (p peer len : ℕ) (bytes : List ℕ) (rest : List DataCall) → is_taking w ≡ not want → F p (data_by w peer len bytes ∷ rest) ≡ F p rest)
    (others : (w : Way) (p peer len : ℕ) (bytes : List ℕ) (rest : List DataCall) → peer ≢ p → F p (data_by w peer len bytes ∷ rest) ≡ F p rest)
    (counts : (w : Way) (peer len : ℕ) (bytes : List ℕ) (rest : List DataCall) → is_taking w ≡ want → F peer (data_by w peer len bytes ∷ rest) ≡ [] → ⊥) where
  either_way : {A : Type 0} (b c : Bool) → (b ≡ c → A) → (b ≡ not c → A) → A
  either_way true true same other = same refl
  either_way true false same other = other refl
  either_way false true same other = other refl
  either_way false false same other = same refl

  none_after : (p : ℕ) (x : PieceCall) (rest : List DataCall) → F p (data_call_of src dst x ∷ rest) ≡ [] → F p rest ≡ []
  none_after p x rest none = either_way (is_taking x.way) want
      (λ is. same_or_other (F p rest ≡ []) x.peer p
      (λ t same. absurd (counts x.way x.peer x.len _ rest is (subst (λ (q : ℕ). F q (data_call_of src dst x ∷ rest) ≡ []) (sym same) none)))
      (λ t apart. sym (others x.way p x.peer x.len _ rest apart) ∙ none))
      (λ is. sym (skips x.way p x.peer x.len _ rest is) ∙ none)

  -- a message of the table is one of the list
  counted : (xs : List PieceCall) (j : ℕ) (c : PieceCall) → slice_get xs j ≡ Some c → is_taking c.way ≡ want → F c.peer (map (data_call_of src dst) xs) ≡ [] → ⊥
  counted [] j c at is none = cc
  counted (x ∷ xs) zero c at is none =
      subst (λ (y : PieceCall). is_taking y.way ≡ want → F y.peer (data_call_of src dst x ∷ map (data_call_of src dst) xs) ≡ [] → ⊥) (some_same x c at)
      (λ here empty. counts x.way x.peer x.len _ (map (data_call_of src dst) xs) here empty) is none
  counted (x ∷ xs) (suc j) c at is none = counted xs j c at is (none_after c.peer x (map (data_call_of src dst) xs) none)

  -- a message of the list is one of the table
  abbrev Found : ℕ → List PieceCall → Type 0
  Found p xs = (i : ℕ) × (c : PieceCall) × (slice_get xs i ≡ Some c) × (is_taking c.way ≡ want) × (c.peer ≡ p)

  next_found : (p : ℕ) (x : PieceCall) (xs : List PieceCall) → Found p xs → Found p (x ∷ xs)
  next_found p x xs (i, c, at, is, same) = (suc i, c, at, is, same)

  found : (p : ℕ) (xs : List PieceCall) → (F p (map (data_call_of src dst) xs) ≡ [] → ⊥) → Found p xs
  found p [] some = absurd (some (nothing p))
  found p (x ∷ xs) some = either_way (is_taking x.way) want
      (λ is. same_or_other (Found p (x ∷ xs)) x.peer p
      (λ t same. (0, x, refl, is, same))
      (λ t apart. next_found p x xs (found p xs (λ none. some (others x.way p x.peer x.len _ (map (data_call_of src dst) xs) apart ∙ none)))))
      (λ is. next_found p x xs (found p xs (λ none. some (skips x.way p x.peer x.len _ (map (data_call_of src dst) xs) is ∙ none))))

-- of receives
got_skips : (w : Way) (p peer len : ℕ) (bytes : List ℕ) (rest : List DataCall) → is_taking w ≡ not true → received_messages p (data_by w peer len bytes ∷ rest) ≡ received_messages p rest
got_skips Gives p peer len bytes rest is = refl
got_skips Shares p peer len bytes rest is = refl
got_skips Takes p peer len bytes rest is = absurd (cc)

got_others : (w : Way) (p peer len : ℕ) (bytes : List ℕ) (rest : List DataCall) → peer ≢ p → received_messages p (data_by w peer len bytes ∷ rest) ≡ received_messages p rest
got_others Gives p peer len bytes rest apart = refl
got_others Shares p peer len bytes rest apart = refl
got_others Takes p peer len bytes rest apart =
    ap (λ (b : Bool). if b then record { head = plain_head len; bytes = bytes } ∷ received_messages p rest else received_messages p rest) (eqb_other peer p apart)

got_counts : (w : Way) (peer len : ℕ) (bytes : List ℕ) (rest : List DataCall) → is_taking w ≡ true → received_messages peer (data_by w peer len bytes ∷ rest) ≡ [] → ⊥
got_counts Gives peer len bytes rest is none = absurd (cc)
got_counts Shares peer len bytes rest is none = absurd (cc)
got_counts Takes peer len bytes rest is none =
    let one : record { head = plain_head len; bytes = bytes } ∷ received_messages peer rest ≡ [] =
    sym (ap (λ (b : Bool). if b then record { head = plain_head len; bytes = bytes } ∷ received_messages peer rest else received_messages peer rest) (eqb_same peer)) ∙ none in
    cc (one)

-- of sends
sent_skips : (w : Way) (p peer len : ℕ) (bytes : List ℕ) (rest : List DataCall) → is_taking w ≡ not false → sent_messages p (data_by w peer len bytes ∷ rest) ≡ sent_messages p rest
sent_skips Gives p peer len bytes rest is = absurd (cc)
sent_skips Shares p peer len bytes rest is = absurd (cc)
sent_skips Takes p peer len bytes rest is = refl

sent_others : (w : Way) (p peer len : ℕ) (bytes : List ℕ) (rest : List DataCall) → peer ≢ p → sent_messages p (data_by w peer len bytes ∷ rest) ≡ sent_messages p rest
sent_others Gives p peer len bytes rest apart =
    ap (λ (b : Bool). if b then record { head = plain_head len; bytes = bytes } ∷ sent_messages p rest else sent_messages p rest) (eqb_other peer p apart)
sent_others Shares p peer len bytes rest apart =
    ap (λ (b : Bool). if b then record { head = plain_head len; bytes = bytes } ∷ sent_messages p rest else sent_messages p rest) (eqb_other peer p apart)
sent_others Takes p peer len bytes rest apart = refl

sent_here : (peer len : ℕ) (bytes : List ℕ) (rest : List DataCall) → sent_messages peer (Send peer (plain_head len) bytes ∷ rest) ≡ [] → ⊥
sent_here peer len bytes rest none =
    let one : record { head = plain_head len; bytes = bytes } ∷ sent_messages peer rest ≡ [] =
    sym (ap (λ (b : Bool). if b then record { head = plain_head len; bytes = bytes } ∷ sent_messages peer rest else sent_messages peer rest) (eqb_same peer)) ∙ none in
    cc (one)

sent_counts : (w : Way) (peer len : ℕ) (bytes : List ℕ) (rest : List DataCall) → is_taking w ≡ false → sent_messages peer (data_by w peer len bytes ∷ rest) ≡ [] → ⊥
sent_counts Gives peer len bytes rest is none = sent_here peer len bytes rest none
sent_counts Shares peer len bytes rest is none = sent_here peer len bytes rest none
sent_counts Takes peer len bytes rest is none = absurd (cc)

-- a message that stands in a table
abbrev pub StandsThere : Bool → ℕ → List PieceCall → Type 0
StandsThere want p xs = (i : ℕ) × (c : PieceCall) × (slice_get xs i ≡ Some c) × (is_taking c.way ≡ want) × (c.peer ≡ p)

pub got_some : (src dst : List ℕ) (xs : List PieceCall) (j : ℕ) (c : PieceCall) → slice_get xs j ≡ Some c → is_taking c.way ≡ true → received_messages c.peer (map (data_call_of src dst) xs) ≡ [] → ⊥
got_some src dst xs j c at is none = counted received_messages true src dst (λ p. refl) got_skips got_others got_counts xs j c at is none

pub some_got : (src dst : List ℕ) (p : ℕ) (xs : List PieceCall) → (received_messages p (map (data_call_of src dst) xs) ≡ [] → ⊥) → StandsThere true p xs
some_got src dst p xs some = found received_messages true src dst (λ q. refl) got_skips got_others got_counts p xs some

pub sent_some : (src dst : List ℕ) (xs : List PieceCall) (j : ℕ) (c : PieceCall) → slice_get xs j ≡ Some c → is_taking c.way ≡ false → sent_messages c.peer (map (data_call_of src dst) xs) ≡ [] → ⊥
sent_some src dst xs j c at is none = counted sent_messages false src dst (λ p. refl) sent_skips sent_others sent_counts xs j c at is none

pub some_sent : (src dst : List ℕ) (p : ℕ) (xs : List PieceCall) → (sent_messages p (map (data_call_of src dst) xs) ≡ [] → ⊥) → StandsThere false p xs
some_sent src dst p xs some = found sent_messages false src dst (λ q. refl) sent_skips sent_others sent_counts p xs some

-- ---- places in the first elements of a list

pub taken_at : (e : ℕ) (xs : List PieceCall) (i : ℕ) (c : PieceCall) → slice_get (take e xs) i ≡ Some c → (i < e) × (slice_get xs i ≡ Some c)
taken_at zero xs i c at = absurd (cc)
taken_at (suc e) [] i c at = absurd (cc)
taken_at (suc e) (x ∷ xs) zero c at = (omega arith, at)
taken_at (suc e) (x ∷ xs) (suc i) c at = let (less, there) = taken_at e xs i c at in (omega (arith, less), there)

pub at_taken : (e : ℕ) (xs : List PieceCall) (i : ℕ) (c : PieceCall) → i < e → slice_get xs i ≡ Some c → slice_get (take e xs) i ≡ Some c
at_taken zero xs i c less at = absurd (omega (arith, less))
at_taken (suc e) [] i c less at = absurd (cc)
at_taken (suc e) (x ∷ xs) zero c less at = at
at_taken (suc e) (x ∷ xs) (suc i) c less at = at_taken e xs i c (omega (arith, less)) at

-- where something stands, something stands before it
pub some_before : (xs : List PieceCall) (e j : ℕ) (c : PieceCall) → e ≤ j → slice_get xs j ≡ Some c → (d : PieceCall) × (slice_get xs e ≡ Some d)
some_before [] e j c le at = absurd (cc)
some_before (x ∷ xs) zero j c le at = (x, refl)
some_before (x ∷ xs) (suc e) zero c le at = absurd (omega (arith, le))
some_before (x ∷ xs) (suc e) (suc j) c le at = some_before xs e j c (omega (arith, le)) at
