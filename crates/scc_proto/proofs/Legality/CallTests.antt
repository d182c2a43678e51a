-- Whether two calls are equal is decided, and so is what a list of calls begins with.
use Rattle.std.proofs.Common.{◌≡◌, ◌⊎◌, ℕ, zero, suc, List, [], ◌∷◌, Option, Some, None, inl, inr, refl, sym, ◌∙◌, ap}
use Rattle.std.proofs.Math.Decide.{ℕ_discrete}
use Rattle.scc_base.specs.Calls.{DataCall, Send, Recv, Post, Bar}
use Rattle.scc_proto.specs.Legality.{Outgoing}

-- it holds, or it does not
abbrev pub IsDecided : Type 0 → Type 0
IsDecided A = A ⊎ (A → ⊥)

same_numbers : (xs ys : List ℕ) → IsDecided (xs ≡ ys)
same_numbers [] [] = inl refl
same_numbers [] (y ∷ ys) = inr (λ is. cc)
same_numbers (x ∷ xs) [] = inr (λ is. cc)
same_numbers (x ∷ xs) (y ∷ ys) = both_same (ℕ_discrete x y) (same_numbers xs ys)
  where
    both_same : Dec (x ≡ y) → IsDecided (xs ≡ ys) → IsDecided (x ∷ xs ≡ y ∷ ys)
    both_same (no other) rest = inr (λ is. other cc)
    both_same (yes is) (inl rest) = inl cc
    both_same (yes is) (inr other) = inr (λ same. other cc)

-- a call as numbers, and back
abbrev numbers_of : DataCall → List ℕ
numbers_of (Send to head bytes) = 0 ∷ to ∷ head.kind ∷ head.comm ∷ head.len ∷ bytes
numbers_of (Recv from head bytes) = 1 ∷ from ∷ head.kind ∷ head.comm ∷ head.len ∷ bytes
numbers_of (Post to head bytes) = 2 ∷ to ∷ head.kind ∷ head.comm ∷ head.len ∷ bytes
numbers_of (Bar comm) = 3 ∷ comm ∷ 0 ∷ 0 ∷ 0 ∷ []

abbrev message_call : ℕ → ℕ → ℕ → ℕ → ℕ → List ℕ → DataCall
message_call zero peer kind comm len bytes = Send peer (record { kind = kind; comm = comm; len = len }) bytes
message_call (suc zero) peer kind comm len bytes = Recv peer (record { kind = kind; comm = comm; len = len }) bytes
message_call (suc (suc zero)) peer kind comm len bytes = Post peer (record { kind = kind; comm = comm; len = len }) bytes
message_call (suc (suc (suc n))) peer kind comm len bytes = Bar peer

abbrev call_from : List ℕ → DataCall
call_from (what ∷ peer ∷ kind ∷ comm ∷ len ∷ bytes) = message_call what peer kind comm len bytes
call_from _ = Bar 0

call_from-numbers_of : (c : DataCall) → call_from (numbers_of c) ≡ c
call_from-numbers_of (Send to head bytes) = refl
call_from-numbers_of (Recv from head bytes) = refl
call_from-numbers_of (Post to head bytes) = refl
call_from-numbers_of (Bar comm) = refl

pub same_call : (c d : DataCall) → IsDecided (c ≡ d)
same_call c d = decided (same_numbers (numbers_of c) (numbers_of d))
  where
    decided : IsDecided (numbers_of c ≡ numbers_of d) → IsDecided (c ≡ d)
    decided (inl is) = inl (sym (call_from-numbers_of c) ∙ ap call_from is ∙ call_from-numbers_of d)
    decided (inr other) = inr (λ is. other (ap numbers_of is))

-- a list begins with a call
abbrev pub BeginsWith : DataCall → List DataCall → Type 0
BeginsWith c l = (rest : List DataCall) × (l ≡ c ∷ rest)

pub begins_with : (c : DataCall) (l : List DataCall) → IsDecided (BeginsWith c l)
begins_with c [] = inr (λ is. let e = is.1 in cc)
begins_with c (d ∷ rest) = decided (same_call d c)
  where
    decided : IsDecided (d ≡ c) → IsDecided (BeginsWith c (d ∷ rest))
    decided (inl is) = inl (rest, ap (λ (x : DataCall). x ∷ rest) is)
    decided (inr other) = inr (λ is. let e = is.1 in other cc)

-- what stands in a slot, as a call
abbrev slot_call : Option Outgoing → DataCall
slot_call None = Bar 0
slot_call (Some m) = Post m.to m.head m.bytes

abbrev slot_from : DataCall → Option Outgoing
slot_from (Post to head bytes) = Some (record { to = to; head = head; bytes = bytes })
slot_from _ = None

slot_from-slot_call : (o : Option Outgoing) → slot_from (slot_call o) ≡ o
slot_from-slot_call None = refl
slot_from-slot_call (Some m) = refl

pub same_slot : (o p : Option Outgoing) → IsDecided (o ≡ p)
same_slot o p = decided (same_call (slot_call o) (slot_call p))
  where
    decided : IsDecided (slot_call o ≡ slot_call p) → IsDecided (o ≡ p)
    decided (inl is) = inl (sym (slot_from-slot_call o) ∙ ap slot_from is ∙ slot_from-slot_call p)
    decided (inr other) = inr (λ is. other (ap slot_call is))
