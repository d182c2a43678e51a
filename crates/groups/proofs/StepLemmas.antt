-- Lengths and entries of the lists of steps.
use Rattle.std.proofs.Common.{◌≡◌, refl, ap, ℕ, zero, suc, ◌+◌, ◌*◌, ◌<◌, ◌≤◌, List, [], ◌∷◌, ◌++◌, length, arith, length-append, remove, slice_get, Some}
use Rattle.std.specs.Prelude.{option_map}
use Rattle.std.proofs.lemmas.List.Edits.{length-remove}
use Rattle.scc_base.specs.Heads.{MessageHead}
use Rattle.scc_base.specs.Setups.{SetupView, members_of, size_of, setup_key}
use Rattle.scc_base.proofs.GroupFacts.{members_length}
use Rattle.groups.specs.Collectives.{send_each, fold_each, others_of}
use Rattle.groups.specs.declared.collectives.Step.TheVariants.{Begin, Send, Recv, Fold, Finish}

-- an entry of the front, and one behind it
pub get_front : {X : Type 0} (xs ys : List X) (k : ℕ) (x : X) → slice_get xs k ≡ Some x → slice_get (xs ++ ys) k ≡ Some x
get_front [] ys k x h = absurd (cc h)
get_front (y ∷ xs) ys zero x h = h
get_front (y ∷ xs) ys (suc k) x h = get_front xs ys k x h

pub get_after : {X : Type 0} (xs ys : List X) (j k : ℕ) (x : X) → j ≡ length xs + k → slice_get ys k ≡ Some x → slice_get (xs ++ ys) j ≡ Some x
get_after [] ys j k x e h = let is : j ≡ k = omega (arith, e) in rw is h
get_after (y ∷ xs) ys zero k x e h = absurd (omega (arith, e))
get_after (y ∷ xs) ys (suc j) k x e h = get_after xs ys j k x (omega (arith, e)) h

-- an entry before the one that is removed, and one behind it
pub get_below : {X : Type 0} (xs : List X) (i k : ℕ) (x : X) → k < i → slice_get xs k ≡ Some x → slice_get (remove xs i) k ≡ Some x
get_below [] i k x low h = absurd (cc h)
get_below (y ∷ xs) zero k x low h = absurd (omega (arith, low))
get_below (y ∷ xs) (suc i) zero x low h = h
get_below (y ∷ xs) (suc i) (suc k) x low h = get_below xs i k x (omega (arith, low)) h

pub get_above : {X : Type 0} (xs : List X) (i k : ℕ) (x : X) → i ≤ k → slice_get xs (suc k) ≡ Some x → slice_get (remove xs i) k ≡ Some x
get_above [] i k x high h = absurd (cc h)
get_above (y ∷ xs) zero k x high h = h
get_above (y ∷ xs) (suc i) zero x high h = absurd (omega (arith, high))
get_above (y ∷ xs) (suc i) (suc k) x high h = get_above xs i k x (omega (arith, high)) h

-- there is one other less than members
pub others_length : (s : SetupView) (comm r place : ℕ) → place < size_of s comm r → length (others_of s comm r place) + 1 ≡ size_of s comm r
others_length s comm r place h =
    let all = members_length s.nue (setup_key s comm) r in
    let less = length-remove (members_of s comm r) place (omega (arith, all, h)) in
    omega (arith, all, less)

-- sends and pairs of a receive and a fold
pub sends_length : (head : MessageHead) (list : List ℕ) → length (send_each head list) ≡ length list
sends_length head [] = refl
sends_length head (x ∷ list) = ap suc (sends_length head list)

pub folds_length : (head : MessageHead) (list : List ℕ) → length (fold_each head list) ≡ 2 * length list
folds_length head [] = refl
folds_length head (x ∷ list) =
    let rest : length (fold_each head list) ≡ 2 * length list = folds_length head list in omega (arith, rest)

pub get_send : (head : MessageHead) (list : List ℕ) (k x : ℕ) → slice_get list k ≡ Some x → slice_get (send_each head list) k ≡ Some (Send x head)
get_send head [] k x h = absurd (cc h)
get_send head (y ∷ list) zero x h = ap (option_map (λ to. Send to head)) h
get_send head (y ∷ list) (suc k) x h = get_send head list k x h

pub get_recv : (head : MessageHead) (list : List ℕ) (k i x : ℕ) → k ≡ 2 * i → slice_get list i ≡ Some x → slice_get (fold_each head list) k ≡ Some (Recv x head)
get_recv head [] k i x e h = absurd (cc h)
get_recv head (y ∷ list) k zero x e h = let is : k ≡ 0 = omega (arith, e) in rw is (ap (option_map (λ from. Recv from head)) h)
get_recv head (y ∷ list) k (suc i) x e h = let is : k ≡ suc (suc (2 * i)) = omega (arith, e) in rw is (get_recv head list (2 * i) i x refl h)

pub get_fold : (head : MessageHead) (list : List ℕ) (k i x : ℕ) → k ≡ 2 * i + 1 → slice_get list i ≡ Some x → slice_get (fold_each head list) k ≡ Some Fold
get_fold head [] k i x e h = absurd (cc h)
get_fold head (y ∷ list) k zero x e h = let is : k ≡ 1 = omega (arith, e) in rw is refl
get_fold head (y ∷ list) k (suc i) x e h = let is : k ≡ suc (suc (2 * i + 1)) = omega (arith, e) in rw is (get_fold head list (2 * i + 1) i x refl h)

-- the length of a call's steps at the root
pub reduce_length : (h : MessageHead) (list : List ℕ) → length (Begin ∷ fold_each h list ++ Finish ∷ []) ≡ 2 * length list + 2
reduce_length h list =
    let all = length-append (Begin ∷ fold_each h list) (Finish ∷ []) in
    let pairs = folds_length h list in
    omega (arith, all, pairs)

pub allreduce_length : (up down : MessageHead) (list : List ℕ)
    → length (Begin ∷ fold_each up list ++ send_each down list ++ Finish ∷ []) ≡ 3 * length list + 2
allreduce_length up down list =
    let all = length-append (Begin ∷ fold_each up list ++ send_each down list) (Finish ∷ []) in
    let front = length-append (Begin ∷ fold_each up list) (send_each down list) in
    let pairs = folds_length up list in
    let sends = sends_length down list in
    omega (arith, all, front, pairs, sends)

-- the last entry of a reduction at the root
pub reduce_finish : (h : MessageHead) (list : List ℕ) (k : ℕ) → 2 * length list < k → k < length (Begin ∷ fold_each h list ++ Finish ∷ [])
    → slice_get (Begin ∷ fold_each h list ++ Finish ∷ []) k ≡ Some Finish
reduce_finish h list k low below =
    let all = reduce_length h list in
    let pairs = folds_length h list in
    get_after (Begin ∷ fold_each h list) (Finish ∷ []) k 0 Finish (omega (arith, low, below, all, pairs)) refl

-- the entries of a reduction to all at member 0
pub allreduce_send : (up down : MessageHead) (list : List ℕ) (k j to : ℕ) → k ≡ 2 * length list + 1 + j → slice_get list j ≡ Some to
    → slice_get (Begin ∷ fold_each up list ++ send_each down list ++ Finish ∷ []) k ≡ Some (Send to down)
allreduce_send up down list k j to e found =
    let pairs = folds_length up list in
    get_front (Begin ∷ fold_each up list ++ send_each down list) (Finish ∷ []) k (Send to down)
    (get_after (Begin ∷ fold_each up list) (send_each down list) k j (Send to down) (omega (arith, e, pairs)) (get_send down list j to found))

pub allreduce_finish : (up down : MessageHead) (list : List ℕ) (k : ℕ) → 3 * length list < k
    → k < length (Begin ∷ fold_each up list ++ send_each down list ++ Finish ∷ [])
    → slice_get (Begin ∷ fold_each up list ++ send_each down list ++ Finish ∷ []) k ≡ Some Finish
allreduce_finish up down list k low below =
    let all = allreduce_length up down list in
    let front = length-append (Begin ∷ fold_each up list) (send_each down list) in
    let pairs = folds_length up list in
    let sends = sends_length down list in
    get_after (Begin ∷ fold_each up list ++ send_each down list) (Finish ∷ []) k 0 Finish (omega (arith, low, below, all, front, pairs, sends)) refl
