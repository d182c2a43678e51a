-- Each message of a collective call is with another member of the group.
use Rattle.std.proofs.Common.{◌≡◌, ◌≢◌, refl, sym, ap, ◌∙◌, subst, ℕ, zero, suc, ◌<◌, ◌≤◌, ◌==◌, Bool, true, false, cond, List, [], ◌∷◌, ◌++◌, arith, remove, slice_get, Some}
use Rattle.std.specs.Prelude.{slice_index}
use Rattle.std.proofs.lemmas.Bool.{eqb-true, eqb-false}
use Rattle.std.proofs.lemmas.Option.{get_or_from_slice_get, same_Some, slice_get_within}
use Rattle.scc_base.specs.Groups.{members_in, place_in, size_in}
use Rattle.scc_base.specs.Heads.{IsHead, MessageHead}
use Rattle.scc_base.specs.Setups.{SetupView, members_of, place_of, setup_key, size_of}
use Rattle.scc_base.specs.declared.kinds.Kind.TheVariants as kind
use Rattle.scc_base.proofs.GroupFacts.{member_at_place, members_length, place_below, place_found}
use Rattle.groups.specs.Collectives.{HasRoot, IsCallable, comm_of, fold_each, head_of_kind, len_of, other_steps, others_of, root_place, root_steps, send_each, steps_of}
use Rattle.groups.specs.Peers.{IsPeer, IsWithPeer}
use Rattle.groups.specs.declared.collectives.Coll.{Coll}
use Rattle.groups.specs.declared.collectives.Coll.TheVariants.{Bcast, Reduce, Allreduce}
use Rattle.groups.specs.declared.collectives.Step.{Step}
use Rattle.groups.specs.declared.collectives.Step.TheVariants.{Begin, Finish}

-- an entry of a list without one entry stands elsewhere in the list
removed : {X : Type 0} (xs : List X) (i k : ℕ) (x : X) → slice_get (remove xs i) k ≡ Some x → (j : ℕ) × (j ≢ i) × (slice_get xs j ≡ Some x)
removed [] zero k x h = absurd (cc h)
removed [] (suc i) k x h = absurd (cc h)
removed (y ∷ xs) zero k x h = (suc k, (λ same. absurd (omega (arith, same))), h)
removed (y ∷ xs) (suc i) zero x h = (0, (λ same. absurd (omega (arith, same))), h)
removed (y ∷ xs) (suc i) (suc k) x h = let rest = removed xs i k x h in (suc rest.0, (λ same. rest.1 (omega (arith, same))), rest.2)

-- whoever stands at a place of the list of members is a rank of the run at this place of the group
module _ (nue : ℕ) (key : ℕ → ℕ) (r : ℕ) where
  member_placed : (j x : ℕ) → slice_get (members_in nue key r) j ≡ Some x → (x < nue) × (place_in key x ≡ j)
  member_placed j x found =
      let within = slice_get_within (members_in nue key r) j x found in
      let one = place_found nue key r j (omega (arith, within, members_length nue key r)) in
      let there : slice_get (members_in nue key r) j ≡ Some one.0 =
      subst (λ (k : ℕ). slice_get (members_in nue key r) k ≡ Some one.0) one.3 (member_at_place nue key r one.0 one.2 one.1) in
      let same : one.0 ≡ x = same_Some one.0 x (sym there ∙ found) in
      (subst (λ (y : ℕ). y < nue) same one.1, subst (λ (y : ℕ). place_in key y ≡ j) same one.3)

  -- one who is at another place is another rank
  elsewhere : (j x : ℕ) → slice_get (members_in nue key r) j ≡ Some x → j ≢ place_in key r → IsPeer nue r x
  elsewhere j x found apart =
      let at = member_placed j x found in
      record { below = at.0; other = λ same. apart (sym at.1 ∙ ap (place_in key) same) }

  -- the member at a place below the size
  member_there : (j : ℕ) → j < size_in nue key r → slice_get (members_in nue key r) j ≡ Some (slice_index (members_in nue key r) j)
  member_there j below =
      let one = place_found nue key r j below in
      let there : slice_get (members_in nue key r) j ≡ Some one.0 =
      subst (λ (k : ℕ). slice_get (members_in nue key r) k ≡ Some one.0) one.3 (member_at_place nue key r one.0 one.2 one.1) in
      there ∙ ap Some (sym (get_or_from_slice_get (members_in nue key r) j one.0 0 there))

module _ (s : SetupView) (r : ℕ) where
  abbrev ArePeers : List ℕ → Type 0
  ArePeers [] = Unit {0}
  ArePeers (x ∷ xs) = IsPeer s.nue r x × ArePeers xs

  abbrev pub AreWithPeers : List Step → Type 0
  AreWithPeers [] = Unit {0}
  AreWithPeers (x ∷ xs) = IsWithPeer s r x × AreWithPeers xs

  -- the others are other ranks
  peers_by : (xs : List ℕ) → ((k x : ℕ) → slice_get xs k ≡ Some x → IsPeer s.nue r x) → ArePeers xs
  peers_by [] each = tt
  peers_by (x ∷ xs) each = (each 0 x refl, peers_by xs (λ k y found. each (suc k) y found))

  others_peers : (comm place : ℕ) → place_of s comm r ≡ place → ArePeers (others_of s comm r place)
  others_peers comm place at = peers_by (others_of s comm r place) (λ k x found.
      let entry = removed (members_of s comm r) place k x found in
      elsewhere s.nue (setup_key s comm) r entry.0 x entry.2 (λ same. entry.1 (same ∙ at)))

  with_both : (xs ys : List Step) → AreWithPeers xs → AreWithPeers ys → AreWithPeers (xs ++ ys)
  with_both [] ys one two = two
  with_both (x ∷ xs) ys one two = (one.0, with_both xs ys one.1 two)

  with_sends : (head : MessageHead) (xs : List ℕ) → IsHead head → ArePeers xs → AreWithPeers (send_each head xs)
  with_sends head [] valid all = tt
  with_sends head (x ∷ xs) valid all = ((all.0, valid), with_sends head xs valid all.1)

  with_folds : (head : MessageHead) (xs : List ℕ) → IsHead head → ArePeers xs → AreWithPeers (fold_each head xs)
  with_folds head [] valid all = tt
  with_folds head (x ∷ xs) valid all = ((all.0, valid), (tt, with_folds head xs valid all.1))

  -- the heads of collective calls
  head_by : (k comm len : ℕ) → k < 5 → (k ≡ 0 → ⊥) → comm < 16 → len ≤ 65536 → IsHead (record { kind = k; comm = comm; len = len })
  head_by k comm len low apart below short = record { kind_below = low; comm_below = below; len_within = short; plain_in_world = λ none. absurd (apart none) }

  root_with : (c : Coll) (xs : List ℕ) → comm_of c < 16 → len_of c ≤ 65536 → ArePeers xs → AreWithPeers (root_steps c xs)
  root_with (Bcast comm root len) xs below short all = with_sends (head_of_kind kind.Bcast comm len) xs (head_by 1 comm len (omega arith) (λ e. omega (arith, e)) below short) all
  root_with (Reduce comm root len) xs below short all =
      (tt, with_both (fold_each (head_of_kind kind.Reduce comm len) xs) (Finish ∷ []) (with_folds (head_of_kind kind.Reduce comm len) xs (head_by 2 comm len (omega arith) (λ e. omega (arith, e)) below short) all) (tt, tt))
  root_with (Allreduce comm len) xs below short all =
      with_both (Begin ∷ fold_each (head_of_kind kind.AllUp comm len) xs ++ send_each (head_of_kind kind.AllDown comm len) xs) (Finish ∷ [])
      (with_both (Begin ∷ fold_each (head_of_kind kind.AllUp comm len) xs) (send_each (head_of_kind kind.AllDown comm len) xs)
      (tt, with_folds (head_of_kind kind.AllUp comm len) xs (head_by 3 comm len (omega arith) (λ e. omega (arith, e)) below short) all)
      (with_sends (head_of_kind kind.AllDown comm len) xs (head_by 4 comm len (omega arith) (λ e. omega (arith, e)) below short) all))
      (tt, tt)

  other_with : (c : Coll) (root : ℕ) → comm_of c < 16 → len_of c ≤ 65536 → IsPeer s.nue r root → AreWithPeers (other_steps c root)
  other_with (Bcast comm place len) root below short peer = ((peer, head_by 1 comm len (omega arith) (λ e. omega (arith, e)) below short), (tt, tt))
  other_with (Reduce comm place len) root below short peer = ((peer, head_by 2 comm len (omega arith) (λ e. omega (arith, e)) below short), tt)
  other_with (Allreduce comm len) root below short peer =
      ((peer, head_by 3 comm len (omega arith) (λ e. omega (arith, e)) below short), ((peer, head_by 4 comm len (omega arith) (λ e. omega (arith, e)) below short), (tt, tt)))

  -- the root's place is one of the group
  root_below : (c : Coll) → r < s.nue → HasRoot s r c → root_place c < size_of s (comm_of c) r
  root_below (Bcast comm root len) within below = below
  root_below (Reduce comm root len) within below = below
  root_below (Allreduce comm len) within below = omega (arith, place_below s.nue (setup_key s comm) r within)

  -- each message of a call that may be made is with another rank
  pub steps_with : (c : Coll) → IsCallable s r c → AreWithPeers (steps_of s r c)
  steps_with c may = by (place_of s (comm_of c) r == root_place c) refl
    where
      by : (b : Bool) → (place_of s (comm_of c) r == root_place c) ≡ b
          → AreWithPeers (cond b (root_steps c (others_of s (comm_of c) r (root_place c))) (other_steps c (slice_index (members_of s (comm_of c) r) (root_place c))))
      by true is = root_with c (others_of s (comm_of c) r (root_place c)) may.comm_below may.len_within
          (others_peers (comm_of c) (root_place c) (eqb-true (place_of s (comm_of c) r) (root_place c) is))
      by false is =
          let below = root_below c may.rank_below may.root_below in
          let apart : root_place c ≢ place_of s (comm_of c) r = λ same. eqb-false (place_of s (comm_of c) r) (root_place c) is (sym same) in
          other_with c (slice_index (members_of s (comm_of c) r) (root_place c)) may.comm_below may.len_within
          (elsewhere s.nue (setup_key s (comm_of c)) r (root_place c) (slice_index (members_of s (comm_of c) r) (root_place c))
          (member_there s.nue (setup_key s (comm_of c)) r (root_place c) below) apart)

  step_with : (xs : List Step) (k : ℕ) (x : Step) → AreWithPeers xs → slice_get xs k ≡ Some x → IsWithPeer s r x
  step_with [] k x all found = absurd (cc)
  step_with (y ∷ xs) zero x all found = subst (IsWithPeer s r) (same_Some y x found) all.0
  step_with (y ∷ xs) (suc k) x all found = step_with xs k x all.1 found

  pub peers-law : (c : Coll) (k : ℕ) (x : Step) → IsCallable s r c → slice_get (steps_of s r c) k ≡ Some x → IsWithPeer s r x
  peers-law c k x may found = step_with (steps_of s r c) k x (steps_with c may) found
