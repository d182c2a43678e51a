-- Where every look is vain: a raised chunk is not taken, a posted message stands in its slot, no barrier is complete, and
-- nothing open is passed.
use Rattle.std.proofs.Common.{◌≡◌, ◌≢◌, inl, inr, ℕ, suc, ◌+◌, ◌-◌, ◌%◌, ◌<◌, ◌≤◌, ◌==◌, Bool, true, false, nat_lt, nat_le, if◌then◌else◌, List, [], ◌∷◌, ◌++◌, length, Option, refl, sym, ap, ◌∙◌, subst, arith, append-nil}
use Rattle.std.proofs.lemmas.Bool.Decides.{nat_tests}
use Rattle.scc_base.specs.Calls.{DataCall}
use Rattle.scc_base.specs.Setups.{SetupView, setup_key, place_of, root_of}
use Rattle.scc_base.proofs.GroupFacts.{root_is, root_place, root_with, root_within, size_same}
use Rattle.scc_proto.specs.Agreement.{Agrees}
use Rattle.scc_proto.specs.Groups.{holds_back, releases, InStep}
use Rattle.scc_proto.specs.Messages.{with_chunk, sent_messages, received_messages, barriers_of}
use Rattle.scc_proto.specs.Pairs.{Pair, pair_of}
use Rattle.scc_proto.specs.Passed.{is_gathering, gathered_barriers, is_gathered, is_received_ahead, passed_open, passed_calls}
use Rattle.scc_proto.specs.Records.{chunk_of, last_of}
use Rattle.scc_proto.specs.Singles.{open_barriers}
use Rattle.scc_proto.specs.Stages.{Stage, Idle, Drafting, Sending, Between, Taking, Barrier, Record}
use Rattle.scc_proto.specs.Views.{View, view_of}
use Rattle.scc_proto.specs.Words.{Memory, is_present}
use Rattle.scc_proto.proofs.Legality.StepLaws.{itself}
use Rattle.scc_proto.proofs.Tests.{eqb_other}
use Rattle.script_machine.specs.declared.posts.Posted.{Posted}
use Rattle.script_machine.specs.Next.{Next}
use Rattle.script_machine.specs.Next.Next.{Ends, Goes, Posts, Sends, Recvs, Bars}
use Rattle.script_machine.proofs.Choices.{and_of, both_true}
use Rattle.chip_run.specs.Waiting.{IsLooking, BarWaits, AtRoot, AtMember}
use Rattle.chip_run.proofs.Offers.{as_many, raise_out}
use Rattle.rcce_run.specs.Sweep.{Failed, Swept}
use Rattle.rcce_run.proofs.Holding.{lt_true}

-- ---- barriers, as numbers

one_more : (release low flips : ℕ) → release ≡ low % 2 → release ≢ flips % 2 → low ≤ flips → flips ≤ suc low → flips ≡ suc low
one_more release low flips shows failed entered ahead = omega (arith, shows, failed, entered, ahead)

no_two : (big small gather release low : ℕ) → gather ≡ small % 2 → gather ≢ big % 2 → release ≡ low % 2 → release ≢ small % 2 → low ≡ big - 1 → 1 ≤ big → low ≤ small → small ≤ suc low → ⊥
no_two big small gather release low shows failed says waits is some entered ahead = omega (arith, shows, failed, says, waits, is, some, entered, ahead)

-- a root that waits for a member has not seen all
gathering_waits : (comm seen released last : ℕ) (rec : Record) → rec.stage ≡ Barrier comm seen released → seen < last → gathered_barriers comm last rec ≡ rec.flips comm - 1
gathering_waits comm seen released last rec stage low =
    ap (λ (b : Bool). if b then rec.flips comm - 1 else rec.flips comm)
    (ap (is_gathering comm last) stage ∙ and_of (comm == comm) (nat_lt seen last) (itself comm) (lt_true seen last low))

gathered_most : (comm last : ℕ) (rec : Record) → gathered_barriers comm last rec ≤ rec.flips comm
gathered_most comm last rec = by (is_gathering comm last rec.stage)
  where
    by : (b : Bool) → (if b then rec.flips comm - 1 else rec.flips comm) ≤ rec.flips comm
    by true = omega arith
    by false = omega arith

-- a root that holds a member back is in the barrier
holder : (comm place : ℕ) (st : Stage) → holds_back comm place st ≡ true → (seen : ℕ) × (released : ℕ) × (st ≡ Barrier comm seen released)
holder comm place Idle is = absurd (cc (is))
holder comm place (Drafting header chunk) is = absurd (cc (is))
holder comm place (Sending to part message chunk) is = absurd (cc (is))
holder comm place (Between from message) is = absurd (cc (is))
holder comm place (Taking from message chunk) is = absurd (cc (is))
holder comm place (Barrier c seen released) is =
    (seen, released, ap (λ (x : ℕ). Barrier x seen released) (same c comm (both_true (c == comm) (nat_lt released place) is).0))
  where
    same : (a b : ℕ) → (a == b) ≡ true → a ≡ b
    same a b t = grind (arith, nat_tests)

module _ (s : SetupView) (memory : Memory) (records : ℕ → Record) (agrees : Agrees s memory records) where
  abbrev view : View
  view = view_of s memory

  abbrev pub pair : ℕ → ℕ → Pair
  pair i j = pair_of i j (view_of s memory) (records i) (records j)

  some_flip : (k comm seen released : ℕ) → k < s.nue → (records k).stage ≡ Barrier comm seen released → 1 ≤ (records k).flips comm
  some_flip k comm seen released low stage =
      let counts = (agrees.singles.0 k low).flips comm in
      let one : open_barriers comm (records k).stage ≡ 1 = ap (open_barriers comm) stage ∙ ap (λ (b : Bool). if b then 1 else 0) (itself comm) in
      let all : (records k).flips comm ≡ barriers_of comm (records k).calls + 1 = counts ∙ ap (λ (n : ℕ). barriers_of comm (records k).calls + n) one in
      omega (arith, all)

  -- ---- barriers

  member_of : (comm k : ℕ) → k < s.nue → is_present s comm ≡ true → place_of s comm k ≢ 0 → InStep (view_of s memory) comm (place_of s comm k) k (records (root_of s comm k)) (records k)
  member_of comm k low present other = (agrees.groups comm k present low).member other

  -- a root and the member for which it waits are not both in a barrier that is complete
  pub no_barrier : (comm a : ℕ) → a < s.nue → place_of s comm a ≡ 0 → BarWaits s (view_of s memory) a comm (records a)
      → ((j : ℕ) → j < s.nue → setup_key s comm j ≡ setup_key s comm a → BarWaits s (view_of s memory) j comm (records j)) → ⊥
  no_barrier comm a low zeroth (AtMember present other stage failed) members = other zeroth
  no_barrier comm a low zeroth (AtRoot seen j present root stage less below grouped placed failed) members = by (members j below grouped)
    where
      by : BarWaits s (view_of s memory) j comm (records j) → ⊥
      by (AtRoot seen' k present' root' stage' less' below' grouped' placed' failed') = let one = placed in let two = root' in omega (arith, one, two)
      by (AtMember present' other stage' waits) =
          let step = member_of comm j below present other in
          let root_is_a : root_of s comm j ≡ a = sym (root_is (setup_key s comm) j a (sym grouped) zeroth) in
          let held : holds_back comm (place_of s comm j) (records a).stage ≡ true =
          ap (holds_back comm (place_of s comm j)) stage
          ∙ and_of (comm == comm) (nat_lt 0 (place_of s comm j)) (itself comm) (lt_true 0 (place_of s comm j) (omega (arith, placed))) in
          let low_is : releases comm (place_of s comm j) (records (root_of s comm j)) ≡ (records a).flips comm - 1 =
          ap (λ (r : ℕ). releases comm (place_of s comm j) (records r)) root_is_a
          ∙ ap (λ (b : Bool). if b then (records a).flips comm - 1 else (records a).flips comm) held in
          no_two ((records a).flips comm) ((records j).flips comm) ((view_of s memory).gather comm j) ((view_of s memory).release comm j) (releases comm (place_of s comm j) (records (root_of s comm j)))
          (agrees.groups comm j present below).gather_flag failed step.release_flag waits low_is (some_flip a comm seen 0 low stage) step.entered step.not_ahead

  -- a barrier in which a root waits for a member
  root_waits : (comm k : ℕ) (seen : ℕ) → k < s.nue → place_of s comm k ≡ 0 → (records k).stage ≡ Barrier comm seen 0 → seen < last_of s comm k → is_gathered s comm k records ≡ false
  root_waits comm k seen low zeroth stage less =
      let root : root_of s comm k ≡ k = sym (root_is (setup_key s comm) k k refl zeroth) in
      let count : gathered_barriers comm (last_of s comm k) (records (root_of s comm k)) ≡ (records k).flips comm - 1 =
      ap (λ (r : ℕ). gathered_barriers comm (last_of s comm k) (records r)) root ∙ gathering_waits comm seen 0 (last_of s comm k) (records k) stage less in
      ap (nat_le ((records k).flips comm)) count ∙ above ((records k).flips comm) (some_flip k comm seen 0 low stage)
    where
      above : (n : ℕ) → 1 ≤ n → nat_le n (n - 1) ≡ false
      above n some = grind (arith, nat_tests)

  -- a member that waits for its release is not counted yet
  afterwards : (comm k : ℕ) → k < s.nue → is_present s comm ≡ true → place_of s comm k ≢ 0 → (view_of s memory).release comm k ≢ (records k).flips comm % 2
      → ((seen released : ℕ) → (records (root_of s comm k)).stage ≡ Barrier comm seen released → BarWaits s (view_of s memory) (root_of s comm k) comm (records (root_of s comm k)))
      → is_gathered s comm k records ≡ false
  afterwards comm k low present other failed roots =
      less ((records k).flips comm) (gathered_barriers comm (last_of s comm k) (records root)) (by (holds_back comm (place_of s comm k) (records root).stage) refl)
    where
      root : ℕ
      root = root_of s comm k

      step : InStep (view_of s memory) comm (place_of s comm k) k (records (root_of s comm k)) (records k)
      step = member_of comm k low present other

      ahead : (records k).flips comm ≡ suc (releases comm (place_of s comm k) (records (root_of s comm k)))
      ahead = one_more ((view_of s memory).release comm k) (releases comm (place_of s comm k) (records (root_of s comm k))) ((records k).flips comm) step.release_flag failed step.entered step.not_ahead

      less : (n m : ℕ) → m < n → nat_le n m ≡ false
      less n m low = grind (arith, nat_tests)

      same_last : last_of s comm (root_of s comm k) ≡ last_of s comm k
      same_last = ap (λ (n : ℕ). n - 1) (size_same s.nue (setup_key s comm) (root_of s comm k) k (root_with (setup_key s comm) k))

      by_root : BarWaits s (view_of s memory) (root_of s comm k) comm (records (root_of s comm k)) → gathered_barriers comm (last_of s comm k) (records (root_of s comm k)) ≡ (records (root_of s comm k)).flips comm - 1
      by_root (AtMember present' other' stage' failed') = absurd (other' (root_place (setup_key s comm) k))
      by_root (AtRoot seen j present' zeroth stage' less' below grouped placed failed') =
          gathering_waits comm seen 0 (last_of s comm k) (records (root_of s comm k)) stage' (subst (λ (n : ℕ). seen < n) same_last less')

      by : (b : Bool) → holds_back comm (place_of s comm k) (records (root_of s comm k)).stage ≡ b → gathered_barriers comm (last_of s comm k) (records (root_of s comm k)) < (records k).flips comm
      by true holds =
          let (seen, released, stage) = holder comm (place_of s comm k) (records (root_of s comm k)).stage holds in
          let count = by_root (roots seen released stage) in
          let low_is : releases comm (place_of s comm k) (records (root_of s comm k)) ≡ (records (root_of s comm k)).flips comm - 1 =
          ap (λ (b : Bool). if b then (records (root_of s comm k)).flips comm - 1 else (records (root_of s comm k)).flips comm) holds in
          let more : (records k).flips comm ≡ suc ((records (root_of s comm k)).flips comm - 1) = ahead ∙ ap suc low_is in
          omega (arith, count, more)
      by false holds =
          let high : releases comm (place_of s comm k) (records (root_of s comm k)) ≡ (records (root_of s comm k)).flips comm =
          ap (λ (b : Bool). if b then (records (root_of s comm k)).flips comm - 1 else (records (root_of s comm k)).flips comm) holds in
          let more : (records k).flips comm ≡ suc ((records (root_of s comm k)).flips comm) = ahead ∙ ap suc high in
          let most = gathered_most comm (last_of s comm k) (records (root_of s comm k)) in
          omega (arith, more, most)

module _ {U : Type 0} (next : U → Next U) (s : SetupView) (memory : Memory) (records : ℕ → Record) (starts states : ℕ → U) (lasts : ℕ → Option Posted) (sw : Swept next s memory records starts states lasts) where
  -- a rank in a barrier waits there
  pub at_barrier : (k comm seen released : ℕ) → k < s.nue → (records k).stage ≡ Barrier comm seen released → BarWaits s (view_of s memory) k comm (records k)
  at_barrier k comm seen released low stage = by (next (states k)) (sw.failed k low)
    where
      not_looking : (from : ℕ) (st : Stage) → st ≡ Barrier comm seen released → IsLooking from st → ⊥
      not_looking from st is looks = subst (IsLooking from) is looks

      same_comm : (c : ℕ) → BarWaits s (view_of s memory) k c (records k) → c ≡ comm
      same_comm c (AtRoot seen' j present zeroth stage' less below grouped placed failed) = cc (stage, stage')
      same_comm c (AtMember present other stage' failed) = cc (stage, stage')

      by : (n : Next U) → Failed s (view_of s memory) k (records k) n → BarWaits s (view_of s memory) k comm (records k)
      by Ends failed = absurd (cc (stage, failed))
      by (Goes after) failed = absurd failed
      by (Posts message after) failed = absurd (let idle = failed.stage in cc (stage, idle))
      by (Sends to head bytes after) (inl slot) = absurd (let idle = slot.stage in cc (stage, idle))
      by (Sends to head bytes after) (inr raise) = absurd (let open_stage = raise.stage in cc (stage, open_stage))
      by (Recvs from head take refuse) failed = absurd (not_looking from (records k).stage stage failed.stage)
      by (Bars c after) failed = subst (λ (x : ℕ). BarWaits s (view_of s memory) k x (records k)) (same_comm c failed) failed

  bar_not_passed : (k comm seen : ℕ) → k < s.nue → (records k).stage ≡ Barrier comm seen 0 → is_gathered s comm k records ≡ false → passed_open s k (records k).stage records ≡ []
  bar_not_passed k comm seen low stage not_yet =
      ap (λ (st : Stage). passed_open s k st records) stage ∙ ap (λ (b : Bool). if b then DataCall.Bar comm ∷ [] else []) not_yet

  -- nothing open is passed
  pub none_open : (k : ℕ) → k < s.nue → passed_open s k (records k).stage records ≡ []
  none_open k low = by (next (states k)) (sw.failed k low)
    where
      idle_none : (records k).stage ≡ Idle → passed_open s k (records k).stage records ≡ []
      idle_none is = ap (λ (st : Stage). passed_open s k st records) is

      looking_none : (from : ℕ) (st : Stage) → IsLooking from st → passed_open s k st records ≡ []
      looking_none from Idle looks = refl
      looking_none from (Drafting header chunk) looks = absurd looks
      looking_none from (Sending to part message chunk) looks = absurd looks
      looking_none from (Between i message) looks = refl
      looking_none from (Taking i message chunk) looks = absurd looks
      looking_none from (Barrier comm seen released) looks = absurd looks

      by_bar : (comm : ℕ) → BarWaits s (view_of s memory) k comm (records k) → passed_open s k (records k).stage records ≡ []
      by_bar comm (AtRoot seen j present zeroth stage less below grouped placed failed) =
          bar_not_passed k comm seen low stage (root_waits s memory records sw.agrees comm k seen low zeroth stage less)
      by_bar comm (AtMember present other stage failed) =
          bar_not_passed k comm 0 low stage (afterwards s memory records sw.agrees comm k low present other failed
          (λ seen released is. let within = root_within (setup_key s comm) k in at_barrier (root_of s comm k) comm seen released (omega (arith, low, within)) is))

      by : (n : Next U) → Failed s (view_of s memory) k (records k) n → passed_open s k (records k).stage records ≡ []
      by Ends failed = idle_none failed
      by (Goes after) failed = absurd failed
      by (Posts message after) failed = idle_none failed.stage
      by (Sends to head bytes after) (inl slot) = idle_none slot.stage
      by (Sends to head bytes after) (inr raise) =
          let even = as_many (chunk_of s) (pair_of k to (view_of s memory) (records k) (records to)) raise.message raise.chunk (raise_out s memory records sw.agrees k to head raise) in
          let not_yet : is_received_ahead k to records ≡ false =
          eqb_other (length (received_messages k (records to).calls)) (suc (length (sent_messages to (records k).calls))) (λ is. absurd (omega (arith, even, is))) in
          ap (λ (st : Stage). passed_open s k st records) raise.stage
          ∙ ap (λ (b : Bool). if b then DataCall.Send to raise.message.head (with_chunk (chunk_of s) raise.message raise.chunk).bytes ∷ [] else []) not_yet
      by (Recvs from head take refuse) failed = looking_none from (records k).stage failed.stage
      by (Bars comm after) failed = by_bar comm failed

  pub none_passed : (k : ℕ) → k < s.nue → passed_calls s records k ≡ (records k).calls
  none_passed k low = ap (λ (l : List DataCall). (records k).calls ++ l) (none_open k low) ∙ append-nil (records k).calls
