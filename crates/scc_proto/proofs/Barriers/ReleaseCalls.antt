-- A release of a member, by its root or seen by itself, adds nothing to the passed calls.
use Rattle.std.proofs.Common.{◌≡◌, ◌≢◌, ◌⊎◌, ℕ, suc, ◌%◌, ◌<◌, ◌≤◌, ◌==◌, Bool, true, false, ◌&&◌, nat_le, if◌then◌else◌, List, [], ◌∷◌, ◌++◌, Option, Some, None, is_some, ⊎_elim, refl, sym, ◌∙◌, ap, ap₂, subst, append-nil, arith}
use Rattle.std.proofs.lemmas.Bool.Decides.{nat_tests}
use Rattle.scc_base.specs.Calls.{DataCall, Bar}
use Rattle.scc_base.specs.Setups.{SetupView, setup_key, place_of, root_of}
use Rattle.scc_base.proofs.Confluence.{equal_or_not}
use Rattle.scc_base.proofs.ChangeLaws.{true_or_false}
use Rattle.scc_base.proofs.GroupFacts.{root_with, root_within}
use Rattle.scc_proto.specs.Tables.{table_with}
use Rattle.scc_proto.specs.Messages.{sent_messages, received_messages}
use Rattle.scc_proto.specs.Stages.{Stage, Idle, Barrier, Record}
use Rattle.scc_proto.specs.Moves.{Move, WriteRelease, LookRelease, finished_if, calls_released, calls_let_go, write_release, look_release, after}
use Rattle.scc_proto.specs.Records.{chunk_of, last_of}
use Rattle.scc_proto.specs.Views.{View}
use Rattle.scc_proto.specs.Groups.{is_open}
use Rattle.scc_proto.specs.Singles.{IsBarrier}
use Rattle.scc_proto.specs.Passed.{gathered_barriers, is_gathered, passed_open, passed_calls, slot_of}
use Rattle.scc_proto.specs.Agreement.{RecordsAgree, GroupsAgree}
use Rattle.scc_proto.specs.Legality.{Grows}
use Rattle.scc_proto.proofs.Layouts.MoveFacts.{IsViewStep}
use Rattle.scc_proto.proofs.Barriers.BarrierFacts.{Counts, bar_at, gathered_in, releases_in, released_bar, is_open-bar, gathered-bar}
use Rattle.scc_proto.proofs.Barriers.BarrierMoves.{look_release-other, Releases, may_release_told}
use Rattle.scc_proto.proofs.Barriers.GroupRanks.{put_here, last_same, barrier_told, root_zeroth}
use Rattle.scc_proto.proofs.Barriers.GatherFacts.{open_bar, gathered_full, gathered_released, same_nat, released_gathered, passed_here, gathered_here, unmoved, barrier_is, look_release_none, released_no_message, let_go_no_message, own_root, at_member, gathers_by, quiet_barrier}

module _ (s : SetupView) (me : ℕ) (view : View) (records : ℕ → Record) (low : me < s.nue) (consistent : RecordsAgree s records) (groups : GroupsAgree s view records) where
  -- the passed calls and the slots after a move of this rank
  abbrev GrowsBy : Move → Type 0
  GrowsBy move = Grows s.nue (setup_key s) (passed_calls s records) (slot_of s records) (passed_calls s (table_with records me (after (chunk_of s) move (records me)))) (slot_of s (table_with records me (after (chunk_of s) move (records me))))

  -- the root releases a member: its barrier was gathered before and is so after
  pub write_release_grows : (c to place value last : ℕ) → IsViewStep s me view (records me) (WriteRelease c to place value last) → GrowsBy (WriteRelease c to place value last)
  write_release_grows c to place value last step =
      quiet_barrier s me records (after (chunk_of s) (WriteRelease c to place value last) (records me)) messages.0 messages.1 refl (new_passed ∙ sym old_passed)
      (gathers_by s me records (after (chunk_of s) (WriteRelease c to place value last) (records me)) c (new_gathered ∙ sym old_gathered) other_gathered)
    where
      messages : ((i : ℕ) → received_messages i (calls_released last (records me).stage (records me).calls) ≡ received_messages i (records me).calls) × ((i : ℕ) → sent_messages i (calls_released last (records me).stage (records me).calls) ≡ sent_messages i (records me).calls)
      messages = released_no_message last (records me).stage (records me).calls

      first : place_of s c me ≡ 0
      first = step.own.0.first

      last_is : last ≡ last_of s c me
      last_is = step.own.1

      told : Releases c place value last ((records me).flips c % 2) (records me).stage (write_release last (records me).stage)
      told = may_release_told c place value last ((records me).flips c % 2) (records me).stage step.permitted

      old_gathered : gathered_barriers c (last_of s c me) (records me) ≡ (records me).flips c
      old_gathered = gathered-bar c (last_of s c me) (records me) ∙ ap (gathered_in (last_of s c me) ((records me).flips c)) told.bar ∙ gathered_full (last_of s c me) ((records me).flips c) told.counts (told.all ∙ last_is)

      new_gathered : gathered_barriers c (last_of s c me) (after (chunk_of s) (WriteRelease c to place value last) (records me)) ≡ (records me).flips c
      new_gathered =
          gathered-bar c (last_of s c me) (after (chunk_of s) (WriteRelease c to place value last) (records me))
          ∙ ap (gathered_in (last_of s c me) ((records me).flips c)) told.after
          ∙ ap (λ (n : ℕ). gathered_in n ((records me).flips c) (released_bar last told.counts)) (sym last_is)
          ∙ gathered_released last ((records me).flips c) told.counts told.all

      other_gathered : (n comm : ℕ) → comm ≢ c → gathered_barriers comm n (after (chunk_of s) (WriteRelease c to place value last) (records me)) ≡ gathered_barriers comm n (records me)
      other_gathered n comm apart = gathered-bar comm n (after (chunk_of s) (WriteRelease c to place value last) (records me)) ∙ ap (gathered_in n ((records me).flips comm)) (told.others comm apart) ∙ sym (gathered-bar comm n (records me))

      open_now : is_open c (records me).stage ≡ true
      open_now = is_open-bar c (records me).stage ∙ ap (is_some {T = Counts}) told.bar

      old_passed : passed_calls s records me ≡ (records me).calls ++ Bar c ∷ []
      old_passed =
          ap (λ (l : List DataCall). (records me).calls ++ l) (open_bar s c me (records me).stage records open_now
          ∙ ap (λ (b : Bool). if b then Bar c ∷ [] else []) (ap (nat_le ((records me).flips c)) (ap (λ (r : ℕ). gathered_barriers c (last_of s c me) (records r)) (own_root s me c first) ∙ old_gathered) ∙ same_nat ((records me).flips c)))

      stage_is : (records me).stage ≡ Barrier c told.counts.seen told.counts.released
      stage_is = barrier_is c (records me).stage told.counts told.bar

      new_passed : passed_calls s (table_with records me (after (chunk_of s) (WriteRelease c to place value last) (records me))) me ≡ (records me).calls ++ Bar c ∷ []
      new_passed = passed_here s me records (after (chunk_of s) (WriteRelease c to place value last) (records me)) ∙ by_last (suc told.counts.released == last) refl
        where
          all_gathered : is_gathered s c me (table_with records me (after (chunk_of s) (WriteRelease c to place value last) (records me))) ≡ true
          all_gathered =
              gathered_here s me records (after (chunk_of s) (WriteRelease c to place value last) (records me)) c
              ∙ ap (nat_le ((records me).flips c)) (ap (gathered_barriers c (last_of s c me)) (put_here records me (root_of s c me) (after (chunk_of s) (WriteRelease c to place value last) (records me)) (own_root s me c first)) ∙ new_gathered)
              ∙ same_nat ((records me).flips c)

          by_last : (b : Bool) → (suc told.counts.released == last) ≡ b
              → calls_released last (records me).stage (records me).calls ++ passed_open s me (write_release last (records me).stage) (table_with records me (after (chunk_of s) (WriteRelease c to place value last) (records me))) ≡ (records me).calls ++ Bar c ∷ []
          by_last true is =
              ap₂ (λ (l : List DataCall) (st : Stage). l ++ passed_open s me st (table_with records me (after (chunk_of s) (WriteRelease c to place value last) (records me))))
              (ap (λ (st : Stage). calls_released last st (records me).calls) stage_is ∙ ap (λ (b : Bool). finished_if b (Bar c) (records me).calls) is)
              (ap (write_release last) stage_is ∙ ap (λ (b : Bool). if b then Idle else Barrier c told.counts.seen (suc told.counts.released)) is)
              ∙ append-nil ((records me).calls ++ Bar c ∷ [])
          by_last false is =
              ap₂ (λ (l more : List DataCall). l ++ more)
              (ap (λ (st : Stage). calls_released last st (records me).calls) stage_is ∙ ap (λ (b : Bool). finished_if b (Bar c) (records me).calls) is)
              (open_bar s c me (write_release last (records me).stage) (table_with records me (after (chunk_of s) (WriteRelease c to place value last) (records me)))
              (is_open-bar c (write_release last (records me).stage) ∙ ap (is_some {T = Counts}) (told.after ∙ ap (λ (b : Bool). if b then None else Some (record { seen = told.counts.seen; released = suc told.counts.released })) is))
              ∙ ap (λ (b : Bool). if b then Bar c ∷ [] else []) all_gathered)

  -- the record of this rank after a move, and all records
  abbrev new_of : Move → Record
  new_of move = after (chunk_of s) move (records me)

  abbrev next_of : Move → ℕ → Record
  next_of move = table_with records me (new_of move)

  -- a root of the run has released nobody, or seen all
  root_all : (c r : ℕ) → r < s.nue → (x : Counts) → bar_at c (records (root_of s c r)).stage ≡ Some x → (x.released ≡ 0) ⊎ (x.seen ≡ last_of s c r)
  root_all c r low_r x is =
      let within : root_of s c r ≤ r = root_within (setup_key s c) r in
      let root_low : root_of s c r < s.nue = omega (arith, within, low_r) in
      let record_of_root = consistent.0 (root_of s c r) root_low in
      let barrier : IsBarrier s (root_of s c r) c x.seen x.released = barrier_told s (root_of s c r) c (records (root_of s c r)).stage x is record_of_root.stage in
      let same : last_of s c (root_of s c r) ≡ last_of s c r = last_same s c (root_of s c r) r (root_with (setup_key s c) r) in
      subst (λ (n : ℕ). (x.released ≡ 0) ⊎ (x.seen ≡ n)) same barrier.all_seen

  -- a member that sees its release was in a barrier that is gathered
  pub look_release_grows : (c value : ℕ) → IsViewStep s me view (records me) (LookRelease c value) → GrowsBy (LookRelease c value)
  look_release_grows c value step = by_bar (bar_at c (records me).stage) refl
    where
      messages : ((i : ℕ) → received_messages i (calls_let_go c value ((records me).flips c % 2) (records me).stage (records me).calls) ≡ received_messages i (records me).calls) × ((i : ℕ) → sent_messages i (calls_let_go c value ((records me).flips c % 2) (records me).stage (records me).calls) ≡ sent_messages i (records me).calls)
      messages = let_go_no_message c value ((records me).flips c % 2) (records me).stage (records me).calls

      unmoved_by : look_release c value ((records me).flips c % 2) (records me).stage ≡ (records me).stage → calls_let_go c value ((records me).flips c % 2) (records me).stage (records me).calls ≡ (records me).calls → GrowsBy (LookRelease c value)
      unmoved_by stage calls = unmoved s me records (new_of (LookRelease c value)) (λ i. record (records me) { stage = stage i; calls = calls i })

      leaves : (x : Counts) → bar_at c (records me).stage ≡ Some x → (value == (records me).flips c % 2) ≡ true → GrowsBy (LookRelease c value)
      leaves x is at = quiet_barrier s me records (new_of (LookRelease c value)) messages.0 messages.1 refl (new_passed ∙ sym old_passed) gathers
        where
          both_tests : ((c == c) && (value == (records me).flips c % 2)) ≡ true
          both_tests = grind (arith, nat_tests)

          stage_is : (records me).stage ≡ Barrier c x.seen x.released
          stage_is = barrier_is c (records me).stage x is

          new_stage : look_release c value ((records me).flips c % 2) (records me).stage ≡ Idle
          new_stage = ap (look_release c value ((records me).flips c % 2)) stage_is ∙ ap (λ (b : Bool). if b then Idle else Barrier c x.seen x.released) both_tests

          new_calls : calls_let_go c value ((records me).flips c % 2) (records me).stage (records me).calls ≡ (records me).calls ++ Bar c ∷ []
          new_calls = ap (λ (st : Stage). calls_let_go c value ((records me).flips c % 2) st (records me).calls) stage_is ∙ ap (λ (b : Bool). finished_if b (Bar c) (records me).calls) both_tests

          new_passed : passed_calls s (next_of (LookRelease c value)) me ≡ (records me).calls ++ Bar c ∷ []
          new_passed = passed_here s me records (new_of (LookRelease c value))
              ∙ ap₂ (λ (l : List DataCall) (st : Stage). l ++ passed_open s me st (next_of (LookRelease c value))) new_calls new_stage
              ∙ append-nil ((records me).calls ++ Bar c ∷ [])

          is_through : is_gathered s c me records ≡ true
          is_through =
              let level = at_member s view records groups c me step.own.0 low step.own.1 in
              let flag = level.release_flag in
              let entered = level.entered in
              let not_ahead = level.not_ahead in
              let shows = step.told in
              let same_value : value ≡ (records me).flips c % 2 = grind (arith, nat_tests) in
              let caught_up : (records me).flips c ≡ releases_in (place_of s c me) ((records (root_of s c me)).flips c) (bar_at c (records (root_of s c me)).stage) = caught (releases_in (place_of s c me) ((records (root_of s c me)).flips c) (bar_at c (records (root_of s c me)).stage)) ((records me).flips c) entered not_ahead (sym same_value ∙ sym shows ∙ flag) in
              let within = released_gathered (place_of s c me) (last_of s c me) ((records (root_of s c me)).flips c) (bar_at c (records (root_of s c me)).stage) step.own.1 (λ y here. root_all c me low y here) in
              let gathered_by : gathered_barriers c (last_of s c me) (records (root_of s c me)) ≡ gathered_in (last_of s c me) ((records (root_of s c me)).flips c) (bar_at c (records (root_of s c me)).stage) = gathered-bar c (last_of s c me) (records (root_of s c me)) in
              let through : (records me).flips c ≤ gathered_barriers c (last_of s c me) (records (root_of s c me)) = omega (arith, caught_up, within, gathered_by) in
              le_test ((records me).flips c) (gathered_barriers c (last_of s c me) (records (root_of s c me))) through
            where
              caught : (low_end flips : ℕ) → low_end ≤ flips → flips ≤ suc low_end → flips % 2 ≡ low_end % 2 → flips ≡ low_end
              caught low_end flips entered not_ahead same = omega (arith, entered, not_ahead, same)

              le_test : (a b : ℕ) → a ≤ b → nat_le a b ≡ true
              le_test a b le = grind (arith, nat_tests)

          old_passed : passed_calls s records me ≡ (records me).calls ++ Bar c ∷ []
          old_passed =
              ap (λ (l : List DataCall). (records me).calls ++ l) (open_bar s c me (records me).stage records (is_open-bar c (records me).stage ∙ ap (is_some {T = Counts}) is)
              ∙ ap (λ (b : Bool). if b then Bar c ∷ [] else []) is_through)

          gathers : (k comm : ℕ) → root_of s comm k ≡ me → gathered_barriers comm (last_of s comm k) (new_of (LookRelease c value)) ≡ gathered_barriers comm (last_of s comm k) (records me)
          gathers k comm mine =
              ⊎_elim
              (λ (same : comm ≡ c). absurd (step.own.1 (subst (λ (x : ℕ). place_of s x me ≡ 0) same (ap (place_of s comm) (sym mine) ∙ root_zeroth s comm k))))
              (λ (apart : comm ≢ c).
              gathered-bar comm (last_of s comm k) (new_of (LookRelease c value))
              ∙ ap (gathered_in (last_of s comm k) ((records me).flips comm)) (look_release-other c comm value ((records me).flips c % 2) (records me).stage apart)
              ∙ sym (gathered-bar comm (last_of s comm k) (records me)))
              (equal_or_not comm c)

      by_bar : (b : Option Counts) → bar_at c (records me).stage ≡ b → GrowsBy (LookRelease c value)
      by_bar None is = let same = look_release_none c value ((records me).flips c % 2) (records me).stage (records me).calls is in unmoved_by same.0 same.1
      by_bar (Some x) is =
          ⊎_elim
          (λ (at : (value == (records me).flips c % 2) ≡ true). leaves x is at)
          (λ (other : (value == (records me).flips c % 2) ≡ false).
          let stage_is : (records me).stage ≡ Barrier c x.seen x.released = barrier_is c (records me).stage x is in
          let tests : ((c == c) && (value == (records me).flips c % 2)) ≡ false = grind (arith, nat_tests) in
          unmoved_by
          (ap (look_release c value ((records me).flips c % 2)) stage_is ∙ ap (λ (b : Bool). if b then Idle else Barrier c x.seen x.released) tests ∙ sym stage_is)
          (ap (λ (st : Stage). calls_let_go c value ((records me).flips c % 2) st (records me).calls) stage_is ∙ ap (λ (b : Bool). finished_if b (Bar c) (records me).calls) tests))
          (true_or_false (value == (records me).flips c % 2))
