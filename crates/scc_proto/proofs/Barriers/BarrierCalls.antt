-- The moves of barriers add nothing to the passed calls, or the barrier of all members of a group.
use Rattle.std.proofs.Common.{◌≡◌, ◌≢◌, ◌⊎◌, ℕ, suc, ◌-◌, ◌%◌, ◌<◌, ◌≤◌, ◌==◌, Bool, true, false, true≢false, ◌&&◌, nat_le, if◌then◌else◌, List, [], ◌∷◌, ◌++◌, Option, Some, None, is_some, inl, inr, ⊎_elim, refl, sym, ◌∙◌, ap, ap₂, subst, subst₂, append-nil, arith}
use Rattle.std.proofs.lemmas.Bool.Decides.{nat_tests}
use Rattle.scc_base.specs.Calls.{DataCall, Bar}
use Rattle.scc_base.specs.Setups.{SetupView, IsSetup, setup_key, place_of, root_of}
use Rattle.scc_base.proofs.Confluence.{equal_or_not}
use Rattle.scc_base.proofs.ChangeLaws.{true_or_false}
use Rattle.scc_base.proofs.GroupFacts.{place_once, root_with, root_once}
use Rattle.scc_proto.specs.Tables.{table_with}
use Rattle.scc_proto.specs.Stages.{Barrier, Record}
use Rattle.scc_proto.specs.Moves.{Move, FlipGather, LookGather, WriteRelease, LookRelease, look_gather, after}
use Rattle.scc_proto.specs.Records.{chunk_of, last_of}
use Rattle.scc_proto.specs.Views.{View, view_after_move}
use Rattle.scc_proto.specs.Groups.{is_open}
use Rattle.scc_proto.specs.Singles.{IsConsistent}
use Rattle.scc_proto.specs.Passed.{gathered_barriers, passed_open, passed_calls, slot_of}
use Rattle.scc_proto.specs.Agreement.{RecordsAgree, GroupsAgree}
use Rattle.scc_proto.specs.Legality.{in_group, Grows}
use Rattle.scc_proto.proofs.Messages.Growth.{grows_by_barrier}
use Rattle.scc_proto.proofs.Layouts.MoveFacts.{IsMember, IsViewStep}
use Rattle.scc_proto.proofs.Barriers.BarrierFacts.{Counts, bar_at, seen_in, gathered_in, releases_in, is_open-bar, gathered-bar, Level}
use Rattle.scc_proto.proofs.Barriers.BarrierMoves.{is_barrier_move, saw_bar, look_gather-bar, look_gather-other}
use Rattle.scc_proto.proofs.Barriers.GroupRanks.{put_here, put_there, at_rank, place_within, barrier_told, has_flipped}
use Rattle.scc_proto.proofs.Barriers.GroupLaw.{groups_kept}
use Rattle.scc_proto.proofs.Barriers.GatherFacts.{open_bar, gathered_full, gathered_more, le_test, positive, held_test, up_one, never, same_nat, passed_else, passed_here, gathered_here, slots_stay, unmoved, barrier_is, look_gather_none, open_low, mine_last, own_root, at_member, group_told, group_test, gathers_by, quiet_barrier}
use Rattle.scc_proto.proofs.Barriers.ReleaseCalls.{write_release_grows, look_release_grows}
use Rattle.scc_proto.proofs.Barriers.EntryCalls.{flip_grows}

module _ (s : SetupView) (me : ℕ) (view : View) (records : ℕ → Record) (low : me < s.nue) (consistent : RecordsAgree s records) (groups : GroupsAgree s view records) where
  -- the passed calls and the slots after a move of this rank
  abbrev GrowsBy : Move → Type 0
  GrowsBy move = Grows s.nue (setup_key s) (passed_calls s records) (slot_of s records) (passed_calls s (table_with records me (after (chunk_of s) move (records me)))) (slot_of s (table_with records me (after (chunk_of s) move (records me))))

  -- the record of this rank after a move, and all records
  abbrev new_of : Move → Record
  new_of move = after (chunk_of s) move (records me)

  abbrev next_of : Move → ℕ → Record
  next_of move = table_with records me (new_of move)

  -- the root sees a member: the last one of them lets the barrier be passed by all
  look_gather_grows : IsSetup s → (c from place value : ℕ) → IsViewStep s me view (records me) (LookGather c from place value) → GrowsBy (LookGather c from place value)
  look_gather_grows setup c from place value step = by_bar (bar_at c (records me).stage) refl
    where
      member_from : IsMember s me c from place
      member_from = step.own

      own_record : IsConsistent s me (records me)
      own_record = consistent.0 me low

      mine : root_of s c me ≡ me
      mine = own_root s me c member_from.first

      slots : (k : ℕ) → slot_of s (next_of (LookGather c from place value)) k ≡ slot_of s records k
      slots = slots_stay s me records (new_of (LookGather c from place value)) (λ i. refl) (λ i. refl) refl

      unmoved_by : look_gather c place value ((records me).flips c % 2) (records me).stage ≡ (records me).stage → GrowsBy (LookGather c from place value)
      unmoved_by stage = unmoved s me records (new_of (LookGather c from place value)) (λ i. record (records me) { stage = stage i })

      other_gathered : (n comm : ℕ) → comm ≢ c → gathered_barriers comm n (new_of (LookGather c from place value)) ≡ gathered_barriers comm n (records me)
      other_gathered n comm apart =
          gathered-bar comm n (new_of (LookGather c from place value))
          ∙ ap (gathered_in n ((records me).flips comm)) (look_gather-other c comm place value ((records me).flips c % 2) (records me).stage apart)
          ∙ sym (gathered-bar comm n (records me))

      module_of : (x : Counts) → bar_at c (records me).stage ≡ Some x → ((place == suc x.seen) && (value == (records me).flips c % 2)) ≡ true → GrowsBy (LookGather c from place value)
      module_of x is looks = by_last (equal_or_not (suc x.seen) (last_of s c me))
        where
          new_bar : bar_at c (look_gather c place value ((records me).flips c % 2) (records me).stage) ≡ Some (record { seen = suc x.seen; released = x.released })
          new_bar =
              look_gather-bar c place value ((records me).flips c % 2) (records me).stage
              ∙ ap (saw_bar place value ((records me).flips c % 2)) is
              ∙ ap (λ (b : Bool). if b then Some (record { seen = suc x.seen; released = x.released }) else Some x) looks

          within : suc x.seen ≤ last_of s c me
          within =
              let at : place ≡ suc x.seen = grind (arith, nat_tests) in
              let below = place_within s c from member_from.below in
              let same = mine_last s me c from member_from.root in
              let is_at = member_from.at in
              omega (arith, at, below, same, is_at)

          some : 1 ≤ (records me).flips c
          some = let count = own_record.flips c in let one = has_flipped c (records me).stage x is in omega (arith, count, one)

          none_released : x.released ≡ 0
          none_released =
              ⊎_elim
              (λ (none : x.released ≡ 0). none)
              (λ (all : x.seen ≡ last_of s c me). absurd (omega (arith, all, within)))
              (barrier_told s me c (records me).stage x is own_record.stage).all_seen

          old_gathered : gathered_barriers c (last_of s c me) (records me) ≡ (records me).flips c - 1
          old_gathered = gathered-bar c (last_of s c me) (records me) ∙ ap (gathered_in (last_of s c me) ((records me).flips c)) is ∙ gathered_more (last_of s c me) ((records me).flips c) x (omega (arith, within))

          new_by : gathered_barriers c (last_of s c me) (new_of (LookGather c from place value)) ≡ gathered_in (last_of s c me) ((records me).flips c) (Some (record { seen = suc x.seen; released = x.released }))
          new_by = gathered-bar c (last_of s c me) (new_of (LookGather c from place value)) ∙ ap (gathered_in (last_of s c me) ((records me).flips c)) new_bar

          old_open : is_open c (records me).stage ≡ true
          old_open = is_open-bar c (records me).stage ∙ ap (is_some {T = Counts}) is

          new_open : is_open c (look_gather c place value ((records me).flips c % 2) (records me).stage) ≡ true
          new_open = is_open-bar c (look_gather c place value ((records me).flips c % 2) (records me).stage) ∙ ap (is_some {T = Counts}) new_bar

          me_old : passed_calls s records me ≡ (records me).calls ++ (if nat_le ((records me).flips c) ((records me).flips c - 1) then Bar c ∷ [] else [])
          me_old =
              ap (λ (l : List DataCall). (records me).calls ++ l) (open_bar s c me (records me).stage records old_open
              ∙ ap (λ (n : ℕ). if nat_le ((records me).flips c) n then Bar c ∷ [] else []) (ap (λ (r : ℕ). gathered_barriers c (last_of s c me) (records r)) mine ∙ old_gathered))

          me_new : passed_calls s (next_of (LookGather c from place value)) me ≡ (records me).calls ++ (if nat_le ((records me).flips c) (gathered_barriers c (last_of s c me) (new_of (LookGather c from place value))) then Bar c ∷ [] else [])
          me_new =
              passed_here s me records (new_of (LookGather c from place value))
              ∙ ap (λ (l : List DataCall). (records me).calls ++ l) (open_bar s c me (look_gather c place value ((records me).flips c % 2) (records me).stage) (next_of (LookGather c from place value)) new_open
              ∙ ap (λ (b : Bool). if b then Bar c ∷ [] else []) (gathered_here s me records (new_of (LookGather c from place value)) c
              ∙ ap (λ (rec : Record). nat_le ((records me).flips c) (gathered_barriers c (last_of s c me) rec)) (put_here records me (root_of s c me) (new_of (LookGather c from place value)) mine)))

          -- not all members are seen yet
          waits : suc x.seen ≢ last_of s c me → GrowsBy (LookGather c from place value)
          waits more =
              quiet_barrier s me records (new_of (LookGather c from place value)) (λ i. refl) (λ i. refl) refl (me_new ∙ ap (λ (n : ℕ). (records me).calls ++ (if nat_le ((records me).flips c) n then Bar c ∷ [] else [])) new_gathered ∙ sym me_old)
              (gathers_by s me records (new_of (LookGather c from place value)) c (new_gathered ∙ sym old_gathered) other_gathered)
            where
              new_gathered : gathered_barriers c (last_of s c me) (new_of (LookGather c from place value)) ≡ (records me).flips c - 1
              new_gathered = new_by ∙ gathered_more (last_of s c me) ((records me).flips c) (record { seen = suc x.seen; released = x.released }) (omega (arith, within, more))

          -- all members are seen: each of them is in this barrier
          all_through : suc x.seen ≡ last_of s c me → GrowsBy (LookGather c from place value)
          all_through all =
              grows_by_barrier s.nue (setup_key s) (passed_calls s records) (passed_calls s (next_of (LookGather c from place value))) (slot_of s records) (slot_of s (next_of (LookGather c from place value))) c me
              (record { below = low; zeroth = member_from.first }) gain stay slots
            where
              new_gathered : gathered_barriers c (last_of s c me) (new_of (LookGather c from place value)) ≡ (records me).flips c
              new_gathered = new_by ∙ gathered_full (last_of s c me) ((records me).flips c) (record { seen = suc x.seen; released = x.released }) all

              not_before : nat_le ((records me).flips c) ((records me).flips c - 1) ≡ false
              not_before = below_one ((records me).flips c) some
                where
                  below_one : (a : ℕ) → 1 ≤ a → nat_le a (a - 1) ≡ false
                  below_one a one = grind (arith, nat_tests)

              me_before : passed_calls s records me ≡ (records me).calls
              me_before = me_old ∙ ap (λ (b : Bool). (records me).calls ++ (if b then Bar c ∷ [] else [])) not_before ∙ append-nil (records me).calls

              me_after : passed_calls s (next_of (LookGather c from place value)) me ≡ (records me).calls ++ Bar c ∷ []
              me_after = me_new ∙ ap (λ (n : ℕ). (records me).calls ++ (if nat_le ((records me).flips c) n then Bar c ∷ [] else [])) new_gathered
                  ∙ ap (λ (b : Bool). (records me).calls ++ (if b then Bar c ∷ [] else [])) (same_nat ((records me).flips c))

              next_groups : GroupsAgree s (view_after_move me (LookGather c from place value) view) (next_of (LookGather c from place value))
              next_groups = groups_kept s me view records (LookGather c from place value) setup step consistent groups

              member_gains : (k : ℕ) → k ≢ me → k < s.nue → setup_key s c k ≡ setup_key s c me → passed_calls s (next_of (LookGather c from place value)) k ≡ passed_calls s records k ++ Bar c ∷ []
              member_gains k other below same =
                  after_it ∙ ap (λ (l : List DataCall). l ++ Bar c ∷ []) (sym before_it)
                where
                  root_k : root_of s c k ≡ me
                  root_k = root_once (setup_key s c) k me same ∙ mine

                  member : place_of s c k ≢ 0
                  member zeroth = other (place_once (setup_key s c) k me same (zeroth ∙ sym member_from.first))

                  same_last : last_of s c k ≡ last_of s c me
                  same_last = mine_last s me c k root_k

                  k_within : place_of s c k ≤ suc x.seen
                  k_within = let at_most = place_within s c k below in let last_same_k = same_last in omega (arith, at_most, last_same_k, all)

                  old_level : Level (place_of s c k) (view.release c k) ((records me).flips c) (Some x) ((records k).flips c) (bar_at c (records k).stage)
                  old_level = subst (λ (b : Option Counts). Level (place_of s c k) (view.release c k) ((records me).flips c) b ((records k).flips c) (bar_at c (records k).stage)) is
                      (subst (λ (r : ℕ). Level (place_of s c k) (view.release c k) ((records r).flips c) (bar_at c (records r).stage) ((records k).flips c) (bar_at c (records k).stage)) root_k (at_member s view records groups c k member_from.present below member))

                  has_entered : (records me).flips c ≤ (records k).flips c
                  has_entered =
                      let new_level = (at_rank s (view_after_move me (LookGather c from place value) view) c k (next_of (LookGather c from place value)) (next_groups c k member_from.present below)).member member in
                      let root_flips : (next_of (LookGather c from place value) (root_of s c k)).flips c ≡ (records me).flips c = ap (λ (rec : Record). rec.flips c) (put_here records me (root_of s c k) (new_of (LookGather c from place value)) root_k) in
                      let root_bar : bar_at c (next_of (LookGather c from place value) (root_of s c k)).stage ≡ Some (record { seen = suc x.seen; released = x.released }) = ap (λ (rec : Record). bar_at c rec.stage) (put_here records me (root_of s c k) (new_of (LookGather c from place value)) root_k) ∙ new_bar in
                      let own_flips : (next_of (LookGather c from place value) k).flips c ≡ (records k).flips c = ap (λ (rec : Record). rec.flips c) (put_there records me k (new_of (LookGather c from place value)) other) in
                      let seen_it : nat_le (place_of s c k) (suc x.seen) ≡ true = le_test (place_of s c k) (suc x.seen) k_within in
                      let low_flips = new_level.seen (ap (seen_in (place_of s c k)) root_bar ∙ seen_it) in
                      subst₂ (λ (a b : ℕ). a ≤ b) root_flips own_flips low_flips

                  lag : releases_in (place_of s c k) ((records me).flips c) (Some x) ≡ (records me).flips c - 1
                  lag = ap (λ (b : Bool). if b then (records me).flips c - 1 else (records me).flips c) (held_test x.released (place_of s c k) (positive (place_of s c k) member) none_released)

                  k_flips : (records k).flips c ≡ (records me).flips c
                  k_flips = let top : (records k).flips c ≤ suc ((records me).flips c - 1) = subst (λ (n : ℕ). (records k).flips c ≤ suc n) lag old_level.not_ahead in let bottom = has_entered in omega (arith, top, bottom, some)

                  k_open : is_open c (records k).stage ≡ true
                  k_open = is_open-bar c (records k).stage ∙ old_level.waits (k_flips ∙ up_one ((records me).flips c) some ∙ ap suc (sym lag))

                  before_it : passed_calls s records k ≡ (records k).calls
                  before_it =
                      ap (λ (l : List DataCall). (records k).calls ++ l) (open_bar s c k (records k).stage records k_open
                      ∙ ap (λ (b : Bool). if b then Bar c ∷ [] else [])
                      (ap₂ nat_le k_flips (ap (λ (r : ℕ). gathered_barriers c (last_of s c k) (records r)) root_k ∙ ap (λ (n : ℕ). gathered_barriers c n (records me)) same_last ∙ old_gathered) ∙ not_before))
                      ∙ append-nil (records k).calls

                  after_it : passed_calls s (next_of (LookGather c from place value)) k ≡ (records k).calls ++ Bar c ∷ []
                  after_it =
                      ap (λ (rec : Record). rec.calls ++ passed_open s k rec.stage (next_of (LookGather c from place value))) (put_there records me k (new_of (LookGather c from place value)) other)
                      ∙ ap (λ (l : List DataCall). (records k).calls ++ l) (open_bar s c k (records k).stage (next_of (LookGather c from place value)) k_open
                      ∙ ap (λ (b : Bool). if b then Bar c ∷ [] else [])
                      (ap₂ nat_le (ap (λ (rec : Record). rec.flips c) (put_there records me k (new_of (LookGather c from place value)) other) ∙ k_flips)
                      (ap (gathered_barriers c (last_of s c k)) (put_here records me (root_of s c k) (new_of (LookGather c from place value)) root_k) ∙ ap (λ (n : ℕ). gathered_barriers c n (new_of (LookGather c from place value))) same_last ∙ new_gathered)
                      ∙ same_nat ((records me).flips c)))

              gain : (k : ℕ) → in_group s.nue (setup_key s) c me k ≡ true → passed_calls s (next_of (LookGather c from place value)) k ≡ passed_calls s records k ++ Bar c ∷ []
              gain k inside =
                  let told = group_told s c me k inside in
                  ⊎_elim
                  (λ (same : k ≡ me). subst (λ (y : ℕ). passed_calls s (next_of (LookGather c from place value)) y ≡ passed_calls s records y ++ Bar c ∷ []) (sym same) (me_after ∙ ap (λ (l : List DataCall). l ++ Bar c ∷ []) (sym me_before)))
                  (λ (other : k ≢ me). member_gains k other told.0 told.1)
                  (equal_or_not k me)

              stay : (k : ℕ) → in_group s.nue (setup_key s) c me k ≡ false → passed_calls s (next_of (LookGather c from place value)) k ≡ passed_calls s records k
              stay k outside = passed_else s me records (new_of (LookGather c from place value)) (λ i. refl) (λ i. refl) k other
                  (λ comm led open_at.
                  ⊎_elim
                  (λ (same : comm ≡ c).
                  let key : setup_key s comm k ≡ setup_key s comm me = sym (root_with (setup_key s comm) k) ∙ ap (setup_key s comm) led in
                  absurd (true≢false (sym (group_test s c me k (open_low s records consistent comm k open_at) (subst (λ (y : ℕ). setup_key s y k ≡ setup_key s y me) same key)) ∙ outside)))
                  (λ (apart : comm ≢ c). other_gathered (last_of s comm k) comm apart)
                  (equal_or_not comm c))
                where
                  other : k ≢ me
                  other is_me = absurd (true≢false (sym (subst (λ (y : ℕ). in_group s.nue (setup_key s) c me y ≡ true) (sym is_me) (group_test s c me me low refl)) ∙ outside))

          by_last : (suc x.seen ≡ last_of s c me) ⊎ (suc x.seen ≢ last_of s c me) → GrowsBy (LookGather c from place value)
          by_last (inl all) = all_through all
          by_last (inr more) = waits more

      by_bar : (b : Option Counts) → bar_at c (records me).stage ≡ b → GrowsBy (LookGather c from place value)
      by_bar None is = unmoved_by (look_gather_none c place value ((records me).flips c % 2) (records me).stage is)
      by_bar (Some x) is =
          ⊎_elim
          (λ (looks : ((place == suc x.seen) && (value == (records me).flips c % 2)) ≡ true). module_of x is looks)
          (λ (other : ((place == suc x.seen) && (value == (records me).flips c % 2)) ≡ false).
          let stage_is : (records me).stage ≡ Barrier c x.seen x.released = barrier_is c (records me).stage x is in
          let tests : ((c == c) && ((place == suc x.seen) && (value == (records me).flips c % 2))) ≡ false = (ap (λ (b : Bool). (c == c) && b) other ∙ never (c == c)) in
          unmoved_by (ap (look_gather c place value ((records me).flips c % 2)) stage_is ∙ ap (λ (b : Bool). if b then Barrier c (suc x.seen) x.released else Barrier c x.seen x.released) tests ∙ sym stage_is))
          (true_or_false ((place == suc x.seen) && (value == (records me).flips c % 2)))

pub barrier_calls : (s : SetupView) (me : ℕ) (view : View) (records : ℕ → Record) (move : Move) → IsSetup s → IsViewStep s me view (records me) move → RecordsAgree s records → GroupsAgree s view records → is_barrier_move move ≡ true
    → Grows s.nue (setup_key s) (passed_calls s records) (slot_of s records) (passed_calls s (table_with records me (after (chunk_of s) move (records me)))) (slot_of s (table_with records me (after (chunk_of s) move (records me))))
barrier_calls s me view records (FlipGather c value last) setup step consistent groups is = flip_grows s me view records step.rank consistent groups c value last step
barrier_calls s me view records (LookGather c from place value) setup step consistent groups is = look_gather_grows s me view records step.rank consistent groups setup c from place value step
barrier_calls s me view records (WriteRelease c to place value last) setup step consistent groups is = write_release_grows s me view records step.rank consistent groups c to place value last step
barrier_calls s me view records (LookRelease c value) setup step consistent groups is = look_release_grows s me view records step.rank consistent groups c value step
barrier_calls s me view records move setup step consistent groups is = absurd (true≢false (sym is))
