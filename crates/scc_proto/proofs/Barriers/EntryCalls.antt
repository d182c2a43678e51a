-- A rank that enters a barrier adds nothing to the passed calls, or the barrier of a group of one.
use Rattle.std.proofs.Common.{◌≡◌, ◌≢◌, ℕ, suc, ◌-◌, ◌%◌, ◌<◌, ◌≤◌, ◌==◌, Bool, true, false, true≢false, ◌&&◌, nat_le, if◌then◌else◌, List, [], ◌∷◌, ◌++◌, Option, Some, None, ⊎_elim, refl, sym, ◌∙◌, ap, ap₂, subst, append-nil, arith}
use Rattle.std.proofs.lemmas.Bool.Decides.{nat_tests}
use Rattle.scc_base.specs.Calls.{DataCall, Bar}
use Rattle.scc_base.specs.Setups.{SetupView, setup_key, place_of, root_of}
use Rattle.scc_base.proofs.Confluence.{equal_or_not}
use Rattle.scc_base.proofs.GroupFacts.{place_once, root_with}
use Rattle.scc_proto.specs.Tables.{table_with}
use Rattle.scc_proto.specs.Messages.{sent_messages, received_messages}
use Rattle.scc_proto.specs.Stages.{Stage, Idle, Barrier, Record}
use Rattle.scc_proto.specs.Moves.{Move, FlipGather, finished_if, flip_gather, after}
use Rattle.scc_proto.specs.Permission.{is_idle}
use Rattle.scc_proto.specs.Records.{chunk_of, last_of}
use Rattle.scc_proto.specs.Views.{View}
use Rattle.scc_proto.specs.Passed.{gathered_barriers, is_gathered, passed_open, passed_calls, slot_of}
use Rattle.scc_proto.specs.Agreement.{RecordsAgree, GroupsAgree}
use Rattle.scc_proto.specs.Legality.{in_group, Grows}
use Rattle.scc_proto.proofs.Messages.Growth.{grows_by_barrier}
use Rattle.scc_proto.proofs.Layouts.MoveFacts.{IsViewStep}
use Rattle.scc_proto.proofs.Barriers.BarrierFacts.{Counts, bar_at, gathered_in, gathered-bar}
use Rattle.scc_proto.proofs.Barriers.BarrierMoves.{idle_told, flip_gather-bar, flip_gather-other}
use Rattle.scc_proto.proofs.Barriers.GroupRanks.{put_here, put_there, place_within, last_same}
use Rattle.scc_proto.proofs.Barriers.GatherFacts.{gathered_more, gathered_entered, passed_else, passed_here, gathered_here, slots_stay, no_message_received, no_message_sent, open_low, own_root, at_member, group_told, group_test, gathers_by, quiet_barrier}

module _ (s : SetupView) (me : ℕ) (view : View) (records : ℕ → Record) (low : me < s.nue) (consistent : RecordsAgree s records) (groups : GroupsAgree s view records) where
  -- the passed calls and the slots after a move of this rank
  abbrev GrowsBy : Move → Type 0
  GrowsBy move = Grows s.nue (setup_key s) (passed_calls s records) (slot_of s records) (passed_calls s (table_with records me (after (chunk_of s) move (records me)))) (slot_of s (table_with records me (after (chunk_of s) move (records me))))

  -- the record of this rank after a move, and all records
  abbrev new_of : Move → Record
  new_of move = after (chunk_of s) move (records me)

  abbrev next_of : Move → ℕ → Record
  next_of move = table_with records me (new_of move)

  -- a rank enters a barrier: a group of one is through
  pub flip_grows : (c value last : ℕ) → IsViewStep s me view (records me) (FlipGather c value last) → GrowsBy (FlipGather c value last)
  flip_grows c value last step = by_last (last == 0) refl
    where
      permitted : (is_idle (records me).stage && (value == 1 - (records me).flips c % 2)) ≡ true
      permitted = step.permitted

      idle : (records me).stage ≡ Idle
      idle = idle_told (records me).stage (grind (arith, nat_tests))

      last_is : last ≡ last_of s c me
      last_is = step.own.1

      messages : ((i : ℕ) → received_messages i (finished_if (last == 0) (Bar c) (records me).calls) ≡ received_messages i (records me).calls) × ((i : ℕ) → sent_messages i (finished_if (last == 0) (Bar c) (records me).calls) ≡ sent_messages i (records me).calls)
      messages = (λ i. no_message_received i c (last == 0) (records me).calls, λ i. no_message_sent i c (last == 0) (records me).calls)

      slots : (k : ℕ) → slot_of s (next_of (FlipGather c value last)) k ≡ slot_of s records k
      slots = slots_stay s me records (new_of (FlipGather c value last)) messages.0 messages.1 refl

      old_passed : passed_calls s records me ≡ (records me).calls
      old_passed = ap (λ (st : Stage). (records me).calls ++ passed_open s me st records) idle ∙ append-nil (records me).calls

      old_gathered : (n comm : ℕ) → gathered_barriers comm n (records me) ≡ (records me).flips comm
      old_gathered n comm = gathered-bar comm n (records me) ∙ ap (λ (st : Stage). gathered_in n ((records me).flips comm) (bar_at comm st)) idle

      other_gathered : (n comm : ℕ) → comm ≢ c → gathered_barriers comm n (new_of (FlipGather c value last)) ≡ gathered_barriers comm n (records me)
      other_gathered n comm apart =
          gathered-bar comm n (new_of (FlipGather c value last))
          ∙ ap₂ (λ (f : ℕ) (b : Option Counts). gathered_in n f b) (put_there (records me).flips c comm (suc ((records me).flips c)) apart)
          (ap (λ (st : Stage). bar_at comm (flip_gather c last st)) idle ∙ flip_gather-other c comm last apart)
          ∙ sym (old_gathered n comm)

      alone : (last == 0) ≡ true → (k : ℕ) → k < s.nue → setup_key s c k ≡ setup_key s c me → k ≡ me
      alone none k below same =
          let k_within = place_within s c k below in
          let me_within = place_within s c me low in
          let same_last = last_same s c k me same in
          let zero : last ≡ 0 = grind (arith, nat_tests) in
          let is = last_is in
          let k_zeroth : place_of s c k ≡ 0 = omega (arith, k_within, same_last, zero, is) in
          let me_zeroth : place_of s c me ≡ 0 = omega (arith, me_within, zero, is) in
          place_once (setup_key s c) k me same (k_zeroth ∙ sym me_zeroth)

      one_through : (last == 0) ≡ true → GrowsBy (FlipGather c value last)
      one_through none =
          grows_by_barrier s.nue (setup_key s) (passed_calls s records) (passed_calls s (next_of (FlipGather c value last))) (slot_of s records) (slot_of s (next_of (FlipGather c value last))) c me
          (record { below = low; zeroth = zeroth }) gain stay slots
        where
          zeroth : place_of s c me ≡ 0
          zeroth = let within = place_within s c me low in let zero : last ≡ 0 = grind (arith, nat_tests) in let is = last_is in omega (arith, within, zero, is)

          new_passed : passed_calls s (next_of (FlipGather c value last)) me ≡ (records me).calls ++ Bar c ∷ []
          new_passed =
              passed_here s me records (new_of (FlipGather c value last))
              ∙ ap₂ (λ (l : List DataCall) (st : Stage). l ++ passed_open s me st (next_of (FlipGather c value last)))
              (ap (λ (b : Bool). finished_if b (Bar c) (records me).calls) none)
              (ap (flip_gather c last) idle ∙ ap (λ (b : Bool). if b then Idle else Barrier c 0 0) none)
              ∙ append-nil ((records me).calls ++ Bar c ∷ [])

          gain : (k : ℕ) → in_group s.nue (setup_key s) c me k ≡ true → passed_calls s (next_of (FlipGather c value last)) k ≡ passed_calls s records k ++ Bar c ∷ []
          gain k within =
              let told = group_told s c me k within in
              subst (λ (x : ℕ). passed_calls s (next_of (FlipGather c value last)) x ≡ passed_calls s records x ++ Bar c ∷ []) (sym (alone none k told.0 told.1))
              (new_passed ∙ ap (λ (l : List DataCall). l ++ Bar c ∷ []) (sym old_passed))

          stay : (k : ℕ) → in_group s.nue (setup_key s) c me k ≡ false → passed_calls s (next_of (FlipGather c value last)) k ≡ passed_calls s records k
          stay k without = passed_else s me records (new_of (FlipGather c value last)) messages.0 messages.1 k other
              (λ comm mine open_at.
              ⊎_elim
              (λ (same : comm ≡ c).
              let key : setup_key s comm k ≡ setup_key s comm me = sym (root_with (setup_key s comm) k) ∙ ap (setup_key s comm) mine in
              absurd (other (alone none k (open_low s records consistent comm k open_at) (subst (λ (x : ℕ). setup_key s x k ≡ setup_key s x me) same key))))
              (λ (apart : comm ≢ c). other_gathered (last_of s comm k) comm apart)
              (equal_or_not comm c))
            where
              other : k ≢ me
              other is = absurd (true≢false (sym (subst (λ (x : ℕ). in_group s.nue (setup_key s) c me x ≡ true) (sym is) (group_test s c me me low refl)) ∙ without))

      enters : (last == 0) ≡ false → GrowsBy (FlipGather c value last)
      enters some =
          quiet_barrier s me records (new_of (FlipGather c value last)) messages.0 messages.1 refl (new_passed ∙ sym old_passed)
          (gathers_by s me records (new_of (FlipGather c value last)) c (new_gathered (last_of s c me) (λ zero. more (last_is ∙ zero)) ∙ sym (old_gathered (last_of s c me) c)) other_gathered)
        where
          more : last ≢ 0
          more = grind (arith, nat_tests)

          new_gathered : (n : ℕ) → n ≢ 0 → gathered_barriers c n (new_of (FlipGather c value last)) ≡ (records me).flips c
          new_gathered n above =
              gathered-bar c n (new_of (FlipGather c value last))
              ∙ ap₂ (λ (f : ℕ) (b : Option Counts). gathered_in n f b) (put_here (records me).flips c c (suc ((records me).flips c)) refl)
              (ap (λ (st : Stage). bar_at c (flip_gather c last st)) idle ∙ flip_gather-bar c last ∙ ap (λ (b : Bool). if b then None else Some (record { seen = 0; released = 0 })) some)
              ∙ gathered_more n (suc ((records me).flips c)) (record { seen = 0; released = 0 }) (omega (arith, above))
              ∙ omega arith

          next_gathered : gathered_barriers c (last_of s c me) (next_of (FlipGather c value last) (root_of s c me)) ≤ (records me).flips c
          next_gathered =
              ⊎_elim
              (λ (mine : root_of s c me ≡ me).
              let here = ap (gathered_barriers c (last_of s c me)) (put_here records me (root_of s c me) (new_of (FlipGather c value last)) mine) in
              let now = new_gathered (last_of s c me) (λ zero. more (last_is ∙ zero)) in omega (arith, here, now))
              (λ (away : root_of s c me ≢ me).
              let there = ap (gathered_barriers c (last_of s c me)) (put_there records me (root_of s c me) (new_of (FlipGather c value last)) away) in
              let bars = gathered-bar c (last_of s c me) (records (root_of s c me)) in
              let level = at_member s view records groups c me step.own.0 low (λ zeroth. away (own_root s me c zeroth)) in
              let entered = gathered_entered (place_of s c me) (last_of s c me) (view.release c me) ((records (root_of s c me)).flips c) ((records me).flips c) (bar_at c (records (root_of s c me)).stage) (bar_at c (records me).stage) (place_within s c me low) level in
              omega (arith, there, bars, entered))
              (equal_or_not (root_of s c me) me)

          not_through : is_gathered s c me (next_of (FlipGather c value last)) ≡ false
          not_through =
              gathered_here s me records (new_of (FlipGather c value last)) c
              ∙ ap (λ (f : ℕ). nat_le f (gathered_barriers c (last_of s c me) (next_of (FlipGather c value last) (root_of s c me)))) (put_here (records me).flips c c (suc ((records me).flips c)) refl)
              ∙ above ((records me).flips c) (gathered_barriers c (last_of s c me) (next_of (FlipGather c value last) (root_of s c me))) next_gathered
            where
              above : (a b : ℕ) → b ≤ a → nat_le (suc a) b ≡ false
              above a b le = grind (arith, nat_tests)

          new_stage : flip_gather c last (records me).stage ≡ Barrier c 0 0
          new_stage = ap (flip_gather c last) idle ∙ ap (λ (b : Bool). if b then Idle else Barrier c 0 0) some

          new_passed : passed_calls s (next_of (FlipGather c value last)) me ≡ (records me).calls
          new_passed =
              passed_here s me records (new_of (FlipGather c value last))
              ∙ ap₂ (λ (l : List DataCall) (st : Stage). l ++ passed_open s me st (next_of (FlipGather c value last))) (ap (λ (b : Bool). finished_if b (Bar c) (records me).calls) some) new_stage
              ∙ ap (λ (b : Bool). (records me).calls ++ (if b then Bar c ∷ [] else [])) not_through
              ∙ append-nil (records me).calls

      by_last : (b : Bool) → (last == 0) ≡ b → GrowsBy (FlipGather c value last)
      by_last true none = one_through none
      by_last false some = enters some
