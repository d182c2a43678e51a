-- Every move keeps the barriers' flags and the records of each group in step.
use Rattle.std.proofs.Common.{◌≡◌, ◌≢◌, ℕ, suc, ◌-◌, ◌%◌, ◌<◌, ◌≤◌, ◌==◌, Bool, true, false, ◌&&◌, if◌then◌else◌, Option, Some, None, ⊎_elim, refl, sym, ◌∙◌, ap, subst, arith}
use Rattle.std.proofs.lemmas.Bool.Decides.{nat_tests}
use Rattle.scc_base.specs.Setups.{SetupView, IsSetup, setup_key, place_of, root_of}
use Rattle.scc_base.proofs.Confluence.{equal_or_not}
use Rattle.scc_base.proofs.GroupFacts.{place_once, root_with, same_root}
use Rattle.scc_base.specs.declared.signals.Signal.TheVariants.{Sent, Ready}
use Rattle.scc_proto.specs.Tables.{table_with, put_two}
use Rattle.scc_proto.specs.Stages.{Stage, Idle, Record}
use Rattle.scc_proto.specs.Moves.{Move, DraftHeader, DraftChunk, RaiseSignal, LookSignal, ReadHeader, ReadChunk, LowerSignal, FlipGather, LookGather, WriteRelease, LookRelease, StoreHeap, NoMove, Misplaced, flip_gather, write_release, stage_after, after}
use Rattle.scc_proto.specs.Permission.{is_idle}
use Rattle.scc_proto.specs.Words.{is_present}
use Rattle.scc_proto.specs.Records.{chunk_of, last_of}
use Rattle.scc_proto.specs.Views.{View, view_after_move}
use Rattle.scc_proto.specs.Singles.{IsBarrier, IsConsistent}
use Rattle.scc_proto.specs.Agreement.{RecordsAgree, GroupsAgree}
use Rattle.scc_proto.proofs.Layouts.MoveFacts.{IsMember, IsViewStep}
use Rattle.scc_proto.proofs.Barriers.BarrierFacts.{Counts, bar_at, released_bar, Level, level_enters, level_root_enters, level_same_value, level_root_releases, level_root_releases_other}
use Rattle.scc_proto.proofs.Barriers.BarrierMoves.{bar_kept, idle_told, saw_bar, left_bar, look_gather-bar, look_gather-other, look_release-bar, look_release-other, Releases, may_release_told, flip_gather-bar, flip_gather-other}
use Rattle.scc_proto.proofs.Barriers.GroupRanks.{put_here, put_there, flips_at, bars_at, AtRank, at_rank, agrees_at, flips_put, bars_put, put_same, root_zeroth, level_by, rank_by, put_two_here, put_two_there, put_two_other, place_within, last_same, barrier_told, has_flipped, level_saw, level_left}

module _ (s : SetupView) (me : ℕ) (view : View) (records : ℕ → Record) (low : me < s.nue) (consistent : RecordsAgree s records) (groups : GroupsAgree s view records) where
  -- what is to be shown of each rank and communicator
  abbrev Kept : Move → ℕ → ℕ → Type 0
  Kept move comm r = AtRank s comm r ((view_after_move me move view).gather comm) ((view_after_move me move view).release comm)
      (table_with (flips_at comm records) me ((after (chunk_of s) move (records me)).flips comm)) (table_with (bars_at comm records) me (bar_at comm (stage_after (chunk_of s) move (records me))))

  abbrev Stood : ℕ → ℕ → Type 0
  Stood comm r = AtRank s comm r (view.gather comm) (view.release comm) (flips_at comm records) (bars_at comm records)

  unchanged : (comm r : ℕ) (gather release : ℕ → ℕ) (f : ℕ) (b : Option Counts) → f ≡ (records me).flips comm → b ≡ bar_at comm (records me).stage → AtRank s comm r gather release (flips_at comm records) (bars_at comm records) → AtRank s comm r gather release (table_with (flips_at comm records) me f) (table_with (bars_at comm records) me b)
  unchanged comm r gather release f b flips bar at =
      subst (λ (x : ℕ → ℕ). AtRank s comm r gather release x (table_with (bars_at comm records) me b)) (sym (put_same (flips_at comm records) me f flips))
      (subst (λ (x : ℕ → Option Counts). AtRank s comm r gather release (flips_at comm records) x) (sym (put_same (bars_at comm records) me b bar)) at)

  -- a flip of the own gather flag
  flip_kept : (c value last : ℕ) → IsViewStep s me view (records me) (FlipGather c value last) → (comm r : ℕ) → r < s.nue → Stood comm r → Kept (FlipGather c value last) comm r
  flip_kept c value last step comm r low_r at =
      ⊎_elim
      (λ (is : comm ≡ c). subst (λ (x : ℕ). Kept (FlipGather c value last) x r) (sym is) (here (subst (λ (x : ℕ). Stood x r) is at)))
      (λ (apart : comm ≢ c).
      let same_gather : put_two view.gather c me value comm ≡ view.gather comm = put_two_other view.gather c me comm value apart in
      let same_flips : table_with (records me).flips c (suc ((records me).flips c)) comm ≡ (records me).flips comm = put_there (records me).flips c comm (suc ((records me).flips c)) apart in
      let none : bar_at comm (records me).stage ≡ None = ap (bar_at comm) idle in
      let same_bar : bar_at comm (flip_gather c last (records me).stage) ≡ bar_at comm (records me).stage =
      ap (λ (st : Stage). bar_at comm (flip_gather c last st)) idle ∙ flip_gather-other c comm last apart ∙ sym none in
      subst (λ (g : ℕ → ℕ). AtRank s comm r g (view.release comm) (table_with (flips_at comm records) me (table_with (records me).flips c (suc ((records me).flips c)) comm)) (table_with (bars_at comm records) me (bar_at comm (flip_gather c last (records me).stage))))
      (sym same_gather) (unchanged comm r (view.gather comm) (view.release comm) _ _ same_flips same_bar at))
      (equal_or_not comm c)
    where
      permitted : (is_idle (records me).stage && (value == 1 - (records me).flips c % 2)) ≡ true
      permitted = step.permitted

      idle : (records me).stage ≡ Idle
      idle = idle_told (records me).stage (grind (arith, nat_tests))

      turned : value ≡ 1 - (records me).flips c % 2
      turned = grind (arith, nat_tests)

      last_is : last ≡ last_of s c me
      last_is = step.own.1

      some_last : last ≢ 0 → ◌≡◌ {A = Option Counts} (if last == 0 then None else Some (record { seen = 0; released = 0 })) (Some (record { seen = 0; released = 0 }))
      some_last more = let not_zero : (last == 0) ≡ false = grind (arith, nat_tests) in ap (λ (b : Bool). if b then None else Some (record { seen = 0; released = 0 })) not_zero

      here : Stood c r → Kept (FlipGather c value last) c r
      here at =
          subst (λ (f : ℕ). AtRank s c r (put_two view.gather c me value c) (view.release c) (table_with (flips_at c records) me f) (table_with (bars_at c records) me (bar_at c (flip_gather c last (records me).stage)))) (sym (put_here (records me).flips c c (suc ((records me).flips c)) refl))
          (subst (λ (b : Option Counts). AtRank s c r (put_two view.gather c me value c) (view.release c) (table_with (flips_at c records) me (suc ((records me).flips c))) (table_with (bars_at c records) me b))
          (sym (ap (λ (st : Stage). bar_at c (flip_gather c last st)) idle ∙ flip_gather-bar c last))
          (rank_by s c r me (view.gather c) (put_two view.gather c me value c) (view.release c) (view.release c) (flips_at c records) (bars_at c records) (suc ((records me).flips c)) (if last == 0 then None else Some (record { seen = 0; released = 0 })) at
          (λ is. put_two_here view.gather c me me value refl ∙ parity)
          (λ other. put_two_there view.gather c me r value other)
          (λ zeroth. refl)
          (λ is member level.
          subst (λ (b : Option Counts). Level (place_of s c me) (view.release c me) (flips_at c records (root_of s c me)) (bars_at c records (root_of s c me)) (suc ((records me).flips c)) b)
          (sym (some_last (own_last member)))
          (level_enters (place_of s c me) (view.release c me) (flips_at c records (root_of s c me)) ((records me).flips c) (bars_at c records (root_of s c me)) (record { seen = 0; released = 0 })
          (subst (λ (b : Option Counts). Level (place_of s c me) (view.release c me) (flips_at c records (root_of s c me)) (bars_at c records (root_of s c me)) ((records me).flips c) b) none level)))
          (λ other mine member level.
          subst (λ (b : Option Counts). Level (place_of s c r) (view.release c r) (suc ((records me).flips c)) b (flips_at c records r) (bars_at c records r))
          (sym (some_last (led_last mine member)))
          (level_root_enters (place_of s c r) (view.release c r) ((records me).flips c) (flips_at c records r) (bars_at c records r) member
          (subst (λ (b : Option Counts). Level (place_of s c r) (view.release c r) ((records me).flips c) b (flips_at c records r) (bars_at c records r)) none level)))
          (λ other away. refl)))
        where
          none : bar_at c (records me).stage ≡ None
          none = ap (bar_at c) idle

          parity : value ≡ suc ((records me).flips c) % 2
          parity = let is = turned in omega (arith, is)

          own_last : place_of s c me ≢ 0 → last ≢ 0
          own_last member zero_last = let within = place_within s c me low in let is = last_is in member (omega (arith, within, is, zero_last))

          led_last : root_of s c r ≡ me → place_of s c r ≢ 0 → last ≢ 0
          led_last mine member zero_last =
              let within = place_within s c r low_r in
              let same : last_of s c r ≡ last_of s c me = last_same s c r me (sym (root_with (setup_key s c) r) ∙ ap (setup_key s c) mine) in
              let is = last_is in member (omega (arith, within, same, is, zero_last))

  -- a look of the root at a gather flag
  look_gather_kept : (c from place value : ℕ) → IsViewStep s me view (records me) (LookGather c from place value) → (comm r : ℕ) → r < s.nue → is_present s c ≡ true → Stood comm r → Kept (LookGather c from place value) comm r
  look_gather_kept c from place value step comm r low_r present at =
      ⊎_elim
      (λ (is : comm ≡ c). subst (λ (x : ℕ). Kept (LookGather c from place value) x r) (sym is) (here (subst (λ (x : ℕ). Stood x r) is at)))
      (λ (apart : comm ≢ c). unchanged comm r (view.gather comm) (view.release comm) _ _ refl (look_gather-other c comm place value ((records me).flips c % 2) (records me).stage apart) at)
      (equal_or_not comm c)
    where
      member_from : IsMember s me c from place
      member_from = step.own

      own_record : IsConsistent s me (records me)
      own_record = consistent.0 me low

      at_from : AtRank s c from (view.gather c) (view.release c) (flips_at c records) (bars_at c records)
      at_from = at_rank s view c from records (groups c from member_from.present member_from.below)

      has_entered : (x : Counts) → bar_at c (records me).stage ≡ Some x → place ≡ suc x.seen → value ≡ (records me).flips c % 2 → root_of s c r ≡ me → place_of s c r ≡ suc x.seen → (records me).flips c ≤ (records r).flips c
      has_entered x is next shows mine at_place =
          let root_from = member_from.root in
          let same_key : setup_key s c r ≡ setup_key s c from = same_root (setup_key s c) r from (mine ∙ sym root_from) in
          let it : r ≡ from = place_once (setup_key s c) r from same_key (at_place ∙ sym next ∙ member_from.at) in
          let in_barrier : IsBarrier s me c x.seen x.released = barrier_told s me c (records me).stage x is own_record.stage in
          let within = place_within s c from member_from.below in
          let last_is : last_of s c from ≡ last_of s c me = last_same s c from me (sym (root_with (setup_key s c) from) ∙ ap (setup_key s c) root_from) in
          let from_at : place_of s c from ≡ suc x.seen = sym member_from.at ∙ next in
          let none_released : x.released ≡ 0 = ⊎_elim
          (λ (none : x.released ≡ 0). none)
          (λ (all : x.seen ≡ last_of s c me). absurd (omega (arith, within, last_is, from_at, all)))
          in_barrier.all_seen in
          let some : 1 ≤ (records me).flips c = (let count = own_record.flips c in let one = has_flipped c (records me).stage x is in omega (arith, count, one)) in
          let member : place_of s c from ≢ 0 = (λ zeroth. absurd (omega (arith, zeroth, from_at))) in
          let level : Level (place_of s c from) (view.release c from) ((records me).flips c) (Some x) ((records from).flips c) (bars_at c records from) =
          level_by (place_of s c from) (view.release c from) _ _ _ _ _ _ _ _ (ap (flips_at c records) (sym root_from)) (sym is ∙ ap (bars_at c records) (sym root_from)) refl refl (at_from.member member) in
          let same : (records me).flips c ≡ (records from).flips c =
          level_same_value (place_of s c from) (view.release c from) ((records me).flips c) ((records from).flips c) x (bars_at c records from) (omega (arith, none_released, from_at)) some (sym at_from.gather_flag ∙ step.told ∙ shows) level in
          subst (λ (k : ℕ). (records me).flips c ≤ (records k).flips c) (sym it) (omega (arith, same))

      here : Stood c r → Kept (LookGather c from place value) c r
      here at =
          subst (λ (b : Option Counts). AtRank s c r (view.gather c) (view.release c) (table_with (flips_at c records) me ((records me).flips c)) (table_with (bars_at c records) me b))
          (sym (look_gather-bar c place value ((records me).flips c % 2) (records me).stage))
          (rank_by s c r me (view.gather c) (view.gather c) (view.release c) (view.release c) (flips_at c records) (bars_at c records) ((records me).flips c) (saw_bar place value ((records me).flips c % 2) (bar_at c (records me).stage)) at
          (λ is. subst (λ (x : ℕ). view.gather c x ≡ (records x).flips c % 2) is at.gather_flag)
          (λ other. refl)
          (λ zeroth. refl)
          (λ is member. absurd (member member_from.first))
          (λ other mine member level. level_saw place value ((records me).flips c % 2) (place_of s c r) (view.release c r) ((records me).flips c) ((records r).flips c) (bar_at c (records me).stage) (bars_at c records r)
          (λ x is next shows at_place. has_entered x is next shows mine at_place) level)
          (λ other away. refl))

  -- a release of a member by its root
  write_release_kept : (c to place value last : ℕ) → IsViewStep s me view (records me) (WriteRelease c to place value last) → (comm r : ℕ) → r < s.nue → Stood comm r → Kept (WriteRelease c to place value last) comm r
  write_release_kept c to place value last step comm r low_r at =
      ⊎_elim
      (λ (is : comm ≡ c). subst (λ (x : ℕ). Kept (WriteRelease c to place value last) x r) (sym is) (here (subst (λ (x : ℕ). Stood x r) is at)))
      (λ (apart : comm ≢ c).
      let same_release : put_two view.release c to value comm ≡ view.release comm = put_two_other view.release c to comm value apart in
      subst (λ (l : ℕ → ℕ). AtRank s comm r (view.gather comm) l (table_with (flips_at comm records) me ((records me).flips comm)) (table_with (bars_at comm records) me (bar_at comm (write_release last (records me).stage))))
      (sym same_release) (unchanged comm r (view.gather comm) (view.release comm) _ _ refl (told.others comm apart) at))
      (equal_or_not comm c)
    where
      member_to : IsMember s me c to place
      member_to = step.own.0

      last_is : last ≡ last_of s c me
      last_is = step.own.1

      told : Releases c place value last ((records me).flips c % 2) (records me).stage (write_release last (records me).stage)
      told = may_release_told c place value last ((records me).flips c % 2) (records me).stage step.permitted

      x : Counts
      x = told.counts

      own_record : IsConsistent s me (records me)
      own_record = consistent.0 me low

      some : 1 ≤ (records me).flips c
      some = let count = own_record.flips c in let one = has_flipped c (records me).stage told.counts told.bar in omega (arith, count, one)

      here : Stood c r → Kept (WriteRelease c to place value last) c r
      here at =
          subst (λ (b : Option Counts). AtRank s c r (view.gather c) (put_two view.release c to value c) (table_with (flips_at c records) me ((records me).flips c)) (table_with (bars_at c records) me b))
          (sym told.after)
          (rank_by s c r me (view.gather c) (view.gather c) (view.release c) (put_two view.release c to value c) (flips_at c records) (bars_at c records) ((records me).flips c) (released_bar last told.counts) at
          (λ is. subst (λ (y : ℕ). view.gather c y ≡ (records y).flips c % 2) is at.gather_flag)
          (λ other. refl)
          (λ zeroth. put_two_there view.release c to r value (not_root zeroth))
          (λ is member. absurd (member member_to.first))
          led
          (λ other away. put_two_there view.release c to r value (λ is. away (ap (root_of s c) is ∙ member_to.root))))
        where
          place_to : place_of s c to ≡ suc told.counts.released
          place_to = sym member_to.at ∙ told.at

          not_root : place_of s c r ≡ 0 → r ≢ to
          not_root zeroth is = let there = place_to in let same : place_of s c r ≡ place_of s c to = ap (place_of s c) is in absurd (omega (arith, there, same, zeroth))

          led : r ≢ me → root_of s c r ≡ me → place_of s c r ≢ 0 → Level (place_of s c r) (view.release c r) ((records me).flips c) (bar_at c (records me).stage) ((records r).flips c) (bars_at c records r)
              → Level (place_of s c r) (put_two view.release c to value c r) ((records me).flips c) (released_bar last told.counts) ((records r).flips c) (bars_at c records r)
          led other mine member level =
              ⊎_elim
              (λ (is : r ≡ to).
              subst (λ (l : ℕ). Level (place_of s c r) l ((records me).flips c) (released_bar last told.counts) ((records r).flips c) (bars_at c records r))
              (sym (put_two_here view.release c to r value is ∙ told.shows))
              (level_root_releases (place_of s c r) (view.release c r) ((records me).flips c) ((records r).flips c) last told.counts (bars_at c records r) within (ap (place_of s c) is ∙ place_to) told.all some old))
              (λ (apart : r ≢ to).
              subst (λ (l : ℕ). Level (place_of s c r) l ((records me).flips c) (released_bar last told.counts) ((records r).flips c) (bars_at c records r))
              (sym (put_two_there view.release c to r value apart))
              (level_root_releases_other (place_of s c r) (view.release c r) ((records me).flips c) ((records r).flips c) last told.counts (bars_at c records r) within
              (λ same_place. apart (place_once (setup_key s c) r to (same_root (setup_key s c) r to (mine ∙ sym member_to.root)) (same_place ∙ sym place_to))) old))
              (equal_or_not r to)
            where
              old : Level (place_of s c r) (view.release c r) ((records me).flips c) (Some told.counts) ((records r).flips c) (bars_at c records r)
              old = subst (λ (b : Option Counts). Level (place_of s c r) (view.release c r) ((records me).flips c) b ((records r).flips c) (bars_at c records r)) told.bar level

              within : place_of s c r ≤ last
              within =
                  let below = place_within s c r low_r in
                  let same : last_of s c r ≡ last_of s c me = last_same s c r me (sym (root_with (setup_key s c) r) ∙ ap (setup_key s c) mine) in
                  let is = last_is in omega (arith, below, same, is)

  -- a look of a member at its release flag
  look_release_kept : (c value : ℕ) → IsViewStep s me view (records me) (LookRelease c value) → (comm r : ℕ) → r < s.nue → Stood comm r → Kept (LookRelease c value) comm r
  look_release_kept c value step comm r low_r at =
      ⊎_elim
      (λ (is : comm ≡ c). subst (λ (x : ℕ). Kept (LookRelease c value) x r) (sym is) (here (subst (λ (x : ℕ). Stood x r) is at)))
      (λ (apart : comm ≢ c). unchanged comm r (view.gather comm) (view.release comm) _ _ refl (look_release-other c comm value ((records me).flips c % 2) (records me).stage apart) at)
      (equal_or_not comm c)
    where
      here : Stood c r → Kept (LookRelease c value) c r
      here at =
          subst (λ (b : Option Counts). AtRank s c r (view.gather c) (view.release c) (table_with (flips_at c records) me ((records me).flips c)) (table_with (bars_at c records) me b))
          (sym (look_release-bar c value ((records me).flips c % 2) (records me).stage))
          (rank_by s c r me (view.gather c) (view.gather c) (view.release c) (view.release c) (flips_at c records) (bars_at c records) ((records me).flips c) (left_bar value ((records me).flips c % 2) (bar_at c (records me).stage)) at
          (λ is. subst (λ (x : ℕ). view.gather c x ≡ (records x).flips c % 2) is at.gather_flag)
          (λ other. refl)
          (λ zeroth. refl)
          (λ is member level. level_left value ((records me).flips c % 2) (place_of s c me) (view.release c me) (flips_at c records (root_of s c me)) ((records me).flips c) (bars_at c records (root_of s c me)) (bar_at c (records me).stage)
          (λ shows. step.told ∙ shows) level)
          (λ other mine member level. absurd (step.own.1 (ap (place_of s c) (sym mine) ∙ root_zeroth s c r)))
          (λ other away. refl))

  -- each move at each rank
  kept : (move : Move) → IsViewStep s me view (records me) move → (comm r : ℕ) → r < s.nue → Stood comm r → Kept move comm r
  kept (DraftHeader k v) step comm r low_r at = unchanged comm r _ _ _ _ refl (bar_kept comm (chunk_of s) (DraftHeader k v) (records me) refl) at
  kept (DraftChunk k v) step comm r low_r at = unchanged comm r _ _ _ _ refl (bar_kept comm (chunk_of s) (DraftChunk k v) (records me) refl) at
  kept (RaiseSignal signal to) step comm r low_r at = unchanged comm r _ _ _ _ refl (bar_kept comm (chunk_of s) (RaiseSignal signal to) (records me) refl) at
  kept (LookSignal signal is_set) step comm r low_r at = unchanged comm r _ _ _ _ refl (bar_kept comm (chunk_of s) (LookSignal signal is_set) (records me) refl) at
  kept (ReadHeader from k v) step comm r low_r at = unchanged comm r _ _ _ _ refl (bar_kept comm (chunk_of s) (ReadHeader from k v) (records me) refl) at
  kept (ReadChunk from k v) step comm r low_r at = unchanged comm r _ _ _ _ refl (bar_kept comm (chunk_of s) (ReadChunk from k v) (records me) refl) at
  kept (LowerSignal Sent from) step comm r low_r at = unchanged comm r _ _ _ _ refl (bar_kept comm (chunk_of s) (LowerSignal Sent from) (records me) refl) at
  kept (LowerSignal Ready by) step comm r low_r at = unchanged comm r _ _ _ _ refl (bar_kept comm (chunk_of s) (LowerSignal Ready by) (records me) refl) at
  kept (FlipGather c value last) step comm r low_r at = flip_kept c value last step comm r low_r at
  kept (LookGather c from place value) step comm r low_r at = look_gather_kept c from place value step comm r low_r step.own.present at
  kept (WriteRelease c to place value last) step comm r low_r at = write_release_kept c to place value last step comm r low_r at
  kept (LookRelease c value) step comm r low_r at = look_release_kept c value step comm r low_r at
  kept (StoreHeap place value) step comm r low_r at = unchanged comm r _ _ _ _ refl refl at
  kept NoMove step comm r low_r at = unchanged comm r _ _ _ _ refl refl at
  kept Misplaced step comm r low_r at = unchanged comm r _ _ _ _ refl refl at

pub groups_kept : (s : SetupView) (me : ℕ) (view : View) (records : ℕ → Record) (move : Move) → IsSetup s → IsViewStep s me view (records me) move → RecordsAgree s records → GroupsAgree s view records → GroupsAgree s (view_after_move me move view) (table_with records me (after (chunk_of s) move (records me)))
groups_kept s me view records move setup step consistent groups comm r present low =
    agrees_at s (view_after_move me move view) comm r (table_with records me (after (chunk_of s) move (records me)))
    (subst (λ (x : ℕ → ℕ). AtRank s comm r ((view_after_move me move view).gather comm) ((view_after_move me move view).release comm) x (bars_at comm (table_with records me (after (chunk_of s) move (records me)))))
    (sym (flips_put comm me records (after (chunk_of s) move (records me))))
    (subst (λ (x : ℕ → Option Counts). AtRank s comm r ((view_after_move me move view).gather comm) ((view_after_move me move view).release comm) (table_with (flips_at comm records) me ((after (chunk_of s) move (records me)).flips comm)) x)
    (sym (bars_put comm me records (after (chunk_of s) move (records me))))
    (kept s me view records step.rank consistent groups move step comm r low (at_rank s view comm r records (groups comm r present low)))))
