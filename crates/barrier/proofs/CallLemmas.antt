-- A whole barrier: what its turns have come to so far, and what ends it.
use Rattle.std.proofs.Common.{◌≡◌, ◌≢◌, inl, inr, ℕ, ◌+◌, ◌%◌, ◌≤◌, Bool, true, false, List, [], ◌∷◌, ◌++◌, Option, None, Some, refl, sym, ◌∙◌, ap, subst, arith}
use Rattle.scc_base.specs.Calls.{Bar}
use Rattle.scc_base.specs.Places.{WordAt, line_of_word}
use Rattle.scc_base.specs.Events.{store_of}
use Rattle.scc_base.specs.declared.events.Event.{Event}
use Rattle.scc_base.specs.declared.events.Spot.{Spot}
use Rattle.scc_base.specs.declared.events.Turn.TheVariants as turn
use Rattle.scc_proto.specs.Stages.{Record}
use Rattle.scc_proto.specs.Ports.{Seat, Sight, Did, record_in}
use Rattle.scc_proto.proofs.PortLaws.{did_nothing, did_both, seat_kept}
use Rattle.scc_proto.proofs.Layouts.Roles.{if_no}
use Rattle.put_get.specs.Accesses.{loads_of}
use Rattle.put_get.specs.Cores.{Private}
use Rattle.put_get.proofs.StepLemmas.{events_once}
use Rattle.sync_flags.specs.Flags.{flag_value}
use Rattle.sync_flags.specs.Tries.{Aim, AtWord, has_write, changing_after, failed_from, failed_tries, Tried}
use Rattle.sync_flags.specs.Writes.{StoresWord}
use Rattle.sync_flags.proofs.FailedLemmas.{failed-append}
use Rattle.sync_flags.proofs.RowLemmas.{fruitful, waited, went_on}
use Rattle.sync_flags.proofs.LoopLemmas.{Row, row_none, row_moved, row_waited}
use Rattle.barrier.specs.declared.barriers.BarStop.TheVariants.{Stalled}
use Rattle.barrier.specs.declared.stages.BarStage.{BarStage}
use Rattle.barrier.specs.declared.stages.BarStage.TheVariants.{Flip, Gather, Release, Await, Finished}
use Rattle.barrier.specs.Flags.{value_at, member_at, gather_word, release_word}
use Rattle.barrier.specs.Stages.{BarAt, BarStands, IsAtStage, own_place, is_bar_finished, is_gather, bar_left, bar_call, barrier_aim_at, meeting, with_parity}
use Rattle.barrier.specs.Turns.{KeepsAllButBarriers, Does, BarTurned, flips_by}
use Rattle.barrier.specs.Calls.{MayEndAt, Finishes, Stalls}
use Rattle.barrier.proofs.RestLemmas.{none_changed, kept_both, flips_moved, flips_looking}

-- a look writes nothing
look_quiet : (seat : Seat) (comm : ℕ) (stage : BarStage) (value : ℕ) (m t : Sight) (b d : Private) (es : List Event) (aim : Aim)
    → Does seat comm stage value m b t d → Did m es t → barrier_aim_at seat comm stage value ≡ Some aim → has_write es ≡ false
look_quiet seat comm Flip value m t b d es aim does did at = absurd (cc)
look_quiet seat comm (Gather seen) value m t b d es aim does did at = ap has_write (events_once m t es (loads_of (line_of_word (gather_word seat comm (member_at seat.setup comm seat.rank (seen + 1)))) does.1.words) did does.1.looks.did)
look_quiet seat comm (Release released) value m t b d es aim does did at = absurd (cc)
look_quiet seat comm Await value m t b d es aim does did at = ap has_write (events_once m t es (loads_of (line_of_word (release_word seat comm seat.rank)) does.1.words) did does.1.looks.did)
look_quiet seat comm Finished value m t b d es aim does did at = absurd (cc)

-- no turn leaves a bit flag half changed
turn_settled : (seat : Seat) (comm : ℕ) (stage : BarStage) (value : ℕ) (m t : Sight) (b d : Private) (es : List Event) → Does seat comm stage value m b t d → Did m es t
    → changing_after false es ≡ false
turn_settled seat comm Flip value m t b d es does did = ap (λ (x : List Event). changing_after false x) (events_once m t es (store_of _ value ∷ []) did does.did)
turn_settled seat comm (Gather seen) value m t b d es does did =
    ap (λ (x : List Event). changing_after false x) (events_once m t es (loads_of (line_of_word (gather_word seat comm (member_at seat.setup comm seat.rank (seen + 1)))) does.1.words) did does.1.looks.did)
turn_settled seat comm (Release released) value m t b d es does did = ap (λ (x : List Event). changing_after false x) (events_once m t es (store_of _ value ∷ []) did does.did)
turn_settled seat comm Await value m t b d es does did =
    ap (λ (x : List Event). changing_after false x) (events_once m t es (loads_of (line_of_word (release_word seat comm seat.rank)) does.1.words) did does.1.looks.did)
turn_settled seat comm Finished value m t b d es does did =
    let still : Did m [] t = subst (λ (x : Sight). Did m [] x) (sym does.0) (did_nothing m) in
    ap (λ (x : List Event). changing_after false x) (events_once m t es [] did still)

store_ends : (m t : Sight) (b d : Private) (p place : WordAt) (v value : ℕ) (es : List Event) → StoresWord m b p v t d → Did m es t → (n : ℕ)
    → failed_from (AtWord place value) false n es ≡ 0
store_ends m t b d p place v value es stores did n =
    ap (λ (x : List Event). failed_from (AtWord place value) false n x) (events_once m t es (store_of p v ∷ []) did stores.did)

-- a turn that ends the barrier leaves no vain look behind
ended : (seat : Seat) (comm : ℕ) (stage : BarStage) (value : ℕ) (m t : Sight) (b d : Private) (es : List Event)
    → Does seat comm stage value m b t d → Did m es t → Tried (barrier_aim_at seat comm stage value) es None → is_gather stage ≡ false → (stage ≡ Await → own_place seat comm ≢ 0)
    → (place : WordAt) → MayEndAt seat comm place → (n : ℕ) → (is_bar_finished stage ≡ true → n ≡ 0) → failed_from (AtWord place value) false n es ≡ 0
ended seat comm Flip value m t b d es does did tried gather member place may n rest = store_ends m t b d _ place value value es does did n
ended seat comm (Gather seen) value m t b d es does did tried gather member place may n rest = absurd (cc)
ended seat comm (Release released) value m t b d es does did tried gather member place may n rest = store_ends m t b d _ place value value es does did n
ended seat comm Await value m t b d es does did tried gather member place (inl root) n rest = absurd (member refl root)
ended seat comm Await value m t b d es does did tried gather member place (inr is) n rest =
    let own = AtWord (release_word seat comm seat.rank) value in
    let one = went_on tried own refl in
    ap (λ (x : WordAt). failed_from (AtWord x value) false n es) is ∙ fruitful own false n es one.0 one.1
ended seat comm Finished value m t b d es does did tried gather member place may n rest =
    let still : Did m [] t = subst (λ (x : Sight). Did m [] x) (sym does.0) (did_nothing m) in
    ap (λ (x : List Event). failed_from (AtWord place value) false n x) (events_once m t es [] did still) ∙ rest refl

-- the turns so far: as many vain looks as counted stand at the end, for what the barrier looks for next
pub record Underway (s : Sight) (op : BarAt) (failed : ℕ) (t : Sight) (d : Private) (now : BarAt) (values : List Bool) : Type 0 where
  pub row : Row (barrier_aim_at s.seat now.comm now.stage (flag_value (value_at values now.comm))) failed s t
  pub stands : BarStands t d now values
  pub same : now.comm ≡ op.comm
  pub calls : (record_in t).calls ≡ (record_in s).calls
  pub call_left : bar_call now ≡ bar_call op
  -- the flips that were made, with the one that may still come, are those of the whole barrier
  pub flips : flips_by now.comm now.stage (record_in t).flips ≡ flips_by op.comm op.stage (record_in s).flips
  pub rest : KeepsAllButBarriers (record_in s) (record_in t)
  pub quiet : is_bar_finished now.stage ≡ true → row.events ≡ []

pub underway_none : {s : Sight} {c : Private} {op : BarAt} {values : List Bool} → BarStands s c op values → Underway s op 0 s c op values
unfolding row_none
underway_none {s} st = record {
  row = row_none;
  stands = st;
  same = refl;
  calls = refl;
  call_left = refl;
  flips = refl;
  rest = none_changed (record_in s);
  quiet = λ e. refl;
}

calls_open : (op : BarAt) → is_bar_finished op.stage ≡ false → bar_call op ≡ Bar op.comm ∷ []
calls_open op e = if_no (is_bar_finished op.stage) [] (Bar op.comm ∷ []) e

pub underway_moved : {s m t : Sight} {b d : Private} {op cur now : BarAt} {failed : ℕ} {values later : List Bool} → Underway s op failed m b cur values
    → BarStands t d now later → BarTurned (meeting m b cur values) (meeting t d now later) turn.Moved → Underway s op 0 t d now later
underway_moved {s} {m} {t} {b} {d} {op} {cur} {now} {failed} {values} {later} u st turned = record {
  row = row_moved u.row turned.did (turn_settled m.seat cur.comm cur.stage (flag_value (value_at later cur.comm)) m t b d turned.events turned.does turned.did);
  stands = st;
  same = turned.same ∙ u.same;
  calls = turned.means.1 ∙ u.calls;
  call_left = calls_open now turned.means.3 ∙ ap (λ (k : ℕ). Bar k ∷ []) turned.same ∙ sym (calls_open cur turned.means.2) ∙ u.call_left;
  flips = flips_moved m.seat (record_in m) cur now (record_in t).flips turned.same u.stands.at turned.means.0 ∙ turned.flips ∙ u.flips;
  rest = kept_both u.rest turned.rest;
  quiet = λ e. let f : true ≡ false = sym e ∙ turned.means.3 in absurd (cc);
}

-- where a turn waited, its record and so the awaited value are as before
same_value : {m t : Sight} {b d : Private} {cur now : BarAt} {values later : List Bool} → BarStands m b cur values → BarStands t d now later → now ≡ cur
    → record_in t ≡ record_in m → flag_value (value_at later cur.comm) ≡ flag_value (value_at values cur.comm)
same_value {t = t} {cur = cur} {later = later} x y e rec =
    subst (λ (k : BarAt). flag_value (value_at later k.comm) ≡ (record_in t).flips k.comm % 2) e (y.parity _ y.below)
    ∙ (λ i. (rec i).flips cur.comm % 2) ∙ sym (x.parity cur.comm x.below)

pub underway_waited : {s m t : Sight} {b d : Private} {op cur now : BarAt} {failed : ℕ} {values later : List Bool} {spot : Spot} → Underway s op failed m b cur values
    → BarStands t d now later → BarTurned (meeting m b cur values) (meeting t d now later) (turn.Waiting spot) → Underway s op (failed + 1) t d now later
underway_waited {s} {m} {t} {b} {d} {op} {cur} {now} {failed} {values} {later} {spot} u st turned =
    let e = turned.means.0 in
    let seat : m.seat ≡ s.seat = seat_kept s u.row.events m u.row.did in
    let value = flag_value (value_at later cur.comm) in
    let w = waited turned.tried in
    let same = same_value u.stands st e turned.means.1 in
    record {
      row = row_waited u.row turned.did (turn_settled m.seat cur.comm cur.stage value m t b d turned.events turned.does turned.did)
          (subst (λ (a : Option Aim). Tried a turned.events (Some spot)) (λ i. barrier_aim_at (seat i) cur.comm cur.stage (same i)) turned.tried)
          (look_quiet m.seat cur.comm cur.stage value m t b d turned.events w.at turned.does turned.did w.is)
          (ap (λ (x : BarAt). barrier_aim_at s.seat x.comm x.stage (flag_value (value_at later x.comm))) e ∙ ap (λ (v : ℕ). barrier_aim_at s.seat cur.comm cur.stage v) same);
      stands = st;
      same = turned.same ∙ u.same;
      calls = ap (λ (r : Record). r.calls) turned.means.1 ∙ u.calls;
      call_left = ap bar_call e ∙ u.call_left;
      flips = (λ i. flips_by (e i).comm (e i).stage (turned.means.1 i).flips) ∙ u.flips;
      rest = kept_both u.rest turned.rest;
      quiet = λ f. absurd (not_over m.seat cur.comm cur.stage value w.at w.is (sym (ap (λ (x : BarAt). is_bar_finished x.stage) e) ∙ f));
    }
  where
    not_over : (seat : Seat) (comm : ℕ) (stage : BarStage) (value : ℕ) (aim : Aim) → barrier_aim_at seat comm stage value ≡ Some aim → is_bar_finished stage ≡ true → ⊥
    not_over seat comm Flip value aim at over = absurd (cc)
    not_over seat comm (Gather seen) value aim at over = absurd (cc)
    not_over seat comm (Release released) value aim at over = absurd (cc)
    not_over seat comm Await value aim at over = absurd (cc)
    not_over seat comm Finished value aim at over = absurd (cc)

pub underway_ends : {s m t : Sight} {c b d : Private} {op cur now : BarAt} {failed : ℕ} {before values later : List Bool} → Underway s op failed m b cur values
    → BarStands t d now later → BarTurned (meeting m b cur values) (meeting t d now later) turn.Done → Finishes (meeting s c op before) (with_parity t d later)
underway_ends {s} {m} {t} {b = b} {d = d} {op = op} {cur = cur} {now = now} {later = later} u st turned =
    let seat : m.seat ≡ s.seat = seat_kept s u.row.events m u.row.did in
    record {
      events = u.row.events ++ turned.events;
      did = did_both s u.row.events m turned.events t u.row.did turned.did;
      calls = turned.means.1 ∙ (λ i. u.calls i ++ u.call_left i);
      stage = subst (λ (x : BarStage). IsAtStage t.seat (record_in t) now.comm x) turned.means.0 st.at;
      empty = st.empty;
      parity = st.parity;
      flips = turned.flips ∙ u.flips;
      rest = kept_both u.rest turned.rest;
      none_failed = λ place may.
          let may_here : MayEndAt m.seat cur.comm place = subst (λ (k : ℕ). MayEndAt m.seat k place) (sym u.same) (subst (λ (x : Seat). MayEndAt x op.comm place) (sym seat) may) in
          let value = flag_value (value_at later cur.comm) in
          (λ i. failed_tries (AtWord place (flag_value (value_at later (sym u.same i)))) (u.row.events ++ turned.events))
          ∙ failed-append (AtWord place value) false 0 u.row.events turned.events
          ∙ ap (λ (x : Bool). failed_from (AtWord place value) x (failed_tries (AtWord place value) u.row.events) turned.events) u.row.freed
          ∙ ended m.seat cur.comm cur.stage value m t b d turned.events turned.does turned.did turned.tried turned.means.2
          (λ q. (subst (λ (x : BarStage). IsAtStage m.seat (record_in m) cur.comm x) q u.stands.at).0) place may_here
          (failed_tries (AtWord place value) u.row.events) (λ f. ap (λ (es : List Event). failed_tries (AtWord place value) es) (u.quiet f));
    }

pub underway_stalls : {s m t : Sight} {c b d : Private} {op cur now : BarAt} {failed : ℕ} {before values later : List Bool} {spot : Spot} → Underway s op failed m b cur values
    → BarStands t d now later → BarTurned (meeting m b cur values) (meeting t d now later) (turn.Waiting spot) → (polls : ℕ) → polls ≤ failed + 1 → Stalls (meeting s c op before) polls (with_parity t d later) (Stalled now spot polls)
underway_stalls {s} {m} {t} {cur = cur} {now = now} {failed = failed} {later = later} u st turned polls enough =
    let w = underway_waited u st turned in
    let e = turned.means.0 in
    let seat : m.seat ≡ s.seat = seat_kept s u.row.events m u.row.did in
    let v = waited turned.tried in
    let at : barrier_aim_at s.seat now.comm now.stage (flag_value (value_at later now.comm)) ≡ Some v.at
    = ap (λ (x : BarAt). barrier_aim_at s.seat x.comm x.stage (flag_value (value_at later x.comm))) e
    ∙ ap (λ (x : Seat). barrier_aim_at x cur.comm cur.stage (flag_value (value_at later cur.comm))) (sym seat) ∙ v.is in
    let many : failed + 1 ≤ failed_tries v.at w.row.events = w.row.tried v.at at in
    record {
      events = w.row.events;
      did = w.row.did;
      now = now;
      aim = v.at;
      is = ap (λ (x : Spot). Stalled now x polls) v.spot_is;
      stands = st;
      same = w.same;
      looks = at;
      calls = w.calls;
      call_left = w.call_left;
      flips = sym (flips_looking s.seat now (flag_value (value_at later now.comm)) v.at (record_in t).flips at) ∙ w.flips;
      rest = w.rest;
      failed = omega (arith, enough, many);
    }

-- what is left of the barrier falls by each move
pub left_falls : {s m t : Sight} {b d : Private} {op cur now : BarAt} {failed : ℕ} {values later : List Bool} → Underway s op failed m b cur values
    → BarTurned (meeting m b cur values) (meeting t d now later) turn.Moved → bar_left s.seat cur ≡ bar_left s.seat now + 1
left_falls {s} {m} {cur = cur} {now = now} u turned =
    subst (λ (x : Seat). bar_left x cur ≡ bar_left x now + 1) (seat_kept s u.row.events m u.row.did) turned.means.0
