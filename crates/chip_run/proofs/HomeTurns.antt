-- A turn through the port of a rank at home, and what it leaves on the chip.
use Rattle.std.proofs.Common.{◌≡◌, ◌≢◌, inl, inr, ⊎_elim, ℕ, ◌<◌, ◌≤◌, Bool, true, false, List, [], ◌∷◌, ◌++◌, sym, ◌∙◌, ap, subst, append-nil, ◌&&◌}
use Rattle.std.specs.List.{list_all}
use Rattle.std.proofs.lemmas.Bool.{cases_lt}
use Rattle.std.proofs.lemmas.List.Folds.{list_all-append}
use Rattle.scc_base.specs.Setups.{SetupView}
use Rattle.scc_base.specs.declared.events.Event.{Event}
use Rattle.scc_base.specs.declared.events.Turn.{Turn}
use Rattle.scc_base.specs.declared.events.Turn.TheVariants as turn
use Rattle.scc_proto.specs.Like.{Like}
use Rattle.scc_proto.specs.Ports.{Sight, Did}
use Rattle.scc_proto.specs.Records.{record_from, record_of}
use Rattle.scc_proto.specs.Resting.{is_resting}
use Rattle.scc_proto.specs.Stages.{Record, blank}
use Rattle.scc_proto.proofs.Words.FlagsTold.{like_both, like_self, like_sym}
use Rattle.scc_proto.proofs.PortLaws.{record_from-append}
use Rattle.scc_proto.proofs.Runs.RestLaw.{resting_part}
use Rattle.scc_proto.proofs.Tests.{both_first, both_second, same_or_other}
use Rattle.scc_mesh.specs.Keeping.{WasStep, records_by}
use Rattle.scc_mesh.specs.Scenes.{ChipView, IsWhole, WasSeatStep, about_in, home_in, events_in, records_in, is_port_of, sight_in}
use Rattle.scc_mesh.specs.Turns.{IsTurned, Saw}
use Rattle.scc_mesh.proofs.LookLaws.{saw_later}
use Rattle.scc_mesh.proofs.PortEnds.{chip_ends}
use Rattle.scc_mesh.proofs.TurnLaws.{turn_leaves}
use Rattle.chip_run.specs.Behaves.{Behaviour, WorkerView}
use Rattle.chip_run.specs.Turns.{HasStayed, HasWaited, IsDone, WantsNothing, LookedAt, NoneElseHolds, OwnTurn, Turned, TurnedAtHome, TurnMeans, WaitsThen, rest_by}
use Rattle.chip_run.specs.Wants.{Want}
use Rattle.chip_run.specs.declared.rests.Rest.{Rest}

-- the record of more events, by the record of the first of them
pub record_split : (s : SetupView) (r : ℕ) (own events : List Event) → record_of s r (own ++ events) ≡ record_from s r (record_of s r own) events
unfolding record_of
record_split s r own events = record_from-append s r blank own events

-- a test that all pass, in parts
pub both_pass : (one two : List Event) → list_all is_resting (one ++ two) ≡ true → (list_all is_resting one ≡ true) × (list_all is_resting two ≡ true)
both_pass one two all =
    let parts : (list_all is_resting one && list_all is_resting two) ≡ true = sym (list_all-append is_resting one two) ∙ all in
    (both_first (list_all is_resting one) (list_all is_resting two) parts, both_second (list_all is_resting one) (list_all is_resting two) parts)

-- an event that was a step for the port is one for the chip
pub look_later : (P Q : List Event → Event → Type 0) → ((own : List Event) (e : Event) → P own e → Q own e) → (s : SetupView) (r : ℕ) (own events : List Event) (n : Want)
    → LookedAt P s r own events n → LookedAt Q s r own events n
look_later P Q turns s r own events n look = record {
  before = look.before;
  look = look.look;
  afterwards = look.afterwards;
  is = look.is;
  step = turns (own ++ look.before) look.look look.step;
  waits = look.waits;
}

means_later : {A : Type 0} (c : Behaviour A) (P Q : List Event → Event → Type 0) → ((own : List Event) (e : Event) → P own e → Q own e) → (s : SetupView) (r : ℕ) (own events : List Event) (old new : A) (answer : Turn)
    → TurnMeans c P s r own events old new answer → TurnMeans c Q s r own events old new answer
means_later c P Q turns s r own events old new turn.Moved means = means
means_later c P Q turns s r own events old new (turn.Waiting spot) means = record {
  stays = means.stays;
  seen = means.seen;
  rests = means.rests;
  alike = means.alike;
  look = look_later P Q turns s r own events (c.seen s r old).want means.look;
}
means_later c P Q turns s r own events old new turn.Done means = means

-- a look among the events of a turn that stored nothing: the words at the look agreed with records that are alike to those behind
-- the turn
module _ (chip now : ChipView) (r : ℕ) (is : IsTurned chip r now) (events : List Event) (longer : events_in now r ≡ events_in chip r ++ events)
    (beyond : (q : ℕ) → (about_in now).nue ≤ q → events_in now q ≡ []) (before afterwards : List Event) (look : Event) (parts : events ≡ before ++ look ∷ afterwards)
    (rests : list_all is_resting events ≡ true) (stayed : Like (record_of (about_in now) r (events_in chip r)) (record_of (about_in now) r (events_in chip r ++ events)))
    (was : WasStep (about_in now) (home_in now) r (events_in chip r ++ before) look) where
  abbrev own : List Event
  own = events_in chip r

  abbrev rec : Record
  rec = record_of (about_in now) r own

  -- the record before the look is alike
  like_before : Like rec (record_of (about_in now) r (own ++ before))
  like_before =
      let (front, rest) = both_pass before (look ∷ afterwards) (subst (λ (es : List Event). list_all is_resting es ≡ true) parts rests) in
      let whole : Like rec (record_from (about_in now) r rec (before ++ look ∷ afterwards)) =
      subst (λ (x : Record). Like rec x) (ap (λ (es : List Event). record_of (about_in now) r (own ++ es)) parts ∙ record_split (about_in now) r own (before ++ look ∷ afterwards)) stayed in
      subst (λ (x : Record). Like rec x) (sym (record_split (about_in now) r own before))
      (resting_part (about_in now) r rec before (look ∷ afterwards) front rest whole)

  mine : Like (record_of (about_in now) r (was.lists r)) (records_in now r)
  mine =
      subst (λ (es : List Event). Like (record_of (about_in now) r es) (records_in now r)) (sym was.own)
      (like_both (record_of (about_in now) r (own ++ before)) rec (records_in now r)
      (like_sym rec (record_of (about_in now) r (own ++ before)) like_before)
      (subst (λ (es : List Event). Like rec (record_of (about_in now) r es)) (sym longer) stayed))

  same_list : (j : ℕ) → j ≢ r → was.lists j ≡ events_in now j
  same_list j ne =
      ⊎_elim
      (λ (low : j < (about_in now).nue). was.others j (events_in now j) ne (is.whole.home j low))
      (λ (past : (about_in now).nue ≤ j). was.before.beyond j past ∙ sym (beyond j past))
      (cases_lt j (about_in now).nue)

  -- no other rank held a register when the look was made
  none_else : NoneElseHolds (about_in chip) (records_in chip) r → NoneElseHolds (about_in now) (records_by (about_in now) was.lists) r
  none_else free k core low ne =
      ap (λ (es : List Event). (record_of (about_in now) k es).held core) (same_list k ne ∙ is.others k ne)
      ∙ ap (λ (s : SetupView). (record_of s k (events_in chip k)).held core) is.about
      ∙ free k core (subst (λ (s : SetupView). k < s.nue) is.about low) ne

  alike_then : (j : ℕ) → Like (records_by (about_in now) was.lists j) (records_in now j)
  alike_then j =
      same_or_other (Like (record_of (about_in now) j (was.lists j)) (records_in now j)) j r
      (λ t e. subst (λ (k : ℕ). Like (record_of (about_in now) k (was.lists k)) (records_in now k)) (sym e) mine)
      (λ t ne. subst (λ (es : List Event). Like (record_of (about_in now) j (was.lists j)) (record_of (about_in now) j es)) (same_list j ne) (like_self (record_of (about_in now) j (was.lists j))))

-- so a rank that a look showed to wait waits behind its turn
pub waits_after : (chip now : ChipView) (r : ℕ) → IsTurned chip r now → (events : List Event) → events_in now r ≡ events_in chip r ++ events
    → ((q : ℕ) → (about_in now).nue ≤ q → events_in now q ≡ []) → NoneElseHolds (about_in chip) (records_in chip) r → list_all is_resting events ≡ true
    → Like (record_of (about_in now) r (events_in chip r)) (record_of (about_in now) r (events_in chip r ++ events)) → (n : Want)
    → LookedAt (Saw now r) (about_in now) r (events_in chip r) events n → WaitsThen (about_in now) (records_in now) r n
waits_after chip now r is events longer beyond free rests stayed n look =
    let was : WasStep (about_in now) (home_in now) r (events_in chip r ++ look.before) look.look = look.step.step in
    record {
      memory = was.memory;
      records = records_by (about_in now) was.lists;
      agrees = was.before.agree;
      alike = alike_then chip now r is events longer beyond look.before look.afterwards look.look look.is rests stayed was;
      waits = look.waits was.memory (records_by (about_in now) was.lists) was.before.agree (ap (record_of (about_in now) r) was.own)
          (none_else chip now r is events longer beyond look.before look.afterwards look.look look.is rests stayed was free) was.step;
    }

module _ {A : Type 0} (c : Behaviour A) where
  own_turn_of : (chip now : ChipView) (r later hold name : ℕ) (w x : A) (answer : Turn) → IsWhole chip → r < (about_in chip).nue → is_port_of now later ≡ true
      → Turned c (WasSeatStep (sight_in chip r hold).seat) w (sight_in chip r hold) x (sight_in now later name) answer
      → c.tied x (about_in now) later (events_in now later) → OwnTurn c chip r w now x answer
  own_turn_of chip now r later hold name w x answer whole below port turned ties =
      let rank : later ≡ r = ap (λ (x : Sight). x.seat.rank) turned.did.continues in
      let same : name ≡ hold = ap (λ (x : Sight). x.seat.hold) turned.did.continues in
      let did : Did (sight_in chip r hold) turned.events (sight_in now r hold) =
      subst (λ (n : ℕ). Did (sight_in chip r hold) turned.events (sight_in now r n)) same
      (subst (λ (k : ℕ). Did (sight_in chip r hold) turned.events (sight_in now k name)) rank turned.did) in
      let open_port : is_port_of now r ≡ true = subst (λ (k : ℕ). is_port_of now k ≡ true) rank port in
      record {
        turned = turn_leaves chip now r turned.events whole below (chip_ends chip now r hold hold turned.events whole.opened open_port did);
        events = turned.events;
        longer = ap (λ (x : Sight). x.events) did.continues;
        ties = subst (λ (k : ℕ). c.tied x (about_in now) k (events_in now k)) rank ties;
        means = means_later c (WasSeatStep (sight_in chip r hold).seat) (Saw now r) (λ own e was. saw_later chip now r hold own turned.events e did was)
            (about_in chip) r (events_in chip r) turned.events w x answer turned.means;
      }

  -- the turn of a worker through a port that was lent the chip
  pub own_turn_ends : (chip old now : ChipView) (r before later hold name : ℕ) (w x : A) (answer : Turn) → old ≡ chip → before ≡ r → IsWhole chip → r < (about_in chip).nue → is_port_of now later ≡ true
      → Turned c (WasSeatStep (sight_in old before hold).seat) w (sight_in old before hold) x (sight_in now later name) answer
      → c.tied x (about_in now) later (events_in now later) → OwnTurn c chip r w now x answer
  own_turn_ends chip old now r before later hold name w x answer same from whole below port turned ties =
      own_turn_of chip now r later hold name w x answer whole below port
      (subst (λ (k : ℕ). Turned c (WasSeatStep (sight_in chip k hold).seat) w (sight_in chip k hold) x (sight_in now later name) answer) from
      (subst (λ (y : ChipView). Turned c (WasSeatStep (sight_in y before hold).seat) w (sight_in y before hold) x (sight_in now later name) answer) same turned)) ties

  -- the chip at the end of the borrow is the port's
  pub own_turn_at : (chip : ChipView) (r : ℕ) (w x : A) (answer : Turn) (end now : ChipView) → end ≡ now → OwnTurn c chip r w now x answer → OwnTurn c chip r w end x answer
  own_turn_at chip r w x answer end now same turned = subst (λ (y : ChipView). OwnTurn c chip r w y x answer) (sym same) turned

  -- it is whole
  pub own_turn_whole : (chip : ChipView) (r : ℕ) (w x : A) (answer : Turn) (end now : ChipView) → end ≡ now → OwnTurn c chip r w now x answer → IsWhole end
  own_turn_whole chip r w x answer end now same turned = subst IsWhole (sym same) turned.turned.whole

  module _ (chip now : ChipView) (r : ℕ) (w x : A) (is : IsTurned chip r now) (events : List Event) (longer : events_in now r ≡ events_in chip r ++ events)
      (beyond : (q : ℕ) → (about_in now).nue ≤ q → events_in now q ≡ []) where
    abbrev s : SetupView
    s = about_in chip

    -- the record after the turn
    record_now : records_in now r ≡ record_of s r (events_in chip r ++ events)
    record_now = λ i. record_of (is.about i) r (longer i)

    like_now : Like (record_of s r (events_in chip r)) (record_of s r (events_in chip r ++ events)) → Like (records_in chip r) (records_in now r)
    like_now alike = subst (λ (rec : Record). Like (records_in chip r) rec) (sym record_now) alike

    -- where nothing was done the record is as before
    record_same : events ≡ [] → records_in now r ≡ record_of s r (events_in chip r)
    record_same none = record_now ∙ ap (λ (es : List Event). record_of s r (events_in chip r ++ es)) none ∙ ap (record_of s r) (append-nil (events_in chip r))

    module _ (done : IsDone c s r (events_in chip r) events w x) where
      same : records_in now r ≡ record_of s r (events_in chip r)
      same = record_same done.nothing

      alike : Like (records_in chip r) (records_in now r)
      alike = subst (λ (rec : Record). Like (records_in chip r) rec) (sym same) (like_self (records_in chip r))

      over : WantsNothing (records_in now r) (c.seen s r x)
      over = subst (λ (rec : Record). WantsNothing rec (c.seen s r x)) (sym same) (subst (λ (v : WorkerView). WantsNothing (record_of s r (events_in chip r)) v) (sym done.seen) done.over)

      stayed_stopped : (c.seen s r x).is_stopped ≡ true → HasStayed c false chip r now w x
      stayed_stopped so = record { stays = done.stays; seen = done.seen; alike = alike; rests = inl (record { over = over; stopped = so }) }

      stayed_finished : (c.seen s r x).is_stopped ≡ false → HasStayed c true chip r now w x
      stayed_finished none = record {
        stays = done.stays;
        seen = done.seen;
        alike = alike;
        rests = record { over = over; running = none };
      }

    stayed_waits : NoneElseHolds s (records_in chip) r → HasWaited c (Saw now r) s r (events_in chip r) events w x → WaitsThen s (records_in now) r (c.seen s r x).want
    stayed_waits free waited =
        subst (λ (v : WorkerView). WaitsThen s (records_in now) r v.want) (sym waited.seen)
        (subst (λ (y : SetupView). WaitsThen y (records_in now) r (c.seen s r w).want) is.about
        (waits_after chip now r is events longer beyond free waited.rests
        (subst (λ (y : SetupView). Like (record_of y r (events_in chip r)) (record_of y r (events_in chip r ++ events))) (sym is.about) waited.alike) (c.seen s r w).want
        (subst (λ (y : SetupView). LookedAt (Saw now r) y r (events_in chip r) events (c.seen s r w).want) (sym is.about) waited.look)))

  -- what a turn at home came to
  pub turned_at_home : (chip now : ChipView) (r : ℕ) (w x : A) (answer : Turn) (stopped : Bool) → NoneElseHolds (about_in chip) (records_in chip) r → OwnTurn c chip r w now x answer → ((q : ℕ) → (about_in now).nue ≤ q → events_in now q ≡ [])
      → stopped ≡ (c.seen (about_in chip) r x).is_stopped → TurnedAtHome c chip r w now x (rest_by answer stopped)
  turned_at_home chip now r w x turn.Moved stopped free turned beyond tells =
      record { turned = turned.turned; ties = turned.ties; comes = turned.means }
  turned_at_home chip now r w x (turn.Waiting spot) stopped free turned beyond tells = record {
    turned = turned.turned;
    ties = turned.ties;
    comes = record {
      stays = turned.means.stays;
      seen = turned.means.seen;
      alike = like_now chip now r w x turned.turned turned.events turned.longer beyond turned.means.alike;
      rests = inr (stayed_waits chip now r w x turned.turned turned.events turned.longer beyond free turned.means);
    };
  }
  turned_at_home chip now r w x turn.Done true free turned beyond tells =
      record { turned = turned.turned; ties = turned.ties; comes = stayed_stopped chip now r w x turned.turned turned.events turned.longer beyond turned.means (sym tells) }
  turned_at_home chip now r w x turn.Done false free turned beyond tells =
      record { turned = turned.turned; ties = turned.ties; comes = stayed_finished chip now r w x turned.turned turned.events turned.longer beyond turned.means (sym tells) }

  -- the chip at the end of the borrow is the port's, and the answer is told with the worker's standing
  pub home_turned : (chip : ChipView) (r : ℕ) (w x : A) (answer : Turn) (end now : ChipView) (stopped : Bool) (came : Rest) → NoneElseHolds (about_in chip) (records_in chip) r → end ≡ now
      → OwnTurn c chip r w now x answer → ((q : ℕ) → (about_in end).nue ≤ q → events_in end q ≡ []) → stopped ≡ (c.seen (about_in chip) r x).is_stopped → came ≡ rest_by answer stopped
      → TurnedAtHome c chip r w end x came
  home_turned chip r w x answer end now stopped came free same turned beyond tells so =
      subst (λ (y : Rest). TurnedAtHome c chip r w end x y) (sym so) (turned_at_home chip end r w x answer stopped free (own_turn_at chip r w x answer end now same turned) beyond tells)
