-- A turn that waited made one look in vain, and so it has waited for what its rank wants.
use Rattle.std.proofs.Common.{◌≡◌, ℕ, true, false, List, ◌∷◌, ◌++◌, Option, Some, None, is_none, option_map, refl, sym, ap, ◌∙◌, subst}
use Rattle.std.specs.List.{list_all}
use Rattle.scc_base.specs.declared.events.Access.{Access}
use Rattle.scc_base.specs.declared.events.Event.{Event}
use Rattle.scc_base.specs.declared.events.Spot.{Spot}
use Rattle.scc_proto.specs.Agreement.{Agrees}
use Rattle.scc_proto.specs.Like.{Like, as_unanswered}
use Rattle.scc_proto.specs.Ports.{Did, Sight, WereMade, and_then, record_in, record_on}
use Rattle.scc_proto.specs.Records.{IsPermitted, permits_by, record_from, record_of}
use Rattle.scc_proto.specs.Resting.{is_resting}
use Rattle.scc_proto.specs.Stages.{InFlight, Record}
use Rattle.scc_proto.specs.Words.{IsStep, Memory}
use Rattle.scc_proto.proofs.PortLaws.{made_left, record_in-and_then}
use Rattle.scc_proto.proofs.Runs.RestLaw.{resting_part}
use Rattle.put_get.specs.Accesses.{WereSteps}
use Rattle.sync_flags.specs.Tries.{Aim, Fruitful, NoTry, Tried, Failed, changing_after, is_take}
use Rattle.send_recv.specs.Turns as sr
use Rattle.chip_run.specs.Behaves.{Behaviour}
use Rattle.chip_run.specs.Turns.{HasWaited, NoneElseHolds}
use Rattle.chip_run.specs.Wants.{Want}
use Rattle.chip_run.proofs.HomeTurns.{both_pass, record_split}
use Rattle.waiting_laws.specs.Looks.{LookFailed, Tells, SeatWaits}
use Rattle.waiting_laws.proofs.Looks.{take_is, told}
use Rattle.waiting_laws.proofs.FailedSteps.{FailedStep, found}

-- ---- events that rest, and records that are alike

post_alike : (o new : Option InFlight) → sr.IsSamePost o new → option_map as_unanswered o ≡ option_map as_unanswered new
post_alike None new same = ap (option_map as_unanswered) (sym same)
post_alike (Some post) new (answered, is, kept) = ap (option_map as_unanswered) (sym is)

pub rest_alike : (rec new : Record) → sr.IsAtRest rec new → Like rec new
rest_alike rec new rest = record {
  stage = sym rest.stage;
  post = post_alike rec.post new.post rest.post;
  flips = λ comm. ap (λ (flips : ℕ → ℕ). flips comm) (sym rest.rest.flips);
  calls = sym rest.calls;
}

-- the record before a part of events that rest is alike
like_before : (s t : Sight) (events before afterwards : List Event) → Did s events t → list_all is_resting events ≡ true → events ≡ before ++ afterwards → Like (record_in s) (record_in t)
    → Like (record_in s) (record_in (and_then s before))
unfolding record_in
like_before s t events before afterwards did rests is alike =
    let (front, rest) = both_pass before afterwards (subst (λ (es : List Event). list_all is_resting es ≡ true) is rests) in
    let rec : Record = record_of s.seat.setup s.seat.rank s.events in
    let whole : Like rec (record_from s.seat.setup s.seat.rank rec (before ++ afterwards)) =
    subst (λ (x : Record). Like rec x)
    (ap record_in did.continues ∙ ap (λ (es : List Event). record_of s.seat.setup s.seat.rank (s.events ++ es)) is ∙ record_split s.seat.setup s.seat.rank s.events (before ++ afterwards)) alike in
    subst (λ (x : Record). Like rec x) (sym (record_split s.seat.setup s.seat.rank s.events before)) (resting_part s.seat.setup s.seat.rank rec before afterwards front rest whole)

-- a register is taken only where the rank does not hold it
take_allowed : (s t : Sight) (events before afterwards : List Event) (e : Event) → Did s events t → events ≡ before ++ e ∷ afterwards → is_take e.access ≡ true
    → is_none ((record_in (and_then s before)).held e.place.core) ≡ true
take_allowed s t events before afterwards e did is takes =
    let made : WereMade s.seat (record_in s) (before ++ e ∷ afterwards) = subst (WereMade s.seat (record_in s)) is did.made in
    let may : IsPermitted s.seat.setup s.seat.rank (record_on s.seat (record_in s) before) e = (made_left s.seat (record_in s) before (e ∷ afterwards) made).0.permitted in
    let here : IsPermitted s.seat.setup s.seat.rank (record_in (and_then s before)) e = subst (λ (r : Record). IsPermitted s.seat.setup s.seat.rank r e) (sym (record_in-and_then s before)) may in
    subst (λ (a : Access). permits_by s.seat.setup s.seat.rank (record_in (and_then s before)) a e.place e.value ≡ true) (take_is e.access takes) here

-- the one try of the turn, which was vain
pub record Sought (stepped : List Event → Event → Type 0) (tried : Option Aim) (past events : List Event) : Type 0 where
  pub aim : Aim
  pub aim_is : tried ≡ Some aim
  pub look : FailedStep stepped past aim false events

pub sought_by : (stepped : List Event → Event → Type 0) (tried : Option Aim) (past events : List Event) (waits : Option Spot) (spot : Spot) → waits ≡ Some spot
    → WereSteps stepped past events → Tried tried events waits → Sought stepped tried past events
sought_by stepped tried past events waits spot is steps (NoTry none no_spot) = absurd (cc (is, no_spot))
sought_by stepped tried past events waits spot is steps (Failed at aims one failed here) = record { aim = at; aim_is = aims; look = found stepped past at false 0 events one failed steps }
sought_by stepped tried past events waits spot is steps (Fruitful at aims one failed no_spot) = absurd (cc (is, no_spot))

-- where the look is a step of words that agree with records, the rank's own being that before it: the record is alike to the one
-- before the turn, and the words tell what the look was for
module _ (stepped : List Event → Event → Type 0) (tried : Option Aim) (s t : Sight) (events : List Event) (sought : Sought stepped tried s.events events) (did : Did s events t)
    (memory : Memory) (records : ℕ → Record) (agrees : Agrees s.seat.setup memory records) (mine : records s.seat.rank ≡ record_in (and_then s sought.look.before))
    (others : NoneElseHolds s.seat.setup records s.seat.rank) (step : IsStep memory sought.look.event) where
  pub sought_like : list_all is_resting events ≡ true → Like (record_in s) (record_in t) → Like (record_in s) (records s.seat.rank)
  sought_like rests alike = subst (λ (r : Record). Like (record_in s) r) (sym mine)
      (like_before s t events sought.look.before (sought.look.event ∷ sought.look.afterwards) did rests sought.look.is alike)

  pub sought_tells : Tells memory sought.aim
  sought_tells = told s.seat.setup memory records s.seat.rank agrees others (changing_after false sought.look.before) sought.aim sought.look.event sought.look.try_is sought.look.failed
      (λ takes. subst (λ (r : Record). is_none (r.held sought.look.event.place.core) ≡ true) (sym mine)
      (take_allowed s t events sought.look.before sought.look.afterwards sought.look.event did sought.look.is takes)) step

-- a turn that waited has waited for what its rank wants, if each vain look at what it tried for shows that the rank waits for it
module _ (stepped : List Event → Event → Type 0) (tried : Option Aim) (s t : Sight) (events : List Event) (spot : Spot) (did : Did s events t) (steps : WereSteps stepped s.events events)
    (is_tried : Tried tried events (Some spot)) (rests : list_all is_resting events ≡ true) (rest : sr.IsAtRest (record_in s) (record_in t)) where
  sought : Sought stepped tried s.events events
  sought = sought_by stepped tried s.events events (Some spot) spot refl steps is_tried

  alike : Like (record_in s) (record_in t)
  alike = rest_alike (record_in s) (record_in t) rest

  looked : (memory : Memory) (records : ℕ → Record) → Agrees s.seat.setup memory records → records s.seat.rank ≡ record_in (and_then s sought.look.before)
      → NoneElseHolds s.seat.setup records s.seat.rank → IsStep memory sought.look.event → LookFailed s.seat memory records (record_in s) sought.aim
  looked memory records agrees mine others step = record {
    agrees = agrees;
    like = sought_like stepped tried s t events sought did memory records agrees mine others step rests alike;
    tells = sought_tells stepped tried s t events sought did memory records agrees mine others step;
  }

  pub turn_waited : {A : Type 0} (c : Behaviour A) (old new : A) (want : Want) → want ≡ (c.seen s.seat.setup s.seat.rank old).want → c.stays old new
      → c.seen s.seat.setup s.seat.rank new ≡ c.seen s.seat.setup s.seat.rank old
      → ((memory : Memory) (records : ℕ → Record) (aim : Aim) → LookFailed s.seat memory records (record_in s) aim → tried ≡ Some aim → SeatWaits s.seat memory records want)
      → HasWaited c stepped s.seat.setup s.seat.rank s.events events old new
  unfolding record_in
  turn_waited c old new want wants stays seen waits = record {
    stays = stays;
    seen = seen;
    rests = rests;
    alike = subst (λ (r : Record). Like (record_in s) r) (ap record_in did.continues) alike;
    look = record {
      before = sought.look.before;
      look = sought.look.event;
      afterwards = sought.look.afterwards;
      is = sought.look.is;
      step = sought.look.step;
      waits = λ memory records agrees mine others step.
          subst (λ (w : Want). SeatWaits s.seat memory records w) wants (waits memory records sought.aim (looked memory records agrees mine others step) sought.aim_is);
    };
  }
