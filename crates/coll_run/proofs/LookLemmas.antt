-- What each answer of a collective call's turn means to a run.
use Rattle.std.proofs.Common.{◌≡◌, ℕ, ◌+◌, ◌||◌, if◌then◌else◌, Bool, true, false, List, [], ◌∷◌, ◌++◌, length, Some, refl, sym, ap, ◌∙◌, arith, length-append}
use Rattle.scc_base.specs.declared.events.Event.{Event}
use Rattle.scc_base.specs.declared.events.Spot.{Spot}
use Rattle.scc_proto.specs.Ports.{Seat, Sight, record_in}
use Rattle.scc_proto.specs.Stages.{Idle, Record}
use Rattle.scc_proto.specs.Words.{Memory}
use Rattle.put_get.specs.Accesses.{WereSteps}
use Rattle.sync_flags.specs.Tries.{Aim}
use Rattle.send_recv.specs.Ops.{SlotAt}
use Rattle.send_recv.specs.declared.answers.RecvTurn.TheVariants as turn
use Rattle.chip_run.specs.Turns.{HasMoved, HasWaited, IsDone}
use Rattle.chip_run.specs.Wants.{Want}
use Rattle.waiting_laws.specs.Looks.{LookFailed, SeatWaits}
use Rattle.waiting_laws.proofs.Messages.{receives_here, sends_here}
use Rattle.waiting_laws.proofs.Waited.{turn_waited}
use Rattle.coll_more.specs.Ops.{MoreAt, bytes_of_piece, table_of, window, taking_part}
use Rattle.coll_more.specs.Standing.{MoreStands, StandsAt}
use Rattle.coll_more.specs.Turns.{IsParticipantStill, MoreTurned, stage_aim, is_over_by, left_at_stage, more_left}
use Rattle.coll_more.specs.declared.kinds.PieceCall.{PieceCall}
use Rattle.coll_more.specs.declared.ops.Stage.{Stage}
use Rattle.coll_more.specs.declared.ops.Stage.TheVariants.{Own, Between, Sending, Receiving}
use Rattle.coll_run.specs.Resting.{want_at}
use Rattle.coll_run.specs.Teams.{MemberView, seat_of}
use Rattle.coll_run.specs.Workers.{Stays, member_behaviour, member_seen}

-- nothing more is nothing
none_more : (xs ys : List Event) → xs ≡ xs ++ ys → ys ≡ []
none_more xs [] is = refl
none_more xs (e ∷ es) is = absurd (let long : length xs ≡ length (xs ++ e ∷ es) = ap length is in omega (arith, long, length-append xs (e ∷ es)))

-- ---- what a turn keeps

-- the numbers of a seat are those of its setup and rank
left_same : (x : Seat) (op : MoreAt) (slot : SlotAt) (st : Stage) → left_at_stage x op slot st ≡ left_at_stage (seat_of x.setup x.rank) op slot st
left_same x op slot Own = refl
left_same x op slot Between = refl
left_same x op slot (Sending call send) = refl
left_same x op slot (Receiving call receive) = refl

module _ (s t : Sight) (old new : MemberView) where
  abbrev Still : Type 0
  Still = IsParticipantStill (taking_part s old.core old.op old.slot old.src old.dst) (taking_part t new.core new.op new.slot old.src new.dst)

  stays_still : Still → new.src ≡ old.src → Stays old new
  stays_still still src = record { op = still.same_op; slot = still.same_slot; src = src }

  seen_same : new.op ≡ old.op → new.slot ≡ old.slot → new.met ≡ old.met → member_seen s.seat.setup s.seat.rank new ≡ member_seen s.seat.setup s.seat.rank old
  seen_same op slot met = λ i. member_seen s.seat.setup s.seat.rank (record old { op = op i; slot = slot i; met = met i })

  seen_still : Still → new.met ≡ old.met → member_seen s.seat.setup s.seat.rank new ≡ member_seen s.seat.setup s.seat.rank old
  seen_still still met = seen_same still.same_op still.same_slot met

-- ---- a turn that waits

module _ (stepped : List Event → Event → Type 0) (s t : Sight) (old new : MemberView) where
  module _ (spot : Spot) (stands : MoreStands [] (taking_part s old.core old.op old.slot old.src old.dst))
      (turned : MoreTurned (taking_part s old.core old.op old.slot old.src old.dst) (taking_part t new.core new.op new.slot old.src new.dst) (turn.Waiting spot)) (steps : WereSteps stepped s.events turned.events) where
    module _ (memory : Memory) (records : ℕ → Record) (aim : Aim) (look : LookFailed s.seat memory records (record_in s) aim) where
      waits_by : (st : Stage) → StandsAt s old.core old.slot (table_of s.seat old.op) old.op.ended old.src old.dst st → stage_aim s.seat old.slot st ≡ Some aim → SeatWaits s.seat memory records (want_at st)
      waits_by Own st is = absurd (cc (is))
      waits_by Between st is = absurd (cc (is))
      waits_by (Sending call op) st is = sends_here s.seat memory records (record_in s) aim look old.core op old.slot (bytes_of_piece call old.src old.dst) st.2 is
      waits_by (Receiving call op) st is = receives_here s.seat memory records (record_in s) aim look old.core op (window call.first call.len old.dst) st.3 is

    -- so it waits for what it wants
    pub has_waited : old.met ≡ false → new.met ≡ old.met → new.src ≡ old.src → HasWaited member_behaviour stepped s.seat.setup s.seat.rank s.events turned.events old new
    has_waited running met src =
        let still = turned.means in
        turn_waited stepped (stage_aim s.seat old.slot old.op.stage) s t turned.events spot turned.did steps turned.tried (turned.rests spot refl) still.0.rest member_behaviour old new (want_at old.op.stage)
        (λ i. if sym running i || sym still.1 i then Want.Nothing else want_at old.op.stage) (stays_still s t old new still.0 src) (seen_still s t old new still.0 met)
        (λ memory records aim look is. waits_by memory records aim look old.op.stage stands.at is)

-- ---- the other answers

module _ (s t : Sight) (old new : MemberView) (running : old.met ≡ false) where
  abbrev seat : Seat
  seat = s.seat

  pub left_running : (m : MemberView) → m.met ≡ false → (member_seen seat.setup seat.rank m).left ≡ more_left seat m.op m.slot + 1
  left_running m off =
      ap (λ (b : Bool). if b then 0 else more_left (seat_of seat.setup seat.rank) m.op m.slot + 1) off ∙ ap (λ (n : ℕ). n + 1) (sym (left_same seat m.op m.slot m.op.stage))

  module _ (turned : MoreTurned (taking_part s old.core old.op old.slot old.src old.dst) (taking_part t new.core new.op new.slot old.src new.dst) turn.Moved) where
    pub has_moved : new.met ≡ old.met → new.src ≡ old.src → HasMoved member_behaviour seat.setup seat.rank old new
    has_moved met src = record {
      moves = record { more = turned.same.0; len = turned.same.1; src = src };
      less = (let less = turned.means.0 in omega (arith, less, left_running old running, left_running new (met ∙ running)));
    }

  module _ (turned : MoreTurned (taking_part s old.core old.op old.slot old.src old.dst) (taking_part t new.core new.op new.slot old.src new.dst) turn.Done)
      (stands : MoreStands [] (taking_part s old.core old.op old.slot old.src old.dst)) where
    over_idle : (table : List PieceCall) (ended : ℕ) (st : Stage) → is_over_by table ended st ≡ true → StandsAt s old.core old.slot table ended old.src old.dst st → (record_in s).stage ≡ Idle
    over_idle table ended Own over at = absurd (cc (over))
    over_idle table ended Between over at = at.between.stage
    over_idle table ended (Sending call op) over at = absurd (cc (over))
    over_idle table ended (Receiving call op) over at = absurd (cc (over))

    pub has_ended : new.met ≡ old.met → new.src ≡ old.src → IsDone member_behaviour seat.setup seat.rank s.events turned.events old new
    unfolding record_in
    has_ended met src = record {
      stays = record { op = turned.means.0; slot = turned.means.1; src = src };
      seen = seen_same s t old new turned.means.0 turned.means.1 met;
      nothing = none_more s.events turned.events (ap (λ (x : Sight). x.events) (sym turned.means.3 ∙ turned.did.continues));
      over = record {
        ends = λ i. if running i || turned.means.5 i then Want.Nothing else want_at old.op.stage;
        idle = over_idle (table_of seat old.op) old.op.ended old.op.stage turned.means.5 stands.at;
      };
    }
