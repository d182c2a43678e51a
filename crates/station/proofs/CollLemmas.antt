-- A collective call of a station, turn after turn.
use Rattle.std.proofs.Common.{◌≡◌, ℕ, ◌+◌, ◌-◌, ◌*◌, ◌<◌, ◌≤◌, List, ◌++◌, Option, Some, refl, sym, ap, ◌∙◌, subst, arith, add-mul}
use Rattle.std.proofs.Math.Nat.{mul-le-mul_right}
use Rattle.scc_base.specs.Calls.{DataCall}
use Rattle.scc_base.specs.Heads.{MessageHead}
use Rattle.scc_base.specs.declared.events.Spot.{Spot}
use Rattle.scc_proto.specs.Stages.{FlagWords, Record}
use Rattle.scc_proto.specs.Ports.{Seat, Sight, record_in}
use Rattle.scc_proto.proofs.PortLaws.{did_both, seat_kept}
use Rattle.send_recv.specs.Turns.{KeepsAllButMessages}
use Rattle.send_recv.specs.declared.answers.RecvTurn.{RecvTurn}
use Rattle.send_recv.specs.declared.answers.RecvTurn.TheVariants as turn
use Rattle.send_recv.proofs.Loops.RecvLoop.{rest_both, rest_itself, resting_quiet}
use Rattle.sync_flags.specs.Tries.{Tried}
use Rattle.sync_flags.proofs.LoopLemmas.{Row, row_moved, row_none, row_waited}
use Rattle.sync_flags.proofs.RowLemmas.{waited}
use Rattle.coll_more.specs.Ops.{HasOwn, MoreAt, Participant, data_calls, new_more, taking_part}
use Rattle.coll_more.specs.Standing.{HasEnded, IsFit, MoreStands}
use Rattle.coll_more.specs.Turns.{MetOther, MoreTurned, stage_aim}
use Rattle.coll_more.specs.declared.kinds.More.{More}
use Rattle.coll_more.proofs.EndLemmas.{begins}
use Rattle.station.specs.Calls.{OnlyMessages}
use Rattle.station.specs.Collectives.{IsInCollective, MoreDiffers, MoreStalled}
use Rattle.station.specs.Stations.{HoldsNoRegister, NoCallOpen, StationAt}

none_held : (rec new : Record) → new.held ≡ rec.held → HoldsNoRegister rec → HoldsNoRegister new
none_held rec new same none = λ core. ap (λ (held : ℕ → Option FlagWords). held core) same ∙ none core

-- where no call is open any collective call can begin
pub collective_begins : (s : Sight) (a : StationAt) (more : More) (len : ℕ) (src dst : List ℕ) → NoCallOpen s a → IsFit more s.seat.rank s.seat.setup.nue len src dst
    → IsInCollective (record_in s).calls s a (new_more more len) src dst
collective_begins s a more len src dst free fit =
    record { stands = begins s a.core a.slot more len src dst free.messages fit; parity = free.parity; registers = free.registers }

-- ---- the turns so far, of which so many at the end were vain in a row

pub record Way (old : Participant) (failed : ℕ) (now : Participant) : Type 0 where
  pub row : Row (stage_aim old.sight.seat now.slot now.op.stage) failed old.sight now.sight
  pub stands : (base : List DataCall) → MoreStands base old → MoreStands base now
  pub seat : now.sight.seat ≡ old.sight.seat
  pub more : now.op.more ≡ old.op.more
  pub len : now.op.len ≡ old.op.len
  pub rest : KeepsAllButMessages (record_in old.sight) (record_in now.sight)

pub way_none : (old : Participant) → Way old 0 old
way_none old = record { row = row_none; stands = λ base is. is; seat = refl; more = refl; len = refl; rest = rest_itself (record_in old.sight) }

module _ {old mid now : Participant} {failed : ℕ} {answer : RecvTurn} (way : Way old failed mid) (turned : MoreTurned mid now answer) where
  same_seat : now.sight.seat ≡ old.sight.seat
  same_seat = seat_kept mid.sight turned.events now.sight turned.did ∙ way.seat

  pub with_row : {n : ℕ} → ((base : List DataCall) → MoreStands base mid → MoreStands base now) → Row (stage_aim old.sight.seat now.slot now.op.stage) n old.sight now.sight → Way old n now
  with_row stands row = record {
    row = row;
    stands = λ base is. stands base (way.stands base is);
    seat = same_seat;
    more = turned.same.0 ∙ way.more;
    len = turned.same.1 ∙ way.len;
    rest = rest_both (record_in old.sight) (record_in mid.sight) (record_in now.sight) way.rest turned.rest;
  }

  -- a turn that goes on begins the row anew
  pub way_moved : ((base : List DataCall) → MoreStands base mid → MoreStands base now) → Way old 0 now
  way_moved stands = with_row stands (row_moved way.row turned.did turned.freed)

  pub only_so_far : OnlyMessages old.sight now.sight
  only_so_far = record {
    events = way.row.events ++ turned.events;
    did = did_both old.sight way.row.events mid.sight turned.events now.sight way.row.did turned.did;
    rest = rest_both (record_in old.sight) (record_in mid.sight) (record_in now.sight) way.rest turned.rest;
  }

  same_calls : (base : List DataCall) (src dst : List ℕ) → base ++ data_calls now.op.more now.sight.seat.rank now.sight.seat.setup.nue now.op.len src dst
      ≡ base ++ data_calls old.op.more now.sight.seat.rank now.sight.seat.setup.nue old.op.len src dst
  same_calls base src dst = λ i. base ++ data_calls ((turned.same.0 ∙ way.more) i) now.sight.seat.rank now.sight.seat.setup.nue ((turned.same.1 ∙ way.len) i) src dst

  -- at its end it is the call that it was at its start
  pub way_ends : ((base : List DataCall) → MoreStands base mid → HasEnded base now) → (base : List DataCall) → MoreStands base old
      → HasEnded base (taking_part now.sight now.core old.op now.slot now.src now.dst)
  way_ends ended base is =
      let end = ended base (way.stands base is) in
      record {
        calls = end.calls ∙ same_calls base now.src now.dst;
        own = subst (λ (x : More). HasOwn x now.sight.seat.rank old.op.len now.src now.dst) (turned.same.0 ∙ way.more)
            (subst (λ (x : ℕ). HasOwn now.op.more now.sight.seat.rank x now.src now.dst) (turned.same.1 ∙ way.len) end.own);
        no_call = end.no_call;
      }

-- a turn that waits makes the row longer by one
module _ {old mid now : Participant} {failed : ℕ} {spot : Spot} (way : Way old failed mid) (turned : MoreTurned mid now (turn.Waiting spot)) where
  tried_there : Tried (stage_aim old.sight.seat mid.slot mid.op.stage) turned.events (Some spot)
  tried_there = subst (λ (x : Seat). Tried (stage_aim x mid.slot mid.op.stage) turned.events (Some spot)) way.seat turned.tried

  aim_stays : stage_aim old.sight.seat now.slot now.op.stage ≡ stage_aim old.sight.seat mid.slot mid.op.stage
  aim_stays = λ i. stage_aim old.sight.seat (turned.means.0.same_slot i) (turned.means.0.same_op i).stage

  pub way_waited : ((base : List DataCall) → MoreStands base mid → MoreStands base now) → Way old (failed + 1) now
  way_waited stands = with_row way turned stands
      (row_waited way.row turned.did turned.freed tried_there (resting_quiet turned.events (turned.rests spot refl)) aim_stays)

  pub way_stalls : ((base : List DataCall) → MoreStands base mid → MoreStands base now) → (polls : ℕ) → polls ≤ failed + 1 → MoreStalled old polls now spot
  way_stalls stands polls enough =
      let w = waited tried_there in
      let n : Way old (failed + 1) now = way_waited stands in
      let looks : stage_aim old.sight.seat now.slot now.op.stage ≡ Some w.at = aim_stays ∙ w.is in
      let many = n.row.tried w.at looks in
      record {
        events = n.row.events;
        did = n.row.did;
        same = (n.more, n.len);
        aim = w.at;
        looks = ap (λ (x : Seat). stage_aim x now.slot now.op.stage) n.seat ∙ looks;
        at = w.spot_is;
        tried = omega (arith, enough, many);
      }

-- a turn that meets another message leaves all as it is
pub way_differs : {old mid now : Participant} {failed : ℕ} {sent : MessageHead} → Way old failed mid → MoreTurned mid now (turn.Mismatch sent) → MoreDiffers old now sent
way_differs {old} {mid} {now} {failed} {sent} way turned = record {
  same = (turned.same.0 ∙ way.more, turned.same.1 ∙ way.len);
  met = subst (λ (m : MoreAt). MetOther (record_in now.sight) sent m.stage) (sym turned.means.0.same_op) turned.means.2;
}

-- fewer turns are left
pub falls : {left now polls failed : ℕ} → now < left → failed < polls → now * polls + (polls - 0) < left * polls + (polls - failed)
falls {left} {now} {polls} {failed} less low =
    let at_least : now + 1 ≤ left = omega (arith, less) in
    let most : (now + 1) * polls ≤ left * polls = mul-le-mul_right polls at_least in
    let product : (now + 1) * polls ≡ now * polls + 1 * polls = add-mul now 1 polls in
    omega (arith, most, product, low)
