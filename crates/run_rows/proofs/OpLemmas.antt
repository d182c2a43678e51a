-- The state of a collective call agrees with the events of its rank, whatever port shows them.
use Rattle.std.proofs.Common.{◌≡◌, ℕ, List, [], Option, Some, None, refl, sym, subst}
use base.Stored.{Gv, gnil}
use Rattle.scc_base.specs.Setups.{SetupView}
use Rattle.scc_proto.specs.Ports.{Sight, record_in}
use Rattle.put_get.specs.Cores.{Private}
use Rattle.send_recv.specs.Calling.{IsBetweenMessages}
use Rattle.send_recv.specs.Ops.{SlotAt, empty_slot}
use Rattle.send_recv.proofs.OtherPort.{free_there}
use Rattle.send_recv.proofs.Starts.{free_at_start}
use Rattle.sync_flags.specs.Turns.{at_port}
use Rattle.coll_more.specs.Ops.{MoreAt, new_more, taking_part}
use Rattle.coll_more.specs.Standing.{IsFit, Stands}
use Rattle.coll_more.specs.declared.kinds.More.{More}
use Rattle.coll_more.proofs.EndLemmas.{begins, stands_there}
use Rattle.run_rows.specs.CollMembers.{IsAtOp}
use Rattle.chip_teams.specs.Teams.{sight_alone}

at_there : (s : Sight) (m r : Gv) (h : ℕ) (c : Private) (slot : SlotAt) (src dst : List ℕ) (op : Option MoreAt) → IsAtOp s c slot src dst op → IsAtOp (at_port s m r h) c slot src dst op
at_there s m r h c slot src dst (Some op) st = (st.0, stands_there s m r h st.0 c op slot src dst st.1)
at_there s m r h c slot src dst None st = free_there s m r h c slot st

-- a state that agrees with a rank's events agrees with every port that shows them, and conversely
pub op_shown : (s : Sight) (c : Private) (slot : SlotAt) (src dst : List ℕ) (op : Option MoreAt) → IsAtOp (sight_alone s.seat.setup s.seat.rank s.events) c slot src dst op
    → IsAtOp s c slot src dst op
op_shown s c slot src dst op st = at_there (sight_alone s.seat.setup s.seat.rank s.events) s.seat.mark s.seat.rest s.seat.hold c slot src dst op st

pub op_alone : (s : Sight) (c : Private) (slot : SlotAt) (src dst : List ℕ) (op : Option MoreAt) → IsAtOp s c slot src dst op
    → IsAtOp (sight_alone s.seat.setup s.seat.rank s.events) c slot src dst op
op_alone s c slot src dst op st = at_there s gnil gnil 0 c slot src dst op st

-- the call that is unfinished, at a port that shows the events
pub op_stands : (s : Sight) (c : Private) (slot : SlotAt) (src dst : List ℕ) (op : MoreAt) (now : Option MoreAt) → IsAtOp (sight_alone s.seat.setup s.seat.rank s.events) c slot src dst now
    → now ≡ Some op → Stands (taking_part s c op slot src dst)
op_stands s c slot src dst op now st is = subst (λ (x : Option MoreAt). IsAtOp s c slot src dst x) is (op_shown s c slot src dst now st)

pub op_free : (s : Sight) (c : Private) (slot : SlotAt) (src dst : List ℕ) (now : Option MoreAt) → IsAtOp (sight_alone s.seat.setup s.seat.rank s.events) c slot src dst now
    → now ≡ None → IsBetweenMessages s c slot
op_free s c slot src dst now st is = subst (λ (x : Option MoreAt). IsAtOp s c slot src dst x) is (op_shown s c slot src dst now st)

-- before its first event a rank is in no call
pub op_starts : (s : SetupView) (r : ℕ) (c : Private) (slot : SlotAt) → c.out ≡ None → slot ≡ empty_slot → IsBetweenMessages (sight_alone s r []) c slot
op_starts s r c slot empty new = subst (λ (x : SlotAt). IsBetweenMessages (sight_alone s r []) c x) (sym new) (free_at_start (sight_alone s r []) c refl empty)

-- a rank that is in no call begins one whose bytes fit
pub op_begins : (s : Sight) (c : Private) (slot : SlotAt) (src dst : List ℕ) (op : MoreAt) (more : More) (len : ℕ) → IsBetweenMessages s c slot
    → IsFit more s.seat.rank s.seat.setup.nue len src dst → op ≡ new_more more len → Stands (taking_part s c op slot src dst)
op_begins s c slot src dst op more len free fits is =
    subst (λ (x : MoreAt). Stands (taking_part s c x slot src dst)) (sym is) ((record_in s).calls, begins s c slot more len src dst free fits)

-- the bytes of an unfinished call may be replaced by equal ones
pub op_spelled : (s : Sight) (c : Private) (slot : SlotAt) (op : MoreAt) {src from dst into : List ℕ} → from ≡ src → into ≡ dst → Stands (taking_part s c op slot src dst) → Stands (taking_part s c op slot from into)
op_spelled s c slot op {src} {from} {dst} {into} same_src same_dst st =
    subst (λ (x : List ℕ). Stands (taking_part s c op slot x into)) (sym same_src) (subst (λ (y : List ℕ). Stands (taking_part s c op slot src y)) (sym same_dst) st)

-- a rank whose call has ended is in none
pub op_ended : (s : Sight) (c d : Private) (slot after : SlotAt) (src dst : List ℕ) (op : Option MoreAt) → IsBetweenMessages s c slot → d ≡ c → after ≡ slot → op ≡ None → IsAtOp s d after src dst op
op_ended s c d slot after src dst op free core same none =
    subst (λ (x : Option MoreAt). IsAtOp s d after src dst x) (sym none)
    (subst (λ (x : SlotAt). IsBetweenMessages s d x) (sym same) (subst (λ (x : Private). IsBetweenMessages s x slot) (sym core) free))
