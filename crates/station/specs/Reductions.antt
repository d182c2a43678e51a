-- What a broadcast and a reduction make and leave at a rank (RCCE specification 2.0: RCCE_bcast, RCCE_reduce, RCCE_allreduce; that
-- they go through the root, in rank order, is this project's profile).
use Rattle.std.specs.Prelude.{◌≡◌, ℕ, ◌<◌, ◌==◌, Bool, true, false, List, [], ◌∷◌, ◌++◌, length, map, slice_index}
use Rattle.scc_base.specs.Calls.{DataCall}
use Rattle.scc_base.specs.Calls.DataCall.{Send as CallSend, Recv as CallRecv}
use Rattle.scc_base.specs.Heads.{MessageHead}
use Rattle.scc_base.specs.Setups.{members_of, place_of}
use Rattle.scc_base.specs.declared.kinds.Kind.TheVariants as kind
use Rattle.scc_proto.specs.Ports.{Seat, Sight, record_in}
use Rattle.groups.specs.Collectives.{comm_of, head_of_kind, len_of, others_of, root_place}
use Rattle.groups.specs.Folds.{fold_of}
use Rattle.groups.specs.declared.collectives.Coll.{Coll}
use Rattle.station.specs.Groups.{GroupStart}
use Rattle.station.specs.Steps.{Held}
use Rattle.station.specs.declared.steps.Folding.{Folding}

-- a collective call as a rank of a seat makes it, with the bytes that it hands in
pub record GroupCall : Type 0 where
  pub seat : Seat
  pub coll : Coll
  pub input : List ℕ

-- a rank's collective call
abbrev pub group_call : Seat → Coll → List ℕ → GroupCall
group_call seat coll input = record { seat = seat; coll = coll; input = input }

-- whether the rank is the root of the call
abbrev pub is_root_of : GroupCall → Bool
is_root_of c = place_of c.seat.setup (comm_of c.coll) c.seat.rank == root_place c.coll

-- the rank of the root
abbrev pub root_rank : GroupCall → ℕ
root_rank c = slice_index (members_of c.seat.setup (comm_of c.coll) c.seat.rank) (root_place c.coll)

-- the ranks of the others, in order
abbrev pub other_ranks : GroupCall → List ℕ
other_ranks c = others_of c.seat.setup (comm_of c.coll) c.seat.rank (root_place c.coll)

-- a message of these bytes to each of these ranks, in order
abbrev pub sends_to : MessageHead → List ℕ → (to : List ℕ) → List DataCall
sends_to head bytes to = map (λ r. CallSend r head bytes) to

-- the receives of a message from each of these ranks, in order, with the bytes that it sent
abbrev pub receives_from : MessageHead → (from : List ℕ) → (pieces : List (List ℕ)) → List DataCall
receives_from head [] pieces = []
receives_from head (r ∷ from) [] = []
receives_from head (r ∷ from) (bytes ∷ pieces) = CallRecv r head bytes ∷ receives_from head from pieces

-- the record has gained calls of which this holds
abbrev pub GainsCalls : Sight → Sight → (List DataCall → Type 0) → Type 0
GainsCalls s t Holds = (calls : List DataCall) × ((record_in t).calls ≡ (record_in s).calls ++ calls) × Holds calls

-- the record has gained calls since the call began, of which this holds
abbrev pub GainsSince : GroupStart → Sight → (List DataCall → Type 0) → Type 0
GainsSince start t Holds = (calls : List DataCall) × ((record_in t).calls ≡ start.calls ++ calls) × Holds calls

-- the messages of a broadcast of these bytes, at the root and at another rank
abbrev pub bcast_by : Bool → GroupCall → List ℕ → List DataCall
bcast_by true c bytes = sends_to (head_of_kind kind.Bcast (comm_of c.coll) (len_of c.coll)) bytes (other_ranks c)
bcast_by false c bytes = CallRecv (root_rank c) (head_of_kind kind.Bcast (comm_of c.coll) (len_of c.coll)) bytes ∷ []

-- the messages of a broadcast of these bytes: the root's to each of the others, and that one at each other
abbrev pub bcast_calls : GroupCall → List ℕ → List DataCall
bcast_calls c bytes = bcast_by (is_root_of c) c bytes

-- the root has received a piece from each of the others, by these calls, and its result is the fold of its own with theirs
pub record HasFolded (how : Folding) (head : MessageHead) (c : GroupCall) (result : List ℕ) (calls : List DataCall) : Type 0 where
  pub pieces : List (List ℕ)
  pub each : length pieces ≡ length (other_ranks c)
  pub calls_are : calls ≡ receives_from head (other_ranks c) pieces
  pub result_is : result ≡ fold_of how.op how.ty c.input pieces

-- what a reduction does at the root and at another rank
abbrev pub ReduceBy : Bool → Folding → GroupCall → (old new : Held) → List DataCall → Type 0
ReduceBy true how c old new calls = HasFolded how (head_of_kind kind.Reduce (comm_of c.coll) (len_of c.coll)) c new.output calls
ReduceBy false how c old new calls =
    (new ≡ old) × (calls ≡ CallSend (root_rank c) (head_of_kind kind.Reduce (comm_of c.coll) (len_of c.coll)) c.input ∷ [])

-- what a reduction does: the root folds what the others send into its output, and another rank sends what it hands in
abbrev pub ReduceDoes : Folding → GroupCall → (old new : Held) → List DataCall → Type 0
ReduceDoes how c old new calls = ReduceBy (is_root_of c) how c old new calls

-- member 0 has folded what the others sent, and has sent each of them the result
pub record HasShared (how : Folding) (c : GroupCall) (result : List ℕ) (calls : List DataCall) : Type 0 where
  pub up : List DataCall
  pub gathers : HasFolded how (head_of_kind kind.AllUp (comm_of c.coll) (len_of c.coll)) c result up
  pub calls_are : calls ≡ up ++ sends_to (head_of_kind kind.AllDown (comm_of c.coll) (len_of c.coll)) result (other_ranks c)

-- what a reduction to all does at member 0 and at another rank
abbrev pub AllreduceBy : Bool → Folding → GroupCall → (old new : Held) → List DataCall → Type 0
AllreduceBy true how c old new calls = HasShared how c new.output calls
AllreduceBy false how c old new calls = (new.work ≡ old.work)
    × (calls ≡ CallSend (root_rank c) (head_of_kind kind.AllUp (comm_of c.coll) (len_of c.coll)) c.input
    ∷ CallRecv (root_rank c) (head_of_kind kind.AllDown (comm_of c.coll) (len_of c.coll)) new.output ∷ [])

-- what a reduction to all does: member 0 folds and shares; another rank sends what it hands in, and receives the result
abbrev pub AllreduceDoes : Folding → GroupCall → (old new : Held) → List DataCall → Type 0
AllreduceDoes how c old new calls = AllreduceBy (is_root_of c) how c old new calls

-- ---- the calls of all ranks

-- the call as another rank of the run makes it, which hands in nothing
abbrev pub call_at_rank : Seat → Coll → ℕ → GroupCall
call_at_rank seat coll r = group_call (record seat { rank = r }) coll []

-- each rank has made this broadcast in its group, and nothing else, and holds what its messages brought
abbrev pub HaveTold : Seat → Coll → (held : ℕ → List ℕ) → (calls : ℕ → List DataCall) → Type 0
HaveTold seat coll held calls = (r : ℕ) → r < seat.setup.nue → calls r ≡ bcast_calls (call_at_rank seat coll r) (held r)
