-- Who has finished n barriers of a communicator has in its group only members that entered n.
use Rattle.std.proofs.Common.{◌≡◌, ℕ, suc, ◌+◌, ◌<◌, ◌≤◌, ◌==◌, Bool, true, false, if◌then◌else◌, List, [], ◌∷◌, ◌++◌, refl, arith}
use Rattle.scc_base.specs.Calls.{DataCall, Send, Recv, Post, Bar, Message}
use Rattle.scc_base.specs.Setups.{SetupView, setup_key}
use Rattle.scc_proto.specs.Messages.{barriers_of, send_to}
use Rattle.scc_proto.specs.Stages.{Stage, Idle, Drafting, Sending, Between, Taking, Barrier, Record}
use Rattle.scc_proto.specs.Singles.{IsConsistent, open_barriers}
use Rattle.scc_proto.specs.Passed.{passed_open, passed_calls, slot_of, is_received_ahead, is_gathered}
use Rattle.scc_proto.specs.Agreement.{CallsAgree}
use Rattle.scc_proto.proofs.Legality.LegalMessages.{legal_barriers}

pub barriers_of-append : (comm : ℕ) (l more : List DataCall) → barriers_of comm (l ++ more) ≡ barriers_of comm l + barriers_of comm more
barriers_of-append comm [] more = omega arith
barriers_of-append comm (Send to head bytes ∷ l) more = barriers_of-append comm l more
barriers_of-append comm (Recv from head bytes ∷ l) more = barriers_of-append comm l more
barriers_of-append comm (Post to head bytes ∷ l) more = barriers_of-append comm l more
barriers_of-append comm (Bar c ∷ l) more = counts (c == comm) (barriers_of-append comm l more)
  where
    counts : (b : Bool) → barriers_of comm (l ++ more) ≡ barriers_of comm l + barriers_of comm more
        → (if b then suc (barriers_of comm (l ++ more)) else barriers_of comm (l ++ more)) ≡ (if b then suc (barriers_of comm l) else barriers_of comm l) + barriers_of comm more
    counts true same = omega (arith, same)
    counts false same = same

-- a send is no barrier
no_barrier : (comm to : ℕ) (message : Message) (b : Bool) → barriers_of comm (if b then send_to to message ∷ [] else []) ≤ 0
no_barrier comm to message true = omega arith
no_barrier comm to message false = omega arith

one_barrier : (comm c : ℕ) (b is : Bool) → (if is then 1 else 0) ≡ barriers_of comm (Bar c ∷ []) → barriers_of comm (if b then Bar c ∷ [] else []) ≤ (if is then 1 else 0)
one_barrier comm c true is same = omega (arith, same)
one_barrier comm c false is same = omega arith

-- an open call that is passed is a barrier only where a barrier is open
pub passed_within_open : (s : SetupView) (comm me : ℕ) (stage : Stage) (records : ℕ → Record) → barriers_of comm (passed_open s me stage records) ≤ open_barriers comm stage
passed_within_open s comm me Idle records = omega arith
passed_within_open s comm me (Drafting header chunk) records = omega arith
passed_within_open s comm me (Sending to part message chunk) records = no_barrier comm to _ (is_received_ahead me to records)
passed_within_open s comm me (Between from message) records = omega arith
passed_within_open s comm me (Taking from message chunk) records = omega arith
passed_within_open s comm me (Barrier c seen released) records = one_barrier comm c (is_gathered s c me records) (c == comm) refl

-- the barriers that a rank has passed are finished, or entered
pub passed_barriers : (s : SetupView) (comm me : ℕ) (records : ℕ → Record) → IsConsistent s me (records me)
    → (barriers_of comm (records me).calls ≤ barriers_of comm (passed_calls s records me)) × (barriers_of comm (passed_calls s records me) ≤ (records me).flips comm)
passed_barriers s comm me records consistent =
    let parts = barriers_of-append comm (records me).calls (passed_open s me (records me).stage records) in
    let within = passed_within_open s comm me (records me).stage records in
    let flips = consistent.flips comm in
    (omega (arith, parts), omega (arith, parts, within, flips))

pub barriers_entered : (s : SetupView) (comm r k : ℕ) (records : ℕ → Record) → CallsAgree s records → IsConsistent s r (records r) → IsConsistent s k (records k)
    → r < s.nue → k < s.nue → setup_key s comm r ≡ setup_key s comm k → barriers_of comm (records r).calls ≤ (records k).flips comm
barriers_entered s comm r k records legal one other low_r low_k same =
    let level = legal_barriers s.nue (setup_key s) (passed_calls s records) (slot_of s records) legal comm r k low_r low_k same in
    let finished = (passed_barriers s comm r records one).0 in
    let entered = (passed_barriers s comm k records other).1 in
    omega (arith, level, finished, entered)
