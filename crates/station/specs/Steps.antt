-- What a rank does in a collective call over a communicator, step by step (RCCE specification 2.0: RCCE_bcast, RCCE_reduce,
-- RCCE_allreduce; the steps are those of the crate groups).
use Rattle.std.specs.Prelude.{◌≡◌, ℕ, Bool, true, false, List, [], ◌∷◌, ◌++◌, Option, Some, None}
use Rattle.scc_base.specs.Calls.{DataCall}
use Rattle.scc_base.specs.Calls.DataCall.{Send as CallSend, Recv as CallRecv}
use Rattle.scc_base.specs.Heads.{MessageHead}
use Rattle.groups.specs.Folds.{fold_values}
use Rattle.groups.specs.declared.collectives.Step.{Step}
use Rattle.groups.specs.declared.collectives.Step.TheVariants.{Begin, Send, Recv, Fold, Accept, Finish}
use Rattle.send_recv.specs.Ops.{RecvAt, SendAt, new_receive, new_send}
use Rattle.station.specs.declared.steps.Folding.{Folding}
use Rattle.station.specs.declared.steps.Hand.{Hand}
use Rattle.station.specs.declared.steps.Hand.TheVariants.{Between, Sending, Receiving}

-- how a rank takes part in a call: whether it is the root, how it folds, and the bytes that it hands in
pub record GroupPart : Type 0 where
  pub is_root : Bool
  pub folding : Option Folding
  pub input : List ℕ

-- a rank's part in a call
abbrev pub part_by : Bool → Option Folding → List ℕ → GroupPart
part_by root folding input = record { is_root = root; folding = folding; input = input }

-- the bytes in a rank's two buffers: the one for the result, and the one into which the root receives
pub record Held : Type 0 where
  pub output : List ℕ
  pub work : List ℕ

-- the first of two lists of bytes where the test is true, and else the second
abbrev pub one_of : Bool → (one other : List ℕ) → List ℕ
one_of true one other = one
one_of false one other = other

-- what a rank sends: the root its output, and another rank what it hands in
abbrev pub bytes_sent_by : GroupPart → Held → List ℕ
bytes_sent_by p h = one_of p.is_root h.output p.input

-- where a rank receives: the root into its work buffer, and another rank into its output
abbrev pub bytes_into : Bool → Held → List ℕ
bytes_into root h = one_of root h.work h.output

-- the buffers after these bytes were received: by the root into its work buffer, by another rank into its output
abbrev pub with_received : Bool → List ℕ → Held → Held
with_received true bytes h = record h { work = bytes }
with_received false bytes h = record h { output = bytes }

-- the output with what was received folded into it, where the call folds
abbrev pub folded_output : Option Folding → (output work : List ℕ) → List ℕ
folded_output None output work = output
folded_output (Some how) output work = fold_values how.op how.ty output work

-- what a step does: to the buffers, and which calls it makes
abbrev pub StepDoes : GroupPart → Step → (old new : Held) → List DataCall → Type 0
StepDoes p Begin old new calls = (new ≡ record old { output = p.input }) × (calls ≡ [])
StepDoes p (Send to head) old new calls = (new ≡ old) × (calls ≡ CallSend to head (bytes_sent_by p old) ∷ [])
StepDoes p (Recv from head) old new calls =
    (bytes : List ℕ) × (new ≡ with_received p.is_root bytes old) × (calls ≡ CallRecv from head bytes ∷ [])
StepDoes p Fold old new calls = (new ≡ record old { output = folded_output p.folding old.output old.work }) × (calls ≡ [])
StepDoes p Accept old new calls = (new ≡ old) × (calls ≡ [])
StepDoes p Finish old new calls = (new ≡ old) × (calls ≡ [])

-- what steps do, one after the other
abbrev pub StepsDo : GroupPart → List Step → (old new : Held) → List DataCall → Type 0
StepsDo p [] old new calls = (new ≡ old) × (calls ≡ [])
StepsDo p (step ∷ steps) old new calls = (mid : Held) × (first : List DataCall) × (rest : List DataCall) × StepDoes p step old mid first
    × StepsDo p steps mid new rest × (calls ≡ first ++ rest)

-- the send of a step: that in hand, or a new one
abbrev pub begun_send : Hand → ℕ → MessageHead → SendAt
begun_send Between to head = new_send to head false
begun_send (Sending op) to head = op
begun_send (Receiving op) to head = new_send to head false

-- the receive of a step: that in hand, or a new one
abbrev pub begun_receive : Hand → ℕ → MessageHead → RecvAt
begun_receive Between from head = new_receive from head
begun_receive (Sending op) from head = new_receive from head
begun_receive (Receiving op) from head = op
