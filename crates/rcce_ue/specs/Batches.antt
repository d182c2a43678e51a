-- Turns of a UE in a row, each of which moved (this project's profile).
use Rattle.std.specs.Prelude.{Bool, false, is_none}
use Rattle.scc_base.specs.declared.events.Turn.TheVariants as turn
use Rattle.scc_proto.specs.Ports.{Seat, Sight}
use Rattle.send_recv.specs.Ops.{SlotAt}
use Rattle.send_recv.specs.Receiving.{recv_spot}
use Rattle.send_recv.specs.Sending.{send_spot}
use Rattle.send_recv.specs.Batches as line
use Rattle.rcce_ue.specs.Standing.{Tied}
use Rattle.rcce_ue.specs.Turns.{UeTurned}
use Rattle.rcce_ue.specs.Ues.{UeView}
use Rattle.rcce_ue.specs.declared.calls.Open.{Open}
use Rattle.rcce_ue.specs.declared.calls.Open.TheVariants.{Nothing, Sending, Receiving, Meeting}

-- the next turn writes a line of a chunk
abbrev pub writes_line_next : Open → Bool
writes_line_next Nothing = false
writes_line_next (Sending op) = line.is_writing op.stage
writes_line_next (Receiving op) = false
writes_line_next (Meeting op) = false

-- the next turn reads a line of a chunk
abbrev pub reads_line_next : Open → Bool
reads_line_next Nothing = false
reads_line_next (Sending op) = false
reads_line_next (Receiving op) = line.is_reading op.stage
reads_line_next (Meeting op) = false

-- the next turn is one of a message, and makes no try: so it does not wait
abbrev pub makes_no_try : Seat → SlotAt → Open → Bool
makes_no_try seat slot Nothing = false
makes_no_try seat slot (Sending op) = is_none (send_spot seat op slot)
makes_no_try seat slot (Receiving op) = is_none (recv_spot seat op)
makes_no_try seat slot (Meeting op) = false

-- turns in a row, each of which moved
pub data UeMoves (ue : UeView) (s : Sight) : UeView → Sight → Type 0 where
  MovedOnce : (now : UeView) (t : Sight) → UeTurned ue s now t turn.Moved → UeMoves ue s now t
  MovedOn : (mid now : UeView) (m t : Sight) → UeMoves ue s mid m → Tied mid m → UeTurned mid m now t turn.Moved → UeMoves ue s now t

-- turns in a row, after which the UE and the port fit together again
pub record BatchMoves (ue : UeView) (s : Sight) (now : UeView) (t : Sight) : Type 0 where
  pub tied : Tied now t
  pub moves : UeMoves ue s now t
