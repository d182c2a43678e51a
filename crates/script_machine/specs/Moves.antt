-- How a rank's state changes with its next action, and the bytes that the action sends or receives (this project's profile).
-- Each is a function of the next action: if that is of another kind, the state stays and no bytes are sent or received.
use Rattle.std.specs.Prelude.{ℕ, Bool, true, false, List, [], Option, Some, None}
use Rattle.scc_base.specs.Heads.{MessageHead}
use Rattle.script_machine.specs.declared.prims.Standing.{Standing}
use Rattle.script_machine.specs.declared.prims.Standing.TheVariants as standing
use Rattle.script_machine.specs.declared.posts.InFlight.{InFlight}
use Rattle.script_machine.specs.Local.{Local}
use Rattle.script_machine.specs.Machine.{in_flight}
use Rattle.script_machine.specs.Next.{Next}
use Rattle.script_machine.specs.Next.Next.{Ends, Goes, Posts, Sends, Recvs, Bars}

-- a rank has no next action
abbrev pub is_ended : {U : Type 0} → Next U → Bool
is_ended Ends = true
is_ended (Goes after) = false
is_ended (Posts message after) = false
is_ended (Sends to head bytes after) = false
is_ended (Recvs from head take refuse) = false
is_ended (Bars comm after) = false

-- the next action is a send, a post or a barrier: a call with exactly one state after it
abbrev pub is_passable : {U : Type 0} → Next U → Bool
is_passable Ends = false
is_passable (Goes after) = false
is_passable (Posts message after) = true
is_passable (Sends to head bytes after) = true
is_passable (Recvs from head take refuse) = false
is_passable (Bars comm after) = true

-- the next action is a receive
abbrev pub is_receiving : {U : Type 0} → Next U → Bool
is_receiving Ends = false
is_receiving (Goes after) = false
is_receiving (Posts message after) = false
is_receiving (Sends to head bytes after) = false
is_receiving (Recvs from head take refuse) = true
is_receiving (Bars comm after) = false

-- the state after a local statement
abbrev pub went : {U : Type 0} → Next U → U → U
went Ends u = u
went (Goes after) u = after
went (Posts message after) u = u
went (Sends to head bytes after) u = u
went (Recvs from head take refuse) u = u
went (Bars comm after) u = u

-- the state after a send, a post or a barrier
abbrev pub after_pass : {U : Type 0} → Next U → U → U
after_pass Ends u = u
after_pass (Goes after) u = u
after_pass (Posts message after) u = after
after_pass (Sends to head bytes after) u = after
after_pass (Recvs from head take refuse) u = u
after_pass (Bars comm after) u = after

-- the state after a receive that takes these bytes
abbrev pub after_take : {U : Type 0} → Next U → List ℕ → U → U
after_take Ends bytes u = u
after_take (Goes after) bytes u = u
after_take (Posts message after) bytes u = u
after_take (Sends to head sent after) bytes u = u
after_take (Recvs from head take refuse) bytes u = take bytes
after_take (Bars comm after) bytes u = u

-- the state after a receive that met a message with another head than it asked for
abbrev pub after_refusal : {U : Type 0} → Next U → MessageHead → U → U
after_refusal Ends sent u = u
after_refusal (Goes after) sent u = u
after_refusal (Posts message after) sent u = u
after_refusal (Sends to head bytes after) sent u = u
after_refusal (Recvs from head take refuse) sent u = refuse sent
after_refusal (Bars comm after) sent u = u

-- the bytes of a send or a post
abbrev pub bytes_out : {U : Type 0} → Next U → List ℕ
bytes_out Ends = []
bytes_out (Goes after) = []
bytes_out (Posts message after) = message.bytes
bytes_out (Sends to head bytes after) = bytes
bytes_out (Recvs from head take refuse) = []
bytes_out (Bars comm after) = []

-- the message of a post, without its bytes
abbrev pub post_of : {U : Type 0} → Next U → Option InFlight
post_of Ends = None
post_of (Goes after) = None
post_of (Posts message after) = Some (in_flight message)
post_of (Sends to head bytes after) = None
post_of (Recvs from head take refuse) = None
post_of (Bars comm after) = None

-- the line of a post
abbrev pub line_out : {U : Type 0} → Next U → ℕ
line_out Ends = 0
line_out (Goes after) = 0
line_out (Posts message after) = message.line
line_out (Sends to head bytes after) = 0
line_out (Recvs from head take refuse) = 0
line_out (Bars comm after) = 0

-- how many bytes a receive asks for
abbrev pub length_asked : {U : Type 0} → Next U → ℕ
length_asked Ends = 0
length_asked (Goes after) = 0
length_asked (Posts message after) = 0
length_asked (Sends to head bytes after) = 0
length_asked (Recvs from head take refuse) = head.len
length_asked (Bars comm after) = 0

-- a mismatch stopped the rank
abbrev pub is_stopped_by : Standing → Bool
is_stopped_by standing.Running = false
is_stopped_by (standing.Mismatched line from sent asked) = true

-- a mismatch stopped the rank
abbrev pub is_stopped : Local → Bool
is_stopped u = is_stopped_by u.standing
