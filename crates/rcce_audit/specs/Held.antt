-- Logs whose calls are held elsewhere, without their bytes, which stand one after the other.
use Rattle.std.specs.Prelude.{ℕ, List, [], ◌∷◌, drop, map, take}
use Rattle.scc_base.specs.Calls.{DataCall, Send, Recv, Post, Bar}
pub use Rattle.scc_base.specs.Calls.{bytes_asked as bytes_in}
use Rattle.scc_base.specs.declared.calls.Call.{Call}
use Rattle.scc_base.specs.declared.calls.Call.TheVariants as call
use Rattle.rcce_audit.specs.declared.held.CallList.{CallList}
use Rattle.rcce_audit.specs.declared.held.HeldLog.{HeldLog}
use Rattle.rcce_audit.specs.Logs.{LogView}
use Rattle.rcce_audit.specs.Texts.{log_text}

-- the call with these bytes
abbrev pub call_with_bytes : Call → List ℕ → DataCall
call_with_bytes (call.Send to head) bytes = Send to head bytes
call_with_bytes (call.Recv from head) bytes = Recv from head bytes
call_with_bytes (call.Post to head) bytes = Post to head bytes
call_with_bytes (call.Bar comm) bytes = Bar comm

-- calls, each with its bytes from the front of those that are left
abbrev pub calls_with_bytes : List Call → List ℕ → List DataCall
calls_with_bytes [] bytes = []
calls_with_bytes (call ∷ calls) bytes =
    call_with_bytes call (take (bytes_in call) bytes) ∷ calls_with_bytes calls (drop (bytes_in call) bytes)

-- the calls of a rank that are held, each with its bytes
abbrev pub held_calls : CallList → List DataCall
held_calls list = calls_with_bytes list.calls.now list.bytes.now

-- the log that is held
abbrev pub held_view : HeldLog → LogView
held_view log = record { nue = log.nue; comms = log.comms; lists = map held_calls log.lists }

-- the text of the log that is held
abbrev pub held_text : HeldLog → List ℕ
held_text log = log_text (held_view log)
