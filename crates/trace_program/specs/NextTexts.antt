-- What `rccetrace` says of what a record allows next (this project's profile).
use Rattle.std.specs.Prelude.{ℕ, List, [], ◌∷◌, ◌++◌, codes, decimal, Option, Some, None}
use Rattle.rcce_io.specs.Sending.{joined_texts}
use Rattle.rank_monitor.specs.declared.next.NextEvent.{NextEvent}
use Rattle.rank_monitor.specs.declared.next.NextEvent.TheVariants as next
use Rattle.rank_monitor.specs.declared.next.NextStore.{NextStore}
use Rattle.rank_monitor.specs.declared.next.NextStore.TheVariants as may

-- a text with a number in it
abbrev pub text_round : (before : List ℕ) → ℕ → (after : List ℕ) → List ℕ
text_round before number after = joined_texts (before ∷ decimal number ∷ after ∷ [])

-- the stores that messages and barriers allow
abbrev pub store_text : NextStore → List ℕ
store_text may.Begin =
    codes "it may write its header and its chunk, lower sent of a rank whose header it has read, enter a barrier or write to the heap"
store_text (may.BesidePost to) =
    text_round (codes "beside its post to rank ") to
    (codes " it may lower sent of a rank whose header it has read, enter a barrier or write to the heap")
store_text may.Draft = codes "it may write its header and its chunk, and raise sent once both are whole"
store_text may.Raise = codes "it may raise sent, or write its header and its chunk again"
store_text (may.FillFirst to) =
    text_round (codes "it may write its next chunk, raise sent to rank ") to (codes " once that is whole, or write to the heap first")
store_text (may.Fill to) = text_round (codes "it may write its next chunk, and raise sent to rank ") to (codes " once that is whole")
store_text (may.RaiseMore to) = text_round (codes "it may raise sent to rank ") to (codes ", or write its chunk again")
store_text (may.SeeReady by) = text_round (codes "it may write nothing before it has seen ready of rank ") by []
store_text (may.LowerReady by) = text_round (codes "it may lower ready of rank ") by []
store_text (may.SeeSent from) = text_round (codes "it may lower sent of rank ") from (codes " once it has seen it, or write to the heap")
store_text (may.LowerSent from) = text_round (codes "it may lower sent of rank ") from (codes ", or write to the heap")
store_text (may.ReadChunk from) = text_round (codes "it may raise ready to rank ") from (codes " once it has read the whole chunk")
store_text (may.RaiseReady to) = text_round (codes "it may raise ready to rank ") to []
store_text (may.Meet comm) =
    text_round (codes "it may write the releases of its barrier in communicator ") comm
    (codes ", as its root, once it has seen all gathers")

-- the `ready` of a post, which may be lowered beside them
abbrev pub ready_text : Option ℕ → List ℕ
ready_text None = []
ready_text (Some by) = text_round (codes ", or lower ready of rank ") by []

-- what a record allows in place of an event that it does not permit
abbrev pub next_text : NextEvent → List ℕ
next_text next.FreeRegister = codes "it holds that register, and may free it"
next_text next.TakeRegister = codes "it does not hold that register, and may take it"
next_text next.LoadFlags = codes "it may change flags there once it holds that core's register and has loaded them"
next_text (next.Stores store ready) = store_text store ++ ready_text ready
