-- How a log is held: as calls that own their bytes, a list a rank.
use Rattle.std.specs.Prelude.{List, map, Vec}
use Rattle.scc_base.specs.Calls.{DataCall, Send, Recv, Post, Bar}
use Rattle.std.specs.declared.alloc.Global.{Global}
use Rattle.rcce_audit.specs.Grammar.{RankedCall}
use Rattle.rcce_audit.specs.declared.lines.RankCall.{RankCall}
use Rattle.rcce_audit.specs.declared.logs.LogCall.{LogCall}
use Rattle.rcce_audit.specs.declared.logs.LogCall.TheVariants as call

-- the call with its bytes
abbrev pub data_of : LogCall → DataCall
data_of (call.Send to head bytes) = Send to head bytes
data_of (call.Recv from head bytes) = Recv from head bytes
data_of (call.Post to head bytes) = Post to head bytes
data_of (call.Bar comm) = Bar comm

-- the calls of a list, each with its bytes
abbrev pub data_list : List LogCall → List DataCall
data_list calls = map data_of calls

-- the lists of the ranks
abbrev pub data_lists : List (Vec LogCall Global) → List (List DataCall)
data_lists lists = map (λ list. data_list list.items) lists

-- the call with its rank
abbrev pub ranked_of : RankCall → RankedCall
ranked_of ranked = record { rank = ranked.rank; call = data_of ranked.call }
