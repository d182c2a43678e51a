-- The calls that a rank has done on its way are the first of those that its program names, and have their bytes.
use Rattle.std.proofs.Common.{◌≡◌, ℕ, ◌<◌, List, ◌++◌, map, Option, Some, None, refl, sym, ap, ◌∙◌, subst}
use Rattle.std.specs.Prelude.{All}
use Rattle.std.proofs.lemmas.List.Elements.{All-nil, All-cons}
use Rattle.scc_base.specs.Calls.{DataCall, HasItsBytes, call_of}
use Rattle.scc_base.specs.Calls as calls
use Rattle.scc_base.specs.Setups.{SetupView}
use Rattle.scc_base.specs.declared.calls.Call.{Call}
use Rattle.scc_proto.specs.Stages.{Record}
use Rattle.script_rules.specs.Script.{Script}
use Rattle.script_rules.specs.Settled.{IsWholeScript}
use Rattle.script_machine.specs.declared.posts.Posted.{Posted}
use Rattle.script_machine.specs.CallLists.{calls_from, calls_of}
use Rattle.plain_meaning.specs.Collectives.{start_of_rank}
use Rattle.script_machine.specs.Lengths.{lengths_of}
use Rattle.script_machine.specs.Local.{Local, local_next, local_start}
use Rattle.plain_meaning.specs.Meaning.{State, next_of, next_with_calls}
use Rattle.script_machine.specs.Next.{Next}
use Rattle.script_machine.specs.Next.Next.{Ends, Goes, Posts, Sends, Recvs, Bars}
use Rattle.plain_meaning.specs.Paths.{Came, DidCalls}
use Rattle.plain_meaning.specs.Paths.Came.{Began, Went, Leaves, Passed, Took, Joined}
use Rattle.plain_meaning.specs.Paths.DidCalls.{Here, Own, Left, Sent, Got, Met}
use Rattle.plain_meaning.specs.Ready.{CanMakeNext}
use Rattle.plain_meaning.proofs.OwnWays.CallListLaws.{calls_did}
use Rattle.plain_meaning.proofs.ProgramLengths.ReadyLemmas.{ready-law}
use Rattle.rcce_run.specs.Sweep.{IsStateOfRecord}
use Rattle.rcce_run.specs.Sweep.IsStateOfRecord.{Running, Stopped}
use Rattle.log_run.specs.LogRuns.{IsOwnCall}

-- ---- what stands next at a rank, without the calls done so far

abbrev pub local_of : Next State → Next Local
local_of Ends = Ends
local_of (Goes after) = Goes after.local
local_of (Posts message after) = Posts message after.local
local_of (Sends to head bytes after) = Sends to head bytes after.local
local_of (Recvs from head take refuse) = Recvs from head (λ bytes. (take bytes).local) (λ sent. (refuse sent).local)
local_of (Bars comm after) = Bars comm after.local

recorded_local : (done : List DataCall) (n : Next Local) → local_of (next_with_calls done n) ≡ n
recorded_local done Ends = refl
recorded_local done (Goes after) = refl
recorded_local done (Posts message after) = refl
recorded_local done (Sends to head bytes after) = refl
recorded_local done (Recvs from head take refuse) = refl
recorded_local done (Bars comm after) = refl

local_is : (u : State) (n : Next State) → next_of u ≡ n → local_next u.local ≡ local_of n
local_is u n is = sym (recorded_local u.matched (local_next u.local)) ∙ ap local_of is

pub did_local : (v : State) (end : Option Posted) (u : State) (last : Option Posted) (done : List DataCall) → DidCalls next_of v end u last done → DidCalls local_next v.local end u.local last done
did_local v end u last done Here = Here
did_local v end u last done (Own a w l cs step rest) = Own a.local w.local l cs (local_is a (Goes w) step) (did_local v end w l cs rest)
did_local v end u last done (Left a w l message cs step rest) = Left a.local w.local l message cs (local_is a (Posts message w) step) (did_local v end w (Some message) cs rest)
did_local v end u last done (Sent a w l to head bytes cs step rest) = Sent a.local w.local l to head bytes cs (local_is a (Sends to head bytes w) step) (did_local v end w l cs rest)
did_local v end u last done (Got a l from head bytes take refuse cs even step rest) =
    Got a.local l from head bytes (λ taken. (take taken).local) (λ sent. (refuse sent).local) cs even (local_is a (Recvs from head take refuse) step) (did_local v end (take bytes) l cs rest)
did_local v end u last done (Met a w l comm cs step rest) = Met a.local w.local l comm cs (local_is a (Bars comm w) step) (did_local v end w l cs rest)

-- ---- the bytes of the calls on a way

ready_recorded : (script : Script) (rank : ℕ) (done : List DataCall) (n : Next Local) → CanMakeNext script rank n → CanMakeNext script rank (next_with_calls done n)
ready_recorded script rank done Ends ready = ready
ready_recorded script rank done (Goes after) ready = ready
ready_recorded script rank done (Posts message after) ready = ready
ready_recorded script rank done (Sends to head bytes after) ready = ready
ready_recorded script rank done (Recvs from head take refuse) ready = ready
ready_recorded script rank done (Bars comm after) ready = ready

module _ (script : Script) (rank : ℕ) (start : State) (ready : (u : State) (last : Option Posted) → Came next_of start u last → CanMakeNext script rank (local_next u.local)) where
  ready_at : (u : State) (last : Option Posted) (n : Next State) → Came next_of start u last → next_of u ≡ n → CanMakeNext script rank n
  ready_at u last n came is = subst (λ (x : Next State). CanMakeNext script rank x) is (ready_recorded script rank u.matched (local_next u.local) (ready u last came))

  pub calls_long : (v : State) (end : Option Posted) (u : State) (last : Option Posted) (done : List DataCall) → Came next_of start u last → DidCalls next_of v end u last done → All HasItsBytes done
  calls_long v end u last done came Here = All-nil HasItsBytes
  calls_long v end u last done came (Own a w l cs step rest) = calls_long v end w l cs (Went a w l came step) rest
  calls_long v end u last done came (Left a w l message cs step rest) =
      All-cons HasItsBytes (calls.Post message.to message.head message.bytes) cs (ready_at a l (Posts message w) came step).2
      (calls_long v end w (Some message) cs (Leaves a w l message came step) rest)
  calls_long v end u last done came (Sent a w l to head bytes cs step rest) =
      All-cons HasItsBytes (calls.Send to head bytes) cs (ready_at a l (Sends to head bytes w) came step).2
      (calls_long v end w l cs (Passed a w l to head bytes came step) rest)
  calls_long v end u last done came (Got a l from head bytes take refuse cs even step rest) =
      All-cons HasItsBytes (calls.Recv from head bytes) cs even
      (calls_long v end (take bytes) l cs (Took a l from head bytes take refuse even came step) rest)
  calls_long v end u last done came (Met a w l comm cs step rest) =
      All-cons HasItsBytes (calls.Bar comm) cs tt
      (calls_long v end w l cs (Joined a w l comm came step) rest)

  -- and each of them is one that the rank can make
  pub calls_own : (v : State) (end : Option Posted) (u : State) (last : Option Posted) (done : List DataCall) → Came next_of start u last → DidCalls next_of v end u last done → All (IsOwnCall script rank) done
  calls_own v end u last done came Here = All-nil (IsOwnCall script rank)
  calls_own v end u last done came (Own a w l cs step rest) = calls_own v end w l cs (Went a w l came step) rest
  calls_own v end u last done came (Left a w l message cs step rest) =
      All-cons (IsOwnCall script rank) (calls.Post message.to message.head message.bytes) cs (ready_at a l (Posts message w) came step)
      (calls_own v end w (Some message) cs (Leaves a w l message came step) rest)
  calls_own v end u last done came (Sent a w l to head bytes cs step rest) =
      All-cons (IsOwnCall script rank) (calls.Send to head bytes) cs (ready_at a l (Sends to head bytes w) came step)
      (calls_own v end w l cs (Passed a w l to head bytes came step) rest)
  calls_own v end u last done came (Got a l from head bytes take refuse cs even step rest) =
      let ready : CanMakeNext script rank (Recvs from head take refuse) = ready_at a l (Recvs from head take refuse) came step in
      All-cons (IsOwnCall script rank) (calls.Recv from head bytes) cs (ready.0, ready.1, even)
      (calls_own v end (take bytes) l cs (Took a l from head bytes take refuse even came step) rest)
  calls_own v end u last done came (Met a w l comm cs step rest) =
      All-cons (IsOwnCall script rank) (calls.Bar comm) cs (ready_at a l (Bars comm w) came step)
      (calls_own v end w l cs (Joined a w l comm came step) rest)

-- ---- the finished calls of a rank that stands in a run

-- they are the first of those that its program names, have their bytes, and are those that it can make
pub record AreFirst (script : Script) (rank : ℕ) (done : List DataCall) : Type 0 where
  pub rest : List Call
  pub planned : calls_of script rank ≡ map call_of done ++ rest
  pub long : All HasItsBytes done
  pub own : All (IsOwnCall script rank) done

module _ (script : Script) (rank : ℕ) (whole : IsWholeScript script.nue script.items) (within : rank < script.nue) where
  ready : (u : State) (last : Option Posted) → Came next_of (start_of_rank script rank) u last → CanMakeNext script rank (local_next u.local)
  ready = ready-law script rank whole within

  first_by : (v : State) (end : Option Posted) (done : List DataCall) → DidCalls next_of v end (start_of_rank script rank) None done → AreFirst script rank done
  first_by v end done did = record {
    rest = calls_from (lengths_of v.local) v.local.left;
    planned = calls_did v.local end (local_start script rank) None done (did_local v end (start_of_rank script rank) None done did);
    long = calls_long script rank (start_of_rank script rank) ready v end (start_of_rank script rank) None done Began did;
    own = calls_own script rank (start_of_rank script rank) ready v end (start_of_rank script rank) None done Began did;
  }

  pub are_first : (s : SetupView) (rec : Record) (u : State) (last : Option Posted) → IsStateOfRecord next_of s rank (start_of_rank script rank) rec u last → AreFirst script rank rec.calls
  are_first s rec u last (Running did) = first_by u last rec.calls did
  are_first s rec u last (Stopped before did refused) = first_by before last rec.calls did
