-- What a rank has done, one more primitive or call at a time.
use Rattle.std.proofs.Common.{◌≡◌, ◌≢◌, ℕ, Bool, true, false, List, [], ◌∷◌, ◌++◌, length, Option, Some, refl, sym, ap, subst}
use Rattle.scc_base.specs.Calls.{DataCall}
use Rattle.scc_base.specs.Calls.DataCall.{Send, Recv, Post, Bar}
use Rattle.scc_base.specs.Heads.{MessageHead}
use Rattle.scc_proto.specs.Messages.{Notes}
use Rattle.scc_proto.specs.Stages.{Record}
use Rattle.send_recv.specs.Receiving.{SaysHead}
use Rattle.script_machine.specs.declared.posts.Posted.{Posted}
use Rattle.script_machine.specs.Local.{Local, local_next}
use Rattle.plain_meaning.specs.Meaning.{State, next_of, next_with_calls}
use Rattle.script_machine.specs.Moves.{is_stopped}
use Rattle.script_machine.specs.Next.Next.{Ends, Goes, Posts, Sends, Recvs, Bars}
use Rattle.plain_meaning.specs.Paths.{Came}
use Rattle.plain_meaning.specs.Paths.Came.{Went, Leaves, Passed, Took, Joined}
use Rattle.script_machine.proofs.StoppedLaws.{refused_stops}
pub use Rattle.script_machine.proofs.StoppedLaws.{stopped_ends}
use Rattle.rcce_ue.specs.Standing.{Stood, state_at}
use Rattle.rcce_ue.specs.Standing.Stood.{Runs, Refused}

-- a rank where something stands next was not stopped
pub goes_on : (u : Local) → (local_next u ≡ Ends → ⊥) → is_stopped u ≡ false
goes_on u next = by (is_stopped u) refl
  where
    by : (b : Bool) → is_stopped u ≡ b → b ≡ false
    by true is = absurd (next (stopped_ends u is))
    by false is = refl

module _ (start : State) (rec : Record) (u : Local) (last : Option Posted) where
  -- a rank that was not stopped came by itself to where it is
  pub is_running : Stood start rec u last → is_stopped u ≡ false → Came next_of start (state_at u rec.calls) last
  is_running (Runs came) on = came
  is_running (Refused v from head sent take refuse header came is other noted says at stopped) on = absurd (cc)

  module _ (new : Record) (stood : Stood start rec u last) (on : is_stopped u ≡ false) where
    came_here : Came next_of start (state_at u rec.calls) last
    came_here = is_running stood on

    -- no call was finished
    pub stood_kept : new.calls ≡ rec.calls → Stood start new u last
    stood_kept same = Runs (subst (λ (calls : List DataCall). Came next_of start (state_at u calls) last) (sym same) came_here)

    -- a statement of the rank's own was done
    pub stood_went : (v : Local) → local_next u ≡ Goes v → new.calls ≡ rec.calls → Stood start new v last
    stood_went v is same =
        Runs (subst (λ (calls : List DataCall). Came next_of start (state_at v calls) last) (sym same)
        (Went (state_at u rec.calls) (state_at v rec.calls) last came_here (ap (next_with_calls rec.calls) is)))

    -- a post, a send, a receive, a barrier was finished
    pub stood_left : (message : Posted) (v : Local) → local_next u ≡ Posts message v → new.calls ≡ rec.calls ++ Post message.to message.head message.bytes ∷ [] → Stood start new v (Some message)
    stood_left message v is more =
        Runs (subst (λ (calls : List DataCall). Came next_of start (state_at v calls) (Some message)) (sym more)
        (Leaves (state_at u rec.calls) (state_at v (rec.calls ++ Post message.to message.head message.bytes ∷ [])) last message came_here (ap (next_with_calls rec.calls) is)))

    pub stood_sent : (to : ℕ) (head : MessageHead) (bytes : List ℕ) (v : Local) → local_next u ≡ Sends to head bytes v → new.calls ≡ rec.calls ++ Send to head bytes ∷ [] → Stood start new v last
    stood_sent to head bytes v is more =
        Runs (subst (λ (calls : List DataCall). Came next_of start (state_at v calls) last) (sym more)
        (Passed (state_at u rec.calls) (state_at v (rec.calls ++ Send to head bytes ∷ [])) last to head bytes came_here (ap (next_with_calls rec.calls) is)))

    pub stood_got : (from : ℕ) (head : MessageHead) (take : List ℕ → Local) (refuse : MessageHead → Local) (bytes : List ℕ) → local_next u ≡ Recvs from head take refuse
        → length bytes ≡ head.len → new.calls ≡ rec.calls ++ Recv from head bytes ∷ [] → Stood start new (take bytes) last
    stood_got from head take refuse bytes is long more =
        Runs (subst (λ (calls : List DataCall). Came next_of start (state_at (take bytes) calls) last) (sym more)
        (Took (state_at u rec.calls) last from head bytes
        (λ got. state_at (take got) (rec.calls ++ Recv from head got ∷ [])) (λ sent. state_at (refuse sent) rec.calls) long came_here (ap (next_with_calls rec.calls) is)))

    pub stood_met : (comm : ℕ) (v : Local) → local_next u ≡ Bars comm v → new.calls ≡ rec.calls ++ Bar comm ∷ [] → Stood start new v last
    stood_met comm v is more =
        Runs (subst (λ (calls : List DataCall). Came next_of start (state_at v calls) last) (sym more)
        (Joined (state_at u rec.calls) (state_at v (rec.calls ++ Bar comm ∷ [])) last comm came_here (ap (next_with_calls rec.calls) is)))

    -- a message with another head was refused
    pub stood_refused : (from : ℕ) (head sent : MessageHead) (take : List ℕ → Local) (refuse : MessageHead → Local) (header : Notes) → local_next u ≡ Recvs from head take refuse
        → sent ≢ head → new.notes from ≡ Some header → SaysHead header sent → new.calls ≡ rec.calls → Stood start new (refuse sent) last
    stood_refused from head sent take refuse header is other noted says same =
        Refused u from head sent take refuse header (subst (λ (calls : List DataCall). Came next_of start (state_at u calls) last) (sym same) came_here) is other noted says refl
        (refused_stops u from head sent take refuse is)
