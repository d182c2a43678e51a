-- What a rank has done by itself, told from its front and from its end; and the calls that its state has are those on its way.
use Rattle.std.proofs.Common.{◌≡◌, List, [], ◌∷◌, ◌++◌, Option, Some, None, sym, ap, ◌∙◌, subst, append_assoc}
use Rattle.std.proofs.lemmas.List.{append-nil}
use Rattle.scc_base.specs.Calls.{DataCall}
use Rattle.scc_base.specs.Calls.DataCall.{Send, Recv, Post, Bar}
use Rattle.script_machine.specs.declared.posts.Posted.{Posted}
use Rattle.script_machine.specs.Local.{local_next}
use Rattle.plain_meaning.specs.Meaning.{State, next_of}
use Rattle.script_machine.specs.Next.{Next}
use Rattle.script_machine.specs.Next.Next.{Goes, Posts, Sends, Recvs, Bars}
use Rattle.plain_meaning.specs.Paths.{DidCalls, Came}
use Rattle.plain_meaning.specs.Paths.DidCalls.{Here, Own, Left, Sent, Got, Met}
use Rattle.plain_meaning.specs.Paths.Came.{Began, Went, Leaves, Passed, Took, Joined}
use Rattle.plain_meaning.proofs.Messages.MessageLaws.{Logs, logs}

-- one path after another
pub did_more : {U : Type 0} (next : U → Next U) (v w : U) (end final : Option Posted) (more : List DataCall) (u : U) (last : Option Posted) (calls : List DataCall)
    → DidCalls next v end u last calls → DidCalls next w final v end more → DidCalls next w final u last (calls ++ more)
did_more next v w end final more u last calls Here rest = rest
did_more next v w end final more u last calls (Own a b l cs step did) rest = Own a b l (cs ++ more) step (did_more next v w end final more b l cs did rest)
did_more next v w end final more u last calls (Left a b l message cs step did) rest =
    Left a b l message (cs ++ more) step (did_more next v w end final more b (Some message) cs did rest)
did_more next v w end final more u last calls (Sent a b l to head bytes cs step did) rest =
    Sent a b l to head bytes (cs ++ more) step (did_more next v w end final more b l cs did rest)
did_more next v w end final more u last calls (Got a l from head bytes take refuse cs even step did) rest =
    Got a l from head bytes take refuse (cs ++ more) even step (did_more next v w end final more (take bytes) l cs did rest)
did_more next v w end final more u last calls (Met a b l comm cs step did) rest =
    Met a b l comm (cs ++ more) step (did_more next v w end final more b l cs did rest)

-- a path that grew at its end is a path from its front
pub came_did : {U : Type 0} (next : U → Next U) (start : U) (u : U) (last : Option Posted) → Came next start u last
    → (calls : List DataCall) × DidCalls next u last start None calls
came_did next start u last Began = ([], Here)
came_did next start u last (Went a b l came step) =
    let (calls, did) = came_did next start a l came in
    (calls ++ [], did_more next a b l l [] start None calls did (Own a b l [] step Here))
came_did next start u last (Leaves a b l message came step) =
    let (calls, did) = came_did next start a l came in
    (calls ++ Post message.to message.head message.bytes ∷ [], did_more next a b l (Some message) _ start None calls did (Left a b l message [] step Here))
came_did next start u last (Passed a b l to head bytes came step) =
    let (calls, did) = came_did next start a l came in
    (calls ++ Send to head bytes ∷ [], did_more next a b l l _ start None calls did (Sent a b l to head bytes [] step Here))
came_did next start u last (Took a l from head bytes take refuse even came step) =
    let (calls, did) = came_did next start a l came in
    (calls ++ Recv from head bytes ∷ [], did_more next a (take bytes) l l _ start None calls did (Got a l from head bytes take refuse [] even step Here))
came_did next start u last (Joined a b l comm came step) =
    let (calls, did) = came_did next start a l came in
    (calls ++ Bar comm ∷ [], did_more next a b l l _ start None calls did (Met a b l comm [] step Here))

-- what the calls of a state are once this stands next and was done
pub logged : (u : State) (n : Next State) → next_of u ≡ n → Logs u.matched n
logged u n is = subst (Logs u.matched) is (logs u.matched (local_next u.local))

-- the calls of the state at the end of a path are those of the state at its front, and those on it
pub did_matched : (v : State) (end : Option Posted) (u : State) (last : Option Posted) (calls : List DataCall) → DidCalls next_of v end u last calls
    → v.matched ≡ u.matched ++ calls
did_matched v end u last calls Here = sym (append-nil v.matched)
did_matched v end u last calls (Own a b l cs step did) =
    did_matched v end b l cs did ∙ ap (λ (xs : List DataCall). xs ++ cs) (logged a (Goes b) step)
did_matched v end u last calls (Left a b l message cs step did) =
    let call : DataCall = Post message.to message.head message.bytes in
    did_matched v end b (Some message) cs did ∙ ap (λ (xs : List DataCall). xs ++ cs) (logged a (Posts message b) step) ∙ append_assoc a.matched (call ∷ []) cs
did_matched v end u last calls (Sent a b l to head bytes cs step did) =
    did_matched v end b l cs did ∙ ap (λ (xs : List DataCall). xs ++ cs) (logged a (Sends to head bytes b) step) ∙ append_assoc a.matched (Send to head bytes ∷ []) cs
did_matched v end u last calls (Got a l from head bytes take refuse cs even step did) =
    did_matched v end (take bytes) l cs did ∙ ap (λ (xs : List DataCall). xs ++ cs) ((logged a (Recvs from head take refuse) step).0 bytes)
    ∙ append_assoc a.matched (Recv from head bytes ∷ []) cs
did_matched v end u last calls (Met a b l comm cs step did) =
    did_matched v end b l cs did ∙ ap (λ (xs : List DataCall). xs ++ cs) (logged a (Bars comm b) step) ∙ append_assoc a.matched (Bar comm ∷ []) cs

-- so a state that was come to from a start with no calls has the calls of its path
pub came_matched : (start u : State) (last : Option Posted) → start.matched ≡ [] → Came next_of start u last → DidCalls next_of u last start None u.matched
came_matched start u last none came =
    let (calls, did) = came_did next_of start u last came in
    let same : u.matched ≡ calls = did_matched u last start None calls did ∙ ap (λ (xs : List DataCall). xs ++ calls) none in
    subst (DidCalls next_of u last start None) (sym same) did
