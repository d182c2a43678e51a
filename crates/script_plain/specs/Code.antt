-- Words of the contracts inside the crate.
use Rattle.std.specs.Prelude.{◌≡◌, ℕ, ◌<◌, ◌==◌, Bool, ◌&&◌, not, true, false, if◌then◌else◌, List, Option, Some, None, ◌++◌, length, slice_get, slice_index_or, sum_by}
use Rattle.std.specs.Option.{option_map_or}
use Rattle.scc_base.specs.Groups.{is_with, root_in}
use Rattle.scc_base.specs.Heads.{MessageHead}
use Rattle.scc_base.specs.Setups.{SetupView}
use Rattle.scc_base.specs.declared.calls.Call.{Call}
use Rattle.scc_base.specs.declared.calls.Call.TheVariants as call
use Rattle.script_machine.specs.declared.posts.Posted.{Posted}
use Rattle.script_plain.specs.declared.steps.Step.{Step}
use Rattle.script_plain.specs.declared.steps.Step.TheVariants as step
use Rattle.script_plain.specs.declared.matches.Match.{Match}
use Rattle.script_machine.specs.Local.{Local, most_steps_left, local_next, statement_line}
use Rattle.script_plain.specs.Matches.{messages_brought, step_brought}
use Rattle.script_machine.specs.Next.{Next, call_next, is_going}
use Rattle.script_machine.specs.Next.Next.{Ends, Goes, Posts, Sends, Recvs, Bars}
use Rattle.plain_meaning.specs.Step.{Configuration, same_head, all_at_barrier, step_of, lowest_step, run_on}

-- a setup with as many ranks as these, each with a slot, and with sixteen communicators
pub record IsSetupOfUes (setup : SetupView) (ues : List Local) (slots : List (Option Posted)) : Type 0 where
  pub ranks : length ues ≡ setup.nue
  pub slotted : length slots ≡ setup.nue
  pub sixteen : length setup.comms ≡ 16

-- the configuration of these ranks with these slots
abbrev pub config : List Local → List (Option Posted) → Configuration Local
config cells slots = record { cells = cells; slots = slots }

-- what stands next is a post; this message was posted, and this is the state after it
abbrev pub IsAtPost : Next Local → Type 0
IsAtPost Ends = ⊥
IsAtPost (Goes after) = ⊥
IsAtPost (Posts message after) = Unit {0}
IsAtPost (Sends to head bytes after) = ⊥
IsAtPost (Recvs from head take refuse) = ⊥
IsAtPost (Bars comm after) = ⊥

-- a rank went past the post that stood next, and left this message behind
abbrev pub HasPosted : Next Local → Posted → Local → Type 0
HasPosted Ends posted new = ⊥
HasPosted (Goes after) posted new = ⊥
HasPosted (Posts message after) posted new = (posted ≡ message) × (new ≡ after)
HasPosted (Sends to head bytes after) posted new = ⊥
HasPosted (Recvs from head take refuse) posted new = ⊥
HasPosted (Bars comm after) posted new = ⊥

-- what stands next is a send; these bytes were sent, and this is the state after it
abbrev pub IsAtSend : Next Local → Type 0
IsAtSend Ends = ⊥
IsAtSend (Goes after) = ⊥
IsAtSend (Posts message after) = ⊥
IsAtSend (Sends to head bytes after) = Unit {0}
IsAtSend (Recvs from head take refuse) = ⊥
IsAtSend (Bars comm after) = ⊥

-- a rank went past the send that stood next, whose bytes these are
abbrev pub HasSent : Next Local → List ℕ → Local → Type 0
HasSent Ends sent new = ⊥
HasSent (Goes after) sent new = ⊥
HasSent (Posts message after) sent new = ⊥
HasSent (Sends to head bytes after) sent new = (sent ≡ bytes) × (new ≡ after)
HasSent (Recvs from head take refuse) sent new = ⊥
HasSent (Bars comm after) sent new = ⊥

-- the bytes that were sent are as many as the head of the send says
abbrev pub HasLength : Next Local → List ℕ → Type 0
HasLength Ends sent = ⊥
HasLength (Goes after) sent = ⊥
HasLength (Posts message after) sent = ⊥
HasLength (Sends to head bytes after) sent = length sent ≡ head.len
HasLength (Recvs from head take refuse) sent = ⊥
HasLength (Bars comm after) sent = ⊥

-- what stands next is a receive; the state after taking these bytes, or after refusing this head
abbrev pub IsAtReceive : Next Local → Type 0
IsAtReceive Ends = ⊥
IsAtReceive (Goes after) = ⊥
IsAtReceive (Posts message after) = ⊥
IsAtReceive (Sends to head bytes after) = ⊥
IsAtReceive (Recvs from head take refuse) = Unit {0}
IsAtReceive (Bars comm after) = ⊥

-- a rank went past the receive that stood next, with these bytes
abbrev pub HasTaken : Next Local → List ℕ → Local → Type 0
HasTaken Ends bytes new = ⊥
HasTaken (Goes after) bytes new = ⊥
HasTaken (Posts message after) bytes new = ⊥
HasTaken (Sends to head sent after) bytes new = ⊥
HasTaken (Recvs from head take refuse) bytes new = new ≡ take bytes
HasTaken (Bars comm after) bytes new = ⊥

-- a rank was stopped at the receive that stood next, by a message with this head
abbrev pub HasRefused : Next Local → MessageHead → Local → Type 0
HasRefused Ends sent new = ⊥
HasRefused (Goes after) sent new = ⊥
HasRefused (Posts message after) sent new = ⊥
HasRefused (Sends to head bytes after) sent new = ⊥
HasRefused (Recvs from head take refuse) sent new = new ≡ refuse sent
HasRefused (Bars comm after) sent new = ⊥

-- the call at which a rank stands
abbrev pub call_of_rank : List Local → ℕ → Option Call
call_of_rank ues rank = call_next (option_map_or local_next (slice_get ues rank) Ends)

-- a post waits while the slot has an earlier message
abbrev pub post_decision : Option Posted → Step
post_decision None = step.Posts
post_decision (Some earlier) = step.Stays

-- a send of rank i matches where its slot is empty and the other rank stands at a receive from i with the same head
abbrev pub match_decision : ℕ → ℕ → MessageHead → Option Posted → Option Call → Step
match_decision i to head None (Some (call.Recv from asked)) =
    if (from == i) && same_head head asked then step.Matches to else step.Stays
match_decision i to head None None = step.Stays
match_decision i to head None (Some (call.Post other asked)) = step.Stays
match_decision i to head None (Some (call.Send other asked)) = step.Stays
match_decision i to head None (Some (call.Bar comm)) = step.Stays
match_decision i to head (Some earlier) other = step.Stays

-- a receive of rank i takes the message in the sender's slot if it is for i, and refuses it if it has another head
abbrev pub fetch_decision : ℕ → ℕ → MessageHead → ℕ → MessageHead → Step
fetch_decision i from asked to sent =
    if to == i then (if same_head sent asked then step.Takes from else step.Mismatches sent) else step.Stays

-- a receive of rank i, by the sender's slot, and by the sender's own call where the slot is empty: that send takes the step
-- where the heads are the same, and is refused where they are not
abbrev pub receive_decision : ℕ → ℕ → MessageHead → Option Posted → Option Call → Step
receive_decision i from asked (Some message) other = fetch_decision i from asked message.to message.head
receive_decision i from asked None (Some (call.Send to head)) =
    if (to == i) && not (same_head head asked) then step.Mismatches head else step.Stays
receive_decision i from asked None None = step.Stays
receive_decision i from asked None (Some (call.Post to head)) = step.Stays
receive_decision i from asked None (Some (call.Recv other head)) = step.Stays
receive_decision i from asked None (Some (call.Bar comm)) = step.Stays

-- a barrier of rank i is passed where i is the first of its group and all of the group stand at it
abbrev pub barrier_decision : (ℕ → ℕ → ℕ) → List Local → ℕ → ℕ → Step
barrier_decision keys ues i comm =
    if (root_in (keys comm) i == i) && all_at_barrier local_next comm (is_with (keys comm) i) ues
    then step.Passes comm
    else step.Stays

-- the step that rank i owns, by the call at which it stands
abbrev pub call_decision : (ℕ → ℕ → ℕ) → List Local → List (Option Posted) → ℕ → Option Call → Step
call_decision keys ues slots i None = step.Stays
call_decision keys ues slots i (Some (call.Post to head)) = post_decision (slice_index_or slots i None)
call_decision keys ues slots i (Some (call.Send to head)) =
    match_decision i to head (slice_index_or slots i None) (call_of_rank ues to)
call_decision keys ues slots i (Some (call.Recv from head)) =
    receive_decision i from head (slice_index_or slots from None) (call_of_rank ues from)
call_decision keys ues slots i (Some (call.Bar comm)) = barrier_decision keys ues i comm

-- the step that rank i owns: its own statement, or what its call decides
abbrev pub decision : (ℕ → ℕ → ℕ) → List Local → List (Option Posted) → ℕ → Step
decision keys ues slots i =
    if is_going (option_map_or local_next (slice_get ues i) Ends)
    then step.Goes
    else call_decision keys ues slots i (call_of_rank ues i)

-- rank i's step was taken, or it owns none
abbrev pub StepsAt : (ℕ → ℕ → ℕ) → Bool → ℕ → Configuration Local → Configuration Local → Type 0
StepsAt keys true i old new = step_of keys local_next old i ≡ Some new
StepsAt keys false i old new = (step_of keys local_next old i ≡ None) × (new ≡ old)

-- no rank stands at a statement of its own
abbrev pub IsNoneGoing : List Local → Type 0
IsNoneGoing ues = (i : ℕ) (u : Local) → slice_get ues i ≡ Some u → is_going (local_next u) ≡ false

-- a run goes on from `old` to `new`: it comes to the same end from both, and fewer steps are left behind `new`
pub record IsOnTheWay (keys : ℕ → ℕ → ℕ) (old new : Configuration Local) : Type 0 where
  pub same_end : run_on keys local_next (sum_by most_steps_left new.cells) new
      ≡ run_on keys local_next (sum_by most_steps_left old.cells) old
  pub less : sum_by most_steps_left new.cells < sum_by most_steps_left old.cells

-- steps were taken on the way to the same end, or nothing was done
abbrev pub Moves : (ℕ → ℕ → ℕ) → Bool → Configuration Local → Configuration Local → Type 0
Moves keys true old new = IsOnTheWay keys old new
Moves keys false old new = new ≡ old

-- steps were taken on the way to the same end, or nothing was done, since rank i owns no enabled step
abbrev pub GoesOn : (ℕ → ℕ → ℕ) → Bool → ℕ → Configuration Local → Configuration Local → Type 0
GoesOn keys true i old new = IsOnTheWay keys old new
GoesOn keys false i old new = (step_of keys local_next old i ≡ None) × (new ≡ old)

-- steps were taken on the way to the same end, or nothing was done, since none of the first n ranks owns an enabled step
abbrev pub Sweeps : (ℕ → ℕ → ℕ) → Bool → ℕ → Configuration Local → Configuration Local → Type 0
Sweeps keys true n old new = IsOnTheWay keys old new
Sweeps keys false n old new = ((k : ℕ) → k < n → step_of keys local_next old k ≡ None) × (new ≡ old)

-- rank i's step was taken, and what it brings stands behind what came before; or it owns none. Seven parameters: the keys of
-- the groups, whether there was a step, whose it was, and the states and the matches before and after.
abbrev pub BringsAt : (ℕ → ℕ → ℕ) → Bool → ℕ → Configuration Local → Configuration Local → List Match → List Match → Type 0
BringsAt keys true i old new before after =
    (step_of keys local_next old i ≡ Some new) × (after ≡ before ++ messages_brought local_next statement_line old i)
BringsAt keys false i old new before after = (step_of keys local_next old i ≡ None) × (new ≡ old) × (after ≡ before)

-- the enabled step with the lowest owner was taken, and what it brings stands behind what came before; or none is enabled
abbrev pub BringsLowest : (ℕ → ℕ → ℕ) → Bool → Configuration Local → Configuration Local → List Match → List Match → Type 0
BringsLowest keys true old new before after =
    (lowest_step keys local_next old ≡ Some new) × (after ≡ before ++ step_brought keys local_next statement_line old)
BringsLowest keys false old new before after = (lowest_step keys local_next old ≡ None) × (new ≡ old) × (after ≡ before)
