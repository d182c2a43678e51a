-- What turns have in common: a UE that is in the midst of a call stays there, or comes to what stands next.
use Rattle.std.proofs.Common.{◌≡◌, ℕ, ◌+◌, ◌<◌, ◌%◌, ◌&&◌, ◌||◌, Bool, true, false, List, length, Option, Some, None, refl, sym, ap, subst, ◌∙◌, inl, inr, sum_by, arith}
use Rattle.std.specs.List.{count_by, list_all}
use Rattle.std.proofs.lemmas.Bool.{true≢false}
use Rattle.scc_base.specs.Calls.{DataCall}
use Rattle.scc_base.specs.declared.events.Event.{Event}
use Rattle.scc_base.specs.declared.events.Spot.{Spot}
use Rattle.scc_base.specs.declared.events.Turn.{Turn}
use Rattle.scc_base.specs.declared.events.Turn.TheVariants as turn
use Rattle.scc_proto.specs.Ports.{Did, Seat, Sight, record_in}
use Rattle.scc_proto.specs.Resting.{is_resting}
use Rattle.scc_proto.specs.Stages.{FlagWords, Record}
use Rattle.put_get.specs.Cores.{Private}
use Rattle.send_recv.specs.Ops.{SlotAt, slot_left, slot_left_by}
use Rattle.send_recv.specs.Sending.{IsSameOrEmpty, SlotStands}
use Rattle.send_recv.specs.Steps.{moves_on}
use Rattle.send_recv.specs.Tries.{aim_at}
use Rattle.send_recv.specs.Turns.{LastHeld, OnlyTries, StoresFromBuffer}
use Rattle.sync_flags.specs.Tries.{NoTry, Failed, Fruitful, Tried}
use Rattle.sync_flags.specs.Turns.{waits_at}
use Rattle.barrier.specs.Flags.{IsParityOf}
use Rattle.plain_meaning.specs.Collectives.{start_of_rank}
use Rattle.script_machine.specs.Local.{Local, local_next}
use Rattle.script_machine.specs.Machine.{MachineView}
use Rattle.script_machine.specs.Moves.{is_ended, is_stopped}
use Rattle.script_machine.specs.Next.{Next, is_going}
use Rattle.script_machine.specs.Next.Next.{Ends, Goes, Posts, Sends, Recvs, Bars}
use Rattle.script_machine.specs.declared.posts.Posted.{Posted}
use Rattle.rcce_ue.specs.Left.{ue_left, unless}
use Rattle.rcce_ue.specs.Standing.{IsLastTarget, OpStands, Tied, bytes_sent}
use Rattle.rcce_ue.specs.Turns.{IsAfter, UeDoes, UeMeans, UeTurned, Within, is_over, ue_aim}
use Rattle.rcce_ue.specs.Ues.{IsBegun, UeView, capped_count, is_send_call}
use Rattle.rcce_ue.specs.declared.calls.Open.{Open}
use Rattle.rcce_ue.proofs.PathLemmas.{stood_kept}

-- whether a call stands next
abbrev pub is_calling : Next Local → Bool
is_calling Ends = false
is_calling (Goes after) = false
is_calling (Posts message after) = true
is_calling (Sends to head bytes after) = true
is_calling (Recvs from head take_in refuse) = true
is_calling (Bars comm after) = true

-- so the program is not at its end, and no statement of the rank's own stands next
pub not_at_end : (n : Next Local) → is_calling n ≡ true → n ≡ Ends → ⊥
not_at_end n calls same = true≢false (sym calls ∙ ap (λ (x : Next Local). is_calling x) same)

pub not_ended : (n : Next Local) → is_calling n ≡ true → is_ended n ≡ false
not_ended Ends calls = absurd (cc)
not_ended _ calls = refl

pub not_going : (n : Next Local) → is_calling n ≡ true → is_going n ≡ false
not_going (Goes after) calls = absurd (cc)
not_going _ calls = refl

-- a turn that tries for nothing waits nowhere
pub no_try : (events : List Event) (spot : Spot) → Tried None events (Some spot) → ⊥
no_try events spot (NoTry none waits) = absurd (cc)
no_try events spot (Failed at is one failed waits) = absurd (cc)
no_try events spot (Fruitful at is one failed waits) = absurd (cc)

-- a turn of a UE, by what the turn of its call was
pub turned_by : (ue : UeView) (s : Sight) (now : UeView) (t : Sight) (answer : Turn) (events : List Event) → Did s events t → UeDoes ue s now.parity ue.op (moves_on answer) t now.core
    → (now.machine.script ≡ ue.machine.script) × (now.machine.setup ≡ ue.machine.setup) × (now.machine.rank ≡ ue.machine.rank) → Tried (ue_aim s.seat ue now.parity) events (waits_at answer)
    → ((spot : Spot) → answer ≡ turn.Waiting spot → list_all is_resting events ≡ true) → OnlyTries (aim_at s.seat.setup.layout (waits_at answer)) events
    → UeMeans ue s now t answer → (record_in t).heap ≡ (record_in s).heap → StoresFromBuffer s.seat.setup ue.core events → LastHeld events ue.core.evictions now.core
    → UeTurned ue s now t answer
turned_by ue s now t answer events did does program tried rests only means heap drafts held = record {
  events = events;
  did = did;
  does = does;
  program = program;
  tried = tried;
  rests = rests;
  only = only;
  means = means;
  heap = heap;
  drafts = drafts;
  held = held;
}

-- a machine that holds something else
pub begun_at : (m : MachineView) (u : Local) → IsBegun m → IsBegun (record m { local = u })
begun_at m u begun = record { whole = begun.whole; ranks = begun.ranks; comms = begun.comms; within = begun.within }

pub parity_kept : (rec new : Record) (values : List Bool) → new.flips ≡ rec.flips → IsParityOf rec values → IsParityOf new values
parity_kept rec new values same is = λ comm low. is comm low ∙ ap (λ (flips : ℕ → ℕ). flips comm % 2) (sym same)

pub hands_kept : (rec new : Record) → new.held ≡ rec.held → ((core : ℕ) → rec.held core ≡ None) → (core : ℕ) → new.held core ≡ None
hands_kept rec new same none core = ap (λ (held : ℕ → Option FlagWords). held core) same ∙ none core

-- a slot that is emptied or keeps its target has that of the message posted last
pub target_kept : (slot after : SlotAt) (last : Option Posted) → IsSameOrEmpty slot after → IsLastTarget slot last → IsLastTarget after last
target_kept slot after last (inl none) target = inl none
target_kept slot after last (inr same) (inl none) = inl (same ∙ none)
target_kept slot after last (inr same) (inr is) = inr (same ∙ is)

-- a UE that stays at what stands next, with a record of the same calls
pub kept_tied : (ue : UeView) (s t : Sight) → Tied ue s → t.seat ≡ s.seat → is_stopped ue.machine.local ≡ false → (record_in t).calls ≡ (record_in s).calls → (record_in t).held ≡ (record_in s).held
    → (d : Private) (after : SlotAt) (parity : List Bool) (op : Open) (inbox : List ℕ) → SlotStands t.seat (record_in t) after → IsSameOrEmpty ue.slot after → IsParityOf (record_in t) parity
    → length inbox ≡ 65536 → OpStands t d after parity inbox op (local_next ue.machine.local) → Tied (record ue { core = d; slot = after; parity = parity; op = op; inbox = inbox }) t
kept_tied ue s t tied seat on calls held d after parity op inbox slot same parity_is room stands = record {
  begun = tied.begun;
  setup_is = ap (λ (x : Seat). x.setup) seat ∙ tied.setup_is;
  rank_is = ap (λ (x : Seat). x.rank) seat ∙ tied.rank_is;
  last = tied.last;
  stood = stood_kept (start_of_rank ue.machine.script ue.machine.rank) (record_in s) ue.machine.local tied.last (record_in t) tied.stood on calls;
  stands = stands;
  hands = hands_kept (record_in s) (record_in t) held tied.hands;
  slot_is = slot;
  parity_is = parity_is;
  room = room;
  posted_is = tied.posted_is;
  target = target_kept ue.slot after tied.last same tied.target;
  sent_is = tied.sent_is ∙ ap (λ (list : List DataCall). capped_count (count_by is_send_call list)) (sym calls);
  bytes_are = tied.bytes_are ∙ ap (λ (list : List DataCall). capped_count (sum_by bytes_sent list)) (sym calls);
}

-- a UE of which something is left
none_of : (a b c : Bool) → a ≡ false → b ≡ false → (a || (b && c)) ≡ false
none_of true b c one two = absurd (cc)
none_of false true c one two = absurd (cc)
none_of false false c one two = refl

pub not_over : (ue : UeView) → is_stopped ue.machine.local ≡ false → is_ended (local_next ue.machine.local) ≡ false → is_over ue ≡ false
not_over ue on next = none_of (is_stopped ue.machine.local) (is_ended (local_next ue.machine.local)) _ on next

pub unless_falls : (b : Bool) (n m : ℕ) → b ≡ false → n < m → unless b n < unless b m
unless_falls true n m on less = absurd (cc)
unless_falls false n m on less = less

pub unless_one : (b : Bool) (n m : ℕ) → b ≡ false → n ≡ m + 1 → unless b n ≡ unless b m + 1
unless_one true n m on one = absurd (cc)
unless_one false n m on one = one

-- a turn within a call: one turn fewer is left
one_fewer : (n m : ℕ) → m ≡ n + 1 → n < m
one_fewer n m is = omega (arith, is)

pub moved_within : (ue now : UeView) (s t : Sight) → is_stopped ue.machine.local ≡ false → is_ended (local_next ue.machine.local) ≡ false → now.machine ≡ ue.machine → ue_left ue ≡ ue_left now + 1
    → UeMeans ue s now t turn.Moved
moved_within ue now s t on next same one =
    (one_fewer (ue_left now) (ue_left ue) one, not_over ue on next, Within same one)

-- what stands next is behind
pub after_by : (u v : Local) (n : Next Local) → local_next u ≡ n → IsAfter n v → IsAfter (local_next u) v
after_by u v n is afterwards = subst (λ (x : Next Local). IsAfter x v) (sym is) afterwards

pub unless_below : (b : Bool) (n m : ℕ) → b ≡ false → n < m → n < unless b m
unless_below true n m on less = absurd (cc)
unless_below false n m on less = less

pub empty_left : (slot : SlotAt) → slot.to ≡ None → slot_left slot ≡ 0
empty_left slot none = ap (λ (o : Option ℕ). slot_left_by o slot.seen) none
