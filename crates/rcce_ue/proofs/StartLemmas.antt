-- A UE before its first turn.
use Rattle.std.proofs.Common.{◌≡◌, ℕ, ◌+◌, ◌≤◌, false, List, [], length, None, sym, ap, ◌∙◌, subst, arith, inl, sum_by}
use Rattle.std.specs.List.{count_by}
use Rattle.scc_base.specs.Calls.{DataCall}
use Rattle.scc_proto.specs.Ports.{Sight, record_in}
use Rattle.scc_proto.specs.Stages.{Record, blank}
use Rattle.send_recv.specs.Ops.{SlotAt, empty_slot}
use Rattle.send_recv.specs.Calling.{IsBetweenMessages}
use Rattle.send_recv.proofs.Starts as message
use Rattle.sync_flags.proofs.TurnLemmas.{record_at_start}
use Rattle.barrier.specs.Flags.{value_at}
use Rattle.barrier.proofs.OtherPort as barrier
use Rattle.plain_meaning.specs.Collectives.{start_of_rank}
use Rattle.script_machine.specs.Local.{Local, local_start}
use Rattle.plain_meaning.specs.Paths.Came.{Began}
use Rattle.rcce_ue.specs.Bounds.{bounds_of, visits}
use Rattle.rcce_ue.specs.Left.{ue_left, rest_of}
use Rattle.rcce_ue.specs.Standing.{IsFree, Stood, Tied, bytes_sent, keeping}
use Rattle.rcce_ue.specs.Standing.Stood.{Runs}
use Rattle.rcce_ue.specs.Ues.{IsBegun, UeView, capped_count, at_next_call, is_send_call}
use Rattle.rcce_ue.proofs.EnterLemmas.{entered_left, entered_tied}
use Rattle.rcce_ue.proofs.KeepLemmas.{empty_left}
use Rattle.rcce_ue.proofs.VisitLemmas.{program_within}

-- a UE of which nothing is done, and any port of its rank without events
pub record IsFresh (ue : UeView) : Type 0 where
  pub begun : IsBegun ue.machine
  pub start : ue.machine.local ≡ local_start ue.machine.script ue.machine.rank
  pub empty : ue.core.out ≡ None
  pub slot : ue.slot ≡ empty_slot
  pub unset : (comm : ℕ) → value_at ue.parity comm ≡ false
  pub room : length ue.inbox ≡ 65536
  pub posted : ue.posted ≡ None
  pub sent : ue.sent ≡ 0
  pub bytes : ue.sent_bytes ≡ 0

module _ (ue : UeView) (new : IsFresh ue) where
  module _ (s : Sight) (none : s.events ≡ []) where
    is_blank : record_in s ≡ blank
    is_blank = record_at_start s none

    stood_start : Stood (start_of_rank ue.machine.script ue.machine.rank) (record_in s) ue.machine.local None
    stood_start =
        subst (λ (rec : Record). Stood (start_of_rank ue.machine.script ue.machine.rank) rec ue.machine.local None) (sym is_blank)
        (subst (λ (u : Local). Stood (start_of_rank ue.machine.script ue.machine.rank) blank u None) (sym new.start) (Runs Began))

    free_start : IsFree s (keeping ue.core ue.slot ue.parity)
    free_start = record {
      messages = subst (λ (slot : SlotAt). IsBetweenMessages s ue.core slot) (sym new.slot) (message.free_at_start s ue.core none new.empty);
      parity = (barrier.free_at_start s ue.core ue.parity none new.empty new.unset).parity;
    }

    pub start_tied : s.seat.setup ≡ ue.machine.setup → s.seat.rank ≡ ue.machine.rank → Tied (at_next_call ue) s
    start_tied setup_is rank_is =
        entered_tied ue s None new.begun setup_is rank_is stood_start free_start (λ core. ap (λ (rec : Record). rec.held core) is_blank) new.room new.posted
        (inl (ap (λ (slot : SlotAt). slot.to) new.slot))
        (new.sent ∙ ap (λ (list : List DataCall). capped_count (count_by is_send_call list)) (sym (ap (λ (rec : Record). rec.calls) is_blank)))
        (new.bytes ∙ ap (λ (list : List DataCall). capped_count (sum_by bytes_sent list)) (sym (ap (λ (rec : Record). rec.calls) is_blank)))

  pub start_left : ue_left (at_next_call ue) ≤ visits ue.machine.script ue.machine.rank + bounds_of ue.machine.setup ue.machine.script ue.machine.rank
  start_left =
      let most = entered_left ue new.begun in
      let none = empty_left ue.slot (ap (λ (slot : SlotAt). slot.to) new.slot) in
      let rest = ap (rest_of ue.machine.setup ue.machine.rank) new.start in
      let within = program_within ue.machine.script ue.machine.rank in
      omega (arith, most, none, rest, within)
