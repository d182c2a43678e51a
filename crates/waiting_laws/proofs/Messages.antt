-- What a vain look of a send or a receive tells, by its stage.
use Rattle.std.proofs.Common.{◌≡◌, ◌≢◌, ◌⊎◌, inl, inr, ℕ, ◌==◌, Bool, true, false, if◌then◌else◌, List, Option, Some, None, option_map, refl, sym, ◌∙◌, subst}
use Rattle.std.proofs.lemmas.Option.{same_Some}
use Rattle.scc_base.specs.Layouts.{signal_at}
use Rattle.scc_base.specs.declared.signals.Signal.TheVariants.{Sent, Ready}
use Rattle.scc_base.specs.Places.{FlagPlace, flag_in, flag_word}
use Rattle.scc_base.specs.Setups.{SetupView, host_of}
use Rattle.scc_base.specs.declared.events.Spot.{Spot}
use Rattle.scc_base.specs.declared.layouts.Layout.{Layout}
use Rattle.scc_base.specs.declared.layouts.Layout.TheVariants.{LineFlags, BitFlags}
use Rattle.scc_proto.specs.Agreement.{Agrees}
use Rattle.scc_proto.specs.Like.{Like}
use Rattle.scc_proto.specs.Messages.{Progress}
use Rattle.scc_proto.specs.Ports.{Seat}
use Rattle.scc_proto.specs.Records.{chunk_of}
use Rattle.scc_proto.specs.Stages.{Idle, Between, InFlight, Record}
use Rattle.scc_proto.specs.Views.{View, view_of, word_of_flag}
use Rattle.scc_proto.specs.Words.{Memory, are_peers, word_at}
use Rattle.scc_proto.proofs.Tests.{peers_swap}
use Rattle.put_get.specs.Cores.{Private}
use Rattle.sync_flags.specs.Flags.{is_set_in}
use Rattle.sync_flags.specs.Tries.{Aim, AtFlag, AtRegister}
use Rattle.send_recv.specs.Ops.{RecvAt, SendAt, SlotAt}
use Rattle.send_recv.specs.Receiving as recv
use Rattle.send_recv.specs.Sending as send
use Rattle.send_recv.specs.Tries.{aim_at}
use Rattle.send_recv.specs.declared.stages.RecvStage.{RecvStage}
use Rattle.send_recv.specs.declared.stages.RecvStage.TheVariants as receive
use Rattle.send_recv.specs.declared.stages.SendStage.{SendStage}
use Rattle.send_recv.specs.declared.stages.SendStage.TheVariants as sending
use Rattle.chip_run.specs.Waiting.{IsLooking, RaiseWaits, SlotWaits, TakeWaits}
use Rattle.chip_run.specs.Wants.{Want}
use Rattle.chip_run.proofs.Looks.{raise_waits, waits_same}
use Rattle.waiting_laws.specs.Looks.{LookFailed, Tells, SeatWaits}
use Rattle.waiting_laws.proofs.Looks.{aimed, differ}

-- the flag is not set
abbrev Unset : Memory → ℕ → FlagPlace → Type 0
Unset memory core flag = flag_in flag.bit (word_of_flag memory core flag) ≢ 1

not_set : (memory : Memory) (core : ℕ) (flag : FlagPlace) → is_set_in flag.bit (word_at memory (flag_word core flag)) ≡ false → Unset memory core flag
not_set memory core flag off is = differ (flag_in flag.bit (word_of_flag memory core flag)) 1 off is

-- the slot's turn looks at `ready` of its target
slot_told : (layout : Layout) (memory : Memory) (own : ℕ) (to : Option ℕ) (seen : Bool) (aim : Aim) → aim_at layout (send.slot_spot_by layout own to seen) ≡ Some aim → Tells memory aim
    → (j : ℕ) × (to ≡ Some j) × Unset memory own (signal_at layout Ready j)
slot_told LineFlags memory own None seen aim is tells = absurd (cc (is))
slot_told BitFlags memory own None seen aim is tells = absurd (cc (is))
slot_told LineFlags memory own (Some j) false aim is tells =
    (j, refl, not_set memory own (signal_at LineFlags Ready j) (aimed memory (AtFlag (flag_word own (signal_at LineFlags Ready j)) None true) aim is tells))
slot_told BitFlags memory own (Some j) false aim is tells =
    (j, refl, not_set memory own (signal_at BitFlags Ready j) (aimed memory (AtFlag (flag_word own (signal_at BitFlags Ready j)) (Some j) true) aim is tells))
slot_told LineFlags memory own (Some j) true aim is tells = absurd (cc (is))
slot_told BitFlags memory own (Some j) true aim is tells =
    absurd (aimed memory (AtRegister own) aim is tells)

-- a send that looks, looks at `ready` of its target
ready_told : (layout : Layout) (memory : Memory) (own other to : ℕ) (slot : Option Spot) (aim : Aim) → aim_at layout (send.send_spot_by layout own other to slot sending.Look) ≡ Some aim → Tells memory aim
    → Unset memory own (signal_at layout Ready to)
ready_told LineFlags memory own other to slot aim is tells =
    not_set memory own (signal_at LineFlags Ready to) (aimed memory (AtFlag (flag_word own (signal_at LineFlags Ready to)) None true) aim is tells)
ready_told BitFlags memory own other to slot aim is tells =
    not_set memory own (signal_at BitFlags Ready to) (aimed memory (AtFlag (flag_word own (signal_at BitFlags Ready to)) (Some to) true) aim is tells)

-- and at no other stage does it wait, where nobody holds a register
abbrev is_send_look : SendStage → Bool
is_send_look sending.Header = true
is_send_look sending.Look = true
is_send_look stage = false

no_send : (layout : Layout) (memory : Memory) (own other to : ℕ) (slot : Option Spot) (stage : SendStage) (aim : Aim) → is_send_look stage ≡ false → aim_at layout (send.send_spot_by layout own other to slot stage) ≡ Some aim → Tells memory aim → ⊥
no_send layout memory own other to slot sending.Header aim unlike is tells = absurd (cc (unlike))
no_send layout memory own other to slot sending.Look aim unlike is tells = absurd (cc (unlike))
no_send LineFlags memory own other to slot (sending.Lines i) aim unlike is tells = cc (is)
no_send BitFlags memory own other to slot (sending.Lines i) aim unlike is tells = cc (is)
no_send LineFlags memory own other to slot sending.Flush aim unlike is tells = cc (is)
no_send BitFlags memory own other to slot sending.Flush aim unlike is tells = cc (is)
no_send LineFlags memory own other to slot sending.Raise aim unlike is tells = cc (is)
no_send BitFlags memory own other to slot sending.Raise aim unlike is tells =
    aimed memory (AtRegister other) aim is tells
no_send LineFlags memory own other to slot sending.Lower aim unlike is tells = cc (is)
no_send BitFlags memory own other to slot sending.Lower aim unlike is tells =
    aimed memory (AtRegister own) aim is tells
no_send LineFlags memory own other to slot sending.Finished aim unlike is tells = cc (is)
no_send BitFlags memory own other to slot sending.Finished aim unlike is tells = cc (is)

sent_told : (layout : Layout) (memory : Memory) (own other from : ℕ) (aim : Aim) → aim_at layout (recv.spot_by layout own other from receive.Look) ≡ Some aim → Tells memory aim → Unset memory own (signal_at layout Sent from)
sent_told LineFlags memory own other from aim is tells =
    not_set memory own (signal_at LineFlags Sent from) (aimed memory (AtFlag (flag_word own (signal_at LineFlags Sent from)) None true) aim is tells)
sent_told BitFlags memory own other from aim is tells =
    not_set memory own (signal_at BitFlags Sent from) (aimed memory (AtFlag (flag_word own (signal_at BitFlags Sent from)) (Some from) true) aim is tells)

abbrev is_recv_look : RecvStage → Bool
is_recv_look receive.Look = true
is_recv_look stage = false

no_recv : (layout : Layout) (memory : Memory) (own other from : ℕ) (stage : RecvStage) (aim : Aim) → is_recv_look stage ≡ false → aim_at layout (recv.spot_by layout own other from stage) ≡ Some aim → Tells memory aim → ⊥
no_recv layout memory own other from receive.Look aim unlike is tells = absurd (cc (unlike))
no_recv LineFlags memory own other from receive.Header aim unlike is tells = cc (is)
no_recv BitFlags memory own other from receive.Header aim unlike is tells = cc (is)
no_recv LineFlags memory own other from receive.Lower aim unlike is tells = cc (is)
no_recv BitFlags memory own other from receive.Lower aim unlike is tells =
    aimed memory (AtRegister own) aim is tells
no_recv LineFlags memory own other from (receive.Lines i) aim unlike is tells = cc (is)
no_recv BitFlags memory own other from (receive.Lines i) aim unlike is tells = cc (is)
no_recv LineFlags memory own other from receive.Raise aim unlike is tells = cc (is)
no_recv BitFlags memory own other from receive.Raise aim unlike is tells =
    aimed memory (AtRegister other) aim is tells
no_recv LineFlags memory own other from receive.Finished aim unlike is tells = cc (is)
no_recv BitFlags memory own other from receive.Finished aim unlike is tells = cc (is)

post_of : (o : Option InFlight) (to : ℕ) → Some to ≡ option_map (λ (p : InFlight). p.to) o → (p : InFlight) × (o ≡ Some p) × (to ≡ p.to)
post_of None to is = absurd (cc (is))
post_of (Some p) to is = (p, refl, same_Some to p.to is)

looking_by : (b : Bool) (from : ℕ) (m : Progress) → IsLooking from (if b then Idle else Between from m)
looking_by true from m = tt
looking_by false from m = refl

-- what a rank waits for whose record is this one, up to looks
module _ (seat : Seat) (memory : Memory) (records : ℕ → Record) (agrees : Agrees seat.setup memory records) (rec : Record) (like : Like rec (records seat.rank)) where
  abbrev s : SetupView
  s = seat.setup

  abbrev me : ℕ
  me = seat.rank

  abbrev view : View
  view = view_of seat.setup memory

  -- at its slot
  pub slot_waits : (slot : SlotAt) (aim : Aim) → send.SlotStands seat rec slot → rec.stage ≡ Idle → aim_at s.layout (send.slot_spot seat slot) ≡ Some aim → Tells memory aim → SlotWaits view me rec
  slot_waits slot aim stands idle is tells =
      let (j, to_is, unset) = slot_told s.layout memory (host_of s.hosts me) slot.to slot.seen aim is tells in
      let (post, there, same) = post_of rec.post j (sym to_is ∙ stands.to) in
      record { stage = idle; post = post; is_posted = there; failed = subst (λ (k : ℕ). view.signal Ready k me ≢ 1) same unset }

  abbrev SendWaits : SendAt → Type 0
  SendWaits op = SlotWaits view me rec ⊎ ((op.posted ≡ false) × RaiseWaits s view me op.to op.head (records me))

  module _ (c : Private) (op : SendAt) (slot : SlotAt) (bytes : List ℕ) (aim : Aim) (tells : Tells memory aim) where
    abbrev spot_at : SendStage → Option Spot
    spot_at stage = send.send_spot_by s.layout (host_of s.hosts me) (host_of s.hosts op.to) op.to (send.slot_spot seat slot) stage

    no_other : (stage : SendStage) → is_send_look stage ≡ false → aim_at s.layout (spot_at stage) ≡ Some aim → ⊥
    no_other stage unlike is = no_send s.layout memory (host_of s.hosts me) (host_of s.hosts op.to) op.to (send.slot_spot seat slot) stage aim unlike is tells

    at_slot : (layout : Layout) → aim_at s.layout (send.send_spot_by layout (host_of s.hosts me) (host_of s.hosts op.to) op.to (send.slot_spot seat slot) sending.Header) ≡ Some aim
        → aim_at s.layout (send.slot_spot seat slot) ≡ Some aim
    at_slot LineFlags is = is
    at_slot BitFlags is = is

    send_by : are_peers s me op.to ≡ true → send.SlotStands seat rec slot → (stage : SendStage) → send.IsAtSendStage seat rec c op bytes stage → aim_at s.layout (spot_at stage) ≡ Some aim → SendWaits op
    send_by peers stands sending.Header at is = inl (slot_waits slot aim stands at.1 (at_slot s.layout is) tells)
    send_by peers stands (sending.Lines i) at is = absurd (no_other (sending.Lines i) refl is)
    send_by peers stands sending.Flush at is = absurd (no_other sending.Flush refl is)
    send_by peers stands sending.Raise at is = absurd (no_other sending.Raise refl is)
    send_by peers stands sending.Look (own, none, empty, part, up, is_up) is =
        inr (
          own,
          raise_waits s memory records me op.to op.head part (recv.progress_at (chunk_of s) op.head op.chunk bytes) is_up.chunk agrees peers (sym like.stage ∙ is_up.stage_is) up refl
              (ready_told s.layout memory (host_of s.hosts me) (host_of s.hosts op.to) op.to (send.slot_spot seat slot) aim is tells),
        )
    send_by peers stands sending.Lower at is = absurd (no_other sending.Lower refl is)
    send_by peers stands sending.Finished at is = absurd (no_other sending.Finished refl is)

    -- in a send or a post
    pub send_waits : send.IsSending seat rec c op slot bytes → aim_at s.layout (send.send_spot seat op slot) ≡ Some aim → SendWaits op
    send_waits st is = send_by st.peers st.slot_stands op.stage st.at is

  module _ (c : Private) (op : RecvAt) (bytes : List ℕ) (aim : Aim) (tells : Tells memory aim) where
    abbrev spot_of : RecvStage → Option Spot
    spot_of stage = recv.spot_by s.layout (host_of s.hosts me) (host_of s.hosts op.from) op.from stage

    none_else : (stage : RecvStage) → is_recv_look stage ≡ false → aim_at s.layout (spot_of stage) ≡ Some aim → ⊥
    none_else stage unlike is = no_recv s.layout memory (host_of s.hosts me) (host_of s.hosts op.from) op.from stage aim unlike is tells

    recv_by : are_peers s me op.from ≡ true → (stage : RecvStage) → recv.IsAtRecvStage seat rec c op bytes stage → aim_at s.layout (spot_of stage) ≡ Some aim → TakeWaits s view me op.from (records me)
    recv_by peers receive.Look at is = record {
      peers = peers_swap s me op.from peers;
      stage = subst (IsLooking op.from) (sym at ∙ like.stage) (looking_by (op.chunk == 0) op.from (recv.progress_at (chunk_of s) op.head op.chunk bytes));
      failed = sent_told s.layout memory (host_of s.hosts me) (host_of s.hosts op.from) op.from aim is tells;
    }
    recv_by peers receive.Header at is = absurd (none_else receive.Header refl is)
    recv_by peers receive.Lower at is = absurd (none_else receive.Lower refl is)
    recv_by peers (receive.Lines i) at is = absurd (none_else (receive.Lines i) refl is)
    recv_by peers receive.Raise at is = absurd (none_else receive.Raise refl is)
    recv_by peers receive.Finished at is = absurd (none_else receive.Finished refl is)

    -- in a receive
    pub recv_waits : recv.IsReceiving seat rec c op bytes → aim_at s.layout (recv.recv_spot seat op) ≡ Some aim → TakeWaits s view me op.from (records me)
    recv_waits st is = recv_by st.peers op.stage st.at is

-- so its rank waits for the other rank
module _ (seat : Seat) (memory : Memory) (records : ℕ → Record) (rec : Record) (aim : Aim) (look : LookFailed seat memory records rec aim) (c : Private) where
  sends_by : (op : SendAt) → SlotWaits (view_of seat.setup memory) seat.rank rec
      ⊎ ((op.posted ≡ false) × RaiseWaits seat.setup (view_of seat.setup memory) seat.rank op.to op.head (records seat.rank)) → SeatWaits seat memory records (Want.Send op.to op.head)
  sends_by op (inl slot) = waits_same seat.setup (view_of seat.setup memory) seat.rank rec (records seat.rank) look.like (Want.Send op.to op.head) (inl slot)
  sends_by op (inr (own, raise)) = inr raise

  pub sends_here : (op : SendAt) (slot : SlotAt) (bytes : List ℕ) → send.IsSending seat rec c op slot bytes → aim_at seat.setup.layout (send.send_spot seat op slot) ≡ Some aim
      → SeatWaits seat memory records (Want.Send op.to op.head)
  sends_here op slot bytes st is = sends_by op (send_waits seat memory records look.agrees rec look.like c op slot bytes aim look.tells st is)

  pub receives_here : (op : RecvAt) (bytes : List ℕ) → recv.IsReceiving seat rec c op bytes → aim_at seat.setup.layout (recv.recv_spot seat op) ≡ Some aim
      → SeatWaits seat memory records (Want.Recv op.from)
  receives_here op bytes st is = recv_waits seat memory records look.agrees rec look.like c op bytes aim look.tells st is
