-- A rank that comes to a call which it can make stands at the beginning of that call, with no more turns left than were
-- reckoned.
use Rattle.std.proofs.Common.{◌≡◌, ◌≢◌, ℕ, ◌+◌, ◌-◌, ◌<◌, ◌≤◌, ◌==◌, ◌&&◌, not, Bool, true, false, List, length, take, replicate, Option, None, option_map, refl, sym, ap, ◌∙◌, subst, arith, sum_by}
use Rattle.std.specs.Prelude.{nat_lt}
use Rattle.std.specs.List.{count_by}
use Rattle.std.proofs.lemmas.Bool.{lt-ltb}
use Rattle.std.proofs.lemmas.List.{length-replicate, length-take-le}
use Rattle.groups.specs.Peers.{IsPeer}
use Rattle.scc_base.specs.Communicators.{rule_of}
use Rattle.scc_base.specs.Heads.{IsHead, IsPostHead, MessageHead}
use Rattle.scc_base.specs.Setups.{SetupView}
use Rattle.scc_base.specs.declared.communicators.CommRule.{CommRule}
use Rattle.scc_base.specs.declared.layouts.Layout.{Layout}
use Rattle.scc_base.specs.declared.layouts.Layout.TheVariants.{LineFlags, BitFlags}
use Rattle.scc_proto.specs.Ports.{Sight, record_in}
use Rattle.scc_proto.specs.Stages.{FlagWords, Record}
use Rattle.scc_proto.specs.Words.{are_peers}
use Rattle.scc_proto.proofs.Tests.{eqb_other}
use Rattle.put_get.specs.Cores.{Private}
use Rattle.send_recv.specs.Ops.{SlotAt, slot_left}
use Rattle.send_recv.specs.Turns.{HoldsNoneBy}
use Rattle.send_recv.proofs.Starts.{receive_starts, send_starts}
use Rattle.plain_meaning.specs.Collectives.{start_of_rank}
use Rattle.script_machine.specs.Local.{Local, local_next}
use Rattle.script_machine.specs.Machine.{MachineView, in_flight}
use Rattle.script_machine.specs.Moves.{is_stopped}
use Rattle.script_machine.specs.Next.{Next}
use Rattle.script_machine.specs.Next.Next.{Ends, Goes, Posts, Sends, Recvs, Bars}
use Rattle.plain_meaning.specs.Ready.{CanMakeNext}
use Rattle.script_machine.specs.declared.posts.Posted.{Posted}
use Rattle.plain_meaning.proofs.ProgramLengths.ReadyLemmas.{ready-law}
use Rattle.script_machine.proofs.Choices as choices
use Rattle.script_machine.proofs.StoppedLaws.{stopped_ends}
use Rattle.rcce_ue.specs.Left.{ue_left, next_bound, open_left, rest_after, rest_of, unless}
use Rattle.rcce_ue.specs.Standing.{IsFree, IsLastTarget, OpStands, Stood, Tied, bytes_sent, keeping}
use Rattle.rcce_ue.specs.Standing.Stood.{Runs, Refused}
use Rattle.rcce_ue.specs.Ues.{IsBegun, UeView, capped_count, at_next_call, is_send_call, open_for_next}
use Rattle.rcce_ue.proofs.MeasureLemmas.{falls, opened_by}

-- the call that a rank comes to can be made
pub ready_here : (m : MachineView) (rec : Record) (last : Option Posted) → IsBegun m → Stood (start_of_rank m.script m.rank) rec m.local last → CanMakeNext m.script m.rank (local_next m.local)
ready_here m rec last begun (Runs came) = ready-law m.script m.rank begun.whole begun.within _ last came
ready_here m rec last begun (Refused v from head sent take refuse header came is other noted says at stopped) =
    subst (CanMakeNext m.script m.rank) (sym (stopped_ends m.local stopped)) tt

-- another rank of the script is one of the run
pub peers_of : (s : SetupView) (nue i j : ℕ) → s.nue ≡ nue → i < nue → IsPeer nue i j → are_peers s i j ≡ true
peers_of s nue i j same within peer =
    let low : i < s.nue = omega (arith, same, within) in
    let below = peer.below in
    let other = peer.other in
    let down : j < s.nue = omega (arith, same, below) in
    let apart : i ≢ j = λ e. other (sym e) in
    choices.and_of (nat_lt i s.nue) (nat_lt j s.nue && not (i == j)) (lt-ltb i s.nue low)
    (choices.and_of (nat_lt j s.nue) (not (i == j)) (lt-ltb j s.nue down) (ap not (eqb_other i j apart)))

-- no register is held, in whichever layout
pub holds_none : (layout : Layout) (hold : ℕ → Option FlagWords) → ((core : ℕ) → hold core ≡ None) → HoldsNoneBy layout hold
holds_none LineFlags hold none = tt
holds_none BitFlags hold none = none

post_valid : (head : MessageHead) → IsPostHead head → IsHead head
post_valid head post =
    let plain = post.plain in
    let world = post.in_world in
    let short = post.len_within in
    record { kind_below = omega (arith, plain); comm_below = omega (arith, world); len_within = omega (arith, short); plain_in_world = λ same. world }

module _ (m : MachineView) (s : Sight) (begun : IsBegun m) (setup_is : s.seat.setup ≡ m.setup) (rank_is : s.seat.rank ≡ m.rank) where
  peers_here : (j : ℕ) → IsPeer m.script.nue m.rank j → are_peers s.seat.setup s.seat.rank j ≡ true
  peers_here j peer =
      subst (λ (r : ℕ). are_peers s.seat.setup r j ≡ true) (sym rank_is)
      (peers_of s.seat.setup m.script.nue m.rank j (ap (λ (x : SetupView). x.nue) setup_is ∙ begun.ranks) begun.within peer)

  -- it stands at the beginning of the call that it comes to
  pub opened_stands : (c : Private) (slot : SlotAt) (parity : List Bool) (inbox : List ℕ) → IsFree s (keeping c slot parity) → length inbox ≡ 65536 → (n : Next Local) → CanMakeNext m.script m.rank n
      → OpStands s c slot parity inbox (open_for_next n) n
  opened_stands c slot parity inbox free room Ends ready = (free.messages.between, tt)
  opened_stands c slot parity inbox free room (Goes after) ready = (free.messages.between, tt)
  opened_stands c slot parity inbox free room (Posts message after) ready = (
    send_starts free.messages message.to message.head true message.bytes (peers_here message.to ready.0) (post_valid message.head ready.1) (λ same. ready.1) ready.2,
    (refl, refl, refl, refl),
  )
  opened_stands c slot parity inbox free room (Sends to head bytes after) ready = (
    send_starts free.messages to head false bytes (peers_here to ready.0) ready.1 (λ same. absurd (cc)) ready.2,
    (refl, refl, refl, refl),
  )
  opened_stands c slot parity inbox free room (Recvs from head take_in refuse) ready =
      let short = ready.1.len_within in (
        receive_starts free.messages from head (take head.len inbox) (peers_here from ready.0) ready.1 (length-take-le head.len inbox (omega (arith, room, short))),
        (refl, refl, refl),
      )
  opened_stands c slot parity inbox free room (Bars comm after) ready = (
    record {
      below = ready.0;
      present = λ same. ready.1 (sym (ap (λ (l : List CommRule). rule_of l comm) (ap (λ (x : SetupView). x.comms) setup_is ∙ begun.comms)) ∙ same);
      empty = free.messages.between.empty;
      parity = free.parity;
      at = free.messages.between.stage;
    },
    (refl, refl),
  )

-- a UE that comes to what stands next and the record fit together
pub entered_tied : (ue : UeView) (s : Sight) (last : Option Posted) → IsBegun ue.machine → s.seat.setup ≡ ue.machine.setup → s.seat.rank ≡ ue.machine.rank
    → Stood (start_of_rank ue.machine.script ue.machine.rank) (record_in s) ue.machine.local last → IsFree s (keeping ue.core ue.slot ue.parity) → ((core : ℕ) → (record_in s).held core ≡ None)
    → length ue.inbox ≡ 65536 → ue.posted ≡ option_map in_flight last → IsLastTarget ue.slot last
    → ue.sent ≡ capped_count (count_by is_send_call (record_in s).calls) → ue.sent_bytes ≡ capped_count (sum_by bytes_sent (record_in s).calls) → Tied (at_next_call ue) s
entered_tied ue s last begun setup_is rank_is stood free hands room posted target sends bytes = record {
  begun = begun;
  setup_is = setup_is;
  rank_is = rank_is;
  last = last;
  stood = stood;
  stands = opened_stands ue.machine s begun setup_is rank_is ue.core ue.slot ue.parity ue.inbox free room (local_next ue.machine.local) (ready_here ue.machine (record_in s) last begun stood);
  hands = hands;
  slot_is = free.messages.slot_stands;
  parity_is = free.parity;
  room = room;
  posted_is = posted;
  target = target;
  sent_is = sends;
  bytes_are = bytes;
}

-- and has no more turns left than the slot and the rest of its program
module _ (s : SetupView) (rank : ℕ) (u : Local) (slot : SlotAt) (within : rank < s.nue) where
  split : (open_now bound slot_now rest after : ℕ) → open_now ≤ slot_now + (1 + bound) → rest ≡ (1 + bound) + after → open_now + (rest - (1 + bound)) ≤ slot_now + rest
  split open_now bound slot_now rest after fits is = omega (arith, fits, is)

  by_next : (n : Next Local) → local_next u ≡ n → open_left s rank (open_for_next n) slot + rest_after s rank (open_for_next n) u ≤ slot_left slot + rest_of s rank u
  by_next Ends is = omega arith
  by_next (Goes after) is = omega arith
  by_next (Posts message after) is =
      subst (λ (x : Next Local). open_left s rank (open_for_next (Posts message after)) slot + (rest_of s rank u - (1 + next_bound s rank x)) ≤ slot_left slot + rest_of s rank u) (sym is)
      (split _ (next_bound s rank (Posts message after)) (slot_left slot) (rest_of s rank u) (rest_of s rank after) (opened_by s rank slot within (Posts message after)) (falls s rank u (Posts message after) is))
  by_next (Sends to head bytes after) is =
      subst (λ (x : Next Local). open_left s rank (open_for_next (Sends to head bytes after)) slot + (rest_of s rank u - (1 + next_bound s rank x)) ≤ slot_left slot + rest_of s rank u) (sym is)
      (split _ (next_bound s rank (Sends to head bytes after)) (slot_left slot) (rest_of s rank u) (rest_of s rank after) (opened_by s rank slot within (Sends to head bytes after)) (falls s rank u (Sends to head bytes after) is))
  by_next (Recvs from head take_in refuse) is =
      subst (λ (x : Next Local). open_left s rank (open_for_next (Recvs from head take_in refuse)) slot + (rest_of s rank u - (1 + next_bound s rank x)) ≤ slot_left slot + rest_of s rank u) (sym is)
      (split _ (next_bound s rank (Recvs from head take_in refuse)) (slot_left slot) (rest_of s rank u) _ (opened_by s rank slot within (Recvs from head take_in refuse))
      (falls s rank u (Recvs from head take_in refuse) is (replicate head.len 0) (length-replicate {A = ℕ} head.len 0)))
  by_next (Bars comm after) is =
      subst (λ (x : Next Local). open_left s rank (open_for_next (Bars comm after)) slot + (rest_of s rank u - (1 + next_bound s rank x)) ≤ slot_left slot + rest_of s rank u) (sym is)
      (split _ (next_bound s rank (Bars comm after)) (slot_left slot) (rest_of s rank u) (rest_of s rank after) (opened_by s rank slot within (Bars comm after)) (falls s rank u (Bars comm after) is))

unless_less : (b : Bool) (n m : ℕ) → n ≤ m → unless b n ≤ m
unless_less true n m le = omega arith
unless_less false n m le = le

pub entered_left : (ue : UeView) → IsBegun ue.machine → ue_left (at_next_call ue) ≤ slot_left ue.slot + rest_of ue.machine.setup ue.machine.rank ue.machine.local
entered_left ue begun =
    let ranks = begun.ranks in
    let within = begun.within in
    unless_less (is_stopped ue.machine.local) _ _
    (by_next ue.machine.setup ue.machine.rank ue.machine.local ue.slot (omega (arith, ranks, within)) (local_next ue.machine.local) refl)
