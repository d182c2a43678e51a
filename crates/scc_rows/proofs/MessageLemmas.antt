-- How messages begin at the ranks of a new chip.
use Rattle.std.proofs.Common.{◌≡◌, ℕ, true, not, ◌==◌, ◌&&◌, nat_lt, None, ◌∙◌, ap}
use Rattle.scc_proto.specs.Words.{are_peers}
use Rattle.scc_proto.specs.Ports.{Seat, Sight}
use Rattle.put_get.specs.Cores.{Private}
use Rattle.send_recv.specs.Ops.{SlotAt, empty_slot}
use Rattle.send_recv.specs.Calling.{IsBetweenMessages}
use Rattle.scc_rows.specs.Rests.{IsPortAtRest, IsFreshPort}
use Rattle.scc_rows.proofs.TalkLemmas.{starts_free}

-- a rank that has made no event is in no call
pub fresh_free : {s : Sight} {c : Private} {slot : SlotAt} {r : ℕ} → IsFreshPort s r → c.out ≡ None → slot ≡ empty_slot → IsBetweenMessages s c slot
fresh_free {s} {c} {slot} fresh empty new = starts_free s c slot fresh.none empty new

-- the two ranks of a pair
pub first_peers : {s : Sight} → IsPortAtRest s → IsFreshPort s 0 → are_peers s.seat.setup s.seat.rank 1 ≡ true
first_peers {s} rest fresh = λ i. nat_lt (fresh.rank i) (rest.two i) && (nat_lt 1 (rest.two i) && not (fresh.rank i == 1))

pub second_peers : {s : Sight} → IsPortAtRest s → IsFreshPort s 1 → are_peers s.seat.setup s.seat.rank 0 ≡ true
second_peers {s} rest fresh = λ i. nat_lt (fresh.rank i) (rest.two i) && (nat_lt 0 (rest.two i) && not (fresh.rank i == 0))

pub still_peers : (s t : Sight) (j : ℕ) → t.seat ≡ s.seat → are_peers s.seat.setup s.seat.rank j ≡ true → are_peers t.seat.setup t.seat.rank j ≡ true
still_peers s t j same peers = ap (λ (x : Seat). are_peers x.setup x.rank j) same ∙ peers
