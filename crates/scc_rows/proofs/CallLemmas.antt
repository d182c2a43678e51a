-- The state of a rank after a whole call.
use Rattle.std.proofs.Common.{◌≡◌, ℕ, true, List, None, Some}
use Rattle.scc_base.specs.Heads.{MessageHead}
use Rattle.scc_base.specs.declared.events.Spot.{Spot}
use Rattle.scc_proto.specs.Words.{are_peers}
use Rattle.scc_proto.specs.Ports.{Sight, record_in}
use Rattle.put_get.specs.Cores.{Private}
use Rattle.sync_flags.specs.Tries.{Aim}
use Rattle.send_recv.specs.Ops.{RecvAt, SlotAt}
use Rattle.send_recv.specs.Receiving.{RecvStands}
use Rattle.send_recv.specs.Sending.{SlotStands}
use Rattle.send_recv.specs.Calling.{Received, RecvStalled, RecvDiffers, FoundUnset}
use Rattle.send_recv.specs.Ranks.{receiving, with_bytes}
use Rattle.send_recv.proofs.Starts.{slot_after, free_after_receive, free_after_other_head, free_after_test}
use Rattle.scc_rows.specs.Talkers.{IsTalking}
use Rattle.scc_rows.proofs.TalkLemmas.{peers_kept}

-- a rank in no call stays so, whatever bytes its last call had
pub other_bytes : {s : Sight} {c : Private} {slot : SlotAt} {peer : ℕ} {old bytes : List ℕ} → IsTalking s c slot peer old None None → IsTalking s c slot peer bytes None None
other_bytes st = record { peers = st.peers; at = st.at }

module _ {s t : Sight} {peer : ℕ} (peers : are_peers s.seat.setup s.seat.rank peer ≡ true) where
  pub received_whole : {c d : Private} {op : RecvAt} {slot : SlotAt} {bytes before after any : List ℕ} {polls : ℕ} → RecvStands s c op before → SlotStands s.seat (record_in s) slot
      → Received (receiving s c op bytes) polls (with_bytes t d after) → IsTalking t d slot peer any None None
  received_whole st slot r = record { peers = peers_kept peer r.events r.did peers; at = free_after_receive st.hands slot r }

  pub receive_stalled : {c d : Private} {op now : RecvAt} {slot : SlotAt} {bytes after : List ℕ} {polls : ℕ} {spot : Spot} → SlotStands s.seat (record_in s) slot
      → RecvStalled (receiving s c op bytes) polls (receiving t d now after) spot → IsTalking t d slot peer after None (Some now)
  receive_stalled slot r = record { peers = peers_kept peer r.events r.did peers; at = (r.stands, slot_after r.events r.did r.post slot) }

  pub receive_differs_whole : {c d : Private} {op : RecvAt} {slot : SlotAt} {bytes before after any : List ℕ} {polls : ℕ} {sent asked : MessageHead} → RecvStands s c op before
      → SlotStands s.seat (record_in s) slot → RecvDiffers (receiving s c op bytes) polls (with_bytes t d after) sent asked → IsTalking t d slot peer any None None
  receive_differs_whole st slot r = record { peers = peers_kept peer r.events r.did peers; at = free_after_other_head st.hands slot r }

module _ {s t : Sight} {c d : Private} {slot : SlotAt} {peer : ℕ} {old any : List ℕ} (talk : IsTalking s c slot peer old None None) where
  pub found_nothing : {aim : Aim} {op : RecvAt} {bytes after : List ℕ} → FoundUnset aim (receiving s c op bytes) (with_bytes t d after) → IsTalking t d slot peer any None None
  found_nothing r = record { peers = peers_kept peer r.events r.did talk.peers; at = free_after_test talk.at r }

  pub test_received : {op : RecvAt} {bytes after : List ℕ} {polls : ℕ} → Received (receiving s c op bytes) polls (with_bytes t d after) → IsTalking t d slot peer any None None
  test_received r = record { peers = peers_kept peer r.events r.did talk.peers; at = free_after_receive talk.at.hands talk.at.slot_stands r }

  pub test_differs : {op : RecvAt} {bytes after : List ℕ} {polls : ℕ} {sent asked : MessageHead} → RecvDiffers (receiving s c op bytes) polls (with_bytes t d after) sent asked → IsTalking t d slot peer any None None
  test_differs r = record { peers = peers_kept peer r.events r.did talk.peers; at = free_after_other_head talk.at.hands talk.at.slot_stands r }
