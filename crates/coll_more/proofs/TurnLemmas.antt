-- Turns of a collective call: by the turn of the message in hand; and those that make no event, where the own piece is copied, the next message begins, or nothing is left.
use Rattle.std.proofs.Common.{◌≡◌, ℕ, ◌+◌, ◌<◌, ◌≤◌, true, false, List, [], ◌++◌, length, map, take, Option, Some, None, is_none, slice_get, refl, sym, ap, ◌∙◌, subst, arith, inl}
use Rattle.std.specs.List.{list_all}
use Rattle.scc_base.specs.Calls.{DataCall}
use Rattle.scc_base.specs.Heads.{IsHead, plain_head}
use Rattle.scc_base.specs.declared.events.Event.{Event}
use Rattle.scc_base.specs.declared.events.Spot.{Spot}
use Rattle.scc_proto.specs.Ports.{Did, Sight, record_in}
use Rattle.scc_proto.specs.Records.{chunk_of}
use Rattle.scc_proto.specs.Resting.{is_resting}
use Rattle.scc_proto.proofs.PortLaws.{did_nothing}
use Rattle.scc_proto.proofs.Tests.{peers_from}
use Rattle.put_get.specs.Cores.{Private}
use Rattle.send_recv.specs.Calling.{IsBetweenMessages}
use Rattle.send_recv.specs.Ops.{SlotAt}
use Rattle.send_recv.specs.Receiving.{recv_waits}
use Rattle.send_recv.specs.Sights.{layout_at}
use Rattle.send_recv.specs.Steps.{goes_on}
use Rattle.send_recv.specs.Tries.{aim_at}
use Rattle.send_recv.specs.Turns.{KeepsAllButMessages, LastHeld, NoLoad, OnlyTries, StoresFromBuffer}
use Rattle.send_recv.specs.declared.answers.RecvTurn.{RecvTurn}
use Rattle.send_recv.specs.declared.answers.RecvTurn.TheVariants as turn
use Rattle.send_recv.proofs.Starts.{new_receive_left, new_send_left, receive_starts, send_starts}
use Rattle.sync_flags.specs.Tries.{NoTry, Tried, changing_after}
use Rattle.coll_more.specs.Ops.{HasOwn, MoreAt, Participant, begun_at, begun_by, bytes_by, bytes_of_piece, data_call_of, ended_calls, is_taking, table_of, window, taking_part}
use Rattle.coll_more.specs.Standing.{IsFit, MoreStands, Stands, StandsAt}
use Rattle.coll_more.specs.Tables.{dst_len_of, has_own, src_len_of}
use Rattle.coll_more.specs.Turns.{MoreDoes, MoreMeans, MoreTurned, MoreTurns, stage_aim, call_bound, left_at_stage, left_from}
use Rattle.coll_more.specs.declared.kinds.PieceCall.{PieceCall}
use Rattle.coll_more.specs.declared.kinds.Way.{Way}
use Rattle.coll_more.specs.declared.kinds.Way.TheVariants.{Gives, Shares, Takes}
use Rattle.coll_more.specs.declared.ops.Stage.TheVariants.{Own, Between}
use Rattle.coll_more.proofs.GoodLemmas.{IsGood, each_at, good_calls, room_by}
use Rattle.coll_more.proofs.ListLemmas.{next_left}
use Rattle.coll_more.proofs.WindowLemmas.{window_long}

pub plain_valid : (len : ℕ) → len ≤ 65536 → IsHead (plain_head len)
plain_valid len short = record { kind_below = omega arith; comm_below = omega arith; len_within = short; plain_in_world = λ same. refl }

-- a turn of a call, by what the turn of its message was
pub turned_by : (old now : Participant) (answer : RecvTurn) (events : List Event) → Did old.sight events now.sight → MoreDoes old old.op.stage (goes_on answer) now.sight now.core
    → Tried (stage_aim old.sight.seat old.slot old.op.stage) events (recv_waits answer) → changing_after false events ≡ false
    → ((spot : Spot) → answer ≡ turn.Waiting spot → list_all is_resting events ≡ true) → OnlyTries (aim_at (layout_at old.sight) (recv_waits answer)) events
    → (now.op.more ≡ old.op.more) × (now.op.len ≡ old.op.len) → MoreMeans old now answer → KeepsAllButMessages (record_in old.sight) (record_in now.sight)
    → StoresFromBuffer old.sight.seat.setup old.core events → LastHeld events old.core.evictions now.core → MoreTurned old now answer
turned_by old now answer events did does tried freed rests only same means rest drafts held = record {
  events = events;
  did = did;
  does = does;
  tried = tried;
  freed = freed;
  rests = rests;
  only = only;
  same = same;
  means = means;
  rest = rest;
  drafts = drafts;
  held = held;
}

-- a turn without events
module _ (m : MoreAt) (s : Sight) (c : Private) (slot : SlotAt) (src dst : List ℕ) where
  pub own_turns : (later : List ℕ) → Stands (taking_part s c (record m { stage = Own }) slot src dst) → length later ≡ length dst → HasOwn m.more s.seat.rank m.len src later
      → MoreTurns (taking_part s c (record m { stage = Own }) slot src dst) (taking_part s c (record m { stage = Between }) slot src later) turn.Moved
  own_turns later fit long has = record {
    stands = λ base st. record {
      fits = record { short = st.fits.short; src_is = st.fits.src_is; dst_is = long ∙ st.fits.dst_is };
      calls = st.calls ∙ ap (λ (x : List DataCall). base ++ x) (none dst st.at.0 ∙ sym (none later st.at.0));
      own = λ is. has;
      at = st.at.1;
    };
    turned = record {
      events = [];
      did = did_nothing s;
      does = (refl, refl);
      tried = NoTry refl refl;
      freed = refl;
      rests = λ spot same. refl;
      only = tt;
      same = (refl, refl);
      means = (less, refl);
      rest = record { flips = refl; hold = refl; heap = refl };
      drafts = record { front = []; rest = []; is = refl; none_or_all = inl refl; no_draft = refl };
      held = NoLoad refl;
    };
  }
    where
      none : (bytes : List ℕ) → m.ended ≡ 0 → ended_calls s.seat m src bytes ≡ []
      none bytes start = ap (λ (n : ℕ). map (data_call_of src bytes) (take n (table_of s.seat m))) start

      less : left_from s.seat m m.ended < 1 + left_from s.seat m m.ended
      less = omega arith

  pub over_turns : Stands (taking_part s c (record m { stage = Between }) slot src dst) → slice_get (table_of s.seat m) m.ended ≡ None
      → MoreTurns (taking_part s c (record m { stage = Between }) slot src dst) (taking_part s c (record m { stage = Between }) slot src dst) turn.Done
  over_turns fit none = record {
    stands = λ base st. st;
    turned = record {
      events = [];
      did = did_nothing s;
      does = (refl, refl);
      tried = NoTry refl refl;
      freed = refl;
      rests = λ spot same. refl;
      only = tt;
      same = (refl, refl);
      means = (refl, refl, refl, refl, refl, ap (λ (o : Option PieceCall). is_none o) none);
      rest = record { flips = refl; hold = refl; heap = refl };
      drafts = record { front = []; rest = []; is = refl; none_or_all = inl refl; no_draft = refl };
      held = NoLoad refl;
    };
  }

  -- a message of the table can be made
  module _ (few : s.seat.setup.nue ≤ 48) (low : s.seat.rank < s.seat.setup.nue) (call : PieceCall) (next : slice_get (table_of s.seat m) m.ended ≡ Some call)
      (fits : IsFit m.more s.seat.rank s.seat.setup.nue m.len src dst) where
    pub good_here : IsGood s.seat.rank s.seat.setup.nue m.len (has_own m.more s.seat.rank) (src_len_of m.more s.seat.rank s.seat.setup.nue m.len) (dst_len_of m.more s.seat.rank s.seat.setup.nue m.len) call
    good_here = each_at (IsGood s.seat.rank s.seat.setup.nue m.len (has_own m.more s.seat.rank) (src_len_of m.more s.seat.rank s.seat.setup.nue m.len) (dst_len_of m.more s.seat.rank s.seat.setup.nue m.len)) (table_of s.seat m) m.ended call (good_calls s.seat.setup.nue m.len few fits.short s.seat.rank low m.more) next

    room_here : (w : Way) → call.first + call.len ≤ room_by w (src_len_of m.more s.seat.rank s.seat.setup.nue m.len) (dst_len_of m.more s.seat.rank s.seat.setup.nue m.len)
        → call.first + call.len ≤ length (bytes_by w src dst)
    room_here Gives fit = let is = fits.src_is in omega (arith, fit, is)
    room_here Shares fit = let is = fits.dst_is in omega (arith, fit, is)
    room_here Takes fit = let is = fits.dst_is in omega (arith, fit, is)

    pub inside_here : call.first + call.len ≤ length (bytes_by call.way src dst)
    inside_here = room_here call.way good_here.inside

    begun_stands : (w : Way) → call.way ≡ w → IsBetweenMessages s c slot → StandsAt s c slot (table_of s.seat m) m.ended src dst (begun_by w call)
    begun_stands Gives is free = (
      next,
      record { way = ap is_taking is; to = refl; head = refl; plain = refl; unended = refl },
      send_starts free call.peer (plain_head call.len) false (bytes_of_piece call src dst) (peers_from s.seat.setup s.seat.rank call.peer low good_here.below good_here.other) (plain_valid call.len good_here.short)
          (λ same. absurd (cc)) (window_long call.first call.len (bytes_by call.way src dst) inside_here),
    )
    begun_stands Shares is free = (
      next,
      record { way = ap is_taking is; to = refl; head = refl; plain = refl; unended = refl },
      send_starts free call.peer (plain_head call.len) false (bytes_of_piece call src dst) (peers_from s.seat.setup s.seat.rank call.peer low good_here.below good_here.other) (plain_valid call.len good_here.short)
          (λ same. absurd (cc)) (window_long call.first call.len (bytes_by call.way src dst) inside_here),
    )
    begun_stands Takes is free = (
      next,
      record { way = ap is_taking is; from = refl; head = refl; unended = refl },
      free.slot_stands,
      receive_starts free call.peer (plain_head call.len) (window call.first call.len dst) (peers_from s.seat.setup s.seat.rank call.peer low good_here.below good_here.other) (plain_valid call.len good_here.short)
          (window_long call.first call.len dst (subst (λ (w : Way). call.first + call.len ≤ length (bytes_by w src dst)) is inside_here)),
    )

    -- it has at most its bound left
    begun_left : (w : Way) → left_at_stage s.seat m slot (begun_by w call) < call_bound s.seat.setup.layout call + left_from s.seat m (m.ended + 1)
    begun_left Gives = let most = new_send_left s.seat.setup.layout (chunk_of s.seat.setup) call.peer (plain_head call.len) false slot in omega (arith, most)
    begun_left Shares = let most = new_send_left s.seat.setup.layout (chunk_of s.seat.setup) call.peer (plain_head call.len) false slot in omega (arith, most)
    begun_left Takes = let most = new_receive_left (chunk_of s.seat.setup) call.peer (plain_head call.len) in omega (arith, most)

    begun_copied : (base : List DataCall) → MoreStands base (taking_part s c (record m { stage = Between }) slot src dst) → MoreStands base (taking_part s c (record m { stage = begun_at call }) slot src dst)
    begun_copied base st = record { fits = st.fits; calls = st.calls; own = λ is. st.own refl; at = begun_stands call.way refl st.at }

    pub begun_turns : MoreTurns (taking_part s c (record m { stage = Between }) slot src dst) (taking_part s c (record m { stage = begun_at call }) slot src dst) turn.Moved
    begun_turns = record {
      stands = begun_copied;
      turned = record {
        events = [];
        did = did_nothing s;
        does = (refl, refl);
        tried = NoTry refl refl;
        freed = refl;
        rests = λ spot same. refl;
        only = tt;
        same = (refl, refl);
        means = (
          let from = next_left (call_bound s.seat.setup.layout) (table_of s.seat m) m.ended call next in
              let most = begun_left call.way in
              omega (arith, from, most),
          ap (λ (o : Option PieceCall). is_none o) next,
        );
        rest = record { flips = refl; hold = refl; heap = refl };
        drafts = record { front = []; rest = []; is = refl; none_or_all = inl refl; no_draft = refl };
        held = NoLoad refl;
      };
    }
