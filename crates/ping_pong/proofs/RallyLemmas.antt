-- What two players have called, round after round, and what came of it.
use Rattle.std.proofs.Common.{◌≡◌, ℕ, ◌+◌, ◌<◌, List, [], ◌∷◌, ◌++◌, length, take, slice_index_or, slice_set, refl, sym, ap, ◌∙◌, append_assoc, length-append, Result, Ok, Err, IfOk, arith}
use Rattle.std.proofs.lemmas.Grind.{common_steps}
use Rattle.std.proofs.lemmas.List.{take_more, take_more_set}
use Rattle.scc_base.specs.Calls.{DataCall, Message, Recv, Send}
use Rattle.scc_base.specs.Heads.{plain_head}
use Rattle.scc_base.specs.Setups.{SetupView}
use Rattle.scc_base.specs.declared.events.Event.{Event}
use Rattle.scc_proto.specs.Messages.{received_messages, sent_messages}
use Rattle.scc_proto.specs.PairMessages.{PairMessages}
use Rattle.scc_proto.specs.PairMessages.PairMessages.{AllReceived, OpenReceived, StillInFlight}
use Rattle.scc_proto.specs.Records.{record_of}
use Rattle.scc_proto.specs.Ports.{Seat, record_in}
use Rattle.scc_proto.specs.Stages.{Record}
use Rattle.sync_flags.proofs.TurnLemmas.{record_at_start}
use Rattle.scc_mesh.specs.AwayRanks.{Away}
use Rattle.scc_mesh.specs.Scenes.{ChipView, about_in, events_in, records_in, sight_away}
use Rattle.ping_pong.specs.Rallies.{Ball, hits, serves}

length-take_within : (xs : List Ball) (n : ℕ) → n < length xs → length (take n xs) ≡ n
length-take_within xs n low = grind (arith, common_steps)

more : (xs : List Ball) (n : ℕ) → n < length xs → take (n + 1) xs ≡ take n xs ++ slice_index_or xs n [] ∷ []
more xs n low = take_more xs n [] low

-- one round more
serves-push : (balls back : List Ball) (ball came : Ball) → length back ≡ length balls
    → serves (balls ++ ball ∷ []) (back ++ came ∷ []) ≡ serves balls back ++ Send 1 (plain_head 4) ball ∷ Recv 1 (plain_head 4) came ∷ []
serves-push [] [] ball came same = refl
serves-push [] (b ∷ back) ball came same = absurd (omega (arith, same))
serves-push (a ∷ balls) [] ball came same = absurd (omega (arith, same))
serves-push (a ∷ balls) (b ∷ back) ball came same =
    let less : length back ≡ length balls = omega (arith, same) in
    ap (λ (calls : List DataCall). Send 1 (plain_head 4) a ∷ Recv 1 (plain_head 4) b ∷ calls) (serves-push balls back ball came less)

hits-push : (seen : List Ball) (ball : Ball) → hits (seen ++ ball ∷ []) ≡ hits seen ++ Recv 0 (plain_head 4) ball ∷ Send 0 (plain_head 4) ball ∷ []
hits-push [] ball = refl
hits-push (b ∷ seen) ball = ap (λ (calls : List DataCall). Recv 0 (plain_head 4) b ∷ Send 0 (plain_head 4) b ∷ calls) (hits-push seen ball)

-- what stands after one round more of the one who serves
pub serve_round : (base : List DataCall) (balls back : List Ball) (came : Ball) {now mid later : List DataCall} {round : ℕ} {ball : Ball} → round < length balls → length back ≡ length balls
    → now ≡ base ++ serves (take round balls) (take round back) → ball ≡ slice_index_or balls round [] → mid ≡ now ++ Send 1 (plain_head 4) ball ∷ []
    → later ≡ mid ++ Recv 1 (plain_head 4) came ∷ [] → later ≡ base ++ serves (take (round + 1) balls) (take (round + 1) (slice_set back round came))
serve_round base balls back came {now} {mid} {later} {round} {ball} low same before is sent got =
    let within : round < length back = omega (arith, low, same) in
    let long : length (take round back) ≡ length (take round balls) = length-take_within back round within ∙ sym (length-take_within balls round low) in
    let all_balls : take (round + 1) balls ≡ take round balls ++ ball ∷ [] = more balls round low ∙ ap (λ (b : Ball). take round balls ++ b ∷ []) (sym is) in
    let all_back : take (round + 1) (slice_set back round came) ≡ take round back ++ came ∷ [] = take_more_set back round came within in
    let calls : serves (take (round + 1) balls) (take (round + 1) (slice_set back round came)) ≡ serves (take round balls) (take round back) ++ Send 1 (plain_head 4) ball ∷ Recv 1 (plain_head 4) came ∷ []
    = (λ i. serves (all_balls i) (all_back i)) ∙ serves-push (take round balls) (take round back) ball came long in
    got ∙ ap (λ (l : List DataCall). l ++ Recv 1 (plain_head 4) came ∷ []) (sent ∙ ap (λ (l : List DataCall). l ++ Send 1 (plain_head 4) ball ∷ []) before)
    ∙ append_assoc (base ++ serves (take round balls) (take round back)) (Send 1 (plain_head 4) ball ∷ []) (Recv 1 (plain_head 4) came ∷ [])
    ∙ append_assoc base (serves (take round balls) (take round back)) (Send 1 (plain_head 4) ball ∷ Recv 1 (plain_head 4) came ∷ []) ∙ ap (λ (l : List DataCall). base ++ l) (sym calls)

-- what stands after one round more of the one who hits back
pub hit_round : (base : List DataCall) (seen : List Ball) {now mid later : List DataCall} {round : ℕ} {came ball : Ball} → round < length seen
    → now ≡ base ++ hits (take round seen) → mid ≡ now ++ Recv 0 (plain_head 4) came ∷ []
    → ball ≡ came → later ≡ mid ++ Send 0 (plain_head 4) ball ∷ [] → later ≡ base ++ hits (take (round + 1) (slice_set seen round came))
hit_round base seen {now} {mid} {later} {round} {came} {ball} low before got is sent =
    let calls : hits (take (round + 1) (slice_set seen round came)) ≡ hits (take round seen) ++ Recv 0 (plain_head 4) came ∷ Send 0 (plain_head 4) came ∷ []
    = ap hits (take_more_set seen round came low) ∙ hits-push (take round seen) came in
    sent ∙ (λ i. got i ++ Send 0 (plain_head 4) (is i) ∷ []) ∙ ap (λ (l : List DataCall). (l ++ Recv 0 (plain_head 4) came ∷ []) ++ Send 0 (plain_head 4) came ∷ []) before
    ∙ append_assoc (base ++ hits (take round seen)) (Recv 0 (plain_head 4) came ∷ []) (Send 0 (plain_head 4) came ∷ [])
    ∙ append_assoc base (hits (take round seen)) (Recv 0 (plain_head 4) came ∷ Send 0 (plain_head 4) came ∷ []) ∙ ap (λ (l : List DataCall). base ++ l) (sym calls)

-- the calls of a rank that had made no event
pub fresh_calls : (old new : Away) {w : SetupView} {rank : ℕ} {calls : List DataCall} → old.about ≡ w → old.ticket.rank ≡ rank → old.ticket.events ≡ []
    → (sight_away new.about new.ticket).seat ≡ (sight_away old.about old.ticket).seat
    → (record_in (sight_away new.about new.ticket)).calls ≡ (record_in (sight_away old.about old.ticket)).calls ++ calls → (record_of w rank new.ticket.events).calls ≡ calls
unfolding record_in
fresh_calls old new {w} {rank} {calls} about at none seat after =
    let setup : new.about ≡ w = ap (λ (x : Seat). x.setup) seat ∙ about in
    let same : new.ticket.rank ≡ rank = ap (λ (x : Seat). x.rank) seat ∙ at in
    (λ i. (record_of (sym setup i) (sym same i) new.ticket.events).calls) ∙ after ∙ ap (λ (x : Record). x.calls ++ calls) (record_at_start (sight_away old.about old.ticket) none)

-- the record of a rank at home is that of the same events
pub same_calls : {s z : SetupView} (rank : ℕ) {e f : List Event} → s ≡ z → e ≡ f → (record_of s rank e).calls ≡ (record_of z rank f).calls
same_calls rank about events = λ i. (record_of (about i) rank (events i)).calls

-- what holds of an Ok, in other words
pub map_ok : {A E : Type 0} (r : Result A E) (P Q : A → Type 0) → ((x : A) → P x → Q x) → IfOk r P → IfOk r Q
map_ok (Ok x) P Q f p = f x p
map_ok (Err e) P Q f p = tt

-- ---- what came is what was sent

abbrev bytes_in : List Message → List Ball
bytes_in [] = []
bytes_in (m ∷ ms) = m.bytes ∷ bytes_in ms

bytes_in-push : (ms : List Message) (m : Message) → bytes_in (ms ++ m ∷ []) ≡ bytes_in ms ++ m.bytes ∷ []
bytes_in-push [] m = refl
bytes_in-push (x ∷ ms) m = ap (λ (l : List Ball). x.bytes ∷ l) (bytes_in-push ms m)

served : (balls back : List Ball) → length back ≡ length balls → bytes_in (sent_messages 1 (serves balls back)) ≡ balls
served [] back same = refl
served (a ∷ balls) [] same = absurd (omega (arith, same))
served (a ∷ balls) (b ∷ back) same = let less : length back ≡ length balls = omega (arith, same) in ap (λ (l : List Ball). a ∷ l) (served balls back less)

came_back : (balls back : List Ball) → length back ≡ length balls → bytes_in (received_messages 1 (serves balls back)) ≡ back
came_back [] [] same = refl
came_back [] (b ∷ back) same = absurd (omega (arith, same))
came_back (a ∷ balls) [] same = absurd (omega (arith, same))
came_back (a ∷ balls) (b ∷ back) same = let less : length back ≡ length balls = omega (arith, same) in ap (λ (l : List Ball). b ∷ l) (came_back balls back less)

saw : (seen : List Ball) → bytes_in (received_messages 0 (hits seen)) ≡ seen
saw [] = refl
saw (b ∷ seen) = ap (λ (l : List Ball). b ∷ l) (saw seen)

hit_back : (seen : List Ball) → bytes_in (sent_messages 0 (hits seen)) ≡ seen
hit_back [] = refl
hit_back (b ∷ seen) = ap (λ (l : List Ball). b ∷ l) (hit_back seen)

one_more : (xs ys : List Ball) (x : Ball) → ys ≡ xs ++ x ∷ [] → length xs ≡ length ys → ⊥
one_more xs ys x more same = let long : length ys ≡ length xs + 1 = ap (λ (l : List Ball). length l) more ∙ length-append xs (x ∷ []) in omega (arith, long, same)

-- as many balls came as were sent, so they are the same
pair_same : (s : SetupView) (from to : ℕ) (records : ℕ → Record) (sent came : List Ball) → PairMessages s from to records → bytes_in (sent_messages to (records from).calls) ≡ sent
    → bytes_in (received_messages from (records to).calls) ≡ came → length sent ≡ length came → came ≡ sent
pair_same s from to records sent came (AllReceived same) gave got many = sym got ∙ ap bytes_in same ∙ gave
pair_same s from to records sent came (OpenReceived message opened same) gave got many =
    absurd (one_more sent came message.bytes (sym got ∙ ap bytes_in same ∙ bytes_in-push (sent_messages to (records from).calls) message ∙ ap (λ (l : List Ball). l ++ message.bytes ∷ []) gave) many)
pair_same s from to records sent came (StillInFlight message posted same) gave got many =
    absurd (one_more came sent message.bytes (sym gave ∙ ap bytes_in same ∙ bytes_in-push (received_messages from (records to).calls) message ∙ ap (λ (l : List Ball). l ++ message.bytes ∷ []) got) (sym many))

-- the balls of two players
module _ (s : SetupView) (records : ℕ → Record) (balls seen back : List Ball) (serving : (records 0).calls ≡ serves balls back) (hitting : (records 1).calls ≡ hits seen)
    (all_seen : length seen ≡ length balls) (all_back : length back ≡ length balls) where
  pub seen_same : PairMessages s 0 1 records → seen ≡ balls
  seen_same pair = pair_same s 0 1 records balls seen pair
      (ap (λ (calls : List DataCall). bytes_in (sent_messages 1 calls)) serving ∙ served balls back all_back)
      (ap (λ (calls : List DataCall). bytes_in (received_messages 0 calls)) hitting ∙ saw seen) (sym all_seen)

  pub back_same : PairMessages s 0 1 records → PairMessages s 1 0 records → back ≡ balls
  back_same there here = pair_same s 1 0 records seen back here
      (ap (λ (calls : List DataCall). bytes_in (sent_messages 0 calls)) hitting ∙ hit_back seen)
      (ap (λ (calls : List DataCall). bytes_in (received_messages 1 calls)) serving ∙ came_back balls back all_back) (all_seen ∙ sym all_back) ∙ seen_same there

-- what a rally gives that both have played to its end, and that are home again
pub rallied : (end : ChipView) (w : SetupView) (first second : List Event) (balls seen back : List Ball) → about_in end ≡ w → w.nue ≡ 2 → events_in end 0 ≡ first → events_in end 1 ≡ second
    → ((from to : ℕ) → from < (about_in end).nue → PairMessages (about_in end) from to (records_in end)) → (record_of w 0 first).calls ≡ serves balls back
    → (record_of w 1 second).calls ≡ hits seen → length seen ≡ length balls → length back ≡ length balls → (seen ≡ balls) × (back ≡ balls)
rallied end w first second balls seen back about two events_0 events_1 messages serving hitting all_seen all_back =
    let ranks : (about_in end).nue ≡ 2 = ap (λ (s : SetupView). s.nue) about ∙ two in
    let there = messages 0 1 (omega (arith, ranks)) in
    let here = messages 1 0 (omega (arith, ranks)) in (
      seen_same (about_in end) (records_in end) balls seen back (same_calls 0 about events_0 ∙ serving) (same_calls 1 about events_1 ∙ hitting) all_seen all_back there,
      back_same (about_in end) (records_in end) balls seen back (same_calls 0 about events_0 ∙ serving) (same_calls 1 about events_1 ∙ hitting) all_seen all_back there here,
    )
