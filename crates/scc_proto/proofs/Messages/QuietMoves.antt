-- Moves that pass nothing, and what a sender's side tells of its stage.
use Rattle.std.proofs.Common.{◌≡◌, ◌≢◌, ℕ, suc, ◌==◌, Bool, true, false, true≢false, nat_le, if◌then◌else◌, List, [], ◌∷◌, ◌++◌, length, length-append, Option, Some, None, option_map, ⊎_elim, refl, sym, ◌∙◌, ap, ap₂, subst, arith}
use Rattle.std.proofs.lemmas.Bool.Decides.{nat_tests}
use Rattle.scc_base.specs.Calls.{DataCall, Bar, Message}
use Rattle.scc_base.specs.Setups.{SetupView, setup_key, root_of}
use Rattle.scc_base.proofs.Confluence.{equal_or_not}
use Rattle.scc_proto.specs.Tables.{table_with}
use Rattle.scc_proto.specs.Messages.{Notes, Progress, fresh_message, with_chunk, message_of, sent_messages, received_messages, send_to, note_word}
use Rattle.scc_proto.specs.Stages.{Part, Filling, Raised, Answered, Stage, Idle, Drafting, Sending, Between, Taking, Barrier, InFlight, Record}
use Rattle.scc_proto.specs.Moves.{draft_header, draft_chunk, read_chunk, lower_sent, look_ready, post_answered}
use Rattle.scc_proto.specs.Records.{chunk_of, last_of}
use Rattle.scc_proto.specs.Pairs.{Resting, Offering, sending_side, side_of_part, side_of_post}
use Rattle.scc_proto.specs.Singles.{IsPosted, is_free}
use Rattle.scc_proto.specs.Passed.{in_hand, gathered_barriers, is_gathered, passed_open, passed_calls, slot_by, slot_of}
use Rattle.scc_proto.specs.Legality.{Grows, ByNothing}
use Rattle.scc_proto.proofs.Barriers.BarrierFacts.{Counts, gathered-bar, bar_at, gathered_in}
use Rattle.scc_proto.proofs.Barriers.GroupRanks.{put_here, put_there}

-- an open call that is passed, where what matters of the lists and of the roots is the same
pub open_at : (s : SetupView) (k : ℕ) (st : Stage) (old new : ℕ → Record) → ((to : ℕ) → received_messages k (new to).calls ≡ received_messages k (old to).calls) → ((to : ℕ) → sent_messages to (new k).calls ≡ sent_messages to (old k).calls)
    → ((comm : ℕ) → is_gathered s comm k new ≡ is_gathered s comm k old) → passed_open s k st new ≡ passed_open s k st old
open_at s k Idle old new received sent gathers = refl
open_at s k (Drafting header chunk) old new received sent gathers = refl
open_at s k (Sending to part message chunk) old new received sent gathers =
    ap₂ (λ (a b : List Message). if length a == suc (length b) then send_to to (message_of (in_hand (chunk_of s) part message chunk)) ∷ [] else []) (received to) (sent to)
open_at s k (Between from message) old new received sent gathers = refl
open_at s k (Taking from message chunk) old new received sent gathers = refl
open_at s k (Barrier c seen released) old new received sent gathers = ap (λ (b : Bool). if b then Bar c ∷ [] else []) (gathers c)

-- where a rank is not in the midst of a send only the roots matter
pub open_free : (s : SetupView) (k : ℕ) (st : Stage) (old new : ℕ → Record) → is_free st ≡ true → ((comm : ℕ) → is_gathered s comm k new ≡ is_gathered s comm k old) → passed_open s k st new ≡ passed_open s k st old
open_free s k Idle old new free gathers = refl
open_free s k (Drafting header chunk) old new free gathers = absurd (true≢false (sym free))
open_free s k (Sending to part message chunk) old new free gathers = absurd (true≢false (sym free))
open_free s k (Between from message) old new free gathers = refl
open_free s k (Taking from message chunk) old new free gathers = refl
open_free s k (Barrier c seen released) old new free gathers = ap (λ (b : Bool). if b then Bar c ∷ [] else []) (gathers c)

pub slot_at_rank : (s : SetupView) (k : ℕ) (post : Option InFlight) (old new : ℕ → Record) → ((to : ℕ) → received_messages k (new to).calls ≡ received_messages k (old to).calls) → ((to : ℕ) → sent_messages to (new k).calls ≡ sent_messages to (old k).calls)
    → slot_by (chunk_of s) k post new ≡ slot_by (chunk_of s) k post old
slot_at_rank s k None old new received sent = refl
slot_at_rank s k (Some post) old new received sent =
    ap₂ (λ (a b : List Message). if length a == length b then None else Some (record { to = post.to; head = post.head; bytes = (with_chunk (chunk_of s) (fresh_message post.head) post.chunk).bytes })) (received post.to) (sent post.to)

module _ (s : SetupView) (me : ℕ) (records : ℕ → Record) (new : Record) (flips : new.flips ≡ (records me).flips) (bars : (comm : ℕ) → bar_at comm new.stage ≡ bar_at comm (records me).stage) where
  pub gathered_at : (comm n r : ℕ) → gathered_barriers comm n (table_with records me new r) ≡ gathered_barriers comm n (records r)
  gathered_at comm n r =
      ⊎_elim
      (λ (is : r ≡ me).
      ap (gathered_barriers comm n) (put_here records me r new is) ∙ gathered-bar comm n new
      ∙ ap₂ (λ (f : ℕ → ℕ) (b : Option Counts). gathered_in n (f comm) b) flips (bars comm)
      ∙ sym (gathered-bar comm n (records me)) ∙ ap (λ (k : ℕ). gathered_barriers comm n (records k)) (sym is))
      (λ (other : r ≢ me). ap (gathered_barriers comm n) (put_there records me r new other))
      (equal_or_not r me)

  pub flips_at_rank : (comm k : ℕ) → (table_with records me new k).flips comm ≡ (records k).flips comm
  flips_at_rank comm k =
      ⊎_elim
      (λ (is : k ≡ me). ap (λ (rec : Record). rec.flips comm) (put_here records me k new is) ∙ ap (λ (f : ℕ → ℕ). f comm) flips ∙ ap (λ (j : ℕ). (records j).flips comm) (sym is))
      (λ (other : k ≢ me). ap (λ (rec : Record). rec.flips comm) (put_there records me k new other))
      (equal_or_not k me)

  pub gathers_alike : (k comm : ℕ) → is_gathered s comm k (table_with records me new) ≡ is_gathered s comm k records
  gathers_alike k comm = ap₂ nat_le (flips_at_rank comm k) (gathered_at comm (last_of s comm k) (root_of s comm k))

  pub received_at : (k : ℕ) → received_messages k new.calls ≡ received_messages k (records me).calls → (to : ℕ) → received_messages k (table_with records me new to).calls ≡ received_messages k (records to).calls
  received_at k same to =
      ⊎_elim
      (λ (is : to ≡ me). ap (λ (rec : Record). received_messages k rec.calls) (put_here records me to new is) ∙ same ∙ ap (λ (j : ℕ). received_messages k (records j).calls) (sym is))
      (λ (other : to ≢ me). ap (λ (rec : Record). received_messages k rec.calls) (put_there records me to new other))
      (equal_or_not to me)

  pub sent_at_rank : (k : ℕ) → k ≢ me → (to : ℕ) → sent_messages to (table_with records me new k).calls ≡ sent_messages to (records k).calls
  sent_at_rank k other to = ap (λ (rec : Record). sent_messages to rec.calls) (put_there records me k new other)

  -- another rank passes and posts nothing
  pub passed_stays : (k : ℕ) → k ≢ me → received_messages k new.calls ≡ received_messages k (records me).calls → passed_calls s (table_with records me new) k ≡ passed_calls s records k
  passed_stays k other received =
      ap (λ (rec : Record). rec.calls ++ passed_open s k rec.stage (table_with records me new)) (put_there records me k new other)
      ∙ ap (λ (l : List DataCall). (records k).calls ++ l) (open_at s k (records k).stage records (table_with records me new) (received_at k received) (sent_at_rank k other) (gathers_alike k))

  pub slot_stays : (k : ℕ) → k ≢ me → received_messages k new.calls ≡ received_messages k (records me).calls → slot_of s (table_with records me new) k ≡ slot_of s records k
  slot_stays k other received =
      ap (λ (rec : Record). slot_by (chunk_of s) k rec.post (table_with records me new)) (put_there records me k new other)
      ∙ slot_at_rank s k (records k).post records (table_with records me new) (received_at k received) (sent_at_rank k other)

  pub passed_now : passed_calls s (table_with records me new) me ≡ new.calls ++ passed_open s me new.stage (table_with records me new)
  passed_now = ap (λ (rec : Record). rec.calls ++ passed_open s me rec.stage (table_with records me new)) (put_here records me me new refl)

  pub slot_now : slot_of s (table_with records me new) me ≡ slot_by (chunk_of s) me new.post (table_with records me new)
  slot_now = ap (λ (rec : Record). slot_by (chunk_of s) me rec.post (table_with records me new)) (put_here records me me new refl)

  pub sent_now : (to : ℕ) → sent_messages to (table_with records me new me).calls ≡ sent_messages to new.calls
  sent_now to = ap (λ (rec : Record). sent_messages to rec.calls) (put_here records me me new refl)

  -- a move passes nothing if it keeps the received messages, and this rank's passed calls and slot
  pub same_passed : ((k : ℕ) → received_messages k new.calls ≡ received_messages k (records me).calls) → passed_calls s (table_with records me new) me ≡ passed_calls s records me → slot_of s (table_with records me new) me ≡ slot_of s records me
      → Grows s.nue (setup_key s) (passed_calls s records) (slot_of s records) (passed_calls s (table_with records me new)) (slot_of s (table_with records me new))
  same_passed received own slot = ByNothing calls slots
    where
      calls : (k : ℕ) → passed_calls s (table_with records me new) k ≡ passed_calls s records k
      calls k =
          ⊎_elim
          (λ (is : k ≡ me). subst (λ (j : ℕ). passed_calls s (table_with records me new) j ≡ passed_calls s records j) (sym is) own)
          (λ (other : k ≢ me). passed_stays k other (received k))
          (equal_or_not k me)

      slots : (k : ℕ) → slot_of s (table_with records me new) k ≡ slot_of s records k
      slots k =
          ⊎_elim
          (λ (is : k ≡ me). subst (λ (j : ℕ). slot_of s (table_with records me new) j ≡ slot_of s records j) (sym is) slot)
          (λ (other : k ≢ me). slot_stays k other (received k))
          (equal_or_not k me)

  -- a move that finishes no call, and passes and posts nothing
  pub quiet : new.calls ≡ (records me).calls → slot_by (chunk_of s) me new.post records ≡ slot_by (chunk_of s) me (records me).post records → passed_open s me new.stage records ≡ passed_open s me (records me).stage records
      → Grows s.nue (setup_key s) (passed_calls s records) (slot_of s records) (passed_calls s (table_with records me new)) (slot_of s (table_with records me new))
  quiet calls post open_call =
      same_passed received
      (passed_now ∙ ap₂ (λ (l more : List DataCall). l ++ more) calls (open_at s me new.stage records (table_with records me new) (received_at me (received me)) sent (gathers_alike me) ∙ open_call))
      (slot_now ∙ slot_at_rank s me new.post records (table_with records me new) (received_at me (received me)) sent ∙ post)
    where
      received : (k : ℕ) → received_messages k new.calls ≡ received_messages k (records me).calls
      received k = ap (received_messages k) calls

      sent : (to : ℕ) → sent_messages to (table_with records me new me).calls ≡ sent_messages to (records me).calls
      sent to = sent_now to ∙ ap (sent_messages to) calls

-- ---- moves that pass nothing

pub draft_header-passed : (s : SetupView) (me k v : ℕ) (st : Stage) (records : ℕ → Record) → passed_open s me (draft_header k v st) records ≡ passed_open s me st records
draft_header-passed s me k v Idle records = refl
draft_header-passed s me k v (Drafting header chunk) records = refl
draft_header-passed s me k v (Sending to part message chunk) records = refl
draft_header-passed s me k v (Between from message) records = refl
draft_header-passed s me k v (Taking from message chunk) records = refl
draft_header-passed s me k v (Barrier c seen released) records = refl

pub draft_chunk-passed : (s : SetupView) (me k v : ℕ) (st : Stage) (records : ℕ → Record) → passed_open s me (draft_chunk k v st) records ≡ passed_open s me st records
draft_chunk-passed s me k v Idle records = refl
draft_chunk-passed s me k v (Drafting header chunk) records = refl
draft_chunk-passed s me k v (Sending to Filling message chunk) records = refl
draft_chunk-passed s me k v (Sending to Raised message chunk) records = refl
draft_chunk-passed s me k v (Sending to Answered message chunk) records = refl
draft_chunk-passed s me k v (Between from message) records = refl
draft_chunk-passed s me k v (Taking from message chunk) records = refl
draft_chunk-passed s me k v (Barrier c seen released) records = refl

-- a choice between two stages with the same passed call
pub either_passed : (s : SetupView) (me : ℕ) (records : ℕ → Record) (l : List DataCall) (b : Bool) (one other : Stage) → passed_open s me one records ≡ l → passed_open s me other records ≡ l → passed_open s me (if b then one else other) records ≡ l
either_passed s me records l true one other first second = first
either_passed s me records l false one other first second = second

pub read_chunk-passed : (s : SetupView) (me from k v : ℕ) (st : Stage) (records : ℕ → Record) → passed_open s me (read_chunk from k v st) records ≡ passed_open s me st records
read_chunk-passed s me from k v Idle records = refl
read_chunk-passed s me from k v (Drafting header chunk) records = refl
read_chunk-passed s me from k v (Sending to part message chunk) records = refl
read_chunk-passed s me from k v (Between i message) records = refl
read_chunk-passed s me from k v (Taking i message chunk) records = either_passed s me records [] (i == from) (Taking i message (note_word k v chunk)) (Taking i message chunk) refl refl
read_chunk-passed s me from k v (Barrier c seen released) records = refl

pub lower_sent-passed : (s : SetupView) (me from : ℕ) (header : Notes) (st : Stage) (records : ℕ → Record) → passed_open s me (lower_sent from header st) records ≡ passed_open s me st records
lower_sent-passed s me from header Idle records = refl
lower_sent-passed s me from header (Drafting noted chunk) records = refl
lower_sent-passed s me from header (Sending to part message chunk) records = refl
lower_sent-passed s me from header (Between i message) records = refl
lower_sent-passed s me from header (Taking i message chunk) records = refl
lower_sent-passed s me from header (Barrier c seen released) records = refl

pub look_ready-passed : (s : SetupView) (me : ℕ) (is_set : ℕ → Bool) (st : Stage) (records : ℕ → Record) → passed_open s me (look_ready is_set st) records ≡ passed_open s me st records
look_ready-passed s me is_set Idle records = refl
look_ready-passed s me is_set (Drafting header chunk) records = refl
look_ready-passed s me is_set (Sending to Filling message chunk) records = refl
look_ready-passed s me is_set (Sending to Raised message chunk) records = either_passed s me records (passed_open s me (Sending to Raised message chunk) records) (is_set to) (Sending to Answered message chunk) (Sending to Raised message chunk) refl refl
look_ready-passed s me is_set (Sending to Answered message chunk) records = refl
look_ready-passed s me is_set (Between i message) records = refl
look_ready-passed s me is_set (Taking i message chunk) records = refl
look_ready-passed s me is_set (Barrier c seen released) records = refl

pub look_ready-slot : (size me : ℕ) (is_set : ℕ → Bool) (post : Option InFlight) (records : ℕ → Record) → slot_by size me (option_map (post_answered is_set) post) records ≡ slot_by size me post records
look_ready-slot size me is_set None records = refl
look_ready-slot size me is_set (Some post) records = refl

-- ---- the sides of a pair

pub no_post_beside : (s : SetupView) (me : ℕ) (post : Option InFlight) (st : Stage) → IsPosted s me st post → is_free st ≡ false → post ≡ None
no_post_beside s me None st posted busy = refl
no_post_beside s me (Some post) st posted busy = absurd (true≢false (sym posted.free ∙ busy))

-- who offers a chunk that is not posted is in its send
pub offering_sends : (r : ℕ) (st : Stage) (post : Option InFlight) (message : Progress) (chunk : Notes) → sending_side r st post ≡ Offering false false message chunk → st ≡ Sending r Raised message chunk
offering_sends r st post message chunk is = by_stage st is
  where
    none_posted : (p : Option InFlight) → side_of_post r p ≡ Offering false false message chunk → ⊥
    none_posted None is = cc
    none_posted (Some p) is = by_test (p.to == r) is
      where
        by_test : (b : Bool) → (if b then Offering p.is_answered true (fresh_message p.head) p.chunk else Resting None) ≡ Offering false false message chunk → ⊥
        by_test true is = cc
        by_test false is = cc

    by_part : (to : ℕ) (part : Part) (m : Progress) (c : Notes) → to ≡ r → side_of_part part m c ≡ Offering false false message chunk → Sending to part m c ≡ Sending r Raised message chunk
    by_part to Filling m c here is = absurd cc
    by_part to Raised m c here is = cc
    by_part to Answered m c here is = absurd cc

    by_stage : (st : Stage) → sending_side r st post ≡ Offering false false message chunk → st ≡ Sending r Raised message chunk
    by_stage (Sending to part m c) is = by_test (to == r) refl is
      where
        by_test : (b : Bool) → (to == r) ≡ b → (if b then side_of_part part m c else Resting None) ≡ Offering false false message chunk → Sending to part m c ≡ Sending r Raised message chunk
        by_test true at is = by_part to part m c (grind (arith, nat_tests)) is
        by_test false at is = absurd cc
    by_stage Idle is = absurd (none_posted post is)
    by_stage (Drafting header c) is = absurd (none_posted post is)
    by_stage (Between from m) is = absurd (none_posted post is)
    by_stage (Taking from m c) is = absurd (none_posted post is)
    by_stage (Barrier c seen released) is = absurd (none_posted post is)

-- what is posted where a posted chunk is offered
pub record IsPostOf (r : ℕ) (post : Option InFlight) (message : Progress) (chunk : Notes) : Type 0 where
  pub message_on_way : InFlight
  pub is : post ≡ Some message_on_way
  pub to : message_on_way.to ≡ r
  pub begun_is : fresh_message message_on_way.head ≡ message
  pub chunk_is : message_on_way.chunk ≡ chunk

pub offering_posts : (r : ℕ) (st : Stage) (post : Option InFlight) (a : Bool) (message : Progress) (chunk : Notes) → sending_side r st post ≡ Offering a true message chunk → IsPostOf r post message chunk
offering_posts r st post a message chunk is = by_stage st is
  where
    by_post : (p : Option InFlight) → side_of_post r p ≡ Offering a true message chunk → IsPostOf r p message chunk
    by_post None is = absurd cc
    by_post (Some p) is = by_test (p.to == r) refl is
      where
        by_test : (b : Bool) → (p.to == r) ≡ b → (if b then Offering p.is_answered true (fresh_message p.head) p.chunk else Resting None) ≡ Offering a true message chunk → IsPostOf r (Some p) message chunk
        by_test true at is = record { message_on_way = p; is = refl; to = grind (arith, nat_tests); begun_is = cc; chunk_is = cc }
        by_test false at is = absurd cc

    by_part : (part : Part) (m : Progress) (c : Notes) → side_of_part part m c ≡ Offering a true message chunk → ⊥
    by_part Filling m c is = cc
    by_part Raised m c is = cc
    by_part Answered m c is = cc

    by_stage : (st : Stage) → sending_side r st post ≡ Offering a true message chunk → IsPostOf r post message chunk
    by_stage (Sending to part m c) is = by_test (to == r) is
      where
        by_test : (b : Bool) → (if b then side_of_part part m c else Resting None) ≡ Offering a true message chunk → IsPostOf r post message chunk
        by_test true is = absurd (by_part part m c is)
        by_test false is = absurd cc
    by_stage Idle is = by_post post is
    by_stage (Drafting header c) is = by_post post is
    by_stage (Between from m) is = by_post post is
    by_stage (Taking from m c) is = by_post post is
    by_stage (Barrier c seen released) is = by_post post is

-- ---- lengths of lists of messages

pub one_more : (l : List Message) (x : Message) → length (l ++ x ∷ []) ≡ suc (length l)
one_more l x = length-append l (x ∷ []) ∙ omega arith

pub test_same : (a b : ℕ) → a ≡ b → (a == b) ≡ true
test_same a b same = grind (arith, nat_tests)

pub test_apart : (a b : ℕ) → a ≢ b → (a == b) ≡ false
test_apart a b apart = grind (arith, nat_tests)

pub not_received : (got sent : List Message) → got ≡ sent → (length got == suc (length sent)) ≡ false
not_received got sent level = test_apart (length got) (suc (length sent)) (λ is. let same = ap length level in absurd (omega (arith, is, same)))
