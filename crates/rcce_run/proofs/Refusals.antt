-- The states before the mismatches are reached by the calls alone, and the mismatches come last, rank after rank.
use Rattle.std.proofs.Common.{◌≡◌, ◌≢◌, ◌⊎◌, inl, inr, ⊎_elim, ℕ, zero, suc, ◌<◌, ◌≤◌, Bool, true, false, nat_lt, if◌then◌else◌, List, [], ◌++◌, length, Option, Some, None, refl, sym, ap, ◌∙◌, subst, arith}
use Rattle.std.specs.Option.{option_map}
use Rattle.std.proofs.lemmas.Bool.{cases_lt}
use Rattle.scc_base.specs.Heads.{MessageHead}
use Rattle.scc_base.specs.Runs.{Runs}
use Rattle.scc_base.specs.Setups.{SetupView, setup_key}
use Rattle.scc_base.proofs.ChangeLaws.{true_or_false}
use Rattle.scc_base.proofs.Confluence.{in_some_order}
use Rattle.scc_proto.specs.Legality.{Outgoing, OwnStep, IsUsedUp, no_slots}
use Rattle.scc_proto.specs.Messages.{Notes, StandsIn, Progress, fresh_message, head_of, sent_messages, received_messages}
use Rattle.scc_proto.specs.Pairs.{Resting, Offering, side_of_part, side_of_post, sending_side, message_so_far, pending, NotesStand, pair_of}
use Rattle.scc_proto.specs.Passed.{passed_open, passed_calls, slot_by, slot_of}
use Rattle.scc_proto.specs.Records.{chunk_of}
use Rattle.scc_proto.specs.Singles.{IsPosted, is_free}
use Rattle.scc_proto.specs.Stages.{Part, Filling, Raised, Answered, Stage, Idle, Drafting, Sending, Between, Taking, Barrier, InFlight, Record}
use Rattle.scc_proto.specs.Tables.{table_with}
use Rattle.scc_proto.specs.Views.{view_of}
use Rattle.scc_proto.specs.Words.{Memory}
use Rattle.scc_proto.proofs.Words.NoteFacts.{head_is}
use Rattle.scc_proto.proofs.Pairs.OfferFacts.{offers}
use Rattle.scc_proto.proofs.Pairs.PhaseFacts.{Raise, when_seen, sending_here, sending_there, post_here, post_there}
use Rattle.scc_proto.proofs.Tests.{same_or_other, peers_are}
use Rattle.script_machine.specs.declared.posts.Posted.{Posted}
use Rattle.script_machine.specs.Next.{Next}
use Rattle.script_machine.specs.Next.Next.{Ends, Goes, Posts, Sends, Recvs, Bars}
use Rattle.plain_meaning.specs.Paths.{DidCalls}
use Rattle.plain_meaning.specs.Paths.DidCalls.{Here}
use Rattle.plain_meaning.specs.Step.{Configuration, IsStepOf, next_at, slot_at, same_head, with_cell}
use Rattle.plain_meaning.proofs.Messages.MessageLaws.{same_heads}
use Rattle.plain_meaning.proofs.Runs.StepLaws as steps
use Rattle.plain_meaning.proofs.Runs.StepLaws.Takes.{RefusedPost, RefusedSend}
use Rattle.chip_run.specs.Waiting.{IsLooking, BarWaits, AtRoot, AtMember}
use Rattle.rcce_run.specs.Sweep.{Refused, IsStateOfRecord, Running, Stopped, Failed, Swept, keep, slots_by, outgoing, HoldsStates}
use Rattle.rcce_run.proofs.Holding.{posted_there, mixed, mixed_here, mixed_next, rank_after_rank, holds_same, holds_cell, next_held, slot_held}
use Rattle.rcce_run.proofs.Reach.{Leads, reach}
use Rattle.chip_run.proofs.Offers.{message_on, one_ahead, slot_full}
use Rattle.rcce_run.proofs.Still.{none_passed}

-- heads that differ
pub other_heads : (sent asked : MessageHead) → sent ≢ asked → same_head sent asked ≡ false
other_heads sent asked other =
    ⊎_elim (λ (is : same_head sent asked ≡ true). absurd (other (same_heads sent asked is))) (λ (is : same_head sent asked ≡ false). is) (true_or_false (same_head sent asked))

-- a posted message that is offered to a rank
pub record Posting (to : ℕ) (m : Progress) (o : Option InFlight) : Type 0 where
  pub post : InFlight
  pub is_posted : o ≡ Some post
  pub to_is : post.to ≡ to
  pub message_is : fresh_message post.head ≡ m

offered_post : (to : ℕ) (a : Bool) (m : Progress) (c : Notes) (o : Option InFlight) → side_of_post to o ≡ Offering a true m c → Posting to m o
offered_post to a m c None is = absurd (cc (is))
offered_post to a m c (Some post) is = same_or_other (Posting to m (Some post)) post.to to
    (λ t e. let side : Offering post.is_answered true (fresh_message post.head) post.chunk ≡ Offering a true m c = sym (post_here to post t) ∙ is in
    record { post = post; is_posted = refl; to_is = e; message_is = cc (side) })
    (λ t ne. absurd (let side : Resting None ≡ Offering a true m c = sym (post_there to post t) ∙ is in cc (side)))

no_send : (to : ℕ) (a p : Bool) (m : Progress) (c : Notes) (part : Part) (message : Progress) (chunk : Notes) → side_of_part part message chunk ≡ Offering a p m c → p ≡ false
no_send to a p m c Filling message chunk is = absurd (cc (is))
no_send to a p m c Raised message chunk is = cc (is)
no_send to a p m c Answered message chunk is = cc (is)

pub posting : (to : ℕ) (a : Bool) (m : Progress) (c : Notes) (st : Stage) (o : Option InFlight) → sending_side to st o ≡ Offering a true m c → Posting to m o
posting to a m c Idle o is = offered_post to a m c o is
posting to a m c (Drafting header chunk) o is = offered_post to a m c o is
posting to a m c (Sending j part message chunk) o is = absurd (same_or_other ⊥ j to
    (λ t e. let un_sent = no_send to a true m c part message chunk (sym (sending_here to j part message chunk o t) ∙ is) in cc (un_sent))
    (λ t ne. let side : Resting None ≡ Offering a true m c = sym (sending_there to j part message chunk o t) ∙ is in cc (side)))
posting to a m c (Between from message) o is = offered_post to a m c o is
posting to a m c (Taking from message chunk) o is = offered_post to a m c o is
posting to a m c (Barrier comm seen released) o is = offered_post to a m c o is

-- a message that is offered and not posted is one that is being sent
same_part : (a p : Bool) (m : Progress) (c : Notes) (part : Part) (message : Progress) (chunk : Notes) → side_of_part part message chunk ≡ Offering a p m c → message ≡ m
same_part a p m c Filling message chunk is = absurd (cc (is))
same_part a p m c Raised message chunk is = cc (is)
same_part a p m c Answered message chunk is = cc (is)

no_post : (to : ℕ) (a : Bool) (m : Progress) (c : Notes) (o : Option InFlight) → side_of_post to o ≡ Offering a false m c → ⊥
no_post to a m c None is = cc (is)
no_post to a m c (Some post) is = same_or_other ⊥ post.to to
    (λ t e. let side : Offering post.is_answered true (fresh_message post.head) post.chunk ≡ Offering a false m c = sym (post_here to post t) ∙ is in cc (side))
    (λ t ne. let side : Resting None ≡ Offering a false m c = sym (post_there to post t) ∙ is in cc (side))

pub sending : (to : ℕ) (a : Bool) (m : Progress) (c : Notes) (st : Stage) (o : Option InFlight) → sending_side to st o ≡ Offering a false m c → (part : Part) × (chunk : Notes) × (st ≡ Sending to part m chunk)
sending to a m c Idle o is = absurd (no_post to a m c o is)
sending to a m c (Drafting header chunk) o is = absurd (no_post to a m c o is)
sending to a m c (Sending j part message chunk) o is = same_or_other ((p : Part) × (w : Notes) × (Sending j part message chunk ≡ Sending to p m w)) j to
    (λ t e. let same = same_part a false m c part message chunk (sym (sending_here to j part message chunk o t) ∙ is) in (part, chunk, λ i. Sending (e i) part (same i) chunk))
    (λ t ne. absurd (let side : Resting None ≡ Offering a false m c = sym (sending_there to j part message chunk o t) ∙ is in cc (side)))
sending to a m c (Between from message) o is = absurd (no_post to a m c o is)
sending to a m c (Taking from message chunk) o is = absurd (no_post to a m c o is)
sending to a m c (Barrier comm seen released) o is = absurd (no_post to a m c o is)

-- a rank that sends something posts nothing
no_post_beside : (s : SetupView) (k to : ℕ) (part : Part) (m : Progress) (c : Notes) (st : Stage) → st ≡ Sending to part m c → (o : Option InFlight) → IsPosted s k st o → o ≡ None
no_post_beside s k to part m c st is None posted = refl
no_post_beside s k to part m c st is (Some post) posted = absurd (let free = posted.free in let busy = ap is_free is in cc (free, busy))

module _ {U : Type 0} (next : U → Next U) (s : SetupView) (memory : Memory) (records : ℕ → Record) (starts states : ℕ → U) (lasts : ℕ → Option Posted) (sw : Swept next s memory records starts states lasts) where
  -- a rank before its mismatch, if it has one
  record First (k : ℕ) : Type 0 where
    before : U
    end : Option Posted
    did : DidCalls next before end (starts k) None (passed_calls s records k)
    after : k < s.nue → (before ≡ states k) ⊎ Refused next s k (records k) before (states k)
    last : k < s.nue → end ≡ lasts k

  passed_past : (k : ℕ) → s.nue ≤ k → passed_calls s records k ≡ []
  passed_past k past = ap (λ (r : Record). r.calls ++ passed_open s k r.stage records) (sw.agrees.singles.1 k past)

  slot_past : (k : ℕ) → s.nue ≤ k → slot_of s records k ≡ None
  slot_past k past = ap (λ (r : Record). slot_by (chunk_of s) k r.post records) (sw.agrees.singles.1 k past)

  first_stood : (k : ℕ) → k < s.nue → IsStateOfRecord next s k (starts k) (records k) (states k) (lasts k) → First k
  first_stood k low (Running did) = record {
    before = states k;
    end = lasts k;
    did = subst (DidCalls next (states k) (lasts k) (starts k) None) (sym (none_passed next s memory records starts states lasts sw k low)) did;
    after = λ below. inl refl;
    last = λ below. refl;
  }
  first_stood k low (Stopped before did refused) = record {
    before = before;
    end = lasts k;
    did = subst (DidCalls next before (lasts k) (starts k) None) (sym (none_passed next s memory records starts states lasts sw k low)) did;
    after = λ below. inr refused;
    last = λ below. refl;
  }

  first_by : (k : ℕ) → (k < s.nue) ⊎ (s.nue ≤ k) → First k
  first_by k (inl low) = first_stood k low (sw.stands k low)
  first_by k (inr past) = record {
    before = starts k;
    end = None;
    did = subst (DidCalls next (starts k) None (starts k) None) (sym (passed_past k past)) Here;
    after = λ low. absurd (omega (arith, low, past));
    last = λ low. absurd (omega (arith, low, past));
  }

  abbrev first : (k : ℕ) → First k
  first k = first_by k (cases_lt k s.nue)

  abbrev Slots : ℕ → Option Posted
  Slots = slots_by s records lasts

  abbrev befores : ℕ → U
  befores k = (first k).before

  -- plain steps lead to a configuration that holds these states
  abbrev pub LeadsTo : (ℕ → U) → Configuration U → Type 0
  LeadsTo cells c = (f : Configuration U) × (n : ℕ) × Runs (IsStepOf (setup_key s) next) (λ d. d ≡ f) n c × HoldsStates s.nue f cells (slots_by s records lasts)

  leads_step : (cells : ℕ → U) (a : ℕ) (c d : Configuration U) → IsStepOf (setup_key s) next a c d → LeadsTo cells d → LeadsTo cells c
  leads_step cells a c d step (f, n, run, holds) = (f, suc n, (a, d, step, run), holds)

  leads_on : (cells others : ℕ → U) → ((d : Configuration U) → HoldsStates s.nue d cells Slots → LeadsTo others d) → (n : ℕ) (c f : Configuration U) → Runs (IsStepOf (setup_key s) next) (λ d. d ≡ f) n c
      → HoldsStates s.nue f cells Slots → LeadsTo others c
  leads_on cells others finish zero c f same holds = finish c (subst (λ (d : Configuration U). HoldsStates s.nue d cells Slots) (sym same) holds)
  leads_on cells others finish (suc n) c f (a, d, step, run) holds = leads_step others a c d step (leads_on cells others finish n d f run holds)

  by_reach : (c : Configuration U) → HoldsStates s.nue c starts (λ k. None) → Leads s.nue (setup_key s) next befores (λ k. (first k).end) (slot_of s records) c
  by_reach c holds =
      let (n, run) = sw.agrees.calls in
      let used : IsUsedUp (slot_of s records) ≡ IsUsedUp (slot_of s records) = refl in
      reach s.nue (setup_key s) next befores (λ k. (first k).end) (slot_of s records) n c (record { calls = passed_calls s records; slots = no_slots })
      (record {
        cells = starts;
        lasts = λ k. None;
        slots = λ k. None;
        holds = holds;
        dids = λ k. (first k).did;
        kept = λ k. refl;
        told = λ k. refl;
        none = passed_past;
        empty = λ k past. refl;
      })
      (in_some_order (OwnStep s.nue (setup_key s)) (IsUsedUp (slot_of s records)) n _ run)

  same_slots : (k : ℕ) → k < s.nue → keep (slot_of s records k) (first k).end ≡ Slots k
  same_slots k low = ap (keep (slot_of s records k)) ((first k).last low)

  -- the slots, told by the records
  told_by : (c : Configuration U) → HoldsStates s.nue c starts (λ k. None) → (k : ℕ) → option_map outgoing (slots_by s records lasts k) ≡ slot_of s records k
  told_by c holds k =
      let (f, n, run, held, told) = by_reach c holds in
      ⊎_elim
      (λ (low : k < s.nue). ap (option_map outgoing) (sym (same_slots k low)) ∙ told k)
      (λ (past : s.nue ≤ k). ap (λ (o : Option Outgoing). option_map outgoing (keep o (lasts k))) (slot_past k past) ∙ sym (slot_past k past))
      (cases_lt k s.nue)

  -- what stands next at the sender of a message that is being sent
  sender : (k to : ℕ) (part : Part) (m : Progress) (w : Notes) → k < s.nue → (records k).stage ≡ Sending to part m w → (bytes : List ℕ) × (after : U) × (next (states k) ≡ Sends to m.head bytes after)
  sender k to part m w low stage = by (next (states k)) refl (sw.failed k low)
    where
      not_looking : (from : ℕ) (st : Stage) → st ≡ Sending to part m w → IsLooking from st → ⊥
      not_looking from st is looks = subst (IsLooking from) is looks

      not_bar : (comm : ℕ) → BarWaits s (view_of s memory) k comm (records k) → ⊥
      not_bar comm (AtRoot seen j present zeroth bar less below grouped placed failed) = cc (stage, bar)
      not_bar comm (AtMember present other bar failed) = cc (stage, bar)

      by : (n : Next U) → next (states k) ≡ n → Failed s (view_of s memory) k (records k) n → (bytes : List ℕ) × (after : U) × (next (states k) ≡ Sends to m.head bytes after)
      by Ends is failed = absurd (cc (stage, failed))
      by (Goes after) is failed = absurd failed
      by (Posts message after) is failed = absurd (let idle = failed.stage in cc (stage, idle))
      by (Sends j head bytes after) is (inl slot) = absurd (let idle = slot.stage in cc (stage, idle))
      by (Sends j head bytes after) is (inr raise) =
          let at = raise.stage in
          let to_is : j ≡ to = cc (stage, at) in
          let message_is : raise.message ≡ m = cc (stage, at) in
          let head_same : head ≡ m.head = sym raise.head_is ∙ ap (λ (x : Progress). x.head) message_is in
          (bytes, after, is ∙ (λ i. Sends (to_is i) (head_same i) bytes after))
      by (Recvs from head take refuse) is failed = absurd (not_looking from (records k).stage stage failed.stage)
      by (Bars comm after) is failed = absurd (not_bar comm failed)

  module _ (told : (k : ℕ) → option_map outgoing (slots_by s records lasts k) ≡ slot_of s records k) where
    module _ (k : ℕ) (low : k < s.nue) (before : U) (refused : Refused next s k (records k) before (states k)) (c : Configuration U)
        (at : next_at next c k ≡ Recvs refused.from refused.asked refused.take refused.refuse)
        (slots : slot_at c refused.from ≡ slots_by s records lasts refused.from)
        (theirs : next (states refused.from) ≢ Ends → next_at next c refused.from ≡ next (states refused.from)) where
      -- the mismatch of one rank is a plain step to the state where it is stopped
      abbrev IsRefusal : Type 0
      IsRefusal = IsStepOf (setup_key s) next k c (with_cell c k (states k))

      below : refused.from < s.nue
      below = (peers_are s refused.from k refused.peers).one

      by_post : (m : Progress) → head_of refused.header ≡ m.head → length (received_messages refused.from (records k).calls) ≢ length (sent_messages k (records refused.from).calls)
          → Posting k m (records refused.from).post → IsRefusal
      by_post m head apart on =
          let i = refused.from in
          let count : length (received_messages i (records on.post.to).calls) ≢ length (sent_messages on.post.to (records i).calls) =
          subst (λ (x : ℕ). length (received_messages i (records x).calls) ≢ length (sent_messages x (records i).calls)) (sym on.to_is) apart in
          let full = slot_full s memory records sw.agrees i on.post on.is_posted count in
          let (message, here, is) = posted_there (slots_by s records lasts i) (message_on s on.post) (told i ∙ full) in
          let to_is : message.to ≡ k = ap (λ (o : Outgoing). o.to) is ∙ on.to_is in
          let heads : message.head ≡ head_of refused.header = ap (λ (o : Outgoing). o.head) is ∙ ap (λ (x : Progress). x.head) on.message_is ∙ sym head in
          let other : same_head message.head refused.asked ≡ false = other_heads message.head refused.asked (λ same. refused.another (sym heads ∙ same)) in
          let made : states k ≡ refused.refuse message.head = refused.stopped ∙ ap refused.refuse (sym heads) in
          steps.answered (setup_key s) next c (with_cell c k (states k)) k
          (RefusedPost i refused.asked refused.take refused.refuse message at (slots ∙ here) to_is other (ap (with_cell c k) made))

      by_send : (m : Progress) → head_of refused.header ≡ m.head → (part : Part) × (w : Notes) × ((records refused.from).stage ≡ Sending k part m w) → IsRefusal
      by_send m head (part, w, stage) =
          let i = refused.from in
          let (bytes, after, sends) = sender i k part m w below stage in
          let no_post : (records i).post ≡ None = no_post_beside s i k part m w (records i).stage stage (records i).post (sw.agrees.singles.0 i below).post in
          let free : slot_at c i ≡ None =
          slots ∙ ap (λ (o : Option InFlight). keep (slot_by (chunk_of s) i o records) (lasts i)) no_post in
          let there : next_at next c i ≡ Sends k m.head bytes after = theirs (λ e. cc (e, sends)) ∙ sends in
          let other : same_head m.head refused.asked ≡ false = other_heads m.head refused.asked (λ same. refused.another (head ∙ same)) in
          let made : states k ≡ refused.refuse m.head = refused.stopped ∙ ap refused.refuse head in
          steps.answered (setup_key s) next c (with_cell c k (states k)) k
          (RefusedSend i refused.asked refused.take refused.refuse m.head bytes after at free there other (ap (with_cell c k) made))

      pub refusal : IsRefusal
      refusal =
          let i = refused.from in
          let raise = when_seen (chunk_of s) (pair_of i k (view_of s memory) (records i) (records k)) refused.header refused.seen (sw.agrees.pairs i k refused.peers) in
          let m : Progress = message_so_far raise.through raise.head in
          let stands : StandsIn refused.header ((view_of s memory).header i) = subst (λ (o : Option Notes). NotesStand o ((view_of s memory).header i)) refused.seen raise.is.notes in
          by_kind raise m refl
          (head_is refused.header m.head raise.is_post ((view_of s memory).header i) refused.noted stands
          (offers s i k false raise.is_post m raise.chunk ((view_of s memory).header i) ((view_of s memory).chunk i) (records i) (sw.agrees.singles.0 i below) (sw.agrees.senders i below) raise.is.sending).line)
          raise.is_post refl
        where
          by_kind : (raise : Raise (chunk_of s) (pair_of refused.from k (view_of s memory) (records refused.from) (records k))) (m : Progress) → message_so_far raise.through raise.head ≡ m
              → head_of refused.header ≡ m.head → (b : Bool) → raise.is_post ≡ b → IsRefusal
          by_kind raise m is head true post =
              let side : sending_side k (records refused.from).stage (records refused.from).post ≡ Offering false true m raise.chunk =
              raise.is.sending ∙ (λ i. Offering false (post i) (is i) raise.chunk) in
              let level = raise.is.level ∙ (λ i. received_messages refused.from (records k).calls ++ pending (chunk_of s) (post i) (is i) raise.chunk) in
              by_post m head
              (one_ahead (chunk_of s) (pair_of refused.from k (view_of s memory) (records refused.from) (records k)) m raise.chunk (record { level = level; seen = inl raise.is.sent_flag }))
              (posting k false m raise.chunk (records refused.from).stage (records refused.from).post side)
          by_kind raise m is head false post =
              let side : sending_side k (records refused.from).stage (records refused.from).post ≡ Offering false false m raise.chunk =
              raise.is.sending ∙ (λ i. Offering false (post i) (is i) raise.chunk) in
              by_send m head (sending k false m raise.chunk (records refused.from).stage (records refused.from).post side)

    -- a rank that does not end is as it was before all mismatches
    unmoved : (n k : ℕ) → k < s.nue → next (states k) ≢ Ends → mixed states befores n k ≡ states k
    unmoved n k low goes = by (nat_lt k n)
      where
        same : befores k ≡ states k
        same = ⊎_elim (λ (is : befores k ≡ states k). is) (λ (refused : Refused next s k (records k) (befores k) (states k)). absurd (goes refused.ends)) ((first k).after low)

        by : (b : Bool) → (if b then states k else befores k) ≡ states k
        by true = refl
        by false = same

    refuse_one : (n : ℕ) → n < s.nue → (c : Configuration U) → HoldsStates s.nue c (mixed states befores n) Slots → ((d : Configuration U) → HoldsStates s.nue d (mixed states befores (suc n)) Slots → LeadsTo states d) → LeadsTo states c
    refuse_one n low c holds finish =
        ⊎_elim
        (λ (same : befores n ≡ states n).
        finish c (holds_same s.nue c (mixed states befores n) (mixed states befores (suc n)) Slots Slots holds (λ k below. kept same k ∙ mixed_next states befores n k) (λ k below. refl)))
        (λ (refused : Refused next s n (records n) (befores n) (states n)).
        leads_step states n c (with_cell c n (states n))
        (refusal n low (befores n) refused c
        (next_held s.nue next c (mixed states befores n) Slots holds n low ∙ ap next (mixed_here states befores n) ∙ refused.stands)
        (slot_held s.nue next c (mixed states befores n) Slots holds refused.from (peers_are s refused.from n refused.peers).one)
        (λ goes. let below = (peers_are s refused.from n refused.peers).one in
        next_held s.nue next c (mixed states befores n) Slots holds refused.from below ∙ ap next (unmoved n refused.from below goes)))
        (finish (with_cell c n (states n))
        (holds_same s.nue (with_cell c n (states n)) (table_with (mixed states befores n) n (states n)) (mixed states befores (suc n)) Slots Slots
        (holds_cell s.nue c (mixed states befores n) Slots n (states n) holds) (λ k below. mixed_next states befores n k) (λ k below. refl))))
        ((first n).after low)
      where
        kept : befores n ≡ states n → (k : ℕ) → mixed states befores n k ≡ table_with (mixed states befores n) n (states n) k
        kept same k = same_or_other (mixed states befores n k ≡ table_with (mixed states befores n) n (states n) k) k n
            (λ t e. ap (mixed states befores n) e ∙ mixed_here states befores n ∙ same ∙ sym (ap (λ (b : Bool). if b then states n else mixed states befores n k) t))
            (λ t ne. sym (ap (λ (b : Bool). if b then states n else mixed states befores n k) t))

    refusals : (c : Configuration U) → HoldsStates s.nue c befores Slots → LeadsTo states c
    refusals c holds = rank_after_rank s.nue (LeadsTo states) befores states Slots refuse_one c holds (λ d held. (d, 0, refl, held))

  pub leads : (c : Configuration U) → HoldsStates s.nue c starts (λ k. None) → LeadsTo states c
  leads c holds =
      let (f, n, run, held, told) = by_reach c holds in
      leads_on befores states (refusals (told_by c holds)) n c f run
      (holds_same s.nue f befores befores (λ k. keep (slot_of s records k) (first k).end) Slots held (λ k low. refl) same_slots)

  pub told : (c : Configuration U) → HoldsStates s.nue c starts (λ k. None) → (k : ℕ) → option_map outgoing (slots_by s records lasts k) ≡ slot_of s records k
  told c holds = told_by c holds
