-- What stands next where the code decides on a step, and the step that the code takes.
use Rattle.std.proofs.Common.{◌≡◌, ◌≢◌, ℕ, ◌==◌, ◌<◌, ◌≤◌, ◌&&◌, not, ⊎_elim, Bool, true, false, cond, List, get_or, length, set, Option, Some, None, refl, sym, ap, ◌∙◌, slice_get, subst}
use Rattle.std.specs.Option.{option_map_or}
use Rattle.std.proofs.lemmas.Bool.{cases_lt, eqb-true}
use Rattle.std.proofs.lemmas.List.{get_or_past, get_or-set_other}
use Rattle.std.proofs.lemmas.Option.{get_or_from_slice_get, slice_get_within}
use Rattle.scc_base.specs.Groups.{is_with, root_in}
use Rattle.scc_base.specs.Heads.{MessageHead}
use Rattle.scc_base.specs.declared.calls.Call.{Call}
use Rattle.script_machine.specs.declared.posts.Posted.{Posted}
use Rattle.script_plain.specs.declared.steps.Step.{Step}
use Rattle.script_plain.specs.declared.steps.Step.TheVariants as step
use Rattle.script_plain.specs.Code.{HasLength, HasPosted, HasRefused, HasSent, HasTaken, IsAtPost, IsAtReceive, IsAtSend, call_decision, config, decision, match_decision, post_decision, receive_decision}
use Rattle.script_machine.specs.Local.{Local, local_next}
use Rattle.script_machine.specs.Moves.{length_asked}
use Rattle.script_machine.specs.Next.{Next, call_next, is_going}
use Rattle.script_machine.specs.Next.Next.{Ends, Goes, Posts, Sends, Recvs, Bars}
use Rattle.plain_meaning.specs.Step.{all_at_barrier, by_rank, next_at, past_if, same_head, slot_at, step_of}
use Rattle.script_plain.proofs.CodeSteps.CodeLaws.{fetches}
use Rattle.plain_meaning.proofs.Runs.RunLaws.{there}
use Rattle.script_machine.proofs.Choices as choices
use Rattle.plain_meaning.proofs.Runs.StepLaws as steps
use Rattle.script_plain.proofs.CodeSteps.UeLaws.{same_long}

-- a post of a rank whose slot is empty
pub record IsPost (ues : List Local) (slots : List (Option Posted)) (i : ℕ) : Type 0 where
  pub message : Posted
  pub after : Local
  pub stands : next_at local_next (config ues slots) i ≡ Posts message after
  pub slot : slot_at (config ues slots) i ≡ None

-- a send that is matched
pub record IsDelivery (ues : List Local) (slots : List (Option Posted)) (i j : ℕ) : Type 0 where
  pub head : MessageHead
  pub bytes : List ℕ
  pub after : Local
  pub asked : MessageHead
  pub take : List ℕ → Local
  pub refuse : MessageHead → Local
  pub stands : next_at local_next (config ues slots) i ≡ Sends j head bytes after
  pub slot : slot_at (config ues slots) i ≡ None
  pub meets : next_at local_next (config ues slots) j ≡ Recvs i asked take refuse
  pub same : same_head head asked ≡ true

-- a receive that refuses a message with this head
pub record IsRefusal (keys : ℕ → ℕ → ℕ) (ues : List Local) (slots : List (Option Posted)) (i : ℕ) (sent : MessageHead) : Type 0 where
  pub from : ℕ
  pub asked : MessageHead
  pub take : List ℕ → Local
  pub refuse : MessageHead → Local
  pub stands : next_at local_next (config ues slots) i ≡ Recvs from asked take refuse
  pub refuses : step_of keys local_next (config ues slots) i ≡ Some (config (set ues i (refuse sent)) slots)

-- a barrier at which a whole group stands, of which this rank is the first
pub record IsMet (keys : ℕ → ℕ → ℕ) (ues : List Local) (slots : List (Option Posted)) (i comm : ℕ) : Type 0 where
  pub after : Local
  pub stands : next_at local_next (config ues slots) i ≡ Bars comm after
  pub root : root_in (keys comm) i ≡ i
  pub all : all_at_barrier local_next comm (is_with (keys comm) i) ues ≡ true

module _ (keys : ℕ → ℕ → ℕ) (ues : List Local) (slots : List (Option Posted)) (i : ℕ) where
  -- what stands at a rank that owns this step
  abbrev pub Stands : Step → Type 0
  Stands step.Stays = Unit {0}
  Stands step.Goes = is_going (next_at local_next (config ues slots) i) ≡ true
  Stands step.Posts = IsPost ues slots i
  Stands (step.Matches j) = IsDelivery ues slots i j
  Stands (step.Takes j) = Unit {0}
  Stands (step.Mismatches sent) = IsRefusal keys ues slots i sent
  Stands (step.Passes comm) = IsMet keys ues slots i comm

  of_post : (message : Posted) (after : Local) (o : Option Posted) → next_at local_next (config ues slots) i ≡ Posts message after → slot_at (config ues slots) i ≡ o → Stands (post_decision o)
  of_post message after None stands slot = record { message = message; after = after; stands = stands; slot = slot }
  of_post message after (Some earlier) stands slot = tt

  of_test : (to : ℕ) (head : MessageHead) (bytes : List ℕ) (after : Local) (from : ℕ) (asked : MessageHead) (take : List ℕ → Local) (refuse : MessageHead → Local) (b : Bool) → next_at local_next (config ues slots) i ≡ Sends to head bytes after → slot_at (config ues slots) i ≡ None → next_at local_next (config ues slots) to ≡ Recvs from asked take refuse → ((from == i) && same_head head asked) ≡ b → Stands (cond b (step.Matches to) step.Stays)
  of_test to head bytes after from asked take refuse false stands slot met is = tt
  of_test to head bytes after from asked take refuse true stands slot met is =
      let tests = choices.both_true (from == i) (same_head head asked) is in
      record {
        head = head;
        bytes = bytes;
        after = after;
        asked = asked;
        take = take;
        refuse = refuse;
        stands = stands;
        slot = slot;
        meets = met ∙ ap (λ (r : ℕ). Recvs r asked take refuse) (eqb-true from i tests.0);
        same = tests.1;
      }

  of_send : (to : ℕ) (head : MessageHead) (bytes : List ℕ) (after : Local) (o : Option Posted) (m : Next Local) → next_at local_next (config ues slots) i ≡ Sends to head bytes after → slot_at (config ues slots) i ≡ o → next_at local_next (config ues slots) to ≡ m → Stands (match_decision i to head o (call_next m))
  of_send to head bytes after (Some earlier) m stands slot met = tt
  of_send to head bytes after None Ends stands slot met = tt
  of_send to head bytes after None (Goes on) stands slot met = tt
  of_send to head bytes after None (Posts message on) stands slot met = tt
  of_send to head bytes after None (Sends other sent more on) stands slot met = tt
  of_send to head bytes after None (Recvs from asked take refuse) stands slot met =
      of_test to head bytes after from asked take refuse ((from == i) && same_head head asked) stands slot met refl
  of_send to head bytes after None (Bars comm on) stands slot met = tt

  of_tests : (from : ℕ) (asked : MessageHead) (take : List ℕ → Local) (refuse : MessageHead → Local) (message : Posted) (mine same : Bool) → next_at local_next (config ues slots) i ≡ Recvs from asked take refuse → slot_at (config ues slots) from ≡ Some message → (message.to == i) ≡ mine → same_head message.head asked ≡ same → Stands (cond mine (cond same (step.Takes from) (step.Mismatches message.head)) step.Stays)
  of_tests from asked take refuse message false same stands slot mine is = tt
  of_tests from asked take refuse message true true stands slot mine is = tt
  of_tests from asked take refuse message true false stands slot mine is =
      record {
        from = from;
        asked = asked;
        take = take;
        refuse = refuse;
        stands = stands;
        refuses = steps.answered keys local_next (config ues slots) (config (set ues i (refuse message.head)) slots) i
            (steps.Takes.RefusedPost from asked take refuse message stands slot (eqb-true message.to i mine) is refl);
      }

  of_other : (from : ℕ) (asked : MessageHead) (take : List ℕ → Local) (refuse : MessageHead → Local) (to : ℕ) (sent : MessageHead) (bytes : List ℕ) (after : Local) (b : Bool) → next_at local_next (config ues slots) i ≡ Recvs from asked take refuse → slot_at (config ues slots) from ≡ None → next_at local_next (config ues slots) from ≡ Sends to sent bytes after → ((to == i) && not (same_head sent asked)) ≡ b → Stands (cond b (step.Mismatches sent) step.Stays)
  of_other from asked take refuse to sent bytes after false stands slot met is = tt
  of_other from asked take refuse to sent bytes after true stands slot met is =
      let tests = choices.both_true (to == i) (not (same_head sent asked)) is in
      record {
        from = from;
        asked = asked;
        take = take;
        refuse = refuse;
        stands = stands;
        refuses = steps.answered keys local_next (config ues slots) (config (set ues i (refuse sent)) slots) i
            (steps.Takes.RefusedSend from asked take refuse sent bytes after stands slot (met ∙ ap (λ (r : ℕ). Sends r sent bytes after) (eqb-true to i tests.0)) (choices.not_true (same_head sent asked) tests.1) refl);
      }

  of_receive : (from : ℕ) (asked : MessageHead) (take : List ℕ → Local) (refuse : MessageHead → Local) (o : Option Posted) (m : Next Local) → next_at local_next (config ues slots) i ≡ Recvs from asked take refuse → slot_at (config ues slots) from ≡ o → next_at local_next (config ues slots) from ≡ m → Stands (receive_decision i from asked o (call_next m))
  of_receive from asked take refuse (Some message) m stands slot met =
      of_tests from asked take refuse message (message.to == i) (same_head message.head asked) stands slot refl refl
  of_receive from asked take refuse None Ends stands slot met = tt
  of_receive from asked take refuse None (Goes on) stands slot met = tt
  of_receive from asked take refuse None (Posts message on) stands slot met = tt
  of_receive from asked take refuse None (Sends to sent bytes after) stands slot met =
      of_other from asked take refuse to sent bytes after ((to == i) && not (same_head sent asked)) stands slot met refl
  of_receive from asked take refuse None (Recvs other head more again) stands slot met = tt
  of_receive from asked take refuse None (Bars comm on) stands slot met = tt

  of_bar : (comm : ℕ) (after : Local) (b : Bool) → next_at local_next (config ues slots) i ≡ Bars comm after → ((root_in (keys comm) i == i) && all_at_barrier local_next comm (is_with (keys comm) i) ues) ≡ b → Stands (cond b (step.Passes comm) step.Stays)
  of_bar comm after false stands is = tt
  of_bar comm after true stands is =
      let tests = choices.both_true (root_in (keys comm) i == i) (all_at_barrier local_next comm (is_with (keys comm) i) ues) is in
      record { after = after; stands = stands; root = eqb-true (root_in (keys comm) i) i tests.0; all = tests.1 }

  of_next : (n : Next Local) → next_at local_next (config ues slots) i ≡ n → Stands (cond (is_going n) step.Goes (call_decision keys ues slots i (call_next n)))
  of_next Ends stands = tt
  of_next (Goes after) stands = ap is_going stands
  of_next (Posts message after) stands = of_post message after (slot_at (config ues slots) i) stands refl
  of_next (Sends to head bytes after) stands =
      of_send to head bytes after (slot_at (config ues slots) i) (next_at local_next (config ues slots) to) stands refl refl
  of_next (Recvs from asked take refuse) stands =
      of_receive from asked take refuse (slot_at (config ues slots) from) (next_at local_next (config ues slots) from) stands refl refl
  of_next (Bars comm after) stands =
      of_bar comm after ((root_in (keys comm) i == i) && all_at_barrier local_next comm (is_with (keys comm) i) ues) stands refl

  pub stands_at : (s : Step) → decision keys ues slots i ≡ s → Stands s
  stands_at s is = subst Stands is (of_next (next_at local_next (config ues slots) i) refl)

module _ (ues : List Local) (slots : List (Option Posted)) where
  -- what stands at a rank that is there
  at_cell : (k : ℕ) (u : Local) (n : Next Local) → slice_get ues k ≡ Some u → next_at local_next (config ues slots) k ≡ n → local_next u ≡ n
  at_cell k u n here stands = sym (ap (λ (o : Option Local). option_map_or local_next o Ends) here) ∙ stands

  -- a rank at which something stands is there
  is_there : (k : ℕ) (n : Next Local) → next_at local_next (config ues slots) k ≡ n → n ≢ Ends → (u : Local) × (slice_get ues k ≡ Some u) × (local_next u ≡ n)
  is_there k n stands going =
      ⊎_elim
      (λ (ends : n ≡ Ends). absurd (going ends))
      (λ (found : (u : Local) × (slice_get ues k ≡ Some u) × (local_next u ≡ n)). found)
      (there local_next (slice_get ues k) n stands)

  cell_within : (k : ℕ) (n : Next Local) → next_at local_next (config ues slots) k ≡ n → n ≢ Ends → k < length ues
  cell_within k n stands going =
      let found = is_there k n stands going in
      slice_get_within ues k found.0 found.1

-- a slot with a message is there
pub slot_within : (slots : List (Option Posted)) (j : ℕ) (message : Posted) → get_or slots j None ≡ Some message → j < length slots
slot_within slots j message slot =
    ⊎_elim
    (λ (within : j < length slots). within)
    (λ (past : length slots ≤ j). absurd (let e : None ≡ Some message = sym (get_or_past slots j None past) ∙ slot in cc))
    (cases_lt j (length slots))

module _ (keys : ℕ → ℕ → ℕ) (ues : List Local) (slots : List (Option Posted)) (i : ℕ) where
  -- the step of a rank's own statement
  pub goes_step : (u after : Local) → slice_get ues i ≡ Some u → local_next u ≡ Goes after → step_of keys local_next (config ues slots) i ≡ Some (config (set ues i after) slots)
  goes_step u after here stands =
      steps.answered keys local_next (config ues slots) (config (set ues i after) slots) i
      (steps.Takes.Alone after (ap (λ (o : Option Local). option_map_or local_next o Ends) here ∙ stands) refl)

  pub going_stands : (u : Local) → decision keys ues slots i ≡ step.Goes → slice_get ues i ≡ Some u → is_going (local_next u) ≡ true
  going_stands u is here = ap is_going (sym (ap (λ (o : Option Local). option_map_or local_next o Ends) here)) ∙ stands_at keys ues slots i step.Goes is

  -- a post
  pub poster_there : decision keys ues slots i ≡ step.Posts → i < length ues
  poster_there is =
      let p = stands_at keys ues slots i step.Posts is in
      cell_within ues slots i (Posts p.message p.after) p.stands (λ e. cc)

  pub post_stands : (u : Local) → decision keys ues slots i ≡ step.Posts → slice_get ues i ≡ Some u → IsAtPost (local_next u)
  post_stands u is here =
      let p = stands_at keys ues slots i step.Posts is in
      subst IsAtPost (sym (at_cell ues slots i u (Posts p.message p.after) here p.stands)) tt

  pub posts_step : (u after : Local) (posted : Posted) → decision keys ues slots i ≡ step.Posts → slice_get ues i ≡ Some u → HasPosted (local_next u) posted after
      → step_of keys local_next (config ues slots) i ≡ Some (config (set ues i after) (set slots i (Some posted)))
  posts_step u after posted is here has =
      let p = stands_at keys ues slots i step.Posts is in
      let now : (posted ≡ p.message) × (after ≡ p.after) = subst (λ (n : Next Local). HasPosted n posted after) (at_cell ues slots i u (Posts p.message p.after) here p.stands) has in
      steps.answered keys local_next (config ues slots) (config (set ues i after) (set slots i (Some posted))) i
      (steps.Takes.Left p.message p.after p.stands p.slot (λ k. config (set ues i (now.1 k)) (set slots i (Some (now.0 k)))))

  -- a refusal
  pub refusal_stands : (sent : MessageHead) (u : Local) → decision keys ues slots i ≡ step.Mismatches sent → slice_get ues i ≡ Some u → IsAtReceive (local_next u)
  refusal_stands sent u is here =
      let r = stands_at keys ues slots i (step.Mismatches sent) is in
      subst IsAtReceive (sym (at_cell ues slots i u (Recvs r.from r.asked r.take r.refuse) here r.stands)) tt

  pub refuses_step : (sent : MessageHead) (u after : Local) → decision keys ues slots i ≡ step.Mismatches sent → slice_get ues i ≡ Some u → HasRefused (local_next u) sent after
      → step_of keys local_next (config ues slots) i ≡ Some (config (set ues i after) slots)
  refuses_step sent u after is here has =
      let r = stands_at keys ues slots i (step.Mismatches sent) is in
      let now : after ≡ r.refuse sent = subst (λ (n : Next Local). HasRefused n sent after) (at_cell ues slots i u (Recvs r.from r.asked r.take r.refuse) here r.stands) has in
      r.refuses ∙ ap (λ (w : Local). Some (config (set ues i w) slots)) (sym now)

  -- a barrier
  pub group_stands : (comm : ℕ) → decision keys ues slots i ≡ step.Passes comm → all_at_barrier local_next comm (is_with (keys comm) i) ues ≡ true
  group_stands comm is = (stands_at keys ues slots i (step.Passes comm) is).all

  pub passes_step : (comm : ℕ) (new : List Local) → decision keys ues slots i ≡ step.Passes comm → new ≡ by_rank (λ (r : ℕ). past_if local_next (is_with (keys comm) i r)) ues
      → step_of keys local_next (config ues slots) i ≡ Some (config new slots)
  passes_step comm new is now =
      let m = stands_at keys ues slots i (step.Passes comm) is in
      steps.answered keys local_next (config ues slots) (config new slots) i
      (steps.Takes.Passed comm m.after m.stands m.root m.all (ap (λ (us : List Local). config us slots) now))

  -- what the code decides for a rank that does not stand at a statement of its own
  pub decided : (u : Local) (met : Option Call) (s : Step) → slice_get ues i ≡ Some u → is_going (local_next u) ≡ false → call_next (local_next u) ≡ met → s ≡ call_decision keys ues slots i met → s ≡ decision keys ues slots i
  decided u met s here still call is =
      let found : decision keys ues slots i ≡ call_decision keys ues slots i met =
      ap (λ (o : Option Local). cond (is_going (option_map_or local_next o Ends)) step.Goes (call_decision keys ues slots i (call_next (option_map_or local_next o Ends)))) here
      ∙ choices.other (is_going (local_next u)) step.Goes (call_decision keys ues slots i (call_next (local_next u))) still
      ∙ ap (call_decision keys ues slots i) call in
      is ∙ sym found

  pub decided_going : (u : Local) → slice_get ues i ≡ Some u → is_going (local_next u) ≡ true → step.Goes ≡ decision keys ues slots i
  decided_going u here going =
      sym (ap (λ (o : Option Local). cond (is_going (option_map_or local_next o Ends)) step.Goes (call_decision keys ues slots i (call_next (option_map_or local_next o Ends)))) here
      ∙ choices.chosen (is_going (local_next u)) step.Goes (call_decision keys ues slots i (call_next (local_next u))) going)

module _ (keys : ℕ → ℕ → ℕ) (ues : List Local) (slots : List (Option Posted)) (i j : ℕ) where
  pub delivers : decision keys ues slots i ≡ step.Matches j → IsDelivery ues slots i j
  delivers is = stands_at keys ues slots i (step.Matches j) is

  -- a rank that sends is there
  pub sender_there : decision keys ues slots i ≡ step.Matches j → i < length ues
  sender_there is =
      let d = delivers is in
      cell_within ues slots i (Sends j d.head d.bytes d.after) d.stands (λ e. cc)

  pub sender_stands : (u : Local) → decision keys ues slots i ≡ step.Matches j → slice_get ues i ≡ Some u → IsAtSend (local_next u)
  sender_stands u is here =
      let d = delivers is in
      subst IsAtSend (sym (at_cell ues slots i u (Sends j d.head d.bytes d.after) here d.stands)) tt

  -- the receiver stands where it stood before the sender went on
  receiver_read : (d : IsDelivery ues slots i j) (after v : Local) → v ≡ get_or (set ues i after) j v → local_next v ≡ Recvs i d.asked d.take d.refuse
  receiver_read d after v read =
      let apart : j ≢ i = λ same. (let e : Sends j d.head d.bytes d.after ≡ Recvs i d.asked d.take d.refuse = sym d.stands ∙ ap (next_at local_next (config ues slots)) (sym same) ∙ d.meets in cc) in
      let found = is_there ues slots j (Recvs i d.asked d.take d.refuse) d.meets (λ e. cc) in
      let same : v ≡ found.0 = read ∙ get_or-set_other ues i j after v apart ∙ get_or_from_slice_get ues j found.0 v found.1 in
      ap local_next same ∙ found.2

  pub receiver_stands : (after v : Local) → decision keys ues slots i ≡ step.Matches j → v ≡ get_or (set ues i after) j v → IsAtReceive (local_next v)
  receiver_stands after v is read = subst IsAtReceive (sym (receiver_read (delivers is) after v read)) tt

  -- it asks for as many bytes
  pub delivered_long : (u after v : Local) (bytes : List ℕ) → decision keys ues slots i ≡ step.Matches j → slice_get ues i ≡ Some u → HasLength (local_next u) bytes → v ≡ get_or (set ues i after) j v
      → length bytes ≡ length_asked (local_next v)
  delivered_long u after v bytes is here long read =
      let d = delivers is in
      let sent : length bytes ≡ d.head.len = subst (λ (n : Next Local). HasLength n bytes) (at_cell ues slots i u (Sends j d.head d.bytes d.after) here d.stands) long in
      sent ∙ same_long d.head d.asked d.same ∙ sym (ap length_asked (receiver_read d after v read))

  -- and both go on
  pub delivered : (u after v last : Local) (bytes : List ℕ) → decision keys ues slots i ≡ step.Matches j → slice_get ues i ≡ Some u → HasSent (local_next u) bytes after → v ≡ get_or (set ues i after) j v → HasTaken (local_next v) bytes last
      → step_of keys local_next (config ues slots) i ≡ Some (config (set (set ues i after) j last) slots)
  delivered u after v last bytes is here sent read taken =
      let d = delivers is in
      let gone : (bytes ≡ d.bytes) × (after ≡ d.after) = subst (λ (n : Next Local). HasSent n bytes after) (at_cell ues slots i u (Sends j d.head d.bytes d.after) here d.stands) sent in
      let got : last ≡ d.take bytes = subst (λ (n : Next Local). HasTaken n bytes last) (receiver_read d after v read) taken in
      steps.answered keys local_next (config ues slots) (config (set (set ues i after) j last) slots) i
      (steps.Takes.Met j d.head d.bytes d.after d.asked d.take d.refuse d.stands d.slot d.meets d.same
      (λ k. config (set (set ues i (gone.1 k)) j ((got ∙ ap d.take gone.0) k)) slots))

  -- a rank that takes a message from a slot stands at a receive
  pub fetcher_stands : (u : Local) → decision keys ues slots i ≡ step.Takes j → slice_get ues i ≡ Some u → IsAtReceive (local_next u)
  fetcher_stands u is here =
      let fetch = fetches ues slots i j keys is in
      subst IsAtReceive (sym (at_cell ues slots i u (Recvs j fetch.asked fetch.take fetch.refuse) here fetch.stands)) tt
