-- Calls that the ranks have done of their programs, and that can be made together, are a run of plain steps: from the
-- states before the calls to the states behind them.
use Rattle.std.proofs.Common.{◌≡◌, ◌≢◌, ℕ, zero, suc, ◌<◌, ◌≤◌, ◌==◌, Bool, true, false, ◌&&◌, nat_lt, if◌then◌else◌, List, [], ◌∷◌, length, Option, Some, None, refl, sym, ap, ◌∙◌, subst, subst₂, arith, ⊎_elim}
use Rattle.std.specs.Option.{option_map}
use Rattle.std.proofs.lemmas.Bool.{cases_lt}
use Rattle.std.proofs.lemmas.Bool.Decides.{nat_tests}
use Rattle.scc_base.specs.Calls.{DataCall}
use Rattle.scc_base.specs.Calls.DataCall.{Send, Recv, Post, Bar}
use Rattle.scc_base.specs.Groups.{is_with}
use Rattle.scc_base.specs.Heads.{MessageHead}
use Rattle.scc_base.specs.Runs.{Runs}
use Rattle.scc_base.proofs.GroupFacts.{root_is, with_self}
use Rattle.scc_proto.specs.Legality.{Outgoing, Standing, CallStep, Posting, Taking, Pairing, Meeting, owner_of, in_group, callers, Makes, OwnStep, IsUsedUp}
use Rattle.scc_proto.specs.Tables.{table_with}
use Rattle.scc_proto.proofs.Legality.StepLaws.{itself}
use Rattle.scc_proto.proofs.Tests.{eqb_other, put_here, put_there, same_or_other}
use Rattle.script_machine.specs.declared.posts.Posted.{Posted}
use Rattle.script_machine.specs.Next.{Next, is_at_barrier, past_barrier}
use Rattle.script_machine.specs.Next.Next.{Goes, Posts, Sends, Recvs, Bars}
use Rattle.plain_meaning.specs.Paths.{DidCalls}
use Rattle.plain_meaning.specs.Paths.DidCalls.{Here, Own, Left, Sent, Got, Met}
use Rattle.plain_meaning.specs.Step.{Configuration, IsStepOf, next_at, slot_at, same_head, with_cell, configuration_with_slot, by_rank, past_if}
use Rattle.plain_meaning.proofs.Runs.RunLaws as runs
use Rattle.script_machine.proofs.Choices as choices
use Rattle.plain_meaning.proofs.Runs.StepLaws as steps
use Rattle.plain_meaning.proofs.Runs.StepLaws.Takes.{Alone, Left as Leaving, Met as Meets, Fetched, Passed as Passing}
use Rattle.rcce_run.specs.Sweep.{keep, outgoing, HoldsStates}
use Rattle.rcce_run.proofs.Holding.{lt_true, some_at, put_each, put_both, posted_there, mixed, mixed_here, mixed_next, rank_after_rank, holds_same, holds_cell, holds_slot, holds_all, next_held, slot_held}

-- a head is the same as itself
pub head_same : (head : MessageHead) → same_head head head ≡ true
head_same head =
    choices.and_of ((head.kind == head.kind) && (head.comm == head.comm)) (head.len == head.len)
    (choices.and_of (head.kind == head.kind) (head.comm == head.comm) (itself head.kind) (itself head.comm)) (itself head.len)

-- statements of a rank's own lead from one state to another
pub data Walks {U : Type 0} (next : U → Next U) (v : U) : U → Type 0 where
  Stays : Walks next v v
  Walked : (u w : U) → next u ≡ Goes w → Walks next v w → Walks next v u

module _ {U : Type 0} (next : U → Next U) (v : U) (end : Option Posted) where
  -- a rank that stands at the first of its calls, or has made them all
  abbrev pub Ready : U → Option Posted → List DataCall → Type 0
  Ready w last [] = (w ≡ v) × (last ≡ end)
  Ready w last (Post to head bytes ∷ calls) = (message : Posted) × (after : U) × (next w ≡ Posts message after) × (outgoing message ≡ record { to = to; head = head; bytes = bytes }) × DidCalls next v end after (Some message) calls
  Ready w last (Send to head bytes ∷ calls) = (after : U) × (next w ≡ Sends to head bytes after) × DidCalls next v end after last calls
  Ready w last (Recv from head bytes ∷ calls) = (take : List ℕ → U) × (refuse : MessageHead → U) × (next w ≡ Recvs from head take refuse) × (length bytes ≡ head.len) × DidCalls next v end (take bytes) last calls
  Ready w last (Bar comm ∷ calls) = (after : U) × (next w ≡ Bars comm after) × DidCalls next v end after last calls

  -- a rank that has walked up to its next call
  pub record Front (u : U) (last : Option Posted) (calls : List DataCall) : Type 0 where
    pub head : U
    pub walks : Walks next head u
    pub ready : Ready head last calls

  pub front : (u : U) (last : Option Posted) (calls : List DataCall) → DidCalls next v end u last calls → Front u last calls
  front u last calls Here = record { head = v; walks = Stays; ready = (refl, refl) }
  front u last calls (Own a b l cs step did) =
      let f = front b l cs did in record { head = f.head; walks = Walked a b step f.walks; ready = f.ready }
  front u last calls (Left a b l message cs step did) = record { head = a; walks = Stays; ready = (message, b, step, refl, did) }
  front u last calls (Sent a b l to head bytes cs step did) = record { head = a; walks = Stays; ready = (b, step, did) }
  front u last calls (Got a l from head bytes take refuse cs even step did) = record { head = a; walks = Stays; ready = (take, refuse, step, even, did) }
  front u last calls (Met a b l comm cs step did) = record { head = a; walks = Stays; ready = (b, step, did) }

  -- and back
  pub unready : (w : U) (last : Option Posted) (calls : List DataCall) → Ready w last calls → DidCalls next v end w last calls
  unready w last [] (at_end, same) = subst₂ (λ (x : U) (l : Option Posted). DidCalls next v end x l []) (sym at_end) (sym same) Here
  unready w last (Post to head bytes ∷ calls) (message, after, stands, is, did) =
      subst (λ (m : Outgoing). DidCalls next v end w last (Post m.to m.head m.bytes ∷ calls)) is (Left w after last message calls stands did)
  unready w last (Send to head bytes ∷ calls) (after, stands, did) = Sent w after last to head bytes calls stands did
  unready w last (Recv from head bytes ∷ calls) (take, refuse, stands, even, did) = Got w last from head bytes take refuse calls even stands did
  unready w last (Bar comm ∷ calls) (after, stands, did) = Met w after last comm calls stands did

module _ {U : Type 0} (nue : ℕ) (keys : ℕ → ℕ → ℕ) (next : U → Next U) where
  -- what one rank's own statements do to a configuration, seen from its end: a property that steps carry backwards
  module _ (P : Configuration U → Type 0) (before : (a : ℕ) (c d : Configuration U) → IsStepOf keys next a c d → P d → P c) where
    pub walk : (i : ℕ) → i < nue → (v : U) (slots : ℕ → Option Posted) (u : U) → Walks next v u → (c : Configuration U) (cells : ℕ → U) → HoldsStates nue c cells slots → cells i ≡ u
        → ((d : Configuration U) → HoldsStates nue d (table_with cells i v) slots → P d) → P c
    walk i below v slots u Stays c cells holds here finish =
        finish c (holds_same nue c cells (table_with cells i v) slots slots holds
        (λ k low. put_each (λ (j : ℕ) (x : U). cells j ≡ x) cells i v here (λ j ne. refl) k) (λ k low. refl))
    walk i below v slots u (Walked a w step rest) c cells holds here finish =
        let stands : next_at next c i ≡ Goes w = next_held nue next c cells slots holds i below ∙ ap next here ∙ step in
        before i c (with_cell c i w) (steps.answered keys next c (with_cell c i w) i (Alone w stands refl))
        (walk i below v slots w rest (with_cell c i w) (table_with cells i w) (holds_cell nue c cells slots i w holds) (put_here cells i w)
        (λ d held. finish d (holds_same nue d (table_with (table_with cells i w) i v) (table_with cells i v) slots slots held (λ k low. twice cells w k) (λ k low. refl))))
      where
        twice : (cells : ℕ → U) (w : U) (k : ℕ) → table_with (table_with cells i w) i v k ≡ table_with cells i v k
        twice cells w k = same_or_other (table_with (table_with cells i w) i v k ≡ table_with cells i v k) k i
            (λ t e. ap (λ (b : Bool). if b then v else table_with cells i w k) t ∙ sym (ap (λ (b : Bool). if b then v else cells k) t))
            (λ t ne. put_there (table_with cells i w) i v k ne ∙ put_there cells i w k ne ∙ sym (put_there cells i v k ne))

    -- all ranks walk up to their next calls
    pub settle : (cells heads : ℕ → U) (slots : ℕ → Option Posted) → ((k : ℕ) → Walks next (heads k) (cells k)) → (c : Configuration U) → HoldsStates nue c cells slots
        → ((d : Configuration U) → HoldsStates nue d heads slots → P d) → P c
    settle cells heads slots ways c holds finish =
        rank_after_rank nue P cells heads slots
        (λ n low d held onward.
        walk n low (heads n) slots (cells n) (ways n) d (mixed heads cells n) held (mixed_here heads cells n)
        (λ f there. onward f (holds_same nue f (table_with (mixed heads cells n) n (heads n)) (mixed heads cells (suc n)) slots slots there (λ k below. mixed_next heads cells n k) (λ k below. refl))))
        c holds finish

  -- ranks on their way to `e`, at a configuration, with these calls left
  pub record Way (e : ℕ → U) (end : ℕ → Option Posted) (c : Configuration U) (s : Standing) : Type 0 where
    pub cells : ℕ → U
    pub lasts : ℕ → Option Posted
    pub slots : ℕ → Option Posted
    pub holds : HoldsStates nue c cells slots
    pub dids : (k : ℕ) → DidCalls next (e k) (end k) (cells k) (lasts k) (s.calls k)
    pub kept : (k : ℕ) → slots k ≡ keep (s.slots k) (lasts k)
    pub told : (k : ℕ) → option_map outgoing (slots k) ≡ s.slots k
    pub none : (k : ℕ) → nue ≤ k → s.calls k ≡ []
    pub empty : (k : ℕ) → nue ≤ k → s.slots k ≡ None

  -- plain steps lead to a configuration that holds this
  abbrev pub Leads : (ℕ → U) → (ℕ → Option Posted) → (ℕ → Option Outgoing) → Configuration U → Type 0
  Leads e end left c =
      (f : Configuration U) × (n : ℕ) × Runs (IsStepOf keys next) (λ d. d ≡ f) n c × HoldsStates nue f e (λ k. keep (left k) (end k))
      × ((k : ℕ) → option_map outgoing (keep (left k) (end k)) ≡ left k)

  pub leads_before : (e : ℕ → U) (end : ℕ → Option Posted) (left : ℕ → Option Outgoing) (a : ℕ) (c d : Configuration U) → IsStepOf keys next a c d → Leads e end left d → Leads e end left c
  leads_before e end left a c d step (f, n, run, holds, told) = (f, suc n, (a, d, step, run), holds, told)

  -- a rank with a call left is one of the ranks
  low_caller : (s : Standing) (k : ℕ) (call : DataCall) (calls : List DataCall) → ((j : ℕ) → nue ≤ j → s.calls j ≡ []) → s.calls k ≡ call ∷ calls → k < nue
  low_caller s k call calls none is =
      ⊎_elim (λ (low : k < nue). low) (λ (past : nue ≤ k). absurd (let nil = none k past in cc (nil, is))) (cases_lt k nue)

  -- the ranks at their next calls
  module _ (e : ℕ → U) (end : ℕ → Option Posted) (c : Configuration U) (s t : Standing) (heads : ℕ → U) (lasts : ℕ → Option Posted) (slots : ℕ → Option Posted) (holds : HoldsStates nue c heads slots)
      (ready : (k : ℕ) → Ready next (e k) (end k) (heads k) (lasts k) (s.calls k)) (kept : (k : ℕ) → slots k ≡ keep (s.slots k) (lasts k)) (told : (k : ℕ) → option_map outgoing (slots k) ≡ s.slots k)
      (none : (k : ℕ) → nue ≤ k → s.calls k ≡ []) (empty : (k : ℕ) → nue ≤ k → s.slots k ≡ None) where
    -- one step of the calls is one step of the ranks
    abbrev Follows : ℕ → Type 0
    Follows a = (d : Configuration U) × IsStepOf keys next a c d × Way e end d t

    ready_at : (k : ℕ) (calls : List DataCall) → s.calls k ≡ calls → Ready next (e k) (end k) (heads k) (lasts k) calls
    ready_at k calls is = subst (Ready next (e k) (end k) (heads k) (lasts k)) is (ready k)

    -- a rank whose calls stay
    did_other : (k : ℕ) → s.calls k ≡ t.calls k → DidCalls next (e k) (end k) (heads k) (lasts k) (t.calls k)
    did_other k same = unready next (e k) (end k) (heads k) (lasts k) (t.calls k) (ready_at k (t.calls k) same)

    empty_slot : (k : ℕ) → s.slots k ≡ None → slots k ≡ None
    empty_slot k is = kept k ∙ ap (λ (o : Option Outgoing). keep o (lasts k)) is

    full_slot : (k : ℕ) (m : Outgoing) → s.slots k ≡ Some m → (message : Posted) × (slots k ≡ Some message) × (outgoing message ≡ m)
    full_slot k m is = posted_there (slots k) m (told k ∙ is)

    same_kept : (k : ℕ) → s.slots k ≡ t.slots k → slots k ≡ keep (t.slots k) (lasts k)
    same_kept k same = kept k ∙ ap (λ (o : Option Outgoing). keep o (lasts k)) same

    post_step : (i : ℕ) (m : Outgoing) → Makes nue keys (Posting i m) s t → Follows i
    post_step i m makes =
        let call : s.calls i ≡ Post m.to m.head m.bytes ∷ t.calls i = makes.calls.changed i (itself i) in
        let slot = makes.slots.changed i (itself i) in
        let (message, after, stands, is, did) = ready_at i (Post m.to m.head m.bytes ∷ t.calls i) call in
        let low : i < nue = low_caller s i (Post m.to m.head m.bytes) (t.calls i) none call in
        let at : next_at next c i ≡ Posts message after = next_held nue next c heads slots holds i low ∙ stands in
        let free : slot_at c i ≡ None = slot_held nue next c heads slots holds i low ∙ empty_slot i slot.0 in
        let d : Configuration U = configuration_with_slot (with_cell c i after) i (Some message) in (
          d,
          steps.answered keys next c d i (Leaving message after at free refl),
          record {
            cells = table_with heads i after;
            lasts = table_with lasts i (Some message);
            slots = table_with slots i (Some message);
            holds = holds_slot nue (with_cell c i after) (table_with heads i after) slots i (Some message) (holds_cell nue c heads slots i after holds);
            dids = put_both (λ (k : ℕ) (u : U) (l : Option Posted). DidCalls next (e k) (end k) u l (t.calls k)) heads lasts i after (Some message) did
                (λ k ne. did_other k (makes.calls.others k (eqb_other k i ne)));
            kept = put_both (λ (k : ℕ) (o l : Option Posted). o ≡ keep (t.slots k) l) slots lasts i (Some message) (Some message)
                (sym (ap (λ (o : Option Outgoing). keep o (Some message)) slot.1)) (λ k ne. same_kept k (makes.slots.others k (eqb_other k i ne)));
            told = put_each (λ (k : ℕ) (o : Option Posted). option_map outgoing o ≡ t.slots k) slots i (Some message)
                (ap Some is ∙ sym slot.1) (λ k ne. told k ∙ makes.slots.others k (eqb_other k i ne));
            none = λ k past. sym (makes.calls.others k (eqb_other k i (λ same. absurd (omega (arith, low, past, same))))) ∙ none k past;
            empty = λ k past. sym (makes.slots.others k (eqb_other k i (λ same. absurd (omega (arith, low, past, same))))) ∙ empty k past;
          },
        )

    take_step : (i : ℕ) (m : Outgoing) → Makes nue keys (Taking i m) s t → Follows m.to
    take_step i m makes =
        let j : ℕ = m.to in
        let call : s.calls j ≡ Recv i m.head m.bytes ∷ t.calls j = makes.calls.changed j (itself j) in
        let slot = makes.slots.changed i (itself i) in
        let (take, refuse, stands, even, did) = ready_at j (Recv i m.head m.bytes ∷ t.calls j) call in
        let (message, full, is) = full_slot i m slot.0 in
        let low : j < nue = low_caller s j (Recv i m.head m.bytes) (t.calls j) none call in
        let below : i < nue = ⊎_elim (λ (x : i < nue). x) (λ (past : nue ≤ i). absurd (let nil = empty i past in let some = slot.0 in cc (nil, some))) (cases_lt i nue) in
        let at : next_at next c j ≡ Recvs i m.head take refuse = next_held nue next c heads slots holds j low ∙ stands in
        let there : slot_at c i ≡ Some message = slot_held nue next c heads slots holds i below ∙ full in
        let heads_is : message.head ≡ m.head = ap (λ (o : Outgoing). o.head) is in
        let same : same_head message.head m.head ≡ true = ap (λ (h : MessageHead). same_head h m.head) heads_is ∙ head_same m.head in
        let bytes_is : take message.bytes ≡ take m.bytes = ap (λ (o : Outgoing). take o.bytes) is in
        let d : Configuration U = configuration_with_slot (with_cell c j (take message.bytes)) i None in (
          d,
          steps.answered keys next c d j (Fetched i m.head take refuse message at there (ap (λ (o : Outgoing). o.to) is) same refl),
          record {
            cells = table_with heads j (take message.bytes);
            lasts = lasts;
            slots = table_with slots i None;
            holds = holds_slot nue (with_cell c j (take message.bytes)) (table_with heads j (take message.bytes)) slots i None (holds_cell nue c heads slots j (take message.bytes) holds);
            dids = put_each (λ (k : ℕ) (u : U). DidCalls next (e k) (end k) u (lasts k) (t.calls k)) heads j (take message.bytes)
                (subst (λ (u : U). DidCalls next (e j) (end j) u (lasts j) (t.calls j)) (sym bytes_is) did)
                (λ k ne. did_other k (makes.calls.others k (eqb_other k j ne)));
            kept = put_each (λ (k : ℕ) (o : Option Posted). o ≡ keep (t.slots k) (lasts k)) slots i None
                (sym (ap (λ (o : Option Outgoing). keep o (lasts i)) slot.1)) (λ k ne. same_kept k (makes.slots.others k (eqb_other k i ne)));
            told = put_each (λ (k : ℕ) (o : Option Posted). option_map outgoing o ≡ t.slots k) slots i None
                (sym slot.1) (λ k ne. told k ∙ makes.slots.others k (eqb_other k i ne));
            none = λ k past. sym (makes.calls.others k (eqb_other k j (λ same. absurd (omega (arith, low, past, same))))) ∙ none k past;
            empty = λ k past. sym (makes.slots.others k (eqb_other k i (λ same. absurd (omega (arith, below, past, same))))) ∙ empty k past;
          },
        )

    pair_step : (i : ℕ) (m : Outgoing) → Makes nue keys (Pairing i m) s t → Follows i
    pair_step i m makes =
        let j : ℕ = m.to in
        let apart : j ≢ i = λ same. makes.proper (sym same) in
        let send : s.calls i ≡ Send m.to m.head m.bytes ∷ t.calls i =
        makes.calls.changed i (both_one i j) ∙ ap (λ (b : Bool). (if b then Send m.to m.head m.bytes else Recv i m.head m.bytes) ∷ t.calls i) (itself i) in
        let recv : s.calls j ≡ Recv i m.head m.bytes ∷ t.calls j =
        makes.calls.changed j (both_two i j) ∙ ap (λ (b : Bool). (if b then Send m.to m.head m.bytes else Recv i m.head m.bytes) ∷ t.calls j) (eqb_other j i apart) in
        let slot = makes.slots.changed i (itself i) in
        let (after, stands, did) = ready_at i (Send m.to m.head m.bytes ∷ t.calls i) send in
        let (take, refuse, meets, even, got) = ready_at j (Recv i m.head m.bytes ∷ t.calls j) recv in
        let low : i < nue = low_caller s i (Send m.to m.head m.bytes) (t.calls i) none send in
        let below : j < nue = low_caller s j (Recv i m.head m.bytes) (t.calls j) none recv in
        let at : next_at next c i ≡ Sends j m.head m.bytes after = next_held nue next c heads slots holds i low ∙ stands in
        let there : next_at next c j ≡ Recvs i m.head take refuse = next_held nue next c heads slots holds j below ∙ meets in
        let free : slot_at c i ≡ None = slot_held nue next c heads slots holds i low ∙ empty_slot i slot.0 in
        let d : Configuration U = with_cell (with_cell c i after) j (take m.bytes) in (
          d,
          steps.answered keys next c d i (Meets j m.head m.bytes after m.head take refuse at free there (head_same m.head) refl),
          record {
            cells = table_with (table_with heads i after) j (take m.bytes);
            lasts = lasts;
            slots = slots;
            holds = holds_cell nue (with_cell c i after) (table_with heads i after) slots j (take m.bytes) (holds_cell nue c heads slots i after holds);
            dids = put_each (λ (k : ℕ) (u : U). DidCalls next (e k) (end k) u (lasts k) (t.calls k)) (table_with heads i after) j (take m.bytes) got
                (λ k ne. same_or_other (DidCalls next (e k) (end k) (table_with heads i after k) (lasts k) (t.calls k)) k i
                (λ x is. subst (λ (b : Bool). DidCalls next (e k) (end k) (if b then after else heads k) (lasts k) (t.calls k)) (sym x)
                (subst (λ (q : ℕ). DidCalls next (e q) (end q) after (lasts q) (t.calls q)) (sym is) did))
                (λ x no. subst (λ (b : Bool). DidCalls next (e k) (end k) (if b then after else heads k) (lasts k) (t.calls k)) (sym x)
                (did_other k (makes.calls.others k (both_none i j k no ne)))));
            kept = λ k. same_kept k (same_slots k);
            told = λ k. told k ∙ same_slots k;
            none = λ k past. sym (makes.calls.others k (both_none i j k (λ same. absurd (omega (arith, low, past, same))) (λ same. absurd (omega (arith, below, past, same))))) ∙ none k past;
            empty = λ k past. sym (same_slots k) ∙ empty k past;
          },
        )
      where
        both_one : (i j : ℕ) → callers nue keys (Pairing i m) i ≡ true
        both_one i j = grind (arith, nat_tests)

        both_two : (i j : ℕ) → callers nue keys (Pairing i m) m.to ≡ true
        both_two i j = grind (arith, nat_tests)

        both_none : (i j k : ℕ) → k ≢ i → k ≢ m.to → callers nue keys (Pairing i m) k ≡ false
        both_none i j k one two = grind (arith, nat_tests)

        same_slots : (k : ℕ) → s.slots k ≡ t.slots k
        same_slots k = same_or_other (s.slots k ≡ t.slots k) k i
            (λ x is. let slot = makes.slots.changed k x in slot.0 ∙ sym slot.1)
            (λ x no. makes.slots.others k x)

    meet_step : (comm root : ℕ) → Makes nue keys (Meeting comm root) s t → Follows root
    meet_step comm root makes =
        let group : ℕ → Bool = is_with (keys comm) root in
        let (after, stands, did) = at_bar root (inside root makes.proper.below (with_self (keys comm) root)) in
        let at : next_at next c root ≡ Bars comm after = next_held nue next c heads slots holds root makes.proper.below ∙ stands in
        let d : Configuration U = record c { cells = by_rank (λ rank. past_if next (group rank)) c.cells } in (
          d,
          steps.answered keys next c d root
              (Passing comm after at (sym (root_is (keys comm) root root refl makes.proper.zeroth))
              (runs.stand_there next comm group c.cells (λ k u member here.
              let (low, is) = some_at nue k (heads k) u (sym (holds.cells_at k) ∙ here) in
              let (afterwards, bars, rest) = at_bar k (inside k low member) in
              ap (λ (x : U). is_at_barrier comm (next x)) (sym is) ∙ ap (is_at_barrier comm) bars ∙ itself comm)) refl),
          record {
            cells = past;
            lasts = lasts;
            slots = slots;
            holds = holds_same nue d (λ k. past_if next (group k) (heads k)) past slots slots (holds_all nue c heads slots (λ k. past_if next (group k)) holds)
                (λ k low. ap (λ (b : Bool). past_if next (b && group k) (heads k)) (sym (lt_true k nue low))) (λ k low. refl);
            dids = λ k. did_past k (in_group nue keys comm root k) refl;
            kept = λ k. same_kept k (makes.slots.others k refl);
            told = λ k. told k ∙ makes.slots.others k refl;
            none = λ k beyond. sym (makes.calls.others k (outside k beyond)) ∙ none k beyond;
            empty = λ k beyond. sym (makes.slots.others k refl) ∙ empty k beyond;
          },
        )
      where
        past : ℕ → U
        past k = past_if next (in_group nue keys comm root k) (heads k)

        inside : (k : ℕ) → k < nue → is_with (keys comm) root k ≡ true → in_group nue keys comm root k ≡ true
        inside k low member = choices.and_of (nat_lt k nue) (is_with (keys comm) root k) (lt_true k nue low) member

        outside : (k : ℕ) → nue ≤ k → in_group nue keys comm root k ≡ false
        outside k beyond = ap (λ (b : Bool). b && is_with (keys comm) root k) (no_lt k beyond)
          where
            no_lt : (k : ℕ) → nue ≤ k → nat_lt k nue ≡ false
            no_lt k beyond = grind (arith, nat_tests)

        at_bar : (k : ℕ) → in_group nue keys comm root k ≡ true → (after : U) × (next (heads k) ≡ Bars comm after) × DidCalls next (e k) (end k) after (lasts k) (t.calls k)
        at_bar k member = ready_at k (Bar comm ∷ t.calls k) (makes.calls.changed k member)

        did_past : (k : ℕ) (b : Bool) → in_group nue keys comm root k ≡ b → DidCalls next (e k) (end k) (past_if next b (heads k)) (lasts k) (t.calls k)
        did_past k true member =
            let (after, stands, did) = at_bar k member in
            subst (λ (n : Next U). DidCalls next (e k) (end k) (past_barrier n (heads k)) (lasts k) (t.calls k)) (sym stands) did
        did_past k false member = did_other k (makes.calls.others k member)

    call_step : (step : CallStep) → Makes nue keys step s t → Follows (owner_of step)
    call_step (Posting i m) makes = post_step i m makes
    call_step (Taking i m) makes = take_step i m makes
    call_step (Pairing i m) makes = pair_step i m makes
    call_step (Meeting comm root) makes = meet_step comm root makes

  module _ (e : ℕ → U) (end : ℕ → Option Posted) (left : ℕ → Option Outgoing) where
    fronts : (c : Configuration U) (s : Standing) (way : Way e end c s) (k : ℕ) → Front next (e k) (end k) (way.cells k) (way.lasts k) (s.calls k)
    fronts c s way k = front next (e k) (end k) (way.cells k) (way.lasts k) (s.calls k) (way.dids k)

    abbrev Settled : (c : Configuration U) (s : Standing) → Way e end c s → Configuration U → Type 0
    Settled c s way d = HoldsStates nue d (λ k. (fronts c s way k).head) way.slots

    to_front : (c : Configuration U) (s : Standing) (way : Way e end c s) → ((d : Configuration U) → Settled c s way d → Leads e end left d) → Leads e end left c
    to_front c s way finish =
        settle (Leads e end left) (leads_before e end left) way.cells (λ k. (fronts c s way k).head) way.slots (λ k. (fronts c s way k).walks) c way.holds finish

    used_up : (c : Configuration U) (s : Standing) (way : Way e end c s) → IsUsedUp left s → (d : Configuration U) → Settled c s way d → Leads e end left d
    used_up c s way used d holds =
        let made : (k : ℕ) → ((fronts c s way k).head ≡ e k) × (way.lasts k ≡ end k) =
        λ k. subst (Ready next (e k) (end k) (fronts c s way k).head (way.lasts k)) (used.calls k) (fronts c s way k).ready in
        let slots : (k : ℕ) → way.slots k ≡ keep (left k) (end k) = λ k. way.kept k ∙ (λ i. keep (used.slots k i) ((made k).1 i)) in (
          d,
          0,
          refl,
          holds_same nue d (λ k. (fronts c s way k).head) e way.slots (λ k. keep (left k) (end k)) holds (λ k low. (made k).0) (λ k low. slots k),
          λ k. ap (option_map outgoing) (sym (slots k)) ∙ way.told k ∙ used.slots k,
        )

    -- calls that are used up in some order are a run of plain steps
    pub reach : (n : ℕ) (c : Configuration U) (s : Standing) → Way e end c s → Runs (OwnStep nue keys) (IsUsedUp left) n s → Leads e end left c
    reach zero c s way used = to_front c s way (used_up c s way used)
    reach (suc n) c s way (a, t, (step, is, makes), rest) =
        to_front c s way (λ d holds.
        let (f, made, onward) = call_step e end d s t (λ k. (fronts c s way k).head) way.lasts way.slots holds (λ k. (fronts c s way k).ready) way.kept way.told way.none way.empty step makes in
        leads_before e end left (owner_of step) d f made (reach n f t onward rest))
