-- Stretches of a row that are taken one by one make a row.
use Rattle.std.proofs.Common.{◌≡◌, ◌≢◌, ⊎_elim, ℕ, ◌+◌, ◌<◌, ◌≤◌, Bool, true, false, ◌||◌, if◌then◌else◌, length, slice_index_or, slice_set, List, [], Option, None, Some, refl, sym, ◌∙◌, ap, subst, arith}
use Rattle.std.proofs.lemmas.Bool.{cases_eq}
use Rattle.std.proofs.lemmas.List.{length-set, get_or-set_same, get_or-set_other}
use Rattle.scc_base.specs.Setups.{SetupView}
use Rattle.scc_base.specs.declared.events.Event.{Event}
use Rattle.scc_base.specs.declared.events.Turn.{Turn}
use Rattle.scc_proto.specs.Ports.{Did, Sight}
use Rattle.scc_mesh.specs.AwayRanks.{Away, Ticket}
use Rattle.scc_mesh.specs.Scenes.{WasSeatStep, sight_away}
use Rattle.scc_mesh.specs.Spaces.{ChipId}
use Rattle.scc_mesh.proofs.PortEnds.{same_setup}
use Rattle.chip_run.specs.Away.{IsAway, NextBatch, NoBatch, OneBatch, Served, Batches, TookSlice, failed_by}
use Rattle.chip_run.specs.Behaves.{Behaviour}
use Rattle.chip_run.specs.Turns.{TookBatch}
use Rattle.chip_run.proofs.ServedLaws.{one_entry}
use Rattle.chip_run.proofs.SliceLaws.{SliceOn, slice_goes, slice_is, so_far_first, turns_first}

-- a row of a rank that is away, behind some stretches
record SliceAway {A : Type 0} (c : Behaviour A) (s : SetupView) (old : A) (first : Ticket) (new : A) (later : Option Ticket) (failed : ℕ) : Type 0 where
  last : Ticket
  is : later ≡ Some last
  on : SliceOn c (WasSeatStep (sight_away s first).seat) old (sight_away s first) new (sight_away s last) failed

same_ticket : (some : Option Ticket) (one two : Ticket) → some ≡ Some one → some ≡ Some two → one ≡ two
same_ticket some one two a b = cc (a, b)

module _ {A : Type 0} (c : Behaviour A) where
  slice_away_by : (s : SetupView) (old : A) (first : Ticket) (new : A) (later : Option Ticket) (failed : ℕ)
      → Batches c s old (Some first) 0 new later failed → SliceAway c s old first new later failed
  slice_away_by s old first _ _ _ NoBatch = record {
    last = first;
    is = refl;
    on = record { answers = []; turns = turns_first c (WasSeatStep (sight_away s first).seat) old (sight_away s first); so_far = so_far_first };
  }
  slice_away_by s old first new later now (OneBatch mid _ some _ half _ before next) =
      let b = slice_away_by s old first mid some half before in
      let same = same_ticket some next.first b.last next.before b.is in
      record {
        last = next.last;
        is = next.afterwards;
        on = slice_goes c WasSeatStep b.on.answers half now old mid new (sight_away s first) (sight_away s b.last) (sight_away s next.last) next.answer next.going next.counts b.on.turns b.on.so_far
            (subst (λ (t : Ticket). TookBatch c (WasSeatStep (sight_away s t).seat) mid (sight_away s t) new (sight_away s next.last) next.answer) same next.took_batch);
      }

  -- stretches and then more
  pub batches_both : (s : SetupView) (old mid : A) (token some : Option Ticket) (failed half : ℕ) → Batches c s old token failed mid some half
      → (new : A) (later : Option Ticket) (now : ℕ) → Batches c s mid some half new later now → Batches c s old token failed new later now
  batches_both s old mid token some failed half one _ _ _ NoBatch = one
  batches_both s old mid token some failed half one new later now (OneBatch k _ t _ n _ before next) =
      OneBatch k new t later n now (batches_both s old mid token some failed half one k t n before) next

  -- stretches until a thousand turns in a row were vain, or the rank was over
  pub took_slice : (tied : SetupView → ℕ → List Event → Type 0) (s : SetupView) (table : ChipId) (rank : ℕ) (old new : A) (token later : Option Ticket) (now : ℕ)
      → IsAway tied s table rank token → Batches c s old token 0 new later now → 1000 ≤ now → TookSlice c s rank old new
  took_slice tied s table rank old new None later now away went past = absurd away
  took_slice tied s table rank old new (Some first) later now away went past =
      let slice = slice_away_by s old first new later now went in
      record {
        first = sight_away s first;
        last = sight_away s slice.last;
        setup_is = refl;
        rank_is = away.1;
        slice = record { answers = slice.on.answers; is_slice = slice_is slice.on.answers now past slice.on.so_far; turns = slice.on.turns };
      }

  -- what a stretch did
  pub batch_did : (old new : A) (s t : Sight) (answer : Turn) → TookBatch c (WasSeatStep s.seat) old s new t answer → (events : List Event) × Did s events t
  batch_did old new s t answer went =
      let on = slice_goes c WasSeatStep [] 0 (failed_by 1000 answer 0) old old new s s t answer (omega arith) refl (turns_first c (WasSeatStep s.seat) old s) so_far_first went in
      (on.turns.events, on.turns.did)

  -- a stretch through a port that was made of a token, and gave one back
  pub next_batch : (s : SetupView) (old new : A) (token : Option Ticket) (failed now : ℕ) (first last : Ticket) (port end : Away) (answer : Turn)
      → failed < 1000 → token ≡ Some first → port ≡ record { about = s; ticket = first } → last ≡ end.ticket
      → TookBatch c (WasSeatStep (sight_away port.about port.ticket).seat) old (sight_away port.about port.ticket) new (sight_away end.about end.ticket) answer
      → now ≡ failed_by 1000 answer failed → NextBatch c s old token failed new (Some last) now
  next_batch s old new token failed now first last port end answer low is from back went counts =
      let did = batch_did old new (sight_away port.about port.ticket) (sight_away end.about end.ticket) answer went in
      let about : end.about ≡ s = same_setup port.about end.about port.ticket end.ticket did.0 did.1 ∙ ap (λ (p : Away). p.about) from in
      record {
        going = low;
        first = first;
        last = last;
        before = is;
        afterwards = refl;
        answer = answer;
        took_batch = subst (λ (t : Ticket). TookBatch c (WasSeatStep (sight_away s first).seat) old (sight_away s first) new (sight_away s t) answer) (sym back)
            (subst (λ (x : SetupView). TookBatch c (WasSeatStep (sight_away s first).seat) old (sight_away s first) new (sight_away x end.ticket) answer) about
            (subst (λ (p : Away). TookBatch c (WasSeatStep (sight_away p.about p.ticket).seat) old (sight_away p.about p.ticket) new (sight_away end.about end.ticket) answer) from went));
        counts = counts;
      }

-- ---- a pass over some members

-- what is left falls by a stretch
pub left_on : (goes went : Bool) (all now next before after : ℕ) → (if goes then 1 else 0) + now ≤ all → next + before ≡ now + after → (went ≡ true → after < before) → (went ≡ false → after ≡ before)
    → (if goes || went then 1 else 0) + next ≤ all
left_on true true all now next before after one sum less same = let l = less refl in omega (arith, one, sum, l)
left_on true false all now next before after one sum less same = let e = same refl in omega (arith, one, sum, e)
left_on false true all now next before after one sum less same = let l = less refl in omega (arith, one, sum, l)
left_on false false all now next before after one sum less same = let e = same refl in omega (arith, one, sum, e)

-- so it fell where a row went on
pub left_less : (goes : Bool) (all now : ℕ) → (if goes then 1 else 0) + now ≤ all → goes ≡ true → now < all
left_less true all now sum so = omega (arith, sum)
left_less false all now sum so = absurd (cc (so))

module _ {A : Type 0} where
  entry_at : (now : List A) (n k : ℕ) (x d : A) (Q : A → Type 0) → n < length now → (k ≡ n → Q x) → (k ≢ n → Q (slice_index_or now k d)) → Q (slice_index_or (slice_set now n x) k d)
  entry_at now n k x d Q inside here there =
      ⊎_elim
      (λ (e : k ≡ n). subst Q (sym (ap (λ (j : ℕ). slice_index_or (slice_set now n x) j d) e ∙ get_or-set_same now n x d inside)) (here e))
      (λ (ne : k ≢ n). subst Q (sym (get_or-set_other now n k x d ne)) (there ne))
      (cases_eq k n)

  pub served_one : (R : ℕ → A → A → Type 0) (old now : List A) (n : ℕ) (x d : A) → n < length old → Served R n old now → R n (slice_index_or old n d) x → Served R (n + 1) old (slice_set now n x)
  served_one R old now n x d inside so here = record {
    count = length-set now n x ∙ so.count;
    done = λ k e low within. entry_at now n k x e (R k (slice_index_or old k e)) (subst (λ (m : ℕ). n < m) (sym so.count) inside)
        (λ same. subst (λ (j : ℕ). R j (slice_index_or old j e) x) (sym same) (subst (λ (a : A). R n a x) (one_entry old n d e inside) here))
        (λ other. so.done k e (omega (arith, low, other)) within);
    left = λ k e past. get_or-set_other now n k x e (λ same. omega (arith, same, past)) ∙ so.left k e (omega (arith, past));
  }

  pub over_one : (failed : A → ℕ) (goes went : Bool) (now : List A) (n : ℕ) (x : A) → n < length now → (goes ≡ false → (k : ℕ) (d : A) → k < n → 1000 ≤ failed (slice_index_or now k d)) → (went ≡ false → 1000 ≤ failed x)
      → (goes || went) ≡ false → (k : ℕ) (d : A) → k < n + 1 → 1000 ≤ failed (slice_index_or (slice_set now n x) k d)
  over_one failed true went now n x inside so here none k d low = absurd (cc (none))
  over_one failed false true now n x inside so here none k d low = absurd (cc (none))
  over_one failed false false now n x inside so here none k d low = entry_at now n k x d (λ (a : A). 1000 ≤ failed a) inside (λ same. here refl) (λ other. so refl k d (omega (arith, low, other)))
