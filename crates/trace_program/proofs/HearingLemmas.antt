-- What is kept of a trace that is heard, with one event more, and at its end.
use Rattle.std.proofs.Common.{◌≡◌, ◌≢◌, inl, inr, ℕ, zero, suc, ◌+◌, ◌<◌, ◌≤◌, Bool, true, false, List, [], ◌∷◌, ◌++◌, length, length-append, map, replicate, slice_index, slice_index_or, slice_set, Option, Some, None, Result, Ok, Err, Vec, codes, refl, sym, ◌∙◌, ap, subst, arith}
use Rattle.std.specs.declared.alloc.Global.{Global}
use Rattle.std.proofs.lemmas.List.{get_or-set_other, get_or-set_same}
use Rattle.rcce_audit.specs.Grammar.{no_calls, with_call}
use Rattle.rcce_audit.specs.Texts.{call_lines, table_lines, text_of}
use Rattle.rcce_audit.specs.Views.{data_lists}
use Rattle.rcce_audit.specs.declared.logs.LogCall.{LogCall}
use Rattle.rcce_audit.proofs.ListLemmas.{get_or-replicate_same, map-set_one}
use Rattle.rank_monitor.specs.Following.{Adds, moved_by}
use Rattle.scc_base.specs.Calls.{DataCall, call_of}
use Rattle.scc_base.specs.Setups.{SetupView}
use Rattle.scc_base.specs.declared.calls.Call.{Call}
use Rattle.scc_proto.specs.Words.{RankEvent}
use Rattle.scc_proto.proofs.Tests.{same_or_other}
use Rattle.trace_judge.specs.Judged.{Judged, JudgeView, chip_of, judged_after, new_judged}
use Rattle.trace_judge.specs.Rulings.{refusal_of, ruling_from, unless_refused}
use Rattle.trace_judge.specs.declared.judge.Refusal.{Refusal}
use Rattle.trace_text.specs.Grammar.{TraceReading, event_added}
use Rattle.trace_text.specs.Traces.{TraceView, most_trace_bytes}
use Rattle.trace_text.specs.Views.{rank_event}
use Rattle.trace_text.specs.Walks.{GainsEvent, HasComeTo, text_reading}
use Rattle.trace_text.specs.declared.faults.TraceFault.{TraceFault}
use Rattle.trace_text.specs.declared.traces.TraceEvent.{TraceEvent}
use Rattle.trace_text.proofs.GainLemmas.{GoesWithout, HasNoEvents, goes_without, nothing_read}
use Rattle.trace_program.specs.Hearings.{Hears, HoldsFinished, HoldsLists, HoldsSaid, HoldsStage, IsDue, IsNext, IsRefusedAt, IsTried, IsUntried, TriedBy, stage_number}
use Rattle.trace_program.specs.Lists.{finished_calls, first_event_line}
use Rattle.trace_program.specs.Program.{ruling_ran, trace_ran}
use Rattle.trace_program.specs.Texts.{asked_text, count_lines, finished_lines, kept_text, legal_text, lists_text, refused_text}
use Rattle.trace_program.specs.declared.finished.FinishedCalls.{FinishedCalls}
use Rattle.trace_program.specs.declared.hearing.Hearing.{Hearing}
use Rattle.trace_program.specs.declared.hearing.Stage.{Stage}
use Rattle.trace_program.specs.declared.hearing.Stage.TheVariants as stage
use Rattle.trace_program.specs.declared.judging.RefusedEvent.{RefusedEvent}
use Rattle.trace_program.specs.declared.judging.Trial.{Trial}
use Rattle.trace_program.proofs.RulingLemmas.{chip_next, chip_start, none_more, ruling_after, ruling_stays, some_more, start_calls}

-- ---- what is kept

abbrev counts_of : List (List DataCall) → List ℕ
counts_of calls = map (λ (list : List DataCall). length list) calls

count_at : (calls : List (List DataCall)) (r : ℕ) → slice_index (counts_of calls) r ≡ length (slice_index_or calls r [])
count_at [] r = refl
count_at (list ∷ calls) zero = refl
count_at (list ∷ calls) (suc r) = count_at calls r

counts_more : (calls : List (List DataCall)) (r : ℕ) (done : DataCall) → counts_of (with_call calls (record { rank = r; call = done })) ≡ slice_set (counts_of calls) r (slice_index (counts_of calls) r + 1)
counts_more calls r done =
    map-set_one (λ (list : List DataCall). length list) calls r (slice_index_or calls r [] ++ done ∷ [])
    ∙ ap (slice_set (counts_of calls) r) (length-append (slice_index_or calls r []) (done ∷ []) ∙ ap (λ (n : ℕ). n + 1) (sym (count_at calls r)))

pub none_counted : (counts : List ℕ) → counts ≡ counts_of no_calls → (k : ℕ) → slice_index counts k ≤ 0
unfolding no_calls
none_counted counts is k = omega (arith, ap (λ (l : List ℕ). slice_index l k) is, get_or-replicate_same {X = ℕ} 48 k 0)

pub held_more : (asked : Bool) (old new : FinishedCalls) (number r : ℕ) (calls : List (List DataCall)) (done : DataCall) → r < length old.counts
    → new.counts ≡ slice_set old.counts r (slice_index old.counts r + 1)
    → (HoldsLists asked old.lists calls → HoldsLists asked new.lists (with_call calls (record { rank = r; call = done })))
    → HoldsFinished asked old number calls → HoldsFinished asked new (number + 1) (with_call calls (record { rank = r; call = done }))
held_more asked old new number r calls done within counts lists held = record {
  counts = counts ∙ (λ i. slice_set (held.counts i) r (slice_index (held.counts i) r + 1)) ∙ sym (counts_more calls r done);
  few = λ k. same_or_other (slice_index new.counts k ≤ number + 1) k r
      (λ t is. omega (arith, held.few r, ap (λ (l : List ℕ). slice_index l k) counts, ap (λ (i : ℕ). slice_index (slice_set old.counts r (slice_index old.counts r + 1)) i) is, get_or-set_same old.counts r (slice_index old.counts r + 1) 0 within))
      (λ t other. omega (arith, held.few k, ap (λ (l : List ℕ). slice_index l k) counts, get_or-set_other old.counts r k (slice_index old.counts r + 1) 0 other));
  lists = lists held.lists;
}

pub held_stays : (asked : Bool) (f : FinishedCalls) (number : ℕ) (calls now : List (List DataCall)) → now ≡ calls → HoldsFinished asked f number calls → HoldsFinished asked f (number + 1) now
held_stays asked f number calls now same held =
    subst (λ (c : List (List DataCall)). HoldsFinished asked f (number + 1) c) (sym same) (record { counts = held.counts; few = λ k. omega (arith, held.few k); lists = held.lists })

pub held_as : (asked : Bool) (f : FinishedCalls) (number other : ℕ) (calls now : List (List DataCall)) → number ≡ other → calls ≡ now → HoldsFinished asked f number calls → HoldsFinished asked f other now
held_as asked f number other calls now same is held =
    subst (λ (n : ℕ). HoldsFinished asked f n now) same (subst (λ (c : List (List DataCall)). HoldsFinished asked f number c) is held)

abbrev Kept : Type 0
Kept = Option (Vec (Vec LogCall Global) Global)

pub start_held : (asked : Bool) (f : FinishedCalls) → f.counts ≡ counts_of no_calls → HoldsLists asked f.lists no_calls → HoldsFinished asked f 0 no_calls
start_held asked f counts lists = record { counts = counts; few = none_counted f.counts counts; lists = lists }

pub none_counts : (counts : List ℕ) → counts ≡ replicate 48 0 → counts ≡ counts_of no_calls
unfolding no_calls
none_counts counts is = is

pub lists_asked : (asked : Bool) (lists : Kept) (l : Vec (Vec LogCall Global) Global) → asked ≡ true → lists ≡ Some l → data_lists l.items ≡ no_calls → HoldsLists asked lists no_calls
lists_asked asked lists l asks is gives = subst (λ (b : Bool). HoldsLists b lists no_calls) (sym asks) (subst (λ (o : Kept). HoldsLists true o no_calls) (sym is) gives)

pub lists_unasked : (asked : Bool) (lists : Kept) → asked ≡ false → lists ≡ None → HoldsLists asked lists no_calls
lists_unasked asked lists asks is = subst (λ (b : Bool). HoldsLists b lists no_calls) (sym asks) (subst (λ (o : Kept). HoldsLists false o no_calls) (sym is) tt)

-- one call more, where the calls are not kept, and where they are
pub lists_none : (asked : Bool) (old new : Kept) (calls now : List (List DataCall)) → old ≡ None → new ≡ None → HoldsLists asked old calls → HoldsLists asked new now
lists_none asked old new calls now before after held = subst (λ (o : Kept). HoldsLists asked o now) (sym after) (by asked (subst (λ (o : Kept). HoldsLists asked o calls) before held))
  where
    by : (b : Bool) → HoldsLists b None calls → HoldsLists b None now
    by true h = absurd h
    by false h = tt

pub lists_some : (asked : Bool) (old new : Kept) (l m : Vec (Vec LogCall Global) Global) (calls : List (List DataCall)) (r : ℕ) (made done : DataCall) → old ≡ Some l → new ≡ Some m
    → data_lists m.items ≡ with_call (data_lists l.items) (record { rank = r; call = made }) → made ≡ done
    → HoldsLists asked old calls → HoldsLists asked new (with_call calls (record { rank = r; call = done }))
lists_some asked old new l m calls r made done before after gives same held =
    subst (λ (o : Kept). HoldsLists asked o (with_call calls (record { rank = r; call = done }))) (sym after) (by asked (subst (λ (o : Kept). HoldsLists asked o calls) before held))
  where
    by : (b : Bool) → HoldsLists b (Some l) calls → HoldsLists b (Some m) (with_call calls (record { rank = r; call = done }))
    by true h = gives ∙ (λ i. with_call (h i) (record { rank = r; call = same i }))
    by false h = absurd h

-- ---- a judge

pub start_tried : (t : Trial) (s : SetupView) (r : TraceReading) → t.judge.setup ≡ s → t.judge.run ≡ [] → t.first ≡ first_event_line s → t.number ≡ 0 → s ≡ r.trace.setup → r.trace.events ≡ [] → IsTried t r
start_tried t s r setup run first number same empty = record {
  setup = setup ∙ same;
  run = run ∙ sym empty;
  first = first ∙ ap first_event_line same;
  number = number ∙ sym (ap length empty);
  ruled = ap (ruling_from 0 (new_judged r.trace.setup)) empty ∙ ap (λ (j : Judged). Ok j) (sym (chip_start t.judge r.trace.setup (setup ∙ same) run));
}

module _ (old : Trial) (r : TraceReading) (e : RankEvent) (tried : IsTried old r) where
  ruled_next : ruling_from 0 (new_judged r.trace.setup) (r.trace.events ++ e ∷ []) ≡ unless_refused old.number e.rank (refusal_of (chip_of old.judge) e) (Ok (judged_after (chip_of old.judge) e))
  ruled_next = ruling_after 0 old.number (new_judged r.trace.setup) (chip_of old.judge) r.trace.events e (omega (arith, tried.number)) tried.ruled

  pub tried_on : (new : Trial) → new.first ≡ old.first → new.number ≡ old.number + 1 → new.judge.setup ≡ old.judge.setup → new.judge.run ≡ old.judge.run ++ e ∷ [] → None ≡ refusal_of (chip_of old.judge) e
      → IsTried new (event_added r e)
  tried_on new first number setup run none = record {
    setup = setup ∙ tried.setup;
    run = run ∙ ap (λ (l : List RankEvent). l ++ e ∷ []) tried.run;
    first = first ∙ tried.first;
    number = number ∙ omega (arith, tried.number, length-append r.trace.events (e ∷ []));
    ruled = ruled_next ∙ ap (λ (o : Option Refusal). unless_refused old.number e.rank o (Ok (judged_after (chip_of old.judge) e))) (sym none)
        ∙ ap (λ (j : Judged). Ok j) (sym (chip_next old.judge new.judge e setup run));
  }

  pub refused_on : (at : RefusedEvent) → at.line ≡ old.first + old.number → at.rank ≡ e.rank → Some at.why ≡ refusal_of (chip_of old.judge) e → IsRefusedAt at (event_added r e)
  refused_on at line rank why = record {
    number = old.number;
    line = line ∙ ap (λ (n : ℕ). n + old.number) tried.first;
    ruled = ruled_next ∙ ap (λ (o : Option Refusal). unless_refused old.number e.rank o (Ok (judged_after (chip_of old.judge) e))) (sym why)
        ∙ ap (λ (k : ℕ). Err (record { number = old.number; rank = k; why = at.why })) (sym rank);
  }

pub stays_refused : (at : RefusedEvent) (r : TraceReading) (e : RankEvent) → IsRefusedAt at r → IsRefusedAt at (event_added r e)
stays_refused at r e refused = record {
  number = refused.number;
  line = refused.line;
  ruled = ruling_stays 0 (new_judged r.trace.setup) r.trace.events e (record { number = refused.number; rank = at.rank; why = at.why }) refused.ruled;
}

-- the calls that a judge's event has finished, with those before it
pub held_none : (asked : Bool) (f : FinishedCalls) (number : ℕ) (old new : JudgeView) (e : RankEvent) (bytes : List ℕ) → new.setup ≡ old.setup → new.run ≡ old.run ++ e ∷ []
    → Adds None bytes ((chip_of old).records e.rank).calls ((chip_of new).records e.rank).calls → HoldsFinished asked f number (finished_calls (chip_of old)) → HoldsFinished asked f (number + 1) (finished_calls (chip_of new))
held_none asked f number old new e bytes setup run adds held = held_stays asked f number (finished_calls (chip_of old)) (finished_calls (chip_of new)) (none_more old new e bytes setup run adds) held

pub held_some : (asked : Bool) (f g : FinishedCalls) (number : ℕ) (old new : JudgeView) (e : RankEvent) (call : Call) (bytes : List ℕ) → new.setup ≡ old.setup → new.run ≡ old.run ++ e ∷ [] → e.rank < 48
    → Adds (Some call) bytes ((chip_of old).records e.rank).calls ((chip_of new).records e.rank).calls
    → ((calls : List (List DataCall)) (done : DataCall) → call_of done ≡ call → moved_by done ≡ bytes → HoldsFinished asked f number calls → HoldsFinished asked g (number + 1) (with_call calls (record { rank = e.rank; call = done })))
    → HoldsFinished asked f number (finished_calls (chip_of old)) → HoldsFinished asked g (number + 1) (finished_calls (chip_of new))
held_some asked f g number old new e call bytes setup run below (done, is, moved, more) keeps held =
    subst (λ (c : List (List DataCall)). HoldsFinished asked g (number + 1) c) (sym (some_more old new e done setup run below more)) (keeps (finished_calls (chip_of old)) done is moved held)

pub some_event : (events : List RankEvent) (e : RankEvent) → events ++ e ∷ [] ≢ []
some_event [] e is = absurd (cc)
some_event (x ∷ events) e is = absurd (cc)

-- ---- the judging, while the text goes on

untried_of : (asked : Bool) (s : Stage) (f : FinishedCalls) (said : Option (Result TraceReading TraceFault)) → HasNoEvents said → HoldsSaid asked s f said → IsUntried asked s f
untried_of asked s f None none held = held
untried_of asked stage.Waiting f (Some (Ok r)) none held = held.1
untried_of asked (stage.Judging t) f (Some (Ok r)) none held = absurd (held.0 none)
untried_of asked (stage.Refused at) f (Some (Ok r)) none held = absurd (held.0 none)
untried_of asked s f (Some (Err fault)) none held = absurd none

untried_holds : (asked : Bool) (s : Stage) (f : FinishedCalls) (r : TraceReading) → IsUntried asked s f → r.trace.events ≡ [] → HoldsStage asked s f r
untried_holds asked stage.Waiting f r held empty = (empty, held)
untried_holds asked (stage.Judging t) f r held empty = absurd held
untried_holds asked (stage.Refused at) f r held empty = absurd held

holds_without : (asked : Bool) (s : Stage) (f : FinishedCalls) (old new : Option (Result TraceReading TraceFault)) → GoesWithout old new → HoldsSaid asked s f old → HoldsSaid asked s f new
holds_without asked s f old new (inl same) held = subst (λ (o : Option (Result TraceReading TraceFault)). HoldsSaid asked s f o) (sym same) held
holds_without asked s f old new (inr (inl (fault, is))) held = subst (λ (o : Option (Result TraceReading TraceFault)). HoldsSaid asked s f o) (sym is) tt
holds_without asked s f old new (inr (inr (none, r, is, empty))) held =
    subst (λ (o : Option (Result TraceReading TraceFault)). HoldsSaid asked s f o) (sym is) (untried_holds asked s f r (untried_of asked s f old none held) empty)

pub starts_hearing : (asked : Bool) (h : Hearing) → h.bytes ≡ 0 → h.walk ≡ [] → h.stage ≡ stage.Waiting → HoldsFinished asked h.finished 0 no_calls → Hears asked h
starts_hearing asked h bytes walk waits held = record {
  counted = bytes ∙ sym (ap length walk);
  few = omega (arith, ap stage_number waits);
  heard = subst (λ (o : Option (Result TraceReading TraceFault)). HoldsSaid asked h.stage h.finished o) (sym (ap text_reading walk ∙ nothing_read))
      (subst (λ (s : Stage). IsUntried asked s h.finished) (sym waits) held);
}

-- an event that was just read
pub due_now : (asked : Bool) (old at : Hearing) (made : TraceEvent) → Hears asked old → at.stage ≡ old.stage → at.finished ≡ old.finished → length old.walk ≤ most_trace_bytes
    → GainsEvent (text_reading old.walk) (text_reading at.walk) (Some (rank_event made)) → (r : TraceReading) × IsDue asked at r made
due_now asked old at made hears stage_same finished_same within (r, before, come, below) = (
  r,
  record {
    holds = subst (λ (s : Stage). HoldsStage asked s at.finished r) (sym stage_same) (subst (λ (f : FinishedCalls). HoldsStage asked old.stage f r) (sym finished_same)
        (subst (λ (o : Option (Result TraceReading TraceFault)). HoldsSaid asked old.stage old.finished o) before hears.heard));
    come = come;
    below = below;
    few = omega (arith, ap stage_number stage_same, hears.few, hears.counted, within);
  },
)

-- and was judged
pub hears_event : (asked : Bool) (old new : Hearing) (r : TraceReading) (e : RankEvent) (b : ℕ) → Hears asked old → new.bytes ≡ old.bytes + 1 → new.walk ≡ old.walk ++ b ∷ [] → stage_number new.stage ≤ stage_number old.stage + 1
    → HasComeTo new.walk (event_added r e) → HoldsStage asked new.stage new.finished (event_added r e) → Hears asked new
hears_event asked old new r e b hears bytes walk number come holds = record {
  counted = omega (arith, bytes, hears.counted, ap length walk, length-append old.walk (b ∷ []));
  few = omega (arith, bytes, hears.few, number);
  heard = subst (λ (o : Option (Result TraceReading TraceFault)). HoldsSaid asked new.stage new.finished o) (sym come) holds;
}

-- a byte that ends no line of an event
pub hears_byte : (asked : Bool) (old new : Hearing) (b : ℕ) → Hears asked old → new.bytes ≡ old.bytes + 1 → new.walk ≡ old.walk ++ b ∷ [] → new.stage ≡ old.stage → new.finished ≡ old.finished
    → GainsEvent (text_reading old.walk) (text_reading new.walk) None → Hears asked new
hears_byte asked old new b hears bytes walk stage_same finished_same gains = record {
  counted = omega (arith, bytes, hears.counted, ap length walk, length-append old.walk (b ∷ []));
  few = omega (arith, bytes, hears.few, ap stage_number stage_same);
  heard = subst (λ (s : Stage). HoldsSaid asked s new.finished (text_reading new.walk)) (sym stage_same) (subst (λ (f : FinishedCalls). HoldsSaid asked old.stage f (text_reading new.walk)) (sym finished_same) on);
}
  where
    goes : GoesWithout (text_reading old.walk) (text_reading new.walk)
    goes = subst (λ (l : List ℕ). GoesWithout (text_reading old.walk) (text_reading l)) (sym walk)
        (goes_without old.walk b (subst (λ (l : List ℕ). GainsEvent (text_reading old.walk) (text_reading l) None) walk gains))

    on : HoldsSaid asked old.stage old.finished (text_reading new.walk)
    on = holds_without asked old.stage old.finished (text_reading old.walk) (text_reading new.walk) goes hears.heard

pub said_holds : (asked : Bool) (h : Hearing) (r : TraceReading) → Hears asked h → HasComeTo h.walk r → HoldsStage asked h.stage h.finished r
said_holds asked h r hears come = subst (λ (o : Option (Result TraceReading TraceFault)). HoldsSaid asked h.stage h.finished o) come hears.heard

-- a judge of no event, and one that has taken some
pub due_first : (asked : Bool) (h : Hearing) (r : TraceReading) (made : TraceEvent) → IsDue asked h r made → h.stage ≡ stage.Waiting → (r.trace.events ≡ []) × HoldsFinished asked h.finished 0 no_calls
due_first asked h r made due waits = subst (λ (s : Stage). HoldsStage asked s h.finished r) waits due.holds

pub next_first : (asked : Bool) (t : Trial) (h : Hearing) (r : TraceReading) (made : TraceEvent) → IsDue asked h r made → h.stage ≡ stage.Waiting → IsTried t r → t.number ≡ 0 → IsNext asked t h.finished r made
next_first asked t h r made due waits tried number =
    let (empty, held) = due_first asked h r made due waits in
    let start = start_calls r.trace.setup ∙ ap finished_calls (sym (chip_start t.judge r.trace.setup tried.setup (tried.run ∙ empty))) in
    record { has = record { tried = tried; held = held_as asked h.finished 0 t.number no_calls (finished_calls (chip_of t.judge)) (sym number) start held }; below = due.below }

pub next_later : (asked : Bool) (t : Trial) (h : Hearing) (r : TraceReading) (made : TraceEvent) → IsDue asked h r made → h.stage ≡ stage.Judging t → IsNext asked t h.finished r made
next_later asked t h r made due judges = record { has = (subst (λ (s : Stage). HoldsStage asked s h.finished r) judges due.holds).1; below = due.below }

-- what they came to
pub holds_taken : (asked : Bool) (t : Trial) (f : FinishedCalls) (r : TraceReading) (e : RankEvent) (answer : Option RefusedEvent) → answer ≡ None → TriedBy asked t f (event_added r e) answer → HoldsStage asked (stage.Judging t) f (event_added r e)
holds_taken asked t f r e answer is tried = (some_event r.trace.events e, subst (λ (o : Option RefusedEvent). TriedBy asked t f (event_added r e) o) is tried)

pub holds_refused : (asked : Bool) (t : Trial) (f g : FinishedCalls) (r : TraceReading) (e : RankEvent) (at : RefusedEvent) (answer : Option RefusedEvent) → answer ≡ Some at → TriedBy asked t f (event_added r e) answer
    → HoldsStage asked (stage.Refused at) g (event_added r e)
holds_refused asked t f g r e at answer is tried = (some_event r.trace.events e, subst (λ (o : Option RefusedEvent). TriedBy asked t f (event_added r e) o) is tried)

pub holds_later : (asked : Bool) (h : Hearing) (f : FinishedCalls) (r : TraceReading) (made : TraceEvent) (at : RefusedEvent) → IsDue asked h r made → h.stage ≡ stage.Refused at → HoldsStage asked (stage.Refused at) f (event_added r (rank_event made))
holds_later asked h f r made at due is =
    (some_event r.trace.events (rank_event made), stays_refused at r (rank_event made) (subst (λ (s : Stage). HoldsStage asked s h.finished r) is due.holds).1)

-- ---- what is shown of it

table_counts : (nue n : ℕ) (calls : List (List DataCall)) → table_lines (count_lines nue) n (counts_of calls) ≡ table_lines (finished_lines nue) n calls
table_counts nue n [] = refl
table_counts nue n (list ∷ calls) = ap (λ (lines : List (List ℕ)). count_lines nue n (length list) ++ lines) (table_counts nue (n + 1) calls)

lists_shown : (asked : Bool) (lists : Option (Vec (Vec LogCall Global) Global)) (calls : List (List DataCall)) → HoldsLists asked lists calls → lists_text lists ≡ asked_text asked calls
lists_shown false None calls held = refl
lists_shown true (Some lists) calls held = ap (λ (c : List (List DataCall)). text_of (table_lines call_lines 0 c)) held
lists_shown false (Some lists) calls held = absurd held
lists_shown true None calls held = absurd held

kept_shown : (asked : Bool) (f : FinishedCalls) (nue number : ℕ) (calls : List (List DataCall)) → HoldsFinished asked f number calls → kept_text nue f ≡ legal_text nue asked calls
kept_shown asked f nue number calls held = λ i. codes "legal\n" ++ (text_of ((ap (table_lines (count_lines nue) 0) held.counts ∙ table_counts nue 0 calls) i) ++ lists_shown asked f.lists calls held.lists i)

pub legal_shown : (asked : Bool) (f : FinishedCalls) (nue number : ℕ) (trace : TraceView) (j : Judged) → HoldsFinished asked f number (finished_calls j) → nue ≡ trace.setup.nue → ruling_from 0 (new_judged trace.setup) trace.events ≡ Ok j
    → record { finished = true; out = kept_text nue f; err = [] } ≡ trace_ran asked trace
legal_shown asked f nue number trace j held same ruled =
    (λ i. record { finished = true; out = (kept_shown asked f nue number (finished_calls j) held ∙ ap (λ (n : ℕ). legal_text n asked (finished_calls j)) same) i; err = [] })
    ∙ ap (ruling_ran asked trace) (sym ruled)

pub waiting_shown : (asked : Bool) (f : FinishedCalls) (nue : ℕ) (trace : TraceView) → trace.events ≡ [] → HoldsFinished asked f 0 no_calls → nue ≡ trace.setup.nue
    → record { finished = true; out = kept_text nue f; err = [] } ≡ trace_ran asked trace
waiting_shown asked f nue trace empty held same =
    legal_shown asked f nue 0 trace (new_judged trace.setup) (subst (λ (c : List (List DataCall)). HoldsFinished asked f 0 c) (start_calls trace.setup) held) same (ap (ruling_from 0 (new_judged trace.setup)) empty)

pub refused_shown : (asked : Bool) (at : RefusedEvent) (r : TraceReading) → IsRefusedAt at r → record { finished = false; out = refused_text at.line at.rank at.why; err = [] } ≡ trace_ran asked r.trace
refused_shown asked at r refused =
    (λ i. record { finished = false; out = refused_text (refused.line i) at.rank at.why; err = [] }) ∙ ap (ruling_ran asked r.trace) (sym refused.ruled)
