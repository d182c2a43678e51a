-- What a trace comes to, event by event, and the calls that its events finish.
use Rattle.std.proofs.Common.{◌≡◌, ◌≢◌, ℕ, ◌+◌, ◌<◌, List, [], ◌∷◌, ◌++◌, length, map, slice_index_or, slice_set, Option, Some, None, Ok, Err, refl, sym, ◌∙◌, ap, subst, arith}
use Rattle.std.specs.List.{range_with_len}
use Rattle.std.proofs.lemmas.List.{ext_get_or, get_or-set_other, get_or-set_same, length-set}
use Rattle.std.proofs.lemmas.List.FromFn.{get_or-map-range_with_len, length-map-range_with_len}
use Rattle.rank_monitor.specs.Following.{Adds}
use Rattle.scc_base.specs.Calls.{DataCall}
use Rattle.scc_proto.specs.Stages.{Record}
use Rattle.scc_proto.specs.Words.{RankEvent}
use Rattle.scc_proto.proofs.Tests.{put_there, same_or_other}
use Rattle.scc_proto.specs.Records.{record_after}
use Rattle.trace_judge.specs.Judged.{Judged, JudgeView, chip_of, judged_after, judged_by, new_judged}
use Rattle.trace_judge.proofs.FollowFacts.{judged_pushed}
use Rattle.trace_judge.specs.Rulings.{RefusedAt, refusal_of, ruling_from, unless_refused}
use Rattle.trace_judge.specs.declared.judge.Refusal.{Refusal}
use Rattle.rcce_audit.specs.Grammar.{no_calls, with_call}
use Rattle.scc_base.specs.Setups.{SetupView}
use Rattle.trace_program.specs.Lists.{finished_calls}

-- one event more behind events that are taken
pub ruling_after : (n m : ℕ) (j now : Judged) (es : List RankEvent) (e : RankEvent) → m ≡ n + length es → ruling_from n j es ≡ Ok now
    → ruling_from n j (es ++ e ∷ []) ≡ unless_refused m e.rank (refusal_of now e) (Ok (judged_after now e))
ruling_after n m j now [] e is taken =
    (λ i. unless_refused (start i) e.rank (refusal_of (same i) e) (Ok (judged_after (same i) e)))
  where
    same : j ≡ now
    same = cc

    start : n ≡ m
    start = omega (arith, is)
ruling_after n m j now (x ∷ es) e is taken = by (refusal_of j x) (λ t. ruling_after (n + 1) m (judged_after j x) now es e (omega (arith, is)) t) taken
  where
    by : (why : Option Refusal)
        → (ruling_from (n + 1) (judged_after j x) es ≡ Ok now → ruling_from (n + 1) (judged_after j x) (es ++ e ∷ []) ≡ unless_refused m e.rank (refusal_of now e) (Ok (judged_after now e)))
        → unless_refused n x.rank why (ruling_from (n + 1) (judged_after j x) es) ≡ Ok now
        → unless_refused n x.rank why (ruling_from (n + 1) (judged_after j x) (es ++ e ∷ [])) ≡ unless_refused m e.rank (refusal_of now e) (Ok (judged_after now e))
    by None rest t = rest t
    by (Some why) rest t = absurd (cc)

-- behind one that is refused
pub ruling_stays : (n : ℕ) (j : Judged) (es : List RankEvent) (e : RankEvent) (at : RefusedAt) → ruling_from n j es ≡ Err at → ruling_from n j (es ++ e ∷ []) ≡ Err at
ruling_stays n j [] e at refused = absurd (cc)
ruling_stays n j (x ∷ es) e at refused = by (refusal_of j x) (λ t. ruling_stays (n + 1) (judged_after j x) es e at t) refused
  where
    by : (why : Option Refusal) → (ruling_from (n + 1) (judged_after j x) es ≡ Err at → ruling_from (n + 1) (judged_after j x) (es ++ e ∷ []) ≡ Err at)
        → unless_refused n x.rank why (ruling_from (n + 1) (judged_after j x) es) ≡ Err at
        → unless_refused n x.rank why (ruling_from (n + 1) (judged_after j x) (es ++ e ∷ [])) ≡ Err at
    by None rest t = rest t
    by (Some why) rest t = t

-- the calls of one rank, changed
module _ (j : Judged) (e : RankEvent) where
  abbrev after : Record
  after = record_after j.setup e.rank (j.records e.rank) e.event

  other_calls : (k : ℕ) → k ≢ e.rank → ((judged_after j e).records k).calls ≡ (j.records k).calls
  other_calls k other = ap (λ (r : Record). r.calls) (put_there j.records e.rank after k other)

  pub same_calls : ((judged_after j e).records e.rank).calls ≡ (j.records e.rank).calls → finished_calls (judged_after j e) ≡ finished_calls j
  unfolding finished_calls
  same_calls same = (λ i. map (λ (k : ℕ). each k i) (range_with_len 0 48))
    where
      each : (k : ℕ) → ((judged_after j e).records k).calls ≡ (j.records k).calls
      each k = same_or_other (((judged_after j e).records k).calls ≡ (j.records k).calls) k e.rank
          (λ t is. subst (λ (x : ℕ). ((judged_after j e).records x).calls ≡ (j.records x).calls) (sym is) same)
          (λ t other. other_calls k other)

  abbrev calls_at : Judged → ℕ → List DataCall
  calls_at x k = (x.records k).calls

  pub one_call_more : (done : DataCall) → e.rank < 48 → ((judged_after j e).records e.rank).calls ≡ (j.records e.rank).calls ++ done ∷ []
      → finished_calls (judged_after j e) ≡ slice_set (finished_calls j) e.rank (slice_index_or (finished_calls j) e.rank [] ++ done ∷ [])
  unfolding finished_calls
  one_call_more done below more =
      ext_get_or [] (finished_calls (judged_after j e)) (slice_set (finished_calls j) e.rank (slice_index_or (finished_calls j) e.rank [] ++ done ∷ []))
      (length-map-range_with_len (calls_at (judged_after j e)) 0 48 ∙ sym (length-set (finished_calls j) e.rank (slice_index_or (finished_calls j) e.rank [] ++ done ∷ []) ∙ length-map-range_with_len (calls_at j) 0 48))
      (λ k under.
      let low : k < 48 = omega (arith, under, length-map-range_with_len (calls_at (judged_after j e)) 0 48) in
      get_or-map-range_with_len (calls_at (judged_after j e)) 0 48 k k [] low (omega arith)
      ∙ same_or_other (((judged_after j e).records k).calls ≡ slice_index_or (slice_set (finished_calls j) e.rank (slice_index_or (finished_calls j) e.rank [] ++ done ∷ [])) k []) k e.rank
      (λ t is. subst (λ (x : ℕ). ((judged_after j e).records x).calls ≡ slice_index_or (slice_set (finished_calls j) e.rank (slice_index_or (finished_calls j) e.rank [] ++ done ∷ [])) x []) (sym is)
      (more ∙ ap (λ (l : List DataCall). l ++ done ∷ []) (sym (get_or-map-range_with_len (calls_at j) 0 48 e.rank e.rank [] below (omega arith)))
      ∙ sym (get_or-set_same (finished_calls j) e.rank (slice_index_or (finished_calls j) e.rank [] ++ done ∷ []) [] (omega (arith, below, length-map-range_with_len (calls_at j) 0 48)))))
      (λ t other. other_calls k other ∙ sym (get_or-set_other (finished_calls j) e.rank k (slice_index_or (finished_calls j) e.rank [] ++ done ∷ []) [] other ∙ get_or-map-range_with_len (calls_at j) 0 48 k k [] low (omega arith))))

-- ---- what a judge has taken

pub chip_next : (old new : JudgeView) (e : RankEvent) → new.setup ≡ old.setup → new.run ≡ old.run ++ e ∷ [] → chip_of new ≡ judged_after (chip_of old) e
chip_next old new e setup run = (λ i. judged_by (setup i) (run i)) ∙ judged_pushed old.setup old.run e

pub none_more : (old new : JudgeView) (e : RankEvent) (bytes : List ℕ) → new.setup ≡ old.setup → new.run ≡ old.run ++ e ∷ []
    → Adds None bytes ((chip_of old).records e.rank).calls ((chip_of new).records e.rank).calls → finished_calls (chip_of new) ≡ finished_calls (chip_of old)
none_more old new e bytes setup run adds =
    let next = chip_next old new e setup run in
    ap finished_calls next ∙ same_calls (chip_of old) e (ap (λ (x : Judged). (x.records e.rank).calls) (sym next) ∙ adds)

pub some_more : (old new : JudgeView) (e : RankEvent) (done : DataCall) → new.setup ≡ old.setup → new.run ≡ old.run ++ e ∷ [] → e.rank < 48
    → ((chip_of new).records e.rank).calls ≡ ((chip_of old).records e.rank).calls ++ done ∷ []
    → finished_calls (chip_of new) ≡ with_call (finished_calls (chip_of old)) (record { rank = e.rank; call = done })
some_more old new e done setup run below more =
    let next = chip_next old new e setup run in
    ap finished_calls next ∙ one_call_more (chip_of old) e done below (ap (λ (x : Judged). (x.records e.rank).calls) (sym next) ∙ more)

pub chip_start : (v : JudgeView) (s : SetupView) → v.setup ≡ s → v.run ≡ [] → chip_of v ≡ new_judged s
chip_start v s setup run = λ i. judged_by (setup i) (run i)

pub start_calls : (s : SetupView) → no_calls ≡ finished_calls (new_judged s)
unfolding no_calls finished_calls
start_calls s = refl
