-- Monitors that follow the ranks of a chip: what they show of the next event, and what it leaves.
use Rattle.std.proofs.Common.{◌≡◌, ◌≢◌, ℕ, zero, suc, ◌+◌, ◌<◌, List, [], ◌∷◌, ◌++◌, length, slice_index_or, slice_set, Option, Some, Ok, refl, sym, ◌∙◌, ap, subst, arith}
use Rattle.std.specs.Prelude.{slice_get, ◌↔◌}
use Rattle.std.proofs.lemmas.List.{length-set}
use Rattle.std.proofs.lemmas.Option.{slice_get_read}
use Rattle.scc_base.specs.Setups.{SetupView, IsSetup}
use Rattle.scc_base.specs.declared.calls.Call.{Call}
use Rattle.scc_base.specs.declared.events.Event.{Event}
use Rattle.scc_proto.specs.Histories.{records_from}
use Rattle.scc_proto.specs.Records.{IsPermitted, record_after}
use Rattle.scc_proto.specs.Stages.{Record, blank}
use Rattle.scc_proto.specs.Tables.{table_with}
use Rattle.scc_proto.specs.Words.{zeros, RankEvent}
use Rattle.scc_proto.proofs.Messages.ChunkRecords.{memory_from-append}
use Rattle.scc_proto.proofs.Tests.{put_here, put_there, same_or_other}
use Rattle.rank_monitor.specs.Following.{Adds, FinishesCall, FollowsRecord}
use Rattle.rank_monitor.specs.Next.{allowed_for}
use Rattle.rank_monitor.specs.declared.monitors.RankMonitor.{RankMonitor}
use Rattle.rank_monitor.specs.declared.next.NextEvent.{NextEvent}
use Rattle.trace_judge.specs.Followed.{FollowsAt, IsFollowed, bytes_shown}
use Rattle.trace_judge.specs.Judged.{judged_after, judged_by}

-- ---- one event more

-- the records with one event more of a rank
abbrev pub records_after : SetupView → (ℕ → Record) → RankEvent → ℕ → Record
records_after s records e = table_with records e.rank (record_after s e.rank (records e.rank) e.event)

pub records_pushed : (s : SetupView) (records : ℕ → Record) (run : List RankEvent) (e : RankEvent) → records_from s records (run ++ e ∷ []) ≡ records_after s (records_from s records run) e
records_pushed s records [] e = refl
records_pushed s records (x ∷ run) e = records_pushed s (records_after s records x) run e

pub judged_pushed : (s : SetupView) (run : List RankEvent) (e : RankEvent) → judged_by s (run ++ e ∷ []) ≡ judged_after (judged_by s run) e
judged_pushed s run e = λ i. record { setup = s; memory = memory_from-append zeros run (e ∷ []) i; records = records_pushed s (λ r. blank) run e i }

-- ---- one item of a list, changed

pub get_set_here : {A : Type 0} (xs : List A) (i : ℕ) (x : A) → i < length xs → slice_get (slice_set xs i x) i ≡ Some x
get_set_here [] i x below = absurd (omega (arith, below))
get_set_here (y ∷ xs) zero x below = refl
get_set_here (y ∷ xs) (suc i) x below = get_set_here xs i x (omega (arith, below))

pub get_set_there : {A : Type 0} (xs : List A) (i k : ℕ) (x : A) → k ≢ i → slice_get (slice_set xs i x) k ≡ slice_get xs k
get_set_there [] i k x other = refl
get_set_there (y ∷ xs) zero zero x other = absurd (other refl)
get_set_there (y ∷ xs) zero (suc k) x other = refl
get_set_there (y ∷ xs) (suc i) zero x other = refl
get_set_there (y ∷ xs) (suc i) (suc k) x other = get_set_there xs i k x (λ same. other (ap suc same))

pub shown_set : (xs : List RankMonitor) (i : ℕ) (x : RankMonitor) → i < length xs → slice_index_or (bytes_shown (slice_set xs i x)) i [] ≡ x.work.bytes.items
shown_set [] i x below = absurd (omega (arith, below))
shown_set (y ∷ xs) zero x below = refl
shown_set (y ∷ xs) (suc i) x below = shown_set xs i x (omega (arith, below))

pub shown_read : (xs : List RankMonitor) (i : ℕ) (x : RankMonitor) → i < length xs → x ≡ slice_index_or xs i x → x.work.bytes.items ≡ slice_index_or (bytes_shown xs) i []
shown_read [] i x below read = absurd (omega (arith, below))
shown_read (y ∷ xs) zero x below read = ap (λ (m : RankMonitor). m.work.bytes.items) read
shown_read (y ∷ xs) (suc i) x below read = shown_read xs i x (omega (arith, below)) read

-- ---- before the first event

pub nothing_made : (s : SetupView) (monitors : List RankMonitor) → IsSetup s → length monitors ≡ s.nue
    → ((r : ℕ) → r < s.nue → FollowsAt s r blank (slice_get monitors r)) → IsFollowed s monitors []
nothing_made s monitors valid count follows = record { valid = valid; count = count; follows = follows }

-- ---- the next event

module _ (s : SetupView) (monitors : List RankMonitor) (run : List RankEvent) (followed : IsFollowed s monitors run)
    (r : ℕ) (below : r < s.nue) (e : Event) (m : RankMonitor) (at : m ≡ slice_index_or monitors r m) where
  abbrev own : Record
  own = records_from s (λ k. blank) run r

  abbrev made : RankEvent
  made = record { rank = r; event = e }

  pub within : r < length monitors
  within = omega (arith, below, followed.count)

  found : slice_get monitors r ≡ Some m
  found = slice_get_read monitors (length monitors) r m refl within at

  is_own : (m.setup ≡ s) × (m.rank ≡ r) × FollowsRecord m own
  is_own = subst (λ (o : Option RankMonitor). FollowsAt s r own o) found (followed.follows r below)

  -- what the monitor permits is what the record permits
  pub own_permits : (P : Type 0) → ((rec : Record) → FollowsRecord m rec → P ↔ IsPermitted m.setup m.rank rec e) → P ↔ IsPermitted s r own e
  own_permits P told =
      subst (λ (k : ℕ). P ↔ IsPermitted s k own e) is_own.1
      (subst (λ (x : SetupView). P ↔ IsPermitted x m.rank own e) is_own.0 (told own is_own.2))

  -- what the monitor allows is what the record allows
  pub own_allows : {A : Type 0} (x : A) (f : NextEvent → A) → ((rec : Record) → FollowsRecord m rec → x ≡ f (allowed_for m.setup rec e)) → x ≡ f (allowed_for s own e)
  own_allows x f told = told own is_own.2 ∙ ap (λ (y : SetupView). f (allowed_for y own e)) is_own.0

  module _ (n : RankMonitor) (same : (n.setup ≡ m.setup) × (n.rank ≡ m.rank))
      (follows : (rec : Record) → FollowsRecord m rec → FollowsRecord n (record_after m.setup m.rank rec e)) where
    follows_own : FollowsRecord n (record_after s r own e)
    follows_own =
        subst (λ (k : ℕ). FollowsRecord n (record_after s k own e)) is_own.1
        (subst (λ (x : SetupView). FollowsRecord n (record_after x m.rank own e)) is_own.0 (follows own is_own.2))

    here : FollowsAt s r (records_after s (records_from s (λ k. blank) run) made r) (slice_get (slice_set monitors r n) r)
    here =
        subst (λ (o : Option RankMonitor). FollowsAt s r (records_after s (records_from s (λ k. blank) run) made r) o) (sym (get_set_here monitors r n within)) (
          same.0 ∙ is_own.0,
          same.1 ∙ is_own.1,
          subst (FollowsRecord n) (sym (put_here (records_from s (λ k. blank) run) r (record_after s r own e))) follows_own,
        )

    there : (k : ℕ) → k ≢ r → k < s.nue → FollowsAt s k (records_after s (records_from s (λ x. blank) run) made k) (slice_get (slice_set monitors r n) k)
    there k other under =
        subst (λ (o : Option RankMonitor). FollowsAt s k (records_after s (records_from s (λ x. blank) run) made k) o) (sym (get_set_there monitors r k n other))
        (subst (λ (rec : Record). FollowsAt s k rec (slice_get monitors k)) (sym (put_there (records_from s (λ x. blank) run) r (record_after s r own e) k other)) (followed.follows k under))

    each : (k : ℕ) → k < s.nue → FollowsAt s k (records_after s (records_from s (λ x. blank) run) made k) (slice_get (slice_set monitors r n) k)
    each k under =
        same_or_other (FollowsAt s k (records_after s (records_from s (λ x. blank) run) made k) (slice_get (slice_set monitors r n) k)) r k
        (λ t is. subst (λ (x : ℕ). FollowsAt s x (records_after s (records_from s (λ y. blank) run) made x) (slice_get (slice_set monitors r n) x)) is here)
        (λ t other. there k (λ is. other (sym is)) under)

    pub followed_on : IsFollowed s (slice_set monitors r n) (run ++ made ∷ [])
    followed_on = record {
      valid = followed.valid;
      count = length-set monitors r n ∙ followed.count;
      follows = λ k under. subst (λ (records : ℕ → Record). FollowsAt s k (records k) (slice_get (slice_set monitors r n) k)) (sym (records_pushed s (λ x. blank) run made)) (each k under);
    }

    pub adds_own : (call : Option Call) → ((rec : Record) → FollowsRecord m rec → FinishesCall (Ok call) n.work.bytes.items rec.calls (record_after m.setup m.rank rec e).calls)
        → Adds call (slice_index_or (bytes_shown (slice_set monitors r n)) r []) own.calls (records_from s (λ k. blank) (run ++ made ∷ []) r).calls
    adds_own call finishes =
        let told : Adds call n.work.bytes.items own.calls (record_after s r own e).calls =
        subst (λ (k : ℕ). Adds call n.work.bytes.items own.calls (record_after s k own e).calls) is_own.1
        (subst (λ (x : SetupView). Adds call n.work.bytes.items own.calls (record_after x m.rank own e).calls) is_own.0 (finishes own is_own.2)) in
        subst (λ (bytes : List ℕ). Adds call bytes own.calls (records_from s (λ k. blank) (run ++ made ∷ []) r).calls) (sym (shown_set monitors r n within))
        (subst (λ (rec : Record). Adds call n.work.bytes.items own.calls rec.calls)
        (sym ((λ i. records_pushed s (λ k. blank) run made i r) ∙ put_here (records_from s (λ k. blank) run) r (record_after s r own e))) told)

  -- a monitor that stays as it was leaves the list as it was
  pub list_kept : (n : RankMonitor) → n ≡ m → slice_set monitors r n ≡ monitors
  list_kept n is = ap (slice_set monitors r) is ∙ set_read monitors r m at
    where
      set_read : (xs : List RankMonitor) (i : ℕ) (x : RankMonitor) → x ≡ slice_index_or xs i x → slice_set xs i x ≡ xs
      set_read [] i x read = refl
      set_read (y ∷ xs) zero x read = ap (λ (z : RankMonitor). z ∷ xs) read
      set_read (y ∷ xs) (suc i) x read = ap (λ (l : List RankMonitor). y ∷ l) (set_read xs i x read)

-- ---- a monitor for each rank

get_push_last : {A : Type 0} (xs : List A) (x : A) → slice_get (xs ++ x ∷ []) (length xs) ≡ Some x
get_push_last [] x = refl
get_push_last (y ∷ xs) x = get_push_last xs x

get_push_front : {A : Type 0} (xs : List A) (x : A) (k : ℕ) → k < length xs → slice_get (xs ++ x ∷ []) k ≡ slice_get xs k
get_push_front [] x k below = absurd (omega (arith, below))
get_push_front (y ∷ xs) x zero below = refl
get_push_front (y ∷ xs) x (suc k) below = get_push_front xs x k (omega (arith, below))

pub one_more : (s : SetupView) (n : ℕ) (monitors : List RankMonitor) (m : RankMonitor) → length monitors ≡ n → ((r : ℕ) → r < n → FollowsAt s r blank (slice_get monitors r))
    → (m.setup ≡ s) × (m.rank ≡ n) → FollowsRecord m blank → (r : ℕ) → r < n + 1 → FollowsAt s r blank (slice_get (monitors ++ m ∷ []) r)
one_more s n monitors m count follows own first r below =
    same_or_other (FollowsAt s r blank (slice_get (monitors ++ m ∷ []) r)) r n
    (λ t is. subst (λ (k : ℕ). FollowsAt s k blank (slice_get (monitors ++ m ∷ []) k)) (sym is)
    (subst (λ (k : ℕ). FollowsAt s n blank (slice_get (monitors ++ m ∷ []) k)) count
    (subst (λ (o : Option RankMonitor). FollowsAt s n blank o) (sym (get_push_last monitors m)) (own.0, own.1, first))))
    (λ t other. subst (λ (o : Option RankMonitor). FollowsAt s r blank o) (sym (get_push_front monitors m r (omega (arith, below, other, count)))) (follows r (omega (arith, below, other))))
