-- A round in threads: what each member went through, and what the crew came to.
use Rattle.std.proofs.Common.{◌≡◌, ℕ, ◌+◌, ◌<◌, ◌≤◌, List, length, slice_index_or, refl, sym, ◌∙◌, ap, subst, arith}
use Rattle.scc_base.specs.Setups.{SetupView}
use Rattle.scc_base.specs.declared.events.Event.{Event}
use Rattle.scc_mesh.specs.Spaces.{ChipId}
use Rattle.scc_mesh.specs.Scenes.{ChipView, IsWhole, about_in, events_in, table_in}
use Rattle.chip_run.specs.Away.{IsAway, Served, TookSlice}
use Rattle.chip_run.specs.Behaves.{Behaviour}
use Rattle.chip_run.specs.Crews.{CrewStands, IsCrew}
use Rattle.chip_run.specs.declared.members.Member.{Member}
use Rattle.chip_run.proofs.ServedLaws.{sum_later}

module _ {A : Type 0} (c : Behaviour A) where
  -- a row between two moments at which the worker was the same
  pub slice_between : (s : SetupView) (rank : ℕ) (first before after last : A) → before ≡ first → TookSlice c s rank before after → last ≡ after → TookSlice c s rank first last
  slice_between s rank first before after last one slice two = subst (TookSlice c s rank first) (sym two) (subst (λ (w : A). TookSlice c s rank w after) one slice)

  -- no more turns are left behind a row
  slice_left_less : (s : SetupView) (rank : ℕ) (old new : A) → TookSlice c s rank old new → (c.seen s rank new).left ≤ (c.seen s rank old).left
  slice_left_less s rank old new took =
      subst (λ (x : SetupView). (c.seen x rank new).left ≤ (c.seen x rank old).left) took.setup_is
      (subst (λ (r : ℕ). (c.seen took.first.seat.setup r new).left ≤ (c.seen took.first.seat.setup r old).left) took.rank_is took.slice.turns.left)

  -- a crew whose members each went on
  pub round_stands : (chip now : ChipView) (crew later : List A) → IsCrew c chip crew → IsWhole now → about_in now ≡ about_in chip → table_in now ≡ table_in chip → length later ≡ length crew
      → ((k : ℕ) (d : A) → k < length crew → c.tied (slice_index_or later k d) (about_in now) k (events_in now k))
      → ((k : ℕ) (d : A) → k < length crew → TookSlice c (about_in chip) k (slice_index_or crew k d) (slice_index_or later k d))
      → CrewStands c chip crew now later
  round_stands chip now crew later is_crew whole about table count ties goes = record {
    is_crew = record {
      whole = whole;
      each = count ∙ is_crew.each ∙ ap (λ (s : SetupView). s.nue) (sym about);
      ties = λ k d low. ties k d (subst (λ (n : ℕ). k < n) count low);
    };
    goes = record {
      about = about;
      table = table;
      count = count;
      each = λ k d low. (goes k d low).slice.turns.later;
      left = sum_later (λ k x. (c.seen (about_in chip) k x).left) 0 crew later count
          (λ k d low.
          let zeroth : 0 + k ≡ k = omega arith in
          subst (λ (n : ℕ). (c.seen (about_in chip) n (slice_index_or later k d)).left ≤ (c.seen (about_in chip) n (slice_index_or crew k d)).left) (sym zeroth)
          (slice_left_less (about_in chip) k (slice_index_or crew k d) (slice_index_or later k d) (goes k d low)));
    };
  }

-- ---- the members of a crew, one after the other

-- none is served yet
pub none_served : {A : Type 0} (R : ℕ → A → A → Type 0) (crew : List A) → Served R 0 crew crew
none_served R crew = record { count = refl; done = λ k d low within. absurd (omega (arith, low)); left = λ k d from. refl }

-- all are served
pub all_served : {A : Type 0} (R : ℕ → A → A → Type 0) (n all : ℕ) (old now : List A) → n ≤ all → all ≤ n → Served R n old now → Served R all old now
all_served R n all old now low high served = let same : n ≡ all = omega (arith, low, high) in subst (λ (k : ℕ). Served R k old now) same served

-- a rank of a setup that is the same
pub rank_below : (s t : SetupView) (k n : ℕ) → k < n → n ≡ s.nue → t ≡ s → k < t.nue
rank_below s t k n low each same = subst (λ (m : ℕ). k < m) (each ∙ ap (λ (x : SetupView). x.nue) (sym same)) low

-- a worker that is tied to its rank's events, or whose rank is away, where nothing changed
module _ {A : Type 0} (tied : A → SetupView → ℕ → List Event → Type 0) (s t : SetupView) (k : ℕ) (x y : Member A) (about : t ≡ s) (same : y ≡ x) where
  pub tied_yet : (old now : List Event) → now ≡ old → tied x.worker s k old → tied y.worker t k now
  tied_yet old now events ties =
      subst (λ (es : List Event). tied y.worker t k es) (sym events)
      (subst (λ (r : SetupView). tied y.worker r k old) (sym about) (subst (λ (m : Member A). tied m.worker s k old) (sym same) ties))

  pub away_yet : (old now : ChipId) → now ≡ old → IsAway (tied x.worker) s old k x.token → IsAway (tied y.worker) t now k y.token
  away_yet old now table away =
      subst (λ (id : ChipId). IsAway (tied y.worker) t id k y.token) (sym table)
      (subst (λ (r : SetupView). IsAway (tied y.worker) r old k y.token) (sym about) (subst (λ (m : Member A). IsAway (tied m.worker) s old k m.token) (sym same) away))
