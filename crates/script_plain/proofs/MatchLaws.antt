-- The messages of a run, as its steps bring them one after another.
use Rattle.std.proofs.Common.{◌≡◌, ℕ, zero, suc, ◌+◌, ◌-◌, ◌<◌, ◌≤◌, Bool, true, false, cond, List, [], ◌∷◌, ◌++◌, length, Option, Some, None, refl, sym, ap, ◌∙◌, subst, arith, append_assoc, sum_by, slice_get}
use Rattle.std.specs.Prelude.{is_some}
use Rattle.std.specs.Option.{option_map, option_map_or}
use Rattle.std.proofs.lemmas.List.{append-nil, length-map}
use Rattle.std.proofs.lemmas.Option.{slice_get-map}
use Rattle.script_rules.specs.Script.{Script}
use Rattle.script_plain.specs.declared.matches.Match.{Match}
use Rattle.script_plain.specs.Code.{BringsAt, BringsLowest}
use Rattle.script_machine.specs.Local.{Local, most_steps_left, local_next, statement_line}
use Rattle.script_plain.specs.Matches.{messages_brought, brought_by, statement_line_at, lowest_brought, match_of, matches_on, plain_matches, step_brought, brought_by_take}
use Rattle.plain_meaning.specs.Meaning.{State, keys_of, locals_of, next_of, seen_of, start_of, steps_left}
use Rattle.script_machine.specs.Next.{Next}
use Rattle.script_machine.specs.Next.Next.{Ends, Goes, Posts, Sends, Recvs, Bars}
use Rattle.plain_meaning.specs.Step.{Configuration, lowest, lowest_step, next_at, slot_at, step_of}
use Rattle.plain_meaning.proofs.Runs.Costs.{Lowers, next_map}
use Rattle.plain_meaning.proofs.Runs.PlainLaws.{local_lowers, state_seen}
use Rattle.plain_meaning.proofs.Runs.RunLaws.{falls_lowest, lowest_skips}
use Rattle.plain_meaning.proofs.Runs.ViewLaws.{lowest_step-map, next_at-map, step_of-map, sum_by-map, view_of}

module _ {U : Type 0} (keys : ℕ → ℕ → ℕ) (next : U → Next U) (line : U → ℕ) (cost : U → ℕ) (lowers : (u : U) → Lowers cost (cost u) (next u)) where
  -- where no step is enabled, no message comes
  pub matches_none : (n : ℕ) (c : Configuration U) → lowest_step keys next c ≡ None → matches_on keys next line n c ≡ []
  matches_none zero c none = refl
  matches_none (suc n) c none =
      ap (λ (o : Option (Configuration U)). option_map_or (λ d. step_brought keys next line c ++ matches_on keys next line n d) o []) none

  nothing_left : (c : Configuration U) (o : Option (Configuration U)) → sum_by cost c.cells ≤ 0 → lowest_step keys next c ≡ o → lowest_step keys next c ≡ None
  nothing_left c None none e = e
  nothing_left c (Some d) none e = absurd (omega (arith, falls_lowest keys next cost lowers c d e))

  same_by : (n m : ℕ) (c : Configuration U) (o : Option (Configuration U)) → lowest_step keys next c ≡ o → sum_by cost c.cells ≤ suc n → sum_by cost c.cells ≤ suc m
      → ((d : Configuration U) → sum_by cost d.cells ≤ n → sum_by cost d.cells ≤ m → matches_on keys next line n d ≡ matches_on keys next line m d)
      → option_map_or (λ d. step_brought keys next line c ++ matches_on keys next line n d) o [] ≡ option_map_or (λ d. step_brought keys next line c ++ matches_on keys next line m d) o []
  same_by n m c None e fits other rest = refl
  same_by n m c (Some d) e fits other rest =
      let less : sum_by cost d.cells < sum_by cost c.cells = falls_lowest keys next cost lowers c d e in
      ap (λ (l : List Match). step_brought keys next line c ++ l) (rest d (omega (arith, less, fits)) (omega (arith, less, other)))

  -- any two numbers of steps that are enough bring the same
  pub matches_enough : (n m : ℕ) (c : Configuration U) → sum_by cost c.cells ≤ n → sum_by cost c.cells ≤ m → matches_on keys next line n c ≡ matches_on keys next line m c
  matches_enough zero m c fits other = sym (matches_none m c (nothing_left c (lowest_step keys next c) fits refl))
  matches_enough (suc n) zero c fits other = matches_none (suc n) c (nothing_left c (lowest_step keys next c) other refl)
  matches_enough (suc n) (suc m) c fits other = same_by n m c (lowest_step keys next c) refl fits other (matches_enough n m)

  more_within : (n : ℕ) (c d : Configuration U) → lowest_step keys next c ≡ Some d → sum_by cost c.cells ≤ n → matches_on keys next line n c ≡ step_brought keys next line c ++ matches_on keys next line (sum_by cost d.cells) d
  more_within zero c d step fits = absurd (omega (arith, falls_lowest keys next cost lowers c d step, fits))
  more_within (suc n) c d step fits =
      let less : sum_by cost d.cells < sum_by cost c.cells = falls_lowest keys next cost lowers c d step in
      ap (λ (o : Option (Configuration U)). option_map_or (λ e. step_brought keys next line c ++ matches_on keys next line n e) o []) step
      ∙ ap (λ (l : List Match). step_brought keys next line c ++ l) (matches_enough n (sum_by cost d.cells) d (omega (arith, less, fits)) (omega arith))

  -- what a step brings, and then the rest
  pub matches_step : (c d : Configuration U) → lowest_step keys next c ≡ Some d → matches_on keys next line (sum_by cost c.cells) c ≡ step_brought keys next line c ++ matches_on keys next line (sum_by cost d.cells) d
  matches_step c d step = more_within (sum_by cost c.cells) c d step (omega arith)

-- another view of the states, where what comes next and the lines are seen through it
module _ {U V : Type 0} (f : U → V) (keys : ℕ → ℕ → ℕ) (next : U → Next U) (seen : V → Next V) (line : V → ℕ) (sees : (u : U) → seen (f u) ≡ next_map f (next u)) where
  line_by : (o : Option U) → option_map_or line (option_map f o) 0 ≡ option_map_or (λ u. line (f u)) o 0
  line_by None = refl
  line_by (Some u) = refl

  line-map : (c : Configuration U) (i : ℕ) → statement_line_at line (view_of f c) i ≡ statement_line_at (λ u. line (f u)) c i
  line-map c i = ap (λ (o : Option V). option_map_or line o 0) (slice_get-map f c.cells i) ∙ line_by (slice_get c.cells i)

  brought_by-map : (c : Configuration U) (i : ℕ) (n : Next U) → brought_by line (view_of f c) i (next_map f n) ≡ brought_by (λ u. line (f u)) c i n
  brought_by-map c i Ends = refl
  brought_by-map c i (Goes after) = refl
  brought_by-map c i (Posts message after) = refl
  brought_by-map c i (Sends to head bytes after) =
      ap (λ (k : ℕ). match_of i to head k (statement_line_at line (view_of f c) to) ∷ []) (line-map c i)
      ∙ ap (λ (k : ℕ). match_of i to head (statement_line_at (λ u. line (f u)) c i) k ∷ []) (line-map c to)
  brought_by-map c i (Recvs from head take refuse) = ap (λ (k : ℕ). brought_by_take i from head k (slot_at c from)) (line-map c i)
  brought_by-map c i (Bars comm after) = refl

  brought-map : (c : Configuration U) (i : ℕ) → messages_brought seen line (view_of f c) i ≡ messages_brought next (λ u. line (f u)) c i
  brought-map c i =
      ap (brought_by line (view_of f c) i) (next_at-map f keys next seen sees c i) ∙ brought_by-map c i (next_at next c i)

  some-map : (o : Option (Configuration U)) → is_some (option_map (view_of f) o) ≡ is_some o
  some-map None = refl
  some-map (Some c) = refl

  lowest_brought-map : (c : Configuration U) (n i : ℕ) → lowest_brought keys seen line (view_of f c) n i ≡ lowest_brought keys next (λ u. line (f u)) c n i
  lowest_brought-map c zero i = refl
  lowest_brought-map c (suc n) i =
      ap (λ (o : Option (Configuration V)). cond (is_some o) (messages_brought seen line (view_of f c) i) (lowest_brought keys seen line (view_of f c) n (i + 1))) (step_of-map f keys next seen sees c i)
      ∙ ap (λ (b : Bool). cond b (messages_brought seen line (view_of f c) i) (lowest_brought keys seen line (view_of f c) n (i + 1))) (some-map (step_of keys next c i))
      ∙ ap (λ (l : List Match). cond (is_some (step_of keys next c i)) l (lowest_brought keys seen line (view_of f c) n (i + 1))) (brought-map c i)
      ∙ ap (λ (l : List Match). cond (is_some (step_of keys next c i)) (messages_brought next (λ u. line (f u)) c i) l) (lowest_brought-map c n (i + 1))

  step_brought-map : (c : Configuration U) → step_brought keys seen line (view_of f c) ≡ step_brought keys next (λ u. line (f u)) c
  step_brought-map c =
      ap (λ (n : ℕ). lowest_brought keys seen line (view_of f c) n 0) (length-map c.cells f) ∙ lowest_brought-map c (length c.cells) 0

  matches_by-map : (n : ℕ) (c : Configuration U) (o : Option (Configuration U)) → ((d : Configuration U) → matches_on keys seen line n (view_of f d) ≡ matches_on keys next (λ u. line (f u)) n d)
      → option_map_or (λ d. step_brought keys seen line (view_of f c) ++ matches_on keys seen line n d) (option_map (view_of f) o) []
      ≡ option_map_or (λ d. step_brought keys next (λ u. line (f u)) c ++ matches_on keys next (λ u. line (f u)) n d) o []
  matches_by-map n c None rest = refl
  matches_by-map n c (Some d) rest =
      ap (λ (l : List Match). l ++ matches_on keys seen line n (view_of f d)) (step_brought-map c)
      ∙ ap (λ (l : List Match). step_brought keys next (λ u. line (f u)) c ++ l) (rest d)

  pub matches_on-map : (n : ℕ) (c : Configuration U) → matches_on keys seen line n (view_of f c) ≡ matches_on keys next (λ u. line (f u)) n c
  matches_on-map zero c = refl
  matches_on-map (suc n) c =
      ap (λ (o : Option (Configuration V)). option_map_or (λ d. step_brought keys seen line (view_of f c) ++ matches_on keys seen line n d) o []) (lowest_step-map f keys next seen sees c)
      ∙ matches_by-map n c (lowest_step keys next c) (matches_on-map n)

-- the messages of a script, by what its ranks hold
pub seen_matches : (script : Script) → matches_on (keys_of script) local_next statement_line (sum_by most_steps_left (locals_of (start_of script))) (seen_of (start_of script)) ≡ plain_matches script
seen_matches script =
    ap (λ (n : ℕ). matches_on (keys_of script) local_next statement_line n (seen_of (start_of script))) (sum_by-map most_steps_left (λ (u : State). u.local) (start_of script).cells)
    ∙ matches_on-map (λ (u : State). u.local) (keys_of script) next_of local_next statement_line state_seen (steps_left (start_of script)) (start_of script)

-- the search for the step with the lowest owner
module _ (keys : ℕ → ℕ → ℕ) where
  -- a rank that owns none is passed over
  pub passed_lowest : (moved : Bool) (i : ℕ) (old new : Configuration Local) (before after : List Match) → moved ≡ false → BringsAt keys moved i old new before after → i < length old.cells
      → lowest keys local_next old (length old.cells - i) i ≡ lowest_step keys local_next old → lowest_brought keys local_next statement_line old (length old.cells - i) i ≡ step_brought keys local_next statement_line old
      → (new ≡ old) × (after ≡ before) × (lowest keys local_next new (length new.cells - (i + 1)) (i + 1) ≡ lowest_step keys local_next new) × (lowest_brought keys local_next statement_line new (length new.cells - (i + 1)) (i + 1) ≡ step_brought keys local_next statement_line new)
  passed_lowest moved i old new before after is step within left right =
      let rested = subst (λ (b : Bool). BringsAt keys b i old new before after) is step in
      let more : length old.cells - i ≡ suc (length old.cells - (i + 1)) = omega (arith, within) in
      let on : lowest keys local_next old (length old.cells - (i + 1)) (i + 1) ≡ lowest_step keys local_next old =
      sym (lowest_skips keys local_next old (length old.cells - i) (length old.cells - (i + 1)) i more rested.0) ∙ left in
      let skipped : lowest_brought keys local_next statement_line old (length old.cells - (i + 1)) (i + 1) ≡ step_brought keys local_next statement_line old =
      sym (ap (λ (n : ℕ). lowest_brought keys local_next statement_line old n i) more
      ∙ ap (λ (o : Option (Configuration Local)). cond (is_some o) (messages_brought local_next statement_line old i) (lowest_brought keys local_next statement_line old (length old.cells - (i + 1)) (i + 1))) rested.0) ∙ right in (
        rested.1,
        rested.2,
        subst (λ (c : Configuration Local). lowest keys local_next c (length c.cells - (i + 1)) (i + 1) ≡ lowest_step keys local_next c) (sym rested.1) on,
        subst (λ (c : Configuration Local). lowest_brought keys local_next statement_line c (length c.cells - (i + 1)) (i + 1) ≡ step_brought keys local_next statement_line c) (sym rested.1) skipped,
      )

  -- what a step brings, and then the rest
  pub goes_on : (moved : Bool) (old new : Configuration Local) (before after : List Match) → moved ≡ true → BringsLowest keys moved old new before after
      → after ++ matches_on keys local_next statement_line (sum_by most_steps_left new.cells) new ≡ before ++ matches_on keys local_next statement_line (sum_by most_steps_left old.cells) old
  goes_on moved old new before after is step =
      let taken = subst (λ (b : Bool). BringsLowest keys b old new before after) is step in
      let rest : List Match = matches_on keys local_next statement_line (sum_by most_steps_left new.cells) new in
      ap (λ (l : List Match). l ++ rest) taken.1
      ∙ append_assoc before (step_brought keys local_next statement_line old) rest
      ∙ ap (λ (l : List Match). before ++ l) (sym (matches_step keys local_next statement_line most_steps_left local_lowers old new taken.0))

  pub was_stepped : (moved : Bool) (old new : Configuration Local) (before after : List Match) → moved ≡ true → BringsLowest keys moved old new before after → lowest_step keys local_next old ≡ Some new
  was_stepped moved old new before after is step = (subst (λ (b : Bool). BringsLowest keys b old new before after) is step).0

  -- and where none is enabled nothing is left
  pub comes_to_rest : (moved : Bool) (old new : Configuration Local) (before after : List Match) → moved ≡ false → BringsLowest keys moved old new before after
      → after ≡ before ++ matches_on keys local_next statement_line (sum_by most_steps_left old.cells) old
  comes_to_rest moved old new before after is step =
      let rested = subst (λ (b : Bool). BringsLowest keys b old new before after) is step in
      rested.2 ∙ sym (ap (λ (l : List Match). before ++ l) (matches_none keys local_next statement_line most_steps_left local_lowers (sum_by most_steps_left old.cells) old rested.0) ∙ append-nil before)
