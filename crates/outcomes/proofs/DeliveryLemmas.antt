-- What the sinks took of an outcome's texts.
use Rattle.std.proofs.Common.{◌≡◌, ◌⊎◌, ℕ, ◌<◌, ◌≤◌, true, List, [], refl, sym, ap, subst, ◌∙◌, inl, inr, arith}
use Rattle.std.proofs.lemmas.Bool.{false≢true}
use Rattle.std.proofs.lemmas.List.{append-nil}
use Rattle.rcce_io.specs.Faults.{next_count, Rose, IsSteady}
use Rattle.rcce_io.specs.Sending.{SinkView, CutShort, with_text}
use Rattle.rcce_io.proofs.SendingLemmas.{text_none}
use Rattle.outcomes.specs.declared.status.Status.{Status}
use Rattle.outcomes.specs.declared.status.Status.TheVariants as status
use Rattle.outcomes.specs.Statuses.{is_quiet}
use Rattle.outcomes.specs.Outcomes.{Outcome, no_memory}
use Rattle.outcomes.specs.Delivery.{Sinks, Delivers, AreSteady, Shows, ShowsOr, TakesFront}

-- a count that rose did not stay
pub rose_not_steady : (before now : ℕ) → Rose before now → IsSteady before now → ⊥
rose_not_steady before now rose steady = omega (arith, rose, steady.same, steady.below_most)

-- a text was cut short by one fault
cut_fault : (text : List ℕ) (before after : SinkView) → CutShort text before after → after.faults ≡ next_count before.faults
cut_fault text before after cut = ap (λ (s : SinkView). s.faults) cut.left

cut_rose : (text : List ℕ) (before after : SinkView) → CutShort text before after → Rose before.faults after.faults
cut_rose text before after cut = omega (arith, cut_fault text before after cut)

whole_still : (text : List ℕ) (before after : SinkView) → after ≡ with_text text before → before.faults < after.faults → ⊥
whole_still text before after taken rose = let same = ap (λ (s : SinkView). s.faults) taken in omega (arith, rose, same)

whole_later : (text : List ℕ) (before after : SinkView) → after ≡ with_text text before → before.faults ≤ after.faults
whole_later text before after taken = let same = ap (λ (s : SinkView). s.faults) taken in omega (arith, same)

cut_later : (text : List ℕ) (before after : SinkView) → CutShort text before after → before.faults ≤ after.faults
cut_later text before after cut = omega (arith, cut_fault text before after cut)

still_later : (before after : SinkView) → after ≡ before → before.faults ≤ after.faults
still_later before after same = let count = ap (λ (s : SinkView). s.faults) same in omega (arith, count)

module _ (o : Outcome) (before after : Sinks) (s : Status) where
  -- no count falls
  pub later_of : Delivers o before after s → (before.out.faults ≤ after.out.faults) × (before.err.faults ≤ after.err.faults)
  later_of (inl shown) = (
    whole_later o.out before.out after.out (ap (λ (x : Sinks). x.out) shown.1),
    whole_later o.err before.err after.err (ap (λ (x : Sinks). x.err) shown.1),
  )
  later_of (inr short) =
      elim short.1 [
        | inl cut ↦ (cut_later o.out before.out after.out cut.0, still_later before.err after.err cut.1)
        | inr cut ↦ (whole_later o.out before.out after.out cut.0, cut_later o.err before.err after.err cut.1)
      ]

  -- with no failed write the texts were taken whole
  pub shows_steady : AreSteady before after → Delivers o before after s → Shows o before after s
  shows_steady steady (inl shown) = record { same_status = shown.0; texts = shown.1 }
  shows_steady steady (inr short) =
      elim short.1 [
        | inl cut ↦ absurd (rose_not_steady before.out.faults after.out.faults (cut_rose o.out before.out after.out cut.0) steady.out)
        | inr cut ↦ absurd (rose_not_steady before.err.faults after.err.faults (cut_rose o.err before.err after.err cut.1) steady.err)
      ]

  pub shows_or_write : Delivers o before after s → (s ≡ status.Write) ⊎ Shows o before after s
  shows_or_write (inl shown) = inr (record { same_status = shown.0; texts = shown.1 })
  shows_or_write (inr short) = inl short.0

  pub shows_unless_write : (s ≡ status.Write → ⊥) → Delivers o before after s → Shows o before after s
  shows_unless_write other (inl shown) = record { same_status = shown.0; texts = shown.1 }
  shows_unless_write other (inr short) = absurd (other short.0)

  -- an outcome's status, or that of a failed write
  pub status_of_end : Delivers o before after s → (s ≡ o.status) ⊎ (s ≡ status.Write)
  status_of_end (inl shown) = inl shown.0
  status_of_end (inr short) = inr short.0

  pub rose_by_write : (o.status ≡ status.Write → ⊥) → Delivers o before after s → s ≡ status.Write →
      Rose before.out.faults after.out.faults ⊎ Rose before.err.faults after.err.faults
  rose_by_write other (inl shown) e = absurd (other (sym shown.0 ∙ e))
  rose_by_write other (inr short) e =
      elim short.1 [
        | inl cut ↦ inl (cut_rose o.out before.out after.out cut.0)
        | inr cut ↦ inr (cut_rose o.err before.err after.err cut.1)
      ]

  pub write_out_of : Delivers o before after s → before.out.faults < after.out.faults → (s ≡ status.Write) × (after.err ≡ before.err)
  write_out_of (inl shown) rose = absurd (whole_still o.out before.out after.out (ap (λ (x : Sinks). x.out) shown.1) rose)
  write_out_of (inr short) rose =
      elim short.1 [ inl cut ↦ (short.0, cut.1) | inr cut ↦ absurd (whole_still o.out before.out after.out cut.0 rose) ]

  pub write_err_of : Delivers o before after s → before.err.faults < after.err.faults → s ≡ status.Write
  write_err_of (inl shown) rose = absurd (whole_still o.err before.err after.err (ap (λ (x : Sinks). x.err) shown.1) rose)
  write_err_of (inr short) rose = short.0

  pub quiet_of : (is_quiet o.status ≡ true → o.out ≡ []) → Delivers o before after s → is_quiet s ≡ true → after.out ≡ before.out
  quiet_of none (inl shown) e =
      ap (λ (x : Sinks). x.out) shown.1
      ∙ ap (λ t. with_text t before.out) (none (sym (ap is_quiet shown.0) ∙ e)) ∙ text_none before.out
  quiet_of none (inr short) e = absurd (false≢true (sym (ap is_quiet short.0) ∙ e))

  front_of_whole : (text : List ℕ) (one one_after : SinkView) → one_after ≡ with_text text one → TakesFront text one one_after
  front_of_whole text one one_after taken =
      record { front = text; back = []; whole = sym (append-nil text); taken = ap (λ (x : SinkView). x.taken) taken }

  front_of_cut : (text : List ℕ) (one one_after : SinkView) → CutShort text one one_after → TakesFront text one one_after
  front_of_cut text one one_after cut =
      record { front = cut.front; back = cut.back; whole = cut.whole; taken = ap (λ (x : SinkView). x.taken) cut.left }

  front_of_none : (text : List ℕ) (one one_after : SinkView) → one_after ≡ one → TakesFront text one one_after
  front_of_none text one one_after same =
      record { front = []; back = text; whole = refl; taken = ap (λ (x : SinkView). x.taken) (same ∙ sym (text_none one)) }

  pub fronts_of : Delivers o before after s → TakesFront o.out before.out after.out × TakesFront o.err before.err after.err
  fronts_of (inl shown) = (
    front_of_whole o.out before.out after.out (ap (λ (x : Sinks). x.out) shown.1),
    front_of_whole o.err before.err after.err (ap (λ (x : Sinks). x.err) shown.1),
  )
  fronts_of (inr short) =
      elim short.1 [
        | inl cut ↦ (front_of_cut o.out before.out after.out cut.0, front_of_none o.err before.err after.err cut.1)
        | inr cut ↦ (front_of_whole o.out before.out after.out cut.0, front_of_cut o.err before.err after.err cut.1)
      ]

  pub shown_or : (program : List ℕ) (p : Outcome) → Shows o before after s → (o ≡ p) ⊎ (o ≡ no_memory program) → ShowsOr program p before after s
  shown_or program p shown (inl is) = inl (subst (λ q. Shows q before after s) is shown)
  shown_or program p shown (inr is) = inr (subst (λ q. Shows q before after s) is shown)
