use Rattle.std.proofs.Common.{◌≡◌, ◌≢◌, ◌∙◌, ◌<◌, ◌≤◌, None, length, refl, sym, subst, ap, take, List, arith}
use Rattle.line_cache.specs.declared.cache.Entry.{Entry}
use Rattle.line_cache.specs.Lines.{cached_words}
use Rattle.line_cache.proofs.LineLemmas.{held-remove}
use Rattle.line_cache.proofs.PlaceLemmas.{len_first, marked_filled, filled_full, filled_more, room_full, room_more}
use Rattle.line_cache.proofs.cache.Cache.fill.Goals as goal
use Rattle.line_cache.proofs.cache.Cache.fill.Goals.{then-self-eq-MOST_LINES, else-self-eq-MOST_LINES}

pub invariant_of-self : goal.invariant_of-self
invariant_of-self c =
    let none : cached_words (take c.self-2.inside.len c.self-2.inside.entries) c.args.line ≡ None
    = subst (λ (es : List Entry). cached_words es c.args.line ≡ None) (sym c.self-2.view_is)
    (elim c.if-self-eq-MOST_LINES.branch [
      | then-self-eq-MOST_LINES w ↦
          subst (λ (es : List Entry). cached_words es c.args.line ≡ None) (sym w.drop_at.ensures.lines ∙ sym w.self-is) (held-remove c.args.self.now 0 c.args.line c.requires)
      | else-self-eq-MOST_LINES w ↦ subst (λ (es : List Entry). cached_words es c.args.line ≡ None) (sym w.self-is) c.requires
    ]) in
    let old : length c.args.self.now ≡ c.self.inside.len
    = ap length (sym c.self.view_is) ∙ len_first c.self.inside.entries c.self.inside.len c.self.invariant.few in
    let most : length c.args.self.now ≤ 512 = subst (λ (es : List Entry). length es ≤ 512) c.self.view_is c.self.invariant.cache.few in
    let room : c.self-2.inside.len < 512
    = elim c.if-self-eq-MOST_LINES.branch [
      | then-self-eq-MOST_LINES w ↦
          room_full c.self-2.inside.entries c.args.self.now c.self-2.inside.len c.self-2.invariant.few (c.self-2.view_is ∙ w.self-is ∙ w.drop_at.ensures.lines)
          (old ∙ w.if-self-eq-MOST_LINES.true)
      | else-self-eq-MOST_LINES w ↦
          room_more c.self-2.inside.entries c.args.self.now c.self-2.inside.len c.self-2.invariant.few (c.self-2.view_is ∙ w.self-is) most
          (λ full. w.if-self-eq-MOST_LINES.false (sym old ∙ full))
    ] in
    marked_filled c.self-2.inside.entries c.self-2.inside.len c.self-2.inside.marks c.self-2.inside.pass c.from.result _ _ room (omega (arith, room)) (omega arith)
    (c.from.ensures ∙ c.line.ensures.gives) refl c.self-2.invariant none

pub returns-clause-cache : goal.returns-clause-cache
returns-clause-cache c = (invariant_of-self c).cache

pub returns-clause-lines : goal.returns-clause-lines
returns-clause-lines c =
    let old : length c.args.self.now ≡ c.self.inside.len
    = ap length (sym c.self.view_is) ∙ len_first c.self.inside.entries c.self.inside.len c.self.invariant.few in
    let most : length c.args.self.now ≤ 512 = subst (λ (es : List Entry). length es ≤ 512) c.self.view_is c.self.invariant.cache.few in
    elim c.if-self-eq-MOST_LINES.branch [
      | then-self-eq-MOST_LINES w ↦
          let now = c.self-2.view_is ∙ w.self-is ∙ w.drop_at.ensures.lines in
          let full : length c.args.self.now ≡ 512 = old ∙ w.if-self-eq-MOST_LINES.true in
          let low = room_full c.self-2.inside.entries c.args.self.now c.self-2.inside.len c.self-2.invariant.few now full in
          filled_full c.self-2.inside.entries c.args.self.now c.self-2.inside.len (record { line = c.args.line; words = c.args.words }) (omega (arith, low)) now full
      | else-self-eq-MOST_LINES w ↦
          let now = c.self-2.view_is ∙ w.self-is in
          let more : length c.args.self.now ≢ 512 = λ full. w.if-self-eq-MOST_LINES.false (sym old ∙ full) in
          let low = room_more c.self-2.inside.entries c.args.self.now c.self-2.inside.len c.self-2.invariant.few now most more in
          filled_more c.self-2.inside.entries c.args.self.now c.self-2.inside.len (record { line = c.args.line; words = c.args.words }) (omega (arith, low)) now more
    ]
