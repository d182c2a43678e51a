use Rattle.std.proofs.Common.{◌∙◌, ◌∷◌, ◌++◌, [], List, length, Some, subst, sym}
use Rattle.line_cache.specs.declared.cache.Entry.{Entry}
use Rattle.line_cache.specs.Lines.{IsPlaceOf}
use Rattle.line_cache.proofs.LineLemmas.{other_line-sym, same_line-is}
use Rattle.lab_run.proofs.EvictLaws.{place_new, place_old}
use Rattle.lab_run.proofs.reads.place_after.Goals as goal

pub returns-then-is : goal.returns-then-is
returns-then-is c = λ words.
    let same = same_line-is c.args.line c.args.new (sym c.is.ensures.tells ∙ c.if-is.true) in
    subst (λ (es : List Entry). IsPlaceOf (es ++ (record { line = c.args.new; words = words }) ∷ []) c.args.line (Some (length c.front_of-front.result.now))) c.front_of-front.ensures
    (place_new c.front_of-front.result.now (record { line = c.args.new; words = words }) c.args.line same)

pub returns-else-is : goal.returns-else-is
returns-else-is c = λ words.
    let other = other_line-sym c.args.line c.args.new (sym c.is.ensures.tells ∙ c.if-is.false) in
    subst (λ (es : List Entry). IsPlaceOf (es ++ (record { line = c.args.new; words = words }) ∷ []) c.args.line c.place_of.result) c.front_of-front.ensures
    (place_old c.front_of-front.result.now (record { line = c.args.new; words = words }) c.args.line c.place_of.result other c.place_of.ensures)
