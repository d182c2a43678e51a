use Rattle.std.proofs.Common.{Option, subst, sym}
use Rattle.scc_base.specs.Places.{LineAt}
use Rattle.line_cache.specs.Lines.{IsPlaceOf, with_filled_line}
use Rattle.lab_run.specs.Evicting.{IsPlaceIn}
use Rattle.lab_run.proofs.reads.leaving.Goals as goal

pub returns-in-Some : goal.returns-in-Some
returns-in-Some c = λ words.
    let at = c.place_after.result in
    subst (λ (o : Option LineAt). IsPlaceIn o (with_filled_line c.args.entries.now c.args.new words) at) (sym c.in-Some.is)
    (subst (λ (l : LineAt). IsPlaceOf (with_filled_line c.args.entries.now c.args.new words) l at) c.line.ensures.gives (c.place_after.ensures words))
