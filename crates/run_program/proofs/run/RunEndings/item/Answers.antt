use Rattle.std.proofs.Common.{ap, arith, length, List, slice_get, subst, sym, ◌<◌, ◌∙◌}
use Rattle.script_machine.specs.Printed.{Printed}
use Rattle.run_program.specs.Reports.{Shown}
use Rattle.run_program.proofs.RunLemmas.{crew_count, ue_ended}
use Rattle.run_program.proofs.run.RunEndings.item.Goals as goal

pub index-requires : goal.index-requires
index-requires c =
    let inside = c.self.inside in
    omega (arith, crew_count inside.scripts.now c.args.self.now.script (ap (λ (s : Shown). s.script) c.self.view_is) inside.crew.items c.self.invariant.0, c.number.ensures.gives, c.requires.known)

pub item-requires : goal.item-requires
item-requires c =
    let inside = c.self.inside in
    let h = ue_ended inside.scripts.now c.args.self.now.script (ap (λ (s : Shown). s.script) c.self.view_is) inside.crew.items c.self.invariant.0 c.args.rank c.number.result c.index.result.now c.number.ensures.gives c.requires.known c.index.ensures in
    record { below = subst (λ (items : List Printed). c.args.i < length items) (sym h.printed) c.requires.within }

pub returns : goal.returns
returns c =
    let inside = c.self.inside in
    let h = ue_ended inside.scripts.now c.args.self.now.script (ap (λ (s : Shown). s.script) c.self.view_is) inside.crew.items c.self.invariant.0 c.args.rank c.number.result c.index.result.now c.number.ensures.gives c.requires.known c.index.ensures in
    ap (λ (items : List Printed). slice_get items c.args.i) (sym h.printed) ∙ c.item.ensures.gives
