use Rattle.std.proofs.Common.{ap, arith, ◌∙◌}
use Rattle.run_program.specs.Reports.{Shown}
use Rattle.run_program.proofs.RunLemmas.{crew_count, ue_ended}
use Rattle.run_program.proofs.run.RunEndings.end.Goals as goal

pub index-requires : goal.index-requires
index-requires c =
    let inside = c.self.inside in
    omega (arith, crew_count inside.scripts.now c.args.self.now.script (ap (λ (s : Shown). s.script) c.self.view_is) inside.crew.items c.self.invariant.0, c.number.ensures.gives, c.requires)

pub end-requires : goal.end-requires
end-requires c =
    let inside = c.self.inside in
    let h = ue_ended inside.scripts.now c.args.self.now.script (ap (λ (s : Shown). s.script) c.self.view_is) inside.crew.items c.self.invariant.0 c.args.rank c.number.result c.index.result.now c.number.ensures.gives c.requires c.index.ensures in
    record { rests = h.pausing }

pub returns : goal.returns
returns c =
    let inside = c.self.inside in
    let h = ue_ended inside.scripts.now c.args.self.now.script (ap (λ (s : Shown). s.script) c.self.view_is) inside.crew.items c.self.invariant.0 c.args.rank c.number.result c.index.result.now c.number.ensures.gives c.requires c.index.ensures in
    c.end.ensures.gives h.last h.posted ∙ h.end
