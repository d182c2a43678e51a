use Rattle.std.proofs.Common.{arith, ◌∙◌}
use Rattle.log_run.proofs.FreshLaws.{calls_long, crew_count, kept_there, logger_keeps}
use Rattle.log_run.proofs.script_runs.LogRun.calls.Goals as goal

pub index-requires : goal.index-requires
index-requires c =
    let inside = c.self.inside in
    omega (arith, crew_count inside.scripts.now c.args.self.now c.self.view_is inside.crew.items c.self.invariant.0, c.number.ensures.gives, c.requires)

pub returns-clause-gives : goal.returns-clause-gives
returns-clause-gives c =
    let inside = c.self.inside in
    let keeps = logger_keeps inside.scripts.now c.args.self.now c.self.view_is inside.crew.items c.self.invariant.0 c.args.rank c.number.result c.index.result.now c.number.ensures.gives c.requires c.index.ensures in
    c.as_slice.ensures.value ∙ (kept_there c.index.result.now.tap c.in-Some.tap _ c.in-Some.is keeps).calls_are

pub returns-clause-long : goal.returns-clause-long
returns-clause-long c =
    let inside = c.self.inside in
    calls_long inside.scripts.now c.args.self.now c.self.view_is inside.crew.items c.self.invariant.0 c.args.rank c.requires
