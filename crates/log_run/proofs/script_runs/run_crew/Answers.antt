use Rattle.log_run.proofs.FreshLaws.{fresh_crew, over}
use Rattle.log_run.proofs.script_runs.run_crew.Goals as goal

pub log_run-requires : goal.log_run-requires
log_run-requires c =
    let script = c.args.scripts.now in
    record { fresh = (script, fresh_crew script c.args.setup.now _ _ c.acceptance_law.ensures.whole c.requires.chip c.requires.fresh) }

pub returns : goal.returns
returns c =
    let script = c.args.scripts.now in
    let fresh = fresh_crew script c.args.setup.now _ _ c.acceptance_law.ensures.whole c.requires.chip c.requires.fresh in
    over script c.args.setup.now _ _ _ _ _ c.requires.ranks c.requires.room c.requires.chip c.requires.fresh.count c.log_run.ensures.stands c.log_run.ensures.count
    (c.log_run.ensures.answer script fresh) (c.log_run.ensures.calls script fresh) c.log_run.ensures.legal (c.log_run.ensures.opened script fresh) c.log_run.ensures.no_draft (c.log_run.ensures.kept script fresh) (c.log_run.ensures.long script fresh)
    (c.log_run.ensures.own script fresh) (c.log_run.ensures.room script fresh)
