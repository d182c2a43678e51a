use Rattle.std.proofs.Common.{subst}
use Rattle.chip_run.specs.declared.runs.Mode.{Mode}
use Rattle.chip_run.specs.Runs.{InOrder}
use Rattle.rcce_run.specs.UeRuns.{ue_members}
use Rattle.run_program.specs.Loading.{asked_by}
use Rattle.rcce_run.proofs.FreshCrews.{crew_fresh}
use Rattle.run_program.proofs.RunLemmas.{run_over}
use Rattle.run_program.proofs.launcher.run_crew.Goals as goal

pub run-requires-clause-fresh : goal.run-requires-clause-fresh
run-requires-clause-fresh g c =
    let loaded = c.args.loaded.now in
    λ lifetimes outlive. (loaded.script, crew_fresh loaded.script loaded.setup _ c.requires.fresh _ c.requires.chip)

pub returns-clause-over : goal.returns-clause-over
returns-clause-over g c =
    let loaded = c.args.loaded.now in
    let fresh = crew_fresh loaded.script loaded.setup _ c.requires.fresh _ c.requires.chip in
    let gives = c.run.ensures.gives loaded.script fresh in
    run_over (asked_by loaded) _ _ _ _ _ loaded.ranks c.requires.chip c.requires.fresh.count c.run.ensures.stands c.run.ensures.home
    gives.answer gives.ends gives.calls gives.sent gives.opened c.run.ensures.no_draft
    (record {
      first = c.args.chip.now;
      crew = c.args.crew.now;
      later = c.run.new.crew;
      new = c.requires.chip;
      fresh = c.requires.fresh;
      evictors = c.requires.evictors;
      order = subst (λ (m : Mode). InOrder ue_members m c.args.chip.now c.args.crew.now c.run.new.chip c.run.new.crew) c.mode_of.ensures.gives c.run.ensures.order;
    })
