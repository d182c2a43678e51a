use Rattle.std.proofs.Common.{subst, sym}
use Rattle.rcce_run.specs.UeRuns.{AreFresh}
use Rattle.run_program.specs.Evictors.{HaveEvictors}
use Rattle.run_program.proofs.launcher.run_opened.Goals as goal

pub run_crew-end-requires-clause-evictors : goal.run_crew-end-requires-clause-evictors
run_crew-end-requires-clause-evictors g c = λ lifetimes outlive.
    subst (HaveEvictors c.args.loaded.now.job.evict) (sym c.as_mut_slice.ensures.value) c.requires.evictors

pub run_crew-end-requires-clause-fresh : goal.run_crew-end-requires-clause-fresh
run_crew-end-requires-clause-fresh g c = λ lifetimes outlive.
    subst (AreFresh c.args.loaded.now.script c.args.loaded.now.setup c.args.loaded.now.setup.nue) (sym c.as_mut_slice.ensures.value) c.requires.fresh

pub new-requires-clause-answer : goal.new-requires-clause-answer
new-requires-clause-answer g c = c.run_crew-end.ensures.over.answer

pub new-requires-clause-made : goal.new-requires-clause-made
new-requires-clause-made g c = c.requires.made

pub returns-clause-ran : goal.returns-clause-ran
returns-clause-ran g c = c.run_crew-end.ensures.over.history

pub returns-clause-legal : goal.returns-clause-legal
returns-clause-legal g c = c.run_crew-end.ensures.legal
