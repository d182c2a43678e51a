use Rattle.std.proofs.Common.{subst, sym, ◌∙◌, ap}
use Rattle.plain_meaning.specs.Meaning.{plain_ends}
use Rattle.rcce_run.specs.Crews.{EndsAs}
use Rattle.chip_run.specs.declared.ends.RunEnd.{RunEnd}
use Rattle.plain_meaning.specs.Ends.{all_finished}
use Rattle.rcce_run.proofs.FinishedLaws.{finished_all, stuck_one}
use Rattle.run_program.specs.Reports.{Shown}
use Rattle.run_program.proofs.RunLemmas.{ran_finished}
use Rattle.run_program.proofs.run.RunReport.is_finished.Goals as goal

pub returns-in-Finished : goal.returns-in-Finished
returns-in-Finished c =
    let script = c.self.inside.scripts.now in
    sym (finished_all script (subst (λ (e : RunEnd). EndsAs e script) c.in-Finished.is c.self.invariant.2))
    ∙ ap (λ (s : Shown). all_finished (plain_ends s.script)) c.self.view_is ∙ sym (ran_finished c.args.self.now.script c.args.self.now.seed)

pub returns-in-Stuck : goal.returns-in-Stuck
returns-in-Stuck c =
    let script = c.self.inside.scripts.now in
    sym (stuck_one script (subst (λ (e : RunEnd). EndsAs e script) c.in-Stuck.is c.self.invariant.2))
    ∙ ap (λ (s : Shown). all_finished (plain_ends s.script)) c.self.view_is ∙ sym (ran_finished c.args.self.now.script c.args.self.now.seed)
