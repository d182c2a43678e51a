use Rattle.audit_program.proofs.launcher.judge_log.Goals as goal

pub returns : goal.returns
returns g c = λ judge is. (_, c.judge_file-ending.ensures judge is, c.deliver.ensures, tt)
