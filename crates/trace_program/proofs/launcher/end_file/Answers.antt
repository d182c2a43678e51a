use Rattle.std.proofs.Common.{codes, refl}
use Rattle.trace_program.specs.Jobs.{job_view}
use Rattle.trace_program.proofs.PlanLemmas.{ends_judged, ends_long, ends_refused}
use Rattle.trace_program.proofs.launcher.end_file.Goals as goal

pub is_long-requires : goal.is_long-requires
is_long-requires c = record { hears = (c.args.job.asked, c.requires.hears) }

pub returns-then-is_long : goal.returns-then-is_long
returns-then-is_long c = λ before after reads. ends_long (codes "rccetrace") (job_view c.args.job) c.args.hearing.walk before after reads _ (c.is_long.ensures.long c.if-is_long.true) refl

pub verdict-requires : goal.verdict-requires
verdict-requires c = record { within = c.is_long.ensures.short c.if-is_long.false }

pub returns-in-Ok : goal.returns-in-Ok
returns-in-Ok c = λ before after reads.
    let (trace, said, shown) = c.in-Ok.ensures.comes c.args.job.asked c.requires.hears in
    ends_judged (codes "rccetrace") (job_view c.args.job) c.args.hearing.walk before after reads (c.is_long.ensures.short c.if-is_long.false) trace _ said shown

pub returns-in-Err : goal.returns-in-Err
returns-in-Err c = λ before after reads.
    ends_refused (codes "rccetrace") (job_view c.args.job) c.args.hearing.walk before after reads (c.is_long.ensures.short c.if-is_long.false) c.in-Err.fault _ (c.in-Err.ensures.comes c.args.job.asked c.requires.hears) c.name.ensures
