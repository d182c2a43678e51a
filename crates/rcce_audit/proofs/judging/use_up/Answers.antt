use Rattle.rcce_audit.specs.Standings.{standing_of}
use Rattle.rcce_audit.specs.Views.{data_lists}
use Rattle.rcce_audit.proofs.StandingLemmas.{leads_more}
use Rattle.rcce_audit.proofs.StepLemmas.{sweeps_asleep, sweeps_end}
use Rattle.rcce_audit.proofs.judging.use_up.Goals as goal

pub loop-moved-smaller : goal.loop-moved-smaller
loop-moved-smaller c = sweeps_end (data_lists c.args.lists.now) c.loop-moved.progress c.sweep-moved.new.progress c.loop-moved.moved c.sweep-moved.result c.loop-moved-test.true c.sweep-moved.ensures.sweeps

pub loop-moved-preserved : goal.loop-moved-preserved
loop-moved-preserved c =
    let lists = data_lists c.args.lists.now in
    record {
      quiet = c.sweep-moved.ensures.quiet;
      leads = leads_more c.args.setup.now (standing_of lists c.args.progress.now) (standing_of lists c.loop-moved.progress) (standing_of lists c.sweep-moved.new.progress) c.loop-moved.invariant.leads c.sweep-moved.ensures.leads;
      sleeps = sweeps_asleep lists c.loop-moved.progress c.sweep-moved.new.progress c.sweep-moved.result c.sweep-moved.ensures.sweeps;
    }
