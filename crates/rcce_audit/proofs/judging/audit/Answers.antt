use Rattle.rcce_audit.specs.Views.{data_lists}
use Rattle.rcce_audit.proofs.StandingLemmas.{are_lists, judged, legal_told, start_quiet}
use Rattle.rcce_audit.proofs.judging.audit.Goals as goal

pub use_up-requires-clause-lists : goal.use_up-requires-clause-lists
use_up-requires-clause-lists c = are_lists c.args.log.now c.setup-setup.result (data_lists c.lists-lists.result.now) c.lists-lists.ensures.valid c.setup-setup.ensures.nue c.setup-setup.ensures.comms c.lists-lists.ensures.gives

pub use_up-requires-clause-quiet : goal.use_up-requires-clause-quiet
use_up-requires-clause-quiet c =
    start_quiet c.setup-setup.result (data_lists c.lists-lists.result.now) c.new-progress.result
    (are_lists c.args.log.now c.setup-setup.result (data_lists c.lists-lists.result.now) c.lists-lists.ensures.valid c.setup-setup.ensures.nue c.setup-setup.ensures.comms c.lists-lists.ensures.gives) c.new-progress.ensures.awake

pub verdict_of-requires-clause-few : goal.verdict_of-requires-clause-few
verdict_of-requires-clause-few c =
    (are_lists c.args.log.now c.setup-setup.result (data_lists c.lists-lists.result.now) c.lists-lists.ensures.valid c.setup-setup.ensures.nue c.setup-setup.ensures.comms c.lists-lists.ensures.gives).few

pub returns-clause-legal : goal.returns-clause-legal
returns-clause-legal c =
    let (e, ends, tells) = judged c.args.log.now c.setup-setup.result (data_lists c.lists-lists.result.now) c.new-progress.result c.use_up.new.progress c.verdict_of.result c.setup-setup.ensures.nue c.setup-setup.ensures.comms c.lists-lists.ensures.gives c.new-progress.ensures.next c.new-progress.ensures.posted c.lists-lists.ensures.ranks c.use_up.ensures.leads c.use_up.ensures.quiet c.use_up.ensures.sleeps c.verdict_of.ensures in
    legal_told c.args.log.now c.verdict_of.result e ends tells

pub returns-clause-verdict : goal.returns-clause-verdict
returns-clause-verdict c =
    judged c.args.log.now c.setup-setup.result (data_lists c.lists-lists.result.now) c.new-progress.result c.use_up.new.progress c.verdict_of.result c.setup-setup.ensures.nue c.setup-setup.ensures.comms c.lists-lists.ensures.gives c.new-progress.ensures.next c.new-progress.ensures.posted c.lists-lists.ensures.ranks c.use_up.ensures.leads c.use_up.ensures.quiet c.use_up.ensures.sleeps c.verdict_of.ensures
