use Rattle.audit_program.proofs.logging.setup_by.Goals as goal

pub setup-requires : goal.setup-requires
setup-requires c = record { apart = c.default_hosts.ensures.apart c.args.scripts.now.nue c.acceptance_law.ensures.whole.most }
