use Rattle.scc_proto.proofs.PortLaws.{did_both}
use Rattle.scc_proto.proofs.examples.store_then_load.Goals as goal

pub returns-clause-did : goal.returns-clause-did
returns-clause-did g c = did_both _ _ _ _ _ c.store.ensures.did c.load.ensures.did
