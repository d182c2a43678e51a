use Rattle.scc_rows.proofs.QuietLemmas.{nothing_held}
use Rattle.scc_rows.proofs.locks.a_taken_register_is_taken_after_its_release.Goals as goal

pub could_take-requires : goal.could_take-requires
could_take-requires g c = nothing_held _ c.listed_port-port.ensures c.of-core.result
