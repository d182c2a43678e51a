use Rattle.mesh_load.proofs.SumLaws.{each, whole}
use Rattle.mesh_load.proofs.adding.load.Goals as goal

pub returns-clause-each : goal.returns-clause-each
returns-clause-each c =
    each c.args.at.now c.args.matches.now c.add_pairs-pairs.result c.add_rows-rows.result c.add_columns-columns.result c.add_pairs-pairs.ensures.placed c.add_pairs-pairs.ensures.sums c.add_rows-rows.ensures c.add_columns-columns.ensures

pub returns-clause-whole : goal.returns-clause-whole
returns-clause-whole c =
    whole c.args.at.now c.args.matches.now (record { rows = c.add_rows-rows.result; columns = c.add_columns-columns.result }) c.add_pairs-pairs.ensures.placed (returns-clause-each c)
