use Rattle.script_reader.proofs.WalkLemmas.{parse_closed, parse_named}
use Rattle.script_reader.proofs.laws.script_law.Goals as goal

pub returns-clause-few : goal.returns-clause-few
returns-clause-few c = parse_named

pub returns-clause-closed : goal.returns-clause-closed
returns-clause-closed c = parse_closed
