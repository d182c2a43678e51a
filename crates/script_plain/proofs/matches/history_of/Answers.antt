use Rattle.scc_base.specs.Setups.{setup_key}
use Rattle.script_plain.specs.Code.{config}
use Rattle.script_machine.specs.Local.{local_next}
use Rattle.plain_meaning.proofs.Runs.RunLaws.{none_going}
use Rattle.script_plain.proofs.matches.history_of.Goals as goal

pub end_all-requires-clause-still : goal.end_all-requires-clause-still
end_all-requires-clause-still c =
    λ i u here. none_going (setup_key c.args.setup.now) local_next (config c.match_on.new.ues c.match_on.new.slots) i u c.in_ok-matches.ensures.still here
