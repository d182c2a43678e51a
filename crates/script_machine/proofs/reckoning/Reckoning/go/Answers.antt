use Rattle.script_machine.proofs.ProgramLengths.RoomLaws.{wider_same}
use Rattle.script_machine.proofs.reckoning.Reckoning.go.Goals as goal

pub returns-clause-wider : goal.returns-clause-wider
returns-clause-wider c = wider_same c.args.self.now.most

pub returns-2-clause-wider : goal.returns-2-clause-wider
returns-2-clause-wider c = wider_same c.args.self.now.most

pub returns-3-clause-wider : goal.returns-3-clause-wider
returns-3-clause-wider c = wider_same c.args.self.now.most

pub returns-4-clause-wider : goal.returns-4-clause-wider
returns-4-clause-wider c = wider_same c.args.self.now.most
