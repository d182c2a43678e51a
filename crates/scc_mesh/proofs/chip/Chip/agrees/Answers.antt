use Rattle.scc_proto.proofs.Barriers.BarrierLaw.{barriers_entered}
use Rattle.scc_proto.proofs.Messages.MessageLaw.{pair_messages}
use Rattle.scc_mesh.specs.Scenes.{about_in, records_in}
use Rattle.scc_mesh.proofs.HomeLaws.{agrees_at_home, none_beyond}
use Rattle.scc_mesh.proofs.chip.Chip.agrees.Goals as goal

pub returns-clause-words : goal.returns-clause-words
returns-clause-words c = let home = agrees_at_home c.args.self.now c.requires.whole c.tells.ensures.knows in (home.memory, home.together.agree)

pub returns-clause-beyond : goal.returns-clause-beyond
returns-clause-beyond c = none_beyond c.args.self.now c.tells.ensures.knows

pub returns-clause-messages : goal.returns-clause-messages
returns-clause-messages c = λ from to below.
    let home = agrees_at_home c.args.self.now c.requires.whole c.tells.ensures.knows in
    let agree = home.together.agree in
    pair_messages (about_in c.args.self.now) from to (records_in c.args.self.now) agree.calls (agree.singles.0 from below)

pub returns-clause-calls : goal.returns-clause-calls
returns-clause-calls c = (agrees_at_home c.args.self.now c.requires.whole c.tells.ensures.knows).together.agree.calls

pub returns-clause-barriers : goal.returns-clause-barriers
returns-clause-barriers c = λ comm r k below other same.
    let home = agrees_at_home c.args.self.now c.requires.whole c.tells.ensures.knows in
    let agree = home.together.agree in
    barriers_entered (about_in c.args.self.now) comm r k (records_in c.args.self.now) agree.calls (agree.singles.0 r below) (agree.singles.0 k other) below other same

pub returns-clause-heap : goal.returns-clause-heap
returns-clause-heap c = (agrees_at_home c.args.self.now c.requires.whole c.tells.ensures.knows).together.heap
