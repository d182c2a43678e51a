use Rattle.lab_plain.proofs.lines.StoppedTextSource.write_to.Goals as goal

pub returns-in-Value : goal.returns-in-Value
returns-in-Value g c = rw c.in-Value.is c.write_value_stop.ensures

pub returns-in-HoldsNot : goal.returns-in-HoldsNot
returns-in-HoldsNot g c = rw c.in-HoldsNot.is c.write_register_stop-in-HoldsNot.ensures
