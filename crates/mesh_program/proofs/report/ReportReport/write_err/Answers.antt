use Rattle.mesh_program.proofs.report.ReportReport.write_err.Goals as goal

pub returns : goal.returns
returns g c = rw c.if-self.false c.write_all.ensures
