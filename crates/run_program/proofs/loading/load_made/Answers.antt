use Rattle.std.proofs.Common.{refl}
use Rattle.outcomes.specs.declared.complaint.Complaint.TheVariants as complaint
use Rattle.run_program.proofs.LoadLemmas.{loads_unmade}
use Rattle.run_program.proofs.loading.load_made.Goals as goal

pub returns-in-Err : goal.returns-in-Err
returns-in-Err c = λ files. loads_unmade c.args.job c.args.seed files complaint.Memory refl
