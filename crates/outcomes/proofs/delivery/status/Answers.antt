use Rattle.std.proofs.Common.{◌∙◌, ap, sym, Bool, if◌then◌else◌, Result}
use Rattle.outcomes.specs.Complaints.{outcome_of}
use Rattle.outcomes.specs.declared.complaint.Complaint.{Complaint}
use Rattle.outcomes.specs.declared.status.Status.TheVariants as status
use Rattle.outcomes.proofs.delivery.status.Goals as goal

pub returns-else-is_finished : goal.returns-else-is_finished
returns-else-is_finished g c = λ program.
    ap (λ (b : Bool). if b then status.Finished else status.Stuck) c.if-is_finished.ensures
    ∙ ap (λ (ending : Result g.row.R.Denot Complaint). (outcome_of program g.R.Report.ran ending).status) (sym c.in-Ok.is)
